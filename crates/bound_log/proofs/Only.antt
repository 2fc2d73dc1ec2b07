-- Only the text of a log that fits is read.
use Rattle.std.specs.Prelude.{ℕ, ◌≡◌, ◌+◌, ◌<◌, ◌≤◌, ◌==◌, ◌&&◌, Bool, true, false, List, [], ◌∷◌, ◌++◌, Option, Some, None, Result, Ok, Err, All, length, codes, decimal}
use Rattle.std.proofs.Common.{refl, sym, ap, subst, arith, ◌∙◌, inl, inr}
use Rattle.std.specs.List.{flat_map, join_with_byte}
use Rattle.std.proofs.lemmas.Bool.{and_parts, eqb-true}
use Rattle.std.proofs.lemmas.List.{append_assoc, length-append}
use Rattle.std.proofs.lemmas.List.Elements.{All-cons, All-nil}
use Rattle.std.proofs.lemmas.List.Splits.{join_with_byte-slice_split}
use Rattle.std.proofs.lemmas.Option.{none-some, same_Some}
use Rattle.cell_num.specs.Steps.{◌>>=◌, require, or_fault}
use Rattle.row_state.specs.declared.kind.Kinds.{Kinds}
use Rattle.row_state.specs.declared.step.Side.{Side}
use Rattle.row_state.specs.Start.{AreSomeKinds}
use Rattle.row_state.specs.Versions.{IsVersion}
use Rattle.log_lines.specs.Words.{is_word, words_in}
use Rattle.log_lines.specs.Lines.{behind, lines_in}
use Rattle.log_lines.proofs.Numbers.{chosen, found_below, same_words}
use Rattle.log_lines.proofs.Splits.{bytes_again, fed, lines_text}
use Rattle.bound_log.specs.declared.fault.LogFault.TheVariants as fault
use Rattle.bound_log.specs.declared.log.Lemma.{Lemma}
use Rattle.bound_log.specs.declared.log.LogStep.{LogStep}
use Rattle.bound_log.specs.declared.log.Log.{Log}
use Rattle.bound_log.specs.declared.log.Entry.{Entry}
use Rattle.bound_log.specs.declared.log.Ending.{Ending}
use Rattle.bound_log.specs.declared.log.Ending.TheVariants as ending
use Rattle.bound_log.specs.declared.log.Entry.TheVariants as entry
use Rattle.bound_log.specs.Fits.{Fits, LemmaFits, StepFits}
use Rattle.bound_log.specs.Line.{entry_in, gaps_in, lemma_in, column_in, ending_in, version_in}
use Rattle.bound_log.specs.Reading.{begun_by, columns_at, end_at, log_at, log_of, named_at, text_at}
use Rattle.bound_log.specs.Text.{best_text, column_line, lemma_line, log_text, version_line}
use Rattle.bound_log.proofs.Spelled.{column_joined, step_spelled, column_words, cons_same, is_provided, lemma_joined, lemma_spelled, lemma_words, mapped, side_words}
use Rattle.bound_log.proofs.Versions.{version_spelled}

pub err-ok : {A E : Type 0} (e : E) (a : A) → ◌≡◌ {A = Result A E} (Err e) (Ok a) → ⊥
err-ok e a h = absurd cc

pub same_Ok : {A E : Type 0} (a b : A) → ◌≡◌ {A = Result A E} (Ok a) (Ok b) → a ≡ b
same_Ok a b h = cc

bound_ok : {A B E : Type 0} (r : Result A E) (f : A → Result B E) (b : B) → (r >>= f) ≡ Ok b → (a : A) × (r ≡ Ok a) × (f a ≡ Ok b)
bound_ok (Ok a) f b h = (a, refl, h)
bound_ok (Err e) f b h = absurd (err-ok e b h)

required : {B E : Type 0} (t : Bool) (e : E) (f : Unit {0} → Result B E) (b : B) → (require t e >>= f) ≡ Ok b → (t ≡ true) × (f tt ≡ Ok b)
required true e f b h = (refl, h)
required false e f b h = absurd (err-ok e b h)

require_ok : {E : Type 0} (t : Bool) (e : E) (u : Unit {0}) → require t e ≡ Ok u → t ≡ true
require_ok true e u h = refl
require_ok false e u h = absurd (err-ok e u h)

there : {A E : Type 0} (o : Option A) (e : E) (a : A) → or_fault o e ≡ Ok a → o ≡ Some a
there (Some b) e a h = ap Some (same_Ok b a h)
there None e a h = absurd (err-ok e a h)

-- ---- lines

gaps_spelled : (words : List (List ℕ)) (gaps : ℕ) → gaps_in words ≡ Some gaps → (words ≡ decimal gaps ∷ []) × (gaps < 64)
gaps_spelled [] gaps h = absurd (none-some gaps h)
gaps_spelled (a ∷ b ∷ bs) gaps h = absurd (none-some gaps h)
gaps_spelled (a ∷ []) gaps h = let found : (a ≡ decimal gaps) × (gaps < 64) = found_below 64 a gaps h in (cons_same _ _ _ _ found.0 refl, found.1)

abbrev pub EndingSpelled : List (List ℕ) → Ending → Type 0
EndingSpelled words (ending.Gaps gaps) = (words ≡ codes "gaps" ∷ decimal gaps ∷ []) × (gaps < 64)
EndingSpelled words ending.Open = words ≡ codes "open" ∷ []

no_more : {X : Type 0} (xs : List X) → (length xs == 0) ≡ true → xs ≡ []
no_more [] h = refl
no_more (x ∷ xs) h = absurd (omega (arith, eqb-true (length (x ∷ xs)) 0 h))

pub ending_spelled : (words : List (List ℕ)) (e : Ending) → ending_in words ≡ Some e → EndingSpelled words e
ending_spelled [] e h = absurd (none-some e h)
ending_spelled (word ∷ words) e h =
    elim (chosen (is_word word (codes "gaps")) _ _ _ h) [
      | inl y ↦
          let g = mapped ending.Gaps (gaps_in words) e y.1 in
          let spelled : (words ≡ decimal g.0 ∷ []) × (g.0 < 64) = gaps_spelled words g.0 g.1 in
          subst (EndingSpelled (word ∷ words)) g.2 (cons_same _ _ _ _ (same_words word (codes "gaps") y.0) spelled.0, spelled.1)
      | inr last ↦ elim (chosen (is_word word (codes "open")) _ _ _ last.1) [
        | inl y ↦
            let alone : ((length words == 0) ≡ true) × (Some ending.Open ≡ Some e) = is_provided (length words == 0) (λ _. Some ending.Open) e y.1 in
            subst (EndingSpelled (word ∷ words)) (same_Some ending.Open e alone.1) (cons_same _ _ _ _ (same_words word (codes "open") y.0) (no_more words alone.0))
        | inr none ↦ absurd (none-some e none.1)
      ]
    ]

unfoldable pub EntrySpelled : Kinds → List (List ℕ) → Entry → Type 0
EntrySpelled k words (entry.Lemma lemma) = (words ≡ codes "lemma" ∷ lemma_words lemma) × LemmaFits k lemma
EntrySpelled k words (entry.Ending e) = EndingSpelled words e

pub entry_spelled : (k : Kinds) (words : List (List ℕ)) (e : Entry) → AreSomeKinds k → entry_in k words ≡ Some e → EntrySpelled k words e
unfolding EntrySpelled
entry_spelled k [] e some h = absurd (none-some e h)
entry_spelled k (word ∷ words) e some h =
    elim (chosen (is_word word (codes "lemma")) _ _ _ h) [
      | inl y ↦
          let l = mapped entry.Lemma (lemma_in k words) e y.1 in
          let spelled : (words ≡ lemma_words l.0) × LemmaFits k l.0 = lemma_spelled k words l.0 some l.1 in
          subst (EntrySpelled k (word ∷ words)) l.2 (cons_same _ _ _ _ (same_words word (codes "lemma") y.0) spelled.0, spelled.1)
      | inr other ↦
          let ended = mapped entry.Ending (ending_in (word ∷ words)) e other.1 in
          subst (EntrySpelled k (word ∷ words)) ended.2 (ending_spelled (word ∷ words) ended.0 ended.1)
    ]

pub column_spelled : (k : Kinds) (words : List (List ℕ)) (listed : LogStep) → column_in k words ≡ Some listed → (words ≡ codes "column" ∷ column_words listed) × StepFits k listed
column_spelled k [] listed h = absurd (none-some listed h)
column_spelled k (word ∷ words) listed h =
    elim (chosen (is_word word (codes "column")) _ _ _ h) [
      | inl y ↦
          let spelled : (words ≡ column_words listed) × StepFits k listed = step_spelled k words listed y.1 in
          (cons_same _ _ _ _ (same_words word (codes "column") y.0) spelled.0, spelled.1)
      | inr none ↦ absurd (none-some listed none.1)
    ]

spelled_few : (k : Kinds) (words : List (List ℕ)) (e : Entry) → EntrySpelled k words e → length words ≤ 7
unfolding EntrySpelled lemma_words
spelled_few k words (entry.Lemma lemma) h = omega (arith, ap length h.0)
spelled_few k words (entry.Ending (ending.Gaps gaps)) h = omega (arith, ap length h.0)
spelled_few k words (entry.Ending ending.Open) h = omega (arith, ap length h)

-- more words than any line has
pub long_entry : (k : Kinds) (words : List (List ℕ)) → AreSomeKinds k → 7 < length words → entry_in k words ≡ None
long_entry k words some many = by_entry (entry_in k words) refl
  where
    by_entry : (o : Option Entry) → entry_in k words ≡ o → entry_in k words ≡ None
    by_entry None is = is
    by_entry (Some e) is = let few : length words ≤ 7 = spelled_few k words e (entry_spelled k words e some is) in absurd (omega (arith, few, many))

two_words : (side : Option Side) → length (side_words side) ≡ 2
unfolding side_words
two_words None = refl
two_words (Some side) = refl

column_few : (words : List (List ℕ)) (listed : LogStep) → words ≡ codes "column" ∷ column_words listed → length words ≤ 6
unfolding column_words
column_few words listed e = omega (arith, ap length e, length-append (side_words listed.step.p) (side_words listed.step.n), two_words listed.step.p, two_words listed.step.n)

pub long_column : (k : Kinds) (words : List (List ℕ)) → 6 < length words → column_in k words ≡ None
long_column k words many = by_column (column_in k words) refl
  where
    by_column : (o : Option LogStep) → column_in k words ≡ o → column_in k words ≡ None
    by_column None is = is
    by_column (Some listed) is = let few : length words ≤ 6 = column_few words listed (column_spelled k words listed is).0 in absurd (omega (arith, few, many))

pub line_of_words : (line : List ℕ) (words : List (List ℕ)) → words_in line ≡ words → fed line ≡ fed (join_with_byte 32 words)
line_of_words line words h = ap fed (sym (join_with_byte-slice_split 32 line) ∙ ap (join_with_byte 32) h)

pub text_cons : (line : List ℕ) (lines : List (List ℕ)) (rest : List ℕ) → lines_text (line ∷ lines) rest ≡ fed line ++ lines_text lines rest
unfolding lines_text
text_cons line lines rest = append_assoc (fed line) (flat_map fed lines) rest

-- ---- the lines of a log

end_only : (n : ℕ) (lines : List (List ℕ)) (rest : List ℕ) (u : Unit {0}) → end_at n lines rest ≡ Ok u → lines_text lines rest ≡ codes "end\n"
unfolding lines_text
end_only n [] rest u h = absurd (err-ok fault.Cut u h)
end_only n (line ∷ lines) rest u h =
    let one = required (is_word line (codes "end")) (fault.Line n) _ u h in
    let last : (length lines == 0 && length rest == 0) ≡ true = require_ok (length lines == 0 && length rest == 0) (fault.Line (n + 1)) u one.1 in
    let both : ((length lines == 0) ≡ true) × ((length rest == 0) ≡ true) = and_parts _ _ last in
    rw (same_words line (codes "end") one.0, no_more lines both.0, no_more rest both.1) refl

columns_only : (k : Kinds) (n : ℕ) (lines : List (List ℕ)) (rest : List ℕ) (steps : List LogStep) → columns_at k n lines rest ≡ Ok steps → (lines_text lines rest ≡ flat_map column_line steps ++ codes "end\n") × All (StepFits k) steps
unfolding columns_at
columns_only k n [] rest steps h = absurd (err-ok fault.Cut steps h)
columns_only k n (line ∷ lines) rest steps h =
    elim (chosen (is_word line (codes "end")) _ _ _ h) [
      | inl y ↦
          let done = bound_ok (end_at n (line ∷ lines) rest) (λ _. Ok []) steps y.1 in
          let none : [] ≡ steps = same_Ok [] steps done.2 in
          let text : lines_text (line ∷ lines) rest ≡ codes "end\n" = end_only n (line ∷ lines) rest done.0 done.1 in
          subst (λ (ss : List LogStep). (lines_text (line ∷ lines) rest ≡ flat_map column_line ss ++ codes "end\n") × All (StepFits k) ss) none (text, All-nil (StepFits k))
      | inr other ↦
          let first = bound_ok (or_fault (column_in k (words_in line)) (fault.Line n)) _ steps other.1 in
          let later = bound_ok (columns_at k (n + 1) lines rest) _ steps first.2 in
          one_more first.0 later.0 (same_Ok (first.0 ∷ later.0) steps later.2) (column_spelled k (words_in line) first.0 (there (column_in k (words_in line)) (fault.Line n) first.0 first.1)) (columns_only k (n + 1) lines rest later.0 later.1)
    ]
  where
    one_more : (step : LogStep) (more : List LogStep) → step ∷ more ≡ steps → (words_in line ≡ codes "column" ∷ column_words step) × StepFits k step → (lines_text lines rest ≡ flat_map column_line more ++ codes "end\n") × All (StepFits k) more → (lines_text (line ∷ lines) rest ≡ flat_map column_line steps ++ codes "end\n") × All (StepFits k) steps
    one_more step more same one others =
        let here : fed line ≡ column_line step = line_of_words line (codes "column" ∷ column_words step) one.0 ∙ column_joined step in
        let text : lines_text (line ∷ lines) rest ≡ flat_map column_line (step ∷ more) ++ codes "end\n" = text_cons line lines rest ∙ (ap (λ (bs : List ℕ). bs ++ lines_text lines rest) here ∙ (ap (λ (bs : List ℕ). column_line step ++ bs) others.0 ∙ sym (append_assoc (column_line step) (flat_map column_line more) (codes "end\n")))) in
        subst (λ (ss : List LogStep). (lines_text (line ∷ lines) rest ≡ flat_map column_line ss ++ codes "end\n") × All (StepFits k) ss) same (text, All-cons (StepFits k) step more one.1 others.1)

-- ---- the whole log

RestSpelled : ℕ → Kinds → List (List ℕ) → List ℕ → Log → Type 0
RestSpelled version k lines rest log = (lines_text lines rest ≡ flat_map lemma_line log.lemmas ++ (best_text log.best ++ codes "end\n")) × Fits k log × (log.version ≡ version)

lemma_before : (version : ℕ) (k : Kinds) (line : List ℕ) (lines : List (List ℕ)) (rest : List ℕ) (lemma : Lemma) (log : Log) → EntrySpelled k (words_in line) (entry.Lemma lemma) → RestSpelled version k lines rest log → RestSpelled version k (line ∷ lines) rest (record { version = log.version; lemmas = lemma ∷ log.lemmas; best = log.best })
unfolding EntrySpelled RestSpelled
lemma_before version k line lines rest lemma log one later =
    let here : fed line ≡ lemma_line lemma = line_of_words line (codes "lemma" ∷ lemma_words lemma) one.0 ∙ lemma_joined lemma in (
      text_cons line lines rest ∙ (ap (λ (bs : List ℕ). bs ++ lines_text lines rest) here ∙ (ap (λ (bs : List ℕ). lemma_line lemma ++ bs) later.0 ∙ sym (append_assoc (lemma_line lemma) (flat_map lemma_line log.lemmas) (best_text log.best ++ codes "end\n")))),
      record { version = later.1.version; lemmas = All-cons (LemmaFits k) lemma log.lemmas one.1 later.1.lemmas; best = later.1.best },
      later.2,
    )

gaps_before : (version : ℕ) (k : Kinds) (line : List ℕ) (lines : List (List ℕ)) (rest : List ℕ) (gaps : ℕ) (steps : List LogStep) → IsVersion version → EntrySpelled k (words_in line) (entry.Ending (ending.Gaps gaps)) → (lines_text lines rest ≡ flat_map column_line steps ++ codes "end\n") × All (StepFits k) steps → RestSpelled version k (line ∷ lines) rest (record { version = version; lemmas = []; best = Some (record { gaps = gaps; steps = steps }) })
unfolding EntrySpelled RestSpelled
gaps_before version k line lines rest gaps steps known one later =
    let here : fed line ≡ codes "gaps " ++ (decimal gaps ++ codes "\n") = line_of_words line (codes "gaps" ∷ decimal gaps ∷ []) one.0 in (
      text_cons line lines rest ∙ (ap (λ (bs : List ℕ). bs ++ lines_text lines rest) here ∙ (ap (λ (bs : List ℕ). (codes "gaps " ++ (decimal gaps ++ codes "\n")) ++ bs) later.0 ∙ gaps_apart (decimal gaps) (flat_map column_line steps))),
      record { version = known; lemmas = All-nil (LemmaFits k); best = record { few = omega (arith, one.1); steps = later.1 } },
      refl,
    )
  where
    gaps_apart : (g cs : List ℕ) → (codes "gaps " ++ (g ++ codes "\n")) ++ (cs ++ codes "end\n") ≡ (codes "gaps " ++ g ++ codes "\n" ++ cs) ++ codes "end\n"
    gaps_apart g cs = simp append_assoc

open_before : (version : ℕ) (k : Kinds) (line : List ℕ) (lines : List (List ℕ)) (rest : List ℕ) → IsVersion version → EntrySpelled k (words_in line) (entry.Ending ending.Open) → lines_text lines rest ≡ codes "end\n" → RestSpelled version k (line ∷ lines) rest (record { version = version; lemmas = []; best = None })
unfolding EntrySpelled RestSpelled
open_before version k line lines rest known one later = (
  text_cons line lines rest ∙ (ap (λ (bs : List ℕ). bs ++ lines_text lines rest) (line_of_words line (codes "open" ∷ []) one) ∙ ap (λ (bs : List ℕ). codes "open\n" ++ bs) later),
  record { version = known; lemmas = All-nil (LemmaFits k); best = tt },
  refl,
)

log_only : (version : ℕ) (k : Kinds) (n : ℕ) (lines : List (List ℕ)) (rest : List ℕ) (log : Log) → IsVersion version → AreSomeKinds k → log_at version k n lines rest ≡ Ok log → RestSpelled version k lines rest log
unfolding log_at
log_only version k n [] rest log known some h = absurd (err-ok fault.Cut log h)
log_only version k n (line ∷ lines) rest log known some h =
    let first = bound_ok (or_fault (entry_in k (words_in line)) (fault.Line n)) _ log h in
    by_entry first.0 first.2 (entry_spelled k (words_in line) first.0 some (there (entry_in k (words_in line)) (fault.Line n) first.0 first.1)) (λ later read. log_only version k (n + 1) lines rest later known some read)
  where
    by_entry : (e : Entry) → begun_by version e (log_at version k (n + 1) lines rest) (columns_at k (n + 1) lines rest) (end_at (n + 1) lines rest) ≡ Ok log → EntrySpelled k (words_in line) e → ((later : Log) → log_at version k (n + 1) lines rest ≡ Ok later → RestSpelled version k lines rest later) → RestSpelled version k (line ∷ lines) rest log
    by_entry (entry.Lemma lemma) read spelled more =
        let later = bound_ok (log_at version k (n + 1) lines rest) _ log read in
        subst (RestSpelled version k (line ∷ lines) rest) (same_Ok _ log later.2) (lemma_before version k line lines rest lemma later.0 spelled (more later.0 later.1))
    by_entry (entry.Ending (ending.Gaps gaps)) read spelled more =
        let steps = bound_ok (columns_at k (n + 1) lines rest) _ log read in
        subst (RestSpelled version k (line ∷ lines) rest) (same_Ok _ log steps.2) (gaps_before version k line lines rest gaps steps.0 known spelled (columns_only k (n + 1) lines rest steps.0 steps.1))
    by_entry (entry.Ending ending.Open) read spelled more =
        let end = bound_ok (end_at (n + 1) lines rest) _ log read in
        subst (RestSpelled version k (line ∷ lines) rest) (same_Ok _ log end.2) (open_before version k line lines rest known spelled (end_only (n + 1) lines rest end.0 end.1))

named_only : (name : List ℕ) (k : Kinds) (version : ℕ) (lines : List (List ℕ)) (rest : List ℕ) (log : Log) → IsVersion version → AreSomeKinds k → named_at name k version lines rest ≡ Ok log → (lines_text lines rest ≡ fed (codes "cell " ++ name) ++ (flat_map lemma_line log.lemmas ++ (best_text log.best ++ codes "end\n"))) × Fits k log × (log.version ≡ version)
unfolding RestSpelled
named_only name k version [] rest log known some h = absurd (err-ok fault.Cut log h)
named_only name k version (line ∷ lines) rest log known some h =
    let one = required (is_word line (codes "cell " ++ name)) fault.Cell _ log h in
    let later : RestSpelled version k lines rest log = log_only version k 3 lines rest log known some one.1 in
    (text_cons line lines rest ∙ (ap (λ (bs : List ℕ). bs ++ lines_text lines rest) (ap fed (same_words line (codes "cell " ++ name) one.0)) ∙ ap (λ (bs : List ℕ). fed (codes "cell " ++ name) ++ bs) later.0), later.1, later.2)

text_only : (name : List ℕ) (k : Kinds) (lines : List (List ℕ)) (rest : List ℕ) (log : Log) → AreSomeKinds k → text_at name k lines rest ≡ Ok log → (lines_text lines rest ≡ log_text name log) × Fits k log
text_only name k [] rest log some h = absurd (err-ok fault.Cut log h)
text_only name k (line ∷ lines) rest log some h =
    let first = bound_ok (or_fault (version_in line) fault.Version) _ log h in
    let spelled : (line ≡ version_line first.0) × IsVersion first.0 = version_spelled line first.0 (there (version_in line) fault.Version first.0 first.1) in
    let later = named_only name k first.0 lines rest log spelled.1 some first.2 in
    let here : line ≡ version_line log.version = spelled.0 ∙ ap version_line (sym later.2) in
    (text_cons line lines rest ∙ (ap (λ (bs : List ℕ). bs ++ lines_text lines rest) (ap fed here) ∙ (ap (λ (bs : List ℕ). fed (version_line log.version) ++ bs) later.0 ∙ text_apart (version_line log.version) name (flat_map lemma_line log.lemmas) (best_text log.best))), later.1)
  where
    text_apart : (first name ls best : List ℕ) → fed first ++ (fed (codes "cell " ++ name) ++ (ls ++ (best ++ codes "end\n"))) ≡ first ++ codes "\n" ++ codes "cell " ++ name ++ codes "\n" ++ ls ++ best ++ codes "end\n"
    text_apart first name ls best = simp append_assoc

-- what is read fits, and its text is what was read
pub read_only : (bytes name : List ℕ) (k : Kinds) (log : Log) → AreSomeKinds k → log_of bytes name k ≡ Ok log → Fits k log × (bytes ≡ log_text name log)
unfolding log_of
read_only bytes name k log some h =
    let read = text_only name k (lines_in bytes) (behind bytes) log some h in
    (read.1, bytes_again bytes ∙ read.0)
