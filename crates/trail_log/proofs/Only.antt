-- Only the text of a certificate that fits is read.
use Rattle.std.specs.Prelude.{ℕ, ◌≡◌, ◌+◌, ◌==◌, ◌&&◌, Bool, true, false, List, [], ◌∷◌, ◌++◌, Option, Some, None, Result, Ok, Err, All, IfSome, IsTrue, length, codes, decimal}
use Rattle.std.proofs.Common.{refl, sym, ap, subst, arith, ◌∙◌, inl, inr}
use Rattle.std.specs.List.{flat_map}
use Rattle.std.proofs.lemmas.Bool.{and_parts, eqb-true}
use Rattle.std.proofs.lemmas.List.{append_assoc}
use Rattle.std.proofs.lemmas.List.Elements.{All-cons, All-nil}
use Rattle.cell_num.specs.Steps.{◌>>=◌, require, or_fault}
use Rattle.cell_num.specs.declared.net.NetNo.{NetNo}
use Rattle.row_state.specs.declared.kind.Kinds.{Kinds}
use Rattle.log_lines.specs.Words.{is_word, words_in}
use Rattle.log_lines.specs.Lines.{behind, lines_in}
use Rattle.log_lines.proofs.Numbers.{chosen, same_words}
use Rattle.log_lines.proofs.Splits.{bytes_again, fed, lines_text}
use Rattle.bound_log.specs.declared.fault.LogFault.TheVariants as fault
use Rattle.bound_log.specs.declared.log.LogStep.{LogStep}
use Rattle.bound_log.specs.Fits.{BestFits, IsLogName, StepFits}
use Rattle.row_state.specs.Start.{AreSomeKinds}
use Rattle.bound_log.specs.Line.{column_in}
use Rattle.bound_log.specs.Reading.{columns_at, end_at}
use Rattle.bound_log.specs.Text.{best_text, column_line}
use Rattle.bound_log.proofs.Only.{column_spelled, err-ok, line_of_words, same_Ok, text_cons}
use Rattle.bound_log.proofs.Spelled.{column_joined, column_words}
use Rattle.bound_log.specs.declared.log.Ending.TheVariants as ending
use Rattle.trail_log.specs.Order.{increases, net_rank}
use Rattle.trail_log.specs.Spelling.{nets_text}
use Rattle.trail_log.specs.declared.trails.LemmaLine.{LemmaLine}
use Rattle.trail_log.specs.declared.trails.TrailEntry.{TrailEntry}
use Rattle.trail_log.specs.declared.trails.TrailEntry.TheVariants as entry
use Rattle.trail_log.specs.declared.trails.TrailCertificate.{TrailCertificate}
use Rattle.trail_log.specs.Fits.{LemmaFits, NetFits, TrailsFit}
use Rattle.trail_log.specs.Line.{entry_in, fill_in, order_in}
use Rattle.trail_log.specs.Reading.{begun_by, fill_at, lemmas_at, named_at, order_at, text_at, trails_of}
use Rattle.trail_log.specs.Text.{fill_line, lemma_line, order_line, trails_text, version_line}
use Rattle.trail_log.proofs.Whole.{read_again, text_apart}
use Rattle.trail_log.proofs.Words.{EntrySpelled, entry_only, fill_joined, fill_only, lemma_joined, lemma_words, order_joined, order_only}

bound_ok : {A B E : Type 0} (r : Result A E) (f : A → Result B E) (b : B) → (r >>= f) ≡ Ok b → (a : A) × (r ≡ Ok a) × (f a ≡ Ok b)
bound_ok (Ok a) f b h = (a, refl, h)
bound_ok (Err e) f b h = absurd (err-ok e b h)

required : {B E : Type 0} (t : Bool) (e : E) (f : Unit {0} → Result B E) (b : B) → (require t e >>= f) ≡ Ok b → (t ≡ true) × (f tt ≡ Ok b)
required true e f b h = (refl, h)
required false e f b h = absurd (err-ok e b h)

require_ok : {E : Type 0} (t : Bool) (e : E) (u : Unit {0}) → require t e ≡ Ok u → t ≡ true
require_ok true e u h = refl
require_ok false e u h = absurd (err-ok e u h)

there : {A E : Type 0} (o : Option A) (e : E) (a : A) → or_fault o e ≡ Ok a → o ≡ Some a
there (Some b) e a h = ap Some (same_Ok b a h)
there None e a h = absurd (err-ok e a h)

no_more : {X : Type 0} (xs : List X) → (length xs == 0) ≡ true → xs ≡ []
no_more [] h = refl
no_more (x ∷ xs) h = absurd (omega (arith, eqb-true (length (x ∷ xs)) 0 h))

-- ---- the lines of a row

end_only : (n : ℕ) (lines : List (List ℕ)) (rest : List ℕ) (u : Unit {0}) → end_at n lines rest ≡ Ok u → lines_text lines rest ≡ codes "end\n"
unfolding lines_text
end_only n [] rest u h = absurd (err-ok fault.Cut u h)
end_only n (line ∷ lines) rest u h =
    let one = required (is_word line (codes "end")) (fault.Line n) _ u h in
    let last : (length lines == 0 && length rest == 0) ≡ true = require_ok (length lines == 0 && length rest == 0) (fault.Line (n + 1)) u one.1 in
    let both : ((length lines == 0) ≡ true) × ((length rest == 0) ≡ true) = and_parts _ _ last in
    rw (same_words line (codes "end") one.0, no_more lines both.0, no_more rest both.1) refl

columns_only : (k : Kinds) (n : ℕ) (lines : List (List ℕ)) (rest : List ℕ) (steps : List LogStep) → columns_at k n lines rest ≡ Ok steps → (lines_text lines rest ≡ flat_map column_line steps ++ codes "end\n") × All (StepFits k) steps
unfolding columns_at
columns_only k n [] rest steps h = absurd (err-ok fault.Cut steps h)
columns_only k n (line ∷ lines) rest steps h =
    elim (chosen (is_word line (codes "end")) _ _ _ h) [
      | inl y ↦
          let done = bound_ok (end_at n (line ∷ lines) rest) (λ _. Ok []) steps y.1 in
          let none : [] ≡ steps = same_Ok [] steps done.2 in
          let text : lines_text (line ∷ lines) rest ≡ codes "end\n" = end_only n (line ∷ lines) rest done.0 done.1 in
          subst (λ (ss : List LogStep). (lines_text (line ∷ lines) rest ≡ flat_map column_line ss ++ codes "end\n") × All (StepFits k) ss) none (text, All-nil (StepFits k))
      | inr other ↦
          let first = bound_ok (or_fault (column_in k (words_in line)) (fault.Line n)) _ steps other.1 in
          let later = bound_ok (columns_at k (n + 1) lines rest) _ steps first.2 in
          one_more first.0 later.0 (same_Ok (first.0 ∷ later.0) steps later.2) (column_spelled k (words_in line) first.0 (there (column_in k (words_in line)) (fault.Line n) first.0 first.1)) (columns_only k (n + 1) lines rest later.0 later.1)
    ]
  where
    one_more : (step : LogStep) (more : List LogStep) → step ∷ more ≡ steps → (words_in line ≡ codes "column" ∷ column_words step) × StepFits k step → (lines_text lines rest ≡ flat_map column_line more ++ codes "end\n") × All (StepFits k) more → (lines_text (line ∷ lines) rest ≡ flat_map column_line steps ++ codes "end\n") × All (StepFits k) steps
    one_more step more same one others =
        let here : fed line ≡ column_line step = line_of_words line (codes "column" ∷ column_words step) one.0 ∙ column_joined step in
        let text : lines_text (line ∷ lines) rest ≡ flat_map column_line (step ∷ more) ++ codes "end\n" = text_cons line lines rest ∙ (ap (λ (bs : List ℕ). bs ++ lines_text lines rest) here ∙ (ap (λ (bs : List ℕ). column_line step ++ bs) others.0 ∙ sym (append_assoc (column_line step) (flat_map column_line more) (codes "end\n")))) in
        subst (λ (ss : List LogStep). (lines_text (line ∷ lines) rest ≡ flat_map column_line ss ++ codes "end\n") × All (StepFits k) ss) same (text, All-cons (StepFits k) step more one.1 others.1)

-- ---- the whole certificate

-- the lines from the lemmas on, for these gates
record RestSpelled (fill order : List NetNo) (k : Kinds) (lines : List (List ℕ)) (rest : List ℕ) (trails : TrailCertificate) : Type 0 where
  text : lines_text lines rest ≡ flat_map lemma_line trails.lemmas ++ (best_text trails.best ++ codes "end\n")
  lemmas : All (LemmaFits k.nets) trails.lemmas
  best : IfSome trails.best (BestFits k)
  fill_is : trails.fill ≡ fill
  order_is : trails.order ≡ order

-- a line in front
before : (line : List ℕ) (lines : List (List ℕ)) (rest written later : List ℕ) → fed line ≡ written → lines_text lines rest ≡ later → lines_text (line ∷ lines) rest ≡ written ++ later
before line lines rest written later here behind =
    text_cons line lines rest ∙ (ap (λ (bs : List ℕ). bs ++ lines_text lines rest) here ∙ ap (λ (bs : List ℕ). written ++ bs) behind)

lemma_before : (fill order : List NetNo) (k : Kinds) (line : List ℕ) (lines : List (List ℕ)) (rest : List ℕ) (lemma : LemmaLine) (trails : TrailCertificate) → EntrySpelled k.nets (words_in line) (entry.Lemma lemma) → RestSpelled fill order k lines rest trails → RestSpelled fill order k (line ∷ lines) rest (record { fill = trails.fill; order = trails.order; lemmas = lemma ∷ trails.lemmas; best = trails.best })
lemma_before fill order k line lines rest lemma trails one later =
    let here : fed line ≡ lemma_line lemma = line_of_words line (codes "lemma" ∷ lemma_words lemma) one.0 ∙ lemma_joined lemma in
    record {
      text = before line lines rest (lemma_line lemma) _ here later.text ∙ sym (append_assoc (lemma_line lemma) (flat_map lemma_line trails.lemmas) (best_text trails.best ++ codes "end\n"));
      lemmas = All-cons (LemmaFits k.nets) lemma trails.lemmas one.1 later.lemmas;
      best = later.best;
      fill_is = later.fill_is;
      order_is = later.order_is;
    }

gaps_before : (fill order : List NetNo) (k : Kinds) (line : List ℕ) (lines : List (List ℕ)) (rest : List ℕ) (gaps : ℕ) (steps : List LogStep) → EntrySpelled k.nets (words_in line) (entry.Ending (ending.Gaps gaps)) → (lines_text lines rest ≡ flat_map column_line steps ++ codes "end\n") × All (StepFits k) steps → RestSpelled fill order k (line ∷ lines) rest (record { fill = fill; order = order; lemmas = []; best = Some (record { gaps = gaps; steps = steps }) })
gaps_before fill order k line lines rest gaps steps one later =
    let here : fed line ≡ codes "gaps " ++ (decimal gaps ++ codes "\n") = line_of_words line (codes "gaps" ∷ decimal gaps ∷ []) one.0 in
    record {
      text = before line lines rest (codes "gaps " ++ (decimal gaps ++ codes "\n")) _ here later.0 ∙ gaps_apart (decimal gaps) (flat_map column_line steps);
      lemmas = All-nil (LemmaFits k.nets);
      best = record { few = omega (arith, one.1); steps = later.1 };
      fill_is = refl;
      order_is = refl;
    }
  where
    gaps_apart : (g cs : List ℕ) → (codes "gaps " ++ (g ++ codes "\n")) ++ (cs ++ codes "end\n") ≡ (codes "gaps " ++ g ++ codes "\n" ++ cs) ++ codes "end\n"
    gaps_apart g cs = simp append_assoc

open_before : (fill order : List NetNo) (k : Kinds) (line : List ℕ) (lines : List (List ℕ)) (rest : List ℕ) → EntrySpelled k.nets (words_in line) (entry.Ending ending.Open) → lines_text lines rest ≡ codes "end\n" → RestSpelled fill order k (line ∷ lines) rest (record { fill = fill; order = order; lemmas = []; best = None })
open_before fill order k line lines rest one later = record {
  text = before line lines rest (codes "open\n") (codes "end\n") (line_of_words line (codes "open" ∷ []) one) later;
  lemmas = All-nil (LemmaFits k.nets);
  best = tt;
  fill_is = refl;
  order_is = refl;
}

lemmas_only : (fill order : List NetNo) (k : Kinds) (n : ℕ) (lines : List (List ℕ)) (rest : List ℕ) (trails : TrailCertificate) → lemmas_at fill order k n lines rest ≡ Ok trails → RestSpelled fill order k lines rest trails
unfolding lemmas_at
lemmas_only fill order k n [] rest trails h = absurd (err-ok fault.Cut trails h)
lemmas_only fill order k n (line ∷ lines) rest trails h =
    let first = bound_ok (or_fault (entry_in k.nets (words_in line)) (fault.Line n)) _ trails h in
    by_entry first.0 first.2 (entry_only k.nets (words_in line) first.0 (there (entry_in k.nets (words_in line)) (fault.Line n) first.0 first.1)) (λ later read. lemmas_only fill order k (n + 1) lines rest later read)
  where
    by_entry : (e : TrailEntry) → begun_by fill order e (lemmas_at fill order k (n + 1) lines rest) (columns_at k (n + 1) lines rest) (end_at (n + 1) lines rest) ≡ Ok trails → EntrySpelled k.nets (words_in line) e → ((later : TrailCertificate) → lemmas_at fill order k (n + 1) lines rest ≡ Ok later → RestSpelled fill order k lines rest later) → RestSpelled fill order k (line ∷ lines) rest trails
    by_entry (entry.Lemma lemma) read spelled more =
        let later = bound_ok (lemmas_at fill order k (n + 1) lines rest) _ trails read in
        subst (RestSpelled fill order k (line ∷ lines) rest) (same_Ok _ trails later.2) (lemma_before fill order k line lines rest lemma later.0 spelled (more later.0 later.1))
    by_entry (entry.Ending (ending.Gaps gaps)) read spelled more =
        let steps = bound_ok (columns_at k (n + 1) lines rest) _ trails read in
        subst (RestSpelled fill order k (line ∷ lines) rest) (same_Ok _ trails steps.2) (gaps_before fill order k line lines rest gaps steps.0 spelled (columns_only k (n + 1) lines rest steps.0 steps.1))
    by_entry (entry.Ending ending.Open) read spelled more =
        let end = bound_ok (end_at (n + 1) lines rest) _ trails read in
        subst (RestSpelled fill order k (line ∷ lines) rest) (same_Ok _ trails end.2) (open_before fill order k line lines rest spelled (end_only (n + 1) lines rest end.0 end.1))

-- the text of the last lines
abbrev rest_text : TrailCertificate → List ℕ
rest_text trails = flat_map lemma_line trails.lemmas ++ (best_text trails.best ++ codes "end\n")

order_read : (fill : List NetNo) (k : Kinds) (lines : List (List ℕ)) (rest : List ℕ) (trails : TrailCertificate) → order_at fill k lines rest ≡ Ok trails → (lines_text lines rest ≡ order_line trails.order ++ rest_text trails) × All (NetFits k.nets) trails.order × All (LemmaFits k.nets) trails.lemmas × IfSome trails.best (BestFits k) × (trails.fill ≡ fill)
order_read fill k [] rest trails h = absurd (err-ok fault.Cut trails h)
order_read fill k (line ∷ lines) rest trails h =
    let first = bound_ok (or_fault (order_in k.nets (words_in line)) (fault.Line 4)) _ trails h in
    let spelled = order_only k.nets (words_in line) first.0 (there (order_in k.nets (words_in line)) (fault.Line 4) first.0 first.1) in
    let later : RestSpelled fill first.0 k lines rest trails = lemmas_only fill first.0 k 5 lines rest trails first.2 in
    let here : fed line ≡ order_line trails.order = line_of_words line (codes "order" ∷ nets_text first.0 ∷ []) spelled.0 ∙ (order_joined first.0 ∙ ap order_line (sym later.order_is)) in
    (before line lines rest (order_line trails.order) (rest_text trails) here later.text, subst (All (NetFits k.nets)) (sym later.order_is) spelled.1, later.lemmas, later.best, later.fill_is)

fill_read : (k : Kinds) (lines : List (List ℕ)) (rest : List ℕ) (trails : TrailCertificate) → fill_at k lines rest ≡ Ok trails → (lines_text lines rest ≡ fill_line trails.fill ++ (order_line trails.order ++ rest_text trails)) × TrailsFit k trails
fill_read k [] rest trails h = absurd (err-ok fault.Cut trails h)
fill_read k (line ∷ lines) rest trails h =
    let first = bound_ok (or_fault (fill_in k.nets (words_in line)) (fault.Line 3)) _ trails h in
    let spelled = fill_only k.nets (words_in line) first.0 (there (fill_in k.nets (words_in line)) (fault.Line 3) first.0 first.1) in
    let later = order_read first.0 k lines rest trails first.2 in
    let here : fed line ≡ fill_line trails.fill = line_of_words line (codes "fill" ∷ nets_text first.0 ∷ []) spelled.0 ∙ (fill_joined first.0 ∙ ap fill_line (sym later.4)) in (
      before line lines rest (fill_line trails.fill) (order_line trails.order ++ rest_text trails) here later.0,
      record {
        fill = subst (All (NetFits k.nets)) (sym later.4) spelled.1;
        increase = subst (λ (gs : List NetNo). IsTrue (increases net_rank gs)) (sym later.4) spelled.2;
        order = later.1;
        lemmas = later.2;
        best = later.3;
      },
    )

named_read : (name : List ℕ) (k : Kinds) (lines : List (List ℕ)) (rest : List ℕ) (trails : TrailCertificate) → named_at name k lines rest ≡ Ok trails → (lines_text lines rest ≡ fed (codes "cell " ++ name) ++ (fill_line trails.fill ++ (order_line trails.order ++ rest_text trails))) × TrailsFit k trails
named_read name k [] rest trails h = absurd (err-ok fault.Cut trails h)
named_read name k (line ∷ lines) rest trails h =
    let one = required (is_word line (codes "cell " ++ name)) fault.Cell _ trails h in
    let later = fill_read k lines rest trails one.1 in
    (before line lines rest (fed (codes "cell " ++ name)) _ (ap fed (same_words line (codes "cell " ++ name) one.0)) later.0, later.1)

text_read : (name : List ℕ) (k : Kinds) (lines : List (List ℕ)) (rest : List ℕ) (trails : TrailCertificate) → text_at name k lines rest ≡ Ok trails → (lines_text lines rest ≡ trails_text name trails) × TrailsFit k trails
text_read name k [] rest trails h = absurd (err-ok fault.Cut trails h)
text_read name k (line ∷ lines) rest trails h =
    let one = required (is_word line version_line) fault.Version _ trails h in
    let later = named_read name k lines rest trails one.1 in
    (before line lines rest (fed version_line) _ (ap fed (same_words line version_line one.0)) later.0 ∙ sym (text_apart name trails), later.1)

-- what is read fits, and its text is what was read
pub read_only : (bytes name : List ℕ) (k : Kinds) (trails : TrailCertificate) → trails_of bytes name k ≡ Ok trails → TrailsFit k trails × (bytes ≡ trails_text name trails)
unfolding trails_of
read_only bytes name k trails h =
    let read = text_read name k (lines_in bytes) (behind bytes) trails h in
    (read.1, bytes_again bytes ∙ read.0)

-- no other certificate that fits has the text
pub read_one : (bytes name : List ℕ) (k : Kinds) (trails other : TrailCertificate) → IsLogName name → AreSomeKinds k → trails_of bytes name k ≡ Ok trails → TrailsFit k other → trails_text name other ≡ bytes → other ≡ trails
read_one bytes name k trails other is_name some h fits same =
    same_Ok other trails (sym (read_again name k other is_name some fits) ∙ (ap (λ (t : List ℕ). trails_of t name k) same ∙ h))
