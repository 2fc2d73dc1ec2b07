-- Only the text of a certificate that fits is read.
use Rattle.std.specs.Prelude.{ℕ, ◌≡◌, ◌+◌, ◌==◌, ◌&&◌, Bool, true, false, List, [], ◌∷◌, ◌++◌, Option, Some, None, Result, Ok, Err, All, IfSome, IsTrue, length, codes, decimal}
use Rattle.std.proofs.Common.{refl, sym, ap, subst, arith, ◌∙◌, inl, inr}
use Rattle.std.specs.List.{flat_map}
use Rattle.std.proofs.lemmas.Bool.{and_parts, eqb-true}
use Rattle.std.proofs.lemmas.List.{append_assoc}
use Rattle.std.proofs.lemmas.List.Elements.{All-cons, All-nil}
use Rattle.std.proofs.lemmas.Option.{none-some}
use Rattle.cell_num.specs.Steps.{◌>>=◌, require, or_fault}
use Rattle.cell_num.specs.declared.net.NetNo.{NetNo}
use Rattle.row_state.specs.declared.kind.Kinds.{Kinds}
use Rattle.row_state.specs.Start.{AreSomeKinds}
use Rattle.log_lines.specs.Words.{is_word, words_in}
use Rattle.log_lines.specs.Lines.{behind, lines_in}
use Rattle.log_lines.proofs.Numbers.{chosen, same_words}
use Rattle.log_lines.proofs.Splits.{Lacks, bytes_again, fed, lines_text}
use Rattle.bound_log.specs.declared.fault.LogFault.TheVariants as fault
use Rattle.bound_log.specs.declared.log.Best.{Best}
use Rattle.bound_log.specs.declared.log.LogStep.{LogStep}
use Rattle.bound_log.specs.Fits.{BestFits, IsLogName, StepFits}
use Rattle.bound_log.specs.Line.{column_in, ending_in}
use Rattle.bound_log.specs.Reading.{columns_at, end_at}
use Rattle.bound_log.specs.Text.{best_text, column_line}
use Rattle.bound_log.proofs.Only.{EndingSpelled, column_spelled, ending_spelled, err-ok, line_of_words, same_Ok, text_cons}
use Rattle.bound_log.proofs.Spelled.{column_joined, column_words, cons_same, mapped}
use Rattle.bound_log.specs.declared.log.Ending.TheVariants as ending
use Rattle.trail_log.specs.Order.{increases, net_rank}
use Rattle.trail_log.specs.Spelling.{nets_text}
use Rattle.trail_log.specs.Fits.{NetFits}
use Rattle.trail_log.specs.Line.{fill_in, order_in}
use Rattle.trail_log.specs.Text.{fill_line, order_line}
use Rattle.trail_log.proofs.Words.{fill_joined, fill_only, order_joined, order_only}
use Rattle.order_log.specs.declared.certificate.OrderCertificate.{OrderCertificate}
use Rattle.order_log.specs.declared.certificate.OrderEntry.{OrderEntry}
use Rattle.order_log.specs.declared.certificate.OrderEntry.TheVariants as entry
use Rattle.order_log.specs.Fits.{CertificateFits}
use Rattle.order_log.specs.Reading.{begun_by, certificate_of, entry_in, fill_at, lemmas_at, named_at, order_at, text_at}
use Rattle.order_log.specs.Text.{certificate_text, lemma_line}
use Rattle.order_log.proofs.Spells.{Spells}
use Rattle.order_log.proofs.Whole.{filled_text, ordered_text, read_again, rest_text, text_apart}

-- ---- steps of reading

pub bound_ok : {A B E : Type 0} (r : Result A E) (f : A → Result B E) (b : B) → (r >>= f) ≡ Ok b → (a : A) × (r ≡ Ok a) × (f a ≡ Ok b)
bound_ok (Ok a) f b h = (a, refl, h)
bound_ok (Err e) f b h = absurd (err-ok e b h)

pub required : {B E : Type 0} (t : Bool) (e : E) (f : Unit {0} → Result B E) (b : B) → (require t e >>= f) ≡ Ok b → (t ≡ true) × (f tt ≡ Ok b)
required true e f b h = (refl, h)
required false e f b h = absurd (err-ok e b h)

require_ok : {E : Type 0} (t : Bool) (e : E) (u : Unit {0}) → require t e ≡ Ok u → t ≡ true
require_ok true e u h = refl
require_ok false e u h = absurd (err-ok e u h)

pub there : {A E : Type 0} (o : Option A) (e : E) (a : A) → or_fault o e ≡ Ok a → o ≡ Some a
there (Some b) e a h = ap Some (same_Ok b a h)
there None e a h = absurd (err-ok e a h)

no_more : {X : Type 0} (xs : List X) → (length xs == 0) ≡ true → xs ≡ []
no_more [] h = refl
no_more (x ∷ xs) h = absurd (omega (arith, eqb-true (length (x ∷ xs)) 0 h))

-- a line in front
pub before : (line : List ℕ) (lines : List (List ℕ)) (rest written later : List ℕ) → fed line ≡ written → lines_text lines rest ≡ later → lines_text (line ∷ lines) rest ≡ written ++ later
before line lines rest written later here behind =
    text_cons line lines rest ∙ (ap (λ (bs : List ℕ). bs ++ lines_text lines rest) here ∙ ap (λ (bs : List ℕ). written ++ bs) behind)

-- ---- the lines of a row

pub end_only : (n : ℕ) (lines : List (List ℕ)) (rest : List ℕ) (u : Unit {0}) → end_at n lines rest ≡ Ok u → lines_text lines rest ≡ codes "end\n"
unfolding lines_text
end_only n [] rest u h = absurd (err-ok fault.Cut u h)
end_only n (line ∷ lines) rest u h =
    let one = required (is_word line (codes "end")) (fault.Line n) _ u h in
    let last : (length lines == 0 && length rest == 0) ≡ true = require_ok (length lines == 0 && length rest == 0) (fault.Line (n + 1)) u one.1 in
    let both : ((length lines == 0) ≡ true) × ((length rest == 0) ≡ true) = and_parts _ _ last in
    rw (same_words line (codes "end") one.0, no_more lines both.0, no_more rest both.1) refl

pub columns_only : (k : Kinds) (n : ℕ) (lines : List (List ℕ)) (rest : List ℕ) (steps : List LogStep) → columns_at k n lines rest ≡ Ok steps → (lines_text lines rest ≡ flat_map column_line steps ++ codes "end\n") × All (StepFits k) steps
unfolding columns_at
columns_only k n [] rest steps h = absurd (err-ok fault.Cut steps h)
columns_only k n (line ∷ lines) rest steps h =
    elim (chosen (is_word line (codes "end")) _ _ _ h) [
      | inl y ↦
          let done = bound_ok (end_at n (line ∷ lines) rest) (λ _. Ok []) steps y.1 in
          let none : [] ≡ steps = same_Ok [] steps done.2 in
          let text : lines_text (line ∷ lines) rest ≡ codes "end\n" = end_only n (line ∷ lines) rest done.0 done.1 in
          subst (λ (ss : List LogStep). (lines_text (line ∷ lines) rest ≡ flat_map column_line ss ++ codes "end\n") × All (StepFits k) ss) none (text, All-nil (StepFits k))
      | inr other ↦
          let first = bound_ok (or_fault (column_in k (words_in line)) (fault.Line n)) _ steps other.1 in
          let later = bound_ok (columns_at k (n + 1) lines rest) _ steps first.2 in
          one_more first.0 later.0 (same_Ok (first.0 ∷ later.0) steps later.2) (column_spelled k (words_in line) first.0 (there (column_in k (words_in line)) (fault.Line n) first.0 first.1)) (columns_only k (n + 1) lines rest later.0 later.1)
    ]
  where
    one_more : (step : LogStep) (more : List LogStep) → step ∷ more ≡ steps → (words_in line ≡ codes "column" ∷ column_words step) × StepFits k step → (lines_text lines rest ≡ flat_map column_line more ++ codes "end\n") × All (StepFits k) more → (lines_text (line ∷ lines) rest ≡ flat_map column_line steps ++ codes "end\n") × All (StepFits k) steps
    one_more step more same one others =
        let here : fed line ≡ column_line step = line_of_words line (codes "column" ∷ column_words step) one.0 ∙ column_joined step in
        let text : lines_text (line ∷ lines) rest ≡ flat_map column_line (step ∷ more) ++ codes "end\n" = before line lines rest (column_line step) _ here others.0 ∙ sym (append_assoc (column_line step) (flat_map column_line more) (codes "end\n")) in
        subst (λ (ss : List LogStep). (lines_text (line ∷ lines) rest ≡ flat_map column_line ss ++ codes "end\n") × All (StepFits k) ss) same (text, All-cons (StepFits k) step more one.1 others.1)

-- ---- lemmas, and what follows them

abbrev EntrySpelled : {L : Type 0} → (L → List (List ℕ)) → (L → Type 0) → List (List ℕ) → OrderEntry L → Type 0
EntrySpelled words Good all (entry.Lemma lemma) = (all ≡ codes "lemma" ∷ words lemma) × Good lemma
EntrySpelled words Good all (entry.Ending e) = EndingSpelled all e

entry_only : {L : Type 0} (said : List (List ℕ) → Option L) (words : L → List (List ℕ)) (Good : L → Type 0) (spells : Spells said words Good) (all : List (List ℕ)) (e : OrderEntry L) → entry_in said all ≡ Some e → EntrySpelled words Good all e
entry_only said words Good spells [] e h = absurd (none-some e h)
entry_only said words Good spells (word ∷ more) e h =
    elim (chosen (is_word word (codes "lemma")) _ _ _ h) [
      | inl y ↦
          let l = mapped entry.Lemma (said more) e y.1 in
          let spelled = spells.only more l.0 l.1 in
          subst (EntrySpelled words Good (word ∷ more)) l.2 (cons_same _ _ _ _ (same_words word (codes "lemma") y.0) spelled.0, spelled.1)
      | inr other ↦
          let ended = mapped entry.Ending (ending_in (word ∷ more)) e other.1 in
          subst (EntrySpelled words Good (word ∷ more)) ended.2 (ending_spelled (word ∷ more) ended.0 ended.1)
    ]

-- the lines from the lemmas on, for these gates
record RestSpelled {L : Type 0} (words : L → List (List ℕ)) (Good : L → Type 0) (fill order : List NetNo) (k : Kinds) (lines : List (List ℕ)) (rest : List ℕ) (c : OrderCertificate L) : Type 0 where
  text : lines_text lines rest ≡ rest_text words c.lemmas c.best
  lemmas : All Good c.lemmas
  best : IfSome c.best (BestFits k)
  fill_is : c.fill ≡ fill
  order_is : c.order ≡ order

fed_lemma : {L : Type 0} (words : L → List (List ℕ)) (line : List ℕ) (lemma : L) → words_in line ≡ codes "lemma" ∷ words lemma → fed line ≡ lemma_line words lemma
unfolding lemma_line
fed_lemma words line lemma is = line_of_words line (codes "lemma" ∷ words lemma) is

lemma_before : {L : Type 0} (words : L → List (List ℕ)) (Good : L → Type 0) (fill order : List NetNo) (k : Kinds) (line : List ℕ) (lines : List (List ℕ)) (rest : List ℕ) (lemma : L) (c : OrderCertificate L) → EntrySpelled words Good (words_in line) (entry.Lemma lemma) → RestSpelled words Good fill order k lines rest c → RestSpelled words Good fill order k (line ∷ lines) rest (record { fill = c.fill; order = c.order; lemmas = lemma ∷ c.lemmas; best = c.best })
lemma_before words Good fill order k line lines rest lemma c one later =
    let here : fed line ≡ lemma_line words lemma = fed_lemma words line lemma one.0 in
    record {
      text = before line lines rest (lemma_line words lemma) _ here later.text ∙ sym (append_assoc (lemma_line words lemma) (flat_map (lemma_line words) c.lemmas) (best_text c.best ++ codes "end\n"));
      lemmas = All-cons Good lemma c.lemmas one.1 later.lemmas;
      best = later.best;
      fill_is = later.fill_is;
      order_is = later.order_is;
    }

gaps_before : {L : Type 0} (words : L → List (List ℕ)) (Good : L → Type 0) (fill order : List NetNo) (k : Kinds) (line : List ℕ) (lines : List (List ℕ)) (rest : List ℕ) (gaps : ℕ) (steps : List LogStep) → EntrySpelled words Good (words_in line) (entry.Ending (ending.Gaps gaps)) → (lines_text lines rest ≡ flat_map column_line steps ++ codes "end\n") × All (StepFits k) steps → RestSpelled words Good fill order k (line ∷ lines) rest (record { fill = fill; order = order; lemmas = []; best = Some (record { gaps = gaps; steps = steps }) })
gaps_before words Good fill order k line lines rest gaps steps one later =
    let here : fed line ≡ codes "gaps " ++ (decimal gaps ++ codes "\n") = line_of_words line (codes "gaps" ∷ decimal gaps ∷ []) one.0 in
    record {
      text = before line lines rest (codes "gaps " ++ (decimal gaps ++ codes "\n")) _ here later.0 ∙ gaps_apart (decimal gaps) (flat_map column_line steps);
      lemmas = All-nil Good;
      best = record { few = omega (arith, one.1); steps = later.1 };
      fill_is = refl;
      order_is = refl;
    }
  where
    gaps_apart : (g cs : List ℕ) → (codes "gaps " ++ (g ++ codes "\n")) ++ (cs ++ codes "end\n") ≡ (codes "gaps " ++ g ++ codes "\n" ++ cs) ++ codes "end\n"
    gaps_apart g cs = simp append_assoc

open_before : {L : Type 0} (words : L → List (List ℕ)) (Good : L → Type 0) (fill order : List NetNo) (k : Kinds) (line : List ℕ) (lines : List (List ℕ)) (rest : List ℕ) → EntrySpelled words Good (words_in line) (entry.Ending ending.Open) → lines_text lines rest ≡ codes "end\n" → RestSpelled words Good fill order k (line ∷ lines) rest (record { fill = fill; order = order; lemmas = []; best = None })
open_before words Good fill order k line lines rest one later = record {
  text = before line lines rest (codes "open\n") (codes "end\n") (line_of_words line (codes "open" ∷ []) one) later;
  lemmas = All-nil Good;
  best = tt;
  fill_is = refl;
  order_is = refl;
}

lemmas_only : {L : Type 0} (said : List (List ℕ) → Option L) (words : L → List (List ℕ)) (Good : L → Type 0) (spells : Spells said words Good) (fill order : List NetNo) (k : Kinds) (n : ℕ) (lines : List (List ℕ)) (rest : List ℕ) (c : OrderCertificate L) → lemmas_at said fill order k n lines rest ≡ Ok c → RestSpelled words Good fill order k lines rest c
unfolding lemmas_at
lemmas_only said words Good spells fill order k n [] rest c h = absurd (err-ok fault.Cut c h)
lemmas_only {L = L} said words Good spells fill order k n (line ∷ lines) rest c h =
    let first = bound_ok (or_fault (entry_in said (words_in line)) (fault.Line n)) _ c h in
    by_entry first.0 first.2 (entry_only said words Good spells (words_in line) first.0 (there (entry_in said (words_in line)) (fault.Line n) first.0 first.1)) (λ later read. lemmas_only said words Good spells fill order k (n + 1) lines rest later read)
  where
    by_entry : (e : OrderEntry L) → begun_by fill order e (lemmas_at said fill order k (n + 1) lines rest) (columns_at k (n + 1) lines rest) (end_at (n + 1) lines rest) ≡ Ok c → EntrySpelled words Good (words_in line) e → ((later : OrderCertificate L) → lemmas_at said fill order k (n + 1) lines rest ≡ Ok later → RestSpelled words Good fill order k lines rest later) → RestSpelled words Good fill order k (line ∷ lines) rest c
    by_entry (entry.Lemma lemma) read spelled more =
        let later = bound_ok (lemmas_at said fill order k (n + 1) lines rest) _ c read in
        subst (RestSpelled words Good fill order k (line ∷ lines) rest) (same_Ok _ c later.2) (lemma_before words Good fill order k line lines rest lemma later.0 spelled (more later.0 later.1))
    by_entry (entry.Ending (ending.Gaps gaps)) read spelled more =
        let steps = bound_ok (columns_at k (n + 1) lines rest) _ c read in
        subst (RestSpelled words Good fill order k (line ∷ lines) rest) (same_Ok _ c steps.2) (gaps_before words Good fill order k line lines rest gaps steps.0 spelled (columns_only k (n + 1) lines rest steps.0 steps.1))
    by_entry (entry.Ending ending.Open) read spelled more =
        let end = bound_ok (end_at (n + 1) lines rest) _ c read in
        subst (RestSpelled words Good fill order k (line ∷ lines) rest) (same_Ok _ c end.2) (open_before words Good fill order k line lines rest spelled (end_only (n + 1) lines rest end.0 end.1))

-- ---- the whole certificate

-- the lines from the order on
record OrderedSpelled {L : Type 0} (words : L → List (List ℕ)) (Good : L → Type 0) (fill : List NetNo) (k : Kinds) (lines : List (List ℕ)) (rest : List ℕ) (c : OrderCertificate L) : Type 0 where
  text : lines_text lines rest ≡ ordered_text words c
  order : All (NetFits k.nets) c.order
  lemmas : All Good c.lemmas
  best : IfSome c.best (BestFits k)
  fill_is : c.fill ≡ fill

order_read : {L : Type 0} (said : List (List ℕ) → Option L) (words : L → List (List ℕ)) (Good : L → Type 0) (spells : Spells said words Good) (fill : List NetNo) (k : Kinds) (lines : List (List ℕ)) (rest : List ℕ) (c : OrderCertificate L) → order_at said fill k lines rest ≡ Ok c → OrderedSpelled words Good fill k lines rest c
order_read said words Good spells fill k [] rest c h = absurd (err-ok fault.Cut c h)
order_read said words Good spells fill k (line ∷ lines) rest c h =
    let first = bound_ok (or_fault (order_in k.nets (words_in line)) (fault.Line 4)) _ c h in
    let spelled = order_only k.nets (words_in line) first.0 (there (order_in k.nets (words_in line)) (fault.Line 4) first.0 first.1) in
    let later : RestSpelled words Good fill first.0 k lines rest c = lemmas_only said words Good spells fill first.0 k 5 lines rest c first.2 in
    let here : fed line ≡ order_line c.order = line_of_words line (codes "order" ∷ nets_text first.0 ∷ []) spelled.0 ∙ (order_joined first.0 ∙ ap order_line (sym later.order_is)) in
    record {
      text = before line lines rest (order_line c.order) (rest_text words c.lemmas c.best) here later.text;
      order = subst (All (NetFits k.nets)) (sym later.order_is) spelled.1;
      lemmas = later.lemmas;
      best = later.best;
      fill_is = later.fill_is;
    }

fill_read : {L : Type 0} (said : List (List ℕ) → Option L) (words : L → List (List ℕ)) (Good : L → Type 0) (spells : Spells said words Good) (k : Kinds) (lines : List (List ℕ)) (rest : List ℕ) (c : OrderCertificate L) → fill_at said k lines rest ≡ Ok c → (lines_text lines rest ≡ filled_text words c) × CertificateFits Good k c
fill_read said words Good spells k [] rest c h = absurd (err-ok fault.Cut c h)
fill_read said words Good spells k (line ∷ lines) rest c h =
    let first = bound_ok (or_fault (fill_in k.nets (words_in line)) (fault.Line 3)) _ c h in
    let spelled = fill_only k.nets (words_in line) first.0 (there (fill_in k.nets (words_in line)) (fault.Line 3) first.0 first.1) in
    let later = order_read said words Good spells first.0 k lines rest c first.2 in
    let here : fed line ≡ fill_line c.fill = line_of_words line (codes "fill" ∷ nets_text first.0 ∷ []) spelled.0 ∙ (fill_joined first.0 ∙ ap fill_line (sym later.fill_is)) in (
      before line lines rest (fill_line c.fill) (ordered_text words c) here later.text,
      record {
        fill = subst (All (NetFits k.nets)) (sym later.fill_is) spelled.1;
        increase = subst (λ (gs : List NetNo). IsTrue (increases net_rank gs)) (sym later.fill_is) spelled.2;
        order = later.order;
        lemmas = later.lemmas;
        best = later.best;
      },
    )

named_read : {L : Type 0} (said : List (List ℕ) → Option L) (words : L → List (List ℕ)) (Good : L → Type 0) (spells : Spells said words Good) (name : List ℕ) (k : Kinds) (lines : List (List ℕ)) (rest : List ℕ) (c : OrderCertificate L) → named_at said name k lines rest ≡ Ok c → (lines_text lines rest ≡ fed (codes "cell " ++ name) ++ filled_text words c) × CertificateFits Good k c
named_read said words Good spells name k [] rest c h = absurd (err-ok fault.Cut c h)
named_read said words Good spells name k (line ∷ lines) rest c h =
    let one = required (is_word line (codes "cell " ++ name)) fault.Cell _ c h in
    let later = fill_read said words Good spells k lines rest c one.1 in
    (before line lines rest (fed (codes "cell " ++ name)) _ (ap fed (same_words line (codes "cell " ++ name) one.0)) later.0, later.1)

text_read : {L : Type 0} (said : List (List ℕ) → Option L) (words : L → List (List ℕ)) (Good : L → Type 0) (spells : Spells said words Good) (version name : List ℕ) (k : Kinds) (lines : List (List ℕ)) (rest : List ℕ) (c : OrderCertificate L) → text_at said version name k lines rest ≡ Ok c → (lines_text lines rest ≡ certificate_text words version name c) × CertificateFits Good k c
text_read said words Good spells version name k [] rest c h = absurd (err-ok fault.Cut c h)
text_read said words Good spells version name k (line ∷ lines) rest c h =
    let one = required (is_word line version) fault.Version _ c h in
    let later = named_read said words Good spells name k lines rest c one.1 in
    (before line lines rest (fed version) _ (ap fed (same_words line version one.0)) later.0 ∙ sym (text_apart words version name c), later.1)

-- what is read fits, and its text is what was read
pub read_only : {L : Type 0} (said : List (List ℕ) → Option L) (words : L → List (List ℕ)) (Good : L → Type 0) (spells : Spells said words Good) (version bytes name : List ℕ) (k : Kinds) (c : OrderCertificate L) → certificate_of said version bytes name k ≡ Ok c → CertificateFits Good k c × (bytes ≡ certificate_text words version name c)
unfolding certificate_of
read_only said words Good spells version bytes name k c h =
    let read = text_read said words Good spells version name k (lines_in bytes) (behind bytes) c h in
    (read.1, bytes_again bytes ∙ read.0)

-- no other certificate that fits has the text
pub read_one : {L : Type 0} (said : List (List ℕ) → Option L) (words : L → List (List ℕ)) (Good : L → Type 0) (spells : Spells said words Good) (version bytes name : List ℕ) (k : Kinds) (c other : OrderCertificate L) → Lacks 10 version → IsLogName name → AreSomeKinds k → certificate_of said version bytes name k ≡ Ok c → CertificateFits Good k other → certificate_text words version name other ≡ bytes → other ≡ c
read_one said words Good spells version bytes name k c other front is_name some h fits same =
    same_Ok other c (sym (read_again said words Good spells version name k other front is_name some fits) ∙ (ap (λ (t : List ℕ). certificate_of said version t name k) same ∙ h))
