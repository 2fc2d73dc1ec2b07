-- What the lines so far add to what the later ones hold.
use Rattle.std.specs.Prelude.{ℕ, ◌≡◌, ◌+◌, List, [], ◌∷◌, ◌++◌, Option, Some, None, Result, Ok, Err}
use Rattle.std.proofs.Common.{refl, sym, ap, ◌∙◌}
use Rattle.std.proofs.lemmas.List.{append-nil, append_assoc}
use Rattle.cell_num.specs.Steps.{◌>>=◌}
use Rattle.cell_num.specs.declared.net.NetNo.{NetNo}
use Rattle.row_state.specs.declared.kind.Kinds.{Kinds}
use Rattle.log_lines.specs.Words.{words_in}
use Rattle.bound_log.specs.declared.fault.LogFault.{LogFault}
use Rattle.bound_log.specs.declared.fault.LogFault.TheVariants as fault
use Rattle.bound_log.specs.declared.log.LogStep.{LogStep}
use Rattle.bound_log.specs.Reading.{columns_at, end_at}
use Rattle.bound_log.specs.declared.log.Ending.TheVariants as ending
use Rattle.order_log.specs.declared.certificate.OrderCertificate.{OrderCertificate}
use Rattle.order_log.specs.declared.certificate.OrderEntry.TheVariants as entry
use Rattle.order_log.specs.Reading.{entry_in, lemmas_at}

abbrev pub with_lemmas : {L : Type 0} → List L → Result (OrderCertificate L) LogFault → Result (OrderCertificate L) LogFault
with_lemmas front (Ok c) = Ok (record { fill = c.fill; order = c.order; lemmas = front ++ c.lemmas; best = c.best })
with_lemmas front (Err f) = Err f

pub lemmas_cut : {L : Type 0} (said : List (List ℕ) → Option L) (fill order : List NetNo) (k : Kinds) (n : ℕ) (lines : List (List ℕ)) (rest : List ℕ) (front : List L) (all : Result (OrderCertificate L) LogFault) → with_lemmas front (lemmas_at said fill order k n lines rest) ≡ all → lines ≡ [] → all ≡ Err fault.Cut
unfolding lemmas_at
lemmas_cut said fill order k n lines rest front all h is = sym h ∙ ap (λ ls. with_lemmas front (lemmas_at said fill order k n ls rest)) is

pub lemmas_wrong : {L : Type 0} (said : List (List ℕ) → Option L) (fill order : List NetNo) (k : Kinds) (n : ℕ) (lines : List (List ℕ)) (rest : List ℕ) (front : List L) (all : Result (OrderCertificate L) LogFault) (line : List ℕ) (later : List (List ℕ)) → with_lemmas front (lemmas_at said fill order k n lines rest) ≡ all → lines ≡ line ∷ later → None ≡ entry_in said (words_in line) → all ≡ Err (fault.Line n)
unfolding lemmas_at
lemmas_wrong said fill order k n lines rest front all line later h is none = sym h ∙ (ap (λ ls. with_lemmas front (lemmas_at said fill order k n ls rest)) is ∙ rw (sym none) refl)

one_lemma : {L : Type 0} (front : List L) (lemma : L) (r : Result (OrderCertificate L) LogFault) → with_lemmas front (r >>= λ later. Ok (record { fill = later.fill; order = later.order; lemmas = lemma ∷ later.lemmas; best = later.best })) ≡ with_lemmas (front ++ lemma ∷ []) r
one_lemma front lemma (Ok later) = ap (λ ls. Ok (record { fill = later.fill; order = later.order; lemmas = ls; best = later.best })) (sym (append_assoc front (lemma ∷ []) later.lemmas))
one_lemma front lemma (Err f) = refl

pub lemmas_more : {L : Type 0} (said : List (List ℕ) → Option L) (fill order : List NetNo) (k : Kinds) (n : ℕ) (lines : List (List ℕ)) (rest : List ℕ) (front : List L) (all : Result (OrderCertificate L) LogFault) (line : List ℕ) (later : List (List ℕ)) (after : List ℕ) (lemma : L) → with_lemmas front (lemmas_at said fill order k n lines rest) ≡ all → lines ≡ line ∷ later → rest ≡ after → Some (entry.Lemma lemma) ≡ entry_in said (words_in line) → with_lemmas (front ++ lemma ∷ []) (lemmas_at said fill order k (n + 1) later after) ≡ all
unfolding lemmas_at
lemmas_more said fill order k n lines rest front all line later after lemma h is same some =
    rw (sym same) (sym (one_lemma front lemma (lemmas_at said fill order k (n + 1) later rest)) ∙ (sym (rw (sym some) refl) ∙ (ap (λ ls. with_lemmas front (lemmas_at said fill order k n ls rest)) (sym is) ∙ h)))

lemmas_row : {L : Type 0} (said : List (List ℕ) → Option L) (fill order : List NetNo) (k : Kinds) (n : ℕ) (lines : List (List ℕ)) (rest : List ℕ) (front : List L) (all : Result (OrderCertificate L) LogFault) (line : List ℕ) (later : List (List ℕ)) (gaps : ℕ) → with_lemmas front (lemmas_at said fill order k n lines rest) ≡ all → lines ≡ line ∷ later → Some (entry.Ending (ending.Gaps gaps)) ≡ entry_in said (words_in line) → with_lemmas front (columns_at k (n + 1) later rest >>= λ steps. Ok (record { fill = fill; order = order; lemmas = []; best = Some (record { gaps = gaps; steps = steps }) })) ≡ all
unfolding lemmas_at
lemmas_row said fill order k n lines rest front all line later gaps h is some = sym (rw (sym some) refl) ∙ (ap (λ ls. with_lemmas front (lemmas_at said fill order k n ls rest)) (sym is) ∙ h)

pub lemmas_listed : {L : Type 0} (said : List (List ℕ) → Option L) (fill order : List NetNo) (k : Kinds) (n : ℕ) (lines : List (List ℕ)) (rest : List ℕ) (front : List L) (all : Result (OrderCertificate L) LogFault) (line : List ℕ) (later : List (List ℕ)) (after : List ℕ) (gaps : ℕ) (steps : List LogStep) → with_lemmas front (lemmas_at said fill order k n lines rest) ≡ all → lines ≡ line ∷ later → rest ≡ after → Some (entry.Ending (ending.Gaps gaps)) ≡ entry_in said (words_in line) → columns_at k (n + 1) later after ≡ Ok steps → all ≡ Ok (record { fill = fill; order = order; lemmas = front; best = Some (record { gaps = gaps; steps = steps }) })
lemmas_listed said fill order k n lines rest front all line later after gaps steps h is same some read =
    sym (lemmas_row said fill order k n lines rest front all line later gaps h is some) ∙ rw (same, read) (ap (λ ls. Ok (record { fill = fill; order = order; lemmas = ls; best = Some (record { gaps = gaps; steps = steps }) })) (append-nil front))

pub lemmas_unlisted : {L : Type 0} (said : List (List ℕ) → Option L) (fill order : List NetNo) (k : Kinds) (n : ℕ) (lines : List (List ℕ)) (rest : List ℕ) (front : List L) (all : Result (OrderCertificate L) LogFault) (line : List ℕ) (later : List (List ℕ)) (after : List ℕ) (gaps : ℕ) (f : LogFault) → with_lemmas front (lemmas_at said fill order k n lines rest) ≡ all → lines ≡ line ∷ later → rest ≡ after → Some (entry.Ending (ending.Gaps gaps)) ≡ entry_in said (words_in line) → columns_at k (n + 1) later after ≡ Err f → all ≡ Err f
lemmas_unlisted said fill order k n lines rest front all line later after gaps f h is same some read =
    sym (lemmas_row said fill order k n lines rest front all line later gaps h is some) ∙ rw (same, read) refl

lemmas_without : {L : Type 0} (said : List (List ℕ) → Option L) (fill order : List NetNo) (k : Kinds) (n : ℕ) (lines : List (List ℕ)) (rest : List ℕ) (front : List L) (all : Result (OrderCertificate L) LogFault) (line : List ℕ) (later : List (List ℕ)) → with_lemmas front (lemmas_at said fill order k n lines rest) ≡ all → lines ≡ line ∷ later → Some (entry.Ending ending.Open) ≡ entry_in said (words_in line) → with_lemmas front (end_at (n + 1) later rest >>= λ _. Ok (record { fill = fill; order = order; lemmas = []; best = None })) ≡ all
unfolding lemmas_at
lemmas_without said fill order k n lines rest front all line later h is some = sym (rw (sym some) refl) ∙ (ap (λ ls. with_lemmas front (lemmas_at said fill order k n ls rest)) (sym is) ∙ h)

pub lemmas_ended : {L : Type 0} (said : List (List ℕ) → Option L) (fill order : List NetNo) (k : Kinds) (n : ℕ) (lines : List (List ℕ)) (rest : List ℕ) (front : List L) (all : Result (OrderCertificate L) LogFault) (line : List ℕ) (later : List (List ℕ)) (after : List ℕ) → with_lemmas front (lemmas_at said fill order k n lines rest) ≡ all → lines ≡ line ∷ later → rest ≡ after → Some (entry.Ending ending.Open) ≡ entry_in said (words_in line) → Ok tt ≡ end_at (n + 1) later after → all ≡ Ok (record { fill = fill; order = order; lemmas = front; best = None })
lemmas_ended said fill order k n lines rest front all line later after h is same some read =
    sym (lemmas_without said fill order k n lines rest front all line later h is some) ∙ rw (same, sym read) (ap (λ ls. Ok (record { fill = fill; order = order; lemmas = ls; best = None })) (append-nil front))

pub lemmas_unended : {L : Type 0} (said : List (List ℕ) → Option L) (fill order : List NetNo) (k : Kinds) (n : ℕ) (lines : List (List ℕ)) (rest : List ℕ) (front : List L) (all : Result (OrderCertificate L) LogFault) (line : List ℕ) (later : List (List ℕ)) (after : List ℕ) (f : LogFault) → with_lemmas front (lemmas_at said fill order k n lines rest) ≡ all → lines ≡ line ∷ later → rest ≡ after → Some (entry.Ending ending.Open) ≡ entry_in said (words_in line) → Err f ≡ end_at (n + 1) later after → all ≡ Err f
lemmas_unended said fill order k n lines rest front all line later after f h is same some read =
    sym (lemmas_without said fill order k n lines rest front all line later h is some) ∙ rw (same, sym read) refl
