-- What is kept by number is the best bound of each valid state.
use Rattle.std.proofs.Common.{ℕ, ◌≡◌, ◌≢◌, true, false, cond, List, [], ◌∷◌, ◌++◌, Option, Some, max, inl, inr, sym, ap, ◌∙◌}
use Rattle.std.specs.Prelude.{unwrap_or}
use Rattle.std.proofs.lemmas.Bool.{cases_Bool, cases_eq}
use Rattle.std.proofs.lemmas.List.Sums.{fold-append}
use Rattle.row_state.specs.declared.kind.Kinds.{Kinds}
use Rattle.row_state.specs.declared.state.State.{State}
use Rattle.row_state.specs.Code.{state_code}
use Rattle.row_state.specs.Start.{IsState}
use Rattle.row_state.proofs.Codes.{state_same}
use Rattle.bound_log.specs.declared.log.Lemma.{Lemma}
use Rattle.lemma_check.specs.Reaches.{same_state, raised, better}
use Rattle.lemma_check.specs.declared.known.Known.{Known}
use Rattle.lemma_check.specs.Known.{bound_in, best_known, Knows}
use Rattle.lemma_check.proofs.States.{same_state_is, same_state_from}

differs : (x s : State) → (x ≡ s → ⊥) → same_state x s ≡ false
differs x s other = elim (cases_Bool (same_state x s)) [ inl same ↦ absurd (other (same_state_is x s same)) | inr e ↦ e ]

-- a bound is kept under the number of its state, and nothing else changes
pub one_raised : (k : Kinds) (old new : ℕ → Option ℕ) (x : State) (bound number best : ℕ) → IsState k x → number ≡ state_code k x → best ≡ max (unwrap_or (old number) 0) bound → new number ≡ Some best → ((q : ℕ) → q ≢ number → new q ≡ old q) → (s : State) → IsState k s → bound_in new k s ≡ raised x bound s (bound_in old k s)
one_raised k old new x bound number best valid is most here others s state =
    elim (cases_eq (state_code k s) number) [
      | inl e ↦
          let same : same_state x s ≡ true = same_state_from x s (sym (state_same k s x state valid (e ∙ is))) in
          ap (λ q. unwrap_or (new q) 0) e
          ∙ ap (λ o. unwrap_or o 0) here
          ∙ most
          ∙ ap (λ q. max (unwrap_or (old q) 0) bound) (sym e)
          ∙ ap (λ b. cond b (max (bound_in old k s) bound) (bound_in old k s)) (sym same)
      | inr ne ↦
          let other : same_state x s ≡ false = differs x s (λ same. ne (ap (state_code k) (sym same) ∙ sym is)) in
          ap (λ o. unwrap_or o 0) (others (state_code k s) ne)
          ∙ ap (λ b. cond b (max (bound_in old k s) bound) (bound_in old k s)) (sym other)
    ]

-- one lemma more
pub knows_more : (k : Kinds) (old new : Known) (lemmas : List Lemma) (x : Lemma) → Knows k old lemmas → ((s : State) → IsState k s → best_known new k s ≡ raised x.state x.bound s (best_known old k s)) → Knows k new (lemmas ++ x ∷ [])
knows_more k old new lemmas x before noted s state =
    noted s state ∙ ap (λ best. raised x.state x.bound s best) (before s state) ∙ sym (fold-append (better s) 0 lemmas (x ∷ []))
