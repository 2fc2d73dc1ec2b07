-- When a lemma is justified, and which is the first that is not.
use Rattle.std.proofs.Common.{ℕ, ◌≡◌, ◌<◌, ◌≤◌, List, length, take, get_or, ap, subst, sym, arith, ◌↔◌, ◌+◌, ◌∙◌}
use Rattle.std.proofs.lemmas.List.{get_or_default}
use Rattle.cell_num.specs.declared.finger.Row.{Row}
use Rattle.row_state.specs.declared.kind.Kinds.{Kinds}
use Rattle.row_state.specs.declared.state.State.{State}
use Rattle.row_state.specs.Candidates.{IsNumbered}
use Rattle.row_state.specs.declared.numbered.Numbered.{Numbered}
use Rattle.row_state.specs.Code.{state_code}
use Rattle.row_state.specs.Completion.{cost_of}
use Rattle.row_state.specs.Start.{AreSomeKinds, IsState}
use Rattle.row_state.specs.Steps.{column_of, state_after}
use Rattle.row_state.proofs.Calls.{valid_after}
use Rattle.bound_log.specs.declared.log.Rule.{Rule}
use Rattle.bound_log.specs.declared.log.Rule.TheVariants as by
use Rattle.bound_log.specs.declared.log.Lemma.{Lemma}
use Rattle.lemma_check.specs.Reaches.{RuleReaches, best_of}
use Rattle.log_check.specs.Accepted.{IsJustified}
use Rattle.log_check.specs.Refusal.{IsFirstUnjustified}

-- a lemma is justified where its state, with its number, reaches the bound
pub justified_by : (value : Row → State → Kinds → ℕ) (k : Kinds) (best : State → ℕ) (s : State) (x : Lemma) → s ≡ x.state → IsState k x.state → RuleReaches value k best x.rule s x.bound → IsJustified value k best x
justified_by value k best s x same valid reaches = record { state = valid; reaches = subst (λ (t : State). RuleReaches value k best x.rule t x.bound) same reaches }

pub reaches_by : (value : Row → State → Kinds → ℕ) (k : Kinds) (best : State → ℕ) (s : State) (x : Lemma) → s ≡ x.state → IsJustified value k best x → RuleReaches value k best x.rule s x.bound
reaches_by value k best s x same h = subst (λ (t : State). RuleReaches value k best x.rule t x.bound) (sym same) h.reaches

pub code_of : (k : Kinds) (at : Numbered) (s : State) → at.state ≡ s → IsNumbered k at → state_code k s ≡ at.code
code_of k at s same numbered = ap (state_code k) (sym same) ∙ sym numbered.code

-- where two tell the same best bound of each valid state, they justify the same
same_reach : (value : Row → State → Kinds → ℕ) (k : Kinds) (rule : Rule) (x : State) (bound : ℕ) (best other : State → ℕ) → AreSomeKinds k → IsState k x → ((s : State) → IsState k s → best s ≡ other s) → RuleReaches value k best rule x bound → RuleReaches value k other rule x bound
same_reach value k by.P x bound best other some state same h = h
same_reach value k by.N x bound best other some state same h = h
same_reach value k by.Branch x bound best other some state same h =
    (h.0, λ step possible. let r : bound ≤ cost_of x (column_of k step) + best (state_after k x step) = h.1 step possible in omega (arith, r, same (state_after k x step) (valid_after k x step some state possible)))

pub same_best : (value : Row → State → Kinds → ℕ) (k : Kinds) (x : Lemma) (best other : State → ℕ) → AreSomeKinds k → ((s : State) → IsState k s → best s ≡ other s) → IsJustified value k best x → IsJustified value k other x
same_best value k x best other some same h = record { state = h.state; reaches = same_reach value k x.rule x.state x.bound best other some h.state same h.reaches }

-- the lemma at `at`, whatever list it is taken from
here_is : (value : Row → State → Kinds → ℕ) (k : Kinds) (lemmas : List Lemma) (at : ℕ) (x d : Lemma) (best : State → ℕ) → x ≡ get_or lemmas at x → at < length lemmas → IsJustified value k best x ↔ IsJustified value k best (get_or lemmas at d)
here_is value k lemmas at x d best is within =
    let e : x ≡ get_or lemmas at d = is ∙ get_or_default lemmas at x d within in
    (subst (λ (y : Lemma). IsJustified value k best y) e, subst (λ (y : Lemma). IsJustified value k best y) (sym e))

pub first_is : (value : Row → State → Kinds → ℕ) (k : Kinds) (lemmas : List Lemma) (at : ℕ) (x : Lemma) (best : State → ℕ) → AreSomeKinds k → ((i : ℕ) (d : Lemma) → i < at → IsJustified value k (λ s. best_of s (take i lemmas)) (get_or lemmas i d)) → ((s : State) → IsState k s → best s ≡ best_of s (take at lemmas)) → x ≡ get_or lemmas at x → at < length lemmas → (IsJustified value k best x → ⊥) → IsFirstUnjustified value k lemmas at
first_is value k lemmas at x best some before same is within wrong =
    record {
      within = within;
      before = before;
      unproved = λ d h. wrong (same_best value k x (λ s. best_of s (take at lemmas)) best some (λ s state. sym (same s state)) ((here_is value k lemmas at x d (λ s. best_of s (take at lemmas)) is within).1 h));
    }
