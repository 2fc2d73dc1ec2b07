-- All next columns of a list are all next columns; and what is above the number before a bound reaches it.
use Rattle.std.proofs.Common.{ℕ, ◌≡◌, ◌<◌, ◌≤◌, List, [], ◌∷◌, length, take, get_or, All, subst, sym, arith, take_all, ◌↔◌, ◌-◌, ◌∙◌}
use Rattle.std.proofs.lemmas.List.Elements.{All-cons, All-contains, All-get_or, All-head, All-nil, All-tail}
use Rattle.std.specs.Prelude.{Bool, IsTrue, ltb}
use Rattle.std.proofs.lemmas.Bool.{lt-ltb, ltb-true}
use Rattle.row_state.specs.declared.kind.Kinds.{Kinds}
use Rattle.row_state.specs.declared.state.State.{State}
use Rattle.row_state.specs.declared.step.Step.{Step}
use Rattle.row_state.specs.declared.candidate.Candidate.{Candidate}
use Rattle.row_state.specs.Candidates.{AreCandidates, IsCandidate, candidate_steps}
use Rattle.row_state.specs.Start.{IsState}
use Rattle.row_state.specs.Steps.{IsPossible}
use Rattle.row_state.proofs.Digits.{among_candidates}
use Rattle.lemma_check.specs.Reaches.{StepReaches, BranchReaches}

-- the column reaches the bound, if it may come next
abbrev pub Passes : Kinds → (State → ℕ) → State → ℕ → Step → Type 0
Passes k best s bound step = IsPossible k s step → StepReaches k best s bound step

pub branch_all : (k : Kinds) (s : State) (all : List Candidate) (best : State → ℕ) (bound : ℕ) → IsState k s → AreCandidates k all → All (λ (c : Candidate). Passes k best s bound c.step) all → BranchReaches k best s bound
branch_all k s all best bound valid are each step possible =
    All-contains (Passes k best s bound) (candidate_steps all) step (steps_of all each) (among_candidates k all s step are valid possible) possible
  where
    steps_of : (cs : List Candidate) → All (λ (c : Candidate). Passes k best s bound c.step) cs → All (Passes k best s bound) (candidate_steps cs)
    steps_of [] h = All-nil (Passes k best s bound)
    steps_of (c ∷ cs) h = All-cons (Passes k best s bound) c.step (candidate_steps cs) (All-head (λ (c : Candidate). Passes k best s bound c.step) c cs h) (steps_of cs (All-tail (λ (c : Candidate). Passes k best s bound c.step) c cs h))

pub candidate_is : (k : Kinds) (all : List Candidate) (i : ℕ) (d : Candidate) → AreCandidates k all → i < length all → IsCandidate k (get_or all i d)
candidate_is k all i d are within = All-get_or (IsCandidate k) all i d within are.each

pub branch_end : (k : Kinds) (s : State) (all items : List Candidate) (i : ℕ) (best : State → ℕ) (bound : ℕ) → IsState k s → AreCandidates k all → items ≡ all → length items ≤ i → All (λ (c : Candidate). Passes k best s bound c.step) (take i items) → BranchReaches k best s bound
branch_end k s all items i best bound valid are same past each =
    branch_all k s all best bound valid are (subst (All (λ (c : Candidate). Passes k best s bound c.step)) same (subst (All (λ (c : Candidate). Passes k best s bound c.step)) (take_all i items past) each))

-- the bound of a row is above the number before that of the lemma
pub above_is : (reached value : ℕ) (above : Bool) → 0 < reached → above ≡ ltb (reached - 1) value → IsTrue above ↔ (reached ≤ value)
above_is reached value above some is =
    ((λ yes. omega (arith, some, ltb-true (reached - 1) value (sym is ∙ yes))), (λ le. is ∙ lt-ltb (reached - 1) value (omega (arith, some, le))))
