-- What holds after next columns.
use Rattle.std.proofs.Common.{ℕ, ◌≡◌, ◌+◌, ◌<◌, ◌↔◌, Bool, List, length, get_or, subst, arith, All}
use Rattle.std.specs.Prelude.{IsTrue}
use Rattle.std.proofs.lemmas.List.Elements.{All-contains, All-get_or}
use Rattle.cell_num.proofs.Lists.{all_map}
use Rattle.row_state.specs.declared.candidate.Candidate.{Candidate}
use Rattle.row_state.specs.declared.kind.Kinds.{Kinds}
use Rattle.row_state.specs.declared.state.State.{State}
use Rattle.row_state.specs.declared.step.Step.{Step}
use Rattle.row_state.specs.Candidates.{AreCandidates, IsCandidate, candidate_steps}
use Rattle.row_state.specs.Completion.{cost_of}
use Rattle.row_state.specs.Start.{IsState}
use Rattle.row_state.specs.Steps.{IsPossible, column_of}
use Rattle.row_state.proofs.Digits.{among_candidates}
use Rattle.row_cycles.specs.Next.{IfLeft}

-- the gaps that are left are one number
pub same_left : (cost left other gaps : ℕ) → cost + left ≡ gaps → cost + other ≡ gaps → left ≡ other
same_left cost left other gaps sum also = omega (arith, sum, also)

-- so a test of them decides
pub one_decides : (k : Kinds) (s : State) (gaps : ℕ) (step : Step) (left : ℕ) (P : ℕ → Type 0) (holds : Bool)
    → IsPossible k s step → cost_of s (column_of k step) + left ≡ gaps → IsTrue holds ↔ P left
    → IsTrue holds ↔ IfLeft k s gaps step P
one_decides k s gaps step left P holds possible sum decides = (
  λ yes other _ also. subst P (same_left (cost_of s (column_of k step)) left other gaps sum also) (decides.0 yes),
  λ each. decides.1 (each left possible sum),
)

-- each next column is a candidate
pub each_left : (k : Kinds) (s : State) (gaps : ℕ) (all : List Candidate) (P : Step → ℕ → Type 0) → IsState k s
    → AreCandidates k all → All (λ (c : Candidate). IfLeft k s gaps c.step (P c.step)) all
    → (step : Step) → IfLeft k s gaps step (P step)
each_left k s gaps all P state are each step left possible sum =
    All-contains (λ (z : Step). IfLeft k s gaps z (P z)) (candidate_steps all) step
    (all_map (λ (c : Candidate). IfLeft k s gaps c.step (P c.step)) (λ (z : Step). IfLeft k s gaps z (P z))
    (λ (c : Candidate). c.step) all (λ c h. h) each)
    (among_candidates k all s step are state possible) left possible sum

pub candidate_is : (k : Kinds) (all : List Candidate) (i : ℕ) (d : Candidate) → AreCandidates k all → i < length all
    → IsCandidate k (get_or all i d)
candidate_is k all i d are within = All-get_or (IsCandidate k) all i d within are.each
