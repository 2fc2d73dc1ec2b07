-- The ways in which a visit ends, and what becomes known.
use Rattle.std.proofs.Common.{ℕ, ◌≡◌, ◌+◌, ◌-◌, ◌<◌, ◌≤◌, Bool, true, false, cond, max, List, [], ◌∷◌, ◌++◌, length, take, take_all, get_or, inl, inr, sym, subst, arith, All, ◌↔◌, IsTrue}
use Rattle.std.proofs.lemmas.Bool.{cases_Bool}
use Rattle.std.proofs.lemmas.List.Elements.{All-contains, All-more, All-nil, All-push}
use Rattle.cell_num.proofs.Lists.{all_map}
use Rattle.row_state.specs.declared.candidate.Candidate.{Candidate}
use Rattle.row_state.specs.declared.kind.Kinds.{Kinds}
use Rattle.row_state.specs.declared.numbered.Numbered.{Numbered}
use Rattle.row_state.specs.declared.state.State.{State}
use Rattle.row_state.specs.declared.step.Step.{Step}
use Rattle.row_state.specs.Candidates.{AreCandidates, IsNumbered, candidate_steps}
use Rattle.row_state.specs.Code.{state_code}
use Rattle.row_state.specs.Completion.{Need, cost_of}
use Rattle.row_state.specs.Start.{AreSomeKinds, HasFingers, IsState, start_of}
use Rattle.row_state.specs.Steps.{IsPossible, column_of, state_after}
use Rattle.row_state.proofs.Calls.{valid_after}
use Rattle.row_state.proofs.Digits.{among_candidates}
use Rattle.row_state.proofs.Unfold.{branch}
use Rattle.row_state.proofs.Valid.{gates_are_nets}
use Rattle.lemma_check.specs.declared.known.Known.{Known}
use Rattle.lemma_check.specs.Reaches.{raised, same_state}
use Rattle.lemma_check.specs.Known.{best_known}
use Rattle.lemma_check.proofs.States.{same_state_is}
use Rattle.row_search.specs.Steps.{IsStep}
use Rattle.row_search.proofs.Rows.{Fails, leaf}
use Rattle.row_search.proofs.Visits.{candidates_ordered, first_among, step_is}
use Rattle.trail_search.specs.declared.first.ListedRow.{ListedRow}
use Rattle.trail_search.specs.First.{IsFirstRow, listed_of}
use Rattle.trail_search.specs.Visit.{AreTrue, IsFirstOf}

-- the column can not come next, or each completion behind it has more gaps than are allowed
abbrev pub HasNone : Kinds → State → ℕ → Candidate → Type 0
HasNone k s allowed c = Fails k s allowed c.step

-- ---- what is known

need_raised : (k : Kinds) (x s : State) (bound best : ℕ) → Need k x bound → Need k s best → Need k s (raised x bound s best)
need_raised k x s bound best here there =
    elim (cases_Bool (same_state x s)) [
      | inl same ↦
          let need : Need k s bound = subst (λ (z : State). Need k z bound) (same_state_is x s same) here in
          subst (λ (b : Bool). Need k s (cond b (max best bound) best)) (sym same) (λ row h. omega (arith, need row h, there row h))
      | inr other ↦ subst (λ (b : Bool). Need k s (cond b (max best bound) best)) (sym other) there
    ]

-- one need more
pub true_more : (k : Kinds) (old new : Known) (at : Numbered) (bound : ℕ) → AreTrue k old → IsNumbered k at → Need k at.state bound → ((k : Kinds) (x : State) → IsState k x → state_code k x ≡ at.code → (s : State) → IsState k s → best_known new k s ≡ raised x bound s (best_known old k s)) → AreTrue k new
true_more k old new at bound before numbered need noted s valid =
    subst (Need k s) (sym (noted k at.state numbered.valid (sym numbered.code) s valid)) (need_raised k at.state s bound (best_known old k s) need (before s valid))

-- ---- one column more that has none

pub none_not : (k : Kinds) (s : State) (allowed : ℕ) (items : List Candidate) (i : ℕ) (d : Candidate) (b : Bool) → All (HasNone k s allowed) (take i items) → i < length items → (IsTrue b ↔ IsPossible k s (get_or items i d).step) → b ≡ false → All (HasNone k s allowed) (take (i + 1) items)
none_not k s allowed items i d b all within tells off = All-more (HasNone k s allowed) items i d within all (λ possible. let yes : b ≡ true = tells.1 possible in absurd (cc))

pub none_dear : (k : Kinds) (s : State) (allowed cost : ℕ) (items : List Candidate) (i : ℕ) (d : Candidate) → All (HasNone k s allowed) (take i items) → i < length items → cost ≡ cost_of s (column_of k (get_or items i d).step) → allowed < cost → All (HasNone k s allowed) (take (i + 1) items)
none_dear k s allowed cost items i d all within ec dear = All-more (HasNone k s allowed) items i d within all (λ possible row h. omega (arith, ec, dear))

pub none_known : (k : Kinds) (s : State) (allowed cost code told : ℕ) (known : Known) (items : List Candidate) (i : ℕ)
    (d : Candidate) → AreSomeKinds k → IsState k s → AreTrue k known → All (HasNone k s allowed) (take i items) →
    i < length items → IsPossible k s (get_or items i d).step → cost ≡ cost_of s (column_of k (get_or items i d).step) →
    code ≡ state_code k (state_after k s (get_or items i d).step) →
    ((k : Kinds) (s : State) → state_code k s ≡ code → told ≡ best_known known k s) → allowed - cost < told →
    All (HasNone k s allowed) (take (i + 1) items)
none_known k s allowed cost code told known items i d kinds valid holds all within possible ec is tells above =
    let after : State = state_after k s (get_or items i d).step in
    let best : told ≡ best_known known k after = tells k after (sym is) in
    All-more (HasNone k s allowed) items i d within all (λ may row h. omega (arith, above, ec, best, holds after (valid_after k s (get_or items i d).step kinds valid possible) row h))

pub none_behind : (k : Kinds) (s after : State) (allowed cost : ℕ) (items : List Candidate) (i : ℕ) (d : Candidate) → All (HasNone k s allowed) (take i items) → i < length items → cost ≡ cost_of s (column_of k (get_or items i d).step) → after ≡ state_after k s (get_or items i d).step → Need k after (allowed - cost + 1) → All (HasNone k s allowed) (take (i + 1) items)
none_behind k s after allowed cost items i d all within ec ea need =
    let need' : Need k (state_after k s (get_or items i d).step) (allowed - cost + 1) = subst (λ (z : State). Need k z (allowed - cost + 1)) ea need in
    All-more (HasNone k s allowed) items i d within all (λ possible row h. omega (arith, ec, need' row h))

-- ---- the ends

-- no column that may come next has one
pub none_left : (k : Kinds) (s : State) (allowed i : ℕ) (items all : List Candidate) → AreCandidates k all → IsState k s → HasFingers k s → items ≡ all → length items ≤ i → All (HasNone k s allowed) (take i items) → Need k s (allowed + 1)
none_left k s allowed i items all are valid some same past tried =
    let each : All (HasNone k s allowed) all = subst (All (HasNone k s allowed)) same (subst (All (HasNone k s allowed)) (take_all i items past) tried) in
    let steps : All (Fails k s allowed) (candidate_steps all) = all_map (HasNone k s allowed) (Fails k s allowed) (λ (c : Candidate). c.step) all (λ c h. h) each in
    let fails : (step : Step) → IsPossible k s step → Fails k s allowed step = λ step possible. All-contains (Fails k s allowed) (candidate_steps all) step steps (among_candidates k all s step are valid possible) in
    branch k s (allowed + 1) (λ step. allowed + 1 - cost_of s (column_of k step)) some (λ step possible row h. omega (arith, fails step possible possible row h)) (λ step possible. omega arith)

pub found_leaf : (k : Kinds) (s : State) (allowed : ℕ) (steps : List Step) (b : Bool) → steps ≡ [] → (IsTrue b ↔ HasFingers k s) → b ≡ false → IsFirstOf k s allowed steps
found_leaf k s allowed steps b e tells off =
    subst (IsFirstOf k s allowed) (sym e) (record { row = leaf k s allowed (λ some. let yes : b ≡ true = tells.1 some in cc); sound = All-nil (IsStep k) })

pub found_behind : (k : Kinds) (s after : State) (allowed cost : ℕ) (items : List Candidate) (i : ℕ) (d : Candidate)
    (rest pushed : List Step) → AreSomeKinds k → HasFingers k s → AreCandidates k items → IsState k s →
    i < length items → IsPossible k s (get_or items i d).step → All (HasNone k s allowed) (take i items) →
    cost ≡ cost_of s (column_of k (get_or items i d).step) → cost ≤ allowed →
    after ≡ state_after k s (get_or items i d).step → IsFirstOf k after (allowed - cost) rest →
    pushed ≡ rest ++ (get_or items i d).step ∷ [] → IsFirstOf k s allowed pushed
found_behind k s after allowed cost items i d rest pushed kinds some are valid within possible tried ec cheap ea h ep =
    record {
      row = first_among k s after allowed cost items i d rest pushed (gates_are_nets k kinds) some (candidates_ordered k items s are valid) within possible tried ec cheap ea h.row ep;
      sound = subst (All (IsStep k)) (sym ep) (All-push (IsStep k) rest (get_or items i d).step h.sound (step_is k s (get_or items i d).step possible));
    }

-- ---- at the start

pub true_none : (k : Kinds) (known : Known) → ((k : Kinds) (s : State) → best_known known k s ≡ 0) → AreTrue k known
true_none k known none s valid row h = omega (arith, none k s)

pub first_found : (k : Kinds) (s : State) (gaps : ℕ) (steps : List Step) (listed : ListedRow) → s ≡ start_of k → IsFirstOf k s gaps steps → listed ≡ listed_of k gaps steps → IsFirstRow k gaps listed
first_found k s gaps steps listed e h is = record { steps = steps; is = is; first = subst (λ (z : State). IsFirstOf k z gaps steps) e h }

pub none_found : (k : Kinds) (s : State) (gaps : ℕ) → s ≡ start_of k → Need k s (gaps + 1) → Need k (start_of k) (gaps + 1)
none_found k s gaps e need = subst (λ (z : State). Need k z (gaps + 1)) e need
