-- Completions of a state: where no finger is left, and their order by their first columns.
use Rattle.std.proofs.Common.{ℕ, ◌≡◌, ◌+◌, ◌<◌, ◌≤◌, ◌⊎◌, List, [], ◌∷◌, length, get_or, take, map}
use Rattle.std.proofs.Common.{inl, inr, sym, ap, subst, arith, All, Contains, ◌∙◌}
use Rattle.std.proofs.lemmas.Bool.{cases_lt, cases_order}
use Rattle.std.proofs.lemmas.List.{get_or-map, get_or-take, get_or_default, length-map, length-take, nil_from_length}
use Rattle.row_model.specs.declared.column.Column.{Column}
use Rattle.row_state.specs.declared.candidate.Candidate.{Candidate}
use Rattle.row_state.specs.declared.kind.Kinds.{Kinds}
use Rattle.row_state.specs.declared.state.State.{State}
use Rattle.row_state.specs.declared.step.Step.{Step}
use Rattle.row_state.specs.Candidates.{AreCandidates, candidate_steps}
use Rattle.row_state.specs.Completion.{Completes, cost_of, further_gaps, left_in}
use Rattle.row_state.specs.Order.{ColumnBefore, RowBefore}
use Rattle.row_state.specs.Start.{HasFingers, IsState}
use Rattle.row_state.specs.Steps.{column_of, state_after}
use Rattle.row_state.proofs.Digits.{among_candidates}
use Rattle.row_state.proofs.Exists.{nothing_left}
use Rattle.row_state.proofs.Unfold.{further_step}
use Rattle.track_ways.specs.Paths.{Leads}

-- where no finger is left the row is complete
pub complete_end : (k : Kinds) (s : State) → (HasFingers k s → ⊥) → Completes k s []
complete_end k s done =
    elim (cases_lt 0 (length (left_in k s).p + length (left_in k s).n)) [
      | inl some ↦ absurd (done some)
      | inr none ↦ nothing_left k s none
    ]

-- and no other is
pub only_end : (k : Kinds) (s : State) (row : List Column) → Completes k s [] → Completes k s row → row ≡ []
only_end k s row none some = nil_from_length row (some.fewest ∙ sym none.fewest)

-- the gaps that are left after the first column
pub gaps_left : (k : Kinds) (s : State) (step : Step) (cs : List Column) (left gaps : ℕ)
    → cost_of s (column_of k step) + left ≡ gaps → further_gaps s (column_of k step ∷ cs) ≤ gaps
    → further_gaps (state_after k s step) cs ≤ left
gaps_left k s step cs left gaps sum within = omega (arith, further_step k s step cs, sum, within)

-- the order of two rows that begin with next columns, by the places of these
ordered : (k : Kinds) (steps : List Step) (i j : ℕ) (a b d : Step) (rest cs : List Column)
    → ((i j : ℕ) (d : Step) → i < j → j < length steps
    → ColumnBefore (column_of k (get_or steps i d)) (column_of k (get_or steps j d)))
    → get_or steps i d ≡ a → get_or steps j d ≡ b → j < length steps → (j < i → ⊥)
    → (a ≡ b → (rest ≡ cs) ⊎ RowBefore rest cs)
    → (column_of k a ∷ rest ≡ column_of k b ∷ cs) ⊎ RowBefore (column_of k a ∷ rest) (column_of k b ∷ cs)
ordered k steps i j a b d rest cs order here there within not_before same =
    elim (cases_order i j) [
      | inl e ↦
          let is : a ≡ b = sym here ∙ ap (λ (n : ℕ). get_or steps n d) e ∙ there in
          elim (same is) [
            | inl equal ↦
                inl (ap (λ (z : Step). column_of k z ∷ rest) is ∙ ap (λ r. column_of k b ∷ r) equal)
            | inr before ↦ inr (inr (ap (column_of k) is, before))
          ]
      | inr other ↦ elim other [
        | inl less ↦
            let before : ColumnBefore (column_of k a) (column_of k (get_or steps j d)) =
            subst (λ z. ColumnBefore z (column_of k (get_or steps j d))) (ap (column_of k) here)
            (order i j d less within) in
            inr (inl (subst (λ z. ColumnBefore (column_of k a) z) (ap (column_of k) there) before))
        | inr more ↦ absurd (not_before more)
      ]
    ]

-- a completion whose first column is at a place is no later than another one, where none goes through the columns
-- before the place, and where the rest after the same column is no later
pub first_among : (k : Kinds) (s : State) (items : List Candidate) (i : ℕ) (d : Candidate) (rest : List Column)
    (other : List Step) (Fails : Candidate → Type 0) → IsState k s → AreCandidates k items → i < length items
    → Completes k s (column_of k (get_or items i d).step ∷ rest) → All Fails (take i items)
    → ((next : Candidate) (zs : List Step) → Fails next → other ≡ next.step ∷ zs → ⊥)
    → ((zs : List Step) → other ≡ (get_or items i d).step ∷ zs
    → (rest ≡ map (column_of k) zs) ⊎ RowBefore rest (map (column_of k) zs))
    → Leads k s other
    → (column_of k (get_or items i d).step ∷ rest ≡ map (column_of k) other)
    ⊎ RowBefore (column_of k (get_or items i d).step ∷ rest) (map (column_of k) other)
first_among k s items i d rest [] Fails state are within whole fails none same leads =
    absurd (omega (arith, leads.fewest, whole.fewest))
first_among k s items i d rest (z ∷ zs) Fails state are within whole fails none same leads =
    let steps : List Step = candidate_steps items in
    let there : Contains steps z = among_candidates k items s z are state leads.0 in
    let j : ℕ = there.0 in
    let inside : j < length items = omega (arith, there.1, length-map items (λ (c : Candidate). c.step)) in
    let here : get_or steps i d.step ≡ (get_or items i d).step =
    get_or-map (λ (c : Candidate). c.step) items i d d.step within in
    let is_z : get_or steps j d.step ≡ z = get_or_default steps j d.step z there.1 ∙ there.2 in
    let item : (get_or items j d).step ≡ z =
    sym (get_or-map (λ (c : Candidate). c.step) items j d d.step inside) ∙ is_z in
    ordered k steps i j (get_or items i d).step z d.step rest (map (column_of k) zs) are.steps.order here is_z there.1
    (λ less.
    let shorter : j < length (take i items) = omega (arith, length-take i items, less, within) in
    let bad : Fails (get_or items j d) = subst Fails (get_or-take i items j d less) (fails j d shorter) in
    none (get_or items j d) zs bad (ap (λ (y : Step). y ∷ zs) (sym item)))
    (λ e. same zs (ap (λ (y : Step). y ∷ zs) (sym e)))
