-- What a visit may conclude.
use Rattle.std.proofs.Common.{ℕ, zero, suc, ◌≡◌, ◌+◌, ◌-◌, ◌<◌, ◌≤◌, List, [], ◌∷◌, ◌++◌, length, take, get_or, map, inl, inr, refl, sym, ap, subst, arith, All, Contains, ◌∙◌, ◌⊎◌, IsPermutation}
use Rattle.std.proofs.lemmas.Bool.{cases_order}
use Rattle.std.proofs.lemmas.List.Elements.{All-nil}
use Rattle.std.proofs.lemmas.List.{reverse-append, get_or-take, get_or_default, length-take}
use Rattle.std.proofs.lemmas.List.Sorted.{IsPermutation-refl, length_permutation}
use Rattle.cell_num.specs.declared.finger.Row.TheVariants.{P, N}
use Rattle.cell_num.specs.declared.finger.Finger.{Finger}
use Rattle.row_model.specs.declared.column.Column.{Column}
use Rattle.row_model.specs.Arrangement.{IsColumn}
use Rattle.row_state.specs.declared.kind.Kinds.{Kinds}
use Rattle.row_state.specs.declared.state.State.{State}
use Rattle.row_state.specs.declared.step.Step.{Step}
use Rattle.row_state.specs.Completion.{cost_of, further_gaps, Completes, fingers_left, left_in}
use Rattle.row_state.specs.Order.{ColumnBefore, RowBefore}
use Rattle.row_state.specs.Start.{HasFingers, GatesAreNets}
use Rattle.row_state.specs.Steps.{IsPossible, column_of, state_after}
use Rattle.row_state.proofs.Unfold.{Next, unfold_to, unfold_from, further_step}
use Rattle.row_state.specs.Gates.{most}
use Rattle.row_state.proofs.Fewest.{most_same, most_none}
use Rattle.bound_log.specs.declared.log.Lemma.{Lemma}
use Rattle.lemma_check.specs.Reaches.{best_of, StepReaches}
use Rattle.log_check.specs.Accepted.{IsTrueOf}
use Rattle.log_check.proofs.Sound.{best_true}
use Rattle.row_search.specs.Steps.{row_of}
use Rattle.row_search.specs.Visit.{IsFirstWithin}

-- the steps are in order, and each possible next column is one of them
pub record AreOrdered (k : Kinds) (s : State) (steps : List Step) : Type 0 where
  pub all : (step : Step) → IsPossible k s step → Contains steps step
  pub order : (i j : ℕ) (d : Step) → i < j → j < length steps → ColumnBefore (column_of k (get_or steps i d)) (column_of k (get_or steps j d))

-- a step fails: it is not possible, or each completion behind it has more gaps than are allowed
abbrev pub Fails : Kinds → State → ℕ → Step → Type 0
Fails k s allowed step = IsPossible k s step → (row : List Column) → Completes k (state_after k s step) row → allowed < cost_of s (column_of k step) + further_gaps (state_after k s step) row

pub fails : (k : Kinds) (s : State) (allowed : ℕ) (step : Step) (lemmas : List Lemma) → All (IsTrueOf k) lemmas → (IsPossible k s step → StepReaches k (λ z. best_of z lemmas) s (allowed + 1) step) → Fails k s allowed step
fails k s allowed step lemmas all reaches possible row h = omega (arith, reaches possible, best_true k (state_after k s step) lemmas all row h)

-- the order of two of the next columns, by their places
after_or_same : (k : Kinds) (s : State) (steps : List Step) (i j : ℕ) (rest cs : List Column) (d : Step) → AreOrdered k s steps → i < length steps → j < length steps → (j < i → ⊥) → (i ≡ j → (rest ≡ cs) ⊎ RowBefore rest cs) → (column_of k (get_or steps i d) ∷ rest ≡ column_of k (get_or steps j d) ∷ cs) ⊎ RowBefore (column_of k (get_or steps i d) ∷ rest) (column_of k (get_or steps j d) ∷ cs)
after_or_same k s steps i j rest cs d are wi wj not_before same =
    elim (cases_order i j) [
      | inl e ↦ elim (same e) [
        | inl is ↦ inl (ap (λ (n : ℕ). column_of k (get_or steps n d) ∷ rest) e ∙ ap (λ r. column_of k (get_or steps j d) ∷ r) is)
        | inr before ↦ inr (inr (ap (λ (n : ℕ). column_of k (get_or steps n d)) e, before))
      ]
      | inr other ↦ elim other [
        | inl less ↦ inr (inl (are.order i j d less wj))
        | inr more ↦ absurd (not_before more)
      ]
    ]

first_at : (k : Kinds) (s : State) (allowed : ℕ) (steps : List Step) (i : ℕ) (d : Step) (rest : List Column) → AreOrdered k s steps → i < length steps → All (Fails k s allowed) (take i steps) → cost_of s (column_of k (get_or steps i d)) ≤ allowed → IsFirstWithin k (state_after k s (get_or steps i d)) (allowed - cost_of s (column_of k (get_or steps i d))) rest → (j : ℕ) (cs : List Column) → j < length steps → IsPossible k s (get_or steps j d) → Completes k (state_after k s (get_or steps j d)) cs → further_gaps s (column_of k (get_or steps j d) ∷ cs) ≤ allowed → (column_of k (get_or steps i d) ∷ rest ≡ column_of k (get_or steps j d) ∷ cs) ⊎ RowBefore (column_of k (get_or steps i d) ∷ rest) (column_of k (get_or steps j d) ∷ cs)
first_at k s allowed steps i d rest are within failed cheap h j cs wj possible complete few =
    let step_gaps : further_gaps s (column_of k (get_or steps j d) ∷ cs) ≡ cost_of s (column_of k (get_or steps j d)) + further_gaps (state_after k s (get_or steps j d)) cs = further_step k s (get_or steps j d) cs in
    after_or_same k s steps i j rest cs d are within wj
    (λ less.
    let shorter : j < length (take i steps) = omega (arith, length-take i steps) in
    let same : get_or (take i steps) j d ≡ get_or steps j d = get_or-take i steps j d less in
    let bad : Fails k s allowed (get_or steps j d) = subst (Fails k s allowed) same (failed j d shorter) in
    omega (arith, bad possible cs complete, step_gaps))
    (λ e.
    let complete' : Completes k (state_after k s (get_or steps i d)) cs = subst (λ (n : ℕ). Completes k (state_after k s (get_or steps n d)) cs) (sym e) complete in
    let few' : further_gaps s (column_of k (get_or steps i d) ∷ cs) ≤ allowed = subst (λ (n : ℕ). further_gaps s (column_of k (get_or steps n d) ∷ cs) ≤ allowed) (sym e) few in
    h.first cs complete' (omega (arith, few', further_step k s (get_or steps i d) cs)))

first_of : (k : Kinds) (s : State) (allowed : ℕ) (steps : List Step) (i : ℕ) (d : Step) (rest : List Column) → HasFingers k s → AreOrdered k s steps → i < length steps → All (Fails k s allowed) (take i steps) → cost_of s (column_of k (get_or steps i d)) ≤ allowed → IsFirstWithin k (state_after k s (get_or steps i d)) (allowed - cost_of s (column_of k (get_or steps i d))) rest → (other : List Column) → Completes k s other → further_gaps s other ≤ allowed → (column_of k (get_or steps i d) ∷ rest ≡ other) ⊎ RowBefore (column_of k (get_or steps i d) ∷ rest) other
first_of k s allowed steps i d rest some are within failed cheap h [] complete few =
    absurd (omega (arith, some, length_permutation (fingers_left P k.p s.p_left) [] complete.p, length_permutation (fingers_left N k.n s.n_left) [] complete.n))
first_of k s allowed steps i d rest some are within failed cheap h (c ∷ cs) complete few =
    let next : Next k s c cs = unfold_to k s c cs complete in
    let there : Contains steps next.step = are.all next.step next.possible in
    let j : ℕ = there.0 in
    let same : get_or steps j d ≡ next.step = get_or_default steps j d next.step there.1 ∙ there.2 in
    let is : column_of k (get_or steps j d) ≡ c = ap (column_of k) same ∙ next.is in
    let complete' : Completes k (state_after k s (get_or steps j d)) cs = subst (λ (z : Step). Completes k (state_after k s z) cs) (sym same) next.rest in
    let few' : further_gaps s (column_of k (get_or steps j d) ∷ cs) ≤ allowed = subst (λ (z : Column). further_gaps s (z ∷ cs) ≤ allowed) (sym is) few in
    subst (λ (z : Column). (column_of k (get_or steps i d) ∷ rest ≡ z ∷ cs) ⊎ RowBefore (column_of k (get_or steps i d) ∷ rest) (z ∷ cs)) is (first_at k s allowed steps i d rest are within failed cheap h j cs there.1 (subst (IsPossible k s) (sym same) next.possible) complete' few')

pub found : (k : Kinds) (s : State) (allowed : ℕ) (steps : List Step) (i : ℕ) (d : Step) (rest : List Column) → GatesAreNets k → HasFingers k s → AreOrdered k s steps → i < length steps → IsPossible k s (get_or steps i d) → All (Fails k s allowed) (take i steps) → cost_of s (column_of k (get_or steps i d)) ≤ allowed → IsFirstWithin k (state_after k s (get_or steps i d)) (allowed - cost_of s (column_of k (get_or steps i d))) rest → IsFirstWithin k s allowed (column_of k (get_or steps i d) ∷ rest)
found k s allowed steps i d rest nets some are within possible failed cheap h =
    record {
      completes = unfold_from k s (get_or steps i d) rest nets possible h.completes;
      within = omega (arith, h.within, cheap, further_step k s (get_or steps i d) rest);
      first = first_of k s allowed steps i d rest some are within failed cheap h;
    }

nil_of : {X : Type 0} (xs : List X) → length xs ≡ 0 → xs ≡ []
nil_of [] e = refl
nil_of (x ∷ xs) e = absurd (omega (arith, e))

nil_perm : (xs : List Finger) → length xs ≡ 0 → IsPermutation xs []
nil_perm xs e = subst (λ ys. IsPermutation xs ys) (nil_of xs e) (IsPermutation-refl xs)

nothing : (k : Kinds) (s : State) → (HasFingers k s → ⊥) → (a b : ℕ) → length (left_in k s).p ≡ a → length (left_in k s).n ≡ b → length (left_in k s).p ≡ 0
nothing k s none zero b ea eb = ea
nothing k s none (suc a) b ea eb = absurd (none (omega (arith, ea, eb)))

nothing_n : (k : Kinds) (s : State) → (HasFingers k s → ⊥) → (a b : ℕ) → length (left_in k s).p ≡ a → length (left_in k s).n ≡ b → length (left_in k s).n ≡ 0
nothing_n k s none a zero ea eb = eb
nothing_n k s none a (suc b) ea eb = absurd (none (omega (arith, ea, eb)))

-- with no finger left the empty list is the only completion
pub leaf : (k : Kinds) (s : State) (allowed : ℕ) → (HasFingers k s → ⊥) → IsFirstWithin k s allowed []
leaf k s allowed none =
    let no_p : length (fingers_left P k.p s.p_left) ≡ 0 = nothing k s none (length (fingers_left P k.p s.p_left)) (length (fingers_left N k.n s.n_left)) refl refl in
    let no_n : length (fingers_left N k.n s.n_left) ≡ 0 = nothing_n k s none (length (fingers_left P k.p s.p_left)) (length (fingers_left N k.n s.n_left)) refl refl in
    let no_columns : most (fingers_left P k.p s.p_left) (fingers_left N k.n s.n_left) k.nets ≡ 0 = most_same _ _ _ _ k.nets (nil_perm (fingers_left P k.p s.p_left) no_p) (nil_perm (fingers_left N k.n s.n_left) no_n) ∙ most_none k.nets in
    record {
      completes = record { columns = All-nil IsColumn; p = nil_perm (fingers_left P k.p s.p_left) no_p; n = nil_perm (fingers_left N k.n s.n_left) no_n; fewest = sym no_columns };
      within = omega arith;
      first = λ other complete few. inl (sym (nil_of other (complete.fewest ∙ no_columns)));
    }

pub row_of_push : (k : Kinds) (found : List Step) (step : Step) → row_of k (found ++ step ∷ []) ≡ column_of k step ∷ row_of k found
row_of_push k found step = ap (map (column_of k)) (reverse-append found (step ∷ []))
