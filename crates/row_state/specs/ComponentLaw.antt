-- The law of the component bound.
use Rattle.std.proofs.Common.{ℕ, ◌≡◌, ◌-◌, ◌/◌, ◌≤◌, Bool, ◌==◌}
use Rattle.std.proofs.Common.{List, [], ◌∷◌, Option, Some, None, replicate, refl, sym, subst, arith, ◌∙◌, inl}
use Rattle.std.proofs.Common.{inr, All, IsPermutation}
use Rattle.std.proofs.lemmas.Bool.{cases_eq, eq-eqb, ne_eqb}
use Rattle.std.proofs.lemmas.List.Elements.{All-append, All-head, All-nil, All-replicate, All-tail}
use Rattle.std.proofs.lemmas.List.Sorted.{All-permutation, list_any-IsPermutation}
use Rattle.cell_num.specs.declared.finger.Finger.{Finger}
use Rattle.cell_num.specs.declared.finger.Row.{Row}
use Rattle.cell_num.specs.declared.finger.Row.TheVariants.{P, N}
use Rattle.cell_num.specs.declared.net.NetNo.{NetNo}
use Rattle.row_model.specs.Arrangement.{fingers_in}
use Rattle.row_model.specs.declared.column.Column.{Column}
use Rattle.row_model.specs.declared.column.Placed.{Placed}
use Rattle.row_trails.specs.Counts.{fewest_trails, size_in}
use Rattle.row_trails.specs.Trails.{empties, n_cost_le, odd, p_cost_le, places, row_cost, size_same}
use Rattle.row_trails.specs.Trails.{toggle}
use Rattle.row_state.specs.Chained.{least_permuted}
use Rattle.row_state.specs.ClassBounds.{free_at, free_is}
use Rattle.row_state.specs.ClassBounds.{open_at, open_here, open_other, trails_low}
use Rattle.row_state.specs.ClassSums.{sum_below_mono}
use Rattle.row_state.specs.Classes.{least_chained}
use Rattle.row_state.specs.Completion.{Need, finger_of, fingers_left, further_gaps, left_in}
use Rattle.row_state.specs.Component.{component_of, component_value, has_finger, trails_behind, trails_of}
use Rattle.row_state.specs.Degrees.{empties_are, fingers_of, fingers_of_places, odd_places}
use Rattle.row_state.specs.Law.{gates_left, most_turned}
use Rattle.row_state.specs.Parity.{empty_left, is_odd}
use Rattle.row_state.specs.Start.{AreSomeKinds, IsKind}
use Rattle.row_state.specs.Trails.{cost_is}
use Rattle.row_state.specs.declared.kind.Kind.{Kind}
use Rattle.row_state.specs.declared.kind.Kinds.{Kinds}
use Rattle.row_state.specs.declared.state.State.{State}
use Rattle.row_state.specs.ClassWalks.{EndsBelow, Walks, classes_of, walks}

-- the bound's numbers are those of the walk, or lower
has_same : (c d : ℕ → ℕ) (fs : List Finger) (h : ℕ) → ((u : ℕ) → c u ≡ d u) → has_finger c fs h ≡ has_finger d fs h
has_same c d [] h same = refl
has_same c d (f ∷ fs) h same = rw (same f.lo.0, has_same c d fs h same) refl

size_in_agree : (n : ℕ) (c d : ℕ → ℕ) (o p : ℕ → Bool) (h : ℕ) → ((u : ℕ) → c u ≡ d u) → ((u : ℕ) → o u ≡ p u)
    → size_in n c o h ≡ size_in n d p h
size_in_agree n c d o p h classes odds = size_same n _ _ (λ u l. rw (classes u, odds u) refl)

-- the same fingers, in another order
record IsRow (mine : List Finger) (xs : List (Option Placed)) : Type 0 where
  pub class : (u : ℕ) → least_chained mine u ≡ least_chained (fingers_of xs) u
  pub has : (h : ℕ) → has_finger (least_chained mine) mine h
      ≡ has_finger (least_chained (fingers_of xs)) (fingers_of xs) h
  pub odd_nets : (u : ℕ) → is_odd mine u ≡ odd xs u

row_trails : (n : ℕ) (mine : List Finger) (xs : List (Option Placed)) (h : ℕ) → IsRow mine xs → trails_of n mine h
    ≤ free_at n (classes_of xs) h
unfolding classes_of
row_trails n mine xs h row =
    let fs : List Finger = fingers_of xs in
    let size_is : size_in n (least_chained mine) (is_odd mine) h ≡ size_in n (least_chained fs) (odd xs) h =
    size_in_agree n (least_chained mine) (least_chained fs) (is_odd mine) (odd xs) h row.class row.odd_nets in
    let same : trails_of n mine h ≡ fewest_trails (has_finger (least_chained fs) fs h)
    (size_in n (least_chained fs) (odd xs) h) = rw (row.has h, size_is) refl in
    omega (
      arith,
      same,
      free_is n (classes_of xs) h,
      trails_low (has_finger (least_chained fs) fs h) (size_in n (least_chained fs) (odd xs) h),
    )

row_behind : (n v : ℕ) (mine : List Finger) (xs : List (Option Placed)) (h : ℕ) → IsRow mine xs
    → trails_behind n mine v h ≤ open_at n (classes_of xs) v h
unfolding classes_of
row_behind n v mine xs h row = elim (cases_eq h (least_chained mine v)) [
  | inl e ↦
      let fs : List Finger = fingers_of xs in
      let toggled : size_in n (least_chained mine) (toggle v (is_odd mine)) h
      ≡ size_in n (least_chained fs) (toggle v (odd xs)) h =
      size_in_agree n (least_chained mine) (least_chained fs) (toggle v (is_odd mine)) (toggle v (odd xs)) h row.class
      (λ u. rw (row.odd_nets u) refl) in
      let here : trails_behind n mine v h ≡ (size_in n (least_chained mine) (toggle v (is_odd mine)) h - 1) / 2 =
      rw (eq-eqb h (least_chained mine v) e) refl in
      omega (arith, here, toggled, open_here n (classes_of xs) v h (e ∙ row.class v))
  | inr other ↦
      let here : trails_behind n mine v h ≡ trails_of n mine h = rw (ne_eqb h (least_chained mine v) other) refl in
      omega (
        arith,
        here,
        row_trails n mine xs h row,
        open_other n (classes_of xs) v h (λ e. other (e ∙ sym (row.class v))),
      )
]

low_row : (nets : ℕ) (end : Option NetNo) (xs : List (Option Placed)) (mine other : List Finger) (cost : ℕ)
    → IsRow mine xs → All (EndsBelow nets) (fingers_of xs) → empties xs ≡ empty_left mine other nets → row_cost end xs
    ≤ cost → component_of nets end mine other ≤ cost
low_row nets (Some v) xs mine other cost row ends empty low =
    let w : Walks nets xs = walks nets xs ends in
    omega (
      arith,
      sum_below_mono (trails_behind nets mine v.0) (open_at nets (classes_of xs) v.0) nets
          (λ h. row_behind nets v.0 mine xs h row),
      w.after v,
      empty,
      low,
    )
low_row nets None xs mine other cost row ends empty low =
    let w : Walks nets xs = walks nets xs ends in
    omega (
      arith,
      sum_below_mono (trails_of nets mine) (free_at nets (classes_of xs)) nets
          (λ h. row_trails nets mine xs h row),
      w.free,
      empty,
      low,
    )

pub ends_left : (row : Row) (kinds : List Kind) (left : List ℕ) (nets : ℕ) → All (IsKind nets) kinds
    → All (EndsBelow nets) (fingers_left row kinds left)
ends_left row [] left nets h = All-nil (EndsBelow nets)
ends_left row (k ∷ ks) [] nets h = All-nil (EndsBelow nets)
ends_left row (k ∷ ks) (c ∷ cs) nets h =
    let here : IsKind nets k = All-head (IsKind nets) k ks h in
    All-append (EndsBelow nets) (replicate c (finger_of row k)) (fingers_left row ks cs)
    (All-replicate (EndsBelow nets) c (finger_of row k) (omega (arith, here.order, here.ends), here.ends))
    (ends_left row ks cs nets (All-tail (IsKind nets) k ks h))

-- the fingers left are those of the row
is_row : (row : Row) (cs : List Column) (left : List Finger) → IsPermutation left (fingers_in row cs)
    → IsRow left (places row cs)
is_row row cs left h =
    let moved : IsPermutation left (fingers_of (places row cs)) =
    subst (IsPermutation left) (sym (fingers_of_places row cs)) h in
    let fs : List Finger = fingers_of (places row cs) in
    record {
      class = λ u. least_permuted left fs u moved;
      has = λ u. list_any-IsPermutation (λ (f : Finger). least_chained left f.lo.0 == u) left fs moved
          ∙ has_same (least_chained left) (least_chained fs) fs u (λ v. least_permuted left fs v moved);
      odd_nets = λ u. sym (odd_places row cs left u h);
    }

ends_in : (row : Row) (cs : List Column) (left : List Finger) (nets : ℕ) → IsPermutation left (fingers_in row cs)
    → All (EndsBelow nets) left → All (EndsBelow nets) (fingers_of (places row cs))
ends_in row cs left nets h ends = All-permutation (EndsBelow nets) left (fingers_of (places row cs))
    (subst (IsPermutation left) (sym (fingers_of_places row cs)) h) ends

-- no completion has fewer further gaps
pub component_holds : (k : Kinds) (s : State) (row : Row) → AreSomeKinds k → Need k s (component_value row s k)
unfolding component_value
component_holds k s P some cs h =
    let low : row_cost s.p_end (places P cs) ≤ further_gaps s cs =
    omega (arith, p_cost_le s.p_end s.n_end cs, cost_is s cs) in
    low_row k.nets s.p_end (places P cs) (left_in k s).p (left_in k s).n (further_gaps s cs)
    (is_row P cs (left_in k s).p h.p)
    (ends_in P cs (left_in k s).p k.nets h.p (ends_left P k.p s.p_left k.nets some.p))
    (empties_are P cs (left_in k s).p (left_in k s).n k.nets h.p (gates_left P k.p s.p_left k.nets some.p) h.fewest) low
component_holds k s N some cs h =
    let low : row_cost s.n_end (places N cs) ≤ further_gaps s cs =
    omega (arith, n_cost_le s.p_end s.n_end cs, cost_is s cs) in
    low_row k.nets s.n_end (places N cs) (left_in k s).n (left_in k s).p (further_gaps s cs)
    (is_row N cs (left_in k s).n h.n)
    (ends_in N cs (left_in k s).n k.nets h.n (ends_left N k.n s.n_left k.nets some.n))
    (empties_are N cs (left_in k s).n (left_in k s).p k.nets h.n (gates_left N k.n s.n_left k.nets some.n)
    (h.fewest ∙ most_turned (left_in k s).p (left_in k s).n k.nets)) low
