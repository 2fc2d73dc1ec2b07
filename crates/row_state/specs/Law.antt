-- The law of the parity bound.
use Rattle.std.proofs.Common.{ℕ, ◌≡◌, ◌<◌, ◌≤◌, List, [], ◌∷◌, Option, Some, None, replicate, refl, arith, ◌∙◌, All}
use Rattle.std.proofs.lemmas.List.Elements.{All-append, All-head, All-nil, All-replicate, All-tail}
use Rattle.cell_num.specs.declared.finger.Row.{Row}
use Rattle.cell_num.specs.declared.finger.Row.TheVariants.{P, N}
use Rattle.cell_num.specs.declared.net.NetNo.{NetNo}
use Rattle.cell_num.specs.declared.finger.Finger.{Finger}
use Rattle.row_model.specs.declared.column.Placed.{Placed}
use Rattle.row_trails.specs.Trails.{Bounds, bounds, empties, n_cost_le, odd, p_cost_le, places, row_cost, size}
use Rattle.row_trails.specs.Trails.{size_same, toggle}
use Rattle.row_state.specs.declared.kind.Kind.{Kind}
use Rattle.row_state.specs.declared.kind.Kinds.{Kinds}
use Rattle.row_state.specs.declared.state.State.{State}
use Rattle.row_state.specs.Completion.{Need, further_gaps, fingers_left, finger_of, left_in}
use Rattle.row_state.specs.Start.{AreSomeKinds, IsKind}
use Rattle.row_state.specs.Trails.{cost_is}
use Rattle.row_state.specs.Parity.{is_odd, empty_left, parity_of, parity_value}
use Rattle.row_state.specs.Gates.{most, sum_below_same}
use Rattle.row_state.specs.Degrees.{odd_places, empties_are}

low_row : (nets : ℕ) (end : Option NetNo) (xs : List (Option Placed)) (mine other : List Finger) (cost : ℕ)
    → ((u : ℕ) → odd xs u ≡ is_odd mine u) → empties xs ≡ empty_left mine other nets → row_cost end xs ≤ cost
    → parity_of nets end mine other ≤ cost
low_row nets (Some v) xs mine other cost same empty low =
    let b : Bounds nets xs = bounds nets xs in
    let size_is : size nets (toggle v.0 (odd xs)) ≡ size nets (toggle v.0 (is_odd mine)) =
    size_same nets (toggle v.0 (odd xs)) (toggle v.0 (is_odd mine)) (λ u l. rw (same u) refl) in
    omega (arith, b.after v, size_is, empty, low)
low_row nets None xs mine other cost same empty low =
    let b : Bounds nets xs = bounds nets xs in
    let size_is : size nets (odd xs) ≡ size nets (is_odd mine) =
    size_same nets (odd xs) (is_odd mine) (λ u l. same u) in
    omega (arith, b.free, size_is, empty, low)

pub gates_left : (row : Row) (kinds : List Kind) (left : List ℕ) (nets : ℕ) → All (IsKind nets) kinds
    → All (λ (f : Finger). f.gate.0 < nets) (fingers_left row kinds left)
gates_left row [] left nets h = All-nil (λ (f : Finger). f.gate.0 < nets)
gates_left row (k ∷ ks) [] nets h = All-nil (λ (f : Finger). f.gate.0 < nets)
gates_left row (k ∷ ks) (c ∷ cs) nets h =
    let here : IsKind nets k = All-head (IsKind nets) k ks h in
    All-append (λ (f : Finger). f.gate.0 < nets) (replicate c (finger_of row k)) (fingers_left row ks cs)
    (All-replicate (λ (f : Finger). f.gate.0 < nets) c (finger_of row k) here.gate)
    (gates_left row ks cs nets (All-tail (IsKind nets) k ks h))

pub most_turned : (xs ys : List Finger) (nets : ℕ) → most xs ys nets ≡ most ys xs nets
most_turned xs ys nets = sum_below_same _ _ nets (λ g. omega arith)

-- no completion has fewer further gaps
pub parity_holds : (k : Kinds) (s : State) (row : Row) → AreSomeKinds k → Need k s (parity_value row s k)
parity_holds k s P some cs h =
    let low : row_cost s.p_end (places P cs) ≤ further_gaps s cs =
    omega (arith, p_cost_le s.p_end s.n_end cs, cost_is s cs) in
    low_row k.nets s.p_end (places P cs) (left_in k s).p (left_in k s).n (further_gaps s cs)
    (λ u. odd_places P cs (left_in k s).p u h.p)
    (empties_are P cs (left_in k s).p (left_in k s).n k.nets h.p (gates_left P k.p s.p_left k.nets some.p) h.fewest)
    low
parity_holds k s N some cs h =
    let low : row_cost s.n_end (places N cs) ≤ further_gaps s cs =
    omega (arith, n_cost_le s.p_end s.n_end cs, cost_is s cs) in
    low_row k.nets s.n_end (places N cs) (left_in k s).n (left_in k s).p (further_gaps s cs)
    (λ u. odd_places N cs (left_in k s).n u h.n)
    (empties_are N cs (left_in k s).n (left_in k s).p k.nets h.n (gates_left N k.n s.n_left k.nets some.n)
    (h.fewest ∙ most_turned (left_in k s).p (left_in k s).n k.nets)) low
