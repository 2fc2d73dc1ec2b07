-- How many units, lines and places a placement has.
use Rattle.std.proofs.Common.{ℕ, zero, suc, ◌≡◌, ◌+◌, ◌*◌, ◌<◌, ◌≤◌, ◌⊎◌, List, [], ◌∷◌, Option, Some, None, length, filter_map, inl, inr, refl, sym, ap, subst, arith, All, AllPairs, Contains, get_or, length-append}
use Rattle.std.specs.List.{cons_option}
use Rattle.std.proofs.lemmas.Bool.{cases_Bool}
use Rattle.cell_num.specs.declared.finger.Row.{Row}
use Rattle.cell_num.specs.declared.finger.Row.TheVariants.{P, N}
use Rattle.row_model.specs.declared.column.Column.{Column}
use Rattle.row_model.specs.Gaps.{is_gap, left_net, right_net}
use Rattle.row_place.specs.declared.placement.UnitKind.TheVariants.{Column as ColumnUnit}
use Rattle.row_place.specs.declared.placement.NodePlace.{NodePlace}
use Rattle.row_place.specs.declared.placement.GatePlace.{GatePlace}
use Rattle.row_place.specs.declared.placement.Placement.{Placement}
use Rattle.row_place.specs.Units.{gap_between, units_behind, units_of, unit_of, seats_of}
use Rattle.row_place.specs.Places.{IsNode, IsGate, StandsBefore, IsPlacement}
use Rattle.row_place.specs.Steps.{gate_of}
use Rattle.cell_num.proofs.Lists.{all_from_contains}
use Rattle.row_place.proofs.Units.{unit_below}
use Rattle.row_place.proofs.Apart.{nodes_apart}
use Rattle.row_place.proofs.Seated.{seat_count}
use Rattle.row_place.proofs.Placed.{only_placement}

at_most_one : (before : Option Column) (c : Column) → length (gap_between before c) ≤ 1
at_most_one None c = omega arith
at_most_one (Some b) c = elim (cases_Bool (is_gap (b, c))) [ inl gap ↦ rw gap (omega arith) | inr joined ↦ rw joined (omega arith) ]

units_few : (before : Option Column) (row : List Column) → length (units_behind before row) ≤ 2 * length row
units_few before [] = omega arith
units_few before (c ∷ row) = omega (arith, at_most_one before c, units_few (Some c) row, length-append (gap_between before c) (ColumnUnit ∷ units_behind (Some c) row))

-- before the first column stands no gap
pub few_units : (row : List Column) → length row ≤ 32 → length (units_of row) ≤ 63
few_units [] few = omega arith
few_units (c ∷ row) few = omega (arith, few, units_few (Some c) row)

pub node_line : (p : Placement) → IsPlacement p → (node : NodePlace) → Contains p.nodes node → node.line ≤ 2 * length p.units
node_line p is node there = by h.end
  where
    h : IsNode p.row node
    h = (is.nodes node).0 there

    below : unit_of p.row h.at < length (units_of p.row)
    below = unit_below p.row h.at h.column h.stands

    by : ((node.line ≡ 2 * unit_of p.row h.at) × (node.net ≡ left_net h.finger)) ⊎ ((node.line ≡ 2 * unit_of p.row h.at + 2) × (node.net ≡ right_net h.finger)) → node.line ≤ 2 * length p.units
    by (inl (e, _)) = omega (arith, e, below, ap length is.units)
    by (inr (e, _)) = omega (arith, e, below, ap length is.units)

pub gate_line : (p : Placement) → IsPlacement p → (gate : GatePlace) → Contains p.gates gate → gate.line < 2 * length p.units
gate_line p is gate there =
    let h : IsGate p.row gate = (is.gates gate).0 there in
    omega (arith, h.line, unit_below p.row h.at h.column h.stands, ap length is.units)

-- a list on which a number rises has at most as many elements as the number has values
rises : {X : Type 0} (f : X → ℕ) (xs : List X) (d : X) → AllPairs (λ a b. f a < f b) xs → (i : ℕ) → i < length xs → i ≤ f (get_or xs i d)
rises f xs d up zero short = omega arith
rises f xs d up (suc i) short =
    let step : f (get_or xs i d) < f (get_or xs (suc i) d) = up i (suc i) d (omega arith) short in
    omega (arith, step, rises f xs d up i (omega (arith, short)))

pub length_from_rising : {X : Type 0} (f : X → ℕ) (xs : List X) (n : ℕ) → AllPairs (λ a b. f a < f b) xs → All (λ x. f x < n) xs → length xs ≤ n
length_from_rising f [] n up below = omega arith
length_from_rising f (x ∷ xs) n up below =
    let last : length xs ≤ f (get_or (x ∷ xs) (length xs) x) = rises f (x ∷ xs) x up (length xs) (omega arith) in
    let top : f (get_or (x ∷ xs) (length xs) x) < n = below (length xs) x (omega arith) in
    omega (arith, last, top)

-- the order of node places as a number: node lines are even, so the place over one is counted at the line behind it
side : Row → ℕ
side N = 0
side P = 1

abbrev rank : NodePlace → ℕ
rank node = node.line + side node.row

side_below : (row : Row) → side row < 2
unfolding side
side_below N = omega arith
side_below P = omega arith

rank_rises : (row : List Column) (a b : NodePlace) → IsNode row a → IsNode row b → StandsBefore a b → rank a < rank b
unfolding side
rank_rises row a b ha hb (inl less) = omega (arith, nodes_apart row a b ha hb less, side_below a.row, side_below b.row)
rank_rises row a b ha hb (inr (same, n, p)) =
    let zero_side : side a.row ≡ 0 = ap side n in
    let one_side : side b.row ≡ 1 = ap side p in
    omega (arith, same, zero_side, one_side)

pub few_nodes : (p : Placement) → IsPlacement p → length p.nodes ≤ 128
few_nodes p is = length_from_rising rank p.nodes 128 (λ i j d less short. rank_rises p.row (get_or p.nodes i d) (get_or p.nodes j d) (all i d (omega (arith, less, short))) (all j d short) (is.node_order i j d less short))
    (all_from_contains (λ node. rank node < 128) p.nodes (λ node there. omega (arith, node_line p is node there, side_below node.row, few_units p.row is.few, ap length is.units)))
  where
    all : All (IsNode p.row) p.nodes
    all = all_from_contains (IsNode p.row) p.nodes (λ node there. (is.nodes node).0 there)

-- what a map that may give nothing gives is at most as much
length_kept : {X Y : Type 0} (f : X → Option Y) (xs : List X) → length (filter_map f xs) ≤ length xs
length_kept f [] = omega arith
length_kept {X} {Y} f (x ∷ xs) = by (f x) refl (length_kept f xs)
  where
    by : (o : Option Y) → f x ≡ o → length (filter_map f xs) ≤ length xs → length (filter_map f (x ∷ xs)) ≤ length (x ∷ xs)
    by None e rest = subst (λ z. length (cons_option z (filter_map f xs)) ≤ length (x ∷ xs)) (sym e) (omega (arith, rest))
    by (Some y) e rest = subst (λ z. length (cons_option z (filter_map f xs)) ≤ length (x ∷ xs)) (sym e) (omega (arith, rest))

-- a column has one gate at most
pub few_gates : (p : Placement) → IsPlacement p → length p.gates ≤ 32
few_gates p is = omega (arith, ap (λ (q : Placement). length q.gates) (only_placement p is), length_kept gate_of (seats_of p.row), seat_count p.row, is.few)
