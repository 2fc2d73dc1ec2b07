-- What the parts of a placement amount to.
use Rattle.std.proofs.Common.{◌≡◌, ◌+◌, ◌<◌, ◌≤◌, List, length, inl, inr, refl, sym, subst, arith, All}
use Rattle.row_model.specs.declared.column.Column.{Column}
use Rattle.row_model.specs.Arrangement.{IsColumn}
use Rattle.row_place.specs.declared.placement.UnitKind.{UnitKind}
use Rattle.row_place.specs.declared.placement.NodePlace.{NodePlace}
use Rattle.row_place.specs.declared.placement.GatePlace.{GatePlace}
use Rattle.row_place.specs.declared.placement.Placement.{Placement}
use Rattle.row_place.specs.Units.{units_of, seats_of}
use Rattle.row_place.specs.Places.{StandsBefore, IsPlacement, placement_of}
use Rattle.row_place.specs.Steps.{nodes_below, gates_of}
use Rattle.row_place.proofs.Order.{same_list}
use Rattle.row_place.proofs.Nodes.{nodes_exact, nodes_in_order}
use Rattle.row_place.proofs.Gates.{gates_exact, gates_in_order}

pub placement_is : (row : List Column) → All IsColumn row → length row ≤ 32 → IsPlacement (placement_of row)
placement_is row columns few = record {
  columns = columns;
  few = few;
  units = refl;
  nodes = nodes_exact row;
  node_order = nodes_in_order (seats_of row) (length (units_of row) + 1);
  gates = gates_exact row columns;
  gate_order = gates_in_order row;
}

pub placed : (row : List Column) (p : Placement) → p ≡ placement_of row → All IsColumn row → length row ≤ 32 → IsPlacement p
placed row p is columns few = subst IsPlacement (sym is) (placement_is row columns few)

make : List Column → List UnitKind → List NodePlace → List GatePlace → Placement
make row units nodes gates = record { row = row; units = units; nodes = nodes; gates = gates }

made : {a b : List Column} {u v : List UnitKind} {n m : List NodePlace} {g h : List GatePlace} → a ≡ b → u ≡ v → n ≡ m → g ≡ h → make a u n g ≡ make b v m h
made ea eu en eg = cc

pub exact : (row copy : List Column) (units : List UnitKind) (nodes : List NodePlace) (gates : List GatePlace) → copy ≡ row → units ≡ units_of row → nodes ≡ nodes_below (seats_of row) (length units + 1) → gates ≡ gates_of (seats_of row) → (let p : Placement = record { row = copy; units = units; nodes = nodes; gates = gates } in p) ≡ placement_of row
unfolding make
exact row copy units nodes gates same is_units is_nodes is_gates = made same is_units (subst (λ u. nodes ≡ nodes_below (seats_of row) (length u + 1)) is_units is_nodes) is_gates

-- the order of node places is strict
strict : (a b : NodePlace) → StandsBefore a b → StandsBefore b a → ⊥
strict a b (inl e) (inl f) = omega (arith, e, f)
strict a b (inl e) (inr (f, _, _)) = omega (arith, e, f)
strict a b (inr (e, _, _)) (inl f) = omega (arith, e, f)
strict a b (inr (_, n, _)) (inr (_, _, p)) = absurd cc

-- a row has one placement
pub only_placement : (p : Placement) → IsPlacement p → p ≡ placement_of p.row
unfolding make
only_placement p is =
    let own : IsPlacement (placement_of p.row) = placement_is p.row is.columns is.few in
    made refl is.units
    (same_list StandsBefore strict p.nodes own_nodes is.node_order own.node_order (λ node there. (own.nodes node).1 ((is.nodes node).0 there)) (λ node there. (is.nodes node).1 ((own.nodes node).0 there)))
    (same_list (λ (a b : GatePlace). a.line < b.line) (λ a b e f. omega (arith, e, f)) p.gates own_gates is.gate_order own.gate_order (λ gate there. (own.gates gate).1 ((is.gates gate).0 there)) (λ gate there. (is.gates gate).1 ((own.gates gate).0 there)))
  where
    own_nodes : List NodePlace
    own_nodes = nodes_below (seats_of p.row) (length (units_of p.row) + 1)

    own_gates : List GatePlace
    own_gates = gates_of (seats_of p.row)
