-- In an arrangement of a cell's fingers each pin other than the rails has a place.
use Rattle.std.proofs.Common.{ℕ, ◌≡◌, ◌+◌, ◌*◌, ◌<◌, ◌==◌, true, List, [], ◌∷◌, Option, Some, None, map, filter, length, inl, inr, refl, sym, subst, arith, Contains, slice_get, option_map, length-append}
use Rattle.std.proofs.lemmas.Bool.{cases_Bool}
use Rattle.std.proofs.lemmas.Option.{slice_get-get_or}
use Rattle.std.proofs.lemmas.List.Sorted.{Contains-permutation}
use Rattle.cell_num.specs.declared.net.NetNo.{NetNo}
use Rattle.cell_num.specs.declared.net.Pins.{Pins}
use Rattle.cell_num.specs.declared.finger.Row.{Row}
use Rattle.cell_num.specs.declared.finger.Row.TheVariants.{P, N}
use Rattle.cell_num.specs.declared.finger.Finger.{Finger}
use Rattle.cell_num.specs.declared.finger.Fingers.{Fingers}
use Rattle.cell_num.specs.Pins.{ArePins}
use Rattle.cell_num.specs.Fingers.{Meets, AreSound}
use Rattle.row_model.specs.declared.column.Placed.{Placed}
use Rattle.row_model.specs.declared.column.Column.{Column}
use Rattle.row_model.specs.Arrangement.{place, fingers_in, IsArrangement}
use Rattle.row_model.specs.Gaps.{left_net, right_net}
use Rattle.row_model.proofs.Decide.{net_decides}
use Rattle.row_place.specs.declared.placement.NodePlace.{NodePlace}
use Rattle.row_place.specs.declared.placement.GatePlace.{GatePlace}
use Rattle.row_place.specs.Units.{unit_of}
use Rattle.row_place.specs.Places.{IsNode, IsGate, placement_of}
use Rattle.row_place.specs.Trunks.{lines_of, HasPins}
use Rattle.cell_num.proofs.Lists.{some_same, contains_none, contains_cons, Kept, kept_from}
use Rattle.row_place.proofs.Nodes.{nodes_exact}
use Rattle.row_place.proofs.Gates.{gates_exact}

-- where the net of an element is n, the elements of n have a line
some_line : {X : Type 0} (net : X → NetNo) (line : X → ℕ) (xs : List X) (x : X) (n : NetNo) → Contains xs x → net x ≡ n → 0 < length (map line (filter (λ y. (net y).0 == n.0) xs))
some_line net line [] x n there is = absurd (contains_none x there)
some_line net line (y ∷ ys) x n there is =
    elim (cases_Bool ((net y).0 == n.0)) [
      | inl same ↦ rw same (omega arith)
      | inr other ↦ rw other (elim (contains_cons y ys x there) [
        | inl first ↦ absurd (let yes' : ((net y).0 == n.0) ≡ true = (net_decides (net y) n).1 (subst (λ z. net z ≡ n) (sym first) is) in cc)
        | inr rest ↦ some_line net line ys x n rest is
      ])
    ]

-- where a finger of a row stands
pub record Stands (side : Row) (row : List Column) (x : Finger) : Type 0 where
  pub at : ℕ
  pub column : Column
  pub placed : Placed
  pub stands : slice_get row at ≡ Some column
  pub filled : place side column ≡ Some placed
  pub is : placed.finger ≡ x

stands_in : (side : Row) (row : List Column) (x : Finger) → Contains (fingers_in side row) x → Stands side row x
stands_in side row x there =
    let kept : Kept (λ column. option_map (λ (z : Placed). z.finger) (place side column)) row x = kept_from (λ column. option_map (λ (z : Placed). z.finger) (place side column)) row x there in
    at kept (place side kept.from) refl kept.gives
  where
    at : (kept : Kept (λ column. option_map (λ (z : Placed). z.finger) (place side column)) row x) (o : Option Placed) → place side kept.from ≡ o → option_map (λ (z : Placed). z.finger) o ≡ Some x → Stands side row x
    at kept None e h = absurd cc
    at kept (Some z) e h = record {
      at = kept.there.0;
      column = kept.from;
      placed = z;
      stands = subst (λ c. slice_get row kept.there.0 ≡ Some c) kept.there.2 (slice_get-get_or row kept.there.0 kept.from kept.there.1);
      filled = e;
      is = some_same z.finger x h;
    }

-- its gate and its ends are places
met_placed : (side : Row) (f : Fingers) (row : List Column) (net : NetNo) → IsArrangement row f → (x : Finger) → Contains (fingers_in side row) x → Meets net x → 0 < length (lines_of (placement_of row) net)
met_placed side f row net arranged x there meets = by (subst (λ y. Meets net y) (sym s.is) meets)
  where
    s : Stands side row x
    s = stands_in side row x there

    nodes : ℕ
    nodes = length (map (λ (node : NodePlace). node.line) (filter (λ (node : NodePlace). node.net.0 == net.0) (placement_of row).nodes))

    gate : s.placed.finger.gate ≡ net → 0 < length (lines_of (placement_of row) net)
    gate e =
        let here : GatePlace = record { line = 2 * unit_of row s.at + 1; net = s.placed.finger.gate } in
        let is : IsGate row here = record { at = s.at; column = s.column; side = side; finger = s.placed; stands = s.stands; filled = s.filled; line = refl; net = refl } in
        omega (arith, some_line (λ (g : GatePlace). g.net) (λ (g : GatePlace). g.line) (placement_of row).gates here net ((gates_exact row arranged.columns here).1 is) e, length-append (map (λ (node : NodePlace). node.line) (filter (λ (node : NodePlace). node.net.0 == net.0) (placement_of row).nodes)) (map (λ (g : GatePlace). g.line) (filter (λ (g : GatePlace). g.net.0 == net.0) (placement_of row).gates)))

    node : (here : NodePlace) → IsNode row here → here.net ≡ net → 0 < length (lines_of (placement_of row) net)
    node here is e =
        omega (arith, some_line (λ (n : NodePlace). n.net) (λ (n : NodePlace). n.line) (placement_of row).nodes here net ((nodes_exact row here).1 is) e, length-append (map (λ (node : NodePlace). node.line) (filter (λ (node : NodePlace). node.net.0 == net.0) (placement_of row).nodes)) (map (λ (g : GatePlace). g.line) (filter (λ (g : GatePlace). g.net.0 == net.0) (placement_of row).gates)))

    left : left_net s.placed ≡ net → 0 < length (lines_of (placement_of row) net)
    left e = node (record { row = side; line = 2 * unit_of row s.at; net = left_net s.placed }) (record { at = s.at; column = s.column; finger = s.placed; stands = s.stands; filled = s.filled; end = inl (refl, refl) }) e

    right : right_net s.placed ≡ net → 0 < length (lines_of (placement_of row) net)
    right e = node (record { row = side; line = 2 * unit_of row s.at + 2; net = right_net s.placed }) (record { at = s.at; column = s.column; finger = s.placed; stands = s.stands; filled = s.filled; end = inr (refl, refl) }) e

    by : Meets net s.placed.finger → 0 < length (lines_of (placement_of row) net)
    by (inl e) = gate e
    by (inr (inl e)) =
        elim (cases_Bool s.placed.flipped) [
          | inl turned ↦ right (rw turned e)
          | inr straight ↦ left (rw straight e)
        ]
    by (inr (inr e)) =
        elim (cases_Bool s.placed.flipped) [
          | inl turned ↦ left (rw turned e)
          | inr straight ↦ right (rw straight e)
        ]

pub has_pins : (names : List (List ℕ)) (pins : Pins) (f : Fingers) (row : List Column) → AreSound names pins f → ArePins f.nets pins → IsArrangement row f → HasPins (placement_of row) pins
has_pins names pins f row sound are_pins arranged net pin no_rail =
    elim (sound.met net (omega (arith, pin, are_pins.named)) no_rail) [
      | inl (k, x, short, is, meets) ↦ met_placed P f row net arranged x (Contains-permutation f.p (fingers_in P row) x arranged.p (k, short, is)) meets
      | inr (k, x, short, is, meets) ↦ met_placed N f row net arranged x (Contains-permutation f.n (fingers_in N row) x arranged.n (k, short, is)) meets
    ]
