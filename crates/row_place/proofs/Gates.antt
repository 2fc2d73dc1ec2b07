-- The computed gate places are exactly those of the definition, in order.
use Rattle.std.proofs.Common.{ℕ, ◌≡◌, ◌+◌, ◌*◌, ◌<◌, ◌≤◌, ◌↔◌, List, [], ◌∷◌, Option, Some, None, length, refl, sym, ap, subst, arith, All, AllPairs, Contains, option_map}
use Rattle.std.specs.List.{cons_option}
use Rattle.std.proofs.lemmas.List.Elements.{All-contains}
use Rattle.std.proofs.lemmas.List.Kept.{AllPairs-cons}
use Rattle.cell_num.specs.declared.net.NetNo.{NetNo}
use Rattle.cell_num.specs.declared.finger.Row.{Row}
use Rattle.cell_num.specs.declared.finger.Row.TheVariants.{P, N}
use Rattle.row_model.specs.declared.column.Placed.{Placed}
use Rattle.row_model.specs.declared.column.Column.{Column}
use Rattle.row_model.specs.Arrangement.{place, AreOneColumn, IsColumn, gate_in}
use Rattle.row_place.specs.declared.placement.GatePlace.{GatePlace}
use Rattle.row_place.specs.declared.placement.Seat.{Seat}
use Rattle.row_place.specs.Units.{gap_between, unit_of, seats_from, seats_of}
use Rattle.row_place.specs.Places.{IsGate}
use Rattle.row_place.specs.Steps.{gate_of, gates_of}
use Rattle.cell_num.proofs.Lists.{some_same, contains_get, contains_filter_map, Kept, kept_from, all_from_contains}
use Rattle.row_place.proofs.Units.{SitsAt, seat_at, seat_from, unit_from}

abbrev the_gate : ℕ → NetNo → GatePlace
the_gate line net = record { line = line; net = net }

-- a finger whose gate it is
pub record GateOf (p n : Option Placed) (net : NetNo) : Type 0 where
  pub side : Row
  pub finger : Placed
  pub filled : place side (let column : Column = record { p = p; n = n } in column) ≡ Some finger
  pub is : net ≡ finger.finger.gate

gate_from : (p n : Option Placed) (net : NetNo) → gate_in p n ≡ Some net → GateOf p n net
gate_from (Some x) n net e = record { side = P; finger = x; filled = refl; is = sym (some_same _ _ e) }
gate_from None (Some y) net e = record { side = N; finger = y; filled = refl; is = sym (some_same _ _ e) }
gate_from None None net e = absurd cc

-- a column has one gate
one_gate : (p n : Option Placed) (side : Row) (x : Placed) → AreOneColumn p n → place side (let column : Column = record { p = p; n = n } in column) ≡ Some x → gate_in p n ≡ Some x.finger.gate
one_gate (Some y) n P x one e = ap (λ (z : Placed). Some z.finger.gate) (some_same y x e)
one_gate None n P x one e = absurd cc
one_gate None (Some y) N x one e = ap (λ (z : Placed). Some z.finger.gate) (some_same y x e)
one_gate (Some z) (Some y) N x one e = let here : y.finger.gate ≡ x.finger.gate = ap (λ (z : Placed). z.finger.gate) (some_same y x e) in let same = one.0 in cc
one_gate p None N x one e = absurd cc

-- the gate place that a seat gives
pub record GateAt (s : Seat) (gate : GatePlace) : Type 0 where
  pub line : gate.line ≡ 2 * s.unit + 1
  pub net : gate_in s.column.p s.column.n ≡ Some gate.net

gate_at : (s : Seat) (gate : GatePlace) → gate_of s ≡ Some gate → GateAt s gate
gate_at s gate e = go (gate_in s.column.p s.column.n) refl e
  where
    go : (o : Option NetNo) → gate_in s.column.p s.column.n ≡ o → option_map (λ net. the_gate (2 * s.unit + 1) net) o ≡ Some gate → GateAt s gate
    go None is e = absurd cc
    go (Some net) is e =
        let same : the_gate (2 * s.unit + 1) net ≡ gate = some_same _ _ e in
        record { line = ap (λ (z : GatePlace). z.line) (sym same); net = subst (λ (z : GatePlace). gate_in s.column.p s.column.n ≡ Some z.net) same is }

gate_gives : (s : Seat) (net : NetNo) → gate_in s.column.p s.column.n ≡ Some net → gate_of s ≡ Some (the_gate (2 * s.unit + 1) net)
gate_gives s net e = ap (λ o. option_map (λ m. the_gate (2 * s.unit + 1) m) o) e

pub gates_exact : (row : List Column) → All IsColumn row → (gate : GatePlace) → Contains (gates_of (seats_of row)) gate ↔ IsGate row gate
gates_exact row columns gate = (sound, complete)
  where
    sound : Contains (gates_of (seats_of row)) gate → IsGate row gate
    sound there =
        let kept : Kept gate_of (seats_of row) gate = kept_from gate_of (seats_of row) gate there in
        let sits : SitsAt row kept.from = seat_at row kept.from kept.there in
        let is : GateAt kept.from gate = gate_at kept.from gate kept.gives in
        let of : GateOf kept.from.column.p kept.from.column.n gate.net = gate_from kept.from.column.p kept.from.column.n gate.net is.net in
        record { at = sits.at; column = kept.from.column; side = of.side; finger = of.finger; stands = sits.stands; filled = of.filled; line = subst (λ u. gate.line ≡ 2 * u + 1) sits.unit is.line; net = of.is }

    complete : IsGate row gate → Contains (gates_of (seats_of row)) gate
    complete h =
        let seat : Seat = record { column = h.column; unit = unit_of row h.at } in
        let one : IsColumn h.column = All-contains IsColumn row h.column columns (contains_get row h.at h.column h.stands) in
        let net : gate_in h.column.p h.column.n ≡ Some gate.net = subst (λ m. gate_in h.column.p h.column.n ≡ Some m) (sym h.net) (one_gate h.column.p h.column.n h.side h.finger one h.filled) in
        contains_filter_map gate_of (seats_of row) seat gate (seat_from row seat h.at h.stands refl) (subst (λ l. gate_of seat ≡ Some (the_gate l gate.net)) (sym h.line) (gate_gives seat gate.net net))

-- in order of line
gates_from : (unit : ℕ) (before : Option Column) (row : List Column) → AllPairs (λ a b. a.line < b.line) (gates_of (seats_from unit before row))
gates_from unit before [] = λ i j d less short. absurd (omega (arith, short))
gates_from unit before (c ∷ row) = go (gate_of here) refl (gates_from (here.unit + 1) (Some c) row)
  where
    here : Seat
    here = record { column = c; unit = unit + length (gap_between before c) }

    go : (o : Option GatePlace) → gate_of here ≡ o → AllPairs (λ a b. a.line < b.line) (gates_of (seats_from (here.unit + 1) (Some c) row)) → AllPairs (λ a b. a.line < b.line) (gates_of (seats_from unit before (c ∷ row)))
    go None e rest = subst (λ o. AllPairs (λ a b. a.line < b.line) (cons_option o (gates_of (seats_from (here.unit + 1) (Some c) row)))) (sym e) rest
    go (Some gate) e rest =
        let is : GateAt here gate = gate_at here gate e in
        subst (λ o. AllPairs (λ a b. a.line < b.line) (cons_option o (gates_of (seats_from (here.unit + 1) (Some c) row)))) (sym e)
        (AllPairs-cons (λ a b. a.line < b.line) gate (gates_of (seats_from (here.unit + 1) (Some c) row)) (all_from_contains _ (gates_of (seats_from (here.unit + 1) (Some c) row)) (λ other there. behind gate is other there)) rest)
      where
        behind : (gate : GatePlace) → GateAt here gate → (other : GatePlace) → Contains (gates_of (seats_from (here.unit + 1) (Some c) row)) other → gate.line < other.line
        behind gate is other there =
            let kept : Kept gate_of (seats_from (here.unit + 1) (Some c) row) other = kept_from gate_of (seats_from (here.unit + 1) (Some c) row) other there in
            let far : here.unit + 1 ≤ kept.from.unit = unit_from (here.unit + 1) (Some c) row kept.from kept.there in
            let at : GateAt kept.from other = gate_at kept.from other kept.gives in
            omega (arith, is.line, at.line, far)

pub gates_in_order : (row : List Column) → AllPairs (λ a b. a.line < b.line) (gates_of (seats_of row))
gates_in_order row = gates_from 0 None row
