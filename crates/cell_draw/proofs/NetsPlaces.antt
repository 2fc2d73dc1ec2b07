-- The nets at the lines of a routed row, and the gates over its fingers.
use Rattle.std.proofs.Common.{ℕ, ◌≡◌, ◌+◌, ◌*◌, ◌<◌, ◌≤◌, ◌==◌, ◌&&◌, leb, Bool, true, List, [], Option, Some, None, inl, inr, refl, sym, ap, subst, ◌∙◌, arith, find, length, Contains, flat_map, option_map, slice_get}
use Rattle.std.proofs.lemmas.Bool.{cases_lt, eq-eqb, eqb-true, leb-true, le-leb, and_parts, and_from}
use Rattle.std.proofs.lemmas.List.Elements.{Contains-append_left, Contains-append_right}
use Rattle.cell_num.specs.declared.net.NetNo.{NetNo}
use Rattle.cell_num.specs.declared.finger.Row.{Row}
use Rattle.cell_num.specs.declared.finger.Row.TheVariants.{P, N}
use Rattle.cell_num.specs.Tests.{same_row}
use Rattle.cell_num.proofs.Decide.{row_decides}
use Rattle.cell_num.proofs.In.{contains_flat}
use Rattle.cell_num.proofs.Lists.{some_same, contains_get, contains_here, contains_filter_map, all_from_contains}
use Rattle.row_model.specs.declared.column.Placed.{Placed}
use Rattle.row_model.specs.declared.column.Column.{Column}
use Rattle.row_model.specs.Arrangement.{place, gate_in}
use Rattle.row_place.specs.declared.placement.NodePlace.{NodePlace}
use Rattle.row_place.specs.declared.placement.GatePlace.{GatePlace}
use Rattle.row_place.specs.declared.placement.Placement.{Placement}
use Rattle.row_place.specs.declared.placement.Seat.{Seat}
use Rattle.row_place.specs.Places.{IsPlacement}
use Rattle.row_place.specs.Steps.{gate_of}
use Rattle.row_place.specs.Units.{seats_of, unit_of}
use Rattle.row_place.proofs.Bounds.{node_line}
use Rattle.row_place.proofs.Seated.{seat_of}
use Rattle.row_place.proofs.Units.{same_seat}
use Rattle.channel_route.specs.declared.routing.Trunk.{Trunk}
use Rattle.row_compact.specs.Solution.{x_of}
use Rattle.cell_draw.specs.declared.layout.Frame.{Frame}
use Rattle.cell_draw.specs.declared.layout.Strip.{Strip}
use Rattle.cell_draw.specs.declared.layout.Gate.{Gate}
use Rattle.cell_draw.specs.Laid.{width_in}
use Rattle.cell_draw.specs.Layouts.{strip_of, strips_at, finger_width, gate_with, gate_at, gates_on, net_no}
use Rattle.cell_draw.specs.Sound.{AreLines}
use Rattle.cell_draw.proofs.BridgeFrom.{StripFrom, GateFrom, gate_from}
use Rattle.cell_draw.proofs.BridgeLines.{behind, same_line, units_rise}
use Rattle.cell_draw.proofs.BridgePlaces.{unit_last, one_node}
use Rattle.cell_draw.proofs.Found.{found_all, found_is, none_found}
use Rattle.cell_draw.proofs.NetsFacts.{IsOver}

-- ---- the net at a line of a row
abbrev stands_at : List ℕ → Row → ℕ → NodePlace → Bool
stands_at xs row x node = same_row node.row row && (x_of xs node.line == x)

abbrev net_or_none : Option NodePlace → NetNo
net_or_none None = net_no 0
net_or_none (Some node) = node.net

abbrev pub net_at : List NodePlace → List ℕ → Row → ℕ → NetNo
net_at nodes xs row x = net_or_none (find (stands_at xs row x) nodes)

pub net_at_node : (p : Placement) (xs : List ℕ) → IsPlacement p → AreLines p xs → (node : NodePlace) → Contains p.nodes node → net_at p.nodes xs node.row (x_of xs node.line) ≡ node.net
net_at_node p xs is lines node there = by (find (stands_at xs node.row (x_of xs node.line)) p.nodes) refl
  where
    here : stands_at xs node.row (x_of xs node.line) node ≡ true
    here = and_from (same_row node.row node.row) (x_of xs node.line == x_of xs node.line) ((row_decides node.row node.row).1 refl) (eq-eqb (x_of xs node.line) (x_of xs node.line) refl)

    by : (o : Option NodePlace) → find (stands_at xs node.row (x_of xs node.line)) p.nodes ≡ o → net_at p.nodes xs node.row (x_of xs node.line) ≡ node.net
    by None e = absurd (none_found (stands_at xs node.row (x_of xs node.line)) p.nodes node there here e)
    by (Some m) e =
        let test : stands_at xs node.row (x_of xs node.line) m ≡ true = found_is (stands_at xs node.row (x_of xs node.line)) p.nodes m e in
        let both = and_parts (same_row m.row node.row) (x_of xs m.line == x_of xs node.line) test in
        let listed : Contains p.nodes m = found_all (λ z. Contains p.nodes z) (stands_at xs node.row (x_of xs node.line)) p.nodes m (all_from_contains (λ z. Contains p.nodes z) p.nodes (λ z c. c)) e in
        let line : m.line ≡ node.line = same_line p xs lines m.line node.line (node_line p is m listed) (node_line p is node there) (eqb-true (x_of xs m.line) (x_of xs node.line) both.1) in
        let same : m ≡ node = one_node p is m node listed there ((row_decides m.row node.row).0 both.0) line in
        ap (λ o. net_or_none o) e ∙ ap (λ (z : NodePlace). z.net) same

-- ---- the gate over a strip
abbrev is_over : Strip → Gate → Bool
is_over s g = leb (s.left + 8) g.x && leb (g.x + 8) s.right

abbrev no_gate : Gate
no_gate = record { x = 0; net = net_no 0; n = None; p = None; track = None }

abbrev gate_or_none : Option Gate → Gate
gate_or_none None = no_gate
gate_or_none (Some g) = g

abbrev pub gate_over : List Gate → Strip → Gate
gate_over gates s = gate_or_none (find (is_over s) gates)

over_test : (s : Strip) (g : Gate) → IsOver s g → is_over s g ≡ true
over_test s g o = and_from (leb (s.left + 8) g.x) (leb (g.x + 8) s.right) (le-leb (s.left + 8) g.x o.left) (le-leb (g.x + 8) s.right o.right)

test_over : (s : Strip) (g : Gate) → is_over s g ≡ true → IsOver s g
test_over s g e = let both = and_parts (leb (s.left + 8) g.x) (leb (g.x + 8) s.right) e in record { left = leb-true (s.left + 8) g.x both.0; right = leb-true (g.x + 8) s.right both.1 }

-- a gate over a strip is that of its column
pub over_at : (p : Placement) (xs : List ℕ) (f : Frame) (trunks : List Trunk) → IsPlacement p → AreLines p xs → (g : Gate) (s : Strip) (a : GateFrom p.row f trunks xs g) (b : StripFrom p.row xs s) → IsOver s g → a.at ≡ b.at
over_at p xs f trunks is lines g s a b o = elim (cases_lt a.at b.at) [
  | inl less ↦
      let rise : unit_of p.row a.at < unit_of p.row b.at = units_rise p.row a.at b.at a.seat.column b.column less a.stands b.stands in
      absurd (omega (arith, o.left, a.x, b.left, behind p xs lines (2 * unit_of p.row a.at + 1) (2 * unit_of p.row b.at) 1 (omega (arith, rise)) (omega (arith, unit_last p is b.at b.column b.stands))))
  | inr le ↦ elim (cases_lt b.at a.at) [
    | inl less ↦
        let rise : unit_of p.row b.at < unit_of p.row a.at = units_rise p.row b.at a.at b.column a.seat.column less b.stands a.stands in
        absurd (omega (arith, o.right, a.x, b.right, behind p xs lines (2 * unit_of p.row b.at + 2) (2 * unit_of p.row a.at + 1) 1 (omega (arith, rise)) (omega (arith, unit_last p is a.at a.seat.column a.stands))))
    | inr ge ↦ omega (arith, le, ge)
  ]
]

-- the gate of a column stands over its fingers
at_over : (p : Placement) (xs : List ℕ) (f : Frame) (trunks : List Trunk) → IsPlacement p → AreLines p xs → (g : Gate) (s : Strip) (a : GateFrom p.row f trunks xs g) (b : StripFrom p.row xs s) → a.at ≡ b.at → IsOver s g
at_over p xs f trunks is lines g s a b at =
    let unit : unit_of p.row a.at ≡ unit_of p.row b.at = ap (λ n. unit_of p.row n) at in
    let last : 2 * unit_of p.row b.at + 2 ≤ 2 * length p.units = unit_last p is b.at b.column b.stands in
    let x : g.x ≡ x_of xs (2 * unit_of p.row b.at + 1) = a.x ∙ ap (λ n. x_of xs (2 * n + 1)) unit in
    record {
      left = omega (arith, x, b.left, behind p xs lines (2 * unit_of p.row b.at) (2 * unit_of p.row b.at + 1) 1 (omega arith) (omega (arith, last)));
      right = omega (arith, x, b.right, behind p xs lines (2 * unit_of p.row b.at + 1) (2 * unit_of p.row b.at + 2) 1 (omega arith) last);
    }

-- gates of one column are one
one_column : (p : Placement) (xs : List ℕ) (f : Frame) (trunks : List Trunk) → (g h : Gate) (a : GateFrom p.row f trunks xs g) (b : GateFrom p.row f trunks xs h) → a.at ≡ b.at → g ≡ h
one_column p xs f trunks g h a b at =
    let column : a.seat.column ≡ b.seat.column = some_same a.seat.column b.seat.column (sym a.stands ∙ ap (λ n. slice_get p.row n) at ∙ b.stands) in
    let seat : a.seat ≡ b.seat = same_seat a.seat b.seat column (a.unit ∙ ap (λ n. unit_of p.row n) at ∙ sym b.unit) in
    some_same g h (sym a.gives ∙ ap (λ s. gate_at f trunks xs s) seat ∙ b.gives)

some_gate : (side : Row) (column : Column) (x : Placed) → place side column ≡ Some x → (net : NetNo) × (gate_in column.p column.n ≡ Some net)
some_gate side column x e = by side column.p column.n refl refl e
  where
    by : (side : Row) (p n : Option Placed) → column.p ≡ p → column.n ≡ n → place side column ≡ Some x → (net : NetNo) × (gate_in p n ≡ Some net)
    by side (Some y) n ep en h = (y.finger.gate, refl)
    by side None (Some y) ep en h = (y.finger.gate, refl)
    by N None None ep en h = absurd (let wrong : None ≡ Some x = sym en ∙ h in cc)
    by P None None ep en h = absurd (let wrong : None ≡ Some x = sym ep ∙ h in cc)

abbrev seated : Column → ℕ → Seat
seated column unit = record { column = column; unit = unit }

-- the gate of a column
pub record ColumnGate (row : List Column) (f : Frame) (trunks : List Trunk) (xs : List ℕ) (at : ℕ) : Type 0 where
  pub gate : Gate
  pub listed : Contains (gates_on f trunks xs (seats_of row)) gate
  pub from : GateFrom row f trunks xs gate
  pub same_at : from.at ≡ at

pub column_gate : (p : Placement) (xs : List ℕ) (f : Frame) (trunks : List Trunk) → (at : ℕ) (column : Column) (side : Row) (x : Placed) → slice_get p.row at ≡ Some column → place side column ≡ Some x → ColumnGate p.row f trunks xs at
column_gate p xs f trunks at column side x stands filled =
    let seat : Seat = seated column (unit_of p.row at) in
    let net = some_gate side column x filled in
    let gate : GatePlace = record { line = 2 * seat.unit + 1; net = net.0 } in
    let placed : gate_of seat ≡ Some gate = ap (λ o. option_map (λ net. let gate : GatePlace = record { line = 2 * seat.unit + 1; net = net } in gate) o) net.1 in
    let g : Gate = gate_with f trunks xs seat gate in
    let gives : gate_at f trunks xs seat ≡ Some g = ap (λ o. option_map (gate_with f trunks xs seat) o) placed in
    let there : Contains (seats_of p.row) seat = contains_get (seats_of p.row) at seat (seat_of p.row at column stands) in
    record {
      gate = g;
      listed = contains_filter_map (gate_at f trunks xs) (seats_of p.row) seat g there gives;
      from = record {
        at = at;
        seat = seat;
        gives = gives;
        stands = stands;
        unit = refl;
        x = refl;
        place = gate;
        listed = contains_filter_map gate_of (seats_of p.row) seat gate there placed;
        line = refl;
        net = refl;
        gate = net.1;
        n = refl;
        p = refl;
        track = refl;
      };
      same_at = refl;
    }

-- each strip has a gate over it
pub strip_gate : (p : Placement) (xs : List ℕ) (f : Frame) (trunks : List Trunk) → IsPlacement p → AreLines p xs → (s : Strip) → StripFrom p.row xs s → Contains (gates_on f trunks xs (seats_of p.row)) (gate_over (gates_on f trunks xs (seats_of p.row)) s) × IsOver s (gate_over (gates_on f trunks xs (seats_of p.row)) s)
strip_gate p xs f trunks is lines s b = by (find (is_over s) (gates_on f trunks xs (seats_of p.row))) refl
  where
    c : ColumnGate p.row f trunks xs b.at
    c = column_gate p xs f trunks b.at b.column s.row b.finger b.stands b.filled

    by : (o : Option Gate) → find (is_over s) (gates_on f trunks xs (seats_of p.row)) ≡ o → Contains (gates_on f trunks xs (seats_of p.row)) (gate_over (gates_on f trunks xs (seats_of p.row)) s) × IsOver s (gate_over (gates_on f trunks xs (seats_of p.row)) s)
    by None e = absurd (none_found (is_over s) (gates_on f trunks xs (seats_of p.row)) c.gate c.listed (over_test s c.gate (at_over p xs f trunks is lines c.gate s c.from b c.same_at)) e)
    by (Some g) e =
        let same : g ≡ gate_over (gates_on f trunks xs (seats_of p.row)) s = sym (ap (λ o. gate_or_none o) e) in
        let listed : Contains (gates_on f trunks xs (seats_of p.row)) g = found_all (λ z. Contains (gates_on f trunks xs (seats_of p.row)) z) (is_over s) (gates_on f trunks xs (seats_of p.row)) g (all_from_contains (λ z. Contains (gates_on f trunks xs (seats_of p.row)) z) (gates_on f trunks xs (seats_of p.row)) (λ z there. there)) e in
        (subst (λ z. Contains (gates_on f trunks xs (seats_of p.row)) z) same listed, subst (λ z. IsOver s z) same (test_over s g (found_is (is_over s) (gates_on f trunks xs (seats_of p.row)) g e)))

-- no other gate stands over it
pub only_gate : (p : Placement) (xs : List ℕ) (f : Frame) (trunks : List Trunk) → IsPlacement p → AreLines p xs → (s : Strip) (g : Gate) → StripFrom p.row xs s → Contains (gates_on f trunks xs (seats_of p.row)) g → IsOver s g → g ≡ gate_over (gates_on f trunks xs (seats_of p.row)) s
only_gate p xs f trunks is lines s g b there o =
    let h = strip_gate p xs f trunks is lines s b in
    let other : Gate = gate_over (gates_on f trunks xs (seats_of p.row)) s in
    let c : GateFrom p.row f trunks xs g = gate_from p.row f trunks xs g there in
    let d : GateFrom p.row f trunks xs other = gate_from p.row f trunks xs other h.0 in
    one_column p xs f trunks g other c d (over_at p xs f trunks is lines g s c b o ∙ sym (over_at p xs f trunks is lines other s d b h.1))

known_width : (column : Column) (g : Gate) (row : Row) (width : ℕ) → g.n ≡ finger_width column.n → g.p ≡ finger_width column.p → width_in row g ≡ Some width → finger_width (place row column) ≡ Some width
known_width column g N width n p e = sym n ∙ e
known_width column g P width n p e = sym p ∙ e

some_width : (o : Option Placed) (width : ℕ) → finger_width o ≡ Some width → (x : Placed) × (o ≡ Some x) × (x.finger.width ≡ width)
some_width None width e = absurd cc
some_width (Some x) width e = (x, refl, some_same x.finger.width width e)

pub in_strips : (xs : List ℕ) (seat : Seat) (side : Row) (x : Placed) (s : Strip) → place side seat.column ≡ Some x → Contains (strip_of xs seat.unit side (Some x)) s → Contains (strips_at xs seat) s
in_strips xs seat N x s e c = Contains-append_left (strip_of xs seat.unit N seat.column.n) (strip_of xs seat.unit P seat.column.p) s (subst (λ o. Contains (strip_of xs seat.unit N o) s) (sym e) c)
in_strips xs seat P x s e c = Contains-append_right (strip_of xs seat.unit N seat.column.n) (strip_of xs seat.unit P seat.column.p) s (subst (λ o. Contains (strip_of xs seat.unit P o) s) (sym e) c)

abbrev pub strip_with : List ℕ → ℕ → Row → Placed → Strip
strip_with xs unit side x = record { row = side; left = x_of xs (2 * unit); right = x_of xs (2 * unit + 2); width = x.finger.width }

pub strip_listed : (row : List Column) (xs : List ℕ) (at : ℕ) (column : Column) (side : Row) (x : Placed) → slice_get row at ≡ Some column → place side column ≡ Some x → Contains (flat_map (strips_at xs) (seats_of row)) (strip_with xs (unit_of row at) side x)
strip_listed row xs at column side x stands filled =
    let seat : Seat = seated column (unit_of row at) in
    let s : Strip = strip_with xs (unit_of row at) side x in
    contains_flat (strips_at xs) (seats_of row) seat s (contains_get (seats_of row) at seat (seat_of row at column stands)) (in_strips xs seat side x s filled (contains_here s []))

-- a gate stands over the strips that it knows
pub gate_strip : (p : Placement) (xs : List ℕ) (f : Frame) (trunks : List Trunk) → IsPlacement p → AreLines p xs → (g : Gate) (row : Row) (width : ℕ) → GateFrom p.row f trunks xs g → width_in row g ≡ Some width → (s : Strip) × Contains (flat_map (strips_at xs) (seats_of p.row)) s × (s.row ≡ row) × (s.width ≡ width) × IsOver s g
gate_strip p xs f trunks is lines g row width a e =
    let w = some_width (place row a.seat.column) width (known_width a.seat.column g row width a.n a.p e) in
    let s : Strip = strip_with xs (unit_of p.row a.at) row w.0 in
    let listed : Contains (flat_map (strips_at xs) (seats_of p.row)) s = strip_listed p.row xs a.at a.seat.column row w.0 a.stands w.1 in
    let b : StripFrom p.row xs s = record { at = a.at; column = a.seat.column; finger = w.0; stands = a.stands; filled = w.1; left = refl; right = refl; width = refl } in
    (s, listed, refl, w.2, at_over p xs f trunks is lines g s a b refl)
