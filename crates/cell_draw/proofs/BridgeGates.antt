-- The fields of IsLaid on gates.
use Rattle.std.proofs.Common.{ℕ, ◌≡◌, ◌+◌, ◌*◌, ◌<◌, ◌≤◌, ◌⊎◌, List, Option, Some, None, length, inl, inr, refl, sym, ap, subst, ◌∙◌, arith, All, Contains, slice_get}
use Rattle.std.proofs.lemmas.Bool.{cases_eq, cases_lt}
use Rattle.std.proofs.lemmas.List.Elements.{All-contains}
use Rattle.cell_num.specs.declared.net.NetNo.{NetNo}
use Rattle.cell_num.specs.declared.net.Pins.{Pins}
use Rattle.cell_num.specs.declared.finger.Row.{Row}
use Rattle.cell_num.specs.declared.finger.Row.TheVariants.{P, N}
use Rattle.cell_num.proofs.Lists.{some_same, contains_get}
use Rattle.row_model.specs.declared.column.Placed.{Placed}
use Rattle.row_model.specs.declared.column.Column.{Column}
use Rattle.row_model.specs.Arrangement.{place, gate_in}
use Rattle.row_place.specs.declared.placement.Placement.{Placement}
use Rattle.row_place.specs.declared.placement.UnitKind.TheVariants.{Column as ColumnUnit}
use Rattle.row_place.specs.Places.{IsPlacement}
use Rattle.row_place.specs.Trunks.{IsContacted}
use Rattle.row_place.specs.Units.{unit_of}
use Rattle.row_place.proofs.Apart.{even_node}
use Rattle.row_place.proofs.Bounds.{node_line}
use Rattle.row_place.proofs.Units.{same_seat}
use Rattle.channel_route.specs.declared.routing.Routing.{Routing}
use Rattle.channel_route.specs.declared.routing.Trunk.{Trunk}
use Rattle.channel_route.specs.Wiring.{IsWiring}
use Rattle.cell_num.proofs.Pairs.{any_at}
use Rattle.row_compact.specs.Solution.{x_of}
use Rattle.row_compact.specs.Allowed.{AreAllowed, HasContact, stretches_of}
use Rattle.cell_draw.specs.declared.layout.Frame.{Frame}
use Rattle.cell_draw.specs.declared.layout.Strip.{Strip}
use Rattle.cell_draw.specs.declared.layout.Contact.{Contact}
use Rattle.cell_draw.specs.declared.layout.Gate.{Gate}
use Rattle.cell_draw.specs.Frame.{height_of}
use Rattle.cell_draw.specs.Laid.{width_in, AreFar, IsWidth, HasFinger, IsGate, Crosses}
use Rattle.row_compact.proofs.Decide.{rail_decides}
use Rattle.cell_draw.specs.Layouts.{width_of, finger_width, gate_at}
use Rattle.cell_draw.specs.Small.{IsFingerWidth, HasWidths}
use Rattle.cell_draw.specs.Sound.{AreLines}
use Rattle.cell_draw.proofs.BridgeLines.{behind, units_rise, column_unit}
use Rattle.cell_draw.proofs.BridgeRow.{height_holds}
use Rattle.cell_draw.proofs.BridgeFrom.{StripFrom, ContactFrom, Kind, rail, signal, GateFrom, ReachFrom, reach_from}
use Rattle.cell_draw.proofs.BridgePlaces.{unit_last, inside}

-- where a row has a finger of a column its width is one of a finger
gate_width : (o : Option Placed) (height : ℕ) → IsFingerWidth o → ((x : Placed) → o ≡ Some x → x.finger.width ≤ height) → IsWidth height (finger_width o)
gate_width None height w h = tt
gate_width (Some x) height w h = (w.0, h x refl)

some_finger : (p n : Option Placed) (net : NetNo) → gate_in p n ≡ Some net → HasFinger (finger_width n) (finger_width p)
some_finger (Some x) (Some y) net e = tt
some_finger (Some x) None net e = tt
some_finger None (Some y) net e = tt
some_finger None None net e = absurd cc

pub gate_is : (p : Placement) (xs : List ℕ) (f : Frame) (trunks : List Trunk) → IsPlacement p → AreLines p xs → All HasWidths p.row → f.width ≡ width_of p xs → f.n_height ≡ height_of N p.row → f.p_height ≡ height_of P p.row → (g : Gate) → GateFrom p.row f trunks xs g → IsGate f g
gate_is p xs f trunks is lines widths width hn hp g from =
    let there : Contains p.row from.seat.column = contains_get p.row from.at from.seat.column from.stands in
    let w : HasWidths from.seat.column = All-contains HasWidths p.row from.seat.column widths there in
    record {
      inside = inside p xs f is lines width (2 * unit_of p.row from.at + 1) (omega (arith, unit_last p is from.at from.seat.column from.stands)) g.x from.x;
      n = subst (λ o. IsWidth f.n_height o) (sym from.n) (gate_width from.seat.column.n f.n_height w.n (λ x e. omega (arith, hn, height_holds N p.row from.seat.column x there e)));
      p = subst (λ o. IsWidth f.p_height o) (sym from.p) (gate_width from.seat.column.p f.p_height w.p (λ x e. omega (arith, hp, height_holds P p.row from.seat.column x there e)));
      finger = subst (λ o. HasFinger g.n o) (sym from.p) (subst (λ o. HasFinger o (finger_width from.seat.column.p)) (sym from.n) (some_finger from.seat.column.p from.seat.column.n from.place.net from.gate));
    }

far_gates : (p : Placement) (xs : List ℕ) (f : Frame) (trunks : List Trunk) → IsPlacement p → AreLines p xs → (g h : Gate) (a : GateFrom p.row f trunks xs g) (b : GateFrom p.row f trunks xs h) → a.at < b.at → g.x + 16 ≤ h.x
far_gates p xs f trunks is lines g h a b less =
    let rise : unit_of p.row a.at < unit_of p.row b.at = units_rise p.row a.at b.at a.seat.column b.seat.column less a.stands b.stands in
    omega (arith, a.x, b.x, behind p xs lines (2 * unit_of p.row a.at + 1) (2 * unit_of p.row b.at + 1) 2 (omega (arith, rise)) (omega (arith, unit_last p is b.at b.seat.column b.stands)))

pub gate_spread : (p : Placement) (xs : List ℕ) (f : Frame) (trunks : List Trunk) → IsPlacement p → AreLines p xs → (g h : Gate) → GateFrom p.row f trunks xs g → GateFrom p.row f trunks xs h → (g ≡ h) ⊎ AreFar 16 g.x h.x
gate_spread p xs f trunks is lines g h a b = elim (cases_lt a.at b.at) [
  | inl less ↦ inr (inl (far_gates p xs f trunks is lines g h a b less))
  | inr le ↦ elim (cases_lt b.at a.at) [
    | inl less ↦ inr (inr (far_gates p xs f trunks is lines h g b a less))
    | inr ge ↦
        let at : a.at ≡ b.at = omega (arith, le, ge) in
        let column : a.seat.column ≡ b.seat.column = some_same a.seat.column b.seat.column (sym a.stands ∙ ap (λ n. slice_get p.row n) at ∙ b.stands) in
        let seat : a.seat ≡ b.seat = same_seat a.seat b.seat column (a.unit ∙ ap (λ n. unit_of p.row n) at ∙ sym b.unit) in
        inl (some_same g h (sym a.gives ∙ ap (λ s. gate_at f trunks xs s) seat ∙ b.gives))
  ]
]

-- the place of a contact is contacted
contacted : (p : Placement) (xs : List ℕ) (f : Frame) (pins : Pins) (r : Routing) → IsWiring p pins r → (c : Contact) (a : ContactFrom f pins r.trunks xs p.nodes c) → IsContacted p pins a.node
contacted p xs f pins r wiring c a = by c.reach a.kind
  where
    by : (reach : Option ℕ) → Kind f pins r.trunks a.node reach → IsContacted p pins a.node
    by reach (rail is none) = inl ((rail_decides pins a.node.net).0 is)
    by reach (signal not is y e) =
        let from : ReachFrom f r.trunks a.node y = reach_from f r.trunks a.node y (sym is ∙ e) in
        inr ((wiring.nets a.node.net).1 (any_at (λ (t : Trunk). t.net ≡ a.node.net) r.trunks from.far.trunk from.far.listed from.far.of))

pub beside : (p : Placement) (xs : List ℕ) (f : Frame) (pins : Pins) (r : Routing) → IsPlacement p → IsWiring p pins r → AreAllowed p pins (stretches_of r.trunks) xs → AreLines p xs → (c : Contact) (g : Gate) → ContactFrom f pins r.trunks xs p.nodes c → GateFrom p.row f r.trunks xs g → AreFar 11 c.x g.x
beside p xs f pins r is wiring allowed lines c g a b = by (even_node p.row a.node ((is.nodes a.node).0 a.there))
  where
    unit : slice_get p.units (unit_of p.row b.at) ≡ Some ColumnUnit
    unit = subst (λ z. slice_get z (unit_of p.row b.at) ≡ Some ColumnUnit) (sym is.units) (column_unit p.row b.at b.seat.column b.stands)

    contact : (line : ℕ) → a.node.line ≡ line → HasContact p pins line
    contact line e = record { node = a.node; there = a.there; at = e; contacted = contacted p xs f pins r wiring c a }

    by : (half : ℕ) × (a.node.line ≡ 2 * half) → AreFar 11 c.x g.x
    by (half, even) = elim (cases_eq a.node.line (2 * unit_of p.row b.at)) [
      | inl same ↦ inl (omega (arith, a.x, b.x, ap (λ n. x_of xs n) same, allowed.left (unit_of p.row b.at) unit (contact (2 * unit_of p.row b.at) same)))
      | inr not_left ↦ elim (cases_eq a.node.line (2 * unit_of p.row b.at + 2)) [
        | inl same ↦ inr (omega (arith, a.x, b.x, ap (λ n. x_of xs n) same, allowed.right (unit_of p.row b.at) unit (contact (2 * unit_of p.row b.at + 2) same)))
        | inr not_right ↦ elim (cases_lt a.node.line (2 * unit_of p.row b.at)) [
          | inl less ↦ inl (omega (arith, a.x, b.x, behind p xs lines a.node.line (2 * unit_of p.row b.at + 1) 3 (omega (arith, less, even)) (omega (arith, unit_last p is b.at b.seat.column b.stands))))
          | inr more ↦ inr (omega (arith, a.x, b.x, behind p xs lines (2 * unit_of p.row b.at + 1) a.node.line 3 (omega (arith, more, even, not_left, not_right)) (node_line p is a.node a.there)))
        ]
      ]
    ]

-- a gate's width in a row is that of its column's finger
width_there : (c : Column) (g : Gate) (side : Row) (x : Placed) (width : ℕ) → g.n ≡ finger_width c.n → g.p ≡ finger_width c.p → place side c ≡ Some x → width ≡ x.finger.width → width_in side g ≡ Some width
width_there c g N x width n p e w = n ∙ ap (λ o. finger_width o) e ∙ ap (λ m. Some m) (sym w)
width_there c g P x width n p e w = p ∙ ap (λ o. finger_width o) e ∙ ap (λ m. Some m) (sym w)

pub over : (p : Placement) (xs : List ℕ) (f : Frame) (trunks : List Trunk) → IsPlacement p → AreLines p xs → (g : Gate) (s : Strip) → GateFrom p.row f trunks xs g → StripFrom p.row xs s → Crosses g s
over p xs f trunks is lines g s a b = elim (cases_lt a.at b.at) [
  | inl less ↦
      let rise : unit_of p.row a.at < unit_of p.row b.at = units_rise p.row a.at b.at a.seat.column b.column less a.stands b.stands in
      inr (inl (omega (arith, a.x, b.left, behind p xs lines (2 * unit_of p.row a.at + 1) (2 * unit_of p.row b.at) 1 (omega (arith, rise)) (omega (arith, unit_last p is b.at b.column b.stands)))))
  | inr le ↦ elim (cases_lt b.at a.at) [
    | inl less ↦
        let rise : unit_of p.row b.at < unit_of p.row a.at = units_rise p.row b.at a.at b.column a.seat.column less b.stands a.stands in
        inr (inr (omega (arith, a.x, b.right, behind p xs lines (2 * unit_of p.row b.at + 2) (2 * unit_of p.row a.at + 1) 1 (omega (arith, rise)) (omega (arith, unit_last p is a.at a.seat.column a.stands)))))
    | inr ge ↦
        let at : a.at ≡ b.at = omega (arith, le, ge) in
        let unit : unit_of p.row a.at ≡ unit_of p.row b.at = ap (λ n. unit_of p.row n) at in
        let column : b.column ≡ a.seat.column = some_same b.column a.seat.column (sym b.stands ∙ ap (λ n. slice_get p.row n) (sym at) ∙ a.stands) in
        let last : 2 * unit_of p.row b.at + 2 ≤ 2 * length p.units = unit_last p is b.at b.column b.stands in
        let x : g.x ≡ x_of xs (2 * unit_of p.row b.at + 1) = a.x ∙ ap (λ n. x_of xs (2 * n + 1)) unit in
        inl (
          omega (arith, x, b.left, behind p xs lines (2 * unit_of p.row b.at) (2 * unit_of p.row b.at + 1) 1 (omega arith) (omega (arith, last))),
          omega (arith, x, b.right, behind p xs lines (2 * unit_of p.row b.at + 1) (2 * unit_of p.row b.at + 2) 1 (omega arith) last),
          width_there a.seat.column g s.row b.finger s.width a.n a.p (ap (λ c. place s.row c) (sym column) ∙ b.filled) b.width,
        )
  ]
]
