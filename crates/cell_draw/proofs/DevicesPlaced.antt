-- Each device of a drawn row is that of a finger.
use Rattle.std.proofs.Common.{ℕ, ◌≡◌, ◌+◌, ◌*◌, ◌≤◌, ℤ, pos, ◌≤ℤ◌, ◌-ℤ◌, List, inl, inr, refl, sym, ap, subst, ◌∙◌, arith, Contains, length, slice_get}
use Rattle.std.proofs.lemmas.Int.{ints}
use Rattle.std.proofs.lemmas.Bool.{cases_lt}
use Rattle.cell_num.specs.declared.net.Pins.{Pins}
use Rattle.cell_num.specs.declared.finger.Row.{Row}
use Rattle.cell_num.specs.declared.finger.Row.TheVariants.{P, N}
use Rattle.cell_num.proofs.Lists.{some_same}
use Rattle.row_model.specs.declared.column.Placed.{Placed}
use Rattle.row_place.specs.declared.placement.Placement.{Placement}
use Rattle.row_place.specs.declared.placement.Seat.{Seat}
use Rattle.row_place.specs.Places.{IsPlacement}
use Rattle.row_place.specs.Units.{seats_of, unit_of}
use Rattle.row_place.proofs.Units.{SitsAt, seat_at, seat_from, same_seat}
use Rattle.channel_route.specs.declared.routing.Routing.{Routing}
use Rattle.row_compact.specs.Solution.{x_of}
use Rattle.box_geom.specs.Rectangle.{Rectangle, IsProper, Holds}
use Rattle.box_geom.specs.declared.shape.Shape.{Shape}
use Rattle.scmos_rules.specs.declared.rules.Deck.TheVariants.{Plain}
use Rattle.net_extract.specs.Devices.{IsGateBox, InRow, IsSomeDevice}
use Rattle.cell_draw.specs.declared.layout.Frame.{Frame}
use Rattle.cell_draw.specs.declared.layout.Strip.{Strip}
use Rattle.cell_draw.specs.Sound.{AreLines}
use Rattle.cell_draw.proofs.BridgeFrom.{StripFrom, strip_from}
use Rattle.cell_draw.proofs.BridgeLines.{same_line, units_rise}
use Rattle.cell_draw.proofs.BridgePlaces.{unit_last, same_strip}
use Rattle.cell_draw.proofs.DeviceBoxes.{box_of, InBox, in_box, gate_box}
use Rattle.cell_draw.proofs.Devices.{device}
use Rattle.cell_draw.proofs.FingersPlaced.{IsSeated, seated}
use Rattle.cell_draw.proofs.LabelsPlaced.{IsWired, layout}
use Rattle.cell_draw.proofs.NamesPlaced.{shapes}
use Rattle.cell_draw.proofs.NetsPlaces.{strip_with}

-- ---- classes that share a cell are one rectangle
make : ℤ → ℤ → ℤ → ℤ → Rectangle
make a b c d = record { x1 = a; y1 = b; x2 = c; y2 = d }

made : {a b c d e f g h : ℤ} → a ≡ e → b ≡ f → c ≡ g → d ≡ h → make a b c d ≡ make e f g h
made p q r s = cc

same_sides : (a b : Rectangle) → a.x1 ≡ b.x1 → a.y1 ≡ b.y1 → a.x2 ≡ b.x2 → a.y2 ≡ b.y2 → a ≡ b
unfolding make
same_sides a b p q r s = made p q r s

record IsInside (a b : Rectangle) : Type 0 where
  left : b.x1 ≤ℤ a.x1
  low : b.y1 ≤ℤ a.y1
  right : a.x2 ≤ℤ b.x2
  high : a.y2 ≤ℤ b.y2

inside : (a b : Rectangle) → IsProper a → ((u v : ℤ) → Holds a u v → Holds b u v) → IsInside a b
inside a b p h =
    let first : Holds b a.x1 a.y1 = h a.x1 a.y1 (omega (arith, ints)) in
    let last : Holds b (a.x2 -ℤ pos 1) (a.y2 -ℤ pos 1) = h (a.x2 -ℤ pos 1) (a.y2 -ℤ pos 1) (omega (arith, ints)) in
    record { left = omega (arith, ints, first.left); low = omega (arith, ints, first.low); right = omega (arith, ints, last.right); high = omega (arith, ints, last.high) }

one_class : (s : List Shape) (a b : Rectangle) → IsGateBox s a → IsGateBox s b → (x y : ℤ) → Holds a x y → Holds b x y → a ≡ b
one_class s a b ga gb x y ha hb =
    let i : IsInside a b = inside a b ga.proper (λ u v h. (gb.class x y u v hb).0 ((ga.class x y u v ha).1 h)) in
    let j : IsInside b a = inside b a gb.proper (λ u v h. (ga.class x y u v ha).0 ((gb.class x y u v hb).1 h)) in
    same_sides a b (omega (arith, ints, i.left, j.left)) (omega (arith, ints, i.low, j.low)) (omega (arith, ints, i.right, j.right)) (omega (arith, ints, i.high, j.high))

-- ---- the finger of a device
pub record DeviceSeat (names : List (List ℕ)) (pins : Pins) (p : Placement) (r : Routing) (xs : List ℕ) (f : Frame) (w : IsWired names pins p r xs f) (box : Rectangle) (side : Row) : Type 0 where
  pub seat : Seat
  pub listed : Contains (seats_of p.row) seat
  pub placed : Placed
  pub is : IsSeated p xs seat side placed
  pub same : box ≡ box_of (layout names pins p r xs f) w.has.netted (strip_with xs seat.unit side placed)

one_side : (s : List Shape) (a b : Row) (x y : ℤ) → InRow a s x y → InRow b s x y → a ≡ b
one_side s N N x y h k = refl
one_side s P P x y h k = refl
one_side s N P x y h k = absurd (h k)
one_side s P N x y h k = absurd (k h)

pub device_seat : (names : List (List ℕ)) (pins : Pins) (p : Placement) (r : Routing) (xs : List ℕ) (f : Frame) (w : IsWired names pins p r xs f) → (box : Rectangle) (d : IsSomeDevice Plain (shapes names pins p r xs f).rects box) → DeviceSeat names pins p r xs f w box d.row
device_seat names pins p r xs f w box d =
    let first : Holds box box.x1 box.y1 = corner d.is.class.proper in
    let i : InBox (layout names pins p r xs f) w.has.netted box.x1 box.y1 = in_box (layout names pins p r xs f) w.laid w.has.netted box.x1 box.y1 (d.is.class.gate box.x1 box.y1 first) in
    let b : StripFrom p.row xs i.strip = strip_from p.row xs i.strip i.listed in
    let t : Strip = strip_with xs (unit_of p.row b.at) i.strip.row b.finger in
    let strips : i.strip ≡ t = same_strip i.strip t refl b.left b.right b.width in
    let seat : Seat = record { column = b.column; unit = unit_of p.row b.at } in
    let there : Contains (seats_of p.row) seat = seat_from p.row seat b.at b.stands refl in
    let s : IsSeated p xs seat i.strip.row b.finger = seated p xs seat i.strip.row b.finger there b.filled in
    let holds : Holds (box_of (layout names pins p r xs f) w.has.netted t) box.x1 box.y1 = subst (λ z. Holds (box_of (layout names pins p r xs f) w.has.netted z) box.x1 box.y1) strips i.holds in
    let own = device (layout names pins p r xs f) w.laid w.has.netted t s.listed in
    let row : i.strip.row ≡ d.row = one_side (shapes names pins p r xs f).rects i.strip.row d.row box.x1 box.y1 (own.of_row box.x1 box.y1 holds) (d.is.of_row box.x1 box.y1 first) in
    subst (λ z. DeviceSeat names pins p r xs f w box z) row (record {
      seat = seat;
      listed = there;
      placed = b.finger;
      is = s;
      same = one_class (shapes names pins p r xs f).rects box (box_of (layout names pins p r xs f) w.has.netted t) d.is.class (gate_box (layout names pins p r xs f) w.laid w.has.netted t s.listed) box.x1 box.y1 first holds;
    })
  where
    corner : IsProper box → Holds box box.x1 box.y1
    corner h = omega (arith, ints)

-- seats at one line are one
pub one_seat : (p : Placement) (xs : List ℕ) → IsPlacement p → AreLines p xs → (s t : Seat) → Contains (seats_of p.row) s → Contains (seats_of p.row) t → x_of xs (2 * s.unit + 1) ≡ x_of xs (2 * t.unit + 1) → s ≡ t
one_seat p xs is lines s t hs ht e =
    let a : SitsAt p.row s = seat_at p.row s hs in
    let b : SitsAt p.row t = seat_at p.row t ht in
    let low : 2 * unit_of p.row a.at + 2 ≤ 2 * length p.units = unit_last p is a.at s.column a.stands in
    let high : 2 * unit_of p.row b.at + 2 ≤ 2 * length p.units = unit_last p is b.at t.column b.stands in
    let line : 2 * s.unit + 1 ≡ 2 * t.unit + 1 = same_line p xs lines (2 * s.unit + 1) (2 * t.unit + 1) (omega (arith, low, a.unit)) (omega (arith, high, b.unit)) e in
    elim (cases_lt a.at b.at) [
      | inl less ↦ absurd (omega (arith, line, a.unit, b.unit, units_rise p.row a.at b.at s.column t.column less a.stands b.stands))
      | inr le ↦ elim (cases_lt b.at a.at) [
        | inl less ↦ absurd (omega (arith, line, a.unit, b.unit, units_rise p.row b.at a.at t.column s.column less b.stands a.stands))
        | inr ge ↦
            let at : a.at ≡ b.at = omega (arith, le, ge) in
            same_seat s t (some_same s.column t.column (sym a.stands ∙ ap (λ n. slice_get p.row n) at ∙ b.stands)) (omega (arith, line))
      ]
    ]
