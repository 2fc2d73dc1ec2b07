-- A drawn row shows its columns.
use Rattle.std.proofs.Common.{ℕ, zero, suc, ◌≡◌, ◌+◌, ◌*◌, ◌<◌, ◌≤◌, ℤ, pos, ◌≤ℤ◌, ◌<ℤ◌, ◌+ℤ◌, ◌-ℤ◌, false, List, [], ◌∷◌, Option, Some, None, inl, inr, ◌⊎◌, refl, sym, ap, subst, ◌∙◌, arith, Any, Contains, length, map, slice_get}
use Rattle.std.specs.List.{AllZip}
use Rattle.std.proofs.lemmas.Int.{ints, by_lt_z}
use Rattle.cell_num.specs.declared.net.Pins.{Pins}
use Rattle.cell_num.specs.declared.finger.Row.{Row}
use Rattle.cell_num.specs.declared.finger.Row.TheVariants.{P, N}
use Rattle.cell_num.specs.Pins.{ArePins}
use Rattle.cell_num.proofs.In.{contains_map}
use Rattle.cell_num.proofs.Lists.{some_same, contains_here, contains_there, all_from_contains}
use Rattle.cell_num.proofs.Pairs.{any_at, pairs_map}
use Rattle.row_model.specs.declared.column.Placed.{Placed}
use Rattle.row_model.specs.declared.column.Column.{Column}
use Rattle.row_model.specs.Arrangement.{place}
use Rattle.row_model.specs.Gaps.{is_gap}
use Rattle.row_place.specs.declared.placement.Placement.{Placement}
use Rattle.row_place.specs.declared.placement.Seat.{Seat}
use Rattle.row_place.specs.Units.{gap_between, seats_from, seats_of, unit_of}
use Rattle.row_place.proofs.Seated.{seat_of, unit_next}
use Rattle.row_place.proofs.Units.{SitsAt, seat_at, seat_from}
use Rattle.channel_route.specs.declared.routing.Routing.{Routing}
use Rattle.row_compact.specs.Solution.{x_of}
use Rattle.box_geom.specs.Rectangle.{Rectangle, Holds}
use Rattle.box_geom.specs.declared.layer.Layer.TheVariants.{Active}
use Rattle.scmos_rules.specs.Layout.{On}
use Rattle.scmos_rules.specs.declared.rules.Deck.TheVariants.{Plain}
use Rattle.net_extract.specs.Devices.{IsSomeDevice}
use Rattle.cell_draw.specs.declared.layout.Frame.{Frame}
use Rattle.cell_draw.specs.declared.layout.Strip.{Strip}
use Rattle.cell_draw.specs.Shapes.{shapes_of}
use Rattle.cell_draw.specs.Shown.{Span, IsIn, IsInRow, IsPlace, IsShownColumn, IsJoined, AreNeighbours, ShowsRow}
use Rattle.cell_draw.specs.Sound.{AreLines}
use Rattle.cell_draw.proofs.BridgeLines.{behind}
use Rattle.cell_draw.proofs.BridgePlaces.{unit_last}
use Rattle.cell_draw.proofs.BridgeWhole.{lines_of_allowed}
use Rattle.cell_draw.proofs.DeviceBoxes.{box_of}
use Rattle.cell_draw.proofs.Devices.{gate_site, side_site, right_device}
use Rattle.cell_draw.proofs.DevicesPlaced.{DeviceSeat, device_seat, one_seat}
use Rattle.cell_draw.proofs.Extracts.{seats_ascend}
use Rattle.cell_draw.proofs.FingersPlaced.{IsSeated, seated, OverSeat, over_seat, NamedAt, named_at}
use Rattle.cell_draw.proofs.LabelsPlaced.{IsWired, layout}
use Rattle.cell_draw.proofs.NamesPlaced.{shapes}
use Rattle.cell_draw.proofs.NetsFacts.{left_end, right_end, IsOver}
use Rattle.cell_draw.proofs.NetsPlaces.{strip_with}
use Rattle.cell_draw.proofs.RulesActive.{finger_of, finger_in, strip_is}
use Rattle.cell_draw.proofs.RulesCovers.{area_covers}

-- where the gate of a seat stands
abbrev span_of : List ℕ → Seat → Span
span_of xs seat = record { left = pos (x_of xs (2 * seat.unit + 1)) -ℤ pos 2; right = pos (x_of xs (2 * seat.unit + 1)) +ℤ pos 2 }

abbrev spans_of : List ℕ → List Seat → List Span
spans_of xs seats = map (span_of xs) seats

box_in_span : (names : List (List ℕ)) (pins : Pins) (p : Placement) (r : Routing) (xs : List ℕ) (f : Frame) (w : IsWired names pins p r xs f) → (seat : Seat) (side : Row) (x : Placed) → IsSeated p xs seat side x → IsIn (span_of xs seat) (box_of (layout names pins p r xs f) w.has.netted (strip_with xs seat.unit side x))
box_in_span names pins p r xs f w seat side x s =
    let o : OverSeat xs seat x (w.has.netted.over (strip_with xs seat.unit side x)) = over_seat names pins p r xs f w seat side x s in
    record { left = ap (λ z. pos z -ℤ pos 2) o.line; right = ap (λ z. pos z +ℤ pos 2) o.line }

-- a device in the columns of a seat is of the seat
record OfSeat (names : List (List ℕ)) (pins : Pins) (p : Placement) (r : Routing) (xs : List ℕ) (f : Frame) (w : IsWired names pins p r xs f) (seat : Seat) (side : Row) (box : Rectangle) : Type 0 where
  placed : Placed
  is : IsSeated p xs seat side placed
  same : box ≡ box_of (layout names pins p r xs f) w.has.netted (strip_with xs seat.unit side placed)

of_seat : (names : List (List ℕ)) (pins : Pins) (p : Placement) (r : Routing) (xs : List ℕ) (f : Frame) (w : IsWired names pins p r xs f) → (seat : Seat) → Contains (seats_of p.row) seat → (side : Row) (box : Rectangle) → IsInRow Plain (shapes names pins p r xs f).rects side (span_of xs seat) box → OfSeat names pins p r xs f w seat side box
of_seat names pins p r xs f w seat there side box h =
    let d : DeviceSeat names pins p r xs f w box side = subst (λ z. DeviceSeat names pins p r xs f w box z) h.of_side (device_seat names pins p r xs f w box h.device) in
    let i : IsIn (span_of xs d.seat) (box_of (layout names pins p r xs f) w.has.netted (strip_with xs d.seat.unit side d.placed)) = box_in_span names pins p r xs f w d.seat side d.placed d.is in
    let left : box.x1 ≡ pos (x_of xs (2 * d.seat.unit + 1)) -ℤ pos 2 = ap (λ (z : Rectangle). z.x1) d.same ∙ i.left in
    let at : box.x1 ≡ pos (x_of xs (2 * seat.unit + 1)) -ℤ pos 2 = h.inside.left in
    let line : x_of xs (2 * d.seat.unit + 1) ≡ x_of xs (2 * seat.unit + 1) = omega (arith, ints, left, at) in
    let one : d.seat ≡ seat = one_seat p xs w.drawn.placement (lines_of_allowed p pins r xs w.drawn.allowed) d.seat seat d.listed there line in
    subst (λ z. OfSeat names pins p r xs f w z side box) one (record { placed = d.placed; is = d.is; same = d.same })

place_shown : (names : List (List ℕ)) (pins : Pins) (p : Placement) (r : Routing) (xs : List ℕ) (f : Frame) (w : IsWired names pins p r xs f) → ArePins (length names) pins → (seat : Seat) → Contains (seats_of p.row) seat → (side : Row) (o : Option Placed) → place side seat.column ≡ o → IsPlace Plain names (shapes names pins p r xs f) side (span_of xs seat) o
place_shown names pins p r xs f w are seat there side None e = λ box h. absurd (let d = of_seat names pins p r xs f w seat there side box h in let wrong : None ≡ Some d.placed = sym e ∙ d.is.filled in cc)
place_shown names pins p r xs f w are seat there side (Some x) e =
    let s : IsSeated p xs seat side x = seated p xs seat side x there e in
    let t : Strip = strip_with xs seat.unit side x in
    let m : NamedAt names pins p r xs f w t x = named_at names pins p r xs f w are seat side x s in
    record {
      box = box_of (layout names pins p r xs f) w.has.netted t;
      inside = box_in_span names pins p r xs f w seat side x s;
      placed = record {
        gate = gate_site (layout names pins p r xs f) w.has.netted t;
        left = side_site (layout names pins p r xs f) w.has.netted t left_end;
        right = side_site (layout names pins p r xs f) w.has.netted t right_end;
        is = (right_device (layout names pins p r xs f) w.laid w.has.netted t s.listed).is;
        current = (right_device (layout names pins p r xs f) w.laid w.has.netted t s.listed).current;
        gate_net = m.gate_named;
        left_end = m.left_named;
        right_end = m.right_named;
      };
      only = λ other h.
          let d = of_seat names pins p r xs f w seat there side other h in
          let same : d.placed ≡ x = some_same d.placed x (sym d.is.filled ∙ e) in
          d.same ∙ ap (λ z. box_of (layout names pins p r xs f) w.has.netted (strip_with xs seat.unit side z)) same;
    }

columns_shown : (names : List (List ℕ)) (pins : Pins) (p : Placement) (r : Routing) (xs : List ℕ) (f : Frame) (w : IsWired names pins p r xs f) → ArePins (length names) pins → (unit : ℕ) (before : Option Column) (row : List Column) → ((s : Seat) → Contains (seats_from unit before row) s → Contains (seats_of p.row) s) → AllZip (IsShownColumn Plain names (shapes names pins p r xs f)) (spans_of xs (seats_from unit before row)) row
columns_shown names pins p r xs f w are unit before [] sub = tt
columns_shown names pins p r xs f w are unit before (c ∷ row) sub =
    let seat : Seat = record { column = c; unit = unit + length (gap_between before c) } in
    let rest : List Seat = seats_from (unit + length (gap_between before c) + 1) (Some c) row in
    let there : Contains (seats_of p.row) seat = sub seat (contains_here seat rest) in (
      record { p = place_shown names pins p r xs f w are seat there P c.p refl; n = place_shown names pins p r xs f w are seat there N c.n refl },
      columns_shown names pins p r xs f w are (unit + length (gap_between before c) + 1) (Some c) row (λ s h. sub s (contains_there seat rest s h)),
    )

-- ---- neighbours
join_n : (f : Frame) (s t : Strip) (z u : ℕ) (x : ℤ) → 6 ≤ s.width → 6 ≤ t.width → s.left ≤ z → s.right ≡ t.left → u ≤ t.right → (pos z +ℤ pos 2) ≤ℤ x → x <ℤ (pos u -ℤ pos 2) → Holds (finger_in f N s).rect x (pos f.n_edge -ℤ pos 1) ⊎ Holds (finger_in f N t).rect x (pos f.n_edge -ℤ pos 1)
join_n f s t z u x a b left e right from to = by_lt_z x (pos s.right) (λ less. inl (omega (arith, ints))) (λ most. inr (omega (arith, ints)))

join_p : (f : Frame) (s t : Strip) (z u : ℕ) (x : ℤ) → 6 ≤ s.width → 6 ≤ t.width → s.left ≤ z → s.right ≡ t.left → u ≤ t.right → (pos z +ℤ pos 2) ≤ℤ x → x <ℤ (pos u -ℤ pos 2) → Holds (finger_in f P s).rect x (pos f.p_edge) ⊎ Holds (finger_in f P t).rect x (pos f.p_edge)
join_p f s t z u x a b left e right from to = by_lt_z x (pos s.right) (λ less. inl (omega (arith, ints))) (λ most. inr (omega (arith, ints)))

get_map : {X Y : Type 0} (g : X → Y) (xs : List X) (at : ℕ) (x : X) → slice_get xs at ≡ Some x → slice_get (map g xs) at ≡ Some (g x)
get_map g [] at x e = absurd cc
get_map g (y ∷ ys) zero x e = ap (λ z. Some (g z)) (some_same y x e)
get_map g (y ∷ ys) (suc at) x e = get_map g ys at x e

-- the boxes of neighbouring seats without a gap are joined by active
joined_by : (names : List (List ℕ)) (pins : Pins) (p : Placement) (r : Routing) (xs : List ℕ) (f : Frame) (w : IsWired names pins p r xs f) → (s t : Seat) (side : Row) (x y : Placed) → IsSeated p xs s side x → IsSeated p xs t side y → t.unit ≡ s.unit + 1 → IsJoined (shapes names pins p r xs f).rects side (box_of (layout names pins p r xs f) w.has.netted (strip_with xs s.unit side x)) (box_of (layout names pins p r xs f) w.has.netted (strip_with xs t.unit side y))
joined_by names pins p r xs f w s t side x y hs ht next = by side hs ht
  where
    at : x_of xs (2 * s.unit + 2) ≡ x_of xs (2 * t.unit)
    at = ap (λ n. x_of xs n) (omega (arith, next))

    active : (side : Row) (z : Strip) (u v : ℤ) → Contains (layout names pins p r xs f).strips z → z.row ≡ side → Holds (finger_in f side z).rect u v → On Active (shapes_of (layout names pins p r xs f)) u v
    active side z u v there row h = area_covers (layout names pins p r xs f) (finger_of z) there u v (subst (λ k. Holds (finger_in f k z).rect u v) (sym row) h)

    by : (side : Row) → IsSeated p xs s side x → IsSeated p xs t side y → IsJoined (shapes names pins p r xs f).rects side (box_of (layout names pins p r xs f) w.has.netted (strip_with xs s.unit side x)) (box_of (layout names pins p r xs f) w.has.netted (strip_with xs t.unit side y))
    by N a b =
        let z : Strip = strip_with xs s.unit N x in
        let u : Strip = strip_with xs t.unit N y in
        let o : IsOver z (w.has.netted.over z) = (w.has.netted.gated z a.listed).1 in
        let q : IsOver u (w.has.netted.over u) = (w.has.netted.gated u b.listed).1 in (
          refl,
          λ v from to. elim (join_n f z u (w.has.netted.over z).x (w.has.netted.over u).x v (strip_is (layout names pins p r xs f) w.laid z a.listed).least (strip_is (layout names pins p r xs f) w.laid u b.listed).least (omega (arith, o.left)) at (omega (arith, q.right)) from to) [
            | inl h ↦ active N z v (pos f.n_edge -ℤ pos 1) a.listed refl h
            | inr h ↦ active N u v (pos f.n_edge -ℤ pos 1) b.listed refl h
          ],
        )
    by P a b =
        let z : Strip = strip_with xs s.unit P x in
        let u : Strip = strip_with xs t.unit P y in
        let o : IsOver z (w.has.netted.over z) = (w.has.netted.gated z a.listed).1 in
        let q : IsOver u (w.has.netted.over u) = (w.has.netted.gated u b.listed).1 in (
          refl,
          λ v from to. elim (join_p f z u (w.has.netted.over z).x (w.has.netted.over u).x v (strip_is (layout names pins p r xs f) w.laid z a.listed).least (strip_is (layout names pins p r xs f) w.laid u b.listed).least (omega (arith, o.left)) at (omega (arith, q.right)) from to) [
            | inl h ↦ active P z v (pos f.p_edge) a.listed refl h
            | inr h ↦ active P u v (pos f.p_edge) b.listed refl h
          ],
        )

no_gap : (a b : Column) → is_gap (a, b) ≡ false → length (gap_between (Some a) b) ≡ 0
no_gap a b e = rw e refl

-- a drawn row shows its columns
pub shows_row : (names : List (List ℕ)) (pins : Pins) (p : Placement) (r : Routing) (xs : List ℕ) (f : Frame) (w : IsWired names pins p r xs f) → ArePins (length names) pins → ShowsRow Plain names p.row (shapes names pins p r xs f)
shows_row names pins p r xs f w are = record {
  spans = spans_of xs (seats_of p.row);
  ascending = pairs_map (λ (a b : Seat). a.unit < b.unit) (Contains (seats_of p.row)) (λ (a b : Span). a.right ≤ℤ b.left) (span_of xs) (seats_of p.row) ascend (all_from_contains (Contains (seats_of p.row)) (seats_of p.row) (λ s there. there)) (seats_ascend 0 None p.row);
  columns = columns_shown names pins p r xs f w are 0 None p.row (λ s there. there);
  all = all;
  abut = abut;
}
  where
    lines : AreLines p xs
    lines = lines_of_allowed p pins r xs w.drawn.allowed

    ascend : (s t : Seat) → Contains (seats_of p.row) s → Contains (seats_of p.row) t → s.unit < t.unit → (span_of xs s).right ≤ℤ (span_of xs t).left
    ascend s t hs ht less =
        let at : SitsAt p.row t = seat_at p.row t ht in
        let last : 2 * unit_of p.row at.at + 2 ≤ 2 * length p.units = unit_last p w.drawn.placement at.at t.column at.stands in
        let gap : x_of xs (2 * s.unit + 1) + 8 * 2 ≤ x_of xs (2 * t.unit + 1) = behind p xs lines (2 * s.unit + 1) (2 * t.unit + 1) 2 (omega (arith, less)) (omega (arith, last, at.unit)) in
        omega (arith, ints, gap)

    all : (box : Rectangle) → IsSomeDevice Plain (shapes names pins p r xs f).rects box → Any (λ (span : Span). IsIn span box) (spans_of xs (seats_of p.row))
    all box d =
        let s : DeviceSeat names pins p r xs f w box d.row = device_seat names pins p r xs f w box d in
        any_at (λ (span : Span). IsIn span box) (spans_of xs (seats_of p.row)) (span_of xs s.seat) (contains_map (span_of xs) (seats_of p.row) s.seat s.listed) (subst (λ z. IsIn (span_of xs s.seat) z) (sym s.same) (box_in_span names pins p r xs f w s.seat d.row s.placed s.is))

    abut : (a b : Column) (one other : Span) → AreNeighbours p.row (spans_of xs (seats_of p.row)) a b one other → is_gap (a, b) ≡ false → (side : Row) (left right : Rectangle) → IsInRow Plain (shapes names pins p r xs f).rects side one left → IsInRow Plain (shapes names pins p r xs f).rects side other right → IsJoined (shapes names pins p r xs f).rects side left right
    abut a b one other h none side left right hl hr =
        let s : Seat = record { column = a; unit = unit_of p.row h.at } in
        let t : Seat = record { column = b; unit = unit_of p.row (h.at + 1) } in
        let es : one ≡ span_of xs s = some_same one (span_of xs s) (sym h.left ∙ get_map (span_of xs) (seats_of p.row) h.at s (seat_of p.row h.at a h.before)) in
        let et : other ≡ span_of xs t = some_same other (span_of xs t) (sym h.right ∙ get_map (span_of xs) (seats_of p.row) (h.at + 1) t (seat_of p.row (h.at + 1) b h.behind)) in
        let after : ◌≡◌ {A = ℕ} (h.at + 1) (suc h.at) = omega arith in
        let next : unit_of p.row (suc h.at) ≡ unit_of p.row h.at + length (gap_between (Some a) b) + 1 = unit_next p.row h.at a b h.before (subst (λ n. slice_get p.row n ≡ Some b) after h.behind) in
        let unit : t.unit ≡ s.unit + 1 = omega (arith, ap (λ n. unit_of p.row n) after, next, no_gap a b none) in
        let d = of_seat names pins p r xs f w s (seat_from p.row s h.at h.before refl) side left (subst (λ z. IsInRow Plain (shapes names pins p r xs f).rects side z left) es hl) in
        let e = of_seat names pins p r xs f w t (seat_from p.row t (h.at + 1) h.behind refl) side right (subst (λ z. IsInRow Plain (shapes names pins p r xs f).rects side z right) et hr) in
        subst (λ z. IsJoined (shapes names pins p r xs f).rects side z right) (sym d.same) (subst (λ z. IsJoined (shapes names pins p r xs f).rects side (box_of (layout names pins p r xs f) w.has.netted (strip_with xs s.unit side d.placed)) z) (sym e.same) (joined_by names pins p r xs f w s t side d.placed e.placed d.is e.is unit))
