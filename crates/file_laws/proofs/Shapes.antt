-- A row's drawing has as many shapes on other lines and in another height.
use Rattle.std.specs.Prelude.{ℕ, suc, ◌≡◌, ◌+◌, List, [], ◌∷◌, ◌++◌, length, map, filter, find, Option, Some, None, option_map}
use Rattle.std.specs.List.{flat_map}
use Rattle.std.proofs.Common.{refl, sym, ap, arith, ◌∙◌, inl, inr, length-append}
use Rattle.std.proofs.lemmas.Bool.{cases_Bool}
use Rattle.std.proofs.lemmas.List.{length-map}
use Rattle.cell_num.specs.declared.finger.Row.{Row}
use Rattle.cell_num.specs.declared.finger.Row.TheVariants.{P, N}
use Rattle.cell_num.specs.declared.net.Pins.{Pins}
use Rattle.row_model.specs.declared.column.Placed.{Placed}
use Rattle.row_place.specs.declared.placement.GatePlace.{GatePlace}
use Rattle.row_place.specs.declared.placement.NodePlace.{NodePlace}
use Rattle.row_place.specs.declared.placement.Placement.{Placement}
use Rattle.row_place.specs.declared.placement.Seat.{Seat}
use Rattle.row_place.specs.Steps.{gate_of}
use Rattle.row_place.specs.Units.{seats_of}
use Rattle.channel_route.specs.declared.routing.Routing.{Routing}
use Rattle.channel_route.specs.declared.routing.Trunk.{Trunk}
use Rattle.cell_num.specs.Pins.{is_rail}
use Rattle.row_compact.specs.Solution.{x_of}
use Rattle.box_geom.specs.declared.shape.Shape.{Shape}
use Rattle.cell_draw.specs.declared.layout.Frame.{Frame}
use Rattle.cell_draw.specs.Frame.{frame_of, track_y}
use Rattle.cell_draw.specs.Layouts.{bar_of, contact_of, contact_with, far, gate_at, gate_with, has_via, holds, laid_out, strip_of, strips_at, vias_of, width_of}
use Rattle.cell_draw.specs.Shapes.{bar_shapes, contact_shapes, finger, frame_shapes, gate_shapes, pad_shapes, shapes_of, via_shapes}
use Rattle.cell_draw.specs.Drawings.{drawn_of}
use Rattle.file_laws.proofs.Counted.{flat_same, flat_single, kept_same, pieces}

-- ---- fingers

one_strip : (xs ys : List ℕ) (unit : ℕ) (row : Row) (placed : Option Placed) → length (strip_of xs unit row placed) ≡ length (strip_of ys unit row placed)
one_strip xs ys unit row None = refl
one_strip xs ys unit row (Some x) = refl

strips_of_seat : (xs ys : List ℕ) (seat : Seat) → length (strips_at xs seat) ≡ length (strips_at ys seat)
strips_of_seat xs ys seat =
    let n = one_strip xs ys seat.unit N seat.column.n in
    let p = one_strip xs ys seat.unit P seat.column.p in
    omega (arith, n, p, length-append (strip_of xs seat.unit N seat.column.n) (strip_of xs seat.unit P seat.column.p), length-append (strip_of ys seat.unit N seat.column.n) (strip_of ys seat.unit P seat.column.p))

same_fingers : (f g : Frame) (xs ys : List ℕ) (seats : List Seat) → length (flat_map (λ s. finger f s ∷ []) (flat_map (strips_at xs) seats)) ≡ length (flat_map (λ s. finger g s ∷ []) (flat_map (strips_at ys) seats))
same_fingers f g xs ys seats = flat_single (finger f) (flat_map (strips_at xs) seats) ∙ (flat_same (strips_at xs) (strips_at ys) seats (strips_of_seat xs ys) ∙ sym (flat_single (finger g) (flat_map (strips_at ys) seats)))

-- ---- contacts

abbrev reaching : Frame → List ℕ → NodePlace → Option ℕ → List Shape
reaching f xs node track = pieces (contact_shapes f) (option_map (λ reach. contact_with xs node (Some reach)) (option_map (track_y f) track))

same_reach : (f g : Frame) (xs ys : List ℕ) (node : NodePlace) (track : Option ℕ) → length (reaching f xs node track) ≡ length (reaching g ys node track)
same_reach f g xs ys node None = refl
same_reach f g xs ys node (Some k) = refl

one_contact : (f g : Frame) (pins : Pins) (trunks : List Trunk) (xs ys : List ℕ) (node : NodePlace) → length (pieces (contact_shapes f) (contact_of f pins trunks xs node)) ≡ length (pieces (contact_shapes g) (contact_of g pins trunks ys node))
one_contact f g pins trunks xs ys node =
    elim (cases_Bool (is_rail pins node.net)) [
      | inl rail ↦ rw rail refl
      | inr signal ↦ rw signal (same_reach f g xs ys node (far trunks node))
    ]

-- ---- gates

abbrev track_of : Frame → Option Trunk → Option ℕ
track_of f trunk = option_map (λ (t : Trunk). track_y f t.track) trunk

same_pads : (f g : Frame) (x y : ℕ) (trunk : Option Trunk) → length (pad_shapes x (track_of f trunk)) ≡ length (pad_shapes y (track_of g trunk))
same_pads f g x y None = refl
same_pads f g x y (Some t) = refl

at_place : (f g : Frame) (trunks : List Trunk) (xs ys : List ℕ) (seat : Seat) (place : Option GatePlace) → length (pieces (gate_shapes f) (option_map (gate_with f trunks xs seat) place)) ≡ length (pieces (gate_shapes g) (option_map (gate_with g trunks ys seat) place))
at_place f g trunks xs ys seat None = refl
at_place f g trunks xs ys seat (Some place) = ap suc (same_pads f g (x_of xs place.line) (x_of ys place.line) (find (holds place.net place.line) trunks))

one_gate : (f g : Frame) (trunks : List Trunk) (xs ys : List ℕ) (seat : Seat) → length (pieces (gate_shapes f) (gate_at f trunks xs seat)) ≡ length (pieces (gate_shapes g) (gate_at g trunks ys seat))
one_gate f g trunks xs ys seat = at_place f g trunks xs ys seat (gate_of seat)

-- ---- bars

vias_drawn : (y : ℕ) (vias : List ℕ) → length (flat_map (via_shapes y) vias) ≡ length vias
vias_drawn y [] = refl
vias_drawn y (x ∷ vias) = omega (arith, vias_drawn y vias)

one_bar : (f g : Frame) (nodes : List NodePlace) (all : List Trunk) (xs ys : List ℕ) (t : Trunk) → length (bar_shapes (bar_of f nodes all xs t)) ≡ length (bar_shapes (bar_of g nodes all ys t))
one_bar f g nodes all xs ys t =
    let places = filter (has_via nodes all t) nodes in
    let here : length (vias_of nodes all xs t) ≡ length places = length-map places (λ (node : NodePlace). x_of xs node.line) in
    let there : length (vias_of nodes all ys t) ≡ length places = length-map places (λ (node : NodePlace). x_of ys node.line) in
    omega (arith, here, there, vias_drawn (track_y f t.track) (vias_of nodes all xs t), vias_drawn (track_y g t.track) (vias_of nodes all ys t))

same_bars : (f g : Frame) (nodes : List NodePlace) (all : List Trunk) (xs ys : List ℕ) (trunks : List Trunk) → length (flat_map bar_shapes (map (bar_of f nodes all xs) trunks)) ≡ length (flat_map bar_shapes (map (bar_of g nodes all ys) trunks))
same_bars f g nodes all xs ys [] = refl
same_bars f g nodes all xs ys (t ∷ ts) =
    let first = length-append (bar_shapes (bar_of f nodes all xs t)) (flat_map bar_shapes (map (bar_of f nodes all xs) ts)) in
    let second = length-append (bar_shapes (bar_of g nodes all ys t)) (flat_map bar_shapes (map (bar_of g nodes all ys) ts)) in
    omega (arith, first, second, one_bar f g nodes all xs ys t, same_bars f g nodes all xs ys ts)

-- ---- all shapes

five_groups : {X : Type 0} (a b c d e : List X) → length (a ++ b ++ c ++ d ++ e) ≡ length a + length b + length c + length d + length e
five_groups a b c d e = omega (arith, length-append (a ++ b ++ c ++ d) e, length-append (a ++ b ++ c) d, length-append (a ++ b) c, length-append a b)

same_layouts : (f g : Frame) (nets : ℕ) (pins : Pins) (p : Placement) (trunks : List Trunk) (xs ys : List ℕ) → length (shapes_of (laid_out f nets pins p trunks xs)) ≡ length (shapes_of (laid_out g nets pins p trunks ys))
same_layouts f g nets pins p trunks xs ys =
    let seats = seats_of p.row in
    let fingers = same_fingers f g xs ys seats in
    let contacts = kept_same (contact_of f pins trunks xs) (contact_of g pins trunks ys) (contact_shapes f) (contact_shapes g) p.nodes (one_contact f g pins trunks xs ys) in
    let gates = kept_same (gate_at f trunks xs) (gate_at g trunks ys) (gate_shapes f) (gate_shapes g) seats (one_gate f g trunks xs ys) in
    let bars = same_bars f g p.nodes trunks xs ys trunks in
    let k = laid_out f nets pins p trunks xs in
    let l = laid_out g nets pins p trunks ys in
    let here = five_groups (frame_shapes f) (flat_map (λ s. finger f s ∷ []) k.strips) (flat_map (contact_shapes f) k.contacts) (flat_map (gate_shapes f) k.gates) (flat_map bar_shapes k.bars) in
    let there = five_groups (frame_shapes g) (flat_map (λ s. finger g s ∷ []) l.strips) (flat_map (contact_shapes g) l.contacts) (flat_map (gate_shapes g) l.gates) (flat_map bar_shapes l.bars) in
    omega (arith, here, there, fingers, contacts, gates, bars)

pub same_rectangles : (names : List (List ℕ)) (pins : Pins) (p : Placement) (r : Routing) (xs ys : List ℕ) (h k : ℕ) → length (drawn_of names pins p r xs h).shapes.rects ≡ length (drawn_of names pins p r ys k).shapes.rects
same_rectangles names pins p r xs ys h k =
    same_layouts (frame_of p.row r.tracks h (width_of p xs)) (frame_of p.row r.tracks k (width_of p ys)) (length names) pins p r.trunks xs ys
