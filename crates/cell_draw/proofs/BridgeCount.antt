-- How many shapes a drawn row has.
use Rattle.std.proofs.Common.{ℕ, suc, ◌≡◌, ◌+◌, ◌*◌, ◌&&◌, ◌<◌, ◌≤◌, not, Bool, true, false, cond, List, [], ◌∷◌, ◌++◌, Option, Some, None, inl, inr, refl, sym, ap, subst, ◌∙◌, arith, All, AllPairs, map, filter_map, flat_map, length}
use Rattle.std.specs.List.{filter, list_any, cons_option}
use Rattle.std.proofs.lemmas.Bool.{cases_Bool, and_parts}
use Rattle.std.proofs.lemmas.List.{length-append}
use Rattle.std.proofs.lemmas.List.Elements.{All-head, All-tail}
use Rattle.cell_num.specs.declared.net.NetNo.{NetNo}
use Rattle.cell_num.specs.declared.net.Pins.{Pins}
use Rattle.cell_num.specs.declared.finger.Row.TheVariants.{P, N}
use Rattle.cell_num.proofs.Pairs.{pairs_head, pairs_tail}
use Rattle.row_model.specs.declared.column.Placed.{Placed}
use Rattle.row_place.specs.declared.placement.NodePlace.{NodePlace}
use Rattle.row_place.specs.declared.placement.Placement.{Placement}
use Rattle.row_place.specs.declared.placement.Seat.{Seat}
use Rattle.row_place.specs.Places.{IsPlacement}
use Rattle.row_place.specs.Units.{seats_of}
use Rattle.row_place.proofs.Bounds.{few_nodes}
use Rattle.row_place.proofs.Seated.{seat_count}
use Rattle.channel_route.specs.declared.routing.Trunk.{Trunk}
use Rattle.channel_route.specs.declared.routing.Routing.{Routing}
use Rattle.channel_route.specs.Wiring.{HoldsLine, AreInOrder, IsWiring}
use Rattle.row_compact.specs.Solution.{x_of}
use Rattle.box_geom.specs.declared.shape.Shape.{Shape}
use Rattle.cell_draw.specs.declared.layout.Frame.{Frame}
use Rattle.cell_draw.specs.declared.layout.Contact.{Contact}
use Rattle.cell_draw.specs.declared.layout.Gate.{Gate}
use Rattle.cell_draw.specs.declared.layout.Bar.{Bar}
use Rattle.cell_draw.specs.Shapes.{frame_shapes, finger, reach_shapes, contact_shapes, pad_shapes, gate_shapes, via_shapes, bar_shapes, shapes_of}
use Rattle.cell_draw.specs.Layouts.{strip_of, strips_at, contact_of, gate_at, holds, has_own_via, begins_before, has_via, bar_of, width_of, laid_out, layout_of}
use Rattle.cell_draw.specs.Frame.{frame_of}
use Rattle.cell_draw.proofs.Wirings.{holds_it}
use Rattle.cell_draw.proofs.TrunkCount.{mapped_same, few_trunks}

-- lengths of lists that are put together
flat_few : {X Y : Type 0} (k : ℕ) (g : X → List Y) (xs : List X) → ((x : X) → length (g x) ≤ k) → length (flat_map g xs) ≤ length xs * k
flat_few k g [] few = omega arith
flat_few k g (x ∷ xs) few = omega (arith, few x, flat_few k g xs few, length-append (g x) (flat_map g xs))

kept_few : {X Y : Type 0} (h : X → Option Y) (xs : List X) → length (filter_map h xs) ≤ length xs
kept_few h [] = omega arith
kept_few {X} {Y} h (x ∷ xs) = by (h x) (kept_few h xs)
  where
    by : (o : Option Y) → length (filter_map h xs) ≤ length xs → length (cons_option o (filter_map h xs)) ≤ suc (length xs)
    by None few = omega (arith, few)
    by (Some y) few = omega (arith, few)

filter_step : {X : Type 0} (test : X → Bool) (x : X) (xs : List X) → length (filter test (x ∷ xs)) ≡ cond (test x) 1 0 + length (filter test xs)
filter_step {X} test x xs = by (test x) refl
  where
    by : (b : Bool) → test x ≡ b → length (filter test (x ∷ xs)) ≡ cond (test x) 1 0 + length (filter test xs)
    by true e = rw e (omega arith)
    by false e = rw e (omega arith)

-- the vias of trunks, and the trunks with a via at a place
hits : (Trunk → NodePlace → Bool) → NodePlace → List Trunk → ℕ
hits via node [] = 0
hits via node (t ∷ ts) = cond (via t node) 1 0 + hits via node ts

hit_sum : (Trunk → NodePlace → Bool) → List Trunk → List NodePlace → ℕ
hit_sum via [] nodes = 0
hit_sum via (t ∷ ts) nodes = length (filter (via t) nodes) + hit_sum via ts nodes

one_more : (via : Trunk → NodePlace → Bool) (ts : List Trunk) (node : NodePlace) (nodes : List NodePlace) → hit_sum via ts (node ∷ nodes) ≡ hits via node ts + hit_sum via ts nodes
unfolding hits hit_sum
one_more via [] node nodes = refl
one_more via (t ∷ ts) node nodes = omega (arith, one_more via ts node nodes, filter_step (via t) node nodes)

no_nodes : (via : Trunk → NodePlace → Bool) (ts : List Trunk) → hit_sum via ts [] ≡ 0
unfolding hit_sum
no_nodes via [] = refl
no_nodes via (t ∷ ts) = omega (arith, no_nodes via ts)

-- a trunk with a via at a place holds its line and is of its net
AreHeld : (Trunk → NodePlace → Bool) → Type 0
AreHeld via = (t : Trunk) (node : NodePlace) → via t node ≡ true → (t.net ≡ node.net) × HoldsLine t node.line

-- behind one of the net that begins at the line or later none holds it
no_hits : (via : Trunk → NodePlace → Bool) (node : NodePlace) (a : Trunk) (ts : List Trunk) → AreHeld via → a.net ≡ node.net → node.line ≤ a.left → All (AreInOrder a) ts → hits via node ts ≡ 0
unfolding hits AreHeld
no_hits via node a [] held of at order = refl
no_hits via node a (t ∷ ts) held of at order =
    elim (cases_Bool (via t node)) [
      | inl yes' ↦ absurd (by (held t node yes') (All-head (AreInOrder a) t ts order))
      | inr no' ↦ rw no' (omega (arith, no_hits via node a ts held of at (All-tail (AreInOrder a) t ts order)))
    ]
  where
    by : (t.net ≡ node.net) × HoldsLine t node.line → AreInOrder a t → ⊥
    by (net, on) (inl less) = omega (arith, less, ap (λ (n : NetNo). n.0) (of ∙ sym net))
    by (net, on) (inr (same, left, right, ends)) = omega (arith, left, at, on.begins)

-- behind one of the net that holds the line one more does at most
one_hit : (via : Trunk → NodePlace → Bool) (node : NodePlace) (a : Trunk) (ts : List Trunk) → AreHeld via → a.net ≡ node.net → node.line ≤ a.right → All (AreInOrder a) ts → AllPairs AreInOrder ts → hits via node ts ≤ 1
unfolding hits AreHeld
one_hit via node a [] held of on before order = omega arith
one_hit via node a (t ∷ ts) held of on before order =
    elim (cases_Bool (via t node)) [
      | inl yes' ↦
          let h = held t node yes' in
          rw yes' (omega (arith, no_hits via node t ts held h.0 (by h.0 (All-head (AreInOrder a) t ts before)) (pairs_head AreInOrder t ts order)))
      | inr no' ↦ rw no' (omega (arith, one_hit via node a ts held of on (All-tail (AreInOrder a) t ts before) (pairs_tail AreInOrder t ts order)))
    ]
  where
    by : t.net ≡ node.net → AreInOrder a t → node.line ≤ t.left
    by net (inl less) = absurd (omega (arith, less, ap (λ (n : NetNo). n.0) (of ∙ sym net)))
    by net (inr (same, left, right, ends)) = omega (arith, on, right)

two_hits : (via : Trunk → NodePlace → Bool) (node : NodePlace) (ts : List Trunk) → AreHeld via → AllPairs AreInOrder ts → hits via node ts ≤ 2
unfolding hits AreHeld
two_hits via node [] held order = omega arith
two_hits via node (t ∷ ts) held order =
    elim (cases_Bool (via t node)) [
      | inl yes' ↦ let h = held t node yes' in rw yes' (omega (arith, one_hit via node t ts held h.0 h.1.ends (pairs_head AreInOrder t ts order) (pairs_tail AreInOrder t ts order)))
      | inr no' ↦ rw no' (omega (arith, two_hits via node ts held (pairs_tail AreInOrder t ts order)))
    ]

-- each node place has a via on two bars at most
few_hits : (via : Trunk → NodePlace → Bool) (ts : List Trunk) (nodes : List NodePlace) → AreHeld via → AllPairs AreInOrder ts → hit_sum via ts nodes ≤ 2 * length nodes
few_hits via ts [] held order = omega (arith, no_nodes via ts)
few_hits via ts (node ∷ nodes) held order = omega (arith, one_more via ts node nodes, two_hits via node ts held order, few_hits via ts nodes held order)

vias_held : (nodes : List NodePlace) (trunks : List Trunk) → AreHeld (has_via nodes trunks)
unfolding AreHeld
vias_held nodes trunks t node e =
    let both = and_parts (holds node.net node.line t && has_own_via nodes node) (not (list_any (begins_before t node.line) trunks)) e in
    holds_it node.net node.line t (and_parts (holds node.net node.line t) (has_own_via nodes node) both.0).0

singles : (y : ℕ) (vias : List ℕ) → length (flat_map (via_shapes y) vias) ≡ length vias
singles y [] = refl
singles y (v ∷ vs) = omega (arith, singles y vs, length-append (via_shapes y v) (flat_map (via_shapes y) vs))

bars_count : (f : Frame) (nodes : List NodePlace) (all : List Trunk) (xs : List ℕ) (ts : List Trunk) → length (flat_map bar_shapes (map (bar_of f nodes all xs) ts)) ≡ length ts + hit_sum (has_via nodes all) ts nodes
unfolding hit_sum
bars_count f nodes all xs [] = refl
bars_count f nodes all xs (t ∷ ts) =
    let b : Bar = bar_of f nodes all xs t in
    omega (arith, bars_count f nodes all xs ts, length-append (bar_shapes b) (flat_map bar_shapes (map (bar_of f nodes all xs) ts)), singles b.y b.vias, mapped_same (λ (node : NodePlace). x_of xs node.line) (filter (has_via nodes all t) nodes))

strip_few : (xs : List ℕ) (seat : Seat) → length (strips_at xs seat) ≤ 2
strip_few xs seat = by seat.column.n seat.column.p
  where
    by : (n p : Option Placed) → length (strip_of xs seat.unit N n ++ strip_of xs seat.unit P p) ≤ 2
    by None None = omega arith
    by None (Some y) = omega arith
    by (Some x) None = omega arith
    by (Some x) (Some y) = omega arith

contact_few : (f : Frame) (c : Contact) → length (contact_shapes f c) ≤ 5
contact_few f c = omega (arith, by c.reach)
  where
    by : (o : Option ℕ) → length (reach_shapes f c.row c.x o) ≤ 2
    by None = omega arith
    by (Some y) = omega arith

gate_few : (f : Frame) (g : Gate) → length (gate_shapes f g) ≤ 3
gate_few f g = omega (arith, by g.track)
  where
    by : (o : Option ℕ) → length (pad_shapes g.x o) ≤ 2
    by None = omega arith
    by (Some y) = omega arith

-- fewer than 2,000 shapes
pub few_shapes : (p : Placement) (pins : Pins) (r : Routing) (xs : List ℕ) (f : Frame) (nets : ℕ) → IsPlacement p → IsWiring p pins r → length (shapes_of (laid_out f nets pins p r.trunks xs)) < 2000
few_shapes p pins r xs f nets is wiring =
    let l = laid_out f nets pins p r.trunks xs in
    let strips : List Shape = flat_map (λ z. finger f z ∷ []) l.strips in
    let contacts : List Shape = flat_map (contact_shapes f) l.contacts in
    let gates : List Shape = flat_map (gate_shapes f) l.gates in
    let bars : List Shape = flat_map bar_shapes l.bars in
    let seats : length (seats_of p.row) ≤ 32 = omega (arith, seat_count p.row, is.few) in
    omega (
      arith,
      seats,
      length-append (((frame_shapes f ++ strips) ++ contacts) ++ gates) bars,
      length-append ((frame_shapes f ++ strips) ++ contacts) gates,
      length-append (frame_shapes f ++ strips) contacts,
      length-append (frame_shapes f) strips,
      flat_few 1 (λ z. finger f z ∷ []) l.strips (λ z. omega arith),
      flat_few 2 (strips_at xs) (seats_of p.row) (strip_few xs),
      flat_few 5 (contact_shapes f) l.contacts (contact_few f),
      kept_few (contact_of f pins r.trunks xs) p.nodes,
      few_nodes p is,
      flat_few 3 (gate_shapes f) l.gates (gate_few f),
      kept_few (gate_at f r.trunks xs) (seats_of p.row),
      bars_count f p.nodes r.trunks xs r.trunks,
      few_hits (has_via p.nodes r.trunks) r.trunks p.nodes (vias_held p.nodes r.trunks) wiring.order,
      few_trunks p pins r is wiring,
    )

pub few_drawn : (shapes : List Shape) (names : List (List ℕ)) (pins : Pins) (p : Placement) (r : Routing) (xs : List ℕ) (height : ℕ) → shapes ≡ shapes_of (layout_of (length names) pins p r xs height) → IsPlacement p → IsWiring p pins r → length shapes < 2000
few_drawn shapes names pins p r xs height e is wiring = subst (λ zs. length zs < 2000) (sym e) (few_shapes p pins r xs (frame_of p.row r.tracks height (width_of p xs)) (length names) is wiring)
