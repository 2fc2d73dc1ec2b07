-- Every drawing is framed, and that of a routed row begins with that of its rows alone.
use Rattle.std.proofs.Common.{ℕ, ◌≡◌, ◌+◌, ◌*◌, ◌-◌, ◌≤◌, List, [], ◌∷◌, ◌++◌, length, map, refl, sym, ap, subst, ◌∙◌, arith, All, Contains}
use Rattle.std.specs.List.{flat_map}
use Rattle.std.proofs.lemmas.Int.{ints}
use Rattle.std.proofs.lemmas.List.{append_assoc, append-nil}
use Rattle.std.proofs.lemmas.List.Elements.{All-nil, All-contains}
use Rattle.cell_num.specs.declared.net.Pins.{Pins}
use Rattle.cell_num.proofs.Lists.{all_map, all_from_contains}
use Rattle.row_place.specs.declared.placement.NodePlace.{NodePlace}
use Rattle.row_place.specs.declared.placement.Placement.{Placement}
use Rattle.row_place.specs.Places.{IsPlacement}
use Rattle.row_place.specs.Units.{seats_of}
use Rattle.row_place.proofs.Bounds.{node_line}
use Rattle.channel_route.specs.declared.routing.Trunk.{Trunk}
use Rattle.channel_route.specs.declared.routing.Routing.{Routing}
use Rattle.channel_route.specs.Wiring.{IsWiring}
use Rattle.row_compact.specs.Allowed.{AreAllowed, stretches_of}
use Rattle.row_compact.specs.Solution.{x_of}
use Rattle.row_compact.proofs.Within.{wired_left, wired_right}
use Rattle.cell_draw.specs.declared.layout.Frame.{Frame}
use Rattle.cell_draw.specs.declared.layout.Gate.{Gate}
use Rattle.cell_draw.specs.declared.layout.Tag.{Tag}
use Rattle.cell_draw.specs.declared.layout.Layout.{Layout}
use Rattle.cell_draw.specs.declared.drawing.Drawing.{Drawing}
use Rattle.cell_draw.specs.Drawings.{label_of, drawing_of, drawn_of, base_of, base_drawn_of}
use Rattle.cell_draw.specs.Frame.{frame_of}
use Rattle.cell_draw.specs.Framed.{BeginsWith, IsLabelInFrame, IsFramed}
use Rattle.cell_draw.specs.Laid.{IsInside, IsGate, IsLaid}
use Rattle.cell_draw.specs.Layouts.{width_of, bar_of, gates_on, layout_of}
use Rattle.cell_draw.specs.Shapes.{frame_shapes, finger, contact_shapes, gate_shapes, bar_shapes}
use Rattle.cell_draw.specs.Small.{HasWidths}
use Rattle.cell_draw.specs.Sound.{IsSoundRow, AreLines}
use Rattle.cell_draw.proofs.BridgeLines.{wide_enough}
use Rattle.cell_draw.proofs.BridgePlaces.{inside}
use Rattle.cell_draw.proofs.BridgeWhole.{lines_of_allowed, frame_is, laid, base_laid}
use Rattle.cell_draw.proofs.Draws.{drawn_is}
use Rattle.cell_draw.proofs.Framed.{IsBarInside, others_of, others_in}
use Rattle.cell_draw.proofs.FramedTags.{tags_at}

label_in : (names : List (List ℕ)) (f : Frame) (t : Tag) → IsInside f t.x → IsLabelInFrame f (label_of names t)
label_in names f t i = let left = i.left in let right = i.right in record { left = omega (arith, ints); right = omega (arith, ints) }

-- a laid layout whose bars and tags stand inside the cell, on lines that end 8 before its side
pub framed : (names : List (List ℕ)) (l : Layout) (xs : List ℕ) (last : ℕ) → IsLaid l → All (IsBarInside l.frame) l.bars → All (λ (t : Tag). IsInside l.frame t.x) l.tags → 8 ≤ x_of xs 0 → length xs ≡ last + 1 → l.frame.width ≡ x_of xs last + 8 → IsFramed l.frame xs (drawing_of names l)
framed names l xs last w bars tags first lines width = record {
  first = first;
  last = subst (λ n. l.frame.width ≡ x_of xs n + 8) (let e : last ≡ length xs - 1 = omega (arith, lines) in e) width;
  n_edge = w.frame.rows.low;
  p_edge = w.frame.rows.channel;
  n_row = w.frame.rows.n_least;
  p_row = w.frame.rows.p_least;
  width = refl;
  height = refl;
  frame = record { others = others_of l; is = refl };
  others = others_in l w bars;
  labels = all_map (λ (t : Tag). IsInside l.frame t.x) (IsLabelInFrame l.frame) (label_of names) l.tags (label_in names l.frame) tags;
}

pub drawn_framed : (names : List (List ℕ)) (pins : Pins) (p : Placement) (r : Routing) (xs : List ℕ) (height : ℕ) (d : Drawing) → d ≡ drawn_of names pins p r xs height → IsPlacement p → IsSoundRow names pins p.row → IsWiring p pins r → AreAllowed p pins (stretches_of r.trunks) xs → IsFramed (frame_of p.row r.tracks height (width_of p xs)) xs d
drawn_framed names pins p r xs height d e is row wiring allowed =
    subst (λ z. IsFramed f xs z) (sym e) (framed names (layout_of (length names) pins p r xs height) xs (2 * length p.units) whole bars tags lines.first lines.lines refl)
  where
    f : Frame
    f = frame_of p.row r.tracks height (width_of p xs)

    lines : AreLines p xs
    lines = lines_of_allowed p pins r xs allowed

    at : (line : ℕ) → line ≤ 2 * length p.units → IsInside f (x_of xs line)
    at line most = inside p xs f is lines refl line most (x_of xs line) refl

    whole : IsLaid (layout_of (length names) pins p r xs height)
    whole = laid names pins p r xs f (length names) (drawn_is names pins p r xs height is row wiring allowed)

    left : (t : Trunk) → Contains r.trunks t → IsInside f (x_of xs t.left)
    left t there = at t.left (wired_left p pins r is wiring t there)

    right : (t : Trunk) → Contains r.trunks t → IsInside f (x_of xs t.right)
    right t there = at t.right (wired_right p pins r is wiring t there)

    bars : All (IsBarInside f) (map (bar_of f p.nodes r.trunks xs) r.trunks)
    bars = all_map (λ (t : Trunk). Contains r.trunks t) (IsBarInside f) (bar_of f p.nodes r.trunks xs) r.trunks
        (λ t there. record { left = (left t there).left; right = (right t there).right })
        (all_from_contains (λ (t : Trunk). Contains r.trunks t) r.trunks (λ t there. there))

    gates : List Gate
    gates = gates_on f r.trunks xs (seats_of p.row)

    rail : IsInside f 8
    rail = record { left = omega arith; right = omega (arith, wide_enough p xs lines) }

    tags : All (λ (t : Tag). IsInside f t.x) (layout_of (length names) pins p r xs height).tags
    tags = tags_at (IsInside f) pins f (length names) p.nodes r.trunks xs gates (record {
      rails = rail;
      at_nodes = all_from_contains (λ (n : NodePlace). IsInside f (x_of xs n.line)) p.nodes (λ n there. at n.line (node_line p is n there));
      at_trunks = all_from_contains (λ (t : Trunk). IsInside f (x_of xs t.left)) r.trunks left;
      at_gates = all_from_contains (λ (g : Gate). IsInside f g.x) gates (λ g there. (All-contains (IsGate f) gates g whole.gates there).inside);
    })

pub base_framed : (pins : Pins) (p : Placement) (tracks : ℕ) (xs : List ℕ) (height : ℕ) (d : Drawing) → d ≡ base_drawn_of pins p tracks xs height → IsPlacement p → AreLines p xs → All HasWidths p.row → IsFramed (frame_of p.row tracks height (width_of p xs)) xs d
base_framed pins p tracks xs height d e is lines wide =
    subst (λ z. IsFramed f xs z) (sym e) (framed [] (base_of f pins p xs) xs (2 * length p.units) whole (All-nil (IsBarInside f)) (All-nil (λ (t : Tag). IsInside f t.x)) lines.first lines.lines refl)
  where
    f : Frame
    f = frame_of p.row tracks height (width_of p xs)

    whole : IsLaid (base_of f pins p xs)
    whole = base_laid pins p tracks xs f is lines wide (frame_is p tracks height xs lines) refl refl refl

-- the groups behind the first two come last, whatever they are
behind_two : {X : Type 0} (a b c d e : List X) → a ++ b ++ c ++ d ++ e ≡ (a ++ b ++ [] ++ [] ++ []) ++ (c ++ d ++ e)
behind_two {X} a b c d e = left ∙ ap (λ (z : List X). z ++ (c ++ d ++ e)) (sym front)
  where
    front : a ++ b ++ [] ++ [] ++ [] ≡ a ++ b
    front = append-nil (a ++ b ++ [] ++ []) ∙ append-nil (a ++ b ++ []) ∙ append-nil (a ++ b)

    left : a ++ b ++ c ++ d ++ e ≡ (a ++ b) ++ (c ++ d ++ e)
    left = ap (λ (z : List X). z ++ e) (append_assoc (a ++ b) c d) ∙ append_assoc (a ++ b) (c ++ d) e

pub drawn_begins : (names : List (List ℕ)) (pins : Pins) (p : Placement) (r : Routing) (xs : List ℕ) (height : ℕ) (d : Drawing) → d ≡ drawn_of names pins p r xs height → BeginsWith (base_drawn_of pins p r.tracks xs height).shapes.rects d.shapes.rects
drawn_begins names pins p r xs height d e = record { others = flat_map (contact_shapes f) l.contacts ++ flat_map (gate_shapes f) l.gates ++ flat_map bar_shapes l.bars; is = ap (λ (z : Drawing). z.shapes.rects) e ∙ behind_two (frame_shapes f) (flat_map (λ s. finger f s ∷ []) l.strips) (flat_map (contact_shapes f) l.contacts) (flat_map (gate_shapes f) l.gates) (flat_map bar_shapes l.bars) }
  where
    f : Frame
    f = frame_of p.row r.tracks height (width_of p xs)

    l : Layout
    l = layout_of (length names) pins p r xs height
