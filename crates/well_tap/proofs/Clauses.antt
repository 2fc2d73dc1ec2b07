-- The clauses on the drawing with taps of a base.
use Rattle.std.proofs.Common.{◌≡◌, ◌≢◌, ℕ, ◌+◌, ◌-◌, ◌≤◌, ℤ, pos, neg_ℤ, ◌+ℤ◌, ◌-ℤ◌, ◌≤ℤ◌, Bool, true, false, cond, List, [], ◌∷◌, ◌++◌, map, length, append_assoc, refl, sym, subst, ap, ◌∙◌, arith}
use Rattle.std.specs.List.{All, Contains}
use Rattle.std.proofs.lemmas.Int.{ints}
use Rattle.std.proofs.lemmas.List.{length-append, length-map}
use Rattle.std.proofs.lemmas.List.Elements.{All-head, All-tail, All-cons, All-append, All-contains}
use Rattle.cell_num.specs.declared.net.Pins.{Pins}
use Rattle.cell_num.proofs.Lists.{contains_here, all_imply, all_two, all_map}
use Rattle.box_geom.specs.Layers.{same_layer, rects_on, AreWithinLimits}
use Rattle.box_geom.specs.Rectangle.{IsRectangle}
use Rattle.box_geom.specs.declared.layer.Layer.{Layer}
use Rattle.box_geom.specs.declared.layer.Layer.TheVariants.{Well, Active, PSelect, NSelect, Contact, Metal1 as Metal1Layer, Metal2 as Metal2Layer}
use Rattle.box_geom.specs.declared.shape.Shape.{Shape}
use Rattle.scmos_rules.specs.Rules.{Obeys}
use Rattle.scmos_rules.specs.declared.rules.Deck.TheVariants.{Plain, Taps}
use Rattle.net_extract.specs.Labels.{IsNamed}
use Rattle.net_extract.specs.Nets.{site_at}
use Rattle.net_extract.specs.declared.piece.Conductor.TheVariants.{Metal1}
use Rattle.net_extract.proofs.LayerNumbers.{layer_is}
use Rattle.cell_draw.specs.declared.drawing.Drawing.{Drawing}
use Rattle.cell_draw.specs.declared.layout.Frame.{Frame}
use Rattle.cell_draw.specs.Bounds.{IsShapeWithin, AreWithin}
use Rattle.cell_draw.specs.Named.{name_of}
use Rattle.cell_draw.specs.Shapes.{cell_height, box, around, well, p_select, n_select, gnd_rail, vdd_rail, frame_shapes}
use Rattle.cell_draw.specs.Shown.{ShowsTrack}
use Rattle.cell_draw.specs.Frame.{channel_edge}
use Rattle.well_tap.specs.Base.{IsBetweenTaps, IsBase, first_line, last_line}
use Rattle.well_tap.specs.Bodied.{AreBodied, AreRails}
use Rattle.well_tap.specs.Kept.{KeepsMetal, IsSameCircuit, ShowsTheSame}
use Rattle.well_tap.specs.Measures.{WELL_PAST_END, MOST_TAPPED_HEIGHT, TAP_SHAPES}
use Rattle.well_tap.specs.Tapped.{raised, tap_at, taps_at, tapped_shapes, tapped, CanRise}
use Rattle.well_tap.proofs.Bodies.{bodied}
use Rattle.well_tap.proofs.Circuit.{extracts_up, row_up}
use Rattle.well_tap.proofs.Gained.{gains}
use Rattle.well_tap.proofs.Rules.{obeys_taps}
use Rattle.well_tap.proofs.TapCells.{AreTapped}
use Rattle.well_tap.proofs.TapLabels.{with_labels, named_up, names_up}
use Rattle.well_tap.proofs.Covered.{same_metal1, same_metal2}
use Rattle.well_tap.proofs.Tapping.{Tapping, base, whole, taps, high_well, height}

abbrev tapping : (xs : List ℕ) (d : Drawing) → IsBase xs d → Tapping
tapping xs d b = record {
  frame = b.frame;
  others = b.begins.others;
  first = first_line xs;
  last = last_line xs;
  high = d.height - 8;
  stacked = b.stacked;
  spread = b.spread;
  top = let k = b.stacked in let e = b.height in omega (arith, k.n_edge, k.p_edge, k.n_row, k.p_row, e);
  between = b.others;
}

-- ---- the shapes
raised_other : (top : ℕ) (s : Shape) → s.layer ≢ Well → raised top s ≡ s
raised_other top s other = by (same_layer s.layer Well) refl
  where
    by : (b : Bool) → same_layer s.layer Well ≡ b → cond b (box s.layer s.rect.x1 s.rect.y1 s.rect.x2 (pos top)) s ≡ s
    by true e = absurd (other (layer_is s.layer Well e))
    by false e = refl

raised_others : (top : ℕ) (f : Frame) (ss : List Shape) → All (IsBetweenTaps f) ss → map (raised top) ss ≡ ss
raised_others top f [] all = refl
raised_others top f (s ∷ ss) all = rw (raised_other top s (All-head (IsBetweenTaps f) s ss all).no_well, raised_others top f ss (All-tail (IsBetweenTaps f) s ss all)) refl

is_whole : (xs : List ℕ) (d : Drawing) (b : IsBase xs d) → tapped_shapes d.height (first_line xs) (last_line xs) d.shapes.rects ≡ whole (tapping xs d b)
is_whole xs d b =
    append_assoc (map (raised (d.height + WELL_PAST_END)) d.shapes.rects) (taps_at d.height (first_line xs)) (taps_at d.height (last_line xs))
    ∙ subst (λ ss. map (raised (d.height + WELL_PAST_END)) ss ++ taps (tapping xs d b) ≡ whole (tapping xs d b)) (sym b.begins.is)
    (subst (λ n. map (raised (n + WELL_PAST_END)) (base (tapping xs d b)) ++ taps (tapping xs d b) ≡ whole (tapping xs d b)) (sym b.height)
    (ap (λ ss. high_well b.frame ∷ p_select b.frame ∷ n_select b.frame ∷ gnd_rail b.frame ∷ vdd_rail b.frame ∷ (ss ++ taps (tapping xs d b))) (raised_others (cell_height b.frame + WELL_PAST_END) b.frame b.begins.others b.others)))

gains_of : (xs : List ℕ) (d : Drawing) (b : IsBase xs d) → AreTapped d.shapes.rects (tapped_shapes d.height (first_line xs) (last_line xs) d.shapes.rects) (height (tapping xs d b))
gains_of xs d b =
    subst (λ t. AreTapped d.shapes.rects t (height (tapping xs d b))) (sym (is_whole xs d b))
    (subst (λ s. AreTapped s (whole (tapping xs d b)) (height (tapping xs d b))) (sym b.begins.is) (gains (tapping xs d b)))

-- ---- what the code asks
pub can_rise : (xs : List ℕ) (d : Drawing) (top : ℕ) → IsBase xs d → d.height ≤ top → All (CanRise top) d.shapes.rects
can_rise xs d top b most = subst (All (CanRise top)) (sym b.begins.is) (All-append (CanRise top) (frame_shapes f) b.begins.others frame (all_imply (IsBetweenTaps f) (CanRise top) b.begins.others (λ s i. record { well = λ e. absurd (i.no_well e) }) b.others))
  where
    f : Frame
    f = b.frame

    well_rises : CanRise top (well f)
    well_rises = record { well = λ e. let h = b.height in omega (arith, ints, h, most) }

    frame : All (CanRise top) (frame_shapes f)
    frame =
        All-cons (CanRise top) (well f) (p_select f ∷ n_select f ∷ gnd_rail f ∷ vdd_rail f ∷ []) well_rises
        (All-cons (CanRise top) (p_select f) (n_select f ∷ gnd_rail f ∷ vdd_rail f ∷ []) (record { well = λ e. absurd cc })
        (All-cons (CanRise top) (n_select f) (gnd_rail f ∷ vdd_rail f ∷ []) (record { well = λ e. absurd cc })
        (all_two (CanRise top) (gnd_rail f) (vdd_rail f) (record { well = λ e. absurd cc }) (record { well = λ e. absurd cc }))))

-- the sides of the well are within the limits of rectangles, and the lines within the well
pub lines_within : (xs : List ℕ) (d : Drawing) → IsBase xs d → AreWithinLimits d.shapes.rects → (first_line xs ≤ 999999982) × (last_line xs ≤ 999999982)
lines_within xs d b limits =
    let r : IsRectangle (well b.frame).rect = All-contains (λ (s : Shape). IsRectangle s.rect) d.shapes.rects (well b.frame) limits.all (subst (λ ss. Contains ss (well b.frame)) (sym b.begins.is) (contains_here (well b.frame) (p_select b.frame ∷ n_select b.frame ∷ gnd_rail b.frame ∷ vdd_rail b.frame ∷ b.begins.others))) in
    let right = r.right in
    let w = b.spread in
    (omega (arith, ints, right, w.left, w.apart, w.right), omega (arith, ints, right, w.left, w.apart, w.right))

-- ---- what it promises
pub obeys : (xs : List ℕ) (d e : Drawing) → IsBase xs d → Obeys Plain d.shapes.rects → e ≡ tapped xs d → Obeys Taps e.shapes.rects
obeys xs d e b o is =
    subst (λ (z : Drawing). Obeys Taps z.shapes.rects) (sym is)
    (subst (Obeys Taps) (sym (is_whole xs d b)) (obeys_taps (tapping xs d b) (subst (Obeys Plain) b.begins.is o)))

pub as_large : (xs : List ℕ) (d e : Drawing) → IsBase xs d → e ≡ tapped xs d → KeepsMetal d e
as_large xs d e b is = subst (KeepsMetal d) (sym is) (record {
  width = refl;
  height = refl;
  labels = refl;
  metal1 = ap (rects_on Metal1Layer) (is_whole xs d b) ∙ (same_metal1 (tapping xs d b) ∙ sym (ap (rects_on Metal1Layer) b.begins.is));
  metal2 = ap (rects_on Metal2Layer) (is_whole xs d b) ∙ (same_metal2 (tapping xs d b) ∙ sym (ap (rects_on Metal2Layer) b.begins.is));
})

pub same_circuit : (xs : List ℕ) (d e : Drawing) → IsBase xs d → e ≡ tapped xs d → IsSameCircuit d e
same_circuit xs d e b is = subst (IsSameCircuit d) (sym is) (record {
  sites = λ deck name a n. named_up deck d.shapes.rects (tapped xs d).shapes.rects (height (tapping xs d b)) (gains_of xs d b) d.shapes.labels name a n;
  named = λ deck names n. names_up deck d.shapes.rects (tapped xs d).shapes.rects (height (tapping xs d b)) (gains_of xs d b) d.shapes.labels names n;
  extracts = λ deck names fingers x. extracts_up deck d.shapes.rects (tapped xs d).shapes.rects (height (tapping xs d b)) (gains_of xs d b) d.shapes.labels names fingers x;
})

pub shows_same : (xs : List ℕ) (d e : Drawing) → IsBase xs d → e ≡ tapped xs d → ShowsTheSame d e
shows_same xs d e b is = subst (ShowsTheSame d) (sym is) (record {
  row = λ names row x. row_up Taps d.shapes.rects (tapped xs d).shapes.rects (height (tapping xs d b)) (gains_of xs d b) d.shapes.labels names row x;
  routing = λ names pins p r x. record {
    nets = x.nets;
    order = x.order;
    spans = x.spans;
    shown = all_imply (ShowsTrack names (channel_edge p.row) d.shapes) (ShowsTrack names (channel_edge p.row) (tapped xs d).shapes) r.trunks (λ t z. record { label = z.label; listed = z.listed; reads = z.reads; layer = z.layer; height = z.height }) x.shown;
    below = x.below;
    full = x.full;
  };
})

pub bodies : (xs : List ℕ) (d e : Drawing) → IsBase xs d → e ≡ tapped xs d → (names : List (List ℕ)) (pins : Pins) → AreRails names pins d → AreBodied names pins e.shapes
bodies xs d e b is names pins r =
    subst (λ (z : Drawing). AreBodied names pins z.shapes) (sym is)
    (subst (λ t. AreBodied names pins (with_labels t d.shapes.labels)) (sym (is_whole xs d b))
    (bodied (tapping xs d b) d.shapes.labels names pins
    (subst (λ s. IsNamed Plain (with_labels s d.shapes.labels) (name_of names pins.gnd) (site_at Metal1 (pos 0) (pos 0))) b.begins.is r.gnd)
    (subst (λ n. IsNamed Plain (with_labels (base (tapping xs d b)) d.shapes.labels) (name_of names pins.vdd) (site_at Metal1 (pos 0) (pos n -ℤ pos 1))) b.height
    (subst (λ s. IsNamed Plain (with_labels s d.shapes.labels) (name_of names pins.vdd) (site_at Metal1 (pos 0) (pos d.height -ℤ pos 1))) b.begins.is r.vdd))))

-- ---- how many shapes, and within which limits
pub twelve_more : (xs : List ℕ) (d e : Drawing) → e ≡ tapped xs d → length e.shapes.rects ≡ length d.shapes.rects + TAP_SHAPES
twelve_more xs d e is =
    let top = d.height + WELL_PAST_END in
    let one = length-append (map (raised top) d.shapes.rects ++ taps_at d.height (first_line xs)) (taps_at d.height (last_line xs)) in
    let two = length-append (map (raised top) d.shapes.rects) (taps_at d.height (first_line xs)) in
    let three = length-map d.shapes.rects (raised top) in
    subst (λ (z : Drawing). length z.shapes.rects ≡ length d.shapes.rects + TAP_SHAPES) (sym is) (omega (arith, one, two, three))

in_limits : (x1 y1 x2 y2 : ℤ) (s : Shape) → s.rect.x1 ≡ x1 → s.rect.y1 ≡ y1 → s.rect.x2 ≡ x2 → s.rect.y2 ≡ y2 → neg_ℤ (pos 10) ≤ℤ x1 → x1 ≤ℤ x2 → x2 ≤ℤ pos 1000018 → neg_ℤ (pos 10) ≤ℤ y1 → y1 ≤ℤ y2 → y2 ≤ℤ pos 1000018 → IsShapeWithin s
in_limits x1 y1 x2 y2 s a b c d left wide right low tall high = record {
  x1 = record { least = omega (arith, ints, a, left, wide, right); most = omega (arith, ints, a, left, wide, right) };
  y1 = record { least = omega (arith, ints, b, low, tall, high); most = omega (arith, ints, b, low, tall, high) };
  x2 = record { least = omega (arith, ints, c, left, wide, right); most = omega (arith, ints, c, left, wide, right) };
  y2 = record { least = omega (arith, ints, d, low, tall, high); most = omega (arith, ints, d, low, tall, high) };
}

around_within : (layer : Layer) (x y by : ℕ) → by ≤ 9 → by ≤ x + 10 → x + 9 ≤ 1000018 → y + 9 ≤ 1000018 → IsShapeWithin (around layer x (pos y) by)
around_within layer x y by few left right high = in_limits (pos x -ℤ pos by) (pos y -ℤ pos by) (pos x +ℤ pos by) (pos y +ℤ pos by) (around layer x (pos y) by) refl refl refl refl (omega (arith, ints, few, left)) (omega (arith, ints)) (omega (arith, ints, few, right)) (omega (arith, ints, few)) (omega (arith, ints)) (omega (arith, ints, few, high))

tap_within : (select : Layer) (x y : ℕ) → x + 9 ≤ 1000018 → y + 9 ≤ 1000018 → All IsShapeWithin (tap_at select x y)
tap_within select x y right high =
    All-cons IsShapeWithin (around Active x (pos y) 5) (around select x (pos y) 9 ∷ around Contact x (pos y) 2 ∷ []) (around_within Active x y 5 (omega arith) (omega arith) right high)
    (all_two IsShapeWithin (around select x (pos y) 9) (around Contact x (pos y) 2) (around_within select x y 9 (omega arith) (omega arith) right high) (around_within Contact x y 2 (omega arith) (omega arith) right high))

taps_within : (height x : ℕ) → x + 9 ≤ 1000018 → height ≤ MOST_TAPPED_HEIGHT → All IsShapeWithin (taps_at height x)
taps_within height x right most = All-append IsShapeWithin (tap_at PSelect x 8) (tap_at NSelect x (height - 8)) (tap_within PSelect x 8 right (omega arith)) (tap_within NSelect x (height - 8) right (omega (arith, most)))

raised_within : (top : ℕ) (s : Shape) → top ≤ MOST_TAPPED_HEIGHT + WELL_PAST_END → IsShapeWithin s → IsShapeWithin (raised top s)
raised_within top s most i = by (same_layer s.layer Well)
  where
    by : (b : Bool) → IsShapeWithin (cond b (box s.layer s.rect.x1 s.rect.y1 s.rect.x2 (pos top)) s)
    by true = record { x1 = i.x1; y1 = i.y1; x2 = i.x2; y2 = record { least = omega (arith, ints); most = omega (arith, ints, most) } }
    by false = i

pub within : (xs : List ℕ) (d e : Drawing) → IsBase xs d → d.height ≤ MOST_TAPPED_HEIGHT → AreWithin d.shapes → e ≡ tapped xs d → AreWithin e.shapes
within xs d e b most w is =
    let i : IsShapeWithin (well b.frame) = All-contains IsShapeWithin d.shapes.rects (well b.frame) w.rects (subst (λ ss. Contains ss (well b.frame)) (sym b.begins.is) (contains_here (well b.frame) (p_select b.frame ∷ n_select b.frame ∷ gnd_rail b.frame ∷ vdd_rail b.frame ∷ b.begins.others))) in
    let right = i.x2.most in
    let k = b.spread in
    let top = d.height + WELL_PAST_END in
    subst (λ (z : Drawing). AreWithin z.shapes) (sym is) (record {
      rects = All-append IsShapeWithin (map (raised top) d.shapes.rects ++ taps_at d.height (first_line xs)) (taps_at d.height (last_line xs))
          (All-append IsShapeWithin (map (raised top) d.shapes.rects) (taps_at d.height (first_line xs))
          (all_map IsShapeWithin IsShapeWithin (raised top) d.shapes.rects (λ s z. raised_within top s (omega (arith, most)) z) w.rects)
          (taps_within d.height (first_line xs) (omega (arith, ints, right, k.left, k.apart, k.right)) most))
          (taps_within d.height (last_line xs) (omega (arith, ints, right, k.left, k.apart, k.right)) most);
      labels = w.labels;
    })
