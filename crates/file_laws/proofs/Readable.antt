-- The abstract of a drawing in its frame can be read back.
use Rattle.std.proofs.Common.{ℕ, ℤ, pos, negsuc, neg_ℤ, ◌≡◌, ◌+◌, ◌<◌, ◌≤◌, ◌≤ℤ◌, unsigned_abs, IsTrue, List, [], ◌∷◌, length, get_or, All, Contains, sym, ap, subst, arith}
use Rattle.std.specs.Prelude.{unwrap_or}
use Rattle.std.proofs.lemmas.Int.{ints}
use Rattle.std.proofs.lemmas.List.Elements.{All-append, All-cons, All-contains, All-nil}
use Rattle.std.proofs.lemmas.Nat.{mul-le}
use Rattle.std.proofs.lemmas.Option.{slice_get-get_or}
use Rattle.cell_num.specs.Names.{is_cell, is_name}
use Rattle.cell_num.proofs.Lists.{all_from_contains, all_imply, contains_get}
use Rattle.box_geom.specs.Rectangle.{IsRectangle}
use Rattle.box_geom.specs.declared.shape.Shape.{Shape}
use Rattle.spice_net.specs.Subckts.{AreNames}
use Rattle.spice_net.specs.declared.subckt.Subckt.{Subckt}
use Rattle.cell_draw.specs.Bounds.{IsShapeWithin}
use Rattle.cell_draw.specs.Framed.{IsInFrame}
use Rattle.cell_draw.specs.Shapes.{cell_height, frame_shapes, well, p_select, n_select, gnd_rail, vdd_rail}
use Rattle.cell_draw.specs.declared.drawing.Drawing.{Drawing}
use Rattle.cell_draw.specs.declared.layout.Frame.{Frame}
use Rattle.lef_write.specs.Lef.{name_of}
use Rattle.file_laws.specs.Drawn.{IsMetric, IsReadable, IsSpelled, IsWord}
use Rattle.file_laws.specs.Abstracts.{IsLowDrawing}
use Rattle.file_laws.proofs.Words.{cell_word, name_word}

-- ---- names
pub same_name : (names : List (List ℕ)) (n : ℕ) → n < length names → name_of names n ≡ get_or names n []
same_name names n lt = ap (λ o. unwrap_or o []) (slice_get-get_or names n [] lt)

pub name_there : (names : List (List ℕ)) (n : ℕ) → n < length names → Contains names (get_or names n [])
name_there names n lt = contains_get names n (get_or names n []) (slice_get-get_or names n [] lt)

pin_word : (names : List (List ℕ)) (n : ℕ) → AreNames names → n < length names → IsWord (name_of names n)
pin_word names n are lt =
    subst IsWord (sym (same_name names n lt)) (name_word (get_or names n []) (All-contains (λ name. IsTrue (is_name name)) names (get_or names n []) are (name_there names n lt)))

-- ---- lengths
metric : (unit n : ℕ) → unit ≤ 1000 → n ≤ 1000000 → IsMetric unit n
metric unit n u most = omega (arith, mul-le n unit 1000000 1000 most u)

abs_most : (z : ℤ) → neg_ℤ (pos 10) ≤ℤ z → z ≤ℤ pos 1000000 → unsigned_abs z ≤ 1000000
abs_most (pos n) least most = omega (arith, ints, most)
abs_most (negsuc n) least most = omega (arith, ints, least)

-- right of this side and above this end nothing stands
record IsBelow (right top : ℕ) (s : Shape) : Type 0 where
  x2 : s.rect.x2 ≤ℤ pos right
  y2 : s.rect.y2 ≤ℤ pos top

spelled : (unit right top : ℕ) (s : Shape) → unit ≤ 1000 → right ≤ 1000000 → top ≤ 1000000 → IsRectangle s.rect → IsShapeWithin s → IsBelow right top s → IsSpelled unit s.rect
spelled unit right top s u wide high is near below =
    let p = is.proper in
    let b = below.x2 in
    let t = below.y2 in
    let w = p.wide in
    let h = p.high in
    record {
      proper = is.proper;
      x1 = metric unit (unsigned_abs s.rect.x1) u (abs_most s.rect.x1 near.x1.least (omega (arith, ints, b, w, wide)));
      y1 = metric unit (unsigned_abs s.rect.y1) u (abs_most s.rect.y1 near.y1.least (omega (arith, ints, t, h, high)));
      x2 = metric unit (unsigned_abs s.rect.x2) u (abs_most s.rect.x2 near.x2.least (omega (arith, ints, b, wide)));
      y2 = metric unit (unsigned_abs s.rect.y2) u (abs_most s.rect.y2 near.y2.least (omega (arith, ints, t, high)));
    }

-- ---- a frame
frame_below : (f : Frame) → f.n_edge ≤ f.p_edge → All (IsBelow (f.width + 10) (cell_height f)) (frame_shapes f)
frame_below f rises =
    All-cons (IsBelow (f.width + 10) (cell_height f)) (well f) (p_select f ∷ n_select f ∷ gnd_rail f ∷ vdd_rail f ∷ []) (record { x2 = omega (arith, ints); y2 = omega (arith, ints) })
    (All-cons (IsBelow (f.width + 10) (cell_height f)) (p_select f) (n_select f ∷ gnd_rail f ∷ vdd_rail f ∷ []) (record { x2 = omega (arith, ints); y2 = omega (arith, ints) })
    (All-cons (IsBelow (f.width + 10) (cell_height f)) (n_select f) (gnd_rail f ∷ vdd_rail f ∷ []) (record { x2 = omega (arith, ints); y2 = omega (arith, ints, rises) })
    (All-cons (IsBelow (f.width + 10) (cell_height f)) (gnd_rail f) (vdd_rail f ∷ []) (record { x2 = omega (arith, ints); y2 = omega (arith, ints) })
    (All-cons (IsBelow (f.width + 10) (cell_height f)) (vdd_rail f) [] (record { x2 = omega (arith, ints); y2 = omega (arith, ints) })
    (All-nil (IsBelow (f.width + 10) (cell_height f)))))))

inner_below : (f : Frame) (s : Shape) → IsInFrame f s → IsBelow (f.width + 10) (cell_height f) s
inner_below f s i =
    let right = i.clear.right in
    let high = i.clear.high in
    record { x2 = omega (arith, ints, right); y2 = omega (arith, ints, high) }

pub readable_drawing : (cell : Subckt) (f : Frame) (xs : List ℕ) (d : Drawing) (unit : ℕ) → IsTrue (is_cell cell.name) → AreNames cell.nets → cell.pins.pins ≤ length cell.nets → IsLowDrawing f xs d → 1 ≤ unit → unit ≤ 1000 → IsReadable cell d unit
readable_drawing cell f xs d unit name nets pins low least most = record {
  least = least;
  name = cell_word cell.name name;
  pins = λ n lt. pin_word cell.nets n nets (omega (arith, lt, pins));
  width = metric unit d.width most (omega (arith, low.width));
  height = metric unit d.height most (omega (arith, low.height));
  shapes = all_from_contains (λ (s : Shape). IsSpelled unit s.rect) d.shapes.rects (λ s there. spelled unit (f.width + 10) (cell_height f) s most (omega (arith, low.width, low.framed.width)) (omega (arith, low.height, low.framed.height)) (All-contains (λ (s : Shape). IsRectangle s.rect) d.shapes.rects s low.limits.all there) (All-contains IsShapeWithin d.shapes.rects s low.within.rects there) (All-contains (IsBelow (f.width + 10) (cell_height f)) d.shapes.rects s below there));
}
  where
    below : All (IsBelow (f.width + 10) (cell_height f)) d.shapes.rects
    below = subst (All (IsBelow (f.width + 10) (cell_height f))) (sym low.framed.frame.is) (All-append (IsBelow (f.width + 10) (cell_height f)) (frame_shapes f) low.framed.frame.others (frame_below f (omega (arith, low.framed.p_edge))) (all_imply (IsInFrame f) (IsBelow (f.width + 10) (cell_height f)) low.framed.frame.others (inner_below f) low.framed.others))
