-- The first bare cell of two layers of metal.
use Rattle.std.proofs.Common.{◌≡◌, ℤ, ◌<ℤ◌, ◌≤ℤ◌, Bool, true, false, ◌&&◌, if◌then◌else◌, int_le, int_lt, inl, inr, ◌⊎◌, List, arith, refl, sym, subst}
use Rattle.std.specs.Bool.{Decides}
use Rattle.std.specs.List.{All, filter, flat_map}
use Rattle.std.proofs.lemmas.List.Elements.{All-append, All-filter}
use Rattle.std.proofs.lemmas.Bool.Decides.{Decides-and, Decides-or}
use Rattle.std.proofs.lemmas.Int.{ints, by_lt_z}
use Rattle.cell_num.proofs.Lists.{all_flat, all_imply, all_map, all_two}
use Rattle.box_geom.specs.Layers.{AreWithinLimits, rects_on, same_layer}
use Rattle.box_geom.specs.Rectangle.{IsRectangle, Rectangle}
use Rattle.box_geom.specs.Regions.{IsBlock, IsEmpty, IsFirst, NotAfter}
use Rattle.box_geom.specs.declared.layer.Layer.{Layer}
use Rattle.box_geom.specs.declared.layer.Layer.TheVariants.{Metal1, Metal2}
use Rattle.box_geom.specs.declared.region.Place.{Place}
use Rattle.box_geom.specs.declared.shape.Shape.{Shape}
use Rattle.box_geom.specs.declared.shape.Shapes.{Shapes}
use Rattle.lef_read.specs.declared.cell.LefPin.{LefPin}
use Rattle.lef_read.specs.declared.cell.LefRect.{LefRect}
use Rattle.lef_read.specs.declared.cell.Macro.{Macro}
use Rattle.lef_read.specs.Agreement.{IsShown, on_layer, shown_on, metals}
use Rattle.lef_read.specs.Differences.{IsBare, IsBareMetal}
use Rattle.lef_read.specs.Lookups.{comes_before, bare_as, earlier_of, HasLimits, HavePortsLimits, IsBareBy}
use Rattle.lef_read.proofs.Cells.{covers_or_not}

pub none_bare : (shapes : Shapes) (cell : Macro) → IsEmpty (IsBare shapes cell Metal1) → IsEmpty (IsBare shapes cell Metal2) → IsEmpty (IsBareMetal shapes cell)
none_bare shapes cell one two x y (inl b) = one x y b
none_bare shapes cell one two x y (inr b) = two x y b

pub only_metal1 : (shapes : Shapes) (cell : Macro) (p : Place) → IsFirst (IsBare shapes cell Metal1) p.x p.y → IsEmpty (IsBare shapes cell Metal2) → IsBareBy shapes cell (bare_as Metal1 p)
only_metal1 shapes cell p one none = record {
  at = record { covered = inl one.covered; first = λ s t b. elim b [ inl c ↦ one.first s t c | inr c ↦ absurd (none s t c) ] };
  on = one.covered;
}

pub only_metal2 : (shapes : Shapes) (cell : Macro) (p : Place) → IsEmpty (IsBare shapes cell Metal1) → IsFirst (IsBare shapes cell Metal2) p.x p.y → IsBareBy shapes cell (bare_as Metal2 p)
only_metal2 shapes cell p none two = record {
  at = record { covered = inr two.covered; first = λ s t b. elim b [ inl c ↦ absurd (none s t c) | inr c ↦ two.first s t c ] };
  on = (none p.x p.y, two.covered);
}

-- ---- the order by y, then x
lt_decides : (a b : ℤ) → Decides (int_lt a b) (a <ℤ b)
lt_decides a b = (λ e. omega (arith, ints), λ h. grind (arith, ints))

le_decides : (a b : ℤ) → Decides (int_le a b) (a ≤ℤ b)
le_decides a b = (λ e. omega (arith, ints), λ h. grind (arith, ints))

order_decides : (p q : Place) → Decides (comes_before p q) ((p.y <ℤ q.y) ⊎ ((p.y ≤ℤ q.y) × (p.x <ℤ q.x)))
order_decides p q = Decides-or (int_lt p.y q.y) (int_le p.y q.y && int_lt p.x q.x) (lt_decides p.y q.y) (Decides-and (int_le p.y q.y) (int_lt p.x q.x) (le_decides p.y q.y) (lt_decides p.x q.x))

not_after_both : (a b c d e f : ℤ) → NotAfter a b c d → NotAfter c d e f → NotAfter a b e f
not_after_both a b c d e f p q =
    let pr = p.row in
    let qr = q.row in
    record {
      row = omega (arith, ints);
      column = λ le.
          let u : a ≤ℤ c = p.column (omega (arith, ints)) in
          let v : c ≤ℤ e = q.column (omega (arith, ints)) in
          omega (arith, ints);
    }

before : (p q : Place) → (p.y <ℤ q.y) ⊎ ((p.y ≤ℤ q.y) × (p.x <ℤ q.x)) → NotAfter p.x p.y q.x q.y
before p q (inl less) = record { row = omega (arith, ints); column = λ le. absurd (omega (arith, ints)) }
before p q (inr (row, less)) = record { row = row; column = λ le. omega (arith, ints) }

not_back : (p q : Place) → (p.y <ℤ q.y) ⊎ ((p.y ≤ℤ q.y) × (p.x <ℤ q.x)) → NotAfter q.x q.y p.x p.y → ⊥
not_back p q (inl less) back = let r = back.row in omega (arith, ints)
not_back p q (inr (row, less)) back = let c : q.x ≤ℤ p.x = back.column row in omega (arith, ints)

behind : (p q : Place) → ((p.y <ℤ q.y) ⊎ ((p.y ≤ℤ q.y) × (p.x <ℤ q.x)) → ⊥) → NotAfter q.x q.y p.x p.y
behind p q no' = record {
  row = by_lt_z p.y q.y (λ less. absurd (no' (inl less))) (λ most. most);
  column = λ le. by_lt_z p.x q.x (λ less. absurd (no' (inr (le, less)))) (λ most. most);
}

pub both_bare : (shapes : Shapes) (cell : Macro) (one two : Place) → IsFirst (IsBare shapes cell Metal1) one.x one.y → IsFirst (IsBare shapes cell Metal2) two.x two.y → IsBareBy shapes cell (earlier_of one two)
both_bare shapes cell one two first second = by (comes_before two one) (order_decides two one)
  where
    by : (b : Bool) → Decides b ((two.y <ℤ one.y) ⊎ ((two.y ≤ℤ one.y) × (two.x <ℤ one.x))) → IsBareBy shapes cell (if b then bare_as Metal2 two else bare_as Metal1 one)
    by true d = record {
      at = record { covered = inr second.covered; first = λ s t b. elim b [ inl c ↦ not_after_both two.x two.y one.x one.y s t (before two one (d.0 refl)) (first.first s t c) | inr c ↦ second.first s t c ] };
      on = (λ c. not_back two one (d.0 refl) (first.first two.x two.y c), second.covered);
    }
    by false d = record {
      at = record { covered = inl first.covered; first = λ s t b. elim b [ inl c ↦ first.first s t c | inr c ↦ not_after_both one.x one.y two.x two.y s t (behind two one (λ o. absurd (cc (d.1 o)))) (second.first s t c) ] };
      on = first.covered;
    }

-- ---- metal that is not bare is shown
shown_all : (shapes : Shapes) (cell : Macro) (layer : Layer) → IsEmpty (IsBare shapes cell layer) → IsShown shapes cell layer
shown_all shapes cell layer none x y c = elim (covers_or_not (shown_on layer cell) x y) [ inl bare ↦ absurd (none x y (c, bare)) | inr shown ↦ shown ]

pub all_shown : (shapes : Shapes) (cell : Macro) → IsEmpty (IsBareMetal shapes cell) → All (IsShown shapes cell) metals
all_shown shapes cell none = all_two (IsShown shapes cell) Metal1 Metal2 (shown_all shapes cell Metal1 (λ x y b. none x y (inl b))) (shown_all shapes cell Metal2 (λ x y b. none x y (inr b)))

-- ---- rectangles within their limits
block_of : (r : Rectangle) → IsRectangle r → IsBlock r
block_of r is =
    let a = is.left in
    let b = is.right in
    let c = is.low in
    let d = is.top in
    record { proper = is.proper; left = omega (arith, ints); right = omega (arith, ints); low = omega (arith, ints); top = omega (arith, ints) }

pub drawn_blocks : (shapes : List Shape) (layer : Layer) (made : List Rectangle) → AreWithinLimits shapes → made ≡ rects_on layer shapes → All IsBlock made
drawn_blocks shapes layer made limits e = subst (All IsBlock) (sym e) (all_imply IsRectangle IsBlock (rects_on layer shapes) block_of (limits.on layer))

layer_blocks : (layer : Layer) (rects : List LefRect) → All HasLimits rects → All IsBlock (on_layer layer rects)
layer_blocks layer rects all = all_map HasLimits IsBlock (λ (r : LefRect). r.rect) (filter (λ (r : LefRect). same_layer r.layer layer) rects) (λ r is. block_of r.rect is) (All-filter (λ (r : LefRect). same_layer r.layer layer) HasLimits rects all)

pub shown_blocks : (layer : Layer) (cell : Macro) (made : List Rectangle) → All HavePortsLimits cell.pins → All HasLimits cell.obstructions → made ≡ shown_on layer cell → All IsBlock made
shown_blocks layer cell made ports obs e = subst (All IsBlock) (sym e) (All-append IsBlock (flat_map (λ (p : LefPin). on_layer layer p.ports) cell.pins) (on_layer layer cell.obstructions) (all_flat HavePortsLimits IsBlock (λ (p : LefPin). on_layer layer p.ports) cell.pins (λ p all. layer_blocks layer p.ports all) ports) (layer_blocks layer cell.obstructions obs))

pub ruleset bare_rules = (none_bare, only_metal1, only_metal2, both_bare)
