-- Two cells between the same neighbouring cuts are covered alike.
use Rattle.std.proofs.Common.{◌↔◌, zero, suc, ℤ, ◌≤ℤ◌, ◌<ℤ◌, Bool, true, false, cond, List, [], ◌∷◌, map, arith, refl, sym, subst}
use Rattle.std.specs.List.{Contains, filter}
use Rattle.std.proofs.lemmas.Int.{ints, by_lt_z}
use Rattle.std.proofs.lemmas.List.Elements.{Contains-append_left, Contains-append_right}
use Rattle.box_geom.specs.Rectangle.{Rectangle, Covers}
use Rattle.box_geom.specs.Layers.{rects_on, same_layer}
use Rattle.box_geom.specs.Cutting.{ends_of, sides, AreCuts, SameSlot, AreAlike}
use Rattle.box_geom.specs.declared.shape.Shape.{Shape}
use Rattle.box_geom.specs.declared.layer.Layer.{Layer}
use Rattle.box_geom.specs.declared.cuts.Axis.{Axis}
use Rattle.box_geom.specs.declared.cuts.Axis.TheVariants.{X, Y}

same_side : (a x s : ℤ) → (a ≤ℤ x ↔ a ≤ℤ s) → x <ℤ a → s <ℤ a
same_side a x s e less = by_lt_z s a (λ l. l) (λ most. let back = e.1 most in absurd (omega (arith, ints)))

-- the four sides of a rectangle are among the cuts
record AreSidesCut (xs ys : List ℤ) (r : Rectangle) : Type 0 where
  x1 : Contains xs r.x1
  x2 : Contains xs r.x2
  y1 : Contains ys r.y1
  y2 : Contains ys r.y2

-- a rectangle of a layer is that of a shape
listed_side : (layer : Layer) (axis : Axis) (shapes : List Shape) (r : Rectangle) → Contains (rects_on layer shapes) r → (z : ℤ) → Contains (ends_of axis r) z → Contains (sides axis shapes) z
listed_side layer axis [] r (k, lt, is) z e = absurd (omega arith)
listed_side layer axis (s ∷ ss) r c z e = by (same_layer s.layer layer) (listed_side layer axis ss r) c
  where
    by : (b : Bool) → (Contains (rects_on layer ss) r → (z : ℤ) → Contains (ends_of axis r) z → Contains (sides axis ss) z) → Contains (map (λ (t : Shape). t.rect) (cond b (s ∷ filter (λ (t : Shape). same_layer t.layer layer) ss) (filter (λ (t : Shape). same_layer t.layer layer) ss))) r → Contains (sides axis (s ∷ ss)) z
    by false rest d = Contains-append_right (ends_of axis s.rect) (sides axis ss) z (rest d z e)
    by true rest (zero, lt, is) = Contains-append_left (ends_of axis s.rect) (sides axis ss) z (subst (λ q. Contains (ends_of axis q) z) (sym is) e)
    by true rest (suc k, lt, is) = Contains-append_right (ends_of axis s.rect) (sides axis ss) z (rest (k, omega arith, is) z e)

first_of : (a b : ℤ) → Contains (a ∷ b ∷ []) a
first_of a b = (0, omega arith, refl)

second_of : (a b : ℤ) → Contains (a ∷ b ∷ []) b
second_of a b = (1, omega arith, refl)

cut : (layer : Layer) (shapes : List Shape) (xs ys : List ℤ) → AreCuts (sides X shapes) xs → AreCuts (sides Y shapes) ys → (r : Rectangle) → Contains (rects_on layer shapes) r → AreSidesCut xs ys r
cut layer shapes xs ys across upward r listed =
    record {
      x1 = (across.same r.x1).1 (listed_side layer X shapes r listed r.x1 (first_of r.x1 r.x2));
      x2 = (across.same r.x2).1 (listed_side layer X shapes r listed r.x2 (second_of r.x1 r.x2));
      y1 = (upward.same r.y1).1 (listed_side layer Y shapes r listed r.y1 (first_of r.y1 r.y2));
      y2 = (upward.same r.y2).1 (listed_side layer Y shapes r listed r.y2 (second_of r.y1 r.y2));
    }

moved : (shapes : List Shape) (xs ys : List ℤ) → AreCuts (sides X shapes) xs → AreCuts (sides Y shapes) ys → (layer : Layer) (x s y t : ℤ) → SameSlot xs x s → SameSlot ys y t → Covers (rects_on layer shapes) x y → Covers (rects_on layer shapes) s t
moved shapes xs ys across upward layer x s y t row column c =
    let r = c.rect in
    let h = c.holds in
    let k = cut layer shapes xs ys across upward r c.listed in
    record {
      rect = r;
      listed = c.listed;
      holds = record {
        left = (row r.x1 k.x1).0 h.left;
        right = same_side r.x2 x s (row r.x2 k.x2) h.right;
        low = (column r.y1 k.y1).0 h.low;
        high = same_side r.y2 y t (column r.y2 k.y2) h.high;
      };
    }

turned : (cuts : List ℤ) (x s : ℤ) → SameSlot cuts x s → SameSlot cuts s x
turned cuts x s same z c = let e = same z c in (e.1, e.0)

pub alike : (shapes : List Shape) (xs ys : List ℤ) → AreCuts (sides X shapes) xs → AreCuts (sides Y shapes) ys → AreAlike shapes xs ys
alike shapes xs ys across upward =
    record { alike = λ layer x s y t row column. (moved shapes xs ys across upward layer x s y t row column, moved shapes xs ys across upward layer s x t y (turned xs x s row) (turned ys y t column)) }
