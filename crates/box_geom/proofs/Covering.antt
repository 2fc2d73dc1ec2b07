-- Whether a rectangle holds a cell, and whether a layer covers it.
use Rattle.std.proofs.Common.{◌↔◌, IsTrue, cond, map, zero, suc, ℤ, Bool, true, false, ◌&&◌, ◌||◌, List, [], ◌∷◌, arith, inl, inr, ◌⊎◌, refl, sym, subst}
use Rattle.std.specs.List.{Contains, filter}
use Rattle.std.specs.Bool.{Decides}
use Rattle.std.proofs.lemmas.Int.{ints, clamps, by_lt_z, to_z-of_z}
use Rattle.std.proofs.lemmas.Bool.Decides.{Decides-and, Decides-or, Decides-like}
use Rattle.box_geom.specs.Rectangle.{Rectangle, Holds, Covers}
use Rattle.box_geom.specs.Layers.{rects_on, same_layer}
use Rattle.box_geom.specs.Comparisons.{within, holding, covering}
use Rattle.box_geom.specs.declared.shape.Shape.{Shape}
use Rattle.box_geom.specs.declared.layer.Layer.{Layer}
use Rattle.box_geom.proofs.Spans.{within_decides}

holds_decides : (r : Rectangle) (x y : ℤ) → Decides (holding r x y) (Holds r x y)
holds_decides r x y = Decides-like (holding r x y) (λ h. record { left = h.0.0; right = h.0.1; low = h.1.0; high = h.1.1 }) (λ h. ((h.left, h.right), (h.low, h.high))) (Decides-and (within r.x1 r.x2 x) (within r.y1 r.y2 y) (within_decides r.x1 r.x2 x) (within_decides r.y1 r.y2 y))

covers_none : (x y : ℤ) → Covers [] x y → ⊥
covers_none x y c = let k = c.listed in let lt = k.1 in omega arith

first : (r : Rectangle) (rs : List Rectangle) (x y : ℤ) → Holds r x y → Covers (r ∷ rs) x y
first r rs x y h = record { rect = r; listed = (0, omega arith, refl); holds = h }

later : (r : Rectangle) (rs : List Rectangle) (x y : ℤ) → Covers rs x y → Covers (r ∷ rs) x y
later r rs x y c = let k = c.listed in let lt = k.1 in record { rect = c.rect; listed = (suc k.0, omega arith, k.2); holds = c.holds }

split : (r : Rectangle) (rs : List Rectangle) (x y : ℤ) → Covers (r ∷ rs) x y → Holds r x y ⊎ Covers rs x y
split r rs x y c = by c.rect c.listed c.holds
  where
    by : (q : Rectangle) → Contains (r ∷ rs) q → Holds q x y → Holds r x y ⊎ Covers rs x y
    by q (zero, lt, is) h = inl (subst (λ z. Holds z x y) (sym is) h)
    by q (suc k, lt, is) h = inr (record { rect = q; listed = (k, omega arith, is); holds = h })

pub covered_decides : (shapes : List Shape) (layer : Layer) (x y : ℤ) → IsTrue (covering shapes layer x y) ↔ Covers (rects_on layer shapes) x y
covered_decides [] layer x y = (λ e. absurd (cc e), λ c. absurd (covers_none x y c))
covered_decides (s ∷ ss) layer x y = step (same_layer s.layer layer) (covered_decides ss layer x y)
  where
    step : (b : Bool) → (IsTrue (covering ss layer x y) ↔ Covers (rects_on layer ss) x y) → IsTrue ((b && holding s.rect x y) || covering ss layer x y) ↔ Covers (map (λ (t : Shape). t.rect) (cond b (s ∷ filter (λ (t : Shape). same_layer t.layer layer) ss) (filter (λ (t : Shape). same_layer t.layer layer) ss))) x y
    step true rest = Decides-like (holding s.rect x y || covering ss layer x y) (λ e. elim e [ inl h ↦ first s.rect (rects_on layer ss) x y h | inr c ↦ later s.rect (rects_on layer ss) x y c ]) (split s.rect (rects_on layer ss) x y) (Decides-or (holding s.rect x y) (covering ss layer x y) (holds_decides s.rect x y) rest)
    step false rest = rest

-- the numbers of a cell went to bits and are read again
pub ruleset cover_rules = (to_z-of_z, covered_decides)
