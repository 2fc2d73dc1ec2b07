-- Rectangles touch where their sides meet.
use Rattle.std.proofs.Common.{◌≡◌, ◌↔◌, IsTrue, ℤ, pos, ◌-ℤ◌, ◌≤ℤ◌, ◌<ℤ◌, arith, inl, inr, ◌⊎◌, refl, ap}
use Rattle.std.specs.Bool.{Decides}
use Rattle.std.specs.Int.{int_max}
use Rattle.std.proofs.lemmas.Int.{ints, clamps, by_lt_z}
use Rattle.std.proofs.lemmas.Bool.Decides.{Decides-and, Decides-or, Decides-like}
use Rattle.box_geom.specs.Rectangle.{Rectangle, IsProper, Holds}
use Rattle.box_geom.specs.Comparisons.{overlapping, reaching, beside, stacked, touching}
use Rattle.box_geom.specs.Touching.{Cell, Edge, to_right, to_left, upward, downward, Touch}
use Rattle.box_geom.proofs.Spans.{overlap_decides, reach_decides}

-- two rectangles side by side that share a cell or a piece of an edge
pub record Beside (a b : Rectangle) : Type 0 where
  pub left : a.x1 ≤ℤ b.x2
  pub right : b.x1 ≤ℤ a.x2
  pub low : a.y1 <ℤ b.y2
  pub high : b.y1 <ℤ a.y2

-- likewise one above the other
pub record Stacked (a b : Rectangle) : Type 0 where
  pub left : a.x1 <ℤ b.x2
  pub right : b.x1 <ℤ a.x2
  pub low : a.y1 ≤ℤ b.y2
  pub high : b.y1 ≤ℤ a.y2

beside_touches : (a b : Rectangle) → IsProper a → IsProper b → Beside a b → Touch a b
beside_touches a b ra rb h =
    let y : ℤ = int_max a.y1 b.y1 in
    by_lt_z b.x1 a.x2
    (λ l. by_lt_z a.x1 b.x2
    (λ m. let x : ℤ = int_max a.x1 b.x1 in record { one = record { x = x; y = y }; other = record { x = x; y = y }; in_a = omega (arith, ints, clamps); in_b = omega (arith, ints, clamps); meet = inl refl })
    (λ m. record { one = record { x = a.x1; y = y }; other = record { x = b.x2 -ℤ pos 1; y = y }; in_a = omega (arith, ints, clamps); in_b = omega (arith, ints, clamps); meet = inr (to_left (omega (arith, ints)) refl) }))
    (λ l. record { one = record { x = a.x2 -ℤ pos 1; y = y }; other = record { x = b.x1; y = y }; in_a = omega (arith, ints, clamps); in_b = omega (arith, ints, clamps); meet = inr (to_right (omega (arith, ints)) refl) })

stacked_touches : (a b : Rectangle) → IsProper a → IsProper b → Stacked a b → Touch a b
stacked_touches a b ra rb h =
    let x : ℤ = int_max a.x1 b.x1 in
    by_lt_z b.y1 a.y2
    (λ l. by_lt_z a.y1 b.y2
    (λ m. let y : ℤ = int_max a.y1 b.y1 in record { one = record { x = x; y = y }; other = record { x = x; y = y }; in_a = omega (arith, ints, clamps); in_b = omega (arith, ints, clamps); meet = inl refl })
    (λ m. record { one = record { x = x; y = a.y1 }; other = record { x = x; y = b.y2 -ℤ pos 1 }; in_a = omega (arith, ints, clamps); in_b = omega (arith, ints, clamps); meet = inr (downward refl (omega (arith, ints))) }))
    (λ l. record { one = record { x = x; y = a.y2 -ℤ pos 1 }; other = record { x = x; y = b.y1 }; in_a = omega (arith, ints, clamps); in_b = omega (arith, ints, clamps); meet = inr (upward refl (omega (arith, ints))) })

-- rectangles whose sides meet touch
pub sides_touch : (a b : Rectangle) → IsProper a → IsProper b → Beside a b ⊎ Stacked a b → Touch a b
sides_touch a b ra rb (inl h) = beside_touches a b ra rb h
sides_touch a b ra rb (inr h) = stacked_touches a b ra rb h

meet_sides : (a b : Rectangle) (c d : Cell) → Holds a c.x c.y → Holds b d.x d.y → (c ≡ d) ⊎ Edge c d → Beside a b ⊎ Stacked a b
meet_sides a b c d h k (inl e) = let f : c.x ≡ d.x = ap (λ (z : Cell). z.x) e in let g : c.y ≡ d.y = ap (λ (z : Cell). z.y) e in inl (omega (arith, ints))
meet_sides a b c d h k (inr (to_right e f)) = inl (omega (arith, ints))
meet_sides a b c d h k (inr (to_left e f)) = inl (omega (arith, ints))
meet_sides a b c d h k (inr (upward e f)) = inr (omega (arith, ints))
meet_sides a b c d h k (inr (downward e f)) = inr (omega (arith, ints))

-- the sides of rectangles that touch meet
pub touch_sides : (a b : Rectangle) → Touch a b → Beside a b ⊎ Stacked a b
touch_sides a b t = meet_sides a b t.one t.other t.in_a t.in_b t.meet

sides_decide : (a b : Rectangle) → Decides (touching a b) (Beside a b ⊎ Stacked a b)
sides_decide a b = Decides-or (beside a b) (stacked a b)
    (Decides-like (beside a b) (λ h. record { left = h.0.0; right = h.0.1; low = h.1.0; high = h.1.1 }) (λ h. ((h.left, h.right), (h.low, h.high))) (Decides-and (reaching a.x1 a.x2 b.x1 b.x2) (overlapping a.y1 a.y2 b.y1 b.y2) (reach_decides a.x1 a.x2 b.x1 b.x2) (overlap_decides a.y1 a.y2 b.y1 b.y2)))
    (Decides-like (stacked a b) (λ h. record { left = h.0.0; right = h.0.1; low = h.1.0; high = h.1.1 }) (λ h. ((h.left, h.right), (h.low, h.high))) (Decides-and (overlapping a.x1 a.x2 b.x1 b.x2) (reaching a.y1 a.y2 b.y1 b.y2) (overlap_decides a.x1 a.x2 b.x1 b.x2) (reach_decides a.y1 a.y2 b.y1 b.y2)))

pub touch_decides : (a b : Rectangle) → IsProper a → IsProper b → IsTrue (touching a b) ↔ Touch a b
touch_decides a b ra rb = Decides-like (touching a b) (sides_touch a b ra rb) (touch_sides a b) (sides_decide a b)
