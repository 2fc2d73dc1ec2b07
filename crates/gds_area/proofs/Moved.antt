-- Structures that stand in structures.
use Rattle.std.proofs.Common.{ℕ, ◌≡◌, ◌≤◌, ◌+◌, ◌^◌, ℤ, pos, neg_ℤ, ◌+ℤ◌, ◌≤ℤ◌, Bool, true, false, ◌-◌, refl, sym, subst, ◌∙◌, arith, w64, to_z, of_z}
use Rattle.std.specs.Int.{w128}
use Rattle.std.proofs.lemmas.Int.{ints}
use Rattle.gds_area.specs.declared.placement.Turn.{Turn}
use Rattle.gds_area.specs.declared.placement.Turn.TheVariants as turn
use Rattle.gds_area.specs.declared.placement.Vector.{Vector}
use Rattle.gds_area.specs.declared.placement.Move.{Move}
use Rattle.gds_area.specs.declared.area.Area.{Area}
use Rattle.gds_area.specs.Moves.{mirrored, turned, faced, moved_area, stays, composed, offset_of, IsNear}

-- both coordinates lie between a number and its negative
record AreWithin (n : ℕ) (v : Vector) : Type 0 where
  left : neg_ℤ (pos n) ≤ℤ v.x
  right : v.x ≤ℤ pos n
  low : neg_ℤ (pos n) ≤ℤ v.y
  high : v.y ≤ℤ pos n

mirrored_within : (n : ℕ) (b : Bool) (v : Vector) → AreWithin n v → AreWithin n (mirrored b v)
mirrored_within n false v w = w
mirrored_within n true v w = record { left = w.left; right = w.right; low = omega (arith, ints, w.low, w.high); high = omega (arith, ints, w.low, w.high) }

turned_within : (n : ℕ) (t : Turn) (v : Vector) → AreWithin n v → AreWithin n (turned t v)
turned_within n turn.Zero v w = w
turned_within n turn.Quarter v w = record { left = omega (arith, ints, w.high); right = omega (arith, ints, w.low); low = w.left; high = w.right }
turned_within n turn.Half v w = record { left = omega (arith, ints, w.right); right = omega (arith, ints, w.left); low = omega (arith, ints, w.high); high = omega (arith, ints, w.low) }
turned_within n turn.ThreeQuarters v w = record { left = w.low; right = w.high; low = omega (arith, ints, w.right); high = omega (arith, ints, w.left) }

faced_within : (n : ℕ) (m : Move) (v : Vector) → AreWithin n v → AreWithin n (faced m v)
faced_within n m v w = turned_within n m.turn (mirrored m.mirrored v) (mirrored_within n m.mirrored v w)

pub near_composed : (levels : ℕ) (outer inner : Move) → IsNear levels outer → IsNear 1 inner → IsNear (levels + 1) (composed outer inner)
near_composed levels outer inner far near =
    let w : AreWithin (2 ^ 52) (faced outer (offset_of inner)) = faced_within (2 ^ 52) outer (offset_of inner) (record { left = near.left; right = near.right; low = near.low; high = near.high }) in
    record {
      left = omega (arith, ints, w.left, far.left);
      right = omega (arith, ints, w.right, far.right);
      low = omega (arith, ints, w.low, far.low);
      high = omega (arith, ints, w.high, far.high);
    }

abbrev long : ℤ → ℤ
long z = to_z w64 (of_z w64 z)

abbrev wide : ℤ → ℤ
wide z = to_z w128 (of_z w128 z)

long_is : (z : ℤ) → neg_ℤ (pos (2 ^ 62)) ≤ℤ z → z ≤ℤ pos (2 ^ 62) → long z ≡ z
long_is z low high = omega (arith, ints, low, high)

wide_is : (z : ℤ) → neg_ℤ (pos (2 ^ 62)) ≤ℤ z → z ≤ℤ pos (2 ^ 62) → wide z ≡ z
wide_is z low high = omega (arith, ints, low, high)

-- the bounds of the sums that are taken then
pub record Sums (outer : Move) (v : Vector) : Type 0 where
  pub left : neg_ℤ (pos (2 ^ 62)) ≤ℤ (wide v.x +ℤ long outer.x)
  pub right : (wide v.x +ℤ long outer.x) ≤ℤ pos (2 ^ 62)
  pub low : neg_ℤ (pos (2 ^ 62)) ≤ℤ (wide v.y +ℤ long outer.y)
  pub high : (wide v.y +ℤ long outer.y) ≤ℤ pos (2 ^ 62)

pub sums : (levels : ℕ) (outer inner : Move) (v : Vector) → v ≡ faced outer (record { x = long inner.x; y = long inner.y }) → levels ≤ 16 → IsNear levels outer → IsNear 1 inner → Sums outer v
sums levels outer inner v is few far near =
    let x : long inner.x ≡ inner.x = long_is inner.x (omega (arith, ints, near.left)) (omega (arith, ints, near.right)) in
    let y : long inner.y ≡ inner.y = long_is inner.y (omega (arith, ints, near.low)) (omega (arith, ints, near.high)) in
    let so : faced outer (record { x = long inner.x; y = long inner.y }) ≡ faced outer (offset_of inner) = rw (x, y) refl in
    let w : AreWithin (2 ^ 52) v = subst (AreWithin (2 ^ 52)) (sym (is ∙ so)) (faced_within (2 ^ 52) outer (offset_of inner) (record { left = near.left; right = near.right; low = near.low; high = near.high })) in
    let a : wide v.x ≡ v.x = wide_is v.x (omega (arith, ints, w.left)) (omega (arith, ints, w.right)) in
    let b : wide v.y ≡ v.y = wide_is v.y (omega (arith, ints, w.low)) (omega (arith, ints, w.high)) in
    let c : long outer.x ≡ outer.x = long_is outer.x (omega (arith, ints, far.left, few)) (omega (arith, ints, far.right, few)) in
    let d : long outer.y ≡ outer.y = long_is outer.y (omega (arith, ints, far.low, few)) (omega (arith, ints, far.high, few)) in
    record {
      left = omega (arith, ints, a, c, w.left, far.left, few);
      right = omega (arith, ints, a, c, w.right, far.right, few);
      low = omega (arith, ints, b, d, w.low, far.low, few);
      high = omega (arith, ints, b, d, w.high, far.high, few);
    }

pub near_inside : (levels : ℕ) (outer inner m : Move) → m ≡ composed outer inner → levels ≤ 16 → IsNear (16 - levels) outer → IsNear 1 inner → IsNear (17 - levels) m
near_inside levels outer inner m is few far near =
    let e : 16 - levels + 1 ≡ 17 - levels = omega (arith, few) in
    subst (λ (n : ℕ). IsNear n m) e (subst (λ (w : Move). IsNear (16 - levels + 1) w) (sym is) (near_composed (16 - levels) outer inner far near))

none_more : (z : ℤ) → z +ℤ pos 0 ≡ z
none_more z = omega (arith, ints)

pub area_stays : (a : Area) → moved_area stays a ≡ a
unfolding moved_area
area_stays a = rw (none_more a.across.low, none_more a.across.high, none_more a.upward.low, none_more a.upward.high) refl
