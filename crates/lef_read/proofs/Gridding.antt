-- Nanometres in grid units: limits and order stay.
use Rattle.std.proofs.Common.{ℕ, zero, suc, ℤ, pos, negsuc, neg_ℤ, ◌≡◌, ◌+◌, ◌-◌, ◌*◌, ◌/◌, ◌%◌, ◌<◌, ◌≤◌, ◌==◌, refl, sym, subst, ◌∙◌, arith, inl, inr}
use Rattle.std.specs.Prelude.{Option, Some, None, unsigned_abs, ◌≤ℤ◌, ◌<ℤ◌}
use Rattle.std.specs.Int.{int_div_euclid, int_rem_euclid}
use Rattle.std.proofs.Math.Nat.{div-add-mod, mod-lt, lt_of_mul-lt-mul_left}
use Rattle.std.proofs.lemmas.Bool.{cases_Bool, eqb-true}
use Rattle.std.proofs.lemmas.Int.{ints, to_z-of_z}
use Rattle.box_geom.specs.Rectangle.{Rectangle, IsRectangle}
use Rattle.std.proofs.Common.{to_z, of_z, w32}
use Rattle.lef_read.specs.Macros.{units_in}

-- the quotient is below the number
part : (a unit : ℕ) → 1 ≤ unit → a / unit ≤ a
part a unit h = le_by (a / unit) (a % unit) unit h (div-add-mod a unit)
  where
    le_by : (q r unit : ℕ) → 1 ≤ unit → unit * q + r ≡ a → q ≤ a
    le_by q r zero h e = absurd (omega (arith, h))
    le_by q r (suc u) h e = omega (arith, e)

pub within_least : (z : ℤ) (unit : ℕ) → 1 ≤ unit → neg_ℤ (pos 1000000000) ≤ℤ z → neg_ℤ (pos 1000000000) ≤ℤ int_div_euclid z (pos unit)
within_least (pos a) unit h least = omega (arith, ints)
within_least (negsuc a) unit h least = omega (arith, ints, least, part a unit h)

pub within_most : (z : ℤ) (unit : ℕ) → 1 ≤ unit → z ≤ℤ pos 1000000000 → int_div_euclid z (pos unit) ≤ℤ pos 1000000000
within_most (pos a) unit h most = omega (arith, ints, most, part a unit h)
within_most (negsuc a) unit h most = omega (arith, ints)

some_is : (a b : ℤ) → ◌≡◌ {A = Option ℤ} (Some a) (Some b) → a ≡ b
some_is a b e = cc

none_is : (b : ℤ) → ◌≡◌ {A = Option ℤ} None (Some b) → ⊥
none_is b e = absurd cc

-- a number that is whole in grid units
whole : (unit : ℕ) (z q : ℤ) → units_in unit z ≡ Some q → (unsigned_abs (int_rem_euclid z (pos unit)) ≡ 0) × (int_div_euclid z (pos unit) ≡ q)
whole unit z q e = elim (cases_Bool (unsigned_abs (int_rem_euclid z (pos unit)) == 0)) [
  | inl none ↦ (eqb-true _ _ none, some_is _ q (sym (rw none refl) ∙ e))
  | inr rest ↦ absurd (none_is q (sym (rw rest refl) ∙ e))
]

-- quotients of multiples ascend with them
rising : (unit a b : ℕ) → a % unit ≡ 0 → b % unit ≡ 0 → a < b → a / unit < b / unit
rising unit a b e f h =
    let p = div-add-mod a unit in
    let q = div-add-mod b unit in
    lt_of_mul-lt-mul_left unit {m = a / unit} {n = b / unit} (omega (arith, p, q, e, f, h))

-- so do those below zero
falling : (unit a b : ℕ) → 1 ≤ unit → unit - 1 - a % unit ≡ 0 → unit - 1 - b % unit ≡ 0 → b < a → b / unit < a / unit
falling unit a b u e f h =
    let p = div-add-mod a unit in
    let q = div-add-mod b unit in
    let m : a % unit < unit = mod-lt a {m = unit} u in
    let n : b % unit < unit = mod-lt b {m = unit} u in
    lt_of_mul-lt-mul_left unit {m = b / unit} {n = a / unit} (omega (arith, p, q, e, f, h, m, n))

ordered : (unit : ℕ) (y z : ℤ) → 1 ≤ unit → unsigned_abs (int_rem_euclid y (pos unit)) ≡ 0 → unsigned_abs (int_rem_euclid z (pos unit)) ≡ 0 → y <ℤ z → int_div_euclid y (pos unit) <ℤ int_div_euclid z (pos unit)
ordered unit (pos a) (pos b) u e f h = let r = rising unit a b e f (omega (arith, ints, h)) in omega (arith, ints, r)
ordered unit (pos a) (negsuc b) u e f h = absurd (omega (arith, ints, h))
ordered unit (negsuc a) (pos b) u e f h = omega (arith, ints)
ordered unit (negsuc a) (negsuc b) u e f h = let r = falling unit a b u e f (omega (arith, ints, h)) in omega (arith, ints, r)

pub ascends : (unit : ℕ) (y z p q : ℤ) → 1 ≤ unit → units_in unit y ≡ Some p → units_in unit z ≡ Some q → y <ℤ z → p <ℤ q
ascends unit y z p q u e f h =
    let d = whole unit y p e in
    let g = whole unit z q f in
    let r = ordered unit y z u d.0 g.0 h in
    omega (arith, ints, r, d.1, g.1)

-- a number within the limits of a rectangle
pub record IsSide (z : ℤ) : Type 0 where
  pub least : neg_ℤ (pos 1000000000) ≤ℤ z
  pub most : z ≤ℤ pos 1000000000

stored : (z : ℤ) → IsSide z → to_z w32 (of_z w32 z) ≡ z
stored z s = grind (arith, to_z-of_z)

-- the sides of a rectangle in grid units
pub sides_of : (unit : ℕ) (r : Rectangle) (x1 y1 x2 y2 : ℤ) → 1 ≤ unit → IsRectangle r
    → units_in unit (to_z w32 (of_z w32 r.x1)) ≡ Some x1 → units_in unit (to_z w32 (of_z w32 r.y1)) ≡ Some y1 → units_in unit (to_z w32 (of_z w32 r.x2)) ≡ Some x2 → units_in unit (to_z w32 (of_z w32 r.y2)) ≡ Some y2
    → IsSide x1 → IsSide y1 → IsSide x2 → IsSide y2 → IsRectangle (record { x1 = to_z w32 (of_z w32 x1); y1 = to_z w32 (of_z w32 y1); x2 = to_z w32 (of_z w32 x2); y2 = to_z w32 (of_z w32 y2) })
sides_of unit r x1 y1 x2 y2 u sides e f g h a b c d =
    let wide = sides.proper.wide in
    let high = sides.proper.high in
    let rx1 : IsSide r.x1 = record { least = sides.left; most = omega (arith, ints, wide, sides.right) } in
    let ry1 : IsSide r.y1 = record { least = sides.low; most = omega (arith, ints, high, sides.top) } in
    let rx2 : IsSide r.x2 = record { least = omega (arith, ints, wide, sides.left); most = sides.right } in
    let ry2 : IsSide r.y2 = record { least = omega (arith, ints, high, sides.low); most = sides.top } in
    let e' : units_in unit r.x1 ≡ Some x1 = subst (λ (z : ℤ). units_in unit z ≡ Some x1) (stored r.x1 rx1) e in
    let f' : units_in unit r.y1 ≡ Some y1 = subst (λ (z : ℤ). units_in unit z ≡ Some y1) (stored r.y1 ry1) f in
    let g' : units_in unit r.x2 ≡ Some x2 = subst (λ (z : ℤ). units_in unit z ≡ Some x2) (stored r.x2 rx2) g in
    let h' : units_in unit r.y2 ≡ Some y2 = subst (λ (z : ℤ). units_in unit z ≡ Some y2) (stored r.y2 ry2) h in
    rw (stored x1 a, stored y1 b, stored x2 c, stored y2 d) (record {
      proper = record { wide = ascends unit r.x1 r.x2 x1 x2 u e' g' wide; high = ascends unit r.y1 r.y2 y1 y2 u f' h' high };
      left = a.least;
      right = c.most;
      low = b.least;
      top = d.most;
    })
