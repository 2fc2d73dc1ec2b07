-- Rounded downward is the greatest whole number that is not above.
use Rattle.std.proofs.Common.{ℕ, zero, suc, ◌≡◌, ◌+◌, ◌*◌, ◌/◌, ◌%◌, ◌<◌, ◌≤◌, true, false, Bool, if◌then◌else◌, ◌||◌, int_lt, ℤ, pos, negsuc, neg_ℤ, ◌+ℤ◌, ◌*ℤ◌, ◌≤ℤ◌, ◌<ℤ◌, Option, Some, None, subst, arith}
use Rattle.std.specs.Int.{int_div_euclid}
use Rattle.std.proofs.lemmas.Int.{ints}
use Rattle.std.proofs.Math.Nat.{div-add-mod, mod-lt}
use Rattle.gds_area.specs.declared.units.Grid.{Grid}
use Rattle.gds_area.specs.Units.{limited_to_grid, scaled_by, step_of_grid, floor_units_of}
use Rattle.gds_read.specs.Drawn.{IsFloor}

record IsBelow (v d z : ℤ) : Type 0 where
  not_above : (z *ℤ d) ≤ℤ v
  greatest : v <ℤ ((z +ℤ pos 1) *ℤ d)

behind : (q n d r : ℕ) → d * q + r ≡ n → r < d → negsuc n <ℤ ((negsuc q +ℤ pos 1) *ℤ pos d)
behind zero n d r whole rest = omega (arith, ints)
behind (suc k) n d r whole rest = let e : negsuc (suc k) +ℤ pos 1 ≡ negsuc k = omega (arith, ints) in rw e (omega (arith, ints, whole))

down : (v : ℤ) (d : ℕ) → 0 < d → IsBelow v (pos d) (int_div_euclid v (pos d))
down (pos n) d some =
    let whole = div-add-mod n d in
    let rest = mod-lt n some in
    record { not_above = omega (arith, ints, whole, rest); greatest = omega (arith, ints, whole, rest) }
down (negsuc n) d some =
    let whole = div-add-mod n d in
    let rest = mod-lt n some in
    record { not_above = omega (arith, ints, whole, rest); greatest = behind (n / d) n d (n % d) whole rest }

limited_is : (z w : ℤ) → limited_to_grid z ≡ Some w → z ≡ w
limited_is z w e = by (int_lt z (neg_ℤ (pos 1000000000)) || int_lt (pos 1000000000) z) e
  where
    by : (b : Bool) → ◌≡◌ {A = Option ℤ} (if b then None else Some z) (Some w) → z ≡ w
    by true e = absurd cc
    by false e = cc

pub floor_is : (grid : Grid) (value units : ℤ) → 1 ≤ grid.lambda_nm → floor_units_of grid value ≡ Some units → IsFloor grid value units
floor_is grid value units some e =
    let z : ℤ = int_div_euclid (scaled_by grid value) (step_of_grid grid) in
    let b = down (scaled_by grid value) (500 * grid.lambda_nm) (omega (arith, some)) in
    subst (IsFloor grid value) (limited_is z units e) (record { not_above = b.not_above; greatest = b.greatest })
