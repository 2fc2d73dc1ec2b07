-- The nearest whole number of units: it is there, and it is one alone.
use Rattle.std.proofs.Common.{ℕ, ◌≡◌, ◌+◌, ◌*◌, ◌/◌, ◌^◌, ◌<◌, ◌≤◌, ◌⊎◌, ℤ, pos, negsuc, ◌+ℤ◌, arith, inl, inr, refl}
use Rattle.std.proofs.Math.Nat.{lt-div-mul-add, div-mul-le_self, mul-le-mul, pow-le-pow_right, one-le-pow}
use Rattle.std.specs.Prelude.{Some, None}
use Rattle.std.proofs.lemmas.Bool.{cases_lt, lt-ltb, le-ltb}
use Rattle.cell_num.specs.declared.length.Fixed.{Fixed}
use Rattle.cell_num.specs.Length.{IsNearestOf, IsNearest, nearest_units, units_up_to, parts_of, parts_in_one, power_above, power_below}

pub nearest_there : (v u : ℕ) → 0 < u → IsNearestOf v u ((2 * v + u) / (2 * u))
nearest_there v u some =
    let twice : 0 < 2 * u = omega (arith, some) in
    let above : (2 * v + u) / (2 * u) * (2 * u) ≤ 2 * v + u = div-mul-le_self (2 * v + u) (2 * u) in
    let below : 2 * v + u < (2 * v + u) / (2 * u) * (2 * u) + 2 * u = lt-div-mul-add twice in
    record { not_above = omega (arith, above); not_below = omega (arith, below) }

-- no nearest number is below another one
pub nearest_least : (v u s t : ℕ) → IsNearestOf v u s → IsNearestOf v u t → s ≤ t
nearest_least v u s t a b =
    elim (cases_lt t s) [
      | inl less ↦
          let more : (t + 1) * u ≤ s * u = mul-le-mul (omega (arith, less)) (omega arith) in
          absurd (omega (arith, more, a.not_above, b.not_below))
      | inr other ↦ omega (arith, other)
    ]

-- a length below half a unit is nearest to none
pub nearest_none : (v u : ℕ) → 2 * v < u → IsNearestOf v u 0
nearest_none v u less = record { not_above = omega arith; not_below = omega (arith, less) }

-- no power of ten is both above and below the fraction line
one_side : (z : ℤ) → (power_above z ≡ 0) ⊎ (power_below z ≡ 0)
one_side (pos n) = inr refl
one_side (negsuc n) = inl refl

pub unit_there : (u b : ℕ) → 0 < u → 0 < u * 10 ^ b
unit_there u b some =
    let ten : 1 ≤ 10 ^ b = one-le-pow b 10 (omega arith) in
    let one : 1 ≤ u = omega (arith, some) in
    let product : 1 * 1 ≤ u * 10 ^ b = mul-le-mul one ten in
    omega (arith, product)

pub nearest_is : (value : Fixed) (u : ℕ) → 0 < u → IsNearest value u (nearest_units value u)
nearest_is value u some = nearest_there (parts_of value) (u * parts_in_one value) (unit_there u (power_below (value.ten +ℤ pos 12)) some)

pub nearest_of_zero : (value : Fixed) (u : ℕ) → 0 < u → value.digits ≡ 0 → IsNearest value u 0
nearest_of_zero value u some zero_digits =
    let unit : 0 < u * parts_in_one value = unit_there u (power_below (value.ten +ℤ pos 12)) some in
    let none : parts_of value ≡ 0 = rw zero_digits (omega arith) in
    nearest_none (parts_of value) (u * parts_in_one value) (omega (arith, unit, none))

-- digits below 2^64, 26 or more places below a picometre
pub nearest_of_small : (value : Fixed) (u : ℕ) → 0 < u → value.digits < 2 ^ 64 → 25 < power_below (value.ten +ℤ pos 12) → IsNearest value u 0
nearest_of_small value u some digits low = small (power_above (value.ten +ℤ pos 12)) (power_below (value.ten +ℤ pos 12)) low (one_side (value.ten +ℤ pos 12))
  where
    small : (a b : ℕ) → 25 < b → (a ≡ 0) ⊎ (b ≡ 0) → IsNearestOf (value.digits * 10 ^ a) (u * 10 ^ b) 0
    small a b low (inr none) = absurd (omega (arith, low, none))
    small a b low (inl none) =
        let more : 26 ≤ b = omega (arith, low) in
        let power : 10 ^ 26 ≤ 10 ^ b = pow-le-pow_right (omega arith) more in
        let one : 1 ≤ u = omega (arith, some) in
        let product : 1 * 10 ^ 26 ≤ u * 10 ^ b = mul-le-mul one power in
        rw none (nearest_none (value.digits * 10 ^ 0) (u * 10 ^ b) (omega (arith, digits, product)))

-- a digit 13 or more places above a picometre, and units of at most a micrometre
pub nearest_of_large : (value : Fixed) (u : ℕ) → 0 < u → u ≤ 1000000 → 0 < value.digits → 12 < power_above (value.ten +ℤ pos 12) → 100000 < nearest_units value u
nearest_of_large value u some small digits high = large (power_above (value.ten +ℤ pos 12)) (power_below (value.ten +ℤ pos 12)) high (one_side (value.ten +ℤ pos 12))
  where
    large : (a b : ℕ) → 12 < a → (a ≡ 0) ⊎ (b ≡ 0) → 100000 < (2 * (value.digits * 10 ^ a) + u * 10 ^ b) / (2 * (u * 10 ^ b))
    large a b high (inl none) = absurd (omega (arith, high, none))
    large a b high (inr none) =
        let more : 13 ≤ a = omega (arith, high) in
        let power : 10 ^ 13 ≤ 10 ^ a = pow-le-pow_right (omega arith) more in
        let one : 1 ≤ value.digits = omega (arith, digits) in
        let product : 1 * 10 ^ 13 ≤ value.digits * 10 ^ a = mul-le-mul one power in
        let is : IsNearestOf (value.digits * 10 ^ a) (u * 10 ^ 0) ((2 * (value.digits * 10 ^ a) + u * 10 ^ 0) / (2 * (u * 10 ^ 0))) = nearest_there (value.digits * 10 ^ a) (u * 10 ^ 0) (unit_there u 0 some) in
        rw none (elim (cases_lt 100000 ((2 * (value.digits * 10 ^ a) + u * 10 ^ 0) / (2 * (u * 10 ^ 0)))) [
          | inl more ↦ more
          | inr few ↦
              let units : 2 * ((2 * (value.digits * 10 ^ a) + u * 10 ^ 0) / (2 * (u * 10 ^ 0))) + 1 ≤ 200001 = omega (arith, few) in
              let one : u * 10 ^ 0 ≤ 1000000 = omega (arith, small) in
              let bound : (2 * ((2 * (value.digits * 10 ^ a) + u * 10 ^ 0) / (2 * (u * 10 ^ 0))) + 1) * (u * 10 ^ 0) ≤ 200001 * 1000000 = mul-le-mul units one in
              absurd (omega (arith, product, bound, is.not_below))
        ])

-- what the code multiplies stays within its numbers
pub power_within : (n : ℕ) → n ≤ 25 → 10 ^ n ≤ 10 ^ 25
power_within n few = pow-le-pow_right (omega arith) few

pub parts_within : (digits a : ℕ) → digits < 2 ^ 64 → a ≤ 12 → digits * 10 ^ a < 2 ^ 120
parts_within digits a fits few =
    let most : digits ≤ 2 ^ 64 = omega (arith, fits) in
    let power : 10 ^ a ≤ 10 ^ 12 = pow-le-pow_right (omega arith) few in
    let product : digits * 10 ^ a ≤ 2 ^ 64 * 10 ^ 12 = mul-le-mul most power in
    omega (arith, product)

pub unit_within : (u b : ℕ) → u ≤ 1000000 → b ≤ 25 → u * 10 ^ b < 2 ^ 120
unit_within u b small few =
    let power : 10 ^ b ≤ 10 ^ 25 = power_within b few in
    let product : u * 10 ^ b ≤ 1000000 * 10 ^ 25 = mul-le-mul small power in
    omega (arith, product)

-- a nearest number above the most, and none
pub far : (value : Fixed) (u most : ℕ) → 0 < u → most < nearest_units value u → (s : ℕ) × IsNearest value u s × (most < s)
far value u most some above = (nearest_units value u, nearest_is value u some, above)

pub not_far : (value : Fixed) (u most s : ℕ) → IsNearest value u s → s ≤ most → ((t : ℕ) × IsNearest value u t × (most < t)) → ⊥
not_far value u most s near few (t, is, above) = omega (arith, few, above, nearest_least (parts_of value) (u * parts_in_one value) t s is near)

-- the nearest number is the rounded quotient
pub is_nearest_units : (value : Fixed) (u s : ℕ) → 0 < u → IsNearest value u s → nearest_units value u ≡ s
is_nearest_units value u s some near =
    let v : ℕ = parts_of value in
    let w : ℕ = u * parts_in_one value in
    let there : IsNearest value u (nearest_units value u) = nearest_is value u some in
    omega (arith, nearest_least v w s (nearest_units value u) near there, nearest_least v w (nearest_units value u) s there near)

pub is_told : (value : Fixed) (u most s : ℕ) → 0 < u → IsNearest value u s → s ≤ most → units_up_to most value u ≡ Some s
is_told value u most s some near few = rw (is_nearest_units value u s some near, le-ltb most s few) refl

pub is_beyond : (value : Fixed) (u most : ℕ) → most < nearest_units value u → units_up_to most value u ≡ None
is_beyond value u most above = rw (lt-ltb most (nearest_units value u) above) refl

pub is_above : (value : Fixed) (u most s : ℕ) → 0 < u → IsNearest value u s → most < s → units_up_to most value u ≡ None
is_above value u most s some near above = is_beyond value u most (rw (is_nearest_units value u s some near) above)
