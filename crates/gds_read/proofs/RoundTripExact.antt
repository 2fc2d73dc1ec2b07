-- A whole number of grid units is read back as that number.
use Rattle.std.proofs.Common.{ℕ, zero, suc, ◌≡◌, ◌+◌, ◌-◌, ◌*◌, ◌%◌, ◌<◌, ◌≤◌, ℤ, pos, negsuc, neg_ℤ, ◌*ℤ◌, ◌<ℤ◌, ap, ◌∙◌, arith}
use Rattle.std.specs.Int.{int_div_euclid, int_rem_euclid}
use Rattle.std.proofs.lemmas.Int.{ints}
use Rattle.std.proofs.lemmas.Nat.{div-mul-add}
use Rattle.std.proofs.Math.Nat.{mul-le-mul_left, mul-mod_left, mul-div_cancel, mul-add-mod_self_right, mod-eq_of_lt}

-- a number below zero, by one less than its distance
negative : (n d : ℕ) → 0 < d → neg_ℤ (pos (suc n * d)) ≡ negsuc (n * d + (d - 1))
negative n d some = let e : suc n * d ≡ suc (n * d + (d - 1)) = omega (arith, some) in ap (λ (m : ℕ). neg_ℤ (pos m)) e

pub scaled_exact : (z : ℤ) (u : ℕ) → 0 < u → (z *ℤ pos u) *ℤ pos 1000 ≡ z *ℤ pos (500 * (2 * u))
scaled_exact (pos n) u some = let e : n * u * 1000 ≡ n * (500 * (2 * u)) = omega arith in ap (λ (m : ℕ). pos m) e
scaled_exact (negsuc n) u some =
    let e : suc (n * u + (u - 1)) * 1000 ≡ suc n * (500 * (2 * u)) = omega (arith, some) in
    ap (λ (z : ℤ). z *ℤ pos 1000) (negative n u some) ∙ ap (λ (m : ℕ). neg_ℤ (pos m)) e

neg_is : (k : ℕ) → 0 < k → neg_ℤ (pos k) ≡ negsuc (k - 1)
neg_is zero some = absurd (omega (arith, some))
neg_is (suc k) some = ap (λ (n : ℕ). negsuc n) (let e : k ≡ suc k - 1 = omega arith in e)

-- the same of a number of halves
pub halves_exact : (z : ℤ) (u : ℕ) → 0 < u → (pos 2 *ℤ (z *ℤ pos u)) *ℤ pos 1000 ≡ z *ℤ pos (1000 * (2 * u))
halves_exact (pos n) u some = let e : 2 * (n * u) * 1000 ≡ n * (1000 * (2 * u)) = omega arith in ap (λ (m : ℕ). pos m) e
halves_exact (negsuc n) u some =
    let a : ℕ = n * u + (u - 1) in
    let e : suc (2 * suc (n * u + (u - 1)) - 1) * 1000 ≡ suc n * (1000 * (2 * u)) = omega (arith, some) in
    ap (λ (z : ℤ). (pos 2 *ℤ z) *ℤ pos 1000) (negative n u some)
    ∙ (ap (λ (z : ℤ). z *ℤ pos 1000) (neg_is (2 * suc (n * u + (u - 1))) (omega arith)) ∙ ap (λ (m : ℕ). neg_ℤ (pos m)) e)

-- what is less is less in smaller units
pub less_scaled : (a b : ℤ) (u : ℕ) → 0 < u → a <ℤ b → (a *ℤ pos u) <ℤ (b *ℤ pos u)
less_scaled (pos m) (pos n) u some less = let e : u * suc m ≤ u * n = mul-le-mul_left u (let l : suc m ≤ n = omega (arith, ints) in l) in omega (arith, ints, e, some)
less_scaled (negsuc m) (pos n) u some less = omega (arith, ints, some)
less_scaled (pos m) (negsuc n) u some less = absurd (omega (arith, ints))
less_scaled (negsuc m) (negsuc n) u some less = let e : u * suc n ≤ u * m = mul-le-mul_left u (let l : suc n ≤ m = omega (arith, ints) in l) in omega (arith, ints, e, some)

last_of : (n d : ℕ) → 0 < d → (n * d + (d - 1)) % d ≡ d - 1
last_of n d some = mul-add-mod_self_right n d (d - 1) ∙ (let less : d - 1 < d = omega (arith, some) in mod-eq_of_lt less)

pub exact_rem : (z : ℤ) (d : ℕ) → 0 < d → int_rem_euclid (z *ℤ pos d) (pos d) ≡ pos 0
exact_rem (pos n) d some = ap (λ (m : ℕ). pos m) (mul-mod_left n d)
exact_rem (negsuc n) d some =
    let e : d - 1 - (n * d + (d - 1)) % d ≡ 0 = omega (arith, last_of n d some) in
    ap (λ (z : ℤ). int_rem_euclid z (pos d)) (negative n d some) ∙ ap (λ (m : ℕ). pos m) e

pub exact_div : (z : ℤ) (d : ℕ) → 0 < d → int_div_euclid (z *ℤ pos d) (pos d) ≡ z
exact_div (pos n) d some = ap (λ (m : ℕ). pos m) (mul-div_cancel n some)
exact_div (negsuc n) d some =
    ap (λ (z : ℤ). int_div_euclid z (pos d)) (negative n d some) ∙ ap (λ (m : ℕ). negsuc m) (div-mul-add n d (d - 1) (omega (arith, some)))
