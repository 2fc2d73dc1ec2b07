-- The count that a number is.
use Rattle.std.proofs.Common.{ℕ, ◌≡◌, ◌+◌, ◌*◌, ◌^◌, ◌<◌, ◌≤◌, ℤ, pos, negsuc, ◌/◌, ◌%◌, ◌==◌, add-one, option_and_then, if◌then◌else◌, Some, None, refl, ap, inl, inr, arith}
use Rattle.std.proofs.Math.IntN.{nat_abs}
use Rattle.std.proofs.Math.Nat.{mod-eq_of_lt, mul-le-mul, one-le-pow}
use Rattle.std.proofs.lemmas.Bool.{cases_eq, eq-eqb, le-leb, lt-leb, ne_eqb}
use Rattle.cell_num.specs.declared.length.Fixed.{Fixed}
use Rattle.spice_net.specs.Numbers.{counted, count_of, whole_of}

pub some_tens : (power : ℕ) → 0 < 10 ^ power
some_tens power = let one : 1 ≤ 10 ^ power = one-le-pow power 10 (omega arith) in omega (arith, one)

none_counted : (n : ℕ) → n < 1 → counted n ≡ None
none_counted n lt = rw (lt-leb 1 n lt) refl

many_counted : (n : ℕ) → 64 < n → counted n ≡ None
many_counted n lt = rw (lt-leb n 64 lt, le-leb 1 n (omega (arith, lt))) refl

-- with so great a power of ten above the fraction line it is 0 or too great ..
multiplied : (digits power : ℕ) → 18446744073709551616 ≤ 10 ^ power → counted (digits * 10 ^ power) ≡ None
multiplied digits power large = elim (cases_eq digits 0) [
  | inl none ↦ none_counted (digits * 10 ^ power) (rw none (omega arith))
  | inr some ↦
      let more : 1 * 10 ^ power ≤ digits * 10 ^ power = mul-le-mul (omega (arith, some)) (omega arith) in
      many_counted (digits * 10 ^ power) (omega (arith, more, large))
]

-- .. and below it 0 or no whole number
divided : (digits tens : ℕ) → digits < tens → option_and_then counted (if digits % tens == 0 then Some (digits / tens) else None) ≡ None
divided digits tens small = elim (cases_eq digits 0) [
  | inl none ↦ rw (mod-eq_of_lt small, eq-eqb digits 0 none) (none_counted (digits / tens) (rw none (omega arith)))
  | inr some ↦ rw (mod-eq_of_lt small, ne_eqb digits 0 some) refl
]

pub too_large : (number : Fixed) → number.digits < 18446744073709551616 → 18446744073709551616 ≤ 10 ^ nat_abs number.ten → count_of number ≡ None
too_large number digits large = by_sign number.ten large
  where
    by_sign : (ten : ℤ) → 18446744073709551616 ≤ 10 ^ nat_abs ten → option_and_then counted (whole_of number.digits ten) ≡ None
    by_sign (pos n) large = multiplied number.digits n large
    by_sign (negsuc n) large = divided number.digits (10 ^ (n + 1)) (omega (arith, digits, large, ap (λ (k : ℕ). 10 ^ k) (add-one n)))
