-- The digits of a number, however large.
use Rattle.std.specs.Prelude.{ℕ, zero, suc, ◌≡◌, ◌+◌, ◌/◌, ◌%◌, ◌^◌, ◌<◌, ◌≤◌, ◌==◌, nat_lt, Bool, true, false, cond, List, [], ◌∷◌, length, decimal}
use Rattle.std.proofs.Common.{sym, ap, arith, ◌∙◌, inl, inr}
use Rattle.std.specs.Fmt.{digit_glyph, digits, digits_onto}
use Rattle.std.specs.Str.Parse.{digits_value}
use Rattle.std.proofs.Math.Nat.{one-le-pow}
use Rattle.std.proofs.lemmas.Bool.{cases_lt, ne_eqb}
use Rattle.std.proofs.lemmas.Fmt.{decimal_is_IsNumeral, decimal_is_IsNumeral_wide, length-decimal-le}
use Rattle.std.proofs.lemmas.List.Elements.{All-cons, All-nil}
use Rattle.log_lines.proofs.Splits.{IsAbove}

glyph_above : (d : ℕ) → 47 < digit_glyph false d
glyph_above d = by (nat_lt d 10)
  where
    by : (few : Bool) → 47 < cond few (48 + d) (87 + d)
    by true = omega arith
    by false = omega arith

either_above : (last : Bool) (xs ys : List ℕ) → IsAbove 47 xs → IsAbove 47 ys → IsAbove 47 (cond last xs ys)
either_above true xs ys h g = h
either_above false xs ys h g = g

onto_above : (k n : ℕ) (behind : List ℕ) → IsAbove 47 behind → IsAbove 47 (digits_onto k 10 false n behind)
onto_above zero n behind h = h
onto_above (suc k) n behind h =
    let more : IsAbove 47 (digit_glyph false (n % 10) ∷ behind) = All-cons (λ b. 47 < b) (digit_glyph false (n % 10)) behind (glyph_above (n % 10)) h in
    either_above (n / 10 == 0) _ _ more (onto_above k (n / 10) (digit_glyph false (n % 10) ∷ behind) more)

pub above_decimal : (n : ℕ) → IsAbove 47 (decimal n)
unfolding digits
above_decimal n = onto_above 64 n [] (All-nil (λ b. 47 < b))

-- a number of more digits is cut to the last 64
onto_cut : (k n : ℕ) (behind : List ℕ) → 10 ^ k ≤ n → length (digits_onto k 10 false n behind) ≡ k + length behind
onto_cut zero n behind large = omega arith
onto_cut (suc k) n behind large =
    let ten : 0 < 10 = omega arith in
    let some : 1 ≤ 10 ^ k = one-le-pow k 10 ten in
    let glyph = digit_glyph false (n % 10) in
    let more : digits_onto (suc k) 10 false n behind ≡ digits_onto k 10 false (n / 10) (glyph ∷ behind) = ap (λ (last : Bool). cond last (glyph ∷ behind) (digits_onto k 10 false (n / 10) (glyph ∷ behind))) (ne_eqb (n / 10) 0 (λ e. omega (arith, large, some, e))) in
    let rest : 10 ^ k ≤ n / 10 = omega (arith, large) in
    omega (arith, ap length more, onto_cut k (n / 10) (glyph ∷ behind) rest)

cut_length : (n : ℕ) → 10 ^ 64 ≤ n → length (decimal n) ≡ 64
unfolding digits
cut_length n large = omega (arith, onto_cut 64 n [] large)

-- no other number has the digits of a number of a machine word
pub decimal_one : (m n : ℕ) → n < 2 ^ 64 → decimal m ≡ decimal n → m ≡ n
decimal_one m n small same =
    elim (cases_lt m (10 ^ 64)) [
      | inl few ↦ sym (decimal_is_IsNumeral_wide m few).1 ∙ (ap (digits_value 10) same ∙ (decimal_is_IsNumeral n small).1)
      | inr many ↦ absurd (omega (arith, ap length same, cut_length m many, length-decimal-le 20 n (omega arith) (omega (arith, small)) small))
    ]
