-- The digits of a number: the zeros around them, and the value that they spell.
use Rattle.std.proofs.Common.{ℕ, suc, ◌≡◌, ◌+◌, ◌-◌, ◌*◌, ◌^◌, ◌<◌, ◌≤◌, ◌&&◌, Bool, true, false, List, [], ◌∷◌, length, get_or, take, drop, filter, refl, sym, ap, ◌∙◌, arith, inl, inr}
use Rattle.std.specs.Prelude.{nat_le, fold}
use Rattle.std.specs.Char.{is_ascii_digit}
use Rattle.std.specs.List.{prefix_len, suffix_len, count_by}
use Rattle.std.proofs.Math.Nat.{pow-succ', mul-le-mul, pow-le-pow_right}
use Rattle.std.proofs.Math.Seq.{drop-cons}
use Rattle.std.proofs.lemmas.Bool.{cases_Bool, cases_eq, le-leb, leb-true}
use Rattle.std.proofs.lemmas.List.{length-append, length-take-le, take-append-drop}
use Rattle.std.proofs.lemmas.List.Elements.{filter-append}
use Rattle.std.proofs.lemmas.List.Filters.{length-filter_more}
use Rattle.std.proofs.lemmas.List.Sums.{length-filter}
use Rattle.spice_text.specs.Numbers.{is_zero, digits_of, without_zeros_at_end, with_digit, spelled_number}
use Rattle.spice_text.specs.Reader.{is_significant}

false_is_true : ◌≡◌ {A = Bool} false true → ⊥
false_is_true e = absurd cc

in_range : (lo hi c : ℕ) → (nat_le lo c && nat_le c hi) ≡ true → (lo ≤ c) × (c ≤ hi)
in_range lo hi c is = elim (cases_Bool (nat_le lo c)) [
  | inl above ↦ (leb-true lo c above, leb-true c hi (sym (ap (λ (p : Bool). p && nat_le c hi) above) ∙ is))
  | inr below ↦ absurd (false_is_true (sym (ap (λ (p : Bool). p && nat_le c hi) below) ∙ is))
]

one_more : (n : ℕ) → 1 + n ≡ suc n
one_more n = omega arith

-- a digit is zero, or it counts
other_digit : (b : ℕ) → is_ascii_digit b ≡ true → (b ≡ 48 → ⊥) → is_significant b ≡ true
other_digit b digit other =
    let (above, below) = in_range 48 57 b digit in
    rw (le-leb 49 b (omega (arith, above, other)), le-leb b 57 below) refl

-- zeros and points in front say nothing
front_skipped : (b : ℕ) (bs : List ℕ) → is_significant b ≡ false → digits_of (b ∷ bs) ≡ digits_of bs
front_skipped b bs counts = elim (cases_Bool (is_ascii_digit b)) [
  | inl digit ↦ elim (cases_eq b 48) [
    | inl is ↦ rw is (ap (λ (n : ℕ). drop n (48 ∷ filter is_ascii_digit bs)) (one_more (prefix_len is_zero (filter is_ascii_digit bs))))
    | inr other ↦ absurd (false_is_true (sym counts ∙ other_digit b digit other))
  ]
  | inr other ↦ rw other refl
]

pub digits_counted : (xs : List ℕ) → length (filter is_ascii_digit xs) ≡ count_by is_ascii_digit xs
digits_counted xs = length-filter is_ascii_digit xs

pub not_more : (ds : List ℕ) → length (without_zeros_at_end ds) ≤ length ds
not_more ds =
    let within : length ds - suffix_len is_zero ds ≤ length ds = omega arith in
    omega (arith, within, length-take-le (length ds - suffix_len is_zero ds) ds within)

pub all_kept : (p : ℕ → Bool) (xs : List ℕ) → filter p (take (prefix_len p xs) xs) ≡ take (prefix_len p xs) xs
all_kept p [] = refl
all_kept p (x ∷ xs) = elim (cases_Bool (p x)) [
  | inl passes ↦ rw (passes, one_more (prefix_len p xs), passes, all_kept p xs) refl
  | inr fails ↦ rw fails refl
]

ten_times : (f a v p : ℕ) → f < a * p → a ≤ 10 * (v + 1) → f < (v + 1) * (10 * p)
ten_times f a v p below step =
    let more : a * p ≤ (10 * (v + 1)) * p = mul-le-mul step (omega arith) in
    omega (arith, below, more)

-- n digits behind a value leave it below the next value with n zeros
fits : (v : ℕ) (xs : List ℕ) → fold with_digit v (filter is_ascii_digit xs) < (v + 1) * 10 ^ length (filter is_ascii_digit xs)
fits v [] = omega arith
fits v (x ∷ xs) = elim (cases_Bool (is_ascii_digit x)) [
  | inl digit ↦
      let (above, below) = in_range 48 57 x digit in
      let n : ℕ = length (filter is_ascii_digit xs) in
      let inner : fold with_digit (with_digit v x) (filter is_ascii_digit xs) < (with_digit v x + 1) * 10 ^ n = fits (with_digit v x) xs in
      let step : with_digit v x + 1 ≤ 10 * (v + 1) = omega (arith, above, below) in
      let next : fold with_digit (with_digit v x) (filter is_ascii_digit xs) < (v + 1) * 10 ^ suc n = rw (pow-succ' 10 n) (ten_times (fold with_digit (with_digit v x) (filter is_ascii_digit xs)) (with_digit v x + 1) v (10 ^ n) inner step) in
      rw digit next
  | inr other ↦ rw other (fits v xs)
]

fewer : (xs : List ℕ) (i : ℕ) → length (filter is_ascii_digit (take i xs)) ≤ length (filter is_ascii_digit xs)
fewer xs i =
    let all : length (filter is_ascii_digit xs) ≡ length (filter is_ascii_digit (take i xs)) + length (filter is_ascii_digit (drop i xs)) =
    ap (λ (l : List ℕ). length (filter is_ascii_digit l)) (sym (take-append-drop i xs)) ∙ ap length (filter-append is_ascii_digit (take i xs) (drop i xs)) ∙ length-append (filter is_ascii_digit (take i xs)) (filter is_ascii_digit (drop i xs)) in
    omega (arith, all)

-- what the first bytes spell, where they have at most so many digits
value_within : (xs : List ℕ) (i most : ℕ) → length (filter is_ascii_digit (take i xs)) ≤ most → spelled_number (filter is_ascii_digit (take i xs)) < 10 ^ most
value_within xs i most few =
    let power : 10 ^ length (filter is_ascii_digit (take i xs)) ≤ 10 ^ most = pow-le-pow_right (omega arith) few in
    omega (arith, fits 0 (take i xs), power)

pub value_small : (xs : List ℕ) (i : ℕ) → length (filter is_ascii_digit xs) ≤ 18 → spelled_number (filter is_ascii_digit (take i xs)) < 10 ^ 18
value_small xs i few = value_within xs i 18 (omega (arith, fewer xs i, few))

-- of at most 18 digits, at most 17 stand before one of them
pub value_before : (xs : List ℕ) (i : ℕ) → i < length xs → is_ascii_digit (get_or xs i 0) ≡ true → length (filter is_ascii_digit xs) ≤ 18 → spelled_number (filter is_ascii_digit (take i xs)) < 10 ^ 17
value_before xs i within digit few =
    let one : length (filter is_ascii_digit (take (i + 1) xs)) ≡ length (filter is_ascii_digit (take i xs)) + 1 = length-filter_more is_ascii_digit xs i 0 within ∙ (rw digit refl) in
    value_within xs i 17 (omega (arith, one, fewer xs (i + 1), few))

-- a byte passed over in front
pub zero_skipped : (text : List ℕ) (at : ℕ) → at < length text → is_significant (get_or text at 0) ≡ false → digits_of (drop at text) ≡ digits_of text → digits_of (drop (at + 1) text) ≡ digits_of text
zero_skipped text at within counts rest =
    let one : at + 1 ≡ suc at = omega arith in
    let first : digits_of (drop at text) ≡ digits_of (drop (suc at) text) = ap digits_of (drop-cons text at 0 within) ∙ front_skipped (get_or text at 0) (drop (suc at) text) counts in
    ap (λ (n : ℕ). digits_of (drop n text)) one ∙ (sym first ∙ rest)
