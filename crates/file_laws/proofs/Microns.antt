-- Microns with three decimals are read back.
use Rattle.std.proofs.Common.{ℕ, ℤ, pos, negsuc, neg_ℤ, ◌≡◌, ◌+◌, ◌*◌, ◌/◌, ◌%◌, ◌<◌, ◌≤◌, ◌==◌, int_lt, Bool, true, false, List, [], ◌∷◌, ◌++◌, Option, Some, codes, decimal, length, refl, sym, ap, subst, ◌∙◌, arith, option_map, suc, unsigned_abs}
use Rattle.std.specs.Char.{is_ascii_digit}
use Rattle.std.specs.List.{list_all}
use Rattle.std.specs.Str.Parse.{digits_value, AllDigits}
use Rattle.std.proofs.lemmas.Bool.{ne_eqb, le-leb, ltb-true}
use Rattle.std.proofs.lemmas.Fmt.{decimal_is_IsNumeral}
use Rattle.std.proofs.lemmas.Str.Parse.{tells_digits}
use Rattle.std.proofs.lemmas.List.{append_assoc}
use Rattle.lef_write.specs.Lef.{three_digits, microns, coordinate}
use Rattle.lef_read.specs.Numbers.{thousandths, value_of, length_of, before_point, behind_point, nanometres_of}
use Rattle.file_laws.specs.Drawn.{IsInWord, IsWord, IsMetric}
use Rattle.file_laws.proofs.Tokens.{in_append, digit_in, digits_in}

digit_test : (c : ℕ) → 48 ≤ c → c ≤ 57 → is_ascii_digit c ≡ true
digit_test c low high = rw (le-leb 48 c low, le-leb c 57 high) refl

all_test : (w : List ℕ) → AllDigits 10 w → list_all is_ascii_digit w ≡ true
all_test [] h = refl
all_test (c ∷ w) h =
    let p = tells_digits.parts c w h in
    rw (digit_test c p.0.0 p.0.1) (all_test w p.1)

front : (w tail : List ℕ) → AllDigits 10 w → before_point (w ++ 46 ∷ tail) ≡ w
front [] tail h = refl
front (c ∷ w) tail h =
    let p = tells_digits.parts c w h in
    let other : (c == 46) ≡ false = ne_eqb c 46 (λ e. omega (arith, e, p.0.0)) in
    rw (other, front w tail p.1) refl

back : (w tail : List ℕ) → AllDigits 10 w → behind_point (w ++ 46 ∷ tail) ≡ tail
back [] tail h = refl
back (c ∷ w) tail h =
    let p = tells_digits.parts c w h in
    let other : (c == 46) ≡ false = ne_eqb c 46 (λ e. omega (arith, e, p.0.0)) in
    rw (other, back w tail p.1) refl

thousands : (n : ℕ) → n < 1000 → thousandths (three_digits n) ≡ n
thousands n h = omega (arith, h)

three_test : (n : ℕ) → n < 1000 → list_all is_ascii_digit (three_digits n) ≡ true
three_test n h = rw (digit_test (48 + n / 100) (omega arith) (omega (arith, h)), digit_test (48 + n / 10 % 10) (omega arith) (omega arith), digit_test (48 + n % 10) (omega arith) (omega arith)) refl

some_length : (w : List ℕ) → 0 < length w → (length w == 0) ≡ false
some_length w h = ne_eqb (length w) 0 (λ e. omega (arith, e, h))

read_parts : (w : List ℕ) (n : ℕ) → AllDigits 10 w → 0 < length w → n < 1000 → 1000 * digits_value 10 w + n ≤ 1000000000 → value_of w (three_digits n) ≡ Some (1000 * digits_value 10 w + n)
read_parts w n digits some few most =
    let most' : 1000 * digits_value 10 w + thousandths (three_digits n) ≤ 1000000000 = omega (arith, most, thousands n few) in
    rw (all_test w digits, three_test n few, some_length w some, le-leb (1000 * digits_value 10 w + thousandths (three_digits n)) 1000000000 most') (ap (λ m. Some (1000 * digits_value 10 w + m)) (thousands n few))

pub microns_read : (nm : ℕ) → nm ≤ 1000000000 → length_of (microns nm) ≡ Some nm
unfolding length_of microns
microns_read nm most =
    let (numeral, value) = decimal_is_IsNumeral (nm / 1000) (omega (arith, most)) in
    let few : nm % 1000 < 1000 = omega arith in
    let sum : 1000 * digits_value 10 (decimal (nm / 1000)) + nm % 1000 ≡ nm = omega (arith, value) in
    let parts = read_parts (decimal (nm / 1000)) (nm % 1000) numeral.1 numeral.0 few (omega (arith, sum, most)) in
    let one : before_point (decimal (nm / 1000) ++ 46 ∷ three_digits (nm % 1000)) ≡ decimal (nm / 1000) = front (decimal (nm / 1000)) (three_digits (nm % 1000)) numeral.1 in
    let other : behind_point (decimal (nm / 1000) ++ 46 ∷ three_digits (nm % 1000)) ≡ three_digits (nm % 1000) = back (decimal (nm / 1000)) (three_digits (nm % 1000)) numeral.1 in
    let joined : (decimal (nm / 1000) ++ codes ".") ++ three_digits (nm % 1000) ≡ decimal (nm / 1000) ++ 46 ∷ three_digits (nm % 1000) = append_assoc (decimal (nm / 1000)) (codes ".") (three_digits (nm % 1000)) in
    ap length_in joined ∙ (ap (λ w. value_of w (behind_point (decimal (nm / 1000) ++ 46 ∷ three_digits (nm % 1000)))) one ∙ (ap (λ t. value_of (decimal (nm / 1000)) t) other ∙ (parts ∙ ap (λ m. Some m) sum)))
  where
    length_in : List ℕ → Option ℕ
    length_in w = value_of (before_point w) (behind_point w)

-- ---- lengths are words
three_in : (n : ℕ) → n < 1000 → IsInWord (three_digits n)
three_in n h = (digit_in (48 + n / 100) (omega arith) (omega (arith, h)), (digit_in (48 + n / 10 % 10) (omega arith) (omega arith), (digit_in (48 + n % 10) (omega arith) (omega arith), tt)))

microns_in : (nm : ℕ) → nm ≤ 1000000000 → IsInWord (microns nm)
unfolding microns
microns_in nm most =
    let (numeral, value) = decimal_is_IsNumeral (nm / 1000) (omega (arith, most)) in
    in_append (decimal (nm / 1000) ++ codes ".") (three_digits (nm % 1000)) (in_append (decimal (nm / 1000)) (codes ".") (digits_in (decimal (nm / 1000)) numeral.1) (refl, tt)) (three_in (nm % 1000) (omega arith))

-- a length begins with a digit
record BeginsByDigit (w : List ℕ) : Type 0 where
  first : ℕ
  rest : List ℕ
  is : w ≡ first ∷ rest
  least : 48 ≤ first

digit_first : (w behind : List ℕ) → AllDigits 10 w → 0 < length w → BeginsByDigit (w ++ behind)
digit_first [] behind h some = absurd (omega (arith, some))
digit_first (c ∷ w) behind h some = let p = tells_digits.parts c w h in record { first = c; rest = w ++ behind; is = refl; least = p.0.0 }

microns_first : (nm : ℕ) → nm ≤ 1000000000 → BeginsByDigit (microns nm)
unfolding microns
microns_first nm most =
    let (numeral, value) = decimal_is_IsNumeral (nm / 1000) (omega (arith, most)) in
    let b = digit_first (decimal (nm / 1000)) (codes "." ++ three_digits (nm % 1000)) numeral.1 numeral.0 in
    record { first = b.first; rest = b.rest; is = append_assoc (decimal (nm / 1000)) (codes ".") (three_digits (nm % 1000)) ∙ b.is; least = b.least }

microns_word : (nm : ℕ) → nm ≤ 1000000000 → IsWord (microns nm)
microns_word nm most =
    let b = microns_first nm most in
    record { some = omega (arith, ap length b.is); all = microns_in nm most }

-- a word that begins by a digit is read without a sign
unsigned : (w : List ℕ) → BeginsByDigit w → nanometres_of w ≡ option_map (λ n. pos n) (length_of w)
unfolding nanometres_of
unsigned w b =
    let other : (b.first == 45) ≡ false = ne_eqb b.first 45 (λ e. omega (arith, e, b.least)) in
    subst (λ (v : List ℕ). nanometres_of v ≡ option_map (λ n. pos n) (length_of v)) (sym b.is) (rw other refl)

-- a word that is read as so many nanometres
pub record IsRead (w : List ℕ) (z : ℤ) : Type 0 where
  pub word : IsWord w
  pub value : nanometres_of w ≡ Some z

pub length_read : (nm : ℕ) → nm ≤ 1000000000 → IsRead (microns nm) (pos nm)
length_read nm most = record { word = microns_word nm most; value = unsigned (microns nm) (microns_first nm most) ∙ ap (λ o. option_map (λ m. pos m) o) (microns_read nm most) }

-- a coordinate in nanometres
abbrev pub nm_of : ℕ → ℤ → ℤ
nm_of unit (pos n) = pos (n * unit)
nm_of unit (negsuc n) = neg_ℤ (pos (suc n * unit))

not_less : (n : ℕ) → int_lt (pos n) (pos 0) ≡ false
not_less n = by (int_lt (pos n) (pos 0)) refl
  where
    by : (b : Bool) → int_lt (pos n) (pos 0) ≡ b → int_lt (pos n) (pos 0) ≡ false
    by false e = e
    by true e = absurd (let h : n < 0 = ltb-true n 0 e in omega (arith, h))

pub coordinate_read : (unit : ℕ) (z : ℤ) → IsMetric unit (unsigned_abs z) → IsRead (coordinate unit z) (nm_of unit z)
unfolding coordinate nanometres_of
coordinate_read unit (pos n) most = let r = length_read (n * unit) most in rw (not_less n) (record { word = r.word; value = r.value })
coordinate_read unit (negsuc n) most =
    let w = microns_word (suc n * unit) most in
    record { word = record { some = omega arith; all = (refl, w.all) }; value = ap (λ o. option_map (λ m. neg_ℤ (pos m)) o) (microns_read (suc n * unit) most) }
