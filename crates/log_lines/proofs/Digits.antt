-- Numbers of one to three digits.
use Rattle.std.specs.Prelude.{ℕ, ◌≡◌, ◌≢◌, ◌+◌, ◌*◌, ◌/◌, ◌%◌, ◌<◌, ◌≤◌, List, [], ◌∷◌, Option, Some, None, IfSome, IfNone, length, get_or, decimal}
use Rattle.std.proofs.Common.{refl, arith, inl, inr}
use Rattle.std.proofs.lemmas.Bool.{cases_eq, cases_lt}
use Rattle.std.proofs.lemmas.Fmt.{decimal_digit, decimal_step}

two_glyphs : (n : ℕ) → 10 ≤ n → n < 100 → decimal n ≡ (48 + n / 10) ∷ (48 + n % 10) ∷ []
two_glyphs n low high = rw (decimal_step n low (omega (arith, high)), decimal_digit (n / 10) (omega (arith, high))) refl

three_glyphs : (n : ℕ) → 100 ≤ n → n < 1000 → decimal n ≡ (48 + n / 100) ∷ (48 + n / 10 % 10) ∷ (48 + n % 10) ∷ []
three_glyphs n low high =
    let front : n / 10 / 10 ≡ n / 100 = omega arith in
    rw (decimal_step n (omega (arith, low)) (omega (arith, high)), two_glyphs (n / 10) (omega (arith, low)) (omega (arith, high)), front) refl

-- ---- a word of so many bytes

one_digit : (word : List ℕ) (d x : ℕ) → length word ≡ 1 → get_or word 0 d ≡ 48 + x → x < 10 → word ≡ decimal x
one_digit [] d x long ones few = absurd (omega (arith, long))
one_digit (a ∷ b ∷ bs) d x long ones few = absurd (omega (arith, long))
one_digit (a ∷ []) d x long ones few = rw (decimal_digit x few, ones) refl

pub two_digits : (word : List ℕ) (d e x y : ℕ) → length word ≡ 2 → get_or word 0 d ≡ 48 + x → get_or word 1 e ≡ 48 + y → get_or word 0 d ≢ 48 → x < 10 → y < 10 → word ≡ decimal (10 * x + y)
two_digits [] d e x y long tens ones some few less = absurd (omega (arith, long))
two_digits (a ∷ []) d e x y long tens ones some few less = absurd (omega (arith, long))
two_digits (a ∷ b ∷ c ∷ cs) d e x y long tens ones some few less = absurd (omega (arith, long))
two_digits (a ∷ b ∷ []) d e x y long tens ones some few less =
    let first : 1 ≤ x = omega (arith, some, tens) in
    let front : a ≡ 48 + (10 * x + y) / 10 = omega (arith, tens, less) in
    let back : b ≡ 48 + (10 * x + y) % 10 = omega (arith, ones, less) in
    rw (two_glyphs (10 * x + y) (omega (arith, first)) (omega (arith, few, less)), front, back) refl

pub three_digits : (word : List ℕ) (d e f x y z : ℕ) → length word ≡ 3 → get_or word 0 d ≡ 48 + x → get_or word 1 e ≡ 48 + y → get_or word 2 f ≡ 48 + z → get_or word 0 d ≢ 48 → x < 10 → y < 10 → z < 10 → word ≡ decimal (100 * x + 10 * y + z)
three_digits [] d e f x y z long hundreds tens ones some few less least = absurd (omega (arith, long))
three_digits (a ∷ []) d e f x y z long hundreds tens ones some few less least = absurd (omega (arith, long))
three_digits (a ∷ b ∷ []) d e f x y z long hundreds tens ones some few less least = absurd (omega (arith, long))
three_digits (a ∷ b ∷ c ∷ g ∷ gs) d e f x y z long hundreds tens ones some few less least = absurd (omega (arith, long))
three_digits (a ∷ b ∷ c ∷ []) d e f x y z long hundreds tens ones some few less least =
    let first : 1 ≤ x = omega (arith, some, hundreds) in
    let front : a ≡ 48 + (100 * x + 10 * y + z) / 100 = omega (arith, hundreds, less, least) in
    let middle : b ≡ 48 + (100 * x + 10 * y + z) / 10 % 10 = omega (arith, tens, less, least) in
    let back : c ≡ 48 + (100 * x + 10 * y + z) % 10 = omega (arith, ones, least) in
    rw (three_glyphs (100 * x + 10 * y + z) (omega (arith, first)) (omega (arith, few, less, least)), front, middle, back) refl

-- ---- the bytes of a number below 1000

record Spells (word : List ℕ) (n : ℕ) : Type 0 where
  one : length word ≡ 1 → (d : ℕ) → (get_or word 0 d ≡ 48 + n) × (n < 10)
  two : length word ≡ 2 → (d e : ℕ) → (get_or word 0 d ≡ 48 + n / 10) × (get_or word 1 e ≡ 48 + n % 10) × (10 ≤ n) × (n < 100)
  three : length word ≡ 3 → (d e f : ℕ) → (get_or word 0 d ≡ 48 + n / 100) × (get_or word 1 e ≡ 48 + n / 10 % 10) × (get_or word 2 f ≡ 48 + n % 10) × (100 ≤ n)
  some : 1 ≤ length word
  few : length word ≤ 3

spells_decimal : (n : ℕ) → n < 1000 → Spells (decimal n) n
spells_decimal n small = elim (cases_lt n 10) [
  | inl less ↦ rw (decimal_digit n less) (record { one = λ e d. (refl, less); two = λ e. absurd (omega (arith, e)); three = λ e. absurd (omega (arith, e)); some = omega arith; few = omega arith })
  | inr ten ↦ elim (cases_lt n 100) [
    | inl less ↦ rw (two_glyphs n ten less) (record { one = λ e. absurd (omega (arith, e)); two = λ l d e. (refl, refl, ten, less); three = λ e. absurd (omega (arith, e)); some = omega arith; few = omega arith })
    | inr more ↦ rw (three_glyphs n more small) (record { one = λ e. absurd (omega (arith, e)); two = λ e. absurd (omega (arith, e)); three = λ l d e f. (refl, refl, refl, more); some = omega arith; few = omega arith })
  ]
]

spells : (word : List ℕ) (n : ℕ) → word ≡ decimal n → n < 1000 → Spells word n
spells word n is small = rw is (spells_decimal n small)

-- ---- the words that are no number below 1000

not_one : (word : List ℕ) (d : ℕ) → length word ≡ 1 → ((x : ℕ) → x < 10 → get_or word 0 d ≢ 48 + x) → (n : ℕ) → n < 1000 → word ≢ decimal n
not_one word d long none n small is = let s = (spells word n is small).one long d in none n s.1 s.0

-- a word of one byte, by what its digit is
pub one_read : (word : List ℕ) (d : ℕ) (digit : Option ℕ) → length word ≡ 1 → IfSome digit (λ x. (get_or word 0 d ≡ 48 + x) × (x < 10)) → IfSome digit (λ n. word ≡ decimal n)
one_read word d None long read = tt
one_read word d (Some x) long read = one_digit word d x long read.0 read.1

pub one_unread : (word : List ℕ) (d : ℕ) (digit : Option ℕ) → length word ≡ 1 → IfNone digit ((x : ℕ) → x < 10 → get_or word 0 d ≢ 48 + x) → IfNone digit ((n : ℕ) → n < 1000 → word ≢ decimal n)
one_unread word d None long none = not_one word d long none
one_unread word d (Some x) long none = tt

pub not_two_front : (word : List ℕ) (d : ℕ) → length word ≡ 2 → ((x : ℕ) → x < 10 → get_or word 0 d ≢ 48 + x) → (n : ℕ) → n < 1000 → word ≢ decimal n
not_two_front word d long none n small is = let s = (spells word n is small).two long d d in none (n / 10) (omega (arith, s.3)) s.0

pub not_two_back : (word : List ℕ) (d : ℕ) → length word ≡ 2 → ((x : ℕ) → x < 10 → get_or word 1 d ≢ 48 + x) → (n : ℕ) → n < 1000 → word ≢ decimal n
not_two_back word d long none n small is = let s = (spells word n is small).two long d d in none (n % 10) (omega arith) s.1

pub not_three_front : (word : List ℕ) (d : ℕ) → length word ≡ 3 → ((x : ℕ) → x < 10 → get_or word 0 d ≢ 48 + x) → (n : ℕ) → n < 1000 → word ≢ decimal n
not_three_front word d long none n small is = let s = (spells word n is small).three long d d d in none (n / 100) (omega (arith, small)) s.0

pub not_three_middle : (word : List ℕ) (d : ℕ) → length word ≡ 3 → ((x : ℕ) → x < 10 → get_or word 1 d ≢ 48 + x) → (n : ℕ) → n < 1000 → word ≢ decimal n
not_three_middle word d long none n small is = let s = (spells word n is small).three long d d d in none (n / 10 % 10) (omega arith) s.1

pub not_three_back : (word : List ℕ) (d : ℕ) → length word ≡ 3 → ((x : ℕ) → x < 10 → get_or word 2 d ≢ 48 + x) → (n : ℕ) → n < 1000 → word ≢ decimal n
not_three_back word d long none n small is = let s = (spells word n is small).three long d d d in none (n % 10) (omega arith) s.2

-- a zero in front
pub not_zero : (word : List ℕ) (d : ℕ) → length word ≢ 1 → get_or word 0 d ≡ 48 → (n : ℕ) → n < 1000 → word ≢ decimal n
not_zero word d long zero n small is =
    let s = spells word n is small in
    elim (cases_eq (length word) 2) [
      | inl two ↦ let t = s.two two d d in omega (arith, t.0, t.2, zero)
      | inr more ↦ let three : length word ≡ 3 = omega (arith, more, long, s.some, s.few) in let t = s.three three d d d in omega (arith, t.0, t.3, zero)
    ]

-- other words
pub not_long : (word : List ℕ) → length word ≢ 1 → length word ≢ 2 → length word ≢ 3 → (n : ℕ) → n < 1000 → word ≢ decimal n
not_long word one two three n small is = let s = spells word n is small in omega (arith, one, two, three, s.some, s.few)
