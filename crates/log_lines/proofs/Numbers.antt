-- The number that a word is.
use Rattle.std.specs.Prelude.{ℕ, zero, suc, ◌≡◌, ◌≢◌, ◌+◌, ◌^◌, ◌<◌, ◌≤◌, Bool, true, false, cond, List, Some, None, find, decimal}
use Rattle.std.proofs.Common.{refl, sym, ap, arith, ◌∙◌, ◌⊎◌, inl, inr}
use Rattle.std.specs.List.{range_with_len}
use Rattle.std.proofs.lemmas.Bool.{cases_Bool, cases_eq}
use Rattle.std.proofs.lemmas.Fmt.{decimal_injective}
use Rattle.std.proofs.lemmas.Option.{none-some, same_Some}
use Rattle.std.proofs.lemmas.Slice.Eq.{bytes_eq-Decides}
use Rattle.log_lines.specs.Words.{is_word, number_below}

pub chosen : {X : Type 0} (b : Bool) (x y z : X) → cond b x y ≡ z → ((b ≡ true) × (x ≡ z)) ⊎ ((b ≡ false) × (y ≡ z))
chosen true x y z h = inl (refl, h)
chosen false x y z h = inr (refl, h)

pub same_words : (a b : List ℕ) → is_word a b ≡ true → a ≡ b
same_words a b h = (bytes_eq-Decides a b).0 h

pub is_same : (a b : List ℕ) → a ≡ b → is_word a b ≡ true
is_same a b h = (bytes_eq-Decides a b).1 h

pub is_other : (a b : List ℕ) → a ≢ b → is_word a b ≡ false
is_other a b h = elim (cases_Bool (is_word a b)) [ inl e ↦ absurd (h (same_words a b e)) | inr e ↦ e ]

found_in : (word : List ℕ) (a k n : ℕ) → find (λ (m : ℕ). is_word word (decimal m)) (range_with_len a k) ≡ Some n → (word ≡ decimal n) × (n < a + k)
found_in word a zero n h = absurd (none-some n h)
found_in word a (suc k) n h =
    elim (chosen (is_word word (decimal a)) (Some a) (find (λ (m : ℕ). is_word word (decimal m)) (range_with_len (a + 1) k)) (Some n) h) [
      | inl e ↦ let same : a ≡ n = same_Some a n e.1 in (same_words word (decimal a) e.0 ∙ ap decimal same, omega (arith, same))
      | inr e ↦ let later : (word ≡ decimal n) × (n < a + 1 + k) = found_in word (a + 1) k n e.1 in (later.0, omega (arith, later.1))
    ]

none_in : (word : List ℕ) (a k : ℕ) → ((n : ℕ) → a ≤ n → n < a + k → word ≢ decimal n) → find (λ (m : ℕ). is_word word (decimal m)) (range_with_len a k) ≡ None
none_in word a zero h = refl
none_in word a (suc k) h = rw (is_other word (decimal a) (h a (omega arith) (omega arith))) (none_in word (a + 1) k (λ n l m. h n (omega (arith, l)) (omega (arith, m))))

one_in : (word : List ℕ) (a k n : ℕ) → word ≡ decimal n → a ≤ n → n < a + k → a + k ≤ 2 ^ 64 → find (λ (m : ℕ). is_word word (decimal m)) (range_with_len a k) ≡ Some n
one_in word a zero n e low high few = absurd (omega (arith, low, high))
one_in word a (suc k) n e low high few =
    elim (cases_eq a n) [
      | inl same ↦ rw (is_same word (decimal a) (e ∙ ap decimal (sym same))) (ap Some same)
      | inr other ↦ rw (is_other word (decimal a) (λ d. other (decimal_injective a n (omega (arith, low, high, few)) (omega (arith, high, few)) (sym d ∙ e)))) (one_in word (a + 1) k n e (omega (arith, low, other)) (omega (arith, high)) (omega (arith, few)))
    ]

-- what is found is the number of the word, and below the limit
pub found_below : (limit : ℕ) (word : List ℕ) (n : ℕ) → number_below limit word ≡ Some n → (word ≡ decimal n) × (n < limit)
unfolding number_below
found_below limit word n h = let found : (word ≡ decimal n) × (n < 0 + limit) = found_in word 0 limit n h in (found.0, omega (arith, found.1))

pub is_below : (limit : ℕ) (word : List ℕ) (n : ℕ) → word ≡ decimal n → n < limit → limit ≤ 4294967296 → number_below limit word ≡ Some n
unfolding number_below
is_below limit word n e l few = one_in word 0 limit n e (omega arith) (omega (arith, l)) (omega (arith, few))

pub not_below : (limit : ℕ) (word : List ℕ) (n : ℕ) → word ≡ decimal n → limit ≤ n → n < 4294967296 → number_below limit word ≡ None
unfolding number_below
not_below limit word n e l few = none_in word 0 limit (λ m low high d. let same : m ≡ n = decimal_injective m n (omega (arith, high, l, few)) (omega (arith, few)) (sym d ∙ e) in omega (arith, same, high, l))

pub no_number : (limit : ℕ) (word : List ℕ) → ((n : ℕ) → n < 1000 → word ≢ decimal n) → limit ≤ 1000 → number_below limit word ≡ None
unfolding number_below
no_number limit word h few = none_in word 0 limit (λ m low high. h m (omega (arith, high, few)))
