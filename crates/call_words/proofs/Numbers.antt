-- The number that a word spells, found among the first ones.
use Rattle.std.specs.Prelude.{ℕ, zero, suc, ◌≡◌, ◌+◌, ◌<◌, ◌≤◌, true, false, List, Some, None, find, decimal, bytes_eq}
use Rattle.std.proofs.Common.{refl, sym, ap, arith, ◌∙◌, inl, inr}
use Rattle.std.specs.List.{range_with_len}
use Rattle.std.proofs.lemmas.Bool.{cases_eq}
use Rattle.call_words.specs.Words.{bench_number}

-- no number from 1 on and below it is spelled so
abbrev pub AreOthers : List ℕ → ℕ → Type 0
AreOthers word at = (n : ℕ) → 1 ≤ n → n < at → bytes_eq (decimal n) word ≡ false

pub none_spelled : (word : List ℕ) → AreOthers word 1
none_spelled word n some below = absurd (omega (arith, some, below))

pub none_more : (word : List ℕ) (at : ℕ) → AreOthers word at → bytes_eq (decimal at) word ≡ false → AreOthers word (at + 1)
none_more word at others is n some below = elim (cases_eq n at) [
  | inl same ↦ ap (λ (m : ℕ). bytes_eq (decimal m) word) same ∙ is
  | inr other ↦ others n some (omega (arith, below, other))
]

first_at : (word : List ℕ) (a k n : ℕ) → a ≤ n → n < a + k → bytes_eq (decimal n) word ≡ true → ((m : ℕ) → a ≤ m → m < n → bytes_eq (decimal m) word ≡ false) → find (λ (m : ℕ). bytes_eq (decimal m) word) (range_with_len a k) ≡ Some n
first_at word a zero n low high is before = absurd (omega (arith, low, high))
first_at word a (suc k) n low high is before =
    elim (cases_eq a n) [
      | inl same ↦ rw (ap (λ (m : ℕ). bytes_eq (decimal m) word) same ∙ is) (ap Some same)
      | inr other ↦ rw (before a (omega arith) (omega (arith, low, other))) (first_at word (a + 1) k n (omega (arith, low, other)) (omega (arith, high)) is (λ m l h. before m (omega (arith, l)) h))
    ]

none_at : (word : List ℕ) (a k : ℕ) → ((m : ℕ) → a ≤ m → m < a + k → bytes_eq (decimal m) word ≡ false) → find (λ (m : ℕ). bytes_eq (decimal m) word) (range_with_len a k) ≡ None
none_at word a zero others = refl
none_at word a (suc k) others = rw (others a (omega arith) (omega arith)) (none_at word (a + 1) k (λ m l h. others m (omega (arith, l)) (omega (arith, h))))

pub number_is : (word : List ℕ) (n : ℕ) → 1 ≤ n → n < 201 → bytes_eq (decimal n) word ≡ true → AreOthers word n → Some n ≡ bench_number word
unfolding bench_number
number_is word n some few is others = sym (first_at word 1 200 n some (omega (arith, few)) is others)

pub no_number : (word : List ℕ) → AreOthers word 201 → None ≡ bench_number word
unfolding bench_number
no_number word others = sym (none_at word 1 200 (λ m l h. others m l (omega (arith, h))))
