-- Sizes of sets of numbers below n, of which one has what the other has and what is listed.
use Rattle.std.proofs.Common.{ℕ, zero, suc, ◌≡◌, ◌≢◌, ◌+◌, ◌<◌, ◌≤◌, ◌==◌, Bool, true}
use Rattle.std.proofs.Common.{if◌then◌else◌, List, [], ◌∷◌, length, refl, sym, ap, arith, ◌∙◌, inl, inr, ◌⊎◌, Contains}
use Rattle.std.proofs.lemmas.Bool.{cases_Bool, cases_eq, cases_lt, eq-eqb}
use Rattle.std.proofs.lemmas.Bool.{ne_eqb, or_left, or_right}
use Rattle.cell_num.proofs.Lists.{contains_cons, contains_none}
use Rattle.row_trails.specs.Trails.{size, size_same}
use Rattle.trail_state.proofs.Sizes.{size_mono, size_with, with_number}

without : (k v : ℕ) (f : ℕ → Bool) → (v ≡ k → ⊥) → with_number k f v ≡ f v
without k v f not_k = rw (ne_eqb v k not_k) refl

one_more : (n k : ℕ) (f : ℕ → Bool) → size n (with_number k f) ≤ size n f + 1
one_more n k f = elim (cases_lt k n) [
  | inl within ↦ elim (cases_Bool (f k)) [
    | inl inside ↦
        let same : size n (with_number k f) ≡ size n f = size_same n (with_number k f) f (λ v l. elim (cases_eq v k) [
          | inl e ↦ or_left (v == k) (f v) (eq-eqb v k e) ∙ sym (ap f e ∙ inside)
          | inr not_k ↦ without k v f not_k
        ]) in
        omega (arith, same)
    | inr out ↦
        let more : size n (with_number k f) ≡ size n f + 1 =
        size_with n k f (with_number k f) within out (or_left (k == k) (f k) (eq-eqb k k refl))
        (λ v not_k. sym (without k v f not_k)) in
        omega (arith, more)
  ]
  | inr high ↦
      let same : size n (with_number k f) ≡ size n f = size_same n (with_number k f) f
      (λ v l. without k v f (λ e. omega (arith, e, l, high))) in
      omega (arith, same)
]

-- each number of the larger set is in the other one, or listed
pub size_listed : (n : ℕ) (ks : List ℕ) (f g : ℕ → Bool) → ((v : ℕ) → v < n → g v ≡ true → (f v ≡ true) ⊎ Contains ks v)
    →
    size n g ≤ size n f + length ks
size_listed n [] f g covers =
    omega (
      arith,
      size_mono n g f (λ v l e. elim (covers v l e)
          [ inl inside ↦ inside | inr none ↦ absurd (contains_none v none) ]),
    )
size_listed n (k ∷ ks) f g covers = omega (arith, size_listed n ks (with_number k f) g more, one_more n k f)
  where
    more : (v : ℕ) → v < n → g v ≡ true → (with_number k f v ≡ true) ⊎ Contains ks v
    more v l e = elim (covers v l e) [
      | inl inside ↦ inl (or_right (v == k) (f v) inside)
      | inr listed ↦ elim (contains_cons k ks v listed) [
        | inl same ↦ inl (or_left (v == k) (f v) (eq-eqb v k (sym same)))
        | inr rest ↦ inr rest
      ]
    ]

-- a number of a set that is not empty
pub size_some : (n : ℕ) (f : ℕ → Bool) → size n f ≢ 0 → (v : ℕ) × (v < n) × (f v ≡ true)
size_some zero f some = absurd (some refl)
size_some (suc n) f some = elim (cases_Bool (f n)) [
  | inl here ↦ (n, omega arith, here)
  | inr out ↦
      let none : ◌≡◌ {A = ℕ} (if f n then 1 else 0) 0 = rw out refl in
      let rest = size_some n f (λ e. some (omega (arith, e, none))) in
      (rest.0, omega (arith, rest.1), rest.2)
]
