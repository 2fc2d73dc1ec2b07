-- Sums over the numbers below a bound.
use Rattle.std.proofs.Common.{ℕ, zero, suc, ◌≡◌, ◌+◌, ◌*◌, ◌<◌, ◌≤◌, inl, inr, refl, arith, add-one}
use Rattle.std.proofs.lemmas.Bool.{cases_order}
use Rattle.cell_num.specs.Fingers.{sum_below}

pub sum_below_more : (f : ℕ → ℕ) (n : ℕ) → sum_below f (n + 1) ≡ sum_below f n + f n
sum_below_more f n = rw add-one refl

-- a part of the sum and its next term are at most the whole
pub sum_below_le : (f : ℕ → ℕ) (n i : ℕ) → i < n → sum_below f i + f i ≤ sum_below f n
sum_below_le f zero i h = omega arith
sum_below_le f (suc n) i h =
    elim (cases_order i n) [
      | inl e ↦ rw e (omega arith)
      | inr other ↦ elim other [ inl less ↦ omega (arith, sum_below_le f n i less) | inr more ↦ omega arith ]
    ]

-- a sum of terms that are at most m
pub sum_below_most : (f : ℕ → ℕ) (m n : ℕ) → ((i : ℕ) → f i ≤ m) → sum_below f n ≤ n * m
sum_below_most f m zero few = omega arith
sum_below_most f m (suc n) few = omega (arith, sum_below_most f m n few, few n)
