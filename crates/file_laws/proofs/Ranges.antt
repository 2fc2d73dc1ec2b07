-- The numbers of a range.
use Rattle.std.proofs.Common.{ℕ, zero, suc, ◌+◌, ◌<◌, ◌≤◌, ◌∷◌, Contains, inl, inr, subst, arith}
use Rattle.std.specs.List.{range_with_len}
use Rattle.std.proofs.lemmas.Bool.{cases_eq}
use Rattle.cell_num.proofs.Lists.{contains_cons, contains_here, contains_none, contains_there}

below_end : (from n k : ℕ) → Contains (range_with_len from n) k → k < from + n
below_end from zero k there = absurd (contains_none k there)
below_end from (suc n) k there = elim (contains_cons from (range_with_len (from + 1) n) k there) [
  | inl is ↦ omega (arith, is)
  | inr later ↦ omega (arith, below_end (from + 1) n k later)
]

pub number_below : (n k : ℕ) → Contains (range_with_len 0 n) k → k < n
number_below n k there = omega (arith, below_end 0 n k there)

between : (from n k : ℕ) → from ≤ k → k < from + n → Contains (range_with_len from n) k
between from zero k low high = absurd (omega (arith, low, high))
between from (suc n) k low high = elim (cases_eq from k) [
  | inl is ↦ subst (λ z. Contains (from ∷ range_with_len (from + 1) n) z) is (contains_here from (range_with_len (from + 1) n))
  | inr other ↦ contains_there from (range_with_len (from + 1) n) k (between (from + 1) n k (omega (arith, low, other)) (omega (arith, high)))
]

pub in_range : (n k : ℕ) → k < n → Contains (range_with_len 0 n) k
in_range n k low = between 0 n k (omega arith) (omega (arith, low))
