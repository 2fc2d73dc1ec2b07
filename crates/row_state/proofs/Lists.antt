-- The joined lists of the numbers below n: what holds of each item, of each two items, and which items are in it.
use Rattle.std.specs.Prelude.{ℕ, zero, suc, ◌<◌, List, All, AllPairs, Contains}
use Rattle.std.proofs.Common.{sym, arith, inl, inr}
use Rattle.std.proofs.lemmas.Bool.{cases_order}
use Rattle.std.proofs.lemmas.List.Elements.{All-nil, All-append, Contains-append_left, Contains-append_right}
use Rattle.cell_num.proofs.Lists.{all_imply}
use Rattle.cell_num.proofs.Pairs.{cross, pairs_append, pairs_none}
use Rattle.row_state.specs.Tests.{joined_below}

module _ {X : Type 0} where
  pub all_joined : (P : X → Type 0) (f : ℕ → List X) (n : ℕ) → ((i : ℕ) → i < n → All P (f i)) → All P (joined_below f n)
  all_joined P f zero h = All-nil P
  all_joined P f (suc n) h = All-append P (joined_below f n) (f n) (all_joined P f n (λ i l. h i (omega (arith, l)))) (h n (omega arith))

  pub pairs_joined : (R : X → X → Type 0) (T : ℕ → X → Type 0) (f : ℕ → List X) (n : ℕ) → ((i : ℕ) → i < n → All (T i) (f i)) → ((i : ℕ) → i < n → AllPairs R (f i)) → ((i j : ℕ) (a b : X) → i < j → T i a → T j b → R a b) → AllPairs R (joined_below f n)
  pairs_joined R T f zero t h r = pairs_none R
  pairs_joined R T f (suc n) t h r =
      pairs_append R (joined_below f n) (f n) (pairs_joined R T f n (λ i l. t i (omega (arith, l))) (λ i l. h i (omega (arith, l))) r) (h n (omega arith))
      (cross R (λ a. (i : ℕ) × (i < n) × T i a) (T n) (joined_below f n) (f n)
      (all_joined (λ a. (i : ℕ) × (i < n) × T i a) f n (λ i l. all_imply (T i) (λ a. (i : ℕ) × (i < n) × T i a) (f i) (λ a y. (i, l, y)) (t i (omega (arith, l)))))
      (t n (omega arith)) (λ a b (i, l, y) z. r i n a b l y z))

  pub contains_joined : (f : ℕ → List X) (n i : ℕ) (x : X) → i < n → Contains (f i) x → Contains (joined_below f n) x
  contains_joined f zero i x l h = absurd (omega (arith, l))
  contains_joined f (suc n) i x l h =
      elim (cases_order i n) [
        | inl e ↦ Contains-append_right (joined_below f n) (f n) x (rw (sym e) h)
        | inr other ↦ elim other [ inl less ↦ Contains-append_left (joined_below f n) (f n) x (contains_joined f n i x less h) | inr more ↦ absurd (omega (arith, l, more)) ]
      ]
