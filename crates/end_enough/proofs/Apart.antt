-- A list without repeats is no greater than one that has all its elements.
use Rattle.std.specs.Prelude.{ℕ, ◌≢◌, ◌≤◌, List, [], ◌∷◌, ◌++◌, All, AllPairs, Contains, sum_by}
use Rattle.std.proofs.Common.{ap, subst, arith, inl, inr}
use Rattle.std.proofs.lemmas.List.Elements.{All-contains, Contains-append_cases}
use Rattle.std.proofs.lemmas.List.Elements.{Contains-append_left, Contains-append_right}
use Rattle.std.proofs.lemmas.List.Sums.{sum_by-append, sum_by-cons}
use Rattle.cell_num.proofs.Lists.{contains_cons, contains_here, contains_none, contains_there}
use Rattle.cell_num.proofs.Pairs.{pairs_head, pairs_tail}
use Rattle.cell_num.proofs.Permutations.{Split, split_cons}

module _ {X : Type 0} where
  split_in : (x : X) (xs : List X) → Contains xs x → Split x xs
  split_in x [] there = absurd (contains_none x there)
  split_in x (y ∷ ys) there =
      elim (contains_cons y ys x there) [
        | inl same ↦ record { before = []; after = ys; is = ap (λ (z : X). z ∷ ys) same }
        | inr rest ↦ split_cons x y ys (split_in x ys rest)
      ]

  -- another element stands beside that one
  beside : (x z : X) (before after : List X) → x ≢ z → Contains (before ++ x ∷ after) z → Contains (before ++ after) z
  beside x z before after apart there =
      elim (Contains-append_cases before (x ∷ after) z there) [
        | inl left ↦ Contains-append_left before after z left
        | inr right ↦ elim (contains_cons x after z right) [
          | inl same ↦ absurd (apart same)
          | inr later ↦ Contains-append_right before after z later
        ]
      ]

  pub apart_fit : (f : X → ℕ) (xs ys : List X) → AllPairs (λ (a b : X). a ≢ b) xs
      → ((x : X) → Contains xs x → Contains ys x) → sum_by f xs ≤ sum_by f ys
  apart_fit f [] ys apart there = omega arith
  apart_fit f (x ∷ xs) ys apart there =
      let s : Split x ys = split_in x ys (there x (contains_here x xs)) in
      let others : All (λ (z : X). x ≢ z) xs = pairs_head (λ (a b : X). a ≢ b) x xs apart in
      let rest : sum_by f xs ≤ sum_by f (s.before ++ s.after) =
      apart_fit f xs (s.before ++ s.after) (pairs_tail (λ (a b : X). a ≢ b) x xs apart)
      (λ z at. beside x z s.before s.after (All-contains (λ (y : X). x ≢ y) xs z others at)
      (subst (λ (zs : List X). Contains zs z) s.is (there z (contains_there x xs z at)))) in
      omega (
        arith,
        rest,
        sum_by-cons f x xs,
        ap (sum_by f) s.is,
        sum_by-append f s.before (x ∷ s.after),
        sum_by-cons f x s.after,
        sum_by-append f s.before s.after,
      )
