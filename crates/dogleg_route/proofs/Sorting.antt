-- Numbers as a comparison tells them, and lists with one element a number.
use Rattle.std.proofs.Common.{ℕ, ◌≡◌, ◌≢◌, ◌<◌, ◌==◌, ltb, Bool, true, false, cond, List, [], ◌∷◌, inl, inr, refl, subst, arith, AllPairs, Contains, count_by}
use Rattle.std.specs.declared.cmp.Ordering.TheVariants.{Equal}
use Rattle.std.specs.Ordering.{nat_cmp}
use Rattle.std.proofs.lemmas.Bool.{cases_Bool, cases_eq, eqb-true, eq-eqb, ltb-true}
use Rattle.std.proofs.lemmas.List.Elements.{All-contains}
use Rattle.std.proofs.lemmas.List.Folds.{list_any_none}
use Rattle.cell_num.proofs.Lists.{all_from_contains}
use Rattle.cell_num.proofs.Pairs.{OneEach, none_counted, pairs_tail, pairs_head}
use Rattle.cell_num.proofs.Permutations.{count_cons}

pub cmp_same : (a b : ℕ) → a ≡ b → nat_cmp a b ≡ Equal
cmp_same a b h = subst (λ n. nat_cmp a n ≡ Equal) h (rw (not_below a) (rw (eq-eqb a a refl) refl))
  where
    not_below : (n : ℕ) → ltb n n ≡ false
    not_below n = elim (cases_Bool (ltb n n)) [ inl less ↦ absurd (let wrong : n < n = ltb-true n n less in omega (arith, wrong)) | inr fine ↦ fine ]

-- elements of pairwise different numbers
pub one_each_from_pairs : {X : Type 0} (key : X → ℕ) (xs : List X) → AllPairs (λ a b. key a ≢ key b) xs → OneEach key xs
one_each_from_pairs key [] h n = omega arith
one_each_from_pairs {X} key (x ∷ xs) h n =
    elim (cases_eq (key x) n) [
      | inl same ↦
          let one : ◌≡◌ {A = ℕ} (cond (key x == n) 1 0) 1 = rw (eq-eqb (key x) n same) refl in
          let none : count_by (λ y. key y == n) xs ≡ 0 = none_counted (λ y. key y == n) xs (list_any_none (λ y. key y == n) xs (all_from_contains (λ y. (key y == n) ≡ false) xs (λ y there. other y same there))) in
          omega (arith, one, none, count_cons (λ y. key y == n) x xs)
      | inr differ ↦ omega (arith, at_most (key x == n) differ refl, one_each_from_pairs key xs (pairs_tail (λ a b. key a ≢ key b) x xs h) n, count_cons (λ y. key y == n) x xs)
    ]
  where
    other : (y : X) → key x ≡ n → Contains xs y → (key y == n) ≡ false
    other y same there =
        elim (cases_Bool (key y == n)) [
          | inr e ↦ e
          | inl e ↦ absurd (All-contains (λ b. key x ≢ key b) xs y (pairs_head (λ a b. key a ≢ key b) x xs h) there (omega (arith, same, eqb-true (key y) n e)))
        ]

    at_most : (b : Bool) → key x ≢ n → (key x == n) ≡ b → ◌≡◌ {A = ℕ} (cond (key x == n) 1 0) 0
    at_most true differ e = absurd (differ (eqb-true (key x) n e))
    at_most false differ e = rw e refl
