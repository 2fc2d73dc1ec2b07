-- Items with marks, and one mark more.
use Rattle.std.specs.Prelude.{ℕ, zero, suc, ◌≡◌, ◌++◌, ◌⊎◌, Bool, true, false, List, [], ◌∷◌, Some, Contains, length, replicate, slice_get, slice_set}
use Rattle.std.proofs.Common.{refl, ap, subst, arith, inl, inr}
use Rattle.std.proofs.lemmas.Option.{none-some, same_Some}
use Rattle.cell_num.proofs.Lists.{contains_cons, contains_here, contains_there}
use Rattle.end_prune.specs.Marks.{marked}

module _ {X : Type 0} where
  pub marked_push : (marks : List Bool) (xs : List X) (m : Bool) (x : X) → length marks ≡ length xs
      → marked (marks ++ m ∷ []) (xs ++ x ∷ []) ≡ marked marks xs ++ marked (m ∷ []) (x ∷ [])
  marked_push [] [] m x same = refl
  marked_push [] (y ∷ xs) m x same = absurd (omega (arith, same))
  marked_push (b ∷ marks) [] m x same = absurd (omega (arith, same))
  marked_push (true ∷ marks) (y ∷ xs) m x same =
      ap (λ (ys : List X). y ∷ ys) (marked_push marks xs m x (omega (arith, same)))
  marked_push (false ∷ marks) (y ∷ xs) m x same = marked_push marks xs m x (omega (arith, same))

  pub none_marked : (n : ℕ) (xs : List X) → marked (replicate n false) xs ≡ []
  none_marked zero xs = refl
  none_marked (suc n) [] = refl
  none_marked (suc n) (x ∷ xs) = none_marked n xs

  -- the mark of an item is set
  pub record IsSet (xs : List X) (x : X) (old new : List Bool) : Type 0 where
    pub still : (y : X) → Contains (marked old xs) y → Contains (marked new xs) y
    pub here : Contains (marked new xs) x
    pub added : (y : X) → Contains (marked new xs) y → Contains (marked old xs) y ⊎ (x ≡ y)

  behind : (y : X) (xs : List X) (x : X) (old new : List Bool) (m : Bool) → IsSet xs x old new
      → IsSet (y ∷ xs) x (m ∷ old) (m ∷ new)
  behind y xs x old new false h = record { still = h.still; here = h.here; added = h.added }
  behind y xs x old new true h = record {
    still = λ z there.
        elim (contains_cons y (marked old xs) z there) [
          | inl same ↦ subst (Contains (y ∷ marked new xs)) same (contains_here y (marked new xs))
          | inr later ↦ contains_there y (marked new xs) z (h.still z later)
        ];
    here = contains_there y (marked new xs) x h.here;
    added = λ z there.
        elim (contains_cons y (marked new xs) z there) [
          | inl same ↦ inl (subst (Contains (y ∷ marked old xs)) same (contains_here y (marked old xs)))
          | inr later ↦ more z (h.added z later)
        ];
  }
    where
      more : (z : X) → Contains (marked old xs) z ⊎ (x ≡ z) → Contains (y ∷ marked old xs) z ⊎ (x ≡ z)
      more z (inl before) = inl (contains_there y (marked old xs) z before)
      more z (inr same) = inr same

  first : (x : X) (xs : List X) (marks : List Bool) (m : Bool) → IsSet (x ∷ xs) x (m ∷ marks) (true ∷ marks)
  first x xs marks true =
      record { still = λ y there. there; here = contains_here x (marked marks xs); added = λ y there. inl there }
  first x xs marks false = record {
    still = λ y there. contains_there x (marked marks xs) y there;
    here = contains_here x (marked marks xs);
    added = λ y there.
        elim (contains_cons x (marked marks xs) y there) [ inl same ↦ inr same | inr later ↦ inl later ];
  }

  pub one_set : (marks : List Bool) (xs : List X) (at : ℕ) (x : X) → length marks ≡ length xs
      → slice_get xs at ≡ Some x → IsSet xs x marks (slice_set marks at true)
  one_set marks [] at x same there = absurd (none-some x there)
  one_set [] (y ∷ xs) at x same there = absurd (omega (arith, same))
  one_set (m ∷ marks) (y ∷ xs) zero x same there =
      subst (λ (z : X). IsSet (y ∷ xs) z (m ∷ marks) (true ∷ marks)) (same_Some y x there) (first y xs marks m)
  one_set (m ∷ marks) (y ∷ xs) (suc at) x same there =
      behind y xs x marks (slice_set marks at true) m (one_set marks xs at x (omega (arith, same)) there)
