-- What holds of a list holds of those of its items that stay.
use Rattle.std.specs.Prelude.{ℕ, ◌≡◌, ◌≤◌, ◌<◌, List, [], ◌∷◌, All, AllPairs, Contains, sum_by}
use Rattle.std.proofs.Common.{sym, ap, subst, arith, inl, inr}
use Rattle.std.proofs.lemmas.List.Elements.{All-contains}
use Rattle.std.proofs.lemmas.List.Kept.{AllPairs-cons}
use Rattle.std.proofs.lemmas.List.Sums.{sum_by-cons}
use Rattle.cell_num.proofs.Lists.{all_from_contains, contains_cons, contains_here, contains_none, contains_there}
use Rattle.cell_num.proofs.Pairs.{pairs_head, pairs_none, pairs_tail}
use Rattle.end_lemmas.specs.declared.lemma.EndLemma.{EndLemma}
use Rattle.end_lemmas.specs.Steps.{Steps}
use Rattle.end_search.specs.New.{AreNew, IsUnsaid}
use Rattle.end_search.specs.Units.{units_at, units_of}
use Rattle.end_prune.specs.Sublist.{IsSublist}

module _ {X : Type 0} where
  pub contains_sublist : (some whole : List X) (x : X) → IsSublist some whole → Contains some x → Contains whole x
  contains_sublist some [] x is there = absurd (contains_none x (subst (λ (xs : List X). Contains xs x) is there))
  contains_sublist some (y ∷ whole) x (inl out) there =
      contains_there y whole x (contains_sublist some whole x out there)
  contains_sublist some (y ∷ whole) x (inr (rest, is, behind)) there =
      elim (contains_cons y rest x (subst (λ (xs : List X). Contains xs x) is there)) [
        | inl same ↦ subst (Contains (y ∷ whole)) same (contains_here y whole)
        | inr later ↦ contains_there y whole x (contains_sublist rest whole x behind later)
      ]

  pub all_sublist : (P : X → Type 0) (some whole : List X) → IsSublist some whole → All P whole → All P some
  all_sublist P some whole stay all =
      all_from_contains P some (λ x there. All-contains P whole x all (contains_sublist some whole x stay there))

  pub pairs_sublist : (R : X → X → Type 0) (some whole : List X) → IsSublist some whole → AllPairs R whole
      → AllPairs R some
  pairs_sublist R some [] is pairs = subst (AllPairs R) (sym is) (pairs_none R)
  pairs_sublist R some (y ∷ whole) (inl out) pairs = pairs_sublist R some whole out (pairs_tail R y whole pairs)
  pairs_sublist R some (y ∷ whole) (inr (rest, is, behind)) pairs =
      subst (AllPairs R) (sym is)
      (AllPairs-cons R y rest (all_sublist (R y) rest whole behind (pairs_head R y whole pairs))
      (pairs_sublist R rest whole behind (pairs_tail R y whole pairs)))

  pub sum_sublist : (f : X → ℕ) (some whole : List X) → IsSublist some whole → sum_by f some ≤ sum_by f whole
  sum_sublist f some [] is = let same : sum_by f some ≡ sum_by f [] = ap (sum_by f) is in omega (arith, same)
  sum_sublist f some (y ∷ whole) (inl out) =
      omega (arith, sum_by-cons f y whole, sum_sublist f some whole out)
  sum_sublist f some (y ∷ whole) (inr (rest, is, behind)) =
      let same : sum_by f some ≡ sum_by f (y ∷ rest) = ap (sum_by f) is in
      omega (arith, same, sum_by-cons f y whole, sum_by-cons f y rest, sum_sublist f rest whole behind)

module _ {S : Type 0} where
  pub new_sublist : (some whole : List (EndLemma S)) → IsSublist some whole → AreNew whole → AreNew some
  new_sublist some whole stay new = record {
    some = all_sublist (λ (l : EndLemma S). 0 < l.bound) some whole stay new.some;
    unsaid = pairs_sublist IsUnsaid some whole stay new.unsaid;
  }

module _ {L C S : Type 0} (steps : Steps L C S) where
  pub units_sublist : (levels : List L) (some whole : List (EndLemma S)) → IsSublist some whole
      → units_of steps levels some ≤ units_of steps levels whole
  unfolding units_of
  units_sublist levels some whole stay = sum_sublist (λ (l : EndLemma S). units_at steps levels l.done) some whole stay
