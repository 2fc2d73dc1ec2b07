-- A sorted list without repeats has the same elements, each below the later ones.
use Rattle.std.proofs.Common.{◌≡◌, ℤ, ◌<ℤ◌, List, IsPermutation, sym, refl}
use Rattle.std.specs.List.{dedup}
use Rattle.std.specs.List.Sorted.{IsSorted, IsStrictlySortedBy}
use Rattle.std.specs.Ordering.{int_cmp, int_eq}
use Rattle.std.specs.declared.cmp.Ordering.TheVariants.{Less}
use Rattle.std.specs.Cmp.{int_cmp_total, int_eq_equiv, signed_Decides}
use Rattle.std.proofs.lemmas.Cmp.{int_ranked}
use Rattle.std.proofs.lemmas.List.Kept.{Contains-dedup, Contains-from_dedup, IsStrictlySortedBy-dedup}
use Rattle.std.proofs.lemmas.List.Sorted.{Contains-permutation, IsPermutation-sym}
use Rattle.std.proofs.lemmas.Map.Keys.{Less-from_sorted}
use Rattle.box_geom.specs.Cutting.{AreCuts}

below : (x y : ℤ) → int_cmp x y ≡ Less → x <ℤ y
below x y e = int_ranked x y Less (sym e)

pub cuts_of : (all sorted : List ℤ) → IsPermutation all sorted → IsSorted int_cmp sorted → AreCuts all (dedup int_eq sorted)
cuts_of all sorted moved up =
    let strict : IsStrictlySortedBy int_cmp (dedup int_eq sorted) = IsStrictlySortedBy-dedup int_cmp_total (λ x y. refl) sorted up in
    record {
      ascending = λ i j d lt within. below _ _ (Less-from_sorted int_cmp (dedup int_eq sorted) i j d strict lt within);
      same = λ z. (λ c. Contains-permutation sorted all z (IsPermutation-sym all sorted moved) (Contains-from_dedup int_eq sorted z c), λ c. Contains-dedup int_eq_equiv (λ x y e. (signed_Decides x y).0 e) sorted z (Contains-permutation all sorted z moved c));
    }
