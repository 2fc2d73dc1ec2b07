-- Lists in strict order: each list of which two elements stand in the order one way or the other has one.
use Rattle.std.proofs.Common.{◌⊎◌, List, [], ◌∷◌, inl, inr, All, AllPairs, IsPermutation}
use Rattle.std.proofs.lemmas.List.Elements.{All-cons, All-head, All-tail, All-weaker}
use Rattle.std.proofs.lemmas.List.Kept.{AllPairs-cons}
use Rattle.std.proofs.lemmas.List.Sorted.{All-permutation, IsPermutation-refl, IsPermutation-cons, IsPermutation-middle, IsPermutation-trans}
use Rattle.cell_num.proofs.Pairs.{pairs_head, pairs_none, pairs_one, pairs_tail}

pub record Ordered {X : Type 0} (R : X → X → Type 0) (xs : List X) : Type 0 where
  pub ys : List X
  pub moved : IsPermutation xs ys
  pub order : AllPairs R ys

module _ {X : Type 0} (R : X → X → Type 0) (trans : (a b c : X) → R a b → R b c → R a c) where
  insert : (x : X) (ys : List X) → All (λ y. R x y ⊎ R y x) ys → AllPairs R ys → Ordered R (x ∷ ys)
  insert x [] either order = record { ys = x ∷ []; moved = IsPermutation-refl (x ∷ []); order = pairs_one R x }
  insert x (y ∷ ys) either order =
      elim (All-head (λ z. R x z ⊎ R z x) y ys either) [
        | inl before ↦ record {
          ys = x ∷ y ∷ ys;
          moved = IsPermutation-refl (x ∷ y ∷ ys);
          order = AllPairs-cons R x (y ∷ ys) (All-cons (R x) y ys before (All-weaker (R y) (R x) (λ z h. trans x y z before h) ys (pairs_head R y ys order))) order;
        }
        | inr behind ↦ later behind (insert x ys (All-tail (λ z. R x z ⊎ R z x) y ys either) (pairs_tail R y ys order))
      ]
    where
      later : R y x → Ordered R (x ∷ ys) → Ordered R (x ∷ y ∷ ys)
      later behind rest = record {
        ys = y ∷ rest.ys;
        moved = IsPermutation-trans (x ∷ y ∷ ys) (y ∷ x ∷ ys) (y ∷ rest.ys) (IsPermutation-middle (x ∷ []) y ys) (IsPermutation-cons y (x ∷ ys) rest.ys rest.moved);
        order = AllPairs-cons R y rest.ys (All-permutation (R y) (x ∷ ys) rest.ys rest.moved (All-cons (R y) x ys behind (pairs_head R y ys order))) rest.order;
      }

  pub sorted : (xs : List X) → AllPairs (λ a b. R a b ⊎ R b a) xs → Ordered R xs
  sorted [] either = record { ys = []; moved = IsPermutation-refl []; order = pairs_none R }
  sorted (x ∷ xs) either = more (sorted xs (pairs_tail (λ a b. R a b ⊎ R b a) x xs either))
    where
      more : Ordered R xs → Ordered R (x ∷ xs)
      more rest = joined (insert x rest.ys (All-permutation (λ z. R x z ⊎ R z x) xs rest.ys rest.moved (pairs_head (λ a b. R a b ⊎ R b a) x xs either)) rest.order)
        where
          joined : Ordered R (x ∷ rest.ys) → Ordered R (x ∷ xs)
          joined all = record { ys = all.ys; moved = IsPermutation-trans (x ∷ xs) (x ∷ rest.ys) all.ys (IsPermutation-cons x xs rest.ys rest.moved) all.moved; order = all.order }
