-- A list in a strict order is known from its elements.
use Rattle.std.proofs.Common.{◌≡◌, List, [], ◌∷◌, inl, inr, refl, sym, subst, AllPairs, Contains}
use Rattle.std.proofs.lemmas.List.Elements.{All-contains}
use Rattle.cell_num.proofs.Lists.{contains_none, contains_cons, contains_here, contains_there}
use Rattle.cell_num.proofs.Pairs.{pairs_tail, pairs_head}

-- the elements behind the first are those of the other list behind its first
rest : {X : Type 0} (R : X → X → Type 0) → ((a b : X) → R a b → R b a → ⊥) → (x y : X) (xs ys : List X) → x ≡ y → AllPairs R (x ∷ xs) → ((z : X) → Contains (x ∷ xs) z → Contains (y ∷ ys) z) → (z : X) → Contains xs z → Contains ys z
rest R strict x y xs ys same px there z h =
    elim (contains_cons y ys z (there z (contains_there x xs z h))) [
      | inl first ↦ absurd (twice (All-contains (R x) xs z (pairs_head R x xs px) h) (let one : x ≡ z = cc in one))
      | inr more ↦ more
    ]
  where
    twice : R x z → x ≡ z → ⊥
    twice r one = let itself : R x x = subst (λ w. R x w) (sym one) r in strict x x itself itself

pub same_list : {X : Type 0} (R : X → X → Type 0) → ((a b : X) → R a b → R b a → ⊥) → (xs ys : List X) → AllPairs R xs → AllPairs R ys → ((z : X) → Contains xs z → Contains ys z) → ((z : X) → Contains ys z → Contains xs z) → xs ≡ ys
same_list R strict [] [] px py there back = refl
same_list R strict [] (y ∷ ys) px py there back = absurd (contains_none y (back y (contains_here y ys)))
same_list R strict (x ∷ xs) [] px py there back = absurd (contains_none x (there x (contains_here x xs)))
same_list {X} R strict (x ∷ xs) (y ∷ ys) px py there back = joined first (same_list R strict xs ys (pairs_tail R x xs px) (pairs_tail R y ys py) (rest R strict x y xs ys first px there) (rest R strict y x ys xs (sym first) py back))
  where
    first : x ≡ y
    first =
        elim (contains_cons y ys x (there x (contains_here x xs))) [
          | inl same ↦ sym same
          | inr in_ys ↦ elim (contains_cons x xs y (back y (contains_here y ys))) [
            | inl same ↦ same
            | inr in_xs ↦ absurd (strict x y (All-contains (R x) xs y (pairs_head R x xs px) in_xs) (All-contains (R y) ys x (pairs_head R y ys py) in_ys))
          ]
        ]

    joined : x ≡ y → xs ≡ ys → x ∷ xs ≡ y ∷ ys
    joined e f = cc
