-- A list in strict order is fixed by what it has.
use Rattle.std.proofs.Common.{◌≡◌, inl, inr, List, [], ◌∷◌, refl, sym, subst, ap}
use Rattle.std.specs.List.{AllPairs, Contains}
use Rattle.std.proofs.lemmas.List.Elements.{All-contains}
use Rattle.cell_num.proofs.Lists.{contains_none, contains_cons, contains_here, contains_there}
use Rattle.cell_num.proofs.Pairs.{pairs_head, pairs_tail}

-- no two come before each other
abbrev pub IsStrict : {X : Type 0} → (X → X → Type 0) → Type 0
IsStrict {X} R = (a b : X) → R a b → R b a → ⊥

-- the heads of two ordered lists with the same elements
heads : {X : Type 0} (R : X → X → Type 0) → IsStrict R → (x y : X) (xs ys : List X) → AllPairs R (x ∷ xs) → AllPairs R (y ∷ ys) → Contains (y ∷ ys) x → Contains (x ∷ xs) y → x ≡ y
heads R strict x y xs ys ox oy cx cy =
    elim (contains_cons y ys x cx) [
      | inl e ↦ sym e
      | inr later ↦ elim (contains_cons x xs y cy) [
        | inl e ↦ e
        | inr behind ↦ absurd (strict x y (All-contains (R x) xs y (pairs_head R x xs ox) behind) (All-contains (R y) ys x (pairs_head R y ys oy) later))
      ]
    ]

-- what stands behind the head of one list stands behind that of the other
tails : {X : Type 0} (R : X → X → Type 0) → IsStrict R → (x : X) (xs ys : List X) → AllPairs R (x ∷ xs) → ((z : X) → Contains (x ∷ xs) z → Contains (x ∷ ys) z) → (z : X) → Contains xs z → Contains ys z
tails R strict x xs ys ox sub z c =
    elim (contains_cons x ys z (sub z (contains_there x xs z c))) [
      | inl e ↦ let r = All-contains (R x) xs z (pairs_head R x xs ox) c in let s : R x x = subst (R x) (sym e) r in absurd (strict x x s s)
      | inr there ↦ there
    ]

pub ordered_same : {X : Type 0} (R : X → X → Type 0) → IsStrict R → (xs ys : List X) → AllPairs R xs → AllPairs R ys → ((z : X) → Contains xs z → Contains ys z) → ((z : X) → Contains ys z → Contains xs z) → xs ≡ ys
ordered_same R strict [] [] ox oy there back = refl
ordered_same R strict [] (y ∷ ys) ox oy there back = absurd (contains_none y (back y (contains_here y ys)))
ordered_same R strict (x ∷ xs) [] ox oy there back = absurd (contains_none x (there x (contains_here x xs)))
ordered_same {X} R strict (x ∷ xs) (y ∷ ys) ox oy there back =
    let e : x ≡ y = heads R strict x y xs ys ox oy (there x (contains_here x xs)) (back y (contains_here y ys)) in
    let ox' : AllPairs R (y ∷ xs) = subst (λ z. AllPairs R (z ∷ xs)) e ox in
    let there' : (z : X) → Contains (y ∷ xs) z → Contains (y ∷ ys) z = subst (λ h. (z : X) → Contains (h ∷ xs) z → Contains (y ∷ ys) z) e there in
    let back' : (z : X) → Contains (y ∷ ys) z → Contains (y ∷ xs) z = subst (λ h. (z : X) → Contains (y ∷ ys) z → Contains (h ∷ xs) z) e back in
    let rest : xs ≡ ys = ordered_same R strict xs ys (pairs_tail R x xs ox) (pairs_tail R y ys oy) (tails R strict y xs ys ox' there') (tails R strict y ys xs oy back') in
    subst (λ h. x ∷ xs ≡ h ∷ ys) e (ap (λ zs. x ∷ zs) rest)
