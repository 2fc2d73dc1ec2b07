-- What holds of each item of a list and of those before it.
use Rattle.std.proofs.Common.{ℕ, ◌≡◌, ◌+◌, ◌<◌, ◌++◌, List, [], ◌∷◌, length, take, get_or, inl, inr, sym, subst, arith}
use Rattle.std.proofs.Math.Seq.{get_or-append_seam, take-append_seam}
use Rattle.std.proofs.lemmas.Bool.{cases_lt}
use Rattle.std.proofs.lemmas.List.{get_or_append_left, get_or_default, length-append, take-append-le}

-- it holds below the place n
abbrev pub EachBelow : {X : Type 0} → (List X → X → Type 0) → List X → ℕ → Type 0
EachBelow {X} P xs n = (i : ℕ) (d : X) → i < n → P (take i xs) (get_or xs i d)

pub none_below : {X : Type 0} (P : List X → X → Type 0) (xs : List X) → EachBelow P xs 0
none_below P xs i d below = absurd (omega (arith, below))

pub below_more : {X : Type 0} (P : List X → X → Type 0) (xs : List X) (n : ℕ) (e : X) → n < length xs
    → EachBelow P xs n → P (take n xs) (get_or xs n e) → EachBelow P xs (n + 1)
below_more P xs n e within before here i d below =
    elim (cases_lt i n) [
      | inl less ↦ before i d less
      | inr more ↦
          let last : n ≡ i = omega (arith, more, below) in
          subst (λ j. P (take j xs) (get_or xs j d)) last (subst (P (take n xs)) (get_or_default xs n e d within) here)
    ]

-- and of one item more
pub each_push : {X : Type 0} (P : List X → X → Type 0) (xs : List X) (x : X) → EachBelow P xs (length xs) → P xs x
    → EachBelow P (xs ++ x ∷ []) (length (xs ++ x ∷ []))
each_push P xs x all here i d within =
    elim (cases_lt i (length xs)) [
      | inl less ↦
          let e : take i (xs ++ x ∷ []) ≡ take i xs = take-append-le i xs (x ∷ []) (omega arith) in
          let f : get_or (xs ++ x ∷ []) i d ≡ get_or xs i d = get_or_append_left xs (x ∷ []) d i less in
          subst (P (take i (xs ++ x ∷ []))) (sym f) (subst (λ ys. P ys (get_or xs i d)) (sym e) (all i d less))
      | inr more ↦
          let at : length xs ≡ i = omega (arith, length-append xs (x ∷ []), within) in
          let last : P (take (length xs) (xs ++ x ∷ [])) x =
          subst (λ ys. P ys x) (sym (take-append_seam xs (x ∷ []))) here in
          subst (λ n. P (take n (xs ++ x ∷ [])) (get_or (xs ++ x ∷ []) n d)) at
          (subst (P (take (length xs) (xs ++ x ∷ []))) (sym (get_or-append_seam xs x [] d)) last)
    ]
