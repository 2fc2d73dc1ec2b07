-- Lists of different numbers with the same members.
use Rattle.std.proofs.Common.{ℕ, ◌≡◌, ◌≢◌, List, [], ◌∷◌, ◌++◌, sym, subst, ap, inl, inr, ◌⊎◌, AllPairs, Contains, IsPermutation}
use Rattle.std.proofs.lemmas.List.Elements.{All-contains, Contains-append_left, Contains-append_right, Contains-append_cases}
use Rattle.std.proofs.lemmas.List.Sorted.{IsPermutation-refl, IsPermutation-sym, IsPermutation-cons, IsPermutation-middle, IsPermutation-trans}
use Rattle.cell_num.proofs.Lists.{contains_none, contains_cons, contains_here, contains_there}
use Rattle.cell_num.proofs.Pairs.{pairs_tail, pairs_head, pairs_without, pairs_behind}
use Rattle.cell_num.proofs.Permutations.{Split, split_cons}

pub split_there : {X : Type 0} (x : X) (xs : List X) → Contains xs x → Split x xs
split_there x [] there = absurd (contains_none x there)
split_there x (y ∷ ys) there = elim (contains_cons y ys x there) [
  | inl same ↦ record { before = []; after = ys; is = ap (λ z. z ∷ ys) same }
  | inr later ↦ split_cons x y ys (split_there x ys later)
]

-- an element of the first part and one of the second
pairs_front : {X : Type 0} (R : X → X → Type 0) (xs ys : List X) (a b : X) → AllPairs R (xs ++ ys) → Contains xs a → Contains ys b → R a b
pairs_front R [] ys a b pairs first second = absurd (contains_none a first)
pairs_front R (x ∷ xs) ys a b pairs first second = elim (contains_cons x xs a first) [
  | inl same ↦ subst (λ c. R c b) same (All-contains (R x) (xs ++ ys) b (pairs_head R x (xs ++ ys) pairs) (Contains-append_right xs ys b second))
  | inr later ↦ pairs_front R xs ys a b (pairs_tail R x (xs ++ ys) pairs) later second
]

abbrev pub Differ : List ℕ → Type 0
Differ xs = AllPairs (λ (a b : ℕ). a ≢ b) xs

-- an element of the rest is another one
others : (before : List ℕ) (x : ℕ) (after : List ℕ) (z : ℕ) → Differ (before ++ x ∷ after) → Contains (before ++ after) z → x ≡ z → ⊥
others before x after z differ there same = elim (Contains-append_cases before after z there) [
  | inl first ↦ pairs_front (λ (a b : ℕ). a ≢ b) before (x ∷ after) z x differ first (contains_here x after) (sym same)
  | inr second ↦ pairs_behind (λ (a b : ℕ). a ≢ b) before x after z differ second same
]

rest_of : (before : List ℕ) (x : ℕ) (after : List ℕ) (z : ℕ) → Contains (before ++ x ∷ after) z → (x ≡ z) ⊎ Contains (before ++ after) z
rest_of before x after z there = elim (Contains-append_cases before (x ∷ after) z there) [
  | inl first ↦ inr (Contains-append_left before after z first)
  | inr second ↦ elim (contains_cons x after z second) [
    | inl same ↦ inl same
    | inr later ↦ inr (Contains-append_right before after z later)
  ]
]

rest_in : (before : List ℕ) (x : ℕ) (after : List ℕ) (z : ℕ) → Contains (before ++ after) z → Contains (before ++ x ∷ after) z
rest_in before x after z there = elim (Contains-append_cases before after z there) [
  | inl first ↦ Contains-append_left before (x ∷ after) z first
  | inr second ↦ Contains-append_right before (x ∷ after) z (contains_there x after z second)
]

pub same_members : (xs ys : List ℕ) → Differ xs → Differ ys → ((z : ℕ) → Contains xs z → Contains ys z) → ((z : ℕ) → Contains ys z → Contains xs z) → IsPermutation xs ys
same_members [] [] dx dy to from = IsPermutation-refl []
same_members [] (y ∷ ys) dx dy to from = absurd (contains_none y (from y (contains_here y ys)))
same_members (x ∷ xs) ys dx dy to from =
    let s : Split x ys = split_there x ys (to x (contains_here x xs)) in
    let dz : Differ (s.before ++ x ∷ s.after) = subst (λ zs. Differ zs) s.is dy in
    let rest : IsPermutation xs (s.before ++ s.after) = same_members xs (s.before ++ s.after) (pairs_tail (λ (a b : ℕ). a ≢ b) x xs dx) (pairs_without (λ (a b : ℕ). a ≢ b) s.before x s.after dz) (λ z there. elim (rest_of s.before x s.after z (subst (λ zs. Contains zs z) s.is (to z (contains_there x xs z there)))) [
      | inl same ↦ absurd (All-contains (λ (b : ℕ). x ≢ b) xs z (pairs_head (λ (a b : ℕ). a ≢ b) x xs dx) there same)
      | inr other ↦ other
    ]) (λ z there. elim (contains_cons x xs z (from z (subst (λ zs. Contains zs z) (sym s.is) (rest_in s.before x s.after z there)))) [
      | inl same ↦ absurd (others s.before x s.after z dz there same)
      | inr later ↦ later
    ]) in
    IsPermutation-trans (x ∷ xs) (x ∷ (s.before ++ s.after)) ys (IsPermutation-cons x xs (s.before ++ s.after) rest) (subst (λ zs. IsPermutation (x ∷ (s.before ++ s.after)) zs) (sym s.is) (IsPermutation-sym (s.before ++ x ∷ s.after) (x ∷ (s.before ++ s.after)) (IsPermutation-middle s.before x s.after)))
