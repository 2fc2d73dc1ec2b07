-- Sums over numbers, with terms that are added at some of them.
use Rattle.std.proofs.Common.{ℕ, zero, suc, ◌≡◌, ◌≢◌, ◌+◌, ◌<◌, ◌≤◌, ◌==◌, if◌then◌else◌, List, [], ◌∷◌, map, refl, sym}
use Rattle.std.proofs.Common.{ap, arith, ◌∙◌, inl, inr, All, AllPairs, Contains, sum_by}
use Rattle.std.proofs.lemmas.Bool.{cases_eq, eq-eqb, ne_eqb}
use Rattle.std.proofs.lemmas.List.Elements.{All-head, All-tail}
use Rattle.std.proofs.lemmas.List.Sums.{sum_by-cons}
use Rattle.cell_num.specs.Fingers.{sum_below}
use Rattle.cell_num.proofs.Lists.{contains_here, contains_there}
use Rattle.cell_num.proofs.Pairs.{pairs_head, pairs_tail}
use Rattle.trail_state.specs.declared.state.Place.{Place}

-- terms that are added at different numbers
pub sum_adds : (m : ℕ) (ks : List ℕ) (f w : ℕ → ℕ) (h : ℕ → ℕ) → AllPairs (λ a b. a ≢ b) ks
    → All (λ k. (k < m) × (f k ≡ 0) × (w k ≤ h k)) ks → ((k : ℕ) → f k ≤ h k)
    → sum_below f m + sum_by w ks ≤ sum_below h m
sum_adds m [] f w h differ new more = omega (arith, sums m)
  where
    sums : (k : ℕ) → sum_below f k ≤ sum_below h k
    sums zero = omega arith
    sums (suc k) = omega (arith, sums k, more k)
sum_adds m (k ∷ ks) f w h differ new more =
    let here : (k < m) × (f k ≡ 0) × (w k ≤ h k) = All-head (λ i. (i < m) × (f i ≡ 0) × (w i ≤ h i)) k ks new in
    let one : sum_below with_k m ≡ sum_below f m + w k = added_at m here.0 here.1 in
    let rest : sum_below with_k m + sum_by w ks ≤ sum_below h m =
    sum_adds m ks with_k w h (pairs_tail (λ (a b : ℕ). a ≢ b) k ks differ)
    (still (All-tail (λ i. (i < m) × (f i ≡ 0) × (w i ≤ h i)) k ks new)) grown in
    omega (arith, one, rest, sum_by-cons w k ks)
  where
    with_k : ℕ → ℕ
    with_k i = if i == k then w k else f i

    at_k : with_k k ≡ w k
    at_k = rw (eq-eqb k k refl) refl

    other : (i : ℕ) → i ≢ k → with_k i ≡ f i
    other i not_k = rw (ne_eqb i k not_k) refl

    same_below : (j : ℕ) → j ≤ k → sum_below with_k j ≡ sum_below f j
    same_below zero l = refl
    same_below (suc j) l = omega (arith, same_below j (omega (arith, l)), other j (λ e. omega (arith, e, l)))

    added_at : (j : ℕ) → k < j → f k ≡ 0 → sum_below with_k j ≡ sum_below f j + w k
    added_at zero l none = absurd (omega (arith, l))
    added_at (suc j) l none = elim (cases_eq j k) [
      | inl e ↦
          let at : with_k j ≡ w k = ap with_k e ∙ at_k in
          let was : f j ≡ 0 = ap f e ∙ none in
          omega (arith, same_below j (omega (arith, e)), at, was)
      | inr not_k ↦ omega (arith, added_at j (omega (arith, l, not_k)) none, other j not_k)
    ]

    still : All (λ i. (i < m) × (f i ≡ 0) × (w i ≤ h i)) ks → All (λ i. (i < m) × (with_k i ≡ 0) × (w i ≤ h i)) ks
    still rest =
        let others : All (λ b. k ≢ b) ks = pairs_head (λ (a b : ℕ). a ≢ b) k ks differ in
        λ i d l. ((rest i d l).0, other _ (λ e. others i d l (sym e)) ∙ (rest i d l).1, (rest i d l).2)

    grown : (i : ℕ) → with_k i ≤ h i
    grown i = elim (cases_eq i k) [
      | inl e ↦
          let le : w k ≤ h k =
          (All-head (λ j. (j < m) × (f j ≡ 0) × (w j ≤ h j)) k ks new).2 in
          let at : with_k i ≡ w k = ap with_k e ∙ at_k in
          let top : h i ≡ h k = ap h e in
          omega (arith, le, at, top)
      | inr not_k ↦ omega (arith, other i not_k, more i)
    ]

-- a sum over a list, by a number of each element
pub sum_mapped : (closing : List Place) (ends_at : Place → ℕ) (ends : ℕ → ℕ)
    → ((p : Place) → Contains closing p → ends_at p ≡ ends p.node.0)
    → sum_by ends_at closing ≡ sum_by ends (map (λ (p : Place). p.node.0) closing)
sum_mapped [] ends_at ends are = refl
sum_mapped (p ∷ ps) ends_at ends are = omega (
  arith,
  are p (contains_here p ps),
  sum_mapped ps ends_at ends (λ q k. are q (contains_there p ps q k)),
  sum_by-cons ends_at p ps,
  sum_by-cons ends p.node.0 (map (λ (q : Place). q.node.0) ps),
)
