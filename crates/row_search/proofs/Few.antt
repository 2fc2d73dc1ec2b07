-- Distinct lemmas of valid states, with bounds in a range, are few.
use Rattle.std.proofs.Common.{ℕ, zero, suc, ◌≡◌, ◌+◌, ◌-◌, ◌*◌, ◌<◌, ◌≤◌, true, false, eqb, List, [], ◌∷◌, length, map, get_or, inl, inr, arith, All}
use Rattle.std.specs.List.{IsDistinct, AllByRecursion, list_any}
use Rattle.std.proofs.lemmas.Bool.{cases_eq, ne_eqb}
use Rattle.std.proofs.lemmas.Nat.{same_from_place, mul-add-lt}
use Rattle.std.proofs.lemmas.Map.Steps.{length-le_from_distinct_below}
use Rattle.std.proofs.lemmas.List.{length-map}
use Rattle.std.proofs.lemmas.List.Elements.{All-head, All-tail}
use Rattle.row_state.specs.declared.kind.Kinds.{Kinds}
use Rattle.row_state.specs.Start.{IsState}
use Rattle.bound_log.specs.declared.log.Lemma.{Lemma}
use Rattle.row_search.specs.Ended.{AreDistinct, IsInRange}
use Rattle.row_state.specs.Code.{most_states, state_code}
use Rattle.row_state.proofs.Codes.{state_below, state_same}

-- distinct numbers below a bound are at most as many
module _ {X : Type 0} (f : X → ℕ) where
  away : (x : X) (xs : List X) → ((j : ℕ) (d : X) → j < length xs → f x ≡ f (get_or xs j d) → ⊥) → AllByRecursion (λ y. eqb (f x) y ≡ false) (map f xs)
  away x [] h = tt
  away x (y ∷ ys) h = (ne_eqb (f x) (f y) (h zero x (omega arith)), away x ys (λ j d within e. h (suc j) d (omega arith) e))

  pub apart : (xs : List X) → ((i j : ℕ) (d : X) → i < j → j < length xs → f (get_or xs i d) ≡ f (get_or xs j d) → ⊥) → IsDistinct eqb (map f xs)
  unfolding IsDistinct
  apart [] h = tt
  apart (x ∷ xs) h = (away x xs (λ j d within e. h zero (suc j) d (omega arith) (omega arith) e), apart xs (λ i j d less within e. h (suc i) (suc j) d (omega arith) (omega arith) e))

  all_below : (n : ℕ) (xs : List X) → All (λ x. f x < n) xs → (q : ℕ) → list_any (eqb q) (map f xs) ≡ true → q < n
  all_below n [] h q e = cc
  all_below n (x ∷ xs) h q e =
      elim (cases_eq q (f x)) [
        | inl same ↦ omega (arith, same, All-head (λ x. f x < n) x xs h)
        | inr other ↦ all_below n xs (All-tail (λ x. f x < n) x xs h) q (rw (ne_eqb q (f x) other) at e)
      ]

  pub few_numbers : (n : ℕ) (xs : List X) → ((i j : ℕ) (d : X) → i < j → j < length xs → f (get_or xs i d) ≡ f (get_or xs j d) → ⊥) → All (λ x. f x < n) xs → length xs ≤ n
  few_numbers n xs h below = omega (arith, length-le_from_distinct_below (map f xs) n (apart xs h) (all_below n xs below), length-map xs f)

-- of each of the states a lemma of each bound is the most
pub few_lemmas : (k : Kinds) (n : ℕ) (lemmas : List Lemma) → AreDistinct lemmas → All (λ lemma. IsState k lemma.state) lemmas → All (IsInRange n) lemmas → length lemmas ≤ n * most_states k
few_lemmas k n lemmas distinct states ranges = few_numbers (λ lemma. state_code k lemma.state * n + (lemma.bound - 1)) (n * most_states k) lemmas
    (λ i j d less within e.
    let sa : IsState k (get_or lemmas i d).state = states i d (omega arith) in
    let sb : IsState k (get_or lemmas j d).state = states j d within in
    let a : IsInRange n (get_or lemmas i d) = ranges i d (omega arith) in
    let b : IsInRange n (get_or lemmas j d) = ranges j d within in
    let parts : (state_code k (get_or lemmas i d).state ≡ state_code k (get_or lemmas j d).state) × ((get_or lemmas i d).bound - 1 ≡ (get_or lemmas j d).bound - 1) = same_from_place _ _ _ _ n (omega (arith, a.0, a.1)) (omega (arith, b.0, b.1)) e in
    distinct i j d less within (state_same k _ _ sa sb parts.0) (omega (arith, parts.1, a.0, b.0)))
    (λ i d within.
    let state : IsState k (get_or lemmas i d).state = states i d within in
    let a : IsInRange n (get_or lemmas i d) = ranges i d within in
    mul-add-lt (state_code k (get_or lemmas i d).state) n ((get_or lemmas i d).bound - 1) (most_states k) (state_below k (get_or lemmas i d).state state) (omega (arith, a.0, a.1)))
