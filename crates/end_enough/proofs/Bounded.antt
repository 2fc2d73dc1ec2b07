-- All lemmas on listed states with bounds up to some number.
use Rattle.std.specs.Prelude.{ℕ, zero, suc, ◌≡◌, ◌*◌, ◌<◌, ◌≤◌, List, [], ◌∷◌, ◌++◌, Contains, length, sum_by}
use Rattle.std.specs.List.{flat_map}
use Rattle.std.proofs.Common.{sym, subst, arith, inl, inr}
use Rattle.std.proofs.Math.Nat.{mul_left_comm}
use Rattle.std.proofs.lemmas.Bool.{cases_eq}
use Rattle.std.proofs.lemmas.List.Elements.{Contains-append_left, Contains-append_right}
use Rattle.std.proofs.lemmas.List.Sums.{sum_by-append, sum_by-cons}
use Rattle.cell_num.specs.Fingers.{sum_below}
use Rattle.cell_num.proofs.In.{contains_flat}
use Rattle.cell_num.proofs.Lists.{contains_here, contains_there}
use Rattle.end_lemmas.specs.declared.lemma.EndLemma.{EndLemma}
use Rattle.end_search.specs.Search.{lemma_of}

module _ {S : Type 0} where
  -- on one state
  abbrev on_state : ℕ → S → ℕ → List (EndLemma S)
  on_state done s zero = []
  on_state done s (suc bound) = lemma_of done s (suc bound) ∷ on_state done s bound

  on_state_there : (done : ℕ) (s : S) (most bound : ℕ) → 0 < bound → bound ≤ most
      → Contains (on_state done s most) (lemma_of done s bound)
  on_state_there done s zero bound some few = absurd (omega (arith, some, few))
  on_state_there done s (suc most) bound some few =
      elim (cases_eq bound (suc most)) [
        | inl same ↦ subst (λ (b : ℕ). Contains (on_state done s (suc most)) (lemma_of done s b)) (sym same)
            (contains_here (lemma_of done s (suc most)) (on_state done s most))
        | inr other ↦ contains_there (lemma_of done s (suc most)) (on_state done s most) (lemma_of done s bound)
            (on_state_there done s most bound some (omega (arith, few, other)))
      ]

  module _ (states : ℕ → List S) (most : ℕ) where
    -- on all states after so many levels
    abbrev at_level : ℕ → List (EndLemma S)
    at_level done = flat_map (λ (s : S). on_state done s most) (states done)

    -- on those before the first levels
    abbrev pub on_states : ℕ → List (EndLemma S)
    on_states zero = []
    on_states (suc done) = on_states done ++ at_level done

    at_level_there : (done : ℕ) (s : S) (bound : ℕ) → Contains (states done) s → 0 < bound → bound ≤ most
        → Contains (at_level done) (lemma_of done s bound)
    at_level_there done s bound there some few =
        contains_flat (λ (t : S). on_state done t most) (states done) s (lemma_of done s bound) there
        (on_state_there done s most bound some few)

    pub on_states_there : (levels done : ℕ) (s : S) (bound : ℕ) → done < levels → Contains (states done) s → 0 < bound
        → bound ≤ most → Contains (on_states levels) (lemma_of done s bound)
    on_states_there zero done s bound within there some few = absurd (omega (arith, within))
    on_states_there (suc levels) done s bound within there some few =
        elim (cases_eq done levels) [
          | inl same ↦ Contains-append_right (on_states levels) (at_level levels) (lemma_of done s bound)
              (subst (λ (n : ℕ). Contains (at_level n) (lemma_of done s bound)) same
              (at_level_there done s bound there some few))
          | inr other ↦ Contains-append_left (on_states levels) (at_level levels) (lemma_of done s bound)
              (on_states_there levels done s bound (omega (arith, within, other)) there some few)
        ]

    -- what they weigh, where those on states after as many levels weigh the same
    module _ (weight : ℕ → ℕ) where
      abbrev pub weight_of : EndLemma S → ℕ
      weight_of l = weight l.done

      on_state_sum : (done : ℕ) (s : S) (bounds : ℕ) → sum_by weight_of (on_state done s bounds) ≡ bounds * weight done
      on_state_sum done s zero = omega arith
      on_state_sum done s (suc bounds) =
          omega (
            arith,
            on_state_sum done s bounds,
            sum_by-cons weight_of (lemma_of done s (suc bounds)) (on_state done s bounds),
          )

      listed_sum : (done : ℕ) (ss : List S)
          → sum_by weight_of (flat_map (λ (s : S). on_state done s most) ss) ≡ length ss * (most * weight done)
      listed_sum done [] = omega arith
      listed_sum done (s ∷ ss) =
          omega (
            arith,
            listed_sum done ss,
            on_state_sum done s most,
            sum_by-append weight_of (on_state done s most) (flat_map (λ (t : S). on_state done t most) ss),
          )

      pub on_states_sum : (levels : ℕ)
          → sum_by weight_of (on_states levels) ≡ most * sum_below (λ done. length (states done) * weight done) levels
      on_states_sum zero = omega arith
      on_states_sum (suc levels) =
          omega (
            arith,
            on_states_sum levels,
            listed_sum levels (states levels),
            mul_left_comm (length (states levels)) most (weight levels),
            sum_by-append weight_of (on_states levels) (at_level levels),
          )
