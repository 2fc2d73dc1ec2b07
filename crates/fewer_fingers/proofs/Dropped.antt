-- Leaving out a column costs at most one gap.
use Rattle.std.proofs.Common.{◌≡◌, ◌+◌, ◌≤◌, Bool, true, false, cond, List, [], ◌∷◌, length, ap, arith, inl, inr}
use Rattle.std.specs.List.{filter, zip}
use Rattle.std.proofs.lemmas.Bool.{cases_Bool}
use Rattle.cell_num.proofs.Permutations.{count_cons}
use Rattle.row_model.specs.declared.column.Column.{Column}
use Rattle.row_model.specs.Gaps.{gaps_of, is_gap}
use Rattle.trail_state.proofs.Members.{filter_off, filter_on}

pub gaps_more : (c d : Column) (ds : List Column) → gaps_of (c ∷ d ∷ ds) ≡ cond (is_gap (c, d)) 1 0 + gaps_of (d ∷ ds)
gaps_more c d ds = count_cons is_gap (c, d) (zip (d ∷ ds) ds)

at_most_one : (b : Bool) → cond b 1 0 ≤ 1
at_most_one true = omega arith
at_most_one false = omega arith

without_first : (c : Column) (cs : List Column) → gaps_of cs ≤ gaps_of (c ∷ cs)
without_first c [] = omega arith
without_first c (d ∷ ds) = omega (arith, gaps_more c d ds)

without_second : (c d : Column) (ds : List Column) → gaps_of (c ∷ ds) ≤ gaps_of (c ∷ d ∷ ds) + 1
without_second c d [] = omega arith
without_second c d (e ∷ es) =
    omega (
      arith,
      gaps_more c e es,
      gaps_more c d (e ∷ es),
      gaps_more d e es,
      at_most_one (is_gap (c, e)),
    )

-- those that pass a test, in the same order
module _ (t : Column → Bool) where
  gaps_after : (c : Column) (ds : List Column) → gaps_of (c ∷ filter t ds) + length (filter t ds)
      ≤ gaps_of (c ∷ ds) + length ds
  gaps_after c [] = omega arith
  gaps_after c (d ∷ ds) =
      elim (cases_Bool (t d)) [
        | inl on ↦ omega (
          arith,
          ap (λ es. gaps_of (c ∷ es)) (filter_on t d ds on),
          ap length (filter_on t d ds on),
          gaps_more c d (filter t ds),
          gaps_more c d ds,
          gaps_after d ds,
        )
        | inr off ↦ omega (
          arith,
          ap (λ es. gaps_of (c ∷ es)) (filter_off t d ds off),
          ap length (filter_off t d ds off),
          without_second c d ds,
          gaps_after c ds,
        )
      ]

  pub gaps_without : (cs : List Column) → gaps_of (filter t cs) + length (filter t cs) ≤ gaps_of cs + length cs
  gaps_without [] = omega arith
  gaps_without (c ∷ cs) =
      elim (cases_Bool (t c)) [
        | inl on ↦ omega (arith, ap gaps_of (filter_on t c cs on), ap length (filter_on t c cs on), gaps_after c cs)
        | inr off ↦ omega (
          arith,
          ap gaps_of (filter_off t c cs off),
          ap length (filter_off t c cs off),
          without_first c cs,
          gaps_without cs,
        )
      ]
