-- Where the later of the two searches that leave fingers out ended, both did.
use Rattle.std.specs.Prelude.{ℕ, ◌≡◌, Option}
use Rattle.std.proofs.Common.{sym, ap, inl, inr, ◌∙◌}
use Rattle.cell_num.specs.declared.finger.Fingers.{Fingers}
use Rattle.cell_num.specs.declared.finger.Row.{Row}
use Rattle.cell_num.specs.declared.finger.Row.TheVariants.{P, N}
use Rattle.pool_trails.specs.declared.opening.Opening.TheVariants.{Without}
use Rattle.pool_trails.specs.Opening.{first_out, other_row}
use Rattle.trail_either.specs.declared.in_vain.InVain.{InVain}
use Rattle.trail_either.specs.Ends.{EndsBy, NextBy}

-- one row is not the other
rows_apart : (row : Row) → row ≡ other_row row → ⊥
rows_apart P same = cc
rows_apart N same = cc

module _ (f : Fingers) (budget : ℕ) (best : Option InVain) where
  abbrev pub Out : Row → Type 0
  Out row = EndsBy f budget best (Without row)

  of_rows : (row : Row) → Out row → Out (other_row row) → Out P × Out N
  of_rows P one other = (one, other)
  of_rows N one other = (other, one)

  pub both_ended : (row : Row) → row ≡ other_row (first_out f) → NextBy f budget best (Without row) → Out row
      → Out P × Out N
  both_ended row last (gate, crowded, inl first) ended = absurd (rows_apart row (last ∙ ap other_row (sym first)))
  both_ended row last (gate, crowded, inr before) ended = of_rows row ended before
