-- Searches that ended and proved no more than the best prove no more than a better one, or a greater number.
use Rattle.std.specs.Prelude.{ℕ, ◌≤◌, Option, Some, None}
use Rattle.std.proofs.Common.{arith, inl, inr}
use Rattle.cell_num.specs.declared.finger.Fingers.{Fingers}
use Rattle.pool_trails.specs.declared.opening.Opening.{Opening}
use Rattle.pool_trails.specs.declared.opening.Opening.TheVariants.{Crowded, Longer, Without}
use Rattle.pool_trails.specs.Opening.{other_row}
use Rattle.trail_either.specs.declared.in_vain.InVain.{InVain}
use Rattle.trail_either.specs.Ended.{EndsAtGate, EndsBelow, EndsLonger, IsNext}
use Rattle.trail_either.specs.Ends.{EndsBy, GateBy, LongerBy, NextBy}
use Rattle.trail_either.proofs.Best.{Least, Up}

module _ (f : Fingers) (budget : ℕ) where
  below_more : (most more : ℕ) (opening : Opening) → most ≤ more → EndsBelow f budget most opening
      → EndsBelow f budget more opening
  below_more most more opening up (inl crowded) = inl crowded
  below_more most more opening up (inr (c, proved, few, vain)) = inr (c, proved, omega (arith, few, up), vain)

  longer_more : (most more : ℕ) → most ≤ more → EndsLonger f budget most → EndsLonger f budget more
  longer_more most more up (inl none) = inl none
  longer_more most more up (inr h) = inr (below_more most more Longer up h)

  -- ---- with a better one

  pub ends_up : (best other : Option InVain) (opening : Opening) → Up best other → EndsBy f budget best opening
      → EndsBy f budget other opening
  ends_up None None opening up h = h
  ends_up None (Some other) opening up h = inl h
  ends_up (Some best) None opening up h = absurd up
  ends_up (Some best) (Some other) opening up h = below_more best.proved other.proved opening up h

  longer_up : (best other : Option InVain) → Up best other → LongerBy f budget best → LongerBy f budget other
  longer_up None None up h = h
  longer_up None (Some other) up (inl none) = inl none
  longer_up None (Some other) up (inr crowded) = inr (inl crowded)
  longer_up (Some best) None up h = absurd up
  longer_up (Some best) (Some other) up h = longer_more best.proved other.proved up h

  gate_up : (best other : Option InVain) → Up best other → GateBy f budget best → GateBy f budget other
  gate_up best other up (longer, gate) = (longer_up best other up longer, gate)

  pub next_up : (best other : Option InVain) (opening : Opening) → Up best other → NextBy f budget best opening
      → NextBy f budget other opening
  next_up best other Longer up h = h
  next_up best other Crowded up gate = gate_up best other up gate
  next_up best other (Without row) up (gate, crowded, inl first) =
      (gate_up best other up gate, ends_up best other Crowded up crowded, inl first)
  next_up best other (Without row) up (gate, crowded, inr before) = (
    gate_up best other up gate,
    ends_up best other Crowded up crowded,
    inr (ends_up best other (Without (other_row row)) up before),
  )

  -- ---- by numbers

  ends_below : (best : Option InVain) (most : ℕ) (opening : Opening) → Least best most
      → EndsBy f budget best opening → EndsBelow f budget most opening
  ends_below None most opening least h = inl h
  ends_below (Some best) most opening least h = below_more best.proved most opening least h

  pub longer_below : (best : Option InVain) (most : ℕ) → Least best most → LongerBy f budget best
      → EndsLonger f budget most
  longer_below None most least (inl none) = inl none
  longer_below None most least (inr crowded) = inr (inl crowded)
  longer_below (Some best) most least h = longer_more best.proved most least h

  pub gate_below : (best : Option InVain) (most : ℕ) → Least best most → GateBy f budget best
      → EndsAtGate f budget most
  gate_below best most least (longer, (gate, filled)) =
      record { longer = longer_below best most least longer; gate = gate; filled = filled }

  pub next_below : (best : Option InVain) (most : ℕ) (opening : Opening) → Least best most
      → NextBy f budget best opening → IsNext f budget most opening
  next_below best most Longer least h = h
  next_below best most Crowded least gate = gate_below best most least gate
  next_below best most (Without row) least (gate, crowded, inl first) =
      (gate_below best most least gate, ends_below best most Crowded least crowded, inl first)
  next_below best most (Without row) least (gate, crowded, inr before) = (
    gate_below best most least gate,
    ends_below best most Crowded least crowded,
    inr (ends_below best most (Without (other_row row)) least before),
  )
