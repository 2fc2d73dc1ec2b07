-- The better of two that were proved in vain, and at most how much one proves.
use Rattle.std.specs.Prelude.{ℕ, ◌≡◌, ◌≤◌, Bool, true, false, ltb, Option, Some, None}
use Rattle.std.specs.Prelude.{if◌then◌else◌}
use Rattle.std.proofs.Common.{refl, arith}
use Rattle.std.proofs.lemmas.Bool.{ltb-false, ltb-true}
use Rattle.trail_either.specs.declared.in_vain.InVain.{InVain}
use Rattle.trail_either.specs.Ends.{better}

-- the best proves no more gaps than these
abbrev pub Least : Option InVain → ℕ → Type 0
Least None most = Unit {0}
Least (Some best) most = best.proved ≤ most

abbrev pub greatest : Option InVain → ℕ
greatest None = 0
greatest (Some best) = best.proved

pub least_greatest : (best : Option InVain) → Least best (greatest best)
least_greatest None = tt
least_greatest (Some best) = omega arith

-- the other one proves at least as much
abbrev pub Up : Option InVain → Option InVain → Type 0
Up None other = Unit {0}
Up (Some best) None = ⊥
Up (Some best) (Some other) = best.proved ≤ other.proved

no_less : (best : Option InVain) → Up best best
no_less None = tt
no_less (Some best) = omega arith

abbrev pub chosen : Bool → InVain → InVain → Option InVain
chosen b one other = if b then Some other else Some one

up_chosen : (one other : InVain) (b : Bool) → ltb one.proved other.proved ≡ b
    → Up (Some one) (chosen b one other) × Up (Some other) (chosen b one other)
up_chosen one other true e = (omega (arith, ltb-true one.proved other.proved e), omega arith)
up_chosen one other false e = (omega arith, omega (arith, ltb-false one.proved other.proved e))

pub up_better : (a b : Option InVain) → Up a (better a b) × Up b (better a b)
up_better None b = (tt, no_less b)
up_better (Some a) None = (omega arith, tt)
up_better (Some a) (Some b) = up_chosen a b (ltb a.proved b.proved) refl
