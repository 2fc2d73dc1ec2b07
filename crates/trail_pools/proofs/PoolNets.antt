-- The nets that are listed have pools, and these are the pools that the laws ask.
use Rattle.std.proofs.Common.{ℕ, ◌≡◌, ◌==◌, ◌&&◌, Bool, true, List, refl, sym, subst, All, Contains}
use Rattle.std.specs.List.{list_any}
use Rattle.std.proofs.lemmas.Bool.{and_from, eq-eqb, or_left, or_right}
use Rattle.cell_num.specs.declared.finger.Finger.{Finger}
use Rattle.cell_num.specs.declared.finger.Fingers.{Fingers}
use Rattle.cell_num.specs.declared.finger.Row.{Row}
use Rattle.cell_num.specs.declared.finger.Row.TheVariants.{P, N}
use Rattle.cell_num.specs.Fingers.{AreFingers}
use Rattle.cell_num.proofs.Lists.{all_from_contains}
use Rattle.cell_num.proofs.Pairs.{test_there}
use Rattle.trail_state.specs.Nodes.{has_net}
use Rattle.open_gates.specs.declared.gates.OpenGates.{OpenGates}
use Rattle.open_gates.specs.Listed.{is_listed, nets_merged}
use Rattle.open_gates.specs.Open.{fingers_at, is_left_open, is_merged_net}
use Rattle.open_gates.proofs.Listing.{tests_same}
use Rattle.trail_halves.specs.Open.{ArePools, row_of}
use Rattle.trail_pools.specs.declared.pools.Pools.{Pools}
use Rattle.trail_pools.specs.Leveled.{has_pool}

pub test_is : (f : Fingers) (opened : OpenGates) (pools : Pools) → AreFingers f → pools.nets ≡ nets_merged f opened
    → has_pool pools ≡ is_merged_net f opened
test_is f opened pools ok is = tests_same f opened pools.nets ok is

-- the ends of a finger on a gate that is left open
module _ (opened : OpenGates) (fs : List Finger) where
  abbrev ends_there : ℕ → Bool
  ends_there net = list_any (λ (x : Finger). is_left_open opened x.gate.0 && has_net net x) fs

  ends_pooled : All (λ (x : Finger). is_left_open opened x.gate.0 ≡ true
      → (ends_there x.lo.0 ≡ true) × (ends_there x.hi.0 ≡ true)) fs
  ends_pooled =
      all_from_contains
      (λ (x : Finger). is_left_open opened x.gate.0 ≡ true → (ends_there x.lo.0 ≡ true) × (ends_there x.hi.0 ≡ true))
      fs
      (λ x k on. (
        there x k on x.lo.0 (or_left (x.lo.0 == x.lo.0) (x.hi.0 == x.lo.0) (eq-eqb x.lo.0 x.lo.0 refl)),
        there x k on x.hi.0 (or_right (x.lo.0 == x.hi.0) (x.hi.0 == x.hi.0) (eq-eqb x.hi.0 x.hi.0 refl)),
      ))
    where
      there : (x : Finger) → Contains fs x → is_left_open opened x.gate.0 ≡ true → (net : ℕ) → has_net net x ≡ true
          → ends_there net ≡ true
      there x k on net has =
          test_there (λ (y : Finger). is_left_open opened y.gate.0 && has_net net y) fs x k
          (and_from (is_left_open opened x.gate.0) (has_net net x) on has)

pub pools_are : (f : Fingers) (opened : OpenGates) → ArePools f opened.row (is_left_open opened) (is_merged_net f opened)
pools_are f opened = by opened.row
  where
    by : (r : Row) → All (λ (x : Finger). is_left_open opened x.gate.0 ≡ true
        → (ends_there opened (fingers_at r f) x.lo.0 ≡ true) × (ends_there opened (fingers_at r f) x.hi.0 ≡ true))
        (row_of r f)
    by P = ends_pooled opened f.p
    by N = ends_pooled opened f.n

pub are_pools : (f : Fingers) (opened : OpenGates) (nets : List ℕ) → AreFingers f → nets ≡ nets_merged f opened
    → ArePools f opened.row (is_left_open opened) (is_listed nets)
are_pools f opened nets ok is =
    subst (ArePools f opened.row (is_left_open opened)) (sym (tests_same f opened nets ok is)) (pools_are f opened)
