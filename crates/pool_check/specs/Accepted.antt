-- Which lemmas on ends are accepted, where half columns of some gates stay open.
use Rattle.std.specs.Prelude.{ℕ, ◌≡◌, List, Option, None, All, find, Bool}
use Rattle.cell_num.specs.declared.finger.Fingers.{Fingers}
use Rattle.cell_num.specs.declared.net.NetNo.{NetNo}
use Rattle.trail_state.specs.Levels.{IsOrder}
use Rattle.open_gates.specs.declared.gates.OpenGates.{OpenGates}
use Rattle.open_gates.specs.Open.{is_left_open}
use Rattle.trail_pools.specs.declared.state.PoolState.{PoolState}
use Rattle.trail_pools.specs.Choices.{has_long_front}
use Rattle.trail_pools.specs.Leveled.{levels_of}
use Rattle.trail_pools.specs.State.{start}
use Rattle.end_lemmas.specs.declared.lemma.EndLemma.{EndLemma}
use Rattle.end_lemmas.specs.Justified.{AreEndsProved, AreJustified, IsTrueOf}
use Rattle.pool_check.specs.Stepping.{steps_of}

-- The order has each gate of a finger once. The lemmas, each justified by those before it, prove so many ends of the
-- state before the first gate. How many ways a gate has is not asked.
pub record IsAccepted (f : Fingers) (opened : OpenGates) (order : List NetNo) (lemmas : List (EndLemma PoolState))
    (ends : ℕ) : Type 0 where
  pub gates : IsOrder f order
  pub justified : AreJustified (steps_of f opened) (levels_of f opened order) lemmas
  pub proved : AreEndsProved start lemmas ends

-- accepted with no number of ends
abbrev pub IsNeverAccepted : Fingers → OpenGates → List NetNo → List (EndLemma PoolState) → Type 0
IsNeverAccepted f opened order lemmas = (ends : ℕ) → IsAccepted f opened order lemmas ends → ⊥

-- each of the lemmas is true
abbrev pub AreTrueOf : Fingers → OpenGates → List NetNo → List (EndLemma PoolState) → Type 0
AreTrueOf f opened order lemmas = All (IsTrueOf (steps_of f opened) (levels_of f opened order)) lemmas

-- after some finger of the gate there are more different ways to pair its fingers so far than a checker lists
abbrev pub has_many_ways : Fingers → OpenGates → NetNo → Bool
has_many_ways f opened gate = has_long_front 65536 f opened.row (is_left_open opened) gate.0

abbrev pub first_with_many : Fingers → OpenGates → List NetNo → Option NetNo
first_with_many f opened order = find (has_many_ways f opened) order

-- No gate has too many ways for a checker to list. What lemmas prove does not depend on this.
abbrev pub HasFewWays : Fingers → OpenGates → List NetNo → Type 0
HasFewWays f opened order = first_with_many f opened order ≡ None
