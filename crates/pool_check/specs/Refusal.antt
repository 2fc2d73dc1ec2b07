-- Why lemmas on ends are refused, each cause with what was found in order before it.
use Rattle.std.specs.Prelude.{◌≡◌, List, Some}
use Rattle.cell_num.specs.declared.finger.Fingers.{Fingers}
use Rattle.cell_num.specs.declared.net.NetNo.{NetNo}
use Rattle.trail_state.specs.Levels.{IsOrder}
use Rattle.open_gates.specs.declared.gates.OpenGates.{OpenGates}
use Rattle.trail_pools.specs.declared.state.PoolState.{PoolState}
use Rattle.trail_pools.specs.Leveled.{levels_of}
use Rattle.end_lemmas.specs.declared.lemma.EndLemma.{EndLemma}
use Rattle.end_lemmas.specs.Justified.{IsUnproved}
use Rattle.pool_check.specs.declared.refusal.PoolRefusal.{PoolRefusal}
use Rattle.pool_check.specs.declared.refusal.PoolRefusal.TheVariants as refusal
use Rattle.pool_check.specs.Accepted.{HasFewWays, first_with_many}
use Rattle.pool_check.specs.Stepping.{steps_of}

-- the order is not as asked; or it is, and a gate has too many ways; or none has, and a lemma is not justified
abbrev pub Refuses : Fingers → OpenGates → List NetNo → List (EndLemma PoolState) → PoolRefusal → Type 0
Refuses f opened order lemmas refusal.Order = IsOrder f order → ⊥
Refuses f opened order lemmas (refusal.Choices gate) = IsOrder f order × (first_with_many f opened order ≡ Some gate)
Refuses f opened order lemmas (refusal.Unproved at) =
    IsOrder f order × HasFewWays f opened order
    × IsUnproved (steps_of f opened) (levels_of f opened order) lemmas at
Refuses f opened order lemmas refusal.NoMemory = Unit {0}

-- A fault of what is checked. The other two causes are limits of a checker: one with more memory and time may accept
-- it.
abbrev pub IsFault : PoolRefusal → Type 0
IsFault (refusal.Choices gate) = ⊥
IsFault refusal.NoMemory = ⊥
IsFault _ = Unit {0}
