-- The pools of gates that are left open, and the levels of an order: these alone are its levels.
use Rattle.std.specs.Prelude.{ℕ, ◌*◌, ◌≤◌, Bool, List, [], ◌∷◌, All, length}
use Rattle.cell_num.specs.declared.net.NetNo.{NetNo}
use Rattle.cell_num.specs.declared.finger.Fingers.{Fingers}
use Rattle.open_gates.specs.declared.gates.OpenGates.{OpenGates}
use Rattle.open_gates.specs.Listed.{is_listed, nets_merged}
use Rattle.open_gates.specs.Open.{is_left_open, is_merged_net}
use Rattle.trail_halves.specs.declared.choice.OpenChoice.{OpenChoice}
use Rattle.trail_pools.specs.declared.level.OpenPlaces.{OpenPlaces}
use Rattle.trail_pools.specs.declared.level.PoolLevel.{PoolLevel}
use Rattle.trail_pools.specs.declared.pools.Pools.{Pools}
use Rattle.trail_pools.specs.Choices.{open_choices_of}
use Rattle.trail_pools.specs.Meeting.{open_from}

abbrev pub has_pool : Pools → ℕ → Bool
has_pool pools net = is_listed pools.nets net

-- A net at an end of a finger of the row, on a gate that is left open, has a pool.
abbrev pub pools_of : Fingers → OpenGates → Pools
pools_of f opened = record { nodes = 256 * f.nets; row = opened.row; nets = nets_merged f opened }

-- all that some of the gates can meet
abbrev pub open_places : Fingers → OpenGates → List NetNo → OpenPlaces
open_places f opened gates = open_from f opened.row (is_left_open opened) (is_merged_net f opened) gates

abbrev pub level_of : Fingers → OpenGates → NetNo → List NetNo → PoolLevel
level_of f opened gate later = record {
  now = open_places f opened (gate ∷ later);
  next = open_places f opened later;
  choices = open_choices_of f opened.row (is_left_open opened) gate.0;
}

unfoldable pub levels_of : Fingers → OpenGates → List NetNo → List PoolLevel
levels_of f opened [] = []
levels_of f opened (gate ∷ later) = level_of f opened gate later ∷ levels_of f opened later

-- few places, and few half edges of each choice
pub record HasFew (level : PoolLevel) : Type 0 where
  pub places : length level.now.places ≤ 131072
  pub halves : All (λ (c : OpenChoice). length c.halves ≤ 32) level.choices
