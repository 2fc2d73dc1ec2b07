-- How many tries there are to put wires on tracks. A try is a wire that is put on a track.
use Rattle.std.specs.Prelude.{ℕ, ◌≡◌, ◌<◌, ◌+◌, ◌++◌, cond, List, [], ◌∷◌, map, IsPermutation, IsSorted}
use Rattle.cell_num.specs.declared.net.Pins.{Pins}
use Rattle.cell_num.specs.Fingers.{sum_below}
use Rattle.row_place.specs.declared.placement.Placement.{Placement}
use Rattle.channel_route.specs.declared.routing.Trunk.{Trunk}
use Rattle.channel_route.specs.declared.wire.Wire.{Wire}
use Rattle.channel_route.specs.declared.wire.PlacedWire.{PlacedWire}
use Rattle.channel_route.specs.declared.constraint.Constraint.{Constraint}
use Rattle.channel_route.specs.Graph.{trunk_of}
use Rattle.channel_route.specs.Wires.{AreWires, constraints_of, trunk_cmp}
use Rattle.first_route.specs.Ways.{fits, is_open, low_wire, net_wire, on_track}

-- Each track on which the first wire that is left fits is a try, and those of the others after it count too, where
-- each of them still fits on a track and they can fill the empty ones.
abbrev pub tries : List Constraint → ℕ → List PlacedWire → List Wire → ℕ
tries constraints tracks placed [] = 0
tries constraints tracks placed (w ∷ left) =
    cond (is_open constraints tracks placed (w ∷ left))
    (sum_below (λ track. cond (fits constraints placed (on_track w track))
    (1 + tries constraints tracks (placed ++ on_track w track ∷ []) left) 0) tracks) 0

-- all tries to put the trunks of a placement, in order of net, on that many tracks
pub record AreAllTries (placement : Placement) (pins : Pins) (count all : ℕ) : Type 0 where
  pub wires : List Wire
  pub wired : AreWires placement pins wires
  pub trunks : List Trunk
  pub moved : IsPermutation (map trunk_of (map low_wire wires)) trunks
  pub sorted : IsSorted trunk_cmp trunks
  pub are : all ≡ tries (constraints_of wires placement.nodes) count [] (map net_wire trunks)

-- all tries were made, of those that the budget had before
abbrev pub WereMade : Placement → Pins → ℕ → ℕ → ℕ → Type 0
WereMade placement pins count before now =
    (all : ℕ) × AreAllTries placement pins count all × (before ≡ now + all)

-- there are more tries than the budget has
abbrev pub AreMore : Placement → Pins → ℕ → ℕ → Type 0
AreMore placement pins count budget = (all : ℕ) × AreAllTries placement pins count all × (budget < all)
