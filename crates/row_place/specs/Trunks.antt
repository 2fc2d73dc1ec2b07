-- Which nets need a trunk in the channel, from which line to which, and which places are contacted.
use Rattle.std.specs.Prelude.{ℕ, ◌≢◌, ◌<◌, ◌≤◌, ◌==◌, ◌++◌, ◌⊎◌, List, map, filter, length, All, Contains}
use Rattle.cell_num.specs.declared.net.NetNo.{NetNo}
use Rattle.cell_num.specs.declared.net.Pins.{Pins}
use Rattle.cell_num.specs.declared.finger.Row.TheVariants.{P, N}
use Rattle.cell_num.specs.Pins.{IsRail}
use Rattle.row_place.specs.declared.placement.NodePlace.{NodePlace}
use Rattle.row_place.specs.declared.placement.Placement.{Placement}

-- the lines of the places of a net, one for each place
abbrev pub lines_of : Placement → NetNo → List ℕ
lines_of placement net =
    map (λ node. node.line) (filter (λ node. node.net.0 == net.0) placement.nodes)
    ++ map (λ gate. gate.line) (filter (λ gate. gate.net.0 == net.0) placement.gates)

-- each pin other than the rails has a place
abbrev pub HasPins : Placement → Pins → Type 0
HasPins placement pins = (net : NetNo) → net.0 < pins.pins → (IsRail pins net → ⊥) → 0 < length (lines_of placement net)

-- a net other than the rails that has two places or more, or is a pin
abbrev pub HasTrunk : Placement → Pins → NetNo → Type 0
HasTrunk placement pins net = (IsRail pins net → ⊥) × ((2 ≤ length (lines_of placement net)) ⊎ (net.0 < pins.pins))

-- the first and the last line of the places of a net
pub record IsSpan (placement : Placement) (net : NetNo) (first last : ℕ) : Type 0 where
  pub begins : Contains (lines_of placement net) first
  pub ends : Contains (lines_of placement net) last
  pub none_before : All (λ line. first ≤ line) (lines_of placement net)
  pub none_behind : All (λ line. line ≤ last) (lines_of placement net)

-- a node place is contacted where its net is a rail or has a trunk
abbrev pub IsContacted : Placement → Pins → NodePlace → Type 0
IsContacted placement pins node = IsRail pins node.net ⊎ HasTrunk placement pins node.net

-- at a node line one net stands in the P row over another in the N row, and both have trunks
pub record IsAbove (placement : Placement) (pins : Pins) (upper lower : NetNo) (line : ℕ) : Type 0 where
  pub p : Contains placement.nodes (record { row = P; line = line; net = upper })
  pub n : Contains placement.nodes (record { row = N; line = line; net = lower })
  pub differ : upper ≢ lower
  pub upper_trunk : HasTrunk placement pins upper
  pub lower_trunk : HasTrunk placement pins lower
