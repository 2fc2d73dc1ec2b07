-- Wirings of a channel: each net's span, whole or cut at some of its node lines between the ends.
use Rattle.std.specs.Prelude.{ℕ, ◌≡◌, ◌≢◌, ◌<◌, ◌≤◌, ◌+◌, ◌⊎◌, ◌↔◌, List, Some, slice_get, All, AllPairs, Any, Contains}
use Rattle.cell_num.specs.declared.net.NetNo.{NetNo}
use Rattle.cell_num.specs.declared.net.Pins.{Pins}
use Rattle.row_place.specs.declared.placement.NodePlace.{NodePlace}
use Rattle.row_place.specs.declared.placement.Placement.{Placement}
use Rattle.row_place.specs.Trunks.{HasTrunk, IsAbove, lines_of}
use Rattle.channel_route.specs.declared.routing.Trunk.{Trunk}
use Rattle.channel_route.specs.declared.routing.Routing.{Routing}
use Rattle.channel_route.specs.Routing.{AreApart}

-- the line lies between the ends of the trunk, or at one of them
pub record HoldsLine (t : Trunk) (line : ℕ) : Type 0 where
  pub begins : t.left ≤ line
  pub ends : line ≤ t.right

-- a trunk of the net holds the line
pub record IsHeldAt (trunks : List Trunk) (net : NetNo) (line : ℕ) : Type 0 where
  pub trunk : Trunk
  pub there : Contains trunks trunk
  pub is : trunk.net ≡ net
  pub holds : HoldsLine trunk line

-- both ends are lines of places of the net, the left one first
pub record AreEnds (placement : Placement) (t : Trunk) : Type 0 where
  pub left : Contains (lines_of placement t.net) t.left
  pub right : Contains (lines_of placement t.net) t.right
  pub ascending : t.left ≤ t.right

-- the trunk of the lesser net comes first; of one net the one that begins first, and it ends where the other
-- begins or before, and before the other ends
abbrev pub AreInOrder : Trunk → Trunk → Type 0
AreInOrder a b = (a.net.0 < b.net.0) ⊎ ((a.net ≡ b.net) × (a.left < b.left) × (a.right ≤ b.left) × (a.right < b.right))

-- one trunk ends where the next one of its net begins, at a node place of that net
pub record AreJoined (placement : Placement) (a b : Trunk) : Type 0 where
  pub meets : a.right ≡ b.left
  pub node : NodePlace
  pub there : Contains placement.nodes node
  pub net : node.net ≡ a.net
  pub line : node.line ≡ a.right

-- Each net that needs a trunk has one or more, which begin and end at lines of its places; each but the first begins
-- where the one before ends, at a node line, and together they hold every line at which the net has a place. Trunks of
-- different nets on one track have no line in common; where a net stands above another at a line, its trunks that hold
-- the line have the higher tracks; every track has a trunk.
pub record IsWiring (placement : Placement) (pins : Pins) (routing : Routing) : Type 0 where
  pub nets : (net : NetNo) → HasTrunk placement pins net ↔ Any (λ t. t.net ≡ net) routing.trunks
  pub ends : All (AreEnds placement) routing.trunks
  pub order : AllPairs AreInOrder routing.trunks
  pub held : (net : NetNo) (line : ℕ) → HasTrunk placement pins net → Contains (lines_of placement net) line →
      IsHeldAt routing.trunks net line
  pub next : (at : ℕ) (a b : Trunk) → slice_get routing.trunks at ≡ Some a →
      slice_get routing.trunks (at + 1) ≡ Some b → a.net ≡ b.net → AreJoined placement a b
  pub apart : (a b : Trunk) → Contains routing.trunks a → Contains routing.trunks b → a.net ≢ b.net →
      a.track ≡ b.track → AreApart a b
  pub above : (a b : Trunk) → Contains routing.trunks a → Contains routing.trunks b → (line : ℕ) →
      IsAbove placement pins a.net b.net line → HoldsLine a line → HoldsLine b line → b.track < a.track
  pub tracks : All (λ t. t.track < routing.tracks) routing.trunks
  pub full : (track : ℕ) → track < routing.tracks → Any (λ t. t.track ≡ track) routing.trunks

-- trunks on so many tracks
abbrev pub wiring_of : ℕ → List Trunk → Routing
wiring_of tracks trunks = record { tracks = tracks; trunks = trunks }

-- on some number of tracks these trunks wire the channel
pub record AreWiring (placement : Placement) (pins : Pins) (trunks : List Trunk) : Type 0 where
  pub tracks : ℕ
  pub wiring : IsWiring placement pins (wiring_of tracks trunks)
