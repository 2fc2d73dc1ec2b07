-- The lines of a placement, and trunks with tracks for its nets.
use Rattle.std.specs.Prelude.{ℕ, suc, ◌≡◌, ◌≢◌, ◌<◌, ◌↔◌, ◌==◌, true, false, cond, Option, option_map, option_to_list}
use Rattle.std.specs.Prelude.{List, [], ◌∷◌, ◌++◌, All, AllPairs, Any, Contains}
use Rattle.cell_num.specs.declared.net.NetNo.{NetNo}
use Rattle.cell_num.specs.declared.net.Pins.{Pins}
use Rattle.cell_num.specs.declared.finger.Row.{Row}
use Rattle.cell_num.specs.declared.finger.Row.TheVariants.{P, N}
use Rattle.row_place.specs.declared.placement.NodePlace.{NodePlace}
use Rattle.row_place.specs.declared.placement.GatePlace.{GatePlace}
use Rattle.row_place.specs.declared.placement.Placement.{Placement}
use Rattle.row_place.specs.Trunks.{HasTrunk, IsSpan, IsAbove}
use Rattle.channel_route.specs.declared.routing.Trunk.{Trunk}
use Rattle.channel_route.specs.declared.wire.Wire.{Wire}
use Rattle.channel_route.specs.Routing.{AreApart}
use Rattle.track_ways.specs.declared.line.Line.{Line}
use Rattle.track_ways.specs.Lines.{is_net}

abbrev pub side : Row → Line → Option NetNo
side P line = line.p
side N line = line.n

abbrev pub node_of : Row → ℕ → Option NetNo → List NodePlace
node_of row line net =
    option_to_list (option_map (λ n. let node : NodePlace = record { row = row; line = line; net = n } in node) net)

-- the node places of lines, the first of which has this number
abbrev pub nodes_from : ℕ → List Line → List NodePlace
nodes_from k [] = []
nodes_from k (line ∷ lines) = node_of N k line.n ++ (node_of P k line.p ++ nodes_from (suc k) lines)

abbrev pub gate_of : ℕ → Option NetNo → List GatePlace
gate_of line net =
    option_to_list (option_map (λ n. let gate : GatePlace = record { line = line; net = n } in gate) net)

abbrev pub gates_from : ℕ → List Line → List GatePlace
gates_from k [] = []
gates_from k (line ∷ lines) = gate_of k line.gate ++ gates_from (suc k) lines

-- no net has its gate at a line where it has an end
abbrev pub IsPlain : Line → Type 0
IsPlain line = (net : NetNo) → is_net line.gate net ≡ true → (is_net line.p net ≡ false) × (is_net line.n net ≡ false)

-- these are the lines of the placement, one after the other
pub record AreLinesOf (placement : Placement) (lines : List Line) : Type 0 where
  pub nodes : placement.nodes ≡ nodes_from 0 lines
  pub gates : placement.gates ≡ gates_from 0 lines
  pub plain : All IsPlain lines

-- the track of the net's trunk
abbrev pub track_in : List Trunk → NetNo → ℕ
track_in [] net = 0
track_in (t ∷ trunks) net = cond (t.net.0 == net.0) t.track (track_in trunks net)

-- a wire on the track of its net
abbrev pub trunk_on : (NetNo → ℕ) → Wire → Trunk
trunk_on track wire = record { net = wire.net; left = wire.left; right = wire.right; track = track wire.net }

-- each net that needs a trunk has one, over its span, on its track
pub record AreTrunks (placement : Placement) (pins : Pins) (track : NetNo → ℕ) (trunks : List Trunk) : Type 0 where
  pub nets : (net : NetNo) → HasTrunk placement pins net ↔ Any (λ t. t.net ≡ net) trunks
  pub order : AllPairs (λ a b. a.net.0 < b.net.0) trunks
  pub spans : All (λ t. IsSpan placement t.net t.left t.right) trunks
  pub tracks : All (λ t. t.track ≡ track t.net) trunks

-- The tracks are below a limit, trunks on one of them have no line in common, and a net that is above another has
-- the higher track; some tracks may be empty.
pub record AreLegalWithin (placement : Placement) (pins : Pins) (limit : ℕ) (trunks : List Trunk) : Type 0 where
  pub low : All (λ t. t.track < limit) trunks
  pub apart : (a b : Trunk) → Contains trunks a → Contains trunks b
      → a.net ≢ b.net → a.track ≡ b.track → AreApart a b
  pub above : (a b : Trunk) → Contains trunks a → Contains trunks b
      → (line : ℕ) → IsAbove placement pins a.net b.net line → b.track < a.track
