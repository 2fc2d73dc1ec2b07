-- The wires of a placement and the constraints between them.
use Rattle.std.specs.Prelude.{ℕ, ◌≡◌, ◌&&◌, ◌==◌, leb, not, cond, Bool, true}
use Rattle.std.specs.Prelude.{false, List, [], ◌∷◌, All, AllPairs, flat_map}
use Rattle.std.specs.declared.cmp.Ordering.{Ordering}
use Rattle.std.specs.Ordering.{nat_cmp, ordering_then}
use Rattle.cell_num.specs.declared.net.NetNo.{NetNo}
use Rattle.cell_num.specs.declared.net.Pins.{Pins}
use Rattle.cell_num.specs.declared.finger.Row.{Row}
use Rattle.cell_num.specs.declared.finger.Row.TheVariants.{P, N}
use Rattle.row_place.specs.declared.placement.NodePlace.{NodePlace}
use Rattle.row_place.specs.declared.placement.Placement.{Placement}
use Rattle.row_place.specs.Trunks.{HasTrunk, IsSpan}
use Rattle.channel_route.specs.declared.routing.Trunk.{Trunk}
use Rattle.channel_route.specs.declared.wire.Wire.{Wire}
use Rattle.channel_route.specs.declared.constraint.Constraint.{Constraint}
use Rattle.channel_route.specs.Graph.{IsBefore, AreDistinct, has_key}

-- a net with a trunk, and its first and its last line; the key is the number of the net
pub record IsWire (placement : Placement) (pins : Pins) (w : Wire) : Type 0 where
  pub trunk : HasTrunk placement pins w.net
  pub span : IsSpan placement w.net w.left w.right
  pub key : w.key ≡ w.net.0

-- wires so far, one a net
pub record AreFound (placement : Placement) (pins : Pins) (wires : List Wire) : Type 0 where
  pub each : All (IsWire placement pins) wires
  pub distinct : AreDistinct wires

-- a wire for each net with a trunk, in order
pub record AreWires (placement : Placement) (pins : Pins) (wires : List Wire) : Type 0 where
  pub found : AreFound placement pins wires
  pub all : (net : NetNo) → HasTrunk placement pins net → has_key wires net.0 ≡ true
  pub order : AllPairs IsBefore wires

-- the order of wires as a comparison
abbrev pub wire_cmp : Wire → Wire → Ordering
wire_cmp a b =
    ordering_then (nat_cmp a.left b.left) (ordering_then (nat_cmp a.key b.key)
    (ordering_then (nat_cmp a.right b.right) (nat_cmp a.net.0 b.net.0)))

-- the wire is of the net of the place, and holds its line
abbrev pub holds_place : NodePlace → Wire → Bool
holds_place node w = (w.net.0 == node.net.0) && leb w.left node.line && leb node.line w.right

abbrev pub stands_over : Row → Row → Bool
stands_over P N = true
stands_over _ _ = false

-- a place over one of another net
abbrev pub is_over : NodePlace → NodePlace → Bool
is_over p n = stands_over p.row n.row && (p.line == n.line) && not (p.net.0 == n.net.0)

abbrev pub between : ℕ → Wire → Wire → Constraint
between line upper lower = record { upper = upper.key; lower = lower.key; line = line }

-- a wire over each that holds the place
abbrev pub under : List Wire → NodePlace → Wire → List Constraint
under wires n upper = flat_map (λ lower. cond (holds_place n lower) (between n.line upper lower ∷ []) []) wires

-- each wire that holds one place over each that holds the other
abbrev pub pairs_over : List Wire → NodePlace → NodePlace → List Constraint
pairs_over wires p n = flat_map (λ upper. cond (holds_place p upper) (under wires n upper) []) wires

abbrev pub over : List Wire → NodePlace → NodePlace → List Constraint
over wires p n = cond (is_over p n) (pairs_over wires p n) []

abbrev pub constraints_of : List Wire → List NodePlace → List Constraint
constraints_of wires nodes = flat_map (λ p. flat_map (over wires p) nodes) nodes

-- the order of trunks as a comparison
abbrev pub trunk_cmp : Trunk → Trunk → Ordering
trunk_cmp a b =
    ordering_then (nat_cmp a.net.0 b.net.0) (ordering_then (nat_cmp a.left b.left)
    (ordering_then (nat_cmp a.right b.right) (nat_cmp a.track b.track)))
