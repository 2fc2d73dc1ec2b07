-- Which positions of its lines a routed row allows.
use Rattle.std.specs.Prelude.{ℕ, ◌≡◌, ◌+◌, ◌*◌, ◌≤◌, ◌<◌, ◌↔◌, List, Some, length, map, slice_get}
use Rattle.std.specs.List.{Contains}
use Rattle.cell_num.specs.declared.net.Pins.{Pins}
use Rattle.row_place.specs.declared.placement.NodePlace.{NodePlace}
use Rattle.row_place.specs.declared.placement.Placement.{Placement}
use Rattle.row_place.specs.declared.placement.UnitKind.TheVariants.{Column}
use Rattle.row_place.specs.Places.{IsPlacement}
use Rattle.row_place.specs.Trunks.{IsContacted}
use Rattle.channel_route.specs.declared.routing.Routing.{Routing}
use Rattle.channel_route.specs.declared.routing.Trunk.{Trunk}
use Rattle.channel_route.specs.Routing.{IsLegal}
use Rattle.row_compact.specs.Measures.{SIDE_SPACE, LINE_SPACE, CONTACT_SPACE, STRETCH_SPACE}
use Rattle.row_compact.specs.declared.distance.Distances.{Distances}
use Rattle.row_compact.specs.Solution.{x_of, IsSolution}

-- a stretch of a track between two lines
pub record Stretch : Type 0 where
  pub left : ℕ
  pub right : ℕ
  pub track : ℕ

abbrev pub stretch_of : Trunk → Stretch
stretch_of t = record { left = t.left; right = t.right; track = t.track }

abbrev pub stretches_of : List Trunk → List Stretch
stretches_of trunks = map stretch_of trunks

-- in some row a contacted place is at the node line
pub record HasContact (placement : Placement) (pins : Pins) (line : ℕ) : Type 0 where
  pub node : NodePlace
  pub there : Contains placement.nodes node
  pub at : node.line ≡ line
  pub contacted : IsContacted placement pins node

-- One position for each line. The first is 8 or more, the others keep 8 from the line before; a node
-- line with a contacted place keeps 11 from the gate line of a column beside it; and two stretches of one
-- track keep 14 between them.
pub record AreAllowed (placement : Placement) (pins : Pins) (stretches : List Stretch) (xs : List ℕ) : Type 0 where
  pub lines : length xs ≡ 2 * length placement.units + 1
  pub first : SIDE_SPACE ≤ x_of xs 0
  pub next : (line : ℕ) → line < 2 * length placement.units → x_of xs line + LINE_SPACE ≤ x_of xs (line + 1)
  pub left : (unit : ℕ) → slice_get placement.units unit ≡ Some Column → HasContact placement pins (2 * unit) →
      x_of xs (2 * unit) + CONTACT_SPACE ≤ x_of xs (2 * unit + 1)
  pub right : (unit : ℕ) → slice_get placement.units unit ≡ Some Column → HasContact placement pins (2 * unit + 2) →
      x_of xs (2 * unit + 1) + CONTACT_SPACE ≤ x_of xs (2 * unit + 2)
  pub apart : (a b : Stretch) → Contains stretches a → Contains stretches b → a.track ≡ b.track → a.right < b.left →
      x_of xs a.right + STRETCH_SPACE ≤ x_of xs b.left

-- the solutions of the distances are exactly the positions that the row allows
abbrev pub AreDistances : Placement → Pins → List Stretch → Distances → Type 0
AreDistances placement pins stretches d = (xs : List ℕ) → IsSolution d xs ↔ AreAllowed placement pins stretches xs

-- positions that every legal routing with this number of lines allows
abbrev pub AreAlwaysAllowed : ℕ → List ℕ → Type 0
AreAlwaysAllowed lines xs =
    (p : Placement) (pins : Pins) (r : Routing) → IsPlacement p → IsLegal p pins r → lines ≡ 2 * length p.units + 1 →
    AreAllowed p pins (stretches_of r.trunks) xs
