-- The list of distances of a routed row.
use Rattle.std.specs.Prelude.{ℕ, ◌+◌, ◌*◌, ◌==◌, ◌&&◌, ◌||◌, ltb, max, get_or, Bool, true}
use Rattle.std.specs.Prelude.{false, cond, List, [], ◌∷◌, ◌++◌, Option, Some, None, filter_map}
use Rattle.std.specs.List.{flat_map, list_any}
use Rattle.cell_num.specs.declared.net.NetNo.{NetNo}
use Rattle.cell_num.specs.declared.net.Pins.{Pins}
use Rattle.cell_num.specs.Pins.{is_rail}
use Rattle.row_place.specs.declared.placement.NodePlace.{NodePlace}
use Rattle.row_place.specs.declared.placement.Placement.{Placement}
use Rattle.row_place.specs.declared.placement.UnitKind.{UnitKind}
use Rattle.row_place.specs.declared.placement.UnitKind.TheVariants.{Column, Gap}
use Rattle.channel_route.specs.declared.routing.Trunk.{Trunk}
use Rattle.row_compact.specs.Measures.{LINE_SPACE, CONTACT_SPACE, STRETCH_SPACE}
use Rattle.row_compact.specs.declared.distance.Distance.{Distance}

abbrev pub entry : ℕ → ℕ → ℕ → Distance
entry from to least = record { from = from; to = to; least = least }

abbrev pub has_trunk : List Trunk → NetNo → Bool
has_trunk trunks net = list_any (λ t. t.net.0 == net.0) trunks

abbrev pub is_contacted : Pins → List Trunk → NetNo → Bool
is_contacted pins trunks net = is_rail pins net || has_trunk trunks net

-- in some row a contacted place is at the line
abbrev pub is_wide : Pins → List Trunk → List NodePlace → ℕ → Bool
is_wide pins trunks nodes line = list_any (λ node. (node.line == line) && is_contacted pins trunks node.net) nodes

-- between a node line, wide or not, and the other line of a unit
abbrev pub least_in : UnitKind → Bool → ℕ
least_in Gap wide = LINE_SPACE
least_in Column true = CONTACT_SPACE
least_in Column false = LINE_SPACE

-- from the left node line of a unit to its gate line, and on to the right one
abbrev pub two_entries : ℕ → ℕ → ℕ → List Distance
two_entries unit before behind =
    entry (2 * unit) (2 * unit + 1) before ∷ entry (2 * unit + 1) (2 * unit + 2) behind ∷ []

-- the distances inside a unit
abbrev pub unit_entries : (ℕ → Bool) → ℕ → UnitKind → List Distance
unit_entries wide unit kind = two_entries unit (least_in kind (wide (2 * unit))) (least_in kind (wide (2 * unit + 2)))

abbrev pub units_from : (ℕ → Bool) → ℕ → List UnitKind → List Distance
units_from wide unit [] = []
units_from wide unit (kind ∷ kinds) = unit_entries wide unit kind ++ units_from wide (unit + 1) kinds

-- the distance of two trunks of one track, the first to the left of the second
abbrev pub pair_entry : Trunk → Trunk → Option Distance
pair_entry a b = cond ((a.track == b.track) && ltb a.right b.left) (Some (entry a.right b.left STRETCH_SPACE)) None

abbrev pub pairs_of : List Trunk → List Distance
pairs_of trunks = flat_map (λ a. filter_map (pair_entry a) trunks) trunks

abbrev pub entries_of : Placement → Pins → List Trunk → List Distance
entries_of placement pins trunks = units_from (is_wide pins trunks placement.nodes) 0 placement.units ++ pairs_of trunks

-- the greatest of a start and what these entries ask of a line, from the positions of the lines before it
abbrev pub further : List ℕ → ℕ → ℕ → Distance → ℕ
further xs line best d = cond (d.to == line) (max best (get_or xs d.from 0 + d.least)) best

abbrev pub reach_from : List ℕ → ℕ → ℕ → List Distance → ℕ
reach_from xs line best [] = best
reach_from xs line best (d ∷ ds) = reach_from xs line (further xs line best d) ds
