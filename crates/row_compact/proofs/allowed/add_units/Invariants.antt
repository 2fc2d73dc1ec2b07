use Rattle.std.proofs.Common.{◌≡◌, ◌++◌, drop}
use Rattle.row_compact.specs.Entries.{is_wide, units_from}
use Rattle.row_compact.proofs.allowed.add_units.Given as goal

abbrev pub invariant-loop-kind : goal.invariant-loop-kind
invariant-loop-kind l =
    (l.unit ≡ l.kind-index)
    × (l.list ++ units_from (is_wide l.pins l.trunks l.placement.nodes) l.unit (drop l.kind-index l.placement.units) ≡ l.fn.list ++ units_from (is_wide l.pins l.trunks l.placement.nodes) 0 l.placement.units)
