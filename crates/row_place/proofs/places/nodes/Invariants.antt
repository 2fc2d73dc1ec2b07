use Rattle.std.proofs.Common.{◌≡◌}
use Rattle.row_place.specs.Steps.{nodes_below}
use Rattle.row_place.proofs.places.nodes.Given as goal

abbrev pub invariant-loop-unit : goal.invariant-loop-unit
invariant-loop-unit l = l.nodes ≡ nodes_below l.seats l.unit
