-- The least solution of the distances of a routed row stands at the least places that it allows.
use Rattle.std.proofs.Common.{ℕ, ◌≡◌, ◌+◌, ◌*◌, List, length, arith}
use Rattle.cell_num.specs.declared.net.Pins.{Pins}
use Rattle.row_place.specs.declared.placement.Placement.{Placement}
use Rattle.channel_route.specs.declared.routing.Routing.{Routing}
use Rattle.row_compact.specs.declared.distance.Distances.{Distances}
use Rattle.row_compact.specs.Allowed.{AreDistances, stretches_of}
use Rattle.row_compact.specs.Solution.{IsLeast}
use Rattle.cell_make.specs.Making.{AreLeastLines}

pub least_are : (p : Placement) (pins : Pins) (r : Routing) (d : Distances) (xs : List ℕ) → AreDistances p pins (stretches_of r.trunks) d → d.lines ≡ 2 * length p.units + 1 → IsLeast d xs → AreLeastLines p pins r xs
least_are p pins r d xs are lines is = record {
  allowed = (are xs).0 is.solution;
  least = λ other allowed line within. is.least other ((are other).1 allowed) line (omega (arith, lines, within));
}
