use Rattle.std.proofs.Common.{drop}
use Rattle.box_geom.specs.Standing.{IsUpTo}
use Rattle.box_geom.proofs.Stacks.{AreDone}
use Rattle.box_geom.proofs.bands.add_bands.Given as goal

abbrev pub invariant-loop-high : goal.invariant-loop-high
invariant-loop-high l =
    AreDone l.operation l.first l.second l.out.items l.low (drop l.high-index l.rest)
    × IsUpTo l.first l.a_rest l.a.items l.low
    × IsUpTo l.second l.b_rest l.b.items l.low
