use Rattle.std.proofs.Common.{◌≡◌, ◌++◌, map, take}
use Rattle.well_tap.specs.Tapped.{raised}
use Rattle.well_tap.proofs.draw.add_raised.Given as goal

abbrev pub invariant-loop-shape : goal.invariant-loop-shape
invariant-loop-shape l = l.out ≡ l.fn.out ++ map (raised l.top) (take l.shape-index l.shapes)
