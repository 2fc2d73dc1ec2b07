use Rattle.std.proofs.Common.{◌≡◌, ◌++◌, map, take}
use Rattle.box_geom.specs.Banding.{in_band}
use Rattle.box_geom.proofs.bands.add_band.Given as goal

abbrev pub invariant-loop-range : goal.invariant-loop-range
invariant-loop-range l = l.out.items ≡ l.fn.out.items ++ map (in_band l.low l.high) (take l.range-index l.ranges)
