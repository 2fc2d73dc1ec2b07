use Rattle.std.proofs.Common.{◌≡◌, ◌++◌, drop, filter_map}
use Rattle.std.specs.List.{enumerate_from}
use Rattle.lef_write.specs.Ports.{obstruction_on, obstructions_on}
use Rattle.lef_write.proofs.ports.obstructions_on.Given as goal

abbrev pub invariant-shapes : goal.invariant-shapes
invariant-shapes l = l.found ++ filter_map (obstruction_on l.layer l.ports) (enumerate_from l.at (drop l.at l.rects)) ≡ obstructions_on l.layer l.ports l.rects
