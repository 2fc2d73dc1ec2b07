use Rattle.std.proofs.Common.{◌≡◌, ◌++◌, drop, filter_map}
use Rattle.std.specs.List.{enumerate_from}
use Rattle.lef_write.specs.Ports.{place_on, places_on}
use Rattle.lef_write.proofs.ports.places_on.Given as goal

abbrev pub invariant-shapes : goal.invariant-shapes
invariant-shapes l = l.places ++ filter_map (place_on l.layer) (enumerate_from l.at (drop l.at l.rects)) ≡ places_on l.layer l.rects
