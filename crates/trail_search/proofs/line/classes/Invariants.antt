use Rattle.std.proofs.Common.{◌≡◌, map, take}
use Rattle.trail_search.specs.Line.{class_at}
use Rattle.trail_search.proofs.line.classes.Given as goal

abbrev pub invariant-loop-name : goal.invariant-loop-name
invariant-loop-name l = l.classes ≡ map (class_at l.places) (take l.name-index l.names)
