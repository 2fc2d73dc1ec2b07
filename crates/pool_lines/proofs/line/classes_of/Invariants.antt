use Rattle.std.proofs.Common.{◌≡◌, map, take}
use Rattle.pool_lines.specs.Lines.{class_at}
use Rattle.pool_lines.proofs.line.classes_of.Given as goal

abbrev pub invariant-loop-name : goal.invariant-loop-name
invariant-loop-name l = l.all ≡ map (class_at l.pools l.places) (take l.name-index l.name-items)
