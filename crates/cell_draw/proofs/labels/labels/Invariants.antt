use Rattle.std.proofs.Common.{◌≡◌, ◌++◌, drop, map}
use Rattle.cell_draw.specs.Drawings.{label_of}
use Rattle.cell_draw.proofs.labels.labels.Given as goal

abbrev pub invariant-loop-tag : goal.invariant-loop-tag
invariant-loop-tag l = l.labels ++ map (label_of l.names) (drop l.tag-index l.tags) ≡ map (label_of l.names) l.tags
