use Rattle.std.proofs.Common.{take}
use Rattle.std.specs.List.{All}
use Rattle.lef_read.specs.Lookups.{HasLimits}
use Rattle.lef_read.proofs.metal.show_limits.Given as goal

abbrev pub invariant-loop-rect : goal.invariant-loop-rect
invariant-loop-rect l = All HasLimits (take l.rect-index l.rects)
