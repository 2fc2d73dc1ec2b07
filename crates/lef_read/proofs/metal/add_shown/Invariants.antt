use Rattle.std.proofs.Common.{◌≡◌, ◌++◌, take}
use Rattle.lef_read.specs.Agreement.{on_layer}
use Rattle.lef_read.proofs.metal.add_shown.Given as goal

abbrev pub invariant-loop-rect : goal.invariant-loop-rect
invariant-loop-rect l = l.blocks.items ≡ l.fn.blocks.items ++ on_layer l.layer (take l.rect-index l.rects)
