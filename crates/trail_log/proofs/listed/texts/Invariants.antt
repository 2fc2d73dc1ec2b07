use Rattle.std.proofs.Common.{◌≡◌, map, take}
use Rattle.trail_log.proofs.listed.texts.Given as goal

abbrev pub invariant-loop-item : goal.invariant-loop-item
invariant-loop-item g l = l.words ≡ map g.T.Listed.spelling (take l.item-index l.items)
