use Rattle.std.proofs.Common.{◌≡◌, fold, take}
use Rattle.trail_check.specs.Closing.{turned}
use Rattle.trail_check.proofs.closing.is_odd_after.Given as goal

abbrev pub invariant-loop-edge : goal.invariant-loop-edge
invariant-loop-edge l = l.odd ≡ fold (turned l.closing.node.0) l.closing.odd (take l.edge-index l.edges)
