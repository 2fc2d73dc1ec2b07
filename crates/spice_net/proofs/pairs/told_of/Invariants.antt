use Rattle.std.proofs.Common.{◌≡◌, take}
use Rattle.spice_net.specs.Pairs.{told_of}
use Rattle.spice_net.proofs.pairs.told_of.Given as goal

abbrev pub invariant-loop-line : goal.invariant-loop-line
invariant-loop-line l = l.found ≡ told_of (take l.line-index l.lines) l.pin
