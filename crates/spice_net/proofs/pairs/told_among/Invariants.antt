use Rattle.std.proofs.Common.{◌≡◌, take}
use Rattle.spice_net.specs.Pairs.{told_among}
use Rattle.spice_net.proofs.pairs.told_among.Given as goal

abbrev pub invariant-loop-word : goal.invariant-loop-word
invariant-loop-word l = l.found ≡ told_among l.pin (take l.word-index l.words)
