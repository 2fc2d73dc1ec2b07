use Rattle.std.proofs.Common.{◌≡◌, drop}
use Rattle.spice_net.specs.Chosen.{without_comments}
use Rattle.spice_net.specs.Transistors.{transistors_of}
use Rattle.spice_net.specs.Reader.{in_front}
use Rattle.spice_net.proofs.read.read_transistors.Given as goal

abbrev pub invariant-loop-line : goal.invariant-loop-line
invariant-loop-line l = in_front l.found (transistors_of l.tech (without_comments (drop l.line-index l.lines))) ≡ transistors_of l.tech (without_comments l.lines)
