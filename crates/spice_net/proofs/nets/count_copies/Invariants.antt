use Rattle.std.proofs.Common.{◌≡◌, ◌≤◌, ◌*◌, length, take}
use Rattle.spice_net.specs.Nets.{with_copies}
use Rattle.spice_net.proofs.nets.count_copies.Given as goal

abbrev pub invariant-loop-transistor : goal.invariant-loop-transistor
invariant-loop-transistor l = (l.count ≡ length (with_copies (take l.transistor-index l.transistors))) × (l.count ≤ 64 * l.transistor-index)
