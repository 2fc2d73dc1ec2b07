use Rattle.std.proofs.Common.{◌≡◌, ◌≤◌, ◌*◌, ◌^◌, length, take}
use Rattle.finger_fold.specs.Folding.{fingers_in}
use Rattle.finger_fold.proofs.count.count_in.Given as goal

abbrev pub invariant-loop-device : goal.invariant-loop-device
invariant-loop-device l = (l.count ≡ length (fingers_in l.row l.tech (take l.device-index l.devices))) × (l.count ≤ 2 ^ 32 * l.device-index)
