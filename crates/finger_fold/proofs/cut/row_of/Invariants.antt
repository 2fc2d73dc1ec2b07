use Rattle.std.proofs.Common.{◌≡◌, take}
use Rattle.finger_fold.specs.Folding.{fingers_in}
use Rattle.finger_fold.proofs.cut.row_of.Given as goal

abbrev pub invariant-loop-device : goal.invariant-loop-device
invariant-loop-device l = l.out ≡ fingers_in l.row l.tech (take l.device-index l.devices)
