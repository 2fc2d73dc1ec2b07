use Rattle.std.proofs.Common.{◌<◌, length}
use Rattle.cell_num.specs.declared.net.NetNo.{NetNo}
use Rattle.cell_num.specs.Pins.{IsRail}
use Rattle.row_place.specs.Trunks.{lines_of}
use Rattle.part_tests.proofs.pin_places.have_places.Given as goal

-- each pin so far has a place
abbrev pub invariant-loop-number : goal.invariant-loop-number
invariant-loop-number l = (net : NetNo) → net.0 < l.number → (IsRail l.pins net → ⊥) → 0 < length (lines_of l.placement net)
