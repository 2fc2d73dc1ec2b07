use Rattle.std.proofs.Common.{refl}
use Rattle.row_state.proofs.ParityCode.{none_set}
use Rattle.row_state.proofs.parity.odd_nets.Goals as goal

pub loop-at-init : goal.loop-at-init
loop-at-init c = (refl, λ u. none_set 256 u)
