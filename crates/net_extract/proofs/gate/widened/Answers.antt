use Rattle.std.proofs.Common.{arith}
use Rattle.std.proofs.lemmas.Int.{to_z-of_z}
use Rattle.net_extract.proofs.gate.widened.Goals as goal

pub returns-then-wire-net : goal.returns-then-wire-net
returns-then-wire-net c = grind (arith, to_z-of_z)
