use Rattle.std.proofs.Common.{arith}
use Rattle.std.proofs.lemmas.Int.{to_z-of_z}
use Rattle.net_extract.specs.Meetings.{sharing}
use Rattle.net_extract.proofs.bond.share.Goals as goal

pub returns : goal.returns
unfolding sharing
returns c = grind (arith, to_z-of_z)
