use Rattle.std.proofs.Common.{arith}
use Rattle.std.proofs.lemmas.Grind.{common_steps}
use Rattle.cell_num.proofs.Ranges.{range_more}
use Rattle.net_extract.proofs.naming.all_names.Goals as goal

pub loop-net-preserved : goal.loop-net-preserved
loop-net-preserved c = grind (arith, common_steps, range_more)
