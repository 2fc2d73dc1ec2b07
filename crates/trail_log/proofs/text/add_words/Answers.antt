use Rattle.std.proofs.Common.{arith}
use Rattle.std.proofs.lemmas.Grind.{common_steps}
use Rattle.trail_log.proofs.Joins.{joined_behind}
use Rattle.trail_log.proofs.text.add_words.Goals as goal

pub loop-word-preserved : goal.loop-word-preserved
loop-word-preserved c = grind (arith, common_steps, joined_behind)
