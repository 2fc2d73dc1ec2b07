use Rattle.std.proofs.Common.{arith}
use Rattle.std.proofs.lemmas.Grind.{common_steps}
use Rattle.std.proofs.lemmas.Int.{to_z-of_z}
use Rattle.lef_write.specs.Lef.{rect_text}
use Rattle.lef_write.proofs.shapes.put_rect.Goals as goal

pub returns : goal.returns
unfolding rect_text
returns c = grind (arith, common_steps, to_z-of_z)
