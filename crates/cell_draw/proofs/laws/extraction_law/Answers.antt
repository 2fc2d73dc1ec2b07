use Rattle.cell_draw.proofs.Refusals.{only_memory}
use Rattle.cell_draw.proofs.laws.extraction_law.Goals as goal

pub returns : goal.returns
returns c = only_memory
