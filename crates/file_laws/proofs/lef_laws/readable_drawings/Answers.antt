use Rattle.file_laws.proofs.Readable.{readable_drawing}
use Rattle.file_laws.proofs.lef_laws.readable_drawings.Goals as goal

pub returns : goal.returns
returns c = readable_drawing
