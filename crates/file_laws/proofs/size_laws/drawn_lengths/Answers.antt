use Rattle.file_laws.proofs.Labels.{same_names}
use Rattle.file_laws.proofs.Shapes.{same_rectangles}
use Rattle.file_laws.proofs.Whole.{few_labels, same_bytes}
use Rattle.file_laws.proofs.size_laws.drawn_lengths.Goals as goal

pub returns-clause-rectangles : goal.returns-clause-rectangles
returns-clause-rectangles c = same_rectangles

pub returns-clause-names : goal.returns-clause-names
returns-clause-names c = same_names

pub returns-clause-bytes : goal.returns-clause-bytes
returns-clause-bytes c = same_bytes

pub returns-clause-few : goal.returns-clause-few
returns-clause-few c = few_labels
