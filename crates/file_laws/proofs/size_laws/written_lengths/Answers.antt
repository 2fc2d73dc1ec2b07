use Rattle.file_laws.proofs.Bytes.{written_size}
use Rattle.file_laws.proofs.Whole.{written_within}
use Rattle.file_laws.proofs.size_laws.written_lengths.Goals as goal

pub returns-clause-is : goal.returns-clause-is
returns-clause-is c = written_size

pub returns-clause-few : goal.returns-clause-few
returns-clause-few c = written_within
