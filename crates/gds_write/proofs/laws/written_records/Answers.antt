use Rattle.gds_write.proofs.Whole.{written_stream}
use Rattle.gds_write.proofs.laws.written_records.Goals as goal

pub returns : goal.returns
returns c = λ name shapes unit named labels. written_stream name shapes unit named labels
