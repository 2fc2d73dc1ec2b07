use Rattle.gds_write.proofs.Whole.{library_stream}
use Rattle.gds_write.proofs.laws.written_libraries.Goals as goal

pub returns : goal.returns
returns c = λ structs unit is. library_stream structs unit is
