use Rattle.gds_read.proofs.Found.{found, only}
use Rattle.gds_read.proofs.Faulty as faulty
use Rattle.gds_read.proofs.laws.accepted_libraries.Goals as goal

pub returns-clause-found : goal.returns-clause-found
returns-clause-found c = found

pub returns-clause-only : goal.returns-clause-only
returns-clause-only c = only

pub returns-clause-first_fault : goal.returns-clause-first_fault
returns-clause-first_fault c = faulty.first_fault

pub returns-clause-only_fault : goal.returns-clause-only_fault
returns-clause-only_fault c = faulty.only_fault
