use Rattle.gds_record.proofs.Spelled.{record_spelled}
use Rattle.gds_record.proofs.Cuts.{cuts}
use Rattle.gds_record.proofs.Tables.{numbered, numbered_only}
use Rattle.gds_record.proofs.laws.spelled_records.Goals as goal

pub returns-clause-written : goal.returns-clause-written
returns-clause-written c = record_spelled

pub returns-clause-only : goal.returns-clause-only
returns-clause-only c = λ bytes at r fits e. record { raw = (cuts bytes at r fits e).raw; is = (cuts bytes at r fits e).is }

pub returns-clause-numbers : goal.returns-clause-numbers
returns-clause-numbers c = numbered

pub returns-clause-numbered_only : goal.returns-clause-numbered_only
returns-clause-numbered_only c = numbered_only
