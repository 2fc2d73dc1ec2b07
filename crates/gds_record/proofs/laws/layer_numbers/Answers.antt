use Rattle.gds_record.proofs.LayerTable.{numbered, numbered_only}
use Rattle.gds_record.proofs.laws.layer_numbers.Goals as goal

pub returns-clause-written : goal.returns-clause-written
returns-clause-written c = numbered

pub returns-clause-only : goal.returns-clause-only
returns-clause-only c = numbered_only
