use Rattle.std.proofs.Common.{refl}
use Rattle.gds_read.proofs.VisitedCopies.{copy_visit}
use Rattle.gds_read.proofs.laws.visited_elements.Goals as goal

pub returns-clause-passed : goal.returns-clause-passed
returns-clause-passed c bytes grid levels origin count r rs few not_so = (copy_visit bytes grid levels origin count r rs).passed not_so few

pub returns-clause-counted : goal.returns-clause-counted
returns-clause-counted c bytes grid levels origin count r rs one so e = (copy_visit bytes grid levels origin count r rs).counted refl so one e
