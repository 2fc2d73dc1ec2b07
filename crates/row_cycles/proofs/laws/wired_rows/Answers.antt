use Rattle.row_cycles.proofs.Legal.{row_unwired}
use Rattle.row_cycles.proofs.Wired.{row_no_cycle, row_wired}
use Rattle.row_cycles.proofs.laws.wired_rows.Goals as goal

pub returns-clause-unwired : goal.returns-clause-unwired
returns-clause-unwired c = row_unwired

pub returns-clause-none : goal.returns-clause-none
returns-clause-none c = row_no_cycle

pub returns-clause-legal : goal.returns-clause-legal
returns-clause-legal c = row_wired
