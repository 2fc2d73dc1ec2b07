use Rattle.cell_report.proofs.faults.put_fold.Goals as goal

pub returns-in-TooManyFingers : goal.returns-in-TooManyFingers
returns-in-TooManyFingers c = rw c.in-TooManyFingers.is c.put_fault.ensures
