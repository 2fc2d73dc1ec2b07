use Rattle.cell_report.proofs.faults.put_refused.Goals as goal

pub returns-in-NotArrangement : goal.returns-in-NotArrangement
returns-in-NotArrangement c = rw c.in-NotArrangement.is c.put_fault-in-NotArrangement.ensures
