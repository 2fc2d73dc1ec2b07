use Rattle.cell_report.proofs.abstract_faults.put_differ.Goals as goal

pub returns-in-NoLabel : goal.returns-in-NoLabel
returns-in-NoLabel c = rw (c.in-NoLabel.is, ← c.as_slice.ensures) c.put_fault.ensures

pub returns-in-NoMemory : goal.returns-in-NoMemory
returns-in-NoMemory c = rw c.in-NoMemory.is c.put_fault-in-NoMemory.ensures
