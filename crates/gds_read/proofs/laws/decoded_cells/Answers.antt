use Rattle.gds_read.proofs.Cells.{is_cell, cell_is}
use Rattle.gds_read.proofs.Refused.{is_cell_fault, cell_fault_is}
use Rattle.gds_read.proofs.laws.decoded_cells.Goals as goal

pub returns-clause-cell : goal.returns-clause-cell
returns-clause-cell c = is_cell

pub returns-clause-decoded : goal.returns-clause-decoded
returns-clause-decoded c = cell_is

pub returns-clause-fault : goal.returns-clause-fault
returns-clause-fault c = is_cell_fault

pub returns-clause-refused : goal.returns-clause-refused
returns-clause-refused c = cell_fault_is
