use Rattle.bench_command.proofs.Names.{name_fits, name_is_cell}
use Rattle.bench_command.proofs.CellsRead.{cell_is_read}
use Rattle.bench_command.proofs.cell_laws.cells_are_read.Goals as goal

pub returns-clause-read : goal.returns-clause-read
returns-clause-read c = cell_is_read

pub returns-clause-name : goal.returns-clause-name
returns-clause-name c = name_fits

pub returns-clause-cell : goal.returns-clause-cell
returns-clause-cell c = name_is_cell
