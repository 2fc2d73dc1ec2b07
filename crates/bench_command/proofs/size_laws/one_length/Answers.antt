use Rattle.row_place.specs.Places.{placement_of}
use Rattle.file_laws.proofs.Whole.{same_bytes}
use Rattle.cell_inputs.specs.Inputs.{unit_nm}
use Rattle.bench_command.proofs.size_laws.one_length.Goals as goal

pub returns : goal.returns
returns c = λ inputs row routing xs ys. same_bytes inputs.cell.name inputs.cell.nets inputs.cell.pins (placement_of row) routing xs ys inputs.tech.height inputs.tech.height (unit_nm inputs.tech) (unit_nm inputs.tech)
