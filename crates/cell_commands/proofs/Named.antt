-- What the texts ask: a log has a name.
use Rattle.std.proofs.Common.{◌≡◌, subst, sym}
use Rattle.bound_log.specs.Fits.{IsLogName}
use Rattle.cell_inputs.specs.Inputs.{AreInputs, Inputs}
use Rattle.cell_inputs.proofs.Names.{log_name}

pub inside_named : (inputs inside : Inputs) → inside ≡ inputs → AreInputs inputs → IsLogName inside.cell.name
inside_named inputs inside same are = subst (λ (i : Inputs). IsLogName i.cell.name) (sym same) (log_name inputs.cell.name are.cell)
