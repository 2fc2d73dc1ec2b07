-- What the commands on a cell of a SPICE file work on, as it is read.
use Rattle.std.specs.Prelude.{ℕ, List, Result, Ok}
use Rattle.cell_num.specs.Steps.{◌>>=◌}
use Rattle.tech_file.specs.Technology.{Technology}
use Rattle.spice_net.specs.Subcircuit.{subcircuit}
use Rattle.finger_fold.specs.Folding.{folded}
use Rattle.cell_inputs.specs.Inputs.{Inputs, inputs_of}
use Rattle.call_read.specs.declared.refusal.Refusal.{Refusal}
use Rattle.call_read.specs.declared.refusal.Refusal.TheVariants.{Spice, Fold}
use Rattle.call_read.specs.Refusals.{as_refusal}

-- the subcircuit of a name in the bytes of a SPICE file, and its fingers
abbrev pub inputs_in : List ℕ → List ℕ → Technology → Result Inputs Refusal
inputs_in bytes name tech = do
  cell ← as_refusal Spice (subcircuit bytes name tech)
  fingers ← as_refusal Fold (folded tech cell)
  Ok (inputs_of tech cell fingers)
