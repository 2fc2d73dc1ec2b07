-- The steps of a row that was found: its columns, and how a log lists them.
use Rattle.std.specs.Prelude.{List, map, reverse}
use Rattle.cell_num.specs.declared.net.NetNo.{NetNo}
use Rattle.row_model.specs.declared.column.Column.{Column}
use Rattle.row_model.specs.Arrangement.{IsColumn}
use Rattle.row_state.specs.declared.kind.Kinds.{Kinds}
use Rattle.row_state.specs.declared.step.Step.{Step}
use Rattle.row_state.specs.Order.{gate_key}
use Rattle.row_state.specs.Steps.{column_of}
use Rattle.bound_log.specs.declared.log.LogStep.{LogStep}
use Rattle.bound_log.specs.Fits.{SideFits}

-- the columns of the steps, which were found from the last to the first
abbrev pub row_of : Kinds → List Step → List Column
row_of k found = map (column_of k) (reverse found)

-- the gate of the column's fingers
abbrev pub gate_of : Column → NetNo
gate_of c = record { 0 = gate_key c.p c.n }

abbrev pub listed_of : Kinds → Step → LogStep
listed_of k step = record { gate = gate_of (column_of k step); step = step }

-- the same steps as a log lists them
abbrev pub steps_of : Kinds → List Step → List LogStep
steps_of k found = map (listed_of k) (reverse found)

-- a column, of kinds that there are
pub record IsStep (k : Kinds) (step : Step) : Type 0 where
  pub p : SideFits k.p step.p
  pub n : SideFits k.n step.n
  pub column : IsColumn (column_of k step)
