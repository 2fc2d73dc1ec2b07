-- What a search of the inputs' fingers by the component bound leaves: a log of that bound's version.
use Rattle.std.specs.Prelude.{ℕ, ◌≡◌, List}
use Rattle.row_model.specs.declared.column.Column.{Column}
use Rattle.row_state.specs.declared.bound.TheConstants.{COMPONENT_LOG}
use Rattle.row_state.specs.Component.{component_value}
use Rattle.bound_log.specs.declared.log.Log.{Log}
use Rattle.log_check.specs.Accepted.{WithKinds}
use Rattle.row_search.specs.Ended.{IsSolved, IsSpent}
use Rattle.row_search.specs.First.{IsFirstLeast}
use Rattle.cell_inputs.specs.Inputs.{Inputs}
use Rattle.cell_make.specs.declared.planned.Planned.{Planned}
use Rattle.cell_make.specs.declared.planned.Planned.TheVariants as planned

-- the log is accepted by the bound of its version, lists the row, and was found within the budget
abbrev pub IsCertified : Inputs → List Column → Log → Type 0
IsCertified inputs row log =
    (log.version ≡ COMPONENT_LOG)
    × WithKinds inputs.fingers (λ k. IsSolved component_value k inputs.fingers inputs.tech.budget row log)

-- the first least row, with an accepted log that lists it and was found within the budget
pub record IsFound (inputs : Inputs) (row : List Column) (log : Log) : Type 0 where
  pub first : IsFirstLeast inputs.fingers row
  pub certified : IsCertified inputs row log

-- the budget is spent, and the log proves that many gaps of every row
abbrev pub IsUnfinished : Inputs → ℕ → Log → Type 0
IsUnfinished inputs proved log =
    (log.version ≡ COMPONENT_LOG)
    × WithKinds inputs.fingers (λ k. IsSpent component_value k inputs.fingers inputs.tech.budget log proved)

-- what planning results in: the first least row with its log, or the log of a spent budget
abbrev pub IsPlanned : Inputs → Planned → Type 0
IsPlanned inputs (planned.Found row log) = IsFound inputs row log
IsPlanned inputs (planned.Unfinished log proved) = IsUnfinished inputs proved log
