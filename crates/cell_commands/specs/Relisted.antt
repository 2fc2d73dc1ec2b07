-- The evidence of the first least row, listing another least row.
use Rattle.std.specs.Prelude.{◌≡◌, List}
use Rattle.row_model.specs.declared.column.Column.{Column}
use Rattle.bound_log.specs.declared.log.Best.{Best}
use Rattle.call_words.specs.declared.evidence.Evidence.{Evidence}
use Rattle.call_words.specs.declared.evidence.Evidence.TheVariants.{Log, Trails}
use Rattle.cell_inputs.specs.Inputs.{Inputs}
use Rattle.log_check.specs.Accepted.{WithKinds}
use Rattle.cell_commands.specs.Listed.{IsBestOf}
use Rattle.trail_either.specs.Either.{either_listing}
use Rattle.cell_commands.specs.Other.{log_listing}
use Rattle.cell_commands.specs.declared.certificate.Certificate.{Certificate}
use Rattle.cell_commands.specs.declared.certificate.Certificate.TheVariants as held
use Rattle.cell_commands.specs.Searched.{IsFoundBy}

abbrev pub kind_of : Certificate → Evidence
kind_of (held.Log log) = Log
kind_of (held.Trails trails) = Trails

-- it was found for the row
abbrev pub IsFoundFor : Inputs → List Column → Certificate → Type 0
IsFoundFor inputs row certificate = IsFoundBy (kind_of certificate) inputs row certificate

-- the same with this row in place of its own
abbrev pub listing : Certificate → Best → Certificate
listing (held.Log log) best = held.Log (log_listing log best)
listing (held.Trails trails) best = held.Trails (either_listing trails best)

-- the other certificate is the same except the row that it lists, which is this one
abbrev pub ListsInstead : Inputs → List Column → Certificate → Certificate → Type 0
ListsInstead inputs row certificate other =
    WithKinds inputs.fingers (λ k. (best : Best) × IsBestOf k row best × (other ≡ listing certificate best))
