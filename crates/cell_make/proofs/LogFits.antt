-- A text can hold the log of a search.
use Rattle.std.proofs.Common.{ℕ, List}
use Rattle.row_model.specs.declared.column.Column.{Column}
use Rattle.cell_num.specs.declared.finger.Fingers.{Fingers}
use Rattle.row_state.specs.Component.{component_value}
use Rattle.bound_log.specs.declared.log.Log.{Log}
use Rattle.bound_log.specs.Fits.{Fits, ForSome}
use Rattle.row_search.specs.Ended.{IsSpent}
use Rattle.log_check.specs.Accepted.{WithKinds}
use Rattle.cell_inputs.specs.Inputs.{Inputs}
use Rattle.cell_make.specs.Searched.{IsCertified}

pub found_fits : (inputs : Inputs) (row : List Column) (log : Log) → IsCertified inputs row log → ForSome (λ k. Fits k log)
found_fits inputs row log (version, (k, of_k, some_k, solved)) = (k, some_k, solved.searched.fits)

pub spent_fits : (f : Fingers) (budget proved : ℕ) (log : Log) → WithKinds f (λ k. IsSpent component_value k f budget log proved) → ForSome (λ k. Fits k log)
spent_fits f budget proved log (k, of_k, some_k, spent) = (k, some_k, spent.searched.fits)
