-- A row as a log lists it.
use Rattle.std.specs.Prelude.{◌≡◌, List, All}
use Rattle.cell_num.specs.declared.finger.Fingers.{Fingers}
use Rattle.row_model.specs.declared.column.Column.{Column}
use Rattle.row_model.specs.Arrangement.{IsArrangement}
use Rattle.row_model.specs.Gaps.{gaps_of}
use Rattle.row_state.specs.declared.kind.Kinds.{Kinds}
use Rattle.row_state.specs.Start.{AreKinds}
use Rattle.bound_log.specs.declared.log.Best.{Best}
use Rattle.bound_log.specs.Fits.{BestFits}
use Rattle.log_check.specs.Accepted.{IsListed, columns_listed}

-- the row arranges fingers of which these are the kinds
abbrev pub IsRowOf : Kinds → List Column → Type 0
IsRowOf k row = (f : Fingers) × AreKinds f k × IsArrangement row f

-- the columns of the row, each by its gate and the kinds of its fingers, and its gaps; a text can hold them
pub record IsBestOf (k : Kinds) (row : List Column) (best : Best) : Type 0 where
  pub columns : columns_listed k best.steps ≡ row
  pub listed : All (IsListed k) best.steps
  pub counted : best.gaps ≡ gaps_of row
  pub fits : BestFits k best
