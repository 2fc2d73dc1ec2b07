-- The places of a column, by the numbers of the kinds of their fingers.
use Rattle.std.specs.Prelude.{ℕ, ◌≡◌, List, Option, Some, Any, IfSome, slice_get}
use Rattle.std.specs.Option.{option_map}
use Rattle.cell_num.specs.declared.finger.Finger.{Finger}
use Rattle.cell_num.specs.declared.finger.Row.{Row}
use Rattle.cell_num.specs.declared.finger.Row.TheVariants.{P, N}
use Rattle.row_model.specs.declared.column.Column.{Column}
use Rattle.row_model.specs.declared.column.Placed.{Placed}
use Rattle.row_model.specs.Arrangement.{IsColumn}
use Rattle.row_state.specs.declared.kind.Kind.{Kind}
use Rattle.row_state.specs.declared.kind.Kinds.{Kinds}
use Rattle.row_state.specs.declared.step.Side.{Side}
use Rattle.row_state.specs.Completion.{finger_of}
use Rattle.row_state.specs.Steps.{column_of, placed_of}
use Rattle.bound_log.specs.declared.log.LogStep.{LogStep}
use Rattle.bound_log.specs.Fits.{SideFits, StepFits}
use Rattle.log_check.specs.Accepted.{IsListed}

-- the finger is of one of the kinds
abbrev pub HasKind : Row → List Kind → Finger → Type 0
HasKind row kinds finger = Any (λ kind. finger_of row kind ≡ finger) kinds

-- a column whose fingers are of the kinds
pub record HasKinds (k : Kinds) (column : Column) : Type 0 where
  pub places : IsColumn column
  pub p : IfSome column.p (λ (x : Placed). HasKind P k.p x.finger)
  pub n : IfSome column.n (λ (x : Placed). HasKind N k.n x.finger)

-- the finger is of the kind of this number
abbrev pub IsNumberOf : Row → List Kind → Finger → ℕ → Type 0
IsNumberOf row kinds finger at = option_map (finger_of row) (slice_get kinds at) ≡ Some finger

-- what is in the place, by one of the kinds
pub record IsSideOf (row : Row) (kinds : List Kind) (place : Option Placed) (side : Option Side) : Type 0 where
  pub placed : placed_of row kinds side ≡ place
  pub fits : SideFits kinds side

-- the column as a log lists it
pub record IsListedAs (k : Kinds) (column : Column) (listed : LogStep) : Type 0 where
  pub is : column_of k listed.step ≡ column
  pub gate : IsListed k listed
  pub fits : StepFits k listed
