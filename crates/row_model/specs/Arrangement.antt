-- Which lists of columns arrange which fingers (Uehara and van Cleemput 1981): every finger stands
-- once, a P and an N finger share a column where they have one gate, and the columns are as few as
-- the gates' counts allow.
use Rattle.std.specs.Prelude.{◌≡◌, false, List, Option, Some, None, length, All, IsPermutation}
use Rattle.std.specs.List.{filter_map}
use Rattle.std.specs.Option.{option_map}
use Rattle.cell_num.specs.declared.finger.Row.{Row}
use Rattle.cell_num.specs.declared.finger.Row.TheVariants.{P, N}
use Rattle.cell_num.specs.declared.finger.Finger.{Finger}
use Rattle.cell_num.specs.declared.finger.Fingers.{Fingers}
use Rattle.cell_num.specs.declared.net.NetNo.{NetNo}
use Rattle.cell_num.specs.Fingers.{columns_of}
use Rattle.row_model.specs.declared.column.Placed.{Placed}
use Rattle.row_model.specs.declared.column.Column.{Column}

-- what stands in a row of a column
abbrev pub place : Row → Column → Option Placed
place P column = column.p
place N column = column.n

-- the gate of what stands in the two places of a column
abbrev pub gate_in : Option Placed → Option Placed → Option NetNo
gate_in (Some x) y = Some x.finger.gate
gate_in None (Some y) = Some y.finger.gate
gate_in None None = None

-- the fingers of a row, from left to right
abbrev pub fingers_in : Row → List Column → List Finger
fingers_in row columns = filter_map (λ column. option_map (λ (x : Placed). x.finger) (place row column)) columns

-- a finger whose ends are one net is unflipped
abbrev pub IsPlaced : Placed → Type 0
IsPlaced x = x.finger.lo ≡ x.finger.hi → x.flipped ≡ false

-- a P finger, an N finger, or both with one gate
abbrev pub AreOneColumn : Option Placed → Option Placed → Type 0
AreOneColumn None None = ⊥
AreOneColumn (Some x) None = IsPlaced x
AreOneColumn None (Some y) = IsPlaced y
AreOneColumn (Some x) (Some y) = (x.finger.gate ≡ y.finger.gate) × IsPlaced x × IsPlaced y

abbrev pub IsColumn : Column → Type 0
IsColumn c = AreOneColumn c.p c.n

pub record IsArrangement (row : List Column) (f : Fingers) : Type 0 where
  pub columns : All IsColumn row
  pub p : IsPermutation f.p (fingers_in P row)
  pub n : IsPermutation f.n (fingers_in N row)
  pub fewest : length row ≡ columns_of f
