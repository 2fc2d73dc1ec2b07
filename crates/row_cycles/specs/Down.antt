-- Nets below another one, as they are found one after the other.
use Rattle.std.specs.Prelude.{◌≡◌, ◌⊎◌, true, false, Bool, List, All, Contains}
use Rattle.cell_num.specs.declared.net.NetNo.{NetNo}
use Rattle.track_ways.specs.Tables.{marked}
use Rattle.row_cycles.specs.declared.above.NetAbove.{NetAbove}

-- the net itself, or one that was found below it
abbrev pub IsAtOrBelow : NetNo → List Bool → NetNo → Type 0
IsAtOrBelow upper found net = (net ≡ upper) ⊎ (marked found net ≡ true)

-- a pair from the net or from one below it, to one that was not found
pub record IsNew (upper : NetNo) (found : List Bool) (a : NetAbove) : Type 0 where
  pub from : IsAtOrBelow upper found a.upper
  pub new : marked found a.lower ≡ false

pub record IsNext (above : List NetAbove) (upper : NetNo) (found : List Bool) (a : NetAbove) : Type 0 where
  pub there : Contains above a
  pub is : IsNew upper found a

-- all nets below it were found
abbrev pub AreAllFound : List NetAbove → NetNo → List Bool → Type 0
AreAllFound above upper found = All (λ a. IsNew upper found a → ⊥) above
