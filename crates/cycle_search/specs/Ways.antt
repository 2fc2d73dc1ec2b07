-- What a way down from one net to another needs.
use Rattle.std.specs.Prelude.{◌≡◌, ◌⊎◌, ◌++◌, List, All}
use Rattle.cell_num.specs.declared.net.NetNo.{NetNo}
use Rattle.row_cycles.specs.Above.{Follows, HasCycle, IsAbove}
use Rattle.row_cycles.specs.declared.above.NetAbove.{NetAbove}

abbrev pub IsAtOrAbove : List NetAbove → NetNo → NetNo → Type 0
IsAtOrAbove pairs upper lower = (upper ≡ lower) ⊎ IsAbove pairs upper lower

-- pairs that follow, and that lead with the steps from one net to another
pub record IsWay (above steps : List NetAbove) (from to : NetNo) (pairs : List NetAbove) : Type 0 where
  pub follow : All (Follows above) pairs
  pub leads : IsAtOrAbove (pairs ++ steps) from to

-- pairs that follow, and that have a cycle with the steps
pub record Closes (above steps pairs : List NetAbove) : Type 0 where
  pub follow : All (Follows above) pairs
  pub cycle : HasCycle (pairs ++ steps)

-- some pairs more, which follow
pub record AddsNeeded (above before after : List NetAbove) : Type 0 where
  pub more : List NetAbove
  pub is : after ≡ before ++ more
  pub follow : All (Follows above) more
