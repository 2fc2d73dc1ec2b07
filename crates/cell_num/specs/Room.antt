-- A list with room for so many items.
use Rattle.std.specs.Prelude.{ℕ, List}

pub record Within (X : Type 0) : Type 0 where
  pub items : List X
  pub most : ℕ
