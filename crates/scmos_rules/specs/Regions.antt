-- How failing sets are made of others.
use Rattle.std.specs.Prelude.{ℤ, ℕ, ◌≤◌, ◌⊎◌}
use Rattle.scmos_rules.specs.Gates.{Way, right, left, up, down, Ahead}
use Rattle.scmos_rules.specs.declared.gates.Heading.{Heading}
use Rattle.scmos_rules.specs.declared.gates.Heading.TheVariants.{Right, Left, Up, Down}

abbrev pub way_of : Heading → Way
way_of Right = right
way_of Left = left
way_of Up = up
way_of Down = down

-- one of the v cells outward from (x, y) is not in the set
pub record Lacks (P : ℤ → ℤ → Type 0) (way : Way) (v : ℕ) (x y : ℤ) : Type 0 where
  pub at : ℕ
  pub first : 1 ≤ at
  pub last : at ≤ v
  pub out : Ahead P way at x y → ⊥

-- a cell of the first set where the operations of two sets meet
abbrev pub BothOf : (ℤ → ℤ → Type 0) → (ℤ → ℤ → Type 0) → ℤ → ℤ → Type 0
BothOf P Q x y = P x y × Q x y

abbrev pub EitherOf : (ℤ → ℤ → Type 0) → (ℤ → ℤ → Type 0) → ℤ → ℤ → Type 0
EitherOf P Q x y = P x y ⊎ Q x y
