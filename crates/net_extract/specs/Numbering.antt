-- The numbers of nets: by their first cells, from the lowest row upward, in it from the left, and in one cell by layer.
use Rattle.std.specs.Prelude.{◌≡◌, ◌≤ℤ◌, ℕ, ◌≤◌, List, Some, slice_get}
use Rattle.std.specs.List.{AllPairs, Contains}
use Rattle.box_geom.specs.declared.shape.Shape.{Shape}
use Rattle.scmos_rules.specs.declared.rules.Deck.{Deck}
use Rattle.net_extract.specs.Nets.{Site, Conducts, SameNet}
use Rattle.net_extract.specs.declared.piece.Conductor.{Conductor}
use Rattle.net_extract.specs.declared.piece.Conductor.TheVariants.{PDiffusion, NDiffusion, Poly, Metal1, Metal2}

-- the order of layers in one cell
abbrev pub rank : Conductor → ℕ
rank PDiffusion = 0
rank NDiffusion = 0
rank Poly = 1
rank Metal1 = 2
rank Metal2 = 3

-- site a does not come after site b
pub record NotBehind (a b : Site) : Type 0 where
  pub row : a.cell.y ≤ℤ b.cell.y
  pub column : b.cell.y ≤ℤ a.cell.y → a.cell.x ≤ℤ b.cell.x
  pub layer : b.cell.y ≤ℤ a.cell.y → b.cell.x ≤ℤ a.cell.x → rank a.kind ≤ rank b.kind

-- the first conductor cell of its net
pub record IsFirstOfNet (deck : Deck) (s : List Shape) (a : Site) : Type 0 where
  pub conducts : Conducts s a
  pub first : (b : Site) → SameNet deck s a b → NotBehind a b

-- a comes before b
pub record IsBefore (a b : Site) : Type 0 where
  pub not_behind : NotBehind a b
  pub other : NotBehind b a → ⊥

-- The first cells of all nets in their order: net n is the one of the n-th of them.
pub record AreNets (deck : Deck) (s : List Shape) (firsts : List Site) : Type 0 where
  pub ascending : AllPairs IsBefore firsts
  pub sound : (a : Site) → Contains firsts a → IsFirstOfNet deck s a
  pub all : (a : Site) → IsFirstOfNet deck s a → Contains firsts a

-- the site is a conductor cell of net n
pub record IsInNet (deck : Deck) (s : List Shape) (firsts : List Site) (n : ℕ) (a : Site) : Type 0 where
  pub first : Site
  pub numbered : slice_get firsts n ≡ Some first
  pub same : SameNet deck s first a
