-- Rules on gates and on field poly: which cells follow outward from a cell, in one of four directions.
use Rattle.std.specs.Prelude.{ℤ, pos, ◌+ℤ◌, ◌-ℤ◌, ℕ, ◌≤◌, ◌<◌, ◌+◌, List}
use Rattle.box_geom.specs.declared.shape.Shape.{Shape}
use Rattle.box_geom.specs.declared.layer.Layer.TheVariants.{Active, Poly}
use Rattle.scmos_rules.specs.Layout.{On, Gate, Diffusion, FieldPoly, Bare}

pub data Way : Type 0 where
  right : Way
  left : Way
  up : Way
  down : Way

-- the k-th cell outward from (x, y) is in P
abbrev pub Ahead : (ℤ → ℤ → Type 0) → Way → ℕ → ℤ → ℤ → Type 0
Ahead P right k x y = P (x +ℤ pos k) y
Ahead P left k x y = P (x -ℤ pos k) y
Ahead P up k x y = P x (y +ℤ pos k)
Ahead P down k x y = P x (y -ℤ pos k)

-- A gate cell with a neighbour that is not active, where one of the v cells from that neighbour outward is not poly.
pub record FailsPolyEnd (s : List Shape) (v : ℕ) (x y : ℤ) : Type 0 where
  pub gate : Gate s x y
  pub way : Way
  pub beyond : Ahead (On Active s) way 1 x y → ⊥
  pub at : ℕ
  pub first : 1 ≤ at
  pub last : at ≤ v
  pub out : Ahead (On Poly s) way at x y → ⊥

-- A gate cell with a neighbour that is active without poly, where one of the v cells from it outward is not active.
pub record FailsActiveEnd (s : List Shape) (v : ℕ) (x y : ℤ) : Type 0 where
  pub gate : Gate s x y
  pub way : Way
  pub beside : Ahead (Diffusion s) way 1 x y
  pub at : ℕ
  pub first : 1 ≤ at
  pub last : at ≤ v
  pub out : Ahead (On Active s) way at x y → ⊥

-- A field poly cell from which fewer than v cells that are neither poly nor active lead to an active cell without poly.
pub record FailsFieldPoly (s : List Shape) (v : ℕ) (x y : ℤ) : Type 0 where
  pub field : FieldPoly s x y
  pub way : Way
  pub count : ℕ
  pub few : count < v
  pub between : (k : ℕ) → 1 ≤ k → k ≤ count → Ahead (Bare s) way k x y
  pub meets : Ahead (Diffusion s) way (count + 1) x y
