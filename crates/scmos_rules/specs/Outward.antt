-- Where the rules on gates and on field poly fail in one direction.
use Rattle.std.specs.Prelude.{ℤ, pos, neg_ℤ, ℕ, ◌≤◌, ◌<◌, ◌+◌, ◌↔◌, ◌⊎◌, List}
use Rattle.box_geom.specs.Rectangle.{Rectangle, Covers}
use Rattle.box_geom.specs.declared.shape.Shape.{Shape}
use Rattle.box_geom.specs.declared.layer.Layer.TheVariants.{Active, Poly}
use Rattle.scmos_rules.specs.Layout.{On, Gate, Diffusion, FieldPoly, Bare}
use Rattle.scmos_rules.specs.Gates.{Way, Ahead}
use Rattle.scmos_rules.specs.Regions.{Lacks}
use Rattle.scmos_rules.specs.declared.gates.Heading.{Heading}
use Rattle.scmos_rules.specs.declared.gates.Heading.TheVariants.{Right, Left, Up, Down}

-- how far a set is shifted so that each cell shows the one k ahead
abbrev pub shift_across : Heading → ℕ → ℤ
shift_across Right k = neg_ℤ (pos k)
shift_across Left k = pos k
shift_across Up k = pos 0
shift_across Down k = pos 0

abbrev pub shift_upward : Heading → ℕ → ℤ
shift_upward Right k = pos 0
shift_upward Left k = pos 0
shift_upward Up k = neg_ℤ (pos k)
shift_upward Down k = pos k

-- a gate cell at the edge of active, where one of the v cells beyond is not poly
pub record EndsEarly (s : List Shape) (v : ℕ) (way : Way) (x y : ℤ) : Type 0 where
  pub gate : Gate s x y
  pub beyond : Ahead (On Active s) way 1 x y → ⊥
  pub lacks : Lacks (On Poly s) way v x y

-- a gate cell beside active without poly, where one of the v cells from there on is not active
pub record StandsEarly (s : List Shape) (v : ℕ) (way : Way) (x y : ℤ) : Type 0 where
  pub gate : Gate s x y
  pub beside : Ahead (Diffusion s) way 1 x y
  pub lacks : Lacks (On Active s) way v x y

-- a field poly cell from which fewer than v bare cells lead to active without poly
pub record MeetsEarly (s : List Shape) (v : ℕ) (way : Way) (x y : ℤ) : Type 0 where
  pub field : FieldPoly s x y
  pub count : ℕ
  pub few : count < v
  pub between : (k : ℕ) → 1 ≤ k → k ≤ count → Ahead (Bare s) way k x y
  pub meets : Ahead (Diffusion s) way (count + 1) x y

-- the list covers what one of the four covers
pub record AreOneOf (a b c d r : List Rectangle) : Type 0 where
  pub same : (x y : ℤ) → Covers r x y ↔ ((Covers a x y ⊎ Covers b x y) ⊎ (Covers c x y ⊎ Covers d x y))
