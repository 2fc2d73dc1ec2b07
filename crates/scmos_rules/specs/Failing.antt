-- Where a set of cells fails by its spacing, and by the cells around it.
use Rattle.std.specs.Prelude.{ℤ, ℕ, ◌⊎◌}
use Rattle.box_geom.specs.Chains.{Chain, Linked}
use Rattle.box_geom.specs.Near.{Near}
use Rattle.scmos_rules.specs.Lengths.{FailsOpen}

-- two cells of one class: chained by shared edges
abbrev pub SameClass : (ℤ → ℤ → Type 0) → ℤ → ℤ → ℤ → ℤ → Type 0
SameClass P x y s t = Chain (Linked P) (record { x = x; y = y }) (record { x = s; y = t })

-- a covered cell with a covered cell of another class within v
pub record FailsApart (P : ℤ → ℤ → Type 0) (v : ℕ) (x y : ℤ) : Type 0 where
  pub covered : P x y
  pub s : ℤ
  pub t : ℤ
  pub other : P s t
  pub near : Near v x y s t
  pub apart : SameClass P x y s t → ⊥

abbrev pub FailsSpacing : (ℤ → ℤ → Type 0) → ℕ → ℤ → ℤ → Type 0
FailsSpacing P v x y = FailsOpen P v x y ⊎ FailsApart P v x y

-- a cell of P with a cell within d that is not in Q
pub record FailsSurround (P Q : ℤ → ℤ → Type 0) (d : ℕ) (x y : ℤ) : Type 0 where
  pub covered : P x y
  pub s : ℤ
  pub t : ℤ
  pub near : Near d x y s t
  pub out : Q s t → ⊥

-- a cell of P with a cell of Q within d
pub record FailsAway (P Q : ℤ → ℤ → Type 0) (d : ℕ) (x y : ℤ) : Type 0 where
  pub covered : P x y
  pub s : ℤ
  pub t : ℤ
  pub near : Near d x y s t
  pub within : Q s t

-- a cell of P where the cells within d are partly in Q and partly not
abbrev pub FailsPartly : (ℤ → ℤ → Type 0) → (ℤ → ℤ → Type 0) → ℕ → ℤ → ℤ → Type 0
FailsPartly P Q d x y = FailsAway P Q d x y × FailsSurround P Q d x y
