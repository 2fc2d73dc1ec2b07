-- Where a set of cells fails by the lengths of its runs, and which rectangles show it.
use Rattle.std.specs.Prelude.{ℤ, ◌-ℤ◌, ℕ, ◌==◌, ◌⊎◌, Bool, not, nat_lt, unsigned_abs}
use Rattle.box_geom.specs.Rectangle.{Rectangle}
use Rattle.box_geom.specs.Runs.{IsShort, IsOff, IsNotch}
use Rattle.scmos_rules.specs.declared.runs.Measure.{Measure}
use Rattle.scmos_rules.specs.declared.runs.Measure.TheVariants.{Width, Size}

-- a covered cell whose covered run along its row or along its column is shorter than v
pub record FailsWidth (P : ℤ → ℤ → Type 0) (v : ℕ) (x y : ℤ) : Type 0 where
  pub covered : P x y
  pub short : IsShort (λ z. P z y) v x ⊎ IsShort (λ z. P x z) v y

-- a covered cell whose covered run along its row or along its column is not v long
pub record FailsSize (P : ℤ → ℤ → Type 0) (v : ℕ) (x y : ℤ) : Type 0 where
  pub covered : P x y
  pub off : IsOff (λ z. P z y) v x ⊎ IsOff (λ z. P x z) v y

-- An uncovered cell whose uncovered run along its row or along its column has covered cells at both ends and is
-- shorter than v.
pub record FailsOpen (P : ℤ → ℤ → Type 0) (v : ℕ) (x y : ℤ) : Type 0 where
  pub bare : P x y → ⊥
  pub notch : IsNotch (λ z. P z y) v x ⊎ IsNotch (λ z. P x z) v y

-- a run that is too short, or one that has not the length
abbrev pub IsWrong : Measure → (ℤ → Type 0) → ℕ → ℤ → Type 0
IsWrong Width P v t = IsShort P v t
IsWrong Size P v t = IsOff P v t

abbrev pub FailsRun : Measure → (ℤ → ℤ → Type 0) → ℕ → ℤ → ℤ → Type 0
FailsRun Width P v x y = FailsWidth P v x y
FailsRun Size P v x y = FailsSize P v x y

-- how wide a rectangle is
abbrev pub width_of : Rectangle → ℕ
width_of r = unsigned_abs (r.x2 -ℤ r.x1)

abbrev pub is_wrong : Measure → ℕ → Rectangle → Bool
is_wrong Width v r = nat_lt (width_of r) v
is_wrong Size v r = not (width_of r == v)
