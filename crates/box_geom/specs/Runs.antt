-- Runs of places along a row or a column of cells: longest rows of neighbouring places in a set.
use Rattle.std.specs.Prelude.{◌≡◌, ℕ, ℤ, pos, ◌+ℤ◌, ◌-ℤ◌, ◌≤ℤ◌, ◌<ℤ◌}

-- the places from a to before b are the run of t: all are in the set, the one before and the one behind are not
pub record IsRun (P : ℤ → Type 0) (a b t : ℤ) : Type 0 where
  pub from : a ≤ℤ t
  pub to : t <ℤ b
  pub all : (z : ℤ) → a ≤ℤ z → z <ℤ b → P z
  pub before : P (a -ℤ pos 1) → ⊥
  pub behind : P b → ⊥

-- t has a run of fewer than v places
pub record IsShort (P : ℤ → Type 0) (v : ℕ) (t : ℤ) : Type 0 where
  pub a : ℤ
  pub b : ℤ
  pub run : IsRun P a b t
  pub short : b <ℤ (a +ℤ pos v)

-- t has a run of fewer or more than v places
pub record IsOff (P : ℤ → Type 0) (v : ℕ) (t : ℤ) : Type 0 where
  pub a : ℤ
  pub b : ℤ
  pub run : IsRun P a b t
  pub off : b ≡ a +ℤ pos v → ⊥

-- t lies in a gap of fewer than v places between two places of the set
pub record IsNotch (P : ℤ → Type 0) (v : ℕ) (t : ℤ) : Type 0 where
  pub a : ℤ
  pub b : ℤ
  pub from : a ≤ℤ t
  pub to : t <ℤ b
  pub all : (z : ℤ) → a ≤ℤ z → z <ℤ b → P z → ⊥
  pub before : P (a -ℤ pos 1)
  pub behind : P b
  pub short : b <ℤ (a +ℤ pos v)
