-- How far two cells lie apart: the greater one of the distances in x and in y.
use Rattle.std.specs.Prelude.{ℕ, ℤ, pos, ◌+ℤ◌, ◌≤ℤ◌}

-- the distance of the cells (x, y) and (s, t) is at most d
pub record Near (d : ℕ) (x y s t : ℤ) : Type 0 where
  pub left : x ≤ℤ (s +ℤ pos d)
  pub right : s ≤ℤ (x +ℤ pos d)
  pub low : y ≤ℤ (t +ℤ pos d)
  pub high : t ≤ℤ (y +ℤ pos d)
