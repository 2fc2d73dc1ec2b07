-- Rectangles of a region whose sides move, and rectangles whose x and y are exchanged.
use Rattle.std.specs.Prelude.{◌≡◌, ℕ, ℤ, pos, neg_ℤ, ◌+ℤ◌, ◌-ℤ◌, Bool, ◌&&◌, int_lt}
use Rattle.std.specs.Int.{int_min, int_max}
use Rattle.box_geom.specs.Rectangle.{Rectangle}
use Rattle.box_geom.specs.Regions.{IsSmall}
use Rattle.box_geom.specs.declared.moving.Moves.{Moves}

pub record AreSmall (by : Moves) : Type 0 where
  pub x1 : IsSmall by.x1
  pub y1 : IsSmall by.y1
  pub x2 : IsSmall by.x2
  pub y2 : IsSmall by.y2

pub record MovesAre (left low right high : ℤ) (by : Moves) : Type 0 where
  pub x1 : by.x1 ≡ left
  pub y1 : by.y1 ≡ low
  pub x2 : by.x2 ≡ right
  pub y2 : by.y2 ≡ high

-- the rectangle of all cells that regions reach
abbrev pub whole : Rectangle
whole = record { x1 = neg_ℤ (pos 2000000000); y1 = neg_ℤ (pos 2000000000); x2 = pos 2000000000; y2 = pos 2000000000 }

-- the cells of both; where there are none, the sides do not ascend
abbrev pub shared : Rectangle → Rectangle → Rectangle
shared a b = record { x1 = int_max a.x1 b.x1; y1 = int_max a.y1 b.y1; x2 = int_min a.x2 b.x2; y2 = int_min a.y2 b.y2 }

abbrev pub spread_by : Moves → Rectangle → Rectangle
spread_by by r = record { x1 = r.x1 +ℤ by.x1; y1 = r.y1 +ℤ by.y1; x2 = r.x2 +ℤ by.x2; y2 = r.y2 +ℤ by.y2 }

abbrev pub widened_by : ℕ → Rectangle → Rectangle
widened_by d r = record { x1 = r.x1 -ℤ pos d; y1 = r.y1 -ℤ pos d; x2 = r.x2 +ℤ pos d; y2 = r.y2 +ℤ pos d }

-- the sides moved, and not beyond the limits
abbrev pub moved_by : Moves → Rectangle → Rectangle
moved_by by r = shared (spread_by by r) whole

-- the part of a within d of b; its sides need not ascend
abbrev pub near_part : ℕ → Rectangle → Rectangle → Rectangle
near_part d a b = shared a (widened_by d b)

abbrev pub is_proper : Rectangle → Bool
is_proper r = int_lt r.x1 r.x2 && int_lt r.y1 r.y2

-- x and y exchanged
abbrev pub turned_by : Rectangle → Rectangle
turned_by r = record { x1 = r.y1; y1 = r.x1; x2 = r.y2; y2 = r.x2 }
