-- How a reference places a structure: mirrored or not, then turned, then moved.
use Rattle.std.specs.Prelude.{Bool, true, false, not, ℤ, pos, neg_ℤ, ◌+ℤ◌, ◌*ℤ◌, ◌≤ℤ◌, ℕ, ◌*◌, ◌^◌}
use Rattle.gds_area.specs.declared.placement.Turn.{Turn}
use Rattle.gds_area.specs.declared.placement.Turn.TheVariants as turn
use Rattle.gds_area.specs.declared.placement.Vector.{Vector}
use Rattle.gds_area.specs.declared.placement.Move.{Move}
use Rattle.gds_area.specs.declared.area.Area.{Area}

-- about the x axis
abbrev pub mirrored : Bool → Vector → Vector
mirrored false v = v
mirrored true v = record { x = v.x; y = neg_ℤ v.y }

-- to the left
abbrev pub turned : Turn → Vector → Vector
turned turn.Zero v = v
turned turn.Quarter v = record { x = neg_ℤ v.y; y = v.x }
turned turn.Half v = record { x = neg_ℤ v.x; y = neg_ℤ v.y }
turned turn.ThreeQuarters v = record { x = v.y; y = neg_ℤ v.x }

abbrev pub faced : Move → Vector → Vector
faced m v = turned m.turn (mirrored m.mirrored v)

-- A point in halves of a file unit, as a move takes it; the move itself is in file units.
abbrev pub moved : Move → Vector → Vector
moved m v = record { x = (faced m v).x +ℤ (pos 2 *ℤ m.x); y = (faced m v).y +ℤ (pos 2 *ℤ m.y) }

abbrev pub first_corner : Area → Vector
first_corner a = record { x = a.across.low; y = a.upward.low }

abbrev pub last_corner : Area → Vector
last_corner a = record { x = a.across.high; y = a.upward.high }

abbrev pub between_corners : Vector → Vector → Area
between_corners a b = record { across = record { low = a.x; high = b.x }; upward = record { low = a.y; high = b.y } }

-- an area between the same corners as moved
unfoldable pub moved_area : Move → Area → Area
moved_area m a = between_corners (moved m (first_corner a)) (moved m (last_corner a))

-- where nothing is moved
abbrev pub stays : Move
stays = record { mirrored = false; turn = turn.Zero; x = pos 0; y = pos 0 }

-- ---- one move and then another

abbrev pub quarter_more : Turn → Turn
quarter_more turn.Zero = turn.Quarter
quarter_more turn.Quarter = turn.Half
quarter_more turn.Half = turn.ThreeQuarters
quarter_more turn.ThreeQuarters = turn.Zero

abbrev pub both_turns : Turn → Turn → Turn
both_turns turn.Zero t = t
both_turns turn.Quarter t = quarter_more t
both_turns turn.Half t = quarter_more (quarter_more t)
both_turns turn.ThreeQuarters t = quarter_more (quarter_more (quarter_more t))

-- a turn as a mirror shows it
abbrev pub seen_turn : Bool → Turn → Turn
seen_turn false t = t
seen_turn true turn.Quarter = turn.ThreeQuarters
seen_turn true turn.ThreeQuarters = turn.Quarter
seen_turn true t = t

abbrev pub differ : Bool → Bool → Bool
differ false b = b
differ true b = not b

abbrev pub offset_of : Move → Vector
offset_of m = record { x = m.x; y = m.y }

-- the move of what is in a structure that is moved itself
abbrev pub composed : Move → Move → Move
composed outer inner = record {
  mirrored = differ outer.mirrored inner.mirrored;
  turn = both_turns outer.turn (seen_turn outer.mirrored inner.turn);
  x = (faced outer (offset_of inner)).x +ℤ outer.x;
  y = (faced outer (offset_of inner)).y +ℤ outer.y;
}

-- ---- limits

-- a coordinate of at most N binary digits
abbrev pub IsWithin : ℕ → ℤ → Type 0
IsWithin digits z = (neg_ℤ (pos (2 ^ digits)) ≤ℤ z) × (z ≤ℤ pos (2 ^ digits))

-- At most N references are inside one another.
pub record IsNear (levels : ℕ) (m : Move) : Type 0 where
  pub left : neg_ℤ (pos (levels * 2 ^ 52)) ≤ℤ m.x
  pub right : m.x ≤ℤ pos (levels * 2 ^ 52)
  pub low : neg_ℤ (pos (levels * 2 ^ 52)) ≤ℤ m.y
  pub high : m.y ≤ℤ pos (levels * 2 ^ 52)
