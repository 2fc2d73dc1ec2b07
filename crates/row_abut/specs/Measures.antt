-- The numbers of a row, in grid units of half a lambda, each with the rule that asks for it, or as a choice.
use Rattle.std.specs.Prelude.{ℕ}

-- the most cells of a row, a choice
abbrev pub MOST_CELLS : ℕ
MOST_CELLS = 16

-- How far from 0 widths, channel edges and coordinates of cells may lie, a choice: twice the 1,000,000 that a line of
-- a drawing may have.
abbrev pub MOST_REACH : ℕ
MOST_REACH = 2000000

-- From the N edge of a cell to the P edge of its neighbour: the well goes 12 past its row, and rule 2.3 asks 12 from
-- there to the active of the N row.
abbrev pub CHANNEL_ROOM : ℕ
CHANNEL_ROOM = 24

-- The least width of a cell between two others: the well goes 10 past the sides of its cell, rule 2.3 asks 12 from
-- there to active, which is 3 inside.
abbrev pub LEAST_INNER : ℕ
LEAST_INNER = 19
