-- The numbers of taps, in grid units of half a lambda, each with the rule that asks for it, or as a choice of this
-- style. A tap is a pad of active with a contact on it, as those of nodes are, under a select.
use Rattle.std.specs.Prelude.{ℕ}

-- From an end of the cell to the centre of its taps: half a rail, so that the rail's metal is around the contact, as
-- rule 7.3 asks.
abbrev pub TAP_RISE : ℕ
TAP_RISE = 8

-- Half the select over a tap: half of its active (5), and 4 around it by rule 4.2.
abbrev pub HALF_SELECT : ℕ
HALF_SELECT = 9

-- The well past the upper end of the cell. Rule 2.4 asks 3, since taps end 3 below it; a whole lambda is the choice.
abbrev pub WELL_PAST_END : ℕ
WELL_PAST_END = 4

-- Between the lines of two taps: half of their active (5 and 5), and 6 between by rule 2.2.
abbrev pub TAP_SPACE : ℕ
TAP_SPACE = 16

-- From an end of the cell to all that is no rail's metal: a tap and what rule 2.2 asks beyond it end at 19. A whole
-- lambda is the choice: poly past fingers ends there.
abbrev pub TAP_CLEAR : ℕ
TAP_CLEAR = 20

-- The shapes of all taps: three each, and two taps at either line.
abbrev pub TAP_SHAPES : ℕ
TAP_SHAPES = 12

-- The greatest height of a cell that taps are added to, a choice.
abbrev pub MOST_TAPPED_HEIGHT : ℕ
MOST_TAPPED_HEIGHT = 1000000
