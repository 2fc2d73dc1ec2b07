-- The measures of a drawing, in grid units of half a lambda, each with the rule that asks for it, or as a choice of
-- this style. Those between lines are in `row_compact`.
use Rattle.std.specs.Prelude.{ℕ}

-- Half a contact or a via: rules 5.1 and 8.1 make each 4 wide.
abbrev pub HALF_CUT : ℕ
HALF_CUT = 2

-- Half a gate: rule 3.1 asks poly to be 4 wide.
abbrev pub HALF_GATE : ℕ
HALF_GATE = 2

-- The length of a gate, which is twice `HALF_GATE`.
abbrev pub GATE_LENGTH : ℕ
GATE_LENGTH = 4

-- Half a pad, the square of active or poly around a contact: half the contact (2), and 3 around it by rules 5.2
-- and 6.2.
abbrev pub HALF_PAD : ℕ
HALF_PAD = 5

-- Half the width of a strap, a trunk or a piece of metal2, and how far each goes past the centre of its last contact
-- or via: half of that (2), and 2 around it by rules 7.3, 8.3 and 9.3. So metal is 8 wide; rules 7.1 and 9.1 ask 6.
abbrev pub HALF_METAL : ℕ
HALF_METAL = 4

-- Poly past the outer end of a finger: rule 3.3.
abbrev pub END_CAP : ℕ
END_CAP = 4

-- The well past the channel edge of the P row: rule 2.3. Beyond the row's outer end it goes to the end of the cell.
abbrev pub WELL_PAST_ROW : ℕ
WELL_PAST_ROW = 12

-- The well past the sides of the cell. Rule 2.3 asks 9, since pads are 3 inside; a whole lambda is the choice.
abbrev pub WELL_PAST_SIDE : ℕ
WELL_PAST_SIDE = 10

-- A select past both ends of its row: rule 4.2.
abbrev pub SELECT_PAST_ROW : ℕ
SELECT_PAST_ROW = 4

-- A select past the sides of the cell. Rule 4.2 asks 1, since pads are 3 inside; a whole lambda is the choice.
abbrev pub SELECT_PAST_SIDE : ℕ
SELECT_PAST_SIDE = 2

-- The height of a rail, a choice: rule 7.1 asks 6.
abbrev pub RAIL : ℕ
RAIL = 16

-- Between a rail and its row, a choice: poly past the fingers and the select (4), and 4 clear of the rail.
abbrev pub RAIL_GAP : ℕ
RAIL_GAP = 8

-- From the end of the cell to its row: `RAIL` and `RAIL_GAP`.
abbrev pub ROW_EDGE : ℕ
ROW_EDGE = 24

-- The least height of a row: that of a pad.
abbrev pub LEAST_ROW : ℕ
LEAST_ROW = 10

-- From a row into the channel, to the centre of a landing via: half the via (2), and by rule 8.5 the active of the
-- row before it (4).
abbrev pub LANDING : ℕ
LANDING = 6

-- From a row to the nearest track: the strap to past the landing via (10), rule 7.2 between it and the trunk (6),
-- half the trunk (4).
abbrev pub EDGE_SPACE : ℕ
EDGE_SPACE = 20

-- The least height of a channel: `EDGE_SPACE` on both sides of one track.
abbrev pub LEAST_CHANNEL : ℕ
LEAST_CHANNEL = 40

-- Between two tracks. At one line metal2 may end on both: past each it goes 4 (8), and rule 9.2 is between (8). Pads
-- on neighbouring tracks keep 6, as rule 3.2 asks, and trunks 8.
abbrev pub TRACK_PITCH : ℕ
TRACK_PITCH = 16

-- A label's point on a finger, from its channel edge, a choice: fingers are 6 wide or wider.
abbrev pub LABEL_ON_FINGER : ℕ
LABEL_ON_FINGER = 4

-- A label's point on a gate, into the channel, a choice: poly is there from row to row, or goes 4 past the fingers.
abbrev pub LABEL_ON_GATE : ℕ
LABEL_ON_GATE = 2

-- A label's point on the gnd rail, from the rail's lower end: half of `RAIL`.
abbrev pub LABEL_ON_GND : ℕ
LABEL_ON_GND = 8

-- A label's point on the vdd rail, from the outer end of the P row: `RAIL_GAP`, and half of `RAIL`.
abbrev pub LABEL_ON_VDD : ℕ
LABEL_ON_VDD = 16
