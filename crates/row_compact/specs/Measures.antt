-- The distances that lines keep, in grid units of half a lambda. Each is what shapes take on both sides and the rule
-- of the profile between them.
use Rattle.std.specs.Prelude.{ℕ}

-- From the left side of the cell to the first line, and from the last line to the right side: half a metal2 wire (4),
-- and half of what rule 9.2 keeps between it and one of the next cell (4).
abbrev pub SIDE_SPACE : ℕ
SIDE_SPACE = 8

-- Between neighbouring lines: half a gate (2), and by rule 3.4 the diffusion past it (6).
abbrev pub LINE_SPACE : ℕ
LINE_SPACE = 8

-- Between a node line with a contact and the gate line of a column: half a via (2), rule 8.5 between it and poly (4),
-- half the pad of a gate (5).
abbrev pub CONTACT_SPACE : ℕ
CONTACT_SPACE = 11

-- Between two stretches of a track: the ends of both past their lines (4 and 4), rule 7.2 between them (6).
abbrev pub STRETCH_SPACE : ℕ
STRETCH_SPACE = 14
