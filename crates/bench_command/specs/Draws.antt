-- The draws of a linear congruential generator: the state x goes over to (1103515245 x + 12345) mod 2^31, and a draw
-- is the new state less its low 16 bits.
use Rattle.std.specs.Prelude.{ℕ, zero, suc, ◌+◌, ◌*◌, ◌/◌, ◌%◌}

abbrev pub next : ℕ → ℕ
next state = (state * 1103515245 + 12345) % 2147483648

-- the state before each draw, the draws numbered from 0
abbrev pub state_before : ℕ → ℕ → ℕ
state_before seed zero = seed
state_before seed (suc draw) = next (state_before seed draw)

abbrev pub draw_of : ℕ → ℕ
draw_of state = next state / 65536

-- the sequence of the draws
abbrev pub draw : ℕ → ℕ → ℕ
draw seed number = draw_of (state_before seed number)
