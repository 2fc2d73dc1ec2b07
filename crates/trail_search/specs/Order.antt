-- The gates of some fingers.
use Rattle.std.specs.Prelude.{ℕ, Bool, ◌||◌, ltb, List, map}
use Rattle.std.specs.List.{filter, range_with_len}
use Rattle.cell_num.specs.declared.net.NetNo.{NetNo}
use Rattle.cell_num.specs.declared.finger.Fingers.{Fingers}
use Rattle.cell_num.specs.Fingers.{on_gate}

abbrev pub has_finger : Fingers → ℕ → Bool
has_finger f gate = ltb 0 (on_gate gate f.p) || ltb 0 (on_gate gate f.n)

-- in the order of their numbers
abbrev pub gates_of : Fingers → List NetNo
gates_of f = map (λ g. record { 0 = g }) (filter (has_finger f) (range_with_len 0 f.nets))
