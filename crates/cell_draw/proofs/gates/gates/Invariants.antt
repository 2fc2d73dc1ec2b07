use Rattle.std.proofs.Common.{◌≡◌, ◌++◌, drop}
use Rattle.cell_draw.specs.Layouts.{gates_on}
use Rattle.cell_draw.proofs.gates.gates.Given as goal

abbrev pub invariant-loop-seat : goal.invariant-loop-seat
invariant-loop-seat l = l.gates ++ gates_on l.frame l.trunks l.xs (drop l.seat-index l.seats) ≡ gates_on l.frame l.trunks l.xs l.seats
