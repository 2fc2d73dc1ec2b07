use Rattle.std.proofs.Common.{◌≡◌, ◌++◌, drop, flat_map}
use Rattle.cell_draw.specs.Layouts.{strips_at}
use Rattle.cell_draw.proofs.plan.strips.Given as goal

abbrev pub invariant-loop-seat : goal.invariant-loop-seat
invariant-loop-seat l = l.strips ++ flat_map (strips_at l.xs) (drop l.seat-index l.seats) ≡ flat_map (strips_at l.xs) l.seats
