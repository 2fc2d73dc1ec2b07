use Rattle.std.proofs.Common.{◌≡◌, ◌++◌, drop}
use Rattle.std.specs.List.{enumerate_from, flat_map}
use Rattle.bench_command.specs.Cells.{second_inputs}
use Rattle.bench_command.proofs.pins.add_second_inputs.Given as goal

abbrev pub invariant-stages : goal.invariant-stages
invariant-stages l =
    l.pins ++ flat_map second_inputs (enumerate_from l.place (drop l.place l.stages))
    ≡ l.fn.pins ++ flat_map second_inputs (enumerate_from 0 l.stages)
