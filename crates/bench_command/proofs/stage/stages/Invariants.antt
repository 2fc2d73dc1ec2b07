use Rattle.std.proofs.Common.{◌≡◌, ◌+◌, map}
use Rattle.std.specs.List.{range_with_len}
use Rattle.bench_command.specs.Draws.{state_before}
use Rattle.bench_command.specs.Cells.{stage_at, stage_count}
use Rattle.bench_command.proofs.stage.stages.Given as goal

abbrev pub invariant-stages : goal.invariant-stages
invariant-stages l =
    (l.count ≡ stage_count l.cell)
    × (l.draws.state ≡ state_before l.cell (l.counter + 1))
    × (l.stages ≡ map (stage_at l.cell) (range_with_len 0 l.counter))
