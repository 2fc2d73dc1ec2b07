use Rattle.std.proofs.Common.{◌≡◌}
use Rattle.std.specs.List.{flat_map, range_with_len}
use Rattle.bench_command.specs.Text.{cell_text}
use Rattle.bench_command.proofs.text.bench_text.Given as goal

abbrev pub invariant-loop-cell : goal.invariant-loop-cell
invariant-loop-cell l = l.out ≡ flat_map cell_text (range_with_len 0 l.cell)
