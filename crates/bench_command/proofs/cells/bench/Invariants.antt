use Rattle.bench_command.specs.Bench.{IsTallyOf}
use Rattle.bench_command.specs.Tally.{AreAllEnded, IsWithin}
use Rattle.bench_command.proofs.cells.bench.Given as goal

abbrev pub invariant-loop-cell : goal.invariant-loop-cell
invariant-loop-cell l = IsTallyOf l.text.items l.cell l.tally × AreAllEnded l.cell l.tally × IsWithin l.cell l.tally
