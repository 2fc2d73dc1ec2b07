use Rattle.std.proofs.Common.{sym, subst}
use Rattle.cell_make.specs.Making.{answer_of}
use Rattle.bench_command.specs.Tally.{AreAllEnded, IsWithin}
use Rattle.bench_command.proofs.Counted.{counted_within, plain_comes}
use Rattle.bench_command.proofs.Ended.{cell_ends}
use Rattle.bench_command.proofs.cells.count_cell.Goals as goal

pub returns-clause-counted : goal.returns-clause-counted
returns-clause-counted c = (record { inputs = c.in_ok-inputs.inputs; answer = answer_of c.in_ok-outcome.outcome }, record { read = c.in_ok-inputs.ensures; makes = (plain_comes c.plain.result c.in_ok-inputs.inputs c.in_ok-outcome.outcome c.plain.ensures c.in_ok-outcome.ensures.comes).0 }, c.counted-tally.ensures)

pub returns-clause-ended : goal.returns-clause-ended
returns-clause-ended c = subst (AreAllEnded 1) (sym c.counted-tally.ensures) (cell_ends c.args.text.now c.args.cell c.in_ok-inputs.inputs (answer_of c.in_ok-outcome.outcome) c.requires.holds c.in_ok-inputs.ensures (plain_comes c.plain.result c.in_ok-inputs.inputs c.in_ok-outcome.outcome c.plain.ensures c.in_ok-outcome.ensures.comes).0)

pub returns-clause-few : goal.returns-clause-few
returns-clause-few c = subst (IsWithin 1) (sym c.counted-tally.ensures) (counted_within c.in_ok-inputs.inputs c.in_ok-outcome.outcome c.show_limits.ensures (plain_comes c.plain.result c.in_ok-inputs.inputs c.in_ok-outcome.outcome c.plain.ensures c.in_ok-outcome.ensures.comes) c.in_ok-outcome.ensures.written)
