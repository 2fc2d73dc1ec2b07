use Rattle.std.proofs.Common.{◌∙◌}
use Rattle.bench_command.proofs.Held.{name_is_cell, never_refused, never_unfolded}
use Rattle.bench_command.proofs.read.bench_inputs.Goals as goal

pub unreachable-requires : goal.unreachable-requires
unreachable-requires c = never_refused c.args.text.now c.in_ok-name.name c.in_ok-tech.tech c.args.cell c.in-Err.fault c.requires.holds c.in_ok-name.ensures c.in_ok-tech.ensures.plain (c.in-Err.ensures.fault c.in_default.not-NoMemory)

pub unreachable-requires-in_default-fault : goal.unreachable-requires-in_default-fault
unreachable-requires-in_default-fault c = never_unfolded c.args.text.now c.in_ok-name.name c.in_ok-tech.tech c.args.cell c.in-Ok.subckt c.in-Err-fold.fault c.requires.holds c.in_ok-name.ensures c.in_ok-tech.ensures.plain c.in-Ok.ensures.cell (c.in-Err-fold.ensures.fault c.in_default-fault.not-NoMemory)

pub invariant_of-result : goal.invariant_of-result
invariant_of-result c = record {
  tech = c.show_limits.ensures;
  cell = name_is_cell c.in-Ok.subckt.name c.args.cell c.ranges.cell.fits (c.in-Ok.ensures.name ∙ c.in_ok-name.ensures);
  nets = c.in-Ok.ensures.named;
  pins = c.in-Ok.ensures.pins;
  directions = c.in-Ok.ensures.directions;
  fingers = c.in-Ok-fold.ensures.asked;
  some = c.in-Ok-fold.ensures.some c.in-Ok.ensures.some;
  sound = c.in-Ok-fold.ensures.sound;
}
