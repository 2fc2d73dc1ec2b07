use Rattle.std.proofs.lemmas.Option.{MatchOption-at_none, MatchOption-at_some}
use Rattle.cell_inputs.specs.declared.style.Wiring.TheVariants.{Straight}
use Rattle.cell_make.specs.LowRows.{IsRinged, IsWired}
use Rattle.cell_make.proofs.low_planned.LowPlanned.straight.Goals as goal

pub by_least-requires-clause-wired : goal.by_least-requires-clause-wired
by_least-requires-clause-wired c = MatchOption-at_none (IsWired Straight c.args.inputs.now c.args.row.now) (IsRinged Straight c.args.inputs.now c.args.row.now) c.in-None.is c.requires.ring

pub by_cycles-requires-clause-ring : goal.by_cycles-requires-clause-ring
by_cycles-requires-clause-ring c = MatchOption-at_some (IsWired Straight c.args.inputs.now c.args.row.now) (IsRinged Straight c.args.inputs.now c.args.row.now) c.in-Some.ring c.in-Some.is c.requires.ring
