use Rattle.end_prune.proofs.Ends.{is_pruned}
use Rattle.end_prune.proofs.prune.pruned.Goals as goal

pub returns : goal.returns
returns g c =
    is_pruned (g.E.EndSteps.steps c.args.steps.now) c.args.levels.now c.args.start.now c.ends_proved-ends.result
    c.as_slice-slice.result.now c.into_vec-all.result.items c.args.lemmas c.in_ok-kept.kept c.in_ok-marks.marks.items
    c.as_slice-slice.ensures.value c.into_vec-all.ensures
    c.ends_proved-ends.ensures c.in_ok-marks.ensures c.in_ok-kept.ensures
