use Rattle.bound_log.proofs.Texts.{next_full, on_err}
use Rattle.bound_log.proofs.spell.put_more_counts.Goals as goal

pub returns-in_err-put_next_count-clause-full : goal.returns-in_err-put_next_count-clause-full
returns-in_err-put_next_count-clause-full g c =
    on_err c.from_residual.result _ (next_full c.args.counts.now c.loop-count.count-index _ (g.O.Out.room c.args.out.now) (g.O.Out.room c.loop-count.out) c.loop-count-test.true c.loop-count.invariant.1 c.in_err-put_next_count.ensures.full)
