use Rattle.std.proofs.Common.{arith, inr, length, ◌≤◌, ◌-◌}
use Rattle.track_ways.specs.Certificate.{CertifiesBy}
use Rattle.track_search.specs.Kept.{AreKeptBy, IsSpentBelowBy}
use Rattle.track_search.proofs.LeastBy.{prove_more}
use Rattle.track_search.proofs.Spent.{one_tried, tried_kept, tried_spent, within_most}
use Rattle.track_search.proofs.fewest.try_limits.Goals as goal

pub returns-in-Spent-clause-open : goal.returns-in-Spent-clause-open
returns-in-Spent-clause-open g c =
    let spent : IsSpentBelowBy g.R.TrackRule.fits (g.B.RowBound.value c.args.task.now.bound.now) c.args.task.now.pins.now c.loop-limit.limit c.args.task.now.kinds.now c.args.task.now.gaps c.loop-limit.budget = rw c.in-Spent.is at c.in_ok-row.ensures.kept in
    inr (tried_spent g.R.TrackRule.fits (g.B.RowBound.value c.args.task.now.bound.now) c.args.task.now.pins.now c.args.task.now.kinds.now c.args.task.now.gaps c.loop-limit.limit c.loop-limit.budget c.args.task.now.budget c.loop-limit.lemmas c.loop-limit.invariant.2 spent)

pub returns-in-Spent-clause-kept : goal.returns-in-Spent-clause-kept
returns-in-Spent-clause-kept g c = tried_kept g.R.TrackRule.fits (g.B.RowBound.value c.args.task.now.bound.now) c.args.task.now.pins.now c.args.task.now.kinds.now c.args.task.now.gaps c.loop-limit.limit c.loop-limit.budget c.args.task.now.budget c.loop-limit.lemmas c.loop-limit.invariant.2

pub returns-in-Found-clause-kept : goal.returns-in-Found-clause-kept
returns-in-Found-clause-kept g c = tried_kept g.R.TrackRule.fits (g.B.RowBound.value c.args.task.now.bound.now) c.args.task.now.pins.now c.args.task.now.kinds.now c.args.task.now.gaps c.loop-limit.limit c.loop-limit.budget c.args.task.now.budget c.loop-limit.lemmas c.loop-limit.invariant.2

pub loop-limit-preserved : goal.loop-limit-preserved
loop-limit-preserved g c =
    let certified : CertifiesBy g.R.TrackRule.fits (g.B.RowBound.value c.args.task.now.bound.now) c.args.task.now.pins.now c.loop-limit.limit c.args.task.now.kinds.now c.args.task.now.gaps c.in-Refuted.next = rw c.in-Refuted.is at c.in_ok-row.ensures.end in
    let kept : AreKeptBy g.R.TrackRule.fits (g.B.RowBound.value c.args.task.now.bound.now) c.args.task.now.pins.now c.loop-limit.limit c.args.task.now.kinds.now c.args.task.now.gaps c.in-Refuted.next × (length c.in-Refuted.next ≤ c.loop-limit.budget) = rw c.in-Refuted.is at c.in_ok-row.ensures.kept in (
      prove_more g.R.TrackRule.fits (g.B.RowBound.value c.args.task.now.bound.now) c.args.task.now.pins.now c.loop-limit.limit c.args.task.now.kinds.now c.args.task.now.gaps c.in-Refuted.next certified,
      within_most c.args.task.now.kinds.now c.loop-limit.limit c.args.most c.args.task.now.gaps c.in-Refuted.next (omega (arith, c.loop-limit-test.true)) kept.0.within,
      one_tried g.R.TrackRule.fits (g.B.RowBound.value c.args.task.now.bound.now) c.args.task.now.pins.now c.args.task.now.kinds.now c.args.task.now.gaps c.loop-limit.limit c.loop-limit.budget (c.loop-limit.budget - c.len.result) c.args.task.now.budget c.loop-limit.lemmas c.in-Refuted.next c.loop-limit.invariant.2 kept.0 (omega (arith, kept.1, c.len.ensures)),
      c.in_ok-row.ensures.trails,
    )
