use Rattle.track_ways.proofs.Failing.{at_end_by, branch_by, needs_more_by, too_many_open_by, weaker_by}
use Rattle.track_ways.proofs.net_laws.failures_by.Goals as goal

pub returns-clause-branch : goal.returns-clause-branch
returns-clause-branch g c = branch_by g.R.TrackRule.fits g.met.R.TrackRule.is_rule.again

pub returns-clause-at_end : goal.returns-clause-at_end
returns-clause-at_end g c = at_end_by g.R.TrackRule.fits

pub returns-clause-needs_more : goal.returns-clause-needs_more
returns-clause-needs_more g c = needs_more_by g.R.TrackRule.fits

pub returns-clause-weaker : goal.returns-clause-weaker
returns-clause-weaker g c = weaker_by g.R.TrackRule.fits g.met.R.TrackRule.is_rule.again

pub returns-clause-too_many_open : goal.returns-clause-too_many_open
returns-clause-too_many_open g c = λ pins limit k s track gaps nets gates one each more. too_many_open_by g.R.TrackRule.fits g.met.R.TrackRule.is_rule.own pins limit k s track gaps nets gates one each more
