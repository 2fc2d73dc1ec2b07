use Rattle.track_ways.specs.Lines.{StraightFits}
use Rattle.track_ways.specs.StraightLaw.{straight_rule}
use Rattle.track_ways.proofs.Failing.{at_end_by, branch_by, found, more_tracks, needs_more, too_many_open_by, weaker}
use Rattle.track_ways.proofs.net_laws.failures.Goals as goal

pub returns-clause-branch : goal.returns-clause-branch
returns-clause-branch c = branch_by StraightFits straight_rule.again

pub returns-clause-at_end : goal.returns-clause-at_end
returns-clause-at_end c = at_end_by StraightFits

pub returns-clause-needs_more : goal.returns-clause-needs_more
returns-clause-needs_more c = needs_more

pub returns-clause-weaker : goal.returns-clause-weaker
returns-clause-weaker c = weaker

pub returns-clause-too_many_open : goal.returns-clause-too_many_open
returns-clause-too_many_open c = λ pins limit k s track gaps nets gates one each more. too_many_open_by StraightFits straight_rule.own pins limit k s track gaps nets gates one each more

pub returns-clause-more_tracks : goal.returns-clause-more_tracks
returns-clause-more_tracks c = more_tracks

pub returns-clause-found : goal.returns-clause-found
returns-clause-found c = found
