use Rattle.track_ways.proofs.Crowded.{none_at_end, none_through}
use Rattle.track_ways.proofs.Steps.{ends_listed_by, step_all_by, step_keys_by, step_only_by}
use Rattle.track_ways.proofs.Whole.{again_by}
use Rattle.track_ways.proofs.laws.tracks_listed_by.Goals as goal

pub returns-clause-all : goal.returns-clause-all
returns-clause-all g c = step_all_by g.met.R.TrackRule.is_rule

pub returns-clause-only : goal.returns-clause-only
returns-clause-only g c = step_only_by g.met.R.TrackRule.is_rule

pub returns-clause-keys : goal.returns-clause-keys
returns-clause-keys g c = step_keys_by g.met.R.TrackRule.is_rule

pub returns-clause-ends : goal.returns-clause-ends
returns-clause-ends g c = ends_listed_by g.met.R.TrackRule.is_rule

pub returns-clause-crowded : goal.returns-clause-crowded
returns-clause-crowded g c = none_through g.met.R.TrackRule.is_rule

pub returns-clause-crowded_end : goal.returns-clause-crowded_end
returns-clause-crowded_end g c = none_at_end g.met.R.TrackRule.is_rule

pub returns-clause-again : goal.returns-clause-again
returns-clause-again g c = again_by g.R.TrackRule.fits g.met.R.TrackRule.is_rule.again
