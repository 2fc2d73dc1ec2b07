use Rattle.track_ways.proofs.Steps.{ends_listed, step_all, step_behind, step_keys, step_only}
use Rattle.track_ways.proofs.laws.tracks_listed.Goals as goal

pub returns-clause-all : goal.returns-clause-all
returns-clause-all c = step_all

pub returns-clause-only : goal.returns-clause-only
returns-clause-only c = step_only

pub returns-clause-keys : goal.returns-clause-keys
returns-clause-keys c = step_keys

pub returns-clause-behind : goal.returns-clause-behind
returns-clause-behind c = step_behind

pub returns-clause-ends : goal.returns-clause-ends
returns-clause-ends c = ends_listed
