use Rattle.track_ways.proofs.Crowded.{none_at_end, none_through}
use Rattle.track_ways.proofs.Steps.{ends_listed_by, step_all_by, step_keys_by, step_only_by}
use Rattle.piece_ways.specs.TurningLaw.{turning_rule}
use Rattle.piece_ways.proofs.laws.piece_tracks_listed.Goals as goal

pub returns-clause-all : goal.returns-clause-all
returns-clause-all c = step_all_by turning_rule

pub returns-clause-only : goal.returns-clause-only
returns-clause-only c = step_only_by turning_rule

pub returns-clause-keys : goal.returns-clause-keys
returns-clause-keys c = step_keys_by turning_rule

pub returns-clause-ends : goal.returns-clause-ends
returns-clause-ends c = ends_listed_by turning_rule

pub returns-clause-crowded : goal.returns-clause-crowded
returns-clause-crowded c = none_through turning_rule

pub returns-clause-crowded_end : goal.returns-clause-crowded_end
returns-clause-crowded_end c = none_at_end turning_rule
