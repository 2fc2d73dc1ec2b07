use Rattle.track_ways.proofs.Tracks.{one_track, sweep, chosen_same, chosen_fits}
use Rattle.track_ways.proofs.line_laws.tracks_by_lines.Goals as goal

pub returns-clause-one : goal.returns-clause-one
returns-clause-one c = λ pins limit before track lines s. let r = one_track pins limit before track lines s in (r.of, r.agrees, r.fits)

pub returns-clause-each : goal.returns-clause-each
returns-clause-each c = λ pins limit before track lines of agrees fits. sweep pins limit before track of lines agrees fits

pub returns-clause-chosen : goal.returns-clause-chosen
returns-clause-chosen c = λ pins limit before line behind track next agrees f. (chosen_fits pins limit before line behind track next agrees f, λ net h. chosen_same pins before line behind track next agrees net h)
