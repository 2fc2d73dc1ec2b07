use Rattle.std.proofs.Common.{◌≡◌, ◌++◌, ◌||◌, drop}
use Rattle.track_ways.specs.Lines.{is_ahead}
use Rattle.track_ways.specs.Tables.{marked}
use Rattle.track_ways.specs.Ways.{open_of}
use Rattle.track_ways.proofs.line_ways.open_tracks.Given as goal

abbrev pub invariant-loop-t : goal.invariant-loop-t
invariant-loop-t l = l.kept.items ++ open_of l.pins (marked l.before) (λ n. is_ahead l.lines n || marked l.behind n) (drop l.t-index l.tracks) ≡ open_of l.pins (marked l.before) (λ n. is_ahead l.lines n || marked l.behind n) l.tracks
