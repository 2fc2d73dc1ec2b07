use Rattle.std.proofs.Common.{◌≡◌, ◌||◌, take}
use Rattle.std.specs.List.{flat_map}
use Rattle.track_ways.specs.Lines.{is_ahead}
use Rattle.track_ways.specs.Tables.{marked}
use Rattle.track_ways.specs.Ways.{nets_below}
use Rattle.piece_ways.specs.PieceWays.{out_ways}
use Rattle.piece_ways.proofs.line_ways.tracks_out.Given as goal

abbrev pub invariant-loop-into : goal.invariant-loop-into
invariant-loop-into l = l.ways ≡ flat_map (out_ways l.pins l.limit (nets_below l.nets) (marked l.before) l.line (λ n. is_ahead l.rest n || marked l.after n)) (take l.into-index l.into-items)
