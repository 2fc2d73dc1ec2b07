use Rattle.std.proofs.Common.{◌||◌, ap, ◌∙◌}
use Rattle.track_ways.specs.Lines.{is_ahead}
use Rattle.track_ways.specs.Tables.{marked}
use Rattle.track_ways.specs.Ways.{test_beside}
use Rattle.piece_ways.proofs.Listing.{straight_fit}
use Rattle.piece_ways.proofs.line_ways.add_out.Goals as goal

pub add_beside-requires : goal.add_beside-requires
add_beside-requires c = record {
  fit =
      ap (test_beside c.args.limit c.args.line.now c.args.into.now) c.in_ok-kept.ensures
      ∙ straight_fit c.args.pins.now c.args.limit (marked c.args.before.now) c.args.line.now (λ n. is_ahead c.args.rest.now n || marked c.args.after.now n) c.args.into.now c.requires.fit;
}
