use Rattle.std.proofs.Common.{rules, ◌≡◌, ◌≤◌, ◌||◌, ap, length, take, take_all, ◌∙◌}
use Rattle.std.specs.List.{flat_map}
use Rattle.track_ways.specs.Lines.{is_ahead}
use Rattle.track_ways.specs.Tables.{marked}
use Rattle.track_ways.specs.Ways.{nets_below}
use Rattle.piece_ways.specs.PieceWays.{out_ways}
use Rattle.piece_ways.proofs.Listing.{into_fit, out_more}
use Rattle.piece_ways.proofs.line_ways.tracks_out.Goals as goal

pub add_out-requires : goal.add_out-requires
add_out-requires c = record {
  fit =
      into_fit c.args.pins.now c.args.limit (nets_below c.args.nets) (marked c.args.before.now) c.args.line.now (λ n. is_ahead c.args.rest.now n || marked c.args.after.now n) c.args.tracks.items c.in_ok-here.here c.as_slice-into-items.result.now c.loop-into.into-index c.into-item.result c.as_slice.result.now
      c.in_ok-here.ensures c.as_slice-into-items.ensures c.into-item.is c.loop-into-test.true c.as_slice.ensures;
}

pub loop-into-preserved : goal.loop-into-preserved
loop-into-preserved c =
    out_more (out_ways c.args.pins.now c.args.limit (nets_below c.args.nets) (marked c.args.before.now) c.args.line.now (λ n. is_ahead c.args.rest.now n || marked c.args.after.now n)) c.as_slice-into-items.result.now c.loop-into.into-index c.into-item.result c.as_slice.result.now c.loop-into.ways c.add_out.new.ways
    c.loop-into.invariant c.into-item.is c.loop-into-test.true c.as_slice.ensures c.in_ok-add_out.ensures

pub returns : goal.returns
returns c =
    let all : length c.as_slice-into-items.result.now ≤ c.loop-into.into-index = search rules in
    let so_far : c.loop-into.ways ≡ flat_map (out_ways c.args.pins.now c.args.limit (nets_below c.args.nets) (marked c.args.before.now) c.args.line.now (λ n. is_ahead c.args.rest.now n || marked c.args.after.now n)) (take c.loop-into.into-index c.as_slice-into-items.result.now) = c.loop-into.invariant in
    so_far ∙ ap (flat_map (out_ways c.args.pins.now c.args.limit (nets_below c.args.nets) (marked c.args.before.now) c.args.line.now (λ n. is_ahead c.args.rest.now n || marked c.args.after.now n))) (take_all c.loop-into.into-index c.as_slice-into-items.result.now all ∙ c.as_slice-into-items.ensures ∙ c.in_ok-here.ensures)
