use Rattle.std.proofs.Common.{rules, ◌≡◌, ◌≤ℤ◌, [], ◌++◌, map, drop, arith, subst, sym, pos, slice_index_or, w32, to_z, of_z}
use Rattle.std.proofs.lemmas.List.{drop_all}
use Rattle.std.proofs.lemmas.Int.{to_z-of_z, ints}
use Rattle.box_geom.specs.Banding.{in_band, AreRowOf}
use Rattle.box_geom.specs.Standing.{IsUpTo, IsAdvanced}
use Rattle.box_geom.specs.Sweeping.{AreRangesOf}
use Rattle.box_geom.proofs.Rising.{none_begun, up_rising, standing_here, one_row_up}
use Rattle.box_geom.proofs.Stacks.{AreDone, begun, all_done, one_more_at, next_within, next_above}
use Rattle.box_geom.proofs.Strips.{row_of_standing}
use Rattle.box_geom.proofs.bands.add_bands.Goals as goal

pub loop-high-init : goal.loop-high-init
loop-high-init c =
    let e : c.new-out.result.items ≡ [] = search rules in
    let a : c.new-a.result.items ≡ [] = search rules in
    let b : c.new-b.result.items ≡ [] = search rules in
    let f : to_z w32 (of_z w32 c.args.lowest) ≡ c.args.lowest = grind (arith, to_z-of_z) in (
      subst (λ z. AreDone c.args.operation c.args.first.now c.args.second.now c.new-out.result.items z c.args.rest.now) (sym f)
          (subst (λ z. AreDone c.args.operation c.args.first.now c.args.second.now z c.args.lowest c.args.rest.now) (sym e)
          (begun c.args.operation c.args.first.now c.args.second.now c.args.lowest c.args.rest.now c.requires.first c.requires.second c.requires.cuts)),
      subst (λ z. IsUpTo c.args.first.now c.args.first.now z (to_z w32 (of_z w32 c.args.lowest))) (sym a) (none_begun c.args.first.now (to_z w32 (of_z w32 c.args.lowest))),
      subst (λ z. IsUpTo c.args.second.now c.args.second.now z (to_z w32 (of_z w32 c.args.lowest))) (sym b) (none_begun c.args.second.now (to_z w32 (of_z w32 c.args.lowest))),
    )

pub advance-requires : goal.advance-requires
advance-requires c = up_rising c.args.first.now _ _ _ c.requires.first_rising c.loop-high.invariant.1

pub advance-requires-in-loop-high : goal.advance-requires-in-loop-high
advance-requires-in-loop-high c = up_rising c.args.second.now _ _ _ c.requires.second_rising c.loop-high.invariant.2

pub loop-high-preserved : goal.loop-high-preserved
loop-high-preserved c =
    let low : to_z w32 c.loop-high.low-bits ≡ c.loop-high.low = search rules in
    let done : AreDone c.args.operation c.args.first.now c.args.second.now c.loop-high.out.items c.loop-high.low (drop c.loop-high.high-index c.args.rest.now) = subst (λ z. AreDone c.args.operation c.args.first.now c.args.second.now c.loop-high.out.items z (drop c.loop-high.high-index c.args.rest.now)) low c.loop-high.invariant.0 in
    let within = next_within c.args.operation c.args.first.now c.args.second.now c.loop-high.out.items c.loop-high.low c.args.rest.now c.loop-high.high-index c.loop-high-test.true done in
    let least = within.0 in
    let most = within.1 in
    let above = next_above c.args.operation c.args.first.now c.args.second.now c.loop-high.out.items c.loop-high.low c.args.rest.now c.loop-high.high-index c.loop-high-test.true done in
    let back : to_z w32 (of_z w32 (slice_index_or c.args.rest.now c.loop-high.high-index (pos 0))) ≡ slice_index_or c.args.rest.now c.loop-high.high-index (pos 0) = to_z-of_z w32 (slice_index_or c.args.rest.now c.loop-high.high-index (pos 0)) (omega (arith, ints)) in
    let up : c.loop-high.low ≤ℤ to_z w32 (of_z w32 (slice_index_or c.args.rest.now c.loop-high.high-index (pos 0))) = subst (λ z. c.loop-high.low ≤ℤ z) (sym back) (omega (arith, ints)) in
    let first_up : IsUpTo c.args.first.now c.loop-high.a_rest.now c.loop-high.a.items c.loop-high.low = subst (λ z. IsUpTo c.args.first.now c.loop-high.a_rest.now c.loop-high.a.items z) low c.loop-high.invariant.1 in
    let second_up : IsUpTo c.args.second.now c.loop-high.b_rest.now c.loop-high.b.items c.loop-high.low = subst (λ z. IsUpTo c.args.second.now c.loop-high.b_rest.now c.loop-high.b.items z) low c.loop-high.invariant.2 in
    let first_step : IsAdvanced c.loop-high.a_rest.now c.loop-high.a.items c.loop-high.low c.advance.new.standing.items c.in_ok-a_rest.a_rest.now = search rules in
    let second_step : IsAdvanced c.loop-high.b_rest.now c.loop-high.b.items c.loop-high.low c.advance-in-loop-high.new.standing.items c.in_ok-b_rest.b_rest.now = search rules in
    let ranges : AreRangesOf c.args.operation c.advance.new.standing.items c.advance-in-loop-high.new.standing.items c.in_ok-row.row.items = search rules in
    let row : AreRowOf c.args.operation c.args.first.now c.args.second.now c.loop-high.low c.in_ok-row.row.items = row_of_standing c.args.operation c.args.first.now c.args.second.now c.advance.new.standing.items c.advance-in-loop-high.new.standing.items c.loop-high.low c.in_ok-row.row.items (standing_here c.args.first.now c.loop-high.a_rest.now c.loop-high.a.items c.advance.new.standing.items c.in_ok-a_rest.a_rest.now c.loop-high.low first_up first_step) (standing_here c.args.second.now c.loop-high.b_rest.now c.loop-high.b.items c.advance-in-loop-high.new.standing.items c.in_ok-b_rest.b_rest.now c.loop-high.low second_up second_step) ranges in
    let more : c.add_band.new.out.items ≡ c.loop-high.out.items ++ map (in_band c.loop-high.low (slice_index_or c.args.rest.now c.loop-high.high-index (pos 0))) c.in_ok-row.row.items = search rules in (
      one_more_at c.args.operation c.args.first.now c.args.second.now c.loop-high.out.items c.add_band.new.out.items c.loop-high.low (to_z w32 (of_z w32 (slice_index_or c.args.rest.now c.loop-high.high-index (pos 0)))) c.args.rest.now c.loop-high.high-index c.in_ok-row.row.items c.requires.first c.requires.second c.loop-high-test.true back done row more,
      one_row_up c.args.first.now c.loop-high.a_rest.now c.loop-high.a.items c.advance.new.standing.items c.in_ok-a_rest.a_rest.now c.loop-high.low (to_z w32 (of_z w32 (slice_index_or c.args.rest.now c.loop-high.high-index (pos 0)))) up first_up first_step,
      one_row_up c.args.second.now c.loop-high.b_rest.now c.loop-high.b.items c.advance-in-loop-high.new.standing.items c.in_ok-b_rest.b_rest.now c.loop-high.low (to_z w32 (of_z w32 (slice_index_or c.args.rest.now c.loop-high.high-index (pos 0)))) up second_up second_step,
    )

pub returns : goal.returns
returns c =
    let e : drop c.loop-high.high-index c.args.rest.now ≡ [] = drop_all c.loop-high.high-index c.args.rest.now (omega arith) in
    all_done c.args.operation c.args.first.now c.args.second.now c.loop-high.out.items (to_z w32 c.loop-high.low-bits) (subst (λ z. AreDone c.args.operation c.args.first.now c.args.second.now c.loop-high.out.items (to_z w32 c.loop-high.low-bits) z) e c.loop-high.invariant.0)
