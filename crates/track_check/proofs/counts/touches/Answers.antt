use Rattle.std.proofs.Common.{◌≡◌, ◌≤◌, ap, arith, replicate, ◌∙◌}
use Rattle.row_trails.specs.Counts.{entry}
use Rattle.row_state.specs.declared.kind.Kinds.{Kinds}
use Rattle.track_ways.specs.Lines.{is_net}
use Rattle.track_ways.specs.Ways.{net_of}
use Rattle.track_check.specs.Touches.{row_touches}
use Rattle.track_check.proofs.Around.{zero_at}
use Rattle.track_check.proofs.Counting.{first_few, from_none, if_few, row_same, state_touched, touched_n_few, touched_p_few}
use Rattle.track_check.proofs.counts.touches.Goals as goal

pub add_row-requires-clause-few : goal.add_row-requires-clause-few
add_row-requires-clause-few c = λ u.
    let same_p : row_touches c.as_slice.result.now c.as_slice-2.result.now u ≡ row_touches c.args.kinds.now.p c.args.state.now.p_left u = row_same c.as_slice.result.now c.args.kinds.now.p c.as_slice-2.result.now c.args.state.now.p_left u (c.as_slice.ensures ∙ ap (λ (k : Kinds). k.p) c.kinds.view_is) c.as_slice-2.ensures in
    let few : row_touches c.as_slice.result.now c.as_slice-2.result.now u ≤ 96 = omega (arith, same_p, touched_p_few c.args.kinds.now c.args.state.now u c.show_limits.ensures c.requires.state) in
    first_few (replicate 256 0) u (row_touches c.as_slice.result.now c.as_slice-2.result.now u) (zero_at 256 u) few

pub add_row-requires-2-clause-few : goal.add_row-requires-2-clause-few
add_row-requires-2-clause-few c = λ u.
    let same_p : row_touches c.as_slice.result.now c.as_slice-2.result.now u ≡ row_touches c.args.kinds.now.p c.args.state.now.p_left u = row_same c.as_slice.result.now c.args.kinds.now.p c.as_slice-2.result.now c.args.state.now.p_left u (c.as_slice.ensures ∙ ap (λ (k : Kinds). k.p) c.kinds.view_is) c.as_slice-2.ensures in
    let same_n : row_touches c.as_slice-3.result.now c.as_slice-4.result.now u ≡ row_touches c.args.kinds.now.n c.args.state.now.n_left u = row_same c.as_slice-3.result.now c.args.kinds.now.n c.as_slice-4.result.now c.args.state.now.n_left u (c.as_slice-3.ensures ∙ ap (λ (k : Kinds). k.n) c.kinds.view_is) c.as_slice-4.ensures in
    let first : entry c.add_row.new.table u ≡ row_touches c.as_slice.result.now c.as_slice-2.result.now u = from_none (replicate 256 0) c.add_row.new.table u (row_touches c.as_slice.result.now c.as_slice-2.result.now u) (zero_at 256 u) (c.add_row.ensures u) in
    omega (arith, first, same_p, same_n, touched_p_few c.args.kinds.now c.args.state.now u c.show_limits.ensures c.requires.state, touched_n_few c.args.kinds.now c.args.state.now u c.show_limits.ensures c.requires.state)

pub add_end-requires-clause-few : goal.add_end-requires-clause-few
add_end-requires-clause-few c = λ u.
    let same_p : row_touches c.as_slice.result.now c.as_slice-2.result.now u ≡ row_touches c.args.kinds.now.p c.args.state.now.p_left u = row_same c.as_slice.result.now c.args.kinds.now.p c.as_slice-2.result.now c.args.state.now.p_left u (c.as_slice.ensures ∙ ap (λ (k : Kinds). k.p) c.kinds.view_is) c.as_slice-2.ensures in
    let same_n : row_touches c.as_slice-3.result.now c.as_slice-4.result.now u ≡ row_touches c.args.kinds.now.n c.args.state.now.n_left u = row_same c.as_slice-3.result.now c.args.kinds.now.n c.as_slice-4.result.now c.args.state.now.n_left u (c.as_slice-3.ensures ∙ ap (λ (k : Kinds). k.n) c.kinds.view_is) c.as_slice-4.ensures in
    let first : entry c.add_row.new.table u ≡ row_touches c.as_slice.result.now c.as_slice-2.result.now u = from_none (replicate 256 0) c.add_row.new.table u (row_touches c.as_slice.result.now c.as_slice-2.result.now u) (zero_at 256 u) (c.add_row.ensures u) in
    omega (arith, first, c.add_row-2.ensures u, same_p, same_n, touched_p_few c.args.kinds.now c.args.state.now u c.show_limits.ensures c.requires.state, touched_n_few c.args.kinds.now c.args.state.now u c.show_limits.ensures c.requires.state)

pub add_end-requires-2-clause-few : goal.add_end-requires-2-clause-few
add_end-requires-2-clause-few c = λ u.
    let same_p : row_touches c.as_slice.result.now c.as_slice-2.result.now u ≡ row_touches c.args.kinds.now.p c.args.state.now.p_left u = row_same c.as_slice.result.now c.args.kinds.now.p c.as_slice-2.result.now c.args.state.now.p_left u (c.as_slice.ensures ∙ ap (λ (k : Kinds). k.p) c.kinds.view_is) c.as_slice-2.ensures in
    let same_n : row_touches c.as_slice-3.result.now c.as_slice-4.result.now u ≡ row_touches c.args.kinds.now.n c.args.state.now.n_left u = row_same c.as_slice-3.result.now c.args.kinds.now.n c.as_slice-4.result.now c.args.state.now.n_left u (c.as_slice-3.ensures ∙ ap (λ (k : Kinds). k.n) c.kinds.view_is) c.as_slice-4.ensures in
    let first : entry c.add_row.new.table u ≡ row_touches c.as_slice.result.now c.as_slice-2.result.now u = from_none (replicate 256 0) c.add_row.new.table u (row_touches c.as_slice.result.now c.as_slice-2.result.now u) (zero_at 256 u) (c.add_row.ensures u) in
    omega (arith, first, c.add_row-2.ensures u, c.add_end.ensures u, if_few (is_net c.args.state.now.p_end (net_of u)), same_p, same_n, touched_p_few c.args.kinds.now c.args.state.now u c.show_limits.ensures c.requires.state, touched_n_few c.args.kinds.now c.args.state.now u c.show_limits.ensures c.requires.state)

pub returns : goal.returns
returns c = record {
  touches = state_touched c.args.kinds.now c.args.state.now c.add_end-2.new.table (λ u.
      let same_p : row_touches c.as_slice.result.now c.as_slice-2.result.now u ≡ row_touches c.args.kinds.now.p c.args.state.now.p_left u = row_same c.as_slice.result.now c.args.kinds.now.p c.as_slice-2.result.now c.args.state.now.p_left u (c.as_slice.ensures ∙ ap (λ (k : Kinds). k.p) c.kinds.view_is) c.as_slice-2.ensures in
      let same_n : row_touches c.as_slice-3.result.now c.as_slice-4.result.now u ≡ row_touches c.args.kinds.now.n c.args.state.now.n_left u = row_same c.as_slice-3.result.now c.args.kinds.now.n c.as_slice-4.result.now c.args.state.now.n_left u (c.as_slice-3.ensures ∙ ap (λ (k : Kinds). k.n) c.kinds.view_is) c.as_slice-4.ensures in
      let first : entry c.add_row.new.table u ≡ row_touches c.as_slice.result.now c.as_slice-2.result.now u = from_none (replicate 256 0) c.add_row.new.table u (row_touches c.as_slice.result.now c.as_slice-2.result.now u) (zero_at 256 u) (c.add_row.ensures u) in
      omega (arith, first, c.add_row-2.ensures u, c.add_end.ensures u, c.add_end-2.ensures u, same_p, same_n));
}
