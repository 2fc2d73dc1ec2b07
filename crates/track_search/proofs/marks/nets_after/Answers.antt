use Rattle.std.proofs.Common.{◌≡◌, ◌||◌, ap, false, ltb, ◌∙◌}
use Rattle.row_trails.specs.Counts.{flag}
use Rattle.row_state.specs.declared.kind.Kinds.{Kinds}
use Rattle.track_ways.specs.Lines.{is_net}
use Rattle.track_ways.specs.Ways.{net_of}
use Rattle.track_check.specs.Touches.{row_touches}
use Rattle.track_check.proofs.Counting.{row_same}
use Rattle.track_search.proofs.Marked.{all_marked, none_at}
use Rattle.track_search.proofs.marks.nets_after.Goals as goal

pub returns : goal.returns
returns c = all_marked c.args.kinds.now c.args.state.now c.mark_end-2.new.table (λ u.
    let same_p : row_touches c.as_slice.result.now c.as_slice-2.result.now u ≡ row_touches c.args.kinds.now.p c.args.state.now.p_left u = row_same c.as_slice.result.now c.args.kinds.now.p c.as_slice-2.result.now c.args.state.now.p_left u (c.as_slice.ensures ∙ ap (λ (k : Kinds). k.p) c.kinds.view_is) c.as_slice-2.ensures in
    let same_n : row_touches c.as_slice-3.result.now c.as_slice-4.result.now u ≡ row_touches c.args.kinds.now.n c.args.state.now.n_left u = row_same c.as_slice-3.result.now c.args.kinds.now.n c.as_slice-4.result.now c.args.state.now.n_left u (c.as_slice-3.ensures ∙ ap (λ (k : Kinds). k.n) c.kinds.view_is) c.as_slice-4.ensures in
    let first : flag c.mark_row.new.table u ≡ (false || ltb 0 (row_touches c.args.kinds.now.p c.args.state.now.p_left u)) = c.mark_row.ensures u ∙ ap (λ b. b || ltb 0 (row_touches c.as_slice.result.now c.as_slice-2.result.now u)) (none_at u) ∙ ap (λ n. false || ltb 0 n) same_p in
    let second : flag c.mark_row-2.new.table u ≡ ((false || ltb 0 (row_touches c.args.kinds.now.p c.args.state.now.p_left u)) || ltb 0 (row_touches c.args.kinds.now.n c.args.state.now.n_left u)) = c.mark_row-2.ensures u ∙ ap (λ b. b || ltb 0 (row_touches c.as_slice-3.result.now c.as_slice-4.result.now u)) first ∙ ap (λ n. (false || ltb 0 (row_touches c.args.kinds.now.p c.args.state.now.p_left u)) || ltb 0 n) same_n in
    c.mark_end-2.ensures u ∙ ap (λ b. b || is_net c.args.state.now.n_end (net_of u)) (c.mark_end.ensures u ∙ ap (λ b. b || is_net c.args.state.now.p_end (net_of u)) second))
