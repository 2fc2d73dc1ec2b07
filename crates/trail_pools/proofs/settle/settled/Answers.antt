use Rattle.std.proofs.Common.{rules, ◌≡◌, ◌∙◌, List, ap, map}
use Rattle.std.specs.List.{filter}
use Rattle.trail_state.specs.declared.state.Place.{Place}
use Rattle.trail_state.specs.Places.{node_at}
use Rattle.trail_state.specs.Settling.{closing_of, is_open, kept_of}
use Rattle.trail_pools.specs.State.{open_pools}
use Rattle.trail_pools.specs.Stepping.{all_ends, closed_of, next_balance, place_ends, place_left, shut_of}
use Rattle.trail_pools.proofs.Stepped.{settled_is}
use Rattle.trail_pools.proofs.settle.settled.Goals as goal

pub returns : goal.returns
returns c =
    let shut : c.in_ok-shut.shut.items ≡ shut_of c.args.next.now.nodes c.args.odd.now = search rules in
    let kept : c.in_ok-kept.kept.items ≡ kept_of c.args.next.now.places c.args.joined.now = search rules in
    let closing : c.in_ok-closing.closing.items ≡ closing_of c.args.next.now.places c.args.joined.now = search rules in
    let closed : c.in_ok-closed.closed.items
    ≡ closed_of (place_ends c.args.pools.now.nodes (next_balance c.args.pools.now.row c.in_ok-shut.shut.items
    c.args.state.now.balances c.args.choice.now.halves)) c.in_ok-closing.closing.items = search rules in
    let left : c.from_vec.result
    ≡ map (place_left c.in_ok-kept.kept.items c.in_ok-closed.closed.items) c.in_ok-kept.kept.items = search rules in
    let odd : c.from_vec-2.result ≡ map node_at (filter (is_open c.args.next.now.nodes) c.args.odd.now) =
    search rules in
    let balances : c.from_vec-3.result
    ≡ map (next_balance c.args.pools.now.row c.in_ok-shut.shut.items c.args.state.now.balances
    c.args.choice.now.halves) (open_pools c.args.pools.now.nodes c.args.next.now.places) = search rules in
    let ends : c.all_ends.result ≡ all_ends c.in_ok-kept.kept.items c.in_ok-closed.closed.items =
    c.all_ends.ensures ∙ ap (λ (l : List Place). all_ends l c.as_slice-7.result.now) c.as_slice-6.ensures.value
    ∙ ap (all_ends c.in_ok-kept.kept.items) c.as_slice-7.ensures.value in
    settled_is c.args.pools.now.nodes c.args.pools.now.row c.args.next.now c.args.state.now c.args.choice.now
    c.args.odd.now c.args.joined.now c.in_ok-shut.shut.items c.in_ok-kept.kept.items c.in_ok-closing.closing.items
    c.in_ok-closed.closed.items c.from_vec.result c.from_vec-2.result c.from_vec-3.result c.all_ends.result
    shut kept closing closed left odd balances ends
