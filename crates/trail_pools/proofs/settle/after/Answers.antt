use Rattle.std.proofs.Common.{rules, ◌≡◌}
use Rattle.trail_state.specs.Places.{with_edges}
use Rattle.trail_halves.specs.Halves.{links}
use Rattle.trail_pools.specs.Leveled.{has_pool}
use Rattle.trail_pools.specs.Stepping.{odd_pooled}
use Rattle.trail_pools.proofs.Stepped.{ends_settled_are, few_closing, state_settled}
use Rattle.trail_pools.proofs.settle.after.Goals as goal

pub settled-requires-clause-joined : goal.settled-requires-clause-joined
settled-requires-clause-joined c =
    let joined : c.as_slice-5.result.now
    ≡ with_edges c.args.level.now.now.places c.args.state.now.places (links c.args.pools.now.nodes
    c.args.pools.now.row (has_pool c.args.pools.now) c.args.choice.now.edges c.args.choice.now.halves) =
    search rules in
    few_closing c.args.level.now.now.places c.args.level.now.next.places c.args.state.now.places
    (links c.args.pools.now.nodes c.args.pools.now.row (has_pool c.args.pools.now) c.args.choice.now.edges
    c.args.choice.now.halves) c.as_slice-5.result.now joined c.requires.places

pub returns-clause-state : goal.returns-clause-state
returns-clause-state c =
    let odd : c.as_slice-4.result.now
    ≡ odd_pooled c.args.pools.now.row (has_pool c.args.pools.now) c.args.state.now.odd c.args.choice.now.edges
    c.args.pools.now.nodes = search rules in
    let joined : c.as_slice-5.result.now
    ≡ with_edges c.args.level.now.now.places c.args.state.now.places (links c.args.pools.now.nodes
    c.args.pools.now.row (has_pool c.args.pools.now) c.args.choice.now.edges c.args.choice.now.halves) =
    search rules in
    state_settled c.args.pools.now.nodes c.args.pools.now.row (has_pool c.args.pools.now) c.args.level.now.next
    c.args.state.now c.args.choice.now c.args.level.now.now c.as_slice-4.result.now c.as_slice-5.result.now
    c.in_ok-next.next odd joined c.in_ok-next.ensures

pub returns-clause-ends : goal.returns-clause-ends
returns-clause-ends c =
    let odd : c.as_slice-4.result.now
    ≡ odd_pooled c.args.pools.now.row (has_pool c.args.pools.now) c.args.state.now.odd c.args.choice.now.edges
    c.args.pools.now.nodes = search rules in
    let joined : c.as_slice-5.result.now
    ≡ with_edges c.args.level.now.now.places c.args.state.now.places (links c.args.pools.now.nodes
    c.args.pools.now.row (has_pool c.args.pools.now) c.args.choice.now.edges c.args.choice.now.halves) =
    search rules in
    ends_settled_are c.args.pools.now.nodes c.args.pools.now.row (has_pool c.args.pools.now) c.args.level.now.next
    c.args.state.now c.args.choice.now c.args.level.now.now c.as_slice-4.result.now c.as_slice-5.result.now
    c.in_ok-next.next odd joined c.in_ok-next.ensures
