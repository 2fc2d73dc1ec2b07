use Rattle.std.proofs.Common.{◌≡◌, ◌<◌, length, ap, subst, arith, rules}
use Rattle.channel_route.specs.Graph.{IsFilled}
use Rattle.channel_route.proofs.sweep.fill.Goals as goal

pub loop-alloc-preserved : goal.loop-alloc-preserved
loop-alloc-preserved c =
    let same : c.loop-alloc.left.items ≡ c.as_slice.result.now = search rules in
    let filled : IsFilled c.args.wires.items c.args.constraints.now c.loop-alloc.placed.items c.as_slice.result.now c.loop-alloc.tracks = subst (λ ws. IsFilled c.args.wires.items c.args.constraints.now c.loop-alloc.placed.items ws c.loop-alloc.tracks) same c.loop-alloc.invariant.0 in
    let fewer : length c.in_ok-still.still.items < length c.loop-alloc.left.items = search rules in
    (c.in_ok-still.ensures.filled c.args.wires.items c.requires.channel filled (omega (arith, fewer, ap length same)), omega (arith, fewer, c.loop-alloc.invariant.1))
