use Rattle.std.proofs.Common.{rules, drop}
use Rattle.trail_state.specs.Known.{parts_of}
use Rattle.trail_state.proofs.Fronts.{known_there, none_known}
use Rattle.trail_state.proofs.front.next_front.Goals as goal

pub loop-reached-init : goal.loop-reached-init
loop-reached-init c = (search rules, λ _. none_known c.args.gate.now (drop 1 c.args.xs.now) c.new-all.result.keys (search rules))

pub add_next-requires-clause-known : goal.add_next-requires-clause-known
add_next-requires-clause-known c =
    known_there c.args.gate.now c.args.xs.now c.args.front.now c.loop-reached.reached-index c.reached-item.result c.args.again c.known_now-known.result (parts_of c.loop-reached.all.keys)
    (search rules) (search rules) c.requires.known c.loop-reached.invariant.0 (search rules)
