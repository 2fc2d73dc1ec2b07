use Rattle.std.proofs.Common.{rules, arith, ◌≡◌, ◌<◌, ◌+◌, drop, length, take}
use Rattle.std.proofs.lemmas.Grind.{common_steps}
use Rattle.trail_state.specs.Fronts.{next_front}
use Rattle.trail_state.specs.Known.{parts_of}
use Rattle.trail_state.proofs.Fronts.{known_there, longer_front, none_known}
use Rattle.trail_state.proofs.front.next_short.Goals as goal

pub loop-reached-init : goal.loop-reached-init
loop-reached-init c = (search rules, λ _. none_known c.args.gate.now (drop 1 c.args.xs.now) c.new-all.result.keys (search rules), search rules)

pub add_next-requires-clause-known : goal.add_next-requires-clause-known
add_next-requires-clause-known c =
    known_there c.args.gate.now c.args.xs.now c.args.front.now c.loop-reached.reached-index c.reached-item.result c.args.again c.known_now-known.result (parts_of c.loop-reached.all.keys)
    (search rules) (search rules) c.requires.known c.loop-reached.invariant.0 (search rules)

pub returns-then-len-most-clause-long : goal.returns-then-len-most-clause-long
returns-then-len-most-clause-long c =
    let is : parts_of c.add_next.new.all.keys ≡ next_front c.args.gate.now c.args.xs.now (parts_of (take (c.loop-reached.reached-index + 1) c.args.front.now)) = grind (arith, common_steps) in
    let more : c.args.most < length c.add_next.new.all.keys = grind arith in
    longer_front c.args.gate.now c.args.xs.now c.args.front.now c.add_next.new.all.keys (c.loop-reached.reached-index + 1) c.args.most is more
