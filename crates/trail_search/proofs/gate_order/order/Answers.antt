use Rattle.std.proofs.Common.{rules}
use Rattle.trail_search.proofs.Orders.{all_placed, one_placed}
use Rattle.trail_search.proofs.gate_order.order.Goals as goal

pub gates-preserved : goal.gates-preserved
gates-preserved c = one_placed c.args.fingers.now c.gates.order c.push.new.self c.gates.left.items c.remove-gate.new.self.items c.next-at.result c.remove-gate.result (search rules) c.remove-gate.ensures.value c.remove-gate.ensures.items c.in_ok-push.ensures.ok c.gates.invariant

pub returns : goal.returns
returns c = all_placed c.args.fingers.now c.gates.order c.gates.left.items c.requires (search rules) c.gates.invariant
