use Rattle.std.proofs.Common.{ap, ◌∙◌}
use Rattle.net_extract.specs.Pieces.{rect_of}
use Rattle.net_extract.specs.Ties.{body_in}
use Rattle.net_extract.proofs.Bodies.{bodies_more}
use Rattle.net_extract.proofs.body.bodies.Goals as goal

pub loop-class-preserved : goal.loop-class-preserved
loop-class-preserved c = bodies_more c.args.taps.now c.args.wells.now c.args.gates.now.wires.items c.args.gates.now.firsts.items c.loop-class.class c.loop-class.bodies c.push.new.self c.body.result c.loop-class.invariant c.in_ok-push.ensures.ok (c.body.ensures ∙ ap (λ p. body_in c.args.taps.now c.args.wells.now (rect_of p)) c.box_of_class.ensures)
