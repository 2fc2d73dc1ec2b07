use Rattle.std.proofs.Common.{◌≡◌, ℕ, Option, List, refl}
use Rattle.net_extract.specs.Bodies.{AreBodies}
use Rattle.net_extract.specs.Connections.{firsts_of}
use Rattle.net_extract.specs.GateNets.{boxes_of}
use Rattle.net_extract.specs.Ties.{bodies_in}
use Rattle.net_extract.proofs.Bodies.{bodies_from}
use Rattle.net_extract.proofs.Carving.{proper_of_limits}
use Rattle.net_extract.proofs.Extracting.{if_ok}
use Rattle.net_extract.proofs.drawing.all_bodies.Goals as goal

pub returns : goal.returns
returns c =
    let m = c.args.mapped.now in
    let w = c.requires.wells.nets refl in
    if_ok (λ (bs : List (Option ℕ)). bs ≡ bodies_in c.as_slice.result.now c.as_slice-wells.result.now (boxes_of m.gates.wires.items m.gates.firsts.items))
    (λ (bs : List (Option ℕ)). AreBodies c.args.shapes.now.rects (firsts_of m.connections.firsts.items) (boxes_of m.gates.wires.items m.gates.firsts.items) m.devices bs)
    c.bodies.result
    (λ bs e. bodies_from c.args.shapes.now.rects c.as_slice-rects.result.now m.connections.wires.items c.as_slice-wires.result.now m.connections.firsts.items m.wells.items c.as_slice-wells.result.now c.as_slice-wells.result.now w.firsts c.in_ok-taps.taps.items c.as_slice.result.now (boxes_of m.gates.wires.items m.gates.firsts.items) m.devices bs c.as_slice-rects.ensures c.as_slice-wires.ensures.value c.as_slice-wells.ensures.value c.as_slice-wells.ensures.value c.in_ok-taps.ensures c.as_slice.ensures.value e (proper_of_limits c.args.shapes.now.rects c.requires.limits.all) c.requires.wires w.nets c.requires.found.drawn)
    c.bodies.ensures
