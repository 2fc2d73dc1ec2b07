use Rattle.std.proofs.Common.{◌≡◌, arith, Some, None}
use Rattle.std.proofs.lemmas.Int.{to_z-of_z}
use Rattle.net_extract.specs.Areas.{cells_in}
use Rattle.net_extract.specs.Connections.{firsts_of}
use Rattle.net_extract.specs.Devices.{diffusion_of}
use Rattle.net_extract.specs.Lookups.{net_in}
use Rattle.net_extract.specs.Sides.{IsSideNet}
use Rattle.net_extract.proofs.Siding.{side_some, side_no_net, some_if}
use Rattle.net_extract.proofs.device.side_net.Goals as goal

pub returns-clause-some : goal.returns-clause-some
returns-clause-some c =
    some_if (IsSideNet c.args.map.now.deck c.args.shapes.now (firsts_of c.args.map.now.firsts.items) c.args.row (cells_in c.args.area.now)) c.net_of_cell.result (λ n is.
    let k = c.diffusion.ensures in
    let r = c.net_of_cell.ensures in
    let w = c.as_slice.ensures.value in
    let e : net_in c.args.map.now.wires.items (diffusion_of c.args.row) c.args.area.now.x1 c.args.area.now.y1 ≡ Some n = grind (arith, to_z-of_z) in
    side_some c.args.map.now.deck c.args.shapes.now c.args.map.now.wires.items c.args.map.now.firsts.items c.requires.map c.args.row (cells_in c.args.area.now) n c.requires.area (c.is_diffusion.ensures.0 c.if-not-is_diffusion.false) e)

pub returns-clause-none : goal.returns-clause-none
returns-clause-none c = λ is.
    let k = c.diffusion.ensures in
    let r = c.net_of_cell.ensures in
    let w = c.as_slice.ensures.value in
    let e : net_in c.args.map.now.wires.items (diffusion_of c.args.row) c.args.area.now.x1 c.args.area.now.y1 ≡ None = grind (arith, to_z-of_z) in
    side_no_net c.args.map.now.deck c.args.shapes.now c.args.map.now.wires.items c.args.map.now.firsts.items c.requires.map c.args.row (cells_in c.args.area.now) c.requires.area e
