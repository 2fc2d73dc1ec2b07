use Rattle.std.proofs.Common.{rules, ◌≡◌, List, IfOk, subst}
use Rattle.lef_write.specs.declared.port.Port.{Port}
use Rattle.lef_write.specs.Lef.{library_text}
use Rattle.lef_write.specs.Ports.{ports_of}
use Rattle.lef_write.proofs.write.lef_text.Goals as goal

pub returns : goal.returns
returns c =
    let e : c.in_ok-ports.ports ≡ ports_of c.args.cell.now.pins c.args.routing.now.trunks c.args.drawing.now.shapes.rects = search rules in
    subst (λ (ports : List Port). IfOk c.lef_ports.result (λ bytes. bytes.items ≡ library_text c.args.cell.now ports c.args.drawing.now c.args.unit_nm)) e c.lef_ports.ensures
