use Rattle.std.proofs.Common.{◌≡◌, ◌++◌, rules}
use Rattle.lef_write.specs.Lef.{pin_text}
use Rattle.lef_write.proofs.Ranges.{text_more}
use Rattle.lef_write.proofs.pins.put_pins.Goals as goal

pub loop-pin-preserved : goal.loop-pin-preserved
loop-pin-preserved c =
    let next : c.put_pin.new.out ≡ c.loop-pin.out ++ pin_text c.args.cell.now c.args.ports.now c.args.rects.now c.args.unit_nm c.loop-pin.pin = search rules in
    text_more (pin_text c.args.cell.now c.args.ports.now c.args.rects.now c.args.unit_nm) c.loop-pin.pin c.args.out.now c.loop-pin.out c.put_pin.new.out c.loop-pin.invariant next
