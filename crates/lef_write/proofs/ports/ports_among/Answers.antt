use Rattle.std.proofs.Common.{◌≡◌, ◌++◌, rules}
use Rattle.lef_write.specs.Ports.{ports_on}
use Rattle.lef_write.proofs.Ranges.{listed_more}
use Rattle.lef_write.proofs.ports.ports_among.Goals as goal

pub loop-pin-preserved : goal.loop-pin-preserved
loop-pin-preserved c =
    let next : c.add_ports.new.ports ≡ c.loop-pin.ports ++ ports_on c.args.pins.now c.args.trunks.now c.args.metal.now c.loop-pin.pin = search rules in
    listed_more (ports_on c.args.pins.now c.args.trunks.now c.args.metal.now) c.loop-pin.pin c.loop-pin.ports c.add_ports.new.ports c.loop-pin.invariant next
