use Rattle.std.proofs.Common.{rules, subst, sym, take}
use Rattle.std.specs.List.{All}
use Rattle.std.proofs.lemmas.List.{take_all}
use Rattle.std.proofs.lemmas.List.Elements.{All-more, All-same}
use Rattle.lef_read.specs.Lookups.{HasLimits, HavePortsLimits}
use Rattle.lef_read.proofs.metal.show_ports_limits.Goals as goal

pub loop-pin-preserved : goal.loop-pin-preserved
loop-pin-preserved c = All-more HavePortsLimits c.args.pins.now c.loop-pin.pin-index c.pin-item.result (search rules) c.loop-pin.invariant (subst HavePortsLimits c.pin-item.is (subst (All HasLimits) c.as_slice.ensures c.show_limits.ensures))

pub returns : goal.returns
returns c = All-same HavePortsLimits c.args.pins.now (take c.loop-pin.pin-index c.args.pins.now) (sym (take_all c.loop-pin.pin-index c.args.pins.now (search rules))) c.loop-pin.invariant
