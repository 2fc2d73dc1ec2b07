use Rattle.std.proofs.Common.{◌≡◌, take}
use Rattle.net_extract.specs.Ties.{taps_in}
use Rattle.net_extract.proofs.body.taps.Given as goal

abbrev pub invariant-loop-wire : goal.invariant-loop-wire
invariant-loop-wire l = l.taps.items ≡ taps_in l.shapes l.wells (take l.wire-index l.wires)
