use Rattle.std.proofs.Common.{◌≡◌, drop}
use Rattle.spice_text.specs.Numbers.{first_scale}
use Rattle.spice_text.proofs.suffix.first_scale.Given as goal

abbrev pub invariant-loop-scale : goal.invariant-loop-scale
invariant-loop-scale l = first_scale (drop l.scale-index l.scales) l.text ≡ first_scale l.scales l.text
