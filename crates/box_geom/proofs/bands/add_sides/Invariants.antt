use Rattle.std.proofs.Common.{◌≡◌, ◌++◌, take}
use Rattle.std.specs.List.{flat_map}
use Rattle.box_geom.specs.Banding.{sides_up}
use Rattle.box_geom.proofs.bands.add_sides.Given as goal

abbrev pub invariant-loop-block : goal.invariant-loop-block
invariant-loop-block l = l.values.items ≡ l.fn.values.items ++ flat_map sides_up (take l.block-index l.blocks)
