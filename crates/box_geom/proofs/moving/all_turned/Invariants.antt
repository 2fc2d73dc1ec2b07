use Rattle.std.proofs.Common.{◌≡◌, map, take}
use Rattle.box_geom.specs.Moving.{turned_by}
use Rattle.box_geom.proofs.moving.all_turned.Given as goal

abbrev pub invariant-loop-block : goal.invariant-loop-block
invariant-loop-block l = l.out.items ≡ map turned_by (take l.block-index l.blocks)
