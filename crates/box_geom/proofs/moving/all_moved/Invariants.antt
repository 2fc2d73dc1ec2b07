use Rattle.std.proofs.Common.{◌≡◌, map, take}
use Rattle.std.specs.List.{filter}
use Rattle.box_geom.specs.Moving.{moved_by, is_proper}
use Rattle.box_geom.proofs.moving.all_moved.Given as goal

abbrev pub invariant-loop-block : goal.invariant-loop-block
invariant-loop-block l = l.out.items ≡ filter is_proper (map (moved_by l.by) (take l.block-index l.blocks))
