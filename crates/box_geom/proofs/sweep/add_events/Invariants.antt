use Rattle.std.proofs.Common.{◌≡◌, ◌++◌, take}
use Rattle.std.specs.List.{flat_map}
use Rattle.box_geom.specs.Sweeping.{events_of}
use Rattle.box_geom.proofs.sweep.add_events.Given as goal

abbrev pub invariant-loop-block : goal.invariant-loop-block
invariant-loop-block l = l.events.items ≡ l.fn.events.items ++ flat_map (events_of l.side) (take l.block-index l.blocks)
