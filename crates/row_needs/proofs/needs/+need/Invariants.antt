use Rattle.std.proofs.Common.{All, take, ◌≤◌}
use Rattle.std.specs.HashMap.{hash_map_len}
use Rattle.row_state.specs.Start.{columns_left}
use Rattle.row_needs.specs.Best.{AddsBelow, HasNext, IsBest, IsGrown}
use Rattle.row_needs.specs.Rest.{AreRests, IsClosed}
use Rattle.row_needs.specs.Table.{AreLedTo}
use Rattle.row_needs.proofs.needs.+need.Given as goal

abbrev pub decreases-need : goal.decreases-need
decreases-need l = columns_left l.task.now.kinds.now l.at.now.state

abbrev pub invariant-loop-next : goal.invariant-loop-next
invariant-loop-next l =
    AreRests l.task.kinds.now l.needs
    × IsClosed l.task.kinds.now l.needs
    × IsGrown l.task.kinds.now l.fn.needs l.needs
    × All (HasNext l.task.kinds.now l.at.state l.needs) (take l.next-index l.next-items)
    × AreLedTo l.task.kinds.now l.needs
    × AddsBelow l.task.kinds.now (columns_left l.task.kinds.now l.at.state) l.fn.needs l.needs
    × (hash_map_len l.needs.rests ≤ l.task.limit)
    × IsBest l.task.kinds.now l.at.state (take l.next-index l.next-items) l.rest
