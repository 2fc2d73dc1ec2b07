use Rattle.std.proofs.Common.{rules, ◌≡◌}
use Rattle.row_state.specs.Tests.{merged_all}
use Rattle.row_state.proofs.Merge.{kinds_from}
use Rattle.row_state.proofs.found.kinds_of.Goals as goal

pub returns : goal.returns
returns c row nets h =
    let is : c.in_ok-kinds.kinds ≡ merged_all c.in_ok-singles.singles.items = search rules in
    kinds_from row nets c.args.fingers.now c.in_ok-singles.singles.items c.in_ok-kinds.kinds c.in_ok-singles.ensures.moved c.in_ok-singles.ensures.sorted c.in_ok-singles.ensures.ones is h
