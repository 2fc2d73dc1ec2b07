use Rattle.std.proofs.Common.{◌++◌}
use Rattle.std.proofs.lemmas.List.Elements.{Contains-append_right}
use Rattle.row_cycles.proofs.Paths.{one_above}
use Rattle.cycle_search.proofs.Needs.{item_there}
use Rattle.cycle_search.proofs.Table.{same_sound, sound_more}
use Rattle.cycle_search.proofs.asked.Asked.below_with.Goals as goal

pub loop-a-init : goal.loop-a-init
loop-a-init c =
    sound_more c.args.self.now.pairs c.args.new.now c.in_ok-below.below (same_sound c.args.self.now.pairs c.args.self.now.below c.in_ok-below.below c.in_ok-below.ensures.nets c.in_ok-below.ensures.marks c.requires.sound)

pub loop-a-preserved : goal.loop-a-preserved
loop-a-preserved c = c.add.ensures (c.args.self.now.pairs ++ c.args.new.now) c.loop-a.invariant
    (one_above (c.args.self.now.pairs ++ c.args.new.now) _ (Contains-append_right c.args.self.now.pairs c.args.new.now _ (item_there c.args.new.now c.loop-a.a-index _ c.loop-a-test.true)))
