use Rattle.cycle_search.proofs.Table.{mark_sound}
use Rattle.cycle_search.proofs.below.Below.mark.Goals as goal

pub returns-then-not-is_net-clause-sound : goal.returns-then-not-is_net-clause-sound
returns-then-not-is_net-clause-sound c = λ pairs sound follows. sound

pub returns-clause-sound : goal.returns-clause-sound
returns-clause-sound c = λ pairs sound follows. mark_sound pairs c.args.self.now c.set_mark.new.self c.args.a.now c.place-place.result c.place-place.ensures c.set_mark.ensures.nets (c.is_net.ensures.0 c.if-not-is_net.false) c.set_mark.ensures.marks sound follows
