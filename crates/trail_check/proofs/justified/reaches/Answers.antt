use Rattle.trail_check.proofs.OddEnds.{reached_odd}
use Rattle.trail_check.proofs.justified.reaches.Goals as goal

pub returns-then-lemma-odd_ends : goal.returns-then-lemma-odd_ends
returns-then-lemma-odd_ends c =
    reached_odd c.args.earlier.now c.args.level.now c.args.lemma.now c.args.closing.now c.args.choice.now c.odd_ends.result c.odd_ends.ensures c.if-lemma-odd_ends.true c.requires.closing
