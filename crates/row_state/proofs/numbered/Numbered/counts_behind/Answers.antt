use Rattle.row_state.proofs.Digits.{counts_less}
use Rattle.row_state.proofs.numbered.Numbered.counts_behind.Goals as goal

pub overflow_sub-result : goal.overflow_sub-result
overflow_sub-result c = (counts_less c.args.kinds.now c.args.self.now c.args.next.now c.requires.numbered c.requires.next c.requires.step).0
