use Rattle.row_needs.proofs.Bounds.{value_holds}
use Rattle.row_needs.proofs.need_bound.NeedBoundGapBound.show_holds.Goals as goal

pub returns : goal.returns
returns c = λ row s k some valid. value_holds c.args.self.now row s k some valid
