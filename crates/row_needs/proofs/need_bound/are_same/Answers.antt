use Rattle.row_needs.proofs.SameKinds.{kinds_decide}
use Rattle.row_needs.proofs.need_bound.are_same.Goals as goal
use Rattle.std.proofs.lemmas.Bool.Decides.{Decides-at}

pub returns : goal.returns
returns c = Decides-at _ _ c.eq.ensures (kinds_decide c.args.kinds.now c.args.other.now)
