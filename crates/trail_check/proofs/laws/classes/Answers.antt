use Rattle.trail_check.proofs.Edges.{one_chain, one_class}
use Rattle.trail_check.proofs.laws.classes.Goals as goal

pub returns : goal.returns
returns c es u v = (one_class es u v, one_chain es u v)
