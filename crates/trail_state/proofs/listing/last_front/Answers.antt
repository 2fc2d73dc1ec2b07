use Rattle.std.proofs.Common.{rules, subst}
use Rattle.trail_state.specs.Known.{AreKnown, parts_of}
use Rattle.trail_state.proofs.Fronts.{one_column_more, one_later}
use Rattle.trail_state.proofs.listing.last_front.Goals as goal

pub loop-at-preserved : goal.loop-at-preserved
loop-at-preserved c = (
  one_column_more c.args.gate.now c.loop-at.at c.behind-xs.result.now (parts_of c.loop-at.front.keys) (parts_of c.in_ok-front-2.front.keys) (search rules) (search rules) (search rules),
  λ on. subst (λ xs. AreKnown c.args.gate.now xs c.in_ok-front-2.front.keys) (one_later c.loop-at.at c.args.gate.now.p) (search rules),
)
