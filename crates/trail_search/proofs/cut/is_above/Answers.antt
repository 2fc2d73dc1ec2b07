use Rattle.std.proofs.Common.{arith}
use Rattle.std.proofs.lemmas.Bool.{ltb-true}
use Rattle.row_state.specs.ComponentLaw.{component_holds}
use Rattle.trail_search.proofs.cut.is_above.Goals as goal

pub returns : goal.returns
returns c = λ yes row h. omega (arith, ltb-true c.args.allowed c.bound.result yes, c.bound.ensures, component_holds c.args.kinds.now c.args.state.now c.args.row c.show_limits.ensures row h)
