use Rattle.std.proofs.Common.{◌+◌, ◌++◌, ◌∙◌, ap, subst, sym}
use Rattle.row_state.specs.Runs.{GatesFrom}
use Rattle.row_state.specs.Tests.{columns_on, joined_below}
use Rattle.row_state.proofs.Sides.{joined_more}
use Rattle.row_state.proofs.listing.list_next.Goals as goal

pub loop-gate-preserved : goal.loop-gate-preserved
loop-gate-preserved c = (
  c.in_ok-push_on_gate.ensures
      ∙ ap (λ xs. xs ++ columns_on c.args.kinds.now c.args.state.now c.on_gate-on.result.gate) c.loop-gate.invariant.0
      ∙ ap (λ g. joined_below (columns_on c.args.kinds.now c.args.state.now) c.loop-gate.gate ++ columns_on c.args.kinds.now c.args.state.now g) c.on_gate-on.ensures.gate
      ∙ sym (joined_more (columns_on c.args.kinds.now c.args.state.now) c.loop-gate.gate),
  subst (λ g. GatesFrom c.args.kinds.now.p (g + 1) c.on_gate-on.result.p.to) c.on_gate-on.ensures.gate c.on_gate-on.ensures.on.p.ends,
  subst (λ g. GatesFrom c.args.kinds.now.n (g + 1) c.on_gate-on.result.n.to) c.on_gate-on.ensures.gate c.on_gate-on.ensures.on.n.ends,
)
