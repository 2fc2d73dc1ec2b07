use Rattle.std.proofs.Common.{◌≡◌, ◌≤◌, ◌+◌, arith, sym}
use Rattle.std.proofs.lemmas.Bool.{le-leb, leb-true}
use Rattle.row_state.specs.Completion.{cost_of}
use Rattle.row_state.specs.Steps.{column_of, state_after}
use Rattle.lemma_check.specs.Known.{best_known}
use Rattle.lemma_check.proofs.lemma.step_reaches.Goals as goal

pub returns : goal.returns
returns c =
    let cost : c.cost.result ≡ cost_of c.args.from.now.state (column_of c.args.kinds.now c.args.next.now.step) = c.cost.ensures c.args.kinds.now c.requires.next in
    let best : c.best_at-behind.result ≡ best_known c.args.known.now c.args.kinds.now (state_after c.args.kinds.now c.args.from.now.state c.args.next.now.step) = c.best_at-behind.ensures c.args.kinds.now (state_after c.args.kinds.now c.args.from.now.state c.args.next.now.step) (sym c.code_behind.ensures) in (
      λ yes. let reached : c.from.result ≤ c.from-2.result + c.from-3.result = leb-true c.from.result (c.from-2.result + c.from-3.result) yes in omega (arith, reached, cost, best, c.from.ensures, c.from-2.ensures, c.from-3.ensures),
      λ reaches. le-leb c.from.result (c.from-2.result + c.from-3.result) (omega (arith, reaches, cost, best, c.from.ensures, c.from-2.ensures, c.from-3.ensures)),
    )
