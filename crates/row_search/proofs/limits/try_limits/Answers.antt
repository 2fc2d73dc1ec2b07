use Rattle.std.proofs.Common.{◌≡◌, ap, arith, subst, sym, List, ◌∙◌}
use Rattle.row_state.specs.declared.step.Step.{Step}
use Rattle.row_state.specs.Start.{columns_left}
use Rattle.row_state.proofs.Valid.{gates_are_nets}
use Rattle.bound_log.specs.declared.log.Lemma.{Lemma}
use Rattle.lemma_check.specs.Reaches.{best_of}
use Rattle.row_search.specs.Limits.{IsOpen, found_of}
use Rattle.row_search.specs.Visit.{HasFailed, HasFound, HasSpent}
use Rattle.row_search.proofs.Least.{bound_le}
use Rattle.row_search.proofs.Tried.{failed_known, failed_more, failed_none, found_at, open_at}
use Rattle.row_search.proofs.limits.try_limits.Goals as goal

pub loop-limit-init : goal.loop-limit-init
loop-limit-init g c = (failed_none (g.B.RowBound.value c.args.task.now.bound.now) c.args.task.now.kinds.now c.args.task.now.budget c.args.first.now.state c.in_ok-progress.progress c.in_ok-progress.ensures.nodes c.in_ok-progress.ensures.lemmas c.in_ok-progress.ensures.knows, c.requires.noted)

pub returns-in-Ok-Some-clause-found : goal.returns-in-Ok-Some-clause-found
returns-in-Ok-Some-clause-found g c =
    let has : HasFound c.args.task.now.kinds.now c.args.first.now.state c.loop-limit.limit c.in-Ok-Some.steps c.loop-limit.progress c.visit.new.progress = rw c.in-Ok-Some.field-0-is at c.in-Ok-Some.ensures.found in
    found_at (g.B.RowBound.value c.args.task.now.bound.now) c.args.task.now.kinds.now c.args.task.now.budget c.args.first.now.state c.loop-limit.limit c.in-Ok-Some.steps c.loop-limit.progress c.visit.new.progress c.in_ok-found-in-Ok-Some.found c.show_limits.ensures c.requires.state c.loop-limit.invariant.0 c.in-Ok-Some.ensures.further has (c.in_ok-found-in-Ok-Some.ensures ∙ ap (λ (z : List Step). found_of c.args.task.now.kinds.now c.visit.new.progress c.loop-limit.limit z) c.as_slice.ensures)

pub returns-in-Err-Spent-clause-stopped : goal.returns-in-Err-Spent-clause-stopped
returns-in-Err-Spent-clause-stopped g c =
    let spent : HasSpent c.args.task.now.kinds.now c.args.task.now.budget c.args.first.now.state c.loop-limit.progress c.visit.new.progress = c.in-Err-Spent.ensures.spent c.in-Err-Spent.field-0-is in
    subst (λ (kept : List Lemma). IsOpen (g.B.RowBound.value c.args.task.now.bound.now) c.args.task.now.kinds.now c.args.task.now.budget kept c.best_at-proved.result) (sym c.into_kept-kept.ensures)
    (open_at (g.B.RowBound.value c.args.task.now.bound.now) c.args.task.now.kinds.now c.args.task.now.budget c.args.first.now.state c.loop-limit.limit c.best_at-proved.result c.loop-limit.progress c.visit.new.progress c.show_limits.ensures c.requires.state c.loop-limit.invariant.0 c.in-Err-Spent.ensures.further spent (c.best_at-proved.ensures c.args.task.now.kinds.now c.args.first.now.state (sym c.requires.numbered.code) ∙ spent.knows.table c.args.first.now.state c.requires.numbered.valid))

pub loop-limit-preserved : goal.loop-limit-preserved
loop-limit-preserved g c =
    let failed : HasFailed c.args.task.now.kinds.now c.args.first.now.state c.loop-limit.limit c.loop-limit.progress c.visit.new.progress = rw c.in-Ok-None.field-0-is at c.in-Ok-None.ensures.failed in
    (failed_more (g.B.RowBound.value c.args.task.now.bound.now) c.args.task.now.kinds.now c.args.task.now.budget c.args.first.now.state c.loop-limit.limit c.loop-limit.progress c.visit.new.progress c.show_limits.ensures c.requires.state c.loop-limit.invariant.0 c.in-Ok-None.ensures.further failed, c.in-Ok-None.ensures.noted)

pub unreachable-requires : goal.unreachable-requires
unreachable-requires g c =
    omega (arith, c.loop-limit.invariant.0.low, bound_le (g.B.RowBound.value c.args.task.now.bound.now) c.args.task.now.kinds.now c.loop-limit.progress.lemmas c.args.first.now.state (λ row s valid. g.met.B.RowBound.holds c.args.task.now.bound.now row s c.args.task.now.kinds.now c.show_limits.ensures valid) (gates_are_nets c.args.task.now.kinds.now c.show_limits.ensures) c.loop-limit.invariant.0.kept.justified, ap (columns_left c.args.task.now.kinds.now) c.requires.state, c.columns-limit-end.ensures, c.loop-limit-test.false)

pub loop-limit-preserved-then-best_at-limit : goal.loop-limit-preserved-then-best_at-limit
loop-limit-preserved-then-best_at-limit g c =
    let told : c.best_at.result ≡ best_of c.args.first.now.state c.loop-limit.progress.lemmas = c.best_at.ensures c.args.task.now.kinds.now c.args.first.now.state (sym c.requires.numbered.code) ∙ c.loop-limit.invariant.0.knows.table c.args.first.now.state c.requires.numbered.valid in
    (failed_known (g.B.RowBound.value c.args.task.now.bound.now) c.args.task.now.kinds.now c.args.task.now.budget c.args.first.now.state c.loop-limit.limit c.loop-limit.progress c.loop-limit.invariant.0 (omega (arith, told, c.if-best_at-limit.true)), c.loop-limit.invariant.1)

pub visit-requires-clause-low : goal.visit-requires-clause-low
visit-requires-clause-low g c =
    let told : c.best_at.result ≡ best_of c.args.first.now.state c.loop-limit.progress.lemmas = c.best_at.ensures c.args.task.now.kinds.now c.args.first.now.state (sym c.requires.numbered.code) ∙ c.loop-limit.invariant.0.knows.table c.args.first.now.state c.requires.numbered.valid in
    omega (arith, told, c.if-best_at-limit.false)
