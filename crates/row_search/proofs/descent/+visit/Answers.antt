use Rattle.std.proofs.Common.{rules, ◌≡◌, ◌≤◌, ◌<◌, ◌+◌, ◌-◌, get_or, arith, refl, subst, sym, ap, None, ◌∙◌}
use Rattle.std.proofs.lemmas.List.Elements.{All-nil}
use Rattle.row_state.specs.declared.candidate.Candidate.{Candidate}
use Rattle.row_state.specs.declared.state.State.{State}
use Rattle.row_state.specs.Emptied.{AreEmpty}
use Rattle.row_state.specs.Start.{columns_left}
use Rattle.row_state.proofs.Calls.{fewer_after}
use Rattle.bound_log.specs.declared.log.Rule.TheVariants as by
use Rattle.bound_log.specs.Kept.{lemma_of}
use Rattle.lemma_check.specs.Reaches.{RuleReaches, best_of}
use Rattle.row_search.specs.Ended.{IsLean}
use Rattle.row_search.specs.SoFar.{KnowsAll}
use Rattle.row_search.specs.Visit.{AreKept, HasFailed, HasFound}
use Rattle.row_search.proofs.Grown.{Reaches}
use Rattle.row_search.proofs.Visits.{branch_end, failed_kept, found_behind, found_leaf, further_behind, further_counted, further_kept, further_same, further_still, further_wider, known_behind, row_reaches, some_left, spent_behind, step_dear, step_fails, step_known, step_not, tried_more, tried_none}
use Rattle.row_search.proofs.descent.+visit.Goals as goal

blank : Candidate
blank = record { step = record { p = None; n = None }; column = record { p = None; n = None }; rows = 0; ends = 0; p_from = 0; n_from = 0 }

pub returns-then-nodes-task-clause-further : goal.returns-then-nodes-task-clause-further
returns-then-nodes-task-clause-further g t c = further_same (g.B.RowBound.value c.args.task.now.bound.now) c.args.task.now.kinds.now c.args.task.now.budget (columns_left c.args.task.now.kinds.now c.args.at.now.state + 1) c.args.at.now.state c.args.allowed c.args.progress.now c.args.progress.now refl (omega arith) c.requires.nodes c.requires.lemmas

pub returns-then-not-has_fingers-clause-further : goal.returns-then-not-has_fingers-clause-further
returns-then-not-has_fingers-clause-further g t c = further_counted (g.B.RowBound.value c.args.task.now.bound.now) c.args.task.now.kinds.now c.args.task.now.budget (columns_left c.args.task.now.kinds.now c.args.at.now.state + 1) c.args.at.now.state c.args.allowed c.args.progress.now c.count_node.new.self c.count_node.ensures (omega (arith, c.requires.nodes, c.nodes.ensures, c.if-nodes-task.false)) c.requires.lemmas

pub returns-then-not-has_fingers-clause-found : goal.returns-then-not-has_fingers-clause-found
returns-then-not-has_fingers-clause-found g t c = found_leaf c.args.task.now.kinds.now c.args.at.now.state c.args.allowed c.new.result c.has_fingers.result c.args.progress.now c.count_node.new.self c.count_node.ensures c.new.ensures (c.has_fingers.ensures c.args.task.now.kinds.now c.requires.numbered.valid) c.if-not-has_fingers.true

pub returns-in_err-served-clause-further : goal.returns-in_err-served-clause-further
returns-in_err-served-clause-further g t c = further_counted (g.B.RowBound.value c.args.task.now.bound.now) c.args.task.now.kinds.now c.args.task.now.budget (columns_left c.args.task.now.kinds.now c.args.at.now.state + 1) c.args.at.now.state c.args.allowed c.args.progress.now c.count_node.new.self c.count_node.ensures (omega (arith, c.requires.nodes, c.nodes.ensures, c.if-nodes-task.false)) c.requires.lemmas

pub returns-in_err-keep-clause-further : goal.returns-in_err-keep-clause-further
returns-in_err-keep-clause-further g t c = further_still (g.B.RowBound.value c.args.task.now.bound.now) c.args.task.now.kinds.now c.args.task.now.budget (columns_left c.args.task.now.kinds.now c.args.at.now.state + 1) c.args.at.now.state c.args.allowed c.args.progress.now c.count_node.new.self c.keep.new.self c.in_err-keep.ensures.err c.in_err-keep.ensures.nodes (further_counted (g.B.RowBound.value c.args.task.now.bound.now) c.args.task.now.kinds.now c.args.task.now.budget (columns_left c.args.task.now.kinds.now c.args.at.now.state + 1) c.args.at.now.state c.args.allowed c.args.progress.now c.count_node.new.self c.count_node.ensures (omega (arith, c.requires.nodes, c.nodes.ensures, c.if-nodes-task.false)) c.requires.lemmas)

pub returns-in-Some-clause-further : goal.returns-in-Some-clause-further
returns-in-Some-clause-further g t c =
    let rule : RuleReaches (g.B.RowBound.value c.args.task.now.bound.now) c.args.task.now.kinds.now (λ z. best_of z c.count_node.new.self.lemmas) c.in-Some.rule c.args.at.now.state (c.args.allowed + 1) × IsLean (g.B.RowBound.value c.args.task.now.bound.now) c.args.task.now.kinds.now (lemma_of c.args.at.now.state (c.args.allowed + 1) c.in-Some.rule) = row_reaches (g.B.RowBound.value c.args.task.now.bound.now) c.args.task.now.kinds.now (λ z. best_of z c.count_node.new.self.lemmas) c.args.at.now.state (c.args.allowed + 1) c.in-Some.rule (rw c.in-Some.is at c.in_ok-served.ensures.some) in
    further_kept (g.B.RowBound.value c.args.task.now.bound.now) c.args.task.now.kinds.now c.args.task.now.budget c.args.at.now.state c.args.allowed c.in-Some.rule c.args.progress.now c.count_node.new.self c.keep.new.self (tried_none (g.B.RowBound.value c.args.task.now.bound.now) c.args.task.now.kinds.now c.args.task.now.budget c.args.at.now.state c.args.allowed c.args.progress.now c.count_node.new.self c.count_node.ensures c.requires.lemmas c.requires.knows (omega (arith, c.requires.nodes, c.nodes.ensures, c.if-nodes-task.false))) c.in_ok-keep.ensures.nodes c.in_ok-keep.ensures.ok c.requires.numbered.valid rule.0 rule.1 c.requires.low

pub returns-in-Some-clause-failed : goal.returns-in-Some-clause-failed
returns-in-Some-clause-failed g t c = failed_kept (g.B.RowBound.value c.args.task.now.bound.now) c.args.task.now.kinds.now c.args.task.now.budget c.args.at.now.state c.args.allowed c.in-Some.rule c.args.progress.now c.count_node.new.self c.keep.new.self (tried_none (g.B.RowBound.value c.args.task.now.bound.now) c.args.task.now.kinds.now c.args.task.now.budget c.args.at.now.state c.args.allowed c.args.progress.now c.count_node.new.self c.count_node.ensures c.requires.lemmas c.requires.knows (omega (arith, c.requires.nodes, c.nodes.ensures, c.if-nodes-task.false))) c.in_ok-keep.ensures.nodes c.in_ok-keep.ensures.ok (c.in_ok-keep.ensures.knows c.args.task.now.kinds.now)

pub loop-next-init : goal.loop-next-init
loop-next-init g t c = ((tried_none (g.B.RowBound.value c.args.task.now.bound.now) c.args.task.now.kinds.now c.args.task.now.budget c.args.at.now.state c.args.allowed c.args.progress.now c.count_node.new.self c.count_node.ensures c.requires.lemmas c.requires.knows (omega (arith, c.requires.nodes, c.nodes.ensures, c.if-nodes-task.false))), All-nil (Reaches c.args.task.now.kinds.now (λ z. best_of z c.count_node.new.self.lemmas) c.args.at.now.state (c.args.allowed + 1)), c.in_ok-served.ensures.noted)

pub loop-next-preserved-then-not-allows : goal.loop-next-preserved-then-not-allows
unfolding blank
loop-next-preserved-then-not-allows g t c = (c.loop-next.invariant.0, step_not c.args.task.now.kinds.now c.args.at.now.state (c.args.allowed + 1) (λ z. best_of z c.loop-next.progress.lemmas) c.args.task.now.candidates.now c.loop-next.next-index blank c.allows.result c.loop-next.invariant.1 c.loop-next-test.true c.allows.ensures c.if-not-allows.true, c.loop-next.invariant.2)

pub loop-next-preserved-then-allowed-cost : goal.loop-next-preserved-then-allowed-cost
unfolding blank
loop-next-preserved-then-allowed-cost g t c = (c.loop-next.invariant.0, step_dear c.args.task.now.kinds.now c.args.at.now.state c.args.allowed c.cost-cost.result (λ z. best_of z c.loop-next.progress.lemmas) c.args.task.now.candidates.now c.loop-next.next-index blank c.loop-next.invariant.1 c.loop-next-test.true (c.cost-cost.ensures c.args.task.now.kinds.now (c.requires.candidates.each c.loop-next.next-index blank c.loop-next-test.true)) c.if-allowed-cost.true, c.loop-next.invariant.2)

pub loop-next-preserved-then-best_at-allowed : goal.loop-next-preserved-then-best_at-allowed
unfolding blank
loop-next-preserved-then-best_at-allowed g t c = (c.loop-next.invariant.0, step_known c.args.task.now.kinds.now c.args.at.now.state c.args.allowed c.cost-cost.result c.best_at.result c.loop-next.progress.lemmas c.args.task.now.candidates.now c.loop-next.next-index blank c.loop-next.invariant.1 c.loop-next-test.true (c.cost-cost.ensures c.args.task.now.kinds.now (c.requires.candidates.each c.loop-next.next-index blank c.loop-next-test.true)) (known_behind c.args.task.now.kinds.now c.loop-next.progress c.args.at.now.state (get_or c.args.task.now.candidates.now c.loop-next.next-index blank).step c.code_behind.result c.best_at.result c.show_limits.ensures c.loop-next.invariant.0.knows c.requires.numbered.valid (some_left c.allows.ensures c.if-not-allows.false) c.code_behind.ensures c.best_at.ensures) c.if-best_at-allowed.true, c.loop-next.invariant.2)

pub returns-in_err-behind-clause-further : goal.returns-in_err-behind-clause-further
returns-in_err-behind-clause-further g t c = further_wider (g.B.RowBound.value c.args.task.now.bound.now) c.args.task.now.kinds.now c.args.task.now.budget c.args.at.now.state c.args.allowed c.args.progress.now c.loop-next.progress c.loop-next.invariant.0.further

pub visit-requires : goal.visit-requires
unfolding blank
visit-requires g t c κs within =
    let fewer : columns_left c.args.task.now.kinds.now c.args.at.now.state ≡ columns_left c.args.task.now.kinds.now c.in_ok-behind.behind.state + 1 = fewer_after c.args.task.now.kinds.now c.args.at.now.state (get_or c.args.task.now.candidates.now c.loop-next.next-index blank).step c.show_limits.ensures (some_left c.allows.ensures c.if-not-allows.false) ∙ ap (λ (z : State). columns_left c.args.task.now.kinds.now z + 1) (sym c.in_ok-behind.ensures.state) in
    let less : columns_left c.args.task.now.kinds.now c.in_ok-behind.behind.state < columns_left c.args.task.now.kinds.now c.args.at.now.state = omega (arith, fewer) in
    let told : c.best_at.result ≡ best_of c.in_ok-behind.behind.state c.loop-next.progress.lemmas = (known_behind c.args.task.now.kinds.now c.loop-next.progress c.args.at.now.state (get_or c.args.task.now.candidates.now c.loop-next.next-index blank).step c.code_behind.result c.best_at.result c.show_limits.ensures c.loop-next.invariant.0.knows c.requires.numbered.valid (some_left c.allows.ensures c.if-not-allows.false) c.code_behind.ensures c.best_at.ensures) ∙ ap (λ (z : State). best_of z c.loop-next.progress.lemmas) (sym c.in_ok-behind.ensures.state) in
    let low : best_of c.in_ok-behind.behind.state c.loop-next.progress.lemmas ≤ c.args.allowed - c.cost-cost.result = omega (arith, told, c.if-best_at-allowed.false) in
    let kept : AreKept (g.B.RowBound.value c.args.task.now.bound.now) c.args.task.now.kinds.now c.loop-next.progress.lemmas = c.loop-next.invariant.0.further.lemmas in
    let nodes : c.loop-next.progress.nodes ≤ c.args.task.now.budget = c.loop-next.invariant.0.further.nodes in
    let knows : KnowsAll c.args.task.now.kinds.now c.loop-next.progress = c.loop-next.invariant.0.knows in
    let few : c.args.allowed - c.cost-cost.result ≤ 32 = omega (arith, c.requires.few) in
    let noted = c.loop-next.invariant.2 in
    let empty : AreEmpty c.args.task.now.kinds.now c.in_ok-behind.behind.state c.beyond-beyond.result = subst (λ (z : State). AreEmpty c.args.task.now.kinds.now z c.beyond-beyond.result) (sym c.in_ok-behind.ensures.state) (c.beyond-beyond.ensures c.args.task.now.kinds.now c.args.at.now.state c.show_limits.ensures (c.requires.candidates.each c.loop-next.next-index blank c.loop-next-test.true) (some_left c.allows.ensures c.if-not-allows.false) c.requires.empty) in
    search rules

pub returns-in-Err-clause-further : goal.returns-in-Err-clause-further
unfolding blank
returns-in-Err-clause-further g t c = further_wider (g.B.RowBound.value c.args.task.now.bound.now) c.args.task.now.kinds.now c.args.task.now.budget c.args.at.now.state c.args.allowed c.args.progress.now c.visit.new.progress (further_behind (g.B.RowBound.value c.args.task.now.bound.now) c.args.task.now.kinds.now c.args.task.now.budget c.args.at.now.state c.in_ok-behind.behind.state c.args.allowed c.cost-cost.result (get_or c.args.task.now.candidates.now c.loop-next.next-index blank).step c.args.progress.now c.loop-next.progress c.visit.new.progress c.show_limits.ensures (some_left c.allows.ensures c.if-not-allows.false) (c.cost-cost.ensures c.args.task.now.kinds.now (c.requires.candidates.each c.loop-next.next-index blank c.loop-next-test.true)) c.if-allowed-cost.false c.in_ok-behind.ensures.state c.loop-next.invariant.0.further c.in-Err.ensures.further)

pub returns-in_err-push-clause-further : goal.returns-in_err-push-clause-further
unfolding blank
returns-in_err-push-clause-further g t c = further_wider (g.B.RowBound.value c.args.task.now.bound.now) c.args.task.now.kinds.now c.args.task.now.budget c.args.at.now.state c.args.allowed c.args.progress.now c.visit.new.progress (further_behind (g.B.RowBound.value c.args.task.now.bound.now) c.args.task.now.kinds.now c.args.task.now.budget c.args.at.now.state c.in_ok-behind.behind.state c.args.allowed c.cost-cost.result (get_or c.args.task.now.candidates.now c.loop-next.next-index blank).step c.args.progress.now c.loop-next.progress c.visit.new.progress c.show_limits.ensures (some_left c.allows.ensures c.if-not-allows.false) (c.cost-cost.ensures c.args.task.now.kinds.now (c.requires.candidates.each c.loop-next.next-index blank c.loop-next-test.true)) c.if-allowed-cost.false c.in_ok-behind.ensures.state c.loop-next.invariant.0.further c.in-Ok.ensures.further)

pub returns-in-Some-tried-clause-further : goal.returns-in-Some-tried-clause-further
unfolding blank
returns-in-Some-tried-clause-further g t c = further_wider (g.B.RowBound.value c.args.task.now.bound.now) c.args.task.now.kinds.now c.args.task.now.budget c.args.at.now.state c.args.allowed c.args.progress.now c.visit.new.progress (further_behind (g.B.RowBound.value c.args.task.now.bound.now) c.args.task.now.kinds.now c.args.task.now.budget c.args.at.now.state c.in_ok-behind.behind.state c.args.allowed c.cost-cost.result (get_or c.args.task.now.candidates.now c.loop-next.next-index blank).step c.args.progress.now c.loop-next.progress c.visit.new.progress c.show_limits.ensures (some_left c.allows.ensures c.if-not-allows.false) (c.cost-cost.ensures c.args.task.now.kinds.now (c.requires.candidates.each c.loop-next.next-index blank c.loop-next-test.true)) c.if-allowed-cost.false c.in_ok-behind.ensures.state c.loop-next.invariant.0.further c.in-Ok.ensures.further)

pub returns-in-Some-tried-clause-found : goal.returns-in-Some-tried-clause-found
unfolding blank
returns-in-Some-tried-clause-found g t c =
    let inner : HasFound c.args.task.now.kinds.now c.in_ok-behind.behind.state (c.args.allowed - c.cost-cost.result) c.in-Some-tried.rest c.loop-next.progress c.visit.new.progress = rw c.in-Some-tried.is at c.in-Ok.ensures.found in
    found_behind (g.B.RowBound.value c.args.task.now.bound.now) c.args.task.now.kinds.now c.args.task.now.budget c.args.at.now.state c.in_ok-behind.behind.state c.args.allowed c.cost-cost.result c.args.task.now.candidates.now c.args.task.now.candidates.now c.loop-next.next-index blank c.in-Some-tried.rest c.push.new.self c.args.progress.now c.loop-next.progress c.visit.new.progress
    (λ row s valid. g.met.B.RowBound.holds c.args.task.now.bound.now row s c.args.task.now.kinds.now c.show_limits.ensures valid) c.show_limits.ensures (some_left (c.has_fingers.ensures c.args.task.now.kinds.now c.requires.numbered.valid) c.if-not-has_fingers.false) c.requires.candidates c.requires.numbered.valid refl c.loop-next-test.true (some_left c.allows.ensures c.if-not-allows.false) c.loop-next.invariant.1 (c.cost-cost.ensures c.args.task.now.kinds.now (c.requires.candidates.each c.loop-next.next-index blank c.loop-next-test.true)) c.if-allowed-cost.false c.in_ok-behind.ensures.state c.loop-next.invariant.0 inner c.in_ok-push.ensures.ok

pub loop-next-preserved : goal.loop-next-preserved
unfolding blank
loop-next-preserved g t c =
    let failed : HasFailed c.args.task.now.kinds.now c.in_ok-behind.behind.state (c.args.allowed - c.cost-cost.result) c.loop-next.progress c.visit.new.progress = rw c.in_default-tried.is at c.in-Ok.ensures.failed in
    (tried_more (g.B.RowBound.value c.args.task.now.bound.now) c.args.task.now.kinds.now c.args.task.now.budget c.args.at.now.state c.in_ok-behind.behind.state c.args.allowed c.cost-cost.result (get_or c.args.task.now.candidates.now c.loop-next.next-index blank).step c.args.progress.now c.loop-next.progress c.visit.new.progress c.show_limits.ensures (some_left c.allows.ensures c.if-not-allows.false) (c.cost-cost.ensures c.args.task.now.kinds.now (c.requires.candidates.each c.loop-next.next-index blank c.loop-next-test.true)) c.if-allowed-cost.false c.in_ok-behind.ensures.state c.loop-next.invariant.0 c.in-Ok.ensures.further failed, step_fails c.args.task.now.kinds.now (columns_left c.args.task.now.kinds.now c.in_ok-behind.behind.state + 1) c.args.at.now.state c.in_ok-behind.behind.state c.args.allowed c.cost-cost.result c.loop-next.progress.lemmas c.visit.new.progress.lemmas c.args.task.now.candidates.now c.loop-next.next-index blank c.in-Ok.ensures.further.grown c.loop-next.invariant.1 c.loop-next-test.true (c.cost-cost.ensures c.args.task.now.kinds.now (c.requires.candidates.each c.loop-next.next-index blank c.loop-next-test.true)) c.in_ok-behind.ensures.state failed.proves, c.in-Ok.ensures.noted)

pub returns-in_err-keep-2-clause-further : goal.returns-in_err-keep-2-clause-further
returns-in_err-keep-2-clause-further g t c = further_still (g.B.RowBound.value c.args.task.now.bound.now) c.args.task.now.kinds.now c.args.task.now.budget (columns_left c.args.task.now.kinds.now c.args.at.now.state + 1) c.args.at.now.state c.args.allowed c.args.progress.now c.loop-next.progress c.keep-2.new.self c.in_err-keep-2.ensures.err c.in_err-keep-2.ensures.nodes (further_wider (g.B.RowBound.value c.args.task.now.bound.now) c.args.task.now.kinds.now c.args.task.now.budget c.args.at.now.state c.args.allowed c.args.progress.now c.loop-next.progress c.loop-next.invariant.0.further)

pub returns-clause-further : goal.returns-clause-further
returns-clause-further g t c = further_kept (g.B.RowBound.value c.args.task.now.bound.now) c.args.task.now.kinds.now c.args.task.now.budget c.args.at.now.state c.args.allowed by.Branch c.args.progress.now c.loop-next.progress c.keep-2.new.self c.loop-next.invariant.0 c.in_ok-keep-2.ensures.nodes c.in_ok-keep-2.ensures.ok c.requires.numbered.valid ((some_left (c.has_fingers.ensures c.args.task.now.kinds.now c.requires.numbered.valid) c.if-not-has_fingers.false), branch_end c.args.task.now.kinds.now c.args.at.now.state c.args.task.now.candidates.now c.args.task.now.candidates.now c.loop-next.next-index (λ z. best_of z c.loop-next.progress.lemmas) (c.args.allowed + 1) c.requires.candidates c.requires.numbered.valid refl c.loop-next-test.false c.loop-next.invariant.1) (rw c.in_default.is at c.in_ok-served.ensures.none) c.requires.low

pub returns-clause-failed : goal.returns-clause-failed
returns-clause-failed g t c = failed_kept (g.B.RowBound.value c.args.task.now.bound.now) c.args.task.now.kinds.now c.args.task.now.budget c.args.at.now.state c.args.allowed by.Branch c.args.progress.now c.loop-next.progress c.keep-2.new.self c.loop-next.invariant.0 c.in_ok-keep-2.ensures.nodes c.in_ok-keep-2.ensures.ok (c.in_ok-keep-2.ensures.knows c.args.task.now.kinds.now)

pub returns-in-Err-clause-spent : goal.returns-in-Err-clause-spent
unfolding blank
returns-in-Err-clause-spent g t c = λ e. spent_behind (g.B.RowBound.value c.args.task.now.bound.now) c.args.task.now.kinds.now c.args.task.now.budget c.args.at.now.state c.in_ok-behind.behind.state c.args.allowed (get_or c.args.task.now.candidates.now c.loop-next.next-index blank).step c.args.progress.now c.loop-next.progress c.visit.new.progress c.show_limits.ensures (some_left c.allows.ensures c.if-not-allows.false) c.in_ok-behind.ensures.state c.loop-next.invariant.0 (c.in-Err.ensures.spent e)
