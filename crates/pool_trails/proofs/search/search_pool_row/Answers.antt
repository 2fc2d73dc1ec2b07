use Rattle.std.proofs.Common.{rules, IfErr, IfOk, subst}
use Rattle.pool_trails.specs.declared.opening.Opening.{Opening}
use Rattle.pool_trails.specs.Ended.{IsPoolFound, IsPoolStopped}
use Rattle.pool_trails.proofs.Stopped.{stopped_as}
use Rattle.pool_trails.proofs.search.search_pool_row.Goals as goal

pub returns-clause-found : goal.returns-clause-found
returns-clause-found c =
    subst (λ (opening : Opening). IfOk c.row_of.result (λ r.
    IsPoolFound opening c.args.fingers.now c.args.budget r.row r.certificate)) c.in_ok-gates.ensures.opening
    c.row_of.ensures.found

pub returns-clause-stopped : goal.returns-clause-stopped
returns-clause-stopped c =
    subst (λ (opening : Opening). IfErr c.row_of.result
    (IsPoolStopped opening c.args.fingers.now c.args.budget)) c.in_ok-gates.ensures.opening
    c.row_of.ensures.stopped

pub returns-in_err-proof-clause-stopped : goal.returns-in_err-proof-clause-stopped
returns-in_err-proof-clause-stopped c =
    let stopped =
    stopped_as c.args.fingers.now c.requires c.in_ok-kinds.kinds c.in_ok-kinds.ensures.kinds c.in_ok-kinds.ensures.sound
    c.args.budget c.args.opening c.in_ok-gates.gates.opening c.in_ok-out.out c.in_ok-others.others
    c.in_err-proof.field-0.0 c.in_ok-out.ensures c.in_ok-others.ensures.staying c.in_ok-gates.ensures.opening
    c.in_err-proof.ensures.stopped in
    search rules
