use Rattle.std.proofs.Common.{rules, subst}
use Rattle.cell_num.specs.declared.finger.Fingers.{Fingers}
use Rattle.pool_certificate.specs.Accepted.{HasFewWaysOf}
use Rattle.pool_certificate.proofs.Least.{proves_all}
use Rattle.pool_certificate.proofs.Refusals.{ends_refused}
use Rattle.pool_certificate.proofs.certify.gaps_of_all.Goals as goal

pub returns-in_err-ends-clause-refused : goal.returns-in_err-ends-clause-refused
returns-in_err-ends-clause-refused c =
    let refused =
    ends_refused c.args.fingers.now c.args.certificate.now c.in_ok-others.others c.lemma_line-first.result
    c.in_err-ends.field-0.0 c.in_ok-others.ensures.staying c.lemma_line-first.ensures.line
    c.in_err-ends.ensures.refused in
    search rules

pub returns-clause-proved : goal.returns-clause-proved
returns-clause-proved c =
    proves_all c.args.fingers.now c.args.certificate.now c.in_ok-others.others c.in_ok-ends.ends c.saturating_sub.result
    c.in_ok-others.ensures.staying c.in_ok-ends.ensures.fill c.in_ok-ends.ensures.texts c.in_ok-ends.ensures.accepted
    (search rules)

pub returns-clause-few_ways : goal.returns-clause-few_ways
returns-clause-few_ways c =
    subst (λ (others : Fingers). HasFewWaysOf others c.args.certificate.now.pools) c.in_ok-others.ensures.staying
    c.in_ok-ends.ensures.few_ways
