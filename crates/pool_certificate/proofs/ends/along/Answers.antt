use Rattle.pool_certificate.proofs.Unproved.{none_unproved, refused_along}
use Rattle.pool_certificate.proofs.ends.along.Goals as goal

pub refusal_of-requires-clause-few : goal.refusal_of-requires-clause-few
refusal_of-requires-clause-few c = λ at is.
    absurd
    (none_unproved c.args.fingers.now c.args.opened.now c.as_slice.result.now c.in-Err.why c.in-Err.ensures.refused at is)

pub returns-in-Err-clause-refused : goal.returns-in-Err-clause-refused
returns-in-Err-clause-refused c =
    refused_along c.args.fingers.now c.args.pools.now c.args.first c.args.opened.now c.as_slice.result.now c.in-Err.why
    c.refusal_of.result c.requires.opened c.as_slice.ensures c.in-Err.ensures.refused c.refusal_of.ensures
