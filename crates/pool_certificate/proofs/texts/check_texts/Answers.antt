use Rattle.pool_certificate.proofs.OtherLines.{texts_along}
use Rattle.pool_certificate.proofs.texts.check_texts.Goals as goal

pub returns-in-None-clause-texts : goal.returns-in-None-clause-texts
returns-in-None-clause-texts c =
    texts_along c.args.fingers.now c.args.pools.now c.args.along.now c.as_slice.result.now c.in_ok-at.field-0
    c.requires.along c.as_slice.ensures c.in_ok-at.ensures.texts c.in-None.is
