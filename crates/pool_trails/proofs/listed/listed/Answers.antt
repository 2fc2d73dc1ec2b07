use Rattle.pool_trails.proofs.Lists.{unread_none}
use Rattle.pool_trails.proofs.listed.listed.Goals as goal

pub returns-in-Err-clause-none : goal.returns-in-Err-clause-none
returns-in-Err-clause-none c =
    unread_none c.args.kinds.now c.args.along.now c.args.gates.now c.args.lemmas.now c.unread.result c.in-Err.fault
    c.in_ok-name.name c.in_ok-text.text.items c.deref.result.now c.in_ok-pools.pools c.unread.ensures
    c.in_ok-name.ensures c.in_ok-pools.ensures c.in_ok-text.ensures.text c.deref.ensures.value c.in-Err.ensures.none
