use Rattle.std.proofs.Common.{rules}
use Rattle.trail_pools.specs.Leveled.{levels_of}
use Rattle.trail_pools.specs.State.{start}
use Rattle.pool_check.specs.Stepping.{steps_of}
use Rattle.end_search.specs.Proof.{IsEndProof}
use Rattle.end_enough.proofs.Few.{never_of}
use Rattle.pool_search.proofs.search.search_pools.Goals as goal

pub returns-clause-enough : goal.returns-clause-enough
returns-clause-enough c =
    let found : IsEndProof (steps_of c.args.fingers.now c.args.opened.now)
    (levels_of c.args.fingers.now c.args.opened.now c.args.order.now) start c.args.gaps c.args.budget
    c.in_ok-proof.proof =
    search rules in
    never_of (steps_of c.args.fingers.now c.args.opened.now)
    (levels_of c.args.fingers.now c.args.opened.now c.args.order.now) start c.args.gaps c.args.budget
    c.in_ok-proof.proof found
