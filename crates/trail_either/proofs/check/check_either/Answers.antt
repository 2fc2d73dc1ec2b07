use Rattle.trail_either.proofs.check.check_either.Goals as goal

pub returns-in-Filled-clause-never : goal.returns-in-Filled-clause-never
returns-in-Filled-clause-never c = rw c.in-Filled.is c.check_trails.ensures.never

pub returns-in-Filled-clause-law : goal.returns-in-Filled-clause-law
returns-in-Filled-clause-law c = rw c.in-Filled.is c.check_trails.ensures.law

pub returns-in-Pools-clause-law : goal.returns-in-Pools-clause-law
returns-in-Pools-clause-law c = rw c.in-Pools.is c.check_certificate.ensures.law
