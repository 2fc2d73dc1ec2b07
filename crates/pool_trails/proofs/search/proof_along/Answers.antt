use Rattle.std.proofs.Common.{inr}
use Rattle.pool_log.specs.Fits.{PoolsFit}
use Rattle.pool_trails.specs.Inner.{AreUnlistedAlong, ListAlong}
use Rattle.pool_trails.proofs.Searched.{proof_by, unlisted_by}
use Rattle.pool_trails.proofs.search.proof_along.Goals as goal

pub returns-in_default-clause-stopped : goal.returns-in_default-clause-stopped
returns-in_default-clause-stopped c =
    let none : AreUnlistedAlong c.args.kinds.now c.in_ok-along.along c.args.gates.now c.as_slice.result.now =
    rw c.in_default.is at c.in_ok-listed.ensures.none in
    inr (unlisted_by c.args.fingers.now c.args.gates.now c.requires.gates c.args.kinds.now
    c.in_ok-along.along c.args.budget c.in_ok-proof.proof c.as_slice.result.now
    c.as_slice.ensures c.in_ok-along.ensures.along c.in_ok-proof.ensures none)

pub returns-clause-proof : goal.returns-clause-proof
returns-clause-proof c =
    let fits : PoolsFit c.args.kinds.now c.in-Some.pools = rw c.in-Some.is at c.in_ok-listed.ensures.fits in
    let listed : ListAlong c.in_ok-along.along c.args.gates.now c.as_slice.result.now c.in-Some.pools =
    rw c.in-Some.is at c.in_ok-listed.ensures.listed in
    proof_by c.args.fingers.now c.args.gates.now c.requires.gates c.args.kinds.now c.in_ok-along.along
    c.args.budget c.in_ok-proof.proof c.as_slice.result.now
    c.as_slice.ensures c.in_ok-along.ensures.along c.in_ok-proof.ensures c.requires.fingers c.in-Some.pools fits listed
