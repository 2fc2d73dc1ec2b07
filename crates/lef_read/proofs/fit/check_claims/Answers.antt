use Rattle.lef_read.specs.Lookups.{Fits, IsClaim}
use Rattle.lef_read.proofs.Runs.{first_in}
use Rattle.lef_read.proofs.fit.check_claims.Goals as goal

pub first_astray-requires : goal.first_astray-requires
first_astray-requires c = (first_in (Fits c.args.map.now) (IsClaim c.args.map.now) c.args.claims.now c.in_ok-claim.claim.now c.in_ok-claim.ensures c.requires).block

pub name-requires : goal.name-requires
name-requires c = (first_in (Fits c.args.map.now) (IsClaim c.args.map.now) c.args.claims.now c.in_ok-claim.claim.now c.in_ok-claim.ensures c.requires).within
