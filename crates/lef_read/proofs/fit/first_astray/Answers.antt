use Rattle.std.proofs.Common.{subst, sym}
use Rattle.net_extract.specs.NetMaps.{AreCellsOf}
use Rattle.lef_read.proofs.Claims.{astray_answer, fits_answer}
use Rattle.lef_read.proofs.fit.first_astray.Goals as goal

pub returns-clause-some : goal.returns-clause-some
returns-clause-some c = astray_answer c.args.map.now c.args.claim.now c.as_slice.result.now (subst (AreCellsOf c.args.map.now c.args.claim.now.net c.args.claim.now.layer) (sym c.as_slice.ensures.value) c.in_ok-pieces.ensures.cells) c.first_bare.result c.first_bare.ensures.some

pub returns-clause-none : goal.returns-clause-none
returns-clause-none c = fits_answer c.args.map.now c.args.claim.now c.as_slice.result.now (subst (AreCellsOf c.args.map.now c.args.claim.now.net c.args.claim.now.layer) (sym c.as_slice.ensures.value) c.in_ok-pieces.ensures.cells) c.first_bare.result c.first_bare.ensures.none
