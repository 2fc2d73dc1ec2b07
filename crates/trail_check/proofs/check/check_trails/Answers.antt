use Rattle.trail_check.proofs.Least.{accepted_low}
use Rattle.trail_check.proofs.check.check_trails.Goals as goal

pub returns-clause-law : goal.returns-clause-law
returns-clause-law c = accepted_low c.args.fingers.now c.args.trails.now c.requires.fingers

pub returns-in_err-opened-clause-law : goal.returns-in_err-opened-clause-law
returns-in_err-opened-clause-law c = accepted_low c.args.fingers.now c.args.trails.now c.requires.fingers
