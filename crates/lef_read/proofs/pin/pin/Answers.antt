use Rattle.std.proofs.Common.{refl}
use Rattle.lef_read.proofs.Flows.{at_exit, pin_named, pin_body_fails}
use Rattle.lef_read.proofs.pin.pin.Goals as goal

pub returns-in_err-name-clause-keeps : goal.returns-in_err-name-clause-keeps
returns-in_err-name-clause-keeps c = at_exit c.from_residual.result c.in_err-name.field-0.0 _ _ c.from_residual.ensures.1 (pin_named _ _ _ _ _ _ refl c.in_err-name.ensures.err)

pub returns-in_err-statements-clause-keeps : goal.returns-in_err-statements-clause-keeps
returns-in_err-statements-clause-keeps c = at_exit c.from_residual-in_err-statements.result c.in_err-statements.field-0.0 _ _ c.from_residual-in_err-statements.ensures.1 (pin_body_fails _ _ _ _ _ _ _ _ _ _ c.in_ok-name.ensures.ok c.in_ok-pin.ensures c.in_err-statements.ensures.keeps)
