use Rattle.std.proofs.Common.{rules, sym, ◌∙◌}
use Rattle.lef_read.proofs.Flows.{at_exit, pin_fails, pin_ends_fails, pin_port_fails, pin_other_fails}
use Rattle.lef_read.proofs.pin.statements.Goals as goal

pub returns-in_err-word-clause-keeps : goal.returns-in_err-word-clause-keeps
returns-in_err-word-clause-keeps c = at_exit c.from_residual.result c.in_err-word.field-0.0 _ _ c.from_residual.ensures.1 (pin_fails _ _ _ _ _ _ _ c.statements.invariant.0 c.in_err-word.ensures.err)

pub returns-in_err-named-in-End-clause-keeps : goal.returns-in_err-named-in-End-clause-keeps
returns-in_err-named-in-End-clause-keeps c = at_exit c.from_residual-in_err-named-in-End.result c.in_err-named-in-End.field-0.0 _ _ c.from_residual-in_err-named-in-End.ensures.1 (pin_ends_fails _ _ _ _ _ _ _ _ _ _ c.statements.invariant.0 c.in_ok-word.ensures.ok (sym c.keyword_of.ensures ∙ c.in-End.is) c.in_err-named-in-End.ensures.steps)

pub returns-in_err-block-in-Port-clause-keeps : goal.returns-in_err-block-in-Port-clause-keeps
returns-in_err-block-in-Port-clause-keeps c = at_exit c.from_residual-in_err-block-in-Port.result c.in_err-block-in-Port.field-0.0 _ _ c.from_residual-in_err-block-in-Port.ensures.1 (pin_port_fails _ _ _ _ _ _ _ _ _ _ _ c.statements.invariant.0 c.in_ok-word.ensures.ok (sym c.keyword_of.ensures ∙ c.in-Port.is) c.in_err-block-in-Port.ensures.keeps)

pub returns-in_err-pass-in_default : goal.returns-in_err-pass-in_default
returns-in_err-pass-in_default c = record { less = search rules; keeps = at_exit c.from_residual-in_err-pass-in_default.result c.in_err-pass-in_default.field-0.0 _ _ c.from_residual-in_err-pass-in_default.ensures.1 (pin_other_fails _ _ _ _ _ _ _ _ _ _ c.statements.invariant.0 c.in_ok-word.ensures.ok (λ k. c.in_default.not-End (c.keyword_of.ensures ∙ k)) (λ k. c.in_default.not-Port (c.keyword_of.ensures ∙ k)) c.in_err-pass-in_default.ensures.steps) }
