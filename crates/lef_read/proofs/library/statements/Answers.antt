use Rattle.std.proofs.Common.{rules, sym, ◌∙◌}
use Rattle.lef_read.proofs.Flows.{at_exit, macro_fails, macro_ends_fails, macro_size_fails, macro_origin_fails, macro_pin_fails, macro_obs_fails, macro_density, macro_other_fails}
use Rattle.lef_read.proofs.library.statements.Goals as goal

pub returns-in_err-word-clause-keeps : goal.returns-in_err-word-clause-keeps
returns-in_err-word-clause-keeps c = at_exit c.from_residual.result c.in_err-word.field-0.0 _ _ c.from_residual.ensures.1 (macro_fails _ _ _ _ _ _ c.statements.invariant.0 c.in_err-word.ensures.err)

pub returns-in_err-named-in-End-clause-keeps : goal.returns-in_err-named-in-End-clause-keeps
returns-in_err-named-in-End-clause-keeps c = at_exit c.from_residual-in_err-named-in-End.result c.in_err-named-in-End.field-0.0 _ _ c.from_residual-in_err-named-in-End.ensures.1 (macro_ends_fails _ _ _ _ _ _ _ _ _ c.statements.invariant.0 c.in_ok-word.ensures.ok (sym c.keyword_of.ensures ∙ c.in-End.is) c.in_err-named-in-End.ensures.steps)

pub returns-in_err-size-in-Size-clause-keeps : goal.returns-in_err-size-in-Size-clause-keeps
returns-in_err-size-in-Size-clause-keeps c = at_exit c.from_residual-in_err-size-in-Size.result c.in_err-size-in-Size.field-0.0 _ _ c.from_residual-in_err-size-in-Size.ensures.1 (macro_size_fails _ _ _ _ _ _ _ _ _ c.statements.invariant.0 c.in_ok-word.ensures.ok (sym c.keyword_of.ensures ∙ c.in-Size.is) c.in_err-size-in-Size.ensures.steps)

pub returns-in_err-origin-in-Origin-clause-keeps : goal.returns-in_err-origin-in-Origin-clause-keeps
returns-in_err-origin-in-Origin-clause-keeps c = at_exit c.from_residual-in_err-origin-in-Origin.result c.in_err-origin-in-Origin.field-0.0 _ _ c.from_residual-in_err-origin-in-Origin.ensures.1 (macro_origin_fails _ _ _ _ _ _ _ _ _ c.statements.invariant.0 c.in_ok-word.ensures.ok (sym c.keyword_of.ensures ∙ c.in-Origin.is) c.in_err-origin-in-Origin.ensures.steps)

pub returns-in_err-pin-in-Pin-clause-keeps : goal.returns-in_err-pin-in-Pin-clause-keeps
returns-in_err-pin-in-Pin-clause-keeps c = at_exit c.from_residual-in_err-pin-in-Pin.result c.in_err-pin-in-Pin.field-0.0 _ _ c.from_residual-in_err-pin-in-Pin.ensures.1 (macro_pin_fails _ _ _ _ _ _ _ _ _ _ c.statements.invariant.0 c.in_ok-word.ensures.ok (sym c.keyword_of.ensures ∙ c.in-Pin.is) c.in_err-pin-in-Pin.ensures.keeps)

pub returns-in_err-block-in-Obs-clause-keeps : goal.returns-in_err-block-in-Obs-clause-keeps
returns-in_err-block-in-Obs-clause-keeps c = at_exit c.from_residual-in_err-block-in-Obs.result c.in_err-block-in-Obs.field-0.0 _ _ c.from_residual-in_err-block-in-Obs.ensures.1 (macro_obs_fails _ _ _ _ _ _ _ _ _ _ c.statements.invariant.0 c.in_ok-word.ensures.ok (sym c.keyword_of.ensures ∙ c.in-Obs.is) c.in_err-block-in-Obs.ensures.keeps)

pub returns-in-Density-clause-keeps : goal.returns-in-Density-clause-keeps
returns-in-Density-clause-keeps c = macro_density _ _ _ _ _ _ _ c.statements.invariant.0 c.in_ok-word.ensures.ok (sym c.keyword_of.ensures ∙ c.in-Density.is)

pub returns-in_err-pass-in_default : goal.returns-in_err-pass-in_default
returns-in_err-pass-in_default c = record { less = search rules; keeps = at_exit c.from_residual-in_err-pass-in_default.result c.in_err-pass-in_default.field-0.0 _ _ c.from_residual-in_err-pass-in_default.ensures.1 (macro_other_fails _ _ _ _ _ _ _ _ _ c.statements.invariant.0 c.in_ok-word.ensures.ok (λ k. c.in_default.not-End (c.keyword_of.ensures ∙ k)) (λ k. c.in_default.not-Size (c.keyword_of.ensures ∙ k)) (λ k. c.in_default.not-Origin (c.keyword_of.ensures ∙ k)) (λ k. c.in_default.not-Pin (c.keyword_of.ensures ∙ k)) (λ k. c.in_default.not-Obs (c.keyword_of.ensures ∙ k)) (λ k. c.in_default.not-Density (c.keyword_of.ensures ∙ k)) c.in_err-pass-in_default.ensures.steps) }
