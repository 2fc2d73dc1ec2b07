use Rattle.std.proofs.Common.{arith, sym, ◌∙◌}
use Rattle.lef_read.proofs.Flows.{at_exit, block_fails, block_layer_fails, block_rect_fails, block_rect_goes, block_class_fails, block_other}
use Rattle.lef_read.proofs.block.block.Goals as goal

pub returns-in_err-word-clause-keeps : goal.returns-in_err-word-clause-keeps
returns-in_err-word-clause-keeps c = at_exit c.from_residual.result c.in_err-word.field-0.0 _ _ c.from_residual.ensures.1 (block_fails _ _ _ _ _ _ _ c.statements.invariant.0 c.in_err-word.ensures.err)

pub returns-in_err-current-in-Layer-clause-keeps : goal.returns-in_err-current-in-Layer-clause-keeps
returns-in_err-current-in-Layer-clause-keeps c = at_exit c.from_residual-in_err-current-in-Layer.result c.in_err-current-in-Layer.field-0.0 _ _ c.from_residual-in_err-current-in-Layer.ensures.1 (block_layer_fails _ _ _ _ _ _ _ _ _ _ c.statements.invariant.0 c.in_ok-word.ensures.ok (sym c.keyword_of.ensures ∙ c.in-Layer.is) c.in_err-current-in-Layer.ensures.steps)

pub returns-in_err-rect-in-Rect-clause-keeps : goal.returns-in_err-rect-in-Rect-clause-keeps
returns-in_err-rect-in-Rect-clause-keeps c = at_exit c.from_residual-in_err-rect-in-Rect.result c.in_err-rect-in-Rect.field-0.0 _ _ c.from_residual-in_err-rect-in-Rect.ensures.1 (block_rect_fails _ _ _ _ _ _ _ _ _ _ _ c.statements.invariant.0 c.in_ok-word.ensures.ok (sym c.keyword_of.ensures ∙ c.in-Rect.is) c.in_err-rect-in-Rect.ensures.keeps)

pub returns-in_err-pass-in-Class-clause-keeps : goal.returns-in_err-pass-in-Class-clause-keeps
returns-in_err-pass-in-Class-clause-keeps c = at_exit c.from_residual-in_err-pass-in-Class.result c.in_err-pass-in-Class.field-0.0 _ _ c.from_residual-in_err-pass-in-Class.ensures.1 (block_class_fails _ _ _ _ _ _ _ _ _ _ c.statements.invariant.0 c.in_ok-word.ensures.ok (sym c.keyword_of.ensures ∙ c.in-Class.is) c.in_err-pass-in-Class.ensures.steps)

pub returns-in_default : goal.returns-in_default
returns-in_default c = record { less = tt; keeps = block_other _ _ _ _ _ _ _ _ c.statements.invariant.0 c.in_ok-word.ensures.ok (λ k. c.in_default.not-End (c.keyword_of.ensures ∙ k)) (λ k. c.in_default.not-Layer (c.keyword_of.ensures ∙ k)) (λ k. c.in_default.not-Rect (c.keyword_of.ensures ∙ k)) (λ k. c.in_default.not-Class (c.keyword_of.ensures ∙ k)) }

pub statements-preserved-in-Continue-branch-3 : goal.statements-preserved-in-Continue-branch-3
statements-preserved-in-Continue-branch-3 c = (block_rect_goes _ _ _ _ _ _ _ _ _ c.statements.invariant.0 c.in_ok-word.ensures.ok (sym c.keyword_of.ensures ∙ c.in-Rect.is) c.in_ok-rect-in-Rect.ensures.keeps, omega (arith, c.in_ok-rect-in-Rect.ensures.less, c.in_ok-word.ensures.less, c.statements.invariant.1))
