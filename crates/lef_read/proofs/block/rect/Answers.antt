use Rattle.lef_read.proofs.Flows.{at_exit, rect_layerless, rect_fails, other_fails, wires_fails, other_is, wires_are}
use Rattle.lef_read.specs.Drafts.{block_shown}
use Rattle.lef_read.proofs.block.rect.Goals as goal

pub returns-in_err-sides-in-OtherLayer-clause-keeps : goal.returns-in_err-sides-in-OtherLayer-clause-keeps
returns-in_err-sides-in-OtherLayer-clause-keeps c = at_exit c.from_residual.result c.in_err-sides-in-OtherLayer.field-0.0 _ _ c.from_residual.ensures.1 (rect_fails _ _ c.args.current _ _ _ _ (other_is c.args.current c.in-OtherLayer.is) c.in_err-sides-in-OtherLayer.ensures.steps)

pub returns-in_err-semicolon-in-OtherLayer-clause-keeps : goal.returns-in_err-semicolon-in-OtherLayer-clause-keeps
returns-in_err-semicolon-in-OtherLayer-clause-keeps c = at_exit c.from_residual-in_err-semicolon-in-OtherLayer.result c.in_err-semicolon-in-OtherLayer.field-0.0 _ _ c.from_residual-in_err-semicolon-in-OtherLayer.ensures.1 (rw c.in-OtherLayer.is (other_fails _ _ _ _ _ _ _ _ c.in_ok-sides-in-OtherLayer.ensures.steps c.in_err-semicolon-in-OtherLayer.ensures.steps))

pub returns-in_err-sides-in-Wires-clause-keeps : goal.returns-in_err-sides-in-Wires-clause-keeps
returns-in_err-sides-in-Wires-clause-keeps c = at_exit c.from_residual-in_err-sides-in-Wires.result c.in_err-sides-in-Wires.field-0.0 _ _ c.from_residual-in_err-sides-in-Wires.ensures.1 (rect_fails _ _ c.args.current _ _ _ _ (wires_are c.args.current c.in-Wires.layer c.in-Wires.is) c.in_err-sides-in-Wires.ensures.steps)

pub returns-in_err-semicolon-in-Wires-clause-keeps : goal.returns-in_err-semicolon-in-Wires-clause-keeps
returns-in_err-semicolon-in-Wires-clause-keeps c = at_exit c.from_residual-in_err-semicolon-in-Wires.result c.in_err-semicolon-in-Wires.field-0.0 _ _ c.from_residual-in_err-semicolon-in-Wires.ensures.1 (rw c.in-Wires.is (wires_fails _ _ _ _ _ _ _ _ _ _ c.in_ok-sides-in-Wires.ensures.steps c.in_ok-rect-in-Wires.ensures c.in_err-semicolon-in-Wires.ensures.steps))

pub returns-in-NoLayer-clause-keeps : goal.returns-in-NoLayer-clause-keeps
returns-in-NoLayer-clause-keeps c = rw c.in-NoLayer.is (rect_layerless c.args.draft.now (block_shown c.args.block.now) c.args.line c.args.cursor.now)
