use Rattle.std.proofs.Common.{rules, sym, ◌∙◌}
use Rattle.lef_read.proofs.Flows.{at_exit, library_fails, library_ends_goes, ended_there, library_macro_fails, library_other}
use Rattle.lef_read.proofs.library.library.Goals as goal

pub returns-in_err-word-clause-keeps : goal.returns-in_err-word-clause-keeps
returns-in_err-word-clause-keeps c = at_exit c.from_residual.result c.in_err-word.field-0.0 _ _ c.from_residual.ensures.1 (library_fails _ _ _ _ _ c.statements.invariant.0 c.in_err-word.ensures.err c.in_err-word.ensures.more)

pub returns-in-End-clause-keeps : goal.returns-in-End-clause-keeps
returns-in-End-clause-keeps c = ended_there _ c.keyword.new.self _ (library_ends_goes c.statements.draft c.statements.cursor c.word_or_end.new.self c.in-Some.word.line c.in-Some.word.text.now _ c.keyword.new.self _ c.statements.invariant.0 (search rules) (sym c.keyword_of.ensures ∙ c.in-End.is) c.in_ok-keyword-in-End.ensures.steps)

pub returns-in_err-cell-in-Macro-clause-keeps : goal.returns-in_err-cell-in-Macro-clause-keeps
returns-in_err-cell-in-Macro-clause-keeps c = at_exit c.from_residual-in_err-cell-in-Macro.result c.in_err-cell-in-Macro.field-0.0 _ _ c.from_residual-in_err-cell-in-Macro.ensures.1 (library_macro_fails c.statements.draft c.statements.cursor c.word_or_end.new.self c.in-Some.word.line c.in-Some.word.text.now _ _ _ _ c.statements.invariant.0 (search rules) (sym c.keyword_of.ensures ∙ c.in-Macro.is) c.in_err-cell-in-Macro.ensures.keeps)

pub returns-in_default-keyword_of : goal.returns-in_default-keyword_of
returns-in_default-keyword_of c = record { less = tt; keeps = library_other c.statements.draft c.statements.cursor c.word_or_end.new.self c.in-Some.word.line c.in-Some.word.text.now _ c.statements.invariant.0 (search rules) (λ k. c.in_default-keyword_of.not-End (c.keyword_of.ensures ∙ k)) (λ k. c.in_default-keyword_of.not-Header (c.keyword_of.ensures ∙ k)) (λ k. c.in_default-keyword_of.not-Units (c.keyword_of.ensures ∙ k)) (λ k. c.in_default-keyword_of.not-Macro (c.keyword_of.ensures ∙ k)) }
