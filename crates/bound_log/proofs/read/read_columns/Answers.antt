use Rattle.std.proofs.Common.{rules, sym, ◌≡◌, None}
use Rattle.std.proofs.lemmas.Result.{err_from_is_err_and}
use Rattle.log_lines.specs.Words.{words_in}
use Rattle.log_lines.specs.Lines.{behind, lines_in}
use Rattle.bound_log.specs.Line.{column_in}
use Rattle.bound_log.specs.Reading.{columns_at}
use Rattle.bound_log.proofs.Fronts.{columns_done, columns_open, columns_wrong}
use Rattle.bound_log.proofs.read.read_columns.Goals as goal

pub returns-in_err-read_end-clause-fault : goal.returns-in_err-read_end-clause-fault
returns-in_err-read_end-clause-fault c =
    let p = err_from_is_err_and c.from_residual.result c.from_residual.ensures.1 in
    rw (p.1, p.2) (λ _. columns_open c.args.kinds.now c.columns.number (lines_in c.columns.rest.now) (behind c.columns.rest.now) c.columns.steps (columns_at c.args.kinds.now c.args.from (lines_in c.args.bytes.now) (behind c.args.bytes.now)) c.in-Some.first.line.now (lines_in c.in-Some.first.after.now) c.in_err-read_end.field-0.0 c.columns.invariant.1 c.in-Some.ensures.line (sym c.if-is_word.ensures.is) c.in_err-read_end.ensures)

pub returns-then-is_word-clause-steps : goal.returns-then-is_word-clause-steps
returns-then-is_word-clause-steps c =
    columns_done c.args.kinds.now c.columns.number (lines_in c.columns.rest.now) (behind c.columns.rest.now) c.columns.steps (columns_at c.args.kinds.now c.args.from (lines_in c.args.bytes.now) (behind c.args.bytes.now)) c.in-Some.first.line.now (lines_in c.in-Some.first.after.now) c.columns.invariant.1 c.in-Some.ensures.line (sym c.if-is_word.ensures.is) c.in_ok-read_end.ensures

pub returns-in_default-read_column-clause-fault : goal.returns-in_default-read_column-clause-fault
returns-in_default-read_column-clause-fault c = λ _.
    let none : None ≡ column_in c.args.kinds.now (words_in c.in-Some.first.line.now) = search rules in
    columns_wrong c.args.kinds.now c.columns.number (lines_in c.columns.rest.now) (behind c.columns.rest.now) c.columns.steps (columns_at c.args.kinds.now c.args.from (lines_in c.args.bytes.now) (behind c.args.bytes.now)) c.in-Some.first.line.now (lines_in c.in-Some.first.after.now) c.columns.invariant.1 c.in-Some.ensures.line (sym c.if-is_word.ensures.is) none
