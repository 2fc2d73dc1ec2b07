use Rattle.std.proofs.Common.{rules, sym, ◌≡◌, None}
use Rattle.std.proofs.lemmas.Result.{err_from_is_err_and}
use Rattle.log_lines.specs.Words.{words_in}
use Rattle.log_lines.specs.Lines.{behind, lines_in}
use Rattle.track_log.specs.Line.{lemma_in}
use Rattle.track_log.specs.Reading.{lemmas_at}
use Rattle.track_log.proofs.Fronts.{lemmas_done, lemmas_open, lemmas_wrong}
use Rattle.track_log.proofs.read.read_lemmas.Goals as goal

pub returns-in_err-read_end-clause-fault : goal.returns-in_err-read_end-clause-fault
returns-in_err-read_end-clause-fault c =
    let p = err_from_is_err_and c.from_residual.result c.from_residual.ensures.1 in
    rw (p.1, p.2) (λ _. lemmas_open c.args.kinds.now c.lemmas.number (lines_in c.lemmas.rest.now) (behind c.lemmas.rest.now) c.lemmas.lemmas (lemmas_at c.args.kinds.now c.args.from (lines_in c.args.bytes.now) (behind c.args.bytes.now)) c.in-Some.first.line.now (lines_in c.in-Some.first.after.now) c.in_err-read_end.field-0.0 c.lemmas.invariant.1 c.in-Some.ensures.line (sym c.if-is_word.ensures.is) c.in_err-read_end.ensures)

pub returns-then-is_word-clause-lemmas : goal.returns-then-is_word-clause-lemmas
returns-then-is_word-clause-lemmas c =
    lemmas_done c.args.kinds.now c.lemmas.number (lines_in c.lemmas.rest.now) (behind c.lemmas.rest.now) c.lemmas.lemmas (lemmas_at c.args.kinds.now c.args.from (lines_in c.args.bytes.now) (behind c.args.bytes.now)) c.in-Some.first.line.now (lines_in c.in-Some.first.after.now) c.lemmas.invariant.1 c.in-Some.ensures.line (sym c.if-is_word.ensures.is) c.in_ok-read_end.ensures

pub returns-in_default-2-clause-fault : goal.returns-in_default-2-clause-fault
returns-in_default-2-clause-fault c = λ _.
    let none : None ≡ lemma_in c.args.kinds.now (words_in c.in-Some.first.line.now) = search rules in
    lemmas_wrong c.args.kinds.now c.lemmas.number (lines_in c.lemmas.rest.now) (behind c.lemmas.rest.now) c.lemmas.lemmas (lemmas_at c.args.kinds.now c.args.from (lines_in c.args.bytes.now) (behind c.args.bytes.now)) c.in-Some.first.line.now (lines_in c.in-Some.first.after.now) c.lemmas.invariant.1 c.in-Some.ensures.line (sym c.if-is_word.ensures.is) none
