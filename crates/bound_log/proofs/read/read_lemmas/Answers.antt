use Rattle.std.proofs.Common.{rules, sym, ◌∙◌, ◌≡◌, ◌+◌, ◌≤◌, length, arith, Some}
use Rattle.std.proofs.lemmas.Result.{err_from_is_err_and}
use Rattle.cell_num.specs.declared.limits.TheConstants.{MOST_BYTES}
use Rattle.log_lines.specs.Words.{words_in}
use Rattle.log_lines.specs.Lines.{behind, lines_in}
use Rattle.bound_log.specs.declared.log.Ending.TheVariants as ending
use Rattle.bound_log.specs.declared.log.Entry.TheVariants as entry
use Rattle.bound_log.specs.Line.{entry_in}
use Rattle.bound_log.specs.Reading.{log_at}
use Rattle.bound_log.proofs.Fronts.{log_more, log_unlisted, log_wrong}
use Rattle.bound_log.proofs.read.read_lemmas.Goals as goal

pub returns-in_err-steps-in-Some-Ending-Gaps-clause-fault : goal.returns-in_err-steps-in-Some-Ending-Gaps-clause-fault
returns-in_err-steps-in-Some-Ending-Gaps-clause-fault c =
    let p = err_from_is_err_and c.from_residual-in_err-steps-in-Some-Ending-Gaps.result c.from_residual-in_err-steps-in-Some-Ending-Gaps.ensures.1 in
    let some : Some (entry.Ending (ending.Gaps c.in-Some-Ending-Gaps.gaps)) ≡ entry_in c.args.kinds.now (words_in c.in-Some.first.line.now) = search rules in
    rw (p.1, p.2) (λ told. log_unlisted c.args.version c.args.kinds.now c.lemmas.number (lines_in c.lemmas.rest.now) (behind c.lemmas.rest.now) c.lemmas.lemmas (log_at c.args.version c.args.kinds.now c.args.from (lines_in c.args.bytes.now) (behind c.args.bytes.now)) c.in-Some.first.line.now (lines_in c.in-Some.first.after.now) (behind c.in-Some.first.after.now) c.in-Some-Ending-Gaps.gaps c.in_err-steps-in-Some-Ending-Gaps.field-0.0 c.lemmas.invariant.1 c.in-Some.ensures.line c.in-Some.ensures.behind some (c.in_err-steps-in-Some-Ending-Gaps.ensures.fault told))

pub returns-in-None-clause-fault : goal.returns-in-None-clause-fault
returns-in-None-clause-fault c = λ _.
    log_wrong c.args.version c.args.kinds.now c.lemmas.number (lines_in c.lemmas.rest.now) (behind c.lemmas.rest.now) c.lemmas.lemmas (log_at c.args.version c.args.kinds.now c.args.from (lines_in c.args.bytes.now) (behind c.args.bytes.now)) c.in-Some.first.line.now (lines_in c.in-Some.first.after.now) c.lemmas.invariant.1 c.in-Some.ensures.line (sym c.in-None.is ∙ c.in_ok-lemma.ensures)

pub lemmas-preserved : goal.lemmas-preserved
lemmas-preserved c =
    let some : Some (entry.Lemma c.in-Some-Lemma.lemma) ≡ entry_in c.args.kinds.now (words_in c.in-Some.first.line.now) = search rules in
    let few : length c.in-Some.first.after.now + (c.lemmas.number + 1) ≤ MOST_BYTES + 3 = omega (arith, c.in-Some.ensures.less, c.lemmas.invariant.0) in
    (few, rw c.in_ok-push-in-Some-Lemma.ensures.ok (log_more c.args.version c.args.kinds.now c.lemmas.number (lines_in c.lemmas.rest.now) (behind c.lemmas.rest.now) c.lemmas.lemmas (log_at c.args.version c.args.kinds.now c.args.from (lines_in c.args.bytes.now) (behind c.args.bytes.now)) c.in-Some.first.line.now (lines_in c.in-Some.first.after.now) (behind c.in-Some.first.after.now) c.in-Some-Lemma.lemma c.lemmas.invariant.1 c.in-Some.ensures.line c.in-Some.ensures.behind some))
