use Rattle.std.proofs.Common.{rules, ◌≡◌, ◌+◌, ◌≤◌, length, arith, None, Some}
use Rattle.std.proofs.lemmas.Result.{err_from_is_err_and}
use Rattle.cell_num.specs.declared.limits.TheConstants.{MOST_BYTES}
use Rattle.log_lines.specs.Words.{words_in}
use Rattle.log_lines.specs.Lines.{behind, lines_in}
use Rattle.bound_log.specs.declared.log.Ending.TheVariants as ending
use Rattle.order_log.specs.declared.certificate.OrderEntry.TheVariants as entry
use Rattle.order_log.specs.Reading.{entry_in, lemmas_at}
use Rattle.order_log.proofs.Fronts.{lemmas_ended, lemmas_listed, lemmas_more, lemmas_unlisted, lemmas_wrong}
use Rattle.order_log.proofs.read.read_lemmas.Goals as goal

pub returns-in_err-steps-in-Some-Ending-Gaps-clause-fault : goal.returns-in_err-steps-in-Some-Ending-Gaps-clause-fault
returns-in_err-steps-in-Some-Ending-Gaps-clause-fault g c =
    let p = err_from_is_err_and c.from_residual-in_err-steps-in-Some-Ending-Gaps.result c.from_residual-in_err-steps-in-Some-Ending-Gaps.ensures.1 in
    let some : Some (entry.Ending (ending.Gaps c.in-Some-Ending-Gaps.gaps)) ≡ entry_in (g.L.LemmaText.said c.args.kinds.now.nets) (words_in c.in-Some.first.line.now) = search rules in
    rw (p.1, p.2) (λ told. lemmas_unlisted (g.L.LemmaText.said c.args.kinds.now.nets) c.args.fill c.args.order c.args.kinds.now c.lemmas.number (lines_in c.lemmas.rest.now) (behind c.lemmas.rest.now) c.lemmas.lemmas (lemmas_at (g.L.LemmaText.said c.args.kinds.now.nets) c.args.fill c.args.order c.args.kinds.now 5 (lines_in c.args.bytes.now) (behind c.args.bytes.now)) c.in-Some.first.line.now (lines_in c.in-Some.first.after.now) (behind c.in-Some.first.after.now) c.in-Some-Ending-Gaps.gaps c.in_err-steps-in-Some-Ending-Gaps.field-0.0 c.lemmas.invariant.3 c.in-Some.ensures.line c.in-Some.ensures.behind some (c.in_err-steps-in-Some-Ending-Gaps.ensures.fault told))

pub returns-in-None-clause-fault : goal.returns-in-None-clause-fault
returns-in-None-clause-fault g c = λ _.
    let none : None ≡ entry_in (g.L.LemmaText.said c.args.kinds.now.nets) (words_in c.in-Some.first.line.now) = search rules in
    lemmas_wrong (g.L.LemmaText.said c.args.kinds.now.nets) c.args.fill c.args.order c.args.kinds.now c.lemmas.number (lines_in c.lemmas.rest.now) (behind c.lemmas.rest.now) c.lemmas.lemmas (lemmas_at (g.L.LemmaText.said c.args.kinds.now.nets) c.args.fill c.args.order c.args.kinds.now 5 (lines_in c.args.bytes.now) (behind c.args.bytes.now)) c.in-Some.first.line.now (lines_in c.in-Some.first.after.now) c.lemmas.invariant.3 c.in-Some.ensures.line none

pub lemmas-preserved : goal.lemmas-preserved
lemmas-preserved g c =
    let some : Some (entry.Lemma c.in-Some-Lemma.lemma) ≡ entry_in (g.L.LemmaText.said c.args.kinds.now.nets) (words_in c.in-Some.first.line.now) = search rules in
    let few : length c.in-Some.first.after.now + (c.lemmas.number + 1) ≤ MOST_BYTES + 5 = omega (arith, c.in-Some.ensures.less, c.lemmas.invariant.0) in
    (few, c.lemmas.invariant.1, c.lemmas.invariant.2, rw c.in_ok-push-in-Some-Lemma.ensures.ok (lemmas_more (g.L.LemmaText.said c.args.kinds.now.nets) c.args.fill c.args.order c.args.kinds.now c.lemmas.number (lines_in c.lemmas.rest.now) (behind c.lemmas.rest.now) c.lemmas.lemmas (lemmas_at (g.L.LemmaText.said c.args.kinds.now.nets) c.args.fill c.args.order c.args.kinds.now 5 (lines_in c.args.bytes.now) (behind c.args.bytes.now)) c.in-Some.first.line.now (lines_in c.in-Some.first.after.now) (behind c.in-Some.first.after.now) c.in-Some-Lemma.lemma c.lemmas.invariant.3 c.in-Some.ensures.line c.in-Some.ensures.behind some))

pub returns-in-Some-Ending-Gaps-clause-certificate : goal.returns-in-Some-Ending-Gaps-clause-certificate
returns-in-Some-Ending-Gaps-clause-certificate g c =
    let some : Some (entry.Ending (ending.Gaps c.in-Some-Ending-Gaps.gaps)) ≡ entry_in (g.L.LemmaText.said c.args.kinds.now.nets) (words_in c.in-Some.first.line.now) = search rules in
    rw (c.lemmas.invariant.1, c.lemmas.invariant.2, c.in-Some-Ending-Gaps.field-0-0-is)
    (lemmas_listed (g.L.LemmaText.said c.args.kinds.now.nets) c.args.fill c.args.order c.args.kinds.now c.lemmas.number (lines_in c.lemmas.rest.now) (behind c.lemmas.rest.now) c.lemmas.lemmas (lemmas_at (g.L.LemmaText.said c.args.kinds.now.nets) c.args.fill c.args.order c.args.kinds.now 5 (lines_in c.args.bytes.now) (behind c.args.bytes.now)) c.in-Some.first.line.now (lines_in c.in-Some.first.after.now) (behind c.in-Some.first.after.now) c.in-Some-Ending-Gaps.gaps c.in_ok-steps-in-Some-Ending-Gaps.steps c.lemmas.invariant.3 c.in-Some.ensures.line c.in-Some.ensures.behind some c.in_ok-steps-in-Some-Ending-Gaps.ensures.steps)

pub returns-in-Some-Ending-Open-clause-certificate : goal.returns-in-Some-Ending-Open-clause-certificate
returns-in-Some-Ending-Open-clause-certificate g c =
    let some : Some (entry.Ending ending.Open) ≡ entry_in (g.L.LemmaText.said c.args.kinds.now.nets) (words_in c.in-Some.first.line.now) = search rules in
    rw (c.lemmas.invariant.1, c.lemmas.invariant.2)
    (lemmas_ended (g.L.LemmaText.said c.args.kinds.now.nets) c.args.fill c.args.order c.args.kinds.now c.lemmas.number (lines_in c.lemmas.rest.now) (behind c.lemmas.rest.now) c.lemmas.lemmas (lemmas_at (g.L.LemmaText.said c.args.kinds.now.nets) c.args.fill c.args.order c.args.kinds.now 5 (lines_in c.args.bytes.now) (behind c.args.bytes.now)) c.in-Some.first.line.now (lines_in c.in-Some.first.after.now) (behind c.in-Some.first.after.now) c.lemmas.invariant.3 c.in-Some.ensures.line c.in-Some.ensures.behind some c.in_ok-read_end-in-Some-Ending-Open.ensures)
