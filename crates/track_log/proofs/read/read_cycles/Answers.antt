use Rattle.std.proofs.Common.{rules, ◌≡◌, None}
use Rattle.std.proofs.lemmas.Result.{err_from_is_err_and}
use Rattle.log_lines.specs.Words.{words_in}
use Rattle.log_lines.specs.Lines.{behind, lines_in}
use Rattle.track_log.specs.Line.{cycle_in}
use Rattle.track_log.specs.Reading.{cycles_at}
use Rattle.track_log.proofs.Fronts.{cycles_done, cycles_wrong}
use Rattle.track_log.proofs.read.read_cycles.Goals as goal

pub returns-in_err-lemmas-clause-fault : goal.returns-in_err-lemmas-clause-fault
returns-in_err-lemmas-clause-fault c =
    let p = err_from_is_err_and c.from_residual-in_err-lemmas.result c.from_residual-in_err-lemmas.ensures.1 in
    let none : None ≡ cycle_in c.args.kinds.now (words_in c.in-Some.first.line.now) = search rules in
    rw (p.1, p.2) (λ told. cycles_wrong c.args.gaps c.args.tracks c.args.kinds.now c.cycles.number (lines_in c.cycles.rest.now) (behind c.cycles.rest.now) c.cycles.cycles (cycles_at c.args.gaps c.args.tracks c.args.kinds.now 5 (lines_in c.args.bytes.now) (behind c.args.bytes.now)) c.in-Some.first.line.now (lines_in c.in-Some.first.after.now) c.in_err-lemmas.field-0.0 c.cycles.invariant.1 c.in-Some.ensures.line none (c.in_err-lemmas.ensures.fault told))

pub returns-in_default-2-clause-certificate : goal.returns-in_default-2-clause-certificate
returns-in_default-2-clause-certificate c =
    let none : None ≡ cycle_in c.args.kinds.now (words_in c.in-Some.first.line.now) = search rules in
    cycles_done c.args.gaps c.args.tracks c.args.kinds.now c.cycles.number (lines_in c.cycles.rest.now) (behind c.cycles.rest.now) c.cycles.cycles (cycles_at c.args.gaps c.args.tracks c.args.kinds.now 5 (lines_in c.args.bytes.now) (behind c.args.bytes.now)) c.in-Some.first.line.now (lines_in c.in-Some.first.after.now) c.in_ok-lemmas.lemmas c.cycles.invariant.1 c.in-Some.ensures.line none c.in_ok-lemmas.ensures.lemmas
