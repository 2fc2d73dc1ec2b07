use Rattle.std.proofs.Common.{sym, ◌∙◌}
use Rattle.std.proofs.lemmas.Result.{err_from_is_err_and}
use Rattle.gds_record.proofs.Walks.{moves}
use Rattle.gds_read.proofs.Passes.{pass_fails, pass_goes}
use Rattle.gds_read.proofs.pass.first_pass.Goals as goal

pub returns-in_err-place : goal.returns-in_err-place
returns-in_err-place c =
    let p = err_from_is_err_and c.from_residual-in_err-place.result c.from_residual-in_err-place.ensures.1 in
    rw (p.1, p.2) (sym (pass_fails c.args.bytes.now c.records.place c.records.at c.in_ok-rec.rec c.in_err-place.field-0.0 (sym c.in_ok-rec.ensures) (sym c.in_err-place.ensures)) ∙ c.records.invariant.1)

pub records-preserved : goal.records-preserved
records-preserved c = (
  (moves c.args.bytes.now c.records.at c.in_ok-rec.rec (sym c.in_ok-rec.ensures)).within,
  sym (pass_goes c.args.bytes.now c.records.place c.records.at c.in_ok-rec.rec c.in_ok-place.place (sym c.in_ok-rec.ensures) (sym c.in_ok-place.ensures) c.in_default.not-Ended) ∙ c.records.invariant.1,
)
