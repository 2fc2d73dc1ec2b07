use Rattle.std.proofs.Common.{inl, inr}
use Rattle.row_needs.specs.Bound.{value_by}
use Rattle.row_cycles.specs.Refusal.{HasNoStart, IsFirstUnjustified}
use Rattle.track_check.proofs.certify.cycles_start.Goals as goal

pub returns-in-Ok-clause-justified : goal.returns-in-Ok-clause-justified
returns-in-Ok-clause-justified c = inr (c.in_ok-bound.bound, c.in_ok-bound.ensures, c.in-Ok.ensures.certified.justified)

pub returns-in-Err-NoStart-clause-justified : goal.returns-in-Err-NoStart-clause-justified
returns-in-Err-NoStart-clause-justified c =
    let none : HasNoStart (value_by c.in_ok-bound.bound) c.args.pins.now c.args.kinds.now c.args.certificate.now.gaps c.args.certificate.now.cycles = (rw c.in-Err-NoStart.field-0-is at c.in-Err-NoStart.ensures.refused) (λ e. cc) in
    inr (c.in_ok-bound.bound, c.in_ok-bound.ensures, none.justified)

pub returns-in-Err-Unjustified-clause-rejected : goal.returns-in-Err-Unjustified-clause-rejected
returns-in-Err-Unjustified-clause-rejected c = λ other value name bytes read.
    let first : IsFirstUnjustified (value_by c.in_ok-bound.bound) c.args.pins.now c.args.kinds.now c.args.certificate.now.cycles c.in-Err-Unjustified.at = (rw c.in-Err-Unjustified.field-0-is at c.in-Err-Unjustified.ensures.refused) (λ e. cc) in
    record { certificate = c.args.certificate.now; read = read; at = c.in-Err-Unjustified.at; line_is = c.line_of.ensures; first = inl (c.in_ok-bound.bound, c.in_ok-bound.ensures, first) }
