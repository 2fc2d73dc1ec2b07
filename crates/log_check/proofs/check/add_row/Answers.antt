use Rattle.std.proofs.Common.{List, ◌≡◌, ◌∙◌, ap, subst, sym, Option, Some, None}
use Rattle.bound_log.specs.declared.log.LogStep.{LogStep}
use Rattle.bound_log.specs.declared.log.Best.{Best}
use Rattle.log_check.specs.Items.{HasSeen, with_gaps}
use Rattle.log_check.proofs.check.add_row.Goals as goal

pub returns-clause-seen : goal.returns-clause-seen
returns-clause-seen c = λ value version lemmas seen.
    let row : Some (record { gaps = c.in-Some.row.gaps; steps = c.as_slice.result.now }) ≡ c.args.row.now = ap (λ (steps : List LogStep). Some (record { gaps = c.in-Some.row.gaps; steps = steps })) c.as_slice.ensures ∙ sym c.in-Some.is in
    subst (λ (best : Option Best). HasSeen value c.add_columns.new.seen (record { version = version; lemmas = lemmas; best = best })) row
    (c.in_ok-add_columns.ensures.seen value (with_gaps (record { version = version; lemmas = lemmas; best = None }) c.in-Some.row.gaps) (c.gaps.ensures.seen value (record { version = version; lemmas = lemmas; best = None }) seen))
