use Rattle.std.proofs.Common.{List, ℕ, ◌≡◌, ap, arith, length}
use Rattle.bound_log.specs.Text.{counts_text}
use Rattle.bound_log.proofs.Texts.{counts_full, counts_left, on_err}
use Rattle.bound_log.proofs.spell.put_counts.Goals as goal

pub returns-in_err-put_more_counts-clause-full : goal.returns-in_err-put_more_counts-clause-full
returns-in_err-put_more_counts-clause-full g c =
    let same : length (counts_text c.as_slice.result.now) ≡ length (counts_text c.args.counts.now) = ap (λ (cs : List ℕ). length (counts_text cs)) c.as_slice.ensures in
    let full = counts_full c.as_slice.result.now _ (g.O.Out.room c.args.out.now) (g.O.Out.room c.put_number.new.out) c.in-len1-up.len_at_least c.in_ok-put_number.ensures.left c.in_err-put_more_counts.ensures.full in
    on_err c.from_residual-in_err-put_more_counts.result _ (omega (arith, same, full))

pub returns-clause-left : goal.returns-clause-left
returns-clause-left g c =
    let same : length (counts_text c.as_slice.result.now) ≡ length (counts_text c.args.counts.now) = ap (λ (cs : List ℕ). length (counts_text cs)) c.as_slice.ensures in
    let left = counts_left c.as_slice.result.now _ (g.O.Out.room c.args.out.now) (g.O.Out.room c.put_number.new.out) (g.O.Out.room c.put_more_counts.new.out) c.in-len1-up.len_at_least c.in_ok-put_number.ensures.left c.in_ok-put_more_counts.ensures.left in
    omega (arith, same, left)
