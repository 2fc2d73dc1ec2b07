use Rattle.std.proofs.Common.{ℕ, ◌≡◌, List, rules, subst}
use Rattle.bench_command.specs.Bench.{IsCountOf}
use Rattle.bench_command.proofs.Tallied.{ended_more, tallied_more, within_more}
use Rattle.bench_command.proofs.cells.bench.Goals as goal

pub loop-cell-preserved : goal.loop-cell-preserved
loop-cell-preserved c =
    let whole : c.as_slice.result.now ≡ c.in_ok-text.text.items = search rules in
    let counted = subst (λ (text : List ℕ). IsCountOf text c.loop-cell.cell c.in_ok-one.one) whole c.in_ok-one.ensures.counted in (
      tallied_more c.in_ok-text.text.items c.loop-cell.cell c.loop-cell.tally c.in_ok-one.one c.plus-tally.result c.loop-cell.invariant.0 counted c.plus-tally.ensures,
      ended_more c.loop-cell.cell c.loop-cell.tally c.in_ok-one.one c.plus-tally.result c.loop-cell.invariant.1 c.in_ok-one.ensures.ended c.plus-tally.ensures,
      within_more c.loop-cell.cell c.loop-cell.tally c.in_ok-one.one c.plus-tally.result c.loop-cell.invariant.2 c.in_ok-one.ensures.few c.plus-tally.ensures,
    )
