use Rattle.std.proofs.Common.{rules, ◌≡◌, ◌∙◌, sym, ap, ℤ, List, false, pos, slice_index_or}
use Rattle.gds_area.specs.declared.even_odd.SideEnd.{SideEnd}
use Rattle.gds_area.specs.EvenOdd.{runs}
use Rattle.gds_area.specs.Areas.{has_some}
use Rattle.gds_area.proofs.Enclosing.{next_row_at}
use Rattle.gds_area.proofs.even_odd.crossed.Goals as goal

-- what stands where no end is
abbrev none : SideEnd
none = record { y = pos 0; x = pos 0 }

pub loop-end-preserved : goal.loop-end-preserved
loop-end-preserved c =
    let e = slice_index_or c.args.ends.now c.loop-end.end-index none in
    let other : e.y ≡ c.loop-end.row.y → ⊥ = search rules in
    let no_run : has_some (runs c.loop-end.row.y e.y c.in_ok-odd.odd.items) ≡ false =
    ap (λ (t : List ℤ). has_some (runs c.loop-end.row.y e.y t)) (sym c.as_slice.ensures.value) ∙ (sym (c.has_run.ensures c.loop-end.row.y e.y) ∙ c.if-has_run.false) in
    next_row_at c.loop-end.row c.loop-end.xs.items c.in_ok-odd.odd.items c.push-in-loop-end.new.xs.items c.args.ends.now c.loop-end.end-index none _ c.loop-end-test.true other c.in_ok-odd.ensures no_run c.in_ok-push-2.ensures c.loop-end.invariant
