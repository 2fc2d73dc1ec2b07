use Rattle.std.proofs.Common.{rules, arith, ◌≡◌, ◌≤◌, length, pos, slice_index_or}
use Rattle.std.proofs.lemmas.Result.{err_from_is_err_and}
use Rattle.gds_area.specs.declared.even_odd.SideEnd.{SideEnd}
use Rattle.gds_area.proofs.Rows.{same_row_at, next_row_at, row_stops_at, rows_done}
use Rattle.gds_area.proofs.even_odd.sweep.Goals as goal

-- what stands where no end is
abbrev none : SideEnd
none = record { y = pos 0; x = pos 0 }

pub loop-end-preserved-then-end-row : goal.loop-end-preserved-then-end-row
loop-end-preserved-then-end-row c =
    let same : (slice_index_or c.args.ends.now c.loop-end.end-index none).y ≡ c.loop-end.row.y = search rules in
    same_row_at c.args.draw_context.now c.loop-end.rects c.loop-end.row c.loop-end.xs.items c.push.new.xs.items c.args.ends.now c.loop-end.end-index none _ c.loop-end-test.true same c.in_ok-push.ensures c.loop-end.invariant

pub returns-in_err-xs : goal.returns-in_err-xs
returns-in_err-xs c =
    let other : (slice_index_or c.args.ends.now c.loop-end.end-index none).y ≡ c.loop-end.row.y → ⊥ = search rules in
    let p = err_from_is_err_and c.from_residual-in_err-xs.result c.from_residual-in_err-xs.ensures.1 in
    rw (p.1, p.2) (row_stops_at c.args.draw_context.now c.loop-end.rects c.next_row.new.rects c.next_row.new.rects c.loop-end.row c.loop-end.xs.items c.args.ends.now c.loop-end.end-index none c.in_err-xs.field-0.0 _ c.loop-end-test.true other c.in_err-xs.ensures.drawn c.loop-end.invariant)

pub loop-end-preserved : goal.loop-end-preserved
loop-end-preserved c =
    let other : (slice_index_or c.args.ends.now c.loop-end.end-index none).y ≡ c.loop-end.row.y → ⊥ = search rules in
    next_row_at c.args.draw_context.now c.loop-end.rects c.next_row.new.rects c.loop-end.row c.loop-end.xs.items c.in_ok-xs.xs.items c.args.ends.now c.loop-end.end-index none _ c.loop-end-test.true other c.in_ok-xs.ensures.drawn c.in_ok-xs.ensures.crossings c.loop-end.invariant

pub returns : goal.returns
returns c =
    let past : length c.args.ends.now ≤ c.loop-end.end-index = omega (arith, c.loop-end-test.false) in
    rows_done c.args.draw_context.now c.loop-end.rects c.loop-end.row c.loop-end.xs.items c.args.ends.now c.loop-end.end-index _ past c.loop-end.invariant
