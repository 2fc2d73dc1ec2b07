use Rattle.std.proofs.Common.{rules, sym, subst, ◌≡◌, ◌≤◌, ◌+◌, drop, get_or}
use Rattle.std.proofs.lemmas.List.{drop_more, drop_all}
use Rattle.std.proofs.lemmas.Result.{err_from_is_err_and}
use Rattle.gds_area.specs.declared.progress.Progress.{Progress}
use Rattle.gds_area.specs.Progress.{amount}
use Rattle.gds_read.specs.Flat.{row_in, listed_in}
use Rattle.gds_read.proofs.Drawings.{with_front}
use Rattle.gds_area.proofs.Moved.{near_inside}
use Rattle.gds_read.proofs.Copied.{row_more}
use Rattle.gds_read.proofs.Listed.{listed_behind, listed_more, listed_past, listed_stops, listed_done}
use Rattle.gds_read.proofs.flat.+references.Goals.{add_elements-in-Ok+in_ok-add_record, add_elements-in_default}
use Rattle.gds_read.proofs.flat.+references.Goals as goal

pub add_row-add_copy-requires : goal.add_row-add_copy-requires
add_row-add_copy-requires t c = (
  search rules,
  (
    c.requires.size,
    (
      c.requires.index,
      (
        c.requires.place,
        (
          c.requires.context,
          (
            near_inside c.args.context.now.levels c.args.origin.now.stands c.copy_at-copy.result c.composed.result c.composed.ensures c.requires.context.levels c.requires.near c.copy_at-copy.ensures.near,
            c.loop-column.invariant.0,
          ),
        ),
      ),
    ),
  ),
)

pub add_row-loop-column-preserved : goal.add_row-loop-column-preserved
add_row-loop-column-preserved t c = (
  c.in_ok-add_copy.ensures.room,
  row_more c.args.bytes.now c.args.context.now c.args.origin.now c.args.copies.now c.args.row c.loop-column.column c.copy_at-copy.result c.composed.result c.loop-column.progress c.add_copy.new.progress
      (with_front c.args.progress.now (row_in c.args.bytes.now c.args.context.now c.args.origin.now c.args.copies.now (amount c.args.progress.now) c.args.row))
      c.loop-column-test.true c.copy_at-copy.ensures.value c.composed.ensures c.in_ok-add_copy.ensures.adds c.loop-column.invariant.1,
)

pub add_elements-returns-in_err-add_record-clause-adds : goal.add_elements-returns-in_err-add_record-clause-adds
add_elements-returns-in_err-add_record-clause-adds t c =
    let p = err_from_is_err_and c.from_residual.result c.from_residual.ensures.1 in
    rw (p.1, p.2) (listed_stops c.args.bytes.now c.args.context.now (get_or c.args.places.now c.loop-place.place-index 0) (drop c.loop-place.place-index c.args.places.now) (drop (c.loop-place.place-index + 1) c.args.places.now)
    c.args.progress.now c.loop-place.progress c.add_record.new.progress c.add_record.new.progress c.in-Ok.rec c.in_err-add_record.field-0.0
    (listed_in c.args.bytes.now c.args.context.now (amount c.args.progress.now) c.args.places.now)
    (drop_more c.args.places.now c.loop-place.place-index 0 c.loop-place-test.true) (sym c.in-Ok.ensures) c.in_err-add_record.ensures.adds c.loop-place.invariant.1)

pub add_elements-loop-place-preserved : goal.add_elements-loop-place-preserved
add_elements-loop-place-preserved t c =
    let all = with_front c.args.progress.now (listed_in c.args.bytes.now c.args.context.now (amount c.args.progress.now) c.args.places.now) in
    let first = drop_more c.args.places.now c.loop-place.place-index 0 c.loop-place-test.true in
    elim c.match-next_record.branch [
      | add_elements-in-Ok+in_ok-add_record w ↦ subst
          (λ (x : Progress). (amount x ≤ 1000000) × (listed_behind c.args.bytes.now c.args.context.now x (drop (c.loop-place.place-index + 1) c.args.places.now) ≡ with_front c.args.progress.now (listed_in c.args.bytes.now c.args.context.now (amount c.args.progress.now) c.args.places.now)))
          (sym w.progress-is) (
            w.in_ok-add_record.ensures.room,
            listed_more c.args.bytes.now c.args.context.now (get_or c.args.places.now c.loop-place.place-index 0) (drop c.loop-place.place-index c.args.places.now) (drop (c.loop-place.place-index + 1) c.args.places.now)
                c.loop-place.progress w.add_record.new.progress w.in-Ok.rec all first (sym w.in-Ok.ensures) w.in_ok-add_record.ensures.adds c.loop-place.invariant.1,
          )
      | add_elements-in_default w ↦ subst
          (λ (x : Progress). (amount x ≤ 1000000) × (listed_behind c.args.bytes.now c.args.context.now x (drop (c.loop-place.place-index + 1) c.args.places.now) ≡ with_front c.args.progress.now (listed_in c.args.bytes.now c.args.context.now (amount c.args.progress.now) c.args.places.now)))
          (sym w.progress-is) (
            c.loop-place.invariant.0,
            listed_past c.args.bytes.now c.args.context.now (get_or c.args.places.now c.loop-place.place-index 0) (drop c.loop-place.place-index c.args.places.now) (drop (c.loop-place.place-index + 1) c.args.places.now)
                c.loop-place.progress w.in_default.field-0 all first (sym w.in_default.ensures) c.loop-place.invariant.1,
          )
    ]

pub add_elements-returns-clause-adds : goal.add_elements-returns-clause-adds
add_elements-returns-clause-adds t c =
    listed_done c.args.bytes.now c.args.context.now (drop c.loop-place.place-index c.args.places.now) c.args.progress.now c.loop-place.progress
    (listed_in c.args.bytes.now c.args.context.now (amount c.args.progress.now) c.args.places.now)
    (drop_all c.loop-place.place-index c.args.places.now c.loop-place-test.false) c.loop-place.invariant.1
