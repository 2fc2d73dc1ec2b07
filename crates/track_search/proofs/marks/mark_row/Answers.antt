use Rattle.std.proofs.Common.{◌+◌, ◌||◌, drop, get_or, ltb, refl}
use Rattle.row_trails.specs.Counts.{flag}
use Rattle.row_state.specs.declared.kind.Kind.{Kind}
use Rattle.track_check.specs.Touches.{kind_touches, row_touches}
use Rattle.track_check.proofs.Counting.{touches_end, touches_step}
use Rattle.track_search.proofs.Marked.{marked_done, marked_on}
use Rattle.track_search.proofs.marks.mark_row.Goals as goal

pub loop-at-init : goal.loop-at-init
loop-at-init c = λ u. refl

pub loop-at-preserved : goal.loop-at-preserved
loop-at-preserved c = λ u.
    let blank : Kind = record { gate = record { 0 = 0 }; lo = record { 0 = 0 }; hi = record { 0 = 0 }; width = 0; count = 0 } in
    marked_on (flag c.loop-at.table u) (flag c.mark_kind.new.table u) (flag c.args.table.now u || ltb 0 (row_touches c.args.kinds.now c.args.left.now u)) (kind_touches u (get_or c.args.kinds.now c.loop-at.at blank, get_or c.args.left.now c.loop-at.at 0)) (row_touches (drop (c.loop-at.at + 1) c.args.kinds.now) (drop (c.loop-at.at + 1) c.args.left.now) u) (row_touches (drop c.loop-at.at c.args.kinds.now) (drop c.loop-at.at c.args.left.now) u)
    (c.mark_kind.ensures u) (touches_step c.args.kinds.now c.args.left.now u c.loop-at.at blank 0 c.loop-at-test.true c.requires.same) (c.loop-at.invariant u)

pub returns : goal.returns
returns c = λ u. marked_done (flag c.loop-at.table u) (flag c.args.table.now u || ltb 0 (row_touches c.args.kinds.now c.args.left.now u)) (row_touches (drop c.loop-at.at c.args.kinds.now) (drop c.loop-at.at c.args.left.now) u) (touches_end c.args.kinds.now c.args.left.now u c.loop-at.at c.loop-at-test.false) (c.loop-at.invariant u)
