use Rattle.row_trails.specs.Counts.{flag}
use Rattle.track_search.proofs.Marked.{kind_touched, kind_untouched}
use Rattle.track_search.proofs.marks.mark_kind.Goals as goal

pub returns-then-count-eq0 : goal.returns-then-count-eq0
returns-then-count-eq0 c = λ u. kind_untouched (flag c.args.table.now u) u c.args.kind.now c.args.count c.if-count-eq0.true

pub returns : goal.returns
returns c = λ u. kind_touched (flag c.args.table.now u) (flag c.mark.new.table u) (flag c.mark-2.new.table u) (flag c.mark-3.new.table u) u c.args.kind.now c.args.count c.if-count-eq0.false (c.mark.ensures u) (c.mark-2.ensures u) (c.mark-3.ensures u)
