use Rattle.track_search.specs.Limit.{IsEnd}
use Rattle.track_search.proofs.Least.{end_more}
use Rattle.track_search.proofs.Straight.{straight_end}
use Rattle.track_search.proofs.limit.search_limit.Goals as goal

pub returns-clause-end : goal.returns-clause-end
returns-clause-end g c = straight_end (g.B.RowBound.value c.args.bound.now) c.args.pins.now c.args.limit c.args.kinds.now c.args.gaps c.in_ok-ended.ended c.show_limits.ensures c.in_ok-ended.ensures.end

pub returns-clause-more : goal.returns-clause-more
returns-clause-more g c =
    let end' : IsEnd (g.B.RowBound.value c.args.bound.now) c.args.pins.now c.args.limit c.args.kinds.now c.args.gaps c.in_ok-ended.ended = returns-clause-end g c in
    end_more (g.B.RowBound.value c.args.bound.now) c.args.pins.now c.args.limit c.args.kinds.now c.args.gaps c.in_ok-ended.ended c.show_limits.ensures (λ row s valid. g.met.B.RowBound.holds c.args.bound.now row s c.args.kinds.now c.show_limits.ensures valid) end'
