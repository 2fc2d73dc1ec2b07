use Rattle.track_search.specs.Fewest.{IsFewest}
use Rattle.track_search.proofs.Least.{legal_tracks, take_tracks}
use Rattle.track_search.proofs.Straight.{straight_fewest}
use Rattle.track_search.proofs.fewest.fewest_tracks.Goals as goal

pub returns-clause-fewest : goal.returns-clause-fewest
returns-clause-fewest g c = straight_fewest (g.B.RowBound.value c.args.bound.now) c.args.pins.now c.args.kinds.now c.args.gaps c.in_ok-fewest.fewest c.show_limits.ensures c.in_ok-fewest.ensures.fewest

pub returns-clause-take : goal.returns-clause-take
returns-clause-take g c =
    let fewest : IsFewest (g.B.RowBound.value c.args.bound.now) c.args.pins.now c.args.kinds.now c.args.gaps c.in_ok-fewest.fewest = returns-clause-fewest g c in
    take_tracks (g.B.RowBound.value c.args.bound.now) c.args.pins.now c.args.kinds.now c.args.gaps c.in_ok-fewest.fewest c.show_limits.ensures (λ row s valid. g.met.B.RowBound.holds c.args.bound.now row s c.args.kinds.now c.show_limits.ensures valid) fewest

pub returns-clause-legal : goal.returns-clause-legal
returns-clause-legal g c =
    let fewest : IsFewest (g.B.RowBound.value c.args.bound.now) c.args.pins.now c.args.kinds.now c.args.gaps c.in_ok-fewest.fewest = returns-clause-fewest g c in
    legal_tracks (g.B.RowBound.value c.args.bound.now) c.args.pins.now c.args.kinds.now c.args.gaps c.in_ok-fewest.fewest c.show_limits.ensures (λ row s valid. g.met.B.RowBound.holds c.args.bound.now row s c.args.kinds.now c.show_limits.ensures valid) fewest
