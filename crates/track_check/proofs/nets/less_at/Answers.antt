use Rattle.std.proofs.Common.{rules, ◌≡◌, arith, length, refl}
use Rattle.track_check.proofs.Around.{less_end, less_more, less_start}
use Rattle.track_check.proofs.nets.less_at.Goals as goal

pub loop-at-init : goal.loop-at-init
loop-at-init c = (refl, λ u. less_start c.args.low.now c.args.high.now u)

pub loop-at-preserved : goal.loop-at-preserved
loop-at-preserved c = (search rules, λ u. less_more c.loop-at.less c.args.low.now c.args.high.now c.loop-at.at u (omega (arith, c.loop-at.invariant.0, c.loop-at-test.true)) c.loop-at.invariant.1)

pub returns : goal.returns
returns c u =
    let low : length c.args.low.now ≡ 256 = search rules in
    let high : length c.args.high.now ≡ 256 = search rules in
    less_end c.loop-at.less c.args.low.now c.args.high.now c.loop-at.at u (omega (arith, low, c.loop-at-test.false)) (omega (arith, high, c.loop-at-test.false)) (c.loop-at.invariant.1 u)
