use Rattle.std.proofs.Common.{arith, refl}
use Rattle.row_state.specs.declared.kind.Kind.{Kind}
use Rattle.track_check.proofs.Counting.{touches_end, touches_step}
use Rattle.track_check.proofs.counts.add_row.Goals as goal

pub loop-at-init : goal.loop-at-init
loop-at-init c = λ u. refl

pub loop-at-preserved : goal.loop-at-preserved
loop-at-preserved c = λ u.
    let blank : Kind = record { gate = record { 0 = 0 }; lo = record { 0 = 0 }; hi = record { 0 = 0 }; width = 0; count = 0 } in
    omega (arith, c.loop-at.invariant u, c.add_kind.ensures u, touches_step c.args.kinds.now c.args.left.now u c.loop-at.at blank 0 c.loop-at-test.true c.requires.same)

pub returns : goal.returns
returns c = λ u. omega (arith, c.loop-at.invariant u, touches_end c.args.kinds.now c.args.left.now u c.loop-at.at c.loop-at-test.false)
