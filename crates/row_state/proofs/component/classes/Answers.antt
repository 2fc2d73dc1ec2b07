use Rattle.std.proofs.Common.{ap, arith, sym, ◌∙◌}
use Rattle.row_state.specs.Classes.{least_chained}
use Rattle.row_state.specs.declared.kind.Kind.{Kind}
use Rattle.row_state.proofs.ComponentCode.{class_more, fingers_skip}
use Rattle.row_state.proofs.component.classes.Goals as goal

pub loop-at-preserved-then-left-at-gt0 : goal.loop-at-preserved-then-left-at-gt0
loop-at-preserved-then-left-at-gt0 c row u l =
    let blank : Kind = record { gate = record { 0 = 0 }; lo = record { 0 = 0 }; hi = record { 0 = 0 }; width = 0; count = 0 } in
    class_more row c.args.kinds.now c.args.left.now c.loop-at.at blank c.args.nets u c.loop-at.classes c.join.new.classes c.loop-at-test.true c.loop-at.auto.at c.requires.same c.if-left-at-gt0.true c.requires.kinds c.loop-at.invariant c.join.ensures l

pub loop-at-preserved : goal.loop-at-preserved
loop-at-preserved c row u l =
    let blank : Kind = record { gate = record { 0 = 0 }; lo = record { 0 = 0 }; hi = record { 0 = 0 }; width = 0; count = 0 } in
    c.loop-at.invariant row u l
    ∙ ap (λ fs. least_chained fs u) (sym (fingers_skip row c.args.kinds.now c.args.left.now c.loop-at.at blank c.loop-at-test.true c.loop-at.auto.at c.requires.same (omega (arith, c.if-left-at-gt0.false))))
