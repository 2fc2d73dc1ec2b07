use Rattle.std.proofs.Common.{rules, ◌-◌, ap, arith, refl, sym, ◌∙◌, ◌≡◌, ◌<◌, drop, get_or}
use Rattle.row_trails.specs.Counts.{entry}
use Rattle.row_state.specs.Completion.{fingers_left}
use Rattle.row_state.specs.Component.{has_finger}
use Rattle.row_state.specs.declared.kind.Kind.{Kind}
use Rattle.row_state.proofs.ComponentCode.{fingers_skip, met_more, none_behind}
use Rattle.row_state.proofs.ParityCode.{none_set}
use Rattle.row_state.proofs.component.met_classes.Goals as goal

pub loop-at-init : goal.loop-at-init
loop-at-init c = (
  refl,
  λ row h. none_set 256 h ∙ ap (λ fs. has_finger (entry c.args.classes.now) fs h) (sym (none_behind row c.args.kinds.now c.args.left.now)),
)

pub loop-at-preserved-then-left-at-gt0 : goal.loop-at-preserved-then-left-at-gt0
loop-at-preserved-then-left-at-gt0 c =
    let blank : Kind = record { gate = record { 0 = 0 }; lo = record { 0 = 0 }; hi = record { 0 = 0 }; width = 0; count = 0 } in
    let place : get_or c.args.classes.now (get_or c.args.kinds.now (c.loop-at.at - 1) blank).lo.0 0 < 256 = search rules in
    (search rules, λ row h. met_more row c.args.kinds.now c.args.left.now c.loop-at.at blank h (entry c.args.classes.now) c.loop-at.met c.loop-at-test.true c.loop-at.auto.at c.requires.same c.if-left-at-gt0.true (omega (arith, place, c.loop-at.invariant.0)) c.loop-at.invariant.1)

pub loop-at-preserved : goal.loop-at-preserved
loop-at-preserved c =
    let blank : Kind = record { gate = record { 0 = 0 }; lo = record { 0 = 0 }; hi = record { 0 = 0 }; width = 0; count = 0 } in (
      c.loop-at.invariant.0,
      λ row h. c.loop-at.invariant.1 row h
          ∙ ap (λ fs. has_finger (entry c.args.classes.now) fs h) (sym (fingers_skip row c.args.kinds.now c.args.left.now c.loop-at.at blank c.loop-at-test.true c.loop-at.auto.at c.requires.same (omega (arith, c.if-left-at-gt0.false)))),
    )

pub returns : goal.returns
returns c row h =
    let e : c.loop-at.at ≡ 0 = omega (arith, c.loop-at-test.false) in
    c.loop-at.invariant.1 row h ∙ ap (λ n. has_finger (entry c.args.classes.now) (fingers_left row (drop n c.args.kinds.now) (drop n c.args.left.now)) h) e
