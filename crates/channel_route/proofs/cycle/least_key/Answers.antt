use Rattle.std.proofs.Common.{◌≡◌, ◌+◌, ◌≤◌, ◌<◌, List, true, All, take, get_or, subst, sym, arith, rules, take_all}
use Rattle.channel_route.specs.declared.cycle.Step.{Step}
use Rattle.channel_route.specs.Turn.{steps, passes}
use Rattle.channel_route.proofs.Turns.{least_more, passes_at}
use Rattle.channel_route.proofs.cycle.least_key.Goals as goal
use Rattle.channel_route.proofs.cycle.least_key.Goals.{then-step-least, else-step-least}

abbrev blank : Step
blank = record { wire = record { left = 0; key = 0; right = 0; net = record { 0 = 0 } }; line = 0 }

pub loop-step-preserved : goal.loop-step-preserved
loop-step-preserved c =
    let entry : Step = get_or c.args.turn.now c.loop-step.step-index blank in
    elim c.if-step-least.branch [
      | then-step-least w ↦
          let less : entry.wire.key < c.loop-step.least = search rules in
          subst (λ key. (passes steps c.args.turn.now key ≡ true) × All (λ (a : Step). key ≤ a.wire.key) (take (c.loop-step.step-index + 1) c.args.turn.now)) (sym w.least-is) (
            passes_at steps c.args.turn.now c.loop-step.step-index blank c.loop-step-test.true,
            least_more steps.key c.args.turn.now c.loop-step.step-index blank c.loop-step.least entry.wire.key c.loop-step-test.true (omega (arith, less)) (omega arith) c.loop-step.invariant.1,
          )
      | else-step-least w ↦
          let high : c.loop-step.least ≤ entry.wire.key = search rules in
          subst (λ key. (passes steps c.args.turn.now key ≡ true) × All (λ (a : Step). key ≤ a.wire.key) (take (c.loop-step.step-index + 1) c.args.turn.now)) (sym w.least-is) (
            c.loop-step.invariant.0,
            least_more steps.key c.args.turn.now c.loop-step.step-index blank c.loop-step.least c.loop-step.least c.loop-step-test.true (omega arith) high c.loop-step.invariant.1,
          )
    ]

pub returns-clause-least : goal.returns-clause-least
returns-clause-least c =
    let all : take c.loop-step.step-index c.args.turn.now ≡ c.args.turn.now = take_all c.loop-step.step-index c.args.turn.now (search rules) in
    subst (λ (turn : List Step). All (λ (a : Step). c.loop-step.least ≤ a.wire.key) turn) all c.loop-step.invariant.1
