use Rattle.std.proofs.Common.{◌≡◌, true, false, get_or, rules}
use Rattle.std.proofs.lemmas.List.Elements.{All-more}
use Rattle.channel_route.specs.declared.constraint.Constraint.{Constraint}
use Rattle.channel_route.specs.Turn.{leads}
use Rattle.channel_route.proofs.Down.{down_at, more_behind}
use Rattle.channel_route.proofs.cycle.next_below.Goals as goal

abbrev blank : Constraint
blank = record { upper = 0; lower = 0; line = 0 }

pub loop-constraint-preserved : goal.loop-constraint-preserved
loop-constraint-preserved c =
    let none : leads c.args.left.now c.args.key (get_or c.args.constraints.now c.loop-constraint.constraint-index blank) ≡ false = search rules in (
      more_behind c.args.left.now c.args.key c.args.constraints.now c.loop-constraint.constraint-index blank c.loop-constraint-test.true none c.loop-constraint.invariant.0,
      All-more (λ (z : Constraint). leads c.args.left.now c.args.key z ≡ false) c.args.constraints.now c.loop-constraint.constraint-index blank c.loop-constraint-test.true c.loop-constraint.invariant.1 none,
    )

pub returns-then-leads_on : goal.returns-then-leads_on
returns-then-leads_on c =
    let leading : leads c.args.left.now c.args.key (get_or c.args.constraints.now c.loop-constraint.constraint-index blank) ≡ true = search rules in
    down_at c.args.left.now c.args.key c.args.constraints.now c.loop-constraint.constraint-index blank c.loop-constraint-test.true c.requires.order leading c.loop-constraint.invariant.1
