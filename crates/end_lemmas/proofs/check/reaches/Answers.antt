use Rattle.std.proofs.Common.{◌+◌, ◌-◌, ap, ◌∙◌}
use Rattle.end_lemmas.proofs.First.{reaches_is}
use Rattle.end_lemmas.proofs.check.reaches.Goals as goal

pub returns : goal.returns
returns g c =
    reaches_is (g.E.EndSteps.steps c.args.steps.now) c.args.earlier.now c.args.level.now c.args.lemma.now
    c.args.choice.now (c.from-done.result + 1) c.saturating_sub-need.result c.in_ok-settled.settled.ends
    c.in_ok-settled.settled.state c.knows.result (ap (λ n. n + 1) c.from-done.ensures) c.in_ok-settled.ensures.state
    c.in_ok-settled.ensures.ends
    (c.saturating_sub-need.ensures ∙ ap (λ n. n - c.in_ok-settled.settled.ends) c.from.ensures) c.knows.ensures
