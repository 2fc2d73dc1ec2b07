use Rattle.std.proofs.Common.{◌+◌, ◌-◌, ap, refl, slice_set, true, ◌∙◌}
use Rattle.std.proofs.lemmas.List.{length-set}
use Rattle.end_prune.proofs.Support.{need_is, one_marked, one_reached, one_says}
use Rattle.end_prune.proofs.marks.mark_behind.Goals as goal

pub unreachable-requires : goal.unreachable-requires
unreachable-requires g c =
    one_says (g.E.EndSteps.steps c.args.steps.now) c.args.level.now c.args.lemma.now c.args.choice.now
    (c.from-done.result + 1) c.in_ok-settled.settled.state c.saturating_sub-need.result c.args.earlier.now
    (need_is (g.E.EndSteps.steps c.args.steps.now) c.args.level.now c.args.lemma.now c.args.choice.now
    (c.from-done.result + 1) c.in_ok-settled.settled.state c.saturating_sub-need.result c.in_ok-settled.settled.ends
    c.requires.choice (ap (λ n. n + 1) c.from-done.ensures) c.in_ok-settled.ensures.state
    (c.saturating_sub-need.ensures ∙ ap (λ n. n - c.in_ok-settled.settled.ends) c.from.ensures)
    c.in_ok-settled.ensures.ends)
    c.if-need-eq0.false c.in-None.ensures c.requires.reached

pub returns-clause-more : goal.returns-clause-more
returns-clause-more g c =
    one_marked (g.E.EndSteps.steps c.args.steps.now) c.args.level.now c.args.lemma.now c.args.choice.now
    (c.from-done.result + 1) c.in_ok-settled.settled.state c.saturating_sub-need.result c.args.earlier.now
    (need_is (g.E.EndSteps.steps c.args.steps.now) c.args.level.now c.args.lemma.now c.args.choice.now
    (c.from-done.result + 1) c.in_ok-settled.settled.state c.saturating_sub-need.result c.in_ok-settled.settled.ends
    c.requires.choice (ap (λ n. n + 1) c.from-done.ensures) c.in_ok-settled.ensures.state
    (c.saturating_sub-need.ensures ∙ ap (λ n. n - c.in_ok-settled.settled.ends) c.from.ensures)
    c.in_ok-settled.ensures.ends)
    c.args.marks.now.items (slice_set c.args.marks.now.items c.in-Some.at true) c.in-Some.at c.requires.same refl
    c.in-Some.ensures c.if-need-eq0.false (length-set c.args.marks.now.items c.in-Some.at true)

pub returns-clause-reached : goal.returns-clause-reached
returns-clause-reached g c =
    one_reached (g.E.EndSteps.steps c.args.steps.now) c.args.level.now c.args.lemma.now c.args.choice.now
    (c.from-done.result + 1) c.in_ok-settled.settled.state c.saturating_sub-need.result c.args.earlier.now
    (need_is (g.E.EndSteps.steps c.args.steps.now) c.args.level.now c.args.lemma.now c.args.choice.now
    (c.from-done.result + 1) c.in_ok-settled.settled.state c.saturating_sub-need.result c.in_ok-settled.settled.ends
    c.requires.choice (ap (λ n. n + 1) c.from-done.ensures) c.in_ok-settled.ensures.state
    (c.saturating_sub-need.ensures ∙ ap (λ n. n - c.in_ok-settled.settled.ends) c.from.ensures)
    c.in_ok-settled.ensures.ends)
    c.args.marks.now.items (slice_set c.args.marks.now.items c.in-Some.at true) c.in-Some.at c.requires.same refl
    c.in-Some.ensures
