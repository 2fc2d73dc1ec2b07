use Rattle.std.proofs.Common.{rules, ◌≡◌, [], ap, reverse, subst, ◌∙◌}
use Rattle.end_prune.specs.Marks.{IsSupportMarked, marked}
use Rattle.end_prune.proofs.Walk.{taken, taken_kept, taken_out, walk_end}
use Rattle.end_prune.proofs.back.kept.Goals as goal

pub loop-lemma-preserved-in-Continue-branch-2 : goal.loop-lemma-preserved-in-Continue-branch-2
loop-lemma-preserved-in-Continue-branch-2 g c =
    taken_kept (g.E.EndSteps.steps c.args.steps.now) c.args.levels.now g.E.EndSteps.number_of c.args.index.now
    c.args.lemmas.items (marked c.args.marks.items c.args.lemmas.items) c.loop-lemma.left.items c.pop.new.self.items
    c.in-Some.lemma c.loop-lemma.marks_left.items c.take_last.new.marks.items c.take_last.result c.loop-lemma.kept
    (taken (g.E.EndSteps.steps c.args.steps.now) c.args.levels.now g.E.EndSteps.number_of c.args.index.now
    c.args.lemmas.items (marked c.args.marks.items c.args.lemmas.items) c.loop-lemma.left.items c.pop.new.self.items
    c.in-Some.lemma c.loop-lemma.marks_left.items c.take_last.new.marks.items c.take_last.result c.loop-lemma.kept
    c.in-Some.ensures.items c.take_last.ensures c.loop-lemma.invariant)
    c.mark_earlier.new.marks.items c.push.new.self c.if-take_last.true
    (subst (λ ls. IsSupportMarked (g.E.EndSteps.steps c.args.steps.now) c.args.levels.now c.in-Some.lemma ls
    c.take_last.new.marks.items c.mark_earlier.new.marks.items) c.as_slice.ensures.value
    c.in_ok-mark_earlier.ensures)
    c.in_ok-push.ensures.ok

pub loop-lemma-preserved : goal.loop-lemma-preserved
loop-lemma-preserved g c =
    taken_out (g.E.EndSteps.steps c.args.steps.now) c.args.levels.now g.E.EndSteps.number_of c.args.index.now
    c.args.lemmas.items (marked c.args.marks.items c.args.lemmas.items) c.loop-lemma.left.items c.pop.new.self.items
    c.in-Some.lemma c.loop-lemma.marks_left.items c.take_last.new.marks.items c.take_last.result c.loop-lemma.kept
    (taken (g.E.EndSteps.steps c.args.steps.now) c.args.levels.now g.E.EndSteps.number_of c.args.index.now
    c.args.lemmas.items (marked c.args.marks.items c.args.lemmas.items) c.loop-lemma.left.items c.pop.new.self.items
    c.in-Some.lemma c.loop-lemma.marks_left.items c.take_last.new.marks.items c.take_last.result c.loop-lemma.kept
    c.in-Some.ensures.items c.take_last.ensures c.loop-lemma.invariant)
    c.if-take_last.false

pub returns : goal.returns
returns g c =
    let none : c.loop-lemma.left.items ≡ [] = search rules in
    walk_end (g.E.EndSteps.steps c.args.steps.now) c.args.levels.now g.E.EndSteps.number_of c.args.index.now
    c.args.lemmas.items (marked c.args.marks.items c.args.lemmas.items) c.loop-lemma.left.items
    c.loop-lemma.marks_left.items
    c.from_vec.result (reverse c.loop-lemma.kept) none
    (c.from_vec.ensures ∙ c.reverse.ensures.items ∙ ap reverse c.into_vec-in_order.ensures) c.loop-lemma.invariant
