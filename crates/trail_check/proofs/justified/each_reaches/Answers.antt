use Rattle.std.proofs.Common.{rules, ◌≡◌, false, get_or, true, sym, ap, ◌∙◌}
use Rattle.std.specs.List.{list_all}
use Rattle.trail_check.specs.Justified.{choice_reaches}
use Rattle.trail_check.proofs.Each.{one_fails, one_passes}
use Rattle.trail_check.proofs.justified.each_reaches.Goals as goal

pub returns-then-not-branch : goal.returns-then-not-branch
returns-then-not-branch c =
    let same : c.as_slice-choices.result.now ≡ c.args.level.now.choices = search rules in
    let off : choice_reaches c.args.earlier.now c.args.level.now c.args.lemma.now (get_or c.as_slice-choices.result.now c.loop-choice.choice-index c.choice-item.result) ≡ false =
    ap (choice_reaches c.args.earlier.now c.args.level.now c.args.lemma.now) (sym c.choice-item.is) ∙ sym c.in_ok-reaches.ensures ∙ c.if-not-branch.true in
    sym
    (sym (ap (list_all (choice_reaches c.args.earlier.now c.args.level.now c.args.lemma.now)) same)
    ∙ one_fails (choice_reaches c.args.earlier.now c.args.level.now c.args.lemma.now) c.as_slice-choices.result.now c.loop-choice.choice-index c.choice-item.result (list_all (choice_reaches c.args.earlier.now c.args.level.now c.args.lemma.now) c.as_slice-choices.result.now) c.loop-choice-test.true c.loop-choice.invariant off)

pub loop-choice-preserved : goal.loop-choice-preserved
loop-choice-preserved c =
    let on : choice_reaches c.args.earlier.now c.args.level.now c.args.lemma.now (get_or c.as_slice-choices.result.now c.loop-choice.choice-index c.choice-item.result) ≡ true =
    ap (choice_reaches c.args.earlier.now c.args.level.now c.args.lemma.now) (sym c.choice-item.is) ∙ sym c.in_ok-reaches.ensures ∙ c.if-not-branch.false in
    one_passes (choice_reaches c.args.earlier.now c.args.level.now c.args.lemma.now) c.as_slice-choices.result.now c.loop-choice.choice-index c.choice-item.result (list_all (choice_reaches c.args.earlier.now c.args.level.now c.args.lemma.now) c.as_slice-choices.result.now) c.loop-choice-test.true c.loop-choice.invariant on
