use Rattle.std.proofs.Common.{◌≡◌}
use Rattle.std.specs.Prelude.{drop}
use Rattle.std.specs.List.{list_all}
use Rattle.trail_check.specs.Justified.{choice_reaches}
use Rattle.trail_check.proofs.justified.each_reaches.Given as goal

abbrev pub invariant-loop-choice : goal.invariant-loop-choice
invariant-loop-choice l =
    list_all (choice_reaches l.earlier l.level l.lemma) (drop l.choice-index l.choices) ≡ list_all (choice_reaches l.earlier l.level l.lemma) l.choices
