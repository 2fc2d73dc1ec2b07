use Rattle.std.proofs.Common.{take}
use Rattle.scmos_rules.specs.Numbers.{numbers_of}
use Rattle.scmos_rules.specs.Violations.{AreBroken}
use Rattle.scmos_rules.proofs.checking.all_broken.Given as goal

abbrev pub invariant-loop-rule : goal.invariant-loop-rule
invariant-loop-rule l = AreBroken l.rules l.shapes.rects (take l.rule-index (numbers_of l.rules)) l.found
