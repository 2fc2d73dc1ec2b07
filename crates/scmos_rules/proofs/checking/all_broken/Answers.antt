use Rattle.std.proofs.Common.{rules, slice_index_or, ap, subst}
use Rattle.scmos_rules.specs.Numbers.{numbers_of}
use Rattle.scmos_rules.specs.declared.number.RuleNo.TheVariants.{N1_1}
use Rattle.scmos_rules.specs.Violations.{IsVerdict}
use Rattle.scmos_rules.proofs.Listing.{one_more_rule}
use Rattle.scmos_rules.proofs.checking.all_broken.Goals as goal

pub loop-rule-preserved : goal.loop-rule-preserved
loop-rule-preserved c = one_more_rule c.args.rules.now c.args.shapes.now.rects (numbers_of c.args.rules.now) c.loop-rule.rule-index (slice_index_or c.numbers-rule-items.result.now c.loop-rule.rule-index N1_1) c.loop-rule.found c.add.new.found c.in_ok-violation.violation (search rules) (ap (λ z. slice_index_or z c.loop-rule.rule-index N1_1) c.numbers-rule-items.ensures) c.loop-rule.invariant (subst (λ d. IsVerdict d c.args.shapes.now.rects (slice_index_or c.numbers-rule-items.result.now c.loop-rule.rule-index N1_1) c.in_ok-violation.violation) c.deck.ensures c.in_ok-violation.ensures) c.in_ok-add.ensures
