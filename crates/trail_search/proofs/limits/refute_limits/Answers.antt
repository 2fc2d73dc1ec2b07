use Rattle.std.proofs.Common.{rules, ◌+◌, ◌*◌, ◌<◌, All, arith}
use Rattle.trail_check.specs.Justified.{ends_proved, gaps_proved}
use Rattle.trail_search.specs.Reached.{AreReached, IsWithin}
use Rattle.trail_search.specs.Search.{AreTied}
use Rattle.trail_search.specs.Units.{path_units}
use Rattle.trail_search.proofs.Ends.{limit_least, limit_most, refutes}
use Rattle.trail_search.proofs.Grown.{further_then}
use Rattle.trail_search.proofs.New.{fewer_more}
use Rattle.trail_search.proofs.Reached.{limit_within, none_within, reached_all, reached_more}
use Rattle.trail_search.proofs.Tied.{tied_exact, tied_then}
use Rattle.trail_search.proofs.limits.refute_limits.Goals as goal

pub returns-in-Ok-true-clause-most : goal.returns-in-Ok-true-clause-most
returns-in-Ok-true-clause-most c =
    λ _ _. limit_most c.args.levels.now c.loop-limit.kept c.visit.new.kept c.new-start.result c.loop-limit.limit c.most_ends.result c.in-Ok-true.ensures.further c.loop-limit.invariant.3 c.new-start.ensures c.most_ends.ensures (c.in-Ok-true.ensures.found c.in-Ok-true.field-0-test)

pub loop-limit-preserved : goal.loop-limit-preserved
loop-limit-preserved c =
    let above : c.loop-limit.limit < gaps_proved (ends_proved c.visit.new.kept.lemmas) = refutes c.visit.new.kept.lemmas c.new-start.result c.loop-limit.limit c.most_ends.result c.new-start.ensures c.most_ends.ensures (c.in-Ok-false.ensures.failed c.in-Ok-false.field-0-test) in
    let each : AreTied c.args.levels.now c.loop-limit.kept c.visit.new.kept c.loop-limit.left c.visit.new.left 0 = c.in-Ok-false.ensures.each c.in-Ok-false.field-0-test in
    let within : AreReached c.args.levels.now c.loop-limit.limit c.visit.new.kept.lemmas = limit_within c.args.levels.now c.loop-limit.kept c.visit.new.kept c.new-start.result c.loop-limit.limit c.most_ends.result c.new-start.ensures c.most_ends.ensures c.in-Ok-false.ensures.within c.loop-limit.invariant.5 in
    let next : All (IsWithin c.args.levels.now (2 * (c.loop-limit.limit + 1) + 1)) c.visit.new.kept.lemmas = within in (
      further_then c.args.levels.now c.args.kept.now c.loop-limit.kept c.visit.new.kept c.loop-limit.invariant.0
          c.in-Ok-false.ensures.further,
      omega (arith, c.in-Ok-false.ensures.left, c.loop-limit.invariant.1),
      omega (arith, c.loop-limit.invariant.2, each.few, each.many),
      omega (arith, above),
      fewer_more (2 * (c.loop-limit.limit + 1)) (c.most_ends.result + 1) (2 * (c.loop-limit.limit + 1 + 1))
          c.loop-limit.kept c.visit.new.kept (omega arith) (omega (arith, c.most_ends.ensures)) c.loop-limit.invariant.4
          c.in-Ok-false.ensures.others,
      next,
    )

pub loop-limit-init : goal.loop-limit-init
loop-limit-init c = (search rules, search rules, search rules, search rules, search rules, none_within c.args.levels.now 1 c.args.kept.now.lemmas c.requires.none)

pub returns-in-Ok-true-clause-reached : goal.returns-in-Ok-true-clause-reached
returns-in-Ok-true-clause-reached c =
    reached_more c.args.levels.now c.visit.new.kept.lemmas c.loop-limit.limit (gaps_proved (ends_proved c.visit.new.kept.lemmas)) (limit_least c.args.levels.now c.loop-limit.kept c.visit.new.kept c.loop-limit.limit c.in-Ok-true.ensures.further c.loop-limit.invariant.3)
    (limit_within c.args.levels.now c.loop-limit.kept c.visit.new.kept c.new-start.result c.loop-limit.limit c.most_ends.result c.new-start.ensures c.most_ends.ensures c.in-Ok-true.ensures.within c.loop-limit.invariant.5)

pub returns-in-Err-Spent-clause-reached : goal.returns-in-Err-Spent-clause-reached
returns-in-Err-Spent-clause-reached c =
    reached_more c.args.levels.now c.visit.new.kept.lemmas c.loop-limit.limit (gaps_proved (ends_proved c.visit.new.kept.lemmas)) (limit_least c.args.levels.now c.loop-limit.kept c.visit.new.kept c.loop-limit.limit (c.in-Err-Spent.ensures.spent_kept c.in-Err-Spent.field-0-is) c.loop-limit.invariant.3)
    (limit_within c.args.levels.now c.loop-limit.kept c.visit.new.kept c.new-start.result c.loop-limit.limit c.most_ends.result c.new-start.ensures c.most_ends.ensures (c.in-Err-Spent.ensures.spent_within c.in-Err-Spent.field-0-is) c.loop-limit.invariant.5)

pub returns-clause-reached : goal.returns-clause-reached
returns-clause-reached c =
    reached_all c.args.levels.now c.loop-limit.kept.lemmas c.loop-limit.limit (gaps_proved (ends_proved c.loop-limit.kept.lemmas)) c.loop-limit.invariant.3 c.loop-limit.invariant.5

pub returns-in-Ok-true-clause-path : goal.returns-in-Ok-true-clause-path
returns-in-Ok-true-clause-path c =
    tied_then c.args.levels.now c.args.kept.now c.loop-limit.kept c.visit.new.kept c.args.left.now c.loop-limit.left c.visit.new.left (path_units c.args.levels.now + 1) (path_units c.args.levels.now + 1) c.loop-limit.invariant.2 c.in-Ok-true.ensures.path (omega arith)

pub returns-in-Err-Spent-clause-path : goal.returns-in-Err-Spent-clause-path
returns-in-Err-Spent-clause-path c =
    tied_then c.args.levels.now c.args.kept.now c.loop-limit.kept c.visit.new.kept c.args.left.now c.loop-limit.left c.visit.new.left (path_units c.args.levels.now) (path_units c.args.levels.now + 1) c.loop-limit.invariant.2 (c.in-Err-Spent.ensures.spent_path c.in-Err-Spent.field-0-is) (omega arith)

pub returns-in-Err-Spent-clause-spent_path : goal.returns-in-Err-Spent-clause-spent_path
returns-in-Err-Spent-clause-spent_path c = λ _.
    tied_then c.args.levels.now c.args.kept.now c.loop-limit.kept c.visit.new.kept c.args.left.now c.loop-limit.left c.visit.new.left (path_units c.args.levels.now) (path_units c.args.levels.now) c.loop-limit.invariant.2 (c.in-Err-Spent.ensures.spent_path c.in-Err-Spent.field-0-is) (omega arith)

pub returns-clause-path : goal.returns-clause-path
returns-clause-path c = tied_exact c.args.levels.now c.args.kept.now c.loop-limit.kept c.args.left.now c.loop-limit.left (path_units c.args.levels.now + 1) c.loop-limit.invariant.2
