use Rattle.std.proofs.Common.{List, ap, arith, subst, sym, ◌∙◌}
use Rattle.cell_num.specs.declared.net.NetNo.{NetNo}
use Rattle.trail_state.specs.Levels.{AreLevels}
use Rattle.trail_check.specs.Gates.{first_with_many}
use Rattle.open_gates.specs.Leveled.{levels_of}
use Rattle.trail_search.proofs.Ends.{has_most}
use Rattle.trail_search.proofs.Proved.{are_chained, attempted, none_kept, refuted}
use Rattle.trail_search.proofs.Reached.{reached_once}
use Rattle.trail_search.proofs.refute.is_refuted.Goals as goal

pub visit-requires-clause-kept : goal.visit-requires-clause-kept
visit-requires-clause-kept c = none_kept c.in-Ok.levels c.new-kept.result c.new-kept.ensures.lemmas c.new-kept.ensures.lines c.new-kept.ensures.indexed

pub returns-in-Ok-visit-clause-refuted : goal.returns-in-Ok-visit-clause-refuted
returns-in-Ok-visit-clause-refuted c =
    refuted c.args.fingers.now c.in_ok-order.order c.in-Ok.levels c.visit-2.new.kept c.args.limit c.gaps.result c.requires.fingers c.in_ok-order.ensures
    (subst (λ (gs : List NetNo). AreLevels c.args.fingers.now gs c.in-Ok.levels) c.as_slice.ensures c.in-Ok.ensures.are)
    c.in-Ok-visit.ensures.further.kept c.gaps.ensures

pub visit-requires-clause-chained : goal.visit-requires-clause-chained
visit-requires-clause-chained c = are_chained c.args.fingers.now c.in_ok-order.order c.in-Ok.levels c.requires.fingers (subst (λ (gs : List NetNo). AreLevels c.args.fingers.now gs c.in-Ok.levels) c.as_slice.ensures c.in-Ok.ensures.are)

pub returns-in-Ok-visit-clause-most : goal.returns-in-Ok-visit-clause-most
returns-in-Ok-visit-clause-most c = λ off _.
    has_most c.args.fingers.now c.in_ok-order.order c.in-Ok.levels c.visit-2.new.kept.lemmas c.new.result c.args.limit c.most_ends.result c.gaps.result c.in-Ok-visit.field-0 c.in_ok-order.ensures (c.in-Ok.ensures.is ∙ ap (levels_of c.args.fingers.now) c.as_slice.ensures) c.new.ensures c.most_ends.ensures c.gaps.ensures c.in-Ok-visit.ensures.failed c.in-Ok-visit.ensures.found off

pub returns-in-Ok-visit-clause-attempt : goal.returns-in-Ok-visit-clause-attempt
returns-in-Ok-visit-clause-attempt c =
    attempted c.args.fingers.now c.in_ok-order.order c.in-Ok.levels c.new-kept.result c.visit-2.new.kept c.args.limit c.args.left.now c.listed.new.left c.visit-2.new.left _ c.in_ok-order.ensures
    (c.in-Ok.ensures.is ∙ ap (levels_of c.args.fingers.now) c.as_slice.ensures)
    (ap (first_with_many c.args.fingers.now) (sym c.as_slice.ensures) ∙ c.in-Ok.ensures.few_ways) c.in-Ok.ensures.taken
    c.new-kept.ensures.lemmas c.in-Ok-visit.ensures.further.kept (reached_once c.in-Ok.levels c.new-kept.result c.visit-2.new.kept c.new.result c.args.limit c.most_ends.result c.new.ensures c.most_ends.ensures c.new-kept.ensures.lemmas c.in-Ok-visit.ensures.within) (omega arith) c.in-Ok-visit.ensures.path

pub returns-in-Err-Spent-clause-attempt_stopped : goal.returns-in-Err-Spent-clause-attempt_stopped
returns-in-Err-Spent-clause-attempt_stopped c =
    attempted c.args.fingers.now c.in_ok-order.order c.in-Ok.levels c.new-kept.result c.visit-2.new.kept c.args.limit c.args.left.now c.listed.new.left c.visit-2.new.left _ c.in_ok-order.ensures
    (c.in-Ok.ensures.is ∙ ap (levels_of c.args.fingers.now) c.as_slice.ensures)
    (ap (first_with_many c.args.fingers.now) (sym c.as_slice.ensures) ∙ c.in-Ok.ensures.few_ways) c.in-Ok.ensures.taken
    c.new-kept.ensures.lemmas (c.in-Err-Spent.ensures.spent_kept c.in-Err-Spent.field-0-is).kept
    (reached_once c.in-Ok.levels c.new-kept.result c.visit-2.new.kept c.new.result c.args.limit
    c.most_ends.result c.new.ensures c.most_ends.ensures c.new-kept.ensures.lemmas
    (c.in-Err-Spent.ensures.spent_within c.in-Err-Spent.field-0-is)) (omega arith)
    (c.in-Err-Spent.ensures.spent_path c.in-Err-Spent.field-0-is)

pub returns-in-Err-clause-attempt_stopped : goal.returns-in-Err-clause-attempt_stopped
returns-in-Err-clause-attempt_stopped c = c.in-Err.ensures.attempt c.args.limit
