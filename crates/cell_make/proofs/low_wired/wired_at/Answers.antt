use Rattle.std.proofs.Common.{subst}
use Rattle.row_needs.specs.Bound.{value_by}
use Rattle.cycle_search.specs.Search.{HasReason, IsEnd}
use Rattle.cell_inputs.specs.Inputs.{Inputs}
use Rattle.cell_make.proofs.low_wired.wired_at.Goals as goal

pub returns-clause-end : goal.returns-clause-end
returns-clause-end c = subst (λ (i : Inputs). IsEnd (value_by c.args.bound.now) i.cell.pins c.args.kinds.now c.args.gaps c.in_ok-ended.ended) c.inputs.view_is c.in_ok-ended.ensures.end

pub returns-clause-kept : goal.returns-clause-kept
returns-clause-kept c =
    subst (λ n. HasReason (value_by c.args.bound.now) c.args.inputs.now.cell.pins c.args.kinds.now c.args.gaps n c.in_ok-ended.ended) c.budget.ensures.is
    (subst (λ (i : Inputs). HasReason (value_by c.args.bound.now) i.cell.pins c.args.kinds.now c.args.gaps c.budget.result c.in_ok-ended.ended) c.inputs.view_is c.in_ok-ended.ensures.kept)
