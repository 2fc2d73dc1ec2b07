use Rattle.std.proofs.Common.{ℕ, List, Err, refl, subst, sym}
use Rattle.row_state.specs.declared.bound.TheConstants.{COMPONENT_LOG}
use Rattle.row_state.specs.Component.{component_value}
use Rattle.bound_log.specs.declared.log.Log.{Log}
use Rattle.bound_log.specs.declared.log.Lemma.{Lemma}
use Rattle.log_check.specs.Accepted.{WithKinds}
use Rattle.row_search.specs.declared.found.StopKept.{StopKept}
use Rattle.bound_log.specs.Kept.{log_with, log_without}
use Rattle.row_search.specs.Ended.{IfOpen, IsSolved, IsSpent}
use Rattle.row_search.specs.First.{IsFirstLeast}
use Rattle.cell_inputs.specs.Inputs.{Inputs}
use Rattle.cell_make.specs.declared.planned.Planned.TheVariants as planned
use Rattle.cell_make.specs.Searched.{IsPlanned}
use Rattle.cell_make.proofs.planned.Planned.of.Goals as goal

pub returns-in-Ok : goal.returns-in-Ok
returns-in-Ok c =
    subst (λ (log : Log). IsPlanned c.args.inputs.now (planned.Found c.in-Ok.found.row log)) (sym c.with_row-log.ensures)
    (record {
      first = subst (λ (inputs : Inputs). IsFirstLeast inputs.fingers c.in-Ok.found.row) c.inputs.view_is c.in-Ok.ensures.row;
      certified = (
        refl,
        subst (λ (inputs : Inputs). WithKinds inputs.fingers (λ k. IsSolved component_value k inputs.fingers c.args.inputs.now.tech.budget c.in-Ok.found.row (log_with COMPONENT_LOG c.in-Ok.found.kept c.in-Ok.found.best))) c.inputs.view_is
            (subst (λ (budget : ℕ). WithKinds c.inputs.inside.fingers (λ k. IsSolved component_value k c.inputs.inside.fingers budget c.in-Ok.found.row (log_with COMPONENT_LOG c.in-Ok.found.kept c.in-Ok.found.best))) c.budget.ensures.is c.in-Ok.ensures.solved),
      );
    })

pub returns-in-Err-Unfinished : goal.returns-in-Err-Unfinished
returns-in-Err-Unfinished c =
    subst (λ (proved : ℕ). IsPlanned c.args.inputs.now (planned.Unfinished c.without_row-log.result proved)) (sym c.in-Err-Unfinished.proved-is)
    (subst (λ (log : Log). IsPlanned c.args.inputs.now (planned.Unfinished log c.in-Err-Unfinished.proved)) (sym c.without_row-log.ensures)
    (subst (λ (kept : List Lemma). IsPlanned c.args.inputs.now (planned.Unfinished (log_without COMPONENT_LOG kept) c.in-Err-Unfinished.proved)) (sym c.in-Err-Unfinished.kept-is) (
      refl,
      subst (λ (inputs : Inputs). WithKinds inputs.fingers (λ k. IsSpent component_value k inputs.fingers c.args.inputs.now.tech.budget (log_without COMPONENT_LOG c.in-Err-Unfinished.kept) c.in-Err-Unfinished.proved)) c.inputs.view_is
          (subst (λ (budget : ℕ). WithKinds c.inputs.inside.fingers (λ k. IsSpent component_value k c.inputs.inside.fingers budget (log_without COMPONENT_LOG c.in-Err-Unfinished.kept) c.in-Err-Unfinished.proved)) c.budget.ensures.is
          (subst (λ (why : StopKept). IfOpen (Err why) (λ kept proved. WithKinds c.inputs.inside.fingers (λ k. IsSpent component_value k c.inputs.inside.fingers c.budget.result (log_without COMPONENT_LOG kept) proved))) c.in-Err-Unfinished.field-0-is c.in-Err-Unfinished.ensures.spent)),
    )))
