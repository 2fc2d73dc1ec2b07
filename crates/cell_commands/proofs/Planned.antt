-- What a plan comes to, from what the search answered.
use Rattle.std.proofs.Common.{◌≡◌, Result, IfOk, subst}
use Rattle.std.proofs.lemmas.Result.{IfOk-weaker}
use Rattle.cell_num.specs.declared.list.NoMemory.{NoMemory}
use Rattle.call_end.specs.declared.end.End.{End}
use Rattle.call_words.specs.declared.evidence.Evidence.{Evidence}
use Rattle.cell_inputs.specs.Inputs.{Inputs}
use Rattle.cell_commands.specs.Plan.{PlanAnswer, Plans, PlansTo, plan_end}

pub plans_to : (evidence : Evidence) (inputs inside : Inputs) (answer : PlanAnswer) (r : Result End NoMemory) → inside ≡ inputs → Plans evidence inputs answer → IfOk r (λ end. end ≡ plan_end inside answer) → IfOk r (PlansTo evidence inputs)
plans_to evidence inputs inside answer r same plans is =
    IfOk-weaker r (λ (end : End). end ≡ plan_end inputs answer) (PlansTo evidence inputs) (λ end told. (answer, plans, told))
    (subst (λ (i : Inputs). IfOk r (λ end. end ≡ plan_end i answer)) same is)
