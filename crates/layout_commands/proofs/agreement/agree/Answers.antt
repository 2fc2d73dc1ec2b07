use Rattle.std.proofs.lemmas.Result.{IfOk-weaker}
use Rattle.layout_commands.proofs.agreement.agree.Goals as goal

pub returns : goal.returns
returns c = IfOk-weaker c.end_of.result _ _ (λ end is. (c.in_ok-answer.answer, c.in_ok-answer.ensures, is)) c.end_of.ensures
