use Rattle.std.proofs.Common.{ℕ, ◌≡◌, IsTrue, List, ap, sym, subst, ◌∙◌}
use Rattle.std.proofs.lemmas.Result.{IfOk-weaker}
use Rattle.cell_num.specs.Names.{is_cell, lowered}
use Rattle.call_words.proofs.Names.{lower_name}
use Rattle.call_words.specs.Asked.{CellAsked}
use Rattle.call_words.proofs.cell.CellAsked.name.Goals as goal

pub returns-clause-lower : goal.returns-clause-lower
returns-clause-lower c = IfOk-weaker c.lower.result (λ n. n ≡ lowered c.as_bytes.result.now) (λ n. n ≡ lowered c.args.self.now.cell) (λ n is. is ∙ ap lowered (c.as_bytes.ensures.value ∙ ap (λ (x : CellAsked). x.cell) c.self.view_is)) c.lower.ensures

pub returns-clause-cell : goal.returns-clause-cell
returns-clause-cell c = IfOk-weaker c.lower.result (λ n. n ≡ lowered c.as_bytes.result.now) (λ n. IsTrue (is_cell n)) (λ n is. subst (λ (m : List ℕ). IsTrue (is_cell m)) (sym (is ∙ ap lowered c.as_bytes.ensures.value)) (lower_name c.self.inside.cell.now c.self.invariant)) c.lower.ensures
