use Rattle.std.proofs.Common.{ℕ, ◌≡◌, IsTrue, List, ap, sym, subst, ◌∙◌}
use Rattle.std.proofs.lemmas.Result.{IfOk-weaker}
use Rattle.cell_num.specs.Names.{is_cell, lowered}
use Rattle.call_words.proofs.Rows.{top_name}
use Rattle.call_words.specs.Asked.{RowAsked, texts}
use Rattle.call_words.proofs.row.RowAsked.name.Goals as goal

pub returns-clause-lower : goal.returns-clause-lower
returns-clause-lower c = IfOk-weaker c.lower.result (λ n. n ≡ lowered c.as_bytes.result.now) (λ n. n ≡ lowered c.args.self.now.top) (λ n is. is ∙ ap lowered (c.as_bytes.ensures.value ∙ ap (λ (x : RowAsked). x.top) c.self.view_is)) c.lower.ensures

pub returns-clause-cell : goal.returns-clause-cell
returns-clause-cell c = IfOk-weaker c.lower.result (λ n. n ≡ lowered c.as_bytes.result.now) (λ n. IsTrue (is_cell n)) (λ n is. subst (λ (m : List ℕ). IsTrue (is_cell m)) (sym (is ∙ ap lowered c.as_bytes.ensures.value)) (top_name c.self.inside.top.now (texts c.self.inside.cells.now) c.self.invariant.0)) c.lower.ensures
