use Rattle.std.proofs.Common.{ℕ, ◌≢◌, ◌≤◌, IsTrue, List, All, length, map, ap, sym, subst, ◌∙◌}
use Rattle.std.proofs.lemmas.Result.{IfOk-weaker}
use Rattle.cell_num.specs.Names.{is_cell, lowered}
use Rattle.call_words.proofs.Rows.{lowered_so, map_texts}
use Rattle.call_words.specs.Asked.{RowAsked, texts}
use Rattle.call_words.proofs.row.RowAsked.names.Goals as goal

pub returns-clause-lower : goal.returns-clause-lower
returns-clause-lower c = IfOk-weaker c.lower_all.result _ _ (λ n is. is ∙ map_texts c.self.inside.cells.now ∙ ap (λ (x : RowAsked). map lowered x.cells) c.self.view_is) c.lower_all.ensures

pub returns-clause-cells : goal.returns-clause-cells
returns-clause-cells c = IfOk-weaker c.lower_all.result _ _ (λ n is. subst (λ (ns : List (List ℕ)). All (λ name. IsTrue (is_cell name)) ns) (sym (is ∙ map_texts c.self.inside.cells.now)) (lowered_so c.self.inside.top.now (texts c.self.inside.cells.now) c.self.invariant.0 c.self.invariant.1).cells) c.lower_all.ensures

pub returns-clause-some : goal.returns-clause-some
returns-clause-some c = IfOk-weaker c.lower_all.result _ _ (λ n is. subst (λ (ns : List (List ℕ)). 2 ≤ length ns) (sym (is ∙ map_texts c.self.inside.cells.now)) (lowered_so c.self.inside.top.now (texts c.self.inside.cells.now) c.self.invariant.0 c.self.invariant.1).some) c.lower_all.ensures

pub returns-clause-few : goal.returns-clause-few
returns-clause-few c = IfOk-weaker c.lower_all.result _ _ (λ n is. subst (λ (ns : List (List ℕ)). length ns ≤ 16) (sym (is ∙ map_texts c.self.inside.cells.now)) (lowered_so c.self.inside.top.now (texts c.self.inside.cells.now) c.self.invariant.0 c.self.invariant.1).few) c.lower_all.ensures

pub returns-clause-apart : goal.returns-clause-apart
returns-clause-apart c = IfOk-weaker c.lower_all.result _ _ (λ n is.
    subst (λ top. All (λ name. name ≢ lowered top) n) (ap (λ (x : RowAsked). x.top) c.self.view_is)
    (subst (λ (ns : List (List ℕ)). All (λ name. name ≢ lowered c.self.inside.top.now) ns) (sym (is ∙ map_texts c.self.inside.cells.now)) (lowered_so c.self.inside.top.now (texts c.self.inside.cells.now) c.self.invariant.0 c.self.invariant.1).apart)) c.lower_all.ensures
