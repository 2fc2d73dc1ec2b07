use Rattle.std.proofs.Common.{[], ◌∷◌, ◌++◌, ap, subst, sym, ◌∙◌}
use Rattle.row_state.specs.declared.kind.Kinds.{Kinds}
use Rattle.row_state.specs.Candidates.{IsNumbered}
use Rattle.bound_log.specs.Kept.{lemma_of}
use Rattle.row_search.specs.SoFar.{SoFar}
use Rattle.row_search.proofs.Keeping.{table_more}
use Rattle.row_search.proofs.progress.Progress.keep.Goals as goal

pub keep-requires-clause-state : goal.keep-requires-clause-state
keep-requires-clause-state c = subst (λ (z : Kinds). IsNumbered z c.args.at.now) (sym (ap (λ (z : SoFar). z.kinds) c.self.view_is)) c.requires.state

pub returns-clause-ok : goal.returns-clause-ok
returns-clause-ok c = c.in_ok-keep.ensures.ok ∙ ap (λ (z : SoFar). z.lemmas ++ lemma_of c.args.at.now.state c.args.bound c.args.rule ∷ []) c.self.view_is

pub returns-clause-knows : goal.returns-clause-knows
returns-clause-knows c = λ k before. record {
  kinds = c.keep.ensures.kinds ∙ ap (λ (z : SoFar). z.kinds) c.self.view_is ∙ before.kinds;
  table = table_more k c.args.self.now c.self.inside.known c.note_at.new.self _ c.args.at.now c.args.bound c.args.rule before (ap (λ (z : SoFar). z.known) (sym c.self.view_is)) (c.in_ok-keep.ensures.ok ∙ ap (λ (z : SoFar). z.lemmas ++ lemma_of c.args.at.now.state c.args.bound c.args.rule ∷ []) c.self.view_is) c.requires.state c.in_ok-note_at.ensures.raised;
}
