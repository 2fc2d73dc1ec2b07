use Rattle.std.proofs.Common.{rules, subst, sym, ◌∙◌}
use Rattle.bound_log.specs.declared.log.Log.{Log}
use Rattle.row_state.specs.declared.kind.Kinds.{Kinds}
use Rattle.lemma_check.specs.Noted.{AreNoted}
use Rattle.log_check.specs.Items.{HasSeen}
use Rattle.log_check.proofs.Items.{lemmas_again}
use Rattle.log_check.proofs.check.add_lemmas.Goals as goal

pub loop-lemma-preserved : goal.loop-lemma-preserved
loop-lemma-preserved g c = (
  λ log seen. subst (λ (l : Log). HasSeen (g.B.RowBound.value c.args.bound.now) c.lemma.new.self l) (lemmas_again log c.args.lemmas.now c.loop-lemma.lemma-index c.lemma-item.result c.lemma-item.is c.loop-lemma-test.true)
      (c.in_ok-lemma.ensures.seen _ (c.loop-lemma.invariant.0 log seen)),
  search rules,
  c.in_ok-lemma.ensures.fingers ∙ c.loop-lemma.invariant.2,
  c.lemma.ensures.kinds ∙ c.loop-lemma.invariant.3,
  subst (λ (k : Kinds). AreNoted (g.B.RowBound.trails_of c.args.bound.now) k c.lemma.new.trails) (sym c.lemma.ensures.kinds) c.lemma.ensures.noted,
)
