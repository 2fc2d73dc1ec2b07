use Rattle.track_ways.proofs.Sound.{lemmas_true_by, start_fails_by}
use Rattle.track_ways.proofs.lemma_laws.failures_by_lemmas.Goals as goal

pub returns-clause-lemmas : goal.returns-clause-lemmas
returns-clause-lemmas g c = λ pins limit k lemmas some. lemmas_true_by g.R.TrackRule.fits g.met.R.TrackRule.is_rule.again (g.B.RowBound.value c.args._bound.now) pins limit k lemmas (λ row s state. g.met.B.RowBound.holds c.args._bound.now row s k some state) some

pub returns-clause-fails : goal.returns-clause-fails
returns-clause-fails g c = λ pins limit k gaps lemmas track some. start_fails_by g.R.TrackRule.fits g.met.R.TrackRule.is_rule.again (g.B.RowBound.value c.args._bound.now) pins k limit gaps lemmas track (λ row s state. g.met.B.RowBound.holds c.args._bound.now row s k some state) some
