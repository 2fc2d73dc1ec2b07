use Rattle.track_ways.proofs.Sound.{certified, lemmas_true}
use Rattle.track_ways.proofs.lemma_laws.tracks_by_lemmas.Goals as goal

pub returns-clause-lemmas : goal.returns-clause-lemmas
returns-clause-lemmas g c = λ pins limit k lemmas some. lemmas_true (g.B.RowBound.value c.args._bound.now) pins limit k lemmas (λ row s state. g.met.B.RowBound.holds c.args._bound.now row s k some state) some

pub returns-clause-more : goal.returns-clause-more
returns-clause-more g c = λ pins f k limit gaps lemmas kinds some. certified (g.B.RowBound.value c.args._bound.now) pins f k limit gaps lemmas (λ row s state. g.met.B.RowBound.holds c.args._bound.now row s k some state) kinds some
