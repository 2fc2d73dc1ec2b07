use Rattle.piece_ways.proofs.Failing.{certified}
use Rattle.piece_ways.proofs.lemma_laws.pieces_by_lemmas.Goals as goal

pub returns : goal.returns
returns g c = λ pins f k limit gaps lemmas kinds some. certified (g.B.RowBound.value c.args._bound.now) pins f k limit gaps lemmas (λ row s state. g.met.B.RowBound.holds c.args._bound.now row s k some state) kinds some
