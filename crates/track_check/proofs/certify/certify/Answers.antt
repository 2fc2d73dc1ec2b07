use Rattle.std.proofs.Common.{arith}
use Rattle.std.proofs.lemmas.Result.{err_from_is_err_and}
use Rattle.track_check.proofs.certify.certify.Goals as goal

pub returns-in_err-unwired-clause-rejected : goal.returns-in_err-unwired-clause-rejected
returns-in_err-unwired-clause-rejected g c =
    let p = err_from_is_err_and c.from_residual.result c.from_residual.ensures.1 in
    rw (p.1, p.2) (λ other name bytes read. c.in_err-unwired.ensures.rejected other (g.B.GapBound.value c.args.bound.now) name bytes read)

pub returns-then-unwired-clause-more : goal.returns-then-unwired-clause-more
returns-then-unwired-clause-more g c = λ f row r kinds is few legal. absurd (c.in_ok-unwired.ensures.unwired c.if-unwired.true f row r kinds is few legal)

pub returns-then-bounded-clause-more : goal.returns-then-bounded-clause-more
returns-then-bounded-clause-more g c = λ f row r kinds is few legal. omega (arith, c.requires.tracks, c.in_ok-bounded.ensures.more c.if-bounded.true f row r kinds is few legal)
