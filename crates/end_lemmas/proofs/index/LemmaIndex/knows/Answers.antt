use Rattle.std.proofs.Common.{◌≡◌, arith}
use Rattle.end_lemmas.proofs.Found.{known_at, unknown}
use Rattle.end_lemmas.proofs.index.LemmaIndex.knows.Goals as goal

pub returns-in-Some : goal.returns-in-Some
returns-in-Some g c =
    known_at g.E.EndSteps.number_of c.args.lemmas.now c.args.done c.args.state.now c.args.need c.in-Some.field-0
    (rw c.in-Some.is at c.place.ensures)

pub returns-in-None : goal.returns-in-None
returns-in-None g c =
    let some : c.args.need ≡ 0 → ⊥ = λ e. omega (arith, c.if-need-eq0.false, e) in
    unknown g.E.EndSteps.number_of c.args.lemmas.now c.args.done c.args.state.now c.args.need some
    (rw c.in-None.is at c.place.ensures)
