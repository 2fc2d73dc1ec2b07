use Rattle.std.proofs.Common.{rules, ◌≡◌, ◌↔◌, IsTrue, subst}
use Rattle.end_lemmas.specs.Justified.{IsKnown}
use Rattle.end_search.proofs.progress.knows.Goals as goal

pub returns : goal.returns
returns g c =
    let done : c.from.result ≡ c.args.done = search rules in
    let need : c.from-2.result ≡ c.args.need = search rules in
    subst (λ n. IsTrue c.knows.result ↔ IsKnown c.args.progress.now.lemmas c.args.done c.args.state.now n) need
    (subst (λ d. IsTrue c.knows.result ↔ IsKnown c.args.progress.now.lemmas d c.args.state.now c.from-2.result) done
    (subst (λ ls. IsTrue c.knows.result ↔ IsKnown ls c.from.result c.args.state.now c.from-2.result) c.as_slice.ensures c.knows.ensures))
