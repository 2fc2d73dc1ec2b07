use Rattle.std.proofs.Common.{ap, ◌∙◌}
use Rattle.end_lemmas.specs.Indexed.{noted_at}
use Rattle.end_lemmas.proofs.Found.{place_by}
use Rattle.end_lemmas.proofs.index.LemmaIndex.place.Goals as goal

pub returns : goal.returns
returns g c =
    place_by g.E.EndSteps.number_of c.args.lemmas.now c.args.self.now c.args.done c.args.state.now c.args.need c.requires
    c.noted_at-places.result.now c.first_saying.result
    (c.noted_at-places.ensures ∙ ap (noted_at c.args.self.now) c.number.ensures) c.first_saying.ensures
