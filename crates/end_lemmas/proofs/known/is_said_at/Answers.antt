use Rattle.std.proofs.Common.{length, refl}
use Rattle.std.proofs.lemmas.Option.{slice_get_past, slice_get_read}
use Rattle.end_lemmas.proofs.Found.{none_at, says_at}
use Rattle.end_lemmas.proofs.known.is_said_at.Goals as goal

pub returns-in-Some : goal.returns-in-Some
returns-in-Some g c =
    says_at c.args.lemmas.now c.args.done c.args.state.now c.args.need c.args.at c.in-Some.lemma.now c.is_said.result
    (slice_get_read c.args.lemmas.now (length c.args.lemmas.now) c.args.at c.in-Some.lemma.now refl
    c.in-Some.ensures.lookup.3.0 c.in-Some.ensures.lookup.1) c.is_said.ensures

pub returns-in-None : goal.returns-in-None
returns-in-None g c =
    none_at c.args.lemmas.now c.args.done c.args.state.now c.args.need c.args.at
    (slice_get_past c.args.lemmas.now c.args.at c.in-None.ensures.lookup.3)
