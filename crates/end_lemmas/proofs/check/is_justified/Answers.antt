use Rattle.std.proofs.Common.{length, refl, sym, ◌∙◌}
use Rattle.std.proofs.lemmas.Option.{slice_get_past, slice_get_read}
use Rattle.end_lemmas.proofs.First.{by_level, no_level}
use Rattle.end_lemmas.proofs.check.is_justified.Goals as goal

pub returns-in-Some : goal.returns-in-Some
returns-in-Some g c =
    by_level (g.E.EndSteps.steps c.args.steps.now) c.args.levels.now c.args.earlier.now c.args.lemma.now
    c.in-Some.level.now c.each_reaches.result
    (slice_get_read c.args.levels.now (length c.args.levels.now) c.args.lemma.now.done c.in-Some.level.now refl
    c.in-Some.ensures.lookup.3.0 c.in-Some.ensures.lookup.1) (sym c.fits.ensures ∙ c.if-not-fits.false)
    c.each_reaches.ensures

pub returns-in-None : goal.returns-in-None
returns-in-None g c =
    no_level (g.E.EndSteps.steps c.args.steps.now) c.args.levels.now c.args.earlier.now c.args.lemma.now
    (slice_get_past c.args.levels.now c.args.lemma.now.done c.in-None.ensures.lookup.3)
