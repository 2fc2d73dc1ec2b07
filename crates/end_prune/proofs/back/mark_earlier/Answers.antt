use Rattle.std.proofs.Common.{length, refl}
use Rattle.std.proofs.lemmas.Option.{slice_get_past, slice_get_read}
use Rattle.end_prune.proofs.Support.{all_reach, some_level, support_marked}
use Rattle.end_prune.proofs.back.mark_earlier.Goals as goal

pub mark_support-requires-clause-reached : goal.mark_support-requires-clause-reached
mark_support-requires-clause-reached g c =
    all_reach (g.E.EndSteps.steps c.args.steps.now) c.args.levels.now c.args.lemma.now c.args.earlier.now
    c.in-Some.level.now (slice_get_read c.args.levels.now (length c.args.levels.now) c.args.lemma.now.done
    c.in-Some.level.now refl
    c.in-Some.ensures.lookup.3.0 c.in-Some.ensures.lookup.1) c.requires.justified

pub unreachable-requires : goal.unreachable-requires
unreachable-requires g c =
    some_level (g.E.EndSteps.steps c.args.steps.now) c.args.levels.now c.args.lemma.now c.args.earlier.now
    c.requires.justified (slice_get_past c.args.levels.now c.args.lemma.now.done c.in_default.ensures.lookup.3)

pub returns : goal.returns
returns g c =
    support_marked (g.E.EndSteps.steps c.args.steps.now) c.args.levels.now c.args.lemma.now c.args.earlier.now
    c.in-Some.level.now (slice_get_read c.args.levels.now (length c.args.levels.now) c.args.lemma.now.done
    c.in-Some.level.now refl
    c.in-Some.ensures.lookup.3.0 c.in-Some.ensures.lookup.1) c.requires.justified c.args.marks.now.items
    c.mark_support.new.marks.items c.in_ok-mark_support.ensures.more c.in_ok-mark_support.ensures.reached
