use Rattle.std.proofs.Common.{◌↔◌, subst, take, ◌∙◌}
use Rattle.std.specs.Prelude.{IsTrue}
use Rattle.std.proofs.lemmas.List.{get_or_default}
use Rattle.track_ways.specs.Certificate.{IsJustifiedBy}
use Rattle.track_check.proofs.check.is_justified_at.Goals as goal

pub returns : goal.returns
returns g c = λ d valid.
    subst (λ x. IsTrue c.in_ok-justified.justified ↔ IsJustifiedBy g.R.TrackRule.fits (g.B.GapBound.value c.args.grounds.now.bound.now) c.args.grounds.now.pins.now c.args.grounds.now.limit c.args.grounds.now.kinds.now (take c.args.at c.args.lemmas.now) x) (c.index-lemmas-at.is ∙ get_or_default c.args.lemmas.now c.args.at c.index-lemmas-at.result d c.requires.within)
    (c.in_ok-justified.ensures.justified valid)
