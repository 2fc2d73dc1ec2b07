use Rattle.std.proofs.Common.{length, ◌==◌, IsTrue, sym, subst, ◌∙◌, ap, ◌↔◌}
use Rattle.box_geom.specs.Regions.{CoversNone}
use Rattle.box_geom.proofs.Moved.{empty_decides}
use Rattle.box_geom.proofs.region.Region.is_empty.Goals as goal

pub returns : goal.returns
returns c = subst (λ b. IsTrue b ↔ CoversNone c.args.self.now) (sym (c.is_empty.ensures ∙ ap (λ z. length z == 0) c.blocks-2.ensures.all)) (empty_decides c.args.self.now c.blocks-2.ensures.banded)
