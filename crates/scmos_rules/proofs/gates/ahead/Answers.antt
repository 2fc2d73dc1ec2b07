use Rattle.std.proofs.Common.{◌≡◌, ◌∙◌, arith, w32, to_z, of_z}
use Rattle.std.proofs.lemmas.Int.{to_z-of_z}
use Rattle.box_geom.specs.Rectangle.{Covers}
use Rattle.scmos_rules.proofs.Directions.{ahead_is}
use Rattle.scmos_rules.proofs.gates.ahead.Goals as goal

pub returns : goal.returns
returns c =
    let x : to_z w32 (of_z w32 c.across-dx.result) ≡ c.across-dx.result = grind (arith, to_z-of_z) in
    let y : to_z w32 (of_z w32 c.upward-dy.result) ≡ c.upward-dy.result = grind (arith, to_z-of_z) in
    ahead_is c.args.heading (Covers c.args.set.now) c.in_ok-region.region _ _ c.args.distance (x ∙ c.across-dx.ensures.value) (y ∙ c.upward-dy.ensures.value) c.in_ok-region.ensures
