use Rattle.std.proofs.Common.{◌≡◌, [], subst, sym}
use Rattle.box_geom.specs.Cutting.{AreCuts}
use Rattle.box_geom.specs.Banding.{AreMadeOf, all_sides_up}
use Rattle.box_geom.proofs.Stacks.{none_cut}
use Rattle.box_geom.proofs.bands.rising_bands.Goals as goal

pub returns-in-None : goal.returns-in-None
returns-in-None c =
    let e : c.new.result.items ≡ [] = c.new.ensures.items in
    let v : c.in_ok-all_sides.field-0.items ≡ all_sides_up c.args.first.now c.args.second.now = c.in_ok-all_sides.ensures in
    let cuts : AreCuts (all_sides_up c.args.first.now c.args.second.now) c.deref.result.now = subst (λ z. AreCuts z c.deref.result.now) v (subst (AreCuts c.in_ok-all_sides.field-0.items) (sym c.deref.ensures.value) c.once_each-cuts.ensures) in
    subst (AreMadeOf c.args.operation c.args.first.now c.args.second.now) (sym e) (none_cut c.args.operation c.args.first.now c.args.second.now c.deref.result.now c.in-None.ensures.cases cuts)
