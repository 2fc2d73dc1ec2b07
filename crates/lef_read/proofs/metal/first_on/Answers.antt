use Rattle.std.proofs.Common.{◌≡◌, IfOk, IsNone, subst, ◌∙◌}
use Rattle.box_geom.specs.Layers.{rects_on}
use Rattle.box_geom.specs.Regions.{Bare, IsEmpty}
use Rattle.lef_read.specs.Agreement.{shown_on}
use Rattle.lef_read.proofs.metal.first_on.Goals as goal

pub returns-clause-none : goal.returns-clause-none
returns-clause-none c =
    let drawn : c.as_slice.result.now ≡ rects_on c.args.layer c.args.shapes.now.rects = c.as_slice.ensures.value ∙ c.in_ok-drawn.ensures.drawn in
    let shown : c.as_slice-2.result.now ≡ shown_on c.args.layer c.args.cell.now = c.as_slice-2.ensures.value ∙ c.in_ok-shown.ensures.shown in
    subst (λ rs. IfOk c.first_bare.result (λ o. IsNone o → IsEmpty (Bare rs (shown_on c.args.layer c.args.cell.now)))) drawn (subst (λ ss. IfOk c.first_bare.result (λ o. IsNone o → IsEmpty (Bare c.as_slice.result.now ss))) shown c.first_bare.ensures.none)
