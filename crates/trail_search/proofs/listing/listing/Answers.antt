use Rattle.std.proofs.Common.{◌≡◌, None, ap, sym, ◌∙◌}
use Rattle.trail_check.specs.Gates.{first_with_many}
use Rattle.trail_search.specs.Filling.{filled_gates}
use Rattle.open_gates.specs.Leveled.{levels_of}
use Rattle.trail_search.proofs.Filled.{closed_few, levels_filled, opened_none}
use Rattle.trail_search.proofs.Proving.{filled_are}
use Rattle.trail_search.proofs.listing.listing.Goals as goal

pub returns-clause-opened : goal.returns-clause-opened
returns-clause-opened c =
    let few : first_with_many c.args.fingers.now c.args.order.now ≡ None = ap (first_with_many c.args.fingers.now) (sym c.as_slice.ensures) ∙ c.in-Ok.ensures.few in
    c.new-opened.ensures ∙ opened_none c.args.fingers.now c.args.order.now few

pub returns-clause-fill : goal.returns-clause-fill
returns-clause-fill c =
    let few : first_with_many c.args.fingers.now c.args.order.now ≡ None = ap (first_with_many c.args.fingers.now) (sym c.as_slice.ensures) ∙ c.in-Ok.ensures.few in
    filled_are c.args.fingers.now c.args.order.now c.new-opened.result c.in_ok-fill.fill (c.new-opened.ensures ∙ opened_none c.args.fingers.now c.args.order.now few) c.in_ok-fill.ensures

pub returns-clause-levels : goal.returns-clause-levels
returns-clause-levels c =
    let few : first_with_many c.args.fingers.now c.args.order.now ≡ None = ap (first_with_many c.args.fingers.now) (sym c.as_slice.ensures) ∙ c.in-Ok.ensures.few in
    let fill : c.in_ok-fill.fill ≡ filled_gates c.args.fingers.now c.args.order.now = filled_are c.args.fingers.now c.args.order.now c.new-opened.result c.in_ok-fill.fill (c.new-opened.ensures ∙ opened_none c.args.fingers.now c.args.order.now few) c.in_ok-fill.ensures in
    levels_filled c.args.fingers.now c.requires.fingers c.args.order.now c.requires.order few c.in_ok-fill.fill fill c.in-Ok.levels (c.in-Ok.ensures.is ∙ ap (levels_of c.args.fingers.now) c.as_slice.ensures)

pub returns-clause-few_ways : goal.returns-clause-few_ways
returns-clause-few_ways c =
    let few : first_with_many c.args.fingers.now c.args.order.now ≡ None = ap (first_with_many c.args.fingers.now) (sym c.as_slice.ensures) ∙ c.in-Ok.ensures.few in
    let fill : c.in_ok-fill.fill ≡ filled_gates c.args.fingers.now c.args.order.now = filled_are c.args.fingers.now c.args.order.now c.new-opened.result c.in_ok-fill.fill (c.new-opened.ensures ∙ opened_none c.args.fingers.now c.args.order.now few) c.in_ok-fill.ensures in
    closed_few c.args.fingers.now c.requires.fingers c.args.order.now c.requires.order few c.in_ok-fill.fill fill
