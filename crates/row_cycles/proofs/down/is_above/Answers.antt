use Rattle.std.proofs.Common.{rules, refl, sym, ◌∙◌}
use Rattle.row_cycles.proofs.Found.{first_below, is_found, more_below}
use Rattle.row_cycles.specs.Down.{AreAllFound, IsNext}
use Rattle.row_cycles.proofs.down.is_above.Goals as goal

pub nets-init : goal.nets-init
nets-init c = (refl, first_below c.args.above.now c.args.upper)

pub nets-preserved : goal.nets-preserved
nets-preserved c =
    let next : IsNext c.args.above.now c.args.upper c.nets.found c.in-Some.a = c.in-Some.ensures.some in
    (search rules, more_below c.args.above.now c.args.upper c.nets.found c.in-Some.a next c.nets.invariant.1)

pub returns : goal.returns
returns c =
    let all : AreAllFound c.args.above.now c.args.upper c.nets.found = c.in_default.ensures.none in (
      λ e. c.nets.invariant.1 c.args.lower (sym c.is_marked.ensures ∙ e),
      λ h. c.is_marked.ensures ∙ is_found c.args.above.now c.args.upper c.nets.found c.args.lower all h,
    )
