use Rattle.std.proofs.Common.{◌≡◌, ◌≤◌, All, subst, sym, rules, arith}
use Rattle.well_tap.specs.Base.{first_line}
use Rattle.well_tap.specs.Tapped.{CanRise}
use Rattle.well_tap.proofs.Clauses.{can_rise, lines_within}
use Rattle.well_tap.proofs.draw.tapped.Goals as goal

pub add_raised-requires-clause-below : goal.add_raised-requires-clause-below
add_raised-requires-clause-below c =
    let e : c.as_slice.result.now ≡ c.args.base.now.shapes.rects = search rules in
    subst (All (CanRise _)) (sym e) (can_rise c.args.xs.now c.args.base.now _ c.requires.base (omega arith))

pub add_taps-requires-clause-x : goal.add_taps-requires-clause-x
add_taps-requires-clause-x c =
    let e : c.x_of.result ≡ first_line c.args.xs.now = search rules in
    subst (λ x. x ≤ 999999982) (sym e) (lines_within c.args.xs.now c.args.base.now c.requires.base c.show_limits.ensures).0
