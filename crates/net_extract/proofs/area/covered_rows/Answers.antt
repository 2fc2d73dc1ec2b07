use Rattle.std.proofs.Common.{arith, ◌≡◌, to_z, of_z, w64, ap, sym}
use Rattle.std.specs.Int.{int_min}
use Rattle.std.proofs.lemmas.Int.{ints, clamps}
use Rattle.box_geom.specs.Rectangle.{Rectangle}
use Rattle.net_extract.specs.Areas.{cells_in}
use Rattle.net_extract.proofs.Filling.{more_covered, not_covered, moved_on, less_left}
use Rattle.net_extract.proofs.area.covered_rows.Goals as goal

pub places-smaller : goal.places-smaller
places-smaller c =
    let v = ap (λ (z : Rectangle). z.x2) c.rect.view_is in
    let f = c.min-at.ensures.value in
    let h = c.from.ensures in
    let g = c.places-test.true in
    let e : to_z w64 (of_z w64 c.min-at.result) ≡ int_min c.in-Some.rect.x2 c.args.area.now.x2 = omega (arith, ints, clamps) in
    less_left c.args.area.now.x2 (to_z w64 c.places.at-bits) (to_z w64 (of_z w64 c.min-at.result)) (moved_on c.args.shapes.now c.args.layer (cells_in c.args.area.now) (to_z w64 (of_z w64 c.min-at.result)) c.in-Some.rect c.places.invariant (omega (arith, ints)) (sym c.in-Some.ensures) e) (omega (arith, ints, clamps))

pub places-preserved : goal.places-preserved
places-preserved c =
    let v = ap (λ (z : Rectangle). z.x2) c.rect.view_is in
    let w = ap (λ (z : Rectangle). z.y2) c.rect.view_is in
    let f = c.min-at.ensures.value in
    let h = c.from.ensures in
    let k = c.min-top.ensures.value in
    let m = c.from-in-Some.ensures in
    more_covered c.args.shapes.now c.args.layer (cells_in c.args.area.now) (to_z w64 (of_z w64 c.min-at.result)) (to_z w64 (of_z w64 c.min-top.result)) c.in-Some.rect c.places.invariant (sym c.in-Some.ensures) (omega (arith, ints, clamps)) (omega (arith, ints, clamps))

pub returns-in-None-clause-none : goal.returns-in-None-clause-none
returns-in-None-clause-none c = λ e full. not_covered c.args.shapes.now c.args.layer (cells_in c.args.area.now) c.places.invariant (let g = c.places-test.true in omega (arith, ints)) (let l = c.requires.low in omega (arith, ints)) (let l = c.requires.high in omega (arith, ints)) (sym c.in-None.ensures) full
