use Rattle.std.proofs.Common.{◌≡◌, arith, ap}
use Rattle.std.proofs.lemmas.Int.{ints}
use Rattle.box_geom.specs.Rectangle.{Rectangle}
use Rattle.box_geom.proofs.Moved.{same_rect}
use Rattle.box_geom.proofs.moving.spread.Goals as goal

pub returns : goal.returns
returns c =
    let ex1 : c.block.inside.x1 ≡ c.args.block.now.x1 = ap (λ (r : Rectangle). r.x1) c.block.view_is in
    let ey1 : c.block.inside.y1 ≡ c.args.block.now.y1 = ap (λ (r : Rectangle). r.y1) c.block.view_is in
    let ex2 : c.block.inside.x2 ≡ c.args.block.now.x2 = ap (λ (r : Rectangle). r.x2) c.block.view_is in
    let ey2 : c.block.inside.y2 ≡ c.args.block.now.y2 = ap (λ (r : Rectangle). r.y2) c.block.view_is in
    let l = c.requires.block.left in let t = c.requires.block.right in let u = c.requires.block.low in let v = c.requires.block.top in let p = c.requires.block.proper.wide in let q = c.requires.block.proper.high in
    let a = c.requires.small.x1 in let d = c.requires.small.y1 in let f = c.requires.small.x2 in let g = c.requires.small.y2 in
    same_rect _ _ (omega (arith, ints))
