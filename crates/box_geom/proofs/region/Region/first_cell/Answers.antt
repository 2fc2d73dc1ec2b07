use Rattle.std.proofs.Common.{rules, ◌≡◌, slice_get, Some, sym, subst, ap, arith, w32, to_z, of_z}
use Rattle.std.proofs.lemmas.Int.{to_z-of_z}
use Rattle.box_geom.specs.Rectangle.{Rectangle, Covers}
use Rattle.box_geom.specs.Regions.{IsFirst}
use Rattle.box_geom.proofs.Moved.{first_of_blocks, not_none}
use Rattle.box_geom.proofs.region.Region.first_cell.Goals as goal

pub returns-in-Some-clause-some : goal.returns-in-Some-clause-some
returns-in-Some-clause-some c =
    let at : slice_get c.args.self.now 0 ≡ Some c.in-Some.block.now = search rules in
    let a : to_z w32 (of_z w32 c.block.inside.x1) ≡ c.in-Some.block.now.x1 = let e : c.block.inside.x1 ≡ c.in-Some.block.now.x1 = ap (λ (r : Rectangle). r.x1) c.block.view_is in grind (arith, to_z-of_z) in
    let b : to_z w32 (of_z w32 c.block.inside.y1) ≡ c.in-Some.block.now.y1 = let e : c.block.inside.y1 ≡ c.in-Some.block.now.y1 = ap (λ (r : Rectangle). r.y1) c.block.view_is in grind (arith, to_z-of_z) in
    subst (λ x. IsFirst (Covers c.args.self.now) x (to_z w32 (of_z w32 c.block.inside.y1))) (sym a) (subst (IsFirst (Covers c.args.self.now) c.in-Some.block.now.x1) (sym b) (first_of_blocks c.args.self.now c.in-Some.block.now c.blocks-2.ensures.banded at))

pub returns-in-Some-clause-none : goal.returns-in-Some-clause-none
returns-in-Some-clause-none c =
    let at : slice_get c.args.self.now 0 ≡ Some c.in-Some.block.now = search rules in
    (λ e. absurd (cc e), λ n. absurd (not_none c.args.self.now c.in-Some.block.now c.blocks-2.ensures.banded at n))
