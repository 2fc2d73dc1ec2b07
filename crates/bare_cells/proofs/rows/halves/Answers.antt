use Rattle.std.proofs.Common.{◌≡◌, ◌<ℤ◌, to_z, of_z, w32, arith, refl, subst, sym}
use Rattle.std.proofs.lemmas.Int.{to_z-of_z}
use Rattle.bare_cells.proofs.rows.halves.Goals as goal

pub returns : goal.returns
returns c =
    let first : to_z w32 (of_z w32 c.args.columns.now.x1) ≡ c.args.columns.now.x1 = grind (arith, to_z-of_z) in
    let last : to_z w32 (of_z w32 c.args.columns.now.x2) ≡ c.args.columns.now.x2 = grind (arith, to_z-of_z) in
    let middle : to_z w32 (of_z w32 c.middle_of-middle.result) ≡ c.middle_of-middle.result = grind (arith, to_z-of_z) in
    record {
      first = first;
      middle = refl;
      last = last;
      before = subst (λ z. c.args.columns.now.x1 <ℤ z) (sym middle) c.middle_of-middle.ensures.low;
      behind = subst (λ z. z <ℤ c.args.columns.now.x2) (sym middle) c.middle_of-middle.ensures.high;
    }
