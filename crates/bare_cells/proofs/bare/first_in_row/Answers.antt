use Rattle.std.proofs.Common.{◌≡◌, to_z, of_z, w32, arith, subst, sym}
use Rattle.std.proofs.lemmas.Int.{to_z-of_z}
use Rattle.bare_cells.specs.Rows.{IsBareIn}
use Rattle.bare_cells.proofs.FirstBare.{in_row_first}
use Rattle.bare_cells.proofs.bare.first_in_row.Goals as goal

pub returns-in-Some-clause-some : goal.returns-in-Some-clause-some
returns-in-Some-clause-some c =
    let x : to_z w32 (of_z w32 c.in-Some.place.x) ≡ c.in-Some.place.x = grind (arith, to_z-of_z) in
    let y : to_z w32 (of_z w32 c.args.y) ≡ c.args.y = grind (arith, to_z-of_z) in
    subst (λ t. IsBareIn c.args.first.now c.args.second.now t (record { x = to_z w32 (of_z w32 c.in-Some.place.x); y = to_z w32 (of_z w32 c.args.y) })) y
    (subst (λ s. IsBareIn c.args.first.now c.args.second.now (to_z w32 (of_z w32 c.args.y)) (record { x = s; y = to_z w32 (of_z w32 c.args.y) })) (sym x)
    (in_row_first c.args.first.now c.args.second.now c.in_ok-held.held c.in_ok-shut.shut c.in_ok-bare.bare (to_z w32 (of_z w32 c.args.y)) c.in_ok-held.ensures c.in_ok-shut.ensures c.in_ok-bare.ensures c.in-Some.place c.in-Some.ensures.some))
