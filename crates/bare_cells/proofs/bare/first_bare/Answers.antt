use Rattle.std.proofs.Common.{◌≡◌, ◌<ℤ◌, to_z, of_z, w32, arith, subst, sym, IfOk, IfSome, IsNone}
use Rattle.std.proofs.lemmas.Int.{to_z-of_z}
use Rattle.box_geom.specs.declared.ranges.XRange.{XRange}
use Rattle.bare_cells.specs.Rows.{AreRows, IsBareIn, IsClearIn}
use Rattle.bare_cells.proofs.FirstBare.{first_is, none_is, none_at_all, reached_wide}
use Rattle.bare_cells.proofs.bare.first_bare.Goals as goal

pub bare_rows-requires : goal.bare_rows-requires
bare_rows-requires c = record {
  columns = subst (λ (z : XRange). z.x1 <ℤ z.x2) (sym c.reached-columns.ensures) (reached_wide c.args.first.now);
  first = c.requires.first;
  second = c.requires.second;
}

pub returns-in-Some-clause-some : goal.returns-in-Some-clause-some
returns-in-Some-clause-some c =
    let row : to_z w32 (of_z w32 c.in-Some.place.x) ≡ c.in-Some.place.x = grind (arith, to_z-of_z) in
    first_is c.args.first.now c.args.second.now c.in_ok-rows.rows (subst (λ z. AreRows z c.args.first.now c.args.second.now c.in_ok-rows.rows) c.reached-columns.ensures c.in_ok-rows.ensures) c.in-Some.place c.in-Some.ensures.some c.first_in_row.result (subst (λ z. IfOk c.first_in_row.result (λ o. IfSome o (IsBareIn c.args.first.now c.args.second.now z))) row c.first_in_row.ensures.some)

pub returns-in-Some-clause-none : goal.returns-in-Some-clause-none
returns-in-Some-clause-none c =
    let row : to_z w32 (of_z w32 c.in-Some.place.x) ≡ c.in-Some.place.x = grind (arith, to_z-of_z) in
    none_is c.args.first.now c.args.second.now c.in_ok-rows.rows (subst (λ z. AreRows z c.args.first.now c.args.second.now c.in_ok-rows.rows) c.reached-columns.ensures c.in_ok-rows.ensures) c.in-Some.place c.in-Some.ensures.some c.first_in_row.result (subst (λ z. IfOk c.first_in_row.result (λ o. IsNone o → IsClearIn c.args.first.now c.args.second.now z)) row c.first_in_row.ensures.none)

pub returns-clause-none : goal.returns-clause-none
returns-clause-none c = λ none. none_at_all c.args.first.now c.args.second.now c.in_ok-rows.rows (subst (λ z. AreRows z c.args.first.now c.args.second.now c.in_ok-rows.rows) c.reached-columns.ensures c.in_ok-rows.ensures) (c.in-None.ensures.none.0 none)
