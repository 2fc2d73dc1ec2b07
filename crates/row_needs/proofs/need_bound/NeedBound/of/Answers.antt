use Rattle.std.proofs.Common.{subst, sym}
use Rattle.std.specs.Option.{ForSome}
use Rattle.row_needs.specs.Table.{AreLeast}
use Rattle.row_needs.specs.declared.need_bound.TheConstants.{MOST_LEFTOVERS}
use Rattle.row_needs.proofs.Bounds.{table_least}
use Rattle.row_needs.proofs.need_bound.NeedBound.of.Goals as goal

pub invariant_of-result : goal.invariant_of-result
invariant_of-result c = record { sound = subst (λ j. ForSome c.in_ok-table.field-0 (AreLeast j)) (sym c.in_ok-copy_of.ensures) (table_least MOST_LEFTOVERS c.args.kinds.now c.in_ok-table.field-0 c.in_ok-table.ensures) }

pub returns : goal.returns
returns c = record { kinds = c.in_ok-copy_of.ensures; table = c.in_ok-table.ensures }
