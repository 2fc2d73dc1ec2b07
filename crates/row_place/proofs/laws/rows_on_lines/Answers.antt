use Rattle.std.proofs.Common.{suc, ◌≡◌, ◌+◌, Some, length, subst, arith, slice_get}
use Rattle.row_place.specs.Units.{gap_between, unit_of}
use Rattle.row_place.proofs.Seated.{seat_of, seat_count, unit_next}
use Rattle.row_place.proofs.Apart.{nodes_apart, gates_apart, alternate}
use Rattle.row_place.proofs.laws.rows_on_lines.Goals as goal

pub returns-clause-seats : goal.returns-clause-seats
returns-clause-seats c = seat_of

pub returns-clause-columns : goal.returns-clause-columns
returns-clause-columns c = seat_count

pub returns-clause-next : goal.returns-clause-next
returns-clause-next c = λ row at a b here.
    let e : suc at ≡ at + 1 = omega arith in
    subst (λ k. slice_get row k ≡ Some b → unit_of row k ≡ unit_of row at + length (gap_between (Some a) b) + 1) e (unit_next row at a b here)

pub returns-clause-nodes_apart : goal.returns-clause-nodes_apart
returns-clause-nodes_apart c = nodes_apart

pub returns-clause-gates_apart : goal.returns-clause-gates_apart
returns-clause-gates_apart c = gates_apart

pub returns-clause-alternate : goal.returns-clause-alternate
returns-clause-alternate c = alternate
