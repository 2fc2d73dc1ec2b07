-- The column at a place of a row sits on the unit of that place.
use Rattle.std.proofs.Common.{ℕ, zero, suc, ◌≡◌, ◌+◌, List, [], ◌∷◌, Option, Some, None, length, refl, ap, subst, arith, slice_get}
use Rattle.row_model.specs.declared.column.Column.{Column}
use Rattle.row_place.specs.declared.placement.Seat.{Seat}
use Rattle.row_place.specs.Units.{gap_between, unit_of, seats_from, seats_of}
use Rattle.cell_num.proofs.Lists.{some_same}
use Rattle.row_place.proofs.Units.{gaps_upto, gaps_upto_is, same_seat}

abbrev seat : Column → ℕ → Seat
seat column unit = record { column = column; unit = unit }

seat_from : (unit : ℕ) (before : Option Column) (row : List Column) (at : ℕ) (c : Column) → slice_get row at ≡ Some c → slice_get (seats_from unit before row) at ≡ Some (seat c (unit + at + gaps_upto before row at))
seat_from unit before [] at c h = absurd cc
seat_from unit before (d ∷ row) zero c h = ap (λ s. Some s) (same_seat (seat d (unit + length (gap_between before d))) (seat c (unit + 0 + length (gap_between before d))) (some_same d c h) (omega arith))
seat_from unit before (d ∷ row) (suc at) c h =
    subst (λ u. slice_get (seats_from (unit + length (gap_between before d) + 1) (Some d) row) at ≡ Some (seat c u))
    (let e : unit + length (gap_between before d) + 1 + at + gaps_upto (Some d) row at ≡ unit + suc at + (length (gap_between before d) + gaps_upto (Some d) row at) = omega arith in e)
    (seat_from (unit + length (gap_between before d) + 1) (Some d) row at c h)

pub seat_of : (row : List Column) (at : ℕ) (c : Column) → slice_get row at ≡ Some c → slice_get (seats_of row) at ≡ Some (seat c (unit_of row at))
seat_of row at c h =
    subst (λ u. slice_get (seats_of row) at ≡ Some (seat c u)) (let e : 0 + at + gaps_upto None row at ≡ unit_of row at = omega (arith, gaps_upto_is row at c h) in e) (seat_from 0 None row at c h)

seats_few : (unit : ℕ) (before : Option Column) (row : List Column) → length (seats_from unit before row) ≡ length row
seats_few unit before [] = refl
seats_few unit before (c ∷ row) = omega (arith, seats_few (unit + length (gap_between before c) + 1) (Some c) row)

pub seat_count : (row : List Column) → length (seats_of row) ≡ length row
seat_count row = seats_few 0 None row

gap_next : (before : Option Column) (row : List Column) (at : ℕ) (a b : Column) → slice_get row at ≡ Some a → slice_get row (suc at) ≡ Some b → gaps_upto before row (suc at) ≡ gaps_upto before row at + length (gap_between (Some a) b)
gap_next before [] at a b here there = absurd cc
gap_next before (c ∷ []) zero a b here there = absurd cc
gap_next before (c ∷ d ∷ row) zero a b here there =
    subst (λ z. length (gap_between before c) + length (gap_between (Some c) d) ≡ length (gap_between before c) + length (gap_between (Some z) b)) (some_same c a here)
    (subst (λ z. length (gap_between before c) + length (gap_between (Some c) d) ≡ length (gap_between before c) + length (gap_between (Some c) z)) (some_same d b there) refl)
gap_next before (c ∷ row) (suc at) a b here there = omega (arith, gap_next (Some c) row at a b here there)

-- the next column sits on the next unit, or behind a gap unit
pub unit_next : (row : List Column) (at : ℕ) (a b : Column) → slice_get row at ≡ Some a → slice_get row (suc at) ≡ Some b → unit_of row (suc at) ≡ unit_of row at + length (gap_between (Some a) b) + 1
unit_next row at a b here there = omega (arith, gaps_upto_is row at a here, gaps_upto_is row (suc at) b there, gap_next None row at a b here there)
