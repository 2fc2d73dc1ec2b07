-- The seats of a row: its columns, each with the unit that the definition gives it.
use Rattle.std.proofs.Common.{ℕ, zero, suc, ◌≡◌, ◌+◌, ◌<◌, ◌≤◌, false, cond, List, [], ◌∷◌, Option, Some, None, length, take, inl, inr, refl, subst, arith, Contains, slice_get, length-append, zip}
use Rattle.std.proofs.lemmas.Bool.{cases_Bool}
use Rattle.std.proofs.lemmas.List.Sums.{sum_by-cons}
use Rattle.row_model.specs.declared.column.Column.{Column}
use Rattle.row_model.specs.Gaps.{is_gap, gaps_of}
use Rattle.row_place.specs.declared.placement.UnitKind.TheVariants.{Column as ColumnUnit}
use Rattle.row_place.specs.declared.placement.Seat.{Seat}
use Rattle.row_place.specs.Units.{gap_between, units_behind, units_of, unit_of, seats_from, seats_of}
use Rattle.cell_num.proofs.Lists.{some_same, contains_none, contains_cons, contains_here, contains_there}

-- the gap units from a column on up to the column at a place
abbrev pub gaps_upto : Option Column → List Column → ℕ → ℕ
gaps_upto before [] at = 0
gaps_upto before (column ∷ row) zero = length (gap_between before column)
gaps_upto before (column ∷ row) (suc at) = length (gap_between before column) + gaps_upto (Some column) row at

one_gap : (b : Column) (c : Column) → length (gap_between (Some b) c) ≡ cond (is_gap (b, c)) 1 0
one_gap b c = elim (cases_Bool (is_gap (b, c))) [ inl gap ↦ rw gap refl | inr joined ↦ rw joined refl ]

gaps_cons : (b c : Column) (row : List Column) → gaps_of (b ∷ c ∷ row) ≡ cond (is_gap (b, c)) 1 0 + gaps_of (c ∷ row)
gaps_cons b c row = sum_by-cons (λ pair. cond (is_gap pair) 1 0) (b, c) (zip (c ∷ row) row)

gaps_behind : (b : Column) (row : List Column) (at : ℕ) (c : Column) → slice_get row at ≡ Some c → gaps_upto (Some b) row at ≡ gaps_of (b ∷ take (suc at) row)
gaps_behind b [] at c h = absurd cc
gaps_behind b (d ∷ row) zero c h = omega (arith, one_gap b d, gaps_cons b d [])
gaps_behind b (d ∷ row) (suc at) c h = omega (arith, one_gap b d, gaps_cons b d (take (suc at) row), gaps_behind d row at c h)

pub gaps_upto_is : (row : List Column) (at : ℕ) (c : Column) → slice_get row at ≡ Some c → at + gaps_upto None row at ≡ unit_of row at
gaps_upto_is [] at c h = absurd cc
gaps_upto_is (d ∷ row) zero c h = refl
gaps_upto_is (d ∷ row) (suc at) c h = omega (arith, gaps_behind d row at c h)

-- a seat of the columns from a unit on
pub record Sits (unit : ℕ) (before : Option Column) (row : List Column) (s : Seat) : Type 0 where
  pub at : ℕ
  pub stands : slice_get row at ≡ Some s.column
  pub unit' : s.unit ≡ unit + at + gaps_upto before row at

pub sits : (unit : ℕ) (before : Option Column) (row : List Column) (s : Seat) → Contains (seats_from unit before row) s → Sits unit before row s
sits unit before [] s h = absurd (contains_none s h)
sits unit before (c ∷ row) s h =
    elim (contains_cons _ _ s h) [
      | inl same ↦ subst (λ z. Sits unit before (c ∷ row) z) same (record { at = 0; stands = refl; unit' = omega arith })
      | inr there ↦
          let rest : Sits (unit + length (gap_between before c) + 1) (Some c) row s = sits (unit + length (gap_between before c) + 1) (Some c) row s there in
          record { at = suc rest.at; stands = rest.stands; unit' = omega (arith, rest.unit') }
    ]

make : Column → ℕ → Seat
make c u = record { column = c; unit = u }

made : {c c' : Column} {u u' : ℕ} → c ≡ c' → u ≡ u' → make c u ≡ make c' u'
made ec eu = cc

pub same_seat : (a b : Seat) → a.column ≡ b.column → a.unit ≡ b.unit → a ≡ b
unfolding make
same_seat a b c u = made c u

sit_at : (unit : ℕ) (before : Option Column) (row : List Column) (at : ℕ) (s : Seat) → slice_get row at ≡ Some s.column → s.unit ≡ unit + at + gaps_upto before row at → Contains (seats_from unit before row) s
sit_at unit before [] at s stands is = absurd cc
sit_at unit before (c ∷ row) zero s stands is =
    subst (λ z. Contains (seats_from unit before (c ∷ row)) z) (same_seat (record { column = c; unit = unit + length (gap_between before c) }) s (some_same c s.column stands) (omega (arith, is))) (contains_here _ _)
sit_at unit before (c ∷ row) (suc at) s stands is = contains_there _ _ s (sit_at (unit + length (gap_between before c) + 1) (Some c) row at s stands (omega (arith, is)))

-- exactly the columns of the row sit on their units
pub seat_from : (row : List Column) (s : Seat) (at : ℕ) → slice_get row at ≡ Some s.column → s.unit ≡ unit_of row at → Contains (seats_of row) s
seat_from row s at stands is = sit_at 0 None row at s stands (omega (arith, is, gaps_upto_is row at s.column stands))

pub record SitsAt (row : List Column) (s : Seat) : Type 0 where
  pub at : ℕ
  pub stands : slice_get row at ≡ Some s.column
  pub unit : s.unit ≡ unit_of row at

pub seat_at : (row : List Column) (s : Seat) → Contains (seats_of row) s → SitsAt row s
seat_at row s h =
    let found : Sits 0 None row s = sits 0 None row s h in
    record { at = found.at; stands = found.stands; unit = omega (arith, found.unit', gaps_upto_is row found.at s.column found.stands) }

-- every unit of a column is there
units_reach : (before : Option Column) (row : List Column) (at : ℕ) (c : Column) → slice_get row at ≡ Some c → at + gaps_upto before row at + 1 ≤ length (units_behind before row)
units_reach before [] at c h = absurd cc
units_reach before (d ∷ row) zero c h = omega (arith, length-append (gap_between before d) (ColumnUnit ∷ units_behind (Some d) row))
units_reach before (d ∷ row) (suc at) c h = omega (arith, length-append (gap_between before d) (ColumnUnit ∷ units_behind (Some d) row), units_reach (Some d) row at c h)

pub unit_below : (row : List Column) (at : ℕ) (c : Column) → slice_get row at ≡ Some c → unit_of row at < length (units_of row)
unit_below row at c h = omega (arith, units_reach None row at c h, gaps_upto_is row at c h)

-- a unit is not before the first free one
pub unit_from : (unit : ℕ) (before : Option Column) (row : List Column) (s : Seat) → Contains (seats_from unit before row) s → unit ≤ s.unit
unit_from unit before row s h = let found : Sits unit before row s = sits unit before row s h in omega (arith, found.unit')

-- where a column is the very next unit, no gap is before it
next_at : (unit : ℕ) (b : Column) (row : List Column) (at : ℕ) (s : Seat) → slice_get row at ≡ Some s.column → s.unit ≡ unit + at + gaps_upto (Some b) row at → s.unit ≡ unit → is_gap (b, s.column) ≡ false
next_at unit b [] at s stands is e = absurd cc
next_at unit b (c ∷ row) (suc at) s stands is e = absurd (omega (arith, is, e))
next_at unit b (c ∷ row) zero s stands is e =
    let none : length (gap_between (Some b) c) ≡ 0 = omega (arith, is, e) in
    subst (λ z. is_gap (b, z) ≡ false) (some_same c s.column stands)
    (elim (cases_Bool (is_gap (b, c))) [
      | inl gap ↦ let one : ◌≡◌ {A = ℕ} (cond (is_gap (b, c)) 1 0) 1 = rw gap refl in absurd (omega (arith, none, one, one_gap b c))
      | inr joined ↦ joined
    ])

pub next_unit : (unit : ℕ) (b : Column) (row : List Column) (s : Seat) → Contains (seats_from unit (Some b) row) s → s.unit ≡ unit → is_gap (b, s.column) ≡ false
next_unit unit b row s h e = let found : Sits unit (Some b) row s = sits unit (Some b) row s h in next_at unit b row found.at s found.stands found.unit' e
