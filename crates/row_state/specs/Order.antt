-- The order of kinds, of columns and of rows of columns.
use Rattle.std.specs.Prelude.{ℕ, ◌≡◌, ◌⊎◌, List, [], ◌∷◌, ◌++◌, Option, Some, None, IsTrue, if◌then◌else◌}
use Rattle.std.specs.Ordering.{nat_cmp, is_lt}
use Rattle.std.specs.Cmp.Lexicographic.{slice_cmp}
use Rattle.row_model.specs.declared.column.Placed.{Placed}
use Rattle.row_model.specs.declared.column.Column.{Column}
use Rattle.row_state.specs.declared.kind.Kind.{Kind}

-- the first number that differs is the lesser one
abbrev pub KeyBefore : List ℕ → List ℕ → Type 0
KeyBefore a b = IsTrue (is_lt (slice_cmp nat_cmp a b))

-- by gate, lower end, higher end and width
abbrev pub kind_key : Kind → List ℕ
kind_key k = k.gate.0 ∷ k.lo.0 ∷ k.hi.0 ∷ k.width ∷ []

abbrev pub KindBefore : Kind → Kind → Type 0
KindBefore a b = KeyBefore (kind_key a) (kind_key b)

-- an empty place comes last, then the nets and the width count, and unflipped comes first
abbrev pub place_key : Option Placed → List ℕ
place_key None = 1 ∷ []
place_key (Some x) = 0 ∷ x.finger.lo.0 ∷ x.finger.hi.0 ∷ x.finger.width ∷ (if x.flipped then 1 else 0) ∷ []

abbrev pub gate_key : Option Placed → Option Placed → ℕ
gate_key (Some x) y = x.finger.gate.0
gate_key None (Some y) = y.finger.gate.0
gate_key None None = 0

-- the gate, the P place, the N place
abbrev pub column_key : Column → List ℕ
column_key c = gate_key c.p c.n ∷ (place_key c.p ++ place_key c.n)

abbrev pub ColumnBefore : Column → Column → Type 0
ColumnBefore a b = KeyBefore (column_key a) (column_key b)

-- rows are compared by their first different column
abbrev pub RowBefore : List Column → List Column → Type 0
RowBefore (a ∷ xs) (b ∷ ys) = ColumnBefore a b ⊎ ((a ≡ b) × RowBefore xs ys)
RowBefore _ _ = ⊥
