-- The lines of a row and its units: the line in the middle of a unit has a gate exactly where the unit is a column.
use Rattle.std.proofs.Common.{ℕ, zero, suc, ◌≡◌, ◌+◌, ◌*◌, ◌++◌, Bool, true, false, cond, List, [], ◌∷◌, Option, Some, None, length, slice_get, refl, sym, subst, arith, All}
use Rattle.std.proofs.lemmas.List.Elements.{All-head, All-tail}
use Rattle.cell_num.specs.declared.finger.Row.TheVariants.{P, N}
use Rattle.cell_num.proofs.Lists.{some_same}
use Rattle.row_model.specs.declared.column.Placed.{Placed}
use Rattle.row_model.specs.declared.column.Column.{Column}
use Rattle.row_model.specs.Arrangement.{AreOneColumn, IsColumn, gate_in}
use Rattle.row_model.specs.Gaps.{is_gap}
use Rattle.row_place.specs.declared.placement.UnitKind.{UnitKind}
use Rattle.row_place.specs.declared.placement.UnitKind.TheVariants.{Column as ColumnUnit, Gap}
use Rattle.row_place.specs.Units.{gap_between, units_behind}
use Rattle.track_ways.specs.declared.line.Line.{Line}
use Rattle.track_ways.specs.Rows.{gate_line, is_gap_behind, lines_behind, right_end}
use Rattle.track_ways.proofs.Placing.{gap_count, open_end, with_gap}
use Rattle.line_widths.specs.Borders.{has_gate}

abbrev pub is_column : UnitKind → Bool
is_column ColumnUnit = true
is_column Gap = false

-- the line in the middle of a unit
pub record IsMiddle (kind : UnitKind) (line : Line) : Type 0 where
  pub p : line.p ≡ None
  pub n : line.n ≡ None
  pub gate : has_gate line.gate ≡ is_column kind

-- two lines for each unit, and the last one
abbrev pub AreLines : List UnitKind → List Line → Type 0
AreLines [] [] = ⊥
AreLines [] (last ∷ []) = last.gate ≡ None
AreLines [] (last ∷ more ∷ rest) = ⊥
AreLines (kind ∷ kinds) [] = ⊥
AreLines (kind ∷ kinds) (node ∷ []) = ⊥
AreLines (kind ∷ kinds) (node ∷ middle ∷ rest) = (node.gate ≡ None) × IsMiddle kind middle × AreLines kinds rest

gate_there : (p n : Option Placed) → AreOneColumn p n → has_gate (gate_in p n) ≡ true
gate_there None None one = absurd one
gate_there (Some x) None one = refl
gate_there None (Some y) one = refl
gate_there (Some x) (Some y) one = refl

-- a gap between two columns is one unit
gap_units : (before : Option Column) (c : Column) (b : Bool) → length (gap_between before c) ≡ cond b 1 0 → gap_between before c ≡ cond b (Gap ∷ []) []
gap_units None c true e = absurd (omega (arith, e))
gap_units None c false e = refl
gap_units (Some a) c b e = go (is_gap (a, c)) b e
  where
    go : (o b : Bool) → length (cond o (Gap ∷ []) []) ≡ cond b 1 0 → cond o (Gap ∷ []) [] ≡ cond b (Gap ∷ []) []
    go true true e = refl
    go true false e = absurd (omega (arith, e))
    go false true e = absurd (omega (arith, e))
    go false false e = refl

pub row_lines : (before : Option Column) (cs : List Column) → All IsColumn cs → AreLines (units_behind before cs) (lines_behind (open_end before P) (open_end before N) cs)
row_lines before [] all = refl
row_lines before (c ∷ cs) all = go (row_lines (Some c) cs (All-tail IsColumn c cs all)) (is_gap_behind (open_end before P) (open_end before N) c) refl
  where
    middle : IsMiddle ColumnUnit (gate_line c)
    middle = record { p = refl; n = refl; gate = gate_there c.p c.n (All-head IsColumn c cs all) }

    shaped : AreLines (units_behind (Some c) cs) (lines_behind (right_end c.p) (right_end c.n) cs) → (b : Bool) → AreLines (cond b (Gap ∷ []) [] ++ ColumnUnit ∷ units_behind (Some c) cs) (with_gap b before c (lines_behind (right_end c.p) (right_end c.n) cs))
    shaped rest true = (refl, record { p = refl; n = refl; gate = refl }, (refl, middle, rest))
    shaped rest false = (refl, middle, rest)

    go : AreLines (units_behind (Some c) cs) (lines_behind (right_end c.p) (right_end c.n) cs) → (b : Bool) →
        is_gap_behind (open_end before P) (open_end before N) c ≡ b →
        AreLines (gap_between before c ++ ColumnUnit ∷ units_behind (Some c) cs)
        (lines_behind (open_end before P) (open_end before N) (c ∷ cs))
    go rest b e =
        subst (λ us. AreLines (us ++ ColumnUnit ∷ units_behind (Some c) cs) (lines_behind (open_end before P) (open_end before N) (c ∷ cs)))
        (sym (gap_units before c b (gap_count before c b e)))
        (subst (λ (t : Bool). AreLines (cond b (Gap ∷ []) [] ++ ColumnUnit ∷ units_behind (Some c) cs) (with_gap t before c (lines_behind (right_end c.p) (right_end c.n) cs))) (sym e) (shaped rest b))

pub line_count : (kinds : List UnitKind) (lines : List Line) → AreLines kinds lines → length lines ≡ 2 * length kinds + 1
line_count [] [] are = absurd are
line_count [] (last ∷ []) are = refl
line_count [] (last ∷ more ∷ rest) are = absurd are
line_count (kind ∷ kinds) [] are = absurd are
line_count (kind ∷ kinds) (node ∷ []) are = absurd are
line_count (kind ∷ kinds) (node ∷ middle ∷ rest) are = omega (arith, line_count kinds rest are.2)

-- a node line has no gate
pub node_gate : (kinds : List UnitKind) (lines : List Line) → AreLines kinds lines → (unit : ℕ) (line : Line) → slice_get lines (2 * unit) ≡ Some line → line.gate ≡ None
node_gate [] [] are unit line e = absurd are
node_gate [] (last ∷ []) are zero line e = subst (λ (l : Line). l.gate ≡ None) (some_same last line e) are
node_gate [] (last ∷ []) are (suc unit) line e = absurd (past (subst (λ n. slice_get (last ∷ []) n ≡ Some line) (let two : 2 * suc unit ≡ suc (suc (2 * unit)) = omega arith in two) e))
  where
    past : None ≡ Some line → ⊥
    past f = cc
node_gate [] (last ∷ more ∷ rest) are unit line e = absurd are
node_gate (kind ∷ kinds) [] are unit line e = absurd are
node_gate (kind ∷ kinds) (node ∷ []) are unit line e = absurd are
node_gate (kind ∷ kinds) (node ∷ middle ∷ rest) are zero line e = subst (λ (l : Line). l.gate ≡ None) (some_same node line e) are.0
node_gate (kind ∷ kinds) (node ∷ middle ∷ rest) are (suc unit) line e = node_gate kinds rest are.2 unit line
    (subst (λ n. slice_get (node ∷ middle ∷ rest) n ≡ Some line) (let two : 2 * suc unit ≡ suc (suc (2 * unit)) = omega arith in two) e)

-- the unit of a line in the middle of one
pub record MiddleOf (kinds : List UnitKind) (unit : ℕ) (line : Line) : Type 0 where
  pub kind : UnitKind
  pub there : slice_get kinds unit ≡ Some kind
  pub middle : IsMiddle kind line

pub middle_of : (kinds : List UnitKind) (lines : List Line) → AreLines kinds lines → (unit : ℕ) (line : Line) → slice_get lines (2 * unit + 1) ≡ Some line → MiddleOf kinds unit line
middle_of [] [] are unit line e = absurd are
middle_of [] (last ∷ []) are unit line e = absurd (past (subst (λ n. slice_get (last ∷ []) n ≡ Some line) (let one : 2 * unit + 1 ≡ suc (2 * unit) = omega arith in one) e))
  where
    past : None ≡ Some line → ⊥
    past f = cc
middle_of [] (last ∷ more ∷ rest) are unit line e = absurd are
middle_of (kind ∷ kinds) [] are unit line e = absurd are
middle_of (kind ∷ kinds) (node ∷ []) are unit line e = absurd are
middle_of (kind ∷ kinds) (node ∷ middle ∷ rest) are zero line e = record { kind = kind; there = refl; middle = subst (λ (l : Line). IsMiddle kind l) (some_same middle line e) are.1 }
middle_of (kind ∷ kinds) (node ∷ middle ∷ rest) are (suc unit) line e = later (middle_of kinds rest are.2 unit line
    (subst (λ n. slice_get (node ∷ middle ∷ rest) n ≡ Some line) (let two : 2 * suc unit + 1 ≡ suc (suc (2 * unit + 1)) = omega arith in two) e))
  where
    later : MiddleOf kinds unit line → MiddleOf (kind ∷ kinds) (suc unit) line
    later m = record { kind = m.kind; there = m.there; middle = m.middle }
