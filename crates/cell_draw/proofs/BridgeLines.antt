-- Lines that ascend, and the units of columns.
use Rattle.std.proofs.Common.{ℕ, zero, suc, ◌≡◌, ◌+◌, ◌*◌, ◌-◌, ◌<◌, ◌≤◌, List, [], ◌∷◌, ◌++◌, Option, Some, None, length, slice_get, ap, sym, refl, subst, ◌∙◌, inl, inr, ◌⊎◌, arith, AllPairs, Contains}
use Rattle.std.proofs.lemmas.Bool.{cases_eq, cases_lt}
use Rattle.std.proofs.lemmas.List.{get_or_past}
use Rattle.std.proofs.lemmas.Option.{slice_get_within}
use Rattle.cell_num.proofs.Lists.{some_same, contains_none, contains_cons}
use Rattle.cell_num.proofs.Pairs.{pairs_at}
use Rattle.row_model.specs.declared.column.Column.{Column}
use Rattle.row_place.specs.declared.placement.Placement.{Placement}
use Rattle.row_place.specs.declared.placement.UnitKind.TheVariants.{Column as ColumnUnit}
use Rattle.row_place.specs.Units.{gap_between, units_behind, units_of, unit_of}
use Rattle.row_place.proofs.Seated.{unit_next}
use Rattle.row_place.proofs.Units.{gaps_upto, gaps_upto_is}
use Rattle.row_compact.specs.Solution.{x_of}
use Rattle.cell_draw.specs.Layouts.{width_of}
use Rattle.cell_draw.specs.Sound.{AreLines}

spaced : (p : Placement) (xs : List ℕ) → AreLines p xs → (d i : ℕ) → i + d ≤ 2 * length p.units → x_of xs i + 8 * d ≤ x_of xs (i + d)
spaced p xs lines zero i h = let e : ◌≡◌ {A = ℕ} (i + 0) i = omega arith in omega (arith, ap (λ n. x_of xs n) e)
spaced p xs lines (suc d) i h =
    let before : x_of xs i + 8 * d ≤ x_of xs (i + d) = spaced p xs lines d i (omega (arith, h)) in
    let e : ◌≡◌ {A = ℕ} (i + suc d) (i + d + 1) = omega arith in
    omega (arith, ap (λ n. x_of xs n) e, lines.next (i + d) (omega (arith, h)), before)

-- a line that stands d lines or more behind another
pub behind : (p : Placement) (xs : List ℕ) → AreLines p xs → (i j d : ℕ) → i + d ≤ j → j ≤ 2 * length p.units → x_of xs i + 8 * d ≤ x_of xs j
behind p xs lines i j d apart most =
    let e : ◌≡◌ {A = ℕ} (i + (j - i)) j = omega (arith, apart) in
    omega (arith, apart, ap (λ n. x_of xs n) e, spaced p xs lines (j - i) i (omega (arith, apart, most)))

pub after_first : (p : Placement) (xs : List ℕ) → AreLines p xs → (line : ℕ) → line ≤ 2 * length p.units → 8 ≤ x_of xs line
after_first p xs lines line most = omega (arith, lines.first, behind p xs lines 0 line 0 (omega arith) most)

pub before_end : (p : Placement) (xs : List ℕ) → AreLines p xs → (line : ℕ) → line ≤ 2 * length p.units → x_of xs line + 8 ≤ width_of p xs
before_end p xs lines line most = omega (arith, behind p xs lines line (2 * length p.units) 0 (omega (arith, most)) (omega arith))

pub wide_enough : (p : Placement) (xs : List ℕ) → AreLines p xs → 16 ≤ width_of p xs
wide_enough p xs lines = omega (arith, after_first p xs lines (2 * length p.units) (omega arith))

-- no line stands behind the last
pub x_most : (p : Placement) (xs : List ℕ) → AreLines p xs → x_of xs (2 * length p.units) ≤ 1000000 → (line : ℕ) → x_of xs line ≤ 1000000
x_most p xs lines last line = elim (cases_lt (2 * length p.units) line) [
  | inl beyond ↦ omega (arith, get_or_past xs line 0 (omega (arith, beyond, lines.lines)))
  | inr within ↦ omega (arith, last, behind p xs lines line (2 * length p.units) 0 (omega (arith, within)) (omega arith))
]

-- lines at one place are one line
pub same_line : (p : Placement) (xs : List ℕ) → AreLines p xs → (i j : ℕ) → i ≤ 2 * length p.units → j ≤ 2 * length p.units → x_of xs i ≡ x_of xs j → i ≡ j
same_line p xs lines i j low high same = elim (cases_lt i j) [
  | inl less ↦ absurd (omega (arith, same, behind p xs lines i j 1 (omega (arith, less)) high))
  | inr le ↦ elim (cases_lt j i) [
    | inl less ↦ absurd (omega (arith, same, behind p xs lines j i 1 (omega (arith, less)) low))
    | inr ge ↦ omega (arith, le, ge)
  ]
]

-- what stands in a list below its length
pub record At {X : Type 0} (xs : List X) (i : ℕ) : Type 0 where
  pub it : X
  pub is : slice_get xs i ≡ Some it

pub some_at : {X : Type 0} (xs : List X) (i : ℕ) → i < length xs → At xs i
some_at [] i short = absurd (omega (arith, short))
some_at (x ∷ xs) zero short = record { it = x; is = refl }
some_at (x ∷ xs) (suc i) short = let rest = some_at xs i (omega (arith, short)) in record { it = rest.it; is = rest.is }

-- a later column has a later unit
pub units_rise : (row : List Column) (i j : ℕ) (a b : Column) → i < j → slice_get row i ≡ Some a → slice_get row j ≡ Some b → unit_of row i < unit_of row j
units_rise row i zero a b less here there = absurd (omega (arith, less))
units_rise row i (suc k) a b less here there =
    elim (cases_eq i k) [
      | inl same ↦ omega (arith, ap (λ n. unit_of row n) same, unit_next row k a b (subst (λ n. slice_get row n ≡ Some a) same here) there)
      | inr other ↦
          let m : At row k = some_at row k (omega (arith, slice_get_within row (suc k) b there)) in
          omega (arith, units_rise row i k a m.it (omega (arith, less, other)) here m.is, unit_next row k m.it b m.is there)
    ]

past : {X : Type 0} (xs ys : List X) (k n : ℕ) → n ≡ length xs + k → slice_get (xs ++ ys) n ≡ slice_get ys k
past [] ys k n e = ap (λ m. slice_get ys m) (let same : n ≡ k = omega (arith, e) in same)
past (x ∷ xs) ys k zero e = absurd (omega (arith, e))
past (x ∷ xs) ys k (suc n) e = past xs ys k n (omega (arith, e))

column_behind : (before : Option Column) (row : List Column) (at : ℕ) (c : Column) (n : ℕ) → slice_get row at ≡ Some c → n ≡ at + gaps_upto before row at → slice_get (units_behind before row) n ≡ Some ColumnUnit
column_behind before [] at c n h e = absurd cc
column_behind before (d ∷ row) zero c n h e = past (gap_between before d) (ColumnUnit ∷ units_behind (Some d) row) 0 n (omega (arith, e))
column_behind before (d ∷ row) (suc at) c n h e =
    past (gap_between before d) (ColumnUnit ∷ units_behind (Some d) row) (suc (at + gaps_upto (Some d) row at)) n (omega (arith, e)) ∙ column_behind (Some d) row at c (at + gaps_upto (Some d) row at) h refl

-- the unit of a column is a column
pub column_unit : (row : List Column) (at : ℕ) (c : Column) → slice_get row at ≡ Some c → slice_get (units_of row) (unit_of row at) ≡ Some ColumnUnit
column_unit row at c h = column_behind None row at c (unit_of row at) h (omega (arith, gaps_upto_is row at c h))

-- where an element of a list stands
pub standing : {X : Type 0} (xs : List X) (x : X) → Contains xs x → (k : ℕ) × (slice_get xs k ≡ Some x)
standing [] x there = absurd (contains_none x there)
standing (y ∷ ys) x there = elim (contains_cons y ys x there) [
  | inl same ↦ (0, ap (λ z. Some z) same)
  | inr rest ↦ let k = standing ys x rest in (suc k.0, k.1)
]

-- in a list in order two elements are one, or stand in order
pub cases_in_order : {X : Type 0} (R : X → X → Type 0) (xs : List X) (a b : X) → AllPairs R xs → Contains xs a → Contains xs b → (a ≡ b) ⊎ (R a b ⊎ R b a)
cases_in_order {X} R xs a b pairs la lb = by (standing xs a la) (standing xs b lb)
  where
    by : (k : ℕ) × (slice_get xs k ≡ Some a) → (k : ℕ) × (slice_get xs k ≡ Some b) → (a ≡ b) ⊎ (R a b ⊎ R b a)
    by (i, is) (j, at) = elim (cases_lt i j) [
      | inl less ↦ inr (inl (pairs_at R xs i j a b pairs less is at))
      | inr le ↦ elim (cases_lt j i) [
        | inl less ↦ inr (inr (pairs_at R xs j i b a pairs less at is))
        | inr ge ↦
            let same : i ≡ j = omega (arith, le, ge) in
            inl (some_same a b (sym is ∙ ap (λ n. slice_get xs n) same ∙ at))
      ]
    ]

-- and one where they stand in order neither way
pub one_in_order : {X : Type 0} (R : X → X → Type 0) (xs : List X) (a b : X) → AllPairs R xs → Contains xs a → Contains xs b → (R a b → ⊥) → (R b a → ⊥) → a ≡ b
one_in_order R xs a b pairs la lb not_before not_behind = elim (cases_in_order R xs a b pairs la lb) [
  | inl same ↦ same
  | inr (inl before) ↦ absurd (not_before before)
  | inr (inr behind) ↦ absurd (not_behind behind)
]
