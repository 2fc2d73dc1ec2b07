-- Two arrangements of the same fingers are of one height where they have as many tracks.
use Rattle.std.proofs.Common.{ℕ, ◌≤◌, max, fold, List, [], ◌∷◌, Option, Some, None, arith}
use Rattle.std.specs.Prelude.{All, IsPermutation}
use Rattle.std.specs.List.{cons_option}
use Rattle.std.specs.Option.{option_map}
use Rattle.std.proofs.lemmas.List.Elements.{All-cons, All-head, All-nil, All-tail}
use Rattle.std.proofs.lemmas.List.Sorted.{All-permutation, IsPermutation-sym}
use Rattle.cell_num.specs.declared.finger.Finger.{Finger}
use Rattle.cell_num.specs.declared.finger.Fingers.{Fingers}
use Rattle.cell_num.specs.declared.finger.Row.{Row}
use Rattle.cell_num.specs.declared.finger.Row.TheVariants.{P, N}
use Rattle.cell_draw.specs.Frame.{IsTooTall, channel_of, height_of, needed_of, wider}
use Rattle.cell_draw.specs.Measures.{LEAST_ROW}
use Rattle.row_model.specs.declared.column.Column.{Column}
use Rattle.row_model.specs.declared.column.Placed.{Placed}
use Rattle.row_model.specs.Arrangement.{IsArrangement, fingers_in, place}

-- the greatest width of placed fingers, at least this one
abbrev greatest : Row → ℕ → List Column → ℕ
greatest r least columns = fold (λ most column. wider most (place r column)) least columns

-- no finger is wider
abbrev IsNarrow : ℕ → Finger → Type 0
IsNarrow most finger = finger.width ≤ most

-- ---- the greatest width is the least number that no finger exceeds

at_least : (r : Row) (least : ℕ) (columns : List Column) → least ≤ greatest r least columns
at_least r least [] = omega arith
at_least r least (c ∷ columns) = by (place r c) (at_least r (wider least (place r c)) columns)
  where
    by : (x : Option Placed) → wider least x ≤ greatest r (wider least x) columns → least ≤ greatest r (wider least x) columns
    by None h = h
    by (Some x) h = omega (arith, h)

none_wider : (r : Row) (least : ℕ) (columns : List Column) → All (IsNarrow (greatest r least columns)) (fingers_in r columns)
none_wider r least [] = All-nil (IsNarrow least)
none_wider r least (c ∷ columns) = by (place r c) (none_wider r (wider least (place r c)) columns)
  where
    by : (x : Option Placed) → All (IsNarrow (greatest r (wider least x) columns)) (fingers_in r columns) → All (IsNarrow (greatest r (wider least x) columns)) (cons_option (option_map (λ (y : Placed). y.finger) x) (fingers_in r columns))
    by None h = h
    by (Some x) h = All-cons (IsNarrow (greatest r (max least x.finger.width) columns)) x.finger (fingers_in r columns) (omega (arith, at_least r (max least x.finger.width) columns)) h

least_such : (r : Row) (least most : ℕ) (columns : List Column) → least ≤ most → All (IsNarrow most) (fingers_in r columns) → greatest r least columns ≤ most
least_such r least most [] few narrow = few
least_such r least most (c ∷ columns) few narrow = by (place r c) (λ more fits rest. least_such r more most columns fits rest) narrow
  where
    by : (x : Option Placed) → ((more : ℕ) → more ≤ most → All (IsNarrow most) (fingers_in r columns) → greatest r more columns ≤ most) → All (IsNarrow most) (cons_option (option_map (λ (y : Placed). y.finger) x) (fingers_in r columns)) → greatest r (wider least x) columns ≤ most
    by None later h = later least few h
    by (Some x) later h =
        let one : x.finger.width ≤ most = All-head (IsNarrow most) x.finger (fingers_in r columns) h in
        later (max least x.finger.width) (omega (arith, few, one)) (All-tail (IsNarrow most) x.finger (fingers_in r columns) h)

-- ---- rows of the same fingers

no_higher : (r : Row) (fingers : List Finger) (row other : List Column) → IsPermutation fingers (fingers_in r row) → IsPermutation fingers (fingers_in r other) → height_of r row ≤ height_of r other
no_higher r fingers row other of also =
    least_such r LEAST_ROW (height_of r other) row (at_least r LEAST_ROW other)
    (All-permutation (IsNarrow (height_of r other)) fingers (fingers_in r row) of
    (All-permutation (IsNarrow (height_of r other)) (fingers_in r other) fingers (IsPermutation-sym fingers (fingers_in r other) also) (none_wider r LEAST_ROW other)))

no_channel_higher : (tracks more : ℕ) → tracks ≤ more → channel_of tracks ≤ channel_of more
no_channel_higher tracks more few = omega (arith, few)

-- a row that has no more tracks needs no more height
pub needs_no_more : (f : Fingers) (row other : List Column) (tracks more : ℕ) → IsArrangement row f → IsArrangement other f → tracks ≤ more → needed_of row tracks ≤ needed_of other more
needs_no_more f row other tracks more is also few =
    omega (arith, no_higher P f.p row other is.p also.p, no_higher N f.n row other is.n also.n, no_channel_higher tracks more few)

-- so where it is too tall, the other one is, too
pub also_tall : (f : Fingers) (row other : List Column) (tracks more height : ℕ) → IsArrangement row f → IsArrangement other f → tracks ≤ more → IsTooTall row tracks height → IsTooTall other more height
also_tall f row other tracks more height is also few (given, low) = (given, omega (arith, low, needs_no_more f row other tracks more is also few))
