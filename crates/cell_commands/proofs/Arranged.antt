-- Each finger of a row of the kinds' fingers is of one of the kinds.
use Rattle.std.proofs.Common.{ℕ, ◌≡◌, ◌≤◌, ◌∷◌, [], List, Option, Some, None, All, Contains, IfSome, IsPermutation, refl, arith, length, replicate}
use Rattle.std.specs.Option.{option_map}
use Rattle.std.proofs.lemmas.List.Elements.{All-append, All-contains, All-nil, All-replicate}
use Rattle.std.proofs.lemmas.List.Sorted.{All-permutation, IsPermutation-sym}
use Rattle.cell_num.specs.declared.finger.Finger.{Finger}
use Rattle.cell_num.specs.declared.finger.Fingers.{Fingers}
use Rattle.cell_num.specs.declared.finger.Row.{Row}
use Rattle.cell_num.specs.declared.finger.Row.TheVariants.{P, N}
use Rattle.cell_num.proofs.Lists.{all_from_contains, all_imply, contains_filter_map, contains_here, contains_there}
use Rattle.cell_num.proofs.Pairs.{Some', any_at, some_from_any}
use Rattle.row_model.specs.declared.column.Column.{Column}
use Rattle.row_model.specs.declared.column.Placed.{Placed}
use Rattle.row_model.specs.Arrangement.{IsArrangement, IsColumn, fingers_in, place}
use Rattle.row_model.specs.Gaps.{gaps_of}
use Rattle.row_state.specs.declared.kind.Kind.{Kind}
use Rattle.row_state.specs.declared.kind.Kinds.{Kinds}
use Rattle.row_state.specs.Completion.{finger_of, fingers_left}
use Rattle.row_state.specs.Start.{AreKinds, AreSomeKinds, counts_of, start_of}
use Rattle.row_state.proofs.Unfold.{columns_same, gaps_from_start}
use Rattle.bound_log.specs.declared.log.LogStep.{LogStep}
use Rattle.bound_log.specs.Fits.{StepFits}
use Rattle.log_check.specs.Accepted.{IsListed, columns_listed}
use Rattle.row_search.proofs.Least.{further_le}
use Rattle.cell_commands.specs.Listed.{IsBestOf, IsRowOf}
use Rattle.cell_commands.specs.Sides.{HasKind, HasKinds}

-- for a caller that has the kinds of its fingers
pub row_of : (f : Fingers) (k : Kinds) (row : List Column) → AreKinds f k → IsArrangement row f → IsRowOf k row
row_of f k row kinds arranges = (f, kinds, arranges)

later : (row : Row) (k : Kind) (kinds : List Kind) (finger : Finger) → HasKind row kinds finger → HasKind row (k ∷ kinds) finger
later row k kinds finger has =
    let s : Some' (λ kind. finger_of row kind ≡ finger) kinds = some_from_any (λ kind. finger_of row kind ≡ finger) kinds has in
    any_at (λ kind. finger_of row kind ≡ finger) (k ∷ kinds) s.it (contains_there k kinds s.it s.there) s.holds

kinds_have : (row : Row) (kinds : List Kind) (left : List ℕ) → All (HasKind row kinds) (fingers_left row kinds left)
kinds_have row [] left = All-nil (HasKind row [])
kinds_have row (k ∷ ks) [] = All-nil (HasKind row (k ∷ ks))
kinds_have row (k ∷ ks) (c ∷ cs) =
    All-append (HasKind row (k ∷ ks)) (replicate c (finger_of row k)) (fingers_left row ks cs)
    (All-replicate (HasKind row (k ∷ ks)) c (finger_of row k) (any_at (λ kind. finger_of row kind ≡ finger_of row k) (k ∷ ks) k (contains_here k ks) refl))
    (all_imply (HasKind row ks) (HasKind row (k ∷ ks)) (fingers_left row ks cs) (later row k ks) (kinds_have row ks cs))

fingers_have : (row : Row) (kinds : List Kind) (fingers : List Finger) (columns : List Column) → IsPermutation fingers (fingers_left row kinds (counts_of kinds)) → IsPermutation fingers (fingers_in row columns) → All (HasKind row kinds) (fingers_in row columns)
fingers_have row kinds fingers columns left there =
    All-permutation (HasKind row kinds) fingers (fingers_in row columns) there
    (All-permutation (HasKind row kinds) (fingers_left row kinds (counts_of kinds)) fingers (IsPermutation-sym fingers (fingers_left row kinds (counts_of kinds)) left) (kinds_have row kinds (counts_of kinds)))

place_has : (row : Row) (kinds : List Kind) (columns : List Column) (c : Column) (o : Option Placed) → All (HasKind row kinds) (fingers_in row columns) → Contains columns c → place row c ≡ o → IfSome o (λ (x : Placed). HasKind row kinds x.finger)
place_has row kinds columns c None all there is = tt
place_has row kinds columns c (Some x) all there is =
    let some : option_map (λ (y : Placed). y.finger) (place row c) ≡ Some x.finger = rw is refl in
    All-contains (HasKind row kinds) (fingers_in row columns) x.finger all (contains_filter_map (λ column. option_map (λ (y : Placed). y.finger) (place row column)) columns c x.finger there some)

pub all_have : (k : Kinds) (row : List Column) → IsRowOf k row → All (HasKinds k) row
all_have k row (f, kinds, arranges) =
    let p : All (HasKind P k.p) (fingers_in P row) = fingers_have P k.p f.p row kinds.p arranges.p in
    let n : All (HasKind N k.n) (fingers_in N row) = fingers_have N k.n f.n row kinds.n arranges.n in
    all_from_contains (HasKinds k) row (λ c there. record {
      places = All-contains IsColumn row c arranges.columns there;
      p = place_has P k.p row c c.p p there refl;
      n = place_has N k.n row c c.n n there refl;
    })

row_short : (k : Kinds) (row : List Column) → AreSomeKinds k → IsRowOf k row → length row ≤ 32
row_short k row some (f, kinds, arranges) = omega (arith, arranges.fewest, columns_same f k kinds, some.few_columns)

-- a row is short
pub row_few : (k : Kinds) (row : List Column) → AreSomeKinds k → IsRowOf k row → length row ≤ 64
row_few k row some is = omega (arith, row_short k row some is)

-- and has few gaps
pub is_best : (k : Kinds) (row : List Column) (gaps : ℕ) (steps : List LogStep) → AreSomeKinds k → IsRowOf k row → columns_listed k steps ≡ row → All (IsListed k) steps → All (StepFits k) steps → gaps ≡ gaps_of row → IsBestOf k row (record { gaps = gaps; steps = steps })
is_best k row gaps steps some is columns listed fits counted = record {
  columns = columns;
  listed = listed;
  counted = counted;
  fits = record { few = omega (arith, counted, gaps_from_start k row, further_le (start_of k) row, row_short k row some is); steps = fits };
}
