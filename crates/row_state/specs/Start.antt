-- The kinds of fingers, the state before the first column, and the states that are valid.
use Rattle.std.specs.Prelude.{ℕ, ◌≡◌, ◌+◌, ◌≤◌, ◌<◌, List, Some, None, length, slice_get, slice_index, map, All}
use Rattle.std.specs.Prelude.{AllPairs, IsPermutation, IfSome}
use Rattle.cell_num.specs.declared.finger.Row.{Row}
use Rattle.cell_num.specs.declared.finger.Row.TheVariants.{P, N}
use Rattle.cell_num.specs.declared.finger.Fingers.{Fingers}
use Rattle.cell_num.specs.declared.finger.Finger.{Finger}
use Rattle.cell_num.specs.Fingers.{on_gate, columns_of}
use Rattle.row_state.specs.declared.kind.Kind.{Kind}
use Rattle.row_state.specs.declared.kind.Kinds.{Kinds}
use Rattle.row_state.specs.declared.state.State.{State}
use Rattle.row_state.specs.Completion.{fingers_left, left_in}
use Rattle.row_state.specs.Order.{KindBefore}

abbrev pub counts_of : List Kind → List ℕ
counts_of kinds = map (λ (k : Kind). k.count) kinds

-- all fingers are left, and no end is open
abbrev pub start_of : Kinds → State
start_of k = record { p_left = counts_of k.p; n_left = counts_of k.n; p_end = None; n_end = None }

-- how many columns the fingers left need
abbrev pub columns_left : Kinds → State → ℕ
columns_left k s = columns_of (left_in k s)

-- these are the kinds of these fingers, each with its count
pub record AreKinds (f : Fingers) (k : Kinds) : Type 0 where
  pub nets : k.nets ≡ f.nets
  pub p : IsPermutation f.p (fingers_left P k.p (counts_of k.p))
  pub n : IsPermutation f.n (fingers_left N k.n (counts_of k.n))

-- a kind of at least one finger, its ends in order, its nets numbered below `nets`
pub record IsKind (nets : ℕ) (kind : Kind) : Type 0 where
  pub gate : kind.gate.0 < nets
  pub order : kind.lo.0 ≤ kind.hi.0
  pub ends : kind.hi.0 < nets
  pub some : 0 < kind.count

-- the kinds of the fingers of one row, in order, no two of them alike
pub record AreKindsOf (row : Row) (nets : ℕ) (each : List Finger) (kinds : List Kind) : Type 0 where
  pub fingers : IsPermutation each (fingers_left row kinds (counts_of kinds))
  pub sound : All (IsKind nets) kinds
  pub order : AllPairs KindBefore kinds

-- what holds of all kinds, by their type: they are in order, no two of a row agree, and they are the
-- kinds of fingers that the calls of the workspace take
pub record AreSomeKinds (k : Kinds) : Type 0 where
  pub p : All (IsKind k.nets) k.p
  pub n : All (IsKind k.nets) k.n
  pub p_order : AllPairs KindBefore k.p
  pub n_order : AllPairs KindBefore k.n
  pub few_nets : k.nets ≤ 256
  pub few_columns : columns_left k (start_of k) ≤ 32

-- the gates of the kinds are nets
pub record GatesAreNets (k : Kinds) : Type 0 where
  pub p : (i : ℕ) (kind : Kind) → slice_get k.p i ≡ Some kind → kind.gate.0 < k.nets
  pub n : (i : ℕ) (kind : Kind) → slice_get k.n i ≡ Some kind → kind.gate.0 < k.nets

-- so are their ends
pub record EndsAreNets (k : Kinds) : Type 0 where
  pub p : (i : ℕ) (kind : Kind) → slice_get k.p i ≡ Some kind → (kind.lo.0 < k.nets) × (kind.hi.0 < k.nets)
  pub n : (i : ℕ) (kind : Kind) → slice_get k.n i ≡ Some kind → (kind.lo.0 < k.nets) × (kind.hi.0 < k.nets)

-- at least one finger is left
abbrev pub HasFingers : Kinds → State → Type 0
HasFingers k s = 0 < length (left_in k s).p + length (left_in k s).n

-- no gate has more fingers left in the row that began with no more on it
abbrev pub KeepsLead : Kinds → State → ℕ → Type 0
KeepsLead k s gate = (on_gate gate (left_in k (start_of k)).n ≤ on_gate gate (left_in k (start_of k)).p
    → on_gate gate (left_in k s).n ≤ on_gate gate (left_in k s).p)
    × (on_gate gate (left_in k (start_of k)).p ≤ on_gate gate (left_in k (start_of k)).n → on_gate gate (left_in k s).p
    ≤ on_gate gate (left_in k s).n)

-- counts and ends are in range, and each gate keeps its lead
pub record IsState (k : Kinds) (s : State) : Type 0 where
  pub p_kinds : length s.p_left ≡ length k.p
  pub n_kinds : length s.n_left ≡ length k.n
  pub p_counts : (i : ℕ) (kind : Kind) → slice_get k.p i ≡ Some kind → slice_index s.p_left i ≤ kind.count
  pub n_counts : (i : ℕ) (kind : Kind) → slice_get k.n i ≡ Some kind → slice_index s.n_left i ≤ kind.count
  pub p_end : IfSome s.p_end (λ v. v.0 < k.nets)
  pub n_end : IfSome s.n_end (λ v. v.0 < k.nets)
  pub lead : (gate : ℕ) → KeepsLead k s gate
