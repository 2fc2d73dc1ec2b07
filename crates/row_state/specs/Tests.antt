-- Counts, tests and lists that compute the facts of kinds, states and next columns.
use Rattle.std.specs.Prelude.{ℕ, zero, suc, ◌≡◌, ◌+◌, ◌-◌, ◌%◌, Bool, true, false, not, cond, ◌&&◌, ◌||◌, ◌==◌, ltb}
use Rattle.std.specs.Prelude.{leb, max, min, if◌then◌else◌, List, [], ◌∷◌, ◌++◌, Option, Some, None, length, map}
use Rattle.std.specs.Prelude.{sum_by, count_by, slice_get, slice_index}
use Rattle.std.specs.List.{zip, list_all, flat_map}
use Rattle.std.specs.declared.cmp.Ordering.{Ordering}
use Rattle.std.specs.Ordering.{nat_cmp, ordering_then}
use Rattle.cell_num.specs.declared.finger.Row.{Row}
use Rattle.cell_num.specs.declared.finger.Row.TheVariants.{P, N}
use Rattle.cell_num.specs.declared.net.NetNo.{NetNo}
use Rattle.cell_num.specs.Fingers.{sum_below}
use Rattle.cell_num.specs.declared.finger.Finger.{Finger}
use Rattle.row_model.specs.declared.column.Placed.{Placed}
use Rattle.row_trails.specs.Counts.{halved}
use Rattle.row_trails.specs.Trails.{size, toggle}
use Rattle.row_state.specs.declared.kind.Kind.{Kind}
use Rattle.row_state.specs.declared.kind.Kinds.{Kinds}
use Rattle.row_state.specs.declared.state.State.{State}
use Rattle.row_state.specs.declared.step.Side.{Side}
use Rattle.row_state.specs.declared.step.Step.{Step}
use Rattle.row_state.specs.Start.{counts_of}
use Rattle.row_state.specs.Trails.{end_of}

-- the finger as a kind of its own
abbrev pub single : Finger → Kind
single f = record { gate = f.gate; lo = f.lo; hi = f.hi; width = f.width; count = 1 }

abbrev pub kind_cmp : Kind → Kind → Ordering
kind_cmp a b = ordering_then (nat_cmp a.gate.0 b.gate.0)
    (ordering_then (nat_cmp a.lo.0 b.lo.0)
    (ordering_then (nat_cmp a.hi.0 b.hi.0) (ordering_then (nat_cmp a.width b.width) (nat_cmp a.count b.count))))

abbrev pub is_same_kind : Kind → Kind → Bool
is_same_kind a b = (a.gate.0 == b.gate.0) && (a.lo.0 == b.lo.0) && (a.hi.0 == b.hi.0) && (a.width == b.width)

abbrev pub with_one_more : Kind → Kind
with_one_more k = record { gate = k.gate; lo = k.lo; hi = k.hi; width = k.width; count = k.count + 1 }

-- neighbours of one kind counted together
abbrev pub merged : Kind → List Kind → List Kind
merged k [] = k ∷ []
merged k (x ∷ xs) = if is_same_kind k x then merged (with_one_more k) xs else k ∷ merged x xs

abbrev pub merged_all : List Kind → List Kind
merged_all [] = []
merged_all (k ∷ ks) = merged k ks

-- exactly one finger is of the kind
abbrev pub IsSingle : Kind → Type 0
IsSingle k = k.count ≡ 1

-- how many fingers of the kind are left, where the gate is its gate
abbrev pub left_of_kind : ℕ → Kind × ℕ → ℕ
left_of_kind gate pair = cond (pair.0.gate.0 == gate) pair.1 0

abbrev pub gate_left : List Kind → List ℕ → ℕ → ℕ
gate_left kinds left gate = sum_by (left_of_kind gate) (zip kinds left)

-- so many fingers of the kind add an odd number to the net's degree
abbrev pub adds_odd : ℕ → Kind × ℕ → Bool
adds_odd u pair = ((pair.1 % 2) == 1) && (cond (u == pair.0.lo.0) (not (u == pair.0.hi.0)) (u == pair.0.hi.0))

abbrev pub is_odd_net : List Kind → List ℕ → ℕ → Bool
is_odd_net kinds left net = (count_by (adds_odd net) (zip kinds left) % 2) == 1

-- the same with the net of an open end taken out, or put in
abbrev pub is_odd_behind : Option NetNo → List Kind → List ℕ → ℕ → Bool
is_odd_behind None kinds left net = is_odd_net kinds left net
is_odd_behind (Some v) kinds left net = toggle v.0 (is_odd_net kinds left) net

-- so many are left of each kind, at most as many as there are
abbrev pub counts_fit : List Kind → List ℕ → Bool
counts_fit kinds left = (length left == length kinds)
    && list_all (λ (pair : Kind × ℕ). leb pair.1 pair.0.count) (zip kinds left)

abbrev pub end_fits : Option NetNo → ℕ → Bool
end_fits None nets = true
end_fits (Some v) nets = ltb v.0 nets

-- the lists of f 0, .. , f (n - 1), one behind the other
abbrev pub joined_below : {X : Type 0} → (ℕ → List X) → ℕ → List X
joined_below f zero = []
joined_below f (suc n) = joined_below f n ++ f n

abbrev pub side_of : ℕ → Bool → Side
side_of kind flipped = record { kind = kind; flipped = flipped }

-- the orientations of a kind with its two ends
abbrev pub turns_of : ℕ → Kind → List Side
turns_of i kind = if kind.lo.0 == kind.hi.0 then side_of i false ∷ [] else side_of i false ∷ side_of i true ∷ []

-- those in which it may stand, where so many fingers of it are left
abbrev pub turns_left : ℕ → Kind → ℕ → List Side
turns_left i kind count = if ltb 0 count then turns_of i kind else []

-- where it has the gate and a finger left
abbrev pub sides_of : ℕ → ℕ → Option Kind → Option ℕ → List Side
sides_of gate i (Some kind) (Some count) = if (kind.gate.0 == gate) && ltb 0 count then turns_of i kind else []
sides_of gate i _ _ = []

abbrev pub sides_on : List Kind → List ℕ → ℕ → List Side
sides_on kinds left gate = joined_below (λ i. sides_of gate i (slice_get kinds i) (slice_get left i)) (length kinds)

abbrev pub step_of : Option Side → Option Side → Step
step_of p n = record { p = p; n = n }

abbrev pub with_each : Option Side → List Side → List Step
with_each p ns = map (λ n. step_of p (Some n)) ns

abbrev pub with_side : List Side → Bool → Side → List Step
with_side ns half p = with_each (Some p) ns ++ (if half then step_of (Some p) None ∷ [] else [])

abbrev pub columns_from : List Side → List Side → Bool → Bool → List Step
columns_from ps ns p_more n_more = flat_map (with_side ns p_more) ps ++ (if n_more then with_each None ns else [])

-- the next columns on one gate
abbrev pub columns_on : Kinds → State → ℕ → List Step
columns_on k s gate = columns_from (sides_on k.p s.p_left gate) (sides_on k.n s.n_left gate)
    (ltb (gate_left k.n s.n_left gate) (gate_left k.p s.p_left gate))
    (ltb (gate_left k.p s.p_left gate) (gate_left k.n s.n_left gate))

abbrev pub next_columns : Kinds → State → List Step
next_columns k s = joined_below (columns_on k s) k.nets

-- the lower gate of two kinds
abbrev pub lower_gate : Option Kind → Option Kind → Option ℕ
lower_gate (Some a) (Some b) = Some (min a.gate.0 b.gate.0)
lower_gate (Some a) None = Some a.gate.0
lower_gate None (Some b) = Some b.gate.0
lower_gate None None = None

-- the larger number of fingers that a row has on the gate
abbrev pub columns_test : Kinds → ℕ → ℕ
columns_test k gate = max (gate_left k.p (counts_of k.p) gate) (gate_left k.n (counts_of k.n) gate)

-- the row that began with no more fingers on the gate has no more left
abbrev pub keeps_lead : Kinds → State → ℕ → Bool
keeps_lead k s gate =
    (ltb (gate_left k.p (counts_of k.p) gate) (gate_left k.n (counts_of k.n) gate)
    || leb (gate_left k.n s.n_left gate) (gate_left k.p s.p_left gate))
    && (ltb (gate_left k.n (counts_of k.n) gate) (gate_left k.p (counts_of k.p) gate)
    || leb (gate_left k.p s.p_left gate) (gate_left k.n s.n_left gate))

abbrev pub leads_below : Kinds → State → ℕ → Bool
leads_below k s zero = true
leads_below k s (suc n) = keeps_lead k s n && leads_below k s n

abbrev pub state_test : Kinds → State → Bool
state_test k s = counts_fit k.p s.p_left && counts_fit k.n s.n_left && leads_below k s k.nets && end_fits s.p_end k.nets
    && end_fits s.n_end k.nets

abbrev pub kinds_in : Row → Kinds → List Kind
kinds_in P k = k.p
kinds_in N k = k.n

abbrev pub left_of : Row → State → List ℕ
left_of P s = s.p_left
left_of N s = s.n_left

-- the places of the gate that stay empty in the row
abbrev pub empty_test : Row → State → Kinds → ℕ → ℕ
empty_test P s k gate = gate_left k.n s.n_left gate - gate_left k.p s.p_left gate
empty_test N s k gate = gate_left k.p s.p_left gate - gate_left k.n s.n_left gate

-- so many in all
abbrev pub empty_in : Row → State → Kinds → ℕ
empty_in row s k = sum_below (empty_test row s k) k.nets

-- half of the odd nets of a row, by the counts that it has left
abbrev pub parity_trails : Row → Option NetNo → List ℕ → Kinds → ℕ
parity_trails row end left k = halved end (size k.nets (is_odd_behind end (kinds_in row k) left))

abbrev pub parity_test : Row → State → Kinds → ℕ
parity_test row s k = parity_trails row (end_of row s) (left_of row s) k - empty_in row s k

-- a finger of the side's kind is left
abbrev pub side_left : List ℕ → Option Side → Bool
side_left left None = true
side_left left (Some side) = ltb 0 (slice_index left side.kind)

-- a half column's row has more fingers left on its gate than the other
abbrev pub half_test : Option Placed → Option Placed → ℕ → ℕ → Bool
half_test (Some x) None p n = ltb n p
half_test None (Some y) p n = ltb p n
half_test _ _ p n = true
