-- All nets with a place before a state or on the way to a next column are numbered below the kinds' nets.
use Rattle.std.proofs.Common.{ℕ, ◌≡◌, ◌+◌, ◌<◌, ◌≤◌, ◌⊎◌, ◌||◌, ◌==◌, Bool, true, false, cond, List, [], ◌∷◌, Option, Some, None, IfSome, option_map, inl, inr, refl, sym, subst, arith, All, Contains, slice_get}
use Rattle.std.proofs.lemmas.Bool.{cases_lt, eqb-true, ltb-true}
use Rattle.std.proofs.lemmas.List.Elements.{All-append, All-cons, All-head, All-nil, All-tail}
use Rattle.std.proofs.lemmas.List.Sums.{sum_by-cons}
use Rattle.std.specs.List.{range_with_len}
use Rattle.cell_num.specs.declared.net.NetNo.{NetNo}
use Rattle.cell_num.specs.declared.finger.Row.{Row}
use Rattle.cell_num.specs.declared.finger.Row.TheVariants.{P, N}
use Rattle.cell_num.specs.declared.finger.Finger.{Finger}
use Rattle.cell_num.proofs.In.{contains_map}
use Rattle.row_model.specs.declared.column.Placed.{Placed}
use Rattle.row_model.specs.declared.column.Column.{Column}
use Rattle.row_model.specs.Arrangement.{gate_in}
use Rattle.row_place.specs.Steps.{or_else}
use Rattle.row_state.specs.declared.kind.Kind.{Kind}
use Rattle.row_state.specs.declared.kind.Kinds.{Kinds}
use Rattle.row_state.specs.declared.state.State.{State}
use Rattle.row_state.specs.declared.step.Side.{Side}
use Rattle.row_state.specs.declared.step.Step.{Step}
use Rattle.row_state.specs.Completion.{fingers_left}
use Rattle.row_state.specs.ClassWalks.{EndsBelow}
use Rattle.row_state.specs.ComponentLaw.{ends_left}
use Rattle.row_state.specs.Law.{gates_left}
use Rattle.row_state.specs.Start.{AreSomeKinds, EndsAreNets, GatesAreNets, IsState, counts_of, start_of}
use Rattle.row_state.specs.Steps.{column_of, oriented_of, placed_of}
use Rattle.row_state.proofs.Valid.{ends_are_nets, gates_are_nets}
use Rattle.track_ways.specs.declared.line.Line.{Line}
use Rattle.track_ways.specs.Lines.{has_place, is_ahead, is_net}
use Rattle.track_ways.specs.Rows.{gate_line, is_gap_behind, left_end, lines_between, node_line}
use Rattle.track_ways.specs.States.{is_behind, touched, touched_here, touched_left, touches}
use Rattle.track_ways.specs.Paths.{lines_to}
use Rattle.cell_num.proofs.Lists.{all_imply}
use Rattle.track_ways.specs.Tables.{HasEntries, HasEntry}
use Rattle.track_ways.specs.Ways.{net_of, nets_below}
use Rattle.track_ways.specs.Rules.{Among}
use Rattle.track_ways.specs.Fillings.{eqb_false, in_range, net_same}

below_there : (n : ℕ) (net : NetNo) → net.0 < n → Contains (nets_below n) net
below_there n net low = subst (λ z. Contains (nets_below n) z) (net_same (net_of net.0) net refl) (contains_map net_of (range_with_len 0 n) net.0 (in_range n net.0 low))

-- a net that no finger has
untouched : (n : ℕ) (net : NetNo) (fs : List Finger) → n ≤ net.0 → All (EndsBelow n) fs → All (λ (f : Finger). f.gate.0 < n) fs → touched net fs ≡ 0
untouched n net [] high ends gates = refl
untouched n net (f ∷ fs) high ends gates =
    let e : EndsBelow n f = All-head (EndsBelow n) f fs ends in
    let g : f.gate.0 < n = All-head (λ (f : Finger). f.gate.0 < n) f fs gates in
    let lo : (f.lo.0 == net.0) ≡ false = eqb_false f.lo.0 net.0 (λ same. omega (arith, same, high, e.0)) in
    let hi : (f.hi.0 == net.0) ≡ false = eqb_false f.hi.0 net.0 (λ same. omega (arith, same, high, e.1)) in
    let gate : (f.gate.0 == net.0) ≡ false = eqb_false f.gate.0 net.0 (λ same. omega (arith, same, high, g)) in
    let none : ◌≡◌ {A = ℕ} (touches net f) 0 = rw (lo, hi, gate) refl in
    omega (arith, none, sum_by-cons (touches net) f fs, untouched n net fs high (All-tail (EndsBelow n) f fs ends) (All-tail (λ (f : Finger). f.gate.0 < n) f fs gates))

pub behind_among : (k : Kinds) (s : State) → AreSomeKinds k → Among (nets_below k.nets) (is_behind k s)
behind_among k s some net e = go (cases_lt net.0 k.nets)
  where
    less : touched_left k s net + touched_here s net < touched_left k (start_of k) net
    less = ltb-true (touched_left k s net + touched_here s net) (touched_left k (start_of k) net) e

    go : (net.0 < k.nets) ⊎ (k.nets ≤ net.0) → Contains (nets_below k.nets) net
    go (inl low) = below_there k.nets net low
    go (inr high) =
        let p : touched net (fingers_left P k.p (counts_of k.p)) ≡ 0 = untouched k.nets net (fingers_left P k.p (counts_of k.p)) high (ends_left P k.p (counts_of k.p) k.nets some.p) (gates_left P k.p (counts_of k.p) k.nets some.p) in
        let n : touched net (fingers_left N k.n (counts_of k.n)) ≡ 0 = untouched k.nets net (fingers_left N k.n (counts_of k.n)) high (ends_left N k.n (counts_of k.n) k.nets some.n) (gates_left N k.n (counts_of k.n) k.nets some.n) in
        absurd (omega (arith, less, p, n))

abbrev IsLow : ℕ → Option NetNo → Type 0
IsLow n o = IfSome o (λ v. v.0 < n)

abbrev LineLow : ℕ → Line → Type 0
LineLow n line = IsLow n line.p × IsLow n line.n × IsLow n line.gate

net_low : (n : ℕ) (o : Option NetNo) (net : NetNo) → IsLow n o → is_net o net ≡ true → net.0 < n
net_low n None net low e = absurd cc
net_low n (Some x) net low e = subst (λ m. m < n) (eqb-true x.0 net.0 e) low

or_case : (a b : Bool) → (a || b) ≡ true → (a ≡ true) ⊎ (b ≡ true)
or_case true b e = inl refl
or_case false b e = inr e

place_low : (n : ℕ) (line : Line) (net : NetNo) → LineLow n line → has_place line net ≡ true → net.0 < n
place_low n line net low e = elim (or_case (is_net line.p net) (is_net line.n net || is_net line.gate net) e) [
  | inl p ↦ net_low n line.p net low.0 p
  | inr more ↦ elim (or_case (is_net line.n net) (is_net line.gate net) more) [
    | inl q ↦ net_low n line.n net low.1 q
    | inr g ↦ net_low n line.gate net low.2 g
  ]
]

ahead_low : (n : ℕ) (xs : List Line) (net : NetNo) → All (LineLow n) xs → is_ahead xs net ≡ true → net.0 < n
ahead_low n [] net low e = absurd cc
ahead_low n (x ∷ xs) net low e = elim (or_case (has_place x net) (is_ahead xs net) e) [
  | inl here ↦ place_low n x net (All-head (LineLow n) x xs low) here
  | inr more ↦ ahead_low n xs net (All-tail (LineLow n) x xs low) more
]

-- the ends and the gate of a place
record PlaceLow (n : ℕ) (o : Option Placed) : Type 0 where
  pub end : IsLow n (left_end o)
  pub gate : IfSome o (λ x. x.finger.gate.0 < n)

placed_low : (row : Row) (kinds : List Kind) (side : Option Side) (n : ℕ) → ((i : ℕ) (kind : Kind) → slice_get kinds i ≡ Some kind → (kind.lo.0 < n) × (kind.hi.0 < n)) → ((i : ℕ) (kind : Kind) → slice_get kinds i ≡ Some kind → kind.gate.0 < n) → PlaceLow n (placed_of row kinds side)
placed_low row kinds None n ends gates = record { end = tt; gate = tt }
placed_low row kinds (Some side) n ends gates = go (slice_get kinds side.kind) refl
  where
    go : (o : Option Kind) → slice_get kinds side.kind ≡ o → PlaceLow n (option_map (λ (kind : Kind). oriented_of row kind side.flipped) o)
    go None e = record { end = tt; gate = tt }
    go (Some kind) e = record { end = turned side.flipped (ends side.kind kind e).0 (ends side.kind kind e).1; gate = gates side.kind kind e }
      where
        turned : (b : Bool) → kind.lo.0 < n → kind.hi.0 < n → (cond b kind.hi kind.lo).0 < n
        turned true lo hi = hi
        turned false lo hi = lo

gate_low : (n : ℕ) (x y : Option Placed) → PlaceLow n x → PlaceLow n y → IsLow n (gate_in x y)
gate_low n (Some x) y a b = a.gate
gate_low n None (Some y) a b = b.gate
gate_low n None None a b = tt

else_low : (n : ℕ) (a b : Option NetNo) → IsLow n a → IsLow n b → IsLow n (or_else a b)
else_low n None b la lb = lb
else_low n (Some a) b la lb = la

lines_low : (n : ℕ) (s : State) (c : Column) → IsLow n s.p_end → IsLow n s.n_end → PlaceLow n c.p → PlaceLow n c.n → All (LineLow n) (lines_to s c)
lines_low n s c p_end n_end p q = All-append (LineLow n) (lines_between s.p_end s.n_end c) (gate_line c ∷ []) (go (is_gap_behind s.p_end s.n_end c)) (All-cons (LineLow n) (gate_line c) [] (tt, tt, gate_low n c.p c.n p q) (All-nil (LineLow n)))
  where
    go : (b : Bool) → All (LineLow n) (cond b (node_line s.p_end s.n_end ∷ node_line None None ∷ node_line (left_end c.p) (left_end c.n) ∷ []) (node_line (or_else s.p_end (left_end c.p)) (or_else s.n_end (left_end c.n)) ∷ []))
    go true = All-cons (LineLow n) (node_line s.p_end s.n_end) (node_line None None ∷ node_line (left_end c.p) (left_end c.n) ∷ []) (p_end, n_end, tt) (All-cons (LineLow n) (node_line None None) (node_line (left_end c.p) (left_end c.n) ∷ []) (tt, tt, tt) (All-cons (LineLow n) (node_line (left_end c.p) (left_end c.n)) [] (p.end, q.end, tt) (All-nil (LineLow n))))
    go false = All-cons (LineLow n) (node_line (or_else s.p_end (left_end c.p)) (or_else s.n_end (left_end c.n))) [] (else_low n s.p_end (left_end c.p) p_end p.end, else_low n s.n_end (left_end c.n) n_end q.end, tt) (All-nil (LineLow n))

pub lines_among : (k : Kinds) (s : State) (step : Step) → AreSomeKinds k → IsState k s → Among (nets_below k.nets) (is_ahead (lines_to s (column_of k step)))
lines_among k s step some state net e =
    let ends : EndsAreNets k = ends_are_nets k some in
    let gates : GatesAreNets k = gates_are_nets k some in
    below_there k.nets net (ahead_low k.nets (lines_to s (column_of k step)) net (lines_low k.nets s (column_of k step) state.p_end state.n_end (placed_low P k.p step.p k.nets ends.p gates.p) (placed_low N k.n step.n k.nets ends.n gates.n)) e)

pub end_among : (k : Kinds) (s : State) → IsState k s → Among (nets_below k.nets) (is_ahead (node_line s.p_end s.n_end ∷ []))
end_among k s state net e = below_there k.nets net (ahead_low k.nets (node_line s.p_end s.n_end ∷ []) net (All-cons (LineLow k.nets) (node_line s.p_end s.n_end) [] (state.p_end, state.n_end, tt) (All-nil (LineLow k.nets))) e)

wider : (n : ℕ) (o : Option NetNo) → n ≤ 256 → IsLow n o → HasEntry 256 o
wider n None few low = tt
wider n (Some x) few low = omega (arith, few, low)

has_entries : (n : ℕ) → n ≤ 256 → (line : Line) → LineLow n line → HasEntries 256 line
has_entries n few line low = record { p = wider n line.p few low.0; n = wider n line.n few low.1; gate = wider n line.gate few low.2 }

-- all nets on the way to a next column have entries in a table of 256
pub entries : (k : Kinds) (s : State) (step : Step) (lines : List Line) → AreSomeKinds k → IsState k s → lines ≡ lines_to s (column_of k step) → All (HasEntries 256) lines
entries k s step lines some state is =
    let ends : EndsAreNets k = ends_are_nets k some in
    let gates : GatesAreNets k = gates_are_nets k some in
    subst (All (HasEntries 256)) (sym is) (all_imply (LineLow k.nets) (HasEntries 256) (lines_to s (column_of k step)) (has_entries k.nets some.few_nets) (lines_low k.nets s (column_of k step) state.p_end state.n_end (placed_low P k.p step.p k.nets ends.p gates.p) (placed_low N k.n step.n k.nets ends.n gates.n)))

-- and so have those of the last line
pub end_entries : (k : Kinds) (s : State) (lines : List Line) → AreSomeKinds k → IsState k s → lines ≡ node_line s.p_end s.n_end ∷ [] → All (HasEntries 256) lines
end_entries k s lines some state is = subst (All (HasEntries 256)) (sym is) (All-cons (HasEntries 256) (node_line s.p_end s.n_end) [] (has_entries k.nets some.few_nets (node_line s.p_end s.n_end) (state.p_end, state.n_end, tt)) (All-nil (HasEntries 256)))
