-- Each state has a completion.
use Rattle.std.proofs.Common.{ℕ, zero, suc, ◌≡◌, ◌+◌, ◌<◌, ◌≤◌, cond, false, ◌==◌, List, [], ◌∷◌, length, Option, Some, None, replicate, inl, inr, refl, sym, subst, arith, IsPermutation, ◌∙◌, slice_get, slice_index}
use Rattle.std.proofs.lemmas.Bool.{cases_Bool, cases_lt, eqb-true, eq-eqb}
use Rattle.std.proofs.lemmas.Option.{slice_get_within}
use Rattle.std.proofs.lemmas.List.Elements.{All-nil}
use Rattle.std.proofs.lemmas.List.Sums.{sum_by-append}
use Rattle.std.proofs.lemmas.List.Sorted.{IsPermutation-refl}
use Rattle.cell_num.specs.declared.finger.Row.{Row}
use Rattle.cell_num.specs.declared.finger.Row.TheVariants.{P, N}
use Rattle.cell_num.specs.declared.finger.Finger.{Finger}
use Rattle.row_model.specs.declared.column.Placed.{Placed}
use Rattle.row_model.specs.declared.column.Column.{Column}
use Rattle.cell_num.specs.Fingers.{on_gate}
use Rattle.row_model.specs.Arrangement.{IsColumn, AreOneColumn}
use Rattle.cell_num.proofs.Permutations.{count_cons}
use Rattle.row_model.proofs.Decide.{net_decides}
use Rattle.row_state.specs.declared.kind.Kind.{Kind}
use Rattle.row_state.specs.declared.kind.Kinds.{Kinds}
use Rattle.row_state.specs.declared.state.State.{State}
use Rattle.row_state.specs.declared.step.Step.{Step}
use Rattle.row_state.specs.Completion.{finger_of, fingers_left, left_in, Completes}
use Rattle.row_state.specs.Start.{GatesAreNets, HasFingers, columns_left}
use Rattle.row_state.specs.Steps.{placed_of, column_of, IsLeft, IsPossible, HalfMayStand, state_after}
use Rattle.row_state.specs.Gates.{most}
use Rattle.row_state.proofs.Fewest.{most_same, most_none}
use Rattle.row_state.proofs.Unfold.{unfold_from, half_at, placed_kind}
use Rattle.row_state.proofs.StateAfter.{columns_after}

-- a kind on the gate of which a finger is left
pub record OnGate (kinds : List Kind) (left : List ℕ) (gate : ℕ) : Type 0 where
  pub at : ℕ
  pub kind : Kind
  pub is : slice_get kinds at ≡ Some kind
  pub some : 0 < slice_index left at
  pub gate_is : kind.gate.0 ≡ gate

later : (k : Kind) (ks : List Kind) (c : ℕ) (cs : List ℕ) (gate : ℕ) → OnGate ks cs gate → OnGate (k ∷ ks) (c ∷ cs) gate
later k ks c cs gate r = record { at = suc r.at; kind = r.kind; is = r.is; some = r.some; gate_is = r.gate_is }

none_on : (gate : ℕ) (f : Finger) (c : ℕ) → (f.gate.0 == gate) ≡ false → on_gate gate (replicate c f) ≡ 0
none_on gate f zero h = refl
none_on gate f (suc c) h =
    let none : ◌≡◌ {A = ℕ} (cond (f.gate.0 == gate) 1 0) 0 = rw h refl in
    omega (arith, count_cons (λ (x : Finger). x.gate.0 == gate) f (replicate c f), none, none_on gate f c h)

pub on_gate_found : (row : Row) (kinds : List Kind) (left : List ℕ) (gate : ℕ) → 0 < on_gate gate (fingers_left row kinds left) → OnGate kinds left gate
on_gate_found row [] left gate h = absurd (omega (arith, h))
on_gate_found row (k ∷ ks) [] gate h = absurd (omega (arith, h))
on_gate_found row (k ∷ ks) (zero ∷ cs) gate h = later k ks zero cs gate (on_gate_found row ks cs gate h)
on_gate_found row (k ∷ ks) (suc c ∷ cs) gate h =
    elim (cases_Bool (k.gate.0 == gate)) [
      | inl same ↦ record { at = zero; kind = k; is = refl; some = omega arith; gate_is = eqb-true _ _ same }
      | inr other ↦
          let parts : on_gate gate (fingers_left row (k ∷ ks) (suc c ∷ cs)) ≡ on_gate gate (replicate (suc c) (finger_of row k)) + on_gate gate (fingers_left row ks cs) = sum_by-append (λ (x : Finger). cond (x.gate.0 == gate) 1 0) (replicate (suc c) (finger_of row k)) (fingers_left row ks cs) in
          later k ks (suc c) cs gate (on_gate_found row ks cs gate (omega (arith, h, parts, none_on gate (finger_of row k) (suc c) other)))
    ]

-- a gate of a finger
pub gate_of : (fs : List Finger) → 0 < length fs → (gate : ℕ) × (0 < on_gate gate fs)
gate_of [] h = absurd (omega arith)
gate_of (f ∷ fs) h =
    let one : ◌≡◌ {A = ℕ} (cond (f.gate.0 == f.gate.0) 1 0) 1 = rw (eq-eqb f.gate.0 f.gate.0 refl) refl in
    (f.gate.0, omega (arith, count_cons (λ (x : Finger). x.gate.0 == f.gate.0) f fs, one))

pub one_column : (x x' y y' : Option Placed) → x ≡ x' → y ≡ y' → AreOneColumn x' y' → AreOneColumn x y
one_column x x' y y' ex ey h = subst (λ z. AreOneColumn z y) (sym ex) (subst (λ z. AreOneColumn x' z) (sym ey) h)

placed_is : (row : Row) (kinds : List Kind) (i : ℕ) (kind : Kind) → slice_get kinds i ≡ Some kind → placed_of row kinds (Some (record { kind = i; flipped = false })) ≡ Some (placed_kind row kind false)
placed_is row kinds i kind is = rw is refl

pub possible_by : (k : Kinds) (s : State) (step : Step) (x y : Option Placed) → placed_of P k.p step.p ≡ x → placed_of N k.n step.n ≡ y → IsLeft k.p s.p_left step.p → IsLeft k.n s.n_left step.n → AreOneColumn x y → HalfMayStand x y (λ g. on_gate g (fingers_left P k.p s.p_left)) (λ g. on_gate g (fingers_left N k.n s.n_left)) → IsPossible k s step
possible_by k s step x y ex ey p n column half =
    record {
      p = p;
      n = n;
      column = one_column (placed_of P k.p step.p) x (placed_of N k.n step.n) y ex ey column;
      half = half_at (placed_of P k.p step.p) x (placed_of N k.n step.n) y _ _ _ _ ex ey (λ g. refl) (λ g. refl) half;
    }

half_p : (k : Kinds) (s : State) (gate : ℕ) → OnGate k.p s.p_left gate → 0 < on_gate gate (fingers_left P k.p s.p_left) → on_gate gate (fingers_left N k.n s.n_left) ≡ 0 → (step : Step) × IsPossible k s step
half_p k s gate r some none =
    let step : Step = record { p = Some (record { kind = r.at; flipped = false }); n = None } in (
      step,
      possible_by k s step (Some (placed_kind P r.kind false)) None (placed_is P k.p r.at r.kind r.is) refl (slice_get_within k.p r.at r.kind r.is, r.some) tt (λ e. refl)
          (subst (λ g. on_gate g (fingers_left N k.n s.n_left) < on_gate g (fingers_left P k.p s.p_left)) (sym r.gate_is) (omega (arith, some, none))),
    )

half_n : (k : Kinds) (s : State) (gate : ℕ) → OnGate k.n s.n_left gate → 0 < on_gate gate (fingers_left N k.n s.n_left) → on_gate gate (fingers_left P k.p s.p_left) ≡ 0 → (step : Step) × IsPossible k s step
half_n k s gate r some none =
    let step : Step = record { p = None; n = Some (record { kind = r.at; flipped = false }) } in (
      step,
      possible_by k s step None (Some (placed_kind N r.kind false)) refl (placed_is N k.n r.at r.kind r.is) tt (slice_get_within k.n r.at r.kind r.is, r.some) (λ e. refl)
          (subst (λ g. on_gate g (fingers_left P k.p s.p_left) < on_gate g (fingers_left N k.n s.n_left)) (sym r.gate_is) (omega (arith, some, none))),
    )

pair : (k : Kinds) (s : State) (gate : ℕ) → OnGate k.p s.p_left gate → OnGate k.n s.n_left gate → (step : Step) × IsPossible k s step
pair k s gate r q =
    let step : Step = record { p = Some (record { kind = r.at; flipped = false }); n = Some (record { kind = q.at; flipped = false }) } in
    let same : r.kind.gate ≡ q.kind.gate = (net_decides r.kind.gate q.kind.gate).0 (eq-eqb r.kind.gate.0 q.kind.gate.0 (r.gate_is ∙ sym q.gate_is)) in
    (step, possible_by k s step (Some (placed_kind P r.kind false)) (Some (placed_kind N q.kind false)) (placed_is P k.p r.at r.kind r.is) (placed_is N k.n q.at q.kind q.is) (slice_get_within k.p r.at r.kind r.is, r.some) (slice_get_within k.n q.at q.kind q.is, q.some) (same, (λ e. refl), (λ e. refl)) tt)

-- where a finger is left a next column is possible
pub some_step : (k : Kinds) (s : State) → HasFingers k s → (step : Step) × IsPossible k s step
some_step k s some =
    elim (cases_lt 0 (length (left_in k s).p)) [
      | inl there ↦
          let g : (gate : ℕ) × (0 < on_gate gate (fingers_left P k.p s.p_left)) = gate_of (fingers_left P k.p s.p_left) there in
          elim (cases_lt 0 (on_gate g.0 (fingers_left N k.n s.n_left))) [
            | inl both ↦ pair k s g.0 (on_gate_found P k.p s.p_left g.0 g.1) (on_gate_found N k.n s.n_left g.0 both)
            | inr none ↦ half_p k s g.0 (on_gate_found P k.p s.p_left g.0 g.1) g.1 (omega arith)
          ]
      | inr none_p ↦
          let g : (gate : ℕ) × (0 < on_gate gate (fingers_left N k.n s.n_left)) = gate_of (fingers_left N k.n s.n_left) (omega (arith, some)) in
          elim (cases_lt 0 (on_gate g.0 (fingers_left P k.p s.p_left))) [
            | inl both ↦ pair k s g.0 (on_gate_found P k.p s.p_left g.0 both) (on_gate_found N k.n s.n_left g.0 g.1)
            | inr none ↦ half_n k s g.0 (on_gate_found N k.n s.n_left g.0 g.1) g.1 (omega arith)
          ]
    ]

nil_of : {X : Type 0} (xs : List X) → length xs ≡ 0 → xs ≡ []
nil_of [] e = refl
nil_of (x ∷ xs) e = absurd (omega (arith, e))

nil_perm : (xs : List Finger) → length xs ≡ 0 → IsPermutation xs []
nil_perm xs e = subst (λ ys. IsPermutation xs ys) (nil_of xs e) (IsPermutation-refl xs)

-- with no finger left the empty list is a completion
pub nothing_left : (k : Kinds) (s : State) → length (left_in k s).p + length (left_in k s).n ≤ 0 → Completes k s []
nothing_left k s none =
    let no_p : length (left_in k s).p ≡ 0 = omega arith in
    let no_n : length (left_in k s).n ≡ 0 = omega arith in
    let no_columns : most (left_in k s).p (left_in k s).n k.nets ≡ 0 = most_same _ _ _ _ k.nets (nil_perm (left_in k s).p no_p) (nil_perm (left_in k s).n no_n) ∙ most_none k.nets in
    record { columns = All-nil IsColumn; p = nil_perm (left_in k s).p no_p; n = nil_perm (left_in k s).n no_n; fewest = sym no_columns }

completion_within : (n : ℕ) (k : Kinds) (s : State) → GatesAreNets k → columns_left k s < n → (row : List Column) × Completes k s row
completion_within zero k s nets below = absurd (omega arith)
completion_within (suc n) k s nets below =
    elim (cases_lt 0 (length (left_in k s).p + length (left_in k s).n)) [
      | inl some ↦
          let next : (step : Step) × IsPossible k s step = some_step k s some in
          let rest : (row : List Column) × Completes k (state_after k s next.0) row = completion_within n k (state_after k s next.0) nets (omega (arith, below, columns_after k s next.0 nets next.1)) in
          (column_of k next.0 ∷ rest.0, unfold_from k s next.0 rest.0 nets next.1 rest.1)
      | inr none ↦ ([], nothing_left k s none)
    ]

pub completion_exists : (k : Kinds) (s : State) → GatesAreNets k → (row : List Column) × Completes k s row
completion_exists k s nets = completion_within (suc (columns_left k s)) k s nets (omega arith)
