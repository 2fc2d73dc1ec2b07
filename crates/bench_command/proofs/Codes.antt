-- A number for each lemma of a search of paired fingers: two lemmas of one number have one state and one bound.
use Rattle.std.specs.Prelude.{ℕ, ◌≡◌, ◌+◌, ◌-◌, ◌^◌, ◌<◌, ◌≤◌, ◌⊎◌, Bool, if◌then◌else◌, length, Some, Contains, slice_get, slice_index}
use Rattle.std.proofs.Common.{sym, ap, arith, ◌∙◌, inl, inr}
use Rattle.std.proofs.Math.Nat.{pow-le-pow_right}
use Rattle.std.proofs.lemmas.Option.{same_Some}
use Rattle.cell_num.specs.declared.finger.Finger.{Finger}
use Rattle.cell_num.specs.declared.finger.Row.TheVariants.{P, N}
use Rattle.cell_num.specs.declared.net.NetNo.{NetNo}
use Rattle.cell_num.specs.Fingers.{on_gate}
use Rattle.row_model.specs.declared.column.Placed.{Placed}
use Rattle.row_model.specs.Gaps.{right_net}
use Rattle.row_state.specs.declared.kind.Kind.{Kind}
use Rattle.row_state.specs.declared.kind.Kinds.{Kinds}
use Rattle.row_state.specs.Decoded.{same_fields}
use Rattle.row_state.specs.Start.{IsState, counts_of, start_of}
use Rattle.row_state.proofs.Numbers.{gate_code}
use Rattle.bound_log.specs.declared.log.Lemma.{Lemma}
use Rattle.bench_command.proofs.Bits.{AreSame, bits, bits_below, bits_same, flip, flip_le, flip_same, number, number_below, number_same, without, without_bits, without_length, without_same}
use Rattle.bench_command.proofs.Counts.{counts_bits, get_below}
use Rattle.bench_command.proofs.Gates.{one_on}
use Rattle.bench_command.proofs.FewKinds.{HasPairs, all_n, all_p, same_n_left}

-- the lemma is on the state before the first column
pub record AtStart (k : Kinds) (lemma : Lemma) (code : ℕ) : Type 0 where
  pub state : lemma.state ≡ start_of k
  pub some : 1 ≤ lemma.bound
  pub few : lemma.bound ≤ 10
  pub is : code ≡ 184320 + (lemma.bound - 1)

-- the lemma is on a state behind a column of the two fingers of a gate, as they stand
pub record Behind (k : Kinds) (lemma : Lemma) (code : ℕ) : Type 0 where
  pub at : ℕ
  pub kind : Kind
  pub x : Placed
  pub y : Placed
  pub kind_is : slice_get k.p at ≡ Some kind
  pub x_listed : Contains (all_p k) x.finger
  pub x_gate : x.finger.gate.0 ≡ kind.gate.0
  pub y_listed : Contains (all_n k) y.finger
  pub y_gate : y.finger.gate.0 ≡ kind.gate.0
  pub p_end : lemma.state.p_end ≡ Some (right_net x)
  pub n_end : lemma.state.n_end ≡ Some (right_net y)
  pub used : slice_index lemma.state.p_left at ≡ 0
  pub some : 1 ≤ lemma.bound
  pub few : lemma.bound ≤ 9
  pub is : code ≡ number at (bits (without at lemma.state.p_left)) (flip x.flipped) (flip y.flipped) (lemma.bound - 1)

abbrev pub IsCode : Kinds → Lemma → ℕ → Type 0
IsCode k lemma code = AtStart k lemma code ⊎ Behind k lemma code

-- ---- numbers are below a bound

pub record IsLow (k : Kinds) (lemma : Lemma) (at : ℕ) : Type 0 where
  pub place : at < 10
  pub others : bits (without at lemma.state.p_left) < 512

low : (k : Kinds) (lemma : Lemma) (at : ℕ) (kind : Kind) → HasPairs k → IsState k lemma.state → slice_get k.p at ≡ Some kind → IsLow k lemma at
low k lemma at kind pairs valid is =
    let left = lemma.state.p_left in
    let place : at < length k.p = get_below k.p at kind is in
    let shorter : length (without at left) + 1 ≡ length left = without_length at left (omega (arith, place, valid.p_kinds)) in
    let few : length (without at left) ≤ 9 = omega (arith, shorter, valid.p_kinds, pairs.p_kinds) in
    let power : 2 ^ length (without at left) ≤ 2 ^ 9 = pow-le-pow_right (omega arith) few in
    record {
      place = omega (arith, place, pairs.p_kinds);
      others = omega (arith, power, bits_below (without at left) (without_bits at left (counts_bits k.p left pairs.p_single valid.p_kinds valid.p_counts)));
    }

pub behind_below : (k : Kinds) (lemma : Lemma) (code : ℕ) → HasPairs k → IsState k lemma.state → Behind k lemma code → code < 184320
behind_below k lemma code pairs valid b =
    let l = low k lemma b.at b.kind pairs valid b.kind_is in
    let below = number_below b.at (bits (without b.at lemma.state.p_left)) (flip b.x.flipped) (flip b.y.flipped) (lemma.bound - 1) l.place l.others (flip_le b.x.flipped) (flip_le b.y.flipped) (omega (arith, b.few, b.some)) in
    omega (arith, below, b.is)

pub code_below : (k : Kinds) (lemma : Lemma) (code : ℕ) → HasPairs k → IsState k lemma.state → IsCode k lemma code → code < 184330
code_below k lemma code pairs valid (inl s) = omega (arith, s.is, s.few, s.some)
code_below k lemma code pairs valid (inr b) = omega (arith, behind_below k lemma code pairs valid b)

-- ---- one number, one state and one bound

abbrev right_of : Finger → Bool → NetNo
right_of f flipped = if flipped then f.lo else f.hi

same_right : (x y : Placed) → x.finger ≡ y.finger → x.flipped ≡ y.flipped → right_net x ≡ right_net y
same_right x y finger flipped = ap (λ (f : Finger). right_of f x.flipped) finger ∙ ap (right_of y.finger) flipped

same_behind : (k : Kinds) (a b : Lemma) (code : ℕ) → HasPairs k → IsState k a.state → IsState k b.state → Behind k a code → Behind k b code → (a.state ≡ b.state) × (a.bound ≡ b.bound)
same_behind k a b code pairs va vb h g =
    let la = low k a h.at h.kind pairs va h.kind_is in
    let lb = low k b g.at g.kind pairs vb g.kind_is in
    let left_a = without h.at a.state.p_left in
    let left_b = without g.at b.state.p_left in
    let e : AreSame h.at (bits left_a) (flip h.x.flipped) (flip h.y.flipped) (a.bound - 1) g.at (bits left_b) (flip g.x.flipped) (flip g.y.flipped) (b.bound - 1) =
    number_same h.at (bits left_a) (flip h.x.flipped) (flip h.y.flipped) (a.bound - 1) g.at (bits left_b) (flip g.x.flipped) (flip g.y.flipped) (b.bound - 1) la.others (flip_le h.x.flipped) (flip_le h.y.flipped) (omega (arith, h.few, h.some)) lb.others (flip_le g.x.flipped) (flip_le g.y.flipped) (omega (arith, g.few, g.some)) (sym h.is ∙ g.is) in
    let kind : h.kind ≡ g.kind = same_Some h.kind g.kind (sym h.kind_is ∙ (ap (slice_get k.p) e.place ∙ g.kind_is)) in
    let gate : h.kind.gate.0 ≡ g.kind.gate.0 = ap (λ (z : Kind). z.gate.0) kind in
    let x_gate : h.x.finger.gate.0 ≡ g.x.finger.gate.0 = h.x_gate ∙ (gate ∙ sym g.x_gate) in
    let y_gate : h.y.finger.gate.0 ≡ g.y.finger.gate.0 = h.y_gate ∙ (gate ∙ sym g.y_gate) in
    let x_single : on_gate g.x.finger.gate.0 (all_p k) ≤ 1 = omega (arith, gate_code P k.p (counts_of k.p) g.x.finger.gate.0, pairs.p_single g.x.finger.gate.0) in
    let y_single : on_gate g.y.finger.gate.0 (all_n k) ≤ 1 = omega (arith, gate_code N k.n (counts_of k.n) g.y.finger.gate.0, pairs.n_single g.y.finger.gate.0) in
    let x_same = same_right h.x g.x (one_on (all_p k) h.x.finger g.x.finger h.x_listed g.x_listed x_gate x_single) (flip_same h.x.flipped g.x.flipped e.first) in
    let y_same = same_right h.y g.y (one_on (all_n k) h.y.finger g.y.finger h.y_listed g.y_listed y_gate y_single) (flip_same h.y.flipped g.y.flipped e.second) in
    let bits_a = counts_bits k.p a.state.p_left pairs.p_single va.p_kinds va.p_counts in
    let bits_b = counts_bits k.p b.state.p_left pairs.p_single vb.p_kinds vb.p_counts in
    let place_a = get_below k.p h.at h.kind h.kind_is in
    let place_b = get_below k.p g.at g.kind g.kind_is in
    let lengths : length left_a ≡ length left_b = omega (arith, without_length h.at a.state.p_left (omega (arith, place_a, va.p_kinds)), without_length g.at b.state.p_left (omega (arith, place_b, vb.p_kinds)), va.p_kinds, vb.p_kinds) in
    let others : left_a ≡ left_b = bits_same left_a left_b (without_bits h.at a.state.p_left bits_a) (without_bits g.at b.state.p_left bits_b) lengths e.others in
    let moved : without h.at a.state.p_left ≡ without h.at b.state.p_left = others ∙ ap (λ (i : ℕ). without i b.state.p_left) (sym e.place) in
    let used : slice_index b.state.p_left h.at ≡ 0 = ap (slice_index b.state.p_left) e.place ∙ g.used in
    let p_left : a.state.p_left ≡ b.state.p_left = without_same h.at a.state.p_left b.state.p_left (omega (arith, va.p_kinds, vb.p_kinds)) moved (h.used ∙ sym used) in
    let n_left : a.state.n_left ≡ b.state.n_left = same_n_left k a.state b.state pairs va vb p_left in
    let p_end : a.state.p_end ≡ b.state.p_end = h.p_end ∙ (ap (λ (net : NetNo). Some net) x_same ∙ sym g.p_end) in
    let n_end : a.state.n_end ≡ b.state.n_end = h.n_end ∙ (ap (λ (net : NetNo). Some net) y_same ∙ sym g.n_end) in
    (same_fields a.state b.state p_left n_left p_end n_end, omega (arith, e.bounds, h.some, g.some))

pub same_code : (k : Kinds) (a b : Lemma) (code : ℕ) → HasPairs k → IsState k a.state → IsState k b.state → IsCode k a code → IsCode k b code → (a.state ≡ b.state) × (a.bound ≡ b.bound)
same_code k a b code pairs va vb (inl h) (inl g) = (h.state ∙ sym g.state, omega (arith, h.is, g.is, h.some, g.some))
same_code k a b code pairs va vb (inl h) (inr g) = absurd (omega (arith, h.is, behind_below k b code pairs vb g))
same_code k a b code pairs va vb (inr h) (inl g) = absurd (omega (arith, g.is, behind_below k a code pairs va h))
same_code k a b code pairs va vb (inr h) (inr g) = same_behind k a b code pairs va vb h g
