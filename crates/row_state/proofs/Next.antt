-- The list of next columns: each is possible, each possible one is in it, and they ascend.
use Rattle.std.specs.Prelude.{ℕ, zero, suc, ◌≡◌, ◌<◌, Bool, true, false, ◌&&◌, ◌==◌, ltb, if◌then◌else◌, List, [], ◌∷◌, ◌++◌, length, All, AllPairs, Contains, flat_map, slice_get, slice_index, Option, Some, None}
use Rattle.std.proofs.Common.{refl, sym, ap, subst, arith, ◌∙◌, inl, inr}
use Rattle.std.proofs.lemmas.Bool.{cases_Bool, and_parts, and_from, eqb-true, eq-eqb, ltb-true, lt-ltb}
use Rattle.std.proofs.lemmas.Option.{slice_get-get_or, slice_get_within, slice_get_cases, get_or_from_slice_get}
use Rattle.std.proofs.lemmas.List.Elements.{All-nil, All-append, Contains-append_left, Contains-append_right}
use Rattle.cell_num.specs.declared.finger.Row.{Row}
use Rattle.cell_num.specs.declared.finger.Row.TheVariants.{P, N}
use Rattle.cell_num.specs.declared.net.NetNo.{NetNo}
use Rattle.cell_num.specs.Fingers.{on_gate}
use Rattle.row_model.specs.declared.column.Placed.{Placed}
use Rattle.row_model.specs.declared.column.Column.{Column}
use Rattle.row_model.specs.Arrangement.{AreOneColumn, IsPlaced}
use Rattle.row_model.proofs.Decide.{net_decides}
use Rattle.row_state.specs.declared.kind.Kind.{Kind}
use Rattle.row_state.specs.declared.kind.Kinds.{Kinds}
use Rattle.row_state.specs.declared.state.State.{State}
use Rattle.row_state.specs.declared.step.Side.{Side}
use Rattle.row_state.specs.declared.step.Step.{Step}
use Rattle.row_state.specs.Completion.{fingers_left}
use Rattle.row_state.specs.Order.{ColumnBefore, KeyBefore, KindBefore, gate_key, kind_key, place_key}
use Rattle.row_state.specs.Start.{AreSomeKinds, GatesAreNets}
use Rattle.row_state.specs.Steps.{AreSuccessors, HalfMayStand, IsLeft, IsPossible, column_of, placed_of}
use Rattle.row_state.specs.Tests.{columns_from, columns_on, gate_left, next_columns, side_of, sides_of, sides_on, step_of, turns_of, with_each, with_side}
use Rattle.row_state.proofs.Exists.{possible_by}
use Rattle.row_state.proofs.Keys.{key_append, key_behind, key_head, key_prefix, key_tail, key_untail}
use Rattle.cell_num.proofs.Lists.{all_flat, all_imply, all_map, all_one, all_two, contains_here, contains_there}
use Rattle.cell_num.proofs.Pairs.{cross, pairs_append, pairs_at, pairs_flat, pairs_map, pairs_none, pairs_one, pairs_two}
use Rattle.cell_num.proofs.In.{contains_flat, contains_map}
use Rattle.row_state.proofs.Lists.{all_joined, contains_joined, pairs_joined}
use Rattle.row_state.proofs.Numbers.{gate_code}
use Rattle.row_state.proofs.Unfold.{placed_kind}

-- a side of a kind on the gate that has a finger left, in an orientation of its own
pub record SideOn (kinds : List Kind) (left : List ℕ) (gate : ℕ) (side : Side) : Type 0 where
  pub kind : Kind
  pub is : slice_get kinds side.kind ≡ Some kind
  pub some : 0 < slice_index left side.kind
  pub on : kind.gate.0 ≡ gate
  pub turned : kind.lo ≡ kind.hi → side.flipped ≡ false

-- the same, of the kind numbered i
abbrev pub SideAt : List Kind → List ℕ → ℕ → ℕ → Side → Type 0
SideAt kinds left gate i side = (side.kind ≡ i) × SideOn kinds left gate side

side_on : (kinds : List Kind) (left : List ℕ) (gate i : ℕ) (flipped : Bool) (kind : Kind) (count : ℕ) → slice_get kinds i ≡ Some kind → slice_get left i ≡ Some count → kind.gate.0 ≡ gate → 0 < count → (kind.lo ≡ kind.hi → flipped ≡ false) → SideAt kinds left gate i (side_of i flipped)
side_on kinds left gate i flipped kind count is there on some turned =
    (refl, record { kind = kind; is = is; some = omega (arith, some, get_or_from_slice_get left i count 0 there); on = on; turned = turned })

one_net : (a b : NetNo) → a ≡ b → (a.0 == b.0) ≡ true
one_net a b e = (net_decides a b).1 e

turns_all : (kinds : List Kind) (left : List ℕ) (gate i : ℕ) (kind : Kind) (count : ℕ) → slice_get kinds i ≡ Some kind → slice_get left i ≡ Some count → kind.gate.0 ≡ gate → 0 < count → All (SideAt kinds left gate i) (turns_of i kind)
turns_all kinds left gate i kind count is there on some =
    elim (cases_Bool (kind.lo.0 == kind.hi.0)) [
      | inl same ↦ rw same (all_one (SideAt kinds left gate i) (side_of i false) (side_on kinds left gate i false kind count is there on some (λ e. refl)))
      | inr differ ↦ rw differ (all_two (SideAt kinds left gate i) (side_of i false) (side_of i true) (side_on kinds left gate i false kind count is there on some (λ e. refl)) (side_on kinds left gate i true kind count is there on some (λ e. let same : (kind.lo.0 == kind.hi.0) ≡ true = one_net kind.lo kind.hi e in cc)))
    ]

sides_all : (kinds : List Kind) (left : List ℕ) (gate i : ℕ) (o : Option Kind) (c : Option ℕ) → slice_get kinds i ≡ o → slice_get left i ≡ c → All (SideAt kinds left gate i) (sides_of gate i o c)
sides_all kinds left gate i None c is there = All-nil (SideAt kinds left gate i)
sides_all kinds left gate i (Some kind) None is there = All-nil (SideAt kinds left gate i)
sides_all kinds left gate i (Some kind) (Some count) is there =
    elim (cases_Bool ((kind.gate.0 == gate) && ltb 0 count)) [
      | inl fits ↦
          let parts : ((kind.gate.0 == gate) ≡ true) × (ltb 0 count ≡ true) = and_parts _ _ fits in
          rw fits (turns_all kinds left gate i kind count is there (eqb-true _ _ parts.0) (ltb-true _ _ parts.1))
      | inr none ↦ rw none (All-nil (SideAt kinds left gate i))
    ]

-- one side stands before the other in the order of columns
abbrev pub SideBefore : Row → List Kind → Side → Side → Type 0
SideBefore row kinds a b = KeyBefore (place_key (placed_of row kinds (Some a))) (place_key (placed_of row kinds (Some b)))

placed_at : (row : Row) (kinds : List Kind) (side : Side) (kind : Kind) → slice_get kinds side.kind ≡ Some kind → placed_of row kinds (Some side) ≡ Some (placed_kind row kind side.flipped)
placed_at row kinds side kind is = rw is refl

unflipped_first : (row : Row) (kinds : List Kind) (i : ℕ) (kind : Kind) → slice_get kinds i ≡ Some kind → SideBefore row kinds (side_of i false) (side_of i true)
unflipped_first row kinds i kind is =
    rw (placed_at row kinds (side_of i false) kind is, placed_at row kinds (side_of i true) kind is)
    (key_prefix (0 ∷ kind.lo.0 ∷ kind.hi.0 ∷ kind.width ∷ []) (0 ∷ []) (1 ∷ []) (key_head 0 1 [] [] (omega arith)))

sides_pairs : (row : Row) (kinds : List Kind) (left : List ℕ) (gate i : ℕ) (o : Option Kind) (c : Option ℕ) → slice_get kinds i ≡ o → AllPairs (SideBefore row kinds) (sides_of gate i o c)
sides_pairs row kinds left gate i None c is = pairs_none (SideBefore row kinds)
sides_pairs row kinds left gate i (Some kind) None is = pairs_none (SideBefore row kinds)
sides_pairs row kinds left gate i (Some kind) (Some count) is =
    elim (cases_Bool ((kind.gate.0 == gate) && ltb 0 count)) [
      | inl fits ↦
          rw fits
          (elim (cases_Bool (kind.lo.0 == kind.hi.0)) [
            | inl same ↦ rw same (pairs_one (SideBefore row kinds) (side_of i false))
            | inr differ ↦ rw differ (pairs_two (SideBefore row kinds) (side_of i false) (side_of i true) (unflipped_first row kinds i kind is))
          ])
      | inr none ↦ rw none (pairs_none (SideBefore row kinds))
    ]

-- on one gate an earlier kind stands before a later one
kind_first : (row : Row) (kinds : List Kind) (left : List ℕ) (gate i j : ℕ) (a b : Side) → AllPairs KindBefore kinds → i < j → SideAt kinds left gate i a → SideAt kinds left gate j b → SideBefore row kinds a b
kind_first row kinds left gate i j a b order l (ia, x) (jb, y) =
    let lower : a.kind < b.kind = omega (arith, l, ia, jb) in
    let whole : KindBefore x.kind y.kind = pairs_at KindBefore kinds a.kind b.kind x.kind y.kind order lower x.is y.is in
    let gates : y.kind.gate.0 ≡ x.kind.gate.0 = y.on ∙ sym x.on in
    let tail : KeyBefore (x.kind.lo.0 ∷ x.kind.hi.0 ∷ x.kind.width ∷ []) (y.kind.lo.0 ∷ y.kind.hi.0 ∷ y.kind.width ∷ []) =
    key_untail x.kind.gate.0 (x.kind.lo.0 ∷ x.kind.hi.0 ∷ x.kind.width ∷ []) (y.kind.lo.0 ∷ y.kind.hi.0 ∷ y.kind.width ∷ []) (subst (λ g. KeyBefore (kind_key x.kind) (g ∷ y.kind.lo.0 ∷ y.kind.hi.0 ∷ y.kind.width ∷ [])) gates whole) in
    rw (placed_at row kinds a x.kind x.is, placed_at row kinds b y.kind y.is)
    (key_tail 0 (x.kind.lo.0 ∷ x.kind.hi.0 ∷ x.kind.width ∷ (if a.flipped then 1 else 0) ∷ []) (y.kind.lo.0 ∷ y.kind.hi.0 ∷ y.kind.width ∷ (if b.flipped then 1 else 0) ∷ []) (key_append (x.kind.lo.0 ∷ x.kind.hi.0 ∷ x.kind.width ∷ []) (y.kind.lo.0 ∷ y.kind.hi.0 ∷ y.kind.width ∷ []) ((if a.flipped then 1 else 0) ∷ []) ((if b.flipped then 1 else 0) ∷ []) refl tail))

sides_order : (row : Row) (kinds : List Kind) (left : List ℕ) (gate : ℕ) → AllPairs KindBefore kinds → AllPairs (SideBefore row kinds) (sides_on kinds left gate)
sides_order row kinds left gate order =
    pairs_joined (SideBefore row kinds) (SideAt kinds left gate) (λ i. sides_of gate i (slice_get kinds i) (slice_get left i)) (length kinds)
    (λ i l. sides_all kinds left gate i (slice_get kinds i) (slice_get left i) refl refl)
    (λ i l. sides_pairs row kinds left gate i (slice_get kinds i) (slice_get left i) refl)
    (λ i j a b l x y. kind_first row kinds left gate i j a b order l x y)

sides_are : (kinds : List Kind) (left : List ℕ) (gate : ℕ) → All (SideOn kinds left gate) (sides_on kinds left gate)
sides_are kinds left gate =
    all_joined (SideOn kinds left gate) (λ i. sides_of gate i (slice_get kinds i) (slice_get left i)) (length kinds)
    (λ i l. all_imply (SideAt kinds left gate i) (SideOn kinds left gate) _ (λ side h. h.1) (sides_all kinds left gate i (slice_get kinds i) (slice_get left i) refl refl))

turns_have : (i : ℕ) (kind : Kind) (flipped : Bool) → (kind.lo ≡ kind.hi → flipped ≡ false) → Contains (turns_of i kind) (side_of i flipped)
turns_have i kind flipped turned =
    elim (cases_Bool (kind.lo.0 == kind.hi.0)) [
      | inl same ↦
          let plain : flipped ≡ false = turned ((net_decides kind.lo kind.hi).0 same) in
          rw same (subst (λ b. Contains (side_of i false ∷ []) (side_of i b)) (sym plain) (contains_here (side_of i false) []))
      | inr differ ↦ rw differ (both flipped)
    ]
  where
    both : (b : Bool) → Contains (side_of i false ∷ side_of i true ∷ []) (side_of i b)
    both false = contains_here (side_of i false) (side_of i true ∷ [])
    both true = contains_there (side_of i false) (side_of i true ∷ []) (side_of i true) (contains_here (side_of i true) [])

within_left : (left : List ℕ) (i : ℕ) → 0 < slice_index left i → i < length left
within_left [] i h = absurd (omega (arith, h))
within_left (c ∷ cs) zero h = omega arith
within_left (c ∷ cs) (suc i) h = omega (arith, within_left cs i h)

sides_have : (kinds : List Kind) (left : List ℕ) (gate : ℕ) (side : Side) → SideOn kinds left gate side → Contains (sides_on kinds left gate) side
sides_have kinds left gate side h =
    let at : slice_get left side.kind ≡ Some (slice_index left side.kind) = slice_get-get_or left side.kind 0 (within_left left side.kind h.some) in
    let here : ((h.kind.gate.0 == gate) && ltb 0 (slice_index left side.kind)) ≡ true = and_from _ _ (eq-eqb _ _ h.on) (lt-ltb _ _ h.some) in
    contains_joined (λ i. sides_of gate i (slice_get kinds i) (slice_get left i)) (length kinds) side.kind side (slice_get_within kinds side.kind h.kind h.is)
    (rw (h.is, at, here) (turns_have side.kind h.kind side.flipped h.turned))

-- what a side on the gate gives of its place
filled : (row : Row) (kinds : List Kind) (left : List ℕ) (gate : ℕ) (side : Side) → SideOn kinds left gate side → (x : Placed) × (placed_of row kinds (Some side) ≡ Some x) × (x.finger.gate.0 ≡ gate) × IsPlaced x
filled row kinds left gate side h = (placed_kind row h.kind side.flipped, placed_at row kinds side h.kind h.is, h.on, h.turned)

is_left : (kinds : List Kind) (left : List ℕ) (gate : ℕ) (side : Side) → SideOn kinds left gate side → IsLeft kinds left (Some side)
is_left kinds left gate side h = (slice_get_within kinds side.kind h.kind h.is, h.some)

place_before : (x y : Option Placed) (us vs : List ℕ) → KeyBefore (place_key x) (place_key y) → KeyBefore (place_key x ++ us) (place_key y ++ vs)
place_before None None us vs h = cc
place_before None (Some y) us vs h = cc
place_before (Some x) None us vs h = key_head 0 1 ((x.finger.lo.0 ∷ x.finger.hi.0 ∷ x.finger.width ∷ (if x.flipped then 1 else 0) ∷ []) ++ us) vs (omega arith)
place_before (Some x) (Some y) us vs h = key_append (place_key (Some x)) (place_key (Some y)) us vs refl h

-- on one gate the P places decide, and then the N places
p_first : (c d : Column) → gate_key c.p c.n ≡ gate_key d.p d.n → KeyBefore (place_key c.p) (place_key d.p) → ColumnBefore c d
p_first c d gates h = key_behind (gate_key c.p c.n) (gate_key d.p d.n) (place_key c.p ++ place_key c.n) (place_key d.p ++ place_key d.n) gates (place_before c.p d.p (place_key c.n) (place_key d.n) h)

n_first : (c d : Column) → gate_key c.p c.n ≡ gate_key d.p d.n → c.p ≡ d.p → KeyBefore (place_key c.n) (place_key d.n) → ColumnBefore c d
n_first c d gates same h =
    key_behind (gate_key c.p c.n) (gate_key d.p d.n) (place_key c.p ++ place_key c.n) (place_key d.p ++ place_key d.n) gates
    (subst (λ x. KeyBefore (place_key c.p ++ place_key c.n) (place_key x ++ place_key d.n)) same (key_prefix (place_key c.p) (place_key c.n) (place_key d.n) h))

gate_of_p : (x y : Option Placed) (p : Placed) (gate : ℕ) → x ≡ Some p → p.finger.gate.0 ≡ gate → gate_key x y ≡ gate
gate_of_p x y p gate is on = ap (λ z. gate_key z y) is ∙ on

gate_of_n : (y : Option Placed) (n : Placed) (gate : ℕ) → y ≡ Some n → n.finger.gate.0 ≡ gate → gate_key None y ≡ gate
gate_of_n y n gate is on = ap (λ z. gate_key None z) is ∙ on

-- a next column on the gate, by what stands in its P place
pub record StepOn (k : Kinds) (s : State) (gate : ℕ) (step : Step) : Type 0 where
  pub possible : IsPossible k s step
  pub on : gate_key (column_of k step).p (column_of k step).n ≡ gate

abbrev pub StepWith : Kinds → State → ℕ → Option Side → Step → Type 0
StepWith k s gate p step = (step.p ≡ p) × StepOn k s gate step

one_gate : (x y : Placed) (gate : ℕ) → x.finger.gate.0 ≡ gate → y.finger.gate.0 ≡ gate → x.finger.gate ≡ y.finger.gate
one_gate x y gate a b = (net_decides x.finger.gate y.finger.gate).0 (eq-eqb _ _ (a ∙ sym b))

pair_on : (k : Kinds) (s : State) (gate : ℕ) (p n : Side) → SideOn k.p s.p_left gate p → SideOn k.n s.n_left gate n → StepWith k s gate (Some p) (step_of (Some p) (Some n))
pair_on k s gate p n hp hn =
    let x = filled P k.p s.p_left gate p hp in
    let y = filled N k.n s.n_left gate n hn in (
      refl,
      record {
        possible = possible_by k s (step_of (Some p) (Some n)) (Some x.0) (Some y.0) x.1 y.1 (is_left k.p s.p_left gate p hp) (is_left k.n s.n_left gate n hn) (one_gate x.0 y.0 gate x.2 y.2, x.3, y.3) tt;
        on = gate_of_p (placed_of P k.p (Some p)) (placed_of N k.n (Some n)) x.0 gate x.1 x.2;
      },
    )

p_alone_on : (k : Kinds) (s : State) (gate : ℕ) (p : Side) → SideOn k.p s.p_left gate p → gate_left k.n s.n_left gate < gate_left k.p s.p_left gate → StepWith k s gate (Some p) (step_of (Some p) None)
p_alone_on k s gate p hp more =
    let x = filled P k.p s.p_left gate p hp in
    let half : on_gate gate (fingers_left N k.n s.n_left) < on_gate gate (fingers_left P k.p s.p_left) = omega (arith, more, gate_code P k.p s.p_left gate, gate_code N k.n s.n_left gate) in (
      refl,
      record {
        possible = possible_by k s (step_of (Some p) None) (Some x.0) None x.1 refl (is_left k.p s.p_left gate p hp) tt x.3 (subst (λ g. on_gate g (fingers_left N k.n s.n_left) < on_gate g (fingers_left P k.p s.p_left)) (sym x.2) half);
        on = gate_of_p (placed_of P k.p (Some p)) None x.0 gate x.1 x.2;
      },
    )

n_alone_on : (k : Kinds) (s : State) (gate : ℕ) (n : Side) → SideOn k.n s.n_left gate n → gate_left k.p s.p_left gate < gate_left k.n s.n_left gate → StepWith k s gate None (step_of None (Some n))
n_alone_on k s gate n hn more =
    let y = filled N k.n s.n_left gate n hn in
    let half : on_gate gate (fingers_left P k.p s.p_left) < on_gate gate (fingers_left N k.n s.n_left) = omega (arith, more, gate_code P k.p s.p_left gate, gate_code N k.n s.n_left gate) in (
      refl,
      record {
        possible = possible_by k s (step_of None (Some n)) None (Some y.0) refl y.1 tt (is_left k.n s.n_left gate n hn) y.3 (subst (λ g. on_gate g (fingers_left P k.p s.p_left) < on_gate g (fingers_left N k.n s.n_left)) (sym y.2) half);
        on = gate_of_n (placed_of N k.n (Some n)) y.0 gate y.1 y.2;
      },
    )

-- the order of columns, for steps
abbrev pub StepBefore : Kinds → Step → Step → Type 0
StepBefore k a b = ColumnBefore (column_of k a) (column_of k b)

filled_first : (x y : Option Placed) (z : Placed) → x ≡ Some z → y ≡ None → KeyBefore (place_key x) (place_key y)
filled_first x y z is none =
    let here : KeyBefore (place_key (Some z)) (place_key None) = key_head 0 1 (z.finger.lo.0 ∷ z.finger.hi.0 ∷ z.finger.width ∷ (if z.flipped then 1 else 0) ∷ []) [] (omega arith) in
    subst (λ w. KeyBefore (place_key w) (place_key y)) (sym is) (subst (λ w. KeyBefore (place_key (Some z)) (place_key w)) (sym none) here)

-- the columns of one P place, and each N side
each_order : (k : Kinds) (s : State) (gate : ℕ) (p : Option Side) (ns : List Side) → All (λ n. StepOn k s gate (step_of p (Some n))) ns → AllPairs (SideBefore N k.n) ns → AllPairs (StepBefore k) (with_each p ns)
each_order k s gate p ns on order =
    pairs_map (SideBefore N k.n) (λ n. StepOn k s gate (step_of p (Some n))) (StepBefore k) (λ n. step_of p (Some n)) ns
    (λ a b x y l. n_first (column_of k (step_of p (Some a))) (column_of k (step_of p (Some b))) (x.on ∙ sym y.on) refl l) on order

-- a step with the P side and an N side
abbrev pub IsPair : Kinds → State → ℕ → Side → Step → Type 0
IsPair k s gate p step = StepWith k s gate (Some p) step × ((x : Placed) × (placed_of N k.n step.n ≡ Some x))

each_pair : (k : Kinds) (s : State) (gate : ℕ) (p : Side) (ns : List Side) → SideOn k.p s.p_left gate p → All (SideOn k.n s.n_left gate) ns → All (IsPair k s gate p) (with_each (Some p) ns)
each_pair k s gate p ns hp hns = all_map (SideOn k.n s.n_left gate) (IsPair k s gate p) (λ n. step_of (Some p) (Some n)) ns (λ n hn. (pair_on k s gate p n hp hn, let y = filled N k.n s.n_left gate n hn in (y.0, y.1))) hns

-- a step with the P side alone
abbrev pub IsAlone : Kinds → State → ℕ → Side → Step → Type 0
IsAlone k s gate p step = StepWith k s gate (Some p) step × (step.n ≡ None)

alone_all : (k : Kinds) (s : State) (gate : ℕ) (p : Side) (half : Bool) → SideOn k.p s.p_left gate p → (half ≡ true → gate_left k.n s.n_left gate < gate_left k.p s.p_left gate) → All (IsAlone k s gate p) (if half then step_of (Some p) None ∷ [] else [])
alone_all k s gate p true hp more = all_one (IsAlone k s gate p) (step_of (Some p) None) (p_alone_on k s gate p hp (more refl), refl)
alone_all k s gate p false hp more = All-nil (IsAlone k s gate p)

alone_order : (k : Kinds) (p : Side) (half : Bool) → AllPairs (StepBefore k) (if half then step_of (Some p) None ∷ [] else [])
alone_order k p true = pairs_one (StepBefore k) (step_of (Some p) None)
alone_order k p false = pairs_none (StepBefore k)

pair_first : (k : Kinds) (s : State) (gate : ℕ) (p : Side) (a b : Step) → IsPair k s gate p a → IsAlone k s gate p b → StepBefore k a b
pair_first k s gate p a b ((same, x), (y, is)) ((also, z), none) =
    n_first (column_of k a) (column_of k b) (x.on ∙ sym z.on) (ap (placed_of P k.p) (same ∙ sym also)) (filled_first (placed_of N k.n a.n) (placed_of N k.n b.n) y is (ap (placed_of N k.n) none))

side_all : (k : Kinds) (s : State) (gate : ℕ) (p : Side) (ns : List Side) (half : Bool) → SideOn k.p s.p_left gate p → All (SideOn k.n s.n_left gate) ns → (half ≡ true → gate_left k.n s.n_left gate < gate_left k.p s.p_left gate) → All (StepWith k s gate (Some p)) (with_side ns half p)
side_all k s gate p ns half hp hns more =
    All-append (StepWith k s gate (Some p)) (with_each (Some p) ns) (if half then step_of (Some p) None ∷ [] else [])
    (all_imply (IsPair k s gate p) (StepWith k s gate (Some p)) (with_each (Some p) ns) (λ a h. h.0) (each_pair k s gate p ns hp hns))
    (all_imply (IsAlone k s gate p) (StepWith k s gate (Some p)) (if half then step_of (Some p) None ∷ [] else []) (λ a h. h.0) (alone_all k s gate p half hp more))

side_order : (k : Kinds) (s : State) (gate : ℕ) (p : Side) (ns : List Side) (half : Bool) → SideOn k.p s.p_left gate p → All (SideOn k.n s.n_left gate) ns → AllPairs (SideBefore N k.n) ns → (half ≡ true → gate_left k.n s.n_left gate < gate_left k.p s.p_left gate) → AllPairs (StepBefore k) (with_side ns half p)
side_order k s gate p ns half hp hns order more =
    pairs_append (StepBefore k) (with_each (Some p) ns) (if half then step_of (Some p) None ∷ [] else [])
    (each_order k s gate (Some p) ns (all_imply (SideOn k.n s.n_left gate) (λ n. StepOn k s gate (step_of (Some p) (Some n))) ns (λ n hn. (pair_on k s gate p n hp hn).1) hns) order)
    (alone_order k p half)
    (cross (StepBefore k) (IsPair k s gate p) (IsAlone k s gate p) (with_each (Some p) ns) (if half then step_of (Some p) None ∷ [] else []) (each_pair k s gate p ns hp hns) (alone_all k s gate p half hp more) (pair_first k s gate p))

-- all columns of the gate whose P place is filled
abbrev pub HasP : Kinds → State → ℕ → Step → Type 0
HasP k s gate step = StepOn k s gate step × ((x : Placed) × (placed_of P k.p step.p ≡ Some x))

abbrev pub HasNoP : Kinds → State → ℕ → Step → Type 0
HasNoP k s gate step = StepWith k s gate None step

side_has : (k : Kinds) (s : State) (gate : ℕ) (p : Side) (step : Step) → SideOn k.p s.p_left gate p → StepWith k s gate (Some p) step → HasP k s gate step
side_has k s gate p step hp (same, on) = (on, let x = filled P k.p s.p_left gate p hp in (x.0, ap (placed_of P k.p) same ∙ x.1))

none_all : (k : Kinds) (s : State) (gate : ℕ) (ns : List Side) (half : Bool) → All (SideOn k.n s.n_left gate) ns → (half ≡ true → gate_left k.p s.p_left gate < gate_left k.n s.n_left gate) → All (HasNoP k s gate) (if half then with_each None ns else [])
none_all k s gate ns true hns more = all_map (SideOn k.n s.n_left gate) (HasNoP k s gate) (λ n. step_of None (Some n)) ns (λ n hn. n_alone_on k s gate n hn (more refl)) hns
none_all k s gate ns false hns more = All-nil (HasNoP k s gate)

none_order : (k : Kinds) (s : State) (gate : ℕ) (ns : List Side) (half : Bool) → All (SideOn k.n s.n_left gate) ns → AllPairs (SideBefore N k.n) ns → (half ≡ true → gate_left k.p s.p_left gate < gate_left k.n s.n_left gate) → AllPairs (StepBefore k) (if half then with_each None ns else [])
none_order k s gate ns true hns order more = each_order k s gate None ns (all_imply (SideOn k.n s.n_left gate) (λ n. StepOn k s gate (step_of None (Some n))) ns (λ n hn. (n_alone_on k s gate n hn (more refl)).1) hns) order
none_order k s gate ns false hns order more = pairs_none (StepBefore k)

from_all : (k : Kinds) (s : State) (gate : ℕ) (ps ns : List Side) (p_more n_more : Bool) → All (SideOn k.p s.p_left gate) ps → All (SideOn k.n s.n_left gate) ns → (p_more ≡ true → gate_left k.n s.n_left gate < gate_left k.p s.p_left gate) → (n_more ≡ true → gate_left k.p s.p_left gate < gate_left k.n s.n_left gate) → All (StepOn k s gate) (columns_from ps ns p_more n_more)
from_all k s gate ps ns p_more n_more hps hns more less =
    All-append (StepOn k s gate) (flat_map (with_side ns p_more) ps) (if n_more then with_each None ns else [])
    (all_flat (SideOn k.p s.p_left gate) (StepOn k s gate) (with_side ns p_more) ps (λ p hp. all_imply (StepWith k s gate (Some p)) (StepOn k s gate) (with_side ns p_more p) (λ a h. h.1) (side_all k s gate p ns p_more hp hns more)) hps)
    (all_imply (HasNoP k s gate) (StepOn k s gate) (if n_more then with_each None ns else []) (λ a h. h.1) (none_all k s gate ns n_more hns less))

from_order : (k : Kinds) (s : State) (gate : ℕ) (ps ns : List Side) (p_more n_more : Bool) → All (SideOn k.p s.p_left gate) ps → All (SideOn k.n s.n_left gate) ns → AllPairs (SideBefore P k.p) ps → AllPairs (SideBefore N k.n) ns → (p_more ≡ true → gate_left k.n s.n_left gate < gate_left k.p s.p_left gate) → (n_more ≡ true → gate_left k.p s.p_left gate < gate_left k.n s.n_left gate) → AllPairs (StepBefore k) (columns_from ps ns p_more n_more)
from_order k s gate ps ns p_more n_more hps hns p_order n_order more less =
    pairs_append (StepBefore k) (flat_map (with_side ns p_more) ps) (if n_more then with_each None ns else [])
    (pairs_flat (SideBefore P k.p) (SideOn k.p s.p_left gate) (StepBefore k) (λ p. StepWith k s gate (Some p)) (with_side ns p_more) ps
    (λ p hp. side_all k s gate p ns p_more hp hns more)
    (λ p hp. side_order k s gate p ns p_more hp hns n_order more)
    (λ p q a b hp hq l (ea, x) (eb, y). p_first (column_of k a) (column_of k b) (x.on ∙ sym y.on) (subst (λ z. KeyBefore (place_key (placed_of P k.p a.p)) (place_key (placed_of P k.p z))) (sym eb) (subst (λ z. KeyBefore (place_key (placed_of P k.p z)) (place_key (placed_of P k.p (Some q)))) (sym ea) l)))
    hps p_order)
    (none_order k s gate ns n_more hns n_order less)
    (cross (StepBefore k) (HasP k s gate) (HasNoP k s gate) (flat_map (with_side ns p_more) ps) (if n_more then with_each None ns else [])
    (all_flat (SideOn k.p s.p_left gate) (HasP k s gate) (with_side ns p_more) ps (λ p hp. all_imply (StepWith k s gate (Some p)) (HasP k s gate) (with_side ns p_more p) (λ a h. side_has k s gate p a hp h) (side_all k s gate p ns p_more hp hns more)) hps)
    (none_all k s gate ns n_more hns less)
    (λ a b (x, (z, is)) (none, y). p_first (column_of k a) (column_of k b) (x.on ∙ sym y.on) (filled_first (placed_of P k.p a.p) (placed_of P k.p b.p) z is (ap (placed_of P k.p) none))))

on_all : (k : Kinds) (s : State) (gate : ℕ) → All (StepOn k s gate) (columns_on k s gate)
on_all k s gate =
    from_all k s gate (sides_on k.p s.p_left gate) (sides_on k.n s.n_left gate) _ _ (sides_are k.p s.p_left gate) (sides_are k.n s.n_left gate)
    (λ e. ltb-true (gate_left k.n s.n_left gate) (gate_left k.p s.p_left gate) e) (λ e. ltb-true (gate_left k.p s.p_left gate) (gate_left k.n s.n_left gate) e)

on_order : (k : Kinds) (s : State) (gate : ℕ) → AreSomeKinds k → AllPairs (StepBefore k) (columns_on k s gate)
on_order k s gate some =
    from_order k s gate (sides_on k.p s.p_left gate) (sides_on k.n s.n_left gate) _ _ (sides_are k.p s.p_left gate) (sides_are k.n s.n_left gate) (sides_order P k.p s.p_left gate some.p_order) (sides_order N k.n s.n_left gate some.n_order)
    (λ e. ltb-true (gate_left k.n s.n_left gate) (gate_left k.p s.p_left gate) e) (λ e. ltb-true (gate_left k.p s.p_left gate) (gate_left k.n s.n_left gate) e)

gate_first : (k : Kinds) (s : State) (i j : ℕ) (a b : Step) → i < j → StepOn k s i a → StepOn k s j b → StepBefore k a b
gate_first k s i j a b l x y =
    key_head (gate_key (column_of k a).p (column_of k a).n) (gate_key (column_of k b).p (column_of k b).n) (place_key (column_of k a).p ++ place_key (column_of k a).n) (place_key (column_of k b).p ++ place_key (column_of k b).n) (omega (arith, l, x.on, y.on))

-- and every possible one is there
found_kind : (kinds : List Kind) (left : List ℕ) (side : Side) → IsLeft kinds left (Some side) → (kind : Kind) × (slice_get kinds side.kind ≡ Some kind)
found_kind kinds left side there = elim (slice_get_cases kinds side.kind).1 [ inl (x, _, is, _) ↦ (x, is) | inr (past, _) ↦ absurd (omega (arith, past, there.0)) ]

have_pair : (k : Kinds) (s : State) (gate : ℕ) (p n : Side) → SideOn k.p s.p_left gate p → SideOn k.n s.n_left gate n → Contains (columns_on k s gate) (step_of (Some p) (Some n))
have_pair k s gate p n hp hn =
    let ns = sides_on k.n s.n_left gate in
    let more : Bool = ltb (gate_left k.n s.n_left gate) (gate_left k.p s.p_left gate) in
    let x : Step = step_of (Some p) (Some n) in
    Contains-append_left (flat_map (with_side ns more) (sides_on k.p s.p_left gate)) _ x
    (contains_flat (with_side ns more) (sides_on k.p s.p_left gate) p x (sides_have k.p s.p_left gate p hp)
    (Contains-append_left (with_each (Some p) ns) _ x (contains_map (λ m. step_of (Some p) (Some m)) ns n (sides_have k.n s.n_left gate n hn))))

have_p : (k : Kinds) (s : State) (gate : ℕ) (p : Side) → SideOn k.p s.p_left gate p → gate_left k.n s.n_left gate < gate_left k.p s.p_left gate → Contains (columns_on k s gate) (step_of (Some p) None)
have_p k s gate p hp l =
    let ns = sides_on k.n s.n_left gate in
    let more : Bool = ltb (gate_left k.n s.n_left gate) (gate_left k.p s.p_left gate) in
    let x : Step = step_of (Some p) None in
    let is : ltb (gate_left k.n s.n_left gate) (gate_left k.p s.p_left gate) ≡ true = lt-ltb _ _ l in
    Contains-append_left (flat_map (with_side ns more) (sides_on k.p s.p_left gate)) _ x
    (contains_flat (with_side ns more) (sides_on k.p s.p_left gate) p x (sides_have k.p s.p_left gate p hp)
    (Contains-append_right (with_each (Some p) ns) (if more then x ∷ [] else []) x (subst (λ b. Contains (if b then x ∷ [] else []) x) (sym is) (contains_here x []))))

have_n : (k : Kinds) (s : State) (gate : ℕ) (n : Side) → SideOn k.n s.n_left gate n → gate_left k.p s.p_left gate < gate_left k.n s.n_left gate → Contains (columns_on k s gate) (step_of None (Some n))
have_n k s gate n hn l =
    let ns = sides_on k.n s.n_left gate in
    let more : Bool = ltb (gate_left k.p s.p_left gate) (gate_left k.n s.n_left gate) in
    let x : Step = step_of None (Some n) in
    let is : ltb (gate_left k.p s.p_left gate) (gate_left k.n s.n_left gate) ≡ true = lt-ltb _ _ l in
    Contains-append_right (flat_map (with_side ns (ltb (gate_left k.n s.n_left gate) (gate_left k.p s.p_left gate))) (sides_on k.p s.p_left gate)) (if more then with_each None ns else []) x
    (subst (λ b. Contains (if b then with_each None ns else []) x) (sym is) (contains_map (λ m. step_of None (Some m)) ns n (sides_have k.n s.n_left gate n hn)))

on_gate_less : (r q : Row) (xs ys : List Kind) (us vs : List ℕ) (gate : ℕ) → on_gate gate (fingers_left r xs us) < on_gate gate (fingers_left q ys vs) → gate_left xs us gate < gate_left ys vs gate
on_gate_less r q xs ys us vs gate l = omega (arith, l, gate_code r xs us gate, gate_code q ys vs gate)

have : (k : Kinds) (s : State) (p n : Option Side) → GatesAreNets k → IsPossible k s (step_of p n) → Contains (next_columns k s) (step_of p n)
have k s None None nets h = absurd h.column
have k s (Some p) None nets h =
    let x = found_kind k.p s.p_left p h.p in
    let placed = placed_at P k.p p x.0 x.1 in
    let one : AreOneColumn (Some (placed_kind P x.0 p.flipped)) None = subst (λ z. AreOneColumn z None) placed h.column in
    let half : on_gate x.0.gate.0 (fingers_left N k.n s.n_left) < on_gate x.0.gate.0 (fingers_left P k.p s.p_left) = subst (λ z. HalfMayStand z None (λ g. on_gate g (fingers_left P k.p s.p_left)) (λ g. on_gate g (fingers_left N k.n s.n_left))) placed h.half in
    let side : SideOn k.p s.p_left x.0.gate.0 p = record { kind = x.0; is = x.1; some = h.p.1; on = refl; turned = one } in
    contains_joined (columns_on k s) k.nets x.0.gate.0 (step_of (Some p) None) (nets.p p.kind x.0 x.1) (have_p k s x.0.gate.0 p side (on_gate_less N P k.n k.p s.n_left s.p_left x.0.gate.0 half))
have k s None (Some n) nets h =
    let y = found_kind k.n s.n_left n h.n in
    let placed = placed_at N k.n n y.0 y.1 in
    let one : AreOneColumn None (Some (placed_kind N y.0 n.flipped)) = subst (λ z. AreOneColumn None z) placed h.column in
    let half : on_gate y.0.gate.0 (fingers_left P k.p s.p_left) < on_gate y.0.gate.0 (fingers_left N k.n s.n_left) = subst (λ z. HalfMayStand None z (λ g. on_gate g (fingers_left P k.p s.p_left)) (λ g. on_gate g (fingers_left N k.n s.n_left))) placed h.half in
    let side : SideOn k.n s.n_left y.0.gate.0 n = record { kind = y.0; is = y.1; some = h.n.1; on = refl; turned = one } in
    contains_joined (columns_on k s) k.nets y.0.gate.0 (step_of None (Some n)) (nets.n n.kind y.0 y.1) (have_n k s y.0.gate.0 n side (on_gate_less P N k.p k.n s.p_left s.n_left y.0.gate.0 half))
have k s (Some p) (Some n) nets h =
    let x = found_kind k.p s.p_left p h.p in
    let y = found_kind k.n s.n_left n h.n in
    let one : AreOneColumn (Some (placed_kind P x.0 p.flipped)) (Some (placed_kind N y.0 n.flipped)) = subst (λ z. AreOneColumn (Some (placed_kind P x.0 p.flipped)) z) (placed_at N k.n n y.0 y.1) (subst (λ z. AreOneColumn z (placed_of N k.n (Some n))) (placed_at P k.p p x.0 x.1) h.column) in
    let p_side : SideOn k.p s.p_left x.0.gate.0 p = record { kind = x.0; is = x.1; some = h.p.1; on = refl; turned = one.1 } in
    let n_side : SideOn k.n s.n_left x.0.gate.0 n = record { kind = y.0; is = y.1; some = h.n.1; on = sym (ap (λ (v : NetNo). v.0) one.0); turned = one.2 } in
    contains_joined (columns_on k s) k.nets x.0.gate.0 (step_of (Some p) (Some n)) (nets.p p.kind x.0 x.1) (have_pair k s x.0.gate.0 p n p_side n_side)

-- the list of next columns is that of the successors
pub next_are : (k : Kinds) (s : State) → AreSomeKinds k → GatesAreNets k → AreSuccessors k s (next_columns k s)
next_are k s some nets =
    record {
      possible = all_joined (IsPossible k s) (columns_on k s) k.nets (λ gate l. all_imply (StepOn k s gate) (IsPossible k s) (columns_on k s gate) (λ a h. h.possible) (on_all k s gate));
      all = λ step h. have k s step.p step.n nets h;
      order = pairs_joined (StepBefore k) (StepOn k s) (columns_on k s) k.nets (λ gate l. on_all k s gate) (λ gate l. on_order k s gate some) (gate_first k s);
    }
