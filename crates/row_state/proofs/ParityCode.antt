-- The parity bound as it is computed.
use Rattle.std.specs.Prelude.{ℕ, zero, suc, ◌≡◌, ◌+◌, ◌-◌, ◌%◌, ◌≤◌, ◌<◌, Bool, true, false, not, cond, ◌==◌, if◌then◌else◌, List, [], ◌∷◌, Option, Some, None, All, count_by, get_or, length, replicate, take}
use Rattle.std.specs.List.{zip}
use Rattle.std.proofs.lemmas.Bool.{eq-eqb}
use Rattle.std.proofs.lemmas.List.Sums.{sum_by-cons}
use Rattle.std.proofs.Common.{refl, sym, ap, arith, ◌∙◌}
use Rattle.cell_num.specs.declared.finger.Row.{Row}
use Rattle.cell_num.specs.declared.finger.Row.TheVariants.{P, N}
use Rattle.cell_num.specs.declared.net.NetNo.{NetNo}
use Rattle.cell_num.specs.Fingers.{on_gate, sum_below}
use Rattle.row_trails.specs.Counts.{halved}
use Rattle.row_trails.specs.Trails.{size, size_same, toggle}
use Rattle.row_state.specs.declared.kind.Kind.{Kind}
use Rattle.row_state.specs.declared.kind.Kinds.{Kinds}
use Rattle.row_state.specs.declared.state.State.{State}
use Rattle.row_state.specs.Completion.{fingers_left}
use Rattle.row_state.specs.declared.gate.OnGate.{OnGate}
use Rattle.row_state.specs.Parity.{empty_left, is_odd, parity, parity_of, parity_value}
use Rattle.row_state.specs.Runs.{IsOnGate}
use Rattle.row_state.specs.Start.{AreSomeKinds, IsKind, IsState}
use Rattle.row_state.specs.Tests.{adds_odd, empty_test, gate_left, is_odd_behind, is_odd_net, parity_test}
use Rattle.row_state.specs.Degrees.{parity_bit}
use Rattle.row_state.specs.Gates.{sum_below_same}
use Rattle.row_state.proofs.Numbers.{gate_code, odd_code, parity_mod}
use Rattle.row_state.proofs.Valid.{few_n, few_p}

pub size_of : (n : ℕ) (set : List Bool) (f : ℕ → Bool) → ((u : ℕ) → get_or set u false ≡ f u) → size n (λ u. get_or set u false) ≡ size n f
size_of n set f same = size_same n (λ u. get_or set u false) f (λ u l. same u)

turned : (b : Bool) → not (not b) ≡ b
turned true = refl
turned false = refl

twice : (hi lo x : Bool) → (if hi then not (if lo then not x else x) else if lo then not x else x) ≡ cond (cond lo (not hi) hi) (not x) x
twice true true x = turned x
twice true false x = refl
twice false true x = refl
twice false false x = refl

-- the empty set
pub none_set : (n u : ℕ) → get_or (replicate n false) u false ≡ false
none_set zero u = refl
none_set (suc n) zero = refl
none_set (suc n) (suc u) = none_set n u

-- toggled at both ends
pub ends_toggled : (u count : ℕ) (kind : Kind) (old mid : ℕ → Bool) → count % 2 ≡ 1 → mid u ≡ toggle kind.lo.0 old u → toggle kind.hi.0 mid u ≡ cond (adds_odd u (kind, count)) (not (old u)) (old u)
ends_toggled u count kind old mid odd first =
    rw (eq-eqb (count % 2) 1 odd) (ap (λ x. if u == kind.hi.0 then not x else x) first ∙ twice (u == kind.hi.0) (u == kind.lo.0) (old u))

-- the nets of a kind have places
pub kind_ends : (nets : ℕ) (kinds : List Kind) (i : ℕ) (d : Kind) → nets ≤ 256 → All (IsKind nets) kinds → i < length kinds → ((get_or kinds i d).lo.0 < 256) × ((get_or kinds i d).hi.0 < 256)
kind_ends nets kinds i d few h l =
    let here : IsKind nets (get_or kinds i d) = h i d l in
    (omega (arith, few, here.order, here.ends), omega (arith, few, here.ends))

count_more : (kinds : List Kind) (left : List ℕ) (u i : ℕ) (k : Kind) (c : ℕ) → i < length kinds → length left ≡ length kinds → count_by (adds_odd u) (zip (take (suc i) kinds) (take (suc i) left)) ≡ cond (adds_odd u (get_or kinds i k, get_or left i c)) 1 0 + count_by (adds_odd u) (zip (take i kinds) (take i left))
count_more [] left u i k c l same = absurd (omega (arith, l))
count_more (x ∷ xs) [] u i k c l same = absurd (omega (arith, same))
count_more (x ∷ xs) (y ∷ ys) u zero k c l same = sum_by-cons (λ (p : Kind × ℕ). cond (adds_odd u p) 1 0) (x, y) []
count_more (x ∷ xs) (y ∷ ys) u (suc i) k c l same =
    omega (arith, count_more xs ys u i k c (omega (arith, l)) (omega (arith, same)), sum_by-cons (λ (p : Kind × ℕ). cond (adds_odd u p) 1 0) (x, y) (zip (take (suc i) xs) (take (suc i) ys)), sum_by-cons (λ (p : Kind × ℕ). cond (adds_odd u p) 1 0) (x, y) (zip (take i xs) (take i ys)))

-- one kind more
pub odd_more : (kinds : List Kind) (left : List ℕ) (u i : ℕ) (k : Kind) (c : ℕ) → i < length kinds → length left ≡ length kinds → is_odd_net (take (i + 1) kinds) (take (i + 1) left) u ≡ cond (adds_odd u (get_or kinds i k, get_or left i c)) (not (is_odd_net (take i kinds) (take i left) u)) (is_odd_net (take i kinds) (take i left) u)
odd_more kinds left u i k c l same =
    let e : i + 1 ≡ suc i = omega arith in
    let before : is_odd_net (take i kinds) (take i left) u ≡ parity (count_by (adds_odd u) (zip (take i kinds) (take i left))) = parity_mod _ in
    ap (λ n. is_odd_net (take n kinds) (take n left) u) e
    ∙ parity_mod _
    ∙ ap parity (count_more kinds left u i k c l same)
    ∙ parity_bit (adds_odd u (get_or kinds i k, get_or left i c)) (count_by (adds_odd u) (zip (take i kinds) (take i left)))
    ∙ ap (λ b. cond (adds_odd u (get_or kinds i k, get_or left i c)) (not b) b) (sym before)

-- the places of a gate that stay empty
pub empty_p : (k : Kinds) (s : State) (on : OnGate) → IsOnGate k s on → on.n.left - on.p.left ≡ empty_test P s k on.gate
empty_p k s on h = rw (h.p.left, h.n.left) refl

pub empty_n : (k : Kinds) (s : State) (on : OnGate) → IsOnGate k s on → on.p.left - on.n.left ≡ empty_test N s k on.gate
empty_n k s on h = rw (h.p.left, h.n.left) refl

pub empty_few : (row : Row) (k : Kinds) (s : State) (gate : ℕ) → AreSomeKinds k → IsState k s → empty_test row s k gate ≤ 64
empty_few P k s gate some valid = omega (arith, (few_n k s gate some valid).1)
empty_few N k s gate some valid = omega (arith, (few_p k s gate some valid).1)

pub odd_net : (row : Row) (kinds : List Kind) (left : List ℕ) (u : ℕ) → is_odd_net kinds left u ≡ is_odd (fingers_left row kinds left) u
odd_net row kinds left u = parity_mod _ ∙ sym (odd_code row kinds left u)

pub empty_is : (r q : Row) (xs ys : List Kind) (us vs : List ℕ) (nets : ℕ) → sum_below (λ g. gate_left ys vs g - gate_left xs us g) nets ≡ empty_left (fingers_left r xs us) (fingers_left q ys vs) nets
empty_is r q xs ys us vs nets = sum_below_same (λ g. gate_left ys vs g - gate_left xs us g) (λ g. on_gate g (fingers_left q ys vs) - on_gate g (fingers_left r xs us)) nets (λ g. rw (gate_code q ys vs g, gate_code r xs us g) refl)

row_code : (r q : Row) (end : Option NetNo) (xs ys : List Kind) (us vs : List ℕ) (nets : ℕ) → halved end (size nets (is_odd_behind end xs us)) - sum_below (λ g. gate_left ys vs g - gate_left xs us g) nets ≡ parity_of nets end (fingers_left r xs us) (fingers_left q ys vs)
row_code r q None xs ys us vs nets =
    let odd : size nets (is_odd_net xs us) ≡ size nets (is_odd (fingers_left r xs us)) = size_same nets (is_odd_net xs us) (is_odd (fingers_left r xs us)) (λ u l. odd_net r xs us u) in
    omega (arith, odd, empty_is r q xs ys us vs nets)
row_code r q (Some v) xs ys us vs nets =
    let odd : size nets (toggle v.0 (is_odd_net xs us)) ≡ size nets (toggle v.0 (is_odd (fingers_left r xs us))) = size_same nets (toggle v.0 (is_odd_net xs us)) (toggle v.0 (is_odd (fingers_left r xs us))) (λ u l. ap (λ b. if u == v.0 then not b else b) (odd_net r xs us u)) in
    omega (arith, odd, empty_is r q xs ys us vs nets)

-- what is computed is the parity bound
pub parity_code : (row : Row) (s : State) (k : Kinds) → parity_test row s k ≡ parity_value row s k
parity_code P s k = row_code P N s.p_end k.p k.n s.p_left s.n_left k.nets
parity_code N s k = row_code N P s.n_end k.n k.p s.n_left s.p_left k.nets
