-- The component bound as it is computed.
use Rattle.std.specs.Prelude.{ℕ, zero, suc, ◌≡◌, ◌+◌, ◌-◌, ◌/◌, ◌≤◌, ◌<◌, Bool, true, false, not, ◌&&◌, ◌||◌, ◌==◌, if◌then◌else◌, List, [], ◌∷◌, ◌++◌, Some, None, All, drop, get_or, length, replicate, slice_set}
use Rattle.std.proofs.Common.{inl, inr, refl, sym, ap, arith, ◌∙◌}
use Rattle.std.proofs.lemmas.Bool.{cases_eq, eq-eqb, ne_eqb}
use Rattle.std.proofs.lemmas.List.{get_or-set_other, get_or-set_same}
use Rattle.std.proofs.lemmas.List.Elements.{All-head, All-tail}
use Rattle.cell_num.specs.Fingers.{sum_below}
use Rattle.cell_num.specs.declared.finger.Finger.{Finger}
use Rattle.cell_num.specs.declared.finger.Row.{Row}
use Rattle.cell_num.specs.declared.finger.Row.TheVariants.{P, N}
use Rattle.cell_num.specs.declared.net.NetNo.{NetNo}
use Rattle.row_trails.specs.Counts.{entry, fewest_trails, flag, size_in}
use Rattle.row_trails.specs.Trails.{size_same, toggle}
use Rattle.row_state.specs.Chained.{least_labels, least_le}
use Rattle.row_state.specs.ClassSizes.{joined_alike, size_in_other, size_in_same}
use Rattle.row_state.specs.Classes.{joined, least_chained}
use Rattle.row_state.specs.Completion.{finger_of, fingers_left}
use Rattle.row_state.specs.Component.{component_trails, component_value, further_trails, has_finger, trails_behind, trails_of}
use Rattle.row_state.specs.ClassWalks.{EndsBelow}
use Rattle.row_state.specs.ComponentLaw.{ends_left}
use Rattle.row_state.specs.Gates.{OneDiffers, one_differs, sum_below_same}
use Rattle.row_state.specs.Parity.{is_odd}
use Rattle.row_state.specs.Start.{IsKind}
use Rattle.row_state.specs.Tests.{empty_test, is_odd_behind, left_of}
use Rattle.row_state.specs.Trails.{end_of}
use Rattle.row_state.specs.declared.kind.Kind.{Kind}
use Rattle.row_state.specs.declared.kind.Kinds.{Kinds}
use Rattle.row_state.specs.declared.state.State.{State}
use Rattle.row_state.proofs.ParityCode.{empty_is, odd_net}

-- the last kinds' fingers
fingers_more : (row : Row) (kinds : List Kind) (left : List ℕ) (i : ℕ) (k : Kind) → i < length kinds → length left ≡ length kinds → fingers_left row (drop i kinds) (drop i left) ≡ replicate (get_or left i 0) (finger_of row (get_or kinds i k)) ++ fingers_left row (drop (suc i) kinds) (drop (suc i) left)
fingers_more row [] left i k l same = absurd (omega (arith, l))
fingers_more row (x ∷ xs) [] i k l same = absurd (omega (arith, same))
fingers_more row (x ∷ xs) (y ∷ ys) zero k l same = refl
fingers_more row (x ∷ xs) (y ∷ ys) (suc i) k l same = fingers_more row xs ys i k (omega (arith, l)) (omega (arith, same))

-- with a kind of which no finger is left
pub fingers_skip : (row : Row) (kinds : List Kind) (left : List ℕ) (at : ℕ) (k : Kind) → 0 < at → at ≤ length kinds → length left ≡ length kinds → get_or left (at - 1) 0 ≡ 0 → fingers_left row (drop (at - 1) kinds) (drop (at - 1) left) ≡ fingers_left row (drop at kinds) (drop at left)
fingers_skip row kinds left at k some within same none =
    let e : suc (at - 1) ≡ at = omega (arith, some) in
    fingers_more row kinds left (at - 1) k (omega (arith, some, within)) same
    ∙ ap (λ n. replicate n (finger_of row (get_or kinds (at - 1) k)) ++ fingers_left row (drop (suc (at - 1)) kinds) (drop (suc (at - 1)) left)) none
    ∙ ap (λ n. fingers_left row (drop n kinds) (drop n left)) e

fingers_some : (row : Row) (kinds : List Kind) (left : List ℕ) (at : ℕ) (k : Kind) → 0 < at → at ≤ length kinds → length left ≡ length kinds → 0 < get_or left (at - 1) 0 → fingers_left row (drop (at - 1) kinds) (drop (at - 1) left) ≡ replicate (suc (get_or left (at - 1) 0 - 1)) (finger_of row (get_or kinds (at - 1) k)) ++ fingers_left row (drop at kinds) (drop at left)
fingers_some row kinds left at k some within same more =
    let e : suc (at - 1) ≡ at = omega (arith, some) in
    let n : get_or left (at - 1) 0 ≡ suc (get_or left (at - 1) 0 - 1) = omega (arith, more) in
    fingers_more row kinds left (at - 1) k (omega (arith, some, within)) same
    ∙ ap (λ m. replicate m (finger_of row (get_or kinds (at - 1) k)) ++ fingers_left row (drop (suc (at - 1)) kinds) (drop (suc (at - 1)) left)) n
    ∙ ap (λ m. replicate (suc (get_or left (at - 1) 0 - 1)) (finger_of row (get_or kinds (at - 1) k)) ++ fingers_left row (drop m kinds) (drop m left)) e

-- fingers alike join their ends once
least_replicate : (c : ℕ) (f : Finger) (fs : List Finger) (u : ℕ) → least_chained (replicate (suc c) f ++ fs) u ≡ joined (least_chained fs f.lo.0) (least_chained fs f.hi.0) (least_chained fs u)
least_replicate zero f fs u = refl
least_replicate (suc c) f fs u =
    let gs : List Finger = replicate (suc c) f ++ fs in
    let same : least_chained gs f.lo.0 ≡ least_chained gs f.hi.0 = All-head (λ (g : Finger). least_chained gs g.lo.0 ≡ least_chained gs g.hi.0) f (replicate c f ++ fs) (least_labels gs) in
    joined_alike (least_chained gs f.lo.0) (least_chained gs f.hi.0) (least_chained gs u) same ∙ least_replicate c f fs u

or_again : (a b : Bool) → (a || (a || b)) ≡ (a || b)
or_again true b = refl
or_again false b = refl

has_replicate : (class : ℕ → ℕ) (c : ℕ) (f : Finger) (fs : List Finger) (h : ℕ) → has_finger class (replicate (suc c) f ++ fs) h ≡ ((class f.lo.0 == h) || has_finger class fs h)
has_replicate class zero f fs h = refl
has_replicate class (suc c) f fs h = ap (λ x. (class f.lo.0 == h) || x) (has_replicate class c f fs h) ∙ or_again (class f.lo.0 == h) (has_finger class fs h)

-- the classes with a kind more
pub class_more : (row : Row) (kinds : List Kind) (left : List ℕ) (at : ℕ) (k : Kind) (nets u : ℕ) (old new : List ℕ) → 0 < at → at ≤ length kinds → length left ≡ length kinds → 0 < get_or left (at - 1) 0 → All (IsKind nets) kinds → ((row : Row) (v : ℕ) → v < nets → get_or old v 0 ≡ least_chained (fingers_left row (drop at kinds) (drop at left)) v) → ((v : ℕ) → v < nets → get_or new v 0 ≡ joined (get_or old (get_or kinds (at - 1) k).lo.0 0) (get_or old (get_or kinds (at - 1) k).hi.0 0) (get_or old v 0)) → u < nets → get_or new u 0 ≡ least_chained (fingers_left row (drop (at - 1) kinds) (drop (at - 1) left)) u
class_more row kinds left at k nets u old new some within same more sound is step u_net =
    let kind : Kind = get_or kinds (at - 1) k in
    let here : IsKind nets kind = sound (at - 1) k (omega (arith, some, within)) in
    let fs : List Finger = fingers_left row (drop at kinds) (drop at left) in
    let lo : get_or old kind.lo.0 0 ≡ least_chained fs kind.lo.0 = is row kind.lo.0 (omega (arith, here.order, here.ends)) in
    let hi : get_or old kind.hi.0 0 ≡ least_chained fs kind.hi.0 = is row kind.hi.0 here.ends in
    let before : get_or old u 0 ≡ least_chained fs u = is row u u_net in
    step u u_net
    ∙ ap (λ x. joined x (get_or old kind.hi.0 0) (get_or old u 0)) lo
    ∙ ap (λ x. joined (least_chained fs kind.lo.0) x (get_or old u 0)) hi
    ∙ ap (joined (least_chained fs kind.lo.0) (least_chained fs kind.hi.0)) before
    ∙ sym (least_replicate (get_or left (at - 1) 0 - 1) (finger_of row kind) fs u)
    ∙ ap (λ gs. least_chained gs u) (sym (fingers_some row kinds left at k some within same more))

-- a class more that has a finger
pub met_more : (row : Row) (kinds : List Kind) (left : List ℕ) (at : ℕ) (k : Kind) (h : ℕ) (class : ℕ → ℕ) (met : List Bool) → 0 < at → at ≤ length kinds → length left ≡ length kinds → 0 < get_or left (at - 1) 0 → class (get_or kinds (at - 1) k).lo.0 < length met → ((row : Row) (h : ℕ) → get_or met h false ≡ has_finger class (fingers_left row (drop at kinds) (drop at left)) h) → get_or (slice_set met (class (get_or kinds (at - 1) k).lo.0) true) h false ≡ has_finger class (fingers_left row (drop (at - 1) kinds) (drop (at - 1) left)) h
met_more row kinds left at k h class met some within same more place is =
    let kind : Kind = get_or kinds (at - 1) k in
    let fs : List Finger = fingers_left row (drop at kinds) (drop at left) in
    let there : has_finger class (fingers_left row (drop (at - 1) kinds) (drop (at - 1) left)) h ≡ ((class kind.lo.0 == h) || has_finger class fs h) =
    ap (λ gs. has_finger class gs h) (fingers_some row kinds left at k some within same more) ∙ has_replicate class (get_or left (at - 1) 0 - 1) (finger_of row kind) fs h in
    put ∙ sym there
  where
    put : get_or (slice_set met (class (get_or kinds (at - 1) k).lo.0) true) h false ≡ ((class (get_or kinds (at - 1) k).lo.0 == h) || has_finger class (fingers_left row (drop at kinds) (drop at left)) h)
    put = elim (cases_eq h (class (get_or kinds (at - 1) k).lo.0)) [
      | inl e ↦
          let set : get_or (slice_set met (class (get_or kinds (at - 1) k).lo.0) true) (class (get_or kinds (at - 1) k).lo.0) false ≡ true = get_or-set_same met (class (get_or kinds (at - 1) k).lo.0) true false place in
          rw (eq-eqb (class (get_or kinds (at - 1) k).lo.0) h (sym e)) (ap (λ x. get_or (slice_set met (class (get_or kinds (at - 1) k).lo.0) true) x false) e ∙ set)
      | inr other ↦
          rw (ne_eqb (class (get_or kinds (at - 1) k).lo.0) h (λ e. other (sym e))) (get_or-set_other met (class (get_or kinds (at - 1) k).lo.0) h true false other ∙ is row h)
    ]

-- behind all kinds no finger is left
pub none_behind : (row : Row) (kinds : List Kind) (left : List ℕ) → fingers_left row (drop (length kinds) kinds) (drop (length kinds) left) ≡ []
none_behind row [] left = refl
none_behind row (k ∷ ks) [] = nothing (drop (length ks) ks)
  where
    nothing : (xs : List Kind) → fingers_left row xs [] ≡ []
    nothing [] = refl
    nothing (x ∷ xs) = refl
none_behind row (k ∷ ks) (c ∷ cs) = none_behind row ks cs

-- classes that are those of the nets
has_below : (c d : ℕ → ℕ) (nets : ℕ) (fs : List Finger) (h : ℕ) → All (EndsBelow nets) fs → ((u : ℕ) → u < nets → c u ≡ d u) → has_finger c fs h ≡ has_finger d fs h
has_below c d nets [] h ends same = refl
has_below c d nets (f ∷ fs) h ends same =
    let here : EndsBelow nets f = All-head (EndsBelow nets) f fs ends in
    let first : (c f.lo.0 == h) ≡ (d f.lo.0 == h) = ap (λ x. x == h) (same f.lo.0 here.0) in
    rw (first, has_below c d nets fs h (All-tail (EndsBelow nets) f fs ends) same) refl

-- what the passes over kinds and nets found
pub record IsFound (nets : ℕ) (fs : List Finger) (classes : List ℕ) (odd : ℕ → Bool) (met : List Bool) (counts : List ℕ) : Type 0 where
  pub classes_are : (u : ℕ) → u < nets → get_or classes u 0 ≡ least_chained fs u
  pub met_are : (h : ℕ) → get_or met h false ≡ has_finger (least_chained fs) fs h
  pub counts_are : (h : ℕ) → get_or counts h 0 ≡ size_in nets (least_chained fs) odd h

pub found : (row : Row) (kinds : List Kind) (left : List ℕ) (nets : ℕ) (classes : List ℕ) (set : List Bool) (odd : ℕ → Bool) (met : List Bool) (counts : List ℕ) → All (IsKind nets) kinds
    → ((row : Row) (u : ℕ) → u < nets → get_or classes u 0 ≡ least_chained (fingers_left row kinds left) u)
    → ((row : Row) (h : ℕ) → get_or met h false ≡ has_finger (entry classes) (fingers_left row kinds left) h)
    → ((u : ℕ) → get_or set u false ≡ odd u)
    → ((h : ℕ) → get_or counts h 0 ≡ size_in nets (entry classes) (flag set) h)
    → IsFound nets (fingers_left row kinds left) classes odd met counts
found row kinds left nets classes set odd met counts sound classes_are met_are set_is counts_are =
    let fs : List Finger = fingers_left row kinds left in
    record {
      classes_are = classes_are row;
      met_are = λ h. met_are row h ∙ has_below (entry classes) (least_chained fs) nets fs h (ends_left row kinds left nets sound) (classes_are row);
      counts_are = λ h. counts_are h ∙ size_same nets (λ u. (get_or classes u 0 == h) && get_or set u false) (λ u. (least_chained fs u == h) && odd u) (λ u l. ap (λ x. (x == h) && get_or set u false) (classes_are row u l) ∙ ap (λ x. (least_chained fs u == h) && x) (set_is u));
    }

trails_are : (has has' : Bool) (m m' : ℕ) → has ≡ has' → m ≡ m' → fewest_trails has m ≡ fewest_trails has' m'
trails_are has has' m m' e f = rw (e, f) refl

-- without an open end
pub trails_free : (nets : ℕ) (fs : List Finger) (classes : List ℕ) (odd : ℕ → Bool) (met : List Bool) (counts : List ℕ) (sum : ℕ) → IsFound nets fs classes odd met counts → ((u : ℕ) → odd u ≡ is_odd fs u) → sum ≡ sum_below (λ h. fewest_trails (flag met h) (entry counts h)) nets → sum - 1 ≡ further_trails nets None fs
trails_free nets fs classes odd met counts sum are odd_is is =
    let same : sum_below (λ h. fewest_trails (flag met h) (entry counts h)) nets ≡ sum_below (trails_of nets fs) nets =
    sum_below_same _ _ nets (λ h. trails_are (get_or met h false) (has_finger (least_chained fs) fs h) (get_or counts h 0) (size_in nets (least_chained fs) (is_odd fs) h) (are.met_are h)
    (are.counts_are h ∙ size_in_same nets (least_chained fs) odd (is_odd fs) h (λ u e. odd_is u))) in
    omega (arith, is, same)

-- a class out of the set
unmet : (met : List Bool) (class : ℕ) → get_or (slice_set met class false) class false ≡ false
unmet [] class = refl
unmet (x ∷ xs) zero = refl
unmet (x ∷ xs) (suc class) = unmet xs class

-- behind an open end
pub trails_open : (nets v : ℕ) (fs : List Finger) (classes : List ℕ) (odd : ℕ → Bool) (met : List Bool) (counts : List ℕ) (sum : ℕ) → v < nets → IsFound nets fs classes odd met counts → ((u : ℕ) → odd u ≡ toggle v (is_odd fs) u)
    → sum ≡ sum_below (λ h. fewest_trails (flag (slice_set met (entry classes v) false) h) (entry counts h)) nets
    → (get_or counts (get_or classes v 0) 0 - 1) / 2 + sum ≡ sum_below (trails_behind nets fs v) nets
trails_open nets v fs classes odd met counts sum v_net are odd_is is =
    let class : ℕ = get_or classes v 0 in
    let class_is : class ≡ least_chained fs v = are.classes_are v v_net in
    let f : ℕ → ℕ = λ h. fewest_trails (flag (slice_set met class false) h) (entry counts h) in
    let own : f class ≡ 0 = rw (unmet met class) refl in
    let toggled : get_or counts class 0 ≡ size_in nets (least_chained fs) (toggle v (is_odd fs)) class = are.counts_are class ∙ size_in_same nets (least_chained fs) odd (toggle v (is_odd fs)) class (λ u e. odd_is u) in
    let here : trails_behind nets fs v class ≡ (size_in nets (least_chained fs) (toggle v (is_odd fs)) class - 1) / 2 = rw (eq-eqb class (least_chained fs v) class_is) refl in
    let differs : OneDiffers (trails_behind nets fs v) f nets class = one_differs (trails_behind nets fs v) f nets class (λ h other. behind_other h other) in
    omega (arith, is, own, toggled, here, differs.within (omega (arith, class_is, v_net, least_le fs v)))
  where
    behind_other : (h : ℕ) → (h ≡ get_or classes v 0 → ⊥) → trails_behind nets fs v h ≡ (fewest_trails (flag (slice_set met (entry classes v) false) h) (entry counts h))
    behind_other h other =
        let not_own : h ≡ least_chained fs v → ⊥ = λ e. other (e ∙ sym (are.classes_are v v_net)) in
        let met_is : has_finger (least_chained fs) fs h ≡ get_or (slice_set met (get_or classes v 0) false) h false = sym (get_or-set_other met (get_or classes v 0) h false false other ∙ are.met_are h) in
        let size_is : size_in nets (least_chained fs) (is_odd fs) h ≡ get_or counts h 0 =
        sym (are.counts_are h ∙ size_in_same nets (least_chained fs) odd (toggle v (is_odd fs)) h (λ u e. odd_is u) ∙ size_in_other nets (least_chained fs) (is_odd fs) h v (λ e. not_own (sym e))) in
        let there : trails_behind nets fs v h ≡ trails_of nets fs h = rw (ne_eqb h (least_chained fs v) not_own) refl in
        there ∙ trails_are (has_finger (least_chained fs) fs h) (get_or (slice_set met (get_or classes v 0) false) h false) (size_in nets (least_chained fs) (is_odd fs) h) (get_or counts h 0) met_is size_is

pub odd_free : (row : Row) (kinds : List Kind) (left : List ℕ) (u : ℕ) → is_odd_behind None kinds left u ≡ is_odd (fingers_left row kinds left) u
odd_free row kinds left u = odd_net row kinds left u

pub odd_open : (row : Row) (kinds : List Kind) (left : List ℕ) (v : NetNo) (u : ℕ) → is_odd_behind (Some v) kinds left u ≡ toggle v.0 (is_odd (fingers_left row kinds left)) u
odd_open row kinds left v u = ap (λ b. if u == v.0 then not b else b) (odd_net row kinds left u)

-- what is computed is the component bound
pub component_code : (row : Row) (s : State) (k : Kinds) (trails empty : ℕ) → trails ≡ component_trails row (end_of row s) (left_of row s) k → empty ≡ sum_below (empty_test row s k) k.nets → trails - empty ≡ component_value row s k
unfolding component_value
component_code P s k trails empty is none =
    omega (arith, is, none, empty_is P N k.p k.n s.p_left s.n_left k.nets)
component_code N s k trails empty is none =
    omega (arith, is, none, empty_is N P k.n k.p s.n_left s.p_left k.nets)

-- without trails no place counts
pub component_none : (row : Row) (s : State) (k : Kinds) (trails : ℕ) → trails ≡ component_trails row (end_of row s) (left_of row s) k → trails ≡ 0 → 0 ≡ component_value row s k
component_none row s k trails is none =
    let whole = component_code row s k trails (sum_below (empty_test row s k) k.nets) is refl in
    omega (arith, whole, none)
