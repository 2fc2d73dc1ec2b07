-- Fingers in order, counted kind by kind.
use Rattle.std.specs.Prelude.{ℕ, zero, suc, ◌≡◌, ◌+◌, true, false, ◌&&◌, ◌==◌, List, [], ◌∷◌, ◌++◌, length, map, replicate, All, AllPairs, IsPermutation, IsSorted, slice_index_or}
use Rattle.std.proofs.Common.{refl, sym, ap, subst, arith, ◌∙◌, inl, inr}
use Rattle.std.specs.declared.cmp.Ordering.{Ordering}
use Rattle.std.specs.declared.cmp.Ordering.TheVariants.{Less, Equal, Greater}
use Rattle.std.specs.Ordering.{nat_cmp, is_lt, ordering_reverse}
use Rattle.std.specs.Cmp.Lexicographic.{slice_cmp, nat_list_cmp_total}
use Rattle.std.proofs.lemmas.Bool.{cases_Bool, and_parts, eqb-true}
use Rattle.std.proofs.lemmas.List.Elements.{All-nil, All-cons, All-head, All-tail}
use Rattle.std.proofs.lemmas.List.Kept.{AllPairs-cons}
use Rattle.std.proofs.lemmas.List.Sorted.{All-permutation, IsPermutation-map, length_permutation}
use Rattle.std.proofs.lemmas.List.{length-map}
use Rattle.cell_num.specs.declared.finger.Row.{Row}
use Rattle.cell_num.specs.declared.finger.Finger.{Finger}
use Rattle.cell_num.specs.Fingers.{IsFinger}
use Rattle.row_model.proofs.Decide.{net_decides, same_from_fields}
use Rattle.row_state.specs.declared.kind.Kind.{Kind}
use Rattle.row_state.specs.Completion.{finger_of, fingers_left}
use Rattle.row_state.specs.Order.{KindBefore, kind_key}
use Rattle.row_state.specs.Start.{AreKindsOf, IsKind, counts_of}
use Rattle.row_state.specs.Tests.{IsSingle, is_same_kind, kind_cmp, merged, merged_all, single, with_one_more}
use Rattle.row_state.proofs.Keys.{key_trans}
use Rattle.cell_num.proofs.Lists.{all_map, all_one}
use Rattle.cell_num.proofs.Pairs.{pairs_none, pairs_one}

replicate_suc : {X : Type 0} (n : ℕ) (x : X) (xs : List X) → replicate (suc n) x ++ xs ≡ replicate n x ++ x ∷ xs
replicate_suc zero x xs = refl
replicate_suc (suc n) x xs = ap (λ ys. x ∷ ys) (replicate_suc n x xs)

replicate_more : {X : Type 0} (n : ℕ) (x : X) (xs : List X) → replicate (n + 1) x ++ xs ≡ replicate n x ++ x ∷ xs
replicate_more n x xs = let e : n + 1 ≡ suc n = omega arith in ap (λ m. replicate m x ++ xs) e ∙ replicate_suc n x xs

same_kind : (row : Row) (a b : Kind) → is_same_kind a b ≡ true → finger_of row a ≡ finger_of row b
same_kind row a b h =
    let parts : (((a.gate.0 == b.gate.0) && (a.lo.0 == b.lo.0) && (a.hi.0 == b.hi.0)) ≡ true) × ((a.width == b.width) ≡ true) = and_parts _ _ h in
    let three : (((a.gate.0 == b.gate.0) && (a.lo.0 == b.lo.0)) ≡ true) × ((a.hi.0 == b.hi.0) ≡ true) = and_parts _ _ parts.0 in
    let two : ((a.gate.0 == b.gate.0) ≡ true) × ((a.lo.0 == b.lo.0) ≡ true) = and_parts _ _ three.0 in
    same_from_fields (finger_of row a) (finger_of row b) refl ((net_decides a.gate b.gate).0 two.0) ((net_decides a.lo b.lo).0 two.1) ((net_decides a.hi b.hi).0 three.1) (eqb-true _ _ parts.1)

same_key : (a b : Kind) → is_same_kind a b ≡ true → kind_key a ≡ kind_key b
same_key a b h =
    let parts : (((a.gate.0 == b.gate.0) && (a.lo.0 == b.lo.0) && (a.hi.0 == b.hi.0)) ≡ true) × ((a.width == b.width) ≡ true) = and_parts _ _ h in
    let three : (((a.gate.0 == b.gate.0) && (a.lo.0 == b.lo.0)) ≡ true) × ((a.hi.0 == b.hi.0) ≡ true) = and_parts _ _ parts.0 in
    let two : ((a.gate.0 == b.gate.0) ≡ true) × ((a.lo.0 == b.lo.0) ≡ true) = and_parts _ _ three.0 in
    rw (eqb-true _ _ two.0, eqb-true _ _ two.1, eqb-true _ _ three.1, eqb-true _ _ parts.1) refl

-- the same fingers stand behind the merged kinds
pub merged_fingers : (row : Row) (k : Kind) (xs : List Kind) → All IsSingle xs → fingers_left row (merged k xs) (counts_of (merged k xs)) ≡ replicate k.count (finger_of row k) ++ map (finger_of row) xs
merged_fingers row k [] ones = refl
merged_fingers row k (x ∷ xs) ones =
    let one : x.count ≡ 1 = All-head IsSingle x xs ones in
    let rest : All IsSingle xs = All-tail IsSingle x xs ones in
    elim (cases_Bool (is_same_kind k x)) [
      | inl same ↦
          let inner : fingers_left row (merged (with_one_more k) xs) (counts_of (merged (with_one_more k) xs)) ≡ replicate (k.count + 1) (finger_of row k) ++ map (finger_of row) xs = merged_fingers row (with_one_more k) xs rest in
          rw same (inner ∙ replicate_more k.count (finger_of row k) (map (finger_of row) xs) ∙ ap (λ f. replicate k.count (finger_of row k) ++ f ∷ map (finger_of row) xs) (same_kind row k x same))
      | inr other ↦
          let inner : fingers_left row (merged x xs) (counts_of (merged x xs)) ≡ replicate x.count (finger_of row x) ++ map (finger_of row) xs = merged_fingers row x xs rest in
          rw other (ap (λ fs. replicate k.count (finger_of row k) ++ fs) (inner ∙ ap (λ n. replicate n (finger_of row x) ++ map (finger_of row) xs) one))
    ]

merged_by : (P : List Kind → Type 0) (k x : Kind) (xs : List Kind) → (is_same_kind k x ≡ true → P (merged (with_one_more k) xs)) → (is_same_kind k x ≡ false → P (k ∷ merged x xs)) → P (merged k (x ∷ xs))
merged_by P k x xs same other = elim (cases_Bool (is_same_kind k x)) [ inl e ↦ rw e (same e) | inr e ↦ rw e (other e) ]

more_is : (nets : ℕ) (k : Kind) → IsKind nets k → IsKind nets (with_one_more k)
more_is nets k h = record { gate = h.gate; order = h.order; ends = h.ends; some = omega arith }

pub merged_kinds : (nets : ℕ) (k : Kind) (xs : List Kind) → IsKind nets k → All (IsKind nets) xs → All (IsKind nets) (merged k xs)
merged_kinds nets k [] here rest = all_one (IsKind nets) k here
merged_kinds nets k (x ∷ xs) here rest =
    merged_by (All (IsKind nets)) k x xs
    (λ same. merged_kinds nets (with_one_more k) xs (more_is nets k here) (All-tail (IsKind nets) x xs rest))
    (λ other. All-cons (IsKind nets) k (merged x xs) here (merged_kinds nets x xs (All-head (IsKind nets) x xs rest) (All-tail (IsKind nets) x xs rest)))

-- no kind comes before the one in front of it
abbrev pub Ascends : Kind → List Kind → Type 0
Ascends k [] = Unit {0}
Ascends k (x ∷ xs) = (is_lt (slice_cmp nat_cmp (kind_key x) (kind_key k)) ≡ false) × Ascends x xs

ascends_from : (j k : Kind) (xs : List Kind) → kind_key j ≡ kind_key k → Ascends k xs → Ascends j xs
ascends_from j k [] e h = tt
ascends_from j k (x ∷ xs) e (below, rest) = (subst (λ key. is_lt (slice_cmp nat_cmp (kind_key x) key) ≡ false) (sym e) below, rest)

turned : (o : Ordering) → is_lt (ordering_reverse o) ≡ false → (o ≡ Equal → ⊥) → is_lt o ≡ true
turned Less h ne = refl
turned Equal h ne = absurd (ne refl)
turned Greater h ne = cc

equal_keys : (a b : Kind) → slice_cmp nat_cmp (kind_key a) (kind_key b) ≡ Equal → is_same_kind a b ≡ true
equal_keys a b e = grind (arith, e)

-- of two neighbours in order that are not of one kind the first comes before
before : (a b : Kind) → is_lt (slice_cmp nat_cmp (kind_key b) (kind_key a)) ≡ false → is_same_kind a b ≡ false → KindBefore a b
before a b h other =
    turned (slice_cmp nat_cmp (kind_key a) (kind_key b)) (sym (ap is_lt (nat_list_cmp_total.antisymm (kind_key b) (kind_key a))) ∙ h)
    (λ e. let same : is_same_kind a b ≡ true = equal_keys a b e in cc)

all_behind : (j k : Kind) (xs : List Kind) → KindBefore j k → Ascends k xs → All (KindBefore j) (merged k xs)
all_behind j k [] l h = all_one (KindBefore j) k l
all_behind j k (x ∷ xs) l (below, rest) =
    merged_by (All (KindBefore j)) k x xs
    (λ same. all_behind j (with_one_more k) xs l (ascends_from (with_one_more k) x xs (same_key k x same) rest))
    (λ other. All-cons (KindBefore j) k (merged x xs) l (all_behind j x xs (key_trans (kind_key j) (kind_key k) (kind_key x) l (before k x below other)) rest))

pub merged_order : (k : Kind) (xs : List Kind) → Ascends k xs → AllPairs KindBefore (merged k xs)
merged_order k [] h = pairs_one KindBefore k
merged_order k (x ∷ xs) (below, rest) =
    merged_by (AllPairs KindBefore) k x xs
    (λ same. merged_order (with_one_more k) xs (ascends_from (with_one_more k) x xs (same_key k x same) rest))
    (λ other. AllPairs-cons KindBefore k (merged x xs) (all_behind k x xs (before k x below other) rest) (merged_order x xs rest))

-- kinds that are sorted ascend
by_key : (a b : Kind) → a.count ≡ 1 → b.count ≡ 1 → is_lt (kind_cmp a b) ≡ false → is_lt (slice_cmp nat_cmp (kind_key a) (kind_key b)) ≡ false
by_key a b one also h = grind (arith, one, also, h)

pub sorted_ascends : (k : Kind) (xs : List Kind) → All IsSingle (k ∷ xs) → IsSorted kind_cmp (k ∷ xs) → Ascends k xs
sorted_ascends k [] ones h = tt
sorted_ascends k (x ∷ xs) ones h =
    let rest : All IsSingle (x ∷ xs) = All-tail IsSingle k (x ∷ xs) ones in (
      by_key x k (All-head IsSingle x xs rest) (All-head IsSingle k (x ∷ xs) ones) (h zero k (omega arith) (omega arith)),
      sorted_ascends x xs rest (λ i d l m. let e : suc i + 1 ≡ suc (i + 1) = omega arith in subst (λ n. is_lt (kind_cmp (slice_index_or (k ∷ x ∷ xs) n d) (slice_index_or (x ∷ xs) i d)) ≡ false) e (h (suc i) d (omega arith) (omega (arith, m)))),
    )

back : (row : Row) (nets : ℕ) (fingers : List Finger) → All (IsFinger row nets) fingers → map (finger_of row) (map single fingers) ≡ fingers
back row nets [] h = refl
back row nets (f ∷ fs) h =
    let here : IsFinger row nets f = All-head (IsFinger row nets) f fs h in
    let same : finger_of row (single f) ≡ f = same_from_fields (finger_of row (single f)) f (sym here.row) refl refl refl refl in
    ap (λ g. g ∷ map (finger_of row) (map single fs)) same ∙ ap (λ gs. f ∷ gs) (back row nets fs (All-tail (IsFinger row nets) f fs h))

single_kind : (row : Row) (nets : ℕ) (f : Finger) → IsFinger row nets f → IsKind nets (single f)
single_kind row nets f h = record { gate = h.gate; order = h.order; ends = h.ends; some = omega arith }

pub all_single : (fingers : List Finger) → All IsSingle (map single fingers)
all_single [] = All-nil IsSingle
all_single (f ∷ fs) = All-cons IsSingle (single f) (map single fs) refl (all_single fs)

pub ones_moved : (fingers : List Finger) (xs : List Kind) → IsPermutation (map single fingers) xs → All IsSingle xs
ones_moved fingers xs moved = All-permutation IsSingle (map single fingers) xs moved (all_single fingers)

pub len_moved : (fingers : List Finger) (xs : List Kind) → IsPermutation (map single fingers) xs → length xs ≡ length fingers
len_moved fingers xs moved = length_permutation (map single fingers) xs moved ∙ length-map fingers single

all_fingers : (row : Row) (xs : List Kind) → All IsSingle xs → fingers_left row (merged_all xs) (counts_of (merged_all xs)) ≡ map (finger_of row) xs
all_fingers row [] ones = refl
all_fingers row (k ∷ xs) ones =
    let one : k.count ≡ 1 = All-head IsSingle k xs ones in
    merged_fingers row k xs (All-tail IsSingle k xs ones) ∙ ap (λ n. replicate n (finger_of row k) ++ map (finger_of row) xs) one

all_kinds : (nets : ℕ) (xs : List Kind) → All (IsKind nets) xs → All (IsKind nets) (merged_all xs)
all_kinds nets [] h = All-nil (IsKind nets)
all_kinds nets (k ∷ xs) h = merged_kinds nets k xs (All-head (IsKind nets) k xs h) (All-tail (IsKind nets) k xs h)

all_order : (xs : List Kind) → All IsSingle xs → IsSorted kind_cmp xs → AllPairs KindBefore (merged_all xs)
all_order [] ones h = pairs_none KindBefore
all_order (k ∷ xs) ones h = merged_order k xs (sorted_ascends k xs ones h)

-- the kinds of fingers
pub kinds_from : (row : Row) (nets : ℕ) (fingers : List Finger) (xs kinds : List Kind) → IsPermutation (map single fingers) xs → IsSorted kind_cmp xs → All IsSingle xs → kinds ≡ merged_all xs → All (IsFinger row nets) fingers → AreKindsOf row nets fingers kinds
kinds_from row nets fingers xs kinds moved sorted ones is h =
    let named : All (IsKind nets) xs = All-permutation (IsKind nets) (map single fingers) xs moved (all_map (IsFinger row nets) (IsKind nets) single fingers (single_kind row nets) h) in
    let same : IsPermutation (map (finger_of row) (map single fingers)) (map (finger_of row) xs) = IsPermutation-map (finger_of row) (map single fingers) xs moved in
    let left : IsPermutation fingers (map (finger_of row) xs) = subst (λ fs. IsPermutation fs (map (finger_of row) xs)) (back row nets fingers h) same in
    subst (AreKindsOf row nets fingers) (sym is)
    (record {
      fingers = subst (λ fs. IsPermutation fingers fs) (sym (all_fingers row xs ones)) left;
      sound = all_kinds nets xs named;
      order = all_order xs ones sorted;
    })
