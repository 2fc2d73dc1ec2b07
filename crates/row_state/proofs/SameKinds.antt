-- Fingers have one list of kinds alone.
use Rattle.std.specs.Prelude.{ℕ, zero, suc, ◌≡◌, ◌*◌, ◌<◌, Bool, true, false, not, cond, List, [], ◌∷◌, ◌++◌, replicate, count_by, sum_by, All, AllPairs, Contains, IsPermutation}
use Rattle.std.proofs.Common.{refl, sym, ap, subst, arith, ◌∙◌}
use Rattle.std.specs.declared.cmp.Ordering.{Ordering}
use Rattle.std.specs.declared.cmp.Ordering.TheVariants.{Less, Equal, Greater}
use Rattle.std.specs.Ordering.{nat_cmp, is_lt, ordering_reverse}
use Rattle.std.specs.Cmp.Lexicographic.{slice_cmp, nat_list_cmp_total, texts_ties}
use Rattle.std.proofs.lemmas.Slice.Eq.{bytes_eq-Decides}
use Rattle.std.proofs.lemmas.List.Elements.{All-nil, All-cons, All-head, All-tail, All-append, All-replicate, All-contains, Contains-append_left}
use Rattle.std.proofs.lemmas.List.Sorted.{Contains-permutation, IsPermutation-sym, IsPermutation-trans, sum_by-IsPermutation}
use Rattle.std.proofs.lemmas.List.Sums.{sum_by-cons, sum_by-append}
use Rattle.std.proofs.lemmas.List.Folds.{sum_by-replicate}
use Rattle.cell_num.specs.declared.finger.Row.{Row}
use Rattle.cell_num.specs.declared.finger.Row.TheVariants.{P, N}
use Rattle.cell_num.specs.declared.finger.Finger.{Finger}
use Rattle.cell_num.specs.declared.finger.Fingers.{Fingers}
use Rattle.cell_num.specs.declared.net.NetNo.{NetNo}
use Rattle.row_state.specs.declared.kind.Kind.{Kind}
use Rattle.row_state.specs.declared.kind.Kinds.{Kinds}
use Rattle.row_state.specs.Completion.{finger_of, fingers_left}
use Rattle.row_state.specs.Order.{KeyBefore, KindBefore, kind_key}
use Rattle.row_state.specs.Start.{AreKinds, AreSomeKinds, IsKind, counts_of}
use Rattle.row_state.proofs.Keys.{key_trans}
use Rattle.row_state.proofs.Left.{IsPermutation-uncons}
use Rattle.cell_num.proofs.Lists.{all_imply, contains_here}
use Rattle.cell_num.proofs.Pairs.{pairs_head, pairs_tail}

abbrev finger_key : Finger → List ℕ
finger_key f = f.gate.0 ∷ f.lo.0 ∷ f.hi.0 ∷ f.width ∷ []

abbrev of_kinds : Row → List Kind → List Finger
of_kinds row kinds = fingers_left row kinds (counts_of kinds)

all_of_kinds : (R : Finger → Type 0) (row : Row) (kinds : List Kind) → All (λ k. R (finger_of row k)) kinds → All R (of_kinds row kinds)
all_of_kinds R row [] h = All-nil R
all_of_kinds R row (k ∷ ks) h =
    All-append R (replicate k.count (finger_of row k)) (of_kinds row ks)
    (All-replicate R k.count (finger_of row k) (All-head (λ (j : Kind). R (finger_of row j)) k ks h))
    (all_of_kinds R row ks (All-tail (λ (j : Kind). R (finger_of row j)) k ks h))

contains_copy : (n : ℕ) (f : Finger) → 0 < n → Contains (replicate n f) f
contains_copy zero f h = absurd (omega (arith, h))
contains_copy (suc n) f h = contains_here f (replicate n f)

contains_first : (row : Row) (k : Kind) (ks : List Kind) → 0 < k.count → Contains (of_kinds row (k ∷ ks)) (finger_of row k)
contains_first row k ks some = Contains-append_left (replicate k.count (finger_of row k)) (of_kinds row ks) (finger_of row k) (contains_copy k.count (finger_of row k) some)

not_turned : (o : Ordering) → o ≡ ordering_reverse o → is_lt o ≡ false
not_turned Less e = cc
not_turned Equal e = refl
not_turned Greater e = refl

not_itself : (key : List ℕ) → is_lt (slice_cmp nat_cmp key key) ≡ false
not_itself key = not_turned (slice_cmp nat_cmp key key) (nat_list_cmp_total.antisymm key key)

never : (b : Bool) → b ≡ false → b ≡ true → ⊥
never b f t = cc

abbrev NotBelow : List ℕ → Finger → Type 0
NotBelow key f = KeyBefore (finger_key f) key → ⊥

-- no finger of kinds in order comes before the first kind
none_below : (row : Row) (k : Kind) (ks : List Kind) → AllPairs KindBefore (k ∷ ks) → All (NotBelow (kind_key k)) (of_kinds row (k ∷ ks))
none_below row k ks order =
    all_of_kinds (NotBelow (kind_key k)) row (k ∷ ks)
    (All-cons (λ (j : Kind). NotBelow (kind_key k) (finger_of row j)) k ks
    (λ h. never (is_lt (slice_cmp nat_cmp (kind_key k) (kind_key k))) (not_itself (kind_key k)) h)
    (all_imply (KindBefore k) (λ (j : Kind). NotBelow (kind_key k) (finger_of row j)) ks
    (λ j before h. never (is_lt (slice_cmp nat_cmp (kind_key k) (kind_key k))) (not_itself (kind_key k)) (key_trans (kind_key k) (kind_key j) (kind_key k) before h))
    (pairs_head KindBefore k ks order)))

neither : (o q : Ordering) → q ≡ ordering_reverse o → (is_lt o ≡ true → ⊥) → (is_lt q ≡ true → ⊥) → o ≡ Equal
neither Less q e h i = absurd (h refl)
neither Equal q e h i = refl
neither Greater q e h i = absurd (i (ap is_lt e))

same_keys : (a b : List ℕ) → (KeyBefore a b → ⊥) → (KeyBefore b a → ⊥) → a ≡ b
same_keys a b h i =
    let equal : slice_cmp nat_cmp a b ≡ Equal = neither (slice_cmp nat_cmp a b) (slice_cmp nat_cmp b a) (nat_list_cmp_total.antisymm b a) h i in
    (bytes_eq-Decides a b).0 (texts_ties a b ∙ rw equal refl)

number_in : List ℕ → ℕ → ℕ
number_in [] i = 0
number_in (x ∷ xs) zero = x
number_in (x ∷ xs) (suc i) = number_in xs i

abbrev net_in : List ℕ → ℕ → NetNo
net_in key i = record { 0 = number_in key i }

kind_from : List ℕ → ℕ → Kind
kind_from key count = record { gate = net_in key 0; lo = net_in key 1; hi = net_in key 2; width = number_in key 3; count = count }

same_kind_from : (a b : Kind) → kind_key a ≡ kind_key b → a.count ≡ b.count → a ≡ b
unfolding kind_from number_in
same_kind_from a b e c = ap (λ key. kind_from key a.count) e ∙ ap (kind_from (kind_key b)) c

abbrev not_behind : List ℕ → Finger → Bool
not_behind key f = not (is_lt (slice_cmp nat_cmp key (finger_key f)))

count_none : (p : Finger → Bool) (fs : List Finger) → All (λ f. p f ≡ false) fs → count_by p fs ≡ 0
count_none p [] h = refl
count_none p (f ∷ fs) h =
    let here : p f ≡ false = All-head (λ g. p g ≡ false) f fs h in
    let one : ◌≡◌ {A = ℕ} (cond (p f) 1 0) 0 = ap (λ b. cond b 1 0) here in
    omega (arith, sum_by-cons (λ g. cond (p g) 1 0) f fs, one, count_none p fs (All-tail (λ g. p g ≡ false) f fs h))

-- the fingers that are not behind the first kind are its own
count_first : (row : Row) (k : Kind) (ks : List Kind) (key : List ℕ) → key ≡ kind_key k → AllPairs KindBefore (k ∷ ks) → count_by (not_behind key) (of_kinds row (k ∷ ks)) ≡ k.count
count_first row k ks key e order =
    let own : not_behind key (finger_of row k) ≡ true = subst (λ key. not_behind key (finger_of row k) ≡ true) (sym e) (ap not (not_itself (kind_key k))) in
    let one : ◌≡◌ {A = ℕ} (cond (not_behind key (finger_of row k)) 1 0) 1 = ap (λ b. cond b 1 0) own in
    let none : count_by (not_behind key) (of_kinds row ks) ≡ 0 =
    count_none (not_behind key) (of_kinds row ks)
    (all_of_kinds (λ f. not_behind key f ≡ false) row ks
    (all_imply (KindBefore k) (λ (j : Kind). not_behind key (finger_of row j) ≡ false) ks
    (λ j before. subst (λ key. not_behind key (finger_of row j) ≡ false) (sym e) (ap not before))
    (pairs_head KindBefore k ks order))) in
    let copies : sum_by (λ f. cond (not_behind key f) 1 0) (replicate k.count (finger_of row k)) ≡ k.count * 1 =
    sum_by-replicate (λ f. cond (not_behind key f) 1 0) k.count (finger_of row k) ∙ ap (λ n. k.count * n) one in
    omega (arith, sum_by-append (λ f. cond (not_behind key f) 1 0) (replicate k.count (finger_of row k)) (of_kinds row ks), copies, none)

uncons_copies : (n : ℕ) (f : Finger) (xs ys : List Finger) → IsPermutation (replicate n f ++ xs) (replicate n f ++ ys) → IsPermutation xs ys
uncons_copies zero f xs ys h = h
uncons_copies (suc n) f xs ys h = uncons_copies n f xs ys (IsPermutation-uncons f (replicate n f ++ xs) (replicate n f ++ ys) h)

same_row_kinds : (row : Row) (m n : ℕ) (xs ys : List Kind) → All (IsKind m) xs → All (IsKind n) ys → AllPairs KindBefore xs → AllPairs KindBefore ys → IsPermutation (of_kinds row xs) (of_kinds row ys) → xs ≡ ys
same_row_kinds row m n [] [] ks js ko jo h = refl
same_row_kinds row m n [] (y ∷ ys) ks js ko jo h =
    let found : Contains [] (finger_of row y) = Contains-permutation _ _ (finger_of row y) (IsPermutation-sym _ _ h) (contains_first row y ys (All-head (IsKind n) y ys js).some) in
    absurd (omega (arith, found.1))
same_row_kinds row m n (x ∷ xs) [] ks js ko jo h =
    let found : Contains [] (finger_of row x) = Contains-permutation _ _ (finger_of row x) h (contains_first row x xs (All-head (IsKind m) x xs ks).some) in
    absurd (omega (arith, found.1))
same_row_kinds row m n (x ∷ xs) (y ∷ ys) ks js ko jo h =
    let back : IsPermutation (of_kinds row (y ∷ ys)) (of_kinds row (x ∷ xs)) = IsPermutation-sym _ _ h in
    let x_there : Contains (of_kinds row (y ∷ ys)) (finger_of row x) = Contains-permutation _ _ (finger_of row x) h (contains_first row x xs (All-head (IsKind m) x xs ks).some) in
    let y_there : Contains (of_kinds row (x ∷ xs)) (finger_of row y) = Contains-permutation _ _ (finger_of row y) back (contains_first row y ys (All-head (IsKind n) y ys js).some) in
    let e : kind_key x ≡ kind_key y = same_keys (kind_key x) (kind_key y) (All-contains (NotBelow (kind_key y)) (of_kinds row (y ∷ ys)) (finger_of row x) (none_below row y ys jo) x_there) (All-contains (NotBelow (kind_key x)) (of_kinds row (x ∷ xs)) (finger_of row y) (none_below row x xs ko) y_there) in
    let c : x.count ≡ y.count =
    sym (count_first row x xs (kind_key x) refl ko) ∙ sym (sum_by-IsPermutation (λ f. cond (not_behind (kind_key x) f) 1 0) (of_kinds row (x ∷ xs)) (of_kinds row (y ∷ ys)) h) ∙ count_first row y ys (kind_key x) e jo in
    let same : x ≡ y = same_kind_from x y e c in
    let rest : IsPermutation (of_kinds row xs) (of_kinds row ys) =
    uncons_copies x.count (finger_of row x) (of_kinds row xs) (of_kinds row ys) (subst (λ (z : Kind). IsPermutation (replicate x.count (finger_of row x) ++ of_kinds row xs) (replicate z.count (finger_of row z) ++ of_kinds row ys)) (sym same) h) in
    ap (λ z. z ∷ xs) same ∙ ap (λ zs. y ∷ zs) (same_row_kinds row m n xs ys (All-tail (IsKind m) x xs ks) (All-tail (IsKind n) y ys js) (pairs_tail KindBefore x xs ko) (pairs_tail KindBefore y ys jo) rest)

make_kinds : ℕ → List Kind → List Kind → Kinds
make_kinds nets p n = record { nets = nets; p = p; n = n }

made_kinds : {a b : ℕ} {p q n m : List Kind} → a ≡ b → p ≡ q → n ≡ m → make_kinds a p n ≡ make_kinds b q m
made_kinds e f g = cc

same_parts : (j k : Kinds) → j.nets ≡ k.nets → j.p ≡ k.p → j.n ≡ k.n → j ≡ k
unfolding make_kinds
same_parts j k nets p n = made_kinds nets p n

-- any two lists of kinds of the same fingers are one
pub same_kinds : (f : Fingers) (j k : Kinds) → AreKinds f j → AreSomeKinds j → AreKinds f k → AreSomeKinds k → j ≡ k
same_kinds f j k of_j some_j of_k some_k =
    same_parts j k (of_j.nets ∙ sym of_k.nets)
    (same_row_kinds P j.nets k.nets j.p k.p some_j.p some_k.p some_j.p_order some_k.p_order (IsPermutation-trans _ _ _ (IsPermutation-sym _ _ of_j.p) of_k.p))
    (same_row_kinds N j.nets k.nets j.n k.n some_j.n some_k.n some_j.n_order some_k.n_order (IsPermutation-trans _ _ _ (IsPermutation-sym _ _ of_j.n) of_k.n))
