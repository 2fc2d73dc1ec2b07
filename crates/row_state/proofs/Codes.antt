-- Each valid state has a number of its own, below the number of states there may be.
use Rattle.std.proofs.Common.{ℕ, zero, suc, ◌≡◌, ◌+◌, ◌*◌, ◌^◌, ◌<◌, ◌≤◌, List, [], ◌∷◌, length, replicate, drop, get_or, refl, sym, ap, subst, arith, ◌∙◌, Option, Some, None, mul-le-mul}
use Rattle.std.proofs.Math.Nat.{mul-le-mul_right, mul_assoc, mul_comm, pow-le-pow_right, two-pow-succ}
use Rattle.std.proofs.lemmas.List.{length-append, length-replicate}
use Rattle.std.proofs.lemmas.Nat.{mul-add-lt, pow-add, same_from_place}
use Rattle.cell_num.specs.declared.finger.Row.{Row}
use Rattle.cell_num.specs.declared.finger.Row.TheVariants.{P, N}
use Rattle.cell_num.specs.declared.net.NetNo.{NetNo}
use Rattle.row_state.specs.declared.kind.Kind.{Kind}
use Rattle.row_state.specs.declared.kind.Kinds.{Kinds}
use Rattle.row_state.specs.declared.state.State.{State}
use Rattle.row_state.specs.Code.{count_lists, counts_code, end_code, most_states, row_code, state_code}
use Rattle.row_state.specs.Tests.{left_of}
use Rattle.row_state.specs.Trails.{end_of}
use Rattle.row_state.specs.Decoded.{Within, counts_below, end_below, rows_code, same_fields}
use Rattle.row_state.specs.Completion.{finger_of, fingers_left, left_in}
use Rattle.row_state.specs.Start.{AreSomeKinds, IsState, counts_of, start_of}
use Rattle.row_state.proofs.KindsOf.{few_fingers}
use Rattle.row_state.proofs.Valid.{some_fingers}

counts_same : (ks : List Kind) (cs ds : List ℕ) → length cs ≡ length ks → length ds ≡ length ks → Within ks cs → Within ks ds → counts_code ks cs ≡ counts_code ks ds → cs ≡ ds
counts_same [] [] [] lc ld hc hd e = refl
counts_same [] [] (d ∷ ds) lc ld hc hd e = absurd (omega (arith, ld))
counts_same [] (c ∷ cs) ds lc ld hc hd e = absurd (omega (arith, lc))
counts_same (k ∷ ks) [] ds lc ld hc hd e = absurd (omega (arith, lc))
counts_same (k ∷ ks) (c ∷ cs) [] lc ld hc hd e = absurd (omega (arith, ld))
counts_same (k ∷ ks) (c ∷ cs) (d ∷ ds) lc ld hc hd e =
    let here_c : c ≤ k.count = hc zero k refl in
    let here_d : d ≤ k.count = hd zero k refl in
    let parts : (counts_code ks cs ≡ counts_code ks ds) × (c ≡ d) = same_from_place (counts_code ks cs) c (counts_code ks ds) d (k.count + 1) (omega arith) (omega arith) e in
    let rest : cs ≡ ds = counts_same ks cs ds (omega (arith, lc)) (omega (arith, ld)) (λ i kind is. hc (suc i) kind is) (λ i kind is. hd (suc i) kind is) parts.0 in
    ap (λ x. x ∷ cs) parts.1 ∙ ap (λ xs. d ∷ xs) rest

pub ends_below : (k : Kinds) (s : State) → IsState k s → (end_code s.p_end < k.nets + 1) × (end_code s.n_end < k.nets + 1)
ends_below k s h = (end_below k.nets s.p_end h.p_end, end_below k.nets s.n_end h.n_end)

make_net : ℕ → NetNo
make_net n = record { 0 = n }

end_same : (x y : Option NetNo) → end_code x ≡ end_code y → x ≡ y
unfolding make_net
end_same None None e = refl
end_same None (Some w) e = absurd (omega (arith, e))
end_same (Some v) None e = absurd (omega (arith, e))
end_same (Some v) (Some w) e = let same : v.0 ≡ w.0 = omega (arith, e) in ap (λ (n : ℕ). Some (make_net n)) same

rows_below : (k : Kinds) (s : State) → IsState k s → rows_code k s < count_lists k.n * count_lists k.p
rows_below k s h = mul-add-lt (counts_code k.p s.p_left) (count_lists k.n) (counts_code k.n s.n_left) (count_lists k.p) (counts_below k.p s.p_left h.p_kinds h.p_counts) (counts_below k.n s.n_left h.n_kinds h.n_counts)

product : (a b c : ℕ) → c * (c * (b * a)) ≡ a * b * (c * c)
product a b c = sym (mul_assoc c c (b * a)) ∙ mul_comm (c * c) (b * a) ∙ ap (λ x. x * (c * c)) (mul_comm b a)

-- below the number of all lists of counts with all ends
pub state_below : (k : Kinds) (s : State) → IsState k s → state_code k s < most_states k
state_below k s h =
    subst (λ n. state_code k s < n) (product (count_lists k.p) (count_lists k.n) (k.nets + 1))
    (mul-add-lt (rows_code k s * (k.nets + 1) + end_code s.p_end) (k.nets + 1) (end_code s.n_end) ((k.nets + 1) * (count_lists k.n * count_lists k.p))
    (mul-add-lt (rows_code k s) (k.nets + 1) (end_code s.p_end) (count_lists k.n * count_lists k.p) (rows_below k s h) (end_below k.nets s.p_end h.p_end))
    (end_below k.nets s.n_end h.n_end))

-- valid states of one number are one
pub state_same : (k : Kinds) (a b : State) → IsState k a → IsState k b → state_code k a ≡ state_code k b → a ≡ b
state_same k a b ha hb e =
    let one : (rows_code k a * (k.nets + 1) + end_code a.p_end ≡ rows_code k b * (k.nets + 1) + end_code b.p_end) × (end_code a.n_end ≡ end_code b.n_end) = same_from_place _ _ _ _ (k.nets + 1) (end_below k.nets a.n_end ha.n_end) (end_below k.nets b.n_end hb.n_end) e in
    let two : (rows_code k a ≡ rows_code k b) × (end_code a.p_end ≡ end_code b.p_end) = same_from_place _ _ _ _ (k.nets + 1) (end_below k.nets a.p_end ha.p_end) (end_below k.nets b.p_end hb.p_end) one.0 in
    let three : (counts_code k.p a.p_left ≡ counts_code k.p b.p_left) × (counts_code k.n a.n_left ≡ counts_code k.n b.n_left) = same_from_place _ _ _ _ (count_lists k.n) (counts_below k.n a.n_left ha.n_kinds ha.n_counts) (counts_below k.n b.n_left hb.n_kinds hb.n_counts) two.0 in
    same_fields a b (counts_same k.p a.p_left b.p_left ha.p_kinds hb.p_kinds ha.p_counts hb.p_counts three.0) (counts_same k.n a.n_left b.n_left ha.n_kinds hb.n_kinds ha.n_counts hb.n_counts three.1) (end_same a.p_end b.p_end two.1) (end_same a.n_end b.n_end one.1)

-- of one number a row has the same left
pub row_same : (row : Row) (k : Kinds) (a b : State) → IsState k a → IsState k b → row_code row k a ≡ row_code row k b → (left_of row a ≡ left_of row b) × (end_of row a ≡ end_of row b)
row_same P k a b ha hb e =
    let two : (counts_code k.p a.p_left ≡ counts_code k.p b.p_left) × (end_code a.p_end ≡ end_code b.p_end) = same_from_place _ _ _ _ (k.nets + 1) (end_below k.nets a.p_end ha.p_end) (end_below k.nets b.p_end hb.p_end) e in
    (counts_same k.p a.p_left b.p_left ha.p_kinds hb.p_kinds ha.p_counts hb.p_counts two.0, end_same a.p_end b.p_end two.1)
row_same N k a b ha hb e =
    let two : (counts_code k.n a.n_left ≡ counts_code k.n b.n_left) × (end_code a.n_end ≡ end_code b.n_end) = same_from_place _ _ _ _ (k.nets + 1) (end_below k.nets a.n_end ha.n_end) (end_below k.nets b.n_end hb.n_end) e in
    (counts_same k.n a.n_left b.n_left ha.n_kinds hb.n_kinds ha.n_counts hb.n_counts two.0, end_same a.n_end b.n_end two.1)

-- of few fingers there are few lists of counts
one_more_le : (n : ℕ) → n + 1 ≤ 2 ^ n
one_more_le zero = omega arith
one_more_le (suc n) = omega (arith, one_more_le n, two-pow-succ n)

lists_le : (row : Row) (kinds : List Kind) → count_lists kinds ≤ 2 ^ length (fingers_left row kinds (counts_of kinds))
lists_le row [] = omega arith
lists_le row (k ∷ ks) =
    let first : length (replicate k.count (finger_of row k)) ≡ k.count = length-replicate k.count (finger_of row k) in
    let all : length (fingers_left row (k ∷ ks) (counts_of (k ∷ ks))) ≡ k.count + length (fingers_left row ks (counts_of ks)) = omega (arith, first, length-append (replicate k.count (finger_of row k)) (fingers_left row ks (counts_of ks))) in
    subst (λ n. count_lists (k ∷ ks) ≤ n) (sym (pow-add 2 k.count (length (fingers_left row ks (counts_of ks)))) ∙ ap (λ n. 2 ^ n) (sym all)) (mul-le-mul (one_more_le k.count) (lists_le row ks))

lists_within : (row : Row) (kinds : List Kind) → length (fingers_left row kinds (counts_of kinds)) ≤ 32 → count_lists kinds ≤ 4294967296
lists_within row kinds few = let most : 2 ^ length (fingers_left row kinds (counts_of kinds)) ≤ 2 ^ 32 = pow-le-pow_right (omega arith) few in omega (arith, most, lists_le row kinds)

pub lists_few_p : (k : Kinds) → AreSomeKinds k → count_lists k.p ≤ 4294967296
lists_few_p k some = lists_within P k.p (few_fingers (left_in k (start_of k)) (some_fingers k some)).0

pub lists_few_n : (k : Kinds) → AreSomeKinds k → count_lists k.n ≤ 4294967296
lists_few_n k some = lists_within N k.n (few_fingers (left_in k (start_of k)) (some_fingers k some)).1

pub lists_some : (kinds : List Kind) → 0 < count_lists kinds
lists_some [] = omega arith
lists_some (k ∷ ks) = let le : 1 * count_lists ks ≤ (k.count + 1) * count_lists ks = mul-le-mul_right (count_lists ks) (omega arith) in omega (arith, le, lists_some ks)

-- the last kinds alone
pub lists_next : (kinds : List Kind) (i : ℕ) (k : Kind) → i < length kinds → count_lists (drop i kinds) ≡ count_lists (drop (suc i) kinds) * ((get_or kinds i k).count + 1)
lists_next [] i k l = absurd (omega (arith, l))
lists_next (x ∷ xs) zero k l = mul_comm (x.count + 1) (count_lists xs)
lists_next (x ∷ xs) (suc i) k l = lists_next xs i k (omega (arith, l))

pub counts_next : (kinds : List Kind) (left : List ℕ) (i : ℕ) (k : Kind) (c : ℕ) → i < length kinds → length left ≡ length kinds → counts_code (drop i kinds) (drop i left) ≡ counts_code (drop (suc i) kinds) (drop (suc i) left) * ((get_or kinds i k).count + 1) + get_or left i c
counts_next [] left i k c l same = absurd (omega (arith, l))
counts_next (x ∷ xs) [] i k c l same = absurd (omega (arith, same))
counts_next (x ∷ xs) (y ∷ ys) zero k c l same = refl
counts_next (x ∷ xs) (y ∷ ys) (suc i) k c l same = counts_next xs ys i k c (omega (arith, l)) (omega (arith, same))

pub lists_drop : (kinds : List Kind) (i : ℕ) → count_lists (drop i kinds) ≤ count_lists kinds
lists_drop kinds zero = omega arith
lists_drop [] (suc i) = omega arith
lists_drop (k ∷ ks) (suc i) =
    let le : 1 * count_lists ks ≤ (k.count + 1) * count_lists ks = mul-le-mul_right (count_lists ks) (omega arith) in
    omega (arith, le, lists_drop ks i)

pub counts_drop : (kinds : List Kind) (left : List ℕ) (i : ℕ) → length left ≡ length kinds → Within kinds left → counts_code (drop i kinds) (drop i left) < count_lists kinds
counts_drop kinds left zero same h = counts_below kinds left same h
counts_drop [] left (suc i) same h = omega arith
counts_drop (k ∷ ks) [] (suc i) same h = absurd (omega (arith, same))
counts_drop (k ∷ ks) (c ∷ cs) (suc i) same h =
    let le : 1 * count_lists ks ≤ (k.count + 1) * count_lists ks = mul-le-mul_right (count_lists ks) (omega arith) in
    omega (arith, le, counts_drop ks cs i (omega (arith, same)) (λ i kind is. h (suc i) kind is))

-- and few numbers of states
pub rows_few : (k : Kinds) (s : State) → AreSomeKinds k → IsState k s → rows_code k s < 18446744073709551616
rows_few k s some h =
    let most : count_lists k.n * count_lists k.p ≤ 4294967296 * 4294967296 = mul-le-mul (lists_few_n k some) (lists_few_p k some) in
    omega (arith, most, rows_below k s h)

-- a number behind which two digits more fit
pub digits_fit : (nets rows p n : ℕ) → nets ≤ 256 → rows < 18446744073709551616 → p < nets + 1 → n < nets + 1 → (rows * (nets + 1) + p < 4740813226943354765312) × ((rows * (nets + 1) + p) * (nets + 1) + n < 1218388999324442174685184)
digits_fit nets rows p n few small first second =
    let one : rows * (nets + 1) + p < (nets + 1) * 18446744073709551616 = mul-add-lt rows (nets + 1) p 18446744073709551616 small first in
    let below : rows * (nets + 1) + p < 4740813226943354765312 = omega (arith, one, few) in
    let two : (rows * (nets + 1) + p) * (nets + 1) + n < (nets + 1) * 4740813226943354765312 = mul-add-lt (rows * (nets + 1) + p) (nets + 1) n 4740813226943354765312 below second in
    (below, omega (arith, two, few))

-- the digits of a row, where its counts and its end are in range
pub row_fits : (nets lists counts end : ℕ) → nets ≤ 256 → lists ≤ 4294967296 → counts < lists → end < nets + 1 → counts * (nets + 1) + end < 1103806595072
row_fits nets lists counts end few some within below =
    let fewer : counts ≤ 4294967295 = omega (arith, some, within) in
    let ends : nets + 1 ≤ 257 = omega (arith, few) in
    let most : counts * (nets + 1) ≤ 4294967295 * 257 = mul-le-mul fewer ends in
    omega (arith, most, below, few)
