-- A state is found again from its number.
use Rattle.std.proofs.Common.{ℕ, zero, suc, ◌≡◌, ◌+◌, ◌*◌, ◌/◌, ◌%◌, ◌<◌, ◌≤◌, List, [], ◌∷◌, length, refl, ap, arith}
use Rattle.std.proofs.Common.{◌∙◌, Option, Some, None, slice_get, slice_index, IfSome}
use Rattle.std.proofs.lemmas.Nat.{div-mul-add, mod-mul-add, mul-add-lt}
use Rattle.cell_num.specs.declared.net.NetNo.{NetNo}
use Rattle.row_state.specs.declared.kind.Kind.{Kind}
use Rattle.row_state.specs.declared.kind.Kinds.{Kinds}
use Rattle.row_state.specs.declared.state.State.{State}
use Rattle.row_state.specs.Code.{count_lists, counts_code, counts_of_code, end_code, end_of_code, rows_of_code}
use Rattle.row_state.specs.Code.{state_code, state_of}
use Rattle.row_state.specs.Start.{IsState}

make_state : List ℕ → List ℕ → Option NetNo → Option NetNo → State
make_state p n pe ne = record { p_left = p; n_left = n; p_end = pe; n_end = ne }

made_state : {p p' n n' : List ℕ} {pe pe' ne ne' : Option NetNo} → p ≡ p' → n ≡ n' → pe ≡ pe' → ne ≡ ne'
    → make_state p n pe ne ≡ make_state p' n' pe' ne'
made_state a b c d = cc

pub same_fields : (a b : State) → a.p_left ≡ b.p_left → a.n_left ≡ b.n_left → a.p_end ≡ b.p_end → a.n_end ≡ b.n_end
    → a ≡ b
unfolding make_state
same_fields a b p n pe ne = made_state p n pe ne

-- each count is at most its kind's
abbrev pub Within : List Kind → List ℕ → Type 0
Within ks cs = (i : ℕ) (kind : Kind) → slice_get ks i ≡ Some kind → slice_index cs i ≤ kind.count

pub counts_below : (ks : List Kind) (cs : List ℕ) → length cs ≡ length ks → Within ks cs → counts_code ks cs
    < count_lists ks
counts_below [] cs same h = omega arith
counts_below (k ∷ ks) [] same h = absurd (omega (arith, same))
counts_below (k ∷ ks) (c ∷ cs) same h =
    let here : c ≤ k.count = h zero k refl in
    mul-add-lt (counts_code ks cs) (k.count + 1) c (count_lists ks)
    (counts_below ks cs (omega (arith, same)) (λ i kind is. h (suc i) kind is)) (omega arith)

pub end_below : (nets : ℕ) (x : Option NetNo) → IfSome x (λ v. v.0 < nets) → end_code x < nets + 1
end_below nets None h = omega arith
end_below nets (Some v) h = omega (arith, h)

counts_found : (ks : List Kind) (cs : List ℕ) → length cs ≡ length ks → Within ks cs
    → counts_of_code ks (counts_code ks cs) ≡ cs
counts_found [] [] same h = refl
counts_found [] (c ∷ cs) same h = absurd (omega (arith, same))
counts_found (k ∷ ks) [] same h = absurd (omega (arith, same))
counts_found (k ∷ ks) (c ∷ cs) same h =
    let here : c ≤ k.count = h zero k refl in
    let less : c < k.count + 1 = omega (arith, here) in
    let rest : counts_of_code ks (counts_code ks cs) ≡ cs =
    counts_found ks cs (omega (arith, same)) (λ i kind is. h (suc i) kind is) in
    ap (λ d. d ∷ counts_of_code ks ((counts_code ks cs * (k.count + 1) + c) / (k.count + 1)))
    (mod-mul-add (counts_code ks cs) (k.count + 1) c less)
    ∙ ap (λ n. c ∷ counts_of_code ks n) (div-mul-add (counts_code ks cs) (k.count + 1) c less)
    ∙ ap (λ ds. c ∷ ds) rest

end_found : (x : Option NetNo) → end_of_code (end_code x) ≡ x
end_found None = refl
end_found (Some v) = let e : v.0 + 1 ≡ suc v.0 = omega arith in ap end_of_code e

-- the number of both rows' counts
abbrev pub rows_code : Kinds → State → ℕ
rows_code k s = counts_code k.p s.p_left * count_lists k.n + counts_code k.n s.n_left

front_found : (k : Kinds) (s : State) → IsState k s → state_code k s / (k.nets + 1)
    ≡ rows_code k s * (k.nets + 1) + end_code s.p_end
front_found k s h = div-mul-add (rows_code k s * (k.nets + 1) + end_code s.p_end) (k.nets + 1) (end_code s.n_end)
    (end_below k.nets s.n_end h.n_end)

pub rows_found : (k : Kinds) (s : State) → IsState k s → rows_of_code k (state_code k s) ≡ rows_code k s
rows_found k s h = ap (λ n. n / (k.nets + 1)) (front_found k s h)
    ∙ div-mul-add (rows_code k s) (k.nets + 1) (end_code s.p_end) (end_below k.nets s.p_end h.p_end)

pub decoded : (k : Kinds) (s : State) → IsState k s → state_of k (state_code k s) ≡ s
decoded k s h =
    let n_less : counts_code k.n s.n_left < count_lists k.n = counts_below k.n s.n_left h.n_kinds h.n_counts in
    same_fields (state_of k (state_code k s)) s
    (ap (λ n. counts_of_code k.p (n / count_lists k.n)) (rows_found k s h)
    ∙ ap (counts_of_code k.p) (div-mul-add (counts_code k.p s.p_left) (count_lists k.n) (counts_code k.n s.n_left)
    n_less) ∙ counts_found k.p s.p_left h.p_kinds h.p_counts)
    (ap (λ n. counts_of_code k.n (n % count_lists k.n)) (rows_found k s h)
    ∙ ap (counts_of_code k.n) (mod-mul-add (counts_code k.p s.p_left) (count_lists k.n) (counts_code k.n s.n_left)
    n_less) ∙ counts_found k.n s.n_left h.n_kinds h.n_counts)
    (ap (λ n. end_of_code (n % (k.nets + 1))) (front_found k s h)
    ∙ ap end_of_code (mod-mul-add (rows_code k s) (k.nets + 1) (end_code s.p_end)
    (end_below k.nets s.p_end h.p_end)) ∙ end_found s.p_end)
    (ap end_of_code (mod-mul-add (rows_code k s * (k.nets + 1) + end_code s.p_end) (k.nets + 1) (end_code s.n_end)
    (end_below k.nets s.n_end h.n_end)) ∙ end_found s.n_end)
