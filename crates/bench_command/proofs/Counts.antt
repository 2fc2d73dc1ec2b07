-- Kinds of which no two are on one gate, each of one finger: the gates of the fingers left tell the counts.
use Rattle.std.specs.Prelude.{ℕ, zero, suc, ◌≡◌, ◌+◌, ◌<◌, ◌≤◌, ◌==◌, List, [], ◌∷◌, length, Some, All, slice_get, slice_index}
use Rattle.std.specs.List.{zip}
use Rattle.std.proofs.Common.{refl, ap, subst, arith, inl, inr}
use Rattle.std.proofs.lemmas.Bool.{cases_Bool, eq-eqb}
use Rattle.std.proofs.lemmas.List.Elements.{All-head, All-tail}
use Rattle.std.proofs.lemmas.List.Sums.{sum_by-cons}
use Rattle.std.proofs.lemmas.Option.{same_Some}
use Rattle.row_state.specs.declared.kind.Kind.{Kind}
use Rattle.row_state.specs.Decoded.{Within}
use Rattle.row_state.specs.Start.{counts_of}
use Rattle.row_state.specs.Tests.{gate_left, left_of_kind}
use Rattle.bench_command.proofs.Bits.{AreBits}

-- at most one finger on a gate
abbrev pub AreSingle : List Kind → Type 0
AreSingle ks = (gate : ℕ) → gate_left ks (counts_of ks) gate ≤ 1

-- each kind has a finger
abbrev pub HaveFingers : List Kind → Type 0
HaveFingers ks = All (λ (k : Kind). 0 < k.count) ks

left_here : (k : Kind) (c : ℕ) → left_of_kind k.gate.0 (k, c) ≡ c
left_here k c = rw (eq-eqb k.gate.0 k.gate.0 refl) refl

left_le : (k : Kind) (c d gate : ℕ) → c ≤ d → left_of_kind gate (k, c) ≤ left_of_kind gate (k, d)
left_le k c d gate le = elim (cases_Bool (k.gate.0 == gate)) [ inl here ↦ rw here le | inr other ↦ rw other (omega arith) ]

left_cons : (k : Kind) (ks : List Kind) (c : ℕ) (cs : List ℕ) (gate : ℕ) → gate_left (k ∷ ks) (c ∷ cs) gate ≡ left_of_kind gate (k, c) + gate_left ks cs gate
left_cons k ks c cs gate = sum_by-cons (left_of_kind gate) (k, c) (zip ks cs)

within_tail : (k : Kind) (ks : List Kind) (c : ℕ) (cs : List ℕ) → Within (k ∷ ks) (c ∷ cs) → Within ks cs
within_tail k ks c cs h i kind is = h (suc i) kind is

left_within : (ks : List Kind) (cs : List ℕ) (gate : ℕ) → Within ks cs → gate_left ks cs gate ≤ gate_left ks (counts_of ks) gate
left_within [] cs gate h = omega arith
left_within (k ∷ ks) [] gate h = omega arith
left_within (k ∷ ks) (c ∷ cs) gate h =
    omega (arith, left_cons k ks c cs gate, left_cons k ks k.count (counts_of ks) gate, left_le k c k.count gate (h zero k refl), left_within ks cs gate (within_tail k ks c cs h))

single_tail : (k : Kind) (ks : List Kind) → AreSingle (k ∷ ks) → AreSingle ks
single_tail k ks h gate = omega (arith, h gate, left_cons k ks k.count (counts_of ks) gate)

-- no other kind is on the gate of the first
none_behind : (k : Kind) (ks : List Kind) (cs : List ℕ) → AreSingle (k ∷ ks) → 0 < k.count → Within ks cs → gate_left ks cs k.gate.0 ≡ 0
none_behind k ks cs h some within =
    omega (arith, h k.gate.0, left_cons k ks k.count (counts_of ks) k.gate.0, left_here k k.count, some, left_within ks cs k.gate.0 within)

same_cons : (a b : ℕ) (xs ys : List ℕ) → a ≡ b → xs ≡ ys → ◌≡◌ {A = List ℕ} (a ∷ xs) (b ∷ ys)
same_cons a b xs ys e f = cc

pub counts_same : (ks : List Kind) (cs ds : List ℕ) → AreSingle ks → HaveFingers ks → length cs ≡ length ks → length ds ≡ length ks → Within ks cs → Within ks ds → ((gate : ℕ) → gate_left ks cs gate ≡ gate_left ks ds gate) → cs ≡ ds
counts_same [] [] [] single some lc ld wc wd same = refl
counts_same [] [] (d ∷ ds) single some lc ld wc wd same = absurd (omega (arith, ld))
counts_same [] (c ∷ cs) ds single some lc ld wc wd same = absurd (omega (arith, lc))
counts_same (k ∷ ks) [] ds single some lc ld wc wd same = absurd (omega (arith, lc))
counts_same (k ∷ ks) (c ∷ cs) [] single some lc ld wc wd same = absurd (omega (arith, ld))
counts_same (k ∷ ks) (c ∷ cs) (d ∷ ds) single some lc ld wc wd same =
    let first : 0 < k.count = All-head (λ (k : Kind). 0 < k.count) k ks some in
    let none_c = none_behind k ks cs single first (within_tail k ks c cs wc) in
    let none_d = none_behind k ks ds single first (within_tail k ks d ds wd) in
    let here : c ≡ d = omega (arith, same k.gate.0, left_cons k ks c cs k.gate.0, left_cons k ks d ds k.gate.0, left_here k c, left_here k d, none_c, none_d) in
    let there : (gate : ℕ) → gate_left ks cs gate ≡ gate_left ks ds gate = λ gate. omega (arith, same gate, left_cons k ks c cs gate, left_cons k ks d ds gate, ap (λ (n : ℕ). left_of_kind gate (k, n)) here) in
    same_cons c d cs ds here (counts_same ks cs ds (single_tail k ks single) (All-tail (λ (k : Kind). 0 < k.count) k ks some) (omega (arith, lc)) (omega (arith, ld)) (within_tail k ks c cs wc) (within_tail k ks d ds wd) there)

-- counts of such kinds are bits
pub counts_bits : (ks : List Kind) (cs : List ℕ) → AreSingle ks → length cs ≡ length ks → Within ks cs → AreBits cs
counts_bits [] [] single l w = tt
counts_bits [] (c ∷ cs) single l w = absurd (omega (arith, l))
counts_bits (k ∷ ks) [] single l w = tt
counts_bits (k ∷ ks) (c ∷ cs) single l w =
    (omega (arith, w zero k refl, single k.gate.0, left_cons k ks k.count (counts_of ks) k.gate.0, left_here k k.count), counts_bits ks cs (single_tail k ks single) (omega (arith, l)) (within_tail k ks c cs w))

-- what is left of a kind is left on its gate
pub left_at : (ks : List Kind) (cs : List ℕ) (i : ℕ) (kind : Kind) → slice_get ks i ≡ Some kind → length cs ≡ length ks → slice_index cs i ≤ gate_left ks cs kind.gate.0
left_at [] cs i kind is l = absurd cc
left_at (k ∷ ks) [] i kind is l = absurd (omega (arith, l))
left_at (k ∷ ks) (c ∷ cs) zero kind is l =
    let here : left_of_kind kind.gate.0 (k, c) ≡ c = subst (λ (z : Kind). left_of_kind z.gate.0 (k, c) ≡ c) (same_Some k kind is) (left_here k c) in
    omega (arith, here, left_cons k ks c cs kind.gate.0)
left_at (k ∷ ks) (c ∷ cs) (suc i) kind is l = omega (arith, left_at ks cs i kind is (omega (arith, l)), left_cons k ks c cs kind.gate.0)

-- the counts themselves
pub counts_within : (ks : List Kind) → Within ks (counts_of ks)
counts_within [] i kind is = absurd cc
counts_within (k ∷ ks) zero kind is = let e = ap (λ (z : Kind). z.count) (same_Some k kind is) in omega (arith, e)
counts_within (k ∷ ks) (suc i) kind is = counts_within ks i kind is

pub get_below : (ks : List Kind) (i : ℕ) (kind : Kind) → slice_get ks i ≡ Some kind → i < length ks
get_below [] i kind is = absurd cc
get_below (k ∷ ks) zero kind is = omega arith
get_below (k ∷ ks) (suc i) kind is = omega (arith, get_below ks i kind is)
