-- The kinds of a gate stand side by side.
use Rattle.std.specs.Prelude.{ℕ, zero, suc, ◌≡◌, ◌≢◌, ◌+◌, ◌<◌, ◌≤◌, true, List, [], ◌∷◌, length, drop, get_or, AllPairs}
use Rattle.std.proofs.Common.{refl, sym, ap, subst, arith, ◌∙◌, inl, inr}
use Rattle.std.specs.declared.cmp.Ordering.TheVariants.{Greater}
use Rattle.std.specs.List.{zip}
use Rattle.std.specs.Ordering.{nat_cmp, is_lt, ordering_then, ordering_reverse}
use Rattle.std.proofs.lemmas.Cmp.{nat_cmp_total}
use Rattle.std.proofs.lemmas.List.{drop-map, get_or_default, get_or-drop, length-drop}
use Rattle.std.specs.Cmp.Lexicographic.{slice_cmp}
use Rattle.std.proofs.lemmas.Bool.{cases_order, ne_eqb}
use Rattle.std.proofs.lemmas.List.Sums.{sum_by-cons}
use Rattle.row_state.specs.declared.kind.Kind.{Kind}
use Rattle.row_state.specs.Order.{KeyBefore, KindBefore}
use Rattle.row_state.specs.Runs.{GatesFrom}
use Rattle.row_state.specs.Start.{counts_of}
use Rattle.row_state.specs.Tests.{gate_left, left_of_kind}
use Rattle.row_state.proofs.Keys.{cmp_lt}

-- before all kinds
pub first_gates : (kinds : List Kind) → GatesFrom kinds 0 0
first_gates kinds = record { within = omega arith; lower = λ i d l. absurd (omega (arith, l)); rest = λ i d l m. omega arith }

-- of two keys in order the first number does not fall
key_head_le : (a b : ℕ) (xs ys : List ℕ) → KeyBefore (a ∷ xs) (b ∷ ys) → a ≤ b
key_head_le a b xs ys h = elim (cases_order a b) [
  | inl e ↦ omega (arith, e)
  | inr other ↦ elim other [
    | inl less ↦ omega (arith, less)
    | inr more ↦
        let above : nat_cmp a b ≡ Greater = nat_cmp_total.antisymm a b ∙ ap ordering_reverse (cmp_lt b a more) in
        let none : is_lt (ordering_then Greater (slice_cmp nat_cmp xs ys)) ≡ true = subst (λ o. is_lt (ordering_then o (slice_cmp nat_cmp xs ys)) ≡ true) above h in
        absurd (cc)
  ]
]

gates_ascend : (kinds : List Kind) (i j : ℕ) (d : Kind) → AllPairs KindBefore kinds → i < j → j < length kinds → (get_or kinds i d).gate.0 ≤ (get_or kinds j d).gate.0
gates_ascend kinds i j d order l within =
    let a : Kind = get_or kinds i d in
    let b : Kind = get_or kinds j d in
    key_head_le a.gate.0 b.gate.0 (a.lo.0 ∷ a.hi.0 ∷ a.width ∷ []) (b.lo.0 ∷ b.hi.0 ∷ b.width ∷ []) (order i j d l within)

-- the first kind whose gate is not lower
pub begins_here : (kinds : List Kind) (gate at : ℕ) (x : Kind) → AllPairs KindBefore kinds → at < length kinds → ((i : ℕ) (d : Kind) → i < at → (get_or kinds i d).gate.0 < gate) → gate ≤ (get_or kinds at x).gate.0 → GatesFrom kinds gate at
begins_here kinds gate at x order within lower here =
    record {
      within = omega (arith, within);
      lower = lower;
      rest = λ i d l m.
          let same : (get_or kinds at x).gate.0 ≡ (get_or kinds at d).gate.0 = ap (λ (k : Kind). k.gate.0) (get_or_default kinds at x d within) in
          elim (cases_order at i) [
            | inl e ↦ omega (arith, here, same, ap (λ n. (get_or kinds n d).gate.0) e)
            | inr either ↦ elim either [
              | inl less ↦ omega (arith, here, same, gates_ascend kinds at i d order less m)
              | inr more ↦ absurd (omega (arith, l, more))
            ]
          ];
    }

-- where there is none, all are
pub begins_last : (kinds : List Kind) (gate at : ℕ) → length kinds ≡ at → ((i : ℕ) (d : Kind) → i < at → (get_or kinds i d).gate.0 < gate) → GatesFrom kinds gate at
begins_last kinds gate at e lower = record { within = omega (arith, e); lower = lower; rest = λ i d l m. absurd (omega (arith, e, l, m)) }

-- the first kind of another gate ends the gate's kinds
pub ends_here : (kinds : List Kind) (gate from at : ℕ) (x : Kind) → AllPairs KindBefore kinds → GatesFrom kinds gate from → from ≤ at → at < length kinds → ((i : ℕ) (d : Kind) → i < at → (get_or kinds i d).gate.0 < gate + 1) → (get_or kinds at x).gate.0 ≢ gate → GatesFrom kinds (gate + 1) at
ends_here kinds gate from at x order begins here within lower other =
    let above : gate ≤ (get_or kinds at x).gate.0 = begins.rest at x here within in
    record {
      within = omega (arith, within);
      lower = lower;
      rest = λ i d l m. elim (cases_order at i) [
        | inl e ↦ let same : (get_or kinds at x).gate.0 ≡ (get_or kinds i d).gate.0 = ap (λ (k : Kind). k.gate.0) (get_or_default kinds at x d within ∙ ap (λ n. get_or kinds n d) e) in omega (arith, above, other, same)
        | inr either ↦ elim either [
          | inl less ↦ let up : (get_or kinds at d).gate.0 ≤ (get_or kinds i d).gate.0 = gates_ascend kinds at i d order less m in let same : (get_or kinds at x).gate.0 ≡ (get_or kinds at d).gate.0 = ap (λ (k : Kind). k.gate.0) (get_or_default kinds at x d within) in omega (arith, above, other, same, up)
          | inr more ↦ absurd (omega (arith, l, more))
        ]
      ];
    }

-- where there is none, they end behind all kinds
pub ends_last : (kinds : List Kind) (gate at : ℕ) → length kinds ≡ at → ((i : ℕ) (d : Kind) → i < at → (get_or kinds i d).gate.0 < gate + 1) → GatesFrom kinds (gate + 1) at
ends_last kinds gate at e lower = record { within = omega (arith, e); lower = lower; rest = λ i d l m. absurd (omega (arith, e, l, m)) }

off_gate : (kind : Kind) (c gate : ℕ) → kind.gate.0 ≢ gate → left_of_kind gate (kind, c) ≡ 0
off_gate kind c gate other = rw (ne_eqb kind.gate.0 gate other) refl

-- the kinds before those of the gate have no fingers on it
pub left_from : (kinds : List Kind) (counts : List ℕ) (gate at : ℕ) → GatesFrom kinds gate at → gate_left (drop at kinds) (drop at counts) gate ≡ gate_left kinds counts gate
left_from kinds counts gate zero h = refl
left_from [] counts gate (suc at) h = absurd (let few : suc at ≤ 0 = h.within in omega (arith, few))
left_from (k ∷ ks) [] gate (suc at) h = nothing (drop at ks)
  where
    nothing : (xs : List Kind) → gate_left xs [] gate ≡ 0
    nothing [] = refl
    nothing (x ∷ xs) = refl
left_from (k ∷ ks) (c ∷ cs) gate (suc at) h =
    let below : k.gate.0 < gate = h.lower zero k (omega arith) in
    let few : suc at ≤ suc (length ks) = h.within in
    let rest : GatesFrom ks gate at = record { within = omega (arith, few); lower = λ i d l. h.lower (suc i) d (omega (arith, l)); rest = λ i d l m. h.rest (suc i) d (omega (arith, l)) (omega (arith, m)) } in
    omega (arith, left_from ks cs gate at rest, off_gate k c gate (λ e. omega (arith, e, below)), sum_by-cons (left_of_kind gate) (k, c) (zip ks cs))

-- nor have those behind
pub left_behind : (kinds : List Kind) (counts : List ℕ) (gate at : ℕ) → GatesFrom kinds (gate + 1) at → gate_left (drop at kinds) (drop at counts) gate ≡ 0
left_behind kinds counts gate at h = above (drop at kinds) (drop at counts) (λ i d l. subst (λ (x : Kind). gate + 1 ≤ x.gate.0) (sym (get_or-drop at kinds i d)) (h.rest (at + i) d (omega arith) (omega (arith, l, length-drop at kinds))))
  where
    above : (xs : List Kind) (cs : List ℕ) → ((i : ℕ) (d : Kind) → i < length xs → gate + 1 ≤ (get_or xs i d).gate.0) → gate_left xs cs gate ≡ 0
    above [] cs up = refl
    above (x ∷ xs) [] up = refl
    above (x ∷ xs) (c ∷ cs) up =
        let here : gate + 1 ≤ x.gate.0 = up zero x (omega arith) in
        omega (arith, off_gate x c gate (λ e. omega (arith, e, here)), above xs cs (λ i d l. up (suc i) d (omega (arith, l))), sum_by-cons (left_of_kind gate) (x, c) (zip xs cs))

-- the same of all their fingers
pub all_from : (kinds : List Kind) (gate at : ℕ) → GatesFrom kinds gate at → gate_left (drop at kinds) (counts_of (drop at kinds)) gate ≡ gate_left kinds (counts_of kinds) gate
all_from kinds gate at h = ap (λ cs. gate_left (drop at kinds) cs gate) (sym (drop-map (λ (k : Kind). k.count) at kinds)) ∙ left_from kinds (counts_of kinds) gate at h

pub all_behind : (kinds : List Kind) (gate at : ℕ) → GatesFrom kinds (gate + 1) at → gate_left (drop at kinds) (counts_of (drop at kinds)) gate ≡ 0
all_behind kinds gate at h = ap (λ cs. gate_left (drop at kinds) cs gate) (sym (drop-map (λ (k : Kind). k.count) at kinds)) ∙ left_behind kinds (counts_of kinds) gate at h
