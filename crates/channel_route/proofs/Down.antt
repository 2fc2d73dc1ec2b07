-- The first constraint of a key over one that is left stands at the first such line.
use Rattle.std.proofs.Common.{ℕ, suc, ◌≡◌, ◌+◌, ◌<◌, ◌≤◌, ◌⊎◌, ◌==◌, true, false, List, inl, inr, sym, ap, subst, arith, All, Contains, take, length, get_or, length-take, get_or-take, drop, add-one, ◌∷◌}
use Rattle.std.proofs.Math.Seq.{drop-cons}
use Rattle.std.proofs.lemmas.List.{get_or_default}
use Rattle.std.proofs.lemmas.Bool.{cases_order, and_parts, eqb-true}
use Rattle.std.proofs.lemmas.List.Elements.{Contains-get_or}
use Rattle.channel_route.specs.declared.wire.Wire.{Wire}
use Rattle.channel_route.specs.declared.constraint.Constraint.{Constraint}
use Rattle.channel_route.specs.Graph.{has_key}
use Rattle.channel_route.specs.Turn.{IsOver, leads, waits_at, IsDown, IsNoLater, AreInOrder}

-- none before it leads there
none_before : (left : List Wire) (key : ℕ) (cs : List Constraint) (at k : ℕ) (c : Constraint) → k < at → at < length cs → get_or cs k c ≡ c → All (λ z. leads left key z ≡ false) (take at cs) → leads left key c ≡ true → ⊥
none_before left key cs at k c less short is none yes' =
    let here : leads left key (get_or (take at cs) k c) ≡ false = none k c (omega (arith, less, short, length-take at cs)) in
    let no' : leads left key c ≡ false = subst (λ z. leads left key z ≡ false) is (subst (λ z. leads left key z ≡ false) (get_or-take at cs k c less) here) in
    cc

leads_from : (left : List Wire) (key : ℕ) (c : Constraint) → leads left key c ≡ true → c.upper ≡ key
leads_from left key c e = let parts : ((c.upper == key) ≡ true) × (has_key left c.lower ≡ true) = and_parts _ _ e in eqb-true c.upper key parts.0

-- one that does not lead there is passed
pub more_behind : (left : List Wire) (key : ℕ) (cs : List Constraint) (at : ℕ) (d : Constraint) → at < length cs → leads left key (get_or cs at d) ≡ false → waits_at left key (drop at cs) ≡ true → waits_at left key (drop (at + 1) cs) ≡ true
more_behind left key cs at d short no' h =
    subst (λ n. waits_at left key (drop n cs) ≡ true) (sym (add-one at)) (rest (get_or cs at d) (drop (suc at) cs) no' (subst (λ xs. waits_at left key xs ≡ true) (drop-cons cs at d short) h))
  where
    rest : (x : Constraint) (xs : List Constraint) → leads left key x ≡ false → waits_at left key (x ∷ xs) ≡ true → waits_at left key xs ≡ true
    rest x xs e f = grind (arith, e, f)

pub down_at : (left : List Wire) (key : ℕ) (cs : List Constraint) (at : ℕ) (d : Constraint) → at < length cs → AreInOrder cs → leads left key (get_or cs at d) ≡ true → All (λ z. leads left key z ≡ false) (take at cs) → IsDown left cs key (get_or cs at d).lower (get_or cs at d).line
down_at left key cs at d short order yes' none = record {
  over = subst (λ n. IsOver cs n x.lower x.line) (leads_from left key x yes') (Contains-get_or cs at d short);
  left' = (and_parts _ _ yes').1;
  first = first;
}
  where
    x : Constraint
    x = get_or cs at d

    later : (c : Constraint) → leads left key c ≡ true → IsNoLater x c → (x.line < c.line) ⊎ ((x.line ≡ c.line) × (x.lower ≤ c.lower))
    later c there (inl less) = inl less
    later c there (inr (same, up)) = inr (same, up (omega (arith, leads_from left key x yes', leads_from left key c there)))

    first : (c : Constraint) → Contains cs c → leads left key c ≡ true → (x.line < c.line) ⊎ ((x.line ≡ c.line) × (x.lower ≤ c.lower))
    first c (k, below, is) there =
        elim (cases_order at k) [
          | inl same ↦ itself (subst (λ z. get_or cs at d ≡ z) is (subst (λ j. get_or cs at d ≡ get_or cs j c) same (get_or_default cs at d c short)))
          | inr other ↦ elim other [
            | inl less ↦ later c there (subst (λ z. IsNoLater x z) is (subst (λ z. IsNoLater z (get_or cs k c)) (sym (get_or_default cs at d c short)) (order at k c less below)))
            | inr more ↦ absurd (none_before left key cs at k c more short is none there)
          ]
        ]
      where
        itself : x ≡ c → (x.line < c.line) ⊎ ((x.line ≡ c.line) × (x.lower ≤ c.lower))
        itself one = inr (ap (λ (z : Constraint). z.line) one, let e : x.lower ≡ c.lower = ap (λ (z : Constraint). z.lower) one in omega (arith, e))
