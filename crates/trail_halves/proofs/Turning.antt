-- How many numbers of a set have an odd degree, as edges are added: each end of an edge in the set turns one.
use Rattle.std.proofs.Common.{ℕ, ◌≡◌, ◌+◌, ◌%◌, ◌<◌, ◌≤◌, ◌==◌, ◌&&◌, Bool, true, false, if◌then◌else◌}
use Rattle.std.proofs.Common.{List, [], ◌∷◌, refl, sym, ap, arith, ◌∙◌, inl, inr, sum_by}
use Rattle.std.proofs.lemmas.Bool.{and_left, and_right, cases_eq, eq-eqb, eqb-true, ne_eqb}
use Rattle.std.proofs.lemmas.List.Elements.{All-head, All-tail}
use Rattle.std.proofs.lemmas.List.Sums.{sum_by-cons}
use Rattle.row_trails.specs.Trails.{size, size_none, size_same}
use Rattle.trail_state.specs.declared.edge.Edge.{Edge}
use Rattle.trail_state.proofs.Sizes.{size_with}
use Rattle.trail_check.specs.Graph.{degree, is_odd}
use Rattle.trail_check.proofs.Edges.{HaveLabels, meets}
use Rattle.trail_halves.specs.Halves.{AreBelow}

-- what a number may become when it changes by one so many times
pub record Turned (odd times after : ℕ) : Type 0 where
  pub least : odd ≤ after + times
  pub parity : (odd + times + after) % 2 ≡ 0

never : (odd : ℕ) → Turned odd 0 odd
never odd = record { least = omega arith; parity = omega arith }

further : (odd s middle t after : ℕ) → Turned odd s middle → Turned middle t after → Turned odd (s + t) after
further odd s middle t after a b =
    record { least = omega (arith, a.least, b.least); parity = omega (arith, a.parity, b.parity) }

abbrev pub is_odd_in : (ℕ → Bool) → (ℕ → ℕ) → ℕ → Bool
is_odd_in set degrees v = set v && (degrees v % 2 == 1)

abbrev pub odd_in : ℕ → (ℕ → Bool) → (ℕ → ℕ) → ℕ
odd_in n set degrees = size n (is_odd_in set degrees)

-- one end more at w
abbrev with_end : ℕ → (ℕ → ℕ) → ℕ → ℕ
with_end w degrees v = degrees v + (if v == w then 1 else 0)

end_here : (w : ℕ) (degrees : ℕ → ℕ) → with_end w degrees w ≡ degrees w + 1
end_here w degrees = ap (λ b. degrees w + (if b then 1 else 0)) (eq-eqb w w refl)

end_elsewhere : (w : ℕ) (set : ℕ → Bool) (degrees : ℕ → ℕ) (v : ℕ) → (v ≡ w → ⊥) → is_odd_in set degrees v
    ≡ is_odd_in set (with_end w degrees) v
end_elsewhere w set degrees v other =
    let same : degrees v ≡ with_end w degrees v =
    let none : ◌≡◌ {A = ℕ} (if v == w then 1 else 0) 0 = rw (ne_eqb v w other) refl in omega (arith, none) in
    ap (λ d. set v && (d % 2 == 1)) same

one_end : (n w : ℕ) (set : ℕ → Bool) (degrees : ℕ → ℕ) → w < n → Turned (odd_in n set degrees) (if set w then 1 else 0)
    (odd_in n set (with_end w degrees))
one_end n w set degrees within = by (set w) refl
  where
    odd_after : (degrees w % 2 == 1) ≡ false → (with_end w degrees w % 2 == 1) ≡ true
    odd_after even =
        let turned : with_end w degrees w % 2 ≡ 1 =
        elim (cases_eq (degrees w % 2) 1) [
          | inl e ↦ absurd (ne_true (degrees w % 2) e even)
          | inr other ↦ omega (arith, other, end_here w degrees)
        ] in
        eq-eqb (with_end w degrees w % 2) 1 turned
      where
        ne_true : (d : ℕ) → d ≡ 1 → (d == 1) ≡ false → ⊥
        ne_true d e f = let t : (d == 1) ≡ true = eq-eqb d 1 e in absurd cc

    even_after : (degrees w % 2 == 1) ≡ true → (with_end w degrees w % 2 == 1) ≡ false
    even_after odd =
        let was : degrees w % 2 ≡ 1 = eqb-true (degrees w % 2) 1 odd in
        ne_eqb (with_end w degrees w % 2) 1 (λ e. omega (arith, e, was, end_here w degrees))

    inside : set w ≡ true → (b : Bool) → (degrees w % 2 == 1) ≡ b → Turned (odd_in n set degrees) 1
        (odd_in n set (with_end w degrees))
    inside there true odd =
        let one : odd_in n set degrees ≡ odd_in n set (with_end w degrees) + 1 =
        size_with n w (is_odd_in set (with_end w degrees)) (is_odd_in set degrees) within
        (and_right (set w) (with_end w degrees w % 2 == 1) (even_after odd)) (rw (there, odd) refl)
        (λ v other. sym (end_elsewhere w set degrees v other)) in
        record { least = omega (arith, one); parity = omega (arith, one) }
    inside there false even =
        let one : odd_in n set (with_end w degrees) ≡ odd_in n set degrees + 1 =
        size_with n w (is_odd_in set degrees) (is_odd_in set (with_end w degrees)) within
        (and_right (set w) (degrees w % 2 == 1) even) (rw (there, odd_after even) refl)
        (end_elsewhere w set degrees) in
        record { least = omega (arith, one); parity = omega (arith, one) }

    outside : set w ≡ false → Turned (odd_in n set degrees) 0 (odd_in n set (with_end w degrees))
    outside out =
        let same : odd_in n set degrees ≡ odd_in n set (with_end w degrees) =
        size_same n (is_odd_in set degrees) (is_odd_in set (with_end w degrees)) (λ v l. elim (cases_eq v w) [
          | inl e ↦
              let off : set v ≡ false = ap set e ∙ out in
              and_left (set v) (degrees v % 2 == 1) off ∙ sym (and_left (set v) (with_end w degrees v % 2 == 1) off)
          | inr other ↦ end_elsewhere w set degrees v other
        ]) in
        record { least = omega (arith, same); parity = omega (arith, same) }

    by : (b : Bool) → set w ≡ b → Turned (odd_in n set degrees) (if b then 1 else 0)
        (odd_in n set (with_end w degrees))
    by true there = inside there (degrees w % 2 == 1) refl
    by false out = outside out

-- how many ends of an edge are in the set
abbrev pub ends_in : (ℕ → Bool) → Edge → ℕ
ends_in set e = (if set e.a.0 then 1 else 0) + (if set e.b.0 then 1 else 0)

-- each end of the edges in the set turns one of its numbers
pub edges_turn : (n : ℕ) (set : ℕ → Bool) (degrees : ℕ → ℕ) (es : List Edge) → AreBelow n es
    → Turned (odd_in n set degrees) (sum_by (ends_in set) es) (odd_in n set (λ v. degrees v + degree es v))
edges_turn n set degrees [] below =
    let same : odd_in n set degrees ≡ odd_in n set (λ v. degrees v + degree [] v) =
    size_same n (is_odd_in set degrees) (is_odd_in set (λ v. degrees v + degree [] v))
    (λ v l. let is : degrees v ≡ degrees v + degree [] v = omega arith in ap (λ d. set v && (d % 2 == 1)) is) in
    record { least = omega (arith, same); parity = omega (arith, same) }
edges_turn n set degrees (e ∷ es) below =
    let here : (e.a.0 < n) × (e.b.0 < n) = All-head (λ (d : Edge). (d.a.0 < n) × (d.b.0 < n)) e es below in
    let a : Turned (odd_in n set degrees) (if set e.a.0 then 1 else 0) (odd_in n set (with_end e.a.0 degrees)) =
    one_end n e.a.0 set degrees here.0 in
    let b : Turned (odd_in n set (with_end e.a.0 degrees)) (if set e.b.0 then 1 else 0)
    (odd_in n set (with_end e.b.0 (with_end e.a.0 degrees))) =
    one_end n e.b.0 set (with_end e.a.0 degrees) here.1 in
    let rest : Turned (odd_in n set (with_end e.b.0 (with_end e.a.0 degrees))) (sum_by (ends_in set) es)
    (odd_in n set (λ v. with_end e.b.0 (with_end e.a.0 degrees) v + degree es v)) =
    edges_turn n set (with_end e.b.0 (with_end e.a.0 degrees)) es
    (All-tail (λ (d : Edge). (d.a.0 < n) × (d.b.0 < n)) e es below) in
    let same : odd_in n set (λ v. with_end e.b.0 (with_end e.a.0 degrees) v + degree es v)
    ≡ odd_in n set (λ v. degrees v + degree (e ∷ es) v) =
    size_same n (is_odd_in set (λ v. with_end e.b.0 (with_end e.a.0 degrees) v + degree es v))
    (is_odd_in set (λ v. degrees v + degree (e ∷ es) v))
    (λ v l. let is : with_end e.b.0 (with_end e.a.0 degrees) v + degree es v ≡ degrees v + degree (e ∷ es) v =
    omega (arith, sum_by-cons (meets v) e es) in ap (λ d. set v && (d % 2 == 1)) is) in
    record {
      least = omega (arith, a.least, b.least, rest.least, same, sum_by-cons (ends_in set) e es);
      parity = omega (arith, a.parity, b.parity, rest.parity, same, sum_by-cons (ends_in set) e es);
    }

-- of each class of labels an even number is odd
pub even_many : (n : ℕ) (label : ℕ → ℕ) (es : List Edge) (h : ℕ) → AreBelow n es → HaveLabels label es
    → size n (λ v. (label v == h) && is_odd es v) % 2 ≡ 0
even_many n label es h below alike =
    let turned : Turned (odd_in n (λ v. label v == h) (λ v. 0)) (sum_by (ends_in (λ v. label v == h)) es)
    (odd_in n (λ v. label v == h) (λ v. 0 + degree es v)) = edges_turn n (λ v. label v == h) (λ v. 0) es below in
    let none : odd_in n (λ v. label v == h) (λ v. 0) ≡ 0 =
    size_same n (is_odd_in (λ v. label v == h) (λ v. 0)) (λ v. false) (λ v l. and_right (label v == h) false refl)
    ∙ size_none n in
    let same : odd_in n (λ v. label v == h) (λ v. 0 + degree es v) ≡ size n (λ v. (label v == h) && is_odd es v) =
    size_same n (is_odd_in (λ v. label v == h) (λ v. 0 + degree es v)) (λ v. (label v == h) && is_odd es v)
    (λ v l. let is : 0 + degree es v ≡ degree es v = omega arith in ap (λ d. (label v == h) && (d % 2 == 1)) is) in
    omega (arith, turned.parity, none, same, twos es alike)
  where
    twos : (ds : List Edge) → HaveLabels label ds → sum_by (ends_in (λ v. label v == h)) ds % 2 ≡ 0
    twos [] k = refl
    twos (d ∷ ds) k =
        let one : label d.a.0 ≡ label d.b.0 = All-head (λ (e : Edge). label e.a.0 ≡ label e.b.0) d ds k in
        let two : ◌≡◌ {A = ℕ} (if label d.a.0 == h then 1 else 0) (if label d.b.0 == h then 1 else 0) =
        ap (λ x. if x == h then 1 else 0) one in
        omega (
          arith,
          two,
          twos ds (All-tail (λ (e : Edge). label e.a.0 ≡ label e.b.0) d ds k),
          sum_by-cons (ends_in (λ v. label v == h)) d ds,
        )
