-- How many nets of a set a class has: with a net more or less in the set, and where two classes are one.
use Rattle.std.proofs.Common.{ℕ, zero, suc, ◌≡◌, ◌+◌, ◌≤◌, Bool, true, false, not, ◌&&◌, ◌||◌, ◌==◌, if◌then◌else◌, max}
use Rattle.std.proofs.Common.{min, List, [], ◌∷◌, refl, sym, ap, arith, ◌∙◌, inl, inr, sum_by}
use Rattle.std.proofs.lemmas.Bool.{and_left, and_right, both_ways, cases_Bool, cases_eq, eq-eqb, eqb-true, ne_eqb}
use Rattle.std.proofs.lemmas.Bool.{or_left, or_right}
use Rattle.std.proofs.lemmas.List.Elements.{All-head, All-tail}
use Rattle.std.proofs.lemmas.List.Sums.{sum_by-cons}
use Rattle.cell_num.specs.declared.finger.Finger.{Finger}
use Rattle.row_trails.specs.Counts.{size_in}
use Rattle.row_trails.specs.Trails.{size, size_none, size_same, size_toggle, toggle, toggle_other, toggle_twice}
use Rattle.row_state.specs.Chained.{joined_a, joined_b, joined_high, joined_other}
use Rattle.row_state.specs.Classes.{IsLabelling, joined}
use Rattle.row_state.specs.Component.{has_finger}
use Rattle.row_state.specs.Parity.{ends_on, is_odd, parity}

and_same : (a x y : Bool) → (a ≡ true → x ≡ y) → (a && x) ≡ (a && y)
and_same true x y h = h refl
and_same false x y h = refl

-- sets that agree in the class
pub size_in_same : (n : ℕ) (c : ℕ → ℕ) (o p : ℕ → Bool) (h : ℕ) → ((u : ℕ) → c u ≡ h → o u ≡ p u) → size_in n c o h
    ≡ size_in n c p h
size_in_same n c o p h same =
    size_same n (λ u. (c u == h) && o u) (λ u. (c u == h) && p u)
    (λ u l. and_same (c u == h) (o u) (p u) (λ e. same u (eqb-true (c u) h e)))

pub size_in_none : (n : ℕ) (c : ℕ → ℕ) (o : ℕ → Bool) (h : ℕ) → ((u : ℕ) → c u ≡ h → o u ≡ false) → size_in n c o h ≡ 0
size_in_none n c o h none =
    size_same n (λ u. (c u == h) && o u) (λ u. false) (λ u l. elim (cases_Bool (c u == h)) [
      | inl e ↦ and_right (c u == h) (o u) (none u (eqb-true (c u) h e))
      | inr e ↦ and_left (c u == h) (o u) e
    ])
    ∙ size_none n

-- a net of another class
pub size_in_other : (n : ℕ) (c : ℕ → ℕ) (o : ℕ → Bool) (h v : ℕ) → (c v ≡ h → ⊥) → size_in n c (toggle v o) h
    ≡ size_in n c o h
size_in_other n c o h v other = size_in_same n c (toggle v o) o h
    (λ u e. toggle_other v o u (λ x. other (ap c (sym x) ∙ e)))

pub size_in_twice : (n : ℕ) (c : ℕ → ℕ) (o : ℕ → Bool) (h v : ℕ) → size_in n c (toggle v (toggle v o)) h
    ≡ size_in n c o h
size_in_twice n c o h v = size_in_same n c (toggle v (toggle v o)) o h (λ u e. toggle_twice v o u)

toggled_in : (a t b : Bool) → (t ≡ true → a ≡ true) → (a && (if t then not b else b))
    ≡ (if t then not (a && b) else (a && b))
toggled_in true t b h = refl
toggled_in false true b h = absurd (both_ways false refl (h refl))
toggled_in false false b h = refl

-- one net more or less
pub size_in_toggle : (n : ℕ) (c : ℕ → ℕ) (o : ℕ → Bool) (h v : ℕ) → size_in n c (toggle v o) h ≤ size_in n c o h + 1
size_in_toggle n c o h v = elim (cases_eq (c v) h) [
  | inl e ↦
      let same : size_in n c (toggle v o) h ≡ size n (toggle v (λ u. (c u == h) && o u)) =
      size_same n (λ u. (c u == h) && toggle v o u) (toggle v (λ u. (c u == h) && o u))
      (λ u l. toggled_in (c u == h) (u == v) (o u) (λ x. eq-eqb (c u) h (ap c (eqb-true u v x) ∙ e))) in
      omega (arith, same, size_toggle n v (λ u. (c u == h) && o u))
  | inr other ↦ omega (arith, size_in_other n c o h v other)
]

-- a class that is neither a nor b stays
pub joined_class : (a b h u : ℕ) → (h ≡ a → ⊥) → (h ≡ b → ⊥) → (joined a b u == h) ≡ (u == h)
joined_class a b h u not_a not_b = elim (cases_eq u (max a b)) [
  | inl e ↦
      let low : joined a b u ≡ min a b = joined_high a b u e in
      let gone : joined a b u ≡ h → ⊥ = λ x. omega (arith, low, x, not_a, not_b) in
      let not_u : u ≡ h → ⊥ = λ x. omega (arith, e, x, not_a, not_b) in
      ne_eqb (joined a b u) h gone ∙ sym (ne_eqb u h not_u)
  | inr other ↦ ap (λ x. x == h) (joined_other a b u other)
]

-- no net has the higher name any more
pub joined_not_high : (a b u : ℕ) → (a ≡ b → ⊥) → joined a b u ≡ max a b → ⊥
joined_not_high a b u differ e = elim (cases_eq u (max a b)) [
  | inl x ↦ let low : joined a b u ≡ min a b = joined_high a b u x in omega (arith, low, e, differ)
  | inr other ↦ let same : joined a b u ≡ u = joined_other a b u other in other (sym same ∙ e)
]

pub joined_alike : (a b u : ℕ) → a ≡ b → joined a b u ≡ u
joined_alike a b u e = elim (cases_eq u (max a b)) [
  | inl x ↦ let low : joined a b u ≡ min a b = joined_high a b u x in omega (arith, low, x, e)
  | inr other ↦ joined_other a b u other
]

-- the nets of the lower name are those of a and of b
joined_either : (a b u : ℕ) → (joined a b u == min a b) ≡ ((u == a) || (u == b))
joined_either a b u = elim (cases_eq u a) [
  | inl e ↦
      let low : joined a b u ≡ min a b = ap (joined a b) e ∙ joined_a a b in
      eq-eqb (joined a b u) (min a b) low ∙ sym (or_left (u == a) (u == b) (eq-eqb u a e))
  | inr not_a ↦ elim (cases_eq u b) [
    | inl e ↦
        let low : joined a b u ≡ min a b = ap (joined a b) e ∙ joined_b a b in
        eq-eqb (joined a b u) (min a b) low ∙ sym (or_right (u == a) (u == b) (eq-eqb u b e))
    | inr not_b ↦
        let same : joined a b u ≡ u = joined_other a b u (λ e. omega (arith, e, not_a, not_b)) in
        let gone : joined a b u ≡ min a b → ⊥ = λ e. omega (arith, same, e, not_a, not_b) in
        ne_eqb (joined a b u) (min a b) gone ∙ sym (rw (ne_eqb u a not_a, ne_eqb u b not_b) refl)
  ]
]

bits_add : (p q t : Bool) → (p ≡ true → q ≡ true → ⊥) → (if (p || q) && t then 1 else 0)
    ≡ (if p && t then 1 else 0) + (if q && t then 1 else 0)
bits_add true true t apart = absurd (apart refl refl)
bits_add true false true apart = refl
bits_add true false false apart = refl
bits_add false true true apart = refl
bits_add false true false apart = refl
bits_add false false t apart = refl

pub size_in_both : (n a b : ℕ) (c d : ℕ → ℕ) (o : ℕ → Bool) → ((u : ℕ) → d u ≡ joined a b (c u)) → (a ≡ b → ⊥)
    → size_in n d o (min a b) ≡ size_in n c o a + size_in n c o b
size_in_both zero a b c d o is differ = omega arith
size_in_both (suc n) a b c d o is differ =
    let either : (d n == min a b) ≡ ((c n == a) || (c n == b)) =
    ap (λ x. x == min a b) (is n) ∙ joined_either a b (c n) in
    let bit : ◌≡◌ {A = ℕ} (if (d n == min a b) && o n then 1 else 0) (if ((c n == a) || (c n == b))
    && o n then 1 else 0) = rw either refl in
    let two = bits_add (c n == a) (c n == b) (o n) (λ x y. differ (sym (eqb-true (c n) a x) ∙ eqb-true (c n) b y)) in
    omega (arith, size_in_both n a b c d o is differ, bit, two)

pub size_in_stays : (n a b h : ℕ) (c d : ℕ → ℕ) (o : ℕ → Bool) → ((u : ℕ) → d u ≡ joined a b (c u)) → (h ≡ a → ⊥)
    → (h ≡ b → ⊥) → size_in n d o h ≡ size_in n c o h
size_in_stays n a b h c d o is not_a not_b =
    size_same n (λ u. (d u == h) && o u) (λ u. (c u == h) && o u) (λ u l. ap (λ x. (x == h) && o u) (is u)
    ∙ ap (λ x. x && o u) (joined_class a b h (c u) not_a not_b))

pub size_in_alike : (n a b h : ℕ) (c d : ℕ → ℕ) (o : ℕ → Bool) → ((u : ℕ) → d u ≡ joined a b (c u)) → a ≡ b
    → size_in n d o h ≡ size_in n c o h
size_in_alike n a b h c d o is e =
    size_same n (λ u. (d u == h) && o u) (λ u. (c u == h) && o u)
    (λ u l. ap (λ x. (x == h) && o u) (is u ∙ joined_alike a b (c u) e))

-- the fingers of a class that is neither a nor b
pub has_stays : (fs : List Finger) (a b h : ℕ) (c d : ℕ → ℕ) → ((u : ℕ) → d u ≡ joined a b (c u)) → (h ≡ a → ⊥)
    → (h ≡ b → ⊥) → has_finger d fs h ≡ has_finger c fs h
has_stays [] a b h c d is not_a not_b = refl
has_stays (f ∷ fs) a b h c d is not_a not_b =
    let here : (d f.lo.0 == h) ≡ (c f.lo.0 == h) =
    ap (λ x. x == h) (is f.lo.0) ∙ joined_class a b h (c f.lo.0) not_a not_b in
    rw (here, has_stays fs a b h c d is not_a not_b) refl

-- no finger has the higher name any more
pub has_no_high : (fs : List Finger) (a b : ℕ) (c d : ℕ → ℕ) → ((u : ℕ) → d u ≡ joined a b (c u)) → (a ≡ b → ⊥)
    → has_finger d fs (max a b) ≡ false
has_no_high [] a b c d is differ = refl
has_no_high (f ∷ fs) a b c d is differ =
    let here : (d f.lo.0 == max a b) ≡ false =
    ne_eqb (d f.lo.0) (max a b) (λ e. joined_not_high a b (c f.lo.0) differ (sym (is f.lo.0) ∙ e)) in
    rw (here, has_no_high fs a b c d is differ) refl

-- a net of odd degree meets a finger of its class
odd_has : (c : ℕ → ℕ) (fs : List Finger) (u : ℕ) → IsLabelling c fs → is_odd fs u ≡ true → has_finger c fs (c u) ≡ true
odd_has c [] u ends odd = odd
odd_has c (f ∷ fs) u ends odd =
    let same : c f.lo.0 ≡ c f.hi.0 = All-head (λ (g : Finger). c g.lo.0 ≡ c g.hi.0) f fs ends in
    let rest : IsLabelling c fs = All-tail (λ (g : Finger). c g.lo.0 ≡ c g.hi.0) f fs ends in
    elim (cases_eq u f.lo.0) [
      | inl e ↦ or_left (c f.lo.0 == c u) (has_finger c fs (c u)) (eq-eqb (c f.lo.0) (c u) (ap c (sym e)))
      | inr not_lo ↦ elim (cases_eq u f.hi.0) [
        | inl e ↦ or_left (c f.lo.0 == c u) (has_finger c fs (c u)) (eq-eqb (c f.lo.0) (c u) (same ∙ ap c (sym e)))
        | inr not_hi ↦
            let none : ends_on u f ≡ 0 = rw (ne_eqb u f.lo.0 not_lo, ne_eqb u f.hi.0 not_hi) refl in
            let degree : sum_by (ends_on u) (f ∷ fs) ≡ sum_by (ends_on u) fs =
            omega (arith, none, sum_by-cons (ends_on u) f fs) in
            or_right (c f.lo.0 == c u) (has_finger c fs (c u)) (odd_has c fs u rest (sym (ap parity degree) ∙ odd))
      ]
    ]

-- so a class of no finger has no such net
pub no_finger_even : (n : ℕ) (c : ℕ → ℕ) (fs : List Finger) (o : ℕ → Bool) (h : ℕ) → IsLabelling c fs
    → ((u : ℕ) → o u ≡ is_odd fs u) → has_finger c fs h ≡ false → size_in n c o h ≡ 0
no_finger_even n c fs o h ends is none =
    size_in_none n c o h (λ u e. elim (cases_Bool (o u)) [
      | inl odd ↦ absurd (both_ways (has_finger c fs h) none (ap (has_finger c fs) (sym e)
          ∙ odd_has c fs u ends (sym (is u) ∙ odd)))
      | inr even ↦ even
    ])
