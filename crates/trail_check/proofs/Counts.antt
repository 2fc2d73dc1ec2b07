-- The ends of a graph are those that the states of trails count once all gates are done.
use Rattle.std.proofs.Common.{ℕ, zero, suc, ◌≡◌, ◌%◌, ◌==◌, ◌&&◌, ◌||◌, true, false, not}
use Rattle.std.proofs.Common.{List, [], ◌∷◌, refl, sym, ap, arith, ◌∙◌, inl, inr, sum_by}
use Rattle.std.specs.List.{list_any}
use Rattle.std.proofs.lemmas.Bool.{cases_eq, eq-eqb, ne_eqb}
use Rattle.std.proofs.lemmas.List.Sums.{sum_by-cons}
use Rattle.row_trails.specs.Counts.{size_in}
use Rattle.row_trails.specs.Trails.{size, size_same}
use Rattle.row_state.specs.Component.{has_finger}
use Rattle.row_state.specs.Parity.{ends_on, parity}
use Rattle.trail_state.specs.declared.edge.Edge.{Edge}
use Rattle.trail_state.proofs.Counted as states
use Rattle.trail_state.proofs.Counted.{alive, is_closed_at, odd_shut, settled}
use Rattle.trail_state.proofs.Links.{finger_of, fingers_of, odd_at}
use Rattle.trail_state.proofs.Links as links
use Rattle.trail_check.specs.Graph.{class_of, degree, ends_of, has_edge, is_even_class, is_odd}
use Rattle.trail_check.proofs.Edges.{class_is, meets}

pub parity_is : (n : ℕ) → (n % 2 == 1) ≡ parity n
parity_is zero = refl
parity_is (suc n) = elim (cases_eq (n % 2) 1) [
  | inl odd ↦
      let before : parity n ≡ true = sym (parity_is n) ∙ eq-eqb (n % 2) 1 odd in
      let now : suc n % 2 ≡ 0 = omega (arith, odd) in
      ne_eqb (suc n % 2) 1 (λ e. omega (arith, now, e)) ∙ sym (ap not before)
  | inr other ↦
      let before : parity n ≡ false = sym (parity_is n) ∙ ne_eqb (n % 2) 1 other in
      let now : suc n % 2 ≡ 1 = omega (arith, other) in
      eq-eqb (suc n % 2) 1 now ∙ sym (ap not before)
]

pub degree_is : (es : List Edge) (v : ℕ) → degree es v ≡ sum_by (ends_on v) (fingers_of es)
degree_is [] v = refl
degree_is (e ∷ es) v =
    omega (arith, degree_is es v, sum_by-cons (meets v) e es, sum_by-cons (ends_on v) (finger_of e) (fingers_of es))

pub odd_is : (es : List Edge) (v : ℕ) → is_odd es v ≡ odd_at es v
odd_is es v = parity_is (degree es v) ∙ ap parity (degree_is es v)

pub has_is : (c d : ℕ → ℕ) (es : List Edge) (h : ℕ) → ((v : ℕ) → c v ≡ d v)
    → list_any (λ (e : Edge). c e.a.0 == h) es ≡ has_finger d (fingers_of es) h
has_is c d [] h same = refl
has_is c d (e ∷ es) h same =
    ap (λ v. (v == h) || list_any (λ (k : Edge). c k.a.0 == h) es) (same e.a.0)
    ∙ ap (λ b. (d e.a.0 == h) || b) (has_is c d es h same)

even_is : (n : ℕ) (es : List Edge) (h : ℕ) → is_even_class n es h ≡ is_closed_at n es [] h
even_is n es h =
    let edges : has_edge es h ≡ states.has_edge es h = has_is (class_of es) (links.class_of es) es h (class_is es) in
    let sizes : size n (λ v. (class_of es v == h) && is_odd es v) ≡ size_in n (links.class_of es) (alive es []) h =
    size_same n (λ v. (class_of es v == h) && is_odd es v) (λ v. (links.class_of es v == h) && odd_at es v)
    (λ v l. ap (λ k. (k == h) && is_odd es v) (class_is es v)
    ∙ ap (λ b. (links.class_of es v == h) && b) (odd_is es v)) in
    ap (λ b. b && (size n (λ v. (class_of es v == h) && is_odd es v) == 0)) edges
    ∙ ap (λ m. states.has_edge es h && (m == 0)) sizes

pub ends_are : (n : ℕ) (es : List Edge) → ends_of n es ≡ settled n es []
unfolding ends_of
ends_are n es =
    let odds : size n (is_odd es) ≡ size n (odd_shut es []) =
    size_same n (is_odd es) (odd_shut es []) (λ v l. odd_is es v) in
    let evens : size n (is_even_class n es) ≡ size n (is_closed_at n es []) =
    size_same n (is_even_class n es) (is_closed_at n es []) (λ h l. even_is n es h) in
    omega (arith, odds, evens)
