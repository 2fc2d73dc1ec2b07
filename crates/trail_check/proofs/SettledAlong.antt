-- Along an order what is certain of all edges was counted, whatever their order.
use Rattle.std.proofs.Common.{ℕ, suc, ◌≡◌, ◌+◌, ◌≤◌, ◌==◌, ◌&&◌, false, not, List, [], ◌∷◌}
use Rattle.std.proofs.Common.{length, refl, ap, arith, ◌∙◌, IsPermutation}
use Rattle.std.proofs.lemmas.Bool.{and_right}
use Rattle.std.proofs.lemmas.List.Sorted.{IsPermutation-map}
use Rattle.row_trails.specs.Counts.{size_in}
use Rattle.row_trails.specs.Trails.{size, size_none, size_same}
use Rattle.row_state.specs.Chained.{least_permuted}
use Rattle.row_state.specs.Component.{has_finger}
use Rattle.trail_state.specs.declared.edge.Node.{Node}
use Rattle.trail_state.specs.declared.edge.Edge.{Edge}
use Rattle.trail_state.specs.declared.state.Place.{Place}
use Rattle.trail_state.specs.Places.{met_places, with_edges}
use Rattle.trail_state.specs.Settling.{ends_after, is_open, state_after}
use Rattle.trail_state.proofs.Along.{AreNodes, AreOpen, all_added, ends_along, has_same, odd_same}
use Rattle.trail_state.proofs.Begun.{begun}
use Rattle.trail_state.proofs.Counted.{has_edge, is_closed_at, odd_shut, settled}
use Rattle.trail_state.proofs.Follows.{Follows, added, edges_follow}
use Rattle.trail_state.proofs.Links.{class_of, finger_of, fingers_of, odd_at}
use Rattle.trail_state.proofs.Settles.{settles}
use Rattle.trail_check.proofs.Exact.{IsExact, begun_exact, edges_exact, settled_exact}
use Rattle.trail_check.proofs.Settled.{gate_settles}
use Rattle.trail_check.proofs.EdgeSettled.{edges_settle}

-- what is certain of all edges was counted along the order
module _ (n : ℕ) (opens : ℕ → List Node) (nodes : AreNodes n opens) where
  pub settles_along : (cs : List (List Edge)) (i : ℕ) (es : List Edge) (s : List Place) → Follows es [] (opens i) s →
      IsExact n es (opens i) s → AreOpen n opens i cs → settled n (all_added es cs) (opens (length cs + i)) ≤ settled n
      es (opens i) + ends_along n opens i s cs
  settles_along [] i es s h exact fits =
      let at : 0 + i ≡ i = omega arith in
      let same : settled n es (opens (0 + i)) ≡ settled n es (opens i) = ap (λ k. settled n es (opens k)) at in
      omega (arith, same)
  settles_along (c ∷ cs) i es s h exact fits =
      let now : List Node = opens i in
      let next : List Node = opens (suc i) in
      let t : List Place = with_edges now s c in
      let first : Follows es c now (met_places now s c) = begun c es now s h (nodes.differ i) fits.0 in
      let follows : Follows (added es c) [] now t = edges_follow c es now (met_places now s c) first in
      let exact_t : IsExact n (added es c) now t =
      edges_exact n c es now (met_places now s c) first (begun_exact n c es now s h (nodes.differ i) fits.0 exact) in
      let edges : settled n (added es c) now ≤ settled n es now = edges_settle n c es now (nodes.below i) fits.0 in
      let gate : settled n (added es c) next ≤ settled n (added es c) now + ends_after now next s c =
      gate_settles n (added es c) now next t follows (nodes.fewer i) (nodes.below i) exact_t in
      let rest : settled n (all_added (added es c) cs) (opens (length cs + suc i)) ≤ settled n (added es c) next +
      ends_along n opens (suc i) (state_after now next s c) cs =
      settles_along cs (suc i) (added es c) (state_after now next s c)
      (settles (added es c) now next t follows (nodes.fewer i))
      (settled_exact n (added es c) now next t follows (nodes.fewer i) (nodes.below i) exact_t) fits.1 in
      let at : length cs + suc i ≡ length (c ∷ cs) + i = omega arith in
      let last : settled n (all_added (added es c) cs) (opens (length cs + suc i)) ≡ settled n
      (all_added (added es c) cs) (opens (length (c ∷ cs) + i)) = ap
      (λ k. settled n (all_added (added es c) cs) (opens k)) at in
      omega (arith, edges, gate, rest, last)

-- how many nodes there are is not asked
pub along_same : (n m : ℕ) (opens : ℕ → List Node) (i : ℕ) (s : List Place) (cs : List (List Edge)) →
    ends_along n opens i s cs ≡ ends_along m opens i s cs
along_same n m opens i s [] = refl
along_same n m opens i s (c ∷ cs) =
    ap (λ k. ends_after (opens i) (opens (suc i)) s c + k) (along_same n m opens (suc i)
    (state_after (opens i) (opens (suc i)) s c) cs)

-- the same edges, in another order
pub settled_same : (n : ℕ) (ds es : List Edge) → IsPermutation ds es → settled n ds [] ≡ settled n es []
settled_same n ds es p =
    let odds : size n (odd_shut ds []) ≡ size n (odd_shut es []) = size_same n (odd_shut ds []) (odd_shut es [])
    (λ v l. odd v) in
    let closed : size n (is_closed_at n ds []) ≡ size n (is_closed_at n es []) = size_same n (is_closed_at n ds [])
    (is_closed_at n es []) (λ h l. at_class h) in
    omega (arith, odds, closed)
  where
    fingers : IsPermutation (fingers_of ds) (fingers_of es)
    fingers = IsPermutation-map finger_of ds es p

    odd : (v : ℕ) → odd_at ds v ≡ odd_at es v
    odd v = odd_same (fingers_of ds) (fingers_of es) v fingers

    class : (v : ℕ) → class_of ds v ≡ class_of es v
    class v = least_permuted (fingers_of ds) (fingers_of es) v fingers

    has_labels : (c d : ℕ → ℕ) → ((v : ℕ) → c v ≡ d v) → (xs : List Edge) (h : ℕ) →
        has_finger c (fingers_of xs) h ≡ has_finger d (fingers_of xs) h
    has_labels c d same [] h = refl
    has_labels c d same (x ∷ xs) h = rw (same x.a.0, has_labels c d same xs h) refl

    at_class : (h : ℕ) → is_closed_at n ds [] h ≡ is_closed_at n es [] h
    at_class h =
        let edges : has_edge ds h ≡ has_edge es h = has_same (class_of ds) (fingers_of ds) (fingers_of es) h fingers ∙
        has_labels (class_of ds) (class_of es) class es h in
        let sizes : size_in n (class_of ds) (odd_at ds) h ≡ size_in n (class_of es) (odd_at es) h =
        size_same n (λ u. (class_of ds u == h) && odd_at ds u) (λ u. (class_of es u == h) && odd_at es u)
        (λ u l. ap (λ k. (k == h) && odd_at ds u) (class u) ∙ ap (λ b. (class_of es u == h) && b) (odd u)) in
        ap (λ b. b && (size_in n (class_of ds) (odd_at ds) h == 0)) edges ∙ ap (λ m. has_edge es h && (m == 0)) sizes

-- of no edges nothing is certain
pub nothing : (n : ℕ) (nodes : List Node) → settled n [] nodes ≡ 0
nothing n nodes =
    let odds : size n (odd_shut [] nodes) ≡ 0 = size_same n (odd_shut [] nodes) (λ v. false)
    (λ v l. and_right (not (is_open nodes v)) false refl) ∙ size_none n in
    let closed : size n (is_closed_at n [] nodes) ≡ 0 = size_same n (is_closed_at n [] nodes) (λ v. false) (λ h l. refl)
    ∙ size_none n in
    omega (arith, odds, closed)
