-- The ends counted along an order are at most those that all its edges need.
use Rattle.std.proofs.Common.{ℕ, suc, ◌≡◌, ◌≢◌, ◌+◌, ◌*◌, ◌<◌, ◌≤◌, ◌==◌, ◌&&◌, true, false, leb, List, [], ◌∷◌, length, refl, sym, ap, arith, ◌∙◌, inl, inr, AllPairs, IsPermutation}
use Rattle.std.proofs.lemmas.Bool.{both_ways, cases_Bool}
use Rattle.std.proofs.lemmas.List.Elements.{All-head, All-tail}
use Rattle.std.proofs.lemmas.List.Sorted.{All-permutation, list_any-IsPermutation, sum_by-IsPermutation}
use Rattle.cell_num.specs.declared.finger.Finger.{Finger}
use Rattle.cell_num.proofs.Lists.{contains_none}
use Rattle.cell_num.proofs.Pairs.{pairs_none}
use Rattle.row_trails.specs.Counts.{size_in}
use Rattle.row_trails.specs.Trails.{size, size_same}
use Rattle.row_state.specs.Chained.{least_labels, least_le}
use Rattle.row_state.specs.Classes.{IsLabelling}
use Rattle.row_state.specs.Component.{has_finger}
use Rattle.row_state.specs.Parity.{ends_on, is_odd, parity}
use Rattle.trail_state.specs.declared.edge.Node.{Node}
use Rattle.trail_state.specs.declared.edge.Edge.{Edge}
use Rattle.trail_state.specs.declared.state.Place.{Place}
use Rattle.trail_state.specs.Edges.{edge_between}
use Rattle.trail_state.specs.Places.{is_met, met_places, with_edges}
use Rattle.trail_state.specs.Settling.{ends_after, is_open, state_after}
use Rattle.trail_state.proofs.Begun.{begun}
use Rattle.trail_state.proofs.Counted.{edges_settled, gate_settled, has_edge, is_closed_at, odd_shut, settled}
use Rattle.trail_state.proofs.Follows.{Follows, added, edges_follow}
use Rattle.trail_state.proofs.Links.{class_of, finger_of, fingers_of, odd_at}
use Rattle.trail_state.proofs.Settles.{AreFewer, settles}
use Rattle.trail_state.proofs.Walks.{IsAlong, Walk, breaks_of, edges_of, ordered, is_even_class, odd_nodes, odd_walk, walk_ends}

abbrev pub all_added : List Edge → List (List Edge) → List Edge
all_added es [] = es
all_added es (c ∷ cs) = all_added (added es c) cs

-- the choices of the gates from one on, and the nodes that these and later gates can meet
module _ (n : ℕ) (opens : ℕ → List Node) where
  abbrev pub ends_along : ℕ → List Place → List (List Edge) → ℕ
  ends_along i s [] = 0
  ends_along i s (c ∷ cs) = ends_after (opens i) (opens (suc i)) s c + ends_along (suc i) (state_after (opens i) (opens (suc i)) s c) cs

  -- each choice meets nodes that its gate can meet
  abbrev pub AreOpen : ℕ → List (List Edge) → Type 0
  AreOpen i [] = Unit {0}
  AreOpen i (c ∷ cs) = ((v : ℕ) → is_met c v ≡ true → is_open (opens i) v ≡ true) × AreOpen (suc i) cs

  pub record AreNodes : Type 0 where
    pub differ : (i : ℕ) → AllPairs (λ (a b : Node). a.0 ≢ b.0) (opens i)
    pub fewer : (i : ℕ) → AreFewer (opens (suc i)) (opens i)
    pub below : (i v : ℕ) → is_open (opens i) v ≡ true → v < n

  pub along_settled : AreNodes → (cs : List (List Edge)) (i : ℕ) (es : List Edge) (s : List Place) → Follows es [] (opens i) s → AreOpen i cs → settled n es (opens i) + ends_along i s cs ≤ settled n (all_added es cs) (opens (length cs + i))
  along_settled nodes [] i es s h fits =
      let at : 0 + i ≡ i = omega arith in
      let same : settled n es (opens i) ≡ settled n es (opens (0 + i)) = ap (λ k. settled n es (opens k)) (sym at) in
      omega (arith, same)
  along_settled nodes (c ∷ cs) i es s h fits =
      let t : List Place = with_edges (opens i) s c in
      let follows : Follows (added es c) [] (opens i) t = edges_follow c es (opens i) (met_places (opens i) s c) (begun c es (opens i) s h (nodes.differ i) fits.0) in
      let now : settled n es (opens i) ≤ settled n (added es c) (opens i) = edges_settled n c es (opens i) (nodes.below i) fits.0 in
      let done : settled n (added es c) (opens i) + ends_after (opens i) (opens (suc i)) s c ≤ settled n (added es c) (opens (suc i)) = gate_settled n (added es c) (opens i) (opens (suc i)) t follows (nodes.fewer i) (nodes.below i) in
      let rest : settled n (added es c) (opens (suc i)) + ends_along (suc i) (state_after (opens i) (opens (suc i)) s c) cs ≤ settled n (all_added (added es c) cs) (opens (length cs + suc i)) =
      along_settled nodes cs (suc i) (added es c) (state_after (opens i) (opens (suc i)) s c) (settles (added es c) (opens i) (opens (suc i)) t follows (nodes.fewer i)) fits.1 in
      let at : length cs + suc i ≡ length (c ∷ cs) + i = omega arith in
      let last : settled n (all_added (added es c) cs) (opens (length cs + suc i)) ≡ settled n (all_added (added es c) cs) (opens (length (c ∷ cs) + i)) = ap (λ k. settled n (all_added (added es c) cs) (opens k)) at in
      omega (arith, now, done, rest, last)

-- before the first gate nothing is met
pub start_follows : (nodes : List Node) → Follows [] [] nodes []
start_follows nodes = record {
  apart = pairs_none (λ (p q : Place). p.node.0 ≢ q.node.0);
  within = λ p c. absurd (contains_none p c);
  odd = λ p c. absurd (contains_none p c);
  coarse = λ p q c _ _. absurd (contains_none p c);
  named = λ p c. absurd (contains_none p c);
  alike = λ p q c _ _. absurd (contains_none p c);
  known = λ p v c _ _ _. absurd (contains_none p c);
  there = λ v _ m. absurd (both_ways false refl m);
  met = λ p c. absurd (contains_none p c);
  coming = λ e c. absurd (contains_none e c);
}

-- the same edges, in another order
pub has_same : (c : ℕ → ℕ) (xs ys : List Finger) (h : ℕ) → IsPermutation xs ys → has_finger c xs h ≡ has_finger c ys h
has_same c xs ys h p = list_any-IsPermutation (λ (f : Finger). c f.lo.0 == h) xs ys p

pub odd_same : (xs ys : List Finger) (u : ℕ) → IsPermutation xs ys → is_odd xs u ≡ is_odd ys u
odd_same xs ys u p = sym (ap parity (sum_by-IsPermutation (ends_on u) xs ys p))

abbrev pub AreBelow : ℕ → Walk → Type 0
AreBelow n [] = Unit {0}
AreBelow n ((l, r) ∷ w) = (l < n) × (r < n) × AreBelow n w

alike_ends : (c : ℕ → ℕ) (l r : ℕ) → c (edge_between l r).a.0 ≡ c (edge_between l r).b.0 → c l ≡ c r
alike_ends c l r e = elim (cases_Bool (leb l r)) [
  | inl low ↦ sym (ap (λ b. c (ordered b l r).a.0) low) ∙ e ∙ ap (λ b. c (ordered b l r).b.0) low
  | inr high ↦ sym (ap (λ b. c (ordered b l r).b.0) high) ∙ sym e ∙ ap (λ b. c (ordered b l r).a.0) high
]

along : (n : ℕ) (c : ℕ → ℕ) (below : (u : ℕ) → u < n → c u < n) (w : Walk) → AreBelow n w → IsLabelling c (fingers_of (edges_of w)) → IsAlong n c below w
along n c below [] h ends = tt
along n c below ((l, r) ∷ w) h ends = (h.0, h.1, alike_ends c l r (All-head (λ (f : Finger). c f.lo.0 ≡ c f.hi.0) (finger_of (edge_between l r)) (fingers_of (edges_of w)) ends), along n c below w h.2 (All-tail (λ (f : Finger). c f.lo.0 ≡ c f.hi.0) (finger_of (edge_between l r)) (fingers_of (edges_of w)) ends))

-- no walk with these edges has fewer ends than are certain of them
pub settled_least : (n : ℕ) (es : List Edge) (w : Walk) → AreBelow n w → IsPermutation (fingers_of es) (fingers_of (edges_of w)) → settled n es [] ≤ 2 * (breaks_of w + 1)
settled_least n es w h same =
    let c : ℕ → ℕ = class_of es in
    let below : (u : ℕ) → u < n → class_of es u < n = λ u l. omega (arith, l, least_le (fingers_of es) u) in
    let labels : IsLabelling (class_of es) (fingers_of (edges_of w)) = All-permutation (λ (f : Finger). class_of es f.lo.0 ≡ class_of es f.hi.0) (fingers_of es) (fingers_of (edges_of w)) same (least_labels (fingers_of es)) in
    let ends = walk_ends n (class_of es) below w (along n (class_of es) below w h labels) in
    let odds : (u : ℕ) → odd_nodes w u ≡ odd_at es u = λ u. odd_walk w u ∙ sym (odd_same (fingers_of es) (fingers_of (edges_of w)) u same) in
    let odd_size : size n (odd_nodes w) ≡ size n (odd_shut es []) = size_same n (odd_nodes w) (odd_shut es []) (λ u l. odds u) in
    let even_size : size n (is_even_class n (class_of es) below (has_finger (class_of es) (fingers_of (edges_of w))) (odd_nodes w)) ≡ size n (is_closed_at n es []) =
    size_same n (is_even_class n (class_of es) below (has_finger (class_of es) (fingers_of (edges_of w))) (odd_nodes w)) (is_closed_at n es []) (λ k l. at_class k odds) in
    omega (arith, ends, odd_size, even_size)
  where
    at_class : (k : ℕ) → ((u : ℕ) → odd_nodes w u ≡ odd_at es u) → (has_finger (class_of es) (fingers_of (edges_of w)) k && (size_in n (class_of es) (odd_nodes w) k == 0)) ≡ is_closed_at n es [] k
    at_class k odds =
        let sizes : size_in n (class_of es) (odd_nodes w) k ≡ size_in n (class_of es) (odd_at es) k = size_same n (λ u. (class_of es u == k) && odd_nodes w u) (λ u. (class_of es u == k) && odd_at es u) (λ u l. ap (λ b. (class_of es u == k) && b) (odds u)) in
        ap (λ b. b && (size_in n (class_of es) (odd_nodes w) k == 0)) (sym (has_same (class_of es) (fingers_of es) (fingers_of (edges_of w)) k same)) ∙ ap (λ m. has_edge es k && (m == 0)) sizes
