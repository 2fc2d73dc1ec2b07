-- A walk through columns: it has two ends for each stretch without a break, and these are at least the ends that its
-- edges need.
use Rattle.std.proofs.Common.{ℕ, zero, suc, ◌≡◌, ◌+◌, ◌*◌, ◌<◌, ◌≤◌, ◌==◌, ◌&&◌, ◌||◌, Bool, true, false, not, if◌then◌else◌, leb, List, [], ◌∷◌, refl, sym, ap, arith, ◌∙◌, inl, inr}
use Rattle.std.proofs.lemmas.Bool.{both_ways, cases_eq, eq-eqb, ne_eqb}
use Rattle.std.proofs.lemmas.List.Elements.{All-cons, All-nil}
use Rattle.cell_num.specs.Fingers.{sum_below}
use Rattle.cell_num.specs.declared.finger.Finger.{Finger}
use Rattle.row_trails.specs.Counts.{size_in}
use Rattle.row_trails.specs.Trails.{size, toggle}
use Rattle.row_state.specs.ClassBounds.{Classes, IsEven, IsJoined, begins, breaks, closed, closed_low, closed_none, free_at, free_is, goes_on, open_at, trails_low}
use Rattle.row_state.specs.ClassWalks.{open_le_free}
use Rattle.row_state.specs.Classes.{IsLabelling}
use Rattle.row_state.specs.ClassSizes.{joined_alike, no_finger_even}
use Rattle.row_state.specs.ClassSums.{sum_below_mono}
use Rattle.row_state.specs.Component.{has_finger}
use Rattle.trail_state.specs.declared.edge.Edge.{Edge}
use Rattle.trail_state.specs.Edges.{edge_between}
use Rattle.trail_state.specs.Places.{node_at}
use Rattle.trail_state.proofs.Links.{finger_of, fingers_of, odd_at, odd_more}
use Rattle.trail_state.proofs.Sizes.{sum_classes}

-- the columns by the nodes at their left and right ends
abbrev pub Walk : Type 0
Walk = List (ℕ × ℕ)

abbrev pub breaks_from : ℕ → Walk → ℕ
breaks_from v [] = 0
breaks_from v ((l, r) ∷ w) = (if v == l then 0 else 1) + breaks_from r w

-- neighbours whose facing nodes differ
abbrev pub breaks_of : Walk → ℕ
breaks_of [] = 0
breaks_of ((l, r) ∷ w) = breaks_from r w

abbrev pub edges_of : Walk → List Edge
edges_of [] = []
edges_of ((l, r) ∷ w) = edge_between l r ∷ edges_of w

abbrev pub odd_nodes : Walk → ℕ → Bool
odd_nodes [] = λ u. false
odd_nodes ((l, r) ∷ w) = toggle l (toggle r (odd_nodes w))

-- an edge by whether its left node is the lesser
abbrev pub ordered : Bool → ℕ → ℕ → Edge
ordered b l r = if b then record { a = node_at l; b = node_at r } else record { a = node_at r; b = node_at l }

swapped : (a b x : Bool) → (if a then not (if b then not x else x) else (if b then not x else x)) ≡ (if b then not (if a then not x else x) else (if a then not x else x))
swapped true true x = refl
swapped true false x = refl
swapped false true x = refl
swapped false false x = refl

-- an edge turns the nodes at its ends, whichever of them is on the left
odd_step : (l r : ℕ) (es : List Edge) (u : ℕ) → odd_at (edge_between l r ∷ es) u ≡ toggle l (toggle r (odd_at es)) u
odd_step l r es u = by_order (leb l r) refl
  where
    by_order : (b : Bool) → leb l r ≡ b → odd_at (edge_between l r ∷ es) u ≡ toggle l (toggle r (odd_at es)) u
    by_order true e = ap (λ b. odd_at (ordered b l r ∷ es) u) e ∙ odd_more (ordered true l r) es u
    by_order false e = ap (λ b. odd_at (ordered b l r ∷ es) u) e ∙ odd_more (ordered false l r) es u ∙ sym (swapped (u == l) (u == r) (odd_at es u))

pub odd_walk : (w : Walk) (u : ℕ) → odd_nodes w u ≡ odd_at (edges_of w) u
odd_walk [] u = refl
odd_walk ((l, r) ∷ w) u = ap (λ x. if u == l then not (if u == r then not x else x) else (if u == r then not x else x)) (odd_walk w u) ∙ sym (odd_step l r (edges_of w) u)

-- the lower end of an edge is one of the two nodes
lower_end : (c : ℕ → ℕ) (l r : ℕ) → c l ≡ c r → c (edge_between l r).a.0 ≡ c l
lower_end c l r e = by_order (leb l r)
  where
    by_order : (b : Bool) → c (ordered b l r).a.0 ≡ c l
    by_order true = refl
    by_order false = sym e

-- labels for which both ends of each edge are alike, and below n
module _ (n : ℕ) (c : ℕ → ℕ) (below : (u : ℕ) → u < n → c u < n) where
  abbrev pub IsAlong : Walk → Type 0
  IsAlong [] = Unit {0}
  IsAlong ((l, r) ∷ w) = (l < n) × (r < n) × (c l ≡ c r) × IsAlong w

  labels : (w : Walk) → IsAlong w → IsLabelling c (fingers_of (edges_of w))
  labels [] h = All-nil (λ (f : Finger). c f.lo.0 ≡ c f.hi.0)
  labels ((l, r) ∷ w) h = All-cons (λ (f : Finger). c f.lo.0 ≡ c f.hi.0) (finger_of (edge_between l r)) (fingers_of (edges_of w)) (by_order (leb l r)) (labels w h.3)
    where
      by_order : (b : Bool) → c (ordered b l r).a.0 ≡ c (ordered b l r).b.0
      by_order true = h.2
      by_order false = sym h.2

  abbrev pub classes_of : Walk → Classes
  classes_of w = record { class = c; has = has_finger c (fingers_of (edges_of w)); odd = odd_nodes w }

  even : (w : Walk) → IsAlong w → IsEven n (classes_of w)
  even w h k none = no_finger_even n c (fingers_of (edges_of w)) (odd_nodes w) k (labels w h) (odd_walk w) none

  joins : (l r : ℕ) (w : Walk) → IsAlong ((l, r) ∷ w) → IsJoined n l r (classes_of w) (classes_of ((l, r) ∷ w))
  joins l r w h = record {
    even = even w h.3;
    l_net = below l h.0;
    r_net = below r h.1;
    class = λ u. sym (joined_alike (c l) (c r) (c u) h.2);
    other = λ k not_l not_r. has_other k not_l;
    high = λ differ. absurd (differ h.2);
    odd = refl;
  }
    where
      has_other : (k : ℕ) → (k ≡ c l → ⊥) → has_finger c (fingers_of (edges_of ((l, r) ∷ w))) k ≡ has_finger c (fingers_of (edges_of w)) k
      has_other k not_l = let gone : (c (edge_between l r).a.0 == k) ≡ false = ne_eqb (c (edge_between l r).a.0) k (λ e. not_l (sym e ∙ lower_end c l r h.2)) in ap (λ b. b || has_finger c (fingers_of (edges_of w)) k) gone

  zeros : (f : ℕ → ℕ) (m : ℕ) → ((k : ℕ) → f k ≡ 0) → sum_below f m ≡ 0
  zeros f zero none = refl
  zeros f (suc m) none = omega (arith, zeros f m none, none m)

  open_free : (v : ℕ) (w : Walk) → IsAlong w → sum_below (open_at n (classes_of w) v) n ≤ sum_below (free_at n (classes_of w)) n
  open_free v w h = sum_below_mono (open_at n (classes_of w) v) (free_at n (classes_of w)) n (λ k. open_le_free n (classes_of w) v k (even w h))

  none_free : sum_below (free_at n (classes_of [])) n ≡ 0
  none_free = zeros (free_at n (classes_of [])) n (λ k. free_is n (classes_of []) k ∙ closed_none false (size_in n c (λ u. false) k) refl)

  -- behind an open end each break costs one, and the trails are no more
  behind : (v : ℕ) (w : Walk) → IsAlong w → sum_below (open_at n (classes_of w) v) n ≤ breaks_from v w
  behind v [] h = omega (arith, open_free v [] h, none_free)
  behind v ((l, r) ∷ w) h =
      let rest : sum_below (open_at n (classes_of w) r) n ≤ breaks_from r w = behind r w h.3 in
      elim (cases_eq v l) [
        | inl same ↦
            let moved : sum_below (open_at n (classes_of ((l, r) ∷ w)) v) n ≡ sum_below (open_at n (classes_of ((l, r) ∷ w)) l) n = ap (λ u. sum_below (open_at n (classes_of ((l, r) ∷ w)) u) n) same in
            omega (arith, moved, rest, goes_on n l r (classes_of w) (classes_of ((l, r) ∷ w)) (joins l r w h))
        | inr other ↦
            let costs : ◌≡◌ {A = ℕ} (if v == l then 0 else 1) 1 = rw (ne_eqb v l other) refl in
            omega (arith, costs, rest, breaks n l r v (classes_of w) (classes_of ((l, r) ∷ w)) (joins l r w h))
      ]

  pub few_trails : (w : Walk) → IsAlong w → sum_below (free_at n (classes_of w)) n ≤ breaks_of w + 1
  few_trails [] h = omega (arith, none_free)
  few_trails ((l, r) ∷ w) h = omega (arith, behind r w h.3, begins n l r (classes_of w) (classes_of ((l, r) ∷ w)) (joins l r w h))

  -- a class without odd nodes
  abbrev pub is_even_class : (ℕ → Bool) → (ℕ → Bool) → ℕ → Bool
  is_even_class has odd k = has k && (size_in n c odd k == 0)

  -- the ends of a class are at most twice its trails
  class_ends : (has : Bool) (m : ℕ) → (has ≡ false → m ≡ 0) → m + 2 * (if has && (m == 0) then 1 else 0) ≤ 2 * closed has m
  class_ends false m none = let no_odd : m ≡ 0 = none refl in omega (arith, no_odd)
  class_ends true m none =
      elim (cases_eq m 0) [
        | inl e ↦ let one : ◌≡◌ {A = ℕ} (if m == 0 then 1 else 0) 1 = rw (eq-eqb m 0 e) refl in omega (arith, one, e, trails_low true m)
        | inr some ↦ let no_one : ◌≡◌ {A = ℕ} (if m == 0 then 1 else 0) 0 = rw (ne_eqb m 0 some) refl in omega (arith, no_one, some, closed_low true m (m + 1) (λ e. absurd (both_ways true e refl)) (omega arith))
      ]

  sum_ends : (f : ℕ → ℕ) (q : ℕ → Bool) (g : ℕ → ℕ) (m : ℕ) → ((k : ℕ) → f k + 2 * (if q k then 1 else 0) ≤ 2 * g k) → sum_below f m + 2 * size m q ≤ 2 * sum_below g m
  sum_ends f q g zero le = omega arith
  sum_ends f q g (suc m) le = omega (arith, sum_ends f q g m le, le m)

  -- the odd nodes, and two for each class without them
  pub walk_ends : (w : Walk) → IsAlong w → size n (odd_nodes w) + 2 * size n (is_even_class (has_finger c (fingers_of (edges_of w))) (odd_nodes w)) ≤ 2 * (breaks_of w + 1)
  walk_ends w h =
      let sizes : sum_below (λ k. size_in n c (odd_nodes w) k) n ≡ size n (odd_nodes w) = sum_classes n n c (odd_nodes w) below in
      let ends : sum_below (λ k. size_in n c (odd_nodes w) k) n + 2 * size n (is_even_class (has_finger c (fingers_of (edges_of w))) (odd_nodes w)) ≤ 2 * sum_below (free_at n (classes_of w)) n =
      sum_ends (λ k. size_in n c (odd_nodes w) k) (is_even_class (has_finger c (fingers_of (edges_of w))) (odd_nodes w)) (free_at n (classes_of w)) n (λ k. at_class k) in
      omega (arith, sizes, ends, few_trails w h)
    where
      at_class : (k : ℕ) → size_in n c (odd_nodes w) k + 2 * (if is_even_class (has_finger c (fingers_of (edges_of w))) (odd_nodes w) k then 1 else 0) ≤ 2 * free_at n (classes_of w) k
      at_class k = omega (arith, class_ends (has_finger c (fingers_of (edges_of w)) k) (size_in n c (odd_nodes w) k) (even w h k), free_is n (classes_of w) k)
