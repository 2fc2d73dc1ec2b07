-- A text can hold the line that lists a state.
use Rattle.std.specs.Prelude.{ℕ, zero, suc, ◌≡◌, ◌+◌, ◌*◌, ◌/◌, ◌%◌, ◌<◌, ◌≤◌, Bool, true, false, List, [], ◌∷◌, All, AllPairs, Contains, length, map, slice_get}
use Rattle.std.specs.List.{filter, list_all}
use Rattle.std.proofs.Common.{refl, sym, ap, subst, arith, ◌∙◌, inl, inr}
use Rattle.std.proofs.lemmas.Bool.{and_from, cases_Bool, eq-eqb, eqb-true}
use Rattle.std.proofs.lemmas.List.Elements.{All-contains, All-head, All-nil, All-tail}
use Rattle.std.proofs.lemmas.List.Kept.{AllPairs-filter}
use Rattle.cell_num.proofs.In.{Image, contains_map, in_map}
use Rattle.cell_num.proofs.Lists.{all_from_contains, contains_cons, contains_here, contains_none, contains_there}
use Rattle.cell_num.proofs.Pairs.{pairs_head, pairs_map, pairs_none, pairs_tail}
use Rattle.trail_state.specs.declared.edge.Node.{Node}
use Rattle.trail_state.specs.declared.state.Place.{Place}
use Rattle.trail_state.specs.declared.level.Level.{Level}
use Rattle.trail_state.proofs.Members.{Passes, passes_from, passes_to}
use Rattle.trail_log.specs.declared.class.Class.{Class}
use Rattle.trail_log.specs.declared.class.NetPair.{NetPair}
use Rattle.trail_log.specs.Order.{class_rank, classes_in_order, first_rank, increases, node_rank}
use Rattle.trail_log.specs.declared.trails.LemmaLine.{LemmaLine}
use Rattle.trail_log.specs.Fits.{ClassFits, LemmaFits, NodeFits}
use Rattle.trail_check.specs.Listed.{nodes_of}
use Rattle.trail_search.specs.Line.{AllNodes, AreNodes, IsNode, class_at, is_name, is_odd, is_of, line_of, pair_at}
use Rattle.trail_search.specs.Search.{IsStateOf}
use Rattle.trail_search.proofs.Orders.{increases_from}

-- ---- states

-- places at nodes in ascending order, each class named by one that does not come behind its nodes
pub record IsState (nets : ℕ) (s : List Place) : Type 0 where
  pub ascend : AllPairs (λ (p q : Place). p.node.0 < q.node.0) s
  pub within : All (λ (p : Place). IsNode nets p.node) s
  pub named : All (λ (p : Place). p.class.0 ≤ p.node.0) s

state_of : (nets : ℕ) (nodes : List Node) (s : List Place) → AreNodes nets nodes → IsStateOf nodes s → IsState nets s
state_of nets nodes s all h = record {
  ascend = h.ascend;
  within = all_from_contains (λ (p : Place). IsNode nets p.node) s (λ p c. All-contains (IsNode nets) nodes p.node all.within (h.within p c));
  named = all_from_contains (λ (p : Place). p.class.0 ≤ p.node.0) s h.low;
}

-- ---- the line of such a state

rank_below : (p q : Place) → p.node.0 < q.node.0 → node_rank (pair_at p) < node_rank (pair_at q)
rank_below p q l = ordered p.node.0 q.node.0 l
  where
    ordered : (a b : ℕ) → a < b → 4294967296 * (a / 256) + a % 256 < 4294967296 * (b / 256) + b % 256
    ordered a b less = omega (arith, less)

pairs_ascend : (s : List Place) (p : Place → Bool) → AllPairs (λ (x y : Place). x.node.0 < y.node.0) s → AllPairs (λ (x y : NetPair). node_rank x < node_rank y) (map pair_at (filter p s))
pairs_ascend s p h =
    pairs_map (λ (x y : Place). x.node.0 < y.node.0) (Contains (filter p s)) (λ (x y : NetPair). node_rank x < node_rank y) pair_at (filter p s) (λ x y _ _ l. rank_below x y l) (all_from_contains (Contains (filter p s)) (filter p s) (λ x k. k)) (AllPairs-filter (λ (x y : Place). x.node.0 < y.node.0) p s h)

pairs_fit : (nets : ℕ) (s : List Place) (p : Place → Bool) → All (λ (x : Place). IsNode nets x.node) s → All (NodeFits nets) (map pair_at (filter p s))
pairs_fit nets s p h = all_from_contains (NodeFits nets) (map pair_at (filter p s)) at
  where
    at : (y : NetPair) → Contains (map pair_at (filter p s)) y → NodeFits nets y
    at y k =
        let i : Image pair_at (filter p s) y = in_map pair_at (filter p s) y k in
        let x : Passes p s i.of = passes_from p s i.of i.listed in
        let w : IsNode nets i.of.node = All-contains (λ (z : Place). IsNode nets z.node) s i.of h x.there in
        subst (NodeFits nets) i.is (record { p = w.0; n = w.1 })

some_item : {X : Type 0} (xs : List X) (x : X) → Contains xs x → 1 ≤ length xs
some_item [] x k = absurd (contains_none x k)
some_item (y ∷ ys) x k = omega arith

-- the first place of a class is the one that names it
first_named : (s : List Place) (r : Place) → AllPairs (λ (p q : Place). p.node.0 < q.node.0) s → All (λ (p : Place). p.class.0 ≤ p.node.0) s → Contains s r → is_name r ≡ true → first_rank (map pair_at (filter (is_of r.class.0) s)) ≡ node_rank (pair_at r)
first_named [] r ascend named there e = absurd (contains_none r there)
first_named (x ∷ xs) r ascend named there e =
    elim (cases_Bool (is_of r.class.0 x)) [
      | inl on ↦
          let class : x.class.0 ≡ r.class.0 = eqb-true x.class.0 r.class.0 on in
          let low : x.class.0 ≤ x.node.0 = All-head (λ (p : Place). p.class.0 ≤ p.node.0) x xs named in
          let name : r.node.0 ≡ r.class.0 = eqb-true r.node.0 r.class.0 e in
          let node : x.node.0 ≡ r.node.0 = elim (contains_cons x xs r there) [
            | inl same ↦ ap (λ (p : Place). p.node.0) same
            | inr rest ↦ let l : x.node.0 < r.node.0 = All-contains (λ (q : Place). x.node.0 < q.node.0) xs r (pairs_head (λ (p q : Place). p.node.0 < q.node.0) x xs ascend) rest in absurd (omega (arith, class, low, name, l))
          ] in
          taken on ∙ ap (λ (n : ℕ). 4294967296 * (n / 256) + n % 256) node
      | inr off ↦ elim (contains_cons x xs r there) [
        | inl same ↦ absurd (never off (eq-eqb x.class.0 r.class.0 (ap (λ (p : Place). p.class.0) same)))
        | inr rest ↦ skipped off ∙ first_named xs r (pairs_tail (λ (p q : Place). p.node.0 < q.node.0) x xs ascend) (All-tail (λ (p : Place). p.class.0 ≤ p.node.0) x xs named) rest e
      ]
    ]
  where
    taken : is_of r.class.0 x ≡ true → first_rank (map pair_at (filter (is_of r.class.0) (x ∷ xs))) ≡ node_rank (pair_at x)
    taken on = rw on refl

    skipped : is_of r.class.0 x ≡ false → first_rank (map pair_at (filter (is_of r.class.0) (x ∷ xs))) ≡ first_rank (map pair_at (filter (is_of r.class.0) xs))
    skipped off = rw off refl

    never : is_of r.class.0 x ≡ false → is_of r.class.0 x ≡ true → ⊥
    never a b = cc

all_true : {A : Type 0} (p : A → Bool) (xs : List A) → ((x : A) → Contains xs x → p x ≡ true) → list_all p xs ≡ true
all_true p [] h = refl
all_true p (x ∷ xs) h = and_from (p x) (list_all p xs) (h x (contains_here x xs)) (all_true p xs (λ y k. h y (contains_there x xs y k)))

-- the classes of a state
module _ (nets : ℕ) (s : List Place) (h : IsState nets s) where
  classes : List Class
  classes = map (class_at s) (filter is_name s)

  class_fits : (r : Place) → Contains s r → ClassFits nets (class_at s r)
  class_fits r k = record {
    some = some_item (map pair_at (filter (is_of r.class.0) s)) (pair_at r) (contains_map pair_at (filter (is_of r.class.0) s) r (passes_to (is_of r.class.0) s r k (eq-eqb r.class.0 r.class.0 refl)));
    nodes = pairs_fit nets s (is_of r.class.0) h.within;
  }

  class_increases : (r : Place) → increases node_rank (class_at s r).nodes ≡ true
  class_increases r = increases_from node_rank (class_at s r).nodes (pairs_ascend s (is_of r.class.0) h.ascend)

  of_place : (class : Class) → Contains (map (class_at s) (filter is_name s)) class → (r : Place) × Contains s r × (class_at s r ≡ class)
  of_place class k =
      let i : Image (class_at s) (filter is_name s) class = in_map (class_at s) (filter is_name s) class k in
      let x : Passes is_name s i.of = passes_from is_name s i.of i.listed in
      (i.of, x.there, i.is)

  pub classes_fit : All (ClassFits nets) (map (class_at s) (filter is_name s))
  classes_fit = all_from_contains (ClassFits nets) (map (class_at s) (filter is_name s)) (λ class k. let r : (r : Place) × Contains s r × (class_at s r ≡ class) = of_place class k in subst (ClassFits nets) r.2 (class_fits r.0 r.1))

  names_ascend : AllPairs (λ (c d : Class). class_rank c < class_rank d) (map (class_at s) (filter is_name s))
  names_ascend =
      pairs_map (λ (p q : Place). p.node.0 < q.node.0) (Passes is_name s) (λ (c d : Class). class_rank c < class_rank d) (class_at s) (filter is_name s)
      (λ p q kp kq l. omega (arith, rank_below p q l, first_named s p h.ascend h.named kp.there kp.passes, first_named s q h.ascend h.named kq.there kq.passes))
      (all_from_contains (Passes is_name s) (filter is_name s) (λ p k. passes_from is_name s p k))
      (AllPairs-filter (λ (p q : Place). p.node.0 < q.node.0) is_name s h.ascend)

  pub classes_ordered : classes_in_order (map (class_at s) (filter is_name s)) ≡ true
  classes_ordered =
      and_from (list_all (λ (class : Class). increases node_rank class.nodes) (map (class_at s) (filter is_name s))) (increases class_rank (map (class_at s) (filter is_name s)))
      (all_true (λ (class : Class). increases node_rank class.nodes) (map (class_at s) (filter is_name s)) (λ class k. let r : (r : Place) × Contains s r × (class_at s r ≡ class) = of_place class k in subst (λ (c : Class). increases node_rank c.nodes ≡ true) r.2 (class_increases r.0)))
      (increases_from class_rank (map (class_at s) (filter is_name s)) names_ascend)

state_fits : (nets : ℕ) (s : List Place) (done bound : ℕ) → IsState nets s → 1 ≤ bound → bound ≤ 64 → done < 32 → LemmaFits nets (line_of done s bound)
state_fits nets s done bound h some few gates = record {
  some = some;
  few = few;
  done = gates;
  odd = pairs_fit nets s is_odd h.within;
  classes = classes_fit nets s h;
  odd_order = increases_from node_rank (map pair_at (filter is_odd s)) (pairs_ascend s is_odd h.ascend);
  class_order = classes_ordered nets s h;
}

-- the nodes of a level
pub level_nodes : (nets : ℕ) (levels : List Level) (done : ℕ) → All (λ (level : Level). AreNodes nets level.now) levels → AreNodes nets (nodes_of (slice_get levels done))
level_nodes nets [] done all = record { ascend = pairs_none (λ (a b : Node). a.0 < b.0); within = All-nil (IsNode nets) }
level_nodes nets (l ∷ ls) zero all = All-head (λ (level : Level). AreNodes nets level.now) l ls all
level_nodes nets (l ∷ ls) (suc done) all = level_nodes nets ls done (All-tail (λ (level : Level). AreNodes nets level.now) l ls all)

-- the line of a state fits
pub line_fits : (nets : ℕ) (levels : List Level) (line : LemmaLine) (s : List Place) (done bound : ℕ) → AllNodes nets levels → line ≡ line_of done s bound → IsStateOf (nodes_of (slice_get levels done)) s → 1 ≤ bound → bound ≤ 64 → done < 32 → LemmaFits nets line
line_fits nets levels line s done bound all is h some few gates =
    subst (LemmaFits nets) (sym is) (state_fits nets s done bound (state_of nets (nodes_of (slice_get levels done)) s (level_nodes nets levels done all) h) some few gates)
