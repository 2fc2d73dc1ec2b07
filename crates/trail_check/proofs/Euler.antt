-- Euler: some walk passes each edge once, and its stretches without a break have no more ends than the graph must have.
use Rattle.std.proofs.Common.{ℕ, ◌≡◌, ◌+◌, ◌-◌, ◌*◌, ◌/◌, ◌%◌, ◌≤◌, ◌<◌, ◌==◌, ◌&&◌, Bool, true, false}
use Rattle.std.proofs.Common.{if◌then◌else◌, List, [], ◌∷◌, ◌++◌, length, refl, sym, ap, subst, arith, ◌∙◌, inl, inr}
use Rattle.std.proofs.Common.{◌⊎◌, All, Contains, IsPermutation}
use Rattle.std.specs.List.{flat_map}
use Rattle.std.proofs.lemmas.Bool.{and_from, and_left, and_right, cases_Bool, cases_lt, eq-eqb, eqb-true, ne_eqb}
use Rattle.std.proofs.lemmas.Bool.{or_cases}
use Rattle.std.proofs.lemmas.List.Elements.{All-contains, All-head, All-tail}
use Rattle.std.proofs.lemmas.List.Sorted.{All-permutation, Contains-permutation, IsPermutation-sym}
use Rattle.std.proofs.lemmas.List.Sorted.{sum_by-IsPermutation}
use Rattle.std.proofs.lemmas.List.Sums.{sum_by-cons}
use Rattle.cell_num.proofs.Lists.{all_imply, contains_here, contains_there}
use Rattle.cell_num.proofs.Pairs.{Some', test_there}
use Rattle.row_trails.specs.Trails.{size, size_none, size_same}
use Rattle.trail_state.specs.declared.edge.Edge.{Edge}
use Rattle.trail_state.specs.Edges.{edge_between}
use Rattle.trail_state.proofs.Sizes.{IsNew, size_adds}
use Rattle.trail_state.proofs.Walks.{breaks_from, breaks_of, edges_of}
use Rattle.trail_check.specs.Graph.{class_of, degree, ends_of, has_edge, is_even_class, is_odd}
use Rattle.trail_check.proofs.Steps.{IsEven, Runs, Step, is_at, is_on}
use Rattle.trail_check.proofs.Steps as steps
use Rattle.trail_check.proofs.Joins.{Trail}
use Rattle.trail_check.proofs.Apart.{AreApart, Settled, settle, walk}
use Rattle.trail_check.proofs.Closed.{IsClosed, classes_closed, classes_closed_are, classes_differ, ends_differ}
use Rattle.trail_check.proofs.Closed.{ends_odd, ends_open, two_each}
use Rattle.trail_check.proofs.Ends as ends
use Rattle.trail_check.proofs.Edges.{class_labels, class_le, degree_passed, labels_passed, meets, of_edge, one_class}
use Rattle.trail_state.proofs.Paired.{turned_edge}
use Rattle.trail_check.proofs.Edges.{passed, passed_is}

-- without breaks a walk goes on to its last node
breaks_on : (u z : ℕ) (w x : List Step) → Runs u z w → breaks_from u (w ++ x) ≡ breaks_from z x
breaks_on u z [] x h = ap (λ v. breaks_from v x) h
breaks_on u z ((l, r) ∷ w) x h =
    let none : ◌≡◌ {A = ℕ} (if u == l then 0 else 1) 0 = rw (eq-eqb u l h.0) refl in
    omega (arith, none, breaks_on r z w x h.1)

at_most : (b : Bool) → (if b then 0 else 1) ≤ 1
at_most true = omega arith
at_most false = omega arith

-- after a node there is at most one break for each trail
breaks_after : (v u z : ℕ) (w x : List Step) → Runs u z w → 0 < length w → breaks_from v (w ++ x) ≤ 1 + breaks_from z x
breaks_after v u z [] x h some = absurd (omega (arith, some))
breaks_after v u z ((l, r) ∷ w) x h some = omega (arith, at_most (v == l), breaks_on r z w x h.1)

trail_breaks : (v : ℕ) (ts : List Trail) → breaks_from v (walk ts) ≤ length ts
trail_breaks v [] = omega arith
trail_breaks v (t ∷ ts) =
    omega (arith, breaks_after v t.first t.last t.steps (walk ts) t.runs t.some, trail_breaks t.last ts)

first_breaks : (u z : ℕ) (w x : List Step) → Runs u z w → 0 < length w → breaks_of (w ++ x) ≡ breaks_from z x
first_breaks u z [] x h some = absurd (omega (arith, some))
first_breaks u z ((l, r) ∷ w) x h some = breaks_on r z w x h.1

all_breaks : (ts : List Trail) → breaks_of (walk ts) ≤ length ts - 1
all_breaks [] = omega arith
all_breaks (t ∷ ts) = omega (arith, first_breaks t.first t.last t.steps (walk ts) t.runs t.some, trail_breaks t.last ts)

-- an edge between some nodes
pub record IsEdge (e : Edge) : Type 0 where
  pub l : ℕ
  pub r : ℕ
  pub is : e ≡ edge_between l r

abbrev pub IsBelow : ℕ → Edge → Type 0
IsBelow n e = (e.a.0 < n) × (e.b.0 < n)

-- steps through the edges
record Stepped (es : List Edge) : Type 0 where
  pub steps : List Step
  pub is : passed steps ≡ es

stepped : (es : List Edge) → All IsEdge es → Stepped es
stepped [] h = record { steps = []; is = refl }
stepped (e ∷ es) h =
    let here : IsEdge e = All-head IsEdge e es h in
    let rest : Stepped es = stepped es (All-tail IsEdge e es h) in
    record {
      steps = (here.l, here.r) ∷ rest.steps;
      is = ap (λ d. d ∷ passed rest.steps) (sym here.is)
          ∙ ap (λ ds. e ∷ ds) rest.is;
    }

-- a node that is not below n has no edge
beyond : (n v : ℕ) (es : List Edge) → All (IsBelow n) es → n ≤ v → degree es v ≡ 0
beyond n v [] h far = refl
beyond n v (e ∷ es) h far =
    let here : IsBelow n e = All-head (IsBelow n) e es h in
    let a : ◌≡◌ {A = ℕ} (if v == e.a.0 then 1 else 0) 0 =
    rw (ne_eqb v e.a.0 (λ is. omega (arith, is, here.0, far))) refl in
    let b : ◌≡◌ {A = ℕ} (if v == e.b.0 then 1 else 0) 0 =
    rw (ne_eqb v e.b.0 (λ is. omega (arith, is, here.1, far))) refl in
    omega (arith, a, b, beyond n v es (All-tail (IsBelow n) e es h) far, sum_by-cons (meets v) e es)

odd_from : (d : ℕ) → IsEven (d + 1) → (d % 2 == 1) ≡ true
odd_from d h = let one : d % 2 ≡ 1 = omega (arith, h.1) in eq-eqb (d % 2) 1 one

even_from : (d : ℕ) → IsEven d → (d % 2 == 1) ≡ false
even_from d h = let none : d % 2 ≡ 0 = omega (arith, h.1) in ne_eqb (d % 2) 1 (λ e. omega (arith, none, e))

pub record Walked (n : ℕ) (es : List Edge) : Type 0 where
  pub steps : List Step
  pub same : IsPermutation es (edges_of steps)
  pub few : breaks_of steps ≤ ends_of n es / 2 - 1

-- the trails that the edges are settled in
module _ (n : ℕ) (es : List Edge) (below : All (IsBelow n) es) (ts : List Trail) (apart : AreApart ts)
    (same : IsPermutation es (passed (walk ts))) where
  degree_is : (v : ℕ) → degree es v ≡ steps.degree (walk ts) v
  degree_is v = sym (sum_by-IsPermutation (meets v) es (passed (walk ts)) same) ∙ degree_passed (walk ts) v

  chained : (u v : ℕ) → class_of es u ≡ class_of es v → ends.AreChained (walk ts) u v
  chained u v e label h =
      one_class es u v e label (All-permutation (λ (d : Edge). label d.a.0 ≡ label d.b.0) (passed (walk ts)) es
      (IsPermutation-sym es (passed (walk ts)) same) (labels_passed label (walk ts) h))

  is_new : (v : ℕ) → IsEven (steps.degree (walk ts) v + 1) → IsNew n (λ u. false) (is_odd es) v
  is_new v h =
      let odd : IsEven (degree es v + 1) = (h.0, omega (arith, h.1, degree_is v)) in
      let within : v < n = elim (cases_lt v n) [
        | inl l ↦ l
        | inr far ↦ absurd (omega (arith, odd.1, beyond n v es below far))
      ] in
      (within, refl, odd_from (degree es v) odd)

  passes_edge : (w : List Step) (v : ℕ) → is_on w v ≡ true → Some' (λ (e : Edge). (e.a.0 ≡ v) ⊎ (e.b.0 ≡ v)) (passed w)
  passes_edge [] v on = absurd cc
  passes_edge ((l, r) ∷ w) v on =
      elim (or_cases (is_at v (l, r)) (is_on w v) on) [
        | inl here ↦ record {
          it = edge_between l r;
          there = contains_here (edge_between l r) (passed w);
          holds = elim (or_cases (l == v) (r == v) here) [
            | inl a ↦ of_edge (λ x y. (x ≡ v) ⊎ (y ≡ v)) l r (inl (eqb-true l v a)) (inr (eqb-true l v a))
            | inr b ↦ of_edge (λ x y. (x ≡ v) ⊎ (y ≡ v)) l r (inr (eqb-true r v b)) (inl (eqb-true r v b))
          ];
        }
        | inr later ↦
            let f : Some' (λ (e : Edge). (e.a.0 ≡ v) ⊎ (e.b.0 ≡ v)) (passed w) = passes_edge w v later in
            record { it = f.it; there = contains_there (edge_between l r) (passed w) f.it f.there; holds = f.holds }
      ]

  is_new_class : (h : ℕ) → IsClosed ts apart (class_of es) chained h → IsNew n (λ u. false) (is_even_class n es) h
  is_new_class h c =
      let f : Some' (λ (e : Edge). (e.a.0 ≡ c.node) ⊎ (e.b.0 ≡ c.node)) (passed (walk ts)) =
      passes_edge (walk ts) c.node c.met in
      let there : Contains es f.it =
      Contains-permutation (passed (walk ts)) es f.it (IsPermutation-sym es (passed (walk ts)) same) f.there in
      let within : IsBelow n f.it = All-contains (IsBelow n) es f.it below there in
      let ends_alike : class_of es f.it.a.0 ≡ class_of es f.it.b.0 =
      All-contains (λ (d : Edge). class_of es d.a.0 ≡ class_of es d.b.0) es f.it (class_labels es) there in
      let of_h : class_of es f.it.a.0 ≡ h = elim f.holds
      [ inl a ↦ ap (class_of es) a ∙ c.is | inr b ↦ ends_alike ∙ ap (class_of es) b ∙ c.is ] in
      let edge : has_edge es h ≡ true =
      test_there (λ (e : Edge). class_of es e.a.0 == h) es f.it there (eq-eqb (class_of es f.it.a.0) h of_h) in
      let none : size n (λ v. (class_of es v == h) && is_odd es v) ≡ 0 =
      size_same n (λ v. (class_of es v == h) && is_odd es v) (λ v. false)
      (λ v l. elim (cases_Bool (class_of es v == h)) [
        | inl e ↦
            let even : IsEven (steps.degree (walk ts) v) = c.even v (eqb-true (class_of es v) h e) in
            and_right (class_of es v == h) (is_odd es v)
            (even_from (degree es v) (even.0, omega (arith, even.1, degree_is v)))
        | inr e ↦ and_left (class_of es v == h) (is_odd es v) e
      ]) ∙ size_none n in (
        omega (arith, within.0, class_le es f.it.a.0, of_h),
        refl,
        and_from (has_edge es h)
            (size n (λ v. (class_of es v == h) && is_odd es v) == 0) edge
            (eq-eqb (size n (λ v. (class_of es v == h) && is_odd es v)) 0 none),
      )

  enough : 2 * length ts ≤ ends_of n es
  unfolding ends_of
  enough =
      let odds : List ℕ = flat_map (ends_open ts apart) ts in
      let evens : List ℕ = flat_map (classes_closed ts apart (class_of es) chained) ts in
      let a : size n (λ u. false) + length odds ≤ size n (is_odd es) =
      size_adds n odds (λ u. false) (is_odd es) (ends_differ ts apart)
      (all_imply (λ (v : ℕ). IsEven (steps.degree (walk ts) v + 1)) (IsNew n (λ u. false) (is_odd es)) odds is_new
      (ends_odd ts apart)) (λ v e. absurd cc) in
      let b : size n (λ u. false) + length evens ≤ size n (is_even_class n es) =
      size_adds n evens (λ u. false) (is_even_class n es) (classes_differ ts apart (class_of es) chained)
      (all_imply (IsClosed ts apart (class_of es) chained)
      (IsNew n (λ u. false) (is_even_class n es)) evens is_new_class
      (classes_closed_are ts apart (class_of es) chained)) (λ v e. absurd cc) in
      omega (arith, a, b, two_each ts apart (class_of es) chained ts)

pub euler : (n : ℕ) (es : List Edge) → All IsEdge es → All (IsBelow n) es → Walked n es
euler n es are below =
    let s : Stepped es = stepped es are in
    let t : Settled edge_between turned_edge (passed s.steps) = settle edge_between turned_edge s.steps in
    let same : IsPermutation es (passed (walk t.trails)) =
    subst (λ ds. IsPermutation ds (passed (walk t.trails))) s.is t.same in
    record {
      steps = walk t.trails;
      same = subst (IsPermutation es) (passed_is (walk t.trails)) same;
      few = omega (arith, all_breaks t.trails, enough n es below t.trails t.apart same);
    }
