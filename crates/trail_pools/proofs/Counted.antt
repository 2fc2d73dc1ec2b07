-- The ends that are certain: those of places that no later gate can meet, and two for each class without open places
-- and places with ends.
use Rattle.std.proofs.Common.{inl, inr, ap, ℕ, ◌≡◌, ◌+◌, ◌*◌, ◌<◌, ◌≤◌, ◌==◌, ◌||◌, ◌&&◌, Bool, true, not}
use Rattle.std.proofs.Common.{if◌then◌else◌, List, [], ◌∷◌, refl, sym, arith, ◌∙◌}
use Rattle.std.proofs.lemmas.Bool.{or_cases, and_from, and_parts, both_ways, eq-eqb, eqb-true, or_left, or_right}
use Rattle.std.proofs.lemmas.List.Elements.{All-head, All-tail}
use Rattle.cell_num.specs.Fingers.{sum_below}
use Rattle.cell_num.specs.declared.finger.Finger.{Finger}
use Rattle.row_trails.specs.Counts.{size_in}
use Rattle.row_trails.specs.Trails.{size}
use Rattle.row_state.specs.Classes.{IsLabelling}
use Rattle.row_state.specs.ClassSizes.{has_stays, size_in_stays}
use Rattle.row_state.specs.Component.{has_finger}
use Rattle.trail_state.specs.declared.edge.Node.{Node}
use Rattle.trail_state.specs.declared.edge.Edge.{Edge}
use Rattle.trail_state.specs.Places.{is_end, is_met}
use Rattle.trail_state.specs.Settling.{is_open}
use Rattle.trail_state.proofs.Counted.{has_edge}
use Rattle.trail_state.proofs.Follows.{added}
use Rattle.trail_state.proofs.Links.{class_of, finger_of, fingers_of}
use Rattle.trail_state.proofs.Sizes.{size_mono, size_zero}

-- the class of a node that an edge meets has an edge
pub met_has : (c : ℕ → ℕ) (es : List Edge) (v : ℕ) → IsLabelling c (fingers_of es) → is_met es v ≡ true
    → has_finger c (fingers_of es) (c v) ≡ true
met_has c [] v labels m = m
met_has c (d ∷ es) v labels m =
    let same : c d.a.0 ≡ c d.b.0 =
    All-head (λ (f : Finger). c f.lo.0 ≡ c f.hi.0) (finger_of d) (fingers_of es) labels in
    elim (or_cases (is_end v d) (is_met es v) m) [
      | inl end ↦ or_left (c d.a.0 == c v) (has_finger c (fingers_of es) (c v))
          (elim (or_cases (d.a.0 == v) (d.b.0 == v) end) [
            | inl k ↦ eq-eqb (c d.a.0) (c v) (ap c (eqb-true d.a.0 v k))
            | inr k ↦ eq-eqb (c d.a.0) (c v) (same ∙ ap c (eqb-true d.b.0 v k))
          ])
      | inr later ↦ or_right (c d.a.0 == c v) (has_finger c (fingers_of es) (c v))
          (met_has c es v
          (All-tail (λ (f : Finger). c f.lo.0 ≡ c f.hi.0) (finger_of d) (fingers_of es) labels) later)
    ]

-- places below m, and the ends at each
module _ (m : ℕ) (ends : ℕ → ℕ) where
  abbrev pub shut_ends : List Node → ℕ → ℕ
  shut_ends nodes v = if is_open nodes v then 0 else ends v

  abbrev pub alive : List Node → ℕ → Bool
  alive nodes v = is_open nodes v || not (ends v == 0)

  abbrev pub is_closed_at : List Edge → List Node → ℕ → Bool
  is_closed_at es nodes h = has_edge es h && (size_in m (class_of es) (alive nodes) h == 0)

  abbrev pub settled : List Edge → List Node → ℕ
  settled es nodes = sum_below (shut_ends nodes) m + 2 * size m (is_closed_at es nodes)

  -- in a class without open places and ends there is none
  pub none_alive : (es : List Edge) (nodes : List Node) (h v : ℕ) → is_closed_at es nodes h ≡ true → v < m
      → alive nodes v ≡ true → class_of es v ≡ h → ⊥
  none_alive es nodes h v closed within live class =
      let parts : (has_edge es h ≡ true) × ((size_in m (class_of es) (alive nodes) h == 0) ≡ true) =
      and_parts (has_edge es h) (size_in m (class_of es) (alive nodes) h == 0) closed in
      both_ways ((class_of es v == h) && alive nodes v)
      (size_zero m (λ u. (class_of es u == h) && alive nodes u) v
      (eqb-true (size_in m (class_of es) (alive nodes) h) 0 parts.1) within)
      (and_from (class_of es v == h) (alive nodes v) (eq-eqb (class_of es v) h class) live)

  -- an edge between open places leaves what is certain
  edge_settled : (e : Edge) (es : List Edge) (nodes : List Node) → e.a.0 < m → e.b.0 < m
      → is_open nodes e.a.0 ≡ true → is_open nodes e.b.0 ≡ true → settled es nodes ≤ settled (e ∷ es) nodes
  edge_settled e es nodes a_below b_below a_open b_open =
      omega (arith, size_mono m (is_closed_at es nodes) (is_closed_at (e ∷ es) nodes) (λ h l. still_closed h))
    where
      still_closed : (h : ℕ) → is_closed_at es nodes h ≡ true → is_closed_at (e ∷ es) nodes h ≡ true
      still_closed h closed =
          let parts : (has_edge es h ≡ true) × ((size_in m (class_of es) (alive nodes) h == 0) ≡ true) =
          and_parts (has_edge es h) (size_in m (class_of es) (alive nodes) h == 0) closed in
          let not_a : h ≡ class_of es e.a.0 → ⊥ =
          λ is. none_alive es nodes h e.a.0 closed a_below
          (or_left (is_open nodes e.a.0) (not (ends e.a.0 == 0)) a_open) (sym is) in
          let not_b : h ≡ class_of es e.b.0 → ⊥ =
          λ is. none_alive es nodes h e.b.0 closed b_below
          (or_left (is_open nodes e.b.0) (not (ends e.b.0 == 0)) b_open) (sym is) in
          let edge : has_edge (e ∷ es) h ≡ true =
          or_right (class_of (e ∷ es) e.a.0 == h) (has_finger (class_of (e ∷ es)) (fingers_of es) h)
          (has_stays (fingers_of es) (class_of es e.a.0) (class_of es e.b.0) h (class_of es) (class_of (e ∷ es))
          (λ u. refl) not_a not_b ∙ parts.0) in
          let sizes : size_in m (class_of (e ∷ es)) (alive nodes) h ≡ size_in m (class_of es) (alive nodes) h =
          size_in_stays m (class_of es e.a.0) (class_of es e.b.0) h (class_of es) (class_of (e ∷ es)) (alive nodes)
          (λ u. refl) not_a not_b in
          and_from (has_edge (e ∷ es) h) (size_in m (class_of (e ∷ es)) (alive nodes) h == 0) edge
          (ap (λ k. k == 0) sizes ∙ parts.1)

  pub edges_settled : (choice es : List Edge) (nodes : List Node) → ((v : ℕ) → is_open nodes v ≡ true → v < m)
      → ((v : ℕ) → is_met choice v ≡ true → is_open nodes v ≡ true)
      → settled es nodes ≤ settled (added es choice) nodes
  edges_settled [] es nodes below met = omega arith
  edges_settled (e ∷ choice) es nodes below met =
      let a_open : is_open nodes e.a.0 ≡ true =
      met e.a.0 (or_left (is_end e.a.0 e) (is_met choice e.a.0)
      (or_left (e.a.0 == e.a.0) (e.b.0 == e.a.0) (eq-eqb e.a.0 e.a.0 refl))) in
      let b_open : is_open nodes e.b.0 ≡ true =
      met e.b.0 (or_left (is_end e.b.0 e) (is_met choice e.b.0)
      (or_right (e.a.0 == e.b.0) (e.b.0 == e.b.0) (eq-eqb e.b.0 e.b.0 refl))) in
      omega (
        arith,
        edge_settled e es nodes (below e.a.0 a_open) (below e.b.0 b_open) a_open b_open,
        edges_settled choice (e ∷ es) nodes below (λ v k. met v (or_right (is_end v e) (is_met choice v) k)),
      )
