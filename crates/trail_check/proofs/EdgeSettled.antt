-- An edge between open nodes makes no end certain.
use Rattle.std.proofs.Common.{ℕ, ◌≡◌, ◌≢◌, ◌<◌, ◌≤◌, ◌==◌, ◌||◌, ◌&&◌, true, false, not, max}
use Rattle.std.proofs.Common.{min, List, [], ◌∷◌, refl, sym, ap, arith, ◌∙◌, inl, inr, ◌⊎◌}
use Rattle.std.proofs.lemmas.Bool.{and_from, and_parts, both_ways, cases_Bool, cases_eq, cases_lt, eq-eqb, eqb-true}
use Rattle.std.proofs.lemmas.Bool.{not-true, or_cases, or_left, or_right}
use Rattle.row_trails.specs.Counts.{size_in}
use Rattle.row_trails.specs.Trails.{size_same, toggle, toggle_other}
use Rattle.row_state.specs.Chained.{joined_a}
use Rattle.row_state.specs.ClassSizes.{has_no_high, has_stays, size_in_stays}
use Rattle.row_state.specs.Component.{has_finger}
use Rattle.trail_state.specs.declared.edge.Node.{Node}
use Rattle.trail_state.specs.declared.edge.Edge.{Edge}
use Rattle.trail_state.specs.Places.{is_end, is_met}
use Rattle.trail_state.specs.Settling.{is_open}
use Rattle.trail_state.proofs.Counted.{alive, has_edge, is_closed_at, none_alive, odd_shut, settled}
use Rattle.trail_state.proofs.Follows.{added}
use Rattle.trail_state.proofs.Links.{class_of, fingers_of, odd_at, odd_more}
use Rattle.trail_state.proofs.Sizes.{size_mono}

module _ (n : ℕ) (e : Edge) (es : List Edge) (nodes : List Node) (a_below : e.a.0 < n)
    (a_open : is_open nodes e.a.0 ≡ true) (b_open : is_open nodes e.b.0 ≡ true) where
  abbrev a : ℕ
  a = class_of es e.a.0

  abbrev b : ℕ
  b = class_of es e.b.0

  same_odd : (v : ℕ) → is_open nodes v ≡ false → odd_at (e ∷ es) v ≡ odd_at es v
  same_odd v shut =
      odd_more e es v ∙ toggle_other e.a.0 (toggle e.b.0 (odd_at es)) v
      (λ is. both_ways (is_open nodes v) shut (ap (is_open nodes) is ∙ a_open))
      ∙ toggle_other e.b.0 (odd_at es) v (λ is. both_ways (is_open nodes v) shut (ap (is_open nodes) is ∙ b_open))

  alive_same : (v : ℕ) → alive (e ∷ es) nodes v ≡ alive es nodes v
  alive_same v = elim (cases_Bool (is_open nodes v)) [
    | inl free ↦ or_left (is_open nodes v) (odd_at (e ∷ es) v) free ∙ sym (or_left (is_open nodes v) (odd_at es v) free)
    | inr shut ↦ ap (λ o. is_open nodes v || o) (same_odd v shut)
  ]

  was_odd : (v : ℕ) → odd_shut (e ∷ es) nodes v ≡ true → odd_shut es nodes v ≡ true
  was_odd v h =
      let parts : (not (is_open nodes v) ≡ true) × (odd_at (e ∷ es) v ≡ true) = and_parts (not (is_open nodes v))
      (odd_at (e ∷ es) v) h in
      and_from (not (is_open nodes v)) (odd_at es v) parts.0 (sym (same_odd v (not-true (is_open nodes v) parts.0)) ∙
      parts.1)

  was_closed : (h : ℕ) → is_closed_at n (e ∷ es) nodes h ≡ true → is_closed_at n es nodes h ≡ true
  was_closed h closed =
      and_from (has_edge es h) (size_in n (class_of es) (alive es nodes) h == 0) edge
      (eq-eqb (size_in n (class_of es) (alive es nodes) h) 0 none)
    where
      parts : (has_edge (e ∷ es) h ≡ true) × ((size_in n (class_of (e ∷ es)) (alive (e ∷ es) nodes) h == 0) ≡ true)
      parts = and_parts (has_edge (e ∷ es) h) (size_in n (class_of (e ∷ es)) (alive (e ∷ es) nodes) h == 0) closed

      -- the edge's class has an open node
      not_low : h ≡ min a b → ⊥
      not_low is =
          none_alive n (e ∷ es) nodes h e.a.0 closed a_below
          (or_left (is_open nodes e.a.0) (odd_at (e ∷ es) e.a.0) a_open) (joined_a a b ∙ sym is)

      not_high : a ≢ b → h ≡ max a b → ⊥
      not_high differ is =
          both_ways (has_edge (e ∷ es) h)
          (ap (has_edge (e ∷ es)) is ∙ has_no_high (fingers_of (e ∷ es)) a b (class_of es) (class_of (e ∷ es))
          (λ u. refl) differ) parts.0

      not_either : (h ≡ a) ⊎ (h ≡ b) → ⊥
      not_either (inl is) = elim (cases_eq a b) [
        | inl same ↦ not_low (omega (arith, is, same))
        | inr differ ↦ elim (cases_lt a b) [
          | inl less ↦ not_low (omega (arith, is, less))
          | inr more ↦ not_high differ (omega (arith, is, more))
        ]
      ]
      not_either (inr is) = elim (cases_eq a b) [
        | inl same ↦ not_low (omega (arith, is, same))
        | inr differ ↦ elim (cases_lt a b) [
          | inl less ↦ not_high differ (omega (arith, is, less))
          | inr more ↦ not_low (omega (arith, is, more))
        ]
      ]

      not_a : h ≡ a → ⊥
      not_a is = not_either (inl is)

      not_b : h ≡ b → ⊥
      not_b is = not_either (inr is)

      edge : has_edge es h ≡ true
      edge = elim (or_cases (class_of (e ∷ es) e.a.0 == h) (has_finger (class_of (e ∷ es)) (fingers_of es) h) parts.0) [
        | inl here ↦ absurd (not_low (sym (eqb-true (class_of (e ∷ es) e.a.0) h here) ∙ joined_a a b))
        | inr rest ↦ sym (has_stays (fingers_of es) a b h (class_of es) (class_of (e ∷ es)) (λ u. refl) not_a not_b) ∙
            rest
      ]

      none : size_in n (class_of es) (alive es nodes) h ≡ 0
      none =
          size_same n (λ u. (class_of es u == h) && alive es nodes u)
          (λ u. (class_of es u == h) && alive (e ∷ es) nodes u)
          (λ u l. ap (λ o. (class_of es u == h) && o) (sym (alive_same u)))
          ∙ sym (size_in_stays n a b h (class_of es) (class_of (e ∷ es)) (alive (e ∷ es) nodes) (λ u. refl) not_a not_b)
          ∙ eqb-true (size_in n (class_of (e ∷ es)) (alive (e ∷ es) nodes) h) 0 parts.1

  edge_settles : settled n (e ∷ es) nodes ≤ settled n es nodes
  edge_settles =
      omega (
        arith,
        size_mono n (odd_shut (e ∷ es) nodes) (odd_shut es nodes) (λ v l. was_odd v),
        size_mono n (is_closed_at n (e ∷ es) nodes) (is_closed_at n es nodes) (λ h l. was_closed h),
      )

pub edges_settle : (n : ℕ) (choice es : List Edge) (nodes : List Node) → ((v : ℕ) → is_open nodes v ≡ true → v < n) →
    ((v : ℕ) → is_met choice v ≡ true → is_open nodes v ≡ true) → settled n (added es choice) nodes ≤ settled n es nodes
edges_settle n [] es nodes below ends = omega arith
edges_settle n (e ∷ choice) es nodes below ends =
    let a_open : is_open nodes e.a.0 ≡ true = ends e.a.0 (or_left (is_end e.a.0 e) (is_met choice e.a.0)
    (or_left (e.a.0 == e.a.0) (e.b.0 == e.a.0) (eq-eqb e.a.0 e.a.0 refl))) in
    let b_open : is_open nodes e.b.0 ≡ true = ends e.b.0 (or_left (is_end e.b.0 e) (is_met choice e.b.0)
    (or_right (e.a.0 == e.b.0) (e.b.0 == e.b.0) (eq-eqb e.b.0 e.b.0 refl))) in
    omega (
      arith,
      edge_settles n e es nodes (below e.a.0 a_open) a_open b_open,
      edges_settle n choice (e ∷ es) nodes below (λ v m. ends v (or_right (is_end v e) (is_met choice v) m)),
    )
