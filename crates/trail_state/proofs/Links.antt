-- Edges as fingers between nodes, so that the classes and the odd nets of fingers are those of nodes.
use Rattle.std.proofs.Common.{ℕ, ◌≡◌, ◌+◌, ◌==◌, Bool, false, not, cond, max, min, List, [], ◌∷◌, map, refl, sym, ap, arith, ◌∙◌, inl, inr, ◌⊎◌, sum_by}
use Rattle.std.proofs.lemmas.Bool.{both_ways, cases_eq, cases_lt, eq-eqb, or_parts}
use Rattle.std.proofs.lemmas.List.Sums.{sum_by-cons}
use Rattle.cell_num.specs.declared.net.NetNo.{NetNo}
use Rattle.cell_num.specs.declared.finger.Row.TheVariants.{P}
use Rattle.cell_num.specs.declared.finger.Finger.{Finger}
use Rattle.row_trails.specs.Trails.{toggle, toggle_other}
use Rattle.row_state.specs.Classes.{joined, least_chained}
use Rattle.row_state.specs.Chained.{joined_high, joined_other}
use Rattle.row_state.specs.Degrees.{bit_of, degree, parity_bit}
use Rattle.row_state.specs.Parity.{ends_on, is_odd, parity}
use Rattle.trail_state.specs.declared.edge.Node.{Node}
use Rattle.trail_state.specs.declared.edge.Edge.{Edge}
use Rattle.trail_state.specs.Places.{is_end, is_met}

abbrev pub net_of : Node → NetNo
net_of v = record { 0 = v.0 }

-- a finger whose ends have the numbers of the nodes
abbrev pub finger_of : Edge → Finger
finger_of e = record { row = P; gate = net_of e.a; lo = net_of e.a; hi = net_of e.b; width = 0 }

abbrev pub fingers_of : List Edge → List Finger
fingers_of es = map finger_of es

-- the name of a node's class, the least node in it
abbrev pub class_of : List Edge → ℕ → ℕ
class_of es v = least_chained (fingers_of es) v

abbrev pub odd_at : List Edge → ℕ → Bool
odd_at es v = is_odd (fingers_of es) v

-- two numbers are joined where they were equal, or both are of the two classes
pub joined_same : (a b u v : ℕ) → joined a b u ≡ joined a b v → (u ≡ v) ⊎ (((u ≡ a) ⊎ (u ≡ b)) × ((v ≡ a) ⊎ (v ≡ b)))
joined_same a b u v e =
    elim (cases_eq u (max a b)) [
      | inl u_high ↦ elim (cases_eq v (max a b)) [
        | inl v_high ↦ inl (u_high ∙ sym v_high)
        | inr v_other ↦ inr (high u u_high, low v (sym (joined_other a b v v_other) ∙ sym e ∙ joined_high a b u u_high))
      ]
      | inr u_other ↦ elim (cases_eq v (max a b)) [
        | inl v_high ↦ inr (low u (sym (joined_other a b u u_other) ∙ e ∙ joined_high a b v v_high), high v v_high)
        | inr v_other ↦ inl (sym (joined_other a b u u_other) ∙ e ∙ joined_other a b v v_other)
      ]
    ]
  where
    high : (w : ℕ) → w ≡ max a b → (w ≡ a) ⊎ (w ≡ b)
    high w is = elim (cases_lt a b) [ inl less ↦ inr (omega (arith, is, less)) | inr more ↦ inl (omega (arith, is, more)) ]

    low : (w : ℕ) → w ≡ min a b → (w ≡ a) ⊎ (w ≡ b)
    low w is = elim (cases_lt a b) [ inl less ↦ inl (omega (arith, is, less)) | inr more ↦ inr (omega (arith, is, more)) ]

-- a node that no edge meets is a class of its own
pub unmet_alone : (es : List Edge) (u v : ℕ) → is_met es v ≡ false → class_of es u ≡ class_of es v → u ≡ v
unmet_alone [] u v unmet e = e
unmet_alone (d ∷ es) u v unmet e =
    let parts : (is_end v d ≡ false) × (is_met es v ≡ false) = or_parts (is_end v d) (is_met es v) unmet in
    let ends : ((d.a.0 == v) ≡ false) × ((d.b.0 == v) ≡ false) = or_parts (d.a.0 == v) (d.b.0 == v) parts.0 in
    elim (joined_same (class_of es d.a.0) (class_of es d.b.0) (class_of es u) (class_of es v) e) [
      | inl same ↦ unmet_alone es u v parts.1 same
      | inr both ↦ elim both.1 [
        | inl is_a ↦ absurd (both_ways (d.a.0 == v) ends.0 (eq-eqb d.a.0 v (unmet_alone es d.a.0 v parts.1 (sym is_a))))
        | inr is_b ↦ absurd (both_ways (d.b.0 == v) ends.1 (eq-eqb d.b.0 v (unmet_alone es d.b.0 v parts.1 (sym is_b))))
      ]
    ]

-- an edge more turns the two nodes at its ends
pub odd_more : (d : Edge) (es : List Edge) (v : ℕ) → odd_at (d ∷ es) v ≡ toggle d.a.0 (toggle d.b.0 (odd_at es)) v
odd_more d es v =
    let n : ℕ = degree v (fingers_of es) in
    let ends : sum_by (ends_on v) (fingers_of (d ∷ es)) ≡ ends_on v (finger_of d) + n = sum_by-cons (ends_on v) (finger_of d) (fingers_of es) in
    let apart : ends_on v (finger_of d) + n ≡ bit_of (v == d.a.0) + (bit_of (v == d.b.0) + n) = omega arith in
    ap parity (ends ∙ apart) ∙ parity_bit (v == d.a.0) (bit_of (v == d.b.0) + n) ∙ ap (λ z. cond (v == d.a.0) (not z) z) (parity_bit (v == d.b.0) n)

-- a node that no edge meets is even
pub unmet_even : (es : List Edge) (v : ℕ) → is_met es v ≡ false → odd_at es v ≡ false
unmet_even [] v unmet = refl
unmet_even (d ∷ es) v unmet =
    let parts : (is_end v d ≡ false) × (is_met es v ≡ false) = or_parts (is_end v d) (is_met es v) unmet in
    let ends : ((d.a.0 == v) ≡ false) × ((d.b.0 == v) ≡ false) = or_parts (d.a.0 == v) (d.b.0 == v) parts.0 in
    odd_more d es v ∙ toggle_other d.a.0 (toggle d.b.0 (odd_at es)) v (λ e. both_ways (d.a.0 == v) ends.0 (eq-eqb d.a.0 v (sym e)))
    ∙ toggle_other d.b.0 (odd_at es) v (λ e. both_ways (d.b.0 == v) ends.1 (eq-eqb d.b.0 v (sym e))) ∙ unmet_even es v parts.1
