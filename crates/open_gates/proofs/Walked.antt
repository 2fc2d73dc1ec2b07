-- A walk with merged nodes has no more breaks, and its edges are the merged ones.
use Rattle.std.proofs.Common.{ℕ, ◌≡◌, ◌≤◌, ◌==◌, Bool, true, false, if◌then◌else◌, List, [], ◌∷◌, ◌++◌, map, refl, sym, ap, arith, ◌∙◌, inl, inr, IsPermutation}
use Rattle.std.specs.List.{AllZip}
use Rattle.std.proofs.lemmas.Bool.{cases_eq, eq-eqb, ne_eqb}
use Rattle.std.proofs.lemmas.List.Sorted.{IsPermutation-append, IsPermutation-sym, IsPermutation-trans}
use Rattle.cell_num.specs.declared.finger.Row.{Row}
use Rattle.trail_state.specs.declared.edge.Edge.{Edge}
use Rattle.trail_state.proofs.Along.{AreBelow, all_added}
use Rattle.trail_state.proofs.Chosen.{added_permutes}
use Rattle.trail_state.proofs.Follows.{added}
use Rattle.trail_state.proofs.Walks.{Walk, breaks_from, breaks_of, edges_of}
use Rattle.open_gates.specs.Merged.{merged, merged_edge}
use Rattle.open_gates.proofs.Merging.{merged_between, merged_low}

module _ (row : Row) (nets : ℕ → Bool) where
  abbrev pub merged_walk : Walk → Walk
  merged_walk [] = []
  merged_walk ((l, r) ∷ w) = (merged row nets l, merged row nets r) ∷ merged_walk w

  one_break : (v l : ℕ) → (if merged row nets v == merged row nets l then 0 else 1) ≤ (if v == l then 0 else 1)
  one_break v l = elim (cases_eq v l) [
    | inl same ↦
        let none : ◌≡◌ {A = ℕ} (if merged row nets v == merged row nets l then 0 else 1) 0 = rw (eq-eqb (merged row nets v) (merged row nets l) (ap (merged row nets) same)) refl in
        omega (arith, none)
    | inr other ↦
        let one : ◌≡◌ {A = ℕ} (if v == l then 0 else 1) 1 = rw (ne_eqb v l other) refl in
        omega (arith, one, at_most (merged row nets v == merged row nets l))
  ]
    where
      at_most : (b : Bool) → (if b then 0 else 1) ≤ 1
      at_most true = omega arith
      at_most false = omega arith

  fewer_from : (v : ℕ) (w : Walk) → breaks_from (merged row nets v) (merged_walk w) ≤ breaks_from v w
  fewer_from v [] = omega arith
  fewer_from v ((l, r) ∷ w) = omega (arith, one_break v l, fewer_from r w)

  pub fewer_breaks : (w : Walk) → breaks_of (merged_walk w) ≤ breaks_of w
  fewer_breaks [] = omega arith
  fewer_breaks ((l, r) ∷ w) = fewer_from r w

  pub merged_edges : (w : Walk) → edges_of (merged_walk w) ≡ map (merged_edge row nets) (edges_of w)
  merged_edges [] = refl
  merged_edges ((l, r) ∷ w) = λ i. sym (merged_between row nets l r) i ∷ merged_edges w i

  pub merged_below : (n : ℕ) (w : Walk) → AreBelow n w → AreBelow n (merged_walk w)
  merged_below n [] h = tt
  merged_below n ((l, r) ∷ w) h = (omega (arith, h.0, merged_low row nets l), omega (arith, h.1, merged_low row nets r), merged_below n w h.2)

-- ---- the edges of choices

added_map : (h : Edge → Edge) (c es : List Edge) → map h (added es c) ≡ added (map h es) (map h c)
added_map h [] es = refl
added_map h (e ∷ c) es = added_map h c (e ∷ es)

pub all_added_map : (h : Edge → Edge) (cs : List (List Edge)) (es : List Edge) → map h (all_added es cs) ≡ all_added (map h es) (map (map h) cs)
all_added_map h [] es = refl
all_added_map h (c ∷ cs) es = all_added_map h cs (added es c) ∙ ap (λ l. all_added l (map (map h) cs)) (added_map h c es)

-- choices with the same edges, each in some order
pub all_added_same : (cs ds : List (List Edge)) (es fs : List Edge) → AllZip (λ (c d : List Edge). IsPermutation c d) cs ds → IsPermutation es fs → IsPermutation (all_added es cs) (all_added fs ds)
all_added_same [] [] es fs same h = h
all_added_same [] (d ∷ ds) es fs same h = absurd same
all_added_same (c ∷ cs) [] es fs same h = absurd same
all_added_same (c ∷ cs) (d ∷ ds) es fs same h =
    let both : IsPermutation (c ++ es) (d ++ fs) = IsPermutation-append c d es fs same.0 h in
    let mine : IsPermutation (added es c) (d ++ fs) = IsPermutation-trans (added es c) (c ++ es) (d ++ fs) (IsPermutation-sym (c ++ es) (added es c) (added_permutes c es)) both in
    all_added_same cs ds (added es c) (added fs d) same.1 (IsPermutation-trans (added es c) (d ++ fs) (added fs d) mine (added_permutes d fs))
