-- An edge in its place in an ascending list of edges.
use Rattle.std.proofs.Common.{Bool, not, ltb, List, ◌∷◌, ◌++◌, refl, IsPermutation, ◌||◌, ◌&&◌, ◌==◌}
use Rattle.std.specs.List.{filter}
use Rattle.std.proofs.lemmas.List.Sorted.{IsPermutation-cons, IsPermutation-filter_both, IsPermutation-middle}
use Rattle.std.proofs.lemmas.List.Sorted.{IsPermutation-sym, IsPermutation-trans}
use Rattle.trail_state.specs.declared.edge.Edge.{Edge}

-- by the lower node, then by the higher one
abbrev pub is_below : Edge → Edge → Bool
is_below e d = ltb d.a.0 e.a.0 || ((d.a.0 == e.a.0) && ltb d.b.0 e.b.0)

-- after the edges below it
abbrev pub inserted : Edge → List Edge → List Edge
inserted e ds = filter (is_below e) ds ++ e ∷ filter (λ d. not (is_below e d)) ds

pub inserted_permutes : (e : Edge) (ds : List Edge) → IsPermutation (e ∷ ds) (inserted e ds)
inserted_permutes e ds =
    let low : List Edge = filter (is_below e) ds in
    let high : List Edge = filter (λ d. not (is_below e d)) ds in
    IsPermutation-trans (e ∷ ds) (e ∷ (low ++ high)) (low ++ e ∷ high)
    (IsPermutation-cons e ds (low ++ high)
    (IsPermutation-filter_both (is_below e) (λ d. not (is_below e d)) (λ d. refl) ds))
    (IsPermutation-sym (low ++ e ∷ high) (e ∷ (low ++ high)) (IsPermutation-middle low e high))
