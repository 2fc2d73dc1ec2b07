-- Edges in order are the same edges, and of equal lists one is kept.
use Rattle.std.proofs.Common.{◌≡◌, true, if◌then◌else◌, List, [], ◌∷◌, ◌++◌, fold, sym, ap, subst, inl, inr, Contains, IsPermutation}
use Rattle.std.specs.List.{list_any}
use Rattle.std.proofs.lemmas.Bool.{cases_Bool}
use Rattle.std.proofs.lemmas.List.{append-nil}
use Rattle.std.proofs.lemmas.List.Elements.{Contains-append_left, Contains-append_right}
use Rattle.std.proofs.lemmas.List.Sorted.{IsPermutation-append_right, IsPermutation-middle, IsPermutation-refl, IsPermutation-sym, IsPermutation-trans}
use Rattle.cell_num.proofs.Lists.{contains_cons, contains_here, contains_none}
use Rattle.cell_num.proofs.Pairs.{Some', test_finds}
use Rattle.trail_state.specs.declared.edge.Edge.{Edge}
use Rattle.trail_state.specs.Sorted.{inserted, inserted_permutes}
use Rattle.open_gates.specs.Equal.{choice_decides}
use Rattle.open_gates.specs.Merged.{each_once, in_order, same_choice, with_choice}

-- ---- in order

all_inserted : (es sorted : List Edge) → IsPermutation (es ++ sorted) (fold (λ (ds : List Edge) (e : Edge). inserted e ds) sorted es)
all_inserted [] sorted = IsPermutation-refl sorted
all_inserted (e ∷ es) sorted =
    IsPermutation-trans (e ∷ (es ++ sorted)) (es ++ inserted e sorted) (fold (λ (ds : List Edge) (d : Edge). inserted d ds) (inserted e sorted) es)
    (IsPermutation-trans (e ∷ (es ++ sorted)) (es ++ e ∷ sorted) (es ++ inserted e sorted)
    (IsPermutation-sym (es ++ e ∷ sorted) (e ∷ (es ++ sorted)) (IsPermutation-middle es e sorted)) (IsPermutation-append_right es (e ∷ sorted) (inserted e sorted) (inserted_permutes e sorted)))
    (all_inserted es (inserted e sorted))

pub in_order_permutes : (es : List Edge) → IsPermutation es (in_order es)
in_order_permutes es = subst (λ l. IsPermutation l (in_order es)) (append-nil es) (all_inserted es [])

-- ---- each once

new_there : (choices : List (List Edge)) (c : List Edge) → Contains (with_choice choices c) c
new_there choices c = elim (cases_Bool (list_any (same_choice c) choices)) [
  | inl known ↦
      let s : Some' (λ d. same_choice c d ≡ true) choices = test_finds (same_choice c) choices known in
      subst (λ l. Contains l c) (sym (ap (λ b. if b then choices else choices ++ c ∷ []) known)) (subst (Contains choices) (sym ((choice_decides c s.it).0 s.holds)) s.there)
  | inr fresh ↦ subst (λ l. Contains l c) (sym (ap (λ b. if b then choices else choices ++ c ∷ []) fresh)) (Contains-append_right choices (c ∷ []) c (contains_here c []))
]

new_keeps : (choices : List (List Edge)) (d c : List Edge) → Contains choices c → Contains (with_choice choices d) c
new_keeps choices d c there = elim (cases_Bool (list_any (same_choice d) choices)) [
  | inl known ↦ subst (λ l. Contains l c) (sym (ap (λ b. if b then choices else choices ++ d ∷ []) known)) there
  | inr fresh ↦ subst (λ l. Contains l c) (sym (ap (λ b. if b then choices else choices ++ d ∷ []) fresh)) (Contains-append_left choices (d ∷ []) c there)
]

all_kept : (more choices : List (List Edge)) (c : List Edge) → Contains choices c → Contains (fold with_choice choices more) c
all_kept [] choices c there = there
all_kept (d ∷ more) choices c there = all_kept more (with_choice choices d) c (new_keeps choices d c there)

all_there : (more choices : List (List Edge)) (c : List Edge) → Contains more c → Contains (fold with_choice choices more) c
all_there [] choices c there = absurd (contains_none c there)
all_there (d ∷ more) choices c there = elim (contains_cons d more c there) [
  | inl same ↦ all_kept more (with_choice choices d) c (subst (Contains (with_choice choices d)) same (new_there choices d))
  | inr rest ↦ all_there more (with_choice choices d) c rest
]

pub once_there : (choices : List (List Edge)) (c : List Edge) → Contains choices c → Contains (each_once choices) c
once_there choices c there = all_there choices [] c there
