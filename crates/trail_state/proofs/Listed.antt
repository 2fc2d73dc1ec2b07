-- A front has the parts with each further column, and without one of some fingers are the others.
use Rattle.std.proofs.Common.{ℕ, ◌≡◌, ◌<◌, true, cond, if◌then◌else◌, List, [], ◌∷◌, ◌++◌, length, fold, get_or, refl, sym, ap, subst, arith, ◌∙◌, inl, inr, ◌⊎◌, Contains, IsPermutation}
use Rattle.std.specs.List.{after_first, before_first, list_any, position_or_len}
use Rattle.std.proofs.lemmas.Bool.{both_ways, cases_Bool, cases_lt}
use Rattle.std.proofs.lemmas.List.Elements.{Contains-append_left, Contains-append_right}
use Rattle.std.proofs.lemmas.List.Sorted.{IsPermutation-middle, length_permutation, sum_by-IsPermutation}
use Rattle.std.proofs.lemmas.List.Sums.{fails_before_first, passes_at_first, split_at_first}
use Rattle.cell_num.proofs.In.{contains_in, in_append, in_contains}
use Rattle.cell_num.proofs.Lists.{contains_cons, contains_here, contains_none, contains_one, contains_there}
use Rattle.cell_num.proofs.Pairs.{Some', test_finds}
use Rattle.cell_num.proofs.Permutations.{count_cons, permutation_from_counts}
use Rattle.trail_state.specs.declared.edge.FingerEnds.{FingerEnds}
use Rattle.trail_state.specs.declared.front.Part.{Part}
use Rattle.trail_state.specs.declared.gate.Gate.{Gate}
use Rattle.trail_state.specs.Fronts.{is_same, next_front, next_parts, same_nets, with_all, with_new, without}
use Rattle.trail_state.specs.Known.{Before}
use Rattle.trail_state.specs.Same.{nets_decides, nets_same, part_same}

new_there : (parts : List Part) (p : Part) → Contains (with_new parts p) p
new_there parts p = elim (cases_Bool (list_any (is_same p) parts)) [
  | inl known ↦
      let s : Some' (λ q. is_same p q ≡ true) parts = test_finds (is_same p) parts known in
      subst (λ l. Contains l p) (sym (ap (λ b. if b then parts else parts ++ p ∷ []) known)) (subst (Contains parts) (sym (part_same p s.it s.holds)) s.there)
  | inr fresh ↦ subst (λ l. Contains l p) (sym (ap (λ b. if b then parts else parts ++ p ∷ []) fresh)) (Contains-append_right parts (p ∷ []) p (contains_here p []))
]

new_keeps : (parts : List Part) (q p : Part) → Contains parts p → Contains (with_new parts q) p
new_keeps parts q p there = elim (cases_Bool (list_any (is_same q) parts)) [
  | inl known ↦ subst (λ l. Contains l p) (sym (ap (λ b. if b then parts else parts ++ q ∷ []) known)) there
  | inr fresh ↦ subst (λ l. Contains l p) (sym (ap (λ b. if b then parts else parts ++ q ∷ []) fresh)) (Contains-append_left parts (q ∷ []) p there)
]

pub all_kept : (more parts : List Part) (p : Part) → Contains parts p → Contains (with_all parts more) p
all_kept [] parts p there = there
all_kept (q ∷ more) parts p there = all_kept more (with_new parts q) p (new_keeps parts q p there)

pub each_there : (more parts : List Part) (p : Part) → Contains more p → Contains (with_all parts more) p
each_there [] parts p there = absurd (contains_none p there)
each_there (q ∷ more) parts p there = elim (contains_cons q more p there) [
  | inl same ↦ all_kept more (with_new parts q) p (subst (Contains (with_new parts q)) same (new_there parts q))
  | inr rest ↦ each_there more (with_new parts q) p rest
]

abbrev behind : Gate → List FingerEnds → List Part → List Part → List Part
behind gate xs parts front = fold (λ (all : List Part) (part : Part). with_all all (next_parts gate xs part)) parts front

front_kept : (gate : Gate) (xs : List FingerEnds) (front parts : List Part) (p : Part) → Contains parts p → Contains (behind gate xs parts front) p
front_kept gate xs [] parts p there = there
front_kept gate xs (q ∷ front) parts p there = front_kept gate xs front (with_all parts (next_parts gate xs q)) p (all_kept (next_parts gate xs q) parts p there)

each_behind : (gate : Gate) (xs : List FingerEnds) (front parts : List Part) (part p : Part) → Contains front part → Contains (next_parts gate xs part) p → Contains (behind gate xs parts front) p
each_behind gate xs [] parts part p there more = absurd (contains_none part there)
each_behind gate xs (q ∷ front) parts part p there more = elim (contains_cons q front part there) [
  | inl same ↦ front_kept gate xs front (with_all parts (next_parts gate xs q)) p (each_there (next_parts gate xs q) parts p (subst (λ (v : Part). Contains (next_parts gate xs v) p) (sym same) more))
  | inr rest ↦ each_behind gate xs front (with_all parts (next_parts gate xs q)) part p rest more
]

-- a part of a front with a column more is in the next front
pub front_has : (gate : Gate) (xs : List FingerEnds) (front : List Part) (part p : Part) → Contains front part → Contains (next_parts gate xs part) p → Contains (next_front gate xs front) p
front_has gate xs front part p there more = each_behind gate xs front [] part p there more

-- what one of two lists has
pub append_from : {X : Type 0} (xs ys : List X) (z : X) → Contains (xs ++ ys) z → Contains xs z ⊎ Contains ys z
append_from xs ys z there = elim (in_append xs ys z (contains_in (xs ++ ys) z there)) [
  | inl first ↦ inl (in_contains xs z first)
  | inr second ↦ inr (in_contains ys z second)
]

new_from : (parts : List Part) (q p : Part) → Contains (with_new parts q) p → Contains parts p ⊎ (q ≡ p)
new_from parts q p there = elim (cases_Bool (list_any (is_same q) parts)) [
  | inl known ↦ inl (subst (λ l. Contains l p) (ap (λ b. if b then parts else parts ++ q ∷ []) known) there)
  | inr fresh ↦ elim (append_from parts (q ∷ []) p (subst (λ l. Contains l p) (ap (λ b. if b then parts else parts ++ q ∷ []) fresh) there)) [
    | inl old ↦ inl old
    | inr one ↦ inr (contains_one q p one)
  ]
]

all_from : (more parts : List Part) (p : Part) → Contains (with_all parts more) p → Contains parts p ⊎ Contains more p
all_from [] parts p there = inl there
all_from (q ∷ more) parts p there = elim (all_from more (with_new parts q) p there) [
  | inl old ↦ elim (new_from parts q p old) [
    | inl before ↦ inl before
    | inr same ↦ inr (subst (Contains (q ∷ more)) same (contains_here q more))
  ]
  | inr later ↦ inr (contains_there q more p later)
]

each_from : (gate : Gate) (xs : List FingerEnds) (front parts : List Part) (p : Part) → Contains (behind gate xs parts front) p → Contains parts p ⊎ Before gate xs front p
each_from gate xs [] parts p there = inl there
each_from gate xs (q ∷ front) parts p there = elim (each_from gate xs front (with_all parts (next_parts gate xs q)) p there) [
  | inl old ↦ elim (all_from (next_parts gate xs q) parts p old) [
    | inl before ↦ inl before
    | inr next ↦ inr (record { part = q; there = contains_here q front; next = next })
  ]
  | inr b ↦ inr (record { part = b.part; there = contains_there q front b.part b.there; next = b.next })
]

-- a part of the next front is one of this front with a column more
pub front_from : (gate : Gate) (xs : List FingerEnds) (front : List Part) (p : Part) → Contains (next_front gate xs front) p → Before gate xs front p
front_from gate xs front p there = elim (each_from gate xs front [] p there) [
  | inl none ↦ absurd (contains_none p none)
  | inr b ↦ b
]

-- ---- fingers left without one

pub one_taken : (y : FingerEnds) (left : List FingerEnds) → Contains left y → IsPermutation left (y ∷ without y left)
one_taken y left (k, within, is) =
    let test : same_nets y y ≡ true = (nets_decides y y).1 refl in
    let at : ℕ = position_or_len (same_nets y) left in
    let short : at < length left = elim (cases_lt k at) [
      | inl before ↦ absurd (both_ways (same_nets y (get_or left k y)) (fails_before_first (same_nets y) left k y before) (ap (same_nets y) is ∙ test))
      | inr reached ↦ omega (arith, within, reached)
    ] in
    let same : y ≡ get_or left at y = nets_same y (get_or left at y) (passes_at_first (same_nets y) left y short) in
    let split : left ≡ before_first (same_nets y) left ++ (get_or left at y ∷ after_first (same_nets y) left) = split_at_first (same_nets y) left y short in
    let mine : left ≡ before_first (same_nets y) left ++ (y ∷ after_first (same_nets y) left) = split ∙ ap (λ v. before_first (same_nets y) left ++ (v ∷ after_first (same_nets y) left)) (sym same) in
    subst (λ l. IsPermutation l (y ∷ without y left)) (sym mine) (IsPermutation-middle (before_first (same_nets y) left) y (after_first (same_nets y) left))

pub nets_uncons : (x : FingerEnds) (xs ys : List FingerEnds) → IsPermutation (x ∷ xs) (x ∷ ys) → IsPermutation xs ys
nets_uncons x xs ys h =
    let same : length ys ≡ length xs = omega (arith, length_permutation (x ∷ xs) (x ∷ ys) h) in
    permutation_from_counts same_nets nets_decides xs ys same
    (λ z. omega (arith, sum_by-IsPermutation (λ y. cond (same_nets z y) 1 0) (x ∷ xs) (x ∷ ys) h, count_cons (same_nets z) x xs, count_cons (same_nets z) x ys))
