-- The column of a row that holds a finger with some nets, and the others.
use Rattle.std.proofs.Common.{◌≡◌, ◌≤◌, List, [], ◌∷◌, ◌++◌, length, Option, Some, None, option_map, map, refl, ap, subst, arith, inl, inr, Contains, IsPermutation}
use Rattle.std.specs.List.{cons_option}
use Rattle.std.proofs.lemmas.List.{length-map}
use Rattle.std.proofs.lemmas.List.Sorted.{Contains-permutation, IsPermutation-cons, IsPermutation-map, IsPermutation-middle, IsPermutation-refl, IsPermutation-sym, IsPermutation-trans}
use Rattle.cell_num.specs.declared.finger.Row.{Row}
use Rattle.cell_num.specs.declared.finger.Finger.{Finger}
use Rattle.cell_num.proofs.Lists.{contains_cons, contains_here, contains_none}
use Rattle.row_model.specs.declared.column.Placed.{Placed}
use Rattle.row_model.specs.Arrangement.{fingers_in, place}
use Rattle.trail_state.specs.declared.edge.FingerEnds.{FingerEnds}
use Rattle.trail_state.specs.Fronts.{without}
use Rattle.trail_state.proofs.Listed.{nets_uncons, one_taken}
use Rattle.trail_state.proofs.Chosen.{Drawn, column_at}
use Rattle.trail_state.proofs.Grouped.{few_fingers}
use Rattle.trail_state.specs.Pairings.{nets_at}

-- a column that holds a finger with these nets, and what stands before and behind it
pub record Holder (r : Row) (x : FingerEnds) (zs : List Drawn) : Type 0 where
  pub before : List Drawn
  pub at : Drawn
  pub behind : List Drawn
  pub placed : Placed
  pub is : zs ≡ before ++ at ∷ behind
  pub place : place r at.0 ≡ Some placed
  pub nets : nets_at placed.finger ≡ x

abbrev pub finger_of_place : Row → Drawn → Option Finger
finger_of_place r z = option_map (λ (y : Placed). y.finger) (place r z.0)

abbrev pub row_fingers : Row → List Drawn → List Finger
row_fingers r zs = fingers_in r (map column_at zs)

abbrev pub row_nets : Row → List Drawn → List FingerEnds
row_nets r zs = map nets_at (row_fingers r zs)

holder_more : (r : Row) (x : FingerEnds) (z : Drawn) (zs : List Drawn) → Holder r x zs → Holder r x (z ∷ zs)
holder_more r x z zs h = record { before = z ∷ h.before; at = h.at; behind = h.behind; placed = h.placed; is = ap (λ l. z ∷ l) h.is; place = h.place; nets = h.nets }

pub holder : (r : Row) (x : FingerEnds) (zs : List Drawn) → Contains (row_nets r zs) x → Holder r x zs
holder r x [] c = absurd (contains_none x c)
holder r x (z ∷ zs) c = by_place (place r z.0) refl (λ k. holder_more r x z zs (holder r x zs k))
  where
    by_place : (o : Option Placed) → place r z.0 ≡ o → (Contains (row_nets r zs) x → Holder r x (z ∷ zs)) → Holder r x (z ∷ zs)
    by_place None is rest = rest (subst (λ o. Contains (map nets_at (cons_option (option_map (λ (y : Placed). y.finger) o) (row_fingers r zs))) x) is c)
    by_place (Some y) is rest =
        elim (contains_cons (nets_at y.finger) (row_nets r zs) x (subst (λ o. Contains (map nets_at (cons_option (option_map (λ (y : Placed). y.finger) o) (row_fingers r zs))) x) is c)) [
          | inl same ↦ record { before = []; at = z; behind = zs; placed = y; is = refl; place = is; nets = same }
          | inr there ↦ rest there
        ]

swap_options : (a b : Option Finger) (fs : List Finger) → IsPermutation (cons_option a (cons_option b fs)) (cons_option b (cons_option a fs))
swap_options None b fs = IsPermutation-refl (cons_option b fs)
swap_options (Some x) None fs = IsPermutation-refl (x ∷ fs)
swap_options (Some x) (Some y) fs = IsPermutation-middle (x ∷ []) y fs

cons_options : (a : Option Finger) (xs ys : List Finger) → IsPermutation xs ys → IsPermutation (cons_option a xs) (cons_option a ys)
cons_options None xs ys p = p
cons_options (Some x) xs ys p = IsPermutation-cons x xs ys p

-- the column's finger in front of the others
fingers_middle : (r : Row) (before : List Drawn) (z : Drawn) (behind : List Drawn) → IsPermutation (row_fingers r (before ++ z ∷ behind)) (cons_option (finger_of_place r z) (row_fingers r (before ++ behind)))
fingers_middle r [] z behind = IsPermutation-refl (cons_option (finger_of_place r z) (row_fingers r behind))
fingers_middle r (b ∷ bs) z behind =
    IsPermutation-trans (cons_option (finger_of_place r b) (row_fingers r (bs ++ z ∷ behind))) (cons_option (finger_of_place r b) (cons_option (finger_of_place r z) (row_fingers r (bs ++ behind)))) (cons_option (finger_of_place r z) (cons_option (finger_of_place r b) (row_fingers r (bs ++ behind))))
    (cons_options (finger_of_place r b) (row_fingers r (bs ++ z ∷ behind)) (cons_option (finger_of_place r z) (row_fingers r (bs ++ behind))) (fingers_middle r bs z behind))
    (swap_options (finger_of_place r b) (finger_of_place r z) (row_fingers r (bs ++ behind)))

pub apart : (r : Row) (ns : List FingerEnds) (zs before behind : List Drawn) (z : Drawn) (o : Option Placed) → IsPermutation ns (row_nets r zs) → zs ≡ before ++ z ∷ behind → place r z.0 ≡ o → IsPermutation ns (map nets_at (cons_option (option_map (λ (y : Placed). y.finger) o) (row_fingers r (before ++ behind))))
apart r ns zs before behind z o perm is at =
    subst (λ p. IsPermutation ns (map nets_at (cons_option (option_map (λ (y : Placed). y.finger) p) (row_fingers r (before ++ behind))))) at
    (IsPermutation-trans ns (row_nets r (before ++ z ∷ behind)) (map nets_at (cons_option (finger_of_place r z) (row_fingers r (before ++ behind))))
    (subst (λ l. IsPermutation ns (row_nets r l)) is perm)
    (IsPermutation-map nets_at (row_fingers r (before ++ z ∷ behind)) (cons_option (finger_of_place r z) (row_fingers r (before ++ behind))) (fingers_middle r before z behind)))

-- without the finger of a column that is taken out
pub left_apart : (r : Row) (ns : List FingerEnds) (zs before behind : List Drawn) (z : Drawn) (y : Placed) → IsPermutation ns (row_nets r zs) → zs ≡ before ++ z ∷ behind → place r z.0 ≡ Some y → Contains ns (nets_at y.finger) × IsPermutation (without (nets_at y.finger) ns) (row_nets r (before ++ behind))
left_apart r ns zs before behind z y perm is at =
    let rest : List FingerEnds = row_nets r (before ++ behind) in
    let all : IsPermutation ns (nets_at y.finger ∷ rest) = apart r ns zs before behind z (Some y) perm is at in
    let there : Contains ns (nets_at y.finger) = Contains-permutation (nets_at y.finger ∷ rest) ns (nets_at y.finger) (IsPermutation-sym ns (nets_at y.finger ∷ rest) all) (contains_here (nets_at y.finger) rest) in
    (there, nets_uncons (nets_at y.finger) (without (nets_at y.finger) ns) rest (IsPermutation-trans (nets_at y.finger ∷ without (nets_at y.finger) ns) ns (nets_at y.finger ∷ rest) (IsPermutation-sym ns (nets_at y.finger ∷ without (nets_at y.finger) ns) (one_taken (nets_at y.finger) ns there)) all))

-- no row has more fingers than columns
pub few_nets : (r : Row) (zs : List Drawn) → length (row_nets r zs) ≤ length zs
few_nets r zs = omega (arith, length-map (row_fingers r zs) nets_at, few_fingers r (map column_at zs), length-map zs column_at)
