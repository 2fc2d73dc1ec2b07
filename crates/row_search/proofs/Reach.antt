-- States that the search comes to are reached.
use Rattle.std.proofs.Common.{ℕ, ◌≡◌, ◌+◌, ◌≤◌, cond, ◌||◌, List, [], ◌∷◌, ◌++◌, length, length-append, append_assoc, zip, refl, sym, ap, subst, arith, All, ◌∙◌, Option, Some, None, option_map, IsPermutation}
use Rattle.std.specs.List.{cons_option}
use Rattle.std.proofs.lemmas.List.Sums.{sum_by-cons}
use Rattle.std.proofs.lemmas.List.Elements.{All-cons, All-nil, All-append, All-head, All-tail, filter_map-append}
use Rattle.std.proofs.lemmas.List.Sorted.{IsPermutation-refl, IsPermutation-sym, IsPermutation-trans, IsPermutation-append_right}
use Rattle.cell_num.specs.declared.finger.Row.{Row}
use Rattle.cell_num.specs.declared.finger.Row.TheVariants.{P, N}
use Rattle.cell_num.specs.declared.net.NetNo.{NetNo}
use Rattle.cell_num.specs.declared.finger.Finger.{Finger}
use Rattle.row_model.specs.declared.column.Placed.{Placed}
use Rattle.row_model.specs.declared.column.Column.{Column}
use Rattle.row_model.specs.Arrangement.{fingers_in, place, IsColumn}
use Rattle.row_model.specs.Gaps.{gaps_of, is_gap, right_net}
use Rattle.row_trails.specs.Trails.{end_differs}
use Rattle.row_state.specs.declared.kind.Kinds.{Kinds}
use Rattle.row_state.specs.declared.state.State.{State}
use Rattle.row_state.specs.declared.step.Step.{Step}
use Rattle.row_state.specs.Completion.{fingers_left, left_in, Completes, cost_of}
use Rattle.row_state.specs.Start.{GatesAreNets, start_of, columns_left}
use Rattle.row_state.specs.Steps.{IsPossible, placed_of, column_of, left_after, state_after}
use Rattle.row_state.proofs.Left.{IsPermutation-uncons, with_place, row_from}
use Rattle.row_state.specs.Gates.{most}
use Rattle.row_state.proofs.Fewest.{most_same, few}
use Rattle.row_state.proofs.Unfold.{end_facing, unfold_from}
use Rattle.row_state.proofs.Exists.{completion_exists}
use Rattle.row_search.specs.Reached.{end_behind, IsStateOf, IsReached}

uncons_all : (xs ys zs : List Finger) → IsPermutation (xs ++ ys) (xs ++ zs) → IsPermutation ys zs
uncons_all [] ys zs h = h
uncons_all (x ∷ xs) ys zs h = uncons_all xs ys zs (IsPermutation-uncons x (xs ++ ys) (xs ++ zs) h)

fingers_append : (row : Row) (xs ys : List Column) → fingers_in row (xs ++ ys) ≡ fingers_in row xs ++ fingers_in row ys
fingers_append row xs ys = filter_map-append (λ (c : Column). option_map (λ (x : Placed). x.finger) (place row c)) xs ys

front_columns : (xs ys : List Column) → All IsColumn (xs ++ ys) → All IsColumn xs
front_columns [] ys h = All-nil IsColumn
front_columns (x ∷ xs) ys h = All-cons IsColumn x xs (All-head IsColumn x (xs ++ ys) h) (front_columns xs ys (All-tail IsColumn x (xs ++ ys) h))

back_columns : (xs ys : List Column) → All IsColumn (xs ++ ys) → All IsColumn ys
back_columns [] ys h = h
back_columns (x ∷ xs) ys h = back_columns xs ys (All-tail IsColumn x (xs ++ ys) h)

-- the fingers of a prefix and of a completion of its state are all fingers
glued : (row : Row) (all left : List Finger) (prefix r : List Column) → IsPermutation all (fingers_in row prefix ++ left) → IsPermutation left (fingers_in row r) → IsPermutation all (fingers_in row (prefix ++ r))
glued row all left prefix r h i = subst (λ zs. IsPermutation all zs) (sym (fingers_append row prefix r)) (IsPermutation-trans _ _ _ h (IsPermutation-append_right (fingers_in row prefix) left (fingers_in row r) i))

left_rest : (row : Row) (all left : List Finger) (prefix rest : List Column) → IsPermutation all (fingers_in row prefix ++ left) → IsPermutation all (fingers_in row (prefix ++ rest)) → IsPermutation left (fingers_in row rest)
left_rest row all left prefix rest h i = uncons_all (fingers_in row prefix) left (fingers_in row rest) (IsPermutation-trans _ _ _ (IsPermutation-sym _ _ h) (subst (λ zs. IsPermutation all zs) (fingers_append row prefix rest) i))

-- a prefix of an arrangement with any completion of its state is an arrangement
pub glue : (k : Kinds) (s : State) (prefix rest r : List Column) → Completes k (start_of k) (prefix ++ rest) → IsStateOf k prefix s → Completes k s r → Completes k (start_of k) (prefix ++ r)
glue k s prefix rest r h state c =
    let columns : All IsColumn (prefix ++ r) = All-append IsColumn prefix r (front_columns prefix rest h.columns) c.columns in
    let p : IsPermutation (left_in k (start_of k)).p (fingers_in P (prefix ++ r)) = glued P (left_in k (start_of k)).p (left_in k s).p prefix r state.p c.p in
    let n : IsPermutation (left_in k (start_of k)).n (fingers_in N (prefix ++ r)) = glued N (left_in k (start_of k)).n (left_in k s).n prefix r state.n c.n in
    let rest_p : IsPermutation (left_in k s).p (fingers_in P rest) = left_rest P (left_in k (start_of k)).p (left_in k s).p prefix rest state.p h.p in
    let rest_n : IsPermutation (left_in k s).n (fingers_in N rest) = left_rest N (left_in k (start_of k)).n (left_in k s).n prefix rest state.n h.n in
    let low : most (left_in k (start_of k)).p (left_in k (start_of k)).n k.nets ≤ length (prefix ++ r) = omega (arith, few (prefix ++ r) k.nets columns, most_same _ _ _ _ k.nets p n) in
    let high : most (left_in k s).p (left_in k s).n k.nets ≤ length rest = omega (arith, few rest k.nets (back_columns prefix rest h.columns), most_same _ _ _ _ k.nets rest_p rest_n) in
    record { columns = columns; p = p; n = n; fewest = omega (arith, low, high, h.fewest, c.fewest, length-append prefix r, length-append prefix rest) }

-- a reached state has no more columns left than the start
pub columns_reached : (k : Kinds) (s : State) (gaps : ℕ) → GatesAreNets k → IsReached k s gaps → columns_left k s ≤ columns_left k (start_of k)
columns_reached k s gaps nets r =
    let c : (row : List Column) × Completes k s row = completion_exists k s nets in
    let whole : Completes k (start_of k) (r.prefix ++ c.0) = glue k s r.prefix r.rest c.0 r.completes r.state c.1 in
    omega (arith, whole.fewest, c.1.fewest, length-append r.prefix c.0)

pub reached_start : (k : Kinds) → GatesAreNets k → IsReached k (start_of k) 0
reached_start k nets =
    let c : (row : List Column) × Completes k (start_of k) row = completion_exists k (start_of k) nets in
    record { prefix = []; rest = c.0; completes = c.1; state = record { p = IsPermutation-refl _; n = IsPermutation-refl _; p_end = refl; n_end = refl }; counted = refl }

end_push : (row : Row) (xs : List Column) (c : Column) → end_behind row (xs ++ c ∷ []) ≡ option_map right_net (place row c)
end_push row [] c = refl
end_push row (x ∷ []) c = refl
end_push row (x ∷ y ∷ ys) c = end_push row (y ∷ ys) c

cost_at : Option NetNo → Option NetNo → Column → ℕ
cost_at p n c = cond (end_differs p c.p || end_differs n c.n) 1 0

gaps_push : (xs : List Column) (c : Column) → gaps_of (xs ++ c ∷ []) ≡ gaps_of xs + cost_at (end_behind P xs) (end_behind N xs) c
unfolding cost_at
gaps_push [] c = omega arith
gaps_push (x ∷ []) c =
    let facing : cost_at (option_map right_net x.p) (option_map right_net x.n) c ≡ cond (is_gap (x, c)) 1 0 = rw (end_facing x.p c.p, end_facing x.n c.n) refl in
    omega (arith, facing, sum_by-cons (λ z. cond (is_gap z) 1 0) (x, c) [])
gaps_push (x ∷ y ∷ ys) c =
    omega (arith, gaps_push (y ∷ ys) c, sum_by-cons (λ z. cond (is_gap z) 1 0) (x, y) (zip (y ∷ ys) ys), sum_by-cons (λ z. cond (is_gap z) 1 0) (x, y) (zip (y ∷ (ys ++ c ∷ [])) (ys ++ c ∷ [])))

one_placed : (left rest : List Finger) (x : Option Placed) → IsPermutation left (with_place x rest) → IsPermutation left (cons_option (option_map (λ (y : Placed). y.finger) x) [] ++ rest)
one_placed left rest None h = h
one_placed left rest (Some x) h = h

place_push : (row : Row) (all left rest : List Finger) (prefix : List Column) (c : Column) (x : Option Placed) → place row c ≡ x → IsPermutation all (fingers_in row prefix ++ left) → IsPermutation left (with_place x rest) → IsPermutation all (fingers_in row (prefix ++ c ∷ []) ++ rest)
place_push row all left rest prefix c x is h i =
    subst (λ zs. IsPermutation all (zs ++ rest)) (sym (fingers_append row prefix (c ∷ [])))
    (subst (λ zs. IsPermutation all zs) (sym (append_assoc (fingers_in row prefix) (fingers_in row (c ∷ [])) rest))
    (IsPermutation-trans _ _ _ h (IsPermutation-append_right (fingers_in row prefix) left (fingers_in row (c ∷ []) ++ rest) (subst (λ z. IsPermutation left (cons_option (option_map (λ (y : Placed). y.finger) z) [] ++ rest)) (sym is) (one_placed left rest x i)))))

cost_same : (s : State) (p n : Option NetNo) (c : Column) → s.p_end ≡ p → s.n_end ≡ n → cost_of s c ≡ cost_at p n c
unfolding cost_at
cost_same s p n c ep en = ap (λ z. cost_at z s.n_end c) ep ∙ ap (λ z. cost_at p z c) en

pub reached_after : (k : Kinds) (s : State) (step : Step) (gaps : ℕ) → GatesAreNets k → IsReached k s gaps → IsPossible k s step → IsReached k (state_after k s step) (gaps + cost_of s (column_of k step))
reached_after k s step gaps nets r possible =
    let c : (row : List Column) × Completes k (state_after k s step) row = completion_exists k (state_after k s step) nets in
    let whole : Completes k (start_of k) (r.prefix ++ (column_of k step ∷ c.0)) = glue k s r.prefix r.rest (column_of k step ∷ c.0) r.completes r.state (unfold_from k s step c.0 nets possible c.1) in
    record {
      prefix = r.prefix ++ column_of k step ∷ [];
      rest = c.0;
      completes = subst (Completes k (start_of k)) (sym (append_assoc r.prefix (column_of k step ∷ []) c.0)) whole;
      state = record {
        p = place_push P (left_in k (start_of k)).p (left_in k s).p (fingers_left P k.p (left_after s.p_left step.p)) r.prefix (column_of k step) (placed_of P k.p step.p) refl r.state.p (row_from P k.p s.p_left step.p possible.p);
        n = place_push N (left_in k (start_of k)).n (left_in k s).n (fingers_left N k.n (left_after s.n_left step.n)) r.prefix (column_of k step) (placed_of N k.n step.n) refl r.state.n (row_from N k.n s.n_left step.n possible.n);
        p_end = sym (end_push P r.prefix (column_of k step));
        n_end = sym (end_push N r.prefix (column_of k step));
      };
      counted = omega (arith, r.counted, gaps_push r.prefix (column_of k step), cost_same s (end_behind P r.prefix) (end_behind N r.prefix) (column_of k step) r.state.p_end r.state.n_end);
    }
