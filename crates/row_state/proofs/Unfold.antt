-- A completion is a possible next column and a completion of the state after it.
use Rattle.std.proofs.Common.{ℕ, suc, ◌≡◌, ◌+◌, ◌<◌, ◌≤◌, Bool, cond, ◌==◌, ◌||◌, List, [], ◌∷◌, length, Option, Some, None, option_map, refl, sym, ap, subst, arith, IsPermutation, ◌∙◌, slice_get, zip}
use Rattle.std.proofs.lemmas.List.Sorted.{IsPermutation-cons, IsPermutation-sym, IsPermutation-trans, sum_by-IsPermutation, length_permutation}
use Rattle.std.proofs.lemmas.List.Elements.{All-head, All-tail, All-cons}
use Rattle.std.proofs.lemmas.List.Sums.{sum_by-cons}
use Rattle.std.specs.List.{cons_option}
use Rattle.std.proofs.lemmas.Option.{same_Some, none-some}
use Rattle.cell_num.specs.declared.finger.Row.{Row}
use Rattle.cell_num.specs.declared.finger.Row.TheVariants.{P, N}
use Rattle.cell_num.specs.declared.net.NetNo.{NetNo}
use Rattle.cell_num.specs.declared.finger.Finger.{Finger}
use Rattle.cell_num.specs.declared.finger.Fingers.{Fingers}
use Rattle.row_model.specs.declared.column.Placed.{Placed}
use Rattle.row_model.specs.declared.column.Column.{Column}
use Rattle.cell_num.specs.Fingers.{on_gate, columns_of}
use Rattle.row_model.specs.Arrangement.{IsArrangement, fingers_in, IsColumn, AreOneColumn}
use Rattle.row_model.specs.Gaps.{gaps_of, is_gap, facing_differs, right_net}
use Rattle.row_trails.specs.Trails.{end_differs}
use Rattle.row_state.specs.declared.kind.Kind.{Kind}
use Rattle.row_state.specs.declared.kind.Kinds.{Kinds}
use Rattle.row_state.specs.declared.state.State.{State}
use Rattle.row_state.specs.declared.step.Side.{Side}
use Rattle.row_state.specs.declared.step.Step.{Step}
use Rattle.row_state.specs.Completion.{finger_of, fingers_left, left_in, Completes, Need, further_gaps, cost_of}
use Rattle.row_state.specs.Start.{GatesAreNets, HasFingers, AreKinds, start_of, counts_of}
use Rattle.row_state.specs.Steps.{placed_of, column_of, IsPossible, HalfMayStand, left_after, state_after}
use Rattle.row_state.proofs.Left.{with_place, Taken, row_to, row_from}
use Rattle.row_state.specs.Gates.{most}
use Rattle.row_state.proofs.Fewest.{most_same, few, placed_cons, Adds, adds, GateWithin}

make_column : Option Placed → Option Placed → Column
make_column p n = record { p = p; n = n }

made_column : {p p' n n' : Option Placed} → p ≡ p' → n ≡ n' → make_column p n ≡ make_column p' n'
made_column ep en = cc

column_from : (k : Kinds) (step : Step) (c : Column) → placed_of P k.p step.p ≡ c.p → placed_of N k.n step.n ≡ c.n → column_of k step ≡ c
unfolding make_column
column_from k step c ep en = made_column ep en

-- a possible next column, and a completion behind it
pub record Next (k : Kinds) (s : State) (c : Column) (cs : List Column) : Type 0 where
  pub step : Step
  pub possible : IsPossible k s step
  pub is : column_of k step ≡ c
  pub rest : Completes k (state_after k s step) cs

perm_placed : (xs : List Finger) (x : Option Placed) (fs : List Finger) → IsPermutation xs (cons_option (option_map (λ (y : Placed). y.finger) x) fs) → IsPermutation xs (with_place x fs)
perm_placed xs x fs h = subst (λ ys. IsPermutation xs ys) (placed_cons x fs) h

perm_with : (x : Option Placed) (xs ys : List Finger) → IsPermutation xs ys → IsPermutation (with_place x xs) (with_place x ys)
perm_with None xs ys h = h
perm_with (Some x) xs ys h = IsPermutation-cons x.finger xs ys h

half_same : (x y : Option Placed) (p p' n n' : ℕ → ℕ) → ((g : ℕ) → p g ≡ p' g) → ((g : ℕ) → n g ≡ n' g) → HalfMayStand x y p n → HalfMayStand x y p' n'
half_same None None p p' n n' ep en h = tt
half_same (Some x) (Some y) p p' n n' ep en h = tt
half_same (Some x) None p p' n n' ep en h = omega (arith, h, ep x.finger.gate.0, en x.finger.gate.0)
half_same None (Some y) p p' n n' ep en h = omega (arith, h, ep y.finger.gate.0, en y.finger.gate.0)

pub half_at : (x x' y y' : Option Placed) (p p' n n' : ℕ → ℕ) → x ≡ x' → y ≡ y' → ((g : ℕ) → p g ≡ p' g) → ((g : ℕ) → n g ≡ n' g) → HalfMayStand x' y' p n → HalfMayStand x y p' n'
half_at x x' y y' p p' n n' ex ey ep en h = subst (λ z. HalfMayStand z y p' n') (sym ex) (subst (λ z. HalfMayStand x' z p' n') (sym ey) (half_same x' y' p p' n n' ep en h))

pub gate_perm : (g : ℕ) (xs ys : List Finger) → IsPermutation xs ys → on_gate g ys ≡ on_gate g xs
gate_perm g xs ys h = sum_by-IsPermutation (λ f. cond (f.gate.0 == g) 1 0) xs ys h

abbrev pub placed_kind : Row → Kind → Bool → Placed
placed_kind row kind flipped = record { finger = finger_of row kind; flipped = flipped }

pub placed_gate : (row : Row) (kinds : List Kind) (side : Option Side) (nets : ℕ) → ((i : ℕ) (kind : Kind) → slice_get kinds i ≡ Some kind → kind.gate.0 < nets) → (x : Placed) → placed_of row kinds side ≡ Some x → x.finger.gate.0 < nets
placed_gate row kinds None nets below x e = absurd (none-some x e)
placed_gate row kinds (Some side) nets below x e = at (slice_get kinds side.kind) refl
  where
    at : (o : Option Kind) → slice_get kinds side.kind ≡ o → x.finger.gate.0 < nets
    at None none = absurd (none-some x (sym (rw none refl) ∙ e))
    at (Some kind) is =
        let there : Some (placed_kind row kind side.flipped) ≡ Some x = sym (rw is refl) ∙ e in
        let same : placed_kind row kind side.flipped ≡ x = same_Some _ _ there in
        subst (λ (z : Placed). z.finger.gate.0 < nets) same (below side.kind kind is)

pub gate_within : (x y : Option Placed) (nets : ℕ) → AreOneColumn x y → ((z : Placed) → x ≡ Some z → z.finger.gate.0 < nets) → ((z : Placed) → y ≡ Some z → z.finger.gate.0 < nets) → GateWithin x y nets
gate_within None None nets h p n = h
gate_within (Some x) y nets h p n = p x refl
gate_within None (Some y) nets h p n = n y refl

-- over plain lists: the columns that the fingers need with one column less
pub record OneLess (x y : Option Placed) (ps ns us vs : List Finger) (nets columns : ℕ) : Type 0 where
  pub half : HalfMayStand x y (λ g. on_gate g ps) (λ g. on_gate g ns)
  pub fewest : columns ≡ most us vs nets

one_less : (x y : Option Placed) (ps ns us vs xs ys : List Finger) (nets columns : ℕ) → IsPermutation ps (with_place x xs) → IsPermutation ns (with_place y ys) → IsPermutation us xs → IsPermutation vs ys → AreOneColumn x y → suc columns ≡ most ps ns nets → most xs ys nets ≤ columns → OneLess x y ps ns us vs nets columns
one_less x y ps ns us vs xs ys nets columns hp hn hp' hn' column fewest enough =
    let a : Adds (most xs ys nets) (most (with_place x xs) (with_place y ys) nets) (GateWithin x y nets) (HalfMayStand x y (λ g. on_gate g (with_place x xs)) (λ g. on_gate g (with_place y ys))) = adds x y xs ys nets column in
    let whole : most ps ns nets ≡ most (with_place x xs) (with_place y ys) nets = most_same ps (with_place x xs) ns (with_place y ys) nets hp hn in
    let stands : HalfMayStand x y (λ g. on_gate g (with_place x xs)) (λ g. on_gate g (with_place y ys)) = a.may_stand (omega (arith, whole, fewest, a.most_one, enough)) in
    record {
      half = half_same x y (λ g. on_gate g (with_place x xs)) (λ g. on_gate g ps) (λ g. on_gate g (with_place y ys)) (λ g. on_gate g ns) (λ g. gate_perm g ps (with_place x xs) hp) (λ g. gate_perm g ns (with_place y ys) hn) stands;
      fewest = omega (arith, whole, fewest, a.most_one, enough, most_same us xs vs ys nets hp' hn');
    }

unfold_with : (k : Kinds) (s : State) (c : Column) (cs : List Column) → Completes k s (c ∷ cs) → Taken P k.p s.p_left c.p (fingers_in P cs) → Taken N k.n s.n_left c.n (fingers_in N cs) → Next k s c cs
unfold_with k s c cs h tp tn =
    let step : Step = record { p = tp.side; n = tn.side } in
    let same : column_of k step ≡ c = column_from k step c tp.is tn.is in
    let less : OneLess c.p c.n (fingers_left P k.p s.p_left) (fingers_left N k.n s.n_left) (fingers_left P k.p (left_after s.p_left tp.side)) (fingers_left N k.n (left_after s.n_left tn.side)) k.nets (length cs) =
    one_less c.p c.n (fingers_left P k.p s.p_left) (fingers_left N k.n s.n_left) (fingers_left P k.p (left_after s.p_left tp.side)) (fingers_left N k.n (left_after s.n_left tn.side)) (fingers_in P cs) (fingers_in N cs) k.nets (length cs)
    (perm_placed (fingers_left P k.p s.p_left) c.p (fingers_in P cs) h.p) (perm_placed (fingers_left N k.n s.n_left) c.n (fingers_in N cs) h.n) tp.others tn.others
    (All-head IsColumn c cs h.columns) h.fewest (few cs k.nets (All-tail IsColumn c cs h.columns)) in
    record {
      step = step;
      possible = record {
        p = tp.there;
        n = tn.there;
        column = subst IsColumn (sym same) (All-head IsColumn c cs h.columns);
        half = half_at (placed_of P k.p tp.side) c.p (placed_of N k.n tn.side) c.n _ _ _ _ tp.is tn.is (λ g. refl) (λ g. refl) less.half;
      };
      is = same;
      rest = record { columns = All-tail IsColumn c cs h.columns; p = tp.others; n = tn.others; fewest = less.fewest };
    }

pub unfold_to : (k : Kinds) (s : State) (c : Column) (cs : List Column) → Completes k s (c ∷ cs) → Next k s c cs
unfold_to k s c cs h =
    unfold_with k s c cs h
    (row_to P k.p s.p_left c.p (fingers_in P cs) (perm_placed (fingers_left P k.p s.p_left) c.p (fingers_in P cs) h.p))
    (row_to N k.n s.n_left c.n (fingers_in N cs) (perm_placed (fingers_left N k.n s.n_left) c.n (fingers_in N cs) h.n))

-- the same over plain lists: the columns that the fingers need with one column more
pub one_more : (x y : Option Placed) (ps ns xs ys : List Finger) (nets columns : ℕ) → IsPermutation ps (with_place x xs) → IsPermutation ns (with_place y ys) → AreOneColumn x y → GateWithin x y nets → HalfMayStand x y (λ g. on_gate g ps) (λ g. on_gate g ns) → columns ≡ most xs ys nets → suc columns ≡ most ps ns nets
one_more x y ps ns xs ys nets columns hp hn column within half fewest =
    let a : Adds (most xs ys nets) (most (with_place x xs) (with_place y ys) nets) (GateWithin x y nets) (HalfMayStand x y (λ g. on_gate g (with_place x xs)) (λ g. on_gate g (with_place y ys))) = adds x y xs ys nets column in
    let stands : HalfMayStand x y (λ g. on_gate g (with_place x xs)) (λ g. on_gate g (with_place y ys)) = half_same x y (λ g. on_gate g ps) (λ g. on_gate g (with_place x xs)) (λ g. on_gate g ns) (λ g. on_gate g (with_place y ys)) (λ g. sym (gate_perm g ps (with_place x xs) hp)) (λ g. sym (gate_perm g ns (with_place y ys) hn)) half in
    omega (arith, fewest, most_same ps (with_place x xs) ns (with_place y ys) nets hp hn, a.one within stands)

perm_back : (xs : List Finger) (x : Option Placed) (fs gs : List Finger) → IsPermutation xs (with_place x fs) → IsPermutation fs gs → IsPermutation xs (cons_option (option_map (λ (y : Placed). y.finger) x) gs)
perm_back xs x fs gs h i = subst (λ ys. IsPermutation xs ys) (sym (placed_cons x gs)) (IsPermutation-trans _ _ _ h (perm_with x fs gs i))

pub unfold_from : (k : Kinds) (s : State) (step : Step) (cs : List Column) → GatesAreNets k → IsPossible k s step → Completes k (state_after k s step) cs → Completes k s (column_of k step ∷ cs)
unfold_from k s step cs nets possible rest =
    let hp : IsPermutation (fingers_left P k.p s.p_left) (with_place (placed_of P k.p step.p) (fingers_left P k.p (left_after s.p_left step.p))) = row_from P k.p s.p_left step.p possible.p in
    let hn : IsPermutation (fingers_left N k.n s.n_left) (with_place (placed_of N k.n step.n) (fingers_left N k.n (left_after s.n_left step.n))) = row_from N k.n s.n_left step.n possible.n in
    record {
      columns = All-cons IsColumn (column_of k step) cs possible.column rest.columns;
      p = perm_back (fingers_left P k.p s.p_left) (placed_of P k.p step.p) (fingers_left P k.p (left_after s.p_left step.p)) (fingers_in P cs) hp rest.p;
      n = perm_back (fingers_left N k.n s.n_left) (placed_of N k.n step.n) (fingers_left N k.n (left_after s.n_left step.n)) (fingers_in N cs) hn rest.n;
      fewest = one_more (placed_of P k.p step.p) (placed_of N k.n step.n) (fingers_left P k.p s.p_left) (fingers_left N k.n s.n_left) (fingers_left P k.p (left_after s.p_left step.p)) (fingers_left N k.n (left_after s.n_left step.n)) k.nets (length cs) hp hn possible.column
          (gate_within (placed_of P k.p step.p) (placed_of N k.n step.n) k.nets possible.column (placed_gate P k.p step.p k.nets nets.p) (placed_gate N k.n step.n k.nets nets.n))
          possible.half rest.fewest;
    }

cost_at : Option NetNo → Option NetNo → Column → ℕ
cost_at p n c = cond (end_differs p c.p || end_differs n c.n) 1 0

pub end_facing : (x y : Option Placed) → end_differs (option_map right_net x) y ≡ facing_differs x y
end_facing None y = refl
end_facing (Some x) None = refl
end_facing (Some x) (Some y) = refl

-- the further gaps add up along the columns
pub further_step : (k : Kinds) (s : State) (step : Step) (cs : List Column) → further_gaps s (column_of k step ∷ cs) ≡ cost_of s (column_of k step) + further_gaps (state_after k s step) cs
further_step k s step [] = refl
further_step k s step (d ∷ ds) =
    let facing : ◌≡◌ {A = ℕ} (cost_of (state_after k s step) d) (cond (is_gap (column_of k step, d)) 1 0) = rw (end_facing (placed_of P k.p step.p) d.p, end_facing (placed_of N k.n step.n) d.n) refl in
    omega (arith, facing, sum_by-cons (λ x. cond (is_gap x) 1 0) (column_of k step, d) (zip (d ∷ ds) ds))

-- a bound that each possible next column and the need behind it reach
pub branch : (k : Kinds) (s : State) (bound : ℕ) (after : Step → ℕ) → HasFingers k s → ((step : Step) → IsPossible k s step → Need k (state_after k s step) (after step)) → ((step : Step) → IsPossible k s step → bound ≤ cost_of s (column_of k step) + after step) → Need k s bound
branch k s bound after some needs reach [] h =
    absurd (omega (arith, some, length_permutation (fingers_left P k.p s.p_left) [] h.p, length_permutation (fingers_left N k.n s.n_left) [] h.n))
branch k s bound after some needs reach (c ∷ cs) h =
    let next : Next k s c cs = unfold_to k s c cs h in
    let behind : after next.step ≤ further_gaps (state_after k s next.step) cs = needs next.step next.possible cs next.rest in
    let whole : bound ≤ further_gaps s (column_of k next.step ∷ cs) = omega (arith, behind, reach next.step next.possible, further_step k s next.step cs) in
    subst (λ (d : Column). bound ≤ further_gaps s (d ∷ cs)) next.is whole

pub columns_same : (f : Fingers) (k : Kinds) → AreKinds f k → columns_of f ≡ columns_of (left_in k (start_of k))
columns_same f k kinds =
    let a : most f.p f.n f.nets ≡ most (fingers_left P k.p (counts_of k.p)) (fingers_left N k.n (counts_of k.n)) f.nets = most_same f.p _ f.n _ f.nets kinds.p kinds.n in
    a ∙ ap (λ nets. most (fingers_left P k.p (counts_of k.p)) (fingers_left N k.n (counts_of k.n)) nets) (sym kinds.nets)

-- the completions of the start state are the arrangements of the fingers
pub completion_of : (f : Fingers) (k : Kinds) (row : List Column) → AreKinds f k → IsArrangement row f → Completes k (start_of k) row
completion_of f k row kinds h =
    record {
      columns = h.columns;
      p = IsPermutation-trans _ _ _ (IsPermutation-sym _ _ kinds.p) h.p;
      n = IsPermutation-trans _ _ _ (IsPermutation-sym _ _ kinds.n) h.n;
      fewest = omega (arith, h.fewest, columns_same f k kinds);
    }

pub arrangement_of : (f : Fingers) (k : Kinds) (row : List Column) → AreKinds f k → Completes k (start_of k) row → IsArrangement row f
arrangement_of f k row kinds h =
    record {
      columns = h.columns;
      p = IsPermutation-trans _ _ _ kinds.p h.p;
      n = IsPermutation-trans _ _ _ kinds.n h.n;
      fewest = omega (arith, h.fewest, columns_same f k kinds);
    }

-- and their further gaps are all their gaps
pub gaps_from_start : (k : Kinds) (row : List Column) → further_gaps (start_of k) row ≡ gaps_of row
gaps_from_start k [] = refl
gaps_from_start k (c ∷ cs) = omega arith
