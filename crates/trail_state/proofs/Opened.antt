-- The nodes that a choice of a gate meets are among those that the gate can meet.
use Rattle.std.proofs.Common.{ℕ, ◌≡◌, ◌≢◌, ◌+◌, ◌*◌, ◌/◌, ◌%◌, ◌<◌, ◌≤◌, ◌==◌, ◌&&◌, ◌||◌, Bool, true, false, if◌then◌else◌, ltb, leb, max, List, [], ◌∷◌, length, Option, Some, None, option_map, map, refl, sym, ap, subst, arith, ◌∙◌, inl, inr, ◌⊎◌, All, AllPairs, Contains, get_or}
use Rattle.std.specs.List.{AllZip, cons_option, filter, range_with_len}
use Rattle.std.proofs.lemmas.Bool.{and_from, cases_Bool, eq-eqb, eqb-true, lt-ltb, ne_eqb, or_cases, or_left, or_right}
use Rattle.std.proofs.lemmas.List.Elements.{All-contains}
use Rattle.std.proofs.lemmas.List.Sorted.{Contains-permutation, IsPermutation-sym, length_permutation, list_any-IsPermutation}
use Rattle.std.proofs.lemmas.List.Sums.{length-filter}
use Rattle.cell_num.specs.declared.net.NetNo.{NetNo}
use Rattle.cell_num.specs.declared.finger.Row.{Row}
use Rattle.cell_num.specs.declared.finger.Row.TheVariants.{P, N}
use Rattle.cell_num.specs.declared.finger.Finger.{Finger}
use Rattle.cell_num.specs.declared.finger.Fingers.{Fingers}
use Rattle.cell_num.specs.Fingers.{AreFingers, IsFinger, on_gate}
use Rattle.std.proofs.lemmas.List.FromFn.{get_or-range_with_len, length-range_with_len}
use Rattle.std.proofs.lemmas.List.Kept.{AllPairs-filter}
use Rattle.cell_num.proofs.In.{Image, contains_map, in_map}
use Rattle.cell_num.proofs.Lists.{all_from_contains, contains_cons, contains_filter_map, contains_here, contains_none, contains_there}
use Rattle.cell_num.proofs.Pairs.{Some', pairs_map, test_finds, test_there}
use Rattle.row_model.specs.declared.column.Placed.{Placed}
use Rattle.row_model.specs.declared.column.Column.{Column}
use Rattle.row_model.specs.Arrangement.{fingers_in, place}
use Rattle.row_model.specs.Gaps.{left_net, right_net}
use Rattle.trail_state.specs.declared.edge.Node.{Node}
use Rattle.trail_state.specs.declared.edge.Edge.{Edge}
use Rattle.trail_state.specs.Edges.{edge_between, pair_node}
use Rattle.trail_state.specs.Places.{is_end, is_met, node_at}
use Rattle.trail_state.specs.Settling.{is_open}
use Rattle.trail_state.specs.Choices.{IsChoice, IsEdgeOf, fingers_on, is_on}
use Rattle.trail_state.proofs.Grouped.{columns_of_gate, few_fingers}
use Rattle.trail_state.proofs.Members.{Passes, passes_from, passes_to}
use Rattle.trail_state.specs.Nodes.{any_can_meet, can_meet, has_net, is_end_in, is_net_in, is_net_on, may_have, open_nodes}
use Rattle.trail_state.proofs.Walks.{ordered}

-- what stands beside a member of the second list
pub record Beside {X Y : Type 0} (R : X → Y → Type 0) (xs : List X) (y : Y) : Type 0 where
  pub it : X
  pub there : Contains xs it
  pub holds : R it y

beside_more : {X Y : Type 0} (R : X → Y → Type 0) (x : X) (xs : List X) (y : Y) → Beside R xs y → Beside R (x ∷ xs) y
beside_more R x xs y b = record { it = b.it; there = contains_there x xs b.it b.there; holds = b.holds }

pub beside : {X Y : Type 0} (R : X → Y → Type 0) (xs : List X) (ys : List Y) (y : Y) → AllZip R xs ys → Contains ys y → Beside R xs y
beside R [] [] y zipped c = absurd (contains_none y c)
beside R [] (z ∷ zs) y zipped c = absurd zipped
beside R (x ∷ xs) [] y zipped c = absurd zipped
beside R (x ∷ xs) (z ∷ zs) y zipped c =
    elim (contains_cons z zs y c) [
      | inl same ↦ record { it = x; there = contains_here x xs; holds = subst (R x) same zipped.0 }
      | inr rest ↦ beside_more R x xs y (beside R xs zs y zipped.1 rest)
    ]

-- an end of an edge is one of its nodes
pub end_of : (v l r : ℕ) → is_end v (edge_between l r) ≡ true → (v ≡ l) ⊎ (v ≡ r)
end_of v l r e = elim (cases_Bool (leb l r)) [
  | inl low ↦ at true (sym (ap (λ b. is_end v (ordered b l r)) low) ∙ e)
  | inr high ↦ at false (sym (ap (λ b. is_end v (ordered b l r)) high) ∙ e)
]
  where
    either : (a b : ℕ) → ((a == v) || (b == v)) ≡ true → (v ≡ a) ⊎ (v ≡ b)
    either a b h = elim (or_cases (a == v) (b == v) h) [ inl x ↦ inl (sym (eqb-true a v x)) | inr y ↦ inr (sym (eqb-true b v y)) ]

    turned : {A B : Type 0} → A ⊎ B → B ⊎ A
    turned (inl a) = inr a
    turned (inr b) = inl b

    at : (b : Bool) → is_end v (ordered b l r) ≡ true → (v ≡ l) ⊎ (v ≡ r)
    at true h = either l r h
    at false h = turned (either r l h)

-- the ends of fingers are nets
ends_below : (r : Row) (nets : ℕ) (fs : List Finger) (net : ℕ) → All (IsFinger r nets) fs → is_end_in fs net ≡ true → net < nets
ends_below r nets fs net all e =
    let s : Some' (λ x. has_net net x ≡ true) fs = test_finds (has_net net) fs e in
    let f : IsFinger r nets s.it = All-contains (IsFinger r nets) fs s.it all s.there in
    elim (or_cases (s.it.lo.0 == net) (s.it.hi.0 == net) s.holds) [
      | inl lo ↦ omega (arith, eqb-true s.it.lo.0 net lo, f.order, f.ends)
      | inr hi ↦ omega (arith, eqb-true s.it.hi.0 net hi, f.ends)
    ]

-- the nets that fill a row with a finger are those at the ends of fingers
by_ends : (x : Finger) (xs : List Finger) (net : ℕ) → is_net_in (x ∷ xs) net ≡ is_end_in (x ∷ xs) net
by_ends x xs net = ap (λ b. if b then net == 0 else is_end_in (x ∷ xs) net) (ne_eqb (length (x ∷ xs)) 0 (λ e. omega (arith, e)))

-- so are the nets that fill a row, where there is one
pub net_below : (r : Row) (nets : ℕ) (fs : List Finger) (net : ℕ) → All (IsFinger r nets) fs → 0 < nets → is_net_in fs net ≡ true → net < nets
net_below r nets [] net all some e = omega (arith, some, eqb-true net 0 e)
net_below r nets (x ∷ xs) net all some e = ends_below r nets (x ∷ xs) net all (sym (by_ends x xs net) ∙ e)

pub net_small : (r : Row) (nets : ℕ) (fs : List Finger) (net : ℕ) → All (IsFinger r nets) fs → nets ≤ 256 → is_net_in fs net ≡ true → net < 256
net_small r nets [] net all few e = omega (arith, eqb-true net 0 e)
net_small r nets (x ∷ xs) net all few e = omega (arith, few, ends_below r nets (x ∷ xs) net all (sym (by_ends x xs net) ∙ e))

-- a finger of the row on the gate
record IsOn (mine : List Finger) (g : ℕ) (x : Finger) : Type 0 where
  pub there : Contains mine x
  pub gate : x.gate.0 ≡ g

on_net : (mine : List Finger) (g net : ℕ) (x : Finger) → IsOn mine g x → has_net net x ≡ true → is_net_on mine g net ≡ true
on_net mine g net x on has = test_there (λ (y : Finger). (y.gate.0 == g) && has_net net y) mine x on.there (and_from (x.gate.0 == g) (has_net net x) (eq-eqb x.gate.0 g on.gate) has)

pub in_net : (mine : List Finger) (net : ℕ) (x : Finger) → Contains mine x → has_net net x ≡ true → is_net_in mine net ≡ true
in_net [] net x there has = absurd (contains_none x there)
in_net (y ∷ ys) net x there has = by_ends y ys net ∙ test_there (has_net net) (y ∷ ys) x there has

may_by_finger : (mine other : List Finger) (g net : ℕ) (x : Finger) → IsOn mine g x → has_net net x ≡ true → may_have mine other g net ≡ true
may_by_finger mine other g net x on has = at (ltb (on_gate g mine) (on_gate g other))
  where
    at : (b : Bool) → (if b then is_net_in mine net else is_net_on mine g net) ≡ true
    at true = in_net mine net x on.there has
    at false = on_net mine g net x on has

may_by_filling : (mine other : List Finger) (g net : ℕ) → on_gate g mine < on_gate g other → is_net_in mine net ≡ true → may_have mine other g net ≡ true
may_by_filling mine other g net fewer e = ap (λ b. if b then is_net_in mine net else is_net_on mine g net) (lt-ltb (on_gate g mine) (on_gate g other) fewer) ∙ e

pub left_has : (x : Placed) → has_net (left_net x).0 x.finger ≡ true
left_has x = elim (cases_Bool x.flipped) [
  | inl e ↦ or_right (x.finger.lo.0 == (left_net x).0) (x.finger.hi.0 == (left_net x).0) (eq-eqb x.finger.hi.0 (left_net x).0 (ap (λ b. (if b then x.finger.hi else x.finger.lo).0) (sym e)))
  | inr e ↦ or_left (x.finger.lo.0 == (left_net x).0) (x.finger.hi.0 == (left_net x).0) (eq-eqb x.finger.lo.0 (left_net x).0 (ap (λ b. (if b then x.finger.hi else x.finger.lo).0) (sym e)))
]

pub right_has : (x : Placed) → has_net (right_net x).0 x.finger ≡ true
right_has x = elim (cases_Bool x.flipped) [
  | inl e ↦ or_left (x.finger.lo.0 == (right_net x).0) (x.finger.hi.0 == (right_net x).0) (eq-eqb x.finger.lo.0 (right_net x).0 (ap (λ b. (if b then x.finger.lo else x.finger.hi).0) (sym e)))
  | inr e ↦ or_right (x.finger.lo.0 == (right_net x).0) (x.finger.hi.0 == (right_net x).0) (eq-eqb x.finger.hi.0 (right_net x).0 (ap (λ b. (if b then x.finger.lo else x.finger.hi).0) (sym e)))
]

-- a row with an empty place has fewer fingers than columns
pub fewer_fingers : (r : Row) (cs : List Column) (c : Column) → Contains cs c → place r c ≡ None → length (fingers_in r cs) < length cs
fewer_fingers r [] c there none = absurd (contains_none c there)
fewer_fingers r (d ∷ ds) c there none =
    elim (contains_cons d ds c there) [
      | inl same ↦
          let gone : length (fingers_in r (d ∷ ds)) ≡ length (fingers_in r ds) = ap (λ o. length (cons_option (option_map (λ (x : Placed). x.finger) o) (fingers_in r ds))) (ap (place r) same ∙ none) in
          omega (arith, gone, few_fingers r ds)
      | inr rest ↦ omega (arith, fewer_fingers r ds c rest none, at_most (place r d) (fingers_in r ds))
    ]
  where
    at_most : (o : Option Placed) (fs : List Finger) → length (cons_option (option_map (λ (x : Placed). x.finger) o) fs) ≤ 1 + length fs
    at_most None fs = omega arith
    at_most (Some x) fs = omega arith

-- a choice of a gate that is a net
module _ (f : Fingers) (g : ℕ) (ok : AreFingers f) (within : g < f.nets) (c : List Edge) (choice : IsChoice f g c) where
  p_on : (col : Column) (x : Placed) → Contains choice.columns col → col.p ≡ Some x → IsOn f.p g x.finger
  p_on col x there is =
      let listed : Contains (fingers_in P choice.columns) x.finger = contains_filter_map (λ (d : Column). option_map (λ (y : Placed). y.finger) (place P d)) choice.columns col x.finger there (ap (option_map (λ (y : Placed). y.finger)) is) in
      let mine : Passes (is_on g) f.p x.finger = passes_from (is_on g) f.p x.finger (Contains-permutation (fingers_in P choice.columns) (fingers_on g f).p x.finger (IsPermutation-sym (fingers_on g f).p (fingers_in P choice.columns) choice.arranges.p) listed) in
      record { there = mine.there; gate = eqb-true x.finger.gate.0 g mine.passes }

  n_on : (col : Column) (x : Placed) → Contains choice.columns col → col.n ≡ Some x → IsOn f.n g x.finger
  n_on col x there is =
      let listed : Contains (fingers_in N choice.columns) x.finger = contains_filter_map (λ (d : Column). option_map (λ (y : Placed). y.finger) (place N d)) choice.columns col x.finger there (ap (option_map (λ (y : Placed). y.finger)) is) in
      let mine : Passes (is_on g) f.n x.finger = passes_from (is_on g) f.n x.finger (Contains-permutation (fingers_in N choice.columns) (fingers_on g f).n x.finger (IsPermutation-sym (fingers_on g f).n (fingers_in N choice.columns) choice.arranges.n) listed) in
      record { there = mine.there; gate = eqb-true x.finger.gate.0 g mine.passes }

  columns_are : length choice.columns ≡ max (on_gate g f.p) (on_gate g f.n)
  columns_are = choice.arranges.fewest ∙ columns_of_gate f g within

  p_fewer : (col : Column) → Contains choice.columns col → col.p ≡ None → on_gate g f.p < on_gate g f.n
  p_fewer col there none = omega (arith, columns_are, fewer_fingers P choice.columns col there none, length_permutation (fingers_on g f).p (fingers_in P choice.columns) choice.arranges.p, length-filter (is_on g) f.p)

  n_fewer : (col : Column) → Contains choice.columns col → col.n ≡ None → on_gate g f.n < on_gate g f.p
  n_fewer col there none = omega (arith, columns_are, fewer_fingers N choice.columns col there none, length_permutation (fingers_on g f).n (fingers_in N choice.columns) choice.arranges.n, length-filter (is_on g) f.n)

  -- both nets of a node are nets that the gate may have
  record IsPair (v : ℕ) : Type 0 where
    pub p : ℕ
    pub n : ℕ
    pub is : v ≡ pair_node p n
    pub may_p : may_have f.p f.n g p ≡ true
    pub may_n : may_have f.n f.p g n ≡ true
    pub p_in : is_net_in f.p p ≡ true
    pub n_in : is_net_in f.n n ≡ true

  by_fingers : (col : Column) (x y : Placed) (p n : ℕ) → Contains choice.columns col → col.p ≡ Some x → col.n ≡ Some y → has_net p x.finger ≡ true → has_net n y.finger ≡ true → IsPair (pair_node p n)
  by_fingers col x y p n there is_x is_y has_p has_n = record {
    p = p;
    n = n;
    is = refl;
    may_p = may_by_finger f.p f.n g p x.finger (p_on col x there is_x) has_p;
    may_n = may_by_finger f.n f.p g n y.finger (n_on col y there is_y) has_n;
    p_in = in_net f.p p x.finger (p_on col x there is_x).there has_p;
    n_in = in_net f.n n y.finger (n_on col y there is_y).there has_n;
  }

  by_p : (col : Column) (x : Placed) (p n : ℕ) → Contains choice.columns col → col.p ≡ Some x → col.n ≡ None → has_net p x.finger ≡ true → is_net_in f.n n ≡ true → IsPair (pair_node p n)
  by_p col x p n there is_x none has_p fills = record {
    p = p;
    n = n;
    is = refl;
    may_p = may_by_finger f.p f.n g p x.finger (p_on col x there is_x) has_p;
    may_n = may_by_filling f.n f.p g n (n_fewer col there none) fills;
    p_in = in_net f.p p x.finger (p_on col x there is_x).there has_p;
    n_in = fills;
  }

  by_n : (col : Column) (y : Placed) (p n : ℕ) → Contains choice.columns col → col.p ≡ None → col.n ≡ Some y → is_net_in f.p p ≡ true → has_net n y.finger ≡ true → IsPair (pair_node p n)
  by_n col y p n there none is_y fills has_n = record {
    p = p;
    n = n;
    is = refl;
    may_p = may_by_filling f.p f.n g p (p_fewer col there none) fills;
    may_n = may_by_finger f.n f.p g n y.finger (n_on col y there is_y) has_n;
    p_in = fills;
    n_in = in_net f.n n y.finger (n_on col y there is_y).there has_n;
  }

  one_end : (v l r : ℕ) (e : Edge) → e ≡ edge_between l r → is_end v e ≡ true → IsPair l → IsPair r → IsPair v
  one_end v l r e is end at_l at_r = elim (end_of v l r (sym (ap (is_end v) is) ∙ end)) [
    | inl a ↦ subst IsPair (sym a) at_l
    | inr b ↦ subst IsPair (sym b) at_r
  ]

  pair_of : (col : Column) (x y : Option Placed) (e : Edge) (v : ℕ) → Contains choice.columns col → col.p ≡ x → col.n ≡ y → IsEdgeOf f x y e → is_end v e ≡ true → IsPair v
  pair_of col (Some x) (Some y) e v there is_x is_y is end =
      one_end v (pair_node (left_net x).0 (left_net y).0) (pair_node (right_net x).0 (right_net y).0) e is end
      (by_fingers col x y (left_net x).0 (left_net y).0 there is_x is_y (left_has x) (left_has y)) (by_fingers col x y (right_net x).0 (right_net y).0 there is_x is_y (right_has x) (right_has y))
  pair_of col (Some x) None e v there is_x none (l, r, l_in, r_in, is) end =
      one_end v (pair_node (left_net x).0 l) (pair_node (right_net x).0 r) e is end
      (by_p col x (left_net x).0 l there is_x none (left_has x) l_in) (by_p col x (right_net x).0 r there is_x none (right_has x) r_in)
  pair_of col None (Some y) e v there none is_y (l, r, l_in, r_in, is) end =
      one_end v (pair_node l (left_net y).0) (pair_node r (right_net y).0) e is end
      (by_n col y l (left_net y).0 there none is_y l_in (left_has y)) (by_n col y r (right_net y).0 there none is_y r_in (right_has y))
  pair_of col None None e v there none none' is end = absurd is

  met_pair : (v : ℕ) → is_met c v ≡ true → IsPair v
  met_pair v m =
      let s : Some' (λ e. is_end v e ≡ true) choice.edges = test_finds (is_end v) choice.edges (list_any-IsPermutation (is_end v) choice.edges c choice.listed ∙ m) in
      let b : Beside (λ (d : Column) (e : Edge). IsEdgeOf f d.p d.n e) choice.columns s.it = beside (λ (d : Column) (e : Edge). IsEdgeOf f d.p d.n e) choice.columns choice.edges s.it choice.filled s.there in
      pair_of b.it b.it.p b.it.n s.it v b.there refl refl b.holds s.holds

  -- the gate can meet it, and its number is below those of all nodes
  pub met_can : (v : ℕ) → is_met c v ≡ true → (can_meet f g v ≡ true) × (v < 256 * f.nets)
  met_can v m =
      let pair : IsPair v = met_pair v m in
      let p_below : pair.p < f.nets = net_below P f.nets f.p pair.p ok.p (omega (arith, within)) pair.p_in in
      let n_below : pair.n < f.nets = net_below N f.nets f.n pair.n ok.n (omega (arith, within)) pair.n_in in
      let high : v / 256 ≡ pair.p = omega (arith, pair.is, n_below, ok.few_nets) in
      let low : v % 256 ≡ pair.n = omega (arith, pair.is, n_below, ok.few_nets) in (
        and_from (may_have f.p f.n g (v / 256)) (may_have f.n f.p g (v % 256)) (ap (may_have f.p f.n g) high ∙ pair.may_p) (ap (may_have f.n f.p g) low ∙ pair.may_n),
        omega (arith, pair.is, p_below, n_below, ok.few_nets),
      )

pub range_has : (m v : ℕ) → v < m → Contains (range_with_len 0 m) v
range_has m v l = let is : get_or (range_with_len 0 m) v v ≡ 0 + v = get_or-range_with_len 0 m v v l in let same : 0 + v ≡ v = omega arith in (v, omega (arith, l, length-range_with_len 0 m), is ∙ same)

pub range_below : (m v : ℕ) → Contains (range_with_len 0 m) v → v < m
range_below m v (k, short, is) = let l : k < m = omega (arith, short, length-range_with_len 0 m) in let at : get_or (range_with_len 0 m) k v ≡ 0 + k = get_or-range_with_len 0 m k v l in omega (arith, l, at, is)

range_differs : (m : ℕ) → AllPairs (λ (a b : ℕ). a ≢ b) (range_with_len 0 m)
range_differs m i j d less short =
    let l : j < m = omega (arith, short, length-range_with_len 0 m) in
    let at_i : get_or (range_with_len 0 m) i d ≡ 0 + i = get_or-range_with_len 0 m i d (omega (arith, less, l)) in
    let at_j : get_or (range_with_len 0 m) j d ≡ 0 + j = get_or-range_with_len 0 m j d l in
    λ e. omega (arith, less, at_i, at_j, e)

-- the nodes below n that pass a test
module _ (p : ℕ → Bool) (n : ℕ) where
  abbrev passing : List ℕ
  passing = filter p (range_with_len 0 n)

  pub nodes_differ : AllPairs (λ (a b : Node). a.0 ≢ b.0) (map node_at passing)
  nodes_differ = pairs_map (λ (a b : ℕ). a ≢ b) (Contains passing) (λ (a b : Node). a.0 ≢ b.0) node_at passing (λ a b _ _ differ. differ) (all_from_contains (Contains passing) passing (λ v k. k)) (AllPairs-filter (λ (a b : ℕ). a ≢ b) p (range_with_len 0 n) (range_differs n))

  pub nodes_have : (v : ℕ) → p v ≡ true → v < n → is_open (map node_at passing) v ≡ true
  nodes_have v e l = test_there (λ (w : Node). w.0 == v) (map node_at passing) (node_at v) (contains_map node_at passing v (passes_to p (range_with_len 0 n) v (range_has n v l) e)) (eq-eqb v v refl)

  pub nodes_are : (v : ℕ) → is_open (map node_at passing) v ≡ true → (p v ≡ true) × (v < n)
  nodes_are v e =
      let s : Some' (λ (w : Node). (w.0 == v) ≡ true) (map node_at passing) = test_finds (λ (w : Node). w.0 == v) (map node_at passing) e in
      let i : Image node_at passing s.it = in_map node_at passing s.it s.there in
      let q : Passes p (range_with_len 0 n) i.of = passes_from p (range_with_len 0 n) i.of i.listed in
      let same : i.of ≡ v = ap (λ (w : Node). w.0) i.is ∙ eqb-true s.it.0 v s.holds in
      (sym (ap p same) ∙ q.passes, omega (arith, sym same, range_below n i.of q.there))

pub open_differ : (f : Fingers) (gates : List NetNo) → AllPairs (λ (a b : Node). a.0 ≢ b.0) (open_nodes f gates)
open_differ f gates = nodes_differ (any_can_meet f gates) (256 * f.nets)

pub open_has : (f : Fingers) (gates : List NetNo) (v : ℕ) → any_can_meet f gates v ≡ true → v < 256 * f.nets → is_open (open_nodes f gates) v ≡ true
open_has f gates v e l = nodes_have (any_can_meet f gates) (256 * f.nets) v e l

pub open_is : (f : Fingers) (gates : List NetNo) (v : ℕ) → is_open (open_nodes f gates) v ≡ true → (any_can_meet f gates v ≡ true) × (v < 256 * f.nets)
open_is f gates v e = nodes_are (any_can_meet f gates) (256 * f.nets) v e
