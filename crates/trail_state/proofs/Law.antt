-- The law: a row has two ends of trails for each stretch without a gap, and no row has fewer ends than its choices come
-- to.
use Rattle.std.proofs.Common.{ℕ, zero, suc, ◌≡◌, ◌+◌, ◌-◌, ◌*◌, ◌<◌, ◌≤◌, ◌==◌, Bool, true, false, cond, List, [], ◌∷◌, ◌++◌, length, drop, append-nil, Option, Some, None, option_map, map, refl, sym, ap, subst, arith, ◌∙◌, inl, inr, All, Contains, IsPermutation}
use Rattle.std.specs.List.{AllZip, filter, list_any, range_with_len, zip}
use Rattle.std.proofs.lemmas.Bool.{cases_Bool, cases_lt, eq-eqb, eqb-true, or_left, or_right}
use Rattle.std.proofs.lemmas.List.{drop_all}
use Rattle.std.proofs.lemmas.Slice.Zip.{AllZip-long}
use Rattle.std.proofs.lemmas.List.Elements.{All-cons, All-contains, All-head, All-nil, All-tail}
use Rattle.std.proofs.lemmas.List.Sorted.{Contains-permutation, IsPermutation-map, IsPermutation-sym}
use Rattle.cell_num.specs.declared.net.NetNo.{NetNo}
use Rattle.cell_num.specs.declared.finger.Row.{Row}
use Rattle.cell_num.specs.declared.finger.Row.TheVariants.{P, N}
use Rattle.cell_num.specs.declared.finger.Finger.{Finger}
use Rattle.cell_num.specs.declared.finger.Fingers.{Fingers}
use Rattle.cell_num.specs.Fingers.{AreFingers, IsFinger, on_gate}
use Rattle.cell_num.proofs.In.{contains_map}
use Rattle.cell_num.proofs.Lists.{all_from_contains, contains_filter_map, contains_here, contains_there}
use Rattle.cell_num.proofs.Pairs.{count_there}
use Rattle.cell_num.proofs.Permutations.{count_cons}
use Rattle.row_model.specs.declared.column.Placed.{Placed}
use Rattle.row_model.specs.declared.column.Column.{Column}
use Rattle.row_model.specs.Arrangement.{AreOneColumn, IsArrangement, IsColumn, fingers_in, place}
use Rattle.row_model.specs.Gaps.{gaps_of, left_net, right_net}
use Rattle.row_state.specs.Order.{gate_key}
use Rattle.trail_state.specs.declared.edge.Node.{Node}
use Rattle.trail_state.specs.declared.edge.Edge.{Edge}
use Rattle.trail_state.specs.declared.state.Place.{Place}
use Rattle.trail_state.specs.Places.{is_met, node_at}
use Rattle.trail_state.specs.Settling.{ends_after, is_open, state_after}
use Rattle.trail_state.specs.declared.level.Level.{Level}
use Rattle.trail_state.proofs.Along.{AreBelow, AreNodes, AreOpen, all_added, along_settled, ends_along, settled_least, start_follows}
use Rattle.trail_state.specs.Choices.{AreEdgesOf, IsChoice, is_on}
use Rattle.trail_state.proofs.Chosen.{Drawn, IsChosen, IsDrawn, IsOf, all_chosen, column_at, edge_at}
use Rattle.trail_state.proofs.Counted.{settled}
use Rattle.trail_state.proofs.Filling.{HasNets, HaveNets, filled, filled_below, filled_breaks, filled_edges}
use Rattle.trail_state.proofs.Grouped.{gate_at}
use Rattle.trail_state.specs.Levels.{AreLevels, Ends, IsGate, IsOrder}
use Rattle.trail_state.proofs.Links.{finger_of, fingers_of}
use Rattle.trail_state.specs.Nodes.{any_can_meet, can_meet, is_net_in, open_nodes}
use Rattle.trail_state.proofs.Opened.{in_net, left_has, met_can, net_small, open_differ, open_has, open_is, right_has}
use Rattle.trail_state.proofs.Picked.{Pick, Picked, pick}
use Rattle.trail_state.proofs.Walks.{Walk, breaks_of, edges_of}

-- a gate of a finger is a net
gate_below : (r : Row) (nets g : ℕ) (fs : List Finger) → All (IsFinger r nets) fs → 0 < on_gate g fs → g < nets
gate_below r nets g [] all some = absurd (omega (arith, some))
gate_below r nets g (x ∷ xs) all some =
    let f : IsFinger r nets x = All-head (IsFinger r nets) x xs all in
    elim (cases_Bool (is_on g x)) [
      | inl on ↦ omega (arith, f.gate, eqb-true x.gate.0 g on)
      | inr off ↦
          let none : ◌≡◌ {A = ℕ} (cond (is_on g x) 1 0) 0 = rw off refl in
          gate_below r nets g xs (All-tail (IsFinger r nets) x xs all) (omega (arith, some, none, count_cons (is_on g) x xs))
    ]

pub is_net_gate : (f : Fingers) (g : ℕ) → AreFingers f → IsGate f g → g < f.nets
is_net_gate f g ok some = elim (cases_lt 0 (on_gate g f.p)) [
  | inl p ↦ gate_below P f.nets g f.p ok.p p
  | inr none ↦ gate_below N f.nets g f.n ok.n (omega (arith, some, none))
]

-- some net of a row
some_net : (fs : List Finger) → (v : ℕ) × (is_net_in fs v ≡ true)
some_net [] = (0, refl)
some_net (x ∷ xs) = (x.lo.0, in_net (x ∷ xs) x.lo.0 x (contains_here x xs) (or_left (x.lo.0 == x.lo.0) (x.hi.0 == x.lo.0) (eq-eqb x.lo.0 x.lo.0 refl)))

pub zip_columns : (f : Fingers) (row : List Column) (es : List Edge) → AreEdgesOf f row es → map column_at (zip row es) ≡ row
zip_columns f [] [] h = refl
zip_columns f [] (e ∷ es) h = absurd h
zip_columns f (c ∷ cs) [] h = absurd h
zip_columns f (c ∷ cs) (e ∷ es) h = ap (λ l. c ∷ l) (zip_columns f cs es h.1)

pub zip_edges : (f : Fingers) (row : List Column) (es : List Edge) → AreEdgesOf f row es → map edge_at (zip row es) ≡ es
zip_edges f [] [] h = refl
zip_edges f [] (e ∷ es) h = absurd h
zip_edges f (c ∷ cs) [] h = absurd h
zip_edges f (c ∷ cs) (e ∷ es) h = ap (λ l. e ∷ l) (zip_edges f cs es h.1)

pub zip_drawn : (f : Fingers) (row : List Column) (es : List Edge) → AreEdgesOf f row es → All (IsDrawn f) (zip row es)
zip_drawn f [] [] h = All-nil (IsDrawn f)
zip_drawn f [] (e ∷ es) h = absurd h
zip_drawn f (c ∷ cs) [] h = absurd h
zip_drawn f (c ∷ cs) (e ∷ es) h = All-cons (IsDrawn f) (c, e) (zip cs es) h.0 (zip_drawn f cs es h.1)

have_nets : (f : Fingers) (cs : List Column) → ((c : Column) → Contains cs c → HasNets f.p c.p × HasNets f.n c.n) → HaveNets f cs
have_nets f [] h = tt
have_nets f (c ∷ cs) h = ((h c (contains_here c cs)).0, (h c (contains_here c cs)).1, have_nets f cs (λ d k. h d (contains_there c cs d k)))

pub drop_next : (i : ℕ) (order : List NetNo) (g : NetNo) (gs : List NetNo) → drop i order ≡ g ∷ gs → drop (suc i) order ≡ gs
drop_next zero [] g gs e = absurd cc
drop_next zero (x ∷ xs) g gs e = cc
drop_next (suc i) [] g gs e = absurd cc
drop_next (suc i) (x ∷ xs) g gs e = drop_next i xs g gs e

pub any_later : (p : NetNo → Bool) (i : ℕ) (order : List NetNo) → list_any p (drop (suc i) order) ≡ true → list_any p (drop i order) ≡ true
any_later p zero [] e = e
any_later p zero (x ∷ xs) e = or_right (p x) (list_any p xs) e
any_later p (suc i) [] e = e
any_later p (suc i) (x ∷ xs) e = any_later p i xs e

filter_none : (xs : List ℕ) → filter (λ v. false) xs ≡ []
filter_none [] = refl
filter_none (x ∷ xs) = filter_none xs

-- nodes below n
module _ (n : ℕ) (big : 65536 ≤ n) (f : Fingers) (ok : AreFingers f) (order : List NetNo) (is_order : IsOrder f order) where
  abbrev pub opens : ℕ → List Node
  opens i = open_nodes f (drop i order)

  pub nodes : AreNodes n opens
  nodes = record {
    differ = λ i. open_differ f (drop i order);
    fewer = λ i v e. let later : (any_can_meet f (drop (suc i) order) v ≡ true) × (v < 256 * f.nets) = open_is f (drop (suc i) order) v e in open_has f (drop i order) v (any_later (λ (g : NetNo). can_meet f g.0 v) i order later.0) later.1;
    below = λ i v e. omega (arith, (open_is f (drop i order) v e).1, ok.few_nets, big);
  }

  pub no_nodes : open_nodes f [] ≡ []
  no_nodes = ap (map node_at) (filter_none (range_with_len 0 (256 * f.nets)))

  -- ends that every list of choices comes to are those of any such list
  pub ends_true : (ls : List Level) (gs : List NetNo) (i : ℕ) (s : List Place) (k : ℕ) (cs : List (List Edge)) → AreLevels f gs ls → drop i order ≡ gs → AllZip (λ (l : Level) (c : List Edge). Contains l.choices c) ls cs → Ends ls s k → k ≤ ends_along n opens i s cs
  ends_true [] gs i s k [] levels at listed h = omega (arith, h)
  ends_true [] gs i s k (c ∷ cs) levels at listed h = absurd listed
  ends_true (l ∷ ls) gs i s k [] levels at listed h = absurd listed
  ends_true (l ∷ ls) [] i s k (c ∷ cs) levels at listed h = absurd levels
  ends_true (l ∷ ls) (g ∷ gs) i s k (c ∷ cs) levels at listed h =
      let next : drop (suc i) order ≡ gs = drop_next i order g gs at in
      let now_is : l.now ≡ opens i = levels.0.now ∙ ap (open_nodes f) (sym at) in
      let next_is : l.next ≡ opens (suc i) = levels.0.next ∙ ap (open_nodes f) (sym next) in
      let state : state_after l.now l.next s c ≡ state_after (opens i) (opens (suc i)) s c = ap (λ w. state_after w l.next s c) now_is ∙ ap (λ w. state_after (opens i) w s c) next_is in
      let ends : ends_after l.now l.next s c ≡ ends_after (opens i) (opens (suc i)) s c = ap (λ w. ends_after w l.next s c) now_is ∙ ap (λ w. ends_after (opens i) w s c) next_is in
      let rest : k - ends_after l.now l.next s c ≤ ends_along n opens (suc i) (state_after l.now l.next s c) cs = ends_true ls gs (suc i) (state_after l.now l.next s c) (k - ends_after l.now l.next s c) cs levels.1 next listed.1 (h c listed.0) in
      let moved : ends_along n opens (suc i) (state_after l.now l.next s c) cs ≡ ends_along n opens (suc i) (state_after (opens i) (opens (suc i)) s c) cs = ap (λ t. ends_along n opens (suc i) t cs) state in
      omega (arith, rest, moved, ends)

  module _ (row : List Column) (arranges : IsArrangement row f) where
    p_there : (c : Column) (x : Placed) → Contains row c → c.p ≡ Some x → Contains f.p x.finger
    p_there c x there is = Contains-permutation (fingers_in P row) f.p x.finger (IsPermutation-sym f.p (fingers_in P row) arranges.p) (contains_filter_map (λ (d : Column). option_map (λ (y : Placed). y.finger) (place P d)) row c x.finger there (ap (option_map (λ (y : Placed). y.finger)) is))

    n_there : (c : Column) (x : Placed) → Contains row c → c.n ≡ Some x → Contains f.n x.finger
    n_there c x there is = Contains-permutation (fingers_in N row) f.n x.finger (IsPermutation-sym f.n (fingers_in N row) arranges.n) (contains_filter_map (λ (d : Column). option_map (λ (y : Placed). y.finger) (place N d)) row c x.finger there (ap (option_map (λ (y : Placed). y.finger)) is))

    p_nets : (c : Column) (o : Option Placed) → Contains row c → c.p ≡ o → HasNets f.p o
    p_nets c None there is = tt
    p_nets c (Some x) there is = (in_net f.p (left_net x).0 x.finger (p_there c x there is) (left_has x), in_net f.p (right_net x).0 x.finger (p_there c x there is) (right_has x))

    n_nets : (c : Column) (o : Option Placed) → Contains row c → c.n ≡ o → HasNets f.n o
    n_nets c None there is = tt
    n_nets c (Some x) there is = (in_net f.n (left_net x).0 x.finger (n_there c x there is) (left_has x), in_net f.n (right_net x).0 x.finger (n_there c x there is) (right_has x))

    -- the gate of a column is one of a finger
    gate_of : (c : Column) (x y : Option Placed) → Contains row c → c.p ≡ x → c.n ≡ y → AreOneColumn x y → IsGate f (gate_key x y)
    gate_of c (Some x) y there is_x is_y one = omega (arith, count_there (is_on x.finger.gate.0) f.p x.finger (p_there c x there is_x) (eq-eqb x.finger.gate.0 x.finger.gate.0 refl))
    gate_of c None (Some y) there is_x is_y one = omega (arith, count_there (is_on y.finger.gate.0) f.n y.finger (n_there c y there is_y) (eq-eqb y.finger.gate.0 y.finger.gate.0 refl))
    gate_of c None None there is_x is_y one = absurd one

    column_gate : (c : Column) → Contains row c → IsGate f (gate_at c)
    column_gate c there = gate_of c c.p c.n there refl refl (All-contains IsColumn row c arranges.columns there)

    gates_below : All (λ (c : Column). gate_at c < f.nets) row
    gates_below = all_from_contains (λ (c : Column). gate_at c < f.nets) row (λ c there. is_net_gate f (gate_at c) ok (column_gate c there))

    p_first : ℕ
    p_first = (some_net f.p).0

    n_first : ℕ
    n_first = (some_net f.n).0

    p_first_in : is_net_in f.p p_first ≡ true
    unfolding p_first
    p_first_in = (some_net f.p).1

    n_first_in : is_net_in f.n n_first ≡ true
    unfolding n_first
    n_first_in = (some_net f.n).1

    abbrev walk : Walk
    walk = filled p_first n_first row

    abbrev zs : List Drawn
    zs = zip row (edges_of walk)

    nets : HaveNets f row
    nets = have_nets f row (λ c there. (p_nets c c.p there refl, n_nets c c.n there refl))

    edges : AreEdgesOf f row (edges_of walk)
    edges = filled_edges f p_first n_first row arranges.columns nets p_first_in n_first_in

    walk_below : AreBelow n walk
    walk_below = filled_below n big f p_first n_first row (λ v e. net_small P f.nets f.p v ok.p ok.few_nets e) (λ v e. net_small N f.nets f.n v ok.n ok.few_nets e) nets p_first_in n_first_in

    -- one choice of each gate
    record Picks (gs : List NetNo) : Type 0 where
      pub cs : List (List Edge)
      pub each : AllZip (Picked f zs) gs cs

    picks : (gs : List NetNo) → All (λ (g : NetNo). IsGate f g.0) gs → Picks gs
    picks [] gates = record { cs = []; each = tt }
    picks (g ∷ gs) gates =
        let rest : Picks gs = picks gs (All-tail (λ (h : NetNo). IsGate f h.0) g gs gates) in
        let mine : Pick f zs g = pick f row zs g ok arranges gates_below (zip_columns f row (edges_of walk) edges) (zip_drawn f row (edges_of walk) edges) (is_net_gate f g.0 ok (All-head (λ (h : NetNo). IsGate f h.0) g gs gates)) in
        record { cs = mine.it ∷ rest.cs; each = (mine.picked, rest.each) }

    all_listed : (gs : List NetNo) (ls : List Level) (cs : List (List Edge)) → AreLevels f gs ls → AllZip (Picked f zs) gs cs → AllZip (λ (l : Level) (c : List Edge). Contains l.choices c) ls cs
    all_listed [] [] [] levels each = tt
    all_listed [] (l ∷ ls) cs levels each = absurd levels
    all_listed [] [] (c ∷ cs) levels each = absurd each
    all_listed (g ∷ gs) [] cs levels each = absurd levels
    all_listed (g ∷ gs) (l ∷ ls) [] levels each = absurd each
    all_listed (g ∷ gs) (l ∷ ls) (c ∷ cs) levels each = (subst (λ all. Contains all c) (sym levels.0.choices) each.0.there, all_listed gs ls cs levels.1 each.1)

    can_open : (g : NetNo) (gs : List NetNo) (i v : ℕ) → drop i order ≡ g ∷ gs → (can_meet f g.0 v ≡ true) × (v < 256 * f.nets) → is_open (opens i) v ≡ true
    can_open g gs i v at can = open_has f (drop i order) v (ap (λ hs. any_can_meet f hs v) at ∙ or_left (can_meet f g.0 v) (any_can_meet f gs v) can.0) can.1

    all_open : (gs : List NetNo) (i : ℕ) (cs : List (List Edge)) → All (λ (g : NetNo). IsGate f g.0) gs → drop i order ≡ gs → AllZip (Picked f zs) gs cs → AreOpen n opens i cs
    all_open [] i [] gates at each = tt
    all_open [] i (c ∷ cs) gates at each = absurd each
    all_open (g ∷ gs) i [] gates at each = absurd each
    all_open (g ∷ gs) i (c ∷ cs) gates at each =
        let gate : IsGate f g.0 = All-head (λ (h : NetNo). IsGate f h.0) g gs gates in
        let free : (v : ℕ) → is_met c v ≡ true → is_open (opens i) v ≡ true = λ v m. can_open g gs i v at (met_can f g.0 ok (is_net_gate f g.0 ok gate) c each.0.choice v m) in
        (free, all_open gs (suc i) cs (All-tail (λ (h : NetNo). IsGate f h.0) g gs gates) (drop_next i order g gs at) each.1)

    all_chosen_of : (gs : List NetNo) (cs : List (List Edge)) → AllZip (Picked f zs) gs cs → AllZip (IsChosen zs) gs cs
    all_chosen_of [] [] each = tt
    all_chosen_of [] (c ∷ cs) each = absurd each
    all_chosen_of (g ∷ gs) [] each = absurd each
    all_chosen_of (g ∷ gs) (c ∷ cs) each = (each.0.chosen, all_chosen_of gs cs each.1)

    all_of : All (IsOf order) zs
    all_of = all_from_contains (IsOf order) zs (λ z k. let gate : IsGate f (gate_at z.0) = column_gate z.0 (subst (λ l. Contains l z.0) (zip_columns f row (edges_of walk) edges) (contains_map column_at zs z k)) in (record { 0 = gate_at z.0 }, is_order.all_gates (record { 0 = gate_at z.0 }) gate, refl))

    all_picks : Picks order
    all_picks = picks order is_order.gates

    chosen_edges : (cs : List (List Edge)) → AllZip (Picked f zs) order cs → IsPermutation (edges_of walk) (all_added [] cs)
    chosen_edges cs each =
        let all : IsPermutation (map edge_at zs ++ []) (all_added [] cs) = all_chosen order zs [] cs is_order.once all_of (all_chosen_of order cs each) in
        subst (λ l. IsPermutation l (all_added [] cs)) (append-nil (map edge_at zs) ∙ zip_edges f row (edges_of walk) edges) all

    same_edges : (cs : List (List Edge)) → AllZip (Picked f zs) order cs → IsPermutation (fingers_of (all_added [] cs)) (fingers_of (edges_of walk))
    same_edges cs each = IsPermutation-map finger_of (all_added [] cs) (edges_of walk) (IsPermutation-sym (edges_of walk) (all_added [] cs) (chosen_edges cs each))

    row_ends : (cs : List (List Edge)) → AllZip (Picked f zs) order cs → ends_along n opens 0 [] cs ≤ 2 * (gaps_of row + 1)
    row_ends cs each =
        let all : settled n [] (opens 0) + ends_along n opens 0 [] cs ≤ settled n (all_added [] cs) (opens (length cs + 0)) = along_settled n opens nodes cs 0 [] [] (start_follows (opens 0)) (all_open order 0 cs is_order.gates refl each) in
        let count : length cs ≡ length order = AllZip-long (Picked f zs) order cs each in
        let last : opens (length cs + 0) ≡ [] = ap (open_nodes f) (drop_all (length cs + 0) order (omega (arith, count))) ∙ no_nodes in
        let end : settled n (all_added [] cs) (opens (length cs + 0)) ≡ settled n (all_added [] cs) [] = ap (λ v. settled n (all_added [] cs) v) last in
        omega (arith, all, end, settled_least n (all_added [] cs) walk walk_below (same_edges cs each), filled_breaks p_first n_first row)

    row_law : (ls : List Level) (k : ℕ) → AreLevels f order ls → Ends ls [] k → k ≤ 2 * (gaps_of row + 1)
    row_law ls k levels h =
        let p : Picks order = all_picks in
        omega (arith, ends_true ls order 0 [] k p.cs levels refl (all_listed order ls p.cs levels p.each) h, row_ends p.cs p.each)

  row_least : (ls : List Level) (k : ℕ) → AreLevels f order ls → Ends ls [] k → (row : List Column) → IsArrangement row f → k ≤ 2 * (gaps_of row + 1)
  row_least ls k levels h row arranges = row_law row arranges ls k levels h

pub levels_law : (f : Fingers) → AreFingers f → (order : List NetNo) → IsOrder f order → (ls : List Level) (k : ℕ) → AreLevels f order ls → Ends ls [] k → (row : List Column) → IsArrangement row f → k ≤ 2 * (gaps_of row + 1)
levels_law f ok order is_order ls k levels h row arranges = row_least 65536 (omega arith) f ok order is_order ls k levels h row arranges

-- a walk through a row, with one choice of each gate that has its edges
pub record OfRow (f : Fingers) (order : List NetNo) (row : List Column) : Type 0 where
  pub walk : Walk
  pub few : breaks_of walk ≤ gaps_of row
  pub below : AreBelow 65536 walk
  pub choices : List (List Edge)
  pub each : AllZip (λ (g : NetNo) (c : List Edge). IsChoice f g.0 c) order choices
  pub same : IsPermutation (edges_of walk) (all_added [] choices)

all_choice : (f : Fingers) (zs : List Drawn) (gs : List NetNo) (cs : List (List Edge)) → AllZip (Picked f zs) gs cs → AllZip (λ (g : NetNo) (c : List Edge). IsChoice f g.0 c) gs cs
all_choice f zs [] [] each = tt
all_choice f zs [] (c ∷ cs) each = absurd each
all_choice f zs (g ∷ gs) [] each = absurd each
all_choice f zs (g ∷ gs) (c ∷ cs) each = (each.0.choice, all_choice f zs gs cs each.1)

pub of_row : (f : Fingers) → AreFingers f → (order : List NetNo) → IsOrder f order → (row : List Column) → IsArrangement row f → OfRow f order row
of_row f ok order is_order row arranges =
    let big : 65536 ≤ 65536 = omega arith in
    let p : Picks 65536 big f ok order is_order row arranges order = all_picks 65536 big f ok order is_order row arranges in
    record {
      walk = walk 65536 big f ok order is_order row arranges;
      few = filled_breaks (p_first 65536 big f ok order is_order row arranges) (n_first 65536 big f ok order is_order row arranges) row;
      below = walk_below 65536 big f ok order is_order row arranges;
      choices = p.cs;
      each = all_choice f (zs 65536 big f ok order is_order row arranges) order p.cs p.each;
      same = chosen_edges 65536 big f ok order is_order row arranges p.cs p.each;
    }
