-- What the code lists: nodes by a set of numbers, nets by a list, and choices once each.
use Rattle.std.proofs.Common.{BTreeSet, ℕ, ◌≡◌, ◌*◌, ◌<◌, ◌==◌, ◌||◌, ◌&&◌, Bool, true, false, if◌then◌else◌, List, [], ◌∷◌, ◌++◌, map, refl, sym, ap, arith, ◌∙◌, inl, inr, All, Contains}
use Rattle.std.specs.BTreeSet.{contains}
use Rattle.std.specs.List.{filter, list_any, range_with_len}
use Rattle.std.specs.Ordering.{nat_cmp}
use Rattle.std.proofs.lemmas.Bool.{and_parts, eq-eqb, eqb-true, or_cases}
use Rattle.std.proofs.lemmas.Bool.Decides.{same_from_decides}
use Rattle.std.proofs.lemmas.List.{map-append}
use Rattle.std.proofs.lemmas.List.Elements.{All-contains, All-filter}
use Rattle.cell_num.specs.declared.finger.Row.{Row}
use Rattle.cell_num.specs.declared.finger.Row.TheVariants.{P, N}
use Rattle.cell_num.specs.declared.finger.Finger.{Finger}
use Rattle.cell_num.specs.declared.finger.Fingers.{Fingers}
use Rattle.cell_num.specs.Fingers.{AreFingers, IsFinger}
use Rattle.cell_num.proofs.Lists.{all_from_contains}
use Rattle.cell_num.proofs.Pairs.{Some', test_finds, test_there}
use Rattle.trail_state.specs.declared.edge.Node.{Node}
use Rattle.trail_state.specs.declared.edge.Edge.{Edge}
use Rattle.trail_state.specs.Choices.{is_on}
use Rattle.trail_state.specs.Nodes.{has_net}
use Rattle.trail_state.specs.Pairings.{HasSmallEnds}
use Rattle.trail_state.specs.Places.{node_at}
use Rattle.trail_state.proofs.Members.{passes_from, passes_to}
use Rattle.trail_state.proofs.Opened.{range_has}
use Rattle.open_gates.specs.declared.choices.Way.{Way}
use Rattle.open_gates.specs.declared.gates.OpenGates.{OpenGates}
use Rattle.open_gates.specs.Equal.{same_way}
use Rattle.open_gates.specs.Listed.{edges_of, is_listed, nets_merged, with_way}
use Rattle.open_gates.specs.Merged.{is_merged_from, merged_choices, merged_nodes, same_choice, with_choice}
use Rattle.open_gates.specs.Open.{fingers_at, is_left_open, is_merged_net}

-- ---- nodes

pub set_nodes : (row : Row) (nets : ℕ → Bool) (most : ℕ) (nodes : List Node) (all : BTreeSet ℕ) → ((v : ℕ) → contains nat_cmp all v ≡ is_merged_from row nets nodes v) → map node_at (filter (contains nat_cmp all) (range_with_len 0 most)) ≡ merged_nodes row nets most nodes
set_nodes row nets most nodes all same = λ i. map node_at (filter (λ v. same v i) (range_with_len 0 most))

-- ---- nets

pub finger_in : (row : Row) (f : Fingers) (x : Finger) → AreFingers f → Contains (fingers_at row f) x → (x.lo.0 < f.nets) × (x.hi.0 < f.nets)
finger_in P f x ok there = let is : IsFinger P f.nets x = All-contains (IsFinger P f.nets) f.p x ok.p there in (omega (arith, is.order, is.ends), is.ends)
finger_in N f x ok there = let is : IsFinger N f.nets x = All-contains (IsFinger N f.nets) f.n x ok.n there in (omega (arith, is.order, is.ends), is.ends)

net_less : (f : Fingers) (opened : OpenGates) (net : ℕ) → AreFingers f → is_merged_net f opened net ≡ true → net < f.nets
net_less f opened net ok is =
    let s : Some' (λ (x : Finger). (is_left_open opened x.gate.0 && has_net net x) ≡ true) (fingers_at opened.row f) = test_finds (λ (x : Finger). is_left_open opened x.gate.0 && has_net net x) (fingers_at opened.row f) is in
    let ends : (s.it.lo.0 < f.nets) × (s.it.hi.0 < f.nets) = finger_in opened.row f s.it ok s.there in
    elim (or_cases (s.it.lo.0 == net) (s.it.hi.0 == net) (and_parts (is_left_open opened s.it.gate.0) (has_net net s.it) s.holds).1) [
      | inl lo ↦ omega (arith, ends.0, eqb-true s.it.lo.0 net lo)
      | inr hi ↦ omega (arith, ends.1, eqb-true s.it.hi.0 net hi)
    ]

pub listed_is : (f : Fingers) (opened : OpenGates) → AreFingers f → (net : ℕ) → is_listed (nets_merged f opened) net ≡ is_merged_net f opened net
listed_is f opened ok net = same_from_decides {P = is_merged_net f opened net ≡ true} (is_listed (nets_merged f opened) net) (is_merged_net f opened net) (found, listed) ((λ h. h), (λ h. h))
  where
    found : is_listed (nets_merged f opened) net ≡ true → is_merged_net f opened net ≡ true
    found h =
        let s : Some' (λ m. (m == net) ≡ true) (nets_merged f opened) = test_finds (λ m. m == net) (nets_merged f opened) h in
        ap (is_merged_net f opened) (sym (eqb-true s.it net s.holds)) ∙ (passes_from (is_merged_net f opened) (range_with_len 0 f.nets) s.it s.there).passes

    listed : is_merged_net f opened net ≡ true → is_listed (nets_merged f opened) net ≡ true
    listed h = test_there (λ m. m == net) (nets_merged f opened) net (passes_to (is_merged_net f opened) (range_with_len 0 f.nets) net (range_has f.nets net (net_less f opened net ok h)) h) (eq-eqb net net refl)

pub tests_same : (f : Fingers) (opened : OpenGates) (nets : List ℕ) → AreFingers f → nets ≡ nets_merged f opened → is_listed nets ≡ is_merged_net f opened
tests_same f opened nets ok is = ap is_listed is ∙ λ i net. listed_is f opened ok net i

pub nodes_same : (f : Fingers) (opened : OpenGates) (nets : List ℕ) (nodes : List Node) → AreFingers f → nets ≡ nets_merged f opened → merged_nodes opened.row (is_listed nets) (256 * f.nets) nodes ≡ merged_nodes opened.row (is_merged_net f opened) (256 * f.nets) nodes
nodes_same f opened nets nodes ok is = ap (λ test. merged_nodes opened.row test (256 * f.nets) nodes) (tests_same f opened nets ok is)

-- ---- choices

small_in : (row : Row) (f : Fingers) → AreFingers f → All HasSmallEnds (fingers_at row f)
small_in row f ok = all_from_contains HasSmallEnds (fingers_at row f) (λ x there. let ends : (x.lo.0 < f.nets) × (x.hi.0 < f.nets) = finger_in row f x ok there in (omega (arith, ends.0, ok.few_nets), omega (arith, ends.1, ok.few_nets)))

pub small_on : (row : Row) (f : Fingers) (gate : ℕ) → AreFingers f → All HasSmallEnds (filter (is_on gate) (fingers_at row f))
small_on row f gate ok = All-filter (is_on gate) HasSmallEnds (fingers_at row f) (small_in row f ok)

known_way : (ways : List Way) (w : Way) → list_any (same_way w) ways ≡ list_any (same_choice w.edges) (edges_of ways)
known_way [] w = refl
known_way (v ∷ ways) w = ap (λ b. same_choice w.edges v.edges || b) (known_way ways w)

pub edges_added : (ways : List Way) (w : Way) → edges_of (with_way ways w) ≡ with_choice (edges_of ways) w.edges
edges_added ways w = at (list_any (same_way w) ways) ∙ ap (λ b. if b then edges_of ways else edges_of ways ++ w.edges ∷ []) (known_way ways w)
  where
    at : (b : Bool) → edges_of (if b then ways else ways ++ w ∷ []) ≡ (if b then edges_of ways else edges_of ways ++ w.edges ∷ [])
    at true = refl
    at false = map-append (λ (v : Way). v.edges) ways (w ∷ [])

pub choices_same : (f : Fingers) (opened : OpenGates) (nets : List ℕ) (choices : List (List Edge)) → AreFingers f → nets ≡ nets_merged f opened → merged_choices opened.row (is_listed nets) choices ≡ merged_choices opened.row (is_merged_net f opened) choices
choices_same f opened nets choices ok is = ap (λ test. merged_choices opened.row test choices) (tests_same f opened nets ok is)
