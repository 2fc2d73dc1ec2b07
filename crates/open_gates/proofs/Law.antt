-- The law: no row has fewer ends than its choices result in, where gates are left open and nodes are merged.
use Rattle.std.proofs.Common.{ℕ, suc, ◌≡◌, ◌+◌, ◌-◌, ◌*◌, ◌<◌, ◌≤◌, ◌==◌, ◌&&◌, Bool, true, if◌then◌else◌, List, [], ◌∷◌, length, drop, map, refl, sym, ap, subst, arith, ◌∙◌, inl, inr, All, Contains, IsPermutation}
use Rattle.std.specs.List.{AllZip, filter, range_with_len}
use Rattle.std.proofs.lemmas.Bool.{and_from, cases_Bool, eq-eqb, eqb-true, or_left, or_right}
use Rattle.std.proofs.lemmas.List.{drop_all}
use Rattle.std.proofs.lemmas.Slice.Zip.{AllZip-long}
use Rattle.std.proofs.lemmas.List.Elements.{All-contains, All-head, All-tail}
use Rattle.std.proofs.lemmas.List.Sorted.{IsPermutation-map, IsPermutation-refl, IsPermutation-sym, IsPermutation-trans, list_any-IsPermutation}
use Rattle.cell_num.specs.declared.net.NetNo.{NetNo}
use Rattle.cell_num.specs.declared.finger.Row.{Row}
use Rattle.cell_num.specs.declared.finger.Finger.{Finger}
use Rattle.cell_num.specs.declared.finger.Fingers.{Fingers}
use Rattle.cell_num.specs.Fingers.{AreFingers, on_gate}
use Rattle.cell_num.proofs.In.{Image, contains_map, in_map}
use Rattle.cell_num.proofs.Lists.{contains_here}
use Rattle.cell_num.proofs.Pairs.{Some', test_finds, test_there}
use Rattle.row_model.specs.declared.column.Column.{Column}
use Rattle.row_model.specs.Arrangement.{IsArrangement}
use Rattle.row_model.specs.Gaps.{gaps_of}
use Rattle.trail_state.specs.declared.edge.Node.{Node}
use Rattle.trail_state.specs.declared.edge.Edge.{Edge}
use Rattle.trail_state.specs.declared.state.Place.{Place}
use Rattle.trail_state.specs.Choices.{HasChoice, IsChoice, is_on}
use Rattle.trail_state.specs.Edges.{edge_between}
use Rattle.trail_state.specs.Levels.{Ends, IsGate, IsOrder}
use Rattle.trail_state.specs.Nodes.{any_can_meet, can_meet, has_net, open_nodes}
use Rattle.trail_state.specs.Pairings.{choices_of}
use Rattle.trail_state.specs.Places.{is_end, is_met, node_at}
use Rattle.trail_state.specs.Settling.{ends_after, is_open, state_after}
use Rattle.trail_state.proofs.Along.{AreNodes, AreOpen, all_added, along_settled, ends_along, settled_least, start_follows}
use Rattle.trail_state.proofs.Built.{all_choices}
use Rattle.trail_state.proofs.Counted.{settled}
use Rattle.trail_state.proofs.Law.{OfRow, any_later, drop_next, is_net_gate, levels_law, of_row}
use Rattle.trail_state.proofs.Links.{finger_of, fingers_of}
use Rattle.trail_state.proofs.Opened.{end_of, met_can, nodes_are, nodes_differ, nodes_have, open_has, open_is}
use Rattle.trail_state.proofs.Unions.{no_gates}
use Rattle.trail_state.proofs.Walks.{Walk, breaks_of, edges_of}
use Rattle.open_gates.specs.declared.gates.OpenGates.{OpenGates}
use Rattle.open_gates.specs.Leveled.{choices_in, levels_in, levels_of, merged_levels, nodes_in, open_choice}
use Rattle.open_gates.specs.Merged.{is_merged_from, merged, merged_choice, merged_choices, merged_edge}
use Rattle.open_gates.specs.Open.{AreOpenGates, HasMore, fingers_at, fingers_beside, is_left_open, is_merged_net}
use Rattle.open_gates.proofs.Filled.{one_choice}
use Rattle.open_gates.proofs.Leveled.{levels_are}
use Rattle.open_gates.proofs.Merging.{merged_low}
use Rattle.open_gates.proofs.Sorting.{in_order_permutes, once_there}
use Rattle.open_gates.proofs.Walked.{all_added_map, all_added_same, fewer_breaks, merged_below, merged_edges, merged_walk}

-- an edge with merged ends meets merged nodes of its own alone
record MetBy (row : Row) (nets : ℕ → Bool) (c : List Edge) (v : ℕ) : Type 0 where
  pub node : ℕ
  pub met : is_met c node ≡ true
  pub is : merged row nets node ≡ v

met_by : (row : Row) (nets : ℕ → Bool) (c : List Edge) (v : ℕ) → is_met (map (merged_edge row nets) c) v ≡ true → MetBy row nets c v
met_by row nets c v m =
    let s : Some' (λ e. is_end v e ≡ true) (map (merged_edge row nets) c) = test_finds (is_end v) (map (merged_edge row nets) c) m in
    let i : Image (merged_edge row nets) c s.it = in_map (merged_edge row nets) c s.it s.there in
    let ends : is_end v (edge_between (merged row nets i.of.a.0) (merged row nets i.of.b.0)) ≡ true = ap (is_end v) i.is ∙ s.holds in
    elim (end_of v (merged row nets i.of.a.0) (merged row nets i.of.b.0) ends) [
      | inl a ↦ record { node = i.of.a.0; met = test_there (is_end i.of.a.0) c i.of i.listed (or_left (i.of.a.0 == i.of.a.0) (i.of.b.0 == i.of.a.0) (eq-eqb i.of.a.0 i.of.a.0 refl)); is = sym a }
      | inr b ↦ record { node = i.of.b.0; met = test_there (is_end i.of.b.0) c i.of i.listed (or_right (i.of.a.0 == i.of.b.0) (i.of.b.0 == i.of.b.0) (eq-eqb i.of.b.0 i.of.b.0 refl)); is = sym b }
    ]

-- no gate is left, and no node
pub none_merged : (f : Fingers) (opened : OpenGates) → nodes_in f opened [] ≡ []
none_merged f opened = ap (λ all. map node_at (filter (is_merged_from opened.row (is_merged_net f opened) all) (range_with_len 0 (256 * f.nets)))) (no_gates f) ∙ no_gates f

all_dropped : (m n : ℕ) → m ≡ n → n ≤ m + 0
all_dropped m n same = omega (arith, same)

at_most : (a b c : ℕ) → a ≤ b → b ≤ c → a ≤ c
at_most a b c h k = omega (arith, h, k)

-- ends that are settled are those of a walk with few breaks
within : (first ends last all fewer breaks gaps : ℕ) → first + ends ≤ last → last ≡ all → all ≤ 2 * (fewer + 1) → fewer ≤ breaks → breaks ≤ gaps → ends ≤ 2 * (gaps + 1)
within first ends last all fewer breaks gaps settles same least merges few = omega (arith, settles, same, least, merges, few)

module _ (f : Fingers) (ok : AreFingers f) (opened : OpenGates) (are : AreOpenGates f opened) (order : List NetNo) (is_order : IsOrder f order) where
  abbrev n : ℕ
  n = 65536

  abbrev nets : ℕ → Bool
  nets = is_merged_net f opened

  abbrev node : ℕ → ℕ
  node v = merged opened.row nets v

  abbrev edge : Edge → Edge
  edge e = merged_edge opened.row nets e

  abbrev opens : ℕ → List Node
  opens i = nodes_in f opened (drop i order)

  -- a node of some gates, merged
  merged_open : (gates : List NetNo) (v : ℕ) → any_can_meet f gates v ≡ true → v < 256 * f.nets → is_open (nodes_in f opened gates) (node v) ≡ true
  merged_open gates v can less =
      let s : Some' (λ (w : Node). (w.0 == v) ≡ true) (open_nodes f gates) = test_finds (λ (w : Node). w.0 == v) (open_nodes f gates) (open_has f gates v can less) in
      let same : node s.it.0 ≡ node v = ap node (eqb-true s.it.0 v s.holds) in
      let there : is_merged_from opened.row nets (open_nodes f gates) (node v) ≡ true = test_there (λ (w : Node). node w.0 == node v) (open_nodes f gates) s.it s.there (eq-eqb (node s.it.0) (node v) same) in
      nodes_have (is_merged_from opened.row nets (open_nodes f gates)) (256 * f.nets) (node v) there (omega (arith, less, merged_low opened.row nets v))

  record From (gates : List NetNo) (v : ℕ) : Type 0 where
    pub first : ℕ
    pub is : node first ≡ v
    pub can : any_can_meet f gates first ≡ true
    pub less : first < 256 * f.nets

  open_from : (gates : List NetNo) (v : ℕ) → is_open (nodes_in f opened gates) v ≡ true → From gates v
  open_from gates v free =
      let here : (is_merged_from opened.row nets (open_nodes f gates) v ≡ true) × (v < 256 * f.nets) = nodes_are (is_merged_from opened.row nets (open_nodes f gates)) (256 * f.nets) v free in
      let s : Some' (λ (w : Node). (node w.0 == v) ≡ true) (open_nodes f gates) = test_finds (λ (w : Node). node w.0 == v) (open_nodes f gates) here.0 in
      let can : (any_can_meet f gates s.it.0 ≡ true) × (s.it.0 < 256 * f.nets) = open_is f gates s.it.0 (test_there (λ (w : Node). w.0 == s.it.0) (open_nodes f gates) s.it s.there (eq-eqb s.it.0 s.it.0 refl)) in
      record { first = s.it.0; is = eqb-true (node s.it.0) v s.holds; can = can.0; less = can.1 }

  nodes : AreNodes n opens
  nodes = record {
    differ = λ i. nodes_differ (is_merged_from opened.row nets (open_nodes f (drop i order))) (256 * f.nets);
    fewer = λ i v e. let from : From (drop (suc i) order) v = open_from (drop (suc i) order) v e in subst (λ u. is_open (opens i) u ≡ true) from.is (merged_open (drop i order) from.first (any_later (λ (g : NetNo). can_meet f g.0 from.first) i order from.can) from.less);
    below = λ i v e. omega (arith, (nodes_are (is_merged_from opened.row nets (open_nodes f (drop i order))) (256 * f.nets) v e).1, ok.few_nets);
  }

  -- ends that every list of choices results in are those of any such list
  ends_true : (gs : List NetNo) (i : ℕ) (s : List Place) (k : ℕ) (cs : List (List Edge)) → drop i order ≡ gs → AllZip (λ (g : NetNo) (c : List Edge). Contains (choices_in f opened g.0) c) gs cs → Ends (merged_levels f opened gs) s k → k ≤ ends_along n opens i s cs
  unfolding merged_levels
  ends_true [] i s k [] at listed h = omega (arith, h)
  ends_true [] i s k (c ∷ cs) at listed h = absurd listed
  ends_true (g ∷ gs) i s k [] at listed h = absurd listed
  ends_true (g ∷ gs) i s k (c ∷ cs) at listed h =
      let next : drop (suc i) order ≡ gs = drop_next i order g gs at in
      let now_is : nodes_in f opened (g ∷ gs) ≡ opens i = ap (nodes_in f opened) (sym at) in
      let next_is : nodes_in f opened gs ≡ opens (suc i) = ap (nodes_in f opened) (sym next) in
      let state : state_after (nodes_in f opened (g ∷ gs)) (nodes_in f opened gs) s c ≡ state_after (opens i) (opens (suc i)) s c = ap (λ w. state_after w (nodes_in f opened gs) s c) now_is ∙ ap (λ w. state_after (opens i) w s c) next_is in
      let ends : ends_after (nodes_in f opened (g ∷ gs)) (nodes_in f opened gs) s c ≡ ends_after (opens i) (opens (suc i)) s c = ap (λ w. ends_after w (nodes_in f opened gs) s c) now_is ∙ ap (λ w. ends_after (opens i) w s c) next_is in
      let rest : k - ends_after (nodes_in f opened (g ∷ gs)) (nodes_in f opened gs) s c ≤ ends_along n opens (suc i) (state_after (nodes_in f opened (g ∷ gs)) (nodes_in f opened gs) s c) cs =
      ends_true gs (suc i) (state_after (nodes_in f opened (g ∷ gs)) (nodes_in f opened gs) s c) (k - ends_after (nodes_in f opened (g ∷ gs)) (nodes_in f opened gs) s c) cs next listed.1 (h c listed.0) in
      let moved : ends_along n opens (suc i) (state_after (nodes_in f opened (g ∷ gs)) (nodes_in f opened gs) s c) cs ≡ ends_along n opens (suc i) (state_after (opens i) (opens (suc i)) s c) cs = ap (λ t. ends_along n opens (suc i) t cs) state in
      omega (arith, rest, moved, ends)

  -- a listed choice that has the edges of this one, merged
  record Listed (g : NetNo) (c : List Edge) : Type 0 where
    pub it : List Edge
    pub there : Contains (choices_in f opened g.0) it
    pub same : IsPermutation (map edge c) it

  has_more : (g : ℕ) → is_left_open opened g ≡ true → on_gate g (fingers_beside opened.row f) < on_gate g (fingers_at opened.row f)
  has_more g left_open =
      let s : Some' (λ (h : NetNo). (h.0 == g) ≡ true) opened.gates = test_finds (λ (h : NetNo). h.0 == g) opened.gates left_open in
      subst (λ k. on_gate k (fingers_beside opened.row f) < on_gate k (fingers_at opened.row f)) (eqb-true s.it.0 g s.holds) (All-contains (HasMore opened.row f) opened.gates s.it are s.there)

  covers : (g : ℕ) → is_left_open opened g ≡ true → (x : Finger) (net : ℕ) → Contains (fingers_at opened.row f) x → is_on g x ≡ true → has_net net x ≡ true → nets net ≡ true
  covers g left_open x net there on has =
      test_there (λ (y : Finger). is_left_open opened y.gate.0 && has_net net y) (fingers_at opened.row f) x there
      (and_from (is_left_open opened x.gate.0) (has_net net x) (ap (is_left_open opened) (eqb-true x.gate.0 g on) ∙ left_open) has)

  listed : (g : NetNo) (c : List Edge) → g.0 < f.nets → IsChoice f g.0 c → Listed g c
  listed g c within choice = elim (cases_Bool (is_left_open opened g.0)) [
    | inl left_open ↦ record {
      it = open_choice opened.row f g.0;
      there = subst (λ l. Contains l (open_choice opened.row f g.0)) (sym (ap (λ (b : Bool). if b then open_choice opened.row f g.0 ∷ [] else merged_choices opened.row nets (choices_of f g.0)) left_open)) (contains_here (open_choice opened.row f g.0) []);
      same = one_choice f g.0 ok within opened.row (has_more g.0 left_open) nets (covers g.0 left_open) c choice;
    }
    | inr no_one ↦
        let has : HasChoice (choices_of f g.0) c = (all_choices f ok g.0 within c).0 choice in
        let it : List Edge = merged_choice opened.row nets has.it in
        record {
          it = it;
          there = subst (λ l. Contains l it) (sym (ap (λ (b : Bool). if b then open_choice opened.row f g.0 ∷ [] else merged_choices opened.row nets (choices_of f g.0)) no_one)) (once_there (map (merged_choice opened.row nets) (choices_of f g.0)) it (contains_map (merged_choice opened.row nets) (choices_of f g.0) has.it has.there));
          same = IsPermutation-trans (map edge c) (map edge has.it) it (IsPermutation-map edge c has.it has.same) (in_order_permutes (map edge has.it));
        }
  ]

  -- a listed choice for each of these
  record Picks (gs : List NetNo) (cs : List (List Edge)) : Type 0 where
    pub ds : List (List Edge)
    pub there : AllZip (λ (g : NetNo) (d : List Edge). Contains (choices_in f opened g.0) d) gs ds
    pub same : AllZip (λ (c d : List Edge). IsPermutation c d) (map (map edge) cs) ds
    pub opens_for : (i : ℕ) → drop i order ≡ gs → AreOpen n opens i ds

  picks : (gs : List NetNo) (cs : List (List Edge)) → All (λ (g : NetNo). IsGate f g.0) gs → AllZip (λ (g : NetNo) (c : List Edge). IsChoice f g.0 c) gs cs → Picks gs cs
  picks [] [] gates each = record { ds = []; there = tt; same = tt; opens_for = λ i at. tt }
  picks [] (c ∷ cs) gates each = absurd each
  picks (g ∷ gs) [] gates each = absurd each
  picks (g ∷ gs) (c ∷ cs) gates each =
      let within : g.0 < f.nets = is_net_gate f g.0 ok (All-head (λ (h : NetNo). IsGate f h.0) g gs gates) in
      let mine : Listed g c = listed g c within each.0 in
      let rest : Picks gs cs = picks gs cs (All-tail (λ (h : NetNo). IsGate f h.0) g gs gates) each.1 in
      record {
        ds = mine.it ∷ rest.ds;
        there = (mine.there, rest.there);
        same = (mine.same, rest.same);
        opens_for = λ i at. (λ v m. meets g gs c mine.it i v within each.0 mine.same at m, rest.opens_for (suc i) (drop_next i order g gs at));
      }
    where
      meets : (g : NetNo) (gs : List NetNo) (c d : List Edge) (i v : ℕ) → g.0 < f.nets → IsChoice f g.0 c → IsPermutation (map edge c) d → drop i order ≡ g ∷ gs → is_met d v ≡ true → is_open (opens i) v ≡ true
      meets g gs c d i v within choice same at m =
          let by : MetBy opened.row nets c v = met_by opened.row nets c v (list_any-IsPermutation (is_end v) (map edge c) d same ∙ m) in
          let can : (can_meet f g.0 by.node ≡ true) × (by.node < 256 * f.nets) = met_can f g.0 ok within c choice by.node by.met in
          subst (λ u. is_open (opens i) u ≡ true) by.is (merged_open (drop i order) by.node (ap (λ hs. any_can_meet f hs by.node) at ∙ or_left (can_meet f g.0 by.node) (any_can_meet f gs by.node) can.0) can.1)

  module _ (row : List Column) (arranges : IsArrangement row f) where
    walked : OfRow f order row
    walked = of_row f ok order is_order row arranges

    row_ends : (p : Picks order walked.choices) → ends_along n opens 0 [] p.ds ≤ 2 * (gaps_of row + 1)
    row_ends p =
        let walk : Walk = merged_walk opened.row nets walked.walk in
        let all : settled n [] (opens 0) + ends_along n opens 0 [] p.ds ≤ settled n (all_added [] p.ds) (opens (length p.ds + 0)) = along_settled n opens nodes p.ds 0 [] [] (start_follows (opens 0)) (p.opens_for 0 refl) in
        let count : length p.ds ≡ length order = AllZip-long (λ (g : NetNo) (d : List Edge). Contains (choices_in f opened g.0) d) order p.ds p.there in
        let last : opens (length p.ds + 0) ≡ [] = ap (nodes_in f opened) (drop_all (length p.ds + 0) order (all_dropped (length p.ds) (length order) count)) ∙ none_merged f opened in
        let end : settled n (all_added [] p.ds) (opens (length p.ds + 0)) ≡ settled n (all_added [] p.ds) [] = ap (λ v. settled n (all_added [] p.ds) v) last in
        let drawn : IsPermutation (map edge (edges_of walked.walk)) (map edge (all_added [] walked.choices)) = IsPermutation-map edge (edges_of walked.walk) (all_added [] walked.choices) walked.same in
        let turned : IsPermutation (edges_of walk) (all_added [] (map (map edge) walked.choices)) =
        subst (λ l. IsPermutation l (all_added [] (map (map edge) walked.choices))) (sym (merged_edges opened.row nets walked.walk)) (subst (IsPermutation (map edge (edges_of walked.walk))) (all_added_map edge walked.choices []) drawn) in
        let chosen : IsPermutation (edges_of walk) (all_added [] p.ds) = IsPermutation-trans (edges_of walk) (all_added [] (map (map edge) walked.choices)) (all_added [] p.ds) turned (all_added_same (map (map edge) walked.choices) p.ds [] [] p.same (IsPermutation-refl [])) in
        let same : IsPermutation (fingers_of (all_added [] p.ds)) (fingers_of (edges_of walk)) = IsPermutation-map finger_of (all_added [] p.ds) (edges_of walk) (IsPermutation-sym (edges_of walk) (all_added [] p.ds) chosen) in
        within (settled n [] (opens 0)) (ends_along n opens 0 [] p.ds) (settled n (all_added [] p.ds) (opens (length p.ds + 0))) (settled n (all_added [] p.ds) []) (breaks_of walk) (breaks_of walked.walk) (gaps_of row)
        all end (settled_least n (all_added [] p.ds) walk (merged_below opened.row nets n walked.walk walked.below) same) (fewer_breaks opened.row nets walked.walk) walked.few

    row_law : (k : ℕ) → Ends (merged_levels f opened order) [] k → k ≤ 2 * (gaps_of row + 1)
    row_law k h =
        let p : Picks order walked.choices = picks order walked.choices is_order.gates walked.each in
        at_most k (ends_along n opens 0 [] p.ds) (2 * (gaps_of row + 1)) (ends_true order 0 [] k p.ds refl p.there h) (row_ends p)

pub open_law : (f : Fingers) → AreFingers f → (order : List NetNo) → IsOrder f order → (opened : OpenGates) → AreOpenGates f opened → (k : ℕ) → Ends (levels_in f opened order) [] k → (row : List Column) → IsArrangement row f → k ≤ 2 * (gaps_of row + 1)
open_law f ok order is_order opened are k h row arranges = elim (cases_Bool (length opened.gates == 0)) [
  | inl none ↦ levels_law f ok order is_order (levels_of f order) k (levels_are f order) (subst (λ ls. Ends ls [] k) (ap (λ (b : Bool). if b then levels_of f order else merged_levels f opened order) none) h) row arranges
  | inr some ↦ row_law f ok opened are order is_order row arranges k (subst (λ ls. Ends ls [] k) (ap (λ (b : Bool). if b then levels_of f order else merged_levels f opened order) some) h)
]
