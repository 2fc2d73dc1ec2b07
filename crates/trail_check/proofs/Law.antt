-- The laws: choices have a row with no more gaps than their ends say, and each row is one of some choices.
use Rattle.std.proofs.Common.{ℕ, ◌≡◌, ◌+◌, ◌*◌, ◌≤◌, ◌<◌, ◌==◌, ◌↔◌, Bool, true, false, leb, List, [], ◌∷◌}
use Rattle.std.proofs.Common.{◌++◌, Option, Some, None, append-nil, append_assoc, option_map, map, refl, sym}
use Rattle.std.proofs.Common.{ap, subst, arith, ◌∙◌, All, Contains, IsPermutation}
use Rattle.std.specs.List.{flat_map, zip}
use Rattle.std.proofs.lemmas.Bool.{eq-eqb, or_left, or_right}
use Rattle.std.proofs.lemmas.List.{length-map}
use Rattle.std.proofs.lemmas.List.Elements.{All-append, All-contains, All-head, All-nil, All-tail}
use Rattle.std.proofs.lemmas.List.Sorted.{All-permutation, Contains-permutation, IsPermutation-append_comm}
use Rattle.std.proofs.lemmas.List.Sorted.{IsPermutation-append_left, IsPermutation-append_right, IsPermutation-map}
use Rattle.std.proofs.lemmas.List.Sorted.{IsPermutation-refl, IsPermutation-sym, IsPermutation-trans}
use Rattle.std.proofs.lemmas.List.Sorted.{length_permutation}
use Rattle.cell_num.specs.declared.net.NetNo.{NetNo}
use Rattle.cell_num.specs.declared.finger.Row.{Row}
use Rattle.cell_num.specs.declared.finger.Row.TheVariants.{P, N}
use Rattle.cell_num.specs.declared.finger.Fingers.{Fingers}
use Rattle.cell_num.specs.Fingers.{AreFingers}
use Rattle.cell_num.proofs.In.{contains_map}
use Rattle.cell_num.proofs.Lists.{all_from_contains, all_map, contains_filter_map, contains_here, contains_there}
use Rattle.cell_num.proofs.Pairs.{test_there}
use Rattle.row_model.specs.declared.column.Placed.{Placed}
use Rattle.row_model.specs.declared.column.Column.{Column}
use Rattle.row_model.specs.Arrangement.{IsArrangement, IsColumn, fingers_in, place}
use Rattle.row_model.specs.Gaps.{gaps_of, left_net, right_net}
use Rattle.row_model.specs.Tests.{same_finger}
use Rattle.row_model.proofs.Decide.{finger_decides}
use Rattle.trail_state.specs.declared.edge.Edge.{Edge}
use Rattle.trail_state.specs.Choices.{IsChoice}
use Rattle.trail_state.specs.Edges.{edge_between}
use Rattle.trail_state.specs.Levels.{IsGate, IsOrder}
use Rattle.trail_state.specs.Nodes.{is_net_in}
use Rattle.trail_state.specs.Places.{is_end}
use Rattle.trail_state.proofs.Along.{AreBelow, all_added, settled_least}
use Rattle.trail_state.proofs.Chosen.{IsDrawn, added_permutes, column_at, edge_at}
use Rattle.trail_state.proofs.Counted.{settled}
use Rattle.trail_state.proofs.Follows.{added}
use Rattle.trail_state.proofs.Law.{OfRow, is_net_gate, of_row, zip_columns, zip_drawn, zip_edges}
use Rattle.trail_state.proofs.Links.{finger_of}
use Rattle.trail_state.proofs.Opened.{in_net, left_has, met_can, net_small, right_has}
use Rattle.trail_state.proofs.Walks.{Walk, breaks_of, edges_of, ordered}
use Rattle.trail_check.specs.Rows.{AreChoices, AreFewestEnds, AreFewestGaps, HasChoices, HasRow, ends_in, gaps_with}
use Rattle.trail_check.proofs.Counts.{ends_are}
use Rattle.trail_check.proofs.Euler.{IsBelow, IsEdge, Walked, euler}
use Rattle.trail_check.proofs.Lists as lists
use Rattle.trail_check.proofs.Lists.{Ordered, kept_permutation}
use Rattle.trail_check.proofs.Rowed.{IsDrawing, RowedFew, rowed_few}
use Rattle.trail_check.proofs.Together.{Whole, whole}
use Rattle.trail_check.proofs.Turned.{AreSmall, drawn}

abbrev pub all_edges : List (List Edge) → List Edge
all_edges cs = flat_map (λ (c : List Edge). c) cs

-- the edges of all choices, after some
pub added_all : (cs : List (List Edge)) (es : List Edge) → IsPermutation (all_added es cs) (all_edges cs ++ es)
added_all [] es = IsPermutation-refl es
added_all (c ∷ cs) es =
    let rest : IsPermutation (all_added (added es c) cs) (all_edges cs ++ added es c) = added_all cs (added es c) in
    let one : IsPermutation (all_edges cs ++ added es c) (all_edges cs ++ (c ++ es)) =
    IsPermutation-append_right (all_edges cs) (added es c) (c ++ es)
    (IsPermutation-sym (c ++ es) (added es c) (added_permutes c es)) in
    let turned : IsPermutation (all_edges cs ++ (c ++ es)) ((c ++ all_edges cs) ++ es) =
    subst (λ l. IsPermutation l ((c ++ all_edges cs) ++ es)) (append_assoc (all_edges cs) c es)
    (IsPermutation-append_left es (all_edges cs ++ c) (c ++ all_edges cs)
    (IsPermutation-append_comm (all_edges cs) c)) in
    IsPermutation-trans (all_added (added es c) cs) (all_edges cs ++ added es c) ((c ++ all_edges cs) ++ es) rest
    (IsPermutation-trans (all_edges cs ++ added es c) (all_edges cs ++ (c ++ es))
    ((c ++ all_edges cs) ++ es) one turned)

ends_below : (n l r : ℕ) → IsBelow n (edge_between l r) → (l < n) × (r < n)
ends_below n l r h = by (leb l r) h
  where
    by : (b : Bool) → IsBelow n (ordered b l r) → (l < n) × (r < n)
    by true k = k
    by false k = (k.1, k.0)

walk_below : (n : ℕ) (w : Walk) → All (IsBelow n) (edges_of w) → AreBelow n w
walk_below n [] h = tt
walk_below n ((l, r) ∷ w) h =
    let here : (l < n) × (r < n) = ends_below n l r (All-head (IsBelow n) (edge_between l r) (edges_of w) h) in
    (here.0, here.1, walk_below n w (All-tail (IsBelow n) (edge_between l r) (edges_of w) h))

module _ (f : Fingers) (ok : AreFingers f) where
  -- the nodes of a choice
  choice_below : (g : ℕ) (c : List Edge) → g < f.nets → IsChoice f g c → All (IsBelow (256 * f.nets)) c
  choice_below g c within choice = all_from_contains (IsBelow (256 * f.nets)) c (λ e k. (
    (met_can f g ok within c choice e.a.0
        (test_there (is_end e.a.0) c e k (or_left (e.a.0 == e.a.0) (e.b.0 == e.a.0) (eq-eqb e.a.0 e.a.0 refl)))).1,
    (met_can f g ok within c choice e.b.0
        (test_there (is_end e.b.0) c e k (or_right (e.a.0 == e.b.0) (e.b.0 == e.b.0) (eq-eqb e.b.0 e.b.0 refl)))).1,
  ))

  pub all_below : (gs : List NetNo) (cs : List (List Edge)) → ((g : NetNo) → Contains gs g → g.0 < f.nets)
      → AreChoices f gs cs → All (IsBelow (256 * f.nets)) (all_edges cs)
  all_below [] [] within h = All-nil (IsBelow (256 * f.nets))
  all_below [] (c ∷ cs) within h = absurd h
  all_below (g ∷ gs) [] within h = absurd h
  all_below (g ∷ gs) (c ∷ cs) within h =
      All-append (IsBelow (256 * f.nets)) c (all_edges cs) (choice_below g.0 c (within g (contains_here g gs)) h.0)
      (all_below gs cs (λ k l. within k (contains_there g gs k l)) h.1)

module _ (f : Fingers) (ok : AreFingers f) (order : List NetNo) (is_order : IsOrder f order) where
  pub gate_below : (g : NetNo) → Contains order g → g.0 < f.nets
  gate_below g k = is_net_gate f g.0 ok (All-contains (λ (h : NetNo). IsGate f h.0) order g is_order.gates k)

  n_small : (v : ℕ) → is_net_in f.n v ≡ true → v < 256
  n_small v e = net_small N f.nets f.n v ok.n ok.few_nets e

  -- the nets of N fingers of an arrangement
  small : (row : List Column) → IsArrangement row f → (c : Column) → Contains row c → AreSmall c.n
  small row arranges c there = by c.n refl
    where
      by : (o : Option Placed) → c.n ≡ o → AreSmall o
      by None is = tt
      by (Some y) is =
          let mine : Contains f.n y.finger =
          Contains-permutation (fingers_in N row) f.n y.finger (IsPermutation-sym f.n (fingers_in N row) arranges.n)
          (contains_filter_map (λ (d : Column). option_map (λ (x : Placed). x.finger) (place N d)) row c y.finger
          there (ap (option_map (λ (x : Placed). x.finger)) is)) in (
            n_small (left_net y).0 (in_net f.n (left_net y).0 y.finger mine (left_has y)),
            n_small (right_net y).0
                (in_net f.n (right_net y).0 y.finger mine (right_has y)),
          )

  -- columns in another order have the same fingers
  moved : (r : Row) (cs ds : List Column) → IsPermutation cs ds → IsPermutation (fingers_in r cs) (fingers_in r ds)
  moved r cs ds p =
      kept_permutation same_finger finger_decides (λ (c : Column). option_map (λ (x : Placed). x.finger) (place r c)) cs
      ds p

  -- columns with their edges, in pairs
  record Pairs {es : List Edge} (w : Whole f es) : Type 0 where
    pub zs : List (Column × Edge)
    pub columns : map column_at zs ≡ w.columns
    pub edges : map edge_at zs ≡ w.edges
    pub drawings : All IsDrawing zs

  pairs : (es : List Edge) (w : Whole f es) → Pairs w
  pairs es w =
      let columns : map column_at (zip w.columns w.edges) ≡ w.columns = zip_columns f w.columns w.edges w.filled in
      let filled : All (IsDrawn f) (zip w.columns w.edges) = zip_drawn f w.columns w.edges w.filled in
      record {
        zs = zip w.columns w.edges;
        columns = columns;
        edges = zip_edges f w.columns w.edges w.filled;
        drawings = all_from_contains IsDrawing (zip w.columns w.edges) (λ z k. drawn f z.0 z.1 n_small
            (small w.columns w.arranges z.0
            (subst (λ l. Contains l z.0) columns (contains_map column_at (zip w.columns w.edges) z k)))
            (All-contains (IsDrawn f) (zip w.columns w.edges) z filled k));
      }

  all_edge : (es : List Edge) (w : Whole f es) → Pairs w → All IsEdge es
  all_edge es w z =
      let are : All IsEdge (map edge_at z.zs) =
      all_map IsDrawing IsEdge edge_at z.zs (λ a d. record { l = d.l; r = d.r; is = d.is }) z.drawings in
      All-permutation IsEdge w.edges es w.same (subst (All IsEdge) z.edges are)

  -- the pairs in the order of a walk through their edges
  in_order : (es : List Edge) (w : Whole f es) (z : Pairs w) (walk : Walk) → IsPermutation es (edges_of walk)
      → Ordered edge_at z.zs (edges_of walk)
  in_order es w z walk same =
      lists.ordered edge_at z.zs (edges_of walk)
      (subst (λ l. IsPermutation l (edges_of walk)) (sym z.edges)
      (IsPermutation-trans w.edges es (edges_of walk) w.same same))

  record Along (walk : Walk) : Type 0 where
    pub row : List Column
    pub arranges : IsArrangement row f
    pub few : gaps_of row ≤ breaks_of walk

  along : (es : List Edge) (w : Whole f es) (z : Pairs w) (walk : Walk) → Ordered edge_at z.zs (edges_of walk)
      → Along walk
  along es w z walk o =
      let r : RowedFew o.it walk = rowed_few o.it walk (All-permutation IsDrawing z.zs o.it o.same z.drawings) o.is in
      let ds : List Column = map column_at o.it in
      let placed : IsPermutation w.columns (map column_at o.it) =
      subst (λ l. IsPermutation l (map column_at o.it)) z.columns (IsPermutation-map column_at z.zs o.it o.same) in
      record {
        row = r.row;
        arranges = record {
          columns = r.columns (All-permutation IsColumn w.columns ds placed w.arranges.columns);
          p = subst (IsPermutation f.p) (sym (r.fingers P))
              (IsPermutation-trans f.p (fingers_in P w.columns) (fingers_in P ds) w.arranges.p
              (moved P w.columns ds placed));
          n = subst (IsPermutation f.n) (sym (r.fingers N))
              (IsPermutation-trans f.n (fingers_in N w.columns) (fingers_in N ds) w.arranges.n
              (moved N w.columns ds placed));
          fewest = r.as_many ∙ sym (length-map o.it column_at) ∙ length_permutation w.columns ds placed
              ∙ w.arranges.fewest;
        };
        few = r.few;
      }

  pub row_of_choices : (cs : List (List Edge)) → AreChoices f order cs → HasRow f (gaps_with (ends_in f cs))
  row_of_choices cs each =
      let w : Whole f (all_edges cs) = whole f order is_order gate_below cs each in
      let z : Pairs w = pairs (all_edges cs) w in
      let walked : Walked (256 * f.nets) (all_edges cs) =
      euler (256 * f.nets) (all_edges cs) (all_edge (all_edges cs) w z) (all_below f ok order cs gate_below each) in
      let a : Along walked.steps =
      along (all_edges cs) w z walked.steps (in_order (all_edges cs) w z walked.steps walked.same) in
      record { row = a.row; arranges = a.arranges; few = omega (arith, a.few, walked.few) }

  pub choices_of_row : (row : List Column) → IsArrangement row f → HasChoices f order (2 * (gaps_of row + 1))
  choices_of_row row arranges =
      let o : OfRow f order row = of_row f ok order is_order row arranges in
      let all : IsPermutation (all_added [] o.choices) (all_edges o.choices) =
      subst (IsPermutation (all_added [] o.choices)) (append-nil (all_edges o.choices)) (added_all o.choices []) in
      let same : IsPermutation (all_edges o.choices) (edges_of o.walk) =
      IsPermutation-sym (edges_of o.walk) (all_edges o.choices)
      (IsPermutation-trans (edges_of o.walk) (all_added [] o.choices) (all_edges o.choices) o.same all) in
      let below : AreBelow (256 * f.nets) o.walk =
      walk_below (256 * f.nets) o.walk
      (All-permutation (IsBelow (256 * f.nets)) (all_edges o.choices) (edges_of o.walk) same
      (all_below f ok order o.choices gate_below o.each)) in
      let least : settled (256 * f.nets) (all_edges o.choices) [] ≤ 2 * (breaks_of o.walk + 1) =
      settled_least (256 * f.nets) (all_edges o.choices) o.walk below
      (IsPermutation-map finger_of (all_edges o.choices) (edges_of o.walk) same) in
      let count : ends_in f o.choices ≡ settled (256 * f.nets) (all_edges o.choices) [] =
      ends_are (256 * f.nets) (all_edges o.choices) in
      record { choices = o.choices; each = o.each; few = omega (arith, least, count, o.few) }

pub possible_gaps : (f : Fingers) → AreFingers f → (order : List NetNo) → IsOrder f order → (gaps : ℕ)
    → HasRow f gaps ↔ HasChoices f order (2 * (gaps + 1))
possible_gaps f ok order is_order gaps = (there, back)
  where
    there : HasRow f gaps → HasChoices f order (2 * (gaps + 1))
    there h =
        let c : HasChoices f order (2 * (gaps_of h.row + 1)) = choices_of_row f ok order is_order h.row h.arranges in
        record { choices = c.choices; each = c.each; few = omega (arith, c.few, h.few) }

    back : HasChoices f order (2 * (gaps + 1)) → HasRow f gaps
    back h =
        let r : HasRow f (gaps_with (ends_in f h.choices)) = row_of_choices f ok order is_order h.choices h.each in
        record { row = r.row; arranges = r.arranges; few = omega (arith, r.few, h.few) }

pub fewest_gaps : (f : Fingers) → AreFingers f → (order : List NetNo) → IsOrder f order → (ends : ℕ)
    → AreFewestEnds f order ends → AreFewestGaps f (gaps_with ends)
fewest_gaps f ok order is_order ends h =
    let r : HasRow f (gaps_with (ends_in f h.choices)) = row_of_choices f ok order is_order h.choices h.each in
    let least : (other : List Column) → IsArrangement other f → gaps_with ends ≤ gaps_of other = λ other arranges.
    (let c : HasChoices f order (2 * (gaps_of other + 1)) = choices_of_row f ok order is_order other arranges in omega
    (arith, c.few, h.fewest c.choices c.each)) in
    record {
      row = r.row;
      arranges = r.arranges;
      has = omega (arith, r.few, h.have, least r.row r.arranges);
      fewest = least;
    }
