-- The columns of a row on one gate are one of the gate's choices.
use Rattle.std.proofs.Common.{ℕ, ◌≡◌, ◌<◌, List, [], length, map, append-nil, sym, ap, subst, arith, ◌∙◌, All, Contains, IsPermutation}
use Rattle.std.specs.List.{range_with_len}
use Rattle.std.proofs.lemmas.List.{length-map}
use Rattle.std.proofs.lemmas.List.Elements.{All-filter}
use Rattle.std.proofs.lemmas.List.Sorted.{IsPermutation-map}
use Rattle.std.proofs.lemmas.List.Sums.{length-filter}
use Rattle.cell_num.specs.declared.net.NetNo.{NetNo}
use Rattle.cell_num.specs.declared.finger.Row.TheVariants.{P, N}
use Rattle.cell_num.specs.declared.finger.Fingers.{Fingers}
use Rattle.cell_num.specs.Fingers.{AreFingers}
use Rattle.cell_num.proofs.Lists.{contains_here}
use Rattle.row_model.specs.declared.column.Column.{Column}
use Rattle.row_model.specs.Arrangement.{IsArrangement, fingers_in}
use Rattle.trail_state.specs.declared.edge.Edge.{Edge}
use Rattle.trail_state.specs.declared.front.Part.{Part}
use Rattle.trail_state.specs.declared.gate.Gate.{Gate}
use Rattle.trail_state.specs.Fronts as fronts
use Rattle.trail_state.specs.Fronts.{columns_in, edges_of, front_at}
use Rattle.trail_state.specs.Choices.{AreEdgesOf, IsChoice, fingers_on, is_on}
use Rattle.trail_state.proofs.Chosen.{Drawn, IsChosen, IsDrawn, column_at, drawn_zip, edge_at, firsts, is_part, part}
use Rattle.trail_state.proofs.Grouped.{columns_of_gate, columns_on, gate_arranges, gate_at}
use Rattle.trail_state.proofs.Members.{passes_to}
use Rattle.trail_state.specs.Nodes.{is_net_in}
use Rattle.trail_state.proofs.Opened.{net_below, range_has}
use Rattle.trail_state.proofs.Paired.{Arranged, Listed, parts_listed}
use Rattle.trail_state.specs.Pairings.{choices_of, gate_of, nets_at}

choices_are : (f : Fingers) (g : ℕ) (zs : List Drawn) → Listed (edges_of (front_at (gate_of f g) (columns_in (gate_of f g)))) zs [] → Listed (choices_of f g) zs []
unfolding fronts.choices_of
choices_are f g zs h = h

-- a listed choice that has the edges of the gate's columns
pub record Picked (f : Fingers) (zs : List Drawn) (g : NetNo) (c : List Edge) : Type 0 where
  pub there : Contains (choices_of f g.0) c
  pub chosen : IsChosen zs g c
  pub choice : IsChoice f g.0 c

pub record Pick (f : Fingers) (zs : List Drawn) (g : NetNo) : Type 0 where
  pub it : List Edge
  pub picked : Picked f zs g it

-- columns that arrange the gate's fingers are listed
pub gate_listed : (f : Fingers) (g : ℕ) → AreFingers f → g < f.nets → (zs : List Drawn) → IsArrangement (map column_at zs) (fingers_on g f) → All (IsDrawn f) zs → Listed (choices_of f g) zs []
gate_listed f g ok within zs arranges drawn =
    let gate : Gate = gate_of f g in
    let first : Part = record { edges = []; left = gate.n } in
    let few : length zs ≡ columns_in gate =
    omega (arith, length-map zs column_at, arranges.fewest, columns_of_gate f g within, length-filter (is_on g) f.p, length-filter (is_on g) f.n, length-map (fingers_on g f).p nets_at, length-map (fingers_on g f).n nets_at) in
    let arranged : Arranged f gate.p gate.n zs = record {
      drawn = drawn;
      p = IsPermutation-map nets_at (fingers_on g f).p (fingers_in P (map column_at zs)) arranges.p;
      n = IsPermutation-map nets_at (fingers_on g f).n (fingers_in N (map column_at zs)) arranges.n;
      fewest = few;
    } in
    choices_are f g zs
    (parts_listed f gate
    (λ v e. passes_to (is_net_in f.p) (range_with_len 0 f.nets) v (range_has f.nets v (net_below P f.nets f.p v ok.p (omega (arith, within)) e)) e)
    (λ v e. passes_to (is_net_in f.n) (range_with_len 0 f.nets) v (range_has f.nets v (net_below N f.nets f.n v ok.n (omega (arith, within)) e)) e)
    (columns_in gate) 0 (columns_in gate) first zs few (omega arith) (contains_here first []) arranged)

pub pick : (f : Fingers) (row : List Column) (zs : List Drawn) (g : NetNo) → AreFingers f → IsArrangement row f → All (λ (c : Column). gate_at c < f.nets) row → map column_at zs ≡ row → All (IsDrawn f) zs → g.0 < f.nets → Pick f zs g
pick f row zs g ok arranges nets is drawn within =
    let mine : IsArrangement (columns_on g.0 row) (fingers_on g.0 f) = gate_arranges f row arranges nets g.0 within in
    let columns : map column_at (part g.0 zs) ≡ columns_on g.0 row = firsts g.0 zs ∙ ap (columns_on g.0) is in
    let here : All (IsDrawn f) (part g.0 zs) = All-filter (is_part g.0) (IsDrawn f) zs drawn in
    let l : Listed (choices_of f g.0) (part g.0 zs) [] = gate_listed f g.0 ok within (part g.0 zs) (subst (λ cs. IsArrangement cs (fingers_on g.0 f)) (sym columns) mine) here in
    let same : IsPermutation (map edge_at (part g.0 zs)) l.choice = subst (λ es. IsPermutation es l.choice) (append-nil (map edge_at (part g.0 zs))) l.same in
    record {
      it = l.choice;
      picked = record {
        there = l.there;
        chosen = same;
        choice = record {
          columns = columns_on g.0 row;
          arranges = mine;
          edges = map edge_at (part g.0 zs);
          filled = subst (λ cs. AreEdgesOf f cs (map edge_at (part g.0 zs))) columns (drawn_zip f (part g.0 zs) here);
          listed = same;
        };
      };
    }
