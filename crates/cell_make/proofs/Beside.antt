-- Made cells stand in a row: what puts them side by side asks this of them, and says that of them.
use Rattle.std.proofs.Common.{ℕ, ◌≡◌, ◌≢◌, ◌≤◌, ◌+◌, ◌-◌, ◌*◌, refl, List, [], ◌∷◌, map, length, All, AllPairs, sym, subst, ap, ◌↔◌, Result, Ok, Err, ◌∙◌, fold, arith}
use Rattle.std.specs.List.{AllZip, sum_by}
use Rattle.std.proofs.lemmas.List.{length-map}
use Rattle.std.proofs.lemmas.List.Elements.{All-drop, All-head, All-tail, All-take}
use Rattle.cell_num.proofs.Lists.{all_from_contains, all_map}
use Rattle.cell_num.proofs.Pairs.{pairs_map}
use Rattle.row_abut.specs.Cells.{AreDrawn, AreOneByName, HaveSameRails, IsDrawn, IsRowCell}
use Rattle.row_abut.specs.Circuit.{IsCircuit, fingers_of_row, names_of_row}
use Rattle.gds_write.specs.declared.library.Struct.{Struct}
use Rattle.row_abut.specs.Faults.{ClashInChannel, DifferInHeight}
use Rattle.row_abut.specs.Row.{flat_row}
use Rattle.row_abut.specs.declared.cell.RowFault.{RowFault}
use Rattle.row_abut.specs.declared.cell.RowFault.TheVariants.{Channel, Heights, NoMemory}
use Rattle.cell_draw.specs.Extracted.{ExtractsTo}
use Rattle.cell_num.specs.declared.finger.Fingers.{Fingers}
use Rattle.scmos_rules.specs.Rules.{Obeys}
use Rattle.scmos_rules.specs.declared.rules.Deck.TheVariants.{Plain}
use Rattle.cell_make.proofs.Decoded.{cells_decode, row_decodes}
use Rattle.row_abut.specs.declared.cell.RowCell.{RowCell}
use Rattle.cell_make.proofs.MadeCells.{IsReady, in_row, is_circuit, is_drawn, one_by_name, same_rails}
use Rattle.cell_make.proofs.Library.{AreReady, few_made, top_differs}
use Rattle.cell_make.proofs.Made.{ready}
use Rattle.cell_make.specs.RowInputs.{AreRowInputs, RowInputs}
use Rattle.cell_make.specs.Rowed.{IsOneByName, IsRowFault, IsRowed, MadeCell, cell_drawing, cell_name, row_cell, row_cells, row_width}
use Rattle.cell_make.specs.RowSteps.{AreCellsOf}
use Rattle.tech_file.specs.Technology.{IsTechnology}

pub are_ready : (r : RowInputs) (cells : List RowCell) → AreRowInputs r → (s : AreCellsOf r r.names cells) → AreReady r s.made
are_ready r cells inputs s = record { inputs = inputs; are = s.are; sound = s.sound }

all_ready : (r : RowInputs) (made : List MadeCell) → AreReady r made → All (IsReady r) made
all_ready r made h = ready r r.names made h.are h.sound

pub all_in_row : (r : RowInputs) (made : List MadeCell) → AreReady r made → All IsRowCell (row_cells made)
all_in_row r made h = all_map (IsReady r) IsRowCell row_cell made (in_row r) (all_ready r made h)

pub rails_agree : (r : RowInputs) (made : List MadeCell) → AreReady r made → AllPairs HaveSameRails (row_cells made)
rails_agree r made h = pairs_map IsOneByName (IsReady r) HaveSameRails row_cell made (λ a b x y one. same_rails r a b x y) (all_ready r made h) h.are.once

pub each_once : (r : RowInputs) (made : List MadeCell) → AreReady r made → AllPairs AreOneByName (row_cells made)
each_once r made h = pairs_map IsOneByName (IsReady r) AreOneByName row_cell made (λ a b x y one. one_by_name a b one) (all_ready r made h) h.are.once

pub top_is_new : (r : RowInputs) (made : List MadeCell) → AreReady r made → All (λ (c : RowCell). c.name ≢ r.top) (row_cells made)
top_is_new r made h = all_from_contains (λ (c : RowCell). c.name ≢ r.top) (row_cells made) (λ c there. top_differs r made c h there)

pub count : (r : RowInputs) (made : List MadeCell) → AreReady r made → length (row_cells made) ≡ length r.names
count r made h = length-map made row_cell ∙ sym (length-map made cell_name) ∙ ap length h.are.named

-- ---- what is said of them

pub are_drawn : (r : RowInputs) (made : List MadeCell) → AreReady r made → AreDrawn (row_cells made)
are_drawn r made h = record {
  each = all_map (IsReady r) IsDrawn row_cell made (is_drawn r) (all_ready r made h);
  inner = All-drop (λ (c : RowCell). 19 ≤ c.drawing.width) 1 _ (All-take (λ (c : RowCell). 19 ≤ c.drawing.width) (length (row_cells made) - 1) (row_cells made)
      (all_map (IsReady r) (λ (c : RowCell). 19 ≤ c.drawing.width) row_cell made (λ m k. let least : 32 ≤ (cell_drawing m).width = k.sound.extent.least in omega (arith, least)) (all_ready r made h)));
}

circuits : (r : RowInputs) (made : List MadeCell) → IsTechnology r.tech → All (IsReady r) made → AllZip IsCircuit (row_cells made) (map (λ (m : MadeCell). m.inputs.fingers) made)
circuits r [] tech ready = tt
circuits r (m ∷ ms) tech ready = (is_circuit r m tech (All-head (IsReady r) m ms ready), circuits r ms tech (All-tail (IsReady r) m ms ready))

pub are_circuits : (r : RowInputs) (made : List MadeCell) → AreReady r made → AllZip IsCircuit (row_cells made) (map (λ (m : MadeCell). m.inputs.fingers) made)
are_circuits r made h = circuits r made h.inputs.tech (all_ready r made h)

-- ---- the width

widths_are : (n : ℕ) (made : List MadeCell) → fold (λ a (c : RowCell). a + c.drawing.width) n (row_cells made) ≡ fold (λ a (m : MadeCell). a + (cell_drawing m).width) n made
widths_are n [] = refl
widths_are n (m ∷ ms) = widths_are (n + (cell_drawing m).width) ms

pub width_is : (made : List MadeCell) → sum_by (λ (c : RowCell). c.drawing.width) (row_cells made) ≡ row_width made
width_is made = widths_are 0 made

low_width : (r : RowInputs) (n : ℕ) (made : List MadeCell) → All (IsReady r) made → fold (λ a (c : RowCell). a + c.drawing.width) n (row_cells made) ≤ n + 127016 * length made
low_width r n [] ready = omega arith
low_width r n (m ∷ ms) ready =
    let most : (cell_drawing m).width ≤ 127016 = (All-head (IsReady r) m ms ready).sound.extent.most in
    omega (arith, most, low_width r (n + (cell_drawing m).width) ms (All-tail (IsReady r) m ms ready))

pub narrow : (r : RowInputs) (made : List MadeCell) → AreReady r made → sum_by (λ (c : RowCell). c.drawing.width) (row_cells made) ≤ 2032256
narrow r made h = omega (arith, low_width r 0 made (all_ready r made h), few_made r made h)

-- ---- a row

pub rowed_so : (r : RowInputs) (cells : List RowCell) → AreRowInputs r → (s : AreCellsOf r r.names cells) → ((fault : RowFault) → IsRowFault cells fault → ⊥) → (AreDrawn cells → Obeys Plain (flat_row cells).rects) → ((fingers : List Fingers) → AreDrawn cells → AllZip IsCircuit cells fingers → ExtractsTo Plain (names_of_row cells) (fingers_of_row cells fingers) (flat_row cells)) → IsRowed r s.made
rowed_so r cells inputs s beside obeys extracts =
    let h = are_ready r cells inputs s in
    let drawn = are_drawn r s.made h in
    record {
      cells = s.are;
      beside = subst (λ (cs : List RowCell). (fault : RowFault) → IsRowFault cs fault → ⊥) s.shown beside;
      obeys = subst (λ (cs : List RowCell). AreDrawn cs → Obeys Plain (flat_row cs).rects) s.shown obeys drawn;
      extracts = subst (λ (cs : List RowCell). (fingers : List Fingers) → AreDrawn cs → AllZip IsCircuit cs fingers → ExtractsTo Plain (names_of_row cs) (fingers_of_row cs fingers) (flat_row cs)) s.shown extracts (map (λ (m : MadeCell). m.inputs.fingers) s.made) drawn (are_circuits r s.made h);
      decodes = row_decodes r s.made h;
      each = cells_decode r s.made h;
    }

-- ---- why there is none

pub row_fault_so : (cells : List RowCell) (got : Result (List Struct) RowFault) (fault : RowFault) → got ≡ Err fault → ((first other : ℕ) → DifferInHeight cells first other ↔ (got ≡ Err (Heights first other))) → ((left right : ℕ) → ClashInChannel cells left right ↔ (got ≡ Err (Channel left right))) → fault ≢ NoMemory → IsRowFault cells fault
row_fault_so cells got (Heights first other) is heights channel some = (heights first other).1 is
row_fault_so cells got (Channel left right) is heights channel some = (channel left right).1 is
row_fault_so cells got NoMemory is heights channel some = absurd (some refl)

pub no_fault_so : (cells : List RowCell) (structs : List Struct) → ((first other : ℕ) → DifferInHeight cells first other ↔ ◌≡◌ {A = Result (List Struct) RowFault} (Ok structs) (Err (Heights first other))) → ((left right : ℕ) → ClashInChannel cells left right ↔ ◌≡◌ {A = Result (List Struct) RowFault} (Ok structs) (Err (Channel left right))) → (fault : RowFault) → IsRowFault cells fault → ⊥
no_fault_so cells structs heights channel (Heights first other) is = let wrong = (heights first other).0 is in cc
no_fault_so cells structs heights channel (Channel left right) is = let wrong = (channel left right).0 is in cc
no_fault_so cells structs heights channel NoMemory is = is
