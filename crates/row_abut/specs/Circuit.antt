-- The circuit of a row: the nets and the fingers of all its cells, with the rails in common.
use Rattle.std.specs.Prelude.{ℕ, ◌+◌, ◌≢◌, List, [], ◌∷◌, ◌++◌, length, map, if◌then◌else◌}
use Rattle.std.specs.List.{flat_map}
use Rattle.cell_num.specs.declared.finger.Finger.{Finger}
use Rattle.cell_num.specs.declared.finger.Fingers.{Fingers}
use Rattle.scmos_rules.specs.declared.rules.Deck.TheVariants.{Plain}
use Rattle.cell_draw.specs.Extracted.{ExtractsTo}
use Rattle.well_tap.specs.Bodied.{AreRails}
use Rattle.row_abut.specs.declared.cell.RowCell.{RowCell}
use Rattle.row_abut.specs.Row.{Standing, standing, is_rail, numbered_name, vdd_name, gnd_name}

-- the name in the row of a net: a rail keeps its own
abbrev pub name_in_row : Standing → List ℕ → List ℕ
name_in_row s name = if is_rail s.cell name then name else numbered_name s.number name

abbrev pub names_of_row : List RowCell → List (List ℕ)
names_of_row cells = flat_map (λ (s : Standing). map (name_in_row s) s.cell.nets) (standing cells)

-- the finger where its nets are numbered after `nets` others
abbrev pub behind : ℕ → Finger → Finger
behind nets f = record {
  row = f.row;
  gate = record { 0 = nets + f.gate.0 };
  lo = record { 0 = nets + f.lo.0 };
  hi = record { 0 = nets + f.hi.0 };
  width = f.width;
}

-- the fingers of one side of all cells, the nets numbered cell after cell, after `nets` others
abbrev pub fingers_behind : (Fingers → List Finger) → ℕ → List RowCell → List Fingers → List Finger
fingers_behind side nets (c ∷ cs) (f ∷ fs) =
    map (behind nets) (side f) ++ fingers_behind side (nets + length c.nets) cs fs
fingers_behind side nets _ _ = []

abbrev pub fingers_of_row : List RowCell → List Fingers → Fingers
fingers_of_row cells fingers = record {
  nets = length (names_of_row cells);
  p = fingers_behind (λ (f : Fingers). f.p) 0 cells fingers;
  n = fingers_behind (λ (f : Fingers). f.n) 0 cells fingers;
}

-- the drawing of the cell extracts to the fingers, and its rails are two nets
pub record IsCircuit (c : RowCell) (fingers : Fingers) : Type 0 where
  pub extracts : ExtractsTo Plain c.nets fingers c.drawing.shapes
  pub rails : AreRails c.nets c.pins c.drawing
  pub differ : vdd_name c ≢ gnd_name c
