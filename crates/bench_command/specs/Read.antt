-- What reading makes of a generated cell.
use Rattle.std.specs.Prelude.{ℕ, ◌≡◌, ◌≤◌, List, length, All, Ok}
use Rattle.cell_num.specs.declared.finger.Fingers.{Fingers}
use Rattle.cell_num.specs.Fingers.{columns_of, on_gate}
use Rattle.tech_file.specs.Technology.{plain}
use Rattle.spice_net.specs.declared.subckt.Subckt.{Subckt}
use Rattle.spice_net.specs.Subcircuit.{subcircuit}
use Rattle.finger_fold.specs.Folding.{folded}
use Rattle.bench_command.specs.Text.{bench_text, cell_name}

-- the most columns of a generated cell
abbrev pub most_cell_columns : ℕ
most_cell_columns = 10

-- In the text of that many generated cells the cell is read, and its transistors fold into fingers of few columns. Each
-- gate has a finger in both rows or none.
pub record IsRead (number cell : ℕ) : Type 0 where
  pub subckt : Subckt
  pub fingers : Fingers
  pub read : subcircuit (bench_text number) (cell_name cell) plain ≡ Ok subckt
  pub fold : folded plain subckt ≡ Ok fingers
  pub few : columns_of fingers ≤ most_cell_columns
  pub single : (gate : ℕ) → on_gate gate fingers.p ≤ 1
  pub paired : (gate : ℕ) → on_gate gate fingers.n ≡ on_gate gate fingers.p

-- The name of a generated cell: at most 21 printable bytes.
pub record IsCellName (name : List ℕ) : Type 0 where
  pub some : 1 ≤ length name
  pub few : length name ≤ 21
  pub printable : All (λ byte. (33 ≤ byte) × (byte ≤ 126)) name
