-- The rows that are drawn.
use Rattle.std.specs.Prelude.{ℕ, ◌≡◌, ◌+◌, ◌*◌, ◌≤◌, ◌<◌, List, length}
use Rattle.cell_num.specs.declared.net.Pins.{Pins}
use Rattle.cell_num.specs.declared.finger.Fingers.{Fingers}
use Rattle.cell_num.specs.Fingers.{AreSound}
use Rattle.row_model.specs.declared.column.Column.{Column}
use Rattle.row_model.specs.Arrangement.{IsArrangement}
use Rattle.row_place.specs.declared.placement.Placement.{Placement}
use Rattle.row_compact.specs.Solution.{x_of}
use Rattle.row_compact.specs.Measures.{SIDE_SPACE, LINE_SPACE}

-- the row arranges fingers that are sound for the names and the pins, over at most 256 nets
pub record IsSoundRow (names : List (List ℕ)) (pins : Pins) (row : List Column) : Type 0 where
  pub fingers : Fingers
  pub sound : AreSound names pins fingers
  pub few_nets : fingers.nets ≤ 256
  pub arranged : IsArrangement row fingers

-- A position for each line of the placement, clear of the left side and of the line before.
pub record AreLines (placement : Placement) (xs : List ℕ) : Type 0 where
  pub lines : length xs ≡ 2 * length placement.units + 1
  pub first : SIDE_SPACE ≤ x_of xs 0
  pub next : (line : ℕ) → line < 2 * length placement.units → x_of xs line + LINE_SPACE ≤ x_of xs (line + 1)
