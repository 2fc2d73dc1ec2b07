-- Why cells can't be side by side.
use Rattle.std.specs.Prelude.{ℕ, ◌≡◌, ◌+◌, ◌==◌, ◌||◌, not, nat_lt, Bool, List, [], ◌∷◌, drop, find, position}
use Rattle.std.specs.Prelude.{Option, Some, None, option_map}
use Rattle.std.specs.List.{zip}
use Rattle.row_abut.specs.declared.cell.RowCell.{RowCell}
use Rattle.row_abut.specs.Measures.{CHANNEL_ROOM}

abbrev pub first_height : List RowCell → ℕ
first_height [] = 0
first_height (c ∷ cs) = c.drawing.height

-- the height of the first cell that is not so high
abbrev pub other_height : ℕ → List RowCell → Option ℕ
other_height first cells =
    option_map (λ (c : RowCell). c.drawing.height) (find (λ (c : RowCell). not (c.drawing.height == first)) cells)

-- a cell is not as high as the first one
pub record DifferInHeight (cells : List RowCell) (first other : ℕ) : Type 0 where
  pub given : first ≡ first_height cells
  pub found : other_height (first_height cells) cells ≡ Some other

-- the N edge of one is too high for the P edge of the other
abbrev pub clash : RowCell × RowCell → Bool
clash pair =
    nat_lt pair.1.edges.p (pair.0.edges.n + CHANNEL_ROOM) || nat_lt pair.0.edges.p (pair.1.edges.n + CHANNEL_ROOM)

-- the number of the first cell that clashes with the next one
abbrev pub first_clash : List RowCell → Option ℕ
first_clash cells = position clash (zip cells (drop 1 cells))

-- all are of one height, and these two are the first neighbours that clash
pub record ClashInChannel (cells : List RowCell) (left right : ℕ) : Type 0 where
  pub even : other_height (first_height cells) cells ≡ None
  pub found : first_clash cells ≡ Some left
  pub next : right ≡ left + 1
