-- The heights of a cell. The widest finger of a row decides its height; the tracks, or a given height of
-- the cell, that of the channel.
use Rattle.std.specs.Prelude.{ℕ, ◌+◌, ◌*◌, ◌-◌, ◌<◌, ◌≢◌, max, fold, List, Option, Some, None}
use Rattle.cell_num.specs.declared.finger.Row.{Row}
use Rattle.cell_num.specs.declared.finger.Row.TheVariants.{P, N}
use Rattle.row_model.specs.declared.column.Placed.{Placed}
use Rattle.row_model.specs.declared.column.Column.{Column}
use Rattle.row_model.specs.Arrangement.{place}
use Rattle.cell_draw.specs.Measures.{ROW_EDGE, LEAST_ROW, EDGE_SPACE, LEAST_CHANNEL, TRACK_PITCH}
use Rattle.cell_draw.specs.declared.layout.Frame.{Frame}

abbrev pub wider : ℕ → Option Placed → ℕ
wider most None = most
wider most (Some x) = max most x.finger.width

-- the greatest finger width of a row, at least that of a pad
abbrev pub height_of : Row → List Column → ℕ
height_of row columns = fold (λ most column. wider most (place row column)) LEAST_ROW columns

-- the height of the channel: one track, and the pitch for each further one
abbrev pub channel_of : ℕ → ℕ
channel_of tracks = LEAST_CHANNEL + TRACK_PITCH * (tracks - 1)

-- where the channel begins, above the fingers of the N row
abbrev pub channel_edge : List Column → ℕ
channel_edge row = ROW_EDGE + height_of N row

-- the least height of the cell
abbrev pub needed_of : List Column → ℕ → ℕ
needed_of row tracks = ROW_EDGE + height_of N row + channel_of tracks + height_of P row + ROW_EDGE

-- the height is given, and is not enough
abbrev pub IsTooTall : List Column → ℕ → ℕ → Type 0
IsTooTall row tracks height = (height ≢ 0) × (height < needed_of row tracks)

-- The channel takes what the given height has to spare; the height 0 leaves it at the least.
abbrev pub frame_of : List Column → ℕ → ℕ → ℕ → Frame
frame_of row tracks height width = record {
  n_height = height_of N row;
  p_height = height_of P row;
  n_edge = ROW_EDGE + height_of N row;
  p_edge = ROW_EDGE + height_of N row + channel_of tracks + (height - needed_of row tracks);
  width = width;
}

abbrev pub track_y : Frame → ℕ → ℕ
track_y f j = f.n_edge + EDGE_SPACE + TRACK_PITCH * j
