-- Where tracks go through the lines of a row, it has pieces on them, and the other way.
use Rattle.std.proofs.Common.{ℕ, ◌<◌, ◌≤◌, List, [], length, refl, arith, All}
use Rattle.std.proofs.lemmas.List.Sorted.{IsPermutation-refl}
use Rattle.cell_num.specs.declared.net.NetNo.{NetNo}
use Rattle.cell_num.specs.declared.net.Pins.{Pins}
use Rattle.row_model.specs.declared.column.Column.{Column}
use Rattle.row_model.specs.Arrangement.{IsColumn}
use Rattle.row_place.specs.Places.{placement_of}
use Rattle.row_place.specs.Trunks.{HasPins}
use Rattle.row_state.specs.declared.kind.Kinds.{Kinds}
use Rattle.row_state.specs.Completion.{Completes, left_in}
use Rattle.row_state.specs.Start.{AreSomeKinds, start_of}
use Rattle.track_ways.specs.Channel.{AreLinesOf}
use Rattle.track_ways.specs.Lines.{is_ahead}
use Rattle.track_ways.specs.Rows.{lines_of_row}
use Rattle.track_ways.proofs.Placed.{lines_placed}
use Rattle.track_ways.proofs.Sound.{few_columns}
use Rattle.track_search.specs.FewestBy.{TakeAtLeastBy}
use Rattle.track_search.specs.LimitBy.{HasTracksBy, IsFirstRowBy}
use Rattle.track_search.proofs.Least.{whole_row}
use Rattle.dogleg_route.specs.declared.piece.PieceRouting.{PieceRouting}
use Rattle.dogleg_route.specs.Routings.{ArePiecesLegal}
use Rattle.piece_lines.specs.Lines.{PieceLineFits, PieceSweeps}
use Rattle.piece_lines.specs.Within.{routing_on}
use Rattle.piece_lines.proofs.Fewest.{legal}
use Rattle.piece_lines.proofs.Listed.{Within, pieces_of_sweeps}
use Rattle.piece_lines.proofs.Swept.{legal_sweeps}
use Rattle.first_pieces.specs.First.{HasNoPieces}
use Rattle.piece_search.specs.Lowest.{IsFirstLowPieces, TakePiecesAtLeast}

-- those of a legal routing go through the lines
pub pieces_have : (pins : Pins) (limit : ℕ) (row : List Column) (r : PieceRouting) → All IsColumn row →
    length row ≤ 32 → ArePiecesLegal (placement_of row) pins r → r.tracks ≤ limit →
    HasTracksBy PieceLineFits pins limit row
pieces_have pins limit row r columns short legal le = record {
  track = λ net. 0;
  sweeps = legal_sweeps (placement_of row) pins (lines_of_row row) (lines_placed row columns short) r legal limit le
      (λ net. 0);
}

-- no row has tracks below a lower limit, so no legal routing has fewer
pub take_pieces : (pins : Pins) (k : Kinds) (gaps tracks : ℕ) → AreSomeKinds k →
    TakeAtLeastBy PieceLineFits pins k gaps tracks → TakePiecesAtLeast pins k gaps tracks
take_pieces pins k gaps tracks some least f row r kinds is few legal =
    least f row r.tracks kinds is few
    (pieces_have pins r.tracks row r is.columns (few_columns f k row kinds some is) legal (omega arith))

-- the first row with such tracks precedes each other one with a legal routing
pub first_low : (pins : Pins) (k : Kinds) (gaps tracks : ℕ) (row : List Column) → AreSomeKinds k →
    IsFirstRowBy PieceLineFits pins tracks k gaps row → IsFirstLowPieces pins k gaps tracks row
first_low pins k gaps tracks row some first f other r kinds is few legal le =
    first.first f other kinds is few
    (pieces_have pins tracks other r is.columns (few_columns f k other kinds some is) legal le)

-- the first row on the fewest tracks has a legal routing on exactly that many
pub has_pieces : (pins : Pins) (k : Kinds) (gaps tracks : ℕ) (row : List Column) → AreSomeKinds k →
    IsFirstRowBy PieceLineFits pins tracks k gaps row → TakeAtLeastBy PieceLineFits pins k gaps tracks →
    HasPins (placement_of row) pins → HasNoPieces (placement_of row) pins tracks → ⊥
has_pieces pins k gaps tracks row some first least pinned none =
    none (routing_on tracks pieces.list) (record {
      legal = legal (placement_of row) pins (lines_of_row row) lines tracks pieces.list pieces.are none_fewer;
      tracks = refl;
    })
  where
    whole : Completes k (start_of k) row
    whole = whole_row k row first.arranges

    lines : AreLinesOf (placement_of row) (lines_of_row row)
    lines = lines_placed row whole.columns (omega (arith, whole.fewest, some.few_columns))

    pieces : Within (placement_of row) pins tracks
    pieces = pieces_of_sweeps (placement_of row) pins (lines_of_row row) lines pinned tracks first.tracks.track
        first.tracks.sweeps

    none_fewer : (fewer : ℕ) (track : NetNo → ℕ) → fewer < tracks →
        PieceSweeps pins fewer (is_ahead []) track (lines_of_row row) → ⊥
    none_fewer fewer track less sweeps =
        let le : tracks ≤ fewer = least (left_in k (start_of k)) row fewer
        (record { nets = refl; p = IsPermutation-refl _; n = IsPermutation-refl _ }) whole first.within
        (record { track = track; sweeps = sweeps }) in
        absurd (omega (arith, less, le))
