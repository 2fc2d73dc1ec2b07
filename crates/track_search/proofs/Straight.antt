-- Where nets go straight, rows with tracks are those with legal routings.
use Rattle.std.proofs.Common.{ℕ, ◌≤◌, List, [], length, arith, All}
use Rattle.cell_num.specs.declared.finger.Row.{Row}
use Rattle.cell_num.specs.declared.net.Pins.{Pins}
use Rattle.row_model.specs.declared.column.Column.{Column}
use Rattle.row_model.specs.Arrangement.{IsColumn}
use Rattle.row_place.specs.Places.{placement_of}
use Rattle.channel_route.specs.declared.routing.Routing.{Routing}
use Rattle.channel_route.specs.Routing.{IsLegal}
use Rattle.row_state.specs.declared.kind.Kinds.{Kinds}
use Rattle.row_state.specs.declared.state.State.{State}
use Rattle.row_state.specs.Completion.{Completes}
use Rattle.row_state.specs.Start.{AreSomeKinds, start_of}
use Rattle.row_state.proofs.Unfold.{columns_same}
use Rattle.track_ways.specs.Channel.{AreLinesOf}
use Rattle.track_ways.specs.Lines.{StraightFits, is_ahead}
use Rattle.track_ways.specs.Rows.{lines_of_row}
use Rattle.track_ways.specs.StraightLaw.{straight_rule}
use Rattle.track_ways.proofs.Least.{routing_sweep}
use Rattle.track_ways.proofs.Legal.{legal_within}
use Rattle.track_ways.proofs.LineParts.{sweeps_wider}
use Rattle.track_ways.proofs.Placed.{lines_placed}
use Rattle.track_ways.proofs.Tracks.{OneTrack, one_track}
use Rattle.track_search.specs.declared.fewest.Fewest.{Fewest}
use Rattle.track_search.specs.declared.fewest.Fewest.TheVariants as fewest
use Rattle.track_search.specs.declared.limit.Limit.{Limit}
use Rattle.track_search.specs.declared.limit.Limit.TheVariants as ended
use Rattle.track_search.specs.Fewest.{IsFewest}
use Rattle.track_search.specs.FewestBy.{IsFewestBy}
use Rattle.track_search.specs.Limit.{HasTracks, IsEnd, IsFirstRow}
use Rattle.track_search.specs.LimitBy.{HasTracksBy, IsEndBy, IsFirstRowBy}
use Rattle.track_search.proofs.Least.{whole_row}

-- tracks line by line are one track for each net
one_for_each : (pins : Pins) (limit : ℕ) (row : List Column) → All IsColumn row → length row ≤ 32 → HasTracksBy StraightFits pins limit row → HasTracks pins limit row
one_for_each pins limit row columns short has =
    let lines : AreLinesOf (placement_of row) (lines_of_row row) = lines_placed row columns short in
    let one : OneTrack pins limit (is_ahead []) has.track (lines_of_row row) = one_track pins limit (is_ahead []) has.track (lines_of_row row) has.sweeps in
    record {
      track = one.of;
      fits = one.fits;
      legal = λ trunks are. legal_within (placement_of row) pins (lines_of_row row) lines one.of trunks limit are one.fits;
    }

-- those of a legal routing go through the lines
legal_has : (pins : Pins) (limit : ℕ) (row : List Column) (r : Routing) → All IsColumn row → length row ≤ 32 → IsLegal (placement_of row) pins r → r.tracks ≤ limit → HasTracksBy StraightFits pins limit row
legal_has pins limit row r columns short legal le = record {
  track = λ net. 0;
  sweeps = sweeps_wider StraightFits straight_rule.wider pins r.tracks limit (is_ahead []) (λ net. 0) (lines_of_row row) le
      (routing_sweep (placement_of row) pins (lines_of_row row) (lines_placed row columns short) r legal (λ net. 0));
}

straight_row : (pins : Pins) (limit : ℕ) (k : Kinds) (gaps : ℕ) (row : List Column) → AreSomeKinds k → IsFirstRowBy StraightFits pins limit k gaps row → IsFirstRow pins limit k gaps row
straight_row pins limit k gaps row some h =
    let whole : Completes k (start_of k) row = whole_row k row h.arranges in
    record {
      arranges = h.arranges;
      within = h.within;
      tracks = one_for_each pins limit row whole.columns (omega (arith, whole.fewest, some.few_columns)) h.tracks;
      first = λ f other r kinds arranges few legal le. h.first f other kinds arranges few
          (legal_has pins limit other r arranges.columns (omega (arith, arranges.fewest, columns_same f k kinds, some.few_columns)) legal le);
    }

pub straight_end : (value : Row → State → Kinds → ℕ) (pins : Pins) (limit : ℕ) (k : Kinds) (gaps : ℕ) (e : Limit) → AreSomeKinds k → IsEndBy StraightFits value pins limit k gaps e → IsEnd value pins limit k gaps e
straight_end value pins limit k gaps (ended.Found row) some h = straight_row pins limit k gaps row some h
straight_end value pins limit k gaps (ended.Refuted lemmas) some h = h
straight_end value pins limit k gaps ended.Spent some h = tt

pub straight_fewest : (value : Row → State → Kinds → ℕ) (pins : Pins) (k : Kinds) (gaps : ℕ) (e : Fewest) → AreSomeKinds k → IsFewestBy StraightFits value pins k gaps e → IsFewest value pins k gaps e
straight_fewest value pins k gaps (fewest.Found row tracks lemmas) some h = record { first = straight_row pins tracks k gaps row some h.first; proved = h.proved }
straight_fewest value pins k gaps (fewest.Open proved lemmas) some h = h
