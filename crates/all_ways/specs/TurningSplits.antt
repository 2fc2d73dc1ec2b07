-- Where nets may turn, those without a track into a line may get theirs one by one.
use Rattle.std.proofs.Common.{ℕ, ◌≡◌, Bool, true, List, [], sym, ap, subst, arith, Contains, filter}
use Rattle.std.proofs.Common.{◌∙◌}
use Rattle.std.specs.List.{flat_map}
use Rattle.std.proofs.lemmas.List.Sums.{count_by-le-length, length-filter}
use Rattle.cell_num.specs.declared.net.NetNo.{NetNo}
use Rattle.cell_num.specs.declared.net.Pins.{Pins}
use Rattle.track_ways.specs.declared.line.Line.{Line}
use Rattle.track_ways.specs.declared.track.NetTrack.{NetTrack}
use Rattle.track_ways.specs.Fillings.{keeps, kept}
use Rattle.track_ways.specs.Ways.{fills, missing, nets_below, ways_beside}
use Rattle.track_ways.proofs.Listing.{none_fit}
use Rattle.track_ways.proofs.Steps.{empty}
use Rattle.piece_ways.specs.PieceWays.{into_ways, out_ways, piece_line_ways}
use Rattle.all_ways.specs.Filled.{beside_filled, flat_flat, flat_same, missing_few, not_missing}
use Rattle.all_ways.specs.Splits.{NoneUnfit, SplitsAt}

pub turning_unfit : NoneUnfit piece_line_ways
turning_unfit pins limit nets before line after tracks unfit =
    ap (flat_map (out_ways pins limit nets before line after)) (none_fit limit line [] (filter before (missing pins
    before line after nets tracks)) tracks unfit)

into_each : (pins : Pins) (limit : ℕ) (nets : List NetNo) (before : NetNo → Bool) (line : Line) (after : NetNo → Bool)
    (tracks : List NetTrack)
    → into_ways pins limit nets before line after tracks ≡ flat_map (into_ways pins limit nets before line after)
    (fills limit (filter before (missing pins before line after nets tracks)) tracks)
into_each pins limit nets before line after tracks =
    beside_filled limit line (filter before (missing pins before line after nets tracks)) tracks
    ∙ flat_same (λ more. ways_beside limit line [] [] more) (into_ways pins limit nets before line after) (fills limit
    (filter before (missing pins before line after nets tracks)) tracks) (λ more filled.
    ap (λ ns. ways_beside limit line [] ns more) (sym (empty (filter before (missing pins before line after nets
    more)) (λ net at.
    let still : Contains (missing pins before line after nets more) net × (before net ≡ true) = kept before
    (missing pins before line after nets more) net at in
    not_missing pins limit nets before line after (filter before (missing pins before line after nets tracks))
    tracks more net (λ there. keeps before (missing pins before line after nets tracks) net there still.1)
    filled still.0))))

-- those with a place before the line and no track into it
pub turning_splits : (pins : Pins) (nets : ℕ) (before : NetNo → Bool) (line : Line) (after : NetNo → Bool) (tracks :
    List NetTrack) (split : List NetNo)
    → split ≡ filter before (missing pins before line after (nets_below nets) tracks) → SplitsAt piece_line_ways pins
    nets before line after tracks split
turning_splits pins nets before line after tracks split is = subst (SplitsAt piece_line_ways pins nets before line
    after tracks) (sym is) (record {
      each = λ limit.
          ap (flat_map (out_ways pins limit (nets_below nets) before line after)) (into_each pins limit
          (nets_below nets)
          before line after tracks)
          ∙ flat_flat (out_ways pins limit (nets_below nets) before line after) (into_ways pins limit (nets_below nets)
          before line after) (fills limit (filter before (missing pins before line after (nets_below nets) tracks))
          tracks);
      few = omega (
        arith,
        length-filter before (missing pins before line after (nets_below nets) tracks),
        count_by-le-length before (missing pins before line after (nets_below nets) tracks),
        missing_few pins nets
            before line after tracks,
      );
    })
