-- Where nets go straight, those without a track at a line may get theirs one by one.
use Rattle.std.proofs.Common.{ℕ, ◌≡◌, Bool, List, [], sym, ap, subst}
use Rattle.std.proofs.Common.{◌∙◌}
use Rattle.std.specs.List.{flat_map}
use Rattle.cell_num.specs.declared.net.NetNo.{NetNo}
use Rattle.cell_num.specs.declared.net.Pins.{Pins}
use Rattle.track_ways.specs.declared.line.Line.{Line}
use Rattle.track_ways.specs.declared.track.NetTrack.{NetTrack}
use Rattle.track_ways.specs.Ways.{fills, line_ways, missing, nets_below, ways_beside}
use Rattle.track_ways.proofs.Listing.{none_fit, ways_alone}
use Rattle.track_ways.proofs.Steps.{empty}
use Rattle.all_ways.specs.Filled.{beside_filled, flat_same, missing_few, not_missing}
use Rattle.all_ways.specs.Splits.{NoneUnfit, SplitsAt}

pub straight_unfit : NoneUnfit line_ways
straight_unfit pins limit nets before line after tracks unfit =
    sym (ways_alone limit line (missing pins before line after nets tracks) tracks) ∙ none_fit limit line [] (missing
    pins before line after nets tracks) tracks unfit

pub straight_each : (pins : Pins) (limit : ℕ) (nets : List NetNo) (before : NetNo → Bool) (line : Line) (after : NetNo
    → Bool) (tracks : List NetTrack)
    → line_ways pins limit nets before line after tracks ≡ flat_map (line_ways pins limit nets before line after)
    (fills limit (missing pins before line after nets tracks) tracks)
straight_each pins limit nets before line after tracks =
    sym (ways_alone limit line (missing pins before line after nets tracks) tracks)
    ∙ beside_filled limit line (missing pins before line after nets tracks) tracks
    ∙ flat_same (λ more. ways_beside limit line [] [] more) (line_ways pins limit nets before line after) (fills limit
    (missing pins before line after nets tracks) tracks) (λ more there.
    ap (λ ns. ways_beside limit line [] ns more) (sym (empty (missing pins before line after nets more) (λ net at.
    not_missing pins limit nets before line after (missing pins before line after nets tracks) tracks more net (λ
    there. there) there at)))
    ∙ ways_alone limit line (missing pins before line after nets more) more)

-- those without a track
pub straight_splits : (pins : Pins) (nets : ℕ) (before : NetNo → Bool) (line : Line) (after : NetNo → Bool) (tracks :
    List NetTrack) (split : List NetNo)
    → split ≡ missing pins before line after (nets_below nets) tracks → SplitsAt line_ways pins nets before line after
    tracks split
straight_splits pins nets before line after tracks split is = subst (SplitsAt line_ways pins nets before line after
    tracks) (sym is) (record {
      each = λ limit. straight_each pins limit (nets_below nets) before line after tracks;
      few = missing_few pins nets before line after tracks;
    })
