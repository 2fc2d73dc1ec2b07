-- Every way of tracks through lines is listed.
use Rattle.std.proofs.Common.{ℕ, ◌≡◌, ◌||◌, Bool, true, List, [], ◌∷◌, sym, subst, All, ◌∙◌}
use Rattle.std.proofs.lemmas.List.Elements.{All-contains}
use Rattle.cell_num.specs.declared.net.NetNo.{NetNo}
use Rattle.cell_num.specs.declared.net.Pins.{Pins}
use Rattle.cell_num.proofs.In.{contains_flat}
use Rattle.cell_num.proofs.Lists.{all_from_contains, contains_here}
use Rattle.cell_num.proofs.Pairs.{Some', some_from_any}
use Rattle.track_ways.specs.declared.line.Line.{Line}
use Rattle.track_ways.specs.declared.track.NetTrack.{NetTrack}
use Rattle.track_ways.specs.Lines.{LineRule, Passes, PassesBy, has_place, is_ahead, is_open, with_line}
use Rattle.track_ways.specs.Tracks.{AreTracksOf}
use Rattle.track_ways.specs.Ways.{LineWays, open_of, pass_ways, pass_ways_by}
use Rattle.track_ways.specs.Rules.{IsRule}
use Rattle.track_ways.specs.Fillings.{kept}
use Rattle.track_ways.specs.StraightLaw.{straight_rule}
use Rattle.track_ways.proofs.LineParts.{first_of_lines}
pub use Rattle.track_ways.specs.Fillings.{all_pass, eqb_false, in_range, keeps, net_same}

-- the tracks of some nets
pub some_tracks : (pins : Pins) (before after : NetNo → Bool) (track : NetNo → ℕ) (tracks : List NetTrack) → AreTracksOf tracks track → AreTracksOf (open_of pins before after tracks) track
some_tracks pins before after track tracks have = all_from_contains (λ (t : NetTrack). track t.net ≡ t.track) (open_of pins before after tracks) (λ t at. All-contains (λ (t : NetTrack). track t.net ≡ t.track) tracks t have (kept (λ (t : NetTrack). is_open pins before after t.net) tracks t at).0)

pub pass_complete_by : {rule : LineRule} {ways : LineWays} → IsRule rule ways →
    (pins : Pins) (limit : ℕ) (nets : List NetNo) (before : NetNo → Bool) (track : NetNo → ℕ) (xs : List Line)
    (after : NetNo → Bool) (last : NetNo → ℕ) (tracks : List NetTrack) → AreTracksOf tracks track →
    PassesBy rule pins limit before track xs after last → Some' (λ way. AreTracksOf way last)
    (pass_ways_by ways pins limit nets before xs after tracks)
pass_complete_by r pins limit nets before track [] after last tracks have agrees = record {
  it = open_of pins before after tracks;
  there = contains_here (open_of pins before after tracks) [];
  holds = all_from_contains (λ (t : NetTrack). last t.net ≡ t.track) (open_of pins before after tracks) (λ t there. let k = kept (λ (t : NetTrack). is_open pins before after t.net) tracks t there in agrees t.net k.1 ∙ All-contains (λ (t : NetTrack). track t.net ≡ t.track) tracks t have k.0);
}
pass_complete_by {rule} {ways} r pins limit nets before track (line ∷ rest) after last tracks have (next, fits, more) =
    let later : NetNo → Bool = λ net. is_ahead rest net || after net in
    let going : List NetTrack = open_of pins before (λ net. is_ahead (line ∷ rest) net || after net) tracks in
    let open' : All (λ (t : NetTrack). is_open pins before (λ net. has_place line net || later net) t.net ≡ true) going =
    all_from_contains (λ (t : NetTrack). is_open pins before (λ net. has_place line net || later net) t.net ≡ true) going (λ t there.
    subst (λ (b : NetNo → Bool). is_open pins before b t.net ≡ true) (sym (first_of_lines line rest after)) (kept (λ (t : NetTrack). is_open pins before (λ net. is_ahead (line ∷ rest) net || after net) t.net) tracks t there).1) in
    let w : Some' (λ way. AreTracksOf way next) (ways pins limit nets before line later going) = some_from_any (λ way. AreTracksOf way next) (ways pins limit nets before line later going)
    (r.all pins limit nets before line later track next going (some_tracks pins before (λ net. is_ahead (line ∷ rest) net || after net) track tracks have) open' fits) in
    let tail : Some' (λ way. AreTracksOf way last) (pass_ways_by ways pins limit nets (with_line before line) rest after w.it) = pass_complete_by r pins limit nets (with_line before line) next rest after last w.it w.holds more in
    record {
      it = tail.it;
      there = contains_flat (pass_ways_by ways pins limit nets (with_line before line) rest after) (ways pins limit nets before line later going) w.it tail.it w.there tail.there;
      holds = tail.holds;
    }

-- where nets go straight
pub pass_complete : (pins : Pins) (limit : ℕ) (nets : List NetNo) (before : NetNo → Bool) (track : NetNo → ℕ)
    (xs : List Line) (after : NetNo → Bool) (last : NetNo → ℕ) (tracks : List NetTrack) → AreTracksOf tracks track →
    Passes pins limit before track xs after last → Some' (λ way. AreTracksOf way last)
    (pass_ways pins limit nets before xs after tracks)
pass_complete = pass_complete_by straight_rule
