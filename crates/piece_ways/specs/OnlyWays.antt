-- And all tracks that are listed are a way through the line.
use Rattle.std.proofs.Common.{ℕ, ◌≡◌, ◌<◌, ◌⊎◌, ◌&&◌, ◌||◌, not, Bool, true, false, List, [], Some, inl, inr, refl, sym}
use Rattle.std.proofs.Common.{ap, subst, Contains, filter, ◌∙◌}
use Rattle.std.proofs.lemmas.Bool.{and_from}
use Rattle.std.proofs.lemmas.List.Elements.{All-contains}
use Rattle.cell_num.specs.declared.net.NetNo.{NetNo}
use Rattle.cell_num.specs.declared.net.Pins.{Pins}
use Rattle.cell_num.specs.Pins.{is_rail}
use Rattle.cell_num.proofs.In.{in_flat, Piece}
use Rattle.cell_num.proofs.Lists.{all_from_contains}
use Rattle.track_ways.specs.declared.line.Line.{Line}
use Rattle.track_ways.specs.declared.track.NetTrack.{NetTrack}
use Rattle.track_ways.specs.Lines.{begins_or_ends, is_held, is_open, with_line}
use Rattle.track_ways.specs.Tracks.{AreTracksOf, IsSingle, Listed}
use Rattle.track_ways.specs.Ways.{fills, missing, test_beside}
use Rattle.track_ways.specs.Rules.{Among, IsWay}
use Rattle.track_ways.specs.Fillings.{each_listed, fills_keep, is_missing, keeps, kept, look, look_is, net_same}
use Rattle.track_ways.specs.Beside.{AreTwo, Fit, alike, test_fit}
use Rattle.piece_lines.specs.Lines.{IsOn, PieceLineFits, may_turn}
use Rattle.piece_ways.specs.PieceWays.{goes_on, into_ways, is_straight, out_ways, piece_line_ways, straight_of}

-- lists of tracks into a line and out of it, and what they have
record AtLine (pins : Pins) (limit : ℕ) (before : NetNo → Bool) (line : Line) (after : NetNo → Bool)
    (tracks into way : List NetTrack) : Type 0 where
  pub kept' : (t : NetTrack) → Contains tracks t → Contains into t
  pub single : IsSingle into
  pub one : IsSingle way
  pub each : (net : NetNo) → is_held pins before line after net ≡ true → (before net ≡ false) ⊎ (after net ≡ true) →
      Listed way net
  pub fits : (comes goes : NetNo → ℕ) → AreTracksOf into comes → AreTracksOf way goes →
      PieceLineFits pins limit comes before line after goes

-- a piece at a line, as it is listed
record Found (into way : List NetTrack) (net : NetNo) (track : ℕ) : Type 0 where
  pub it : NetTrack
  pub there : Contains into it ⊎ Contains way it
  pub of : it.net ≡ net
  pub is : it.track ≡ track

found_in : (into way : List NetTrack) (f : NetNo → ℕ) (list : List NetTrack) (net : NetNo) (track : ℕ) →
    ((t : NetTrack) → Contains list t → Contains into t ⊎ Contains way t) → AreTracksOf list f → Listed list net →
    track ≡ f net → Found into way net track
found_in into way f list net track within have l is = record {
  it = l.it;
  there = within l.it l.there;
  of = l.is;
  is = sym (All-contains (λ (t : NetTrack). f t.net ≡ t.track) list l.it have l.there) ∙ ap f l.is ∙ sym is;
}

-- listed pieces of two nets are apart, on whichever side of the line
pair_apart : (limit : ℕ) (line : Line) (into way : List NetTrack) → Fit limit line [] into → Fit limit line into way →
    (t u : NetTrack) → Contains into t ⊎ Contains way t → Contains into u ⊎ Contains way u → AreTwo line t u
pair_apart limit line into way f g t u (inl a) (inl b) = f.two t u a b
pair_apart limit line into way f g t u (inl a) (inr b) = (g.beside u t b a).1
pair_apart limit line into way f g t u (inr a) (inl b) = (g.beside t u a b).0
pair_apart limit line into way f g t u (inr a) (inr b) = g.two t u a b

-- lists that fit on both sides give pieces that fit the line
lists_fit : (pins : Pins) (limit : ℕ) (before : NetNo → Bool) (line : Line) (after : NetNo → Bool)
    (into way : List NetTrack) (comes goes : NetNo → ℕ) → Fit limit line [] into → Fit limit line into way →
    AreTracksOf into comes → AreTracksOf way goes
    → ((net : NetNo) → is_held pins before line after net ≡ true → before net ≡ true → Listed into net)
    → ((net : NetNo) → is_held pins before line after net ≡ true → (before net ≡ false) ⊎ (after net ≡ true) →
    Listed way net)
    → ((net : NetNo) → is_open pins before after net ≡ true → may_turn line net ≡ false → goes net ≡ comes net)
    → PieceLineFits pins limit comes before line after goes
lists_fit pins limit before line after into way comes goes f g from to in_into in_way straight = record {
  low = λ net track o. let p : Found into way net track = found net track o in
      subst (λ m. m < limit) p.is (low p.it p.there);
  apart = λ a b track o q. let p : Found into way a track = found a track o in
      let r : Found into way b track = found b track q in sym p.of ∙ alike line p.it r.it
      (pair_apart limit line into way f g p.it r.it p.there r.there) (p.is ∙ sym r.is) ∙ r.of;
  above = λ upper lower high low' top bottom differ o q.
      let p : Found into way upper high = found upper high o in
      let r : Found into way lower low' = found lower low' q in
      subst (λ m. m < high) r.is (subst (λ m. r.it.track < m) p.is
      ((pair_apart limit line into way f g p.it r.it p.there r.there).above (λ e. differ (sym p.of ∙ e ∙ r.of))
      (top ∙ ap (λ n. Some n) (sym p.of)) (bottom ∙ ap (λ n. Some n) (sym r.of))));
  straight = straight;
}
  where
    low : (t : NetTrack) → Contains into t ⊎ Contains way t → t.track < limit
    low t (inl a) = f.low t a
    low t (inr a) = g.low t a

    found : (net : NetNo) (track : ℕ) → IsOn pins before line after comes goes net track → Found into way net track
    found net track o = by o.piece
      where
        by : ((before net ≡ true) × (track ≡ comes net)) ⊎ (((before net ≡ false) ⊎ (after net ≡ true)) ×
            (track ≡ goes net)) → Found into way net track
        by (inl (early, is)) = found_in into way comes into net track (λ t at. inl at) from (in_into net o.held early)
            is
        by (inr (further, is)) = found_in into way goes way net track (λ t at. inr at) to (in_way net o.held further) is

at_line : (pins : Pins) (limit : ℕ) (nets : List NetNo) (before : NetNo → Bool) (line : Line) (after : NetNo → Bool)
    (tracks into way : List NetTrack) → Among nets (with_line before line) →
    Contains (into_ways pins limit nets before line after tracks) into →
    Contains (out_ways pins limit nets before line after into) way → AtLine pins limit before line after tracks into way
at_line pins limit nets before line after tracks into way among at_into at_way = record {
  kept' = λ t at. fills_keep limit (filter before (missing pins before line after nets tracks)) tracks into t in_into.0
      at;
  single = λ t u at also e. f.same t u at also (net_same t.net u.net e);
  one = λ t u at also e. g.same t u at also (net_same t.net u.net e);
  each = each;
  fits = λ comes goes from to. lists_fit pins limit before line after into way comes goes f g from to early each
      (straight comes goes from to);
}
  where
    kept_tracks : List NetTrack
    kept_tracks = straight_of pins before line after into

    in_into : Contains (fills limit (filter before (missing pins before line after nets tracks)) tracks) into ×
        (test_beside limit line [] into ≡ true)
    in_into = kept (test_beside limit line []) (fills limit (filter before (missing pins before line after nets tracks))
        tracks) into at_into

    in_way : Contains (fills limit (filter (goes_on pins before after)
        (missing pins before line after nets kept_tracks)) kept_tracks) way × (test_beside limit line into way ≡ true)
    in_way = kept (test_beside limit line into) (fills limit (filter (goes_on pins before after)
        (missing pins before line after nets kept_tracks)) kept_tracks) way at_way

    f : Fit limit line [] into
    f = test_fit limit line [] into in_into.1

    g : Fit limit line into way
    g = test_fit limit line into way in_way.1

    early : (net : NetNo) → is_held pins before line after net ≡ true → before net ≡ true → Listed into net
    early net h b = each_listed limit (filter before (missing pins before line after nets tracks)) tracks into net
        in_into.0 (λ e. keeps before (missing pins before line after nets tracks) net
        (is_missing pins before line after nets tracks net among h e) b)

    further : (b r a q : Bool) → (r && q) ≡ true → (b ≡ false) ⊎ (a ≡ true) → (not b || (r && (b && a))) ≡ true
    further false r a q h e = refl
    further true true true q h e = refl
    further true true false q h (inl e) = absurd cc
    further true true false q h (inr e) = absurd cc
    further true false a q h e = absurd cc

    each : (net : NetNo) → is_held pins before line after net ≡ true → (before net ≡ false) ⊎ (after net ≡ true) →
        Listed way net
    each net h e =
        each_listed limit (filter (goes_on pins before after) (missing pins before line after nets kept_tracks))
        kept_tracks way net in_way.0 (λ none.
        keeps (goes_on pins before after) (missing pins before line after nets kept_tracks) net
        (is_missing pins before line after nets kept_tracks net among h none)
        (further (before net) (not (is_rail pins net)) (after net)
        ((before net && after net) || begins_or_ends pins before line after net) h e))

    open_held : (r b a q : Bool) → (r && (b && a)) ≡ true → ((r && ((b && a) || q)) ≡ true) × (b ≡ true)
    open_held true true true q e = (refl, refl)
    open_held true true false q e = absurd cc
    open_held true false a q e = absurd cc
    open_held false b a q e = absurd cc

    straight : (comes goes : NetNo → ℕ) → AreTracksOf into comes → AreTracksOf way goes → (net : NetNo) →
        is_open pins before after net ≡ true → may_turn line net ≡ false → goes net ≡ comes net
    straight comes goes from to net o turns =
        let h = open_held (not (is_rail pins net)) (before net) (after net) (begins_or_ends pins before line after net)
        o in
        let l : Listed into net = early net h.0 h.1 in
        let is : is_straight pins before line after l.it.net ≡ true = subst
        (λ z. is_straight pins before line after z ≡ true) (sym l.is)
        (and_from (is_open pins before after net) (not (may_turn line net)) o (ap not turns)) in
        let at : Contains way l.it = fills_keep limit (filter (goes_on pins before after)
        (missing pins before line after nets kept_tracks)) kept_tracks way l.it in_way.0
        (keeps (λ (t : NetTrack). is_straight pins before line after t.net) into l.it l.there is) in
        subst (λ z. goes z ≡ comes z) l.is (All-contains (λ (t : NetTrack). goes t.net ≡ t.track) way l.it to at ∙ sym
        (All-contains (λ (t : NetTrack). comes t.net ≡ t.track) into l.it from l.there))

pub only_ways : (pins : Pins) (limit : ℕ) (nets : List NetNo) (before : NetNo → Bool) (line : Line)
    (after : NetNo → Bool) (tracks way : List NetTrack) → Among nets (with_line before line) →
    Contains (piece_line_ways pins limit nets before line after tracks) way →
    IsWay PieceLineFits pins limit before line after tracks way
only_ways pins limit nets before line after tracks way among there =
    let p : Piece (out_ways pins limit nets before line after) (into_ways pins limit nets before line after tracks) way
    = in_flat (out_ways pins limit nets before line after) (into_ways pins limit nets before line after tracks) way
    there in
    let a : AtLine pins limit before line after tracks p.of way = at_line pins limit nets before line after tracks p.of
    way among p.listed p.inside in
    record {
      one = a.one;
      each = a.each;
      from = λ next have. (
        look p.of,
        all_from_contains (λ (t : NetTrack). look p.of t.net ≡ t.track) tracks
            (λ t at. look_is p.of t a.single (a.kept' t at)),
        a.fits (look p.of) next (all_from_contains (λ (t : NetTrack). look p.of t.net ≡ t.track) p.of
            (λ t at. look_is p.of t a.single at)) have,
      );
    }
