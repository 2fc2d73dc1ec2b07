-- Every way of tracks through a line where nets may turn is listed.
use Rattle.std.proofs.Common.{ℕ, ◌≡◌, ◌<◌, ◌⊎◌, ◌&&◌, ◌||◌, not, Bool, true, false, List, [], inl, inr, refl, sym, ap}
use Rattle.std.proofs.Common.{subst, All, Any, Contains, filter, ◌∙◌}
use Rattle.std.proofs.lemmas.Bool.{and_parts}
use Rattle.std.proofs.lemmas.List.Elements.{All-contains}
use Rattle.cell_num.specs.declared.net.NetNo.{NetNo}
use Rattle.cell_num.specs.declared.net.Pins.{Pins}
use Rattle.cell_num.specs.Pins.{is_rail}
use Rattle.cell_num.proofs.In.{contains_flat}
use Rattle.cell_num.proofs.Lists.{all_from_contains, contains_none}
use Rattle.cell_num.proofs.Pairs.{Some', any_from_some}
use Rattle.track_ways.specs.declared.line.Line.{Line}
use Rattle.track_ways.specs.declared.track.NetTrack.{NetTrack}
use Rattle.track_ways.specs.Lines.{has_place, is_held, is_open}
use Rattle.track_ways.specs.Tracks.{AreTracksOf}
use Rattle.track_ways.specs.Ways.{fills, missing, on_track, test_beside}
use Rattle.track_ways.specs.Fillings.{filled, keeps, kept, missing_holds, open_holds}
use Rattle.track_ways.specs.Beside.{AreSame, AreTwo, Fit, fit_test}
use Rattle.piece_lines.specs.Lines.{IsOn, PieceLineFits, may_turn}
use Rattle.piece_ways.specs.PieceWays.{goes_on, into_ways, is_straight, out_ways, piece_line_ways, straight_of}

same_of : (f : NetNo → ℕ) (tracks : List NetTrack) → AreTracksOf tracks f → (t u : NetTrack) → Contains tracks t →
    Contains tracks u → AreSame t u
same_of f tracks have t u at also e = sym (All-contains (λ (z : NetTrack). f z.net ≡ z.track) tracks t have at) ∙ ap f e
    ∙ All-contains (λ (z : NetTrack). f z.net ≡ z.track) tracks u have also

-- a listed track is that of a piece at the line
abbrev IsPieceAt : Pins → (NetNo → Bool) → Line → (NetNo → Bool) → (NetNo → ℕ) → (NetNo → ℕ) → NetTrack → Type 0
IsPieceAt pins before line after into out t = IsOn pins before line after into out t.net t.track

-- pieces at a line that fit it do so as lists
fit_of : (pins : Pins) (limit : ℕ) (into : NetNo → ℕ) (before : NetNo → Bool) (line : Line) (after : NetNo → Bool)
    (out f : NetNo → ℕ) (others tracks : List NetTrack) → PieceLineFits pins limit into before line after out →
    AreTracksOf tracks f → ((t : NetTrack) → Contains tracks t → IsPieceAt pins before line after into out t) →
    ((t : NetTrack) → Contains others t → IsPieceAt pins before line after into out t) → Fit limit line others tracks
fit_of pins limit into before line after out f others tracks fits have on on' = record {
  low = λ t at. fits.low t.net t.track (on t at);
  same = same_of f tracks have;
  two = λ t u at also. two t u (on t at) (on u also);
  beside = λ t u at also. (two t u (on t at) (on' u also), two u t (on' u also) (on t at));
}
  where
    two : (t u : NetTrack) → IsPieceAt pins before line after into out t → IsPieceAt pins before line after into out u →
        AreTwo line t u
    two t u p q = record {
      apart = λ other e. other (fits.apart t.net u.net t.track p
          (subst (λ m. IsOn pins before line after into out u.net m) (sym e) q));
      above = λ other top bottom. fits.above t.net u.net t.track u.track top bottom other p q;
    }

-- a net that comes to the line, on its track
record Comes (pins : Pins) (before : NetNo → Bool) (line : Line) (after : NetNo → Bool) (into : NetNo → ℕ)
    (t : NetTrack) : Type 0 where
  pub is : into t.net ≡ t.track
  pub early : before t.net ≡ true
  pub held : is_held pins before line after t.net ≡ true

-- and one that goes on from it
record Goes (pins : Pins) (before : NetNo → Bool) (line : Line) (after : NetNo → Bool) (out : NetNo → ℕ) (t : NetTrack)
    : Type 0 where
  pub is : out t.net ≡ t.track
  pub further : (before t.net ≡ false) ⊎ (after t.net ≡ true)
  pub held : is_held pins before line after t.net ≡ true

record IntoWay (pins : Pins) (limit : ℕ) (nets : List NetNo) (before : NetNo → Bool) (line : Line)
    (after : NetNo → Bool) (into : NetNo → ℕ) (tracks : List NetTrack) : Type 0 where
  pub way : List NetTrack
  pub there : Contains (into_ways pins limit nets before line after tracks) way
  pub all : All (Comes pins before line after into) way

into_complete : (pins : Pins) (limit : ℕ) (nets : List NetNo) (before : NetNo → Bool) (line : Line)
    (after : NetNo → Bool) (into out : NetNo → ℕ) (tracks : List NetTrack) →
    All (Comes pins before line after into) tracks → PieceLineFits pins limit into before line after out →
    IntoWay pins limit nets before line after into tracks
into_complete pins limit nets before line after into out tracks all fits = record
    { way = way; there = there; all = fill.holds }
  where
    new : List NetNo
    new = filter before (missing pins before line after nets tracks)

    comes : (net : NetNo) → Contains new net → Comes pins before line after into (on_track net (into net))
    comes net at =
        let m = kept before (missing pins before line after nets tracks) net at in
        record { is = refl; early = m.1; held = missing_holds pins before line after nets tracks net m.0 }

    low : (net : NetNo) → Contains new net → into net < limit
    low net at = fits.low net (into net) (record {
      held = (comes net at).held;
      piece = inl ((comes net at).early, refl);
    })

    fill : Some' (All (Comes pins before line after into)) (fills limit new tracks)
    fill = filled (Comes pins before line after into) limit into new tracks
        (all_from_contains (λ net. into net < limit) new low) (all_from_contains
        (λ net. Comes pins before line after into (on_track net (into net))) new comes) all

    way : List NetTrack
    way = fill.it

    at' : (t : NetTrack) → Contains way t → Comes pins before line after into t
    at' t at = All-contains (Comes pins before line after into) way t fill.holds at

    on : (t : NetTrack) → Contains way t → IsPieceAt pins before line after into out t
    on t at = record { held = (at' t at).held; piece = inl ((at' t at).early, sym (at' t at).is) }

    there : Contains (into_ways pins limit nets before line after tracks) way
    there = keeps (test_beside limit line []) (fills limit new tracks) way fill.there
        (fit_test limit line [] way (fit_of pins limit into before line after out into [] way fits
        (all_from_contains (λ (t : NetTrack). into t.net ≡ t.track) way (λ t at. (at' t at).is)) on
        (λ t none. absurd (contains_none t none))))

record OutWay (pins : Pins) (limit : ℕ) (nets : List NetNo) (before : NetNo → Bool) (line : Line) (after : NetNo → Bool)
    (out : NetNo → ℕ) (into : List NetTrack) : Type 0 where
  pub way : List NetTrack
  pub there : Contains (out_ways pins limit nets before line after into) way
  pub have : AreTracksOf way out

out_complete : (pins : Pins) (limit : ℕ) (nets : List NetNo) (before : NetNo → Bool) (line : Line)
    (after : NetNo → Bool) (into out : NetNo → ℕ) (tracks : List NetTrack) →
    All (Comes pins before line after into) tracks → PieceLineFits pins limit into before line after out →
    OutWay pins limit nets before line after out tracks
out_complete pins limit nets before line after into out tracks all fits = record
    { way = way; there = there; have = have }
  where
    straight : List NetTrack
    straight = straight_of pins before line after tracks

    new : List NetNo
    new = filter (goes_on pins before after) (missing pins before line after nets straight)

    come : (t : NetTrack) → Contains tracks t → Comes pins before line after into t
    come t at = All-contains (Comes pins before line after into) tracks t all at

    turns : (b : Bool) → not b ≡ true → b ≡ false
    turns false e = refl
    turns true e = absurd cc

    keep : (t : NetTrack) → Contains straight t → Goes pins before line after out t
    keep t at =
        let k = kept (λ (t : NetTrack). is_straight pins before line after t.net) tracks t at in
        let s = and_parts (is_open pins before after t.net) (not (may_turn line t.net)) k.1 in
        let o = and_parts (before t.net) (after t.net) (and_parts (not (is_rail pins t.net))
        (before t.net && after t.net) s.0).1 in
        record {
          is = fits.straight t.net s.0 (turns (may_turn line t.net) s.1) ∙ (come t k.0).is;
          further = inr o.1;
          held = (come t k.0).held;
        }

    on_from : (b r a : Bool) → (not b || (r && (b && a))) ≡ true → (b ≡ false) ⊎ (a ≡ true)
    on_from false r a e = inl refl
    on_from true true true e = inr refl
    on_from true true false e = absurd cc
    on_from true false a e = absurd cc

    goes : (net : NetNo) → Contains new net → Goes pins before line after out (on_track net (out net))
    goes net at =
        let m = kept (goes_on pins before after) (missing pins before line after nets straight) net at in
        record {
          is = refl;
          further = on_from (before net) (not (is_rail pins net)) (after net) m.1;
          held = missing_holds pins before line after nets straight net m.0;
        }

    low : (net : NetNo) → Contains new net → out net < limit
    low net at = fits.low net (out net) (record {
      held = (goes net at).held;
      piece = inr ((goes net at).further, refl);
    })

    fill : Some' (All (Goes pins before line after out)) (fills limit new straight)
    fill = filled (Goes pins before line after out) limit out new straight
        (all_from_contains (λ net. out net < limit) new low) (all_from_contains
        (λ net. Goes pins before line after out (on_track net (out net))) new goes)
        (all_from_contains (Goes pins before line after out) straight keep)

    way : List NetTrack
    way = fill.it

    at' : (t : NetTrack) → Contains way t → Goes pins before line after out t
    at' t at = All-contains (Goes pins before line after out) way t fill.holds at

    have : AreTracksOf way out
    have = all_from_contains (λ (t : NetTrack). out t.net ≡ t.track) way (λ t at. (at' t at).is)

    on : (t : NetTrack) → Contains way t → IsPieceAt pins before line after into out t
    on t at = record { held = (at' t at).held; piece = inr ((at' t at).further, sym (at' t at).is) }

    beside : (t : NetTrack) → Contains tracks t → IsPieceAt pins before line after into out t
    beside t at = record { held = (come t at).held; piece = inl ((come t at).early, sym (come t at).is) }

    there : Contains (out_ways pins limit nets before line after tracks) way
    there = keeps (test_beside limit line tracks) (fills limit new straight) way fill.there
        (fit_test limit line tracks way (fit_of pins limit into before line after out out tracks way fits have on
        beside))

pub all_ways : (pins : Pins) (limit : ℕ) (nets : List NetNo) (before : NetNo → Bool) (line : Line)
    (after : NetNo → Bool) (into out : NetNo → ℕ) (tracks : List NetTrack) → AreTracksOf tracks into →
    All (λ (t : NetTrack). is_open pins before (λ net. has_place line net || after net) t.net ≡ true) tracks →
    PieceLineFits pins limit into before line after out → Any (λ way. AreTracksOf way out)
    (piece_line_ways pins limit nets before line after tracks)
all_ways pins limit nets before line after into out tracks have open' fits =
    let i : IntoWay pins limit nets before line after into tracks = into_complete pins limit nets before line after into
    out tracks (all_from_contains (Comes pins before line after into) tracks come) fits in
    let o : OutWay pins limit nets before line after out i.way = out_complete pins limit nets before line after into out
    i.way i.all fits in
    any_from_some (λ way. AreTracksOf way out) (piece_line_ways pins limit nets before line after tracks) (record {
      it = o.way;
      there = contains_flat (out_ways pins limit nets before line after)
          (into_ways pins limit nets before line after tracks) i.way o.way i.there o.there;
      holds = o.have;
    })
  where
    come : (t : NetTrack) → Contains tracks t → Comes pins before line after into t
    come t at =
        let o : is_open pins before (λ net. has_place line net || after net) t.net ≡ true = All-contains
        (λ (t : NetTrack). is_open pins before (λ net. has_place line net || after net) t.net ≡ true) tracks t open'
        at in
        record {
          is = All-contains (λ (t : NetTrack). into t.net ≡ t.track) tracks t have at;
          early = (and_parts (before t.net) (has_place line t.net || after t.net)
              (and_parts (not (is_rail pins t.net)) (before t.net && (has_place line t.net || after t.net)) o).1).0;
          held = open_holds pins before line after t.net o;
        }
