-- Nets that go straight through a line meet what is asked of a rule.
use Rattle.std.proofs.Common.{ℕ, ◌≡◌, ◌<◌, ◌||◌, Bool, true, List, [], Some, refl, sym, ap, subst, arith, All, Any}
use Rattle.std.proofs.Common.{Contains, ◌∙◌}
use Rattle.std.proofs.lemmas.List.Elements.{All-contains}
use Rattle.cell_num.specs.declared.net.NetNo.{NetNo}
use Rattle.cell_num.specs.declared.net.Pins.{Pins}
use Rattle.cell_num.proofs.Lists.{all_from_contains, contains_none}
use Rattle.cell_num.proofs.Pairs.{Some', any_from_some}
use Rattle.track_ways.specs.declared.line.Line.{Line}
use Rattle.track_ways.specs.declared.track.NetTrack.{NetTrack}
use Rattle.track_ways.specs.Lines.{LineFits, StraightFits, has_place, is_held, is_open, with_line}
use Rattle.track_ways.specs.Tracks.{AreTracksOf, Listed}
use Rattle.track_ways.specs.Ways.{fills, line_test, line_ways, missing, on_track}
use Rattle.track_ways.specs.Rules.{Among, IsRule, IsWay}
use Rattle.track_ways.specs.Fillings.{each_listed, filled, fills_keep, is_missing, keeps, kept, missing_holds, net_same}
use Rattle.track_ways.specs.Fillings.{open_holds}
use Rattle.track_ways.specs.Beside.{Fit, alike, alone, fit_test, test_fit}

-- a net that holds the line, on its track
abbrev Holds : Pins → (NetNo → Bool) → Line → (NetNo → Bool) → (NetNo → ℕ) → NetTrack → Type 0
Holds pins before line after next t = (next t.net ≡ t.track) × (is_held pins before line after t.net ≡ true)

-- tracks that fit the line do so as a list
fit_of : (pins : Pins) (limit : ℕ) (before : NetNo → Bool) (line : Line) (after : NetNo → Bool) (next : NetNo → ℕ)
    (way : List NetTrack) → ((t : NetTrack) → Contains way t → Holds pins before line after next t) →
    LineFits pins limit next before line after → Fit limit line [] way
fit_of pins limit before line after next way at fits = record {
  low = λ t there. subst (λ m. m < limit) (at t there).0 (fits.low t.net (at t there).1);
  same = λ t u there also e. sym (at t there).0 ∙ ap next e ∙ (at u also).0;
  two = λ t u there also. record {
    apart = λ other e. other (fits.apart t.net u.net (at t there).1 (at u also).1
        ((at t there).0 ∙ e ∙ sym (at u also).0));
    above = λ other top bottom.
        subst (λ m. m < t.track) (at u also).0 (subst (λ m. next u.net < m) (at t there).0
        (fits.above t.net u.net top bottom other (at t there).1 (at u also).1));
  };
  beside = λ t u there none. absurd (contains_none u none);
}

all_ways : (pins : Pins) (limit : ℕ) (nets : List NetNo) (before : NetNo → Bool) (line : Line) (after : NetNo → Bool)
    (track next : NetNo → ℕ) (tracks : List NetTrack) → AreTracksOf tracks track →
    All (λ (t : NetTrack). is_open pins before (λ net. has_place line net || after net) t.net ≡ true) tracks →
    StraightFits pins limit track before line after next → Any (λ way. AreTracksOf way next)
    (line_ways pins limit nets before line after tracks)
all_ways pins limit nets before line after track next tracks have open' f = any_from_some (λ way. AreTracksOf way next)
    (line_ways pins limit nets before line after tracks) (record {
      it = fill.it;
      there = there;
      holds = all_from_contains (λ (t : NetTrack). next t.net ≡ t.track) fill.it
          (λ t at. (held t at).0);
    })
  where
    new : List NetNo
    new = missing pins before line after nets tracks

    come : (t : NetTrack) → Contains tracks t → Holds pins before line after next t
    come t at =
        let o : is_open pins before (λ net. has_place line net || after net) t.net ≡ true = All-contains
        (λ (t : NetTrack). is_open pins before (λ net. has_place line net || after net) t.net ≡ true) tracks t open'
        at in (
          f.same t.net o ∙ All-contains (λ (t : NetTrack). track t.net ≡ t.track) tracks t have at,
          open_holds pins before line after t.net o,
        )

    fill : Some' (All (Holds pins before line after next)) (fills limit new tracks)
    fill = filled (Holds pins before line after next) limit next new tracks
        (all_from_contains (λ net. next net < limit) new (λ net at. f.fits.low net
        (missing_holds pins before line after nets tracks net at)))
        (all_from_contains (λ net. Holds pins before line after next (on_track net (next net))) new
        (λ net at. (refl, missing_holds pins before line after nets tracks net at)))
        (all_from_contains (Holds pins before line after next) tracks come)

    held : (t : NetTrack) → Contains fill.it t → Holds pins before line after next t
    held t at = All-contains (Holds pins before line after next) fill.it t fill.holds at

    there : Contains (line_ways pins limit nets before line after tracks) fill.it
    there = keeps (line_test limit line) (fills limit new tracks) fill.it fill.there
        (sym (alone limit line fill.it) ∙ fit_test limit line [] fill.it
        (fit_of pins limit before line after next fill.it held f.fits))

only_ways : (pins : Pins) (limit : ℕ) (nets : List NetNo) (before : NetNo → Bool) (line : Line) (after : NetNo → Bool)
    (tracks way : List NetTrack) → Among nets (with_line before line) →
    Contains (line_ways pins limit nets before line after tracks) way →
    IsWay StraightFits pins limit before line after tracks way
only_ways pins limit nets before line after tracks way among at = record {
  one = λ t u there also e. f.same t u there also (net_same t.net u.net e);
  each = λ net h further. each net h;
  from = λ next have. (
    next,
    all_from_contains (λ (t : NetTrack). next t.net ≡ t.track) tracks
        (λ t there. All-contains (λ (t : NetTrack). next t.net ≡ t.track) way t have
        (fills_keep limit new tracks way t both.0 there)),
    record { same = λ net o. refl; fits = fits next have },
  );
}
  where
    new : List NetNo
    new = missing pins before line after nets tracks

    both : Contains (fills limit new tracks) way × (line_test limit line way ≡ true)
    both = kept (line_test limit line) (fills limit new tracks) way at

    f : Fit limit line [] way
    f = test_fit limit line [] way (alone limit line way ∙ both.1)

    each : (net : NetNo) → is_held pins before line after net ≡ true → Listed way net
    each net h = each_listed limit new tracks way net both.0 (is_missing pins before line after nets tracks net among h)

    is : (next : NetNo → ℕ) → AreTracksOf way next → (net : NetNo) (l : Listed way net) → next net ≡ l.it.track
    is next have net l = subst (λ z. next z ≡ l.it.track) l.is
        (All-contains (λ (t : NetTrack). next t.net ≡ t.track) way l.it have l.there)

    fits : (next : NetNo → ℕ) → AreTracksOf way next → LineFits pins limit next before line after
    fits next have = record {
      low = λ net h. let l : Listed way net = each net h in subst (λ m. m < limit) (sym (is next have net l))
          (f.low l.it l.there);
      apart = λ a b ha hb same.
          let la : Listed way a = each a ha in let lb : Listed way b = each b hb in
          sym la.is ∙ alike line la.it lb.it (f.two la.it lb.it la.there lb.there)
          (sym (is next have a la) ∙ same ∙ is next have b lb) ∙ lb.is;
      above = λ upper lower p n differ hu hl.
          let lu : Listed way upper = each upper hu in let ll : Listed way lower = each lower hl in
          subst (λ m. m < next upper) (sym (is next have lower ll))
          (subst (λ m. ll.it.track < m) (sym (is next have upper lu))
          ((f.two lu.it ll.it lu.there ll.there).above (λ e. differ (sym lu.is ∙ e ∙ ll.is))
          (p ∙ ap (λ n. Some n) (sym lu.is)) (n ∙ ap (λ n. Some n) (sym ll.is))));
    }

pub straight_rule : IsRule StraightFits line_ways
straight_rule = record {
  wider = λ pins few many before line after track next le f. record {
    same = f.same;
    fits = record {
      low = λ net h. omega (arith, le, f.fits.low net h);
      apart = f.fits.apart;
      above = f.fits.above;
    };
  };
  again = λ pins limit before line after track other next agrees f. record
      { same = λ net o. f.same net o ∙ agrees net o; fits = f.fits };
  own = λ pins limit before line after track next f. (next, f);
  low = λ pins limit before line after track next f net held on. f.fits.low net held;
  all = all_ways;
  only = only_ways;
}
