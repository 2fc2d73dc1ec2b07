-- What the tests of tracks at a line say, track by track.
use Rattle.std.proofs.Common.{ℕ, ◌≡◌, ◌≢◌, ◌<◌, ◌&&◌, ◌||◌, ◌==◌, ltb, not, Bool, true, false, cond, List, []}
use Rattle.std.proofs.Common.{Some, inl, inr, refl, sym, ap, Contains}
use Rattle.std.specs.List.{list_all}
use Rattle.std.proofs.lemmas.Bool.{and_from, and_parts, cases_eq, eq-eqb, eqb-true, lt-ltb, ltb-true}
use Rattle.cell_num.specs.declared.net.NetNo.{NetNo}
use Rattle.track_ways.specs.declared.line.Line.{Line}
use Rattle.track_ways.specs.declared.track.NetTrack.{NetTrack}
use Rattle.track_ways.specs.Lines.{is_net}
use Rattle.track_ways.specs.Ways.{are_apart, go_together, line_test, test_beside}
use Rattle.track_ways.specs.Fillings.{all_pass, eqb_false, is_net_some, net_same, pass_at, some_is_net}

-- what is asked of two tracks at a line: of one net
abbrev pub AreSame : NetTrack → NetTrack → Type 0
AreSame t u = t.net ≡ u.net → t.track ≡ u.track

-- and of two nets
pub record AreTwo (line : Line) (t u : NetTrack) : Type 0 where
  pub apart : t.net ≢ u.net → t.track ≢ u.track
  pub above : t.net ≢ u.net → line.p ≡ Some t.net → line.n ≡ Some u.net → u.track < t.track

differ : (t u : NetTrack) → (t.net.0 == u.net.0) ≡ false → t.net ≢ u.net
differ t u e same = let yes' : (t.net.0 == u.net.0) ≡ true = eq-eqb t.net.0 u.net.0 (ap (λ (n : NetNo). n.0) same) in cc

pub apart_from : (line : Line) (t u : NetTrack) → AreSame t u → AreTwo line t u → are_apart line t u ≡ true
apart_from line t u same two = go (t.net.0 == u.net.0) refl
  where
    over : (b low : Bool) → (b ≡ true → low ≡ true) → (not b || low) ≡ true
    over true low h = h refl
    over false low h = refl

    go : (e : Bool) → (t.net.0 == u.net.0) ≡ e → cond e (t.track == u.track)
        (not (t.track == u.track) && (not (is_net line.p t.net && is_net line.n u.net) || ltb u.track t.track)) ≡ true
    go true e = eq-eqb t.track u.track (same (net_same t.net u.net (eqb-true t.net.0 u.net.0 e)))
    go false e = and_from (not (t.track == u.track)) (not (is_net line.p t.net && is_net line.n u.net) ||
        ltb u.track t.track)
        (ap not (eqb_false t.track u.track (two.apart (differ t u e))))
        (over (is_net line.p t.net && is_net line.n u.net) (ltb u.track t.track)
        (λ both. let o = and_parts (is_net line.p t.net) (is_net line.n u.net) both in
        lt-ltb u.track t.track (two.above (differ t u e) (some_is_net line.p t.net o.0)
        (some_is_net line.n u.net o.1))))

pub apart_same : (line : Line) (t u : NetTrack) → are_apart line t u ≡ true → AreSame t u
apart_same line t u h same = eqb-true t.track u.track (go (t.net.0 == u.net.0) (t.track == u.track) _
    (eq-eqb t.net.0 u.net.0 (ap (λ (n : NetNo). n.0) same)) h)
  where
    go : (e alike other : Bool) → e ≡ true → cond e alike other ≡ true → alike ≡ true
    go true alike other is h = h
    go false alike other is h = absurd cc

pub apart_two : (line : Line) (t u : NetTrack) → are_apart line t u ≡ true → AreTwo line t u
apart_two line t u h = record {
  apart = λ other same. apart (t.net.0 == u.net.0) (t.track == u.track)
      (not (is_net line.p t.net && is_net line.n u.net)) (ltb u.track t.track) (off other) (eq-eqb t.track u.track same)
      h;
  above = λ other p n. ltb-true u.track t.track (above (t.net.0 == u.net.0) (t.track == u.track)
      (is_net line.p t.net && is_net line.n u.net) (ltb u.track t.track) (off other)
      (and_from (is_net line.p t.net) (is_net line.n u.net) (is_net_some line.p t.net p) (is_net_some line.n u.net n))
      h);
}
  where
    off : t.net ≢ u.net → (t.net.0 == u.net.0) ≡ false
    off other = eqb_false t.net.0 u.net.0 (λ e. other (net_same t.net u.net e))

    apart : (e same over low : Bool) → e ≡ false → same ≡ true → cond e same (not same && (over || low)) ≡ true → ⊥
    apart true same over low is s h = cc
    apart false true over low is s h = cc
    apart false false over low is s h = cc

    above : (e same over low : Bool) → e ≡ false → over ≡ true → cond e same (not same && (not over || low)) ≡ true →
        low ≡ true
    above true same over low is o h = absurd cc
    above false true over low is o h = absurd cc
    above false false true low is o h = h
    above false false false low is o h = absurd cc

pub together_from : (line : Line) (t u : NetTrack) → AreTwo line t u → AreTwo line u t → go_together line t u ≡ true
together_from line t u two back = go (t.net.0 == u.net.0) refl
  where
    go : (e : Bool) → (t.net.0 == u.net.0) ≡ e → (e || (are_apart line t u && are_apart line u t)) ≡ true
    go true e = refl
    go false e = and_from (are_apart line t u) (are_apart line u t)
        (apart_from line t u (λ same. absurd (differ t u e same)) two)
        (apart_from line u t (λ same. absurd (differ t u e (sym same))) back)

pub together_two : (line : Line) (t u : NetTrack) → go_together line t u ≡ true → AreTwo line t u × AreTwo line u t
together_two line t u h = (
  record { apart = λ other. (both other).0.apart other; above = λ other. (both other).0.above other },
  record { apart = λ other. (both (turned other)).1.apart other; above = λ other. (both (turned other)).1.above other },
)
  where
    turned : u.net ≢ t.net → t.net ≢ u.net
    turned other same = other (sym same)

    go : (e b c : Bool) → e ≡ false → (e || (b && c)) ≡ true → (b ≡ true) × (c ≡ true)
    go true b c is h = absurd cc
    go false b c is h = and_parts b c h

    both : t.net ≢ u.net → AreTwo line t u × AreTwo line u t
    both other =
        let parts : (are_apart line t u ≡ true) × (are_apart line u t ≡ true) = go (t.net.0 == u.net.0)
        (are_apart line t u) (are_apart line u t) (eqb_false t.net.0 u.net.0 (λ e. other (net_same t.net u.net e)))
        h in
        (apart_two line t u parts.0, apart_two line u t parts.1)

-- tracks that fit a line, beside those on its other side
pub record Fit (limit : ℕ) (line : Line) (others tracks : List NetTrack) : Type 0 where
  pub low : (t : NetTrack) → Contains tracks t → t.track < limit
  pub same : (t u : NetTrack) → Contains tracks t → Contains tracks u → AreSame t u
  pub two : (t u : NetTrack) → Contains tracks t → Contains tracks u → AreTwo line t u
  pub beside : (t u : NetTrack) → Contains tracks t → Contains others u → AreTwo line t u × AreTwo line u t

pub fit_test : (limit : ℕ) (line : Line) (others tracks : List NetTrack) → Fit limit line others tracks →
    test_beside limit line others tracks ≡ true
fit_test limit line others tracks f =
    and_from (line_test limit line tracks) (list_all (λ (t : NetTrack). list_all (go_together line t) others) tracks)
    (all_pass (λ (t : NetTrack). ltb t.track limit && list_all (are_apart line t) tracks) tracks (λ t at.
    and_from (ltb t.track limit) (list_all (are_apart line t) tracks) (lt-ltb t.track limit (f.low t at))
    (all_pass (are_apart line t) tracks (λ u also. apart_from line t u (f.same t u at also) (f.two t u at also)))))
    (all_pass (λ (t : NetTrack). list_all (go_together line t) others) tracks (λ t at.
    all_pass (go_together line t) others (λ u also. let b = f.beside t u at also in together_from line t u b.0 b.1)))

pub test_fit : (limit : ℕ) (line : Line) (others tracks : List NetTrack) → test_beside limit line others tracks ≡ true →
    Fit limit line others tracks
test_fit limit line others tracks h = record {
  low = λ t at. ltb-true t.track limit (and_parts (ltb t.track limit) (list_all (are_apart line t) tracks)
      (each t at)).0;
  same = λ t u at also. apart_same line t u (pair t u at also);
  two = λ t u at also. apart_two line t u (pair t u at also);
  beside = λ t u at also. together_two line t u (pass_at (go_together line t) others u
      (pass_at (λ (t : NetTrack). list_all (go_together line t) others) tracks t parts.1 at) also);
}
  where
    parts : (line_test limit line tracks ≡ true) × (list_all (λ (t : NetTrack). list_all (go_together line t) others)
        tracks ≡ true)
    parts = and_parts (line_test limit line tracks) (list_all (λ (t : NetTrack). list_all (go_together line t) others)
        tracks) h

    each : (t : NetTrack) → Contains tracks t → (ltb t.track limit && list_all (are_apart line t) tracks) ≡ true
    each t at = pass_at (λ (t : NetTrack). ltb t.track limit && list_all (are_apart line t) tracks) tracks t parts.0 at

    pair : (t u : NetTrack) → Contains tracks t → Contains tracks u → are_apart line t u ≡ true
    pair t u at also = pass_at (are_apart line t) tracks u (and_parts (ltb t.track limit)
        (list_all (are_apart line t) tracks) (each t at)).1 also

-- with none on the other side the test is that of the line
pub alone : (limit : ℕ) (line : Line) (tracks : List NetTrack) →
    test_beside limit line [] tracks ≡ line_test limit line tracks
alone limit line tracks = go (line_test limit line tracks) (list_all
    (λ (t : NetTrack). list_all (go_together line t) []) tracks)
    (all_pass (λ (t : NetTrack). list_all (go_together line t) []) tracks (λ t at. refl))
  where
    go : (a b : Bool) → b ≡ true → (a && b) ≡ a
    go true b e = e
    go false b e = refl

-- two nets are one where their tracks are
pub alike : (line : Line) (t u : NetTrack) → AreTwo line t u → t.track ≡ u.track → t.net ≡ u.net
alike line t u two same = elim (cases_eq t.net.0 u.net.0) [
  | inl e ↦ net_same t.net u.net e
  | inr ne ↦ absurd (two.apart (λ e. ne (ap (λ (n : NetNo). n.0) e)) same)
]
