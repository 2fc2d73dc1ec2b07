-- Lists of tracks that fit a line, one more track or one more way at a time.
use Rattle.std.proofs.Common.{ℕ, ◌≡◌, ◌+◌, ◌<◌, ◌++◌, ◌&&◌, Bool, true, false, List, [], ◌∷◌, filter, refl, sym, ap, Contains, ◌∙◌, append-nil}
use Rattle.std.specs.List.{flat_map, list_all, range_with_len}
use Rattle.std.proofs.lemmas.Bool.{and_from, and_parts, both_ways}
use Rattle.std.proofs.lemmas.List.{append_assoc, flat_map_more}
use Rattle.std.proofs.lemmas.List.Concat.{flat_map-cons}
use Rattle.std.proofs.lemmas.List.Elements.{filter-append}
use Rattle.cell_num.specs.declared.net.NetNo.{NetNo}
use Rattle.cell_num.specs.declared.net.Pins.{Pins}
use Rattle.cell_num.proofs.Ranges.{range_more}
use Rattle.track_ways.specs.declared.line.Line.{Line}
use Rattle.track_ways.specs.declared.track.NetTrack.{NetTrack}
use Rattle.track_ways.specs.Ways.{are_apart, fills, go_together, line_test, line_ways, missing, on_track, test_beside, ways_beside}
use Rattle.track_ways.specs.Fillings.{fills_keep, kept}
use Rattle.track_ways.specs.Beside.{alone, fit_test, test_fit}
use Rattle.track_ways.proofs.Fits.{fewer_fit, goes_if_fit, more_fit}
use Rattle.track_ways.proofs.Steps.{empty}

pub filter_flat : {X Y : Type 0} (p : Y → Bool) (f : X → List Y) (xs : List X) → filter p (flat_map f xs) ≡ flat_map (λ x. filter p (f x)) xs
filter_flat p f [] = refl
filter_flat p f (x ∷ xs) = ap (filter p) (flat_map-cons f x xs) ∙ filter-append p (f x) (flat_map f xs) ∙ ap (λ ys. filter p (f x) ++ ys) (filter_flat p f xs) ∙ sym (flat_map-cons (λ x. filter p (f x)) x xs)

-- the ways with the first tracks of a net
abbrev pub beside_below : ℕ → Line → List NetTrack → NetNo → List NetNo → List NetTrack → ℕ → List (List NetTrack)
beside_below limit line others net nets tracks n = flat_map (λ j. ways_beside limit line others nets (on_track net j ∷ tracks)) (range_with_len 0 n)

pub beside_more : (limit : ℕ) (line : Line) (others : List NetTrack) (net : NetNo) (nets : List NetNo)
    (tracks : List NetTrack) (n : ℕ) → beside_below limit line others net nets tracks (n + 1) ≡ beside_below limit line
    others net nets tracks n ++ ways_beside limit line others nets (on_track net n ∷ tracks)
beside_more limit line others net nets tracks n = ap (flat_map (λ j. ways_beside limit line others nets (on_track net j ∷ tracks))) (range_more n) ∙ sym (flat_map_more (λ j. ways_beside limit line others nets (on_track net j ∷ tracks)) [] (range_with_len 0 n) n)

pub beside_whole : (limit : ℕ) (line : Line) (others : List NetTrack) (net : NetNo) (nets : List NetNo) (tracks : List NetTrack) → beside_below limit line others net nets tracks limit ≡ ways_beside limit line others (net ∷ nets) tracks
beside_whole limit line others net nets tracks = sym (filter_flat (test_beside limit line others) (λ j. fills limit nets (on_track net j ∷ tracks)) (range_with_len 0 limit))

-- one more track of a net
pub beside_next : (limit : ℕ) (line : Line) (others : List NetTrack) (net : NetNo) (nets : List NetNo)
    (tracks longer : List NetTrack) (n : ℕ) (old ways next : List (List NetTrack)) →
    ways ≡ old ++ beside_below limit line others net nets tracks n → longer ≡ on_track net n ∷ tracks →
    next ≡ ways ++ ways_beside limit line others nets longer →
    next ≡ old ++ beside_below limit line others net nets tracks (n + 1)
beside_next limit line others net nets tracks longer n old ways next so_far is more =
    more ∙ ap (λ ts. ways ++ ways_beside limit line others nets ts) is ∙ ap (λ ws. ws ++ ways_beside limit line others nets (on_track net n ∷ tracks)) so_far
    ∙ append_assoc old (beside_below limit line others net nets tracks n) (ways_beside limit line others nets (on_track net n ∷ tracks))
    ∙ ap (λ ws. old ++ ws) (sym (beside_more limit line others net nets tracks n))

-- tracks that don't fit stay such, whatever the other nets get
pub none_fit : (limit : ℕ) (line : Line) (others : List NetTrack) (nets : List NetNo) (tracks : List NetTrack) → test_beside limit line others tracks ≡ false → ways_beside limit line others nets tracks ≡ []
none_fit limit line others nets tracks unfit = empty (ways_beside limit line others nets tracks) (λ way at.
    let both : Contains (fills limit nets tracks) way × (test_beside limit line others way ≡ true) = kept (test_beside limit line others) (fills limit nets tracks) way at in
    both_ways (test_beside limit line others tracks) unfit
    (fit_test limit line others tracks (fewer_fit limit line others way tracks (λ t there. fills_keep limit nets tracks way t both.0 there) (test_fit limit line others way both.1))))

-- the track of a net goes with those on both sides of the line
abbrev pub goes : Line → NetTrack → List NetTrack → List NetTrack → Bool
goes line t tracks others = list_all (λ (u : NetTrack). are_apart line t u && are_apart line u t) tracks && list_all (go_together line t) others

-- a track that is taken
pub taken : (limit : ℕ) (line : Line) (others : List NetTrack) (net : NetNo) (n : ℕ) (tracks longer : List NetTrack) →
    n < limit → test_beside limit line others tracks ≡ true → goes line (on_track net n) tracks others ≡ true →
    longer ≡ on_track net n ∷ tracks → test_beside limit line others longer ≡ true
taken limit line others net n tracks longer low fit yes' is =
    let parts = and_parts (list_all (λ (u : NetTrack). are_apart line (on_track net n) u && are_apart line u (on_track net n)) tracks) (list_all (go_together line (on_track net n)) others) yes' in
    ap (test_beside limit line others) is
    ∙ fit_test limit line others (on_track net n ∷ tracks) (more_fit limit line others (on_track net n) tracks low parts.0 parts.1 (test_fit limit line others tracks fit))

-- a track that is dropped
pub dropped : (limit : ℕ) (line : Line) (others : List NetTrack) (net : NetNo) (nets : List NetNo)
    (tracks : List NetTrack) (n : ℕ) (old ways : List (List NetTrack)) →
    goes line (on_track net n) tracks others ≡ false → ways ≡ old ++ beside_below limit line others net nets tracks n →
    ways ≡ old ++ beside_below limit line others net nets tracks (n + 1)
dropped limit line others net nets tracks n old ways not' so_far =
    so_far ∙ ap (λ ws. old ++ ws) (sym (beside_more limit line others net nets tracks n ∙ ap (λ ws. beside_below limit line others net nets tracks n ++ ws) none ∙ append-nil (beside_below limit line others net nets tracks n)))
  where
    unfit : (b : Bool) → test_beside limit line others (on_track net n ∷ tracks) ≡ b → b ≡ false
    unfit false e = refl
    unfit true e =
        let g = goes_if_fit limit line others (on_track net n) tracks (test_fit limit line others (on_track net n ∷ tracks) e) in
        absurd (both_ways (goes line (on_track net n) tracks others) not' (and_from (list_all (λ (u : NetTrack). are_apart line (on_track net n) u && are_apart line u (on_track net n)) tracks) (list_all (go_together line (on_track net n)) others) g.0 g.1))

    none : ways_beside limit line others nets (on_track net n ∷ tracks) ≡ []
    none = none_fit limit line others nets (on_track net n ∷ tracks) (unfit (test_beside limit line others (on_track net n ∷ tracks)) refl)

-- with none on the other side the ways are those that fit the line
pub ways_alone : (limit : ℕ) (line : Line) (nets : List NetNo) (tracks : List NetTrack) → ways_beside limit line [] nets tracks ≡ filter (line_test limit line) (fills limit nets tracks)
ways_alone limit line nets tracks = ap (λ p. filter p (fills limit nets tracks)) (λ i ts. alone limit line ts i)

-- tracks before a line that don't fit it lead to none
pub unfit_ways : (pins : Pins) (limit : ℕ) (nets : List NetNo) (before : NetNo → Bool) (line : Line)
    (after : NetNo → Bool) (tracks here : List NetTrack) (fit : Bool) (ways : List (List NetTrack)) → here ≡ tracks →
    fit ≡ test_beside limit line [] here → fit ≡ false → ways ≡ [] →
    ways ≡ line_ways pins limit nets before line after tracks
unfit_ways pins limit nets before line after tracks here fit ways is test unfit none =
    none ∙ sym (none_fit limit line [] (missing pins before line after nets tracks) tracks (sym (test ∙ ap (test_beside limit line []) is) ∙ unfit))
    ∙ ways_alone limit line (missing pins before line after nets tracks) tracks

-- and those that fit to the ways of the nets that are missing
pub fit_ways : (pins : Pins) (limit : ℕ) (nets : List NetNo) (before : NetNo → Bool) (line : Line)
    (after : NetNo → Bool) (tracks : List NetTrack) (new : List NetNo) (none ways : List (List NetTrack)) →
    new ≡ missing pins before line after nets tracks → none ≡ [] → ways ≡ none ++ ways_beside limit line [] new tracks →
    ways ≡ line_ways pins limit nets before line after tracks
fit_ways pins limit nets before line after tracks new none ways is_new is_none is =
    is ∙ ap (λ ws. ws ++ ways_beside limit line [] new tracks) is_none ∙ ap (λ ns. ways_beside limit line [] ns tracks) is_new
    ∙ ways_alone limit line (missing pins before line after nets tracks) tracks
