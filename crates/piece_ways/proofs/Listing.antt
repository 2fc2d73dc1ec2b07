-- Lists of tracks into a line and out of it, as the code makes them.
use Rattle.std.proofs.Common.{ℕ, ◌≡◌, ◌+◌, ◌<◌, ◌++◌, Bool, true, false, List, [], All, Contains, filter, get_or, length, sym, ap, subst, take, ◌∙◌}
use Rattle.std.specs.List.{flat_map}
use Rattle.std.proofs.lemmas.List.{flat_map_more, take_more}
use Rattle.std.proofs.lemmas.List.Elements.{All-get_or}
use Rattle.cell_num.specs.declared.net.NetNo.{NetNo}
use Rattle.cell_num.specs.declared.net.Pins.{Pins}
use Rattle.cell_num.proofs.Lists.{all_from_contains}
use Rattle.track_ways.specs.declared.line.Line.{Line}
use Rattle.track_ways.specs.declared.track.NetTrack.{NetTrack}
use Rattle.track_ways.specs.Ways.{fills, missing, test_beside}
use Rattle.track_ways.specs.Fillings.{kept}
use Rattle.track_ways.specs.Beside.{Fit, fit_test, test_fit}
use Rattle.track_ways.proofs.Listing.{none_fit}
use Rattle.piece_ways.specs.PieceWays.{into_ways, is_straight, straight_of}

-- tracks into a line that don't fit it lead to none
pub unfit_ways : (pins : Pins) (limit : ℕ) (nets : List NetNo) (before : NetNo → Bool) (line : Line)
    (after : NetNo → Bool) (tracks here : List NetTrack) (fit : Bool) (ways : List (List NetTrack)) → here ≡ tracks →
    fit ≡ test_beside limit line [] here → fit ≡ false → ways ≡ [] →
    ways ≡ into_ways pins limit nets before line after tracks
unfit_ways pins limit nets before line after tracks here fit ways is test unfit none =
    none ∙ sym (none_fit limit line [] (filter before (missing pins before line after nets tracks)) tracks (sym (test ∙ ap (test_beside limit line []) is) ∙ unfit))

-- those of the nets that go straight fit beside all
pub straight_fit : (pins : Pins) (limit : ℕ) (before : NetNo → Bool) (line : Line) (after : NetNo → Bool) (into : List NetTrack) → test_beside limit line [] into ≡ true → test_beside limit line into (straight_of pins before line after into) ≡ true
straight_fit pins limit before line after into test =
    let f : Fit limit line [] into = test_fit limit line [] into test in
    let within : (t : NetTrack) → Contains (straight_of pins before line after into) t → Contains into t = λ t at. (kept (λ (t : NetTrack). is_straight pins before line after t.net) into t at).0 in
    fit_test limit line into (straight_of pins before line after into) (record {
      low = λ t at. f.low t (within t at);
      same = λ t u at also. f.same t u (within t at) (within u also);
      two = λ t u at also. f.two t u (within t at) (within u also);
      beside = λ t u at also. (f.two t u (within t at) also, f.two u t also (within t at));
    })

-- each of the listed tracks into a line fits it
pub into_fit : (pins : Pins) (limit : ℕ) (nets : List NetNo) (before : NetNo → Bool) (line : Line)
    (after : NetNo → Bool) (tracks : List NetTrack) (here items : List (List NetTrack)) (i : ℕ)
    (item into : List NetTrack) → here ≡ into_ways pins limit nets before line after tracks → items ≡ here →
    item ≡ get_or items i item → i < length items → into ≡ item → test_beside limit line [] into ≡ true
into_fit pins limit nets before line after tracks here items i item into is_here is_items at within is =
    ap (test_beside limit line []) (is ∙ at)
    ∙ All-get_or (λ ts. test_beside limit line [] ts ≡ true) items i item within
    (subst (All (λ ts. test_beside limit line [] ts ≡ true)) (sym (is_items ∙ is_here))
    (all_from_contains (λ ts. test_beside limit line [] ts ≡ true) (into_ways pins limit nets before line after tracks) (λ ts there. (kept (test_beside limit line []) (fills limit (filter before (missing pins before line after nets tracks)) tracks) ts there).1)))

-- and with the tracks out of the line from one more of them
pub out_more : (f : List NetTrack → List (List NetTrack)) (items : List (List NetTrack)) (i : ℕ)
    (item into : List NetTrack) (old new : List (List NetTrack)) → old ≡ flat_map f (take i items) →
    item ≡ get_or items i item → i < length items → into ≡ item → new ≡ old ++ f into →
    new ≡ flat_map f (take (i + 1) items)
out_more f items i item into old new so_far at within is more =
    more ∙ ap (λ ws. ws ++ f into) so_far ∙ ap (λ x. flat_map f (take i items) ++ f x) (is ∙ at)
    ∙ flat_map_more f [] (take i items) (get_or items i item)
    ∙ ap (flat_map f) (sym (take_more items i item within))
