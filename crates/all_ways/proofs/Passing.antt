-- All tracks after some lines pass a test: net by net, and line by line.
use Rattle.std.proofs.Common.{ℕ, ◌≡◌, ◌+◌, ◌*◌, ◌<◌, ◌≤◌, ◌↔◌, ◌||◌, Bool, true, false, List, [], ◌∷◌, inl, inr, refl, sym, ap, subst, arith, ◌∙◌, All, Contains}
use Rattle.std.specs.List.{flat_map, range_with_len}
use Rattle.std.proofs.Math.Nat.{add-mul}
use Rattle.std.proofs.lemmas.Bool.{both_ways, cases_Bool}
use Rattle.std.proofs.lemmas.List.Elements.{All-append, All-contains, All-head, All-nil}
use Rattle.cell_num.specs.declared.net.NetNo.{NetNo}
use Rattle.cell_num.specs.declared.net.Pins.{Pins}
use Rattle.cell_num.proofs.In.{contains_flat}
use Rattle.cell_num.proofs.Lists.{all_flat, all_from_contains, all_one}
use Rattle.cell_num.proofs.Ranges.{range_more}
use Rattle.track_ways.specs.declared.line.Line.{Line}
use Rattle.track_ways.specs.declared.track.NetTrack.{NetTrack}
use Rattle.track_ways.specs.Beside.{fit_test, test_fit}
use Rattle.track_ways.specs.Fillings.{fills_keep}
use Rattle.track_ways.specs.Lines.{is_ahead, with_line}
use Rattle.track_ways.specs.Ways.{LineWays, fills, nets_below, on_track, open_of, pass_ways_by, test_beside}
use Rattle.track_ways.proofs.Fits.{fewer_fit}
use Rattle.all_ways.specs.Onward.{AllOnward, SplitsOnward, fit_first, onward_ways}
use Rattle.all_ways.specs.Splits.{NoneUnfit, SplitsAt}
use Rattle.all_ways.specs.Filled.{flat_flat}

-- ---- lists

pub all_pieces : {X Y : Type 0} (P : Y → Type 0) (f : X → List Y) (xs : List X) → All P (flat_map f xs) ↔ All (λ x. All P (f x)) xs
all_pieces P f xs = (
  λ all. all_from_contains (λ x. All P (f x)) xs (λ x there. all_from_contains P (f x) (λ y at. All-contains P (flat_map f xs) y all (contains_flat f xs x y there at))),
  λ all. all_flat (λ x. All P (f x)) P f xs (λ x h. h) all,
)

pub range_one : (S : ℕ → Type 0) (n : ℕ) → All S (range_with_len 0 n) → S n → All S (range_with_len 0 (n + 1))
range_one S n all here = subst (All S) (sym (range_more n)) (All-append S (range_with_len 0 n) (n ∷ []) all (all_one S n here))

-- ---- tracks of open nets

pub pass_onward : (ways : LineWays) (pins : Pins) (limit : ℕ) (nets : List NetNo) (before : NetNo → Bool) (lines : List Line) (after : NetNo → Bool) (tracks : List NetTrack)
    → pass_ways_by ways pins limit nets before lines after tracks ≡ onward_ways ways pins limit nets before lines after (open_of pins before (λ net. is_ahead lines net || after net) tracks)
pass_onward ways pins limit nets before [] after tracks = refl
pass_onward ways pins limit nets before (line ∷ rest) after tracks =
    ap (λ f. flat_map f (ways pins limit nets before line (λ net. is_ahead rest net || after net) (open_of pins before (λ net. is_ahead (line ∷ rest) net || after net) tracks)))
    (λ i way. pass_onward ways pins limit nets (with_line before line) rest after way i)

-- ---- net by net

pub onward_net : (passes : List NetTrack → Type 0) (ways : LineWays) (pins : Pins) (limit : ℕ) (all : List NetNo) (before : NetNo → Bool) (lines : List Line) (after : NetNo → Bool) (net : NetNo) (nets : List NetNo) (tracks : List NetTrack)
    → AllOnward passes ways pins limit all before lines after (net ∷ nets) tracks ↔ All (λ track. AllOnward passes ways pins limit all before lines after nets (on_track net track ∷ tracks)) (range_with_len 0 limit)
onward_net passes ways pins limit all before lines after net nets tracks =
    all_pieces (λ more. All passes (onward_ways ways pins limit all before lines after more)) (λ track. fills limit nets (on_track net track ∷ tracks)) (range_with_len 0 limit)

pub onward_alone : (passes : List NetTrack → Type 0) (ways : LineWays) (pins : Pins) (limit : ℕ) (all : List NetNo) (before : NetNo → Bool) (lines : List Line) (after : NetNo → Bool) (tracks : List NetTrack)
    → AllOnward passes ways pins limit all before lines after [] tracks ↔ All passes (onward_ways ways pins limit all before lines after tracks)
onward_alone passes ways pins limit all before lines after tracks = (
  λ h. All-head (λ more. All passes (onward_ways ways pins limit all before lines after more)) tracks [] h,
  λ h. all_one (λ more. All passes (onward_ways ways pins limit all before lines after more)) tracks h,
)

pub onward_split : (passes : List NetTrack → Type 0) (ways : LineWays) (pins : Pins) (nets limit : ℕ) (before : NetNo → Bool) (lines : List Line) (after : NetNo → Bool) (tracks : List NetTrack) (split : List NetNo)
    → SplitsOnward ways pins nets limit before lines after tracks split
    → AllOnward passes ways pins limit (nets_below nets) before lines after split tracks ↔ All passes (onward_ways ways pins limit (nets_below nets) before lines after tracks)
onward_split passes ways pins nets limit before lines after tracks split s =
    let pieces : All passes (flat_map (onward_ways ways pins limit (nets_below nets) before lines after) (fills limit split tracks)) ↔ AllOnward passes ways pins limit (nets_below nets) before lines after split tracks =
    all_pieces passes (onward_ways ways pins limit (nets_below nets) before lines after) (fills limit split tracks) in
    (λ h. subst (All passes) (sym s.each) (pieces.1 h), λ h. pieces.0 (subst (All passes) s.each h))

-- tracks that do not fit the first line stay such
still_unfit : (limit : ℕ) (line : Line) (nets : List NetNo) (tracks more : List NetTrack) → Contains (fills limit nets tracks) more → test_beside limit line [] tracks ≡ false → test_beside limit line [] more ≡ false
still_unfit limit line nets tracks more there unfit = elim (cases_Bool (test_beside limit line [] more)) [
  | inl fit ↦ absurd (both_ways (test_beside limit line [] tracks) unfit (fit_test limit line [] tracks (fewer_fit limit line [] more tracks (λ t at. fills_keep limit nets tracks more t there at) (test_fit limit line [] more fit))))
  | inr no' ↦ no'
]

pub onward_unfit : (passes : List NetTrack → Type 0) (ways : LineWays) (pins : Pins) (limit : ℕ) (all : List NetNo) (before : NetNo → Bool) (lines : List Line) (after : NetNo → Bool) (nets : List NetNo) (tracks : List NetTrack)
    → NoneUnfit ways → fit_first limit lines tracks ≡ false → AllOnward passes ways pins limit all before lines after nets tracks
onward_unfit passes ways pins limit all before [] after nets tracks none unfit = absurd (both_ways true unfit refl)
onward_unfit passes ways pins limit all before (line ∷ rest) after nets tracks none unfit =
    all_from_contains (λ more. All passes (onward_ways ways pins limit all before (line ∷ rest) after more)) (fills limit nets tracks) (λ more there.
    subst (All passes) (sym (ap (flat_map (λ way. onward_ways ways pins limit all (with_line before line) rest after (open_of pins (with_line before line) (λ net. is_ahead rest net || after net) way)))
    (none pins limit all before line (λ net. is_ahead rest net || after net) more (still_unfit limit line nets tracks more there unfit)))) (All-nil passes))

-- ---- line by line

abbrev pub further : LineWays → Pins → ℕ → List NetNo → (NetNo → Bool) → List Line → (NetNo → Bool) → List NetTrack → List (List NetTrack)
further ways pins limit all before lines after way = onward_ways ways pins limit all before lines after (open_of pins before (λ net. is_ahead lines net || after net) way)

pub onward_line : (passes : List NetTrack → Type 0) (ways : LineWays) (pins : Pins) (limit : ℕ) (all : List NetNo) (before : NetNo → Bool) (line : Line) (rest : List Line) (after : NetNo → Bool) (tracks : List NetTrack)
    → All passes (onward_ways ways pins limit all before (line ∷ rest) after tracks)
    ↔ All (λ way. All passes (further ways pins limit all (with_line before line) rest after way)) (ways pins limit all before line (λ net. is_ahead rest net || after net) tracks)
onward_line passes ways pins limit all before line rest after tracks =
    all_pieces passes (further ways pins limit all (with_line before line) rest after) (ways pins limit all before line (λ net. is_ahead rest net || after net) tracks)

-- the nets that are split at a line are so before all lines
pub split_line : (ways : LineWays) (pins : Pins) (nets limit : ℕ) (before : NetNo → Bool) (line : Line) (rest : List Line) (after : NetNo → Bool) (tracks : List NetTrack) (split : List NetNo)
    → SplitsAt ways pins nets before line (λ net. is_ahead rest net || after net) tracks split → SplitsOnward ways pins nets limit before (line ∷ rest) after tracks split
split_line ways pins nets limit before line rest after tracks split s = record {
  each =
      ap (flat_map (further ways pins limit (nets_below nets) (with_line before line) rest after)) (s.each limit)
      ∙ flat_flat (further ways pins limit (nets_below nets) (with_line before line) rest after) (ways pins limit (nets_below nets) before line (λ net. is_ahead rest net || after net)) (fills limit split tracks);
  few = s.few;
}

pub split_end : (ways : LineWays) (pins : Pins) (nets limit : ℕ) (before : NetNo → Bool) (after : NetNo → Bool) (tracks : List NetTrack) → SplitsOnward ways pins nets limit before [] after tracks []
split_end ways pins nets limit before after tracks = record { each = refl; few = omega arith }

-- ---- the measure

pub fewer_nets : (lines nets others all : ℕ) → nets ≡ others + 1 → lines * (all + 1) + others < lines * (all + 1) + nets
fewer_nets lines nets others all is = omega (arith, is)

pub fewer_lines : (lines rest nets split all : ℕ) → lines ≡ rest + 1 → split ≤ all → rest * (all + 1) + split < lines * (all + 1) + nets
fewer_lines lines rest nets split all is few =
    let spread : (rest + 1) * (all + 1) ≡ rest * (all + 1) + 1 * (all + 1) = add-mul rest 1 (all + 1) in
    subst (λ n. rest * (all + 1) + split < n * (all + 1) + nets) (sym is) (omega (arith, spread, few))

-- ---- the loop over the ways at a line

abbrev pub PassesFurther : (List NetTrack → Type 0) → LineWays → Pins → ℕ → List NetNo → (NetNo → Bool) → List Line → (NetNo → Bool) → List NetTrack → Type 0
PassesFurther passes ways pins limit all before lines after way = All passes (further ways pins limit all before lines after way)

pub way_pass : {Y : Type 0} (passes : List NetTrack → Type 0) (ways : LineWays) (pins : Pins) (nets limit : ℕ) (before : NetNo → Bool) (lines : List Line) (after : NetNo → Bool) (way kept seen : List NetTrack) (split now : List NetNo)
    → kept ≡ open_of pins before (λ net. is_ahead lines net || after net) way → seen ≡ kept → now ≡ split → SplitsOnward ways pins nets limit before lines after seen split
    → Y ↔ AllOnward passes ways pins limit (nets_below nets) before lines after now kept
    → Y ↔ PassesFurther passes ways pins limit (nets_below nets) before lines after way
way_pass passes ways pins nets limit before lines after way kept seen split now is look same s decides =
    let splits : SplitsOnward ways pins nets limit before lines after kept split = subst (λ ts. SplitsOnward ways pins nets limit before lines after ts split) look s in
    let both : AllOnward passes ways pins limit (nets_below nets) before lines after split kept ↔ All passes (onward_ways ways pins limit (nets_below nets) before lines after kept) =
    onward_split passes ways pins nets limit before lines after kept split splits in (
      λ y. subst (λ ts. All passes (onward_ways ways pins limit (nets_below nets) before lines after ts)) is (both.0 (subst (λ ns. AllOnward passes ways pins limit (nets_below nets) before lines after ns kept) same (decides.0 y))),
      λ h. decides.1 (subst (λ ns. AllOnward passes ways pins limit (nets_below nets) before lines after ns kept) (sym same) (both.1 (subst (λ ts. All passes (onward_ways ways pins limit (nets_below nets) before lines after ts)) (sym is) h))),
    )

pub ways_pass : (passes : List NetTrack → Type 0) (ways : LineWays) (pins : Pins) (limit : ℕ) (all : List NetNo) (before next : NetNo → Bool) (lines : List Line) (line : Line) (rest : List Line) (after : NetNo → Bool) (nets : List NetNo) (tracks : List NetTrack) (items : List (List NetTrack))
    → nets ≡ [] → lines ≡ line ∷ rest → next ≡ with_line before line → items ≡ ways pins limit all before line (λ net. is_ahead rest net || after net) tracks
    → AllOnward passes ways pins limit all before lines after nets tracks ↔ All (PassesFurther passes ways pins limit all next rest after) items
ways_pass passes ways pins limit all before next lines line rest after nets tracks items none split is_next is_items =
    let alone : AllOnward passes ways pins limit all before (line ∷ rest) after [] tracks ↔ All passes (onward_ways ways pins limit all before (line ∷ rest) after tracks) = onward_alone passes ways pins limit all before (line ∷ rest) after tracks in
    let whole : All passes (onward_ways ways pins limit all before (line ∷ rest) after tracks) ↔ All (PassesFurther passes ways pins limit all (with_line before line) rest after) (ways pins limit all before line (λ net. is_ahead rest net || after net) tracks) = onward_line passes ways pins limit all before line rest after tracks in (
      λ h. subst (λ b. All (PassesFurther passes ways pins limit all b rest after) items) (sym is_next) (subst (All (PassesFurther passes ways pins limit all (with_line before line) rest after)) (sym is_items)
          (whole.0 (alone.0 (subst (λ ns. AllOnward passes ways pins limit all before (line ∷ rest) after ns tracks) none (subst (λ ls. AllOnward passes ways pins limit all before ls after nets tracks) split h))))),
      λ h. subst (λ ls. AllOnward passes ways pins limit all before ls after nets tracks) (sym split) (subst (λ ns. AllOnward passes ways pins limit all before (line ∷ rest) after ns tracks) (sym none)
          (alone.1 (whole.1 (subst (All (PassesFurther passes ways pins limit all (with_line before line) rest after)) is_items (subst (λ b. All (PassesFurther passes ways pins limit all b rest after) items) is_next h))))),
    )

-- after the last line
pub end_pass : {Y : Type 0} (passes : List NetTrack → Type 0) (ways : LineWays) (pins : Pins) (limit : ℕ) (all : List NetNo) (before : NetNo → Bool) (lines : List Line) (after : NetNo → Bool) (nets : List NetNo) (tracks now : List NetTrack)
    → nets ≡ [] → lines ≡ [] → now ≡ tracks → Y ↔ passes now → Y ↔ AllOnward passes ways pins limit all before lines after nets tracks
end_pass passes ways pins limit all before lines after nets tracks now none past is decides =
    let alone : AllOnward passes ways pins limit all before [] after [] tracks ↔ All passes (tracks ∷ []) = onward_alone passes ways pins limit all before [] after tracks in (
      λ y. subst (λ ls. AllOnward passes ways pins limit all before ls after nets tracks) (sym past) (subst (λ ns. AllOnward passes ways pins limit all before [] after ns tracks) (sym none) (alone.1 (all_one passes tracks (subst passes is (decides.0 y))))),
      λ h. decides.1 (subst passes (sym is) (All-head passes tracks [] (alone.0 (subst (λ ns. AllOnward passes ways pins limit all before [] after ns tracks) none (subst (λ ls. AllOnward passes ways pins limit all before ls after nets tracks) past h))))),
    )

-- ---- all lines

pub all_pass : {Y : Type 0} (passes : List NetTrack → Type 0) (ways : LineWays) (pins : Pins) (nets limit : ℕ) (before : NetNo → Bool) (lines : List Line) (after : NetNo → Bool) (tracks kept seen : List NetTrack) (split now : List NetNo)
    → kept ≡ open_of pins before (λ net. is_ahead lines net || after net) tracks → seen ≡ kept → now ≡ split → SplitsOnward ways pins nets limit before lines after seen split
    → Y ↔ AllOnward passes ways pins limit (nets_below nets) before lines after now kept
    → Y ↔ All passes (pass_ways_by ways pins limit (nets_below nets) before lines after tracks)
all_pass passes ways pins nets limit before lines after tracks kept seen split now is look same s decides =
    let whole : pass_ways_by ways pins limit (nets_below nets) before lines after tracks ≡ further ways pins limit (nets_below nets) before lines after tracks = pass_onward ways pins limit (nets_below nets) before lines after tracks in
    let passed = way_pass passes ways pins nets limit before lines after tracks kept seen split now is look same s decides in
    (λ y. subst (All passes) (sym whole) (passed.0 y), λ h. passed.1 (subst (All passes) whole h))

pub none_all : {X : Type 0} (xs : List X) → All (λ x. ⊥) xs ↔ (xs ≡ [])
none_all [] = (λ all. refl, λ e. All-nil (λ x. ⊥))
none_all {X} (x ∷ xs) = (λ all. absurd (All-head (λ (x : X). ⊥) x xs all), λ e. absurd cc)
