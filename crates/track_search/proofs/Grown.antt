-- What a visit shows of its lemmas.
use Rattle.std.proofs.Common.{ℕ, zero, suc, ◌≡◌, ◌+◌, ◌<◌, ◌≤◌, ◌++◌, List, [], ◌∷◌, length, drop, get_or, take, take_all, map, inl, inr, refl, sym, ap, subst, arith, All, Any, Contains, ◌∙◌, append_assoc, append-nil}
use Rattle.std.proofs.lemmas.List.{map-append}
use Rattle.std.proofs.lemmas.List.Elements.{All-append, All-contains, All-more, All-nil, All-weaker, Contains-append_right}
use Rattle.cell_num.specs.declared.finger.Row.{Row}
use Rattle.cell_num.specs.declared.net.Pins.{Pins}
use Rattle.cell_num.proofs.In.{contains_map}
use Rattle.cell_num.proofs.Lists.{all_from_contains, all_imply, all_map}
use Rattle.cell_num.proofs.Pairs.{Some', any_append_left, any_at, some_from_any}
use Rattle.row_state.specs.declared.candidate.Candidate.{Candidate}
use Rattle.row_state.specs.declared.kind.Kinds.{Kinds}
use Rattle.row_state.specs.declared.state.State.{State}
use Rattle.row_state.specs.declared.step.Step.{Step}
use Rattle.row_state.specs.Candidates.{AreCandidates}
use Rattle.row_state.specs.Completion.{cost_of}
use Rattle.row_state.specs.Start.{AreSomeKinds, HasFingers, IsState, columns_left}
use Rattle.row_state.specs.Steps.{column_of, state_after}
use Rattle.track_ways.specs.Lines.{LineRule}
use Rattle.track_ways.specs.Paths.{EndsFit}
use Rattle.track_ways.specs.Rules.{IsRule}
use Rattle.track_ways.specs.Ways.{LineWays, goes_ways_by}
use Rattle.track_ways.specs.declared.track.NetTrack.{NetTrack}
use Rattle.track_ways.specs.declared.lemma.TrackLemma.{TrackLemma}
use Rattle.track_ways.specs.Certificate.{CoversAll}
use Rattle.track_ways.specs.Checked.{CoversListed, IsJustifiedListedBy, IsRefutedListed}
use Rattle.row_cycles.proofs.Left.{each_left, same_left}
use Rattle.track_search.specs.declared.ahead.Ahead.{Ahead}
use Rattle.track_search.specs.declared.progress.Progress.{Progress}
use Rattle.track_search.specs.InOrder.{in_order}
use Rattle.track_search.specs.Bare.{IsNoted, IsShut}
use Rattle.track_search.specs.Kept.{AreKeptBy, IsSpentBelowBy, IsWithin}
use Rattle.track_check.specs.Steps.{StepFailsListedBy, WaysFailBy}
use Rattle.track_search.specs.Visit.{AreBelow, AreCovered, AreFresh, AreTaken, ColumnFails, EndsFail, HasPart, IsAhead, IsCutOff, IsGrown, IsKept, IsOfOpen, IsTaken, kept_at, lemma_at}
use Rattle.track_search.proofs.Kept.{AreSame, fresh_grown, kept_front, kept_new, kept_within, part_of_part, ways_in_order}
use Rattle.track_search.proofs.Refuted.{kept_all, step_fails_more}

-- the column leaves a lemma of each way justified
abbrev pub WaysFail : LineWays → (Row → State → Kinds → ℕ) → Pins → ℕ → Kinds → List TrackLemma → State → ℕ → List (List NetTrack) → Candidate → Type 0
WaysFail listing value pins limit k lemmas s allowed ways c = All (λ way. StepFailsListedBy listing value pins limit k lemmas (lemma_at s allowed way) c.step) ways

pub ways_fail_more : (listing : LineWays) (value : Row → State → Kinds → ℕ) (pins : Pins) (limit : ℕ) (k : Kinds) (xs ys more : List TrackLemma) (s : State) (allowed : ℕ) (ways : List (List NetTrack)) (items : List Candidate) → ys ≡ xs ++ more → All (WaysFail listing value pins limit k xs s allowed ways) items → All (WaysFail listing value pins limit k ys s allowed ways) items
ways_fail_more listing value pins limit k xs ys more s allowed ways items is all =
    All-weaker (WaysFail listing value pins limit k xs s allowed ways) (WaysFail listing value pins limit k ys s allowed ways) (λ c each.
    All-weaker (λ way. StepFailsListedBy listing value pins limit k xs (lemma_at s allowed way) c.step) (λ way. StepFailsListedBy listing value pins limit k ys (lemma_at s allowed way) c.step) (λ way h. step_fails_more listing value pins limit k xs ys more (lemma_at s allowed way) c.step is h) ways each) items all

-- one more column that fails whatever the tracks are
pub column_fails : (listing : LineWays) (value : Row → State → Kinds → ℕ) (pins : Pins) (limit : ℕ) (k : Kinds) (lemmas : List TrackLemma) (s : State) (allowed : ℕ) (ways : List (List NetTrack)) (items : List Candidate) (i : ℕ) (d : Candidate) → i < length items → All (WaysFail listing value pins limit k lemmas s allowed ways) (take i items) → ColumnFails listing value pins limit k lemmas s allowed (get_or items i d).step → All (WaysFail listing value pins limit k lemmas s allowed ways) (take (i + 1) items)
column_fails listing value pins limit k lemmas s allowed ways items i d within all fails =
    All-more (WaysFail listing value pins limit k lemmas s allowed ways) items i d within all (all_from_contains (λ way. StepFailsListedBy listing value pins limit k lemmas (lemma_at s allowed way) (get_or items i d).step) ways (λ way there. fails way))

-- a lemma that speaks of a part of a way speaks of the way
covers_whole : (lemmas : List TrackLemma) (s : State) (gaps : ℕ) (way part : List NetTrack) → HasPart way part → Any (CoversListed s gaps part) lemmas → Any (CoversListed s gaps way) lemmas
covers_whole lemmas s gaps way part has any =
    let found : Some' (CoversListed s gaps part) lemmas = some_from_any (CoversListed s gaps part) lemmas any in
    any_at (CoversListed s gaps way) lemmas found.it found.there (record { state = found.holds.state; enough = found.holds.enough; tracks = part_of_part way part found.it.tracks has found.holds.tracks })

-- no tracks go through the lines to the column
pub crowded_fails : (listing : LineWays) (value : Row → State → Kinds → ℕ) (pins : Pins) (limit : ℕ) (k : Kinds) (lemmas : List TrackLemma) (s : State) (allowed : ℕ) (step : Step) → ((way : List NetTrack) → goes_ways_by listing pins limit k s way step ≡ []) → ColumnFails listing value pins limit k lemmas s allowed step
crowded_fails listing value pins limit k lemmas s allowed step none way left possible sum = subst (All (IsRefutedListed value k lemmas (state_after k s step) left)) (sym (none way)) (All-nil (IsRefutedListed value k lemmas (state_after k s step) left))

-- a lemma that speaks of a state for all tracks
covers_any : (lemmas : List TrackLemma) (s : State) (gaps : ℕ) (way : List NetTrack) → Any (CoversAll s gaps) lemmas → Any (CoversListed s gaps way) lemmas
covers_any lemmas s gaps way any =
    let found : Some' (CoversAll s gaps) lemmas = some_from_any (CoversAll s gaps) lemmas any in
    any_at (CoversListed s gaps way) lemmas found.it found.there (record {
      state = found.holds.state;
      enough = found.holds.enough;
      tracks = subst (All (Contains way)) (sym found.holds.any) (All-nil (Contains way));
    })

-- the state after the column needs more gaps, or a lemma speaks of it for all tracks
pub shut_fails : (listing : LineWays) (value : Row → State → Kinds → ℕ) (pins : Pins) (limit : ℕ) (k : Kinds) (lemmas : List TrackLemma) (s : State) (allowed left : ℕ) (step : Step) → cost_of s (column_of k step) + left ≡ allowed → IsShut value k lemmas (state_after k s step) left → ColumnFails listing value pins limit k lemmas s allowed step
shut_fails listing value pins limit k lemmas s allowed left step sum shut way other possible also =
    subst (λ n. All (IsRefutedListed value k lemmas (state_after k s step) n) (goes_ways_by listing pins limit k s way step)) (same_left (cost_of s (column_of k step)) left other allowed sum also)
    (all_from_contains (IsRefutedListed value k lemmas (state_after k s step) left) (goes_ways_by listing pins limit k s way step) (λ next at. elim shut [
      | inl needs ↦ inl needs
      | inr any ↦ inr (covers_any lemmas (state_after k s step) left next any)
    ]))

-- one more column whose ways all fail
pub ahead_fails : (listing : LineWays) (value : Row → State → Kinds → ℕ) (pins : Pins) (limit : ℕ) (k : Kinds) (xs ys more : List TrackLemma) (s : State) (allowed : ℕ) (ways onward : List (List NetTrack)) (step : Step) (ahead : Ahead) → ys ≡ xs ++ more → IsAhead pins limit k s allowed step ahead → All (AreTaken listing pins limit k xs s step ahead.state.state ahead.left onward) ways → AreCovered ys ahead.state.state ahead.left onward → All (λ way. StepFailsListedBy listing value pins limit k ys (lemma_at s allowed way) step) ways
ahead_fails listing value pins limit k xs ys more s allowed ways onward step ahead is a taken covered =
    all_imply (AreTaken listing pins limit k xs s step ahead.state.state ahead.left onward) (λ way. StepFailsListedBy listing value pins limit k ys (lemma_at s allowed way) step) ways (λ way all left possible sum.
    subst (λ n. All (IsRefutedListed value k ys (state_after k s step) n) (goes_ways_by listing pins limit k s way step)) (same_left (cost_of s (column_of k step)) ahead.left left allowed a.left sum)
    (subst (λ z. All (IsRefutedListed value k ys z ahead.left) (goes_ways_by listing pins limit k s way step)) a.state
    (all_imply (IsTaken xs ahead.state.state ahead.left onward) (IsRefutedListed value k ys ahead.state.state ahead.left) (goes_ways_by listing pins limit k s way step) (λ next t. inr (known next t)) all))) taken
  where
    known : (next : List NetTrack) → IsTaken xs ahead.state.state ahead.left onward next → Any (CoversListed ahead.state.state ahead.left next) ys
    known next (inl any) = subst (Any (CoversListed ahead.state.state ahead.left next)) (sym is) (any_append_left (CoversListed ahead.state.state ahead.left next) xs more any)
    known next (inr part) =
        let found : Some' (HasPart next) onward = some_from_any (HasPart next) onward part in
        covers_whole ys ahead.state.state ahead.left next found.it found.holds (All-contains (λ way. Any (CoversListed ahead.state.state ahead.left way) ys) onward found.it covered found.there)

-- what is kept stays kept where more is known of states
pub kept_same : (rule : LineRule) (value : Row → State → Kinds → ℕ) (pins : Pins) (limit : ℕ) (k : Kinds) (gaps budget : ℕ) (p q : Progress) → IsKept rule value pins limit k gaps budget p → q.lemmas ≡ p.lemmas → IsNoted value pins limit k q → IsKept rule value pins limit k gaps budget q
kept_same rule value pins limit k gaps budget p q h same noted = record { kept = subst (AreKeptBy rule value pins limit k gaps) (sym same) h.kept; few = omega (arith, h.few, ap length same); noted = noted }

-- no lemma more
pub grown_same : (rule : LineRule) (value : Row → State → Kinds → ℕ) (pins : Pins) (limit : ℕ) (k : Kinds) (gaps budget columns : ℕ) (p q : Progress) → IsKept rule value pins limit k gaps budget q → q.lemmas ≡ p.lemmas → IsGrown rule value pins limit k gaps budget columns p q
grown_same rule value pins limit k gaps budget columns p q h same = record {
  kept = h;
  more = [];
  is = same ∙ sym (append-nil p.lemmas);
  fewer = All-nil (λ (lemma : TrackLemma). columns_left k lemma.state < columns);
}

pub grown_on : (rule : LineRule) (value : Row → State → Kinds → ℕ) (pins : Pins) (limit : ℕ) (k : Kinds) (gaps budget columns : ℕ) (p q r : Progress) → IsGrown rule value pins limit k gaps budget columns p q → IsGrown rule value pins limit k gaps budget columns q r → IsGrown rule value pins limit k gaps budget columns p r
grown_on rule value pins limit k gaps budget columns p q r g h = record {
  kept = h.kept;
  more = g.more ++ h.more;
  is = h.is ∙ ap (λ xs. xs ++ h.more) g.is ∙ append_assoc p.lemmas g.more h.more;
  fewer = All-append (λ (lemma : TrackLemma). columns_left k lemma.state < columns) g.more h.more g.fewer h.fewer;
}

-- for more columns
pub grown_wider : (rule : LineRule) (value : Row → State → Kinds → ℕ) (pins : Pins) (limit : ℕ) (k : Kinds) (gaps budget columns more : ℕ) (p q : Progress) → columns ≤ more → IsGrown rule value pins limit k gaps budget columns p q → IsGrown rule value pins limit k gaps budget more p q
grown_wider rule value pins limit k gaps budget columns more p q le g = record {
  kept = g.kept;
  more = g.more;
  is = g.is;
  fewer = all_imply (λ (lemma : TrackLemma). columns_left k lemma.state < columns) (λ (lemma : TrackLemma). columns_left k lemma.state < more) g.more (λ lemma less. omega (arith, less, le)) g.fewer;
}

-- through the visit of a state after a next column
pub grown_through : (rule : LineRule) (value : Row → State → Kinds → ℕ) (pins : Pins) (limit : ℕ) (k : Kinds) (gaps budget columns left : ℕ) (p q r : Progress) → columns ≡ left + 1 → IsGrown rule value pins limit k gaps budget columns p q → IsGrown rule value pins limit k gaps budget (left + 1) q r → IsGrown rule value pins limit k gaps budget columns p r
grown_through rule value pins limit k gaps budget columns left p q r fewer g h =
    grown_on rule value pins limit k gaps budget columns p q r g (grown_wider rule value pins limit k gaps budget (left + 1) columns q r (omega (arith, fewer)) h)

-- also where one column more counts
pub grown_above : (rule : LineRule) (value : Row → State → Kinds → ℕ) (pins : Pins) (limit : ℕ) (k : Kinds) (gaps budget columns left : ℕ) (p q r : Progress) → columns ≡ left + 1 → IsGrown rule value pins limit k gaps budget columns p q → IsGrown rule value pins limit k gaps budget (left + 1) q r → IsGrown rule value pins limit k gaps budget (columns + 1) p r
grown_above rule value pins limit k gaps budget columns left p q r fewer g h =
    grown_wider rule value pins limit k gaps budget columns (columns + 1) p r (omega arith) (grown_through rule value pins limit k gaps budget columns left p q r fewer g h)

-- and where more is known of states after it
pub grown_known : (rule : LineRule) (value : Row → State → Kinds → ℕ) (pins : Pins) (limit : ℕ) (k : Kinds) (gaps budget columns : ℕ) (p q r : Progress) → IsGrown rule value pins limit k gaps budget columns p q → r.lemmas ≡ q.lemmas → IsNoted value pins limit k r → IsGrown rule value pins limit k gaps budget columns p r
grown_known rule value pins limit k gaps budget columns p q r g same noted =
    grown_on rule value pins limit k gaps budget columns p q r g (grown_same rule value pins limit k gaps budget columns q r (kept_same rule value pins limit k gaps budget q r g.kept same noted) same)

-- where each next column fails and the end does, lemmas on the ways are justified
each_justified : (listing : LineWays) (value : Row → State → Kinds → ℕ) (pins : Pins) (limit : ℕ) (k : Kinds) (lemmas : List TrackLemma) (s : State) (allowed : ℕ) (ways : List (List NetTrack)) (all : List Candidate) → AreCandidates k all → IsState k s → EndsFit k s → All (IsOfOpen pins k s) ways → All (WaysFail listing value pins limit k lemmas s allowed ways) all → ((HasFingers k s → ⊥) → All (EndsFail listing pins limit k s) ways) → All (λ way. IsJustifiedListedBy listing value pins limit k lemmas (lemma_at s allowed way)) ways
each_justified listing value pins limit k lemmas s allowed ways all are state fit of_open fails ends =
    all_from_contains (λ way. IsJustifiedListedBy listing value pins limit k lemmas (lemma_at s allowed way)) ways (λ way there.
    let own : IsOfOpen pins k s way = All-contains (IsOfOpen pins k s) ways way of_open there in
    let steps : (step : Step) → StepFailsListedBy listing value pins limit k lemmas (lemma_at s allowed way) step = each_left k s allowed all (WaysFailBy listing value pins limit k lemmas (lemma_at s allowed way)) state are (all_imply (WaysFail listing value pins limit k lemmas s allowed ways) (λ (c : Candidate). StepFailsListedBy listing value pins limit k lemmas (lemma_at s allowed way) c.step) all (λ c each. All-contains (λ way. StepFailsListedBy listing value pins limit k lemmas (lemma_at s allowed way) c.step) ways way each there) fails) in
    record {
      valid = record { state = state; ends = fit; open' = own.open'; one = own.one };
      holds = inr (record { steps = λ step left possible sum. steps step left possible sum; ends = λ none. All-contains (EndsFail listing pins limit k s) ways way (ends none) there });
    })

-- the lemmas and those on the ways, where each next column fails and the end does
pub kept_sound : {rule : LineRule} {listing : LineWays} (r : IsRule rule listing) (value : Row → State → Kinds → ℕ) (pins : Pins) (limit : ℕ) (k : Kinds) (gaps budget : ℕ) (p q : Progress) (s : State) (allowed : ℕ) (ways : List (List NetTrack)) (all : List Candidate) (i : ℕ) → AreSomeKinds k → AreCandidates k all → IsState k s → EndsFit k s → All (IsOfOpen pins k s) ways → All (AreBelow limit) ways → AreFresh p.lemmas s allowed ways → allowed ≤ gaps → length all ≤ i → All (WaysFail listing value pins limit k q.lemmas s allowed ways) (take i all) → ((HasFingers k s → ⊥) → All (EndsFail listing pins limit k s) ways) → IsGrown rule value pins limit k gaps budget (columns_left k s) p q → AreKeptBy rule value pins limit k gaps (q.lemmas ++ map (kept_at k.nets s allowed) ways)
kept_sound {rule} {listing} r value pins limit k gaps budget p q s allowed ways all i some are state fit of_open below fresh le past fails ends g =
    let same : All (λ way. AreSame way (in_order k.nets way)) ways = ways_in_order pins k s ways some of_open in record {
      justified = kept_all r value pins limit k some s allowed ways q.lemmas g.kept.kept.justified same (each_justified listing value pins limit k q.lemmas s allowed ways all are state fit of_open (subst (All (WaysFail listing value pins limit k q.lemmas s allowed ways)) (take_all i all past) fails) ends);
      own = kept_new k s allowed ways q.lemmas same g.kept.kept.own (fresh_grown k s allowed ways p.lemmas q.lemmas g.more g.is g.fewer fresh);
      within = All-append (IsWithin k limit gaps) q.lemmas (map (kept_at k.nets s allowed) ways) g.kept.kept.within (kept_within k limit gaps s allowed ways le state below);
    }

-- what a visit that fails has kept
pub kept_grown : (rule : LineRule) (value : Row → State → Kinds → ℕ) (pins : Pins) (limit : ℕ) (k : Kinds) (gaps budget : ℕ) (p q r : Progress) (s : State) (allowed : ℕ) (ways : List (List NetTrack)) → IsGrown rule value pins limit k gaps budget (columns_left k s) p q → AreKeptBy rule value pins limit k gaps (q.lemmas ++ map (kept_at k.nets s allowed) ways) → r.lemmas ≡ q.lemmas ++ map (kept_at k.nets s allowed) ways → IsNoted value pins limit k r → length r.lemmas ≤ budget → IsGrown rule value pins limit k gaps budget (columns_left k s + 1) p r
kept_grown rule value pins limit k gaps budget p q r s allowed ways g sound is noted few = record {
  kept = record { kept = subst (AreKeptBy rule value pins limit k gaps) (sym is) sound; few = few; noted = noted };
  more = g.more ++ map (kept_at k.nets s allowed) ways;
  is = is ∙ ap (λ xs. xs ++ map (kept_at k.nets s allowed) ways) g.is ∙ append_assoc p.lemmas g.more (map (kept_at k.nets s allowed) ways);
  fewer = All-append (λ (lemma : TrackLemma). columns_left k lemma.state < columns_left k s + 1) g.more (map (kept_at k.nets s allowed) ways)
      (all_imply (λ (lemma : TrackLemma). columns_left k lemma.state < columns_left k s) (λ (lemma : TrackLemma). columns_left k lemma.state < columns_left k s + 1) g.more (λ lemma less. omega (arith, less)) g.fewer)
      (all_map (λ way. Unit {0}) (λ (lemma : TrackLemma). columns_left k lemma.state < columns_left k s + 1) (kept_at k.nets s allowed) ways (λ way u. omega arith) (all_from_contains (λ way. Unit {0}) ways (λ way there. tt)));
}

-- where the budget is spent there
pub kept_spent : (rule : LineRule) (value : Row → State → Kinds → ℕ) (pins : Pins) (limit : ℕ) (k : Kinds) (gaps budget : ℕ) (lemmas first : List TrackLemma) → AreKeptBy rule value pins limit k gaps lemmas → IsCutOff budget lemmas first → IsSpentBelowBy rule value pins limit k gaps budget
kept_spent rule value pins limit k gaps budget lemmas first kept cut = record {
  lemmas = first;
  kept = kept_front rule value pins limit k gaps first cut.rest (subst (AreKeptBy rule value pins limit k gaps) cut.is kept);
  more = cut.more;
}

-- the lemma on a way is one too many, and those on the ways after it are not kept
pub cut_on : (budget : ℕ) (f : List NetTrack → TrackLemma) (ways : List (List NetTrack)) (i : ℕ) (way : List NetTrack) (old now first : List TrackLemma) → way ≡ get_or ways i way → i < length ways → now ≡ old ++ map f (take i ways) → IsCutOff budget (now ++ f way ∷ []) first → IsCutOff budget (old ++ map f ways) first
cut_on budget f ways i way old now first is within kept cut = record {
  rest = cut.rest ++ map f (drop (suc i) ways);
  is = ap (λ ws. old ++ map f ws) (split ways i way is within)
      ∙ ap (λ xs. old ++ xs) (map-append f (take i ways) (way ∷ drop (suc i) ways))
      ∙ sym (append_assoc old (map f (take i ways)) (f way ∷ map f (drop (suc i) ways)))
      ∙ ap (λ xs. xs ++ f way ∷ map f (drop (suc i) ways)) (sym kept)
      ∙ sym (append_assoc now (f way ∷ []) (map f (drop (suc i) ways)))
      ∙ ap (λ xs. xs ++ map f (drop (suc i) ways)) cut.is
      ∙ append_assoc first cut.rest (map f (drop (suc i) ways));
  more = cut.more;
}
  where
    split : {X : Type 0} (xs : List X) (n : ℕ) (x : X) → x ≡ get_or xs n x → n < length xs → xs ≡ take n xs ++ x ∷ drop (suc n) xs
    split [] n x e less = absurd (omega (arith, less))
    split (y ∷ ys) zero x e less = ap (λ z. z ∷ ys) (sym e)
    split (y ∷ ys) (suc n) x e less = ap (λ zs. y ∷ zs) (split ys n x e (omega (arith, less)))

-- and they speak of each way
pub kept_covers : (pins : Pins) (k : Kinds) (lemmas kept : List TrackLemma) (s : State) (allowed : ℕ) (ways : List (List NetTrack)) → AreSomeKinds k → All (IsOfOpen pins k s) ways → kept ≡ lemmas ++ map (kept_at k.nets s allowed) ways → AreCovered kept s allowed ways
kept_covers pins k lemmas kept s allowed ways some of_open is = all_from_contains (λ way. Any (CoversListed s allowed way) kept) ways (λ way there.
    let same : AreSame way (in_order k.nets way) = All-contains (λ way. AreSame way (in_order k.nets way)) ways way (ways_in_order pins k s ways some of_open) there in
    any_at (CoversListed s allowed way) kept (kept_at k.nets s allowed way) (subst (λ xs. Contains xs (kept_at k.nets s allowed way)) (sym is) (Contains-append_right lemmas (map (kept_at k.nets s allowed) ways) (kept_at k.nets s allowed way) (contains_map (kept_at k.nets s allowed) ways way there)))
    (record { state = refl; enough = omega arith; tracks = same.to }))
