-- The first completion along which tracks go, from that of the state after its first column.
use Rattle.std.proofs.Common.{ℕ, ◌≡◌, ◌+◌, ◌-◌, ◌<◌, ◌≤◌, ◌++◌, true, false, List, [], ◌∷◌, length, get_or, take, map, reverse, inl, inr, refl, sym, ap, subst, arith, All, Contains, ◌∙◌}
use Rattle.std.proofs.lemmas.List.{reverse-append}
use Rattle.std.proofs.lemmas.List.Elements.{All-contains}
use Rattle.cell_num.specs.declared.finger.Row.{Row}
use Rattle.cell_num.specs.declared.net.NetNo.{NetNo}
use Rattle.cell_num.specs.declared.net.Pins.{Pins}
use Rattle.cell_num.proofs.Lists.{all_imply, contains_here}
use Rattle.cell_num.proofs.Pairs.{Some', some_from_any}
use Rattle.row_state.specs.declared.candidate.Candidate.{Candidate}
use Rattle.row_state.specs.declared.kind.Kinds.{Kinds}
use Rattle.row_state.specs.declared.state.State.{State}
use Rattle.row_state.specs.declared.step.Step.{Step}
use Rattle.row_state.specs.Candidates.{AreCandidates}
use Rattle.row_state.specs.Completion.{Completes, cost_of, further_gaps}
use Rattle.row_state.specs.Start.{AreSomeKinds, IsState}
use Rattle.row_state.specs.Steps.{IsPossible, column_of, state_after}
use Rattle.row_state.proofs.Unfold.{further_step}
use Rattle.row_state.proofs.Valid.{gates_are_nets}
use Rattle.row_state.proofs.Calls.{valid_after}
use Rattle.track_ways.specs.Lines.{LineRule}
use Rattle.track_ways.specs.Paths.{EndsBy, GoesBy, Leads, RunsBy}
use Rattle.track_ways.specs.Rules.{IsRule}
use Rattle.track_ways.specs.Rows.{node_line}
use Rattle.track_ways.specs.States.{is_behind, is_open_at, is_still_ahead}
use Rattle.track_ways.specs.Tracks.{AreKeys, AreTracksOf, IsSingle, Listed}
use Rattle.track_ways.specs.Ways.{LineWays, ends_ways_by, goes_ways_by, nets_below}
use Rattle.track_ways.specs.declared.track.NetTrack.{NetTrack}
use Rattle.track_ways.proofs.Exact.{PassedBy, pass_exact_by}
use Rattle.track_ways.proofs.Nets.{behind_among, end_among}
use Rattle.track_ways.proofs.Path.{completes}
use Rattle.track_ways.proofs.Steps.{step_all_by, step_only_by}
use Rattle.track_ways.proofs.Whole.{again_by}
use Rattle.track_ways.specs.declared.lemma.TrackLemma.{TrackLemma}
use Rattle.track_ways.specs.Certificate.{AreJustifiedBy}
use Rattle.track_ways.specs.Checked.{IsRefutedListed}
use Rattle.track_ways.proofs.Sound.{Holds, lemmas_true_by, refuted_fails_by}
use Rattle.row_cycles.proofs.Completions.{complete_end, first_among, gaps_left, only_end}
use Rattle.track_search.specs.declared.ahead.Ahead.{Ahead}
use Rattle.track_search.specs.First.{IsFirstRouted, IsRouted, RunsOn}
use Rattle.track_check.specs.Steps.{StepFailsListedBy}
use Rattle.track_search.specs.Visit.{AreTaken, AreWaysAt, EndsFail, EndsGo, GoOn, HasPart, IsAhead, IsTaken, lemma_at}
use Rattle.track_search.proofs.Grown.{WaysFail}
use Rattle.track_search.proofs.Refuted.{refuted_listed}

-- the tracks of a part
pub part_tracks : (way other : List NetTrack) (track : NetNo → ℕ) → HasPart way other → AreTracksOf way track → AreTracksOf other track
part_tracks way other track part lie = all_imply (Contains way) (λ (t : NetTrack). track t.net ≡ t.track) other (λ t there. All-contains (λ (t : NetTrack). track t.net ≡ t.track) way t lie there) part

-- nothing runs from a way that is refuted
refuted_none : {rule : LineRule} {listing : LineWays} (r : IsRule rule listing) (value : Row → State → Kinds → ℕ) (pins : Pins) (limit : ℕ) (k : Kinds) (lemmas : List TrackLemma) (s : State) (gaps : ℕ) (way : List NetTrack) (next : NetNo → ℕ) (steps : List Step) → AreSomeKinds k → Holds value k → AreJustifiedBy rule value pins limit k lemmas → IsState k s → AreTracksOf way next → IsRefutedListed value k lemmas s gaps way → Leads k s steps → further_gaps s (map (column_of k) steps) ≤ gaps → RunsBy rule pins limit k s next steps → ⊥
refuted_none {rule} {listing} r value pins limit k lemmas s gaps way next steps some law all state lie refuted leads within runs =
    refuted_fails_by rule r.again value pins limit k lemmas s gaps next (gates_are_nets k some) law (lemmas_true_by rule r.again value pins limit k lemmas law some all) state (refuted_listed value k lemmas s gaps way next lie refuted) steps leads within runs

-- what goes on after the first column
record After (rule : LineRule) (listing : LineWays) (pins : Pins) (limit : ℕ) (k : Kinds) (s : State) (ways : List (List NetTrack)) (step : Step) (steps : List Step) : Type 0 where
  pub way : List NetTrack
  pub there : Contains ways way
  pub next : List NetTrack
  pub listed : Contains (goes_ways_by listing pins limit k s way step) next
  pub track : NetNo → ℕ
  pub lie : AreTracksOf next track
  pub runs : RunsBy rule pins limit k (state_after k s step) track steps

after_first : {rule : LineRule} {listing : LineWays} (r : IsRule rule listing) (pins : Pins) (limit : ℕ) (k : Kinds) (s : State) (ways : List (List NetTrack)) (step : Step) (steps : List Step) → RunsOn rule pins limit k s ways (step ∷ steps) → After rule listing pins limit k s ways step steps
after_first {rule} {listing} r pins limit k s ways step steps on = parts on.runs
  where
    parts : RunsBy rule pins limit k s on.track (step ∷ steps) → After rule listing pins limit k s ways step steps
    parts (next, goes, more) =
        let found : Some' (λ way. AreTracksOf way next) (goes_ways_by listing pins limit k s on.way step) = some_from_any (λ way. AreTracksOf way next) (goes_ways_by listing pins limit k s on.way step) (step_all_by r pins limit k s step on.way on.track next on.lie goes) in
        record { way = on.way; there = on.there; next = found.it; listed = found.there; track = next; lie = found.holds; runs = more }

-- a completion through a column that fails
routed_fails : {rule : LineRule} {listing : LineWays} (r : IsRule rule listing) (value : Row → State → Kinds → ℕ) (pins : Pins) (limit : ℕ) (k : Kinds) (lemmas : List TrackLemma) (s : State) (ways : List (List NetTrack)) (gaps : ℕ) (step : Step) (steps : List Step) → AreSomeKinds k → Holds value k → AreJustifiedBy rule value pins limit k lemmas → IsState k s → All (λ way. StepFailsListedBy listing value pins limit k lemmas (lemma_at s gaps way) step) ways → IsRouted rule pins limit k s ways gaps (step ∷ steps) → ⊥
routed_fails {rule} {listing} r value pins limit k lemmas s ways gaps step steps some law all state fails routed =
    let further : further_gaps s (column_of k step ∷ map (column_of k) steps) ≡ cost_of s (column_of k step) + further_gaps (state_after k s step) (map (column_of k) steps) = further_step k s step (map (column_of k) steps) in
    let sum : cost_of s (column_of k step) + (gaps - cost_of s (column_of k step)) ≡ gaps = omega (arith, further, routed.within) in
    let a : After rule listing pins limit k s ways step steps = after_first r pins limit k s ways step steps routed.on in
    refuted_none r value pins limit k lemmas (state_after k s step) (gaps - cost_of s (column_of k step)) a.next a.track steps some law all (valid_after k s step some state routed.leads.0) a.lie
    (All-contains (IsRefutedListed value k lemmas (state_after k s step) (gaps - cost_of s (column_of k step))) (goes_ways_by listing pins limit k s a.way step) a.next
    (All-contains (λ way. StepFailsListedBy listing value pins limit k lemmas (lemma_at s gaps way) step) ways a.way fails a.there (gaps - cost_of s (column_of k step)) routed.leads.0 sum) a.listed)
    routed.leads.1 (gaps_left k s step (map (column_of k) steps) (gaps - cost_of s (column_of k step)) gaps sum routed.within) a.runs

-- a completion through the column goes on from the ways after it
routed_after : {rule : LineRule} {listing : LineWays} (r : IsRule rule listing) (value : Row → State → Kinds → ℕ) (pins : Pins) (limit : ℕ) (k : Kinds) (lemmas : List TrackLemma) (s : State) (ways onward : List (List NetTrack)) (gaps left : ℕ) (step : Step) (steps : List Step) → AreSomeKinds k → Holds value k → AreJustifiedBy rule value pins limit k lemmas → IsState k s → cost_of s (column_of k step) + left ≡ gaps → All (AreTaken listing pins limit k lemmas s step (state_after k s step) left onward) ways → IsRouted rule pins limit k s ways gaps (step ∷ steps) → IsRouted rule pins limit k (state_after k s step) onward left steps
routed_after {rule} {listing} r value pins limit k lemmas s ways onward gaps left step steps some law all state sum taken routed =
    let within : further_gaps (state_after k s step) (map (column_of k) steps) ≤ left =
    gaps_left k s step (map (column_of k) steps) left gaps sum routed.within in
    let a : After rule listing pins limit k s ways step steps = after_first r pins limit k s ways step steps routed.on in
    let t : IsTaken lemmas (state_after k s step) left onward a.next = All-contains (IsTaken lemmas (state_after k s step) left onward) (goes_ways_by listing pins limit k s a.way step) a.next (All-contains (AreTaken listing pins limit k lemmas s step (state_after k s step) left onward) ways a.way taken a.there) a.listed in
    record {
      leads = routed.leads.1;
      within = within;
      on = elim t [
        | inl any ↦ absurd (refuted_none r value pins limit k lemmas (state_after k s step) left a.next a.track steps some law all (valid_after k s step some state routed.leads.0) a.lie (inr any) routed.leads.1 within a.runs)
        | inr part ↦
            let found : Some' (HasPart a.next) onward = some_from_any (HasPart a.next) onward part in
            record { way = found.it; there = found.there; track = a.track; lie = part_tracks a.next found.it a.track found.holds a.lie; runs = a.runs }
      ];
    }

-- two tracks of a way are the same for the open nets
same_open : (pins : Pins) (k : Kinds) (s : State) (way : List NetTrack) (track other : NetNo → ℕ) → AreKeys pins (is_behind k s) (is_still_ahead k s) way → AreTracksOf way track → AreTracksOf way other → (net : NetNo) → is_open_at pins k s net ≡ true → track net ≡ other net
same_open pins k s way track other keys lie also net open' =
    let l : Listed way net = keys.each net open' in
    let mine : track l.it.net ≡ l.it.track = All-contains (λ (t : NetTrack). track t.net ≡ t.track) way l.it lie l.there in
    let its : other l.it.net ≡ l.it.track = All-contains (λ (t : NetTrack). other t.net ≡ t.track) way l.it also l.there in
    subst (λ n. track n ≡ other n) l.is (mine ∙ sym its)

-- a completion after the column is one through it
routed_through : {rule : LineRule} {listing : LineWays} (r : IsRule rule listing) (pins : Pins) (limit : ℕ) (k : Kinds) (s : State) (ways onward : List (List NetTrack)) (gaps left : ℕ) (step : Step) (steps : List Step) → AreSomeKinds k → IsState k s → IsPossible k s step → cost_of s (column_of k step) + left ≡ gaps → AreWaysAt pins k s ways → AreWaysAt pins k (state_after k s step) onward → All (GoOn listing pins limit k s step ways) onward → IsRouted rule pins limit k (state_after k s step) onward left steps → IsRouted rule pins limit k s ways gaps (step ∷ steps)
routed_through {rule} {listing} r pins limit k s ways onward gaps left step steps some state possible sum keys after from routed =
    let on : RunsOn rule pins limit k (state_after k s step) onward steps = routed.on in
    let of : Some' (λ way. Contains (goes_ways_by listing pins limit k s way step) on.way) ways = some_from_any (λ way. Contains (goes_ways_by listing pins limit k s way step) on.way) ways (All-contains (GoOn listing pins limit k s step ways) onward on.way from on.there) in
    let own : AreKeys pins (is_behind k s) (is_still_ahead k s) of.it = All-contains (AreKeys pins (is_behind k s) (is_still_ahead k s)) ways of.it keys of.there in
    let only : (track : NetNo → ℕ) × (next : NetNo → ℕ) × AreTracksOf of.it track × GoesBy rule pins limit k s track step next × AreTracksOf on.way next = step_only_by r pins limit k s step of.it on.way some state own.one of.holds in
    record {
      leads = (possible, routed.leads);
      within = omega (arith, further_step k s step (map (column_of k) steps), routed.within, sum);
      on = record {
        way = of.it;
        there = of.there;
        track = only.0;
        lie = only.2;
        runs = (
          only.1,
          only.3,
          again_by rule r.again pins limit k (state_after k s step) on.track only.1 steps (gates_are_nets k some) routed.leads
              (same_open pins k (state_after k s step) on.way on.track only.1 (All-contains (AreKeys pins (is_behind k (state_after k s step)) (is_still_ahead k (state_after k s step))) onward on.way after on.there) on.lie only.4) on.runs,
        );
      };
    }

-- the first completion after the first column that does not fail is the first of the state
pub first_through : {rule : LineRule} {listing : LineWays} (r : IsRule rule listing) (value : Row → State → Kinds → ℕ) (pins : Pins) (limit : ℕ) (k : Kinds) (lemmas : List TrackLemma) (s : State) (ways onward : List (List NetTrack)) (gaps : ℕ) (ahead : Ahead) (items : List Candidate) (i : ℕ) (d : Candidate) (rest pushed : List Step) → AreSomeKinds k → Holds value k → AreJustifiedBy rule value pins limit k lemmas → IsState k s → AreCandidates k items → AreWaysAt pins k s ways → AreWaysAt pins k (state_after k s (get_or items i d).step) onward → i < length items → All (WaysFail listing value pins limit k lemmas s gaps ways) (take i items) → IsAhead pins limit k s gaps (get_or items i d).step ahead → All (AreTaken listing pins limit k lemmas s (get_or items i d).step ahead.state.state ahead.left onward) ways → All (GoOn listing pins limit k s (get_or items i d).step ways) onward → IsFirstRouted rule pins limit k ahead.state.state onward ahead.left (reverse rest) → pushed ≡ rest ++ (get_or items i d).step ∷ [] → IsFirstRouted rule pins limit k s ways gaps (reverse pushed)
first_through {rule} {listing} r value pins limit k lemmas s ways onward gaps ahead items i d rest pushed some law all state are keys after within fails a taken from h is =
    let step : Step = (get_or items i d).step in
    let taken' : All (AreTaken listing pins limit k lemmas s step (state_after k s step) ahead.left onward) ways = subst (λ z. All (AreTaken listing pins limit k lemmas s step z ahead.left onward) ways) a.state taken in
    let h' : IsFirstRouted rule pins limit k (state_after k s step) onward ahead.left (reverse rest) = subst (λ z. IsFirstRouted rule pins limit k z onward ahead.left (reverse rest)) a.state h in
    let routed : IsRouted rule pins limit k s ways gaps (step ∷ reverse rest) = routed_through r pins limit k s ways onward gaps ahead.left step (reverse rest) some state a.possible a.left keys after from h'.routed in
    subst (IsFirstRouted rule pins limit k s ways gaps) (sym (ap reverse is ∙ reverse-append rest (step ∷ [])))
    (record {
      routed = routed;
      first = λ other also.
          first_among k s items i d (map (column_of k) (reverse rest)) other
          (WaysFail listing value pins limit k lemmas s gaps ways) state are within
          (completes k s (step ∷ reverse rest) (gates_are_nets k some) routed.leads) fails
          (λ next zs bad is. routed_fails r value pins limit k lemmas s ways gaps next.step zs some law all state bad
          (subst (IsRouted rule pins limit k s ways gaps) is also))
          (λ zs is. h'.first zs (routed_after r value pins limit k lemmas s ways onward gaps ahead.left step zs some law
          all state a.left taken' (subst (IsRouted rule pins limit k s ways gaps) is also)))
          also.leads;
    })

-- a way from which tracks go through the last line
end_runs : {rule : LineRule} {listing : LineWays} (r : IsRule rule listing) (pins : Pins) (limit : ℕ) (k : Kinds) (s : State) (way : List NetTrack) (found : List (List NetTrack)) → AreSomeKinds k → IsState k s → IsSingle way → ends_ways_by listing pins limit k s way ≡ found → (found ≡ [] → ⊥) → (track : NetNo → ℕ) × AreTracksOf way track × EndsBy rule pins limit k s track
end_runs {rule} {listing} r pins limit k s way [] some state one is go = absurd (go refl)
end_runs {rule} {listing} r pins limit k s way (x ∷ xs) some state one is go =
    let p : PassedBy rule pins limit (is_behind k s) (node_line s.p_end s.n_end ∷ []) (λ net. false) way x = pass_exact_by r pins limit (nets_below k.nets) (is_behind k s) (node_line s.p_end s.n_end ∷ []) (λ net. false) way x one (behind_among k s some) (end_among k s state) (subst (λ zs. Contains zs x) (sym is) (contains_here x xs)) in
    (p.track, p.from, (p.last, p.passes))

-- with no finger left the empty list is the first
pub first_at_end : {rule : LineRule} {listing : LineWays} (r : IsRule rule listing) (pins : Pins) (limit : ℕ) (k : Kinds) (s : State) (ways : List (List NetTrack)) (gaps : ℕ) (steps : List Step) → AreSomeKinds k → IsState k s → AreWaysAt pins k s ways → EndsGo listing pins limit k s ways → steps ≡ [] → IsFirstRouted rule pins limit k s ways gaps (reverse steps)
first_at_end {rule} {listing} r pins limit k s ways gaps steps some state keys ends is =
    let whole : Completes k s [] = complete_end k s ends.none in
    let go : Some' (λ way. EndsFail listing pins limit k s way → ⊥) ways = some_from_any (λ way. EndsFail listing pins limit k s way → ⊥) ways ends.go in
    let own : AreKeys pins (is_behind k s) (is_still_ahead k s) go.it = All-contains (AreKeys pins (is_behind k s) (is_still_ahead k s)) ways go.it keys go.there in
    let last : (track : NetNo → ℕ) × AreTracksOf go.it track × EndsBy rule pins limit k s track = end_runs r pins limit k s go.it (ends_ways_by listing pins limit k s go.it) some state own.one refl go.holds in
    subst (λ zs. IsFirstRouted rule pins limit k s ways gaps (reverse zs)) (sym is)
    (record {
      routed = record {
        leads = whole;
        within = omega arith;
        on = record { way = go.it; there = go.there; track = last.0; lie = last.1; runs = last.2 };
      };
      first = λ other routed. inl (sym (only_end k s (map (column_of k) other) whole (completes k s other (gates_are_nets k some) routed.leads)));
    })
