-- What a checker goes through decides whether a lemma is justified.
use Rattle.std.proofs.Common.{ℕ, ◌≡◌, ◌&&◌, not, true, false, List, [], ◌∷◌, inl, inr, sym, ap, subst, All, Contains, ◌∙◌, ◌↔◌}
use Rattle.std.proofs.lemmas.List.Elements.{All-contains}
use Rattle.cell_num.specs.declared.finger.Row.{Row}
use Rattle.cell_num.specs.declared.net.NetNo.{NetNo}
use Rattle.cell_num.specs.declared.net.Pins.{Pins}
use Rattle.cell_num.proofs.Lists.{all_from_contains, contains_none}
use Rattle.cell_num.proofs.Pairs.{Some', some_from_any, any_from_some}
use Rattle.row_state.specs.declared.kind.Kinds.{Kinds}
use Rattle.row_state.specs.declared.state.State.{State}
use Rattle.row_state.specs.Steps.{column_of, state_after, IsPossible}
use Rattle.cell_num.specs.Pins.{is_rail}
use Rattle.track_ways.specs.Rows.{node_line}
use Rattle.track_ways.specs.States.{is_behind, is_still_ahead, is_open_at}
use Rattle.track_ways.specs.Lines.{LineRule}
use Rattle.track_ways.specs.Paths.{lines_to, EndsBy, EndsFit, GoesBy}
use Rattle.track_ways.specs.Rules.{IsRule}
use Rattle.track_ways.specs.StraightLaw.{straight_rule}
use Rattle.track_ways.specs.declared.track.NetTrack.{NetTrack}
use Rattle.track_ways.specs.declared.lemma.TrackLemma.{TrackLemma}
use Rattle.track_ways.specs.Certificate.{BranchesBy, Covers, IsRefuted, IsJustified, IsJustifiedBy, IsValid}
use Rattle.track_ways.specs.Tracks.{AreTracksOf, AreKeys, Listed}
use Rattle.track_ways.specs.Ways.{LineWays, goes_ways_by, nets_below, ends_ways_by, is_behind_step}
use Rattle.track_ways.specs.Checked.{BranchesListedBy, CoversListed, IsRefutedListed, IsJustifiedListed, IsJustifiedListedBy}
use Rattle.row_model.specs.declared.column.Column.{Column}
use Rattle.row_state.specs.declared.step.Step.{Step}
use Rattle.row_state.specs.Completion.{Completes}
use Rattle.row_state.specs.Start.{AreSomeKinds, GatesAreNets}
use Rattle.row_state.proofs.Exists.{completion_exists}
use Rattle.row_state.proofs.Valid.{gates_are_nets}
use Rattle.track_ways.proofs.Path.{StepsOf, steps_of}
use Rattle.track_ways.proofs.Complete.{pass_complete_by}
use Rattle.track_ways.proofs.Steps.{step_only_by, step_keys_by, step_behind, ends_listed_by}

listed_covers : (s : State) (gaps : ℕ) (way : List NetTrack) (next : NetNo → ℕ) (lemma : TrackLemma) → AreTracksOf way next → CoversListed s gaps way lemma → Covers s gaps next lemma
listed_covers s gaps way next lemma have h = record {
  state = h.state;
  enough = h.enough;
  tracks = all_from_contains (λ (t : NetTrack). next t.net ≡ t.track) lemma.tracks (λ t there. All-contains (λ (t : NetTrack). next t.net ≡ t.track) way t have (All-contains (Contains way) lemma.tracks t h.tracks there));
}

refuted_listed : (value : Row → State → Kinds → ℕ) (k : Kinds) (earlier : List TrackLemma) (s : State) (gaps : ℕ) (way : List NetTrack) (next : NetNo → ℕ) → AreTracksOf way next → IsRefutedListed value k earlier s gaps way → IsRefuted value k earlier s gaps next
refuted_listed value k earlier s gaps way next have (inl d) = inl d
refuted_listed value k earlier s gaps way next have (inr any) =
    let found : Some' (CoversListed s gaps way) earlier = some_from_any (CoversListed s gaps way) earlier any in
    inr (any_from_some (Covers s gaps next) earlier (record { it = found.it; there = found.there; holds = listed_covers s gaps way next found.it have found.holds }))

-- what a checker goes through is enough
pub branches_listed_by : {rule : LineRule} {ways : LineWays} → IsRule rule ways →
    (value : Row → State → Kinds → ℕ) (pins : Pins) (limit : ℕ) (k : Kinds) (earlier : List TrackLemma)
    (lemma : TrackLemma) → BranchesListedBy ways value pins limit k earlier lemma →
    BranchesBy rule value pins limit k earlier lemma
branches_listed_by {rule} {ways} r value pins limit k earlier lemma h = record {
  steps = λ step possible track next left have goes sum.
      let s : State = lemma.state in
      let found : Some' (λ way. AreTracksOf way next) (goes_ways_by ways pins limit k s lemma.tracks step) = pass_complete_by r pins limit (nets_below k.nets) (is_behind k s) track (lines_to s (column_of k step)) (is_still_ahead k (state_after k s step)) next lemma.tracks have goes in
      refuted_listed value k earlier (state_after k s step) left found.it next found.holds (All-contains (IsRefutedListed value k earlier (state_after k s step) left) (goes_ways_by ways pins limit k s lemma.tracks step) found.it (h.steps step left possible sum) found.there);
  ends = λ none track have e. let found : Some' (λ way. AreTracksOf way e.0) (ends_ways_by ways pins limit k lemma.state lemma.tracks) = pass_complete_by r pins limit (nets_below k.nets) (is_behind k lemma.state) track (node_line lemma.state.p_end lemma.state.n_end ∷ []) (λ net. false) e.0 lemma.tracks have e.1 in
      contains_none found.it (subst (λ ws. Contains ws found.it) (h.ends none) found.there);
}

same_behind : (k : Kinds) (s : State) (step : Step) → GatesAreNets k → EndsFit k s → IsPossible k s step → (net : NetNo) → is_behind_step k s step net ≡ is_behind k (state_after k s step) net
same_behind k s step nets fit possible net =
    let row : (row : List Column) × Completes k (state_after k s step) row = completion_exists k (state_after k s step) nets in
    let steps : StepsOf k (state_after k s step) row.0 = steps_of k (state_after k s step) row.0 row.1 in
    step_behind k s step steps.steps nets fit (possible, steps.leads) net

make_track : NetNo → ℕ → NetTrack
make_track net track = record { net = net; track = track }

made_track : {a b : NetNo} {i j : ℕ} → a ≡ b → i ≡ j → make_track a i ≡ make_track b j
made_track e f = cc

same_track : (t u : NetTrack) → t.net ≡ u.net → t.track ≡ u.track → t ≡ u
unfolding make_track
same_track t u e f = made_track e f

-- tracks of open nets that the tracks of a way have are listed in it
way_has : (pins : Pins) (k : Kinds) (s : State) (step : Step) (way : List NetTrack) (next : NetNo → ℕ) (lemma : TrackLemma) → ((net : NetNo) → is_behind_step k s step net ≡ is_behind k (state_after k s step) net) → AreKeys pins (is_behind_step k s step) (is_still_ahead k (state_after k s step)) way → AreTracksOf way next → lemma.state ≡ state_after k s step → IsValid pins k lemma → AreTracksOf lemma.tracks next → All (Contains way) lemma.tracks
way_has pins k s step way next lemma same keys have state valid theirs = all_from_contains (Contains way) lemma.tracks (λ t there.
    let open' : is_open_at pins k lemma.state t.net ≡ true = All-contains (λ (t : NetTrack). is_open_at pins k lemma.state t.net ≡ true) lemma.tracks t valid.open' there in
    let here : is_open_at pins k (state_after k s step) t.net ≡ true = subst (λ z. is_open_at pins k z t.net ≡ true) state open' in
    let l : Listed way t.net = keys.each t.net (subst (λ b. (not (is_rail pins t.net) && (b && is_still_ahead k (state_after k s step) t.net)) ≡ true) (sym (same t.net)) here) in
    let mine : next t.net ≡ t.track = All-contains (λ (t : NetTrack). next t.net ≡ t.track) lemma.tracks t theirs there in
    let its : next l.it.net ≡ l.it.track = All-contains (λ (t : NetTrack). next t.net ≡ t.track) way l.it have l.there in
    subst (Contains way) (same_track l.it t l.is (sym its ∙ ap next l.is ∙ mine)) l.there)

refuted_way : (value : Row → State → Kinds → ℕ) (pins : Pins) (k : Kinds) (earlier : List TrackLemma) (s : State) (step : Step) (left : ℕ) (way : List NetTrack) (next : NetNo → ℕ) → ((net : NetNo) → is_behind_step k s step net ≡ is_behind k (state_after k s step) net) → AreKeys pins (is_behind_step k s step) (is_still_ahead k (state_after k s step)) way → AreTracksOf way next → All (IsValid pins k) earlier → IsRefuted value k earlier (state_after k s step) left next → IsRefutedListed value k earlier (state_after k s step) left way
refuted_way value pins k earlier s step left way next same keys have valid (inl d) = inl d
refuted_way value pins k earlier s step left way next same keys have valid (inr any) =
    let found : Some' (Covers (state_after k s step) left next) earlier = some_from_any (Covers (state_after k s step) left next) earlier any in
    inr (any_from_some (CoversListed (state_after k s step) left way) earlier (record {
      it = found.it;
      there = found.there;
      holds = record {
        state = found.holds.state;
        enough = found.holds.enough;
        tracks = way_has pins k s step way next found.it same keys have found.holds.state (All-contains (IsValid pins k) earlier found.it valid found.there) found.holds.tracks;
      };
    }))

branches_back : {rule : LineRule} {ways : LineWays} → IsRule rule ways →
    (value : Row → State → Kinds → ℕ) (pins : Pins) (limit : ℕ) (k : Kinds) (earlier : List TrackLemma)
    (lemma : TrackLemma) → AreSomeKinds k → All (IsValid pins k) earlier → IsValid pins k lemma →
    BranchesBy rule value pins limit k earlier lemma → BranchesListedBy ways value pins limit k earlier lemma
branches_back {rule} {ways} r value pins limit k earlier lemma some valid v h = record {
  steps = λ step left possible sum. all_from_contains (IsRefutedListed value k earlier (state_after k lemma.state step) left) (goes_ways_by ways pins limit k lemma.state lemma.tracks step) (λ way there.
      let only : (track : NetNo → ℕ) × (next : NetNo → ℕ) × AreTracksOf lemma.tracks track × GoesBy rule pins limit k lemma.state track step next × AreTracksOf way next = step_only_by r pins limit k lemma.state step lemma.tracks way some v.state v.one there in
      refuted_way value pins k earlier lemma.state step left way only.1 (same_behind k lemma.state step (gates_are_nets k some) v.ends possible) (step_keys_by r pins limit k lemma.state step lemma.tracks way some v.state v.one there) only.4 valid (h.steps step possible only.0 only.1 left only.2 only.3 sum));
  ends = λ none. let e : (ends_ways_by ways pins limit k lemma.state lemma.tracks ≡ []) ↔ ((track : NetNo → ℕ) → AreTracksOf lemma.tracks track → EndsBy rule pins limit k lemma.state track → ⊥) = ends_listed_by r pins limit k lemma.state lemma.tracks some v.state v.one in e.1 (h.ends none);
}

pub justified_decided_by : {rule : LineRule} {ways : LineWays} → IsRule rule ways →
    (value : Row → State → Kinds → ℕ) (pins : Pins) (limit : ℕ) (k : Kinds) (earlier : List TrackLemma)
    (lemma : TrackLemma) → AreSomeKinds k → All (IsValid pins k) earlier →
    IsJustifiedBy rule value pins limit k earlier lemma ↔ IsJustifiedListedBy ways value pins limit k earlier lemma
justified_decided_by r value pins limit k earlier lemma some valid = (
  λ h. record { valid = h.valid; holds = elim h.holds [ inl d ↦ inl d | inr b ↦ inr (branches_back r value pins limit k earlier lemma some valid h.valid b) ] },
  λ h. record { valid = h.valid; holds = elim h.holds [ inl d ↦ inl d | inr b ↦ inr (branches_listed_by r value pins limit k earlier lemma b) ] },
)

-- where nets go straight
pub justified_decided : (value : Row → State → Kinds → ℕ) (pins : Pins) (limit : ℕ) (k : Kinds)
    (earlier : List TrackLemma) (lemma : TrackLemma) → AreSomeKinds k → All (IsValid pins k) earlier →
    IsJustified value pins limit k earlier lemma ↔ IsJustifiedListed value pins limit k earlier lemma
justified_decided = justified_decided_by straight_rule
