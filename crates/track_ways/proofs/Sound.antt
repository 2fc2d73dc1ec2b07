-- Lemmas on tracks that are justified by a rule are true, so a certificate shows that the start state fails by it.
use Rattle.std.proofs.Common.{ℕ, zero, suc, ◌≡◌, ◌+◌, ◌-◌, ◌<◌, ◌≤◌, List, [], ◌∷◌, length, map, take, get_or, inl, inr, refl, sym, subst, arith, All, add-one, take_all}
use Rattle.std.proofs.lemmas.List.Elements.{All-nil, All-more, All-contains}
use Rattle.std.proofs.lemmas.List.Sorted.{length_permutation}
use Rattle.cell_num.specs.declared.finger.Row.{Row}
use Rattle.cell_num.specs.declared.finger.Row.TheVariants.{P, N}
use Rattle.cell_num.specs.declared.finger.Fingers.{Fingers}
use Rattle.cell_num.specs.declared.net.NetNo.{NetNo}
use Rattle.cell_num.specs.declared.net.Pins.{Pins}
use Rattle.cell_num.proofs.Pairs.{Some', some_from_any}
use Rattle.row_model.specs.declared.column.Column.{Column}
use Rattle.row_model.specs.Arrangement.{IsArrangement}
use Rattle.row_model.specs.Gaps.{gaps_of}
use Rattle.row_place.specs.Places.{placement_of}
use Rattle.channel_route.specs.declared.routing.Routing.{Routing}
use Rattle.channel_route.specs.Routing.{IsLegal}
use Rattle.row_state.specs.declared.kind.Kinds.{Kinds}
use Rattle.row_state.specs.declared.state.State.{State}
use Rattle.row_state.specs.Completion.{Completes, Need, cost_of, further_gaps}
use Rattle.row_state.specs.Start.{AreKinds, AreSomeKinds, GatesAreNets, HasFingers, IsState, start_of}
use Rattle.row_state.specs.Steps.{column_of, state_after}
use Rattle.row_state.proofs.Calls.{valid_after}
use Rattle.row_state.proofs.Unfold.{columns_same, further_step}
use Rattle.row_state.proofs.Valid.{gates_are_nets}
use Rattle.track_ways.specs.Fails.{Fails, FailsBy}
use Rattle.track_ways.specs.Lines.{LineRule, StraightFits}
use Rattle.track_ways.specs.Rules.{IsAgain}
use Rattle.track_ways.specs.StraightLaw.{straight_rule}
use Rattle.track_ways.proofs.Failing.{weaker_by, needs_more_by, more_tracks}
use Rattle.track_ways.specs.declared.track.NetTrack.{NetTrack}
use Rattle.track_ways.specs.declared.lemma.TrackLemma.{TrackLemma}
use Rattle.track_ways.specs.Certificate.{AreJustified, AreJustifiedBy, BranchesBy, Certifies, CertifiesBy, Covers, CoversAll, NeedsMore, IsJustifiedBy, IsRefuted, IsTrueBy, IsTrueOf}
use Rattle.track_ways.specs.Tracks.{AreTracksOf}

-- the law of a bound
abbrev pub Holds : (Row → State → Kinds → ℕ) → Kinds → Type 0
Holds value k = (row : Row) (s : State) → IsState k s → Need k s (value row s k)

needs_more_fails : (rule : LineRule) (value : Row → State → Kinds → ℕ) (pins : Pins) (limit : ℕ) (k : Kinds) (s : State)
    (track : NetNo → ℕ) (gaps : ℕ) → GatesAreNets k → Holds value k → IsState k s → NeedsMore value k s gaps →
    FailsBy rule pins limit k s track gaps
needs_more_fails rule value pins limit k s track gaps nets law state (inl p) = needs_more_by rule pins limit k s track gaps (value P s k) nets (law P s state) p
needs_more_fails rule value pins limit k s track gaps nets law state (inr n) = needs_more_by rule pins limit k s track gaps (value N s k) nets (law N s state) n

covered_fails : (rule : LineRule) → IsAgain rule → (pins : Pins) (limit : ℕ) (k : Kinds) (s : State)
    (track : NetNo → ℕ) (gaps : ℕ) (lemma : TrackLemma) → GatesAreNets k → IsTrueBy rule pins limit k lemma →
    Covers s gaps track lemma → FailsBy rule pins limit k s track gaps
covered_fails rule again pins limit k s track gaps lemma nets is covers = subst (λ (z : State). FailsBy rule pins limit k z track gaps) covers.state (weaker_by rule again pins limit k lemma.state track track lemma.gaps gaps nets covers.enough (λ net o. refl) (is track covers.tracks))

-- a refuted state fails
pub refuted_fails_by : (rule : LineRule) → IsAgain rule → (value : Row → State → Kinds → ℕ) (pins : Pins) (limit : ℕ)
    (k : Kinds) (earlier : List TrackLemma) (s : State) (gaps : ℕ) (track : NetNo → ℕ) → GatesAreNets k →
    Holds value k → All (IsTrueBy rule pins limit k) earlier → IsState k s →
    IsRefuted value k earlier s gaps track → FailsBy rule pins limit k s track gaps
refuted_fails_by rule again value pins limit k earlier s gaps track nets law all state (inl d) = needs_more_fails rule value pins limit k s track gaps nets law state d
refuted_fails_by rule again value pins limit k earlier s gaps track nets law all state (inr any) =
    let found : Some' (Covers s gaps track) earlier = some_from_any (Covers s gaps track) earlier any in
    covered_fails rule again pins limit k s track gaps found.it nets (All-contains (IsTrueBy rule pins limit k) earlier found.it all found.there) found.holds

none_left : (k : Kinds) (s : State) → Completes k s [] → HasFingers k s → ⊥
none_left k s h some = omega (arith, some, length_permutation _ _ h.p, length_permutation _ _ h.n)

branches_fail : (rule : LineRule) → IsAgain rule → (value : Row → State → Kinds → ℕ) (pins : Pins) (limit : ℕ)
    (k : Kinds) (earlier : List TrackLemma) (lemma : TrackLemma) → AreSomeKinds k → Holds value k →
    All (IsTrueBy rule pins limit k) earlier → IsState k lemma.state →
    BranchesBy rule value pins limit k earlier lemma → IsTrueBy rule pins limit k lemma
branches_fail rule again value pins limit k earlier lemma some law all state h track have [] leads within r = h.ends (none_left k lemma.state leads) track have r
branches_fail rule again value pins limit k earlier lemma some law all state h track have (step ∷ steps) leads within (next, goes, more) =
    let s : State = lemma.state in
    let further : further_gaps s (column_of k step ∷ map (column_of k) steps) ≡ cost_of s (column_of k step) + further_gaps (state_after k s step) (map (column_of k) steps) = further_step k s step (map (column_of k) steps) in
    let left : ℕ = lemma.gaps - cost_of s (column_of k step) in
    let sum : cost_of s (column_of k step) + left ≡ lemma.gaps = omega (arith, further, within) in
    refuted_fails_by rule again value pins limit k earlier (state_after k s step) left next (gates_are_nets k some) law all (valid_after k s step some state leads.0) (h.steps step leads.0 track next left have goes sum) steps leads.1 (omega (arith, further, within, sum)) more

pub justified_true_by : (rule : LineRule) → IsAgain rule → (value : Row → State → Kinds → ℕ) (pins : Pins) (limit : ℕ)
    (k : Kinds) (earlier : List TrackLemma) (lemma : TrackLemma) → AreSomeKinds k → Holds value k →
    All (IsTrueBy rule pins limit k) earlier → IsJustifiedBy rule value pins limit k earlier lemma →
    IsTrueBy rule pins limit k lemma
justified_true_by rule again value pins limit k earlier lemma some law all h =
    elim h.holds [
      | inl d ↦ λ track have. needs_more_fails rule value pins limit k lemma.state track lemma.gaps (gates_are_nets k some) law h.valid.state d
      | inr b ↦ branches_fail rule again value pins limit k earlier lemma some law all h.valid.state b
    ]

true_up_to : (rule : LineRule) → IsAgain rule → (value : Row → State → Kinds → ℕ) (pins : Pins) (limit : ℕ) (k : Kinds)
    (lemmas : List TrackLemma) → AreSomeKinds k → Holds value k → AreJustifiedBy rule value pins limit k lemmas →
    (n : ℕ) → n ≤ length lemmas → All (IsTrueBy rule pins limit k) (take n lemmas)
true_up_to rule again value pins limit k lemmas some law h zero within = All-nil (IsTrueBy rule pins limit k)
true_up_to rule again value pins limit k [] some law h (suc n) within = absurd (omega arith)
true_up_to rule again value pins limit k (x ∷ xs) some law h (suc n) within =
    let before : All (IsTrueBy rule pins limit k) (take n (x ∷ xs)) = true_up_to rule again value pins limit k (x ∷ xs) some law h n (omega arith) in
    let at : n < length (x ∷ xs) = omega arith in
    subst (λ m. All (IsTrueBy rule pins limit k) (take m (x ∷ xs))) (add-one n) (All-more (IsTrueBy rule pins limit k) (x ∷ xs) n x at before (justified_true_by rule again value pins limit k (take n (x ∷ xs)) (get_or (x ∷ xs) n x) some law before (h n x at)))

-- justified lemmas are true
pub lemmas_true_by : (rule : LineRule) → IsAgain rule → (value : Row → State → Kinds → ℕ) (pins : Pins) (limit : ℕ)
    (k : Kinds) (lemmas : List TrackLemma) → Holds value k → AreSomeKinds k →
    AreJustifiedBy rule value pins limit k lemmas → All (IsTrueBy rule pins limit k) lemmas
lemmas_true_by rule again value pins limit k lemmas law some h = subst (All (IsTrueBy rule pins limit k)) (take_all (length lemmas) lemmas (omega arith)) (true_up_to rule again value pins limit k lemmas some law h (length lemmas) (omega arith))

covers_any : (s : State) (gaps : ℕ) (track : NetNo → ℕ) (lemma : TrackLemma) → CoversAll s gaps lemma → Covers s gaps track lemma
covers_any s gaps track lemma h = record { state = h.state; enough = h.enough; tracks = subst (λ ts. AreTracksOf ts track) (sym h.any) (All-nil (λ (t : NetTrack). track t.net ≡ t.track)) }

-- and with a certificate the start state fails, from any tracks
pub start_fails_by : (rule : LineRule) → IsAgain rule → (value : Row → State → Kinds → ℕ) (pins : Pins) (k : Kinds)
    (limit gaps : ℕ) (lemmas : List TrackLemma) (track : NetNo → ℕ) → Holds value k → AreSomeKinds k →
    CertifiesBy rule value pins limit k gaps lemmas → FailsBy rule pins limit k (start_of k) track gaps
start_fails_by rule again value pins k limit gaps lemmas track law some h =
    let found : Some' (CoversAll (start_of k) gaps) lemmas = some_from_any (CoversAll (start_of k) gaps) lemmas h.whole in
    covered_fails rule again pins limit k (start_of k) track gaps found.it (gates_are_nets k some) (All-contains (IsTrueBy rule pins limit k) lemmas found.it (lemmas_true_by rule again value pins limit k lemmas law some h.justified) found.there) (covers_any (start_of k) gaps track found.it found.holds)

-- the columns of an arrangement are no more than those of a placement
pub few_columns : (f : Fingers) (k : Kinds) (row : List Column) → AreKinds f k → AreSomeKinds k →
    IsArrangement row f → length row ≤ 32
few_columns f k row kinds some is = omega (arith, is.fewest, columns_same f k kinds, some.few_columns)

-- the same where nets go straight
pub refuted_fails : (value : Row → State → Kinds → ℕ) (pins : Pins) (limit : ℕ) (k : Kinds) (earlier : List TrackLemma)
    (s : State) (gaps : ℕ) (track : NetNo → ℕ) → GatesAreNets k → Holds value k →
    All (IsTrueOf pins limit k) earlier → IsState k s → IsRefuted value k earlier s gaps track →
    Fails pins limit k s track gaps
refuted_fails = refuted_fails_by StraightFits straight_rule.again

pub lemmas_true : (value : Row → State → Kinds → ℕ) (pins : Pins) (limit : ℕ) (k : Kinds) (lemmas : List TrackLemma) →
    Holds value k → AreSomeKinds k → AreJustified value pins limit k lemmas → All (IsTrueOf pins limit k) lemmas
lemmas_true = lemmas_true_by StraightFits straight_rule.again

-- and there a certificate shows that legal routings have more tracks
pub certified : (value : Row → State → Kinds → ℕ) (pins : Pins) (f : Fingers) (k : Kinds) (limit gaps : ℕ)
    (lemmas : List TrackLemma) → Holds value k → AreKinds f k → AreSomeKinds k →
    Certifies value pins limit k gaps lemmas → (row : List Column) (r : Routing) → IsArrangement row f →
    gaps_of row ≤ gaps → IsLegal (placement_of row) pins r → limit < r.tracks
certified value pins f k limit gaps lemmas law kinds some h row r is few legal =
    more_tracks pins f k limit gaps (λ net. 0) kinds (gates_are_nets k some)
    (start_fails_by StraightFits straight_rule.again value pins k limit gaps lemmas (λ net. 0) law some h) row r is
    (few_columns f k row kinds some is) few legal
