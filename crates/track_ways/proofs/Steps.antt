-- The listed tracks behind a next column of a state, and behind its last line.
use Rattle.std.proofs.Common.{ℕ, ◌≡◌, ◌↔◌, ◌++◌, ◌∷◌, false, List, [], map, length, length-append, refl, subst, arith, Any, Contains, sym, All}
use Rattle.cell_num.specs.declared.net.NetNo.{NetNo}
use Rattle.cell_num.specs.declared.net.Pins.{Pins}
use Rattle.cell_num.proofs.Lists.{all_from_contains, contains_here, contains_none}
use Rattle.cell_num.proofs.Pairs.{Some', any_from_some}
use Rattle.row_state.specs.declared.kind.Kinds.{Kinds}
use Rattle.row_state.specs.declared.state.State.{State}
use Rattle.row_state.specs.declared.step.Step.{Step}
use Rattle.row_state.specs.Completion.{Completes}
use Rattle.row_state.specs.Start.{AreSomeKinds, GatesAreNets, IsState}
use Rattle.row_state.specs.Steps.{column_of, state_after}
use Rattle.row_state.proofs.Unfold.{unfold_from}
use Rattle.track_ways.specs.declared.line.Line.{Line}
use Rattle.track_ways.specs.declared.track.NetTrack.{NetTrack}
use Rattle.track_ways.specs.Lines.{LineRule, StraightFits}
use Rattle.track_ways.specs.Rows.{gate_line, lines_between, node_line}
use Rattle.track_ways.specs.States.{is_behind, is_still_ahead}
use Rattle.track_ways.specs.Paths.{Ends, EndsBy, EndsFit, Goes, GoesBy, Leads, lines_to}
use Rattle.track_ways.specs.Tracks.{AreKeys, AreTracksOf, IsSingle}
use Rattle.track_ways.specs.Ways.{LineWays, ends_ways, ends_ways_by, goes_ways, goes_ways_by, is_behind_step, nets_below}
use Rattle.track_ways.specs.Rules.{IsRule}
use Rattle.track_ways.specs.StraightLaw.{straight_rule}
use Rattle.track_ways.proofs.Path.{behind_after, completes}
use Rattle.track_ways.proofs.Complete.{pass_complete_by}
use Rattle.track_ways.proofs.Exact.{PassedBy, pass_exact_by}
use Rattle.track_ways.proofs.Keys.{pass_keys}
use Rattle.track_ways.proofs.Nets.{behind_among, end_among, lines_among}

pub some_lines : (xs : List Line) (x : Line) → length (xs ++ x ∷ []) ≡ 0 → ⊥
some_lines xs x e = omega (arith, e, length-append xs (x ∷ []))

pub step_behind : (k : Kinds) (s : State) (step : Step) (steps : List Step) → GatesAreNets k → EndsFit k s → Leads k s (step ∷ steps) → (net : NetNo) → is_behind_step k s step net ≡ is_behind k (state_after k s step) net
step_behind k s step steps nets fit leads net =
    let after : Completes k (state_after k s step) (map (column_of k) steps) = completes k (state_after k s step) steps nets leads.1 in
    behind_after k s step (map (column_of k) steps) net (unfold_from k s step (map (column_of k) steps) nets leads.0 after) after fit

pub empty : {X : Type 0} (xs : List X) → ((x : X) → Contains xs x → ⊥) → xs ≡ []
empty [] h = refl
empty (x ∷ xs) h = absurd (h x (contains_here x xs))

pub step_all_by : {rule : LineRule} {ways : LineWays} → IsRule rule ways →
    (pins : Pins) (limit : ℕ) (k : Kinds) (s : State) (step : Step) (tracks : List NetTrack) (track next : NetNo → ℕ) →
    AreTracksOf tracks track → GoesBy rule pins limit k s track step next →
    Any (λ way. AreTracksOf way next) (goes_ways_by ways pins limit k s tracks step)
step_all_by {rule} {ways} r pins limit k s step tracks track next have goes = any_from_some
    (λ way. AreTracksOf way next) (goes_ways_by ways pins limit k s tracks step)
    (pass_complete_by r pins limit (nets_below k.nets) (is_behind k s) track (lines_to s (column_of k step))
    (is_still_ahead k (state_after k s step)) next tracks have goes)

-- the tracks from which a listed way goes on
abbrev pub IsFrom : LineRule → Pins → ℕ → Kinds → State → Step → List NetTrack → List NetTrack → Type 0
IsFrom rule pins limit k s step tracks way = (track : NetNo → ℕ) × (next : NetNo → ℕ) × AreTracksOf tracks track × GoesBy rule pins limit k s track step next × AreTracksOf way next

pub step_only_by : {rule : LineRule} {ways : LineWays} → IsRule rule ways →
    (pins : Pins) (limit : ℕ) (k : Kinds) (s : State) (step : Step) (tracks way : List NetTrack) → AreSomeKinds k →
    IsState k s → IsSingle tracks → Contains (goes_ways_by ways pins limit k s tracks step) way →
    IsFrom rule pins limit k s step tracks way
step_only_by {rule} {ways} r pins limit k s step tracks way some state one there =
    let p : PassedBy rule pins limit (is_behind k s) (lines_to s (column_of k step))
    (is_still_ahead k (state_after k s step)) tracks way = pass_exact_by r pins limit (nets_below k.nets)
    (is_behind k s) (lines_to s (column_of k step)) (is_still_ahead k (state_after k s step)) tracks way one
    (behind_among k s some) (lines_among k s step some state) there in
    (p.track, p.last, p.from, p.passes, p.to)

pub step_keys_by : {rule : LineRule} {ways : LineWays} → IsRule rule ways →
    (pins : Pins) (limit : ℕ) (k : Kinds) (s : State) (step : Step) (tracks way : List NetTrack) → AreSomeKinds k →
    IsState k s → IsSingle tracks → Contains (goes_ways_by ways pins limit k s tracks step) way →
    AreKeys pins (is_behind_step k s step) (is_still_ahead k (state_after k s step)) way
step_keys_by {rule} {ways} r pins limit k s step tracks way some state one there =
    pass_keys r pins limit (nets_below k.nets) (is_behind k s) (lines_to s (column_of k step)) (is_still_ahead k (state_after k s step)) tracks way one (behind_among k s some) (lines_among k s step some state)
    (λ none net o. absurd (some_lines (lines_between s.p_end s.n_end (column_of k step)) (gate_line (column_of k step)) none)) there

pub ends_listed_by : {rule : LineRule} {ways : LineWays} → IsRule rule ways →
    (pins : Pins) (limit : ℕ) (k : Kinds) (s : State) (tracks : List NetTrack) → AreSomeKinds k → IsState k s →
    IsSingle tracks → (ends_ways_by ways pins limit k s tracks ≡ []) ↔
    ((track : NetNo → ℕ) → AreTracksOf tracks track → EndsBy rule pins limit k s track → ⊥)
ends_listed_by {rule} {ways} r pins limit k s tracks some state one = (there, back)
  where
    there : ends_ways_by ways pins limit k s tracks ≡ [] → (track : NetNo → ℕ) → AreTracksOf tracks track → EndsBy rule pins limit k s track → ⊥
    there none track have (last, passes) =
        let found : Some' (λ way. AreTracksOf way last) (ends_ways_by ways pins limit k s tracks) = pass_complete_by r pins limit (nets_below k.nets) (is_behind k s) track (node_line s.p_end s.n_end ∷ []) (λ net. false) last tracks have passes in
        contains_none found.it (subst (λ ws. Contains ws found.it) none found.there)

    back : ((track : NetNo → ℕ) → AreTracksOf tracks track → EndsBy rule pins limit k s track → ⊥) → ends_ways_by ways pins limit k s tracks ≡ []
    back none = empty (ends_ways_by ways pins limit k s tracks) (λ way at.
        let p : PassedBy rule pins limit (is_behind k s) (node_line s.p_end s.n_end ∷ []) (λ net. false) tracks way = pass_exact_by r pins limit (nets_below k.nets) (is_behind k s) (node_line s.p_end s.n_end ∷ []) (λ net. false) tracks way one (behind_among k s some) (end_among k s state) at in
        none p.track p.from (p.last, p.passes))

pub each_listed : {rule : LineRule} {ways : LineWays} → IsRule rule ways →
    (pins : Pins) (limit : ℕ) (k : Kinds) (s : State) (step : Step) (tracks : List NetTrack)
    (list : List (List NetTrack)) → list ≡ goes_ways_by ways pins limit k s tracks step → (track next : NetNo → ℕ) →
    AreTracksOf tracks track → GoesBy rule pins limit k s track step next → Any (λ way. AreTracksOf way next) list
each_listed r pins limit k s step tracks list is track next have goes =
    subst (λ ws. Any (λ way. AreTracksOf way next) ws) (sym is) (step_all_by r pins limit k s step tracks track next have goes)

pub each_goes : {rule : LineRule} {ways : LineWays} → IsRule rule ways →
    (pins : Pins) (limit : ℕ) (k : Kinds) (s : State) (step : Step) (tracks : List NetTrack)
    (list : List (List NetTrack)) → AreSomeKinds k → IsState k s → list ≡ goes_ways_by ways pins limit k s tracks step →
    IsSingle tracks → All (IsFrom rule pins limit k s step tracks) list
each_goes {rule} r pins limit k s step tracks list some state is one = all_from_contains (IsFrom rule pins limit k s step tracks) list (λ way there. step_only_by r pins limit k s step tracks way some state one (subst (λ ws. Contains ws way) is there))

-- where nets go straight
pub step_all : (pins : Pins) (limit : ℕ) (k : Kinds) (s : State) (step : Step) (tracks : List NetTrack) (track next : NetNo → ℕ) → AreTracksOf tracks track → Goes pins limit k s track step next → Any (λ way. AreTracksOf way next) (goes_ways pins limit k s tracks step)
step_all = step_all_by straight_rule

pub step_only : (pins : Pins) (limit : ℕ) (k : Kinds) (s : State) (step : Step) (tracks way : List NetTrack) → AreSomeKinds k → IsState k s → IsSingle tracks → Contains (goes_ways pins limit k s tracks step) way → IsFrom StraightFits pins limit k s step tracks way
step_only = step_only_by straight_rule

pub step_keys : (pins : Pins) (limit : ℕ) (k : Kinds) (s : State) (step : Step) (tracks way : List NetTrack) → AreSomeKinds k → IsState k s → IsSingle tracks → Contains (goes_ways pins limit k s tracks step) way → AreKeys pins (is_behind_step k s step) (is_still_ahead k (state_after k s step)) way
step_keys = step_keys_by straight_rule

pub ends_listed : (pins : Pins) (limit : ℕ) (k : Kinds) (s : State) (tracks : List NetTrack) → AreSomeKinds k → IsState k s → IsSingle tracks → (ends_ways pins limit k s tracks ≡ []) ↔ ((track : NetNo → ℕ) → AreTracksOf tracks track → Ends pins limit k s track → ⊥)
ends_listed = ends_listed_by straight_rule
