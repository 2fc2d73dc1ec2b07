-- The ways after a next column.
use Rattle.std.proofs.Common.{ℕ, Bool, true, ◌≡◌, ◌+◌, ◌≤◌, List, [], ◌∷◌, ap, subst, sym, arith, All, Contains, ◌∙◌}
use Rattle.std.proofs.lemmas.List.Elements.{All-contains, All-nil}
use Rattle.cell_num.specs.declared.net.NetNo.{NetNo}
use Rattle.cell_num.specs.declared.net.Pins.{Pins}
use Rattle.cell_num.proofs.Lists.{all_from_contains, all_one, contains_none}
use Rattle.cell_num.proofs.Pairs.{Some', some_from_any}
use Rattle.row_model.specs.declared.column.Column.{Column}
use Rattle.row_state.specs.declared.kind.Kinds.{Kinds}
use Rattle.row_state.specs.declared.state.State.{State}
use Rattle.row_state.specs.declared.step.Step.{Step}
use Rattle.row_state.specs.Completion.{Completes}
use Rattle.row_state.specs.Start.{AreSomeKinds, GatesAreNets, IsState, columns_left, start_of}
use Rattle.row_state.specs.Steps.{IsPossible, state_after}
use Rattle.row_state.proofs.Calls.{fewer_after}
use Rattle.row_state.proofs.Exists.{completion_exists}
use Rattle.row_state.proofs.Unfold.{unfold_from}
use Rattle.row_state.proofs.Valid.{gates_are_nets}
use Rattle.track_ways.specs.Lines.{LineRule}
use Rattle.track_ways.specs.Paths.{EndsFit}
use Rattle.track_ways.specs.States.{is_behind, is_open_at, is_still_ahead}
use Rattle.track_ways.specs.Tracks.{AreKeys}
use Rattle.track_ways.specs.Rules.{IsRule}
use Rattle.track_ways.specs.Ways.{LineWays, goes_ways_by, is_behind_step}
use Rattle.track_ways.specs.declared.track.NetTrack.{NetTrack}
use Rattle.track_ways.proofs.Failing.{start_open}
use Rattle.track_ways.proofs.LineParts.{same_tests}
use Rattle.track_ways.proofs.Path.{StepsOf, ends_after, steps_of}
use Rattle.track_ways.proofs.Steps.{step_behind, step_keys_by}
use Rattle.track_search.specs.declared.ahead.Ahead.{Ahead}
use Rattle.track_search.specs.Visit.{AreWaysAt, GoOn, IsAhead}

-- the nets with a place before the state after the column
same_behind : (k : Kinds) (s : State) (step : Step) → GatesAreNets k → EndsFit k s → IsPossible k s step → is_behind_step k s step ≡ is_behind k (state_after k s step)
same_behind k s step nets fit possible =
    let row : (row : List Column) × Completes k (state_after k s step) row = completion_exists k (state_after k s step) nets in
    let steps : StepsOf k (state_after k s step) row.0 = steps_of k (state_after k s step) row.0 row.1 in
    same_tests (is_behind_step k s step) (is_behind k (state_after k s step)) (λ net. step_behind k s step steps.steps nets fit (possible, steps.leads) net)

ends_fit_after : (k : Kinds) (s : State) (step : Step) → GatesAreNets k → EndsFit k s → IsPossible k s step → EndsFit k (state_after k s step)
ends_fit_after k s step nets fit possible =
    let row : (row : List Column) × Completes k (state_after k s step) row = completion_exists k (state_after k s step) nets in
    ends_after k s step row.0 (unfold_from k s step row.0 nets possible row.1) row.1 fit

-- what a visit of the state after a next column requires, and that it has one column less left
pub record Onward (k : Kinds) (s : State) (most : ℕ) (ahead : Ahead) : Type 0 where
  pub fewer : columns_left k s ≡ columns_left k ahead.state.state + 1
  pub ends : EndsFit k ahead.state.state
  pub gaps : ahead.left ≤ most

pub onward : (pins : Pins) (limit : ℕ) (k : Kinds) (s : State) (allowed most : ℕ) (step : Step) (ahead : Ahead) → AreSomeKinds k → EndsFit k s → allowed ≤ most → IsAhead pins limit k s allowed step ahead → Onward k s most ahead
onward pins limit k s allowed most step ahead some fit le a = record {
  fewer = fewer_after k s step some a.possible ∙ ap (λ (z : State). columns_left k z + 1) (sym a.state);
  ends = subst (EndsFit k) (sym a.state) (ends_fit_after k s step (gates_are_nets k some) fit a.possible);
  gaps = omega (arith, a.left, le);
}

-- the ways list the tracks of the nets that are open there
pub keys_after : {rule : LineRule} {listing : LineWays} (r : IsRule rule listing) (pins : Pins) (limit : ℕ) (k : Kinds) (s : State) (step : Step) (way next : List NetTrack) → AreSomeKinds k → IsState k s → EndsFit k s → IsPossible k s step → AreKeys pins (is_behind k s) (is_still_ahead k s) way → Contains (goes_ways_by listing pins limit k s way step) next → AreKeys pins (is_behind k (state_after k s step)) (is_still_ahead k (state_after k s step)) next
keys_after {rule} {listing} r pins limit k s step way next some state fit possible keys there =
    subst (λ (b : NetNo → Bool). AreKeys pins b (is_still_ahead k (state_after k s step)) next) (same_behind k s step (gates_are_nets k some) fit possible)
    (step_keys_by r pins limit k s step way next some state keys.one there)

pub ways_after : {rule : LineRule} {listing : LineWays} (r : IsRule rule listing) (pins : Pins) (limit : ℕ) (k : Kinds) (s : State) (step : Step) (ways onward : List (List NetTrack)) → AreSomeKinds k → IsState k s → EndsFit k s → IsPossible k s step → AreWaysAt pins k s ways → All (GoOn listing pins limit k s step ways) onward → AreWaysAt pins k (state_after k s step) onward
ways_after {rule} {listing} r pins limit k s step ways onward some state fit possible keys from =
    all_from_contains (AreKeys pins (is_behind k (state_after k s step)) (is_still_ahead k (state_after k s step))) onward (λ next there.
    let of : Some' (λ way. Contains (goes_ways_by listing pins limit k s way step) next) ways = some_from_any (λ way. Contains (goes_ways_by listing pins limit k s way step) next) ways (All-contains (GoOn listing pins limit k s step ways) onward next from there) in
    keys_after r pins limit k s step of.it next some state fit possible (All-contains (AreKeys pins (is_behind k s) (is_still_ahead k s)) ways of.it keys of.there) of.holds)

-- no net is open at the start, so no tracks are a way there
pub start_way : (pins : Pins) (k : Kinds) → AreWaysAt pins k (start_of k) ([] ∷ [])
start_way pins k = all_one (AreKeys pins (is_behind k (start_of k)) (is_still_ahead k (start_of k))) [] (record {
  one = λ t u at also e. absurd (none at);
  open' = All-nil (λ (t : NetTrack). is_open_at pins k (start_of k) t.net ≡ true);
  each = λ net open'. absurd (start_open pins k net open');
})
  where
    none : {t : NetTrack} → Contains [] t → ⊥
    none {t} at = contains_none t at
