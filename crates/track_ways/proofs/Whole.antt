-- Legal routings of a row and tracks along its path of states.
use Rattle.std.proofs.Common.{ℕ, ◌≡◌, ◌+◌, ◌<◌, ◌≤◌, ◌⊎◌, ◌&&◌, ◌||◌, ltb, not, Bool, true, false, List, [], ◌∷◌, map, length, inl, inr, refl, sym, ap, subst, arith, ◌∙◌}
use Rattle.std.proofs.lemmas.Bool.{cases_Bool, cases_lt, lt-ltb, le-ltb, or_left}
use Rattle.cell_num.specs.declared.net.NetNo.{NetNo}
use Rattle.cell_num.specs.declared.net.Pins.{Pins}
use Rattle.cell_num.specs.declared.finger.Fingers.{Fingers}
use Rattle.row_model.specs.declared.column.Column.{Column}
use Rattle.row_model.specs.Arrangement.{IsArrangement}
use Rattle.row_place.specs.Places.{placement_of}
use Rattle.channel_route.specs.declared.routing.Trunk.{Trunk}
use Rattle.channel_route.specs.declared.routing.Routing.{Routing}
use Rattle.channel_route.specs.Routing.{IsLegal}
use Rattle.row_state.specs.declared.kind.Kinds.{Kinds}
use Rattle.row_state.specs.declared.state.State.{State}
use Rattle.row_state.specs.declared.step.Step.{Step}
use Rattle.row_state.specs.Completion.{Completes}
use Rattle.row_state.specs.Start.{start_of, GatesAreNets, AreKinds}
use Rattle.row_state.specs.Steps.{column_of, state_after}
use Rattle.row_state.proofs.Unfold.{unfold_from, completion_of}
use Rattle.track_ways.specs.Lines.{Fits, LineRule, StraightFits, Sweeps, is_ahead}
use Rattle.track_ways.specs.Rules.{IsAgain}
use Rattle.track_ways.specs.StraightLaw.{straight_rule}
use Rattle.cell_num.specs.Pins.{is_rail}
use Rattle.track_ways.specs.Channel.{AreLinesOf, AreTrunks}
use Rattle.track_ways.specs.Rows.{lines_of_row, node_line}
use Rattle.track_ways.specs.States.{touched_left, touched_here, is_behind, is_still_ahead, is_open_at}
use Rattle.track_ways.specs.Paths.{EndsFit, Leads, Runs, RunsBy, lines_to}
use Rattle.track_ways.proofs.Tracks.{OneTrack, one_track, sweep}
use Rattle.track_ways.proofs.Holding.{ahead_counts, none_ahead}
use Rattle.track_ways.proofs.Least.{routing_sweep, least}
use Rattle.track_ways.proofs.Placed.{lines_placed}
use Rattle.track_ways.proofs.Behind.{ahead_of_state}
use Rattle.track_ways.proofs.LineParts.{or_none, passes_again, same_tests, sweeps_wider}
use Rattle.track_ways.proofs.Path.{completes, StepsOf, steps_of, StepCounts, step_counts, runs, sweeps_of}

-- no net has a place before the first line
pub start_behind : (k : Kinds) → is_ahead [] ≡ is_behind k (start_of k)
start_behind k = same_tests (is_ahead []) (is_behind k (start_of k)) (λ net. sym (le-ltb _ _ (omega arith)))

pub start_fits : (k : Kinds) → EndsFit k (start_of k)
start_fits k net = omega arith

-- a legal routing of a row gives tracks along its path
pub path_of : (pins : Pins) (k : Kinds) (steps : List Step) (r : Routing) (limit : ℕ) (track : NetNo → ℕ) →
    GatesAreNets k → Leads k (start_of k) steps → length (map (column_of k) steps) ≤ 32 →
    IsLegal (placement_of (map (column_of k) steps)) pins r → r.tracks ≤ limit →
    Runs pins limit k (start_of k) track steps
path_of pins k steps r limit track nets leads few legal le =
    let row : List Column = map (column_of k) steps in
    let whole : Completes k (start_of k) row = completes k (start_of k) steps nets leads in
    let lines : AreLinesOf (placement_of row) (lines_of_row row) = lines_placed row whole.columns few in
    runs StraightFits pins limit k (start_of k) track steps nets leads (start_fits k)
    (subst (λ (b : NetNo → Bool). Sweeps pins limit b track (lines_of_row row)) (start_behind k)
    (sweeps_wider StraightFits straight_rule.wider pins r.tracks limit (is_ahead []) track (lines_of_row row) le (routing_sweep (placement_of row) pins (lines_of_row row) lines r legal track)))

-- tracks along a path are one track for each net
pub track_of_path : (pins : Pins) (k : Kinds) (steps : List Step) (limit : ℕ) (track : NetNo → ℕ) → GatesAreNets k → Leads k (start_of k) steps → Runs pins limit k (start_of k) track steps → (of : NetNo → ℕ) × Fits pins limit of (is_ahead []) (lines_of_row (map (column_of k) steps))
track_of_path pins k steps limit track nets leads r =
    let row : List Column = map (column_of k) steps in
    let s : Sweeps pins limit (is_ahead []) track (lines_of_row row) = subst (λ (b : NetNo → Bool). Sweeps pins limit b track (lines_of_row row)) (sym (start_behind k)) (sweeps_of StraightFits straight_rule.again pins limit k (start_of k) track steps nets leads (start_fits k) r) in
    let one : OneTrack pins limit (is_ahead []) track (lines_of_row row) = one_track pins limit (is_ahead []) track (lines_of_row row) s in
    (one.of, one.fits)

-- where no path of an arrangement goes on fewer tracks, no legal routing of any has fewer
pub fewest : (pins : Pins) (f : Fingers) (k : Kinds) (limit : ℕ) → AreKinds f k → GatesAreNets k
    → ((steps : List Step) (track : NetNo → ℕ) (fewer : ℕ) → fewer < limit → Leads k (start_of k) steps → IsArrangement (map (column_of k) steps) f → Runs pins fewer k (start_of k) track steps → ⊥)
    → (row : List Column) (r : Routing) → IsArrangement row f → length row ≤ 32 → IsLegal (placement_of row) pins r → limit ≤ r.tracks
fewest pins f k limit kinds nets none row r is few legal = go (steps_of k (start_of k) row (completion_of f k row kinds is)) (cases_lt r.tracks limit)
  where
    go : StepsOf k (start_of k) row → (r.tracks < limit) ⊎ (limit ≤ r.tracks) → limit ≤ r.tracks
    go s (inr enough) = enough
    go s (inl less) =
        absurd (none s.steps (λ net. 0) r.tracks less s.leads (subst (λ cs. IsArrangement cs f) (sym s.is) is)
        (path_of pins k s.steps r r.tracks (λ net. 0) nets s.leads (subst (λ cs. length cs ≤ 32) (sym s.is) few) (subst (λ cs. IsLegal (placement_of cs) pins r) (sym s.is) legal) (omega arith)))

-- and the trunks on the tracks of a path on the fewest are a legal routing
pub legal_path : (pins : Pins) (k : Kinds) (steps : List Step) (limit : ℕ) (of : NetNo → ℕ) (trunks : List Trunk) → GatesAreNets k → Leads k (start_of k) steps → length (map (column_of k) steps) ≤ 32
    → Fits pins limit of (is_ahead []) (lines_of_row (map (column_of k) steps))
    → ((track : NetNo → ℕ) (fewer : ℕ) → fewer < limit → Runs pins fewer k (start_of k) track steps → ⊥)
    → AreTrunks (placement_of (map (column_of k) steps)) pins of trunks
    → IsLegal (placement_of (map (column_of k) steps)) pins (record { tracks = limit; trunks = trunks })
legal_path pins k steps limit of trunks nets leads few f none are =
    let row : List Column = map (column_of k) steps in
    let whole : Completes k (start_of k) row = completes k (start_of k) steps nets leads in
    let lines : AreLinesOf (placement_of row) (lines_of_row row) = lines_placed row whole.columns few in
    least (placement_of row) pins (lines_of_row row) lines of trunks limit are f
    (λ fewer other less g. none other fewer less
    (runs StraightFits pins fewer k (start_of k) other steps nets leads (start_fits k) (subst (λ (b : NetNo → Bool). Sweeps pins fewer b other (lines_of_row row)) (start_behind k) (sweep pins fewer (is_ahead []) other other (lines_of_row row) (λ net o. refl) g))))

pub still_ahead : (k : Kinds) (s : State) (step : Step) (rest : List Column) (net : NetNo) → Completes k s (column_of k step ∷ rest) → Completes k (state_after k s step) rest → (is_ahead (lines_to s (column_of k step)) net || is_still_ahead k (state_after k s step) net) ≡ is_still_ahead k s net
still_ahead k s step rest net whole after = go (cases_Bool (is_ahead (lines_to s (column_of k step)) net))
  where
    counts : StepCounts k s step net
    counts = step_counts k s step rest net whole after

    go : (is_ahead (lines_to s (column_of k step)) net ≡ true) ⊎ (is_ahead (lines_to s (column_of k step)) net ≡ false) → (is_ahead (lines_to s (column_of k step)) net || is_still_ahead k (state_after k s step) net) ≡ is_still_ahead k s net
    go (inl yes') = or_left _ _ yes' ∙ sym (lt-ltb _ _ (omega (arith, counts.least, ahead_counts (lines_to s (column_of k step)) net yes')))
    go (inr no') = ap (λ (b : Bool). b || is_still_ahead k (state_after k s step) net) no' ∙ ap (λ n. ltb 0 n)
        (let same : touched_left k (state_after k s step) net + touched_here (state_after k s step) net ≡ touched_left k
        s net + touched_here s net = omega (
          arith,
          counts.least,
          counts.most,
          none_ahead (lines_to s (column_of k step)) net no',
        ) in same)

-- of what is before a state the tracks of its open nets alone count
pub again_by : (rule : LineRule) → IsAgain rule → (pins : Pins) (limit : ℕ) (k : Kinds) (s : State)
    (track other : NetNo → ℕ) (steps : List Step) → GatesAreNets k → Leads k s steps →
    ((net : NetNo) → is_open_at pins k s net ≡ true → track net ≡ other net) → RunsBy rule pins limit k s track steps →
    RunsBy rule pins limit k s other steps
again_by rule again' pins limit k s track other [] nets leads same (last, passes) = (
  last,
  passes_again rule again' pins limit (is_behind k s) track other (node_line s.p_end s.n_end ∷ []) (λ net. false) last
      (λ net o. same net (subst (λ (b : Bool). (not (is_rail pins net) && (is_behind k s net && b)) ≡ true) (or_none (is_ahead (node_line s.p_end s.n_end ∷ []) net) ∙ ahead_of_state k [] s net leads) o)) passes,
)
again_by rule again' pins limit k s track other (step ∷ steps) nets leads same (next, goes, more) =
    let after : Completes k (state_after k s step) (map (column_of k) steps) = completes k (state_after k s step) steps nets leads.1 in
    let whole : Completes k s (column_of k step ∷ map (column_of k) steps) = unfold_from k s step (map (column_of k) steps) nets leads.0 after in (
      next,
      passes_again rule again' pins limit (is_behind k s) track other (lines_to s (column_of k step)) (is_still_ahead k (state_after k s step)) next
          (λ net o. same net (subst (λ (b : Bool). (not (is_rail pins net) && (is_behind k s net && b)) ≡ true) (still_ahead k s step (map (column_of k) steps) net whole after) o)) goes,
      more,
    )

pub again : (pins : Pins) (limit : ℕ) (k : Kinds) (s : State) (track other : NetNo → ℕ) (steps : List Step) → GatesAreNets k → Leads k s steps → ((net : NetNo) → is_open_at pins k s net ≡ true → track net ≡ other net) → Runs pins limit k s track steps → Runs pins limit k s other steps
again = again_by StraightFits straight_rule.again
