-- Tracks line by line behind a state are tracks along a path of states.
use Rattle.std.proofs.Common.{ℕ, ◌≡◌, ◌+◌, ◌*◌, ◌≤◌, ◌++◌, ◌||◌, ltb, Bool, List, [], ◌∷◌, map, inl, inr, refl, sym, ap, subst, arith, ◌∙◌}
use Rattle.std.proofs.lemmas.Bool.{cases_Bool, lt-ltb, or_right}
use Rattle.std.proofs.lemmas.List.Elements.{All-head}
use Rattle.cell_num.specs.declared.net.NetNo.{NetNo}
use Rattle.cell_num.specs.declared.net.Pins.{Pins}
use Rattle.row_model.specs.declared.column.Column.{Column}
use Rattle.row_model.specs.Arrangement.{IsColumn}
use Rattle.row_state.specs.declared.kind.Kinds.{Kinds}
use Rattle.row_state.specs.declared.state.State.{State}
use Rattle.row_state.specs.declared.step.Step.{Step}
use Rattle.row_state.specs.Completion.{Completes}
use Rattle.row_state.specs.Start.{start_of, GatesAreNets}
use Rattle.row_state.specs.Steps.{column_of, state_after}
use Rattle.row_state.proofs.Unfold.{Next, unfold_to, unfold_from}
use Rattle.track_ways.specs.declared.line.Line.{Line}
use Rattle.track_ways.specs.Lines.{LineRule, PassesBy, SweepsBy, is_ahead}
use Rattle.track_ways.specs.Rules.{IsAgain}
use Rattle.track_ways.specs.Rows.{node_line, gate_line, lines_between, lines_behind}
use Rattle.track_ways.specs.States.{touched_left, touched_here, is_behind, is_still_ahead}
use Rattle.track_ways.specs.Paths.{EndsFit, Leads, RunsBy, lines_to}
use Rattle.track_ways.proofs.Counts.{all_places}
use Rattle.track_ways.proofs.Holding.{ahead_counts, none_ahead, places_append}
use Rattle.track_ways.proofs.Behind.{of_row, placed_is, GateCounts, gate_counts, BetweenCounts, between_counts, rest_touched, ahead_of_state}
use Rattle.track_ways.proofs.LineParts.{same_tests, or_none, with_lines, Parted, part, join}

abbrev columns : Kinds → List Step → List Column
columns k steps = map (column_of k) steps

-- steps that lead to the end are a completion
pub completes : (k : Kinds) (s : State) (steps : List Step) → GatesAreNets k → Leads k s steps → Completes k s (map (column_of k) steps)
completes k s [] nets l = l
completes k s (step ∷ steps) nets l = unfold_from k s step (map (column_of k) steps) nets l.0 (completes k (state_after k s step) steps nets l.1)

-- and each completion has such steps
pub record StepsOf (k : Kinds) (s : State) (row : List Column) : Type 0 where
  pub steps : List Step
  pub is : map (column_of k) steps ≡ row
  pub leads : Leads k s steps

pub steps_of : (k : Kinds) (s : State) (row : List Column) → Completes k s row → StepsOf k s row
steps_of k s [] c = record { steps = []; is = refl; leads = c }
steps_of k s (x ∷ xs) c = joined (unfold_to k s x xs c) (λ next. steps_of k (state_after k s next.step) xs next.rest)
  where
    both : {a b : Column} {cs ds : List Column} → a ≡ b → cs ≡ ds → a ∷ cs ≡ b ∷ ds
    both e f = cc

    joined : (next : Next k s x xs) → ((next : Next k s x xs) → StepsOf k (state_after k s next.step) xs) → StepsOf k s (x ∷ xs)
    joined next rest = let r : StepsOf k (state_after k s next.step) xs = rest next in record { steps = next.step ∷ r.steps; is = both next.is r.is; leads = (next.possible, r.leads) }

-- the places of a net on the lines to a next column, and what is left behind it
pub record StepCounts (k : Kinds) (s : State) (step : Step) (net : NetNo) : Type 0 where
  pub least : all_places (lines_to s (column_of k step)) net + (touched_left k (state_after k s step) net + touched_here (state_after k s step) net) ≤ touched_left k s net + touched_here s net
  pub most : touched_left k s net + touched_here s net ≤ 2 * all_places (lines_to s (column_of k step)) net + (touched_left k (state_after k s step) net + touched_here (state_after k s step) net)

pub step_counts : (k : Kinds) (s : State) (step : Step) (rest : List Column) (net : NetNo) → Completes k s (column_of k step ∷ rest) → Completes k (state_after k s step) rest → StepCounts k s step net
step_counts k s step rest net whole after =
    let c : Column = column_of k step in
    let all : of_row net (c ∷ rest) ≡ touched_left k s net = rest_touched k (c ∷ rest) s net whole in
    let left : of_row net rest ≡ touched_left k (state_after k s step) net = rest_touched k rest (state_after k s step) net after in
    let gate : GateCounts net c.p c.n = gate_counts net c.p c.n (All-head IsColumn c rest whole.columns) in
    let between : BetweenCounts net s.p_end s.n_end c = between_counts net s.p_end s.n_end c in
    let split : all_places (lines_to s c) net ≡ all_places (lines_between s.p_end s.n_end c) net + all_places (gate_line c ∷ []) net = places_append (lines_between s.p_end s.n_end c) (gate_line c ∷ []) net in
    record {
      least = omega (arith, all, left, gate.least, between.least, split, placed_is net c.p, placed_is net c.n);
      most = omega (arith, all, left, gate.most, between.most, split, placed_is net c.p, placed_is net c.n);
    }

pub ends_after : (k : Kinds) (s : State) (step : Step) (rest : List Column) → Completes k s (column_of k step ∷ rest) → Completes k (state_after k s step) rest → EndsFit k s → EndsFit k (state_after k s step)
ends_after k s step rest whole after fit net = omega (arith, fit net, (step_counts k s step rest net whole after).least)

-- the nets with a place before the next state's last node line
pub behind_after : (k : Kinds) (s : State) (step : Step) (rest : List Column) (net : NetNo) → Completes k s (column_of k step ∷ rest) → Completes k (state_after k s step) rest → EndsFit k s → with_lines (is_behind k s) (lines_to s (column_of k step)) net ≡ is_behind k (state_after k s step) net
behind_after k s step rest net whole after fit =
    elim (cases_Bool (is_ahead (lines_to s (column_of k step)) net)) [
      | inl yes' ↦ or_right (is_behind k s net) _ yes' ∙ sym (lt-ltb _ _ (omega (arith, fit net, counts.least, ahead_counts (lines_to s (column_of k step)) net yes')))
      | inr no' ↦ ap (λ (b : Bool). is_behind k s net || b) no' ∙ or_none (is_behind k s net) ∙ ap
          (λ n. ltb n (touched_left k (start_of k) net)) (let same : touched_left k s net + touched_here s net ≡
          touched_left k (state_after k s step) net + touched_here (state_after k s step) net = omega
          (arith, counts.least, counts.most, none_ahead (lines_to s (column_of k step)) net no') in same)
    ]
  where
    counts : StepCounts k s step net
    counts = step_counts k s step rest net whole after

assoc : (xs : List Line) (x : Line) (ys : List Line) → xs ++ x ∷ ys ≡ (xs ++ x ∷ []) ++ ys
assoc [] x ys = refl
assoc (y ∷ xs) x ys = ap (λ ls. y ∷ ls) (assoc xs x ys)

-- the lines from a state on, parted behind its next column
pub parted : (k : Kinds) (s : State) (step : Step) (cs : List Column) → lines_behind s.p_end s.n_end (column_of k step ∷ cs) ≡ lines_to s (column_of k step) ++ lines_behind (state_after k s step).p_end (state_after k s step).n_end cs
parted k s step cs = assoc (lines_between s.p_end s.n_end (column_of k step)) (gate_line (column_of k step)) (lines_behind (state_after k s step).p_end (state_after k s step).n_end cs)

-- along the path
pub runs : (rule : LineRule) (pins : Pins) (limit : ℕ) (k : Kinds) (s : State) (track : NetNo → ℕ) (steps : List Step) →
    GatesAreNets k → Leads k s steps → EndsFit k s → SweepsBy rule pins limit (is_behind k s) track
    (lines_behind s.p_end s.n_end (map (column_of k) steps)) → RunsBy rule pins limit k s track steps
runs rule pins limit k s track [] nets leads fit sweeps = let p : Parted rule pins limit (is_behind k s) track (node_line s.p_end s.n_end ∷ []) [] = part rule pins limit (is_behind k s) track (node_line s.p_end s.n_end ∷ []) [] sweeps in (p.last, p.passes)
runs rule pins limit k s track (step ∷ steps) nets leads fit sweeps =
    let cs : List Column = map (column_of k) steps in
    let s' : State = state_after k s step in
    let after : Completes k s' cs = completes k s' steps nets leads.1 in
    let whole : Completes k s (column_of k step ∷ cs) = unfold_from k s step cs nets leads.0 after in
    let p : Parted rule pins limit (is_behind k s) track (lines_to s (column_of k step))
    (lines_behind s'.p_end s'.n_end cs) = part rule pins limit (is_behind k s) track (lines_to s (column_of k step))
    (lines_behind s'.p_end s'.n_end cs) (subst (λ ls. SweepsBy rule pins limit (is_behind k s) track ls)
    (parted k s step cs) sweeps) in (
      p.last,
      subst (λ (b : NetNo → Bool). PassesBy rule pins limit (is_behind k s) track (lines_to s (column_of k step)) b p.last) (same_tests (is_ahead (lines_behind s'.p_end s'.n_end cs)) (is_still_ahead k s') (λ net. ahead_of_state k cs s' net after)) p.passes,
      runs rule pins limit k s' p.last steps nets leads.1 (ends_after k s step cs whole after fit)
          (subst (λ (b : NetNo → Bool). SweepsBy rule pins limit b p.last (lines_behind s'.p_end s'.n_end cs))
          (same_tests (with_lines (is_behind k s) (lines_to s (column_of k step))) (is_behind k s')
          (λ net. behind_after k s step cs net whole after fit)) p.sweeps),
    )

-- and back
pub sweeps_of : (rule : LineRule) → IsAgain rule → (pins : Pins) (limit : ℕ) (k : Kinds) (s : State) (track : NetNo → ℕ)
    (steps : List Step) → GatesAreNets k → Leads k s steps → EndsFit k s → RunsBy rule pins limit k s track steps →
    SweepsBy rule pins limit (is_behind k s) track (lines_behind s.p_end s.n_end (map (column_of k) steps))
sweeps_of rule again' pins limit k s track [] nets leads fit (last, passes) = join rule again' pins limit (is_behind k s) track last (node_line s.p_end s.n_end ∷ []) [] passes tt
sweeps_of rule again' pins limit k s track (step ∷ steps) nets leads fit (next, goes, more) =
    let cs : List Column = map (column_of k) steps in
    let s' : State = state_after k s step in
    let after : Completes k s' cs = completes k s' steps nets leads.1 in
    let whole : Completes k s (column_of k step ∷ cs) = unfold_from k s step cs nets leads.0 after in
    let rest : SweepsBy rule pins limit (is_behind k s') next (lines_behind s'.p_end s'.n_end cs) = sweeps_of rule again' pins limit k s' next steps nets leads.1 (ends_after k s step cs whole after fit) more in
    subst (λ ls. SweepsBy rule pins limit (is_behind k s) track ls) (sym (parted k s step cs))
    (join rule again' pins limit (is_behind k s) track next (lines_to s (column_of k step)) (lines_behind s'.p_end s'.n_end cs)
    (subst (λ (b : NetNo → Bool). PassesBy rule pins limit (is_behind k s) track (lines_to s (column_of k step)) b next) (sym (same_tests (is_ahead (lines_behind s'.p_end s'.n_end cs)) (is_still_ahead k s') (λ net. ahead_of_state k cs s' net after))) goes)
    (subst (λ (b : NetNo → Bool). SweepsBy rule pins limit b next (lines_behind s'.p_end s'.n_end cs)) (sym (same_tests (with_lines (is_behind k s) (lines_to s (column_of k step))) (is_behind k s') (λ net. behind_after k s step cs net whole after fit))) rest))
