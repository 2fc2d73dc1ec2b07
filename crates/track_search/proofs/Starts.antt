-- What the search from the start shows of rows.
use Rattle.std.proofs.Common.{ℕ, Bool, ◌≡◌, ◌≤◌, ◌⊎◌, List, [], ◌∷◌, length, map, sym, ap, subst, arith}
use Rattle.std.proofs.lemmas.List.Elements.{All-nil}
use Rattle.cell_num.specs.declared.finger.Row.{Row}
use Rattle.cell_num.specs.declared.net.NetNo.{NetNo}
use Rattle.cell_num.specs.declared.net.Pins.{Pins}
use Rattle.cell_num.proofs.Lists.{contains_here}
use Rattle.row_model.specs.declared.column.Column.{Column}
use Rattle.row_model.specs.Gaps.{gaps_of}
use Rattle.row_state.specs.declared.kind.Kinds.{Kinds}
use Rattle.row_state.specs.declared.state.State.{State}
use Rattle.row_state.specs.declared.step.Step.{Step}
use Rattle.row_state.specs.Completion.{Completes}
use Rattle.row_state.specs.Order.{RowBefore}
use Rattle.row_state.specs.Start.{AreSomeKinds, start_of}
use Rattle.row_state.specs.Steps.{column_of}
use Rattle.row_state.proofs.Unfold.{arrangement_of, completion_of, gaps_from_start}
use Rattle.row_state.proofs.Valid.{gates_are_nets}
use Rattle.track_ways.specs.Lines.{LineRule, SweepsBy, is_ahead}
use Rattle.track_ways.specs.Paths.{Leads, RunsBy}
use Rattle.track_ways.specs.Rows.{lines_of_row}
use Rattle.track_ways.specs.Rules.{IsRule}
use Rattle.track_ways.specs.Ways.{LineWays}
use Rattle.track_ways.specs.declared.track.NetTrack.{NetTrack}
use Rattle.track_ways.proofs.Path.{StepsOf, completes, runs, steps_of, sweeps_of}
use Rattle.track_ways.proofs.Whole.{start_behind, start_fits}
use Rattle.track_ways.specs.declared.lemma.TrackLemma.{TrackLemma}
use Rattle.track_ways.specs.Certificate.{AreJustifiedBy, CertifiesBy}
use Rattle.track_search.specs.First.{IsFirstRouted, IsRouted}
use Rattle.track_search.specs.LimitBy.{HasTracksBy, IsFirstRowBy}
use Rattle.track_search.specs.Visit.{AreCovered, AreWaysAt}
use Rattle.track_search.proofs.Refuted.{one_covered}
use Rattle.track_search.proofs.Ways.{start_way}

-- tracks through the lines of an arrangement go along its steps
pub runs_of_tracks : (rule : LineRule) (pins : Pins) (limit : ℕ) (k : Kinds) (row : List Column) (steps : StepsOf k (start_of k) row) (has : HasTracksBy rule pins limit row) → AreSomeKinds k → RunsBy rule pins limit k (start_of k) has.track steps.steps
runs_of_tracks rule pins limit k row steps has some =
    runs rule pins limit k (start_of k) has.track steps.steps (gates_are_nets k some) steps.leads (start_fits k)
    (subst (λ (b : NetNo → Bool). SweepsBy rule pins limit b has.track (lines_of_row (map (column_of k) steps.steps))) (start_behind k)
    (subst (λ cs. SweepsBy rule pins limit (is_ahead []) has.track (lines_of_row cs)) (sym steps.is) has.sweeps))

-- and back
tracks_of_runs : {rule : LineRule} {listing : LineWays} (r : IsRule rule listing) (pins : Pins) (limit : ℕ) (k : Kinds) (steps : List Step) (track : NetNo → ℕ) → AreSomeKinds k → Leads k (start_of k) steps → RunsBy rule pins limit k (start_of k) track steps → HasTracksBy rule pins limit (map (column_of k) steps)
tracks_of_runs {rule} r pins limit k steps track some leads go = record {
  track = track;
  sweeps = subst (λ (b : NetNo → Bool). SweepsBy rule pins limit b track (lines_of_row (map (column_of k) steps))) (sym (start_behind k))
      (sweeps_of rule r.again pins limit k (start_of k) track steps (gates_are_nets k some) leads (start_fits k) go);
}

-- a completion of the start along which tracks go
routed_start : (rule : LineRule) (pins : Pins) (limit : ℕ) (k : Kinds) (gaps : ℕ) (row : List Column) (steps : StepsOf k (start_of k) row) → AreSomeKinds k → gaps_of row ≤ gaps → HasTracksBy rule pins limit row → IsRouted rule pins limit k (start_of k) ([] ∷ []) gaps steps.steps
routed_start rule pins limit k gaps row steps some few has = record {
  leads = steps.leads;
  within = omega (arith, gaps_from_start k (map (column_of k) steps.steps), ap gaps_of steps.is, few);
  on = record {
    way = [];
    there = contains_here [] [];
    track = has.track;
    lie = All-nil (λ (t : NetTrack). has.track t.net ≡ t.track);
    runs = runs_of_tracks rule pins limit k row steps has some;
  };
}

-- the first completion of the start is the first row
pub first_row : {rule : LineRule} {listing : LineWays} (r : IsRule rule listing) (pins : Pins) (limit : ℕ) (k : Kinds) (s : State) (gaps : ℕ) (ways : List (List NetTrack)) (steps : List Step) (row : List Column) → AreSomeKinds k → s ≡ start_of k → ways ≡ [] ∷ [] → row ≡ map (column_of k) steps → IsFirstRouted rule pins limit k s ways gaps steps → IsFirstRowBy rule pins limit k gaps row
first_row {rule} r pins limit k s gaps ways steps row some start one is given =
    let h : IsFirstRouted rule pins limit k (start_of k) ([] ∷ []) gaps steps = subst (λ ws. IsFirstRouted rule pins limit k (start_of k) ws gaps steps) one (subst (λ z. IsFirstRouted rule pins limit k z ways gaps steps) start given) in
    let whole : Completes k (start_of k) (map (column_of k) steps) = completes k (start_of k) steps (gates_are_nets k some) h.routed.leads in
    subst (IsFirstRowBy rule pins limit k gaps) (sym is) (record {
      arranges = λ f kinds. arrangement_of f k (map (column_of k) steps) kinds whole;
      within = omega (arith, h.routed.within, gaps_from_start k (map (column_of k) steps));
      tracks = tracks_of_runs r pins limit k steps h.routed.on.track some h.routed.leads h.routed.on.runs;
      first = λ f other kinds arranges few has.
          let steps' : StepsOf k (start_of k) other = steps_of k (start_of k) other (completion_of f k other kinds arranges) in
          subst (λ cs. (map (column_of k) steps ≡ cs) ⊎ RowBefore (map (column_of k) steps) cs) steps'.is
          (h.first steps'.steps (routed_start rule pins limit k gaps other steps' some few has));
    })

-- lemmas of which one speaks of the start without tracks are a certificate
pub certificate : (rule : LineRule) (value : Row → State → Kinds → ℕ) (pins : Pins) (limit : ℕ) (k : Kinds) (s : State) (gaps : ℕ) (ways : List (List NetTrack)) (lemmas : List TrackLemma) → s ≡ start_of k → ways ≡ [] ∷ [] → AreJustifiedBy rule value pins limit k lemmas → AreCovered lemmas s gaps ways → CertifiesBy rule value pins limit k gaps lemmas
certificate rule value pins limit k s gaps ways lemmas start one justified covered =
    let all : AreCovered lemmas (start_of k) gaps ([] ∷ []) = subst (AreCovered lemmas (start_of k) gaps) one (subst (λ z. AreCovered lemmas z gaps ways) start covered) in
    record { justified = justified; whole = one_covered lemmas (start_of k) gaps all }

pub start_ways : (pins : Pins) (k : Kinds) (s : State) (ways : List (List NetTrack)) → s ≡ start_of k → ways ≡ [] ∷ [] → AreWaysAt pins k s ways
start_ways pins k s ways start one = subst (AreWaysAt pins k s) (sym one) (subst (λ z. AreWaysAt pins k z ([] ∷ [])) (sym start) (start_way pins k))

pub none_justified : (rule : LineRule) (value : Row → State → Kinds → ℕ) (pins : Pins) (limit : ℕ) (k : Kinds) (lemmas : List TrackLemma) → lemmas ≡ [] → AreJustifiedBy rule value pins limit k lemmas
none_justified rule value pins limit k lemmas e i d within = absurd (omega (arith, within, ap length e))
