-- The first completion without a cycle, from that of the state after its first column.
use Rattle.std.proofs.Common.{ℕ, ◌≡◌, ◌+◌, ◌-◌, ◌<◌, ◌⊎◌, ◌++◌, List, [], ◌∷◌, length, get_or, take, map, reverse, inl, refl, sym, ap, subst, arith, All, Any, ◌∙◌, append-nil}
use Rattle.std.proofs.lemmas.List.{reverse-append}
use Rattle.std.proofs.lemmas.List.Concat.{flat_map-cons}
use Rattle.std.proofs.lemmas.List.Elements.{All-head}
use Rattle.cell_num.specs.declared.finger.Row.{Row}
use Rattle.cell_num.specs.declared.net.NetNo.{NetNo}
use Rattle.cell_num.specs.declared.net.Pins.{Pins}
use Rattle.cell_num.proofs.Lists.{contains_none}
use Rattle.cell_num.proofs.Pairs.{Some', any_at, some_from_any}
use Rattle.row_model.specs.declared.column.Column.{Column}
use Rattle.row_model.specs.Gaps.{gaps_of}
use Rattle.row_state.specs.declared.candidate.Candidate.{Candidate}
use Rattle.row_state.specs.declared.kind.Kinds.{Kinds}
use Rattle.row_state.specs.declared.state.State.{State}
use Rattle.row_state.specs.declared.step.Step.{Step}
use Rattle.row_state.specs.Candidates.{AreCandidates}
use Rattle.row_state.specs.Completion.{Completes, cost_of, further_gaps}
use Rattle.row_state.specs.Order.{RowBefore}
use Rattle.row_state.specs.Start.{AreSomeKinds, IsState, start_of}
use Rattle.row_state.specs.Steps.{IsPossible, column_of, state_after}
use Rattle.row_state.proofs.Calls.{valid_after}
use Rattle.row_state.proofs.Unfold.{arrangement_of, completion_of, further_step, gaps_from_start}
use Rattle.row_state.proofs.Valid.{gates_are_nets}
use Rattle.track_ways.specs.Rows.{lines_of_row, node_line}
use Rattle.track_ways.proofs.Path.{StepsOf, completes, steps_of}
use Rattle.track_ways.proofs.Sound.{Holds}
use Rattle.row_cycles.specs.declared.above.NetAbove.{NetAbove}
use Rattle.cycle_search.specs.declared.ahead.Ahead.{Ahead}
use Rattle.row_cycles.specs.declared.lemma.CycleLemma.{CycleLemma}
use Rattle.row_cycles.specs.Above.{Follows, HasCycle, LeadsDown, above_at, above_end, above_of, above_step, over}
use Rattle.row_cycles.specs.Certificate.{AreJustified, Certifies, Covers, CoversAll}
use Rattle.cycle_search.specs.Search.{IsFirstWired}
use Rattle.row_cycles.specs.Steps.{StepIsRefuted}
use Rattle.row_cycles.specs.Unwired.{IsTrueOf}
use Rattle.cycle_search.specs.Visit.{EndsFree, IsAhead, IsFirstFree, IsFree, lemma_at}
use Rattle.row_cycles.proofs.After.{beside_first}
use Rattle.row_cycles.proofs.Completions.{complete_end, first_among, gaps_left, only_end}
use Rattle.row_cycles.proofs.Lemmas.{refuted}
use Rattle.cycle_search.proofs.Visited.{StepFails}

-- a completion through the column is one after it
free_after : (pins : Pins) (k : Kinds) (s : State) (above : List NetAbove) (gaps left : ℕ) (step : Step) (steps : List Step) → cost_of s (column_of k step) + left ≡ gaps → IsFree pins k s above gaps (step ∷ steps) → IsFree pins k (state_after k s step) (above ++ above_step pins k s step) left steps
free_after pins k s above gaps left step steps sum h = record {
  leads = h.leads.1;
  within = gaps_left k s step (map (column_of k) steps) left gaps sum h.within;
  free = λ cycle. h.free (subst HasCycle (beside_first pins k s step (map (column_of k) steps) above) cycle);
}

-- and the other way
free_through : (pins : Pins) (k : Kinds) (s : State) (above : List NetAbove) (gaps left : ℕ) (step : Step) (steps : List Step) → IsPossible k s step → cost_of s (column_of k step) + left ≡ gaps → IsFree pins k (state_after k s step) (above ++ above_step pins k s step) left steps → IsFree pins k s above gaps (step ∷ steps)
free_through pins k s above gaps left step steps possible sum h = record {
  leads = (possible, h.leads);
  within = omega (arith, further_step k s step (map (column_of k) steps), h.within, sum);
  free = λ cycle. h.free (subst HasCycle (sym (beside_first pins k s step (map (column_of k) steps) above)) cycle);
}

-- none goes through a column that fails
free_fails : (value : Row → State → Kinds → ℕ) (pins : Pins) (k : Kinds) (lemmas : List CycleLemma) (s : State) (above : List NetAbove) (gaps : ℕ) (step : Step) (steps : List Step) → AreSomeKinds k → Holds value k → All (IsTrueOf pins k) lemmas → IsState k s → StepIsRefuted value pins k lemmas (lemma_at s gaps above) step → IsFree pins k s above gaps (step ∷ steps) → ⊥
free_fails value pins k lemmas s above gaps step steps some law all state fails h =
    let further : further_gaps s (column_of k step ∷ map (column_of k) steps) ≡ cost_of s (column_of k step) + further_gaps (state_after k s step) (map (column_of k) steps) = further_step k s step (map (column_of k) steps) in
    let left : ℕ = gaps - cost_of s (column_of k step) in
    let sum : cost_of s (column_of k step) + left ≡ gaps = omega (arith, further, h.within) in
    let a : IsFree pins k (state_after k s step) (above ++ above_step pins k s step) left steps = free_after pins k s above gaps left step steps sum h in
    a.free (refuted value pins k lemmas (state_after k s step) left (above ++ above_step pins k s step) (gates_are_nets k some) law all (valid_after k s step some state h.leads.0) (fails left h.leads.0 sum) steps a.leads a.within)

-- the first completion after the first column that does not fail is the first of the state
pub first_through : (value : Row → State → Kinds → ℕ) (pins : Pins) (k : Kinds) (lemmas : List CycleLemma) (s : State) (above : List NetAbove) (gaps : ℕ) (ahead : Ahead) (items : List Candidate) (i : ℕ) (d : Candidate) (rest pushed : List Step) → AreSomeKinds k → Holds value k → All (IsTrueOf pins k) lemmas → IsState k s → AreCandidates k items → i < length items → All (StepFails value pins k lemmas s gaps above) (take i items) → IsAhead pins k s above gaps (get_or items i d).step ahead → IsFirstFree pins k ahead.state.state ahead.asked.pairs ahead.left (reverse rest) → pushed ≡ rest ++ (get_or items i d).step ∷ [] → IsFirstFree pins k s above gaps (reverse pushed)
first_through value pins k lemmas s above gaps ahead items i d rest pushed some law all state are within fails a h is =
    let step : Step = (get_or items i d).step in
    let onward : List NetAbove = above ++ above_step pins k s step in
    let h' : IsFirstFree pins k (state_after k s step) onward ahead.left (reverse rest) = subst (λ z. IsFirstFree pins k z onward ahead.left (reverse rest)) a.is.state (subst (λ ps. IsFirstFree pins k ahead.state.state ps ahead.left (reverse rest)) a.is.onward h) in
    let free : IsFree pins k s above gaps (step ∷ reverse rest) = free_through pins k s above gaps ahead.left step (reverse rest) a.possible a.left h'.is in
    subst (IsFirstFree pins k s above gaps) (sym (ap reverse is ∙ reverse-append rest (step ∷ [])))
    (record {
      is = free;
      first = λ other also.
          first_among k s items i d (map (column_of k) (reverse rest)) other (StepFails value pins k lemmas s gaps above)
          state are within (completes k s (step ∷ reverse rest) (gates_are_nets k some) free.leads) fails
          (λ next zs bad is. free_fails value pins k lemmas s above gaps next.step zs some law all state bad
          (subst (IsFree pins k s above gaps) is also))
          (λ zs is. h'.first zs (free_after pins k s above gaps ahead.left step zs a.left
          (subst (IsFree pins k s above gaps) is also)))
          also.leads;
    })

last_is : (pins : Pins) (s : State) → above_of pins (node_line s.p_end s.n_end ∷ []) ≡ above_end pins s
last_is pins s = flat_map-cons (above_at pins) (node_line s.p_end s.n_end) [] ∙ append-nil (above_end pins s)

-- with no finger left the empty list is the first
pub first_at_end : (pins : Pins) (k : Kinds) (s : State) (above : List NetAbove) (gaps : ℕ) (steps : List Step) → AreSomeKinds k → EndsFree pins k s above → steps ≡ [] → IsFirstFree pins k s above gaps (reverse steps)
first_at_end pins k s above gaps steps some ends is =
    let whole : Completes k s [] = complete_end k s ends.none in
    subst (λ zs. IsFirstFree pins k s above gaps (reverse zs)) (sym is)
    (record {
      is = record {
        leads = whole;
        within = omega arith;
        free = λ cycle. ends.free (subst (λ ps. HasCycle (above ++ ps)) (last_is pins s) cycle);
      };
      first = λ other free. inl (sym (only_end k s (map (column_of k) other) whole (completes k s other (gates_are_nets k some) free.leads)));
    })

-- ---- from the start

-- the first completion of the start is the first row
pub first_row : (pins : Pins) (k : Kinds) (s : State) (gaps : ℕ) (above : List NetAbove) (steps : List Step) (row : List Column) → AreSomeKinds k → s ≡ start_of k → above ≡ [] → row ≡ map (column_of k) steps → IsFirstFree pins k s above gaps steps → IsFirstWired pins k gaps row
first_row pins k s gaps above steps row some start none is given =
    let h : IsFirstFree pins k (start_of k) [] gaps steps = subst (λ ps. IsFirstFree pins k (start_of k) ps gaps steps) none (subst (λ z. IsFirstFree pins k z above gaps steps) start given) in
    let whole : Completes k (start_of k) (map (column_of k) steps) = completes k (start_of k) steps (gates_are_nets k some) h.is.leads in
    subst (IsFirstWired pins k gaps) (sym is) (record {
      arranges = λ f kinds. arrangement_of f k (map (column_of k) steps) kinds whole;
      within = omega (arith, h.is.within, gaps_from_start k (map (column_of k) steps));
      free = h.is.free;
      first = λ f other kinds arranges few free.
          let other' : StepsOf k (start_of k) other = steps_of k (start_of k) other (completion_of f k other kinds arranges) in
          subst (λ cs. (map (column_of k) steps ≡ cs) ⊎ RowBefore (map (column_of k) steps) cs) other'.is
          (h.first other'.steps (record {
            leads = other'.leads;
            within = omega (arith, gaps_from_start k (map (column_of k) other'.steps), ap gaps_of other'.is, few);
            free = λ cycle. free (subst (λ cs. HasCycle (above_of pins (lines_of_row cs))) other'.is cycle);
          }));
    })

no_path : (upper : NetNo) (between : List NetNo) (lower : NetNo) → LeadsDown [] upper between lower → ⊥
no_path upper [] lower h = contains_none (over upper lower) h
no_path upper (net ∷ between) lower h = contains_none (over upper net) h.0

none_follow : (pairs : List NetAbove) → All (Follows []) pairs → pairs ≡ []
none_follow [] h = refl
none_follow (a ∷ pairs) h =
    let path : Follows [] a = All-head (Follows []) a pairs h in
    absurd (no_path a.upper path.0 a.lower path.1)

-- lemmas of which one is about the start are a certificate
pub certificate : (value : Row → State → Kinds → ℕ) (pins : Pins) (k : Kinds) (s : State) (gaps : ℕ) (above : List NetAbove) (lemmas : List CycleLemma) → s ≡ start_of k → above ≡ [] → AreJustified value pins k lemmas → Any (Covers s gaps above) lemmas → Certifies value pins k gaps lemmas
certificate value pins k s gaps above lemmas start none all any =
    let found : Some' (Covers s gaps above) lemmas = some_from_any (Covers s gaps above) lemmas any in
    record {
      justified = all;
      whole = any_at (CoversAll (start_of k) gaps) lemmas found.it found.there (record {
        state = found.holds.state ∙ start;
        enough = found.holds.enough;
        any = none_follow found.it.above (subst (λ ps. All (Follows ps) found.it.above) none found.holds.follow);
      });
    }
