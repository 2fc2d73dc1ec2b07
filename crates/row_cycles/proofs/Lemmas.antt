-- Justified lemmas on cycles are true, so a certificate shows that each row has a cycle.
use Rattle.std.proofs.Common.{ℕ, zero, suc, ◌≡◌, ◌+◌, ◌-◌, ◌<◌, ◌≤◌, ◌++◌, List, [], ◌∷◌, length, map, take, get_or, inl, inr, sym, ap, subst, arith, All, add-one, take_all}
use Rattle.std.proofs.lemmas.List.Elements.{All-nil, All-more, All-contains, Contains-append_left}
use Rattle.std.proofs.lemmas.List.Sorted.{length_permutation}
use Rattle.cell_num.specs.declared.finger.Row.{Row}
use Rattle.cell_num.specs.declared.finger.Row.TheVariants.{P, N}
use Rattle.cell_num.specs.declared.finger.Fingers.{Fingers}
use Rattle.cell_num.specs.declared.net.Pins.{Pins}
use Rattle.cell_num.proofs.Pairs.{Some', some_from_any}
use Rattle.row_model.specs.declared.column.Column.{Column}
use Rattle.row_model.specs.Arrangement.{IsArrangement}
use Rattle.row_model.specs.Gaps.{gaps_of}
use Rattle.row_state.specs.declared.kind.Kinds.{Kinds}
use Rattle.row_state.specs.declared.state.State.{State}
use Rattle.row_state.specs.Completion.{Completes, cost_of, further_gaps}
use Rattle.row_state.specs.Start.{AreKinds, AreSomeKinds, GatesAreNets, HasFingers, IsState, start_of}
use Rattle.row_state.specs.Steps.{column_of, state_after}
use Rattle.row_state.proofs.Calls.{valid_after}
use Rattle.row_state.proofs.Unfold.{completion_of, further_step, gaps_from_start}
use Rattle.row_state.proofs.Valid.{gates_are_nets}
use Rattle.track_ways.specs.Certificate.{NeedsMore}
use Rattle.track_ways.specs.Rows.{lines_behind, lines_of_row}
use Rattle.track_ways.proofs.Path.{StepsOf, completes, steps_of}
use Rattle.track_ways.proofs.Sound.{Holds}
use Rattle.row_cycles.specs.declared.above.NetAbove.{NetAbove}
use Rattle.row_cycles.specs.declared.lemma.CycleLemma.{CycleLemma}
use Rattle.row_cycles.specs.Above.{Follows, HasCycle, above_of, above_step}
use Rattle.row_cycles.specs.Certificate.{AreJustified, Branches, Certifies, Covers, CoversAll, IsJustified, IsRefuted}
use Rattle.row_cycles.specs.Unwired.{AreCyclic, IsTrueOf}
use Rattle.row_cycles.proofs.Paths.{cycle_beside, cycle_more}
use Rattle.row_cycles.proofs.After.{beside_first, cycle_at_end}

-- no completion has so few further gaps
pub needs_more : (value : Row → State → Kinds → ℕ) (pins : Pins) (k : Kinds) (s : State) (gaps : ℕ)
    (above : List NetAbove) → GatesAreNets k → Holds value k → IsState k s → NeedsMore value k s gaps
    → AreCyclic pins k s gaps above
needs_more value pins k s gaps above nets law state (inl p) steps leads within =
    absurd (omega (arith, p, within, law P s state (map (column_of k) steps) (completes k s steps nets leads)))
needs_more value pins k s gaps above nets law state (inr n) steps leads within =
    absurd (omega (arith, n, within, law N s state (map (column_of k) steps) (completes k s steps nets leads)))

-- fewer gaps, and pairs from which the others follow
pub weaker : (pins : Pins) (k : Kinds) (s : State) (gaps fewer : ℕ) (xs ys : List NetAbove)
    → fewer ≤ gaps → All (Follows ys) xs → AreCyclic pins k s gaps xs → AreCyclic pins k s fewer ys
weaker pins k s gaps fewer xs ys le follow h steps leads within =
    cycle_beside xs ys (above_of pins (lines_behind s.p_end s.n_end (map (column_of k) steps))) follow
    (h steps leads (omega (arith, le, within)))

-- there is a cycle already
pub cyclic_so_far : (pins : Pins) (k : Kinds) (s : State) (gaps : ℕ) (above : List NetAbove)
    → HasCycle above → AreCyclic pins k s gaps above
cyclic_so_far pins k s gaps above h steps leads within =
    let more : List NetAbove = above_of pins (lines_behind s.p_end s.n_end (map (column_of k) steps)) in
    cycle_more above (above ++ more) (λ a there. Contains-append_left above more a there) h

pub covered : (pins : Pins) (k : Kinds) (s : State) (gaps : ℕ) (above : List NetAbove) (lemma : CycleLemma)
    → IsTrueOf pins k lemma → Covers s gaps above lemma → AreCyclic pins k s gaps above
covered pins k s gaps above lemma is covers =
    subst (λ (z : State). AreCyclic pins k z gaps above) covers.state
    (weaker pins k lemma.state lemma.gaps gaps lemma.above above covers.enough covers.follow is)

-- each completion of a refuted state has a cycle
pub refuted : (value : Row → State → Kinds → ℕ) (pins : Pins) (k : Kinds) (earlier : List CycleLemma) (s : State)
    (gaps : ℕ) (above : List NetAbove) → GatesAreNets k → Holds value k → All (IsTrueOf pins k) earlier → IsState k s
    → IsRefuted value k earlier s gaps above → AreCyclic pins k s gaps above
refuted value pins k earlier s gaps above nets law all state (inl d) =
    needs_more value pins k s gaps above nets law state d
refuted value pins k earlier s gaps above nets law all state (inr (inl cycle)) =
    cyclic_so_far pins k s gaps above cycle
refuted value pins k earlier s gaps above nets law all state (inr (inr any)) =
    let found : Some' (Covers s gaps above) earlier = some_from_any (Covers s gaps above) earlier any in
    covered pins k s gaps above found.it (All-contains (IsTrueOf pins k) earlier found.it all found.there) found.holds

none_left : (k : Kinds) (s : State) → Completes k s [] → HasFingers k s → ⊥
none_left k s h some = omega (arith, some, length_permutation _ _ h.p, length_permutation _ _ h.n)

branches : (value : Row → State → Kinds → ℕ) (pins : Pins) (k : Kinds) (earlier : List CycleLemma) (lemma : CycleLemma)
    → AreSomeKinds k → Holds value k → All (IsTrueOf pins k) earlier → IsState k lemma.state
    → Branches value pins k earlier lemma → IsTrueOf pins k lemma
branches value pins k earlier lemma some law all state h [] leads within =
    cycle_at_end pins lemma.state lemma.above (h.ends (none_left k lemma.state leads))
branches value pins k earlier lemma some law all state h (step ∷ steps) leads within =
    let s : State = lemma.state in
    let cs : List Column = map (column_of k) steps in
    let next : State = state_after k s step in
    let cost : ℕ = cost_of s (column_of k step) in
    let above : List NetAbove = lemma.above ++ above_step pins k s step in
    let further : further_gaps s (column_of k step ∷ cs) ≡ cost + further_gaps next cs = further_step k s step cs in
    let left : ℕ = lemma.gaps - cost in
    let sum : cost + left ≡ lemma.gaps = omega (arith, further, within) in
    let cyclic : AreCyclic pins k next left above =
    refuted value pins k earlier next left above (gates_are_nets k some) law all
    (valid_after k s step some state leads.0) (h.steps step left leads.0 sum) in
    subst HasCycle (beside_first pins k s step cs lemma.above)
    (cyclic steps leads.1 (omega (arith, further, within, sum)))

pub justified_true : (value : Row → State → Kinds → ℕ) (pins : Pins) (k : Kinds) (earlier : List CycleLemma)
    (lemma : CycleLemma) → AreSomeKinds k → Holds value k → All (IsTrueOf pins k) earlier
    → IsJustified value pins k earlier lemma → IsTrueOf pins k lemma
justified_true value pins k earlier lemma some law all h =
    elim h.holds [
      | inl d ↦ needs_more value pins k lemma.state lemma.gaps lemma.above (gates_are_nets k some) law h.state d
      | inr b ↦ branches value pins k earlier lemma some law all h.state b
    ]

-- what holds of each element if it holds of all before it holds of all
by_earlier : {X : Type 0} (Q : X → Type 0) (xs : List X)
    → ((i : ℕ) (d : X) → i < length xs → All Q (take i xs) → Q (get_or xs i d)) → All Q xs
by_earlier Q [] each = All-nil Q
by_earlier Q (x ∷ xs) each =
    subst (All Q) (take_all (length (x ∷ xs)) (x ∷ xs) (omega arith)) (up_to (length (x ∷ xs)) (omega arith))
  where
    up_to : (n : ℕ) → n ≤ length (x ∷ xs) → All Q (take n (x ∷ xs))
    up_to zero within = All-nil Q
    up_to (suc n) within =
        let at : n < length (x ∷ xs) = omega (arith, within) in
        let before : All Q (take n (x ∷ xs)) = up_to n (omega (arith, within)) in
        subst (λ m. All Q (take m (x ∷ xs))) (add-one n) (All-more Q (x ∷ xs) n x at before (each n x at before))

-- justified lemmas are true
pub lemmas_true : (value : Row → State → Kinds → ℕ) (pins : Pins) (k : Kinds) (lemmas : List CycleLemma)
    → Holds value k → AreSomeKinds k → AreJustified value pins k lemmas → All (IsTrueOf pins k) lemmas
lemmas_true value pins k lemmas law some h =
    by_earlier (IsTrueOf pins k) lemmas
    (λ i d at before. justified_true value pins k (take i lemmas) (get_or lemmas i d) some law before (h i d at))

covers_start : (pins : Pins) (k : Kinds) (gaps : ℕ) (lemma : CycleLemma)
    → IsTrueOf pins k lemma → CoversAll (start_of k) gaps lemma → AreCyclic pins k (start_of k) gaps []
covers_start pins k gaps lemma is h =
    covered pins k (start_of k) gaps [] lemma is (record {
      state = h.state;
      enough = h.enough;
      follow = subst (All (Follows [])) (sym h.any) (All-nil (Follows []));
    })

-- a certificate shows that each arrangement with at most that many gaps has a cycle
pub cyclic_rows : (value : Row → State → Kinds → ℕ) (pins : Pins) (f : Fingers) (k : Kinds) (gaps : ℕ)
    (lemmas : List CycleLemma) → Holds value k → AreKinds f k → AreSomeKinds k → Certifies value pins k gaps lemmas
    → (row : List Column) → IsArrangement row f → gaps_of row ≤ gaps → HasCycle (above_of pins (lines_of_row row))
cyclic_rows value pins f k gaps lemmas law kinds some h row is few =
    let found : Some' (CoversAll (start_of k) gaps) lemmas =
    some_from_any (CoversAll (start_of k) gaps) lemmas h.whole in
    let all : All (IsTrueOf pins k) lemmas = lemmas_true value pins k lemmas law some h.justified in
    let true' : IsTrueOf pins k found.it = All-contains (IsTrueOf pins k) lemmas found.it all found.there in
    let s : StepsOf k (start_of k) row = steps_of k (start_of k) row (completion_of f k row kinds is) in
    let cycle : HasCycle (above_of pins (lines_of_row (map (column_of k) s.steps))) =
    covers_start pins k gaps found.it true' found.holds s.steps s.leads
    (omega (arith, few, gaps_from_start k (map (column_of k) s.steps), ap gaps_of s.is)) in
    subst (λ cs. HasCycle (above_of pins (lines_of_row cs))) s.is cycle
