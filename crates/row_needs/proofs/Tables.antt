-- The table of rows by the number of counts.
use Rattle.std.proofs.Common.{ℕ, ◌≡◌, ◌+◌, ◌*◌, ◌<◌, ◌≤◌, false, List, length, Some, None, inl, inr, refl, sym, ap, subst, ◌∙◌, All, get_or, take}
use Rattle.std.specs.Prelude.{is_some, nat_eq}
use Rattle.std.specs.HashMap.{get}
use Rattle.std.proofs.lemmas.Bool.{cases_Bool, eqb-true}
use Rattle.std.proofs.lemmas.List.Elements.{All-contains, All-more, All-weaker}
use Rattle.cell_num.proofs.Lists.{all_map, some_same}
use Rattle.row_state.specs.declared.candidate.Candidate.{Candidate}
use Rattle.row_state.specs.declared.kind.Kinds.{Kinds}
use Rattle.row_state.specs.declared.state.State.{State}
use Rattle.row_state.specs.declared.step.Step.{Step}
use Rattle.row_state.specs.Candidates.{AreCandidates, candidate_steps}
use Rattle.row_state.specs.Code.{state_code, state_of}
use Rattle.row_state.specs.Completion.{left_in}
use Rattle.row_state.specs.Decoded.{decoded, rows_code}
use Rattle.row_state.specs.Start.{IsState}
use Rattle.row_state.specs.Steps.{IsPossible, state_after}
use Rattle.row_state.proofs.Digits.{among_candidates}
use Rattle.row_needs.specs.declared.needs.Needs.{Needs}
use Rattle.row_needs.specs.declared.rest.Rest.{Rest}
use Rattle.row_needs.specs.Best.{HasNext, IsGrown}
use Rattle.row_needs.specs.Rest.{AreRests, HasRest, IsClosed, IsRest}

without_ends : State → State
without_ends s = record { p_left = s.p_left; n_left = s.n_left; p_end = None; n_end = None }

valid_without : (k : Kinds) (s : State) → IsState k s → IsState k (without_ends s)
unfolding without_ends
valid_without k s h = record { p_kinds = h.p_kinds; n_kinds = h.n_kinds; p_counts = h.p_counts; n_counts = h.n_counts; p_end = tt; n_end = tt; lead = h.lead }

code_without : (k : Kinds) (s : State) → state_code k (without_ends s) ≡ (rows_code k s * (k.nets + 1) + 0) * (k.nets + 1) + 0
unfolding without_ends
code_without k s = refl

-- states with the same number of counts differ in their ends alone
same_bare : (k : Kinds) (s t : State) → IsState k s → IsState k t → rows_code k s ≡ rows_code k t → without_ends s ≡ without_ends t
same_bare k s t hs ht same =
    let code : state_code k (without_ends s) ≡ state_code k (without_ends t) = code_without k s ∙ ap (λ n. (n * (k.nets + 1) + 0) * (k.nets + 1) + 0) same ∙ sym (code_without k t) in
    sym (decoded k (without_ends s) (valid_without k s hs)) ∙ ap (state_of k) code ∙ decoded k (without_ends t) (valid_without k t ht)

left_without : (k : Kinds) (s : State) → left_in k (without_ends s) ≡ left_in k s
unfolding without_ends
left_without k s = refl

pub same_counts : (k : Kinds) (s t : State) → IsState k s → IsState k t → rows_code k s ≡ rows_code k t → (s.p_left ≡ t.p_left) × (s.n_left ≡ t.n_left)
unfolding without_ends
same_counts k s t hs ht same = (ap (λ (z : State). z.p_left) (same_bare k s t hs ht same), ap (λ (z : State). z.n_left) (same_bare k s t hs ht same))

pub same_left : (k : Kinds) (s t : State) → IsState k s → IsState k t → rows_code k s ≡ rows_code k t → left_in k s ≡ left_in k t
same_left k s t hs ht same = sym (left_without k s) ∙ ap (left_in k) (same_bare k s t hs ht same) ∙ left_without k t

possible_without : (k : Kinds) (s : State) (step : Step) → IsPossible k s step → IsPossible k (without_ends s) step
unfolding without_ends
possible_without k s step h = record { p = h.p; n = h.n; column = h.column; half = h.half }

possible_with : (k : Kinds) (s : State) (step : Step) → IsPossible k (without_ends s) step → IsPossible k s step
unfolding without_ends
possible_with k s step h = record { p = h.p; n = h.n; column = h.column; half = h.half }

after_without : (k : Kinds) (s : State) (step : Step) → state_after k (without_ends s) step ≡ state_after k s step
unfolding without_ends
after_without k s step = refl

pub rests_more : (k : Kinds) (old new : Needs) (at : State) (number : ℕ) (rest : Rest) → IsState k at → number ≡ rows_code k at → AreRests k old → IsRest (left_in k at) rest → rest.gaps ≤ 32 → get nat_eq new.rests number ≡ Some rest → ((q : ℕ) → nat_eq number q ≡ false → get nat_eq new.rests q ≡ get nat_eq old.rests q) → AreRests k new
rests_more k old new at number rest valid is sound here few kept others s other state there =
    elim (cases_Bool (nat_eq number (rows_code k s))) [
      | inl same ↦
          let e : number ≡ rows_code k s = eqb-true number (rows_code k s) same in
          let r : rest ≡ other = some_same rest other (sym kept ∙ ap (get nat_eq new.rests) e ∙ there) in
          let l : left_in k at ≡ left_in k s = same_left k at s valid state (sym is ∙ e) in
          subst (λ (x : Rest). IsRest (left_in k s) x × (x.gaps ≤ 32)) r (subst (λ f. IsRest f rest) l here, few)
      | inr apart ↦ sound s other state (sym (others (rows_code k s) apart) ∙ there)
    ]

-- ---- what the table has

pub number_here : (k : Kinds) (needs : Needs) (s : State) (number : ℕ) (rest : Rest) → number ≡ rows_code k s → get nat_eq needs.rests number ≡ Some rest → HasRest k needs s
number_here k needs s number rest is there = ap is_some (ap (get nat_eq needs.rests) (sym is) ∙ there)

pub grown_more : (k : Kinds) (old new : Needs) (number : ℕ) (rest : Rest) → get nat_eq new.rests number ≡ Some rest → ((q : ℕ) → nat_eq number q ≡ false → get nat_eq new.rests q ≡ get nat_eq old.rests q) → IsGrown k old new
grown_more k old new number rest here others s has =
    elim (cases_Bool (nat_eq number (rows_code k s))) [
      | inl same ↦ number_here k new s number rest (eqb-true number (rows_code k s) same) here
      | inr apart ↦ ap is_some (others (rows_code k s) apart) ∙ has
    ]

pub grown_on : (k : Kinds) (a b c : Needs) → IsGrown k a b → IsGrown k b c → IsGrown k a c
grown_on k a b c first then s has = then s (first s has)

pub next_on : (k : Kinds) (s : State) (old new : Needs) (items : List Candidate) → IsGrown k old new → All (HasNext k s old) items → All (HasNext k s new) items
next_on k s old new items grown all = All-weaker (HasNext k s old) (HasNext k s new) (λ c has possible. grown (state_after k s c.step) (has possible)) items all

pub next_more : (k : Kinds) (s : State) (old new : Needs) (items : List Candidate) (i : ℕ) (d : Candidate) → i < length items → IsGrown k old new → (IsPossible k s (get_or items i d).step → HasRest k new (state_after k s (get_or items i d).step)) → All (HasNext k s old) (take i items) → All (HasNext k s new) (take (i + 1) items)
next_more k s old new items i d within grown last all = All-more (HasNext k s new) items i d within (next_on k s old new (take i items) grown all) last

pub closed_more : (k : Kinds) (old new : Needs) (at : State) (number : ℕ) (rest : Rest) (all : List Candidate) → IsState k at → number ≡ rows_code k at → AreCandidates k all → IsClosed k old → All (HasNext k at old) all → get nat_eq new.rests number ≡ Some rest → ((q : ℕ) → nat_eq number q ≡ false → get nat_eq new.rests q ≡ get nat_eq old.rests q) → IsClosed k new
closed_more k old new at number rest all valid is are closed each here others s step state possible has =
    elim (cases_Bool (nat_eq number (rows_code k s))) [
      | inl same ↦ grown_more k old new number rest here others (state_after k s step) (next_here (eqb-true number (rows_code k s) same))
      | inr apart ↦ grown_more k old new number rest here others (state_after k s step) (closed s step state possible (ap is_some (sym (others (rows_code k s) apart)) ∙ has))
    ]
  where
    next_here : number ≡ rows_code k s → HasRest k old (state_after k s step)
    next_here e =
        let bare : without_ends at ≡ without_ends s = same_bare k at s valid state (sym is ∙ e) in
        let could : IsPossible k at step = possible_with k at step (subst (λ z. IsPossible k z step) (sym bare) (possible_without k s step possible)) in
        let after : state_after k at step ≡ state_after k s step = sym (after_without k at step) ∙ ap (λ z. state_after k z step) bare ∙ after_without k s step in
        let there : HasRest k old (state_after k at step) =
        All-contains (λ (z : Step). IsPossible k at z → HasRest k old (state_after k at z)) (candidate_steps all) step
        (all_map (HasNext k at old) (λ (z : Step). IsPossible k at z → HasRest k old (state_after k at z)) (λ (c : Candidate). c.step) all (λ c h. h) each)
        (among_candidates k all at step are valid could) could in
        subst (HasRest k old) after there
