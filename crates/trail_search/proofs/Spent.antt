-- What the units of a visit went for.
use Rattle.std.proofs.Common.{ℕ, ◌≡◌, ◌≢◌, ◌+◌, ◌-◌, ◌<◌, ◌≤◌, Bool, true, cond, max, [], ◌∷◌, ◌++◌, length, length-append, sum_by, inl, inr, refl, sym, ap, subst, arith, All, ◌∙◌}
use Rattle.std.proofs.lemmas.Bool.{cases_Bool}
use Rattle.std.proofs.lemmas.List.Elements.{All-append, All-nil}
use Rattle.std.proofs.lemmas.List.Sums.{sum_by-append, sum_by-cons}
use Rattle.cell_num.specs.declared.finger.Fingers.{Fingers}
use Rattle.cell_num.proofs.Lists.{all_imply, all_one}
use Rattle.cell_num.proofs.Pairs.{cross, pairs_append, pairs_none, pairs_one}
use Rattle.row_state.specs.declared.kind.Kinds.{Kinds}
use Rattle.row_state.specs.declared.state.State.{State}
use Rattle.row_state.specs.Completion.{Need, cost_of}
use Rattle.row_state.specs.declared.step.Step.{Step}
use Rattle.row_state.specs.Start.{AreSomeKinds, HasFingers, IsState, columns_left, start_of}
use Rattle.row_state.specs.Steps.{IsPossible, column_of, state_after}
use Rattle.row_state.proofs.Calls.{fewer_after}
use Rattle.row_state.proofs.Exists.{some_step}
use Rattle.row_state.proofs.Valid.{gates_are_nets}
use Rattle.row_search.specs.Reached.{IsReached}
use Rattle.row_search.proofs.Reach.{reached_after, reached_start}
use Rattle.lemma_check.specs.declared.known.Known.{Known}
use Rattle.lemma_check.specs.Reaches.{raised, same_state}
use Rattle.lemma_check.specs.Known.{best_known}
use Rattle.lemma_check.proofs.States.{same_state_from}
use Rattle.trail_search.specs.Proof.{AttemptsOnce, IsAttempt, attempt_units}
use Rattle.trail_search.specs.Behind.{fingers_behind}
use Rattle.trail_search.specs.Searched.{Bounded, IsBounded, IsStateWithin, IsBoundWithin, IsTryWithin, IsTry, Try, tried_units}
use Rattle.cell_num.specs.declared.halt.Halt.{Halt}
use Rattle.cell_num.specs.declared.halt.Halt.TheVariants as halted
use Rattle.trail_search.specs.Visit.{IfSpent, IsRaised, IsSpent, TriesOnce}

abbrev pub Differ : Bounded → Bounded → Type 0
Differ a b = a ≢ b

-- ---- attempts

pub tries_none : (k : Kinds) (may_try : Bool) (s : State) (bound left left_after : ℕ) → left_after ≡ left → TriesOnce k may_try s bound left left_after
tries_none k may_try s bound left left_after e = record { tries = []; tried = All-nil (IsTry k may_try); tried_within = λ most here. All-nil (IsTryWithin k most); few = omega arith; many = omega (arith, e) }

pub tries_once : (k : Kinds) (s : State) (f : Fingers) (allowed left left_after : ℕ) → IsState k s → f ≡ fingers_behind k s → AttemptsOnce f allowed left left_after → TriesOnce k true s (allowed + 1) left left_after
tries_once k s f allowed left left_after valid is (inl e) = tries_none k true s (allowed + 1) left left_after e
tries_once k s f allowed left left_after valid is (inr h) =
    let one : Try = record { state = s; attempt = h.attempt } in
    let went : left ≤ left_after + tried_units k one = subst (λ (z : Fingers). left ≤ left_after + attempt_units z h.attempt) is h.many in
    let count : sum_by (tried_units k) (one ∷ []) ≡ tried_units k one + 0 = sum_by-cons (tried_units k) one [] in
    record {
      tries = one ∷ [];
      tried = all_one (IsTry k true) one (record { may = refl; valid = valid; attempt = subst (λ (z : Fingers). IsAttempt z h.attempt) is h.is });
      tried_within = λ most here. all_one (IsTryWithin k most) one (subst (λ (l : ℕ). IsStateWithin k most s (l + 1)) (sym h.tried) here);
      few = omega arith;
      many = omega (arith, went, count);
    }

pub tries_may : (k : Kinds) (may_try : Bool) (s : State) (bound left left_after : ℕ) → may_try ≡ true → TriesOnce k true s bound left left_after → TriesOnce k may_try s bound left left_after
tries_may k may_try s bound left left_after on h = subst (λ (b : Bool). TriesOnce k b s bound left left_after) (sym on) h

-- ---- how it goes on

pub spent_same : (k : Kinds) (may_try : Bool) (n : ℕ) (s : State) (most : ℕ) (known : Known) (left others : ℕ) → IsSpent k may_try n s most known known left left others
spent_same k may_try n s most known left others =
    record { grown = λ z valid. omega arith; bounds = []; tries = []; different = pairs_none Differ; each = All-nil (IsRaised k n most known known); tried = All-nil (IsTry k may_try); within = λ m here. All-nil (IsBoundWithin k m); tried_within = λ m here. All-nil (IsTryWithin k m); few = omega arith; many = omega arith }

-- a unit of the path, and one attempt at most
pub spent_one : (k : Kinds) (may_try : Bool) (n : ℕ) (s : State) (most : ℕ) (known : Known) (left left_on left_after : ℕ) → left_on + 1 ≡ left → TriesOnce k may_try s most left_on left_after → IsSpent k may_try n s most known known left left_after 1
spent_one k may_try n s most known left left_on left_after went h =
    record { grown = λ z valid. omega arith; bounds = []; tries = h.tries; different = pairs_none Differ; each = All-nil (IsRaised k n most known known); tried = h.tried; within = λ m here. All-nil (IsBoundWithin k m); tried_within = h.tried_within; few = omega (arith, h.few); many = omega (arith, went, h.many) }

raised_more : (k : Kinds) (n m most more : ℕ) (a b c d : Known) → n ≤ m → most ≤ more → ((s : State) → IsState k s → best_known a k s ≤ best_known b k s) → ((s : State) → IsState k s → best_known c k s ≤ best_known d k s) → (x : Bounded) → IsRaised k n most b c x → IsRaised k m more a d x
raised_more k n m most more a b c d less up ab cd x h =
    record { is = record { valid = h.is.valid; some = h.is.some; few = omega (arith, h.is.few, up); need = h.is.need }; unknown = omega (arith, ab x.state h.is.valid, h.unknown); known = omega (arith, cd x.state h.is.valid, h.known); below = omega (arith, h.below, less) }

pub spent_more : (k : Kinds) (may_try : Bool) (n m : ℕ) (s t : State) (most more : ℕ) (a b : Known) (left left_after others rest : ℕ) → n ≤ m → most ≤ more → others ≤ rest → ((high : ℕ) → IsStateWithin k high t more → IsStateWithin k high s most) → IsSpent k may_try n s most a b left left_after others → IsSpent k may_try m t more a b left left_after rest
spent_more k may_try n m s t most more a b left left_after others rest less up few meets h =
    record {
      grown = h.grown;
      bounds = h.bounds;
      tries = h.tries;
      different = h.different;
      each = all_imply (IsRaised k n most a b) (IsRaised k m more a b) h.bounds (raised_more k n m most more a a b b less up (λ z valid. omega arith) (λ z valid. omega arith)) h.each;
      tried = h.tried;
      within = λ high here. h.within high (meets high here);
      tried_within = λ high here. h.tried_within high (meets high here);
      few = omega (arith, h.few, few);
      many = omega (arith, h.many, few);
    }

pub apart : (k : Kinds) (n most : ℕ) (a b c : Known) (x y : Bounded) → IsRaised k n most a b x → IsRaised k n most b c y → x ≢ y
apart k n most a b c x y hx hy e =
    let above : best_known b k x.state < x.bound = subst (λ (z : Bounded). best_known b k z.state < z.bound) (sym e) hy.unknown in
    omega (arith, hx.known, above)

pub spent_then : (k : Kinds) (may_try : Bool) (n : ℕ) (s : State) (most : ℕ) (a b c : Known) (left left_on left_after others more : ℕ) → IsSpent k may_try n s most a b left left_on others → IsSpent k may_try n s most b c left_on left_after more → IsSpent k may_try n s most a c left left_after (others + more)
spent_then k may_try n s most a b c left left_on left_after others more g h =
    let bounds : length (g.bounds ++ h.bounds) ≡ length g.bounds + length h.bounds = length-append g.bounds h.bounds in
    let tries : length (g.tries ++ h.tries) ≡ length g.tries + length h.tries = length-append g.tries h.tries in
    let units : sum_by (tried_units k) (g.tries ++ h.tries) ≡ sum_by (tried_units k) g.tries + sum_by (tried_units k) h.tries = sum_by-append (tried_units k) g.tries h.tries in
    record {
      grown = λ z valid. omega (arith, g.grown z valid, h.grown z valid);
      bounds = g.bounds ++ h.bounds;
      tries = g.tries ++ h.tries;
      different = pairs_append Differ g.bounds h.bounds g.different h.different (cross Differ (IsRaised k n most a b) (IsRaised k n most b c) g.bounds h.bounds g.each h.each (apart k n most a b c));
      each = All-append (IsRaised k n most a c) g.bounds h.bounds
          (all_imply (IsRaised k n most a b) (IsRaised k n most a c) g.bounds (raised_more k n n most most a a b c (omega arith) (omega arith) (λ z valid. omega arith) h.grown) g.each)
          (all_imply (IsRaised k n most b c) (IsRaised k n most a c) h.bounds (raised_more k n n most most a b c c (omega arith) (omega arith) g.grown (λ z valid. omega arith)) h.each);
      tried = All-append (IsTry k may_try) g.tries h.tries g.tried h.tried;
      within = λ m here. All-append (IsBoundWithin k m) g.bounds h.bounds (g.within m here) (h.within m here);
      tried_within = λ m here. All-append (IsTryWithin k m) g.tries h.tries (g.tried_within m here) (h.tried_within m here);
      few = omega (arith, g.few, h.few, bounds, tries);
      many = omega (arith, g.many, h.many, bounds, units);
    }

-- the state after a column is met where this one is
state_within_after : (k : Kinds) (s after : State) (step : Step) (cost most inner : ℕ) → AreSomeKinds k → IsPossible k s step → after ≡ state_after k s step → cost ≡ cost_of s (column_of k step) → inner + cost ≤ most → (high : ℕ) → IsStateWithin k high s most → IsStateWithin k high after inner
state_within_after k s after step cost most inner some possible ea ec up high h = record {
  gaps = h.gaps + cost_of s (column_of k step);
  reached = subst (λ (z : State). IsReached k z (h.gaps + cost_of s (column_of k step))) (sym ea) (reached_after k s step h.gaps (gates_are_nets k some) h.reached possible);
  within = omega (arith, h.within, ec, up);
}

state_within_here : (k : Kinds) (s : State) (most : ℕ) (high : ℕ) → IsStateWithin k high s most → IsStateWithin k high s most
state_within_here k s most high h = h

-- the next state has one column less
pub spent_behind : (k : Kinds) (may_try : Bool) (s after : State) (step : Step) (cost most inner : ℕ) (a b c : Known)
    (left left_on left_after : ℕ) → AreSomeKinds k → IsPossible k s step → after ≡ state_after k s step →
    cost ≡ cost_of s (column_of k step) → inner + cost ≤ most → IsSpent k may_try (columns_left k s) s most a b left left_on 1 →
    IsSpent k may_try (columns_left k after + 1) after inner b c left_on left_after 0 →
    IsSpent k may_try (columns_left k s) s most a c left left_after 1
spent_behind k may_try s after step cost most inner a b c left left_on left_after some possible ea ec up h behind =
    let less : columns_left k s ≡ columns_left k after + 1 = fewer_after k s step some possible ∙ ap (λ (z : State). columns_left k z + 1) (sym ea) in
    spent_more k may_try (columns_left k s) (columns_left k s) s s most most a c left left_after 1 1 (omega arith) (omega arith)
    (omega arith) (state_within_here k s most) (spent_then k may_try (columns_left k s) s most a b c left left_on left_after
    1 0 h (spent_more k may_try (columns_left k after + 1) (columns_left k s) after s inner most b c left_on left_after 0 0
    (omega (arith, less)) (omega (arith, up)) (omega arith) (state_within_after k s after step cost most inner some
    possible ea ec up) behind))

-- no node is left behind it
pub spent_halt : (k : Kinds) (may_try : Bool) (s after : State) (step : Step) (cost most inner : ℕ) (a b c : Known) (why : Halt)
    (left left_on left_after : ℕ) → AreSomeKinds k → IsPossible k s step → after ≡ state_after k s step →
    cost ≡ cost_of s (column_of k step) → inner + cost ≤ most → IsSpent k may_try (columns_left k s) s most a b left left_on 1 →
    IfSpent why (IsSpent k may_try (columns_left k after + 1) after inner b c left_on left_after (columns_left k after)) →
    IfSpent why (IsSpent k may_try (columns_left k s + 1) s most a c left left_after (columns_left k s))
spent_halt k may_try s after step cost most inner a b c halted.NoMemory left left_on left_after some possible ea ec up h behind = tt
spent_halt k may_try s after step cost most inner a b c halted.Spent left left_on left_after some possible ea ec up h behind =
    let less : columns_left k s ≡ columns_left k after + 1 = fewer_after k s step some possible ∙ ap (λ (z : State). columns_left k z + 1) (sym ea) in
    spent_more k may_try (columns_left k s) (columns_left k s + 1) s s most most a c left left_after (1 + columns_left k after)
    (columns_left k s) (omega arith) (omega arith) (omega (arith, less)) (state_within_here k s most)
    (spent_then k may_try (columns_left k s) s most a b c left left_on left_after 1 (columns_left k after) h
    (spent_more k may_try (columns_left k after + 1) (columns_left k s) after s inner most b c left_on left_after
    (columns_left k after) (columns_left k after) (omega (arith, less)) (omega (arith, up)) (omega arith)
    (state_within_after k s after step cost most inner some possible ea ec up) behind))

-- nor behind the attempt at the state itself
pub spent_in : (k : Kinds) (may_try : Bool) (s : State) (most : ℕ) (known : Known) (why : Halt) (left left_on left_after : ℕ) → AreSomeKinds k → HasFingers k s → left_on + 1 ≡ left → IfSpent why (TriesOnce k may_try s most left_on left_after) → IfSpent why (IsSpent k may_try (columns_left k s + 1) s most known known left left_after (columns_left k s))
spent_in k may_try s most known halted.Spent left left_on left_after kinds some went h =
    let step : (step : Step) × IsPossible k s step = some_step k s some in
    spent_more k may_try (columns_left k s + 1) (columns_left k s + 1) s s most most known known left left_after 1 (columns_left k s) (omega arith) (omega arith) (omega (arith, fewer_after k s step.0 kinds step.1)) (state_within_here k s most) (spent_one k may_try (columns_left k s + 1) s most known left left_on left_after went h)
spent_in k may_try s most known halted.NoMemory left left_on left_after kinds some went h = tt

-- ---- the end

never_less : (x s : State) (bound best : ℕ) → best ≤ raised x bound s best
never_less x s bound best = elim (cases_Bool (same_state x s)) [
  | inl same ↦ subst (λ (b : Bool). best ≤ cond b (max best bound) best) (sym same) (omega arith)
  | inr other ↦ subst (λ (b : Bool). best ≤ cond b (max best bound) best) (sym other) (omega arith)
]

itself : (s : State) (bound best : ℕ) → bound ≤ raised s bound s best
itself s bound best = subst (λ (b : Bool). bound ≤ cond b (max best bound) best) (sym (same_state_from s s refl)) (omega arith)

-- the bound of the state itself is known at last
pub spent_bound : (k : Kinds) (may_try : Bool) (s : State) (bound : ℕ) (a b c : Known) (left left_after : ℕ) → IsState k s → Need k s bound → best_known a k s < bound → ((x : State) → IsState k x → best_known c k x ≡ raised s bound x (best_known b k x)) → IsSpent k may_try (columns_left k s) s bound a b left left_after 1 → IsSpent k may_try (columns_left k s + 1) s bound a c left left_after 0
spent_bound k may_try s bound a b c left left_after valid need unknown noted h =
    let one : Bounded = record { state = s; bound = bound } in
    let up : (x : State) → IsState k x → best_known b k x ≤ best_known c k x = λ x v. subst (λ (m : ℕ). best_known b k x ≤ m) (sym (noted x v)) (never_less s x bound (best_known b k x)) in
    let told : bound ≤ best_known c k s = subst (λ (m : ℕ). bound ≤ m) (sym (noted s valid)) (itself s bound (best_known b k s)) in
    let last : IsRaised k (columns_left k s + 1) bound a c one = record { is = record { valid = valid; some = omega (arith, unknown); few = omega arith; need = need }; unknown = unknown; known = told; below = omega arith } in
    let count : length (h.bounds ++ one ∷ []) ≡ length h.bounds + 1 = length-append h.bounds (one ∷ []) in
    record {
      grown = λ x v. omega (arith, h.grown x v, up x v);
      bounds = h.bounds ++ one ∷ [];
      tries = h.tries;
      different = pairs_append Differ h.bounds (one ∷ []) h.different (pairs_one Differ one) (all_imply (IsRaised k (columns_left k s) bound a b) (λ x. All (Differ x) (one ∷ [])) h.bounds (λ x r. all_one (Differ x) one (λ e. omega (arith, subst (λ (z : Bounded). columns_left k z.state < columns_left k s) e r.below))) h.each);
      each = All-append (IsRaised k (columns_left k s + 1) bound a c) h.bounds (one ∷ [])
          (all_imply (IsRaised k (columns_left k s) bound a b) (IsRaised k (columns_left k s + 1) bound a c) h.bounds (raised_more k (columns_left k s) (columns_left k s + 1) bound bound a a b c (omega arith) (omega arith) (λ x v. omega arith) up) h.each)
          (all_one (IsRaised k (columns_left k s + 1) bound a c) one last);
      tried = h.tried;
      within = λ m here. All-append (IsBoundWithin k m) h.bounds (one ∷ []) (h.within m here) (all_one (IsBoundWithin k m) one here);
      tried_within = h.tried_within;
      few = omega (arith, h.few, count);
      many = omega (arith, h.many, count);
    }

pub state_within_start : (k : Kinds) (s : State) (most : ℕ) → AreSomeKinds k → s ≡ start_of k → IsStateWithin k most s most
state_within_start k s most kinds e = record { gaps = 0; reached = subst (λ (z : State). IsReached k z 0) (sym e) (reached_start k (gates_are_nets k kinds)); within = omega arith }
