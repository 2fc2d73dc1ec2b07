-- The ways in which a visit ends, over what it begins with and what it comes to.
use Rattle.std.proofs.Common.{ℕ, ◌≡◌, ◌+◌, ◌-◌, ◌<◌, ◌≤◌, Bool, true, false, List, [], ◌∷◌, ◌++◌, length, length-append, take, take_all, get_or, sym, ap, subst, arith, All, ◌∙◌, ◌↔◌, IsTrue, Option, Some, None}
use Rattle.std.proofs.lemmas.List.Elements.{All-contains, All-more, All-push, All-nil, All-weaker}
use Rattle.std.proofs.lemmas.List.{get_or-map, length-map, take-map}
use Rattle.cell_num.proofs.Lists.{all_map}
use Rattle.cell_num.specs.declared.finger.Row.{Row}
use Rattle.row_state.specs.declared.kind.Kinds.{Kinds}
use Rattle.row_state.specs.declared.kind.Kind.{Kind}
use Rattle.row_state.specs.declared.state.State.{State}
use Rattle.row_state.specs.declared.step.Side.{Side}
use Rattle.row_state.specs.declared.step.Step.{Step}
use Rattle.row_state.specs.Completion.{cost_of}
use Rattle.row_state.specs.Start.{AreSomeKinds, GatesAreNets, IsState, HasFingers, columns_left}
use Rattle.row_state.specs.declared.candidate.Candidate.{Candidate}
use Rattle.row_state.specs.Candidates.{AreCandidates, candidate_steps}
use Rattle.row_state.specs.Code.{state_code}
use Rattle.row_state.specs.Steps.{IsLeft, IsPossible, column_of, state_after}
use Rattle.row_state.proofs.Calls.{fewer_after, valid_after}
use Rattle.row_state.proofs.Digits.{among_candidates}
use Rattle.row_state.proofs.Valid.{gates_are_nets}
use Rattle.bound_log.specs.declared.log.Lemma.{Lemma}
use Rattle.bound_log.specs.declared.log.Rule.{Rule}
use Rattle.bound_log.specs.declared.log.Rule.TheVariants as by
use Rattle.bound_log.specs.Fits.{SideFits}
use Rattle.bound_log.specs.Kept.{lemma_of}
use Rattle.lemma_check.specs.Reaches.{best_of, BranchReaches, StepReaches, RuleReaches}
use Rattle.lemma_check.specs.Known.{best_known}
use Rattle.log_check.specs.Accepted.{AreJustified}
use Rattle.log_check.proofs.Sound.{Holds, sound}
use Rattle.row_search.specs.Ended.{IsLean}
use Rattle.row_search.specs.Reached.{IsReached, IsWithin}
use Rattle.row_search.specs.SoFar.{KnowsAll, SoFar, one_node}
use Rattle.row_search.specs.Steps.{IsStep, row_of}
use Rattle.row_search.specs.Visit.{AreKept, HasFailed, HasFound, HasSpent, IsAllowed, IsFirstWithin, IsFurther, IsGrown, RowReaches}
use Rattle.row_search.proofs.Grown.{Reaches, all_reach_grown, best_unmoved, kept_push, grown_refl, grown_trans, grown_weaker, kept_bound, kept_grown, kept_length}
use Rattle.row_search.proofs.Reach.{reached_after}
use Rattle.row_search.proofs.Rows.{AreOrdered, Fails, fails, found, leaf, row_of_push}

-- the lemmas of before, and no fewer nodes
pub further_same : (value : Row → State → Kinds → ℕ) (k : Kinds) (budget n : ℕ) (s : State) (allowed : ℕ) (p q : SoFar) → q.lemmas ≡ p.lemmas → p.nodes ≤ q.nodes → q.nodes ≤ budget → AreKept value k p.lemmas → IsFurther value k budget n s allowed p q
further_same value k budget n s allowed p q same more few kept =
    record {
      nodes = few;
      lemmas = subst (AreKept value k) (sym same) kept;
      grown = subst (IsGrown k n p.lemmas) (sym same) (grown_refl k n p.lemmas);
      within = λ limit reached all. subst (All (IsWithin k limit)) (sym same) all;
      fewer = omega (arith, ap length same, more);
    }

pub further_wider : (value : Row → State → Kinds → ℕ) (k : Kinds) (budget : ℕ) (s : State) (allowed : ℕ) (p q : SoFar) → IsFurther value k budget (columns_left k s) s allowed p q → IsFurther value k budget (columns_left k s + 1) s allowed p q
further_wider value k budget s allowed p q h =
    record { nodes = h.nodes; lemmas = h.lemmas; grown = grown_weaker k (columns_left k s) (columns_left k s + 1) p.lemmas q.lemmas (omega arith) h.grown; within = h.within; fewer = h.fewer }

-- the same lemmas and nodes again
pub further_still : (value : Row → State → Kinds → ℕ) (k : Kinds) (budget n : ℕ) (s : State) (allowed : ℕ) (p q r : SoFar) → r.lemmas ≡ q.lemmas → r.nodes ≡ q.nodes → IsFurther value k budget n s allowed p q → IsFurther value k budget n s allowed p r
further_still value k budget n s allowed p q r same nodes h =
    record {
      nodes = omega (arith, h.nodes, nodes);
      lemmas = subst (AreKept value k) (sym same) h.lemmas;
      grown = subst (IsGrown k n p.lemmas) (sym same) h.grown;
      within = λ limit reached all. subst (All (IsWithin k limit)) (sym same) (h.within limit reached all);
      fewer = omega (arith, h.fewer, ap length same, nodes);
    }

-- the limit reaches the state after a next column as well
pub allowed_after : (k : Kinds) (limit : ℕ) (s after : State) (allowed cost : ℕ) (step : Step) → AreSomeKinds k → IsPossible k s step → cost ≡ cost_of s (column_of k step) → cost ≤ allowed → after ≡ state_after k s step → IsAllowed k limit s allowed → IsAllowed k limit after (allowed - cost)
allowed_after k limit s after allowed cost step some possible ec cheap ea h =
    record {
      gaps = h.gaps + cost_of s (column_of k step);
      reached = subst (λ (z : State). IsReached k z (h.gaps + cost_of s (column_of k step))) (sym ea) (reached_after k s step h.gaps (gates_are_nets k some) h.reached possible);
      within = omega (arith, h.within, ec, cheap);
    }

-- a visit of a state behind is a part of the visit
pub further_behind : (value : Row → State → Kinds → ℕ) (k : Kinds) (budget : ℕ) (s after : State) (allowed cost : ℕ) (step : Step) (p q r : SoFar) → AreSomeKinds k → IsPossible k s step → cost ≡ cost_of s (column_of k step) → cost ≤ allowed → after ≡ state_after k s step → IsFurther value k budget (columns_left k s) s allowed p q → IsFurther value k budget (columns_left k after + 1) after (allowed - cost) q r → IsFurther value k budget (columns_left k s) s allowed p r
further_behind value k budget s after allowed cost step p q r some possible ec cheap ea h i =
    let fewer_left : columns_left k s ≡ columns_left k after + 1 = fewer_after k s step some possible ∙ ap (λ (z : State). columns_left k z + 1) (sym ea) in
    record {
      nodes = i.nodes;
      lemmas = i.lemmas;
      grown = grown_trans k (columns_left k s) p.lemmas q.lemmas r.lemmas h.grown (subst (λ n. IsGrown k n q.lemmas r.lemmas) (sym fewer_left) i.grown);
      within = λ limit reached all. i.within limit (allowed_after k limit s after allowed cost step some possible ec cheap ea reached) (h.within limit reached all);
      fewer = omega (arith, h.fewer, i.fewer);
    }

-- some of the next columns were tried, and all of them failed
pub record HasTried (value : Row → State → Kinds → ℕ) (k : Kinds) (budget : ℕ) (s : State) (allowed : ℕ) (p q : SoFar) : Type 0 where
  pub further : IsFurther value k budget (columns_left k s) s allowed p q
  pub knows : KnowsAll k q
  pub counted : q.nodes + length p.lemmas ≡ p.nodes + length q.lemmas + 1

counted_nodes : (p q : SoFar) → q ≡ one_node p → q.nodes ≡ p.nodes + 1
counted_nodes p q e = ap (λ (z : SoFar). z.nodes) e

counted_lemmas : (p q : SoFar) → q ≡ one_node p → q.lemmas ≡ p.lemmas
counted_lemmas p q e = ap (λ (z : SoFar). z.lemmas) e

pub further_counted : (value : Row → State → Kinds → ℕ) (k : Kinds) (budget n : ℕ) (s : State) (allowed : ℕ) (p q : SoFar) → q ≡ one_node p → p.nodes + 1 ≤ budget → AreKept value k p.lemmas → IsFurther value k budget n s allowed p q
further_counted value k budget n s allowed p q e few kept = further_same value k budget n s allowed p q (counted_lemmas p q e) (omega (arith, counted_nodes p q e)) (omega (arith, counted_nodes p q e, few)) kept

pub tried_none : (value : Row → State → Kinds → ℕ) (k : Kinds) (budget : ℕ) (s : State) (allowed : ℕ) (p q : SoFar) → q ≡ one_node p → AreKept value k p.lemmas → KnowsAll k p → p.nodes + 1 ≤ budget → HasTried value k budget s allowed p q
tried_none value k budget s allowed p q e kept knows few =
    record {
      further = further_counted value k budget (columns_left k s) s allowed p q e few kept;
      knows = subst (KnowsAll k) (sym e) (record { kinds = knows.kinds; table = knows.table });
      counted = omega (arith, counted_nodes p q e, ap length (counted_lemmas p q e));
    }

pub tried_more : (value : Row → State → Kinds → ℕ) (k : Kinds) (budget : ℕ) (s after : State) (allowed cost : ℕ) (step : Step) (p q r : SoFar) → AreSomeKinds k → IsPossible k s step → cost ≡ cost_of s (column_of k step) → cost ≤ allowed → after ≡ state_after k s step → HasTried value k budget s allowed p q → IsFurther value k budget (columns_left k after + 1) after (allowed - cost) q r → HasFailed k after (allowed - cost) q r → HasTried value k budget s allowed p r
tried_more value k budget s after allowed cost step p q r some possible ec cheap ea h i failed =
    record {
      further = further_behind value k budget s after allowed cost step p q r some possible ec cheap ea h.further i;
      knows = failed.knows;
      counted = omega (arith, failed.counted, h.counted);
    }

within_push : (k : Kinds) (limit : ℕ) (xs ys : List Lemma) (s : State) (allowed : ℕ) (rule : Rule) → ys ≡ xs ++ lemma_of s (allowed + 1) rule ∷ [] → IsAllowed k limit s allowed → All (IsWithin k limit) xs → All (IsWithin k limit) ys
within_push k limit xs ys s allowed rule e reached all =
    subst (All (IsWithin k limit)) (sym e) (All-push (IsWithin k limit) xs (lemma_of s (allowed + 1) rule) all (record { gaps = reached.gaps; reached = reached.reached; within = omega (arith, reached.within) }))

-- a lemma of the state is kept
pub further_kept : (value : Row → State → Kinds → ℕ) (k : Kinds) (budget : ℕ) (s : State) (allowed : ℕ) (rule : Rule) (p q r : SoFar) → HasTried value k budget s allowed p q → r.nodes ≡ q.nodes → r.lemmas ≡ q.lemmas ++ lemma_of s (allowed + 1) rule ∷ [] → IsState k s → RuleReaches value k (λ z. best_of z q.lemmas) rule s (allowed + 1) → IsLean value k (lemma_of s (allowed + 1) rule) → best_of s p.lemmas ≤ allowed → IsFurther value k budget (columns_left k s + 1) s allowed p r
further_kept value k budget s allowed rule p q r h nodes pushed state reaches lean low =
    let low_still : best_of s q.lemmas < allowed + 1 = omega (arith, low, best_unmoved k s p.lemmas q.lemmas h.further.grown) in
    record {
      nodes = omega (arith, h.further.nodes, nodes);
      lemmas = kept_push value k q.lemmas r.lemmas s (allowed + 1) rule pushed h.further.lemmas state reaches lean low_still;
      grown = kept_grown k (columns_left k s + 1) p.lemmas q.lemmas r.lemmas s (allowed + 1) rule pushed (omega arith) (grown_weaker k (columns_left k s) (columns_left k s + 1) p.lemmas q.lemmas (omega arith) h.further.grown);
      within = λ limit reached all. within_push k limit q.lemmas r.lemmas s allowed rule pushed reached (h.further.within limit reached all);
      fewer = omega (arith, h.counted, nodes, kept_length q.lemmas r.lemmas s (allowed + 1) rule pushed);
    }

pub failed_kept : (value : Row → State → Kinds → ℕ) (k : Kinds) (budget : ℕ) (s : State) (allowed : ℕ) (rule : Rule) (p q r : SoFar) → HasTried value k budget s allowed p q → r.nodes ≡ q.nodes → r.lemmas ≡ q.lemmas ++ lemma_of s (allowed + 1) rule ∷ [] → (KnowsAll k q → KnowsAll k r) → HasFailed k s allowed p r
failed_kept value k budget s allowed rule p q r h nodes pushed knows =
    record {
      knows = knows h.knows;
      proves = omega (arith, kept_bound q.lemmas r.lemmas s (allowed + 1) rule pushed);
      counted = omega (arith, h.counted, nodes, kept_length q.lemmas r.lemmas s (allowed + 1) rule pushed);
    }

-- the bound of a row is a rule of the lemma
pub row_reaches : (value : Row → State → Kinds → ℕ) (k : Kinds) (best : State → ℕ) (s : State) (n : ℕ) (rule : Rule) → RowReaches value k s n rule → RuleReaches value k best rule s n × IsLean value k (lemma_of s n rule)
row_reaches value k best s n by.P h = (h, h)
row_reaches value k best s n by.N h = (h.1, h)
row_reaches value k best s n by.Branch h = absurd h

pub some_left : {X : Type 0} {b : Bool} → (IsTrue b ↔ X) → b ≡ true → X
some_left tells e = tells.0 e

pub spent_behind : (value : Row → State → Kinds → ℕ) (k : Kinds) (budget : ℕ) (s after : State) (allowed : ℕ) (step : Step) (p q r : SoFar) → AreSomeKinds k → IsPossible k s step → after ≡ state_after k s step → HasTried value k budget s allowed p q → HasSpent k budget after q r → HasSpent k budget s p r
spent_behind value k budget s after allowed step p q r some possible ea h spent =
    let fewer_left : columns_left k s ≡ columns_left k after + 1 = fewer_after k s step some possible ∙ ap (λ (z : State). columns_left k z + 1) (sym ea) in
    record { nodes = spent.nodes; knows = spent.knows; most = omega (arith, spent.most, h.counted, fewer_left) }

-- no finger is left
pub found_leaf : (k : Kinds) (s : State) (allowed : ℕ) (steps : List Step) (b : Bool) (p q : SoFar) → q ≡ one_node p → steps ≡ [] → (IsTrue b ↔ HasFingers k s) → b ≡ false → HasFound k s allowed steps p q
found_leaf k s allowed steps b p q counted e tells is_false =
    subst (λ (r : List Step). HasFound k s allowed r p q) (sym e)
    (record {
      row = leaf k s allowed (λ some. let yes : b ≡ true = tells.1 some in cc);
      sound = All-nil (IsStep k);
      counted = omega (arith, counted_nodes p q counted, ap length (counted_lemmas p q counted));
    })

-- what a possible step says of its kinds
side_fits : (kinds : List Kind) (left : List ℕ) (side : Option Side) → IsLeft kinds left side → SideFits kinds side
side_fits kinds left None h = tt
side_fits kinds left (Some side) h = h.0

pub step_is : (k : Kinds) (s : State) (step : Step) → IsPossible k s step → IsStep k step
step_is k s step h = record { p = side_fits k.p s.p_left step.p h.p; n = side_fits k.n s.n_left step.n h.n; column = h.column }

-- the next columns of a state among the candidates
pub candidates_ordered : (k : Kinds) (all : List Candidate) (s : State) → AreCandidates k all → IsState k s → AreOrdered k s (candidate_steps all)
candidates_ordered k all s are valid = record { all = λ step possible. among_candidates k all s step are valid possible; order = are.steps.order }

-- one more column that may not come next, or that fails: it costs too much, or a lemma says so of the state behind it
pub step_not : (k : Kinds) (s : State) (bound : ℕ) (best : State → ℕ) (items : List Candidate) (i : ℕ) (d : Candidate) (b : Bool) → All (Reaches k best s bound) (take i items) → i < length items → (IsTrue b ↔ IsPossible k s (get_or items i d).step) → b ≡ false → All (Reaches k best s bound) (take (i + 1) items)
step_not k s bound best items i d b all within tells is_false = All-more (Reaches k best s bound) items i d within all (λ possible. let yes : b ≡ true = tells.1 possible in absurd (cc))

pub step_dear : (k : Kinds) (s : State) (allowed cost : ℕ) (best : State → ℕ) (items : List Candidate) (i : ℕ) (d : Candidate) → All (Reaches k best s (allowed + 1)) (take i items) → i < length items → cost ≡ cost_of s (column_of k (get_or items i d).step) → allowed < cost → All (Reaches k best s (allowed + 1)) (take (i + 1) items)
step_dear k s allowed cost best items i d all within ec dear = All-more (Reaches k best s (allowed + 1)) items i d within all (λ possible. omega (arith, ec, dear))

pub step_known : (k : Kinds) (s : State) (allowed cost told : ℕ) (log : List Lemma) (items : List Candidate) (i : ℕ) (d : Candidate) → All (Reaches k (λ z. best_of z log) s (allowed + 1)) (take i items) → i < length items → cost ≡ cost_of s (column_of k (get_or items i d).step) → told ≡ best_of (state_after k s (get_or items i d).step) log → allowed - cost < told → All (Reaches k (λ z. best_of z log) s (allowed + 1)) (take (i + 1) items)
step_known k s allowed cost told log items i d all within ec is above = All-more (Reaches k (λ z. best_of z log) s (allowed + 1)) items i d within all (λ possible. omega (arith, above, ec, is))

pub step_fails : (k : Kinds) (m : ℕ) (s after : State) (allowed cost : ℕ) (log grown : List Lemma) (items : List Candidate) (i : ℕ) (d : Candidate) → IsGrown k m log grown → All (Reaches k (λ z. best_of z log) s (allowed + 1)) (take i items) → i < length items → cost ≡ cost_of s (column_of k (get_or items i d).step) → after ≡ state_after k s (get_or items i d).step → allowed - cost < best_of after grown → All (Reaches k (λ z. best_of z grown) s (allowed + 1)) (take (i + 1) items)
step_fails k m s after allowed cost log grown items i d g all within ec ea above =
    All-more (Reaches k (λ z. best_of z grown) s (allowed + 1)) items i d within (all_reach_grown k m s (allowed + 1) (take i items) log grown g all) (λ possible. omega (arith, above, ec, ap (λ z. best_of z grown) ea))

-- all columns that may come next reach the bound
pub branch_end : (k : Kinds) (s : State) (items all : List Candidate) (i : ℕ) (best : State → ℕ) (bound : ℕ) → AreCandidates k all → IsState k s → items ≡ all → length items ≤ i → All (Reaches k best s bound) (take i items) → BranchReaches k best s bound
branch_end k s items all i best bound are valid same past tried step possible =
    let each : All (Reaches k best s bound) all = subst (All (Reaches k best s bound)) same (subst (All (Reaches k best s bound)) (take_all i items past) tried) in
    let steps : All (λ (x : Step). IsPossible k s x → StepReaches k best s bound x) (candidate_steps all) = all_map (Reaches k best s bound) (λ (x : Step). IsPossible k s x → StepReaches k best s bound x) (λ (c : Candidate). c.step) all (λ c h. h) each in
    All-contains (λ (x : Step). IsPossible k s x → StepReaches k best s bound x) (candidate_steps all) step steps (among_candidates k all s step are valid possible) possible

-- the first completion behind the first step that does not fail is the first of the state
pub first_among : (k : Kinds) (s after : State) (allowed cost : ℕ) (items : List Candidate) (i : ℕ) (d : Candidate) (rest pushed : List Step) → GatesAreNets k → HasFingers k s → AreOrdered k s (candidate_steps items) → i < length items → IsPossible k s (get_or items i d).step → All (λ (c : Candidate). Fails k s allowed c.step) (take i items) → cost ≡ cost_of s (column_of k (get_or items i d).step) → cost ≤ allowed → after ≡ state_after k s (get_or items i d).step → IsFirstWithin k after (allowed - cost) (row_of k rest) → pushed ≡ rest ++ (get_or items i d).step ∷ [] → IsFirstWithin k s allowed (row_of k pushed)
first_among k s after allowed cost items i d rest pushed nets some are within possible failed ec cheap ea h ep =
    let step : Step = (get_or items i d).step in
    let here : get_or (candidate_steps items) i d.step ≡ step = get_or-map (λ (c : Candidate). c.step) items i d d.step within in
    let inside : i < length (candidate_steps items) = omega (arith, within, length-map items (λ (c : Candidate). c.step)) in
    let all_fail : All (Fails k s allowed) (take i (candidate_steps items)) = subst (All (Fails k s allowed)) (sym (take-map (λ (c : Candidate). c.step) i items)) (all_map (λ (c : Candidate). Fails k s allowed c.step) (Fails k s allowed) (λ (c : Candidate). c.step) (take i items) (λ c bad. bad) failed) in
    let h' : IsFirstWithin k (state_after k s step) (allowed - cost_of s (column_of k step)) (row_of k rest) = subst (λ (z : State). IsFirstWithin k z (allowed - cost_of s (column_of k step)) (row_of k rest)) ea (subst (λ (n : ℕ). IsFirstWithin k after (allowed - n) (row_of k rest)) ec h) in
    let first : (z : Step) → get_or (candidate_steps items) i d.step ≡ z → IsPossible k s z → cost_of s (column_of k z) ≤ allowed → IsFirstWithin k (state_after k s z) (allowed - cost_of s (column_of k z)) (row_of k rest) → IsFirstWithin k s allowed (column_of k z ∷ row_of k rest) = λ z e. subst (λ (y : Step). IsPossible k s y → cost_of s (column_of k y) ≤ allowed → IsFirstWithin k (state_after k s y) (allowed - cost_of s (column_of k y)) (row_of k rest) → IsFirstWithin k s allowed (column_of k y ∷ row_of k rest)) e (λ may cheaply f. found k s allowed (candidate_steps items) i d.step (row_of k rest) nets some are inside may all_fail cheaply f) in
    subst (IsFirstWithin k s allowed) (sym (ap (row_of k) ep ∙ row_of_push k rest step)) (first step here possible (omega (arith, ec, cheap)) h')

-- lemmas say which steps fail
tried_fail : (value : Row → State → Kinds → ℕ) (k : Kinds) (s : State) (allowed : ℕ) (log : List Lemma) (tried : List Candidate) → Holds value k → AreJustified value k log → All (Reaches k (λ z. best_of z log) s (allowed + 1)) tried → All (λ (c : Candidate). Fails k s allowed c.step) tried
tried_fail value k s allowed log tried law justified all = All-weaker (Reaches k (λ z. best_of z log) s (allowed + 1)) (λ (c : Candidate). Fails k s allowed c.step) (λ c. fails k s allowed c.step log (sound value k log law justified)) tried all

pub found_behind : (value : Row → State → Kinds → ℕ) (k : Kinds) (budget : ℕ) (s after : State) (allowed cost : ℕ) (items all : List Candidate) (i : ℕ) (d : Candidate) (rest pushed : List Step) (p q r : SoFar) → Holds value k → AreSomeKinds k → HasFingers k s → AreCandidates k all → IsState k s → items ≡ all → i < length items → IsPossible k s (get_or items i d).step → All (Reaches k (λ z. best_of z q.lemmas) s (allowed + 1)) (take i items) → cost ≡ cost_of s (column_of k (get_or items i d).step) → cost ≤ allowed → after ≡ state_after k s (get_or items i d).step → HasTried value k budget s allowed p q → HasFound k after (allowed - cost) rest q r → pushed ≡ rest ++ (get_or items i d).step ∷ [] → HasFound k s allowed pushed p r
found_behind value k budget s after allowed cost items all i d rest pushed p q r law kinds some are valid same within possible failed ec cheap ea h behind ep =
    record {
      row = first_among k s after allowed cost items i d rest pushed (gates_are_nets k kinds) some (candidates_ordered k items s (subst (AreCandidates k) (sym same) are) valid) within possible (tried_fail value k s allowed q.lemmas (take i items) law h.further.lemmas.justified failed) ec cheap ea behind.row ep;
      sound = subst (All (IsStep k)) (sym ep) (All-push (IsStep k) rest (get_or items i d).step behind.sound (step_is k s (get_or items i d).step possible));
      counted = omega (arith, behind.counted, h.counted, ap length ep, length-append rest ((get_or items i d).step ∷ []));
    }

-- what is known of the state behind
pub known_behind : (k : Kinds) (p : SoFar) (s : State) (step : Step) (code told : ℕ) → AreSomeKinds k → KnowsAll k p → IsState k s → IsPossible k s step → code ≡ state_code k (state_after k s step) → ((k : Kinds) (s : State) → state_code k s ≡ code → told ≡ best_known p.known k s) → told ≡ best_of (state_after k s step) p.lemmas
known_behind k p s step code told some knows valid possible e is = is k (state_after k s step) (sym e) ∙ knows.table (state_after k s step) (valid_after k s step some valid possible)
