-- Justified lemmas are true, so an accepted row has least gaps.
use Rattle.std.proofs.Common.{ℕ, zero, suc, ◌≡◌, ◌<◌, ◌≤◌, cond, List, [], ◌∷◌, length, Option, Some, None, max, fold, take, get_or, inl, inr, sym, subst, arith, All, ◌∙◌, add-one, take_all}
use Rattle.std.proofs.lemmas.Bool.{cases_Bool}
use Rattle.std.proofs.lemmas.List.Elements.{All-nil, All-head, All-tail, All-more}
use Rattle.cell_num.specs.declared.finger.Row.{Row}
use Rattle.cell_num.specs.declared.finger.Row.TheVariants.{P, N}
use Rattle.cell_num.specs.declared.finger.Fingers.{Fingers}
use Rattle.row_model.specs.declared.column.Column.{Column}
use Rattle.row_model.specs.Arrangement.{IsArrangement}
use Rattle.row_model.specs.Gaps.{gaps_of}
use Rattle.row_state.specs.declared.kind.Kinds.{Kinds}
use Rattle.row_state.specs.declared.state.State.{State}
use Rattle.row_state.specs.Completion.{Need, further_gaps}
use Rattle.row_state.specs.Start.{IsState, start_of, AreKinds}
use Rattle.row_state.specs.Steps.{state_after}
use Rattle.row_state.proofs.Unfold.{branch, completion_of, gaps_from_start}
use Rattle.bound_log.specs.declared.log.Rule.{Rule}
use Rattle.bound_log.specs.declared.log.Rule.TheVariants as by
use Rattle.bound_log.specs.declared.log.Lemma.{Lemma}
use Rattle.bound_log.specs.declared.log.Best.{Best}
use Rattle.bound_log.specs.declared.log.Log.{Log}
use Rattle.lemma_check.specs.Reaches.{same_state, better, best_of, RuleReaches}
use Rattle.lemma_check.proofs.States.{same_state_is}
use Rattle.log_check.specs.declared.refused.Refused.{Refused}
use Rattle.log_check.specs.declared.refused.Refused.TheVariants as because
use Rattle.log_check.specs.Refusal.{BestRefuses, Proves, Refuses}
use Rattle.log_check.specs.Accepted.{IsJustified, AreJustified, IsTrueOf, IsAccepted, BestPasses, Lists}

-- the law of a bound
abbrev pub Holds : (Row → State → Kinds → ℕ) → Kinds → Type 0
Holds value k = (row : Row) (s : State) → IsState k s → Need k s (value row s k)

need_max : (k : Kinds) (s : State) (a b : ℕ) → Need k s a → Need k s b → Need k s (max a b)
need_max k s a b ha hb row h = omega (arith, ha row h, hb row h)

need_better : (k : Kinds) (s : State) (best : ℕ) (lemma : Lemma) → Need k s best → IsTrueOf k lemma → Need k s (better s best lemma)
need_better k s best lemma h true_of =
    elim (cases_Bool (same_state lemma.state s)) [
      | inl same ↦ subst (λ b. Need k s (cond b (max best lemma.bound) best)) (sym same) (need_max k s best lemma.bound h (subst (λ z. Need k z lemma.bound) (same_state_is lemma.state s same) true_of))
      | inr other ↦ subst (λ b. Need k s (cond b (max best lemma.bound) best)) (sym other) h
    ]

best_from : (k : Kinds) (s : State) (best : ℕ) (lemmas : List Lemma) → Need k s best → All (IsTrueOf k) lemmas → Need k s (fold (better s) best lemmas)
best_from k s best [] h all = h
best_from k s best (x ∷ xs) h all = best_from k s (better s best x) xs (need_better k s best x h (All-head (IsTrueOf k) x xs all)) (All-tail (IsTrueOf k) x xs all)

-- the best bound of true lemmas is true
pub best_true : (k : Kinds) (s : State) (lemmas : List Lemma) → All (IsTrueOf k) lemmas → Need k s (best_of s lemmas)
best_true k s lemmas all = best_from k s 0 lemmas (λ row h. omega arith) all

by_rule : (value : Row → State → Kinds → ℕ) (k : Kinds) (earlier : List Lemma) (rule : Rule) (s : State) (bound : ℕ) → Holds value k → All (IsTrueOf k) earlier → IsState k s → RuleReaches value k (λ s. best_of s earlier) rule s bound → Need k s bound
by_rule value k earlier by.P s bound law all state h = λ row complete. omega (arith, h, law P s state row complete)
by_rule value k earlier by.N s bound law all state h = λ row complete. omega (arith, h, law N s state row complete)
by_rule value k earlier by.Branch s bound law all state h = branch k s bound (λ step. best_of (state_after k s step) earlier) h.0 (λ step possible. best_true k (state_after k s step) earlier all) h.1

pub justified_true : (value : Row → State → Kinds → ℕ) (k : Kinds) (earlier : List Lemma) (lemma : Lemma) → Holds value k → All (IsTrueOf k) earlier → IsJustified value k (λ s. best_of s earlier) lemma → IsTrueOf k lemma
justified_true value k earlier lemma law all h = by_rule value k earlier lemma.rule lemma.state lemma.bound law all h.state h.reaches

sound_up_to : (value : Row → State → Kinds → ℕ) (k : Kinds) (lemmas : List Lemma) → Holds value k → AreJustified value k lemmas → (n : ℕ) → n ≤ length lemmas → All (IsTrueOf k) (take n lemmas)
sound_up_to value k lemmas law h zero within = All-nil (IsTrueOf k)
sound_up_to value k [] law h (suc n) within = absurd (omega arith)
sound_up_to value k (x ∷ xs) law h (suc n) within =
    let lemmas : List Lemma = x ∷ xs in
    let before : All (IsTrueOf k) (take n (x ∷ xs)) = sound_up_to value k (x ∷ xs) law h n (omega arith) in
    let at : n < length (x ∷ xs) = omega arith in
    subst (λ m. All (IsTrueOf k) (take m (x ∷ xs))) (add-one n) (All-more (IsTrueOf k) (x ∷ xs) n x at before (justified_true value k (take n (x ∷ xs)) (get_or (x ∷ xs) n x) law before (h n x at)))

pub sound : (value : Row → State → Kinds → ℕ) (k : Kinds) (lemmas : List Lemma) → Holds value k → AreJustified value k lemmas → All (IsTrueOf k) lemmas
sound value k lemmas law h = subst (All (IsTrueOf k)) (take_all (length lemmas) lemmas (omega arith)) (sound_up_to value k lemmas law h (length lemmas) (omega arith))

-- the row of an accepted log arranges the fingers with the gaps that are answered
row_arranges : (k : Kinds) (f : Fingers) (best gaps : ℕ) (row : Option Best) → BestPasses k f best row gaps → Lists k row (λ columns. IsArrangement columns f × (gaps ≡ gaps_of columns))
row_arranges k f best gaps None h = absurd h
row_arranges k f best gaps (Some row) h = (h.arranges.arranges, h.said ∙ h.counted)

row_least : (k : Kinds) (f : Fingers) (best gaps : ℕ) (row : Option Best) → BestPasses k f best row gaps → gaps ≤ best
row_least k f best gaps None h = absurd h
row_least k f best gaps (Some row) h = omega (arith, h.said, h.least)

pub accepted_arranges : (value : Row → State → Kinds → ℕ) (k : Kinds) (f : Fingers) (log : Log) (gaps : ℕ) → IsAccepted value k f log gaps → Lists k log.best (λ columns. IsArrangement columns f × (gaps ≡ gaps_of columns))
accepted_arranges value k f log gaps h = row_arranges k f (best_of (start_of k) log.lemmas) gaps log.best h.passes

-- no arrangement of the fingers has fewer gaps than justified lemmas prove of the start state
pub justified_least : (value : Row → State → Kinds → ℕ) (k : Kinds) (f : Fingers) (lemmas : List Lemma) → Holds value k → AreKinds f k → AreJustified value k lemmas → (other : List Column) → IsArrangement other f → best_of (start_of k) lemmas ≤ gaps_of other
justified_least value k f lemmas law kinds h other arranges =
    let need : best_of (start_of k) lemmas ≤ further_gaps (start_of k) other = best_true k (start_of k) lemmas (sound value k lemmas law h) other (completion_of f k other kinds arranges) in
    omega (arith, need, gaps_from_start k other)

-- nor than the row of an accepted log
pub accepted_least : (value : Row → State → Kinds → ℕ) (k : Kinds) (f : Fingers) (log : Log) (gaps : ℕ) → Holds value k → AreKinds f k → IsAccepted value k f log gaps → (other : List Column) → IsArrangement other f → gaps ≤ gaps_of other
accepted_least value k f log gaps law kinds h other arranges =
    omega (arith, justified_least value k f log.lemmas law kinds h.justified other arranges, row_least k f (best_of (start_of k) log.lemmas) gaps log.best h.passes)

low_row : (k : Kinds) (f : Fingers) (best : ℕ) (row : Option Best) (cause : Refused) → ((other : List Column) → IsArrangement other f → best ≤ gaps_of other) → BestRefuses k f best row cause → Proves (λ b. (other : List Column) → IsArrangement other f → b ≤ gaps_of other) cause
low_row k f best None (because.NoRow proved) low is = λ other arranges. omega (arith, low other arranges, is)
low_row k f best None (because.NotLeast proved said) low h = absurd h
low_row k f best (Some row) (because.NoRow proved) low h = absurd h
low_row k f best (Some row) (because.NotLeast proved said) low (arranges, counted, is, same, more) = λ other fits. omega (arith, low other fits, is)
low_row k f best row (because.Unproved line) low h = tt
low_row k f best row because.NotArrangement low h = tt
low_row k f best row (because.Gaps said counted) low h = tt
low_row k f best row because.NoMemory low h = tt

-- what a refusal tells of the lemmas is true
pub refused_low : (value : Row → State → Kinds → ℕ) (k : Kinds) (f : Fingers) (log : Log) (cause : Refused) → Holds value k → AreKinds f k → Refuses value k f log cause → Proves (λ best. (other : List Column) → IsArrangement other f → best ≤ gaps_of other) cause
refused_low value k f log (because.NoRow proved) law kinds h = low_row k f (best_of (start_of k) log.lemmas) log.best (because.NoRow proved) (justified_least value k f log.lemmas law kinds h.0) h.1
refused_low value k f log (because.NotLeast proved said) law kinds h = low_row k f (best_of (start_of k) log.lemmas) log.best (because.NotLeast proved said) (justified_least value k f log.lemmas law kinds h.0) h.1
refused_low value k f log (because.Unproved line) law kinds h = tt
refused_low value k f log because.NotArrangement law kinds h = tt
refused_low value k f log (because.Gaps said counted) law kinds h = tt
refused_low value k f log because.NoMemory law kinds h = tt
