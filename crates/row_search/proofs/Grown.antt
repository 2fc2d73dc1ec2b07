-- What stays true of a log that grows, and what its next lemma must be.
use Rattle.std.proofs.Common.{ℕ, zero, suc, ◌≡◌, ◌+◌, ◌<◌, ◌≤◌, true, List, [], ◌∷◌, ◌++◌, length, max, fold, take, get_or, inl, inr, refl, sym, ap, subst, arith, All, ◌∙◌, length-append, append_assoc, append-nil}
use Rattle.std.proofs.lemmas.Bool.{cases_Bool, cases_lt}
use Rattle.std.proofs.Math.Seq.{get_or-append_seam, take-append_seam}
use Rattle.std.proofs.lemmas.List.{take-append-le, get_or_append_left}
use Rattle.std.proofs.lemmas.List.Elements.{All-weaker, All-nil, All-cons, All-append, All-head, All-tail, All-push}
use Rattle.std.proofs.lemmas.List.Sums.{fold-append, fold_push}
use Rattle.cell_num.specs.declared.finger.Row.{Row}
use Rattle.row_state.specs.declared.kind.Kinds.{Kinds}
use Rattle.row_state.specs.declared.state.State.{State}
use Rattle.row_state.specs.declared.step.Step.{Step}
use Rattle.row_state.specs.declared.candidate.Candidate.{Candidate}
use Rattle.row_state.specs.Steps.{IsPossible, state_after}
use Rattle.bound_log.specs.declared.log.Lemma.{Lemma}
use Rattle.lemma_check.specs.Reaches.{same_state, better, best_of, StepReaches, RuleReaches}
use Rattle.lemma_check.proofs.States.{same_state_from, same_state_is}
use Rattle.log_check.specs.Accepted.{IsJustified, AreJustified}
use Rattle.row_state.specs.Start.{IsState, columns_left}
use Rattle.bound_log.specs.declared.log.Rule.{Rule}
use Rattle.bound_log.specs.Kept.{lemma_of}
use Rattle.row_search.specs.Ended.{AreDistinct, IsLean}
use Rattle.row_search.specs.Visit.{AreKept, IsGrown}

-- where the column may come next, its cost and the best bound of the state behind it reach the bound
abbrev pub Reaches : Kinds → (State → ℕ) → State → ℕ → Candidate → Type 0
Reaches k best s bound c = IsPossible k s c.step → StepReaches k best s bound c.step

pub grown_refl : (k : Kinds) (n : ℕ) (xs : List Lemma) → IsGrown k n xs xs
grown_refl k n xs = record { more = []; is = sym (append-nil xs); below = All-nil (λ lemma. columns_left k lemma.state < n) }

pub grown_push : (k : Kinds) (n : ℕ) (xs : List Lemma) (x : Lemma) → columns_left k x.state < n → IsGrown k n xs (xs ++ x ∷ [])
grown_push k n xs x h = record { more = x ∷ []; is = refl; below = All-cons (λ lemma. columns_left k lemma.state < n) x [] h (All-nil (λ lemma. columns_left k lemma.state < n)) }

pub grown_trans : (k : Kinds) (n : ℕ) (xs ys zs : List Lemma) → IsGrown k n xs ys → IsGrown k n ys zs → IsGrown k n xs zs
grown_trans k n xs ys zs g h = record { more = g.more ++ h.more; is = h.is ∙ ap (λ ws. ws ++ h.more) g.is ∙ append_assoc xs g.more h.more; below = All-append (λ lemma. columns_left k lemma.state < n) g.more h.more g.below h.below }

pub grown_weaker : (k : Kinds) (m n : ℕ) (xs ys : List Lemma) → m ≤ n → IsGrown k m xs ys → IsGrown k n xs ys
grown_weaker k m n xs ys le g = record { more = g.more; is = g.is; below = All-weaker (λ lemma. columns_left k lemma.state < m) (λ lemma. columns_left k lemma.state < n) (λ x l. omega (arith, l, le)) g.more g.below }

fold_ge : (s : State) (best : ℕ) (xs : List Lemma) → best ≤ fold (better s) best xs
fold_ge s best [] = omega arith
fold_ge s best (x ∷ xs) =
    elim (cases_Bool (same_state x.state s)) [
      | inl same ↦ let e : better s best x ≡ max best x.bound = rw same refl in omega (arith, e, fold_ge s (better s best x) xs)
      | inr other ↦ let e : better s best x ≡ best = rw other refl in omega (arith, e, fold_ge s (better s best x) xs)
    ]

pub best_grows : (k : Kinds) (n : ℕ) (s : State) (xs ys : List Lemma) → IsGrown k n xs ys → best_of s xs ≤ best_of s ys
best_grows k n s xs ys g = omega (arith, fold_ge s (best_of s xs) g.more, fold-append (better s) 0 xs g.more, ap (best_of s) g.is)

pub reaches_grown : (k : Kinds) (n : ℕ) (s : State) (bound : ℕ) (step : Step) (xs ys : List Lemma) → IsGrown k n xs ys → StepReaches k (λ z. best_of z xs) s bound step → StepReaches k (λ z. best_of z ys) s bound step
reaches_grown k n s bound step xs ys g h = omega (arith, h, best_grows k n (state_after k s step) xs ys g)

pub all_reach_grown : (k : Kinds) (n : ℕ) (s : State) (bound : ℕ) (items : List Candidate) (xs ys : List Lemma) → IsGrown k n xs ys → All (Reaches k (λ z. best_of z xs) s bound) items → All (Reaches k (λ z. best_of z ys) s bound) items
all_reach_grown k n s bound items xs ys g all = All-weaker (Reaches k (λ z. best_of z xs) s bound) (Reaches k (λ z. best_of z ys) s bound) (λ c h possible. reaches_grown k n s bound c.step xs ys g (h possible)) items all

-- the lemma that was added counts
pub best_pushed : (xs : List Lemma) (x : Lemma) → x.bound ≤ best_of x.state (xs ++ x ∷ [])
best_pushed xs x =
    let e : better x.state (best_of x.state xs) x ≡ max (best_of x.state xs) x.bound = rw (same_state_from x.state x.state refl) refl in
    omega (arith, e, fold_push (better x.state) 0 xs x)

pub justified_push : (value : Row → State → Kinds → ℕ) (k : Kinds) (xs : List Lemma) (x : Lemma) → AreJustified value k xs → IsJustified value k (λ s. best_of s xs) x → AreJustified value k (xs ++ x ∷ [])
justified_push value k xs x all here i d within =
    elim (cases_lt i (length xs)) [
      | inl less ↦
          let e : take i (xs ++ x ∷ []) ≡ take i xs = take-append-le i xs (x ∷ []) (omega arith) in
          let f : get_or (xs ++ x ∷ []) i d ≡ get_or xs i d = get_or_append_left xs (x ∷ []) d i less in
          subst (λ y. IsJustified value k (λ s. best_of s (take i (xs ++ x ∷ []))) y) (sym f) (subst (λ ys. IsJustified value k (λ s. best_of s ys) (get_or xs i d)) (sym e) (all i d less))
      | inr more ↦
          let at : length xs ≡ i = omega (arith, length-append xs (x ∷ []), within) in
          subst (λ n. IsJustified value k (λ s. best_of s (take n (xs ++ x ∷ []))) (get_or (xs ++ x ∷ []) n d)) at
          (subst (λ y. IsJustified value k (λ s. best_of s (take (length xs) (xs ++ x ∷ []))) y) (sym (get_or-append_seam xs x [] d)) (subst (λ ys. IsJustified value k (λ s. best_of s ys) x) (sym (take-append_seam xs (x ∷ []))) here))
    ]

pub kept_bound : (xs ys : List Lemma) (s : State) (n : ℕ) (rule : Rule) → ys ≡ xs ++ lemma_of s n rule ∷ [] → n ≤ best_of s ys
kept_bound xs ys s n rule e = omega (arith, best_pushed xs (lemma_of s n rule), ap (best_of s) e)

pub kept_justified : (value : Row → State → Kinds → ℕ) (k : Kinds) (xs ys : List Lemma) (s : State) (n : ℕ) (rule : Rule) → ys ≡ xs ++ lemma_of s n rule ∷ [] → AreJustified value k xs → IsState k s → RuleReaches value k (λ z. best_of z xs) rule s n → AreJustified value k ys
kept_justified value k xs ys s n rule e all state reaches =
    subst (AreJustified value k) (sym e) (justified_push value k xs (lemma_of s n rule) all (record { state = state; reaches = reaches }))

pub kept_grown : (k : Kinds) (m : ℕ) (ws xs ys : List Lemma) (s : State) (n : ℕ) (rule : Rule) → ys ≡ xs ++ lemma_of s n rule ∷ [] → columns_left k s < m → IsGrown k m ws xs → IsGrown k m ws ys
kept_grown k m ws xs ys s n rule e l g = subst (IsGrown k m ws) (sym e) (grown_trans k m ws xs (xs ++ lemma_of s n rule ∷ []) g (grown_push k m xs (lemma_of s n rule) l))

-- lemmas of other states don't count
best_other : (s : State) (best : ℕ) (xs : List Lemma) → All (λ lemma. lemma.state ≡ s → ⊥) xs → fold (better s) best xs ≡ best
best_other s best [] h = refl
best_other s best (x ∷ xs) h =
    elim (cases_Bool (same_state x.state s)) [
      | inl same ↦ absurd (All-head (λ lemma. lemma.state ≡ s → ⊥) x xs h (same_state_is x.state s same))
      | inr other ↦ let e : better s best x ≡ best = rw other refl in ap (λ b. fold (better s) b xs) e ∙ best_other s best xs (All-tail (λ lemma. lemma.state ≡ s → ⊥) x xs h)
    ]

pub best_unmoved : (k : Kinds) (s : State) (xs ys : List Lemma) → IsGrown k (columns_left k s) xs ys → best_of s ys ≡ best_of s xs
best_unmoved k s xs ys g =
    ap (best_of s) g.is ∙ fold-append (better s) 0 xs g.more ∙ best_other s (best_of s xs) g.more (All-weaker (λ lemma. columns_left k lemma.state < columns_left k s) (λ lemma. lemma.state ≡ s → ⊥) (λ x l e. omega (arith, l, ap (columns_left k) e)) g.more g.below)

-- a lemma's bound is at most the best bound of its state
fold_at : (s : State) (best : ℕ) (xs : List Lemma) (i : ℕ) (d : Lemma) → i < length xs → (get_or xs i d).state ≡ s → (get_or xs i d).bound ≤ fold (better s) best xs
fold_at s best [] i d within e = absurd (omega arith)
fold_at s best (x ∷ xs) zero d within e =
    let same : same_state x.state s ≡ true = subst (λ z. same_state x.state z ≡ true) e (same_state_from x.state x.state refl) in
    let f : better s best x ≡ max best x.bound = rw same refl in
    omega (arith, f, fold_ge s (better s best x) xs)
fold_at s best (x ∷ xs) (suc i) d within e = fold_at s (better s best x) xs i d (omega arith) e

pub distinct_push : (xs : List Lemma) (x : Lemma) → AreDistinct xs → best_of x.state xs < x.bound → AreDistinct (xs ++ x ∷ [])
distinct_push xs x all low i j d less within es eb =
    elim (cases_lt j (length xs)) [
      | inl inside ↦
          let fi : get_or (xs ++ x ∷ []) i d ≡ get_or xs i d = get_or_append_left xs (x ∷ []) d i (omega arith) in
          let fj : get_or (xs ++ x ∷ []) j d ≡ get_or xs j d = get_or_append_left xs (x ∷ []) d j inside in
          all i j d less inside (sym (ap (λ (l : Lemma). l.state) fi) ∙ es ∙ ap (λ (l : Lemma). l.state) fj) (sym (ap (λ (l : Lemma). l.bound) fi) ∙ eb ∙ ap (λ (l : Lemma). l.bound) fj)
      | inr past ↦
          let at : j ≡ length xs = omega (arith, length-append xs (x ∷ []), within) in
          let fi : get_or (xs ++ x ∷ []) i d ≡ get_or xs i d = get_or_append_left xs (x ∷ []) d i (omega arith) in
          let fj : get_or (xs ++ x ∷ []) j d ≡ x = ap (λ (n : ℕ). get_or (xs ++ x ∷ []) n d) at ∙ get_or-append_seam xs x [] d in
          let same : (get_or xs i d).state ≡ x.state = sym (ap (λ (l : Lemma). l.state) fi) ∙ es ∙ ap (λ (l : Lemma). l.state) fj in
          let bounds : (get_or xs i d).bound ≡ x.bound = sym (ap (λ (l : Lemma). l.bound) fi) ∙ eb ∙ ap (λ (l : Lemma). l.bound) fj in
          omega (arith, bounds, low, fold_at x.state 0 xs i d (omega arith) same)
    ]

pub kept_distinct : (xs ys : List Lemma) (s : State) (n : ℕ) (rule : Rule) → ys ≡ xs ++ lemma_of s n rule ∷ [] → AreDistinct xs → best_of s xs < n → AreDistinct ys
kept_distinct xs ys s n rule e all low = subst AreDistinct (sym e) (distinct_push xs (lemma_of s n rule) all low)

pub kept_length : (xs ys : List Lemma) (s : State) (n : ℕ) (rule : Rule) → ys ≡ xs ++ lemma_of s n rule ∷ [] → length ys ≡ length xs + 1
kept_length xs ys s n rule e = omega (arith, ap length e, length-append xs (lemma_of s n rule ∷ []))

-- one lemma more
pub kept_push : (value : Row → State → Kinds → ℕ) (k : Kinds) (xs ys : List Lemma) (s : State) (n : ℕ) (rule : Rule) → ys ≡ xs ++ lemma_of s n rule ∷ [] → AreKept value k xs → IsState k s → RuleReaches value k (λ z. best_of z xs) rule s n → IsLean value k (lemma_of s n rule) → best_of s xs < n → AreKept value k ys
kept_push value k xs ys s n rule e h state reaches lean low =
    record {
      justified = kept_justified value k xs ys s n rule e h.justified state reaches;
      distinct = kept_distinct xs ys s n rule e h.distinct low;
      some = subst (All (λ lemma. 1 ≤ lemma.bound)) (sym e) (All-push (λ (lemma : Lemma). 1 ≤ lemma.bound) xs (lemma_of s n rule) h.some (omega (arith, low)));
      lean = subst (All (IsLean value k)) (sym e) (All-push (IsLean value k) xs (lemma_of s n rule) h.lean lean);
    }

pub kept_none : (value : Row → State → Kinds → ℕ) (k : Kinds) → AreKept value k []
kept_none value k =
    record {
      justified = λ i d within. absurd (omega (arith, within));
      distinct = λ i j d less within es eb. omega (arith, within);
      some = All-nil (λ lemma. 1 ≤ lemma.bound);
      lean = All-nil (IsLean value k);
    }
