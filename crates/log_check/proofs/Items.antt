-- A log checked item by item is checked whole.
use Rattle.std.proofs.Common.{ℕ, zero, suc, ◌≡◌, ◌<◌, ◌+◌, List, [], ◌∷◌, ◌++◌, Option, Some, None, length, take, get_or, inl, inr, refl, sym, ap, subst, arith, ◌∙◌}
use Rattle.std.specs.Prelude.{true, false, option_map}
use Rattle.std.specs.Option.{is_some}
use Rattle.std.proofs.Math.Seq.{take-length}
use Rattle.std.proofs.lemmas.Bool.{cases_lt}
use Rattle.std.proofs.lemmas.List.{append-nil, append_assoc, get_or-append-add, length-append, take-append-le, take_more}
use Rattle.std.proofs.lemmas.List.Sums.{fold-append}
use Rattle.cell_num.specs.declared.finger.Row.{Row}
use Rattle.cell_num.specs.declared.finger.Fingers.{Fingers}
use Rattle.row_state.specs.declared.kind.Kinds.{Kinds}
use Rattle.row_state.specs.declared.state.State.{State}
use Rattle.row_state.specs.Start.{AreKinds, AreSomeKinds, IsState, start_of}
use Rattle.row_state.proofs.Valid.{start_valid}
use Rattle.bound_log.specs.declared.log.Lemma.{Lemma}
use Rattle.bound_log.specs.declared.log.LogStep.{LogStep}
use Rattle.bound_log.specs.declared.log.Best.{Best}
use Rattle.bound_log.specs.declared.log.Log.{Log}
use Rattle.lemma_check.specs.Reaches.{best_of, better, raised}
use Rattle.lemma_check.specs.Known.{best_noted}
use Rattle.log_check.specs.declared.refused.Refused.{Refused}
use Rattle.log_check.specs.declared.refused.Refused.TheVariants as because
use Rattle.log_check.specs.Accepted.{AreJustified, BestPasses, IsAccepted, IsJustified, WithKinds}
use Rattle.log_check.specs.Items.{AreBest, Checked, HasSeen, IsFound, empty_log, more_steps, with_columns, with_gaps, with_lemmas}
use Rattle.log_check.specs.Refusal.{BestRefuses, IsFirstUnjustified, Refuses}
use Rattle.log_check.proofs.Justified.{same_best}
use Rattle.log_check.proofs.SameKinds.{for_kinds}

-- ---- one lemma at the end of a list

front_item : {X : Type 0} (xs ys : List X) (i : ℕ) (d : X) → i < length xs → get_or (xs ++ ys) i d ≡ get_or xs i d
front_item [] ys i d within = absurd (omega (arith, within))
front_item (x ∷ xs) ys zero d within = refl
front_item (x ∷ xs) ys (suc i) d within = front_item xs ys i d (omega (arith, within))

last_item : {X : Type 0} (xs : List X) (x d : X) (i : ℕ) → i ≡ length xs → get_or (xs ++ x ∷ []) i d ≡ x
last_item xs x d i e = ap (λ (n : ℕ). get_or (xs ++ x ∷ []) n d) (omega (arith, e)) ∙ get_or-append-add xs (x ∷ []) 0 d

all_front : {X : Type 0} (xs ys : List X) (i : ℕ) → i ≡ length xs → take i (xs ++ ys) ≡ xs
all_front xs ys i e = ap (λ (n : ℕ). take n (xs ++ ys)) e ∙ (take-append-le (length xs) xs ys (omega arith) ∙ take-length xs)

-- the same lemma behind the same ones
abbrev Follows : (Row → State → Kinds → ℕ) → Kinds → List Lemma → Lemma → Type 0
Follows value k front x = IsJustified value k (λ s. best_of s front) x

moved : (value : Row → State → Kinds → ℕ) (k : Kinds) (front front' : List Lemma) (x x' : Lemma) → front ≡ front' → x ≡ x' → Follows value k front x → Follows value k front' x'
moved value k front front' x x' e f h = subst (λ (y : Lemma). Follows value k front' y) f (subst (λ (l : List Lemma). Follows value k l x) e h)

justified_front : (value : Row → State → Kinds → ℕ) (k : Kinds) (lemmas more : List Lemma) (i : ℕ) (d : Lemma) → i < length lemmas → Follows value k (take i lemmas) (get_or lemmas i d) → Follows value k (take i (lemmas ++ more)) (get_or (lemmas ++ more) i d)
justified_front value k lemmas more i d within h =
    moved value k (take i lemmas) (take i (lemmas ++ more)) (get_or lemmas i d) (get_or (lemmas ++ more) i d) (sym (take-append-le i lemmas more (omega (arith, within)))) (sym (front_item lemmas more i d within)) h

justified_back : (value : Row → State → Kinds → ℕ) (k : Kinds) (lemmas more : List Lemma) (i : ℕ) (d : Lemma) → i < length lemmas → Follows value k (take i (lemmas ++ more)) (get_or (lemmas ++ more) i d) → Follows value k (take i lemmas) (get_or lemmas i d)
justified_back value k lemmas more i d within h =
    moved value k (take i (lemmas ++ more)) (take i lemmas) (get_or (lemmas ++ more) i d) (get_or lemmas i d) (take-append-le i lemmas more (omega (arith, within))) (front_item lemmas more i d within) h

justified_last : (value : Row → State → Kinds → ℕ) (k : Kinds) (lemmas : List Lemma) (x d : Lemma) (i : ℕ) (best : State → ℕ) → AreSomeKinds k → AreBest k best lemmas → i ≡ length lemmas → IsJustified value k best x → Follows value k (take i (lemmas ++ x ∷ [])) (get_or (lemmas ++ x ∷ []) i d)
justified_last value k lemmas x d i best some known e h =
    moved value k lemmas (take i (lemmas ++ x ∷ [])) x (get_or (lemmas ++ x ∷ []) i d) (sym (all_front lemmas (x ∷ []) i e)) (sym (last_item lemmas x d i e)) (same_best value k x best (λ s. best_of s lemmas) some known h)

unjustified_last : (value : Row → State → Kinds → ℕ) (k : Kinds) (lemmas : List Lemma) (x d : Lemma) (best : State → ℕ) → AreSomeKinds k → AreBest k best lemmas → Follows value k (take (length lemmas) (lemmas ++ x ∷ [])) (get_or (lemmas ++ x ∷ []) (length lemmas) d) → IsJustified value k best x
unjustified_last value k lemmas x d best some known h =
    let own : Follows value k lemmas x = moved value k (take (length lemmas) (lemmas ++ x ∷ [])) lemmas (get_or (lemmas ++ x ∷ []) (length lemmas) d) x (all_front lemmas (x ∷ []) (length lemmas) refl) (last_item lemmas x d (length lemmas) refl) h in
    same_best value k x (λ s. best_of s lemmas) best some (λ s state. sym (known s state)) own

pub are_justified_more : (value : Row → State → Kinds → ℕ) (k : Kinds) (lemmas : List Lemma) (x : Lemma) (best : State → ℕ) → AreSomeKinds k → AreJustified value k lemmas → AreBest k best lemmas → IsJustified value k best x → AreJustified value k (lemmas ++ x ∷ [])
are_justified_more value k lemmas x best some all known h i d within =
    elim (cases_lt i (length lemmas)) [
      | inl less ↦ justified_front value k lemmas (x ∷ []) i d less (all i d less)
      | inr more ↦ justified_last value k lemmas x d i best some known (omega (arith, more, within, length-append lemmas (x ∷ []))) h
    ]

pub are_best_more : (k : Kinds) (lemmas : List Lemma) (x : Lemma) (best new : State → ℕ) → AreBest k best lemmas → ((s : State) → IsState k s → new s ≡ raised x.state x.bound s (best s)) → AreBest k new (lemmas ++ x ∷ [])
are_best_more k lemmas x best new known noted s state =
    noted s state ∙ (ap (λ b. raised x.state x.bound s b) (known s state) ∙ sym (fold-append (better s) 0 lemmas (x ∷ [])))

pub first_unjustified : (value : Row → State → Kinds → ℕ) (k : Kinds) (lemmas : List Lemma) (x : Lemma) (best : State → ℕ) → AreSomeKinds k → AreJustified value k lemmas → AreBest k best lemmas → (IsJustified value k best x → ⊥) → IsFirstUnjustified value k (lemmas ++ x ∷ []) (length lemmas)
first_unjustified value k lemmas x best some all known wrong =
    record {
      within = omega (arith, length-append lemmas (x ∷ []));
      before = λ i d less. justified_front value k lemmas (x ∷ []) i d less (all i d less);
      unproved = λ d h. wrong (unjustified_last value k lemmas x d best some known h);
    }

still_unjustified : (value : Row → State → Kinds → ℕ) (k : Kinds) (lemmas : List Lemma) (x : Lemma) (at : ℕ) → IsFirstUnjustified value k lemmas at → IsFirstUnjustified value k (lemmas ++ x ∷ []) at
still_unjustified value k lemmas x at h =
    record {
      within = omega (arith, h.within, length-append lemmas (x ∷ []));
      before = λ i d less. justified_front value k lemmas (x ∷ []) i d (omega (arith, less, h.within)) (h.before i d less);
      unproved = λ d j. h.unproved d (justified_back value k lemmas (x ∷ []) at d h.within j);
    }

one_longer : (lemmas : List Lemma) (x : Lemma) (n : ℕ) → n ≡ length lemmas → n + 1 ≡ length (lemmas ++ x ∷ [])
one_longer lemmas x n e = omega (arith, e, length-append lemmas (x ∷ []))

-- ---- a checker

abbrev pub checked : ℕ → Fingers → Kinds → List (ℕ × ℕ) → ℕ → Option ℕ → Option Best → Checked
checked v f k known n unproved row = record { version = v; fingers = f; kinds = k; known = known; lemmas = n; unproved = unproved; row = row }

-- nothing yet
pub seen_none : (value : Row → State → Kinds → ℕ) (v : ℕ) (f : Fingers) (k : Kinds) (known : List (ℕ × ℕ)) → ((k : Kinds) (s : State) → best_noted known k s ≡ 0) → HasSeen value (checked v f k known 0 None None) (empty_log v)
seen_none value v f k known none =
    record { version = refl; counted = refl; found = (λ i d within. absurd (omega (arith, within)), λ s state. none k s); row = refl }

-- behind the first lemma that was not justified
more_refused : (value : Row → State → Kinds → ℕ) (v : ℕ) (f : Fingers) (k : Kinds) (known : List (ℕ × ℕ)) (n : ℕ) (unproved : Option ℕ) (row : Option Best) (lemmas : List Lemma) (x : Lemma) → is_some unproved ≡ true → IsFound value (checked v f k known n unproved row) unproved lemmas → IsFound value (checked v f k known (n + 1) unproved row) unproved (lemmas ++ x ∷ [])
more_refused value v f k known n None row lemmas x is found = absurd cc
more_refused value v f k known n (Some line) row lemmas x is found = (found.0, still_unjustified value k lemmas x found.0 found.1, found.2)

pub seen_unproved : (value : Row → State → Kinds → ℕ) (c : Checked) (v : ℕ) (f : Fingers) (k : Kinds) (known : List (ℕ × ℕ)) (n : ℕ) (unproved : Option ℕ) (row : Option Best) (log : Log) (x : Lemma) → c ≡ checked v f k known n unproved row → is_some unproved ≡ true → HasSeen value c log → HasSeen value (checked v f k known (n + 1) unproved row) (with_lemmas log (x ∷ []))
seen_unproved value c v f k known n unproved row log x same is seen =
    let h : HasSeen value (checked v f k known n unproved row) log = subst (λ (d : Checked). HasSeen value d log) same seen in
    record { version = h.version; counted = one_longer log.lemmas x n h.counted; found = more_refused value v f k known n unproved row log.lemmas x is h.found; row = h.row }

none_is : {X : Type 0} (o : Option X) → is_some o ≡ false → o ≡ None
none_is None h = refl
none_is (Some x) h = absurd cc

-- where all were justified so far
all_right : (value : Row → State → Kinds → ℕ) (v : ℕ) (f : Fingers) (k : Kinds) (known : List (ℕ × ℕ)) (n : ℕ) (unproved : Option ℕ) (row : Option Best) (lemmas : List Lemma) → is_some unproved ≡ false → IsFound value (checked v f k known n unproved row) unproved lemmas → AreJustified value k lemmas × AreBest k (best_noted known k) lemmas
all_right value v f k known n None row lemmas is found = found
all_right value v f k known n (Some line) row lemmas is found = absurd cc

-- the first lemma that is not justified
pub seen_refused : (value : Row → State → Kinds → ℕ) (c : Checked) (v : ℕ) (f : Fingers) (k : Kinds) (known : List (ℕ × ℕ)) (n : ℕ) (unproved : Option ℕ) (row : Option Best) (log : Log) (x : Lemma) → c ≡ checked v f k known n unproved row → is_some unproved ≡ false → AreSomeKinds k → (IsJustified value k (best_noted known k) x → ⊥) → HasSeen value c log → HasSeen value (checked v f k known (n + 1) (Some (n + 3)) row) (with_lemmas log (x ∷ []))
seen_refused value c v f k known n unproved row log x same is some wrong seen =
    let h : HasSeen value (checked v f k known n unproved row) log = subst (λ (d : Checked). HasSeen value d log) same seen in
    let found = all_right value v f k known n unproved row log.lemmas is h.found in
    record {
      version = h.version;
      counted = one_longer log.lemmas x n h.counted;
      found = (length log.lemmas, first_unjustified value k log.lemmas x (best_noted known k) some found.0 found.1 wrong, omega (arith, h.counted));
      row = h.row;
    }

-- a lemma that is justified
pub seen_more : (value : Row → State → Kinds → ℕ) (c : Checked) (v : ℕ) (f : Fingers) (k : Kinds) (known new : List (ℕ × ℕ)) (n : ℕ) (unproved : Option ℕ) (row : Option Best) (log : Log) (x : Lemma) → c ≡ checked v f k known n unproved row → is_some unproved ≡ false → AreSomeKinds k → IsJustified value k (best_noted known k) x → ((s : State) → IsState k s → best_noted new k s ≡ raised x.state x.bound s (best_noted known k s)) → HasSeen value c log → HasSeen value (checked v f k new (n + 1) unproved row) (with_lemmas log (x ∷ []))
seen_more value c v f k known new n unproved row log x same is some right noted seen =
    let h : HasSeen value (checked v f k known n unproved row) log = subst (λ (d : Checked). HasSeen value d log) same seen in
    let found = all_right value v f k known n unproved row log.lemmas is h.found in
    record {
      version = h.version;
      counted = one_longer log.lemmas x n h.counted;
      found = subst (λ (o : Option ℕ). IsFound value (checked v f k new (n + 1) unproved row) o (log.lemmas ++ x ∷ [])) (sym (none_is unproved is))
          (are_justified_more value k log.lemmas x (best_noted known k) some found.0 found.1 right, are_best_more k log.lemmas x (best_noted known k) (best_noted new k) found.1 noted);
      row = h.row;
    }

-- the state of a lemma that is valid for all kinds of the fingers
pub valid_here : (c : Checked) (v : ℕ) (f : Fingers) (k : Kinds) (known : List (ℕ × ℕ)) (n : ℕ) (unproved : Option ℕ) (row : Option Best) (s : State) → c ≡ checked v f k known n unproved row → AreKinds f k → AreSomeKinds k → WithKinds c.fingers (λ j. IsState j s) → IsState k s
valid_here c v f k known n unproved row s same of_k some valid = by_kinds (subst (λ (d : Checked). WithKinds d.fingers (λ j. IsState j s)) same valid)
  where
    by_kinds : WithKinds f (λ j. IsState j s) → IsState k s
    by_kinds (j, of_j, some_j, here) = for_kinds f j (λ i. IsState i s) of_j some_j here k of_k some

-- the kinds of the checker's fingers, where a state is valid for them
pub valid_for : (c : Checked) (v : ℕ) (f : Fingers) (k : Kinds) (known : List (ℕ × ℕ)) (n : ℕ) (unproved : Option ℕ) (row : Option Best) (s t : State) → c ≡ checked v f k known n unproved row → AreKinds f k → AreSomeKinds k → IsState k s → t ≡ s → WithKinds c.fingers (λ j. IsState j t)
valid_for c v f k known n unproved row s t same of_k some valid is = subst (λ (d : Checked). WithKinds d.fingers (λ j. IsState j t)) (sym same) (k, of_k, some, subst (IsState k) (sym is) valid)

-- ---- columns

same_found : (value : Row → State → Kinds → ℕ) (v : ℕ) (f : Fingers) (k : Kinds) (known : List (ℕ × ℕ)) (n : ℕ) (unproved : Option ℕ) (row new : Option Best) (lemmas : List Lemma) → IsFound value (checked v f k known n unproved row) unproved lemmas → IsFound value (checked v f k known n unproved new) unproved lemmas
same_found value v f k known n None row new lemmas h = h
same_found value v f k known n (Some line) row new lemmas h = h

pub seen_gaps : (value : Row → State → Kinds → ℕ) (c : Checked) (v : ℕ) (f : Fingers) (k : Kinds) (known : List (ℕ × ℕ)) (n : ℕ) (unproved : Option ℕ) (row : Option Best) (log : Log) (gaps : ℕ) → c ≡ checked v f k known n unproved row → HasSeen value c log → HasSeen value (checked v f k known n unproved (Some (record { gaps = gaps; steps = [] }))) (with_gaps log gaps)
seen_gaps value c v f k known n unproved row log gaps same seen =
    let h : HasSeen value (checked v f k known n unproved row) log = subst (λ (d : Checked). HasSeen value d log) same seen in
    record { version = h.version; counted = h.counted; found = same_found value v f k known n unproved row (Some (record { gaps = gaps; steps = [] })) log.lemmas h.found; row = refl }

pub seen_columns : (value : Row → State → Kinds → ℕ) (c : Checked) (v : ℕ) (f : Fingers) (k : Kinds) (known : List (ℕ × ℕ)) (n : ℕ) (unproved : Option ℕ) (row new : Option Best) (log : Log) (steps : List LogStep) → c ≡ checked v f k known n unproved row → new ≡ option_map (more_steps steps) row → HasSeen value c log → HasSeen value (checked v f k known n unproved new) (with_columns log steps)
seen_columns value c v f k known n unproved row new log steps same is seen =
    let h : HasSeen value (checked v f k known n unproved row) log = subst (λ (d : Checked). HasSeen value d log) same seen in
    record { version = h.version; counted = h.counted; found = same_found value v f k known n unproved row new log.lemmas h.found; row = is ∙ ap (option_map (more_steps steps)) h.row }

-- ---- the end

pub answer_unproved : (value : Row → State → Kinds → ℕ) (c : Checked) (line : ℕ) (log : Log) → c.unproved ≡ Some line → HasSeen value c log → Refuses value c.kinds c.fingers log (because.Unproved line)
answer_unproved value c line log is h = subst (λ (o : Option ℕ). IsFound value c o log.lemmas) is h.found

found_all : (value : Row → State → Kinds → ℕ) (c : Checked) (log : Log) → c.unproved ≡ None → HasSeen value c log → AreJustified value c.kinds log.lemmas × AreBest c.kinds (best_noted c.known c.kinds) log.lemmas
found_all value c log none h = subst (λ (o : Option ℕ). IsFound value c o log.lemmas) none h.found

pub answer_accepted : (value : Row → State → Kinds → ℕ) (c : Checked) (least gaps : ℕ) (log : Log) → c.unproved ≡ None → IsState c.kinds (start_of c.kinds) → least ≡ best_noted c.known c.kinds (start_of c.kinds) → BestPasses c.kinds c.fingers least c.row gaps → HasSeen value c log → IsAccepted value c.kinds c.fingers log gaps
answer_accepted value c least gaps log none start is passes h =
    let found = found_all value c log none h in
    record {
      justified = found.0;
      passes = subst (λ (row : Option Best). BestPasses c.kinds c.fingers (best_of (start_of c.kinds) log.lemmas) row gaps) h.row (subst (λ (n : ℕ). BestPasses c.kinds c.fingers n c.row gaps) (is ∙ found.1 (start_of c.kinds) start) passes);
    }

from_best : (value : Row → State → Kinds → ℕ) (k : Kinds) (f : Fingers) (log : Log) (fault : Refused) → AreJustified value k log.lemmas → BestRefuses k f (best_of (start_of k) log.lemmas) log.best fault → Refuses value k f log fault
from_best value k f log (because.Unproved line) all h = absurd (no_line log.best h)
  where
    no_line : (row : Option Best) → BestRefuses k f (best_of (start_of k) log.lemmas) row (because.Unproved line) → ⊥
    no_line None h = h
    no_line (Some row) h = h
from_best value k f log (because.NoRow proved) all h = (all, h)
from_best value k f log because.NotArrangement all h = (all, h)
from_best value k f log (because.Gaps said counted) all h = (all, h)
from_best value k f log (because.NotLeast proved said) all h = (all, h)
from_best value k f log because.NoMemory all h = tt

pub answer_refused : (value : Row → State → Kinds → ℕ) (c : Checked) (v : ℕ) (f : Fingers) (k : Kinds) (known : List (ℕ × ℕ)) (n : ℕ) (unproved : Option ℕ) (row : Option Best) (least : ℕ) (fault : Refused) (log : Log) → c ≡ checked v f k known n unproved row → unproved ≡ None → least ≡ best_noted known k (start_of k) → BestRefuses k f least row fault → HasSeen value c log → Refuses value c.kinds c.fingers log fault
answer_refused value c v f k known n unproved row least fault log same none is refuses seen =
    subst (λ (d : Checked). Refuses value d.kinds d.fingers log fault) (sym same) (by_row (subst (λ (d : Checked). HasSeen value d log) same seen))
  where
    by_row : HasSeen value (checked v f k known n unproved row) log → Refuses value k f log fault
    by_row h =
        let found = found_all value (checked v f k known n unproved row) log none h in
        from_best value k f log fault found.0
        (subst (λ (row : Option Best). BestRefuses k f (best_of (start_of k) log.lemmas) row fault) h.row (subst (λ (n : ℕ). BestRefuses k f n row fault) (is ∙ found.1 (start_of k) (start_valid k)) refuses))

-- ---- one item after the other

pub lemmas_again : (log : Log) (lemmas : List Lemma) (at : ℕ) (x : Lemma) → x ≡ get_or lemmas at x → at < length lemmas → with_lemmas (with_lemmas log (take at lemmas)) (x ∷ []) ≡ with_lemmas log (take (at + 1) lemmas)
lemmas_again log lemmas at x is within =
    ap (λ (all : List Lemma). record { version = log.version; lemmas = all; best = log.best })
    (append_assoc log.lemmas (take at lemmas) (x ∷ []) ∙ (ap (λ (y : Lemma). log.lemmas ++ (take at lemmas ++ y ∷ [])) is ∙ ap (λ (all : List Lemma). log.lemmas ++ all) (sym (take_more lemmas at x within))))

row_again : (row : Option Best) (steps : List LogStep) (at : ℕ) (d : LogStep) → at < length steps → option_map (more_steps (get_or steps at d ∷ [])) (option_map (more_steps (take at steps)) row) ≡ option_map (more_steps (take (at + 1) steps)) row
row_again None steps at d within = refl
row_again (Some row) steps at d within =
    ap (λ (all : List LogStep). Some (record { gaps = row.gaps; steps = all }))
    (append_assoc row.steps (take at steps) (get_or steps at d ∷ []) ∙ ap (λ (all : List LogStep). row.steps ++ all) (sym (take_more steps at d within)))

pub columns_again : (log : Log) (steps : List LogStep) (at : ℕ) (d : LogStep) → at < length steps → with_columns (with_columns log (take at steps)) (get_or steps at d ∷ []) ≡ with_columns log (take (at + 1) steps)
columns_again log steps at d within = ap (λ (row : Option Best). record { version = log.version; lemmas = log.lemmas; best = row }) (row_again log.best steps at d within)

no_steps : (row : Option Best) → option_map (more_steps []) row ≡ row
no_steps None = refl
no_steps (Some row) = ap (λ (all : List LogStep). Some (record { gaps = row.gaps; steps = all })) (append-nil row.steps)

pub no_columns : (log : Log) → with_columns log [] ≡ log
no_columns log = ap (λ (row : Option Best). record { version = log.version; lemmas = log.lemmas; best = row }) (no_steps log.best)

pub no_lemmas : (log : Log) → with_lemmas log [] ≡ log
no_lemmas log = ap (λ (all : List Lemma). record { version = log.version; lemmas = all; best = log.best }) (append-nil log.lemmas)
