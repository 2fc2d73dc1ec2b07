-- Justified lemmas are true: from their states on, every list of choices comes to as many ends.
use Rattle.std.specs.Prelude.{ℕ, zero, suc, ◌≡◌, ◌+◌, ◌-◌, ◌≤◌, ◌==◌, ◌||◌, Bool, true, false, cond, leb, max, List, [], ◌∷◌, ◌++◌, Option, Some, None, All, drop, fold, length, slice_get}
use Rattle.std.specs.List.{list_all, list_any}
use Rattle.std.proofs.Math.Bool.{beq}
use Rattle.std.proofs.Common.{refl, sym, ap, subst, arith, inl, inr}
use Rattle.std.proofs.lemmas.Bool.{and_parts, cases_Bool, eqb-true, leb-true}
use Rattle.std.proofs.lemmas.List.{append-nil, append_assoc}
use Rattle.std.proofs.lemmas.List.Elements.{All-append, All-cons, All-contains, All-head, All-nil, All-tail}
use Rattle.std.proofs.lemmas.Option.{none-some, same_Some}
use Rattle.trail_state.specs.declared.edge.Edge.{Edge}
use Rattle.trail_state.specs.declared.state.Place.{Place}
use Rattle.trail_state.specs.Settling.{ends_after, state_after}
use Rattle.trail_state.specs.declared.level.Level.{Level}
use Rattle.trail_state.specs.Levels.{Ends}
use Rattle.log_lines.proofs.Numbers.{chosen}
use Rattle.trail_check.specs.declared.lemma.TrailLemma.{TrailLemma}
use Rattle.trail_check.specs.Justified.{IsTrueOf, better, choice_reaches, ends_proved, is_justified, is_known, is_start, level_reaches, same_place, same_state, says, unproved}

-- ---- ends

ends_none : (levels : List Level) (s : List Place) → Ends levels s 0
ends_none [] s = refl
ends_none (l ∷ ls) s = λ c within.
    let none : 0 - ends_after l.now l.next s c ≡ 0 = omega arith in
    subst (Ends ls (state_after l.now l.next s c)) (sym none) (ends_none ls (state_after l.now l.next s c))

pub ends_fewer : (levels : List Level) (s : List Place) (a b : ℕ) → Ends levels s b → a ≤ b → Ends levels s a
ends_fewer [] s a b h few = omega (arith, h, few)
ends_fewer (l ∷ ls) s a b h few = λ c within.
    ends_fewer ls (state_after l.now l.next s c) (a - ends_after l.now l.next s c) (b - ends_after l.now l.next s c) (h c within) (omega (arith, few))

ends_max : (levels : List Level) (s : List Place) (a b : ℕ) → Ends levels s a → Ends levels s b → Ends levels s (max a b)
ends_max levels s a b ha hb =
    elim (cases_Bool (leb a b)) [
      | inl on ↦ let le : a ≤ b = leb-true a b on in let is : max a b ≡ b = omega (arith, le) in subst (Ends levels s) (sym is) hb
      | inr off ↦ ends_fewer levels s (max a b) a ha (more a b off)
    ]
  where
    more : (x y : ℕ) → leb x y ≡ false → max x y ≤ x
    more x y off = grind (arith, off)

-- ---- states

flag_is : (a b : Bool) → beq a b ≡ true → a ≡ b
flag_is true true h = refl
flag_is true false h = absurd cc
flag_is false true h = absurd cc
flag_is false false h = refl

place_is : (a b : Place) → same_place a b ≡ true → a ≡ b
place_is a b h =
    let one = and_parts _ _ h in
    let two = and_parts _ _ one.0 in
    let three = and_parts _ _ two.0 in
    let node : a.node.0 ≡ b.node.0 = eqb-true a.node.0 b.node.0 three.0 in
    let class : a.class.0 ≡ b.class.0 = eqb-true a.class.0 b.class.0 three.1 in
    let odd : a.odd ≡ b.odd = flag_is a.odd b.odd two.1 in
    let flagged : a.flagged ≡ b.flagged = flag_is a.flagged b.flagged one.1 in
    λ i. record { node = record { 0 = node i }; class = record { 0 = class i }; odd = odd i; flagged = flagged i }

pub state_is : (a b : List Place) → same_state a b ≡ true → a ≡ b
state_is [] [] h = refl
state_is [] (y ∷ ys) h = absurd cc
state_is (x ∷ xs) [] h = absurd cc
state_is (x ∷ xs) (y ∷ ys) h =
    let both = and_parts _ _ h in
    let first : x ≡ y = place_is x y both.0 in
    let rest : xs ≡ ys = state_is xs ys both.1 in
    λ i. first i ∷ rest i

-- ---- lemmas

said_true : (levels : List Level) (lemma : TrailLemma) (done : ℕ) (s : List Place) (need : ℕ) → IsTrueOf levels lemma → says done s need lemma ≡ true → Ends (drop done levels) s need
said_true levels lemma done s need holds h =
    let one = and_parts _ _ h in
    let two = and_parts _ _ one.0 in
    let gates : lemma.done ≡ done = eqb-true lemma.done done two.0 in
    let state : lemma.state ≡ s = state_is lemma.state s two.1 in
    let few : need ≤ lemma.bound = leb-true need lemma.bound one.1 in
    ends_fewer (drop done levels) s need lemma.bound
    (subst (λ (t : List Place). Ends (drop done levels) t lemma.bound) state (subst (λ (d : ℕ). Ends (drop d levels) lemma.state lemma.bound) gates holds))
    few

pub or_left_off : (a b : Bool) → a ≡ false → (a || b) ≡ true → b ≡ true
or_left_off true b off h = absurd cc
or_left_off false b off h = h

any_true : (levels : List Level) (earlier : List TrailLemma) (done : ℕ) (s : List Place) (need : ℕ) → All (IsTrueOf levels) earlier → list_any (says done s need) earlier ≡ true → Ends (drop done levels) s need
any_true levels [] done s need holds h = absurd cc
any_true levels (x ∷ xs) done s need holds h =
    elim (cases_Bool (says done s need x)) [
      | inl on ↦ said_true levels x done s need (All-head (IsTrueOf levels) x xs holds) on
      | inr off ↦ any_true levels xs done s need (All-tail (IsTrueOf levels) x xs holds) (or_left_off (says done s need x) (list_any (says done s need) xs) off h)
    ]

known_true : (levels : List Level) (earlier : List TrailLemma) (done : ℕ) (s : List Place) (need : ℕ) → All (IsTrueOf levels) earlier → is_known earlier done s need ≡ true → Ends (drop done levels) s need
known_true levels earlier done s need holds h =
    elim (cases_Bool (need == 0)) [
      | inl on ↦ subst (Ends (drop done levels) s) (sym (eqb-true need 0 on)) (ends_none (drop done levels) s)
      | inr off ↦ any_true levels earlier done s need holds (or_left_off (need == 0) (list_any (says done s need) earlier) off h)
    ]

-- each item of a list that passes as a whole
pub passes : {A : Type 0} (p : A → Bool) (xs : List A) → list_all p xs ≡ true → All (λ x. p x ≡ true) xs
passes {A = A} p [] h = All-nil (λ (x : A). p x ≡ true)
passes {A = A} p (x ∷ xs) h = let both = and_parts _ _ h in All-cons (λ (y : A). p y ≡ true) x xs both.0 (passes p xs both.1)

pub level_at : {X : Type 0} (levels : List X) (done : ℕ) (level : X) → slice_get levels done ≡ Some level → drop done levels ≡ level ∷ drop (done + 1) levels
level_at [] done level h = absurd (none-some level h)
level_at {X = X} (l ∷ ls) zero level h = ap (λ (x : X). x ∷ ls) (same_Some l level h)
level_at (l ∷ ls) (suc done) level h = let e : suc done + 1 ≡ suc (done + 1) = omega arith in rw e (level_at ls done level h)

justified_true : (levels : List Level) (earlier : List TrailLemma) (lemma : TrailLemma) → All (IsTrueOf levels) earlier → is_justified levels earlier lemma ≡ true → IsTrueOf levels lemma
justified_true levels earlier lemma holds h = by_level (slice_get levels lemma.done) refl h
  where
    by_level : (o : Option Level) → slice_get levels lemma.done ≡ o → level_reaches earlier lemma o ≡ true → IsTrueOf levels lemma
    by_level None is on = absurd cc
    by_level (Some level) is on =
        subst (λ (ls : List Level). Ends ls lemma.state lemma.bound) (sym (level_at levels lemma.done level is))
        (λ c within.
        known_true levels earlier (lemma.done + 1) (state_after level.now level.next lemma.state c) (lemma.bound - ends_after level.now level.next lemma.state c) holds
        (All-contains (λ (x : List Edge). choice_reaches earlier level lemma x ≡ true) level.choices c (passes (choice_reaches earlier level lemma) level.choices on) within))

sound : (levels : List Level) (earlier lemmas : List TrailLemma) (n : ℕ) → All (IsTrueOf levels) earlier → unproved levels earlier n lemmas ≡ None → All (IsTrueOf levels) (earlier ++ lemmas)
unfolding unproved
sound levels earlier [] n holds h = subst (All (IsTrueOf levels)) (sym (append-nil earlier)) holds
sound levels earlier (x ∷ xs) n holds h =
    elim (chosen (is_justified levels earlier x) _ _ _ h) [
      | inl on ↦
          let more : All (IsTrueOf levels) (earlier ++ x ∷ []) = All-append (IsTrueOf levels) earlier (x ∷ []) holds (All-cons (IsTrueOf levels) x [] (justified_true levels earlier x holds on.0) (All-nil (IsTrueOf levels))) in
          subst (All (IsTrueOf levels)) (append_assoc earlier (x ∷ []) xs) (sound levels (earlier ++ x ∷ []) xs (n + 1) more on.1)
      | inr off ↦ absurd (none-some n (sym off.1))
    ]

-- ---- the state before the first gate

pub no_places : (s : List Place) → (length s == 0) ≡ true → s ≡ []
no_places [] h = refl
no_places (x ∷ xs) h = absurd (omega (arith, eqb-true (length (x ∷ xs)) 0 h))

start_true : (levels : List Level) (lemma : TrailLemma) → IsTrueOf levels lemma → is_start lemma ≡ true → Ends levels [] lemma.bound
start_true levels lemma holds h =
    let both = and_parts _ _ h in
    let gates : lemma.done ≡ 0 = eqb-true lemma.done 0 both.0 in
    let state : lemma.state ≡ [] = no_places lemma.state both.1 in
    subst (λ (t : List Place). Ends levels t lemma.bound) state (subst (λ (d : ℕ). Ends (drop d levels) lemma.state lemma.bound) gates holds)

better_true : (levels : List Level) (most : ℕ) (lemma : TrailLemma) → Ends levels [] most → IsTrueOf levels lemma → Ends levels [] (better most lemma)
better_true levels most lemma so holds =
    elim (cases_Bool (is_start lemma)) [
      | inl on ↦ subst (λ (b : Bool). Ends levels [] (cond b (max most lemma.bound) most)) (sym on) (ends_max levels [] most lemma.bound so (start_true levels lemma holds on))
      | inr off ↦ subst (λ (b : Bool). Ends levels [] (cond b (max most lemma.bound) most)) (sym off) so
    ]

best_true : (levels : List Level) (most : ℕ) (lemmas : List TrailLemma) → Ends levels [] most → All (IsTrueOf levels) lemmas → Ends levels [] (fold better most lemmas)
best_true levels most [] so holds = so
best_true levels most (x ∷ xs) so holds = best_true levels (better most x) xs (better_true levels most x so (All-head (IsTrueOf levels) x xs holds)) (All-tail (IsTrueOf levels) x xs holds)

pub all_true : (levels : List Level) (lemmas : List TrailLemma) (n : ℕ) → unproved levels [] n lemmas ≡ None → All (IsTrueOf levels) lemmas
all_true levels lemmas n h = sound levels [] lemmas n (All-nil (IsTrueOf levels)) h

-- what justified lemmas prove of every list of choices
pub ends_true : (levels : List Level) (lemmas : List TrailLemma) (n : ℕ) → unproved levels [] n lemmas ≡ None → Ends levels [] (ends_proved lemmas)
ends_true levels lemmas n h = best_true levels 0 lemmas (ends_none levels []) (all_true levels lemmas n h)
