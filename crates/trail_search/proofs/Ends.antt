-- Which numbers of ends the choices come to: what is found is few enough, and what is refuted is proved.
use Rattle.std.specs.Prelude.{ℕ, zero, suc, ◌≡◌, ◌+◌, ◌-◌, ◌*◌, ◌/◌, ◌<◌, ◌≤◌, ◌==◌, ◌||◌, Bool, true, false, cond, max, nat_lt, List, [], ◌∷◌, ◌++◌, Some, None, Contains, drop, fold, length, slice_get}
use Rattle.std.specs.List.{list_any}
use Rattle.std.proofs.Common.{refl, sym, ap, subst, arith, inl, inr}
use Rattle.std.proofs.lemmas.Bool.{and_from, and_parts, cases_Bool, eq-eqb, leb-true}
use Rattle.std.proofs.lemmas.List.Sums.{fold-append}
use Rattle.std.proofs.lemmas.Option.{none-some, same_Some}
use Rattle.cell_num.specs.declared.finger.Fingers.{Fingers}
use Rattle.cell_num.specs.declared.net.NetNo.{NetNo}
use Rattle.trail_state.specs.declared.edge.Edge.{Edge}
use Rattle.trail_state.specs.declared.state.Place.{Place}
use Rattle.trail_state.specs.Settling.{ends_after, state_after}
use Rattle.trail_state.specs.declared.level.Level.{Level}
use Rattle.trail_state.specs.Levels.{Ends, IsOrder}
use Rattle.trail_check.specs.declared.lemma.TrailLemma.{TrailLemma}
use Rattle.trail_check.specs.Justified.{better, ends_proved, gaps_proved, is_known, is_start, says}
use Rattle.open_gates.specs.Leveled.{levels_of}
use Rattle.trail_check.proofs.Sound.{state_is}
use Rattle.trail_search.specs.declared.kept.Kept.{Kept}
use Rattle.trail_search.specs.Proof.{HasMost, IsMostOf}
use Rattle.trail_search.specs.Search.{IsFurther}
use Rattle.trail_search.proofs.Grown.{IsChoice}

-- ---- what is found

ends_fewer : (levels : List Level) (s : List Place) (a b : ℕ) → Ends levels s b → a ≤ b → Ends levels s a
ends_fewer [] s a b h few = omega (arith, h, few)
ends_fewer (l ∷ ls) s a b h few = λ c within.
    ends_fewer ls (state_after l.now l.next s c) (a - ends_after l.now l.next s c) (b - ends_after l.now l.next s c) (h c within) (omega (arith, few))

pub level_at : (levels : List Level) (done : ℕ) (level : Level) → slice_get levels done ≡ Some level → drop done levels ≡ level ∷ drop (done + 1) levels
level_at [] done level h = absurd (none-some level h)
level_at (l ∷ ls) zero level h = ap (λ (x : Level). x ∷ ls) (same_Some l level h)
level_at (l ∷ ls) (suc done) level h = let e : suc done + 1 ≡ suc (done + 1) = omega arith in rw e (level_at ls done level h)

none_left : (levels : List Level) (done : ℕ) → slice_get levels done ≡ None → drop done levels ≡ []
none_left [] zero h = refl
none_left [] (suc done) h = refl
none_left (l ∷ ls) zero h = absurd cc
none_left (l ∷ ls) (suc done) h = none_left ls done h

-- behind the last gate no end comes
pub leaf_open : (levels : List Level) (done : ℕ) (s : List Place) (allowed : ℕ) → slice_get levels done ≡ None → Ends (drop done levels) s (allowed + 1) → ⊥
leaf_open levels done s allowed h all =
    let none : allowed + 1 ≡ 0 = subst (λ (ls : List Level). Ends ls s (allowed + 1)) (none_left levels done h) all in
    omega (arith, none)

-- few enough ends come behind a choice
pub choice_open : (levels : List Level) (level : Level) (done : ℕ) (s after : List Place) (allowed ends : ℕ) (choices : List (List Edge)) (i : ℕ) → slice_get levels done ≡ Some level → choices ≡ level.choices → IsChoice level s choices i after ends → ends ≤ allowed → (Ends (drop (done + 1) levels) after (allowed - ends + 1) → ⊥) → Ends (drop done levels) s (allowed + 1) → ⊥
choice_open levels level done s after allowed ends choices i at same h few behind all =
    let each : Ends (level ∷ drop (done + 1) levels) s (allowed + 1) = subst (λ (ls : List Level). Ends ls s (allowed + 1)) (level_at levels done level at) all in
    let there : Contains level.choices h.choice = subst (λ (cs : List (List Edge)). Contains cs h.choice) same (i, h.within, sym h.is) in
    let need : allowed + 1 - ends_after level.now level.next s h.choice ≡ allowed - ends + 1 = omega (arith, h.count, few) in
    behind (subst (λ (t : List Place). Ends (drop (done + 1) levels) t (allowed - ends + 1)) (sym h.state)
    (subst (Ends (drop (done + 1) levels) (state_after level.now level.next s h.choice)) need (each h.choice there)))

-- ---- what is refuted

better_more : (most : ℕ) (x : TrailLemma) → most ≤ better most x
better_more most x = by_start (is_start x)
  where
    by_start : (b : Bool) → most ≤ cond b (max most x.bound) most
    by_start true = omega arith
    by_start false = omega arith

best_more : (most : ℕ) (xs : List TrailLemma) → most ≤ fold better most xs
best_more most [] = omega arith
best_more most (x ∷ xs) = omega (arith, better_more most x, best_more (better most x) xs)

or_else : (a b : Bool) → a ≡ false → (a || b) ≡ true → b ≡ true
or_else true b off h = absurd cc
or_else false b off h = h

said_best : (most need : ℕ) (x : TrailLemma) → says 0 [] need x ≡ true → need ≤ better most x
said_best most need x h =
    let one = and_parts _ _ h in
    let two = and_parts _ _ one.0 in
    let empty : (length x.state == 0) ≡ true = eq-eqb (length x.state) 0 (ap length (state_is x.state [] two.1)) in
    let start : is_start x ≡ true = and_from (x.done == 0) (length x.state == 0) two.0 empty in
    let few : need ≤ x.bound = leb-true need x.bound one.1 in
    let is : better most x ≡ max most x.bound = ap (λ (b : Bool). cond b (max most x.bound) most) start in
    omega (arith, few, is)

any_best : (most need : ℕ) (xs : List TrailLemma) → list_any (says 0 [] need) xs ≡ true → need ≤ fold better most xs
any_best most need [] h = absurd cc
any_best most need (x ∷ xs) h =
    elim (cases_Bool (says 0 [] need x)) [
      | inl on ↦ omega (arith, said_best most need x on, best_more (better most x) xs)
      | inr off ↦ any_best (better most x) need xs (or_else (says 0 [] need x) (list_any (says 0 [] need) xs) off h)
    ]

-- what is known of the state before the first gate is proved
pub known_proved : (lemmas : List TrailLemma) (need : ℕ) → is_known lemmas 0 [] (need + 1) ≡ true → need + 1 ≤ ends_proved lemmas
known_proved lemmas need h = any_best 0 (need + 1) lemmas (or_else (need + 1 == 0) (list_any (says 0 [] (need + 1)) lemmas) (some need) h)
  where
    some : (n : ℕ) → (n + 1 == 0) ≡ false
    some n = grind arith

-- a limit that is refuted
pub refutes : (lemmas : List TrailLemma) (s : List Place) (limit ends : ℕ) → s ≡ [] → ends ≡ 2 * (limit + 1) → is_known lemmas 0 s (ends + 1) ≡ true → limit < gaps_proved (ends_proved lemmas)
refutes lemmas s limit ends none is known =
    let most : ends + 1 ≤ ends_proved lemmas = known_proved lemmas ends (subst (λ (t : List Place). is_known lemmas 0 t (ends + 1) ≡ true) none known) in
    below (ends_proved lemmas) (omega (arith, is, most))
  where
    below : (n : ℕ) → 2 * (limit + 1) + 1 ≤ n → limit < (n - 1) / 2
    below n l = omega (arith, l)

-- one that is not
pub not_refuted : (levels : List Level) (s : List Place) (limit ends : ℕ) → s ≡ [] → ends ≡ 2 * (limit + 1) → (Ends (drop 0 levels) s (ends + 1) → ⊥) → Ends levels [] (2 * (limit + 1) + 1) → ⊥
not_refuted levels s limit ends none is few all =
    few (subst (λ (t : List Place). Ends levels t (ends + 1)) (sym none) (subst (λ (n : ℕ). Ends levels [] (n + 1)) (sym is) all))

gaps_more : (a b : List TrailLemma) → gaps_proved (ends_proved a) ≤ gaps_proved (ends_proved (a ++ b))
gaps_more a b =
    let more : ends_proved a ≤ ends_proved (a ++ b) = subst (λ (n : ℕ). ends_proved a ≤ n) (sym (fold-append better 0 a b)) (best_more (ends_proved a) b) in
    halved (ends_proved a) (ends_proved (a ++ b)) more
  where
    halved : (m n : ℕ) → m ≤ n → (m - 1) / 2 ≤ (n - 1) / 2
    halved m n l = omega (arith, l)

-- what is proved is no less where more lemmas are kept
pub limit_least : (levels : List Level) (a b : Kept) (limit : ℕ) → IsFurther levels a b → limit ≤ gaps_proved (ends_proved a.lemmas) → limit ≤ gaps_proved (ends_proved b.lemmas)
limit_least levels a b limit g reached =
    let more : gaps_proved (ends_proved a.lemmas) ≤ gaps_proved (ends_proved b.lemmas) = subst (λ (ls : List TrailLemma). gaps_proved (ends_proved a.lemmas) ≤ gaps_proved (ends_proved ls)) (sym g.grown) (gaps_more a.lemmas g.more) in
    omega (arith, reached, more)

-- the first limit that is not refuted is the most that can be proved
pub limit_most : (levels : List Level) (a b : Kept) (s : List Place) (limit ends : ℕ) → IsFurther levels a b → limit ≤ gaps_proved (ends_proved a.lemmas) → s ≡ [] → ends ≡ 2 * (limit + 1) → (Ends (drop 0 levels) s (ends + 1) → ⊥) → Ends levels [] (2 * (gaps_proved (ends_proved b.lemmas) + 1) + 1) → ⊥
limit_most levels a b s limit ends g reached none is few all =
    not_refuted levels s limit ends none is few (ends_fewer levels [] (2 * (limit + 1) + 1) (2 * (gaps_proved (ends_proved b.lemmas) + 1) + 1) all (omega (arith, limit_least levels a b limit g reached)))

pub most_is : (levels others : List Level) (gaps proved : ℕ) → levels ≡ others → gaps ≡ proved → (Ends levels [] (2 * (proved + 1) + 1) → ⊥) → IsMostOf others gaps
most_is levels others gaps proved same is few all =
    few (subst (λ (ls : List Level). Ends ls [] (2 * (proved + 1) + 1)) (sym same) (subst (λ (n : ℕ). Ends others [] (2 * (n + 1) + 1)) is all))

-- a limit that is not refuted
pub has_most : (f : Fingers) (order : List NetNo) (levels : List Level) (lemmas : List TrailLemma) (s : List Place)
    (limit ends gaps : ℕ) (found : Bool) → IsOrder f order → levels ≡ levels_of f order → s ≡ [] →
    ends ≡ 2 * (limit + 1) → gaps ≡ gaps_proved (ends_proved lemmas) →
    (found ≡ false → is_known lemmas 0 s (ends + 1) ≡ true) → (found ≡ true → Ends (drop 0 levels) s (ends + 1) → ⊥) →
    nat_lt limit gaps ≡ false → HasMost f limit
has_most f order levels lemmas s limit ends gaps true is same none e count failed few not = (order, is, most_is levels (levels_of f order) limit limit same refl (not_refuted levels s limit ends none e (few refl)))
has_most f order levels lemmas s limit ends gaps false is same none e count failed few not = absurd (above limit gaps not (omega (arith, count, refutes lemmas s limit ends none e (failed refl))))
  where
    above : (a b : ℕ) → nat_lt a b ≡ false → a < b → ⊥
    above a b off l = grind (arith, off, l)
