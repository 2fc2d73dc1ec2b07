-- Walks that come back to a key, and the cycle from their least key on.
use Rattle.std.proofs.Common.{ℕ, suc, ◌≡◌, ◌≢◌, ◌+◌, ◌<◌, ◌≤◌, ◌++◌, ◌==◌, not, Bool, true, false, cond, List, [], ◌∷◌, length, take, drop, get_or, inl, inr, refl, sym, subst, arith, All, Contains, count_by, append-nil, take_all, length-drop, ◌-◌}
use Rattle.std.proofs.Math.Seq.{drop-cons}
use Rattle.std.proofs.lemmas.List.{take-append-drop}
use Rattle.std.proofs.lemmas.Bool.{cases_order, eq-eqb, eqb-true}
use Rattle.std.proofs.lemmas.List.Elements.{All-contains, All-more, All-weaker, Contains-append_left, Contains-append_right, Contains-append_cases, Contains-push, Contains-get_or}
use Rattle.std.proofs.lemmas.List.Sums.{sum_by-append}
use Rattle.std.proofs.lemmas.List.Sorted.{IsPermutation-append_comm}
use Rattle.cell_num.proofs.Lists.{contains_here, contains_there, all_from_contains}
use Rattle.channel_route.specs.declared.wire.Wire.{Wire}
use Rattle.channel_route.specs.declared.constraint.Constraint.{Constraint}
use Rattle.channel_route.specs.Walk.{Entries, next_key, IsWalk, ComesTo, IsKeyCycleBelow}
use Rattle.channel_route.specs.Graph.{has_key, waits}
use Rattle.channel_route.specs.Turn.{waits_at, passes, IsTurn}
use Rattle.channel_route.proofs.Counts.{count_less}
use Rattle.cell_num.proofs.Pairs.{Some', test_finds, test_there, OneEach, one_each_permutation, parts_differ, pairs_differ}

-- one more step of a walk
pub walk_push : {X : Type 0} (named : Entries X) (Over : ℕ → ℕ → ℕ → Type 0) (path : List X) (a : X) (next : ℕ) → IsWalk named Over path (named.key a) → Over (named.key a) next (named.line a) → IsWalk named Over (path ++ a ∷ []) next
walk_push named Over [] a next h over = (over, tt)
walk_push named Over (x ∷ []) a next h over = (h.0, (over, tt))
walk_push named Over (x ∷ y ∷ more) a next h over = (h.0, walk_push named Over (y ∷ more) a next h.1 over)

-- a walk in two parts
pub walk_behind : {X : Type 0} (named : Entries X) (Over : ℕ → ℕ → ℕ → Type 0) (xs ys : List X) (back : ℕ) → IsWalk named Over (xs ++ ys) back → IsWalk named Over ys back
walk_behind named Over [] ys back h = h
walk_behind named Over (x ∷ xs) ys back h = walk_behind named Over xs ys back h.1

pub walk_before : {X : Type 0} (named : Entries X) (Over : ℕ → ℕ → ℕ → Type 0) (xs : List X) (y : X) (ys : List X) (back : ℕ) → IsWalk named Over (xs ++ y ∷ ys) back → IsWalk named Over xs (named.key y)
walk_before named Over [] y ys back h = tt
walk_before named Over (x ∷ []) y ys back h = (h.0, tt)
walk_before named Over (x ∷ z ∷ more) y ys back h = (h.0, walk_before named Over (z ∷ more) y ys back h.1)

pub walk_join : {X : Type 0} (named : Entries X) (Over : ℕ → ℕ → ℕ → Type 0) (xs : List X) (y : X) (ys : List X) (back : ℕ) → IsWalk named Over xs (named.key y) → IsWalk named Over (y ∷ ys) back → IsWalk named Over (xs ++ y ∷ ys) back
walk_join named Over [] y ys back before behind = behind
walk_join named Over (x ∷ []) y ys back before behind = (before.0, behind)
walk_join named Over (x ∷ z ∷ more) y ys back before behind = (before.0, walk_join named Over (z ∷ more) y ys back before.1 behind)

-- where a longer walk begins
begins_push : {X : Type 0} (named : Entries X) (path : List X) (a : X) (next : ℕ) → next_key named (path ++ a ∷ []) next ≡ next_key named path (named.key a)
begins_push named [] a next = refl
begins_push named (x ∷ xs) a next = refl

begins_join : {X : Type 0} (named : Entries X) (xs : List X) (y : X) (ys : List X) (back : ℕ) → next_key named (xs ++ y ∷ ys) back ≡ next_key named xs (named.key y)
begins_join named [] y ys back = refl
begins_join named (x ∷ xs) y ys back = refl

pub begins_more : {X : Type 0} (named : Entries X) (path : List X) (a : X) (next start : ℕ) → next_key named path (named.key a) ≡ start → next_key named (path ++ a ∷ []) next ≡ start
begins_more named path a next start is = subst (λ n. n ≡ start) (sym (begins_push named path a next)) is

-- what each step of a walk is, the walk is
pub walk_like : {X : Type 0} (named : Entries X) (Over Down : ℕ → ℕ → ℕ → Type 0) → ((upper lower : ℕ) (line : ℕ) → Over upper lower line → Down upper lower line) → (walk : List X) (back : ℕ) → IsWalk named Over walk back → IsWalk named Down walk back
walk_like named Over Down f [] back h = tt
walk_like named Over Down f (a ∷ more) back h = (f (named.key a) (next_key named more back) (named.line a) h.0, walk_like named Over Down f more back h.1)

pub cycle_like : {X : Type 0} (named : Entries X) (Over Down : ℕ → ℕ → ℕ → Type 0) → ((upper lower : ℕ) (line : ℕ) → Over upper lower line → Down upper lower line) → (start : ℕ) (cycle : List X) → IsKeyCycleBelow named Over start cycle → IsKeyCycleBelow named Down start cycle
cycle_like named Over Down f start [] c = absurd c
cycle_like named Over Down f start (first ∷ rest) (c, w) = (
  record { two = c.two; differ = c.differ; above = walk_like named Over Down f (first ∷ rest) (named.key first) c.above; least = c.least },
  record { path = w.path; walk = walk_like named Over Down f w.path (named.key first) w.walk; begins = w.begins },
)

-- a path passes the key of each entry
passes_entry : {X : Type 0} (named : Entries X) (path : List X) (a : X) → Contains path a → passes named path (named.key a) ≡ true
passes_entry named path a there = test_there (λ z. named.key z == named.key a) path a there (eq-eqb (named.key a) (named.key a) refl)

-- a key that is left waits
pub waits_there : (left : List Wire) (cs : List Constraint) (key : ℕ) → All (λ w. waits left cs w ≡ true) left → has_key left key ≡ true → waits_at left key cs ≡ true
waits_there left cs key stuck there =
    let w : Some' (λ (w : Wire). (w.key == key) ≡ true) left = test_finds (λ (w : Wire). w.key == key) left there in
    subst (λ n. waits_at left n cs ≡ true) (eqb-true w.it.key key w.holds) (All-contains (λ (z : Wire). waits left cs z ≡ true) left w.it stuck w.there)

pub key_there : (left : List Wire) (w : Wire) → Contains left w → has_key left w.key ≡ true
key_there left w there = test_there (λ (z : Wire). z.key == w.key) left w there (eq-eqb w.key w.key refl)

-- fewer wires are left to pass
passes_more : {X : Type 0} (named : Entries X) (path : List X) (a : X) (key : ℕ) → passes named path key ≡ true → passes named (path ++ a ∷ []) key ≡ true
passes_more {X} named path a key h =
    let s : Some' (λ (z : X). (named.key z == key) ≡ true) path = test_finds (λ z. named.key z == key) path h in
    test_there (λ z. named.key z == key) (path ++ a ∷ []) s.it (Contains-append_left path (a ∷ []) s.it s.there) s.holds

not_both : (a b : Bool) → (a ≡ true → b ≡ true) → not b ≡ true → not a ≡ true
not_both a b h e = grind (arith, h, e)

pub fewer_left : {X : Type 0} (named : Entries X) (left : List Wire) (path : List X) (a : X) → has_key left (named.key a) ≡ true → passes named path (named.key a) ≡ false → count_by (λ (w : Wire). not (passes named (path ++ a ∷ []) w.key)) left < count_by (λ (w : Wire). not (passes named path w.key)) left
fewer_left named left path a there new =
    let w : Some' (λ (w : Wire). (w.key == named.key a) ≡ true) left = test_finds (λ (w : Wire). w.key == named.key a) left there in
    let same : w.it.key ≡ named.key a = eqb-true w.it.key (named.key a) w.holds in
    let before : not (passes named path w.it.key) ≡ true = rw same (rw new refl) in
    let after : not (passes named (path ++ a ∷ []) w.it.key) ≡ false = rw same (rw (passes_entry named (path ++ a ∷ []) a (Contains-push path a)) refl) in
    count_less (λ (w : Wire). not (passes named path w.key)) (λ (w : Wire). not (passes named (path ++ a ∷ []) w.key)) left w.it (λ x e. not_both (passes named path x.key) (passes named (path ++ a ∷ []) x.key) (passes_more named path a x.key) e) w.there before after

one_each_behind : {X : Type 0} (key : X → ℕ) (xs ys : List X) → OneEach key (xs ++ ys) → OneEach key ys
one_each_behind key xs ys h n = omega (arith, h n, sum_by-append (λ z. cond (key z == n) 1 0) xs ys)

-- the walk from the place of the key that it comes back to
pub turn_ends : {X : Type 0} (named : Entries X) (Over : ℕ → ℕ → ℕ → Type 0) (path : List X) (here start : ℕ) (at : ℕ) (d : X) → at < length path → named.key (get_or path at d) ≡ here → IsWalk named Over path here → OneEach named.key path → next_key named path here ≡ start → IsTurn named Over start (drop at path)
turn_ends {X} named Over path here start at d below is walk one begins =
    closed (take at path) (drop at path) (get_or path at d) (drop (suc at) path) (drop-cons path at d below) is (subst (λ p. IsWalk named Over p here) (sym parts) walk) (subst (λ p. OneEach named.key p) (sym parts) one) (subst (λ p. next_key named p here ≡ start) (sym parts) begins)
  where
    parts : take at path ++ drop at path ≡ path
    parts = take-append-drop at path

    ends : (xs : List X) (y : X) (ys : List X) → named.key y ≡ here → IsWalk named Over (xs ++ y ∷ ys) here → OneEach named.key (xs ++ y ∷ ys) → next_key named (xs ++ y ∷ ys) here ≡ start → IsTurn named Over start (y ∷ ys)
    ends xs y ys same h one from = (
      subst (λ n. IsWalk named Over (y ∷ ys) n) (sym same) (walk_behind named Over xs (y ∷ ys) here h),
      one_each_behind named.key xs (y ∷ ys) one,
      record { path = xs; walk = walk_before named Over xs y ys here h; begins = subst (λ n. n ≡ start) (begins_join named xs y ys here) from },
    )

    closed : (xs turn : List X) (y : X) (ys : List X) → turn ≡ y ∷ ys → named.key y ≡ here → IsWalk named Over (xs ++ turn) here → OneEach named.key (xs ++ turn) → next_key named (xs ++ turn) here ≡ start → IsTurn named Over start turn
    closed xs turn y ys e same h one from = subst (λ t. IsTurn named Over start t) (sym e) (ends xs y ys same (subst (λ t. IsWalk named Over (xs ++ t) here) e h) (subst (λ t. OneEach named.key (xs ++ t)) e one) (subst (λ t. next_key named (xs ++ t) here ≡ start) e from))

-- the cycle from its least key on
pub rotated : {X : Type 0} (named : Entries X) (Over : ℕ → ℕ → ℕ → Type 0) (start : ℕ) (xs : List X) (y : X) (ys : List X) → ((upper lower : ℕ) (line : ℕ) → Over upper lower line → upper ≢ lower) → IsTurn named Over start (xs ++ y ∷ ys) → All (λ a. named.key y ≤ named.key a) (xs ++ y ∷ ys) → IsKeyCycleBelow named Over start (y ∷ (ys ++ xs))
rotated {X} named Over start xs y ys differ turn least = (
  record {
    two = two (ys ++ xs) walk;
    differ = pairs_differ named.key (y ∷ (ys ++ xs)) one;
    above = walk;
    least = all_from_contains (λ (a : X). named.key y < named.key a) (ys ++ xs) (λ a there.
        let low : named.key y ≤ named.key a = All-contains (λ (z : X). named.key y ≤ named.key z) (xs ++ y ∷ ys) a least (elim (Contains-append_cases ys xs a there) [ inl behind ↦ Contains-append_right xs (y ∷ ys) a (contains_there y ys a behind) | inr before ↦ Contains-append_left xs (y ∷ ys) a before ]) in
        elim (cases_order (named.key y) (named.key a)) [
          | inl same ↦ absurd (parts_differ named.key (y ∷ []) (ys ++ xs) y a one (contains_here y []) there same)
          | inr other ↦ elim other [ inl less ↦ less | inr more ↦ absurd (omega (arith, low, more)) ]
        ]);
  },
  comes xs turn,
)
  where
    walk_of : (xs : List X) → IsTurn named Over start (xs ++ y ∷ ys) → IsWalk named Over (y ∷ (ys ++ xs)) (named.key y)
    walk_of [] t = subst (λ zs. IsWalk named Over (y ∷ zs) (named.key y)) (sym (append-nil ys)) t.0
    walk_of (x ∷ more) t = walk_join named Over (y ∷ ys) x more (named.key y) (walk_behind named Over (x ∷ more) (y ∷ ys) (named.key x) t.0) (walk_before named Over (x ∷ more) y ys (named.key x) t.0)

    walk : IsWalk named Over (y ∷ (ys ++ xs)) (named.key y)
    walk = walk_of xs turn

    one_of : (xs : List X) → IsTurn named Over start (xs ++ y ∷ ys) → OneEach named.key (xs ++ y ∷ ys)
    one_of [] t = t.1
    one_of (x ∷ more) t = t.1

    one : OneEach named.key (y ∷ (ys ++ xs))
    one = one_each_permutation named.key (xs ++ y ∷ ys) ((y ∷ ys) ++ xs) (IsPermutation-append_comm xs (y ∷ ys)) (one_of xs turn)

    two : (rest : List X) → IsWalk named Over (y ∷ rest) (named.key y) → 0 < length rest
    two [] h = absurd (differ (named.key y) (named.key y) (named.line y) h.0 refl)
    two (z ∷ zs) h = omega arith

    -- the walk goes on round the turn
    comes : (xs : List X) → IsTurn named Over start (xs ++ y ∷ ys) → ComesTo named Over start (named.key y)
    comes [] t = t.2
    comes (x ∷ more) t =
        let w : ComesTo named Over start (named.key x) = t.2 in
        record { path = w.path ++ x ∷ more; walk = walk_join named Over w.path x more (named.key y) w.walk (walk_before named Over (x ∷ more) y ys (named.key x) t.0); begins = subst (λ n. n ≡ start) (sym (begins_join named w.path x more (named.key y))) w.begins }

pub rotated_at : {X : Type 0} (named : Entries X) (Over : ℕ → ℕ → ℕ → Type 0) (start : ℕ) (turn : List X) (at : ℕ) (d : X) → at < length turn → ((upper lower : ℕ) (line : ℕ) → Over upper lower line → upper ≢ lower) → IsTurn named Over start turn → All (λ a. named.key (get_or turn at d) ≤ named.key a) turn → IsKeyCycleBelow named Over start (drop at turn ++ take at turn)
rotated_at {X} named Over start turn at d below differ closed least =
    let y : X = get_or turn at d in
    let split : drop at turn ≡ y ∷ drop (suc at) turn = drop-cons turn at d below in
    let parts : turn ≡ take at turn ++ y ∷ drop (suc at) turn = subst (λ zs. turn ≡ take at turn ++ zs) split (sym (take-append-drop at turn)) in
    subst (λ zs. IsKeyCycleBelow named Over start (zs ++ take at turn)) (sym split) (rotated named Over start (take at turn) y (drop (suc at) turn) differ (subst (λ t. IsTurn named Over start t) parts closed) (subst (λ t. All (λ (a : X). named.key y ≤ named.key a) t) parts least))

-- the least key so far
pub least_more : {X : Type 0} (key : X → ℕ) (turn : List X) (at : ℕ) (d : X) (least now : ℕ) → at < length turn → now ≤ least → now ≤ key (get_or turn at d) → All (λ a. least ≤ key a) (take at turn) → All (λ a. now ≤ key a) (take (at + 1) turn)
least_more key turn at d least now short lower here h =
    All-more (λ a. now ≤ key a) turn at d short (All-weaker (λ a. least ≤ key a) (λ a. now ≤ key a) (λ a e. omega (arith, e, lower)) (take at turn) h) here

pub passes_at : {X : Type 0} (named : Entries X) (turn : List X) (at : ℕ) (d : X) → at < length turn → passes named turn (named.key (get_or turn at d)) ≡ true
passes_at named turn at d below = passes_entry named turn (get_or turn at d) (Contains-get_or turn at d below)

-- the rest of a path, copied
pub rest_copied : {X : Type 0} (out new path lent : List X) (at : ℕ) → new ≡ [] → lent ≡ path → out ≡ new ++ take (length lent - at) (drop at lent) → out ≡ drop at path
rest_copied out new path lent at none same is =
    rw is (rw none (rw same (take_all (length path - at) (drop at path) (omega (arith, length-drop at path)))))
