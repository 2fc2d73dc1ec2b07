-- Parts added one by one: fingers left without one of them, and that parts grow more and more.
use Rattle.std.proofs.Common.{ℕ, suc, ◌≡◌, ◌+◌, ◌<◌, ◌≤◌, ◌||◌, Bool, true, false, if◌then◌else◌, List, [], ◌∷◌, ◌++◌, Some, None, length, length-append, append-nil, drop, fold, get_or, map, map-id, take, refl, sym, ap, arith, ◌∙◌, inl, inr, Contains}
use Rattle.std.specs.List.{after_first, flat_map, list_any, position, position_or_len, range_with_len, remove}
use Rattle.std.specs.Prelude.{ltb}
use Rattle.std.proofs.lemmas.Bool.{cases_Bool, ltb-false, or_left, or_right}
use Rattle.std.proofs.lemmas.Grind.{flat_map-append}
use Rattle.std.proofs.lemmas.List.{drop_all, map-append, take-append-drop, take_all, take_more}
use Rattle.std.proofs.lemmas.List.Folds.{list_any-append}
use Rattle.std.proofs.lemmas.List.FromFn.{get_or-range_with_len, length-range_with_len, map-range_with_len_more}
use Rattle.std.proofs.lemmas.List.Sums.{fold-append}
use Rattle.cell_num.proofs.Lists.{contains_cons, contains_none}
use Rattle.trail_state.specs.declared.edge.FingerEnds.{FingerEnds}
use Rattle.trail_state.specs.declared.front.Part.{Part}
use Rattle.trail_state.specs.declared.gate.Gate.{Gate}
use Rattle.trail_state.specs.Fronts.{is_same, next_front, next_parts, same_nets, with_all, with_new, without}

-- ---- a list grows

new_long : (parts : List Part) (p : Part) → length parts ≤ length (with_new parts p)
new_long parts p = elim (cases_Bool (list_any (is_same p) parts)) [
  | inl known ↦ let same : length (with_new parts p) ≡ length parts = ap (λ (b : Bool). length (if b then parts else parts ++ p ∷ [])) known in omega (arith, same)
  | inr fresh ↦ let more : length (with_new parts p) ≡ length (parts ++ p ∷ []) = ap (λ (b : Bool). length (if b then parts else parts ++ p ∷ [])) fresh in omega (arith, more, length-append parts (p ∷ []))
]

all_long : (more parts : List Part) → length parts ≤ length (with_all parts more)
all_long [] parts = omega arith
all_long (p ∷ more) parts = omega (arith, new_long parts p, all_long more (with_new parts p))

front_long : (gate : Gate) (xs : List FingerEnds) (front parts : List Part) → length parts ≤ length (fold (λ (all : List Part) (part : Part). with_all all (next_parts gate xs part)) parts front)
front_long gate xs [] parts = omega arith
front_long gate xs (p ∷ front) parts = omega (arith, all_long (next_parts gate xs p) parts, front_long gate xs front (with_all parts (next_parts gate xs p)))

-- more than that already
pub longer_yet : (gate : Gate) (xs : List FingerEnds) (front parts : List Part) (i most : ℕ) → parts ≡ next_front gate xs (take i front) → most < length parts → most < length (next_front gate xs front)
longer_yet gate xs front parts i most is more =
    let whole : next_front gate xs front ≡ fold (λ (all : List Part) (part : Part). with_all all (next_parts gate xs part)) (next_front gate xs (take i front)) (drop i front) =
    ap (next_front gate xs) (sym (take-append-drop i front)) ∙ fold-append (λ (all : List Part) (part : Part). with_all all (next_parts gate xs part)) [] (take i front) (drop i front) in
    omega (arith, more, ap length is, ap length whole, front_long gate xs (drop i front) (next_front gate xs (take i front)))

-- ---- fingers left

found : (b : Bool) (i j : ℕ) → (if b then Some i else None) ≡ Some j → i ≡ j
found true i j h = cc
found false i j h = absurd cc

missed : (b : Bool) (i : ℕ) → (if b then Some i else None) ≡ None → b ≡ false
missed true i h = absurd cc
missed false i h = refl

pub one_less : (y : FingerEnds) (left : List FingerEnds) (i : ℕ) → position (same_nets y) left ≡ Some i → remove left i ≡ without y left
one_less y left i h =
    let at : position_or_len (same_nets y) left ≡ i = found (ltb (position_or_len (same_nets y) left) (length left)) (position_or_len (same_nets y) left) i h in
    let next : i + 1 ≡ suc i = omega arith in
    sym (ap (λ (k : ℕ). take k left ++ drop (k + 1) left) at ∙ ap (λ (k : ℕ). take i left ++ drop k left) next)

pub none_less : (y : FingerEnds) (left : List FingerEnds) → position (same_nets y) left ≡ None → left ≡ without y left
none_less y left h =
    let at : ltb (position_or_len (same_nets y) left) (length left) ≡ false = missed (ltb (position_or_len (same_nets y) left) (length left)) (position_or_len (same_nets y) left) h in
    let past : length left ≤ position_or_len (same_nets y) left = ltb-false (position_or_len (same_nets y) left) (length left) at in
    sym (ap (λ l. l ++ after_first (same_nets y) left) (take_all (position_or_len (same_nets y) left) left past)
    ∙ ap (λ l. left ++ l) (drop_all (position_or_len (same_nets y) left + 1) left (omega (arith, past))) ∙ append-nil left)

-- ---- one after the other

pub both_added : (old now new some others : List Part) → now ≡ with_all old some → new ≡ with_all now others → new ≡ with_all old (some ++ others)
both_added old now new some others first second = second ∙ ap (λ l. with_all l others) first ∙ sym (fold-append with_new old some others)

pub one_added : {X : Type 0} (f : X → Part) (xs : List X) (i : ℕ) (d : X) (old now new : List Part) → i < length xs → now ≡ with_all old (map f (take i xs)) → new ≡ with_new now (f (get_or xs i d)) → new ≡ with_all old (map f (take (i + 1) xs))
one_added f xs i d old now new within before is =
    let more : map f (take (i + 1) xs) ≡ map f (take i xs) ++ f (get_or xs i d) ∷ [] = ap (map f) (take_more xs i d within) ∙ map-append f (take i xs) (get_or xs i d ∷ []) in
    both_added old now new (map f (take i xs)) (f (get_or xs i d) ∷ []) before is ∙ ap (with_all old) (sym more)

pub each_added : {X : Type 0} (f : X → List Part) (xs : List X) (i : ℕ) (d : X) (old now new : List Part) → i < length xs → now ≡ with_all old (flat_map f (take i xs)) → new ≡ with_all now (f (get_or xs i d)) → new ≡ with_all old (flat_map f (take (i + 1) xs))
each_added f xs i d old now new within before is =
    let more : flat_map f (take (i + 1) xs) ≡ flat_map f (take i xs) ++ f (get_or xs i d) =
    ap (flat_map f) (take_more xs i d within) ∙ flat_map-append f (take i xs) (get_or xs i d ∷ []) ∙ ap (λ l. flat_map f (take i xs) ++ l) (append-nil (f (get_or xs i d))) in
    both_added old now new (flat_map f (take i xs)) (f (get_or xs i d)) before is ∙ ap (with_all old) (sym more)

-- ---- a front is too long at one of the columns

range_has : (m v : ℕ) → v < m → Contains (range_with_len 0 m) v
range_has m v l = let is : get_or (range_with_len 0 m) v v ≡ 0 + v = get_or-range_with_len 0 m v v l in let same : 0 + v ≡ v = omega arith in (v, omega (arith, l, length-range_with_len 0 m), is ∙ same)

pub long_some : (test : ℕ → Bool) (n i : ℕ) → i < n → test i ≡ true → list_any test (range_with_len 0 n) ≡ true
long_some test n i within on = any_there test (range_with_len 0 n) i (range_has n i within) on
  where
    any_there : (p : ℕ → Bool) (xs : List ℕ) (x : ℕ) → Contains xs x → p x ≡ true → list_any p xs ≡ true
    any_there p [] x there is = absurd (contains_none x there)
    any_there p (y ∷ ys) x there is = elim (contains_cons y ys x there) [
      | inl same ↦ or_left (p y) (list_any p ys) (ap p same ∙ is)
      | inr rest ↦ or_right (p y) (list_any p ys) (any_there p ys x rest is)
    ]

pub range_next : (n : ℕ) → range_with_len 0 (n + 1) ≡ range_with_len 0 n ++ n ∷ []
range_next n =
    let at : 0 + n ≡ n = omega arith in
    sym (map-id (range_with_len 0 (n + 1))) ∙ map-range_with_len_more (λ (x : ℕ). x) 0 n n at ∙ ap (λ l. l ++ n ∷ []) (map-id (range_with_len 0 n))

pub long_none : (test : ℕ → Bool) (n : ℕ) → list_any test (range_with_len 0 n) ≡ false → test n ≡ false → list_any test (range_with_len 0 (n + 1)) ≡ false
long_none test n none off =
    ap (list_any test) (range_next n) ∙ list_any-append test (range_with_len 0 n) (n ∷ []) ∙ ap (λ b. b || (test n || false)) none ∙ ap (λ b. b || false) off
