-- Fronts so far, and whether one of them is long.
use Rattle.std.specs.Prelude.{ℕ, ◌≡◌, ◌+◌, ◌<◌, ◌≤◌, Bool, true, false, ◌||◌, ltb, if◌then◌else◌, List, [], ◌∷◌, ◌++◌, drop, fold, length, take}
use Rattle.std.specs.List.{list_any}
use Rattle.std.proofs.Common.{sym, ap, subst, arith, ◌∙◌, get_or}
use Rattle.std.proofs.lemmas.Bool.{ltb-true, lt-ltb}
use Rattle.std.proofs.lemmas.List.{at_drop_all, at_drop_more, length-append, take-append-drop, take_more}
use Rattle.std.proofs.lemmas.List.Sums.{fold-append}
use Rattle.cell_num.specs.declared.finger.Row.{Row}
use Rattle.trail_state.specs.declared.edge.FingerEnds.{FingerEnds}
use Rattle.trail_halves.specs.declared.choice.OpenChoice.{OpenChoice}
use Rattle.trail_halves.specs.Same.{is_same}
use Rattle.trail_pools.specs.Choices.{beside, is_long_front, next_front, with_all, with_new}

-- ---- adding choices takes none out

new_more : (choices : List OpenChoice) (c : OpenChoice) → length choices ≤ length (with_new choices c)
new_more choices c = by (list_any (is_same c) choices)
  where
    by : (b : Bool) → length choices ≤ length (if b then choices else choices ++ c ∷ [])
    by true = omega arith
    by false = omega (arith, length-append choices (c ∷ []))

all_more : (choices more : List OpenChoice) → length choices ≤ length (with_all choices more)
all_more choices [] = omega arith
all_more choices (c ∷ cs) =
    let one : length choices ≤ length (with_new choices c) = new_more choices c in
    let rest : length (with_new choices c) ≤ length (with_all (with_new choices c) cs) =
    all_more (with_new choices c) cs in
    omega (arith, one, rest)

module _ (r : Row) (y : FingerEnds) where
  abbrev step : List OpenChoice → OpenChoice → List OpenChoice
  step choices c = with_all choices (beside r y c)

  front_more : (front choices : List OpenChoice) → length choices ≤ length (fold step choices front)
  front_more [] choices = omega arith
  front_more (c ∷ cs) choices =
      let one : length choices ≤ length (step choices c) = all_more choices (beside r y c) in
      let rest : length (step choices c) ≤ length (fold step (step choices c) cs) = front_more cs (step choices c) in
      omega (arith, one, rest)

  -- a front of some of the ways has no more than that of all
  part_less : (front : List OpenChoice) (i : ℕ) → length (next_front r (take i front) y) ≤ length (next_front r front y)
  part_less front i =
      let parts : next_front r front y ≡ fold step (next_front r (take i front) y) (drop i front) =
      ap (λ (l : List OpenChoice). fold step [] l) (sym (take-append-drop i front))
      ∙ fold-append step [] (take i front) (drop i front) in
      subst (λ (l : List OpenChoice). length (next_front r (take i front) y) ≤ length l) (sym parts)
      (front_more (drop i front) (next_front r (take i front) y))

  long_here : (most : ℕ) (front all : List OpenChoice) (i : ℕ) → all ≡ next_front r (take i front) y
      → ltb most (length all) ≡ true → ltb most (length (next_front r front y)) ≡ true
  long_here most front all i is on =
      let some : most < length all = ltb-true most (length all) on in
      let same : length all ≡ length (next_front r (take i front) y) = ap length is in
      lt-ltb most (length (next_front r front y)) (omega (arith, some, same, part_less front i))

  -- with one way more of the front before
  pub long_next : (most : ℕ) (front now new : List OpenChoice) (i : ℕ) (c : OpenChoice) → i < length front
      → c ≡ get_or front i c → now ≡ next_front r (take i front) y → new ≡ with_all now (beside r y c)
      → most < length new → ltb most (length (next_front r front y)) ≡ true
  long_next most front now new i c within is before added some =
      long_here most front new (i + 1)
      (added ∙ ap (λ l. step l c) before ∙ ap (step (next_front r (take i front) y)) is ∙ sym next)
      (lt-ltb most (length new) some)
    where
      next : next_front r (take (i + 1) front) y ≡ step (next_front r (take i front) y) (get_or front i c)
      next =
          ap (λ (l : List OpenChoice). fold step [] l) (take_more front i c within)
          ∙ fold-append step [] (take i front) (get_or front i c ∷ [])

pub none_short : (most : ℕ) → ltb most 0 ≡ false
none_short most = grind arith

-- ---- front after front

module _ (most : ℕ) (r : Row) (ys : List FingerEnds) (i : ℕ) (d : FingerEnds) (within : i < length ys) where
  at : (front : List OpenChoice) → is_long_front most r front (drop i ys)
      ≡ (ltb most (length (next_front r front (get_or ys i d)))
      || is_long_front most r (next_front r front (get_or ys i d)) (drop (i + 1) ys))
  at front = at_drop_more (is_long_front most r front) ys i d within

  pub long_then : (front : List OpenChoice) (long : Bool) → is_long_front most r front (drop i ys) ≡ long
      → ltb most (length (next_front r front (get_or ys i d))) ≡ true → long ≡ true
  long_then front long so on =
      sym so ∙ at front
      ∙ ap (λ b. b || is_long_front most r (next_front r front (get_or ys i d)) (drop (i + 1) ys)) on

  pub short_then : (front next : List OpenChoice) (long : Bool) → is_long_front most r front (drop i ys) ≡ long
      → next ≡ next_front r front (get_or ys i d)
      → ltb most (length (next_front r front (get_or ys i d))) ≡ false
      → is_long_front most r next (drop (i + 1) ys) ≡ long
  short_then front next long so is off =
      ap (λ l. is_long_front most r l (drop (i + 1) ys)) is
      ∙ sym (sym so ∙ at front
      ∙ ap (λ b. b || is_long_front most r (next_front r front (get_or ys i d)) (drop (i + 1) ys)) off)

pub none_long : (most : ℕ) (r : Row) (ys : List FingerEnds) (i : ℕ) (front : List OpenChoice) (long : Bool)
    → is_long_front most r front (drop i ys) ≡ long → length ys ≤ i → long ≡ false
none_long most r ys i front long so past = sym so ∙ at_drop_all (is_long_front most r front) ys i past

-- what the walk through fronts names
pub ruleset long_front_rules = (long_then, short_then, none_long)
