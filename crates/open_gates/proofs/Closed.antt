-- The gates of an order that are not left open, and the first of them with too many ways.
use Rattle.std.proofs.Common.{ℕ, ◌≡◌, ◌==◌, ◌&&◌, Bool, true, false, not, cond, if◌then◌else◌, List, [], ◌∷◌, Some, None, find, length, refl, sym, ap, arith, ◌∙◌, Contains}
use Rattle.std.specs.List.{filter, list_any}
use Rattle.std.proofs.lemmas.Bool.{eq-eqb, eqb-true}
use Rattle.std.proofs.lemmas.Bool.Decides.{same_from_decides}
use Rattle.cell_num.specs.declared.net.NetNo.{NetNo}
use Rattle.cell_num.specs.declared.finger.Fingers.{Fingers}
use Rattle.cell_num.specs.Fingers.{AreFingers}
use Rattle.cell_num.proofs.Lists.{contains_here, contains_there}
use Rattle.cell_num.proofs.Pairs.{Some', test_finds, test_there}
use Rattle.trail_state.specs.declared.edge.Edge.{Edge}
use Rattle.trail_state.specs.declared.level.Level.{Level}
use Rattle.trail_state.specs.declared.level.LevelStop.{LevelStop}
use Rattle.trail_state.specs.declared.level.LevelStop.TheVariants as stop
use Rattle.trail_state.specs.Levels.{StopsAt, first_long}
use Rattle.trail_state.specs.Pairings.{choices_of, has_long_front}
use Rattle.trail_state.proofs.Members.{passes_from, passes_to}
use Rattle.open_gates.specs.declared.gates.OpenGates.{OpenGates}
use Rattle.open_gates.specs.Leveled.{choices_in, merged_levels, open_choice}
use Rattle.open_gates.specs.Listed.{is_listed, is_long_in, level_with, nets_merged}
use Rattle.open_gates.specs.Merged.{merged_choices}
use Rattle.open_gates.specs.Open.{closed_by, closed_in, is_left_open, is_merged_net, is_unfilled, open_in}
use Rattle.open_gates.proofs.Leveled.{few_merged, first_level, no_level}
use Rattle.open_gates.proofs.Listing.{choices_same}

-- ---- the choices of a gate

pub open_chosen : (f : Fingers) (opened : OpenGates) (gate : ℕ) → is_left_open opened gate ≡ true → open_choice opened.row f gate ∷ [] ≡ choices_in f opened gate
open_chosen f opened gate on = sym (ap (λ b. if b then open_choice opened.row f gate ∷ [] else merged_choices opened.row (is_merged_net f opened) (choices_of f gate)) on)

-- the choices of another gate, merged as the code does it
pub closed_chosen : (f : Fingers) (opened : OpenGates) (nets : List ℕ) (gate : ℕ) (choices all : List (List Edge)) → AreFingers f → nets ≡ nets_merged f opened → is_left_open opened gate ≡ false → choices ≡ choices_of f gate → all ≡ merged_choices opened.row (is_listed nets) choices → all ≡ choices_in f opened gate
closed_chosen f opened nets gate choices all ok nets_are off are is =
    is
    ∙ choices_same f opened nets choices ok nets_are
    ∙ ap (merged_choices opened.row (is_merged_net f opened)) are
    ∙ sym (ap (λ b. if b then open_choice opened.row f gate ∷ [] else merged_choices opened.row (is_merged_net f opened) (choices_of f gate)) off)

pub open_not_long : (most : ℕ) (f : Fingers) (opened : OpenGates) (gate : NetNo) → is_left_open opened gate.0 ≡ true → is_long_in most f opened gate ≡ false
open_not_long most f opened gate on = ap (λ b. not b && has_long_front most f gate.0) on

pub closed_long : (most : ℕ) (f : Fingers) (opened : OpenGates) (gate : NetNo) (long : Bool) → is_left_open opened gate.0 ≡ false → has_long_front most f gate.0 ≡ long → is_long_in most f opened gate ≡ long
closed_long most f opened gate long off is = ap (λ b. not b && has_long_front most f gate.0) off ∙ is

pub ruleset choices_rules = (open_chosen, closed_chosen, open_not_long, closed_long)

-- ---- the first gate with too many ways

-- what passes a test among those that fail another one
find_left : {X : Type 0} (p q : X → Bool) (xs : List X) → find q (filter (λ x. not (p x)) xs) ≡ find (λ x. not (p x) && q x) xs
find_left p q [] = refl
find_left {X} p q (x ∷ xs) = at (p x) (find_left p q xs)
  where
    at : (b : Bool) → find q (filter (λ y. not (p y)) xs) ≡ find (λ y. not (p y) && q y) xs → find q (cond (not b) (x ∷ filter (λ y. not (p y)) xs) (filter (λ y. not (p y)) xs)) ≡ cond (not b && q x) (Some x) (find (λ y. not (p y) && q y) xs)
    at true rest = rest
    at false rest = ap (cond (q x) (Some x)) rest

first_is : (most : ℕ) (f : Fingers) (opened : OpenGates) (order : List NetNo) → first_long most f (closed_by opened order) ≡ find (is_long_in most f opened) order
first_is most f opened order = find_left (λ (g : NetNo). is_left_open opened g.0) (λ (g : NetNo). has_long_front most f g.0) order

pub none_long : (most : ℕ) (f : Fingers) (opened : OpenGates) (order : List NetNo) → length order ≡ 0 → first_long most f (closed_by opened order) ≡ None
none_long most f opened [] none = refl
none_long most f opened (g ∷ gs) none = absurd (omega (arith, none))

pub long_first : (most : ℕ) (f : Fingers) (opened : OpenGates) (gate : NetNo) (later : List NetNo) → is_long_in most f opened gate ≡ true → first_long most f (closed_by opened (gate ∷ later)) ≡ Some gate
long_first most f opened gate later on =
    first_is most f opened (gate ∷ later) ∙ ap (λ b. cond b (Some gate) (find (is_long_in most f opened) later)) on

pub long_later : (most : ℕ) (f : Fingers) (opened : OpenGates) (gate : NetNo) (later : List NetNo) → is_long_in most f opened gate ≡ false → first_long most f (closed_by opened (gate ∷ later)) ≡ first_long most f (closed_by opened later)
long_later most f opened gate later off =
    first_is most f opened (gate ∷ later)
    ∙ ap (λ b. cond b (Some gate) (find (is_long_in most f opened) later)) off
    ∙ sym (first_is most f opened later)

pub stops_later : (most : ℕ) (f : Fingers) (opened : OpenGates) (gate : NetNo) (later : List NetNo) (why : LevelStop) → is_long_in most f opened gate ≡ false → StopsAt most f (closed_by opened later) why → StopsAt most f (closed_by opened (gate ∷ later)) why
stops_later most f opened gate later (stop.Long other) off first = long_later most f opened gate later off ∙ first
stops_later most f opened gate later stop.NoMemory off done = tt

-- the levels of an order by its first one and those of later gates
pub levels_more : (f : Fingers) (opened : OpenGates) (order : List NetNo) (gate : NetNo) (later : List NetNo) (choices : List (List Edge)) (level : Level) (levels : List Level) → order ≡ gate ∷ later → choices ≡ choices_in f opened gate.0 → level ≡ level_with f opened order later choices → levels ≡ merged_levels f opened later → level ∷ levels ≡ merged_levels f opened order
levels_more f opened order gate later choices level levels first chosen is rest =
    let same : level ≡ level_with f opened (gate ∷ later) later (choices_in f opened gate.0) = is ∙ λ i. level_with f opened (first i) later (chosen i) in
    let both : level ∷ levels ≡ level_with f opened (gate ∷ later) later (choices_in f opened gate.0) ∷ merged_levels f opened later = λ i. same i ∷ rest i in
    both ∙ sym (first_level f opened gate later) ∙ ap (merged_levels f opened) (sym first)

pub ruleset list_rules = (no_level, none_long, long_first, long_later, stops_later)

-- ---- where no gate is left open

all_closed : (opened : OpenGates) (order : List NetNo) → length opened.gates ≡ 0 → closed_by opened order ≡ order
all_closed opened order none = at opened.gates none
  where
    kept : (order : List NetNo) → filter (λ (g : NetNo). not (list_any (λ (h : NetNo). h.0 == g.0) [])) order ≡ order
    kept [] = refl
    kept (g ∷ gs) = ap (λ (hs : List NetNo). g ∷ hs) (kept gs)

    at : (gates : List NetNo) → length gates ≡ 0 → filter (λ (g : NetNo). not (list_any (λ (h : NetNo). h.0 == g.0) gates)) order ≡ order
    at [] none = kept order
    at (g ∷ gs) none = absurd (omega (arith, none))

pub few_filled : (most : ℕ) (f : Fingers) (opened : OpenGates) (order : List NetNo) → length opened.gates ≡ 0 → first_long most f order ≡ None → first_long most f (closed_by opened order) ≡ None
few_filled most f opened order none few = ap (first_long most f) (all_closed opened order none) ∙ few

pub stops_filled : (most : ℕ) (f : Fingers) (opened : OpenGates) (order : List NetNo) (why : LevelStop) → length opened.gates ≡ 0 → StopsAt most f order why → StopsAt most f (closed_by opened order) why
stops_filled most f opened order (stop.Long gate) none first = ap (first_long most f) (all_closed opened order none) ∙ first
stops_filled most f opened order stop.NoMemory none done = tt

pub ruleset open_rules = (few_merged, few_filled, stops_filled)

-- ---- gates that are not filled

-- Those of an order that are left open are those that are not filled.
pub closed_same : (f : Fingers) (fill order : List NetNo) → closed_by (open_in f fill order) order ≡ closed_in f fill order
closed_same f fill order = among order (λ g there. there)
  where
    same : (g : NetNo) → Contains order g → is_left_open (open_in f fill order) g.0 ≡ is_unfilled f fill g
    same g there = same_from_decides {P = is_unfilled f fill g ≡ true} (is_left_open (open_in f fill order) g.0) (is_unfilled f fill g) (found, listed) ((λ h. h), (λ h. h))
      where
        found : is_left_open (open_in f fill order) g.0 ≡ true → is_unfilled f fill g ≡ true
        found h =
            let s : Some' (λ (o : NetNo). (o.0 == g.0) ≡ true) (filter (is_unfilled f fill) order) = test_finds (λ (o : NetNo). o.0 == g.0) (filter (is_unfilled f fill) order) h in
            ap (λ n. is_unfilled f fill (record { 0 = n })) (sym (eqb-true s.it.0 g.0 s.holds)) ∙ (passes_from (is_unfilled f fill) order s.it s.there).passes

        listed : is_unfilled f fill g ≡ true → is_left_open (open_in f fill order) g.0 ≡ true
        listed h = test_there (λ (o : NetNo). o.0 == g.0) (filter (is_unfilled f fill) order) g (passes_to (is_unfilled f fill) order g there h) (eq-eqb g.0 g.0 refl)

    among : (gates : List NetNo) → ((g : NetNo) → Contains gates g → Contains order g) → filter (λ (g : NetNo). not (is_left_open (open_in f fill order) g.0)) gates ≡ filter (λ (g : NetNo). not (is_unfilled f fill g)) gates
    among [] in_order = refl
    among (g ∷ gs) in_order =
        let rest : filter (λ (h : NetNo). not (is_left_open (open_in f fill order) h.0)) gs ≡ filter (λ (h : NetNo). not (is_unfilled f fill h)) gs = among gs (λ h there. in_order h (contains_there g gs h there)) in
        λ i. cond (not (same g (in_order g (contains_here g gs)) i)) (g ∷ rest i) (rest i)

module _ (most : ℕ) (f : Fingers) (fill order : List NetNo) (opened : OpenGates) (are : opened ≡ open_in f fill order) where
  first_same : first_long most f (closed_by opened order) ≡ first_long most f (closed_in f fill order)
  first_same =
      ap (λ (o : OpenGates). first_long most f (closed_by o order)) are
      ∙ ap (first_long most f) (closed_same f fill order)

  pub few_closed : first_long most f (closed_by opened order) ≡ None → first_long most f (closed_in f fill order) ≡ None
  few_closed few = sym first_same ∙ few

  pub stops_closed : (why : LevelStop) → StopsAt most f (closed_by opened order) why → StopsAt most f (closed_in f fill order) why
  stops_closed (stop.Long gate) first = sym first_same ∙ first
  stops_closed stop.NoMemory done = tt
