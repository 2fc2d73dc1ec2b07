-- Where each wire waits for another one, they have a cycle.
use Rattle.std.proofs.Common.{ℕ, zero, suc, ◌≡◌, ◌≢◌, ◌<◌, ◌≤◌, ◌++◌, ◌==◌, not, true, false, List, [], ◌∷◌, length, take, drop, inl, inr, refl, sym, subst, arith, All, Contains, count_by}
use Rattle.std.proofs.lemmas.Bool.{cases_Bool, cases_lt, eqb-true}
use Rattle.std.proofs.lemmas.List.Elements.{All-cons, All-contains, All-weaker}
use Rattle.cell_num.proofs.Lists.{all_one, contains_here, contains_there}
use Rattle.cell_num.proofs.Pairs.{OneEach, Some', one_each_push, test_finds}
use Rattle.channel_route.specs.declared.constraint.Constraint.{Constraint}
use Rattle.channel_route.specs.declared.cycle.Step.{Step}
use Rattle.channel_route.specs.declared.wire.Wire.{Wire}
use Rattle.channel_route.specs.Graph.{waits}
use Rattle.channel_route.specs.Turn.{IsOver, IsTurn, passes, steps}
use Rattle.channel_route.specs.Walk.{IsKeyCycleBelow, IsWalk, next_key}
use Rattle.channel_route.proofs.Room.{WaitsFor, waiting}
use Rattle.channel_route.proofs.Turns.{begins_more, fewer_left, key_there, rotated_at, turn_ends, walk_push}

abbrev blank : Step
blank = record { wire = record { left = 0; key = 0; right = 0; net = record { 0 = 0 } }; line = 0 }

record TurnBelow (cs : List Constraint) (start : ℕ) : Type 0 where
  pub turn : List Step
  pub is : IsTurn steps (IsOver cs) start turn

-- a walk down over different wires
record Walks (cs : List Constraint) (left : List Wire) (start : ℕ) (path : List Step) (here : Wire) : Type 0 where
  pub walk : IsWalk steps (IsOver cs) path here.key
  pub differ : OneEach steps.key path
  pub there : Contains left here
  pub begins : next_key steps path here.key ≡ start

entry_of : Wire → ℕ → Step
entry_of wire line = record { wire = wire; line = line }

further : (cs : List Constraint) (left : List Wire) (start : ℕ) (path : List Step) (here : Wire) → Walks cs left start path here → passes steps path here.key ≡ false → (w : WaitsFor left cs here) → Walks cs left start (path ++ entry_of here w.constraint.line ∷ []) w.lower
unfolding entry_of
further cs left start path here h new w = record {
  walk = subst (IsWalk steps (IsOver cs) (path ++ entry_of here w.constraint.line ∷ [])) (sym w.is) (walk_push steps (IsOver cs) path (entry_of here w.constraint.line) w.constraint.lower h.walk (subst (λ n. IsOver cs n w.constraint.lower w.constraint.line) w.upper w.there));
  differ = one_each_push steps.key path (entry_of here w.constraint.line) h.differ new;
  there = w.left_there;
  begins = begins_more steps path (entry_of here w.constraint.line) w.lower.key start h.begins;
}

closed : (cs : List Constraint) (left : List Wire) (start : ℕ) (path : List Step) (here : Wire) → Walks cs left start path here → passes steps path here.key ≡ true → TurnBelow cs start
closed cs left start path here h again =
    let s : Some' (λ (z : Step). (z.wire.key == here.key) ≡ true) path = test_finds (λ (z : Step). z.wire.key == here.key) path again in
    let same : s.it.wire.key ≡ here.key = eqb-true s.it.wire.key here.key s.holds in
    record {
      turn = drop s.there.0 path;
      is = turn_ends steps (IsOver cs) path here.key start s.there.0 s.it s.there.1 (subst (λ (z : Step). z.wire.key ≡ here.key) (sym s.there.2) same) h.walk h.differ h.begins;
    }

turns : (cs : List Constraint) (left : List Wire) (start most : ℕ) (path : List Step) (here : Wire) → All (λ w. waits left cs w ≡ true) left → count_by (λ (w : Wire). not (passes steps path w.key)) left < most → Walks cs left start path here → TurnBelow cs start
unfolding entry_of
turns cs left start zero path here stuck few h = absurd (omega (arith, few))
turns cs left start (suc most) path here stuck few h =
    elim (cases_Bool (passes steps path here.key)) [
      | inl again ↦ closed cs left start path here h again
      | inr new ↦
          let w : WaitsFor left cs here = waiting left cs here (All-contains (λ (z : Wire). waits left cs z ≡ true) left here stuck h.there) in
          let fewer : count_by (λ (z : Wire). not (passes steps (path ++ entry_of here w.constraint.line ∷ []) z.key)) left < count_by (λ (z : Wire). not (passes steps path z.key)) left = fewer_left steps left path (entry_of here w.constraint.line) (key_there left here h.there) new in
          turns cs left start most (path ++ entry_of here w.constraint.line ∷ []) w.lower stuck (omega (arith, few, fewer)) (further cs left start path here h new w)
    ]

-- ---- from its least wire on

least_of : (turn : List Step) → 0 < length turn → Some' (λ (z : Step). All (λ (a : Step). z.wire.key ≤ a.wire.key) turn) turn
least_of [] some = absurd (omega (arith, some))
least_of (x ∷ []) some = record { it = x; there = contains_here x []; holds = all_one (λ (a : Step). x.wire.key ≤ a.wire.key) x (omega arith) }
least_of (x ∷ y ∷ more) some = with' (least_of (y ∷ more) (omega arith))
  where
    with' : Some' (λ (z : Step). All (λ (a : Step). z.wire.key ≤ a.wire.key) (y ∷ more)) (y ∷ more) → Some' (λ (z : Step). All (λ (a : Step). z.wire.key ≤ a.wire.key) (x ∷ y ∷ more)) (x ∷ y ∷ more)
    with' s =
        elim (cases_lt x.wire.key s.it.wire.key) [
          | inl less ↦ record {
            it = x;
            there = contains_here x (y ∷ more);
            holds = All-cons (λ (a : Step). x.wire.key ≤ a.wire.key) x (y ∷ more) (omega arith) (All-weaker (λ (a : Step). s.it.wire.key ≤ a.wire.key) (λ (a : Step). x.wire.key ≤ a.wire.key) (λ a e. omega (arith, e, less)) (y ∷ more) s.holds);
          }
          | inr not_less ↦ record { it = s.it; there = contains_there x (y ∷ more) s.it s.there; holds = All-cons (λ (a : Step). s.it.wire.key ≤ a.wire.key) x (y ∷ more) (omega (arith, not_less)) s.holds }
        ]

some_turn : (cs : List Constraint) (start : ℕ) (turn : List Step) → IsTurn steps (IsOver cs) start turn → 0 < length turn
some_turn cs start [] none = absurd none
some_turn cs start (x ∷ more) is = omega arith

pub record CycleBelow (cs : List Constraint) (start : ℕ) : Type 0 where
  pub cycle : List Step
  pub is : IsKeyCycleBelow steps (IsOver cs) start cycle

from_least : (cs : List Constraint) (start : ℕ) → ((upper lower : ℕ) (line : ℕ) → IsOver cs upper lower line → upper ≢ lower) → TurnBelow cs start → CycleBelow cs start
from_least cs start differ t =
    let s : Some' (λ (z : Step). All (λ (a : Step). z.wire.key ≤ a.wire.key) t.turn) t.turn = least_of t.turn (some_turn cs start t.turn t.is) in
    record {
      cycle = drop s.there.0 t.turn ++ take s.there.0 t.turn;
      is = rotated_at steps (IsOver cs) start t.turn s.there.0 s.it s.there.1 differ t.is (subst (λ (z : Step). All (λ (a : Step). z.wire.key ≤ a.wire.key) t.turn) (sym s.there.2) s.holds);
    }

pub cycle_below : (cs : List Constraint) (left : List Wire) → ((upper lower : ℕ) (line : ℕ) → IsOver cs upper lower line → upper ≢ lower) → 0 < length left → All (λ w. waits left cs w ≡ true) left → (start : ℕ) × CycleBelow cs start
cycle_below cs [] differ some stuck = absurd (omega (arith, some))
cycle_below cs (w ∷ left) differ some stuck = (
  w.key,
  from_least cs w.key differ (turns cs (w ∷ left) w.key (suc (count_by (λ (z : Wire). not (passes steps [] z.key)) (w ∷ left))) [] w stuck (omega arith)
      (record { walk = tt; differ = λ n. omega arith; there = contains_here w left; begins = refl })),
)
