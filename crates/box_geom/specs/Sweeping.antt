-- Two sets of numbers, each given by spans in any order, put together from left to right.
use Rattle.std.specs.Prelude.{ℤ, ◌≤ℤ◌, ◌<ℤ◌, List, [], ◌∷◌, ◌++◌, Bool, not}
use Rattle.std.specs.Prelude.{◌&&◌, ◌||◌, if◌then◌else◌, int_lt, ◌⊎◌, ◌↔◌}
use Rattle.std.specs.List.{Contains, flat_map}
use Rattle.std.specs.Int.{int_max}
use Rattle.std.specs.Ordering.{int_cmp, ordering_then}
use Rattle.std.specs.declared.cmp.Ordering.{Ordering}
use Rattle.box_geom.specs.Rectangle.{Rectangle}
use Rattle.box_geom.specs.Ranges.{Hit, Spread}
use Rattle.box_geom.specs.declared.ranges.XRange.{XRange}
use Rattle.box_geom.specs.declared.sweep.Event.{Event}
use Rattle.box_geom.specs.declared.sweep.Operation.{Operation}
use Rattle.box_geom.specs.declared.sweep.Operation.TheVariants.{Both, Either, Minus}
use Rattle.box_geom.specs.declared.sweep.Side.{Side}
use Rattle.box_geom.specs.declared.sweep.Side.TheVariants.{First, Second}

-- what the operation makes of two facts
abbrev pub Meant : Operation → Type 0 → Type 0 → Type 0
Meant Both P Q = P × Q
Meant Either P Q = P ⊎ Q
Meant Minus P Q = P × (Q → ⊥)

abbrev pub applied : Operation → Bool → Bool → Bool
applied Both a b = a && b
applied Either a b = a || b
applied Minus a b = a && not b

-- some rectangle of the list stands over the column of x
pub record Spans (rs : List Rectangle) (x : ℤ) : Type 0 where
  pub rect : Rectangle
  pub listed : Contains rs rect
  pub from : rect.x1 ≤ℤ x
  pub to : x <ℤ rect.x2

-- the ranges are ascending, with room between them, and hold what the operation makes of the two sets
pub record AreRangesOf (op : Operation) (a b : List Rectangle) (rs : List XRange) : Type 0 where
  pub spread : Spread rs
  pub same : (x : ℤ) → Hit rs x ↔ Meant op (Spans a x) (Spans b x)

-- What is known from a place on: how far each of the two sets reaches from there. A set that does not reach
-- beyond the place holds nothing from it on.
abbrev pub events_of : Side → Rectangle → List Event
events_of First r =
    record { at = r.x1; first = r.x2; second = r.x1 } ∷ record { at = r.x2; first = r.x2; second = r.x2 } ∷ []
events_of Second r =
    record { at = r.x1; first = r.x1; second = r.x2 } ∷ record { at = r.x2; first = r.x2; second = r.x2 } ∷ []

abbrev pub all_events : List Rectangle → List Rectangle → List Event
all_events a b = flat_map (events_of First) a ++ flat_map (events_of Second) b

abbrev pub event_cmp : Event → Event → Ordering
event_cmp e f = ordering_then (int_cmp e.at f.at) (ordering_then (int_cmp e.first f.first) (int_cmp e.second f.second))

abbrev pub is_held : Operation → Event → Bool
is_held op e = applied op (int_lt e.at e.first) (int_lt e.at e.second)

abbrev pub has_slot : Operation → Event → Event → Bool
has_slot op e f = is_held op e && int_lt e.at f.at

abbrev pub after : Event → Event → Event
after e f = record { at = f.at; first = int_max e.first f.first; second = int_max e.second f.second }

-- the slots between neighbouring events that the operation holds
abbrev pub slots : Operation → Event → List Event → List XRange
slots op e [] = []
slots op e (f ∷ fs) =
    if has_slot op e f then record { x1 = e.at; x2 = f.at } ∷ slots op (after e f) fs else slots op (after e f) fs

abbrev pub all_slots : Operation → List Event → List XRange
all_slots op [] = []
all_slots op (e ∷ es) = slots op e es
