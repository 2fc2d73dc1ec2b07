-- Wires fill tracks: all of them, or those left wait for each other.
use Rattle.std.proofs.Common.{ℕ, zero, suc, ◌≡◌, ◌+◌, ◌<◌, ◌≤◌, ◌⊎◌, ◌++◌, true, List, [], ◌∷◌, Option, Some, None, length, get_or, inl, inr, refl, subst, arith, All}
use Rattle.std.proofs.lemmas.Bool.{cases_Bool}
use Rattle.std.proofs.lemmas.List.Sorted.{IsPermutation-refl}
use Rattle.cell_num.proofs.Lists.{contains_none}
use Rattle.channel_route.specs.declared.constraint.Constraint.{Constraint}
use Rattle.channel_route.specs.declared.wire.PlacedWire.{PlacedWire}
use Rattle.channel_route.specs.declared.wire.Wire.{Wire}
use Rattle.channel_route.specs.Graph.{HasMoved, IsChannel, IsFilled, has_room, waits}
use Rattle.channel_route.proofs.Sweeps.{Sweeps, sweeps_begin, sweeps_end, sweeps_put, sweeps_skip, sweeps_stuck}

abbrev blank : Wire
blank = record { left = 0; key = 0; right = 0; net = record { 0 = 0 } }

-- ---- one track

record Swept (cs : List Constraint) (left : List Wire) (before : List PlacedWire) (track at : ℕ) : Type 0 where
  pub placed : List PlacedWire
  pub still : List Wire
  pub reach : Option Wire
  pub sweeps : Sweeps cs left before placed still track reach at

one_more : (cs : List Constraint) (left : List Wire) (before : List PlacedWire) (track at : ℕ) → at < length left → Swept cs left before track at → Swept cs left before track (at + 1)
one_more cs left before track at short s =
    elim (cases_Bool (has_room left cs s.reach (get_or left at blank))) [
      | inl room ↦ record {
        placed = s.placed ++ new ∷ [];
        still = s.still;
        reach = Some (get_or left at blank);
        sweeps = sweeps_put cs left before s.placed (s.placed ++ new ∷ []) s.still s.still track s.reach (Some (get_or left at blank)) at (get_or left at blank) blank short refl room refl refl refl s.sweeps;
      }
      | inr full ↦ record {
        placed = s.placed;
        still = s.still ++ get_or left at blank ∷ [];
        reach = s.reach;
        sweeps = sweeps_skip cs left before s.placed s.placed s.still (s.still ++ get_or left at blank ∷ []) track s.reach s.reach at (get_or left at blank) blank short refl full refl refl refl s.sweeps;
      }
    ]
  where
    new : PlacedWire
    new = record { wire = get_or left at blank; track = track }

swept : (cs : List Constraint) (left : List Wire) (before : List PlacedWire) (track at : ℕ) → at ≤ length left → Swept cs left before track at
swept cs left before track zero short = record { placed = before; still = []; reach = None; sweeps = sweeps_begin cs left before [] track refl }
swept cs left before track (suc at) short = subst (Swept cs left before track) (let e : at + 1 ≡ suc at = omega arith in e) (one_more cs left before track at (omega (arith, short)) (swept cs left before track at (omega (arith, short))))

-- either a wire is put on the track, or all of them wait
record TrackFilled (wires : List Wire) (cs : List Constraint) (left : List Wire) (track : ℕ) : Type 0 where
  pub placed : List PlacedWire
  pub still : List Wire
  pub fewer : length still < length left
  pub filled : IsFilled wires cs placed still (track + 1)

fewer_or_all : (cs : List Constraint) (left still : List Wire) (reach : Option Wire) → HasMoved left cs (length left) still reach → (length still < length left) ⊎ (length still ≡ length left)
fewer_or_all cs left still None h = inr h.0
fewer_or_all cs left still (Some last) h = inl h

one_track : (wires : List Wire) (cs : List Constraint) (left : List Wire) (before : List PlacedWire) (track : ℕ) → IsChannel wires cs → IsFilled wires cs before left track → TrackFilled wires cs left track ⊎ All (λ w. waits left cs w ≡ true) left
one_track wires cs left before track channel filled = by (swept cs left before track (length left) (omega arith))
  where
    by : Swept cs left before track (length left) → TrackFilled wires cs left track ⊎ All (λ w. waits left cs w ≡ true) left
    by s =
        elim (fewer_or_all cs left s.still s.reach s.sweeps.1) [
          | inl fewer ↦ inl (record { placed = s.placed; still = s.still; fewer = fewer; filled = sweeps_end cs left before s.placed s.still track s.reach (length left) refl s.sweeps wires channel filled fewer })
          | inr same ↦ inr (sweeps_stuck cs left before s.placed s.still track s.reach (length left) refl s.sweeps same)
        ]

-- ---- all tracks

pub record AllFilled (wires : List Wire) (cs : List Constraint) : Type 0 where
  pub placed : List PlacedWire
  pub tracks : ℕ
  pub filled : IsFilled wires cs placed [] tracks

-- wires of which each waits for another one
pub record AreStuck (cs : List Constraint) : Type 0 where
  pub left : List Wire
  pub some : 0 < length left
  pub stuck : All (λ w. waits left cs w ≡ true) left

fill : (wires : List Wire) (cs : List Constraint) (most : ℕ) (left : List Wire) (placed : List PlacedWire) (tracks : ℕ) → length left ≤ most → IsChannel wires cs → IsFilled wires cs placed left tracks → AllFilled wires cs ⊎ AreStuck cs
fill wires cs most [] placed tracks few channel filled = inl (record { placed = placed; tracks = tracks; filled = filled })
fill wires cs zero (w ∷ left) placed tracks few channel filled = absurd (omega (arith, few))
fill wires cs (suc most) (w ∷ left) placed tracks few channel filled =
    elim (one_track wires cs (w ∷ left) placed tracks channel filled) [
      | inl more ↦ fill wires cs most more.still more.placed (tracks + 1) (omega (arith, few, more.fewer)) channel more.filled
      | inr stuck ↦ inr (record { left = w ∷ left; some = omega arith; stuck = stuck })
    ]

nothing_yet : (wires : List Wire) (cs : List Constraint) → IsChannel wires cs → IsFilled wires cs [] wires 0
nothing_yet wires cs channel = record {
  part = record {
    all = IsPermutation-refl wires;
    order = channel.order;
    full = λ i less. absurd (omega (arith, less));
    apart = λ a b there. absurd (contains_none a there);
    above = λ t there. absurd (contains_none t there);
    tight = λ t there. absurd (contains_none t there);
    blocked = λ w there i less. absurd (omega (arith, less));
  };
  low = λ t there. absurd (contains_none t there);
}

pub filled_or_stuck : (wires : List Wire) (cs : List Constraint) → IsChannel wires cs → AllFilled wires cs ⊎ AreStuck cs
filled_or_stuck wires cs channel = fill wires cs (length wires) wires [] 0 (omega arith) channel (nothing_yet wires cs channel)
