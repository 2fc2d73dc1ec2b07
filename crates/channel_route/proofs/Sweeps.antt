-- The loop over the wires that are left.
use Rattle.std.proofs.Common.{ℕ, zero, suc, ◌≡◌, ◌+◌, ◌<◌, ◌≤◌, ◌++◌, Bool, true, false, List, [], ◌∷◌, Option, Some, None, length, inl, inr, refl, sym, ap, subst, arith, All, length-append, take_all, drop, get_or, add-one}
use Rattle.std.proofs.Math.Seq.{drop-cons}
use Rattle.std.proofs.lemmas.List.Elements.{All-more}
use Rattle.channel_route.specs.declared.wire.PlacedWire.{PlacedWire}
use Rattle.channel_route.specs.declared.wire.Wire.{Wire}
use Rattle.channel_route.specs.declared.constraint.Constraint.{Constraint}
use Rattle.channel_route.specs.Graph.{IsChannel, IsFilled, waits, has_room, HasMoved}
use Rattle.channel_route.proofs.Filling.{IsSweep, begun, skip, put, ended}
use Rattle.channel_route.proofs.Room.{no_room}

-- progress
pub moved_put : (left : List Wire) (cs : List Constraint) (at : ℕ) (still : List Wire) (reach : Option Wire) (line : Wire) → HasMoved left cs at still reach → HasMoved left cs (at + 1) still (Some line)
moved_put left cs at still None line h = omega (arith, h.0)
moved_put left cs at still (Some r) line h = omega (arith, h)

pub moved_skip : (left : List Wire) (cs : List Constraint) (at : ℕ) (still : List Wire) (reach : Option Wire) (w d : Wire) → at < length left → get_or left at d ≡ w → has_room left cs reach w ≡ false → HasMoved left cs at still reach → HasMoved left cs (at + 1) (still ++ w ∷ []) reach
moved_skip left cs at still (Some r) w d short is full h = omega (arith, h, length-append still (w ∷ []))
moved_skip left cs at still None w d short is full h =
    (omega (arith, h.0, length-append still (w ∷ [])), All-more (λ z. waits left cs z ≡ true) left at d short h.1 (subst (λ z. waits left cs z ≡ true) (sym is) held))
  where
    held : waits left cs w ≡ true
    held = elim (no_room (waits left cs w) true full) [ inl yes' ↦ yes' | inr no' ↦ absurd (let wrong : ◌≡◌ {A = Bool} true false = no' in cc) ]

pub ended_some : (wires : List Wire) (cs : List Constraint) (left : List Wire) (trunks : List PlacedWire) (still : List Wire) (track : ℕ) (reach : Option Wire) → HasMoved left cs (length left) still reach → length still < length left → IsSweep wires cs left trunks still [] track reach → IsFilled wires cs trunks still (track + 1)
ended_some wires cs left trunks still track None moved fewer s = absurd (omega (arith, moved.0, fewer))
ended_some wires cs left trunks still track (Some reach) moved fewer s = ended wires cs left trunks still track reach s

pub moved_stuck : (left : List Wire) (cs : List Constraint) (still : List Wire) (reach : Option Wire) → HasMoved left cs (length left) still reach → length still ≡ length left → All (λ z. waits left cs z ≡ true) left
moved_stuck left cs still None h e = subst (λ ws. All (λ z. waits left cs z ≡ true) ws) (take_all (length left) left (omega arith)) h.1
moved_stuck left cs still (Some r) h e = absurd (omega (arith, h, e))

-- the loop over the wires
abbrev pub Sweeps : List Constraint → List Wire → List PlacedWire → List PlacedWire → List Wire → ℕ → Option Wire → ℕ → Type 0
Sweeps cs left before trunks still track reach at =
    ((wires : List Wire) → IsChannel wires cs → IsFilled wires cs before left track → IsSweep wires cs left trunks still (drop at left) track reach)
    × HasMoved left cs at still reach

drop_more : (left : List Wire) (at : ℕ) (w d : Wire) → at < length left → get_or left at d ≡ w → drop at left ≡ w ∷ drop (at + 1) left
drop_more left at w d short is = rw (add-one at) (subst (λ z. drop at left ≡ z ∷ drop (suc at) left) is (drop-cons left at d short))

pub sweeps_begin : (cs : List Constraint) (left : List Wire) (trunks : List PlacedWire) (still : List Wire) (track : ℕ) → still ≡ [] → Sweeps cs left trunks trunks still track None 0
sweeps_begin cs left trunks still track none = (
  λ wires channel filled. subst (λ ws. IsSweep wires cs left trunks ws left track None) (sym none) (begun wires cs left trunks track channel filled),
  (ap length none, λ k d short. absurd (omega (arith, short))),
)

pub sweeps_put : (cs : List Constraint) (left : List Wire) (before trunks trunks' : List PlacedWire) (still still' : List Wire) (track : ℕ) (reach reach' : Option Wire) (at : ℕ) (w d : Wire) → at < length left → get_or left at d ≡ w → has_room left cs reach w ≡ true → trunks' ≡ trunks ++ (let t : PlacedWire = record { wire = w; track = track } in t) ∷ [] → still' ≡ still → reach' ≡ Some w → Sweeps cs left before trunks still track reach at → Sweeps cs left before trunks' still' track reach' (at + 1)
sweeps_put cs left before trunks trunks' still still' track reach reach' at w d short is room pushed same now h =
    subst (λ r. Sweeps cs left before trunks' still' track r (at + 1)) (sym now)
    (subst (λ ws. Sweeps cs left before trunks' ws track (Some w) (at + 1)) (sym same)
    (subst (λ ts. Sweeps cs left before ts still track (Some w) (at + 1)) (sym pushed) (
      λ wires channel filled. put wires cs left trunks still w (drop (at + 1) left) track reach channel (subst (λ ws. IsSweep wires cs left trunks still ws track reach) (drop_more left at w d short is) (h.0 wires channel filled)) room,
      moved_put left cs at still reach w h.1,
    )))

pub sweeps_skip : (cs : List Constraint) (left : List Wire) (before trunks trunks' : List PlacedWire) (still still' : List Wire) (track : ℕ) (reach reach' : Option Wire) (at : ℕ) (w d : Wire) → at < length left → get_or left at d ≡ w → has_room left cs reach w ≡ false → trunks' ≡ trunks → still' ≡ still ++ w ∷ [] → reach' ≡ reach → Sweeps cs left before trunks still track reach at → Sweeps cs left before trunks' still' track reach' (at + 1)
sweeps_skip cs left before trunks trunks' still still' track reach reach' at w d short is full same pushed now h =
    subst (λ r. Sweeps cs left before trunks' still' track r (at + 1)) (sym now)
    (subst (λ ws. Sweeps cs left before trunks' ws track reach (at + 1)) (sym pushed)
    (subst (λ ts. Sweeps cs left before ts (still ++ w ∷ []) track reach (at + 1)) (sym same) (
      λ wires channel filled. skip wires cs left trunks still w (drop (at + 1) left) track reach channel (subst (λ ws. IsSweep wires cs left trunks still ws track reach) (drop_more left at w d short is) (h.0 wires channel filled)) full,
      moved_skip left cs at still reach w d short is full h.1,
    )))

drop_all : (left : List Wire) (at : ℕ) → length left ≤ at → drop at left ≡ []
drop_all [] zero h = refl
drop_all [] (suc at) h = refl
drop_all (x ∷ xs) zero h = absurd (omega (arith, h))
drop_all (x ∷ xs) (suc at) h = drop_all xs at (omega (arith, h))

pub sweeps_end : (cs : List Constraint) (left : List Wire) (before trunks : List PlacedWire) (still : List Wire) (track : ℕ) (reach : Option Wire) (at : ℕ) → at ≡ length left → Sweeps cs left before trunks still track reach at → (wires : List Wire) → IsChannel wires cs → IsFilled wires cs before left track → length still < length left → IsFilled wires cs trunks still (track + 1)
sweeps_end cs left before trunks still track reach at end h wires channel filled fewer =
    ended_some wires cs left trunks still track reach (subst (λ n. HasMoved left cs n still reach) end h.1) fewer (subst (λ ws. IsSweep wires cs left trunks still ws track reach) (drop_all left at (omega (arith, end))) (h.0 wires channel filled))

pub sweeps_stuck : (cs : List Constraint) (left : List Wire) (before trunks : List PlacedWire) (still : List Wire) (track : ℕ) (reach : Option Wire) (at : ℕ) → at ≡ length left → Sweeps cs left before trunks still track reach at → length still ≡ length left → All (λ z. waits left cs z ≡ true) left
sweeps_stuck cs left before trunks still track reach at end h same = moved_stuck left cs still reach (subst (λ n. HasMoved left cs n still reach) end h.1) same
