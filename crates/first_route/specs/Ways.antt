-- Ways to put the wires that are left on tracks, one after the other, beside those that are placed.
use Rattle.std.specs.Prelude.{ℕ, zero, suc, ◌≡◌, ◌<◌, ◌+◌, ◌==◌, ◌&&◌, ◌||◌, ltb, leb, not, cond, Bool, true}
use Rattle.std.specs.Prelude.{List, [], ◌∷◌, ◌++◌, length, Any}
use Rattle.std.specs.List.{list_all, list_any, range_with_len}
use Rattle.channel_route.specs.declared.routing.Trunk.{Trunk}
use Rattle.channel_route.specs.declared.constraint.Constraint.{Constraint}
use Rattle.channel_route.specs.declared.wire.Wire.{Wire}
use Rattle.channel_route.specs.declared.wire.PlacedWire.{PlacedWire}
use Rattle.first_route.specs.First.{IsNoLater}

abbrev pub on_track : Wire → ℕ → PlacedWire
on_track wire track = record { wire = wire; track = track }

-- a wire on the lowest track
abbrev pub low_wire : Wire → PlacedWire
low_wire wire = record { wire = wire; track = 0 }

-- the wire of a trunk; its key is the number of its net
abbrev pub net_wire : Trunk → Wire
net_wire t = record { left = t.left; key = t.net.0; right = t.right; net = t.net }

-- the wires, each on its track
abbrev pub on_tracks : List Wire → List ℕ → List PlacedWire
on_tracks (w ∷ wires) (track ∷ tracks) = on_track w track ∷ on_tracks wires tracks
on_tracks _ _ = []

-- without a line in common
abbrev pub are_apart : Wire → Wire → Bool
are_apart a b = ltb a.right b.left || ltb b.right a.left

-- on different tracks, or of one net, or without a line in common
abbrev pub is_clear : PlacedWire → PlacedWire → Bool
is_clear a b = not (a.track == b.track) || ((a.wire.net.0 == b.wire.net.0) || are_apart a.wire b.wire)

-- where the constraint is between these two, the upper one has the higher track
abbrev pub is_over : Constraint → PlacedWire → PlacedWire → Bool
is_over c upper lower =
    not ((c.upper == upper.wire.key) && (c.lower == lower.wire.key)) || ltb lower.track upper.track

abbrev pub concerns : Constraint → PlacedWire → Bool
concerns c one = (c.upper == one.wire.key) || (c.lower == one.wire.key)

-- the wire and each placed one are as the constraint requires
abbrev pub is_kept : List PlacedWire → PlacedWire → Constraint → Bool
is_kept placed one c = not (concerns c one) || list_all (λ o. is_over c one o && is_over c o one) placed

abbrev pub fits : List Constraint → List PlacedWire → PlacedWire → Bool
fits constraints placed one = list_all (is_clear one) placed && list_all (is_kept placed one) constraints

abbrev pub is_used : List PlacedWire → ℕ → Bool
is_used placed track = list_any (λ t. t.track == track) placed

-- how many of the tracks have no wire
abbrev pub empty_tracks : ℕ → List PlacedWire → ℕ
empty_tracks zero placed = 0
empty_tracks (suc track) placed = empty_tracks track placed + cond (is_used placed track) 0 1

-- the wire fits on some track
abbrev pub has_track : List Constraint → ℕ → List PlacedWire → Wire → Bool
has_track constraints tracks placed w =
    list_any (λ track. fits constraints placed (on_track w track)) (range_with_len 0 tracks)

-- the wires that are left can fill the empty tracks, and each of them fits on some track
abbrev pub is_open : List Constraint → ℕ → List PlacedWire → List Wire → Bool
is_open constraints tracks placed left =
    leb (empty_tracks tracks placed) (length left) && list_all (has_track constraints tracks placed) left

-- every track has a wire
abbrev pub AreFull : ℕ → List PlacedWire → Type 0
AreFull tracks placed = (track : ℕ) → track < tracks → Any (λ t. t.track ≡ track) placed

-- the wires that are left fit on these tracks one after the other, and then every track has a wire
abbrev pub Go : List Constraint → ℕ → List PlacedWire → List Wire → List ℕ → Type 0
Go constraints tracks placed [] [] = AreFull tracks placed
Go constraints tracks placed (w ∷ left) (track ∷ rest) =
    (track < tracks) × (fits constraints placed (on_track w track) ≡ true)
    × Go constraints tracks (placed ++ on_track w track ∷ []) left rest
Go _ _ _ _ _ = ⊥

-- there is no way
abbrev pub Fails : List Constraint → ℕ → List PlacedWire → List Wire → Type 0
Fails constraints tracks placed left = (way : List ℕ) → Go constraints tracks placed left way → ⊥

-- the wires after those that were placed before are on the tracks of the first way
pub record AreFirst (constraints : List Constraint) (tracks : ℕ) (before : List PlacedWire) (left : List Wire)
    (placed : List PlacedWire) : Type 0 where
  pub way : List ℕ
  pub goes : Go constraints tracks before left way
  pub is : placed ≡ before ++ on_tracks left way
  pub first : (other : List ℕ) → Go constraints tracks before left other → IsNoLater way other
