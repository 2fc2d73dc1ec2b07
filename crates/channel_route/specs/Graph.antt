-- The channel as wires and constraints, and what stands when the tracks below one are full.
use Rattle.std.specs.Prelude.{ℕ, ◌≡◌, ◌≢◌, ◌<◌, ◌≤◌, ◌⊎◌, ◌++◌, ◌&&◌, ◌||◌, ◌==◌, ltb, not, Bool, true, List, Option}
use Rattle.std.specs.Prelude.{Some, None, map, length, take, count_by, All, AllPairs, Any, Contains, IsPermutation, []}
use Rattle.std.specs.List.{list_any}
use Rattle.channel_route.specs.declared.routing.Trunk.{Trunk}
use Rattle.channel_route.specs.declared.wire.Wire.{Wire}
use Rattle.channel_route.specs.declared.wire.PlacedWire.{PlacedWire}
use Rattle.channel_route.specs.declared.constraint.Constraint.{Constraint}
use Rattle.channel_route.specs.declared.sweep.Filled.{Filled}
use Rattle.channel_route.specs.declared.sweep.Filled.TheVariants.{Done, Stuck}
use Rattle.channel_route.specs.Routing.{AreApart}

abbrev pub wire_of : PlacedWire → Wire
wire_of placed = placed.wire

abbrev pub trunk_of : PlacedWire → Trunk
trunk_of placed =
    record { net = placed.wire.net; left = placed.wire.left; right = placed.wire.right; track = placed.track }

-- the order of first line, then key
abbrev pub IsBefore : Wire → Wire → Type 0
IsBefore a b = (a.left < b.left) ⊎ ((a.left ≡ b.left) × (a.key < b.key))

-- no two wires of one key
abbrev pub AreDistinct : List Wire → Type 0
AreDistinct wires = (n : ℕ) → count_by (λ w. w.key == n) wires ≤ 1

-- Wires in order, each with a key of its own, and constraints between their keys. Of two wires of one
-- net the earlier one ends where the later one begins, or before.
pub record IsChannel (wires : List Wire) (constraints : List Constraint) : Type 0 where
  pub distinct : AreDistinct wires
  pub order : AllPairs IsBefore wires
  pub spans : All (λ w. w.left ≤ w.right) wires
  pub stacked : (a b : Wire) → Contains wires a → Contains wires b → a.net ≡ b.net → IsBefore a b → a.right ≤ b.left
  pub lower : (c : Constraint) → Contains constraints c → Any (λ w. w.key ≡ c.lower) wires

-- a wire of another net on the track that comes before the wire and shares its first line
pub record IsCrossed (placed : List PlacedWire) (w : Wire) (track : ℕ) : Type 0 where
  pub one : PlacedWire
  pub there : Contains placed one
  pub on : one.track ≡ track
  pub before : IsBefore one.wire w
  pub other : one.wire.net ≢ w.net
  pub reaches : w.left ≤ one.wire.right

-- one that the wire stands above is not below the track
pub record IsHeld (constraints : List Constraint) (placed : List PlacedWire) (w : Wire) (track : ℕ) : Type 0 where
  pub constraint : Constraint
  pub there : Contains constraints constraint
  pub upper : constraint.upper ≡ w.key
  pub not_below : (b : PlacedWire) → Contains placed b → b.wire.key ≡ constraint.lower → track ≤ b.track

-- the wire can not stand on the track
abbrev pub IsBlocked : List Constraint → List PlacedWire → Wire → ℕ → Type 0
IsBlocked constraints placed w track = IsCrossed placed w track ⊎ IsHeld constraints placed w track

-- the wire of the key stands below the track
pub record HasWireBelow (placed : List PlacedWire) (key : ℕ) (track : ℕ) : Type 0 where
  pub one : PlacedWire
  pub there : Contains placed one
  pub is : one.wire.key ≡ key
  pub low : one.track < track

-- What holds of the wires that are placed and those that are left: each wire is one of them, the tracks
-- below this one are full, legal and tight, and no wire that is left could stand on one of them.
pub record IsPartial (wires : List Wire) (constraints : List Constraint) (placed : List PlacedWire) (left : List Wire)
    (track : ℕ) : Type 0 where
  pub all : IsPermutation wires (map wire_of placed ++ left)
  pub order : AllPairs IsBefore left
  pub full : (i : ℕ) → i < track → Any (λ t. t.track ≡ i) placed
  pub apart : (a b : PlacedWire) → Contains placed a → Contains placed b → a.wire.net ≢ b.wire.net → a.track ≡ b.track →
      AreApart (trunk_of a) (trunk_of b)
  pub above : (t : PlacedWire) → Contains placed t → (c : Constraint) → Contains constraints c → c.upper ≡ t.wire.key →
      HasWireBelow placed c.lower t.track
  pub tight : (t : PlacedWire) → Contains placed t → (i : ℕ) → i < t.track → IsBlocked constraints placed t.wire i
  pub blocked : (w : Wire) → Contains left w → (i : ℕ) → i < track → IsBlocked constraints placed w i

pub record IsFilled (wires : List Wire) (constraints : List Constraint) (placed : List PlacedWire) (left : List Wire)
    (track : ℕ) : Type 0 where
  pub part : IsPartial wires constraints placed left track
  pub low : (t : PlacedWire) → Contains placed t → t.track < track

-- a wire of the key
abbrev pub has_key : List Wire → ℕ → Bool
has_key wires key = list_any (λ w. w.key == key) wires

-- a wire that stands above one that is left
abbrev pub waits : List Wire → List Constraint → Wire → Bool
waits left constraints w = list_any (λ c. (c.upper == w.key) && has_key left c.lower) constraints

-- behind the last wire of a track, or where it ends and is of the same net
abbrev pub starts_behind : Option Wire → Wire → Bool
starts_behind None w = true
starts_behind (Some last) w = ltb last.right w.left || ((last.right == w.left) && (last.net.0 == w.net.0))

abbrev pub has_room : List Wire → List Constraint → Option Wire → Wire → Bool
has_room left constraints last w = not (waits left constraints w) && starts_behind last w

-- either a wire was put on the track, or each one so far waits
abbrev pub HasMoved : List Wire → List Constraint → ℕ → List Wire → Option Wire → Type 0
HasMoved left constraints at still None =
    (length still ≡ at) × All (λ w. waits left constraints w ≡ true) (take at left)
HasMoved left constraints at still (Some last) = length still < at

-- what filling tracks comes to
abbrev pub IsOutcome : List Wire → List Constraint → Filled → Type 0
IsOutcome wires constraints (Done placed tracks) = IsFilled wires constraints placed.items [] tracks
IsOutcome wires constraints (Stuck left) =
    (0 < length left.items) × All (λ w. waits left.items constraints w ≡ true) left.items × (placed : List PlacedWire)
    × (tracks : ℕ) × IsFilled wires constraints placed left.items tracks
