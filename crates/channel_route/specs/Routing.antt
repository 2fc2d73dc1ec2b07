-- Legal and tight routings of the channel between the rows, and their density.
use Rattle.std.specs.Prelude.{ℕ, ◌≡◌, ◌≢◌, ◌<◌, ◌≤◌, ◌⊎◌, ◌↔◌, ◌&&◌, leb, Bool}
use Rattle.std.specs.Prelude.{List, count_by, All, AllPairs, Any, Contains}
use Rattle.cell_num.specs.declared.net.NetNo.{NetNo}
use Rattle.cell_num.specs.declared.net.Pins.{Pins}
use Rattle.row_place.specs.declared.placement.Placement.{Placement}
use Rattle.row_place.specs.Trunks.{HasTrunk, IsSpan, IsAbove}
use Rattle.channel_route.specs.declared.routing.Trunk.{Trunk}
use Rattle.channel_route.specs.declared.routing.Routing.{Routing}

-- two trunks have no line in common
abbrev pub AreApart : Trunk → Trunk → Type 0
AreApart a b = (a.right < b.left) ⊎ (b.right < a.left)

-- Each net with a trunk has exactly one, from its first to its last line; the trunks of one track have
-- no line in common; a net that stands above another has the higher track; every track has a trunk.
-- Trunks are in order of net.
pub record IsLegal (placement : Placement) (pins : Pins) (routing : Routing) : Type 0 where
  pub nets : (net : NetNo) → HasTrunk placement pins net ↔ Any (λ t. t.net ≡ net) routing.trunks
  pub order : AllPairs (λ a b. a.net.0 < b.net.0) routing.trunks
  pub spans : All (λ t. IsSpan placement t.net t.left t.right) routing.trunks
  pub apart : (a b : Trunk) → Contains routing.trunks a → Contains routing.trunks b → a.net ≢ b.net →
      a.track ≡ b.track → AreApart a b
  pub above : (a b : Trunk) → Contains routing.trunks a → Contains routing.trunks b → (line : ℕ) →
      IsAbove placement pins a.net b.net line → b.track < a.track
  pub tracks : All (λ t. t.track < routing.tracks) routing.trunks
  pub full : (track : ℕ) → track < routing.tracks → Any (λ t. t.track ≡ track) routing.trunks

-- the one with the smaller first line comes earlier, or else the one with the lesser net
abbrev pub IsEarlier : Trunk → Trunk → Type 0
IsEarlier a b = (a.left < b.left) ⊎ ((a.left ≡ b.left) × (a.net.0 < b.net.0))

-- On this track the trunk would stand above each that it has to, and would share no line with an
-- earlier one.
pub record IsFree (placement : Placement) (pins : Pins) (trunks : List Trunk) (t : Trunk) (track : ℕ) : Type 0 where
  pub above : (b : Trunk) → Contains trunks b → (line : ℕ) → IsAbove placement pins t.net b.net line → b.track < track
  pub clear : (o : Trunk) → Contains trunks o → o.track ≡ track → IsEarlier o t → AreApart o t

-- each trunk stands on the least track that is free for it
abbrev pub IsTight : Placement → Pins → Routing → Type 0
IsTight placement pins routing =
    (t : Trunk) → Contains routing.trunks t → IsFree placement pins routing.trunks t t.track
    × ((track : ℕ) → track < t.track → IsFree placement pins routing.trunks t track → ⊥)

-- some routing is legal and tight
pub record HasTightRouting (placement : Placement) (pins : Pins) : Type 0 where
  pub routing : Routing
  pub legal : IsLegal placement pins routing
  pub tight : IsTight placement pins routing

-- no net stands above another
abbrev pub HasNoAbove : Placement → Pins → Type 0
HasNoAbove placement pins = (upper lower : NetNo) (line : ℕ) → IsAbove placement pins upper lower line → ⊥

-- the line lies between the ends of the trunk, or at one of them
abbrev pub holds_line : ℕ → Trunk → Bool
holds_line line t = leb t.left line && leb line t.right

-- the greatest number of trunks that hold one line
pub record IsDensity (trunks : List Trunk) (density : ℕ) : Type 0 where
  pub most : (line : ℕ) → count_by (holds_line line) trunks ≤ density
  pub line : ℕ
  pub there : count_by (holds_line line) trunks ≡ density
