-- The first legal routing of a placement on some number of tracks.
use Rattle.std.specs.Prelude.{ℕ, ◌≡◌, ◌<◌, ◌⊎◌, List, [], ◌∷◌, map}
use Rattle.cell_num.specs.declared.net.Pins.{Pins}
use Rattle.row_place.specs.declared.placement.Placement.{Placement}
use Rattle.channel_route.specs.declared.routing.Routing.{Routing}
use Rattle.channel_route.specs.Routing.{IsLegal}

-- the tracks of the nets with a trunk, in order of net
abbrev pub tracks_of : Routing → List ℕ
tracks_of routing = map (λ t. t.track) routing.trunks

-- at the first place where they differ the first list has the lower track, or they are the same
abbrev pub IsNoLater : List ℕ → List ℕ → Type 0
IsNoLater [] ys = Unit {0}
IsNoLater (x ∷ xs) [] = ⊥
IsNoLater (x ∷ xs) (y ∷ ys) = (x < y) ⊎ ((x ≡ y) × IsNoLater xs ys)

-- a legal routing on that many tracks
pub record IsRoutingOn (placement : Placement) (pins : Pins) (count : ℕ) (routing : Routing) : Type 0 where
  pub legal : IsLegal placement pins routing
  pub tracks : routing.tracks ≡ count

-- A legal routing on that many tracks. Of any other one the tracks are the same, or at the first net, in order of net,
-- where they differ this one has the lower track.
pub record IsFirstRouting (placement : Placement) (pins : Pins) (count : ℕ) (routing : Routing) : Type 0 where
  pub is : IsRoutingOn placement pins count routing
  pub first : (other : Routing) → IsRoutingOn placement pins count other
      → IsNoLater (tracks_of routing) (tracks_of other)

-- no legal routing has that many tracks
abbrev pub HasNoRouting : Placement → Pins → ℕ → Type 0
HasNoRouting placement pins count = (routing : Routing) → IsRoutingOn placement pins count routing → ⊥
