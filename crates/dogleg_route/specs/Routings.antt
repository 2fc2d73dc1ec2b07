-- Legal and tight routings of pieces.
use Rattle.std.specs.Prelude.{ℕ, ◌≡◌, ◌≢◌, ◌<◌, ◌⊎◌, ◌↔◌, List, All, AllPairs, Any, Contains}
use Rattle.cell_num.specs.declared.net.NetNo.{NetNo}
use Rattle.cell_num.specs.declared.net.Pins.{Pins}
use Rattle.row_place.specs.declared.placement.Placement.{Placement}
use Rattle.row_place.specs.Trunks.{HasTrunk, IsAbove}
use Rattle.channel_route.specs.declared.routing.Trunk.{Trunk}
use Rattle.channel_route.specs.declared.routing.Routing.{Routing}
use Rattle.channel_route.specs.Routing.{AreApart}
use Rattle.dogleg_route.specs.declared.piece.PieceRouting.{PieceRouting}
use Rattle.dogleg_route.specs.Pieces.{IsPiece}

-- the piece goes from one line to the other
pub record GoesOver (net : NetNo) (left right : ℕ) (t : Trunk) : Type 0 where
  pub of : t.net ≡ net
  pub begins : t.left ≡ left
  pub ends : t.right ≡ right

abbrev pub EndsAt : Trunk → ℕ → Type 0
EndsAt t line = (t.left ≡ line) ⊎ (t.right ≡ line)

-- at a line at which both end the net of the one is above that of the other
pub record IsPieceAbove (placement : Placement) (pins : Pins) (upper lower : Trunk) (line : ℕ) : Type 0 where
  pub over : IsAbove placement pins upper.net lower.net line
  pub upper_ends : EndsAt upper line
  pub lower_ends : EndsAt lower line

-- in order of net, then first line
abbrev pub StandsEarlier : Trunk → Trunk → Type 0
StandsEarlier a b = (a.net.0 < b.net.0) ⊎ ((a.net ≡ b.net) × (a.left < b.left))

-- Each net that needs a trunk has pieces, and each of its pieces is there once; pieces of different nets on one
-- track have no line in common; a piece that is above another has the higher track; every track has a piece.
pub record ArePiecesLegal (placement : Placement) (pins : Pins) (routing : PieceRouting) : Type 0 where
  pub nets : (net : NetNo) → HasTrunk placement pins net ↔ Any (λ t. t.net ≡ net) routing.pieces
  pub pieces : (net : NetNo) (left right : ℕ) →
      IsPiece placement pins net left right ↔ Any (GoesOver net left right) routing.pieces
  pub order : AllPairs StandsEarlier routing.pieces
  pub apart : (a b : Trunk) → Contains routing.pieces a → Contains routing.pieces b → a.net ≢ b.net →
      a.track ≡ b.track → AreApart a b
  pub above : (a b : Trunk) → Contains routing.pieces a → Contains routing.pieces b → (line : ℕ) →
      IsPieceAbove placement pins a b line → b.track < a.track
  pub tracks : All (λ t. t.track < routing.tracks) routing.pieces
  pub full : (track : ℕ) → track < routing.tracks → Any (λ t. t.track ≡ track) routing.pieces

-- the order of first line, then last line, then net
abbrev pub IsPieceEarlier : Trunk → Trunk → Type 0
IsPieceEarlier a b =
    (a.left < b.left) ⊎ ((a.left ≡ b.left) × ((a.right < b.right) ⊎ ((a.right ≡ b.right) × (a.net.0 < b.net.0))))

-- On this track the piece would be above each that it has to, and would share no line with an earlier one
-- of another net.
pub record IsPieceFree (placement : Placement) (pins : Pins) (pieces : List Trunk) (t : Trunk) (track : ℕ)
    : Type 0 where
  pub above : (b : Trunk) → Contains pieces b → (line : ℕ) → IsPieceAbove placement pins t b line → b.track < track
  pub clear : (o : Trunk) → Contains pieces o → o.track ≡ track → o.net ≢ t.net → IsPieceEarlier o t → AreApart o t

-- each piece is on the least track that is free for it
abbrev pub ArePiecesTight : Placement → Pins → PieceRouting → Type 0
ArePiecesTight placement pins routing =
    (t : Trunk) → Contains routing.pieces t → IsPieceFree placement pins routing.pieces t t.track
    × ((track : ℕ) → track < t.track → IsPieceFree placement pins routing.pieces t track → ⊥)

-- the pieces as trunks on the same tracks
abbrev pub as_routing : PieceRouting → Routing
as_routing routing = record { tracks = routing.tracks; trunks = routing.pieces }
