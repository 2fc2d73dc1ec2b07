-- Routings by pieces on tracks below a limit.
use Rattle.std.specs.Prelude.{ℕ, ◌≡◌, ◌≢◌, ◌<◌, ◌↔◌, List, All, AllPairs, Any, Contains}
use Rattle.cell_num.specs.declared.net.NetNo.{NetNo}
use Rattle.cell_num.specs.declared.net.Pins.{Pins}
use Rattle.row_place.specs.declared.placement.Placement.{Placement}
use Rattle.row_place.specs.Trunks.{HasTrunk}
use Rattle.channel_route.specs.declared.routing.Trunk.{Trunk}
use Rattle.channel_route.specs.Routing.{AreApart}
use Rattle.dogleg_route.specs.declared.piece.PieceRouting.{PieceRouting}
use Rattle.dogleg_route.specs.Pieces.{IsPiece}
use Rattle.dogleg_route.specs.Routings.{GoesOver, IsPieceAbove, StandsEarlier}

-- The pieces of the nets that need trunks, on tracks below a limit. They are legal but for one thing: some tracks may
-- be empty.
pub record ArePiecesWithin (placement : Placement) (pins : Pins) (limit : ℕ) (list : List Trunk) : Type 0 where
  pub nets : (net : NetNo) → HasTrunk placement pins net ↔ Any (λ t. t.net ≡ net) list
  pub pieces : (net : NetNo) (left right : ℕ)
      → IsPiece placement pins net left right ↔ Any (GoesOver net left right) list
  pub order : AllPairs StandsEarlier list
  pub low : All (λ t. t.track < limit) list
  pub apart : (a b : Trunk) → Contains list a → Contains list b → a.net ≢ b.net → a.track ≡ b.track → AreApart a b
  pub above : (a b : Trunk) → Contains list a → Contains list b → (line : ℕ)
      → IsPieceAbove placement pins a b line → b.track < a.track

-- pieces on so many tracks
abbrev pub routing_on : ℕ → List Trunk → PieceRouting
routing_on tracks list = record { tracks = tracks; pieces = list }
