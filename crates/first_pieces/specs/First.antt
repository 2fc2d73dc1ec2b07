-- The first legal routing by pieces of a placement on some number of tracks.
use Rattle.std.specs.Prelude.{ℕ, ◌≡◌, ◌<◌, ◌⊎◌, List, Contains}
use Rattle.cell_num.specs.declared.net.Pins.{Pins}
use Rattle.row_place.specs.declared.placement.Placement.{Placement}
use Rattle.channel_route.specs.declared.routing.Trunk.{Trunk}
use Rattle.dogleg_route.specs.declared.piece.PieceRouting.{PieceRouting}
use Rattle.dogleg_route.specs.Routings.{ArePiecesLegal, IsPieceEarlier}

-- a legal routing by pieces on that many tracks
pub record ArePiecesOn (placement : Placement) (pins : Pins) (count : ℕ) (routing : PieceRouting) : Type 0 where
  pub legal : ArePiecesLegal placement pins routing
  pub tracks : routing.tracks ≡ count

-- the same piece, whatever its tracks
pub record IsSamePiece (a b : Trunk) : Type 0 where
  pub net : a.net ≡ b.net
  pub left : a.left ≡ b.left
  pub right : a.right ≡ b.right

-- A piece has a lower track in the first list than in the second one. Each piece that comes before it, in order of
-- first line, last line, net, has the same track in both.
pub record IsLowerAt (a b : List Trunk) : Type 0 where
  pub piece : Trunk
  pub there : Contains a piece
  pub other : Trunk
  pub other_there : Contains b other
  pub same : IsSamePiece piece other
  pub lower : piece.track < other.track
  pub before : (t u : Trunk) → Contains a t → Contains b u → IsSamePiece t u → IsPieceEarlier t piece →
      t.track ≡ u.track

-- the routings are the same, or at the first piece where they differ the first one has the lower track
abbrev pub ComesFirst : PieceRouting → PieceRouting → Type 0
ComesFirst a b = (a ≡ b) ⊎ IsLowerAt a.pieces b.pieces

-- A legal routing by pieces on that many tracks. Any other one is the same, or at the first piece where they differ
-- this one has the lower track.
pub record IsFirstPieces (placement : Placement) (pins : Pins) (count : ℕ) (routing : PieceRouting) : Type 0 where
  pub is : ArePiecesOn placement pins count routing
  pub first : (other : PieceRouting) → ArePiecesOn placement pins count other → ComesFirst routing other

-- no legal routing by pieces has that many tracks
abbrev pub HasNoPieces : Placement → Pins → ℕ → Type 0
HasNoPieces placement pins count = (routing : PieceRouting) → ArePiecesOn placement pins count routing → ⊥
