-- The pieces of a placement as wires of a channel.
use Rattle.std.specs.Prelude.{ℕ, ◌≡◌, ◌<◌, ◌⊎◌, List, All, AllPairs, Any}
use Rattle.cell_num.specs.declared.net.NetNo.{NetNo}
use Rattle.cell_num.specs.declared.net.Pins.{Pins}
use Rattle.row_place.specs.declared.placement.Placement.{Placement}
use Rattle.row_place.specs.Trunks.{HasTrunk}
use Rattle.channel_route.specs.declared.wire.Wire.{Wire}
use Rattle.dogleg_route.specs.Pieces.{IsPiece}

-- the wire goes over a piece
abbrev pub IsPieceWire : Placement → Pins → Wire → Type 0
IsPieceWire placement pins w = IsPiece placement pins w.net w.left w.right

-- of the net, from one line to the other
pub record IsBetween (net : NetNo) (left right : ℕ) (w : Wire) : Type 0 where
  pub of : w.net ≡ net
  pub begins : w.left ≡ left
  pub ends : w.right ≡ right

-- the order of first line, then last line, then net; keys rise with it
pub record ComesBefore (a b : Wire) : Type 0 where
  pub lines :
      (a.left < b.left) ⊎ ((a.left ≡ b.left) × ((a.right < b.right) ⊎ ((a.right ≡ b.right) × (a.net.0 < b.net.0))))
  pub keys : a.key < b.key

-- A wire for each piece, in order.
pub record ArePieceWires (placement : Placement) (pins : Pins) (wires : List Wire) : Type 0 where
  pub each : All (IsPieceWire placement pins) wires
  pub all : (net : NetNo) (left right : ℕ) → IsPiece placement pins net left right →
      Any (IsBetween net left right) wires
  pub nets : (net : NetNo) → HasTrunk placement pins net → Any (λ w. w.net ≡ net) wires
  pub order : AllPairs ComesBefore wires
