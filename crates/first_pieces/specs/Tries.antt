-- How many tries there are to put pieces on tracks. A try is a piece that is put on a track.
use Rattle.std.specs.Prelude.{ℕ, ◌≡◌, ◌<◌, ◌+◌, List, []}
use Rattle.cell_num.specs.declared.net.Pins.{Pins}
use Rattle.row_place.specs.declared.placement.Placement.{Placement}
use Rattle.channel_route.specs.declared.wire.Wire.{Wire}
use Rattle.channel_route.specs.Wires.{constraints_of}
use Rattle.first_route.specs.Tries.{tries}
use Rattle.dogleg_route.specs.PieceWires.{ArePieceWires}

-- all tries to put the pieces of a placement, in order of first line, last line, net, on that many tracks
pub record AreAllPieceTries (placement : Placement) (pins : Pins) (count all : ℕ) : Type 0 where
  pub wires : List Wire
  pub wired : ArePieceWires placement pins wires
  pub are : all ≡ tries (constraints_of wires placement.nodes) count [] wires

-- all tries were made, of those that the budget had before
abbrev pub WerePieceTriesMade : Placement → Pins → ℕ → ℕ → ℕ → Type 0
WerePieceTriesMade placement pins count before now =
    (all : ℕ) × AreAllPieceTries placement pins count all × (before ≡ now + all)

-- there are more tries than the budget has
abbrev pub AreMorePieceTries : Placement → Pins → ℕ → ℕ → Type 0
AreMorePieceTries placement pins count budget = (all : ℕ) × AreAllPieceTries placement pins count all × (budget < all)
