-- What a style asks for: its wiring, of the channel; its taps, of the drawing.
use Rattle.std.specs.Prelude.{ℕ, List, Option, Some, None}
use Rattle.cell_num.specs.declared.net.Pins.{Pins}
use Rattle.box_geom.specs.declared.shape.Shapes.{Shapes}
use Rattle.row_place.specs.declared.placement.Placement.{Placement}
use Rattle.channel_route.specs.declared.ring.Ring.{Ring}
use Rattle.channel_route.specs.declared.ring.Ring.TheVariants.{OfNets, OfPieces}
use Rattle.channel_route.specs.declared.routing.Routing.{Routing}
use Rattle.channel_route.specs.declared.routing.WireAbove.{WireAbove}
use Rattle.channel_route.specs.Cycle.{HasNoCycle, IsCycle}
use Rattle.channel_route.specs.Routing.{IsLegal, IsTight}
use Rattle.channel_route.specs.Told.{IsTold}
use Rattle.scmos_rules.specs.declared.rules.Deck.{Deck}
use Rattle.scmos_rules.specs.declared.rules.Deck.TheVariants as deck
use Rattle.cell_draw.specs.declared.drawing.Drawing.{Drawing}
use Rattle.cell_draw.specs.Shown.{ShowsRouting}
use Rattle.lef_write.specs.declared.port.Port.{Port}
use Rattle.dogleg_route.specs.declared.piece.PieceRouting.{PieceRouting}
use Rattle.dogleg_route.specs.Firsts.{ShowsFirsts}
use Rattle.dogleg_route.specs.PieceCycles.{IsPieceCycle, BeginsFirst, HasNoPieceCycle}
use Rattle.dogleg_route.specs.PieceTold.{IsPieceTold}
use Rattle.dogleg_route.specs.Routings.{ArePiecesLegal, ArePiecesTight}
use Rattle.well_tap.specs.Bodied.{AreBodied}
use Rattle.well_tap.specs.Tapped.{tapped}
use Rattle.lef_write.specs.Drawn.{HasPort, HasPorts}
use Rattle.cell_inputs.specs.declared.style.Taps.{Taps}
use Rattle.cell_inputs.specs.declared.style.Taps.TheVariants.{Without, With}
use Rattle.cell_inputs.specs.declared.style.Wiring.{Wiring}
use Rattle.cell_inputs.specs.declared.style.Wiring.TheVariants.{Straight, Doglegs}

-- ---- by the wiring

-- the trunks as pieces on the same tracks
abbrev pub as_pieces : Routing → PieceRouting
as_pieces routing = record { tracks = routing.tracks; pieces = routing.trunks }

-- no nets, or no pieces of nets, are above each other in a cycle
abbrev pub HasNoRing : Wiring → Placement → Pins → Type 0
HasNoRing Straight placement pins = HasNoCycle placement pins
HasNoRing Doglegs placement pins = HasNoPieceCycle placement pins

-- the routing joins what it has to, and keeps the order of tracks
abbrev pub AreLegal : Wiring → Placement → Pins → Routing → Type 0
AreLegal Straight placement pins routing = IsLegal placement pins routing
AreLegal Doglegs placement pins routing = ArePiecesLegal placement pins (as_pieces routing)

-- each on the least track that is free for it
abbrev pub AreTight : Wiring → Placement → Pins → Routing → Type 0
AreTight Straight placement pins routing = IsTight placement pins routing
AreTight Doglegs placement pins routing = ArePiecesTight placement pins (as_pieces routing)

-- nets, or pieces of nets, are above each other in this cycle
abbrev pub IsRing : Wiring → Placement → Pins → Ring → Type 0
IsRing Straight placement pins (OfNets cycle) = IsCycle placement pins cycle
IsRing Straight placement pins (OfPieces cycle) = ⊥
IsRing Doglegs placement pins (OfNets cycle) = ⊥
IsRing Doglegs placement pins (OfPieces cycle) = IsPieceCycle placement pins cycle

-- a cycle of pieces, written from its first piece on, and the one below the first piece that can't be placed
pub record IsPieceRing (placement : Placement) (pins : Pins) (cycle : List WireAbove) : Type 0 where
  pub is : IsPieceCycle placement pins cycle
  pub first : BeginsFirst placement pins cycle
  pub told : IsPieceTold placement pins cycle

-- the cycle below the first net, or the first piece, that can't be placed
abbrev pub IsToldRing : Wiring → Placement → Pins → Ring → Type 0
IsToldRing Straight placement pins (OfNets cycle) = IsTold placement pins cycle
IsToldRing Straight placement pins (OfPieces cycle) = ⊥
IsToldRing Doglegs placement pins (OfNets cycle) = ⊥
IsToldRing Doglegs placement pins (OfPieces cycle) = IsPieceRing placement pins cycle

-- the labels of the nets are on their tracks; with doglegs where their first pieces begin
abbrev pub ShowsWiring : Wiring → List (List ℕ) → Pins → Placement → List ℕ → Shapes → Routing → Type 0
ShowsWiring Straight names pins placement xs shapes routing = ShowsRouting names pins placement shapes routing
ShowsWiring Doglegs names pins placement xs shapes routing = ShowsFirsts names placement xs shapes routing.trunks

-- what is said of the port of a pin: it is one shape, or with doglegs one or more
abbrev pub HasPinPort : Wiring → List (List ℕ) → List Port → Drawing → ℕ → Type 0
HasPinPort Straight names ports drawing n = HasPort names ports drawing n
HasPinPort Doglegs names ports drawing n = HasPorts names ports drawing n

-- ---- by the taps

-- the design rules, by which nets are read too
abbrev pub deck_of : Taps → Deck
deck_of Without = deck.Plain
deck_of With = deck.Taps

-- the drawing with taps, where there are taps, from the one on these lines
abbrev pub tapped_by : Taps → Drawing → List ℕ → Option Drawing
tapped_by Without drawing xs = None
tapped_by With drawing xs = Some (tapped xs drawing)

-- the drawing as it is written
abbrev pub final : Taps → Drawing → List ℕ → Drawing
final Without drawing xs = drawing
final With drawing xs = tapped xs drawing

-- with taps the body of each device is its row's rail
abbrev pub AreBodiedBy : Taps → List (List ℕ) → Pins → Shapes → Type 0
AreBodiedBy Without names pins shapes = Unit {0}
AreBodiedBy With names pins shapes = AreBodied names pins shapes
