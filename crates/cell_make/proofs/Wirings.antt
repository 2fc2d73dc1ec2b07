-- What the router and the drawing answer, as the wiring asks for it.
use Rattle.std.proofs.Common.{ℕ, ◌≡◌, List, subst, sym}
use Rattle.cell_num.specs.declared.net.Pins.{Pins}
use Rattle.box_geom.specs.declared.shape.Shapes.{Shapes}
use Rattle.row_place.specs.declared.placement.Placement.{Placement}
use Rattle.row_place.specs.Places.{IsPlacement}
use Rattle.channel_route.specs.declared.routing.Routing.{Routing}
use Rattle.channel_route.specs.declared.routing.WireAbove.{WireAbove}
use Rattle.channel_route.specs.Routing.{IsLegal}
use Rattle.channel_route.specs.Wiring.{IsWiring, wiring_of}
use Rattle.channel_route.proofs.LegalWiring.{legal_wiring}
use Rattle.cell_draw.specs.declared.drawing.Drawing.{Drawing}
use Rattle.cell_draw.specs.Drawings.{drawn_of}
use Rattle.cell_draw.specs.Shown.{ShowsRouting}
use Rattle.cell_draw.specs.Sound.{IsSoundRow}
use Rattle.dogleg_route.specs.declared.piece.PieceRouting.{PieceRouting}
use Rattle.dogleg_route.specs.PieceCycles.{IsPieceCycle, BeginsFirst}
use Rattle.dogleg_route.specs.PieceTold.{IsPieceTold}
use Rattle.dogleg_route.specs.Routings.{ArePiecesLegal, ArePiecesTight}
use Rattle.dogleg_route.proofs.FirstLabels.{firsts}
use Rattle.dogleg_route.proofs.Wired.{wired}
use Rattle.cell_inputs.specs.declared.style.Wiring.{Wiring}
use Rattle.cell_inputs.specs.declared.style.Wiring.TheVariants.{Straight, Doglegs}
use Rattle.cell_make.specs.Style.{AreLegal, AreTight, IsPieceRing, ShowsWiring, as_pieces}

abbrev pub as_trunks : PieceRouting → Routing
as_trunks r = record { tracks = r.tracks; trunks = r.pieces }

pub pieces_legal : (w : Wiring) (p : Placement) (pins : Pins) (r : PieceRouting) → w ≡ Doglegs → ArePiecesLegal p pins r → AreLegal w p pins (as_trunks r)
pieces_legal w p pins r e h = subst (λ z. AreLegal z p pins (as_trunks r)) (sym e) h

pub pieces_tight : (w : Wiring) (p : Placement) (pins : Pins) (r : PieceRouting) → w ≡ Doglegs → ArePiecesTight p pins r → AreTight w p pins (as_trunks r)
pieces_tight w p pins r e h = subst (λ z. AreTight z p pins (as_trunks r)) (sym e) h

pub piece_ring : (p : Placement) (pins : Pins) (cycle : List WireAbove) → IsPieceCycle p pins cycle × BeginsFirst p pins cycle → IsPieceTold p pins cycle → IsPieceRing p pins cycle
piece_ring p pins cycle c t = record { is = c.0; first = c.1; told = t }

-- a routing of either wiring is a wiring
pub wired_by : (w : Wiring) (p : Placement) (pins : Pins) (r : Routing) → AreLegal w p pins r → IsWiring p pins r
wired_by Straight p pins r legal = legal_wiring p pins r legal
wired_by Doglegs p pins r legal = wired p pins (as_pieces r) legal

pub straight_legal : (w : Wiring) (p : Placement) (pins : Pins) (r : Routing) → w ≡ Straight → AreLegal w p pins r → IsLegal p pins r
straight_legal w p pins r e h = subst (λ z. AreLegal z p pins r) e h

pub wired_so : (w : Wiring) (p : Placement) (pins : Pins) (r : Routing) → AreLegal w p pins r → IsWiring p pins (wiring_of r.tracks r.trunks)
wired_so w p pins r h = wired_by w p pins r h

pub shows_straight : (w : Wiring) (names : List (List ℕ)) (pins : Pins) (p : Placement) (xs : List ℕ) (shapes : Shapes) (r : Routing) → w ≡ Straight → ShowsRouting names pins p shapes r → ShowsWiring w names pins p xs shapes r
shows_straight w names pins p xs shapes r e h = subst (λ z. ShowsWiring z names pins p xs shapes r) (sym e) h

pub shows_doglegs : (w : Wiring) (d : Drawing) (names : List (List ℕ)) (pins : Pins) (p : Placement) (r : Routing) (xs : List ℕ) (height : ℕ) → w ≡ Doglegs → d ≡ drawn_of names pins p (wiring_of r.tracks r.trunks) xs height → IsPlacement p → IsSoundRow names pins p.row → AreLegal w p pins r → ShowsWiring w names pins p xs d.shapes r
shows_doglegs w d names pins p r xs height e exact is row h = subst (λ z. ShowsWiring z names pins p xs d.shapes r) (sym e) (firsts d names pins p (as_pieces r) xs height exact is row (subst (λ z. AreLegal z p pins r) e h))
