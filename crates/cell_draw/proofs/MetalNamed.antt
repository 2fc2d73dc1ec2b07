-- Rails and trunks are in the nets that their names say.
use Rattle.std.proofs.Common.{ℕ, ℤ, List, length, refl, Contains}
use Rattle.cell_num.specs.declared.net.Pins.{Pins}
use Rattle.cell_num.specs.Pins.{ArePins}
use Rattle.cell_num.proofs.In.{contains_map}
use Rattle.row_place.specs.declared.placement.Placement.{Placement}
use Rattle.row_place.specs.Places.{IsPlacement}
use Rattle.channel_route.specs.declared.routing.Trunk.{Trunk}
use Rattle.channel_route.specs.declared.routing.Routing.{Routing}
use Rattle.channel_route.specs.Wiring.{IsWiring}
use Rattle.row_compact.specs.Allowed.{AreAllowed, stretches_of}
use Rattle.box_geom.specs.Rectangle.{Holds}
use Rattle.scmos_rules.specs.declared.rules.Deck.TheVariants.{Plain}
use Rattle.net_extract.specs.Nets.{site_at}
use Rattle.net_extract.specs.declared.piece.Conductor.TheVariants.{Metal1}
use Rattle.net_extract.specs.Labels.{IsNamed}
use Rattle.cell_draw.specs.declared.layout.Frame.{Frame}
use Rattle.cell_draw.specs.Drawings.{drawn_of}
use Rattle.cell_draw.specs.Frame.{frame_of}
use Rattle.cell_draw.specs.Layouts.{width_of, bar_of as bar_from}
use Rattle.cell_draw.specs.Named.{name_of}
use Rattle.cell_draw.specs.Shapes.{gnd_rail, vdd_rail, bar_metal}
use Rattle.cell_draw.specs.Sound.{IsSoundRow}
use Rattle.cell_draw.proofs.DrawnNets.{wired}
use Rattle.cell_draw.proofs.LabelsPlaced.{IsWired, layout}
use Rattle.cell_draw.proofs.NamesPlaced.{piece_named}
use Rattle.cell_draw.proofs.NetsWires.{metal}
use Rattle.cell_draw.proofs.RulesMetal1.{Metal, gnd, vdd, bar_of, metal_rect, metal_net, IsMetal}

-- a row that is drawn
pub record IsDrawnRow (names : List (List ℕ)) (pins : Pins) (p : Placement) (r : Routing) (xs : List ℕ) : Type 0 where
  pub placed : IsPlacement p
  pub row : IsSoundRow names pins p.row
  pub wiring : IsWiring p pins r
  pub allowed : AreAllowed p pins (stretches_of r.trunks) xs
  pub are : ArePins (length names) pins

abbrev pub frame_at : Placement → Routing → List ℕ → ℕ → Frame
frame_at p r xs height = frame_of p.row r.tracks height (width_of p xs)

metal_named : (names : List (List ℕ)) (pins : Pins) (p : Placement) (r : Routing) (xs : List ℕ) (height : ℕ) → IsDrawnRow names pins p r xs → (m : Metal) → IsMetal (layout names pins p r xs (frame_at p r xs height)) m → (x y : ℤ) → Holds (metal_rect (layout names pins p r xs (frame_at p r xs height)) m) x y → IsNamed Plain (drawn_of names pins p r xs height).shapes (name_of names (metal_net (layout names pins p r xs (frame_at p r xs height)) m)) (site_at Metal1 x y)
metal_named names pins p r xs height d m h x y on =
    let w : IsWired names pins p r xs (frame_at p r xs height) = wired names pins p r xs height d.placed d.row d.wiring d.allowed d.are.differ in
    piece_named names pins p r xs (frame_at p r xs height) w d.are (metal m) (site_at Metal1 x y) h (record { kind = refl; holds = on })

pub gnd_named : (names : List (List ℕ)) (pins : Pins) (p : Placement) (r : Routing) (xs : List ℕ) (height : ℕ) → IsDrawnRow names pins p r xs → (x y : ℤ) → Holds (gnd_rail (frame_at p r xs height)).rect x y → IsNamed Plain (drawn_of names pins p r xs height).shapes (name_of names pins.gnd) (site_at Metal1 x y)
gnd_named names pins p r xs height d = metal_named names pins p r xs height d gnd tt

pub vdd_named : (names : List (List ℕ)) (pins : Pins) (p : Placement) (r : Routing) (xs : List ℕ) (height : ℕ) → IsDrawnRow names pins p r xs → (x y : ℤ) → Holds (vdd_rail (frame_at p r xs height)).rect x y → IsNamed Plain (drawn_of names pins p r xs height).shapes (name_of names pins.vdd) (site_at Metal1 x y)
vdd_named names pins p r xs height d = metal_named names pins p r xs height d vdd tt

pub trunk_named : (names : List (List ℕ)) (pins : Pins) (p : Placement) (r : Routing) (xs : List ℕ) (height : ℕ) → IsDrawnRow names pins p r xs → (t : Trunk) → Contains r.trunks t → (x y : ℤ) → Holds (bar_metal (bar_from (frame_at p r xs height) p.nodes r.trunks xs t)).rect x y → IsNamed Plain (drawn_of names pins p r xs height).shapes (name_of names t.net) (site_at Metal1 x y)
trunk_named names pins p r xs height d t there = metal_named names pins p r xs height d (bar_of (bar_from (frame_at p r xs height) p.nodes r.trunks xs t)) (contains_map (bar_from (frame_at p r xs height) p.nodes r.trunks xs) r.trunks t there)
