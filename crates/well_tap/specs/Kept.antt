-- What of a drawing stays as it is where taps are added.
use Rattle.std.specs.Prelude.{◌≡◌, ℕ, List}
use Rattle.box_geom.specs.Layers.{rects_on}
use Rattle.box_geom.specs.declared.layer.Layer.TheVariants.{Metal1, Metal2}
use Rattle.cell_num.specs.declared.finger.Fingers.{Fingers}
use Rattle.cell_num.specs.declared.net.Pins.{Pins}
use Rattle.row_model.specs.declared.column.Column.{Column}
use Rattle.row_place.specs.declared.placement.Placement.{Placement}
use Rattle.channel_route.specs.declared.routing.Routing.{Routing}
use Rattle.scmos_rules.specs.declared.rules.Deck.{Deck}
use Rattle.scmos_rules.specs.declared.rules.Deck.TheVariants.{Plain, Taps}
use Rattle.net_extract.specs.Labels.{IsNamed}
use Rattle.net_extract.specs.Nets.{Site}
use Rattle.cell_draw.specs.declared.drawing.Drawing.{Drawing}
use Rattle.cell_draw.specs.Extracted.{ExtractsTo}
use Rattle.cell_draw.specs.Named.{AreNamed}
use Rattle.cell_draw.specs.Shown.{ShowsRow, ShowsRouting}

-- its size, its labels, and the rectangles of metal in their order
pub record KeepsMetal (base d : Drawing) : Type 0 where
  pub width : d.width ≡ base.width
  pub height : d.height ≡ base.height
  pub labels : d.shapes.labels ≡ base.shapes.labels
  pub metal1 : rects_on Metal1 d.shapes.rects ≡ rects_on Metal1 base.shapes.rects
  pub metal2 : rects_on Metal2 d.shapes.rects ≡ rects_on Metal2 base.shapes.rects

-- the names of nets, and what the drawing extracts to: by the deck that knows taps, and by the plain one
pub record IsSameCircuit (base d : Drawing) : Type 0 where
  pub sites : (deck : Deck) (name : List ℕ) (a : Site) → IsNamed Plain base.shapes name a → IsNamed deck d.shapes name a
  pub named : (deck : Deck) (names : List (List ℕ)) → AreNamed Plain names base.shapes → AreNamed deck names d.shapes
  pub extracts : (deck : Deck) (names : List (List ℕ)) (fingers : Fingers)
      → ExtractsTo Plain names fingers base.shapes → ExtractsTo deck names fingers d.shapes

-- the row and the routing that the drawing shows
pub record ShowsTheSame (base d : Drawing) : Type 0 where
  pub row : (names : List (List ℕ)) (row : List Column)
      → ShowsRow Plain names row base.shapes → ShowsRow Taps names row d.shapes
  pub routing : (names : List (List ℕ)) (pins : Pins) (p : Placement) (r : Routing)
      → ShowsRouting names pins p base.shapes r → ShowsRouting names pins p d.shapes r
