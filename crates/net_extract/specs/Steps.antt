-- What the steps of extraction give.
use Rattle.std.specs.Prelude.{◌≡◌, List, length}
use Rattle.box_geom.specs.Layers.{AreWithinLimits}
use Rattle.box_geom.specs.declared.shape.Shapes.{Shapes}
use Rattle.scmos_rules.specs.declared.rules.Deck.{Deck}
use Rattle.net_extract.specs.Nets.{Site}
use Rattle.net_extract.specs.Naming.{IsAgreed, names_of}
use Rattle.net_extract.specs.Connections.{AreWires, firsts_of}
use Rattle.net_extract.specs.Extraction.{AreFew, IsLabelled}
use Rattle.net_extract.specs.GateNets.{AreGateNets, AreWells, AreFound, boxes_of}
use Rattle.net_extract.specs.declared.drawing.Mapped.{Mapped}
use Rattle.net_extract.specs.declared.drawing.Named.{Named}

-- the labels with their nets, which agree, and the names of the nets by them
pub record AreNamed (deck : Deck) (shapes : Shapes) (firsts : List Site) (named : Named) : Type 0 where
  pub labelled : IsLabelled deck shapes firsts named.held.items
  pub agreed : IsAgreed named.held.items (length firsts)
  pub are : named.names ≡ names_of named.held.items (length firsts)

-- the connections, the wells where taps are tied, the gates, the devices and the labels of a drawing that is not
-- refused
pub record IsMapped (deck : Deck) (shapes : Shapes) (m : Mapped) : Type 0 where
  pub few : AreFew shapes
  pub limits : AreWithinLimits shapes.rects
  pub wires : AreWires deck shapes.rects m.connections.wires.items m.connections.firsts.items
  pub wells : AreWells deck shapes.rects m.wells.items
  pub gates : AreGateNets shapes.rects m.gates.wires.items m.gates.firsts.items
  pub found :
      AreFound deck shapes.rects (firsts_of m.connections.firsts.items)
      (boxes_of m.gates.wires.items m.gates.firsts.items) m.devices
  pub named : AreNamed deck shapes (firsts_of m.connections.firsts.items) m.named
