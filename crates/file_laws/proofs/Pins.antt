-- The pins of an abstract are labels of the drawing, and their ports lie in the nets of these labels.
use Rattle.std.proofs.Common.{ℕ, ℤ, ◌≡◌, ◌<◌, ◌≤◌, List, [], length, get_or, map, All, Contains, refl, sym, subst, arith}
use Rattle.std.specs.List.{range_with_len}
use Rattle.std.proofs.lemmas.List.Elements.{All-contains}
use Rattle.cell_num.proofs.In.{Image, Piece, in_flat, in_map}
use Rattle.cell_num.proofs.Lists.{all_from_contains}
use Rattle.cell_num.proofs.Pairs.{Some', some_from_any}
use Rattle.box_geom.specs.declared.layer.Layer.TheVariants.{Metal1}
use Rattle.box_geom.specs.declared.shape.Label.{Label}
use Rattle.box_geom.specs.declared.shape.Shape.{Shape}
use Rattle.box_geom.specs.declared.shape.Shapes.{Shapes}
use Rattle.spice_net.specs.declared.subckt.Subckt.{Subckt}
use Rattle.scmos_rules.specs.declared.rules.Deck.TheVariants.{Plain}
use Rattle.net_extract.specs.Labels.{IsNamed}
use Rattle.net_extract.specs.Nets.{site_at}
use Rattle.net_extract.specs.declared.piece.Conductor.TheVariants.{Metal1 as Metal1Wire}
use Rattle.net_extract.proofs.Wiring.{end_conducts, net_self}
use Rattle.cell_draw.specs.Layouts.{net_no}
use Rattle.cell_draw.specs.Named.{AreNamed}
use Rattle.cell_draw.specs.declared.drawing.Drawing.{Drawing}
use Rattle.file_laws.proofs.Ranges.{number_below}
use Rattle.well_tap.proofs.TapLabels.{belongs_conducts}
use Rattle.lef_write.specs.Drawn.{AreOfNet, IsOfNet}
use Rattle.lef_write.specs.Lef.{name_of}
use Rattle.lef_write.specs.Ports.{places_on, port_shapes, ports_of as ports_of_cell, ports_on}
use Rattle.lef_write.specs.declared.port.Port.{Port as PortOf}
use Rattle.lef_write.proofs.PortPlaces.{stands}
use Rattle.channel_route.specs.declared.routing.Trunk.{Trunk}
use Rattle.lef_read.specs.declared.cell.LefPin.{LefPin}
use Rattle.lef_read.specs.declared.cell.LefRect.{LefRect}
use Rattle.lef_read.specs.Agreement.{HasLabel, IsLabel, IsOnItsNet, IsOnNet, Port, port_of, ports_of, ports_of_pin}
use Rattle.file_laws.specs.Drawn.{macro_drawn, on_layer, pin_drawn}
use Rattle.file_laws.specs.Abstracts.{IsOfPin}
use Rattle.file_laws.proofs.Readable.{name_there, same_name}

-- a name of the drawing is one of its labels
label_of : (names : List (List ℕ)) (shapes : Shapes) (name : List ℕ) → AreNamed Plain names shapes → Contains names name → IsLabel shapes name
label_of names shapes name are there =
    let l : Some' (λ (l : Label). l.name ≡ name) shapes.labels = some_from_any (λ (l : Label). l.name ≡ name) shapes.labels (are.all name there) in
    let at = are.belong l.it l.there in
    record {
      site = at.site;
      named = record { label = l.it; listed = l.there; reads = l.holds; at = at.site; belongs = at.belongs; same = net_self Plain shapes.rects at.site (belongs_conducts shapes.rects l.it at.site at.belongs) };
    }

pub pins_labelled : (cell : Subckt) (ports : List PortOf) (d : Drawing) → AreNamed Plain cell.nets d.shapes → cell.pins.pins ≤ length cell.nets → All (HasLabel d.shapes) (macro_drawn cell ports d).pins
pins_labelled cell ports d are pins = all_from_contains (HasLabel d.shapes) (map (pin_drawn cell ports d.shapes.rects) (range_with_len 0 cell.pins.pins)) (λ pin there. labelled pin (in_map (pin_drawn cell ports d.shapes.rects) (range_with_len 0 cell.pins.pins) pin there))
  where
    labelled : (pin : LefPin) → Image (pin_drawn cell ports d.shapes.rects) (range_with_len 0 cell.pins.pins) pin → HasLabel d.shapes pin
    labelled pin i =
        let lt : i.of < length cell.nets = omega (arith, number_below cell.pins.pins i.of i.listed, pins) in
        subst (HasLabel d.shapes) i.is (subst (IsLabel d.shapes) (sym (same_name cell.nets i.of lt)) (label_of cell.nets d.shapes (get_or cell.nets i.of []) are (name_there cell.nets i.of lt)))

-- what is named conducts
on_net : (shapes : Shapes) (name : List ℕ) (x y : ℤ) → IsNamed Plain shapes name (site_at Metal1Wire x y) → IsOnNet shapes name Metal1 x y
on_net shapes name x y n = record {
  site = site_at Metal1Wire x y;
  conductor = record { cell = refl; on_layer = refl; conducts = end_conducts Plain shapes.rects n.at (site_at Metal1Wire x y) n.same };
  named = n;
}

-- a shape at a port, as the abstract shows it
shape_on_net : (shapes : Shapes) (name own : List ℕ) (s : Shape) → own ≡ name → IsOfNet Plain name shapes s → IsOnItsNet shapes (port_of own (on_layer Metal1 s))
shape_on_net shapes name own s same is x y h = subst (λ w. IsOnNet shapes w Metal1 x y) (sym same) (on_net shapes name x y (is x y h))

pin_on_net : (cell : Subckt) (ports : List PortOf) (d : Drawing) (n : ℕ) → n < length cell.nets → AreOfNet Plain cell.nets ports d n → All (IsOnItsNet d.shapes) (ports_of_pin (pin_drawn cell ports d.shapes.rects n))
pin_on_net cell ports d n lt are = all_from_contains (IsOnItsNet d.shapes) (ports_of_pin (pin_drawn cell ports d.shapes.rects n)) by
  where
    found : List Shape
    found = port_shapes ports d.shapes.rects (net_no n)

    shape : (r : LefRect) → Image (on_layer Metal1) found r → IsOnItsNet d.shapes (port_of (name_of cell.nets n) r)
    shape r i = subst (λ (q : LefRect). IsOnItsNet d.shapes (port_of (name_of cell.nets n) q)) i.is (shape_on_net d.shapes (get_or cell.nets n []) (name_of cell.nets n) i.of (same_name cell.nets n lt) (All-contains (IsOfNet Plain (get_or cell.nets n []) d.shapes) found i.of are i.listed))

    by : (port : Port) → Contains (ports_of_pin (pin_drawn cell ports d.shapes.rects n)) port → IsOnItsNet d.shapes port
    by port there =
        let i : Image (port_of (name_of cell.nets n)) (map (on_layer Metal1) found) port = in_map (port_of (name_of cell.nets n)) (map (on_layer Metal1) found) port there in
        subst (IsOnItsNet d.shapes) i.is (shape i.of (in_map (on_layer Metal1) found i.of i.listed))

pub ports_on_nets : (cell : Subckt) (ports : List PortOf) (d : Drawing) → cell.pins.pins ≤ length cell.nets → ((n : ℕ) → n < cell.pins.pins → AreOfNet Plain cell.nets ports d n) → All (IsOnItsNet d.shapes) (ports_of (macro_drawn cell ports d).pins)
ports_on_nets cell ports d pins are = all_from_contains (IsOnItsNet d.shapes) (ports_of (macro_drawn cell ports d).pins) by
  where
    pin : (port : Port) (p : LefPin) → Contains (ports_of_pin p) port → Image (pin_drawn cell ports d.shapes.rects) (range_with_len 0 cell.pins.pins) p → IsOnItsNet d.shapes port
    pin port p inside i =
        let low : i.of < cell.pins.pins = number_below cell.pins.pins i.of i.listed in
        All-contains (IsOnItsNet d.shapes) (ports_of_pin (pin_drawn cell ports d.shapes.rects i.of)) port (pin_on_net cell ports d i.of (omega (arith, low, pins)) (are i.of low)) (subst (λ (q : LefPin). Contains (ports_of_pin q) port) (sym i.is) inside)

    by : (port : Port) → Contains (ports_of (macro_drawn cell ports d).pins) port → IsOnItsNet d.shapes port
    by port there =
        let piece : Piece ports_of_pin (macro_drawn cell ports d).pins port = in_flat ports_of_pin (macro_drawn cell ports d).pins port there in
        pin port piece.of piece.inside (in_map (pin_drawn cell ports d.shapes.rects) (range_with_len 0 cell.pins.pins) piece.of piece.listed)

-- the ports of a cell are those of its pins
pub ports_own : (cell : Subckt) (trunks : List Trunk) (rects : List Shape) → All (IsOfPin cell) (ports_of_cell cell.pins trunks rects)
ports_own cell trunks rects = all_from_contains (IsOfPin cell) (ports_of_cell cell.pins trunks rects) own
  where
    own : (port : PortOf) → Contains (ports_of_cell cell.pins trunks rects) port → IsOfPin cell port
    own port there =
        let piece : Piece (ports_on cell.pins trunks (places_on Metal1 rects)) (range_with_len 0 cell.pins.pins) port = in_flat (ports_on cell.pins trunks (places_on Metal1 rects)) (range_with_len 0 cell.pins.pins) port there in
        omega (arith, number_below cell.pins.pins piece.of piece.listed, (stands cell.pins trunks (places_on Metal1 rects) piece.of port piece.inside).pin)
