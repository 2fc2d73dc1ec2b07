-- The abstract of a drawn cell agrees with its drawing, without taps and with them.
use Rattle.std.proofs.Common.{ℕ, List, refl, arith}
use Rattle.spice_net.specs.declared.subckt.Subckt.{Subckt}
use Rattle.scmos_rules.specs.declared.rules.Deck.TheVariants.{Plain}
use Rattle.net_extract.specs.Extraction.{AreFew}
use Rattle.cell_draw.specs.declared.drawing.Drawing.{Drawing}
use Rattle.cell_draw.proofs.Refusals.{only_memory}
use Rattle.well_tap.specs.Base.{IsBase}
use Rattle.well_tap.specs.Tapped.{tapped}
use Rattle.well_tap.proofs.Clauses.{as_large, same_circuit, twelve_more}
use Rattle.lef_write.specs.Lef.{library_text}
use Rattle.lef_write.specs.declared.port.Port.{Port}
use Rattle.lef_read.specs.Agreement.{Agrees}
use Rattle.file_laws.specs.Drawn.{IsReadable, macro_drawn}
use Rattle.file_laws.proofs.ReadBack.{reads_back}
use Rattle.file_laws.specs.Abstracts.{HasPorts, IsAbstractOf}
use Rattle.file_laws.proofs.Metal.{metal_shown}
use Rattle.file_laws.proofs.Pins.{pins_labelled, ports_on_nets}
use Rattle.file_laws.proofs.Tapped.{agrees_kept}

agrees : (cell : Subckt) (ports : List Port) (d : Drawing) → HasPorts cell ports d → Agrees d.shapes (macro_drawn cell ports d)
agrees cell ports d h = record {
  labels = pins_labelled cell ports d h.extracts.nets h.pins;
  ports = ports_on_nets cell ports d h.pins h.nets;
  rest = metal_shown cell ports d h.are h.own h.rest;
}

pub plain_abstract : (cell : Subckt) (ports : List Port) (d : Drawing) (unit : ℕ) → HasPorts cell ports d → IsReadable cell d unit → IsAbstractOf d.shapes cell.name unit (library_text cell ports d unit)
plain_abstract cell ports d unit h readable =
    let few : AreFew d.shapes = record { rects = omega (arith, h.rects); labels = omega (arith, h.labels) } in
    record {
      cell = macro_drawn cell ports d;
      read = reads_back cell ports d unit readable;
      netlist = λ f refused. only_memory Plain cell.nets h.fingers d.shapes f few h.extracts refused;
      agrees = agrees cell ports d h;
    }

pub tapped_abstract : (cell : Subckt) (ports : List Port) (d : Drawing) (xs : List ℕ) (unit : ℕ) → HasPorts cell ports d → IsReadable cell d unit → IsBase xs d → IsAbstractOf (tapped xs d).shapes cell.name unit (library_text cell ports d unit)
tapped_abstract cell ports d xs unit h readable base =
    let same = same_circuit xs d (tapped xs d) base refl in
    let few : AreFew (tapped xs d).shapes = record { rects = omega (arith, h.rects, twelve_more xs d (tapped xs d) refl); labels = omega (arith, h.labels) } in
    record {
      cell = macro_drawn cell ports d;
      read = reads_back cell ports d unit readable;
      netlist = λ f refused. only_memory Plain cell.nets h.fingers (tapped xs d).shapes f few (same.extracts Plain cell.nets h.fingers h.extracts) refused;
      agrees = agrees_kept d (tapped xs d) (macro_drawn cell ports d) same (as_large xs d (tapped xs d) base refl) (agrees cell ports d h);
    }
