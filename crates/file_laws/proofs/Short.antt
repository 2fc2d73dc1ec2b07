-- The abstract of a cell that can be read back is short.
use Rattle.std.proofs.Common.{ℕ, ◌≡◌, ◌+◌, ◌*◌, ◌≤◌, List, ◌++◌, codes, length, arith, length-append}
use Rattle.std.specs.List.{All}
use Rattle.cell_num.specs.Lines.{text_line}
use Rattle.box_geom.specs.declared.layer.Layer.TheVariants.{Metal1, Metal2}
use Rattle.box_geom.specs.declared.shape.Shape.{Shape}
use Rattle.spice_net.specs.declared.subckt.Subckt.{Subckt}
use Rattle.cell_draw.specs.declared.drawing.Drawing.{Drawing}
use Rattle.lef_write.specs.Drawn.{AreAllMetal}
use Rattle.lef_write.specs.Lef.{head_text, library_text, macro_text, obstructions_text, pins_text}
use Rattle.lef_write.specs.Ports.{obstructions_on}
use Rattle.lef_write.specs.declared.port.Port.{Port}
use Rattle.file_laws.specs.Drawn.{IsReadable}
use Rattle.file_laws.proofs.LefCounted.{few_shown}
use Rattle.file_laws.proofs.Lengths.{all_pins_few, head_few, line_few, macro_few, obstructions_few}
use Rattle.file_laws.proofs.ReadBack.{rest_spelled, shapes_spelled}

six_parts : (a b c d e f : List ℕ) → length (a ++ b ++ c ++ d ++ e ++ f) ≡ length a + length b + length c + length d + length e + length f
six_parts a b c d e f = omega (arith, length-append (a ++ b ++ c ++ d ++ e) f, length-append (a ++ b ++ c ++ d) e, length-append (a ++ b ++ c) d, length-append (a ++ b) c, length-append a b)

pub abstract_few : (cell : Subckt) (ports : List Port) (drawing : Drawing) (unit : ℕ) → IsReadable cell drawing unit → length cell.name ≤ 32 → All (λ (name : List ℕ). length name ≤ 64) cell.nets → AreAllMetal ports drawing.shapes.rects → length (library_text cell ports drawing unit) ≤ 322 + 220 * cell.pins.pins + 65 * length drawing.shapes.rects
abstract_few cell ports drawing unit is short names metal =
    let rects : List Shape = drawing.shapes.rects in
    let one : List Shape = obstructions_on Metal1 ports rects in
    let two : List Shape = obstructions_on Metal2 ports rects in
    let end : length (codes "END LIBRARY\n") ≤ 12 = omega arith in
    omega (
      arith,
      end,
      six_parts head_text (macro_text cell.name drawing.width drawing.height unit) (pins_text cell ports rects unit) (obstructions_text unit one two) (text_line (codes "END ") cell.name) (codes "END LIBRARY\n"),
      head_few,
      macro_few cell.name drawing.width drawing.height unit short is.width is.height,
      all_pins_few cell ports rects unit names (shapes_spelled unit ports rects is.shapes),
      obstructions_few unit one two (rest_spelled unit Metal1 ports rects is.shapes) (rest_spelled unit Metal2 ports rects is.shapes),
      line_few (codes "END ") cell.name 4 32 (omega arith) short,
      few_shown ports rects cell.pins.pins metal,
    )
