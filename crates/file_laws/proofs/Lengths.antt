-- How long the text of an abstract is.
use Rattle.std.proofs.Common.{ℕ, ℤ, pos, ◌≡◌, ◌+◌, ◌*◌, ◌/◌, ◌%◌, ◌==◌, ◌&&◌, ◌≤◌, int_lt, unsigned_abs, Bool, true, false, List, [], ◌∷◌, ◌++◌, Option, Some, None, codes, decimal, length, refl, arith, length-append}
use Rattle.std.specs.Prelude.{slice_get, unwrap_or, if◌then◌else◌}
use Rattle.std.specs.List.{All, flat_map, range_with_len}
use Rattle.std.proofs.lemmas.Fmt.{length-decimal-le}
use Rattle.std.proofs.lemmas.List.Elements.{All-head, All-tail}
use Rattle.std.proofs.lemmas.List.FromFn.{length-range_with_len}
use Rattle.cell_num.specs.declared.net.NetNo.{NetNo}
use Rattle.cell_num.specs.declared.net.Pins.{Pins}
use Rattle.cell_num.specs.Lines.{text_line}
use Rattle.cell_num.proofs.Lists.{all_at}
use Rattle.box_geom.specs.declared.shape.Shape.{Shape}
use Rattle.spice_net.specs.declared.subckt.Direction.{Direction}
use Rattle.spice_net.specs.declared.subckt.Direction.TheVariants.{Input, Output, Inout}
use Rattle.spice_net.specs.declared.subckt.Subckt.{Subckt}
use Rattle.cell_draw.specs.Layouts.{net_no}
use Rattle.lef_write.specs.Lef.{block_text, coordinate, corner_text, direction_of, direction_text, head_text, layer_text, macro_text, metal1_text, metal2_text, microns, minus_of, name_of, obstructions_text, pin_text, pins_text, port_text, rect_text, rects_text, size_text, three_digits, use_text}
use Rattle.lef_write.specs.Ports.{port_shapes}
use Rattle.lef_write.specs.declared.port.Port.{Port}
use Rattle.file_laws.specs.Drawn.{IsMetric, IsSpelled}
use Rattle.file_laws.proofs.LefCounted.{at_pins}

-- two texts, one behind the other
both : (a b : List ℕ) (m n : ℕ) → length a ≤ m → length b ≤ n → length (a ++ b) ≤ m + n
both a b m n h g = omega (arith, length-append a b, h, g)

-- ---- numbers

pub microns_few : (nm : ℕ) → nm ≤ 1000000000 → length (microns nm) ≤ 11
unfolding microns
microns_few nm most =
    let digits : length (decimal (nm / 1000)) ≤ 7 = length-decimal-le 7 (nm / 1000) (omega arith) (omega (arith, most)) (omega (arith, most)) in
    both (decimal (nm / 1000) ++ codes ".") (three_digits (nm % 1000)) 8 3 (both (decimal (nm / 1000)) (codes ".") 7 1 digits (omega arith)) (omega arith)

minus_few : (z : ℤ) → length (minus_of z) ≤ 1
minus_few z = by (int_lt z (pos 0))
  where
    by : (b : Bool) → length (if b then codes "-" else []) ≤ 1
    by true = omega arith
    by false = omega arith

coordinate_few : (unit : ℕ) (z : ℤ) → IsMetric unit (unsigned_abs z) → length (coordinate unit z) ≤ 12
unfolding coordinate
coordinate_few unit z most = both (minus_of z) (microns (unsigned_abs z * unit)) 1 11 (minus_few z) (microns_few (unsigned_abs z * unit) most)

-- ---- rectangles

corner_few : (unit : ℕ) (x y : ℤ) → IsMetric unit (unsigned_abs x) → IsMetric unit (unsigned_abs y) → length (corner_text unit x y) ≤ 25
unfolding corner_text
corner_few unit x y h g = both (coordinate unit x ++ codes " ") (coordinate unit y) 13 12 (both (coordinate unit x) (codes " ") 12 1 (coordinate_few unit x h) (omega arith)) (coordinate_few unit y g)

rect_few : (indent : List ℕ) (unit : ℕ) (s : Shape) → length indent ≤ 6 → IsSpelled unit s.rect → length (rect_text indent unit s) ≤ 65
unfolding rect_text
rect_few indent unit s short is =
    let low : List ℕ = corner_text unit s.rect.x1 s.rect.y1 in
    let high : List ℕ = corner_text unit s.rect.x2 s.rect.y2 in
    both (indent ++ codes "RECT " ++ low ++ codes " " ++ high) (codes " ;\n") 62 3
    (both (indent ++ codes "RECT " ++ low ++ codes " ") high 37 25
    (both (indent ++ codes "RECT " ++ low) (codes " ") 36 1
    (both (indent ++ codes "RECT ") low 11 25
    (both indent (codes "RECT ") 6 5 short (omega arith))
    (corner_few unit s.rect.x1 s.rect.y1 is.x1 is.y1))
    (omega arith))
    (corner_few unit s.rect.x2 s.rect.y2 is.x2 is.y2))
    (omega arith)

rects_few : (indent : List ℕ) (unit : ℕ) (shapes : List Shape) → length indent ≤ 6 → All (λ (s : Shape). IsSpelled unit s.rect) shapes → length (rects_text indent unit shapes) ≤ 65 * length shapes
rects_few indent unit [] short all = omega arith
rects_few indent unit (s ∷ shapes) short all =
    omega (
      arith,
      length-append (rect_text indent unit s) (rects_text indent unit shapes),
      rect_few indent unit s short (All-head (λ (z : Shape). IsSpelled unit z.rect) s shapes all),
      rects_few indent unit shapes short (All-tail (λ (z : Shape). IsSpelled unit z.rect) s shapes all),
    )

-- ---- pins

direction_few : (d : Direction) → length (direction_text d) ≤ 23
unfolding direction_text
direction_few Input = omega arith
direction_few Output = omega arith
direction_few Inout = omega arith

use_few : (pins : Pins) (net : NetNo) → length (use_text pins net) ≤ 17
unfolding use_text
use_few pins net = by (net.0 == pins.vdd.0) (net.0 == pins.gnd.0)
  where
    by : (power ground : Bool) → length (if power then codes "    USE POWER ;\n" else if ground then codes "    USE GROUND ;\n" else codes "    USE SIGNAL ;\n") ≤ 17
    by true ground = omega arith
    by false true = omega arith
    by false false = omega arith

pub line_few : (word text : List ℕ) (k most : ℕ) → length word ≤ k → length text ≤ most → length (text_line word text) ≤ k + most + 1
line_few word text k most h g = both (word ++ text) (codes "\n") (k + most) 1 (both word text k most h g) (omega arith)

name_few : (names : List (List ℕ)) (n : ℕ) → All (λ (name : List ℕ). length name ≤ 64) names → length (name_of names n) ≤ 64
name_few names n short = by (slice_get names n) (λ name there. all_at (λ (name : List ℕ). length name ≤ 64) names n name short there)
  where
    by : (o : Option (List ℕ)) → ((name : List ℕ) → o ≡ Some name → length name ≤ 64) → length (unwrap_or o []) ≤ 64
    by None each = omega arith
    by (Some name) each = each name refl

port_few : (unit : ℕ) (shapes : List Shape) → All (λ (s : Shape). IsSpelled unit s.rect) shapes → length (port_text unit shapes) ≤ 38 + 65 * length shapes
unfolding port_text
port_few unit shapes all =
    let rects : List ℕ = rects_text (codes "      ") unit shapes in
    let first : length (codes "    PORT\n      LAYER metal1 ;\n") ≤ 30 = omega arith in
    let last : length (codes "    END\n") ≤ 8 = omega arith in
    omega (
      arith,
      first,
      last,
      length-append (codes "    PORT\n      LAYER metal1 ;\n" ++ rects) (codes "    END\n"),
      length-append (codes "    PORT\n      LAYER metal1 ;\n") rects,
      rects_few (codes "      ") unit shapes (omega arith) all,
    )

pin_few : (cell : Subckt) (ports : List Port) (rects : List Shape) (unit n : ℕ) → All (λ (name : List ℕ). length name ≤ 64) cell.nets → All (λ (s : Shape). IsSpelled unit s.rect) (port_shapes ports rects (net_no n)) → length (pin_text cell ports rects unit n) ≤ 220 + 65 * length (port_shapes ports rects (net_no n))
unfolding pin_text
pin_few cell ports rects unit n short all =
    let begin : List ℕ = text_line (codes "  PIN ") (name_of cell.nets n) in
    let direct : List ℕ = direction_text (direction_of cell.directions n) in
    let used : List ℕ = use_text cell.pins (net_no n) in
    let port : List ℕ = port_text unit (port_shapes ports rects (net_no n)) in
    let end : List ℕ = text_line (codes "  END ") (name_of cell.nets n) in
    omega (
      arith,
      length-append (begin ++ direct ++ used ++ port) end,
      length-append (begin ++ direct ++ used) port,
      length-append (begin ++ direct) used,
      length-append begin direct,
      line_few (codes "  PIN ") (name_of cell.nets n) 6 64 (omega arith) (name_few cell.nets n short),
      direction_few (direction_of cell.directions n),
      use_few cell.pins (net_no n),
      port_few unit (port_shapes ports rects (net_no n)) all,
      line_few (codes "  END ") (name_of cell.nets n) 6 64 (omega arith) (name_few cell.nets n short),
    )

pins_few : (cell : Subckt) (ports : List Port) (rects : List Shape) (unit : ℕ) (ns : List ℕ) → All (λ (name : List ℕ). length name ≤ 64) cell.nets → ((n : ℕ) → All (λ (s : Shape). IsSpelled unit s.rect) (port_shapes ports rects (net_no n))) → length (flat_map (pin_text cell ports rects unit) ns) ≤ 220 * length ns + 65 * length (at_pins ports rects ns)
pins_few cell ports rects unit [] short all = omega arith
pins_few cell ports rects unit (n ∷ ns) short all =
    omega (
      arith,
      length-append (pin_text cell ports rects unit n) (flat_map (pin_text cell ports rects unit) ns),
      length-append (port_shapes ports rects (net_no n)) (at_pins ports rects ns),
      pin_few cell ports rects unit n short (all n),
      pins_few cell ports rects unit ns short all,
    )

pub all_pins_few : (cell : Subckt) (ports : List Port) (rects : List Shape) (unit : ℕ) → All (λ (name : List ℕ). length name ≤ 64) cell.nets → ((n : ℕ) → All (λ (s : Shape). IsSpelled unit s.rect) (port_shapes ports rects (net_no n))) → length (pins_text cell ports rects unit) ≤ 220 * cell.pins.pins + 65 * length (at_pins ports rects (range_with_len 0 cell.pins.pins))
all_pins_few cell ports rects unit short all =
    omega (arith, pins_few cell ports rects unit (range_with_len 0 cell.pins.pins) short all, length-range_with_len 0 cell.pins.pins)

-- ---- obstructions

layer_few : (line : List ℕ) (unit : ℕ) (shapes : List Shape) → length line ≤ 19 → All (λ (s : Shape). IsSpelled unit s.rect) shapes → length (layer_text line unit shapes) ≤ 19 + 65 * length shapes
unfolding layer_text
layer_few line unit shapes short all = by (length shapes == 0)
  where
    by : (b : Bool) → length (if b then [] else line ++ rects_text (codes "    ") unit shapes) ≤ 19 + 65 * length shapes
    by true = omega arith
    by false = both line (rects_text (codes "    ") unit shapes) 19 (65 * length shapes) short (rects_few (codes "    ") unit shapes (omega arith) all)

block_few : (unit : ℕ) (one two : List Shape) → All (λ (s : Shape). IsSpelled unit s.rect) one → All (λ (s : Shape). IsSpelled unit s.rect) two → length (block_text unit one two) ≤ 50 + 65 * (length one + length two)
unfolding block_text metal1_text metal2_text
block_few unit one two first second =
    let upper : List ℕ = layer_text (codes "    LAYER metal1 ;\n") unit one in
    let lower : List ℕ = layer_text (codes "    LAYER metal2 ;\n") unit two in
    let begin : length (codes "  OBS\n") ≤ 6 = omega arith in
    let end : length (codes "  END\n") ≤ 6 = omega arith in
    omega (
      arith,
      begin,
      end,
      length-append (codes "  OBS\n" ++ upper ++ lower) (codes "  END\n"),
      length-append (codes "  OBS\n" ++ upper) lower,
      length-append (codes "  OBS\n") upper,
      layer_few (codes "    LAYER metal1 ;\n") unit one (omega arith) first,
      layer_few (codes "    LAYER metal2 ;\n") unit two (omega arith) second,
    )

pub obstructions_few : (unit : ℕ) (one two : List Shape) → All (λ (s : Shape). IsSpelled unit s.rect) one → All (λ (s : Shape). IsSpelled unit s.rect) two → length (obstructions_text unit one two) ≤ 50 + 65 * (length one + length two)
unfolding obstructions_text
obstructions_few unit one two first second = by (length one == 0 && length two == 0)
  where
    by : (b : Bool) → length (if b then [] else block_text unit one two) ≤ 50 + 65 * (length one + length two)
    by true = omega arith
    by false = block_few unit one two first second

-- ---- the macro

size_few : (width height unit : ℕ) → IsMetric unit width → IsMetric unit height → length (size_text width height unit) ≤ 36
unfolding size_text
size_few width height unit wide high =
    let across : List ℕ = microns (width * unit) in
    let up : List ℕ = microns (height * unit) in
    both (codes "  SIZE " ++ across ++ codes " BY " ++ up) (codes " ;\n") 33 3
    (both (codes "  SIZE " ++ across ++ codes " BY ") up 22 11
    (both (codes "  SIZE " ++ across) (codes " BY ") 18 4
    (both (codes "  SIZE ") across 7 11 (omega arith) (microns_few (width * unit) wide))
    (omega arith))
    (microns_few (height * unit) high))
    (omega arith)

pub macro_few : (name : List ℕ) (width height unit : ℕ) → length name ≤ 32 → IsMetric unit width → IsMetric unit height → length (macro_text name width height unit) ≤ 130
unfolding macro_text
macro_few name width height unit short wide high =
    let first : List ℕ = text_line (codes "MACRO ") name in
    let class : List ℕ = codes "  CLASS CORE ;\n  ORIGIN 0.000 0.000 ;\n" in
    let size : List ℕ = size_text width height unit in
    both (first ++ class ++ size) (codes "  SYMMETRY X Y ;\n") 113 17
    (both (first ++ class) size 77 36
    (both first class 39 38 (line_few (codes "MACRO ") name 6 32 (omega arith) short) (omega arith))
    (size_few width height unit wide high))
    (omega arith)

pub head_few : length head_text ≤ 93
unfolding head_text
head_few = omega arith
