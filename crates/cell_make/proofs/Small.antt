-- The files of a drawn row are small.
use Rattle.std.proofs.Common.{ℕ, ◌≡◌, ◌&&◌, ◌+◌, ◌<◌, ◌≤◌, nat_le, IsTrue, List, All, length, refl, arith}
use Rattle.std.specs.List.{list_all}
use Rattle.std.proofs.lemmas.Bool.{and_parts, leb-true}
use Rattle.std.proofs.lemmas.List.Elements.{All-weaker}
use Rattle.cell_num.specs.Names.{is_name, is_name_byte}
use Rattle.row_model.specs.declared.column.Column.{Column}
use Rattle.row_place.specs.Places.{placement_of}
use Rattle.channel_route.specs.declared.routing.Routing.{Routing}
use Rattle.cell_draw.specs.declared.cell.TheConstants.{MOST_SHAPES}
use Rattle.cell_draw.specs.declared.drawing.Drawing.{Drawing}
use Rattle.gds_read.specs.RoundTrip.{IsReadable}
use Rattle.file_laws.proofs.Short.{abstract_few}
use Rattle.lef_write.specs.Drawn.{AreAllMetal}
use Rattle.file_laws.proofs.Whole.{written_within}
use Rattle.well_tap.specs.Tapped.{tapped}
use Rattle.well_tap.proofs.Clauses.{twelve_more}
use Rattle.cell_inputs.specs.declared.style.Style.{Style}
use Rattle.cell_inputs.specs.declared.style.Taps.{Taps}
use Rattle.cell_inputs.specs.declared.style.Taps.TheVariants.{Without, With}
use Rattle.cell_inputs.specs.Inputs.{AreInputs, Inputs, unit_nm}
use Rattle.cell_inputs.proofs.Names.{log_name}
use Rattle.cell_make.specs.Making.{AreSmall, HasSmallFiles, abstract_of, drawing_in, final_in, library_of, ports_in}
use Rattle.cell_make.specs.Style.{final}
use Rattle.cell_make.proofs.Abstracts.{IsDrawnBare, few_tags, readable_bare}

name_short : (name : List ℕ) → IsTrue (is_name name) → length name ≤ 64
name_short name h =
    let sized = and_parts (nat_le 1 (length name) && nat_le (length name) 64) (list_all is_name_byte name) h in
    leb-true (length name) 64 (and_parts (nat_le 1 (length name)) (nat_le (length name) 64) sized.0).1

-- taps add twelve rectangles and no label
few_rects : (taps : Taps) (xs : List ℕ) (d : Drawing) → length (final taps d xs).shapes.rects ≤ length d.shapes.rects + 12
few_rects Without xs d = omega arith
few_rects With xs d = omega (arith, twelve_more xs d (tapped xs d) refl)

few_labels : (taps : Taps) (xs : List ℕ) (d : Drawing) → length (final taps d xs).shapes.labels ≤ length d.shapes.labels
few_labels Without xs d = omega arith
few_labels With xs d = omega arith

library_short : (taps : Taps) (inputs : Inputs) (lines : List ℕ) (drawing : Drawing) → length drawing.shapes.rects < MOST_SHAPES → length drawing.shapes.labels ≤ 256 → IsReadable inputs.cell.name (final taps drawing lines).shapes (unit_nm inputs.tech) → length (library_of inputs (final taps drawing lines)) ≤ 200000
library_short taps inputs lines drawing rects labels is =
    omega (
      arith,
      rects,
      labels,
      few_rects taps lines drawing,
      few_labels taps lines drawing,
      written_within inputs.cell.name (final taps drawing lines).shapes (unit_nm inputs.tech) is.named is.labels,
    )

-- at most 256 nets have a pin
abstract_short : (inputs : Inputs) (row : List Column) (routing : Routing) (lines : List ℕ) (drawing : Drawing) → AreInputs inputs → IsDrawnBare inputs (placement_of row) routing lines drawing inputs.tech.height → AreAllMetal (ports_in inputs routing drawing) drawing.shapes.rects → length (abstract_of inputs routing drawing) ≤ 200000
abstract_short inputs row routing lines drawing are seen metal =
    let names : All (λ (name : List ℕ). length name ≤ 64) inputs.cell.nets = All-weaker (λ (name : List ℕ). IsTrue (is_name name)) (λ (name : List ℕ). length name ≤ 64) name_short inputs.cell.nets are.nets in
    omega (
      arith,
      seen.few,
      are.pins.named,
      are.sound.named,
      are.fingers.few_nets,
      abstract_few inputs.cell (ports_in inputs routing drawing) drawing (unit_nm inputs.tech) (readable_bare inputs (placement_of row) routing lines drawing inputs.tech.height are seen) (log_name inputs.cell.name are.cell).few names metal,
    )

pub small_so : (style : Style) (inputs : Inputs) (row : List Column) (routing : Routing) (lines : List ℕ) (drawing : Drawing) → AreInputs inputs → drawing ≡ drawing_in inputs row routing lines → IsDrawnBare inputs (placement_of row) routing lines drawing inputs.tech.height → AreAllMetal (ports_in inputs routing drawing) drawing.shapes.rects → IsReadable inputs.cell.name (final style.taps drawing lines).shapes (unit_nm inputs.tech) → AreSmall (library_of inputs (final style.taps drawing lines)) (abstract_of inputs routing drawing)
small_so style inputs row routing lines drawing are exact seen metal readable = record {
  library = library_short style.taps inputs lines drawing seen.few (few_tags inputs row routing lines drawing are exact) readable;
  abstract = abstract_short inputs row routing lines drawing are seen metal;
}

-- what is said of the files of a drawn row
pub small_made : (style : Style) (inputs : Inputs) (row : List Column) (routing : Routing) (xs : List ℕ) → HasSmallFiles style inputs row routing xs → AreSmall (library_of inputs (final_in style inputs row routing xs)) (abstract_of inputs routing (drawing_in inputs row routing xs))
unfolding HasSmallFiles
small_made style inputs row routing xs has = has
