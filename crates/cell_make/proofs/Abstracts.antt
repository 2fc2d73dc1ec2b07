-- The abstract of a drawn row agrees with the drawing that is written.
use Rattle.std.proofs.Common.{ℕ, ◌≡◌, ◌<◌, ◌≤◌, ◌/◌, List, length, sym, subst, arith}
use Rattle.std.proofs.Math.Nat.{div-add-mod, mod-lt}
use Rattle.file_laws.specs.Abstracts.{HasPorts, IsAbstractOf}
use Rattle.file_laws.proofs.Pins.{ports_own}
use Rattle.file_laws.proofs.Readable.{readable_drawing}
use Rattle.file_laws.proofs.LefWhole.{plain_abstract, tapped_abstract}
use Rattle.box_geom.specs.Layers.{AreWithinLimits}
use Rattle.row_model.specs.declared.column.Column.{Column}
use Rattle.row_model.specs.Arrangement.{IsArrangement}
use Rattle.row_place.specs.declared.placement.Placement.{Placement}
use Rattle.row_place.specs.Places.{IsPlacement, placement_of}
use Rattle.channel_route.specs.declared.routing.Routing.{Routing}
use Rattle.scmos_rules.specs.declared.rules.Deck.TheVariants.{Plain}
use Rattle.cell_draw.specs.declared.cell.TheConstants.{MOST_SHAPES}
use Rattle.cell_draw.specs.declared.drawing.Drawing.{Drawing}
use Rattle.cell_draw.specs.declared.frame.TheConstants.{MOST_Y}
use Rattle.cell_draw.specs.Bounds.{AreWithin}
use Rattle.cell_draw.specs.Extracted.{ExtractsToRow}
use Rattle.cell_draw.specs.Frame.{frame_of}
use Rattle.cell_draw.specs.Framed.{IsFramed}
use Rattle.cell_draw.specs.Layouts.{width_of}
use Rattle.file_laws.specs.Drawn.{IsReadable}
use Rattle.lef_write.specs.Drawn.{AreAllMetal, AreOfNet}
use Rattle.lef_write.proofs.Placed.{ports_are}
use Rattle.file_laws.proofs.Whole.{few_labels}
use Rattle.well_tap.specs.Base.{IsBase}
use Rattle.cell_inputs.specs.declared.style.Style.{Style}
use Rattle.cell_inputs.specs.declared.style.Taps.{Taps}
use Rattle.cell_inputs.specs.declared.style.Taps.TheVariants.{Without, With}
use Rattle.cell_inputs.specs.Inputs.{AreInputs, Inputs, unit_nm}
use Rattle.cell_make.specs.declared.drawn.TheConstants.{MOST_WIDTH}
use Rattle.cell_make.specs.Making.{AreLeastLines, HasAbstract, abstract_of, drawing_in, final_in, ports_in}
use Rattle.cell_make.specs.Style.{final}
use Rattle.cell_make.proofs.Extent.{some_column}
use Rattle.cell_make.proofs.Finals.{wired_base}

pub unit_least : (n : ℕ) → 20 ≤ n → 10 ≤ n / 2
unit_least n least =
    let some : 0 < 2 = omega arith in
    omega (arith, least, div-add-mod n 2, mod-lt n some)

pub unit_most : (n : ℕ) → n ≤ 2000 → n / 2 ≤ 1000
unit_most n most = omega (arith, most, div-add-mod n 2)

-- a drawing without taps, as the steps see it
pub record IsDrawnBare (inside : Inputs) (placement : Placement) (routing : Routing) (lines : List ℕ) (drawing : Drawing) (height : ℕ) : Type 0 where
  pub framed : IsFramed (frame_of placement.row routing.tracks height (width_of placement lines)) lines drawing
  pub narrow : drawing.width ≤ MOST_WIDTH
  pub low : drawing.height ≤ MOST_Y
  pub few : length drawing.shapes.rects < MOST_SHAPES
  pub within : AreWithin drawing.shapes
  pub limits : AreWithinLimits drawing.shapes.rects
  pub extracts : ExtractsToRow Plain inside.cell.nets inside.cell.pins placement.row drawing.shapes

-- the same of the inputs and the row themselves
pub seen_bare : (inputs inside : Inputs) (row : List Column) (placement : Placement) (routing : Routing) (lines : List ℕ) (drawing : Drawing) (height : ℕ) → inside ≡ inputs → placement ≡ placement_of row → height ≡ inputs.tech.height → IsDrawnBare inside placement routing lines drawing height → IsDrawnBare inputs (placement_of row) routing lines drawing inputs.tech.height
seen_bare inputs inside row placement routing lines drawing height same is high h =
    subst (λ (i : Inputs). IsDrawnBare i (placement_of row) routing lines drawing inputs.tech.height) same
    (subst (λ (p : Placement). IsDrawnBare inside p routing lines drawing inputs.tech.height) is
    (subst (λ n. IsDrawnBare inside placement routing lines drawing n) high h))

pub few_tags : (inputs : Inputs) (row : List Column) (routing : Routing) (lines : List ℕ) (drawing : Drawing) → AreInputs inputs → drawing ≡ drawing_in inputs row routing lines → length drawing.shapes.labels ≤ 256
few_tags inputs row routing lines drawing are is =
    subst (λ (d : Drawing). length d.shapes.labels ≤ 256) (sym is)
    (omega (arith, few_labels inputs.cell.nets inputs.cell.pins (placement_of row) routing lines inputs.tech.height, are.sound.named, are.fingers.few_nets))

-- the drawing stands in its frame, so that the text of its abstract can be read back
pub readable_bare : (inputs : Inputs) (placement : Placement) (routing : Routing) (lines : List ℕ) (drawing : Drawing) (height : ℕ) → AreInputs inputs → IsDrawnBare inputs placement routing lines drawing height → IsReadable inputs.cell drawing (unit_nm inputs.tech)
readable_bare inputs placement routing lines drawing height are seen =
    readable_drawing inputs.cell _ lines drawing (unit_nm inputs.tech) are.cell are.nets are.pins.named
    (record { framed = seen.framed; width = omega (arith, seen.narrow); height = seen.low; within = seen.within; limits = seen.limits })
    (omega (arith, unit_least inputs.tech.lambda_nm are.tech.lambda_least)) (unit_most inputs.tech.lambda_nm are.tech.lambda_most)

-- the drawing that is written is the one without taps, or that one with taps
written_abstract : (taps : Taps) (inputs : Inputs) (routing : Routing) (lines : List ℕ) (drawing : Drawing) → IsBase lines drawing → HasPorts inputs.cell (ports_in inputs routing drawing) drawing → IsReadable inputs.cell drawing (unit_nm inputs.tech) → IsAbstractOf (final taps drawing lines).shapes inputs.cell.name (unit_nm inputs.tech) (abstract_of inputs routing drawing)
written_abstract Without inputs routing lines drawing base has readable = plain_abstract inputs.cell (ports_in inputs routing drawing) drawing (unit_nm inputs.tech) has readable
written_abstract With inputs routing lines drawing base has readable = tapped_abstract inputs.cell (ports_in inputs routing drawing) drawing lines (unit_nm inputs.tech) has readable base

pub abstract_so : (style : Style) (inputs inside : Inputs) (row : List Column) (placement : Placement) (routing : Routing) (lines : List ℕ) (drawing : Drawing) (height : ℕ) → inside ≡ inputs → placement ≡ placement_of row → height ≡ inputs.tech.height → AreInputs inputs → IsArrangement row inputs.fingers → IsPlacement (placement_of row) → AreLeastLines (placement_of row) inputs.cell.pins routing lines → drawing ≡ drawing_in inputs row routing lines → ((n : ℕ) → n < inputs.cell.pins.pins → AreOfNet Plain inputs.cell.nets (ports_in inputs routing drawing) drawing n) → AreAllMetal (ports_in inputs routing drawing) drawing.shapes.rects → IsDrawnBare inside placement routing lines drawing height → IsAbstractOf (final style.taps drawing lines).shapes inputs.cell.name (unit_nm inputs.tech) (abstract_of inputs routing drawing)
abstract_so style inputs inside row placement routing lines drawing height same is high are arranged placed least exact nets rest h =
    let seen = seen_bare inputs inside row placement routing lines drawing height same is high h in
    written_abstract style.taps inputs routing lines drawing
    (wired_base _ (placement_of row) inputs.cell.pins routing lines drawing placed (some_column row inputs.fingers arranged are.some) least.allowed seen.framed)
    (record {
      rects = seen.few;
      labels = few_tags inputs row routing lines drawing are exact;
      fingers = inputs.fingers;
      extracts = seen.extracts.to are.pins inputs.fingers (record { sound = are.sound; arranged = arranged });
      pins = are.pins.named;
      are = ports_are inputs.cell.pins routing.trunks drawing.shapes.rects;
      own = ports_own inputs.cell routing.trunks drawing.shapes.rects;
      nets = nets;
      rest = rest;
    })
    (readable_bare inputs (placement_of row) routing lines drawing inputs.tech.height are seen)

-- what is said of the abstract of a drawn row
pub abstract_made : (style : Style) (inputs : Inputs) (row : List Column) (routing : Routing) (xs : List ℕ) → HasAbstract style inputs row routing xs → IsAbstractOf (final_in style inputs row routing xs).shapes inputs.cell.name (unit_nm inputs.tech) (abstract_of inputs routing (drawing_in inputs row routing xs))
unfolding HasAbstract
abstract_made style inputs row routing xs has = has
