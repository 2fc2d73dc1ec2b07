-- What a cell counts as, from what making it came to.
use Rattle.std.proofs.Common.{ℕ, ◌≡◌, ◌<◌, ◌≤◌, ◌+◌, List, [], ◌∷◌, None, length, drop, sym, ap, subst, arith}
use Rattle.std.specs.List.{zip}
use Rattle.std.proofs.lemmas.List.Sums.{count_by-le-length}
use Rattle.cell_num.specs.declared.finger.Fingers.{Fingers}
use Rattle.cell_num.specs.Fingers.{AreFingers}
use Rattle.row_model.specs.declared.column.Column.{Column}
use Rattle.row_model.specs.Gaps.{gaps_of, is_gap}
use Rattle.row_state.proofs.KindsOf.{few_fingers}
use Rattle.bound_log.specs.declared.log.Log.{Log}
use Rattle.channel_route.specs.declared.routing.Routing.{Routing}
use Rattle.row_place.specs.declared.placement.Placement.{Placement}
use Rattle.row_place.specs.Places.{placement_of}
use Rattle.cell_draw.specs.declared.cell.TheConstants.{MOST_SHAPES}
use Rattle.cell_draw.specs.declared.drawing.Drawing.{Drawing}
use Rattle.gds_read.specs.RoundTrip.{IsReadable}
use Rattle.file_laws.proofs.Whole.{few_labels, written_within}
use Rattle.cell_make.specs.declared.drawn.Drawn.{Drawn}
use Rattle.cell_make.specs.declared.outcome.Outcome.{Outcome}
use Rattle.cell_make.specs.declared.outcome.Outcome.TheVariants as came
use Rattle.cell_inputs.specs.declared.style.Style.{Style}
use Rattle.cell_inputs.specs.Inputs.{AreInputs, Inputs, unit_nm}
use Rattle.cell_inputs.specs.declared.style.Taps.TheVariants.{Without}
use Rattle.cell_inputs.specs.Style.{plain_style}
use Rattle.cell_make.specs.Making.{CanBeWritten, ComesTo, answer_of, drawing_in, final_of, library_of}
use Rattle.cell_make.proofs.Finals.{final_is}
use Rattle.cell_make.specs.Searched.{IsFound}
use Rattle.bench_command.specs.Bench.{counted_as}
use Rattle.bench_command.specs.Size.{IsSmall}
use Rattle.bench_command.specs.Tally.{IsWithin}
use Rattle.bench_command.proofs.Sizes.{small_shapes}

few_columns : (inputs : Inputs) (row : List Column) (log : Log) → AreInputs inputs → IsFound inputs row log → length row ≤ 32
few_columns inputs row log are found = omega (arith, found.first.arranges.fewest, are.fingers.few_columns)

few_tags : (inputs : Inputs) (row : List Column) (routing : Routing) (xs : List ℕ) → AreInputs inputs → length (drawing_in inputs row routing xs).shapes.labels ≤ 256
few_tags inputs row routing xs are = omega (arith, few_labels inputs.cell.nets inputs.cell.pins (placement_of row) routing xs inputs.tech.height, are.sound.named, are.fingers.few_nets)

pub small_drawing : (inputs : Inputs) (row : List Column) (routing : Routing) (xs : List ℕ) (drawing : Drawing) → AreInputs inputs → drawing ≡ drawing_in inputs row routing xs → IsReadable inputs.cell.name drawing.shapes (unit_nm inputs.tech) → length drawing.shapes.rects < MOST_SHAPES → IsSmall inputs.cell.name drawing.shapes
small_drawing inputs row routing xs drawing are is readable rects =
    small_shapes inputs.cell.name drawing.shapes (unit_nm inputs.tech) readable rects (subst (λ (d : Drawing). length d.shapes.labels ≤ 256) (sym is) (few_tags inputs row routing xs are))

-- without taps the drawing itself is written
readable_bare : (inputs : Inputs) (drawn : Drawn) → drawn.tapped ≡ None → IsReadable inputs.cell.name (final_of drawn).shapes (unit_nm inputs.tech) → IsReadable inputs.cell.name drawn.drawing.shapes (unit_nm inputs.tech)
readable_bare inputs drawn none readable = subst (λ (d : Drawing). IsReadable inputs.cell.name d.shapes (unit_nm inputs.tech)) (final_is Without drawn none) readable

-- the same of what making came to
pub small_made : (inputs : Inputs) (outcome : Outcome) (placement : Placement) (log : Log) (routing : Routing) (drawn : Drawn) → outcome ≡ came.Made placement log routing drawn → AreInputs inputs → ComesTo plain_style inputs outcome → CanBeWritten inputs outcome → IsSmall inputs.cell.name drawn.drawing.shapes
small_made inputs outcome placement log routing drawn is are comes written =
    let c : ComesTo plain_style inputs (came.Made placement log routing drawn) = subst (ComesTo plain_style inputs) is comes in
    let w : CanBeWritten inputs (came.Made placement log routing drawn) = subst (CanBeWritten inputs) is written in
    small_drawing inputs placement.row routing drawn.lines drawn.drawing are c.1.0 (readable_bare inputs drawn c.1.1 w.0) w.1

-- the style that the cells are made in
pub plain_comes : (style : Style) (inputs : Inputs) (outcome : Outcome) → style ≡ plain_style → ComesTo style inputs outcome → ComesTo plain_style inputs outcome
plain_comes style inputs outcome is comes = subst (λ (s : Style). ComesTo s inputs outcome) is comes

-- ---- no count is large

pub few_sum : (f : Fingers) → AreFingers f → length f.p + length f.n ≤ 64
few_sum f are = let few = few_fingers f are in omega (arith, few.0, few.1)

zip_few : {X Y : Type 0} (xs : List X) (ys : List Y) → length (zip xs ys) ≤ length xs
zip_few [] ys = omega arith
zip_few (x ∷ xs) [] = omega arith
zip_few (x ∷ xs) (y ∷ ys) = omega (arith, zip_few xs ys)

few_gaps : (row : List Column) → gaps_of row ≤ length row
few_gaps row = omega (arith, count_by-le-length is_gap (zip row (drop 1 row)), zip_few row (drop 1 row))

few_bytes : (inputs : Inputs) (row : List Column) (routing : Routing) (drawn : Drawn) → AreInputs inputs → drawn.drawing ≡ drawing_in inputs row routing drawn.lines → IsReadable inputs.cell.name drawn.drawing.shapes (unit_nm inputs.tech) → length drawn.drawing.shapes.rects < MOST_SHAPES → length (library_of inputs (drawing_in inputs row routing drawn.lines)) ≤ 1000000
few_bytes inputs row routing drawn are is readable rects =
    let labels = few_tags inputs row routing drawn.lines are in
    let label_count = ap (λ (d : Drawing). length d.shapes.labels) is in
    let within = written_within inputs.cell.name drawn.drawing.shapes (unit_nm inputs.tech) readable.named readable.labels in
    subst (λ (d : Drawing). length (library_of inputs d) ≤ 1000000) is (omega (arith, within, rects, labels, label_count))

pub counted_within : (inputs : Inputs) (outcome : Outcome) → AreInputs inputs → ComesTo plain_style inputs outcome → CanBeWritten inputs outcome → IsWithin 1 (counted_as inputs (answer_of outcome))
counted_within inputs (came.Made placement log routing drawn) are comes written =
    let columns = few_columns inputs placement.row log are comes.0.found in
    record {
      made = omega arith;
      cycles = omega arith;
      unfinished = omega arith;
      columns = omega (arith, columns);
      gaps = omega (arith, columns, few_gaps placement.row);
      fingers = omega (arith, few_sum inputs.fingers are.fingers);
      bytes = omega (arith, few_bytes inputs placement.row routing drawn are comes.1.0 (readable_bare inputs drawn comes.1.1 written.0) written.1);
    }
counted_within inputs (came.Cyclic placement log ring) are comes written = record { made = omega arith; cycles = omega arith; unfinished = omega arith; columns = omega arith; gaps = omega arith; fingers = omega arith; bytes = omega arith }
counted_within inputs (came.Tall placement log routing needed given) are comes written = record { made = omega arith; cycles = omega arith; unfinished = omega arith; columns = omega arith; gaps = omega arith; fingers = omega arith; bytes = omega arith }
counted_within inputs (came.Unfinished log proved) are comes written = record { made = omega arith; cycles = omega arith; unfinished = omega arith; columns = omega arith; gaps = omega arith; fingers = omega arith; bytes = omega arith }
