-- How a made cell lies, from what the steps say.
use Rattle.std.proofs.Common.{ℕ, zero, suc, ◌≡◌, ◌+◌, ◌*◌, ◌≤◌, List, [], ◌∷◌, length, ap, subst, arith}
use Rattle.std.proofs.lemmas.List.Sorted.{length_permutation}
use Rattle.cell_num.specs.declared.finger.Fingers.{Fingers}
use Rattle.cell_num.specs.declared.net.Pins.{Pins}
use Rattle.row_model.specs.declared.column.Column.{Column}
use Rattle.row_model.specs.Arrangement.{IsArrangement}
use Rattle.row_place.specs.declared.placement.Placement.{Placement}
use Rattle.row_place.specs.Places.{placement_of}
use Rattle.row_place.specs.Units.{units_of}
use Rattle.channel_route.specs.declared.routing.Routing.{Routing}
use Rattle.row_compact.specs.Allowed.{AreAllowed, Stretch, stretches_of}
use Rattle.row_compact.specs.Solution.{x_of}
use Rattle.cell_draw.specs.Bounds.{AreWithin}
use Rattle.cell_draw.specs.Frame.{frame_of}
use Rattle.cell_draw.specs.Framed.{IsFramed}
use Rattle.cell_draw.specs.Layouts.{width_of}
use Rattle.cell_inputs.specs.Inputs.{AreInputs, Inputs}
use Rattle.cell_make.specs.declared.drawn.Drawn.{Drawn}
use Rattle.cell_make.specs.declared.drawn.TheConstants.{MOST_WIDTH}
use Rattle.cell_make.specs.declared.draw_outcome.DrawOutcome.TheVariants as came
use Rattle.cell_make.specs.Making.{AreLeastLines}
use Rattle.cell_make.specs.Rows.{LiesRowInFrame}

-- ---- a column, and so two lines behind the first one

pub some_column : (row : List Column) (f : Fingers) → IsArrangement row f → 1 ≤ length f.p + length f.n → 1 ≤ length row
some_column [] f are some = absurd (omega (arith, some, length_permutation f.p [] are.p, length_permutation f.n [] are.n))
some_column (column ∷ row) f are some = omega arith

some_unit : (row : List Column) → 1 ≤ length row → 1 ≤ length (units_of row)
some_unit [] some = absurd (omega (arith, some))
some_unit (column ∷ row) some = omega arith

behind : (p : Placement) (pins : Pins) (stretches : List Stretch) (xs : List ℕ) → AreAllowed p pins stretches xs → (line : ℕ) → line ≤ 2 * length p.units → 8 + 8 * line ≤ x_of xs line
behind p pins stretches xs allowed zero most = let first : 8 ≤ x_of xs 0 = allowed.first in omega (arith, first)
behind p pins stretches xs allowed (suc line) most =
    let next : x_of xs line + 8 ≤ x_of xs (line + 1) = allowed.next line (omega (arith, most)) in
    let is : ◌≡◌ {A = ℕ} (line + 1) (suc line) = omega arith in
    omega (arith, next, ap (λ n. x_of xs n) is, behind p pins stretches xs allowed line (omega (arith, most)))

two_lines : (p : Placement) (pins : Pins) (stretches : List Stretch) (xs : List ℕ) → AreAllowed p pins stretches xs → 1 ≤ length p.units → 32 ≤ width_of p xs
two_lines p pins stretches xs allowed some = omega (arith, some, behind p pins stretches xs allowed (2 * length p.units) (omega arith))

wide : (inputs : Inputs) (row : List Column) (routing : Routing) (xs : List ℕ) → AreInputs inputs → IsArrangement row inputs.fingers → AreAllowed (placement_of row) inputs.cell.pins (stretches_of routing.trunks) xs → 32 ≤ width_of (placement_of row) xs
wide inputs row routing xs are arranged allowed =
    two_lines (placement_of row) inputs.cell.pins (stretches_of routing.trunks) xs allowed (some_unit row (some_column row inputs.fingers arranged are.some))

-- ---- the same, from what the steps see

-- a drawing as the steps see it
pub record LiesSo (inside : Inputs) (placement : Placement) (routing : Routing) (drawn : Drawn) (height : ℕ) : Type 0 where
  pub lines : AreLeastLines placement inside.cell.pins routing drawn.lines
  pub framed : IsFramed (frame_of placement.row routing.tracks height (width_of placement drawn.lines)) drawn.lines drawn.drawing
  pub width : drawn.drawing.width ≡ width_of placement drawn.lines
  pub narrow : drawn.drawing.width ≤ MOST_WIDTH
  pub within : AreWithin drawn.drawing.shapes

of_inputs : (inputs inside : Inputs) (placement : Placement) (routing : Routing) (drawn : Drawn) (height : ℕ) → inside ≡ inputs → placement ≡ placement_of placement.row → height ≡ inputs.tech.height → LiesSo inside placement routing drawn height → LiesSo inputs (placement_of placement.row) routing drawn inputs.tech.height
of_inputs inputs inside placement routing drawn height same is high h =
    subst (λ (i : Inputs). LiesSo i (placement_of placement.row) routing drawn inputs.tech.height) same
    (subst (λ (p : Placement). LiesSo inside p routing drawn inputs.tech.height) is
    (subst (λ n. LiesSo inside placement routing drawn n) high h))

pub lies_so : (inputs inside : Inputs) (placement : Placement) (routing : Routing) (drawn : Drawn) (height : ℕ) → inside ≡ inputs → placement ≡ placement_of placement.row → height ≡ inputs.tech.height → AreInputs inputs → IsArrangement placement.row inputs.fingers → LiesSo inside placement routing drawn height → LiesRowInFrame inputs (came.Drawn placement routing drawn)
lies_so inputs inside placement routing drawn height same is high are arranged h =
    let seen = of_inputs inputs inside placement routing drawn height same is high h in
    record {
      framed = seen.framed;
      least = omega (arith, seen.width, wide inputs placement.row routing drawn.lines are arranged seen.lines.allowed);
      most = seen.narrow;
      within = seen.within;
    }
