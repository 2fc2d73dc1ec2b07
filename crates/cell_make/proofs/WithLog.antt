-- What making a cell comes to, from what its row came to.
use Rattle.std.proofs.Common.{◌≡◌, List, refl, subst, sym}
use Rattle.row_model.specs.declared.column.Column.{Column}
use Rattle.bound_log.specs.declared.log.Log.{Log}
use Rattle.row_place.specs.declared.placement.Placement.{Placement}
use Rattle.row_place.specs.Places.{placement_of}
use Rattle.cell_inputs.specs.declared.style.Style.{Style}
use Rattle.cell_inputs.specs.Inputs.{Inputs}
use Rattle.cell_make.specs.declared.outcome.Outcome.TheVariants as outcome
use Rattle.cell_make.specs.declared.draw_outcome.DrawOutcome.{DrawOutcome}
use Rattle.cell_make.specs.declared.draw_outcome.DrawOutcome.TheVariants as came
use Rattle.cell_make.specs.Extent.{IsOnItsLines, LiesInFrame}
use Rattle.cell_make.specs.Making.{CanBeWritten, ComesTo}
use Rattle.cell_make.specs.Rows.{CanRowBeWritten, ComesFrom, LiesRowInFrame, placement_in}
use Rattle.cell_make.specs.Searched.{IsFound}
use Rattle.cell_make.specs.WithLog.{with_log}

pub comes_to : (style : Style) (inputs : Inputs) (row : List Column) (log : Log) (of : DrawOutcome) → IsFound inputs row log → ComesFrom style inputs row of → ComesTo style inputs (with_log of log)
comes_to style inputs row log (came.Drawn placement routing drawn) found from =
    subst (λ (p : Placement). ComesTo style inputs (outcome.Made p log routing drawn)) (sym from.placed)
    (record { found = found; drawn = from.draws }, from.exact)
comes_to style inputs row log (came.Cyclic placement ring) found from =
    subst (λ (p : Placement). ComesTo style inputs (outcome.Cyclic p log ring)) (sym from.placed) ((found, from.draws), tt)
comes_to style inputs row log (came.Tall placement routing needed given) found from =
    subst (λ (p : Placement). ComesTo style inputs (outcome.Tall p log routing needed given)) (sym from.placed)
    ((found, from.draws.0, from.draws.1), from.exact)

on_lines : (row : List Column) (placement : Placement) → placement ≡ placement_of row → placement ≡ placement_of placement.row
on_lines row placement is = subst (λ (p : Placement). p ≡ placement_of p.row) (sym is) refl

pub is_on_lines : (row : List Column) (log : Log) (of : DrawOutcome) → placement_in of ≡ placement_of row → IsOnItsLines (with_log of log)
is_on_lines row log (came.Drawn placement routing drawn) is = on_lines row placement is
is_on_lines row log (came.Cyclic placement ring) is = on_lines row placement is
is_on_lines row log (came.Tall placement routing needed given) is = on_lines row placement is

pub can_be_written : (inputs : Inputs) (log : Log) (of : DrawOutcome) → CanRowBeWritten inputs of → CanBeWritten inputs (with_log of log)
can_be_written inputs log (came.Drawn placement routing drawn) can = can
can_be_written inputs log (came.Cyclic placement ring) can = tt
can_be_written inputs log (came.Tall placement routing needed given) can = tt

pub lies_in_frame : (inputs : Inputs) (log : Log) (of : DrawOutcome) → LiesRowInFrame inputs of → LiesInFrame inputs (with_log of log)
lies_in_frame inputs log (came.Drawn placement routing drawn) lies = lies
lies_in_frame inputs log (came.Cyclic placement ring) lies = tt
lies_in_frame inputs log (came.Tall placement routing needed given) lies = tt
