-- What drawing the lowest row results in; or where the search for it is open, the first row that can be wired.
use Rattle.std.proofs.Common.{List, inl}
use Rattle.row_model.specs.declared.column.Column.{Column}
use Rattle.row_search.specs.First.{IsFirstLeast}
use Rattle.channel_route.specs.declared.routing.Routing.{Routing}
use Rattle.track_log.specs.declared.certificate.TrackCertificate.{TrackCertificate}
use Rattle.cell_inputs.specs.declared.style.Style.{Style}
use Rattle.cell_inputs.specs.Inputs.{Inputs}
use Rattle.cell_make.specs.declared.draw_outcome.DrawOutcome.{DrawOutcome}
use Rattle.cell_make.specs.declared.draw_outcome.DrawOutcome.TheVariants as came
use Rattle.cell_make.specs.Low.{DrawsLow, IsLowRouted, IsLowStop, IsLowest, IsOpenRow}
use Rattle.cell_make.specs.Making.{IsRouted}
use Rattle.cell_make.specs.Rows.{ComesAs, ComesFrom, IsThat, IsWired, row_answer}
use Rattle.cell_make.proofs.DrawnAs.{comes_as, comes_with}
use Rattle.cell_make.proofs.LowOpen.{open_routed}

-- ---- the lowest row

pub lowest_comes : (style : Style) (inputs : Inputs) (row : List Column) (certificate : TrackCertificate) (routing : Routing) (of : DrawOutcome) → IsLowest style.wiring inputs row routing certificate → ComesAs (IsThat routing) style inputs row of → ComesAs (IsLowRouted style inputs row certificate) style inputs row of
lowest_comes style inputs row certificate routing of lowest h = comes_with (IsLowRouted style inputs row certificate) style inputs row routing of (inl lowest) h

wired_stop : (style : Style) (inputs : Inputs) (row : List Column) (certificate : TrackCertificate) (of : DrawOutcome) → IsWired of → IsLowStop style inputs row certificate (row_answer of)
wired_stop style inputs row certificate (came.Drawn placement routing drawn) wired = tt
wired_stop style inputs row certificate (came.Cyclic placement ring) wired = absurd wired
wired_stop style inputs row certificate (came.Tall placement routing needed given) wired = tt

pub lowest_draws : (style : Style) (inputs : Inputs) (row : List Column) (certificate : TrackCertificate) (routing : Routing) (of : DrawOutcome) → IsLowest style.wiring inputs row routing certificate → IsWired of → ComesAs (IsThat routing) style inputs row of → DrawsLow style inputs row certificate (row_answer of)
lowest_draws style inputs row certificate routing of lowest wired h = ((lowest_comes style inputs row certificate routing of lowest h).draws, wired_stop style inputs row certificate of wired)

-- ---- the first row that can be wired with the fewest gaps

pub open_comes : (style : Style) (inputs : Inputs) (least row : List Column) (certificate : TrackCertificate) (of : DrawOutcome) → IsFirstLeast inputs.fingers least → IsOpenRow style.wiring inputs least row certificate → ComesFrom style inputs row of → ComesAs (IsLowRouted style inputs row certificate) style inputs row of
open_comes style inputs least row certificate of first is h = comes_as (IsRouted style inputs row) (IsLowRouted style inputs row certificate) style inputs row of (λ r. open_routed style inputs least row certificate r first is) h
