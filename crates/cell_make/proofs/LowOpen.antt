-- What drawing a row that can be wired results in, where the search for the lowest row is open.
use Rattle.std.proofs.Common.{List, inr}
use Rattle.row_model.specs.declared.column.Column.{Column}
use Rattle.row_search.specs.First.{IsFirstLeast}
use Rattle.row_place.specs.Places.{placement_of}
use Rattle.channel_route.specs.declared.ring.Ring.{Ring}
use Rattle.channel_route.specs.declared.routing.Routing.{Routing}
use Rattle.dogleg_route.proofs.PieceWalks.{acyclic as no_pieces}
use Rattle.track_log.specs.declared.certificate.TrackCertificate.{TrackCertificate}
use Rattle.cell_inputs.specs.declared.style.Style.{Style}
use Rattle.cell_inputs.specs.declared.style.Wiring.{Wiring}
use Rattle.cell_inputs.specs.declared.style.Wiring.TheVariants.{Straight, Doglegs}
use Rattle.cell_inputs.specs.Inputs.{Inputs}
use Rattle.cell_make.specs.Low.{DrawsLow, IsLowRouted, IsLowStop, IsOpenRow}
use Rattle.cell_make.specs.LowRows.{IsWired}
use Rattle.cell_make.specs.Making.{IsRouted}
use Rattle.cell_make.specs.Rows.{DrawAnswer, Draws, RowCyclic, RowDrawn, RowTall}
use Rattle.cell_make.specs.Style.{HasNoRing, IsToldRing, as_pieces}
use Rattle.cell_make.proofs.DrawnAs.{draws_as}
use Rattle.cell_make.proofs.FewTracks.{acyclic}
use Rattle.cell_make.proofs.Rings.{no_ring, ring_is}

pub wired_acyclic : (wiring : Wiring) (inputs : Inputs) (row : List Column) → IsWired wiring inputs row → HasNoRing wiring (placement_of row) inputs.cell.pins
wired_acyclic Straight inputs row (r, legal) = acyclic (placement_of row) inputs.cell.pins r legal
wired_acyclic Doglegs inputs row (r, legal) = no_pieces (placement_of row) inputs.cell.pins (as_pieces r) legal

-- nets of it, or pieces of them, are in no cycle
pub not_ringed : (wiring : Wiring) (inputs : Inputs) (row : List Column) (ring : Ring) → IsWired wiring inputs row → IsToldRing wiring (placement_of row) inputs.cell.pins ring → ⊥
not_ringed wiring inputs row ring wired told =
    no_ring wiring (placement_of row) inputs.cell.pins ring (wired_acyclic wiring inputs row wired) (ring_is wiring (placement_of row) inputs.cell.pins ring told)

wired_stop : (style : Style) (inputs : Inputs) (row : List Column) (certificate : TrackCertificate) (answer : DrawAnswer) → IsWired style.wiring inputs row → Draws style inputs row answer → IsLowStop style inputs row certificate answer
wired_stop style inputs row certificate (RowDrawn routing xs) wired draws = tt
wired_stop style inputs row certificate (RowCyclic ring) wired draws = absurd (not_ringed style.wiring inputs row ring wired draws)
wired_stop style inputs row certificate (RowTall routing) wired draws = tt

-- what is said of its routing, where make's own router found it
pub open_routed : (style : Style) (inputs : Inputs) (least row : List Column) (certificate : TrackCertificate) (routing : Routing) → IsFirstLeast inputs.fingers least → IsOpenRow style.wiring inputs least row certificate → IsRouted style inputs row routing → IsLowRouted style inputs row certificate routing
open_routed style inputs least row certificate routing first is routed = inr (record { first = is.first first; gaps = is.gaps; spent = is.spent; routed = routed })

pub open_draws : (style : Style) (inputs : Inputs) (least row : List Column) (certificate : TrackCertificate) (answer : DrawAnswer) → IsFirstLeast inputs.fingers least → IsOpenRow style.wiring inputs least row certificate → Draws style inputs row answer → DrawsLow style inputs row certificate answer
open_draws style inputs least row certificate answer first is draws = (
  draws_as (IsRouted style inputs row) (IsLowRouted style inputs row certificate) style inputs row answer
      (λ r. open_routed style inputs least row certificate r first is) draws,
  wired_stop style inputs row certificate answer is.wired.wired draws,
)
