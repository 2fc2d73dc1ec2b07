-- What drawing the lowest row of a cell results in, from what the search for it answered.
use Rattle.std.proofs.Common.{◌≡◌, false, Bool, List, refl}
use Rattle.cell_inputs.specs.declared.style.Wiring.{Wiring}
use Rattle.cell_inputs.specs.declared.style.Wiring.TheVariants.{Straight}
use Rattle.cell_inputs.specs.Inputs.{AreInputs, Inputs}
use Rattle.cell_inputs.specs.Style.{plain_style}
use Rattle.cell_make.proofs.LowDrawn.{lowest_comes, open_comes}
use Rattle.cell_make.proofs.LowOpen.{not_ringed}
use Rattle.cell_make.proofs.LowRows.{pins_there}
use Rattle.cell_make.specs.Low.{IsLowPlanned, IsOpenRow}
use Rattle.cell_make.specs.LowRows.{CanBeRouted, HasFirstLeast, IsLeast}
use Rattle.cell_make.specs.RowSteps.{IsLowDrawn, IsRingEnd}
use Rattle.cell_make.specs.Rows.{ComesAs, ComesFrom, IsThat, IsWired}
use Rattle.cell_make.specs.declared.draw_outcome.DrawOutcome.{DrawOutcome}
use Rattle.cell_make.specs.declared.draw_outcome.DrawOutcome.TheVariants as came
use Rattle.cell_make.specs.declared.low_drawn.LowDrawn.{LowDrawn}
use Rattle.cell_make.specs.declared.low_planned.LowPlanned.TheVariants as planned
use Rattle.channel_route.proofs.Routes.{some_routing}
use Rattle.channel_route.specs.Routing.{HasTightRouting}
use Rattle.channel_route.specs.declared.ring.Ring.{Ring}
use Rattle.channel_route.specs.declared.routing.Routing.{Routing}
use Rattle.row_model.specs.declared.column.Column.{Column}
use Rattle.row_place.specs.Places.{placement_of}
use Rattle.row_place.specs.declared.placement.Placement.{Placement}
use Rattle.row_search.specs.First.{IsFirstLeast}
use Rattle.track_log.specs.declared.certificate.TrackCertificate.{TrackCertificate}

pub first_least : (inputs : Inputs) (row : List Column) → IsFirstLeast inputs.fingers row → IsLeast inputs.fingers row
first_least inputs row first = record { arranges = first.arranges; least = first.least }

-- in it each pin has a place
pub first_there : (wiring : Wiring) (inputs : Inputs) (row : List Column) → AreInputs inputs → IsFirstLeast inputs.fingers row → CanBeRouted wiring inputs row → HasFirstLeast wiring inputs
first_there wiring inputs row are first routed = record { row = row; first = first; pins = pins_there inputs row are first.arranges; routed = routed }

-- with straight trunks without a cycle it always has a routing
pub first_straight : (inputs : Inputs) (row : List Column) → AreInputs inputs → IsFirstLeast inputs.fingers row → HasFirstLeast Straight inputs
first_straight inputs row are first = first_there Straight inputs row are first routed
  where
    routed : CanBeRouted Straight inputs row
    routed none =
        let has : HasTightRouting (placement_of row) inputs.cell.pins = some_routing (placement_of row) inputs.cell.pins (pins_there inputs row are first.arranges) none in
        (has.routing, has.legal, has.tight)

abbrev pub low_drawn : DrawOutcome → (none_wired : Bool) → LowDrawn
low_drawn of none_wired = record { came = of; none_wired = none_wired }

-- ---- the lowest row

wired_end : (inputs : Inputs) (first row : List Column) (tracks : TrackCertificate) (none_wired : Bool) (of : DrawOutcome) → IsWired of → IsRingEnd inputs first row tracks none_wired of
wired_end inputs first row tracks none_wired (came.Drawn placement routing drawn) wired = tt
wired_end inputs first row tracks none_wired (came.Cyclic placement ring) wired = absurd wired
wired_end inputs first row tracks none_wired (came.Tall placement routing needed given) wired = tt

pub lowest_low : (inputs : Inputs) (first : List Column) (placement : Placement) (routing : Routing) (certificate : TrackCertificate) (of : DrawOutcome) → IsLowPlanned plain_style.wiring inputs first (planned.Found placement routing certificate) → IsWired of → ComesAs (IsThat routing) plain_style inputs placement.row of → IsLowDrawn inputs first (low_drawn of false)
lowest_low inputs first placement routing certificate of (placed, lowest, proves) wired comes = record {
  row = placement.row;
  tracks = certificate;
  proves = proves;
  comes = lowest_comes plain_style inputs placement.row certificate routing of lowest comes;
  ring = wired_end inputs first placement.row certificate false of wired;
}

-- ---- the first row that can be wired with the fewest gaps

-- it has no cycle
open_wired : (inputs : Inputs) (first row : List Column) (certificate : TrackCertificate) (of : DrawOutcome) → IsOpenRow plain_style.wiring inputs first row certificate → ComesFrom plain_style inputs row of → IsWired of
open_wired inputs first row certificate (came.Drawn placement routing drawn) is comes = tt
open_wired inputs first row certificate (came.Cyclic placement ring) is comes = not_ringed plain_style.wiring inputs row ring is.wired.wired comes.draws
open_wired inputs first row certificate (came.Tall placement routing needed given) is comes = tt

pub open_low : (inputs : Inputs) (first row : List Column) (certificate : TrackCertificate) (of : DrawOutcome) → IsFirstLeast inputs.fingers first → IsLowPlanned plain_style.wiring inputs first (planned.Open row certificate) → ComesFrom plain_style inputs row of → IsLowDrawn inputs first (low_drawn of false)
open_low inputs first row certificate of least (is, proves) comes = record {
  row = row;
  tracks = certificate;
  proves = proves;
  comes = open_comes plain_style inputs first row certificate of least is comes;
  ring = wired_end inputs first row certificate false of (open_wired inputs first row certificate of is comes);
}

-- ---- a cycle of the first least row

pub ring_low : (inputs : Inputs) (first : List Column) (ring : Ring) (certificate : TrackCertificate) (none_wired : Bool) (placement : Placement) → IsLowPlanned plain_style.wiring inputs first (planned.Unwired ring certificate none_wired) → placement ≡ placement_of first → IsLowDrawn inputs first (low_drawn (came.Cyclic placement ring) none_wired)
ring_low inputs first ring certificate none_wired placement (ringed, ends, proves) placed = record {
  row = first;
  tracks = certificate;
  proves = proves;
  comes = record { placed = placed; draws = ringed.told; exact = tt };
  ring = (refl, ends);
}
