-- What is told as a ring is one, and where there is none none is told.
use Rattle.cell_num.specs.declared.net.Pins.{Pins}
use Rattle.row_place.specs.declared.placement.Placement.{Placement}
use Rattle.channel_route.specs.declared.ring.Ring.{Ring}
use Rattle.channel_route.specs.declared.ring.Ring.TheVariants.{OfNets, OfPieces}
use Rattle.channel_route.proofs.Stuck.{cycle_is}
use Rattle.cell_inputs.specs.declared.style.Wiring.{Wiring}
use Rattle.cell_inputs.specs.declared.style.Wiring.TheVariants.{Straight, Doglegs}
use Rattle.cell_make.specs.Style.{HasNoRing, IsRing, IsToldRing}

pub ring_is : (wiring : Wiring) (p : Placement) (pins : Pins) (ring : Ring) → IsToldRing wiring p pins ring → IsRing wiring p pins ring
ring_is Straight p pins (OfNets cycle) told = cycle_is p pins cycle told
ring_is Straight p pins (OfPieces cycle) told = absurd told
ring_is Doglegs p pins (OfNets cycle) told = absurd told
ring_is Doglegs p pins (OfPieces cycle) told = told.is

pub no_ring : (wiring : Wiring) (p : Placement) (pins : Pins) (ring : Ring) → HasNoRing wiring p pins → IsRing wiring p pins ring → ⊥
no_ring Straight p pins (OfNets cycle) none is = none cycle is
no_ring Straight p pins (OfPieces cycle) none is = is
no_ring Doglegs p pins (OfNets cycle) none is = is
no_ring Doglegs p pins (OfPieces cycle) none is = none cycle is
