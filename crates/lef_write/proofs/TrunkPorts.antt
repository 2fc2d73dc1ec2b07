-- A pin that is no rail has a port for each trunk of its net.
use Rattle.std.proofs.Common.{ℕ, ◌<◌, List, length, refl, ap, ◌∙◌, inl, inr}
use Rattle.cell_num.specs.declared.net.Pins.{Pins}
use Rattle.row_place.specs.declared.placement.Placement.{Placement}
use Rattle.channel_route.specs.declared.routing.Routing.{Routing}
use Rattle.cell_draw.specs.declared.layout.Layout.{Layout}
use Rattle.cell_draw.specs.Drawings.{drawn_of}
use Rattle.cell_draw.specs.Frame.{frame_of}
use Rattle.cell_draw.specs.Layouts.{width_of, bar_of, net_no, layout_of}
use Rattle.lef_write.specs.Drawn.{HasTrunkPorts}
use Rattle.lef_write.specs.Ports.{ports_of}
use Rattle.lef_write.proofs.Own.{pin_shapes, signal_shapes}

pub trunk_ports : (names : List (List ℕ)) (pins : Pins) (p : Placement) (r : Routing) (xs : List ℕ) (height n : ℕ) → n < pins.pins → HasTrunkPorts pins (frame_of p.row r.tracks height (width_of p xs)) xs r.trunks (ports_of pins r.trunks (drawn_of names pins p r xs height).shapes.rects) (drawn_of names pins p r xs height) n
trunk_ports names pins p r xs height n lt no_rail =
    let l : Layout = layout_of (length names) pins p r xs height in
    pin_shapes l pins r.trunks n lt
    ∙ signal_shapes l pins r.trunks (bar_of l.frame p.nodes r.trunks xs) n refl (λ e. no_rail (inr (ap net_no e))) (λ e. no_rail (inl (ap net_no e)))
