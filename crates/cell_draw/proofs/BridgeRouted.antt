-- What the routing gives of a layout that is drawn: reaches, pads, bars and vias.
use Rattle.std.proofs.Common.{ℕ, ◌≡◌, ◌≤◌, List, Some, Contains}
use Rattle.cell_num.specs.declared.net.Pins.{Pins}
use Rattle.cell_num.specs.declared.finger.Row.TheVariants.{P, N}
use Rattle.row_place.specs.declared.placement.Placement.{Placement}
use Rattle.channel_route.specs.declared.routing.Routing.{Routing}
use Rattle.cell_draw.specs.declared.layout.Frame.{Frame}
use Rattle.cell_draw.specs.declared.layout.Contact.{Contact}
use Rattle.cell_draw.specs.declared.layout.Gate.{Gate}
use Rattle.cell_draw.specs.declared.layout.Bar.{Bar}
use Rattle.cell_draw.specs.declared.layout.Layout.{Layout}
use Rattle.cell_draw.specs.Laid.{IsTrack, KeepClear, AreBars, IsOnBar, IsMet}
use Rattle.cell_draw.specs.Layouts.{laid_out}
use Rattle.cell_draw.proofs.BridgeFrom.{contact_from, gate_from, IsDrawn}
use Rattle.cell_draw.proofs.BridgeTracks.{IsRouted, keep_clear}
use Rattle.cell_draw.proofs.BridgeTracks as track
use Rattle.cell_draw.proofs.BridgeBars.{bar_lies, bars_spread, pad_on_bar, vias_met}

abbrev layout : (pins : Pins) (p : Placement) (r : Routing) (xs : List ℕ) (f : Frame) (nets : ℕ) → Layout
layout pins p r xs f nets = laid_out f nets pins p r.trunks xs

routed : (names : List (List ℕ)) (pins : Pins) (p : Placement) (r : Routing) (xs : List ℕ) (f : Frame) → IsDrawn names pins p r xs f → IsRouted p pins r xs
routed names pins p r xs f d = record { placed = d.placement; wiring = d.wiring; allowed = d.allowed }

pub reaches : (names : List (List ℕ)) (pins : Pins) (p : Placement) (r : Routing) (xs : List ℕ) (f : Frame) (nets : ℕ) → IsDrawn names pins p r xs f → (c : Contact) (y : ℕ) → Contains (layout pins p r xs f nets).contacts c → c.reach ≡ Some y → IsTrack f r.tracks y
reaches names pins p r xs f nets d c y there e = track.reaches p pins r d.wiring f xs c y (contact_from f pins r.trunks xs p.nodes c there) e

pub clear : (names : List (List ℕ)) (pins : Pins) (p : Placement) (r : Routing) (xs : List ℕ) (f : Frame) (nets : ℕ) → IsDrawn names pins p r xs f → (a b : Contact) (n q : ℕ) → Contains (layout pins p r xs f nets).contacts a → Contains (layout pins p r xs f nets).contacts b → a.row ≡ N → b.row ≡ P → a.x ≡ b.x → a.reach ≡ Some n → b.reach ≡ Some q → KeepClear a b n q
clear names pins p r xs f nets d a b n q la lb = keep_clear p pins r xs (routed names pins p r xs f d) f a b n q (contact_from f pins r.trunks xs p.nodes a la) (contact_from f pins r.trunks xs p.nodes b lb)

pub pads : (names : List (List ℕ)) (pins : Pins) (p : Placement) (r : Routing) (xs : List ℕ) (f : Frame) (nets : ℕ) → IsDrawn names pins p r xs f → (g : Gate) (y : ℕ) → Contains (layout pins p r xs f nets).gates g → g.track ≡ Some y → IsOnBar (layout pins p r xs f nets) g.net g.x y
pads names pins p r xs f nets d g y there e = pad_on_bar p pins r xs (routed names pins p r xs f d) f nets g y (gate_from p.row f r.trunks xs g there) e

pub bars : (names : List (List ℕ)) (pins : Pins) (p : Placement) (r : Routing) (xs : List ℕ) (f : Frame) (nets : ℕ) → IsDrawn names pins p r xs f → (b : Bar) → Contains (layout pins p r xs f nets).bars b → (b.left ≤ b.right) × IsTrack f r.tracks b.y
bars names pins p r xs f nets d b there = bar_lies p pins r xs (routed names pins p r xs f d) f b there

pub bar_spread : (names : List (List ℕ)) (pins : Pins) (p : Placement) (r : Routing) (xs : List ℕ) (f : Frame) (nets : ℕ) → IsDrawn names pins p r xs f → (a b : Bar) → Contains (layout pins p r xs f nets).bars a → Contains (layout pins p r xs f nets).bars b → AreBars a b
bar_spread names pins p r xs f nets d a b la lb = bars_spread p pins r xs (routed names pins p r xs f d) f a b la lb

pub vias : (names : List (List ℕ)) (pins : Pins) (p : Placement) (r : Routing) (xs : List ℕ) (f : Frame) (nets : ℕ) → IsDrawn names pins p r xs f → (b : Bar) (x : ℕ) → Contains (layout pins p r xs f nets).bars b → Contains b.vias x → IsMet (layout pins p r xs f nets) b x
vias names pins p r xs f nets d b x there line = vias_met p pins r xs (routed names pins p r xs f d) f nets b x there line
