-- What a drawing shows of its row.
use Rattle.std.proofs.Common.{ℕ, ◌≡◌, ◌≢◌, List, length, refl, sym, subst}
use Rattle.cell_num.specs.declared.net.Pins.{Pins}
use Rattle.cell_num.specs.declared.finger.Fingers.{Fingers}
use Rattle.cell_num.specs.Pins.{ArePins}
use Rattle.row_place.specs.declared.placement.Placement.{Placement}
use Rattle.row_place.specs.Places.{IsPlacement}
use Rattle.channel_route.specs.declared.routing.Routing.{Routing}
use Rattle.channel_route.specs.Routing.{IsLegal}
use Rattle.channel_route.specs.Wiring.{IsWiring}
use Rattle.channel_route.proofs.LegalWiring.{legal_wiring}
use Rattle.row_compact.specs.Allowed.{AreAllowed, stretches_of}
use Rattle.scmos_rules.specs.declared.rules.Deck.TheVariants.{Plain}
use Rattle.cell_draw.specs.declared.drawing.Drawing.{Drawing}
use Rattle.cell_draw.specs.declared.layout.Frame.{Frame}
use Rattle.cell_draw.specs.Drawings.{drawn_of}
use Rattle.cell_draw.specs.Extracted.{Arranges, ExtractsTo, ExtractsToRow}
use Rattle.cell_draw.specs.Frame.{frame_of}
use Rattle.cell_draw.specs.Layouts.{width_of}
use Rattle.cell_draw.specs.Shown.{ShowsRow, ShowsColumns, ShowsRouting}
use Rattle.cell_draw.specs.Sound.{IsSoundRow}
use Rattle.cell_draw.proofs.BridgeFrom.{IsDrawn}
use Rattle.cell_draw.proofs.BridgeWhole.{laid}
use Rattle.cell_draw.proofs.Draws.{drawn_is}
use Rattle.cell_draw.proofs.Extracts.{extracts}
use Rattle.cell_draw.proofs.LabelsPlaced.{IsWired}
use Rattle.cell_draw.proofs.NetsBridge.{has_nets}
use Rattle.cell_draw.proofs.ShownRow.{shows_row}
use Rattle.cell_draw.proofs.ShownTracks.{shows_routing}

-- the row is drawn with its nets
pub wired : (names : List (List ℕ)) (pins : Pins) (p : Placement) (r : Routing) (xs : List ℕ) (height : ℕ) → IsPlacement p → IsSoundRow names pins p.row → IsWiring p pins r → AreAllowed p pins (stretches_of r.trunks) xs → pins.vdd ≢ pins.gnd → IsWired names pins p r xs (frame_of p.row r.tracks height (width_of p xs))
wired names pins p r xs height is row wiring allowed differ =
    let f : Frame = frame_of p.row r.tracks height (width_of p xs) in
    let drawn : IsDrawn names pins p r xs f = drawn_is names pins p r xs height is row wiring allowed in
    record { drawn = drawn; laid = laid names pins p r xs f (length names) drawn; has = has_nets names pins p r xs f (length names) drawn differ }

pub drawn_extracts : (d : Drawing) (names : List (List ℕ)) (pins : Pins) (p : Placement) (r : Routing) (xs : List ℕ) (height : ℕ) → d ≡ drawn_of names pins p r xs height → IsPlacement p → IsSoundRow names pins p.row → IsWiring p pins r → AreAllowed p pins (stretches_of r.trunks) xs → ExtractsToRow Plain names pins p.row d.shapes
drawn_extracts d names pins p r xs height e is row wiring allowed = record { to = to }
  where
    to : ArePins (length names) pins → (fingers : Fingers) → Arranges names pins p.row fingers → ExtractsTo Plain names fingers d.shapes
    to are fingers a = subst (λ (z : Drawing). ExtractsTo Plain names fingers z.shapes) (sym e) (extracts names pins p r xs (frame_of p.row r.tracks height (width_of p xs)) (wired names pins p r xs height is row wiring allowed are.differ) are fingers a.arranged)

pub drawn_shows : (d : Drawing) (names : List (List ℕ)) (pins : Pins) (p : Placement) (r : Routing) (xs : List ℕ) (height : ℕ) → d ≡ drawn_of names pins p r xs height → IsPlacement p → IsSoundRow names pins p.row → IsWiring p pins r → AreAllowed p pins (stretches_of r.trunks) xs → ShowsColumns Plain names pins p.row d.shapes
drawn_shows d names pins p r xs height e is row wiring allowed = record { shown = λ are. subst (λ (z : Drawing). ShowsRow Plain names p.row z.shapes) (sym e) (shows_row names pins p r xs (frame_of p.row r.tracks height (width_of p xs)) (wired names pins p r xs height is row wiring allowed are.differ) are) }

pub drawn_routing : (d : Drawing) (names : List (List ℕ)) (pins : Pins) (p : Placement) (r : Routing) (xs : List ℕ) (height : ℕ) → d ≡ drawn_of names pins p r xs height → IsPlacement p → IsSoundRow names pins p.row → IsLegal p pins r → AreAllowed p pins (stretches_of r.trunks) xs → ShowsRouting names pins p d.shapes r
drawn_routing d names pins p r xs height e is row legal allowed = subst (λ (z : Drawing). ShowsRouting names pins p z.shapes r) (sym e) (shows_routing names pins p r xs (frame_of p.row r.tracks height (width_of p xs)) (drawn_is names pins p r xs height is row (legal_wiring p pins r legal) allowed) legal refl)
