-- What drawing a row comes to, from what its steps answered.
use Rattle.std.proofs.Common.{ℕ, ◌≡◌, ◌<◌, ◌≤◌, ◌/◌, ◌*◌, ◌%◌, List, length, sym, subst, arith}
use Rattle.std.proofs.Math.Nat.{div-add-mod}
use Rattle.file_laws.specs.Abstracts.{IsAbstractOf}
use Rattle.cell_num.specs.declared.finger.Fingers.{Fingers}
use Rattle.cell_num.specs.declared.net.Pins.{Pins}
use Rattle.cell_num.specs.Fingers.{AreSound}
use Rattle.cell_num.specs.Pins.{ArePins}
use Rattle.box_geom.specs.declared.shape.Shapes.{Shapes}
use Rattle.row_model.specs.declared.column.Column.{Column}
use Rattle.row_model.specs.Arrangement.{IsArrangement}
use Rattle.row_place.specs.declared.placement.Placement.{Placement}
use Rattle.row_place.specs.Places.{IsPlacement, placement_of}
use Rattle.row_place.specs.Trunks.{HasPins}
use Rattle.row_place.proofs.Placed.{placement_is}
use Rattle.channel_route.specs.declared.ring.Ring.{Ring}
use Rattle.channel_route.specs.declared.routing.Routing.{Routing}
use Rattle.row_compact.specs.Allowed.{AreAllowed, stretches_of}
use Rattle.scmos_rules.specs.Rules.{Obeys}
use Rattle.scmos_rules.specs.declared.rules.Deck.TheVariants.{Plain}
use Rattle.cell_draw.specs.declared.drawing.Drawing.{Drawing}
use Rattle.cell_draw.specs.Drawings.{drawn_of}
use Rattle.cell_draw.specs.Extracted.{ExtractsTo, ExtractsToRow}
use Rattle.cell_draw.specs.Frame.{IsTooTall}
use Rattle.cell_draw.specs.Shown.{ShowsColumns, ShowsRow}
use Rattle.cell_draw.specs.Sound.{IsSoundRow}
use Rattle.lef_write.specs.Drawn.{AreAllMetal, AreOfNet, HasTrunkPorts, IsSized}
use Rattle.lef_write.proofs.Apart.{metal}
use Rattle.lef_write.proofs.Named.{has_port, has_ports as has_ports_of}
use Rattle.lef_write.proofs.NetPorts.{of_net}
use Rattle.lef_write.proofs.Sized.{wired_sized}
use Rattle.lef_write.proofs.TrunkPorts.{trunk_ports}
use Rattle.lef_write.specs.Ports.{ports_of}
use Rattle.gds_read.specs.RoundTrip.{IsReadable}
use Rattle.gds_read.specs.Decoding.{Decodes}
use Rattle.gds_read.proofs.RoundTrip.{round_trip}
use Rattle.cell_make.specs.declared.drawn.Drawn.{Drawn}
use Rattle.cell_make.specs.declared.draw_outcome.DrawOutcome.TheVariants as came
use Rattle.cell_inputs.specs.declared.style.Style.{Style}
use Rattle.cell_inputs.specs.declared.style.Wiring.{Wiring}
use Rattle.cell_inputs.specs.declared.style.Wiring.TheVariants.{Straight, Doglegs}
use Rattle.cell_inputs.specs.Inputs.{Inputs, AreInputs, unit_nm}
use Rattle.cell_make.specs.Extent.{frame_in}
use Rattle.cell_make.specs.Making.{AreLeastLines, AreSmall, HasAbstract, HasSmallFiles, IsDrawnAs, IsRouted, abstract_of, drawing_in, final_in, library_of, ports_in}
use Rattle.cell_make.specs.Rows.{ComesAs}
use Rattle.cell_make.specs.Style.{AreBodiedBy, AreLegal, AreTight, HasNoRing, HasPinPort, IsToldRing, ShowsWiring, deck_of, final, tapped_by}
use Rattle.cell_make.specs.Writable.{AreWritable}
use Rattle.cell_make.proofs.Abstracts.{IsDrawnBare, abstract_so, seen_bare, unit_least, unit_most}
use Rattle.cell_make.proofs.Alone.{written_alone}
use Rattle.cell_make.proofs.ReadBack.{readable}
use Rattle.cell_make.proofs.Small.{small_so}
use Rattle.cell_make.proofs.Wirings.{wired_by}

-- ---- what the steps ask; they see the inputs from inside

pub sound_row : (inputs : Inputs) (row : List Column) → AreInputs inputs → IsArrangement row inputs.fingers → IsSoundRow inputs.cell.nets inputs.cell.pins row
sound_row inputs row are arranged = record { fingers = inputs.fingers; sound = are.sound; few_nets = are.fingers.few_nets; arranged = arranged }

pub few_columns : (inputs : Inputs) (row : List Column) → AreInputs inputs → IsArrangement row inputs.fingers → length row ≤ 32
few_columns inputs row are arranged = omega (arith, arranged.fewest, are.fingers.few_columns)

pub placed_row : (inputs inside : Inputs) (row : List Column) (placement : Placement) → inside ≡ inputs → AreInputs inputs → IsArrangement row inputs.fingers → placement ≡ placement_of row → IsSoundRow inside.cell.nets inside.cell.pins placement.row
placed_row inputs inside row placement same are arranged is =
    subst (λ (p : Placement). IsSoundRow inside.cell.nets inside.cell.pins p.row) (sym is) (subst (λ (i : Inputs). IsSoundRow i.cell.nets i.cell.pins row) (sym same) (sound_row inputs row are arranged))

pub placed_legal : (style : Style) (inputs inside : Inputs) (placement : Placement) (routing : Routing) → inside ≡ inputs → AreLegal style.wiring placement inputs.cell.pins routing → AreLegal style.wiring placement inside.cell.pins routing
placed_legal style inputs inside placement routing same legal = subst (λ (i : Inputs). AreLegal style.wiring placement i.cell.pins routing) (sym same) legal

-- a row on its lines is a placement
pub placed_low : (inputs : Inputs) (placement : Placement) → AreInputs inputs → IsArrangement placement.row inputs.fingers → placement ≡ placement_of placement.row → IsPlacement placement
placed_low inputs placement are arranged is = subst IsPlacement (sym is) (placement_is placement.row arranged.columns (few_columns inputs placement.row are arranged))

pub all_pins : (inputs inside : Inputs) (row : List Column) (placement : Placement) → inside ≡ inputs → AreInputs inputs → IsArrangement row inputs.fingers → ((names : List (List ℕ)) (pins : Pins) (f : Fingers) → AreSound names pins f → ArePins f.nets pins → IsArrangement row f → HasPins placement pins) → HasPins placement inside.cell.pins
all_pins inputs inside row placement same are arranged has =
    subst (λ (i : Inputs). HasPins placement i.cell.pins) (sym same) (has inputs.cell.nets inputs.cell.pins inputs.fingers are.sound (subst (λ n. ArePins n inputs.cell.pins) (sym are.sound.named) are.pins) arranged)

pub routed_so : (style : Style) (inputs inside : Inputs) (row : List Column) (placement : Placement) (routing : Routing) → inside ≡ inputs → placement ≡ placement_of row → HasNoRing style.wiring placement inside.cell.pins → AreLegal style.wiring placement inside.cell.pins routing → AreTight style.wiring placement inside.cell.pins routing → IsRouted style inputs row routing
routed_so style inputs inside row placement routing same is acyclic legal tight =
    subst (λ (i : Inputs). IsRouted style i row routing) same (record {
      acyclic = subst (λ (p : Placement). HasNoRing style.wiring p inside.cell.pins) is acyclic;
      legal = subst (λ (p : Placement). AreLegal style.wiring p inside.cell.pins routing) is legal;
      tight = subst (λ (p : Placement). AreTight style.wiring p inside.cell.pins routing) is tight;
    })

pub told_so : (style : Style) (inputs inside : Inputs) (row : List Column) (placement : Placement) (ring : Ring) → inside ≡ inputs → placement ≡ placement_of row → IsToldRing style.wiring placement inside.cell.pins ring → IsToldRing style.wiring (placement_of row) inputs.cell.pins ring
told_so style inputs inside row placement ring same is told =
    subst (λ (i : Inputs). IsToldRing style.wiring (placement_of row) i.cell.pins ring) same (subst (λ (p : Placement). IsToldRing style.wiring p inside.cell.pins ring) is told)

-- ---- a drawing

-- the unit is half a lambda
twice : (n : ℕ) → n % 2 ≡ 0 → 2 * (n / 2) ≡ n
twice n even = omega (arith, even, div-add-mod n 2)

-- what is written decodes with the technology's lambda
decodes_so : (inputs : Inputs) (drawing : Drawing) → AreInputs inputs → IsReadable inputs.cell.name drawing.shapes (unit_nm inputs.tech) → Decodes (library_of inputs drawing) inputs.cell.name inputs.tech.lambda_nm drawing.shapes
decodes_so inputs drawing are readable = subst (λ lambda. Decodes (library_of inputs drawing) inputs.cell.name lambda drawing.shapes) (twice inputs.tech.lambda_nm are.tech.lambda_even) (round_trip inputs.cell.name drawing.shapes (unit_nm inputs.tech) readable)

-- what is said of a drawing, and of the one that is written
pub record IsSoundDrawing (style : Style) (inputs : Inputs) (row : List Column) (routing : Routing) (xs : List ℕ) (drawing : Drawing) : Type 0 where
  pub obeys : Obeys (deck_of style.taps) (final style.taps drawing xs).shapes.rects
  pub extracts : ExtractsTo (deck_of style.taps) inputs.cell.nets inputs.fingers (final style.taps drawing xs).shapes
  pub bodied : AreBodiedBy style.taps inputs.cell.nets inputs.cell.pins (final style.taps drawing xs).shapes
  pub shows_row : ShowsRow (deck_of style.taps) inputs.cell.nets row (final style.taps drawing xs).shapes
  pub shows_routing : ShowsWiring style.wiring inputs.cell.nets inputs.cell.pins (placement_of row) xs (final style.taps drawing xs).shapes routing
  pub ports : (n : ℕ) → n < inputs.cell.pins.pins → HasPinPort style.wiring inputs.cell.nets (ports_in inputs routing drawing) drawing n
  pub port_trunks : (n : ℕ) → n < inputs.cell.pins.pins → HasTrunkPorts inputs.cell.pins (frame_in inputs row routing xs) xs routing.trunks (ports_in inputs routing drawing) drawing n
  pub port_nets : (n : ℕ) → n < inputs.cell.pins.pins → AreOfNet Plain inputs.cell.nets (ports_in inputs routing drawing) drawing n
  pub obstructs : AreAllMetal (ports_in inputs routing drawing) drawing.shapes.rects
  pub sized : IsSized drawing
  pub readable : IsReadable inputs.cell.name (final style.taps drawing xs).shapes (unit_nm inputs.tech)

is_drawn : (Routed : Type 0) (style : Style) (inputs : Inputs) (row : List Column) (routing : Routing) (xs : List ℕ) (drawing : Drawing) → AreInputs inputs → Routed → AreLeastLines (placement_of row) inputs.cell.pins routing xs → (IsTooTall row routing.tracks inputs.tech.height → ⊥) → drawing ≡ drawing_in inputs row routing xs → IsSoundDrawing style inputs row routing xs drawing → IsAbstractOf (final style.taps drawing xs).shapes inputs.cell.name (unit_nm inputs.tech) (abstract_of inputs routing drawing) → AreSmall (library_of inputs (final style.taps drawing xs)) (abstract_of inputs routing drawing) → IsDrawnAs Routed style inputs row routing xs
unfolding HasAbstract HasSmallFiles
is_drawn Routed style inputs row routing xs drawing are routed lines fits is sound agrees small =
    let drawn : IsSoundDrawing style inputs row routing xs (drawing_in inputs row routing xs) = subst (λ (d : Drawing). IsSoundDrawing style inputs row routing xs d) is sound in
    record {
      routed = routed;
      lines = lines;
      fits = fits;
      obeys = drawn.obeys;
      extracts = drawn.extracts;
      bodied = drawn.bodied;
      shows_row = drawn.shows_row;
      shows_routing = drawn.shows_routing;
      ports = drawn.ports;
      port_trunks = drawn.port_trunks;
      port_nets = drawn.port_nets;
      obstructs = drawn.obstructs;
      sized = drawn.sized;
      decodes = decodes_so inputs (final_in style inputs row routing xs) are drawn.readable;
      alone = written_alone inputs.cell.name (final_in style inputs row routing xs).shapes (unit_nm inputs.tech) drawn.readable.named drawn.readable.labels;
      agrees = subst (λ (d : Drawing). IsAbstractOf (final style.taps d xs).shapes inputs.cell.name (unit_nm inputs.tech) (abstract_of inputs routing d)) is agrees;
      small = subst (λ (d : Drawing). AreSmall (library_of inputs (final style.taps d xs)) (abstract_of inputs routing d)) is small;
    }

-- ---- the same, from what the steps see

-- a drawing of a routed row, as the steps see it
pub record IsDrawnSo (style : Style) (inside : Inputs) (row : List Column) (placement : Placement) (routing : Routing) (lines : List ℕ) (drawing : Drawing) (height : ℕ) : Type 0 where
  pub least : AreLeastLines placement inside.cell.pins routing lines
  pub fits : IsTooTall placement.row routing.tracks height → ⊥
  pub exact : drawing ≡ drawn_of inside.cell.nets inside.cell.pins placement routing lines height
  pub obeys : Obeys (deck_of style.taps) (final style.taps drawing lines).shapes.rects
  pub extracts : ExtractsToRow (deck_of style.taps) inside.cell.nets inside.cell.pins placement.row (final style.taps drawing lines).shapes
  pub bodied : ArePins (length inside.cell.nets) inside.cell.pins → AreBodiedBy style.taps inside.cell.nets inside.cell.pins (final style.taps drawing lines).shapes
  pub shows : ShowsColumns (deck_of style.taps) inside.cell.nets inside.cell.pins placement.row (final style.taps drawing lines).shapes
  pub routed : ShowsWiring style.wiring inside.cell.nets inside.cell.pins placement lines (final style.taps drawing lines).shapes routing

-- the same of the inputs and the row themselves
seen_so : (style : Style) (inputs inside : Inputs) (row : List Column) (placement : Placement) (routing : Routing) (lines : List ℕ) (drawing : Drawing) (height : ℕ) → inside ≡ inputs → placement ≡ placement_of row → height ≡ inputs.tech.height → IsDrawnSo style inside row placement routing lines drawing height → IsDrawnSo style inputs row (placement_of row) routing lines drawing inputs.tech.height
seen_so style inputs inside row placement routing lines drawing height same is high h =
    subst (λ (i : Inputs). IsDrawnSo style i row (placement_of row) routing lines drawing inputs.tech.height) same
    (subst (λ (p : Placement). IsDrawnSo style inside row p routing lines drawing inputs.tech.height) is
    (subst (λ n. IsDrawnSo style inside row placement routing lines drawing n) high h))

-- the ports and the obstructions of the drawing of a routed row
has_pin_port : (wiring : Wiring) (names : List (List ℕ)) (pins : Pins) (p : Placement) (r : Routing) (xs : List ℕ) (height n : ℕ) → IsPlacement p → AreLegal wiring p pins r → AreAllowed p pins (stretches_of r.trunks) xs → pins.pins ≤ length names → n < pins.pins → HasPinPort wiring names (ports_of pins r.trunks (drawn_of names pins p r xs height).shapes.rects) (drawn_of names pins p r xs height) n
has_pin_port Straight names pins p r xs height n is legal allowed few lt = has_port names pins p r xs height n is legal allowed few lt
has_pin_port Doglegs names pins p r xs height n is legal allowed few lt = has_ports_of names pins p r xs height n is (wired_by Doglegs p pins r legal) allowed few lt

has_ports : (style : Style) (inputs : Inputs) (row : List Column) (routing : Routing) (lines : List ℕ) (drawing : Drawing) → AreInputs inputs → IsPlacement (placement_of row) → AreLegal style.wiring (placement_of row) inputs.cell.pins routing → AreLeastLines (placement_of row) inputs.cell.pins routing lines → drawing ≡ drawing_in inputs row routing lines → (n : ℕ) → n < inputs.cell.pins.pins → HasPinPort style.wiring inputs.cell.nets (ports_in inputs routing drawing) drawing n
has_ports style inputs row routing lines drawing are placed legal least is n lt =
    subst (λ (d : Drawing). HasPinPort style.wiring inputs.cell.nets (ports_in inputs routing d) d n) (sym is)
    (has_pin_port style.wiring inputs.cell.nets inputs.cell.pins (placement_of row) routing lines inputs.tech.height n placed legal least.allowed are.pins.named lt)

has_trunk_ports : (inputs : Inputs) (row : List Column) (routing : Routing) (lines : List ℕ) (drawing : Drawing) → drawing ≡ drawing_in inputs row routing lines → (n : ℕ) → n < inputs.cell.pins.pins → HasTrunkPorts inputs.cell.pins (frame_in inputs row routing lines) lines routing.trunks (ports_in inputs routing drawing) drawing n
has_trunk_ports inputs row routing lines drawing is n lt =
    subst (λ (d : Drawing). HasTrunkPorts inputs.cell.pins (frame_in inputs row routing lines) lines routing.trunks (ports_in inputs routing d) d n) (sym is)
    (trunk_ports inputs.cell.nets inputs.cell.pins (placement_of row) routing lines inputs.tech.height n lt)

of_nets : (style : Style) (inputs : Inputs) (row : List Column) (routing : Routing) (lines : List ℕ) (drawing : Drawing) → AreInputs inputs → IsArrangement row inputs.fingers → IsPlacement (placement_of row) → AreLegal style.wiring (placement_of row) inputs.cell.pins routing → AreLeastLines (placement_of row) inputs.cell.pins routing lines → drawing ≡ drawing_in inputs row routing lines → (n : ℕ) → n < inputs.cell.pins.pins → AreOfNet Plain inputs.cell.nets (ports_in inputs routing drawing) drawing n
of_nets style inputs row routing lines drawing are arranged placed legal least is n lt =
    subst (λ (d : Drawing). AreOfNet Plain inputs.cell.nets (ports_in inputs routing d) d n) (sym is)
    (of_net inputs.cell.nets inputs.cell.pins (placement_of row) routing lines inputs.tech.height n placed (sound_row inputs row are arranged) (wired_by style.wiring (placement_of row) inputs.cell.pins routing legal) least.allowed are.pins lt)

has_metal : (inputs : Inputs) (row : List Column) (routing : Routing) (lines : List ℕ) (drawing : Drawing) → drawing ≡ drawing_in inputs row routing lines → AreAllMetal (ports_in inputs routing drawing) drawing.shapes.rects
has_metal inputs row routing lines drawing is =
    subst (λ (d : Drawing). AreAllMetal (ports_in inputs routing d) d.shapes.rects) (sym is)
    (metal inputs.cell.nets inputs.cell.pins (placement_of row) routing lines inputs.tech.height)

has_size : (style : Style) (inputs : Inputs) (row : List Column) (routing : Routing) (lines : List ℕ) (drawing : Drawing) → IsPlacement (placement_of row) → AreLegal style.wiring (placement_of row) inputs.cell.pins routing → AreLeastLines (placement_of row) inputs.cell.pins routing lines → drawing ≡ drawing_in inputs row routing lines → IsSized drawing
has_size style inputs row routing lines drawing placed legal least is =
    subst IsSized (sym is) (wired_sized inputs.cell.nets inputs.cell.pins (placement_of row) routing lines inputs.tech.height placed (wired_by style.wiring (placement_of row) inputs.cell.pins routing legal) least.allowed)

sound_drawing : (style : Style) (inputs : Inputs) (row : List Column) (routing : Routing) (lines : List ℕ) (drawing : Drawing) → AreInputs inputs → IsArrangement row inputs.fingers → IsPlacement (placement_of row) → AreLegal style.wiring (placement_of row) inputs.cell.pins routing → IsDrawnSo style inputs row (placement_of row) routing lines drawing inputs.tech.height → IsReadable inputs.cell.name (final style.taps drawing lines).shapes (unit_nm inputs.tech) → IsSoundDrawing style inputs row routing lines drawing
sound_drawing style inputs row routing lines drawing are arranged placed legal h readable = record {
  obeys = h.obeys;
  extracts = h.extracts.to are.pins inputs.fingers (record { sound = are.sound; arranged = arranged });
  bodied = h.bodied are.pins;
  shows_row = h.shows.shown are.pins;
  shows_routing = h.routed;
  ports = has_ports style inputs row routing lines drawing are placed legal h.least h.exact;
  port_trunks = has_trunk_ports inputs row routing lines drawing h.exact;
  port_nets = of_nets style inputs row routing lines drawing are arranged placed legal h.least h.exact;
  obstructs = has_metal inputs row routing lines drawing h.exact;
  sized = has_size style inputs row routing lines drawing placed legal h.least h.exact;
  readable = readable;
}

-- ---- what drawing comes to

pub readable_so : (inputs inside : Inputs) (shapes : Shapes) → inside ≡ inputs → AreInputs inputs → AreWritable inside.cell.nets shapes → IsReadable inputs.cell.name shapes (unit_nm inputs.tech)
readable_so inputs inside shapes same are writable =
    readable inputs.cell.nets inputs.cell.name shapes (unit_nm inputs.tech) are.nets are.cell (unit_least inputs.tech.lambda_nm are.tech.lambda_least) (unit_most inputs.tech.lambda_nm are.tech.lambda_most)
    (subst (λ (i : Inputs). AreWritable i.cell.nets shapes) same writable)

pub drawn_so : (Says : Routing → Type 0) (style : Style) (inputs inside : Inputs) (placement : Placement) (routing : Routing) (drawn : Drawn) (height : ℕ) → inside ≡ inputs → placement ≡ placement_of placement.row → height ≡ inputs.tech.height → AreInputs inputs → IsArrangement placement.row inputs.fingers → IsPlacement placement → AreLegal style.wiring placement inputs.cell.pins routing → Says routing → IsDrawnSo style inside placement.row placement routing drawn.lines drawn.drawing height → IsDrawnBare inside placement routing drawn.lines drawn.drawing height → drawn.tapped ≡ tapped_by style.taps drawn.drawing drawn.lines → IsReadable inputs.cell.name (final style.taps drawn.drawing drawn.lines).shapes (unit_nm inputs.tech) → ComesAs Says style inputs placement.row (came.Drawn placement routing drawn)
drawn_so Says style inputs inside placement routing drawn height same is high are arranged placed legal says h bare tapped readable =
    let seen = seen_so style inputs inside placement.row placement routing drawn.lines drawn.drawing height same is high h in
    let sound = sound_drawing style inputs placement.row routing drawn.lines drawn.drawing are arranged (subst IsPlacement is placed) (subst (λ (p : Placement). AreLegal style.wiring p inputs.cell.pins routing) is legal) seen readable in
    let agrees = abstract_so style inputs inside placement.row placement routing drawn.lines drawn.drawing height same is high are arranged (subst IsPlacement is placed) seen.least seen.exact sound.port_nets sound.obstructs bare in
    let near = seen_bare inputs inside placement.row placement routing drawn.lines drawn.drawing height same is high bare in
    let small = small_so style inputs placement.row routing drawn.lines drawn.drawing are seen.exact near sound.obstructs readable in
    record {
      placed = is;
      draws = is_drawn (Says routing) style inputs placement.row routing drawn.lines drawn.drawing are says seen.least seen.fits seen.exact sound agrees small;
      exact = (seen.exact, tapped);
    }
