-- A made cell is one that stands in a row.
use Rattle.std.proofs.Common.{ℕ, ◌≡◌, ◌≢◌, ◌+◌, ◌<◌, ◌≤◌, length, ℤ, pos, ◌≤ℤ◌, ◌-ℤ◌, List, ◌∷◌, All, inl, inr, refl, ap, sym, subst, ◌∙◌, arith}
use Rattle.std.proofs.lemmas.Int.{ints}
use Rattle.std.proofs.lemmas.List.Elements.{All-head, All-weaker}
use Rattle.box_geom.specs.declared.shape.Label.{Label}
use Rattle.box_geom.specs.declared.shape.Shape.{Shape}
use Rattle.cell_draw.specs.Bounds.{IsLabelWithin, IsShapeWithin, IsWithin}
use Rattle.cell_draw.specs.Framed.{IsFramed}
use Rattle.cell_draw.specs.Shapes.{gnd_rail, n_select, p_select, vdd_rail, well}
use Rattle.cell_draw.specs.Small.{HasWidths}
use Rattle.cell_draw.specs.Sound.{IsSoundRow}
use Rattle.cell_draw.specs.declared.drawing.Drawing.{Drawing}
use Rattle.cell_draw.specs.declared.layout.Frame.{Frame}
use Rattle.cell_inputs.specs.Inputs.{AreInputs, Inputs, unit_nm}
use Rattle.cell_inputs.specs.Style.{plain_style}
use Rattle.cell_inputs.specs.declared.style.LeastRow.{LeastRow}
use Rattle.cell_inputs.specs.declared.style.LeastRow.TheVariants.{First, Lowest}
use Rattle.cell_num.specs.declared.net.Pins.{Pins}
use Rattle.bound_log.specs.declared.log.Log.{Log}
use Rattle.cell_draw.specs.declared.cell.TheConstants.{MOST_SHAPES}
use Rattle.cell_make.proofs.DrawnAs.{drawn_as}
use Rattle.cell_make.proofs.Finals.{final_is}
use Rattle.cell_make.proofs.Makes.{few_columns, placed_row}
use Rattle.channel_route.proofs.LegalWiring.{legal_wiring}
use Rattle.cell_make.specs.Extent.{HasExtent, frame_in}
use Rattle.cell_make.specs.Low.{IsLowRouted}
use Rattle.cell_make.specs.Making.{IsDrawnAs, IsRouted, drawing_in, final_of}
use Rattle.cell_make.specs.Style.{tapped_by}
use Rattle.cell_make.specs.declared.drawn.Drawn.{Drawn}
use Rattle.channel_route.specs.Routing.{IsLegal}
use Rattle.channel_route.specs.Wiring.{IsWiring}
use Rattle.channel_route.specs.declared.routing.Routing.{Routing}
use Rattle.gds_read.specs.RoundTrip.{IsReadable}
use Rattle.row_abut.specs.Cells.{AreOneByName, HaveSameRails, IsDrawn, IsInReach, IsLabelInReach, IsRowCell, IsShapeInReach}
use Rattle.row_abut.specs.Circuit.{IsCircuit}
use Rattle.row_abut.specs.Row.{gnd_name, vdd_name}
use Rattle.row_abut.specs.declared.cell.RowCell.{RowCell}
use Rattle.cell_make.proofs.Rails.{rails_named}
use Rattle.cell_draw.proofs.TrunkCount.{few_tracks}
use Rattle.cell_draw.proofs.BridgeRow.{widths}
use Rattle.cell_make.specs.RowInputs.{RowInputs}
use Rattle.cell_make.specs.CellOfRow.{IsMadeBy}
use Rattle.cell_make.specs.Rowed.{IsMadeCell, IsOneByName, MadeCell, cell_drawing, cell_frame, row_cell}
use Rattle.cell_make.specs.RowSteps.{IsSoundCell}
use Rattle.row_model.specs.declared.column.Column.{Column}
use Rattle.row_model.specs.Arrangement.{IsArrangement}
use Rattle.row_place.proofs.Placed.{placement_is}
use Rattle.row_place.specs.Places.{IsPlacement, placement_of}
use Rattle.row_place.specs.declared.placement.Placement.{Placement}
use Rattle.tech_file.specs.Technology.{IsTechnology}
use Rattle.track_log.specs.declared.certificate.TrackCertificate.{TrackCertificate}
use Rattle.well_tap.proofs.Drawn.{rails_drawn}
use Rattle.well_tap.specs.Bodied.{AreRails}

-- ---- a made cell, whichever of its rows it has

-- an arrangement of the fingers is drawn on a legal routing
pub record IsStanding (m : MadeCell) : Type 0 where
  pub arranges : IsArrangement m.row m.inputs.fingers
  pub drawn : IsDrawnAs (IsLegal (placement_of m.row) m.inputs.cell.pins m.routing) plain_style m.inputs m.row m.routing m.lines
  pub sound : IsSoundCell m

low_arranges : (inputs : Inputs) (row : List Column) (tracks : TrackCertificate) (routing : Routing) → IsLowRouted plain_style inputs row tracks routing → IsArrangement row inputs.fingers
low_arranges inputs row tracks routing (inl h) = h.least.arranges
low_arranges inputs row tracks routing (inr h) = h.first.least.arranges

low_legal : (inputs : Inputs) (row : List Column) (tracks : TrackCertificate) (routing : Routing) → IsLowRouted plain_style inputs row tracks routing → IsLegal (placement_of row) inputs.cell.pins routing
low_legal inputs row tracks routing (inl h) = h.legal
low_legal inputs row tracks routing (inr h) = h.routed.legal

pub stands_by : (choice : LeastRow) (m : MadeCell) → IsMadeBy choice m.inputs m.row m.log m.routing m.lines → IsSoundCell m → IsStanding m
stands_by First m made sound = record {
  arranges = made.found.first.arranges;
  drawn = drawn_as (IsRouted plain_style m.inputs m.row m.routing) (IsLegal (placement_of m.row) m.inputs.cell.pins m.routing) plain_style m.inputs m.row m.routing m.lines (λ r. r.legal) made.drawn;
  sound = sound;
}
stands_by Lowest m made sound = record {
  arranges = low_arranges m.inputs m.row made.tracks m.routing made.drawn.routed;
  drawn = drawn_as (IsLowRouted plain_style m.inputs m.row made.tracks m.routing) (IsLegal (placement_of m.row) m.inputs.cell.pins m.routing) plain_style m.inputs m.row m.routing m.lines (low_legal m.inputs m.row made.tracks m.routing) made.drawn;
  sound = sound;
}

-- a made cell of a row, and what holds of it besides
pub record IsReady (r : RowInputs) (m : MadeCell) : Type 0 where
  pub is : IsMadeCell r m
  pub sound : IsSoundCell m

stands : (r : RowInputs) (m : MadeCell) → IsReady r m → IsStanding m
stands r m h = stands_by r.choice m h.is.made h.sound

-- ---- its row and its channel

placed : (m : MadeCell) → IsStanding m → IsPlacement (placement_of m.row)
placed m h = placement_is m.row h.arranges.columns (few_columns m.inputs m.row h.sound.inputs h.arranges)

sound_row : (m : MadeCell) → IsStanding m → IsSoundRow m.inputs.cell.nets m.inputs.cell.pins m.row
sound_row m h = placed_row m.inputs m.inputs m.row (placement_of m.row) refl h.sound.inputs h.arranges refl

wired : (m : MadeCell) → IsStanding m → IsWiring (placement_of m.row) m.inputs.cell.pins m.routing
wired m h = legal_wiring (placement_of m.row) m.inputs.cell.pins m.routing h.drawn.routed

-- ---- where it lies

reach : (z : ℤ) → IsWithin z → IsInReach z
reach z h = record { least = omega (arith, ints, h.least); most = omega (arith, ints, h.most) }

shape_reach : (s : Shape) → IsShapeWithin s → IsShapeInReach s
shape_reach s h = record { x1 = reach s.rect.x1 h.x1; y1 = reach s.rect.y1 h.y1; x2 = reach s.rect.x2 h.x2; y2 = reach s.rect.y2 h.y2 }

label_reach : (l : Label) → IsLabelWithin l → IsLabelInReach l
label_reach l h = record { x = reach l.x h.x; y = reach l.y h.y }

-- the well begins below the P row
well_within : (f : Frame) (xs : List ℕ) (d : Drawing) → IsFramed f xs d → All IsShapeWithin d.shapes.rects → IsShapeWithin (well f)
well_within f xs d framed within = All-head IsShapeWithin (well f) (p_select f ∷ n_select f ∷ gnd_rail f ∷ vdd_rail f ∷ framed.frame.others) (subst (λ (rects : List Shape). All IsShapeWithin rects) framed.frame.is within)

p_low : (f : Frame) → IsShapeWithin (well f) → f.p_edge ≤ 2000000
p_low f h = let y : (pos f.p_edge -ℤ pos 12) ≤ℤ pos 1000018 = h.y1.most in omega (arith, ints, y)

pub in_row : (r : RowInputs) (m : MadeCell) → IsReady r m → IsRowCell (row_cell m)
in_row r m h =
    let low : (cell_frame m).p_edge ≤ 2000000 = p_low (cell_frame m) (well_within (cell_frame m) m.lines (cell_drawing m) h.sound.extent.framed h.sound.extent.within.rects) in
    let edge : (cell_frame m).n_edge + 40 ≤ (cell_frame m).p_edge = h.sound.extent.framed.p_edge in
    record {
      names = h.sound.inputs.nets;
      pins = h.sound.inputs.pins;
      width = let most : (cell_drawing m).width ≤ 127016 = h.sound.extent.most in omega (arith, most);
      n = omega (arith, low, edge);
      p = low;
      rects = All-weaker IsShapeWithin IsShapeInReach shape_reach (cell_drawing m).shapes.rects h.sound.extent.within.rects;
      labels = All-weaker IsLabelWithin IsLabelInReach label_reach (cell_drawing m).shapes.labels h.sound.extent.within.labels;
    }

-- ---- what it is

pub is_drawn : (r : RowInputs) (m : MadeCell) → IsReady r m → IsDrawn (row_cell m)
is_drawn r m h = record { frame = cell_frame m; xs = m.lines; framed = h.sound.extent.framed; n = refl; p = refl; obeys = (stands r m h).drawn.obeys }

rails : (m : MadeCell) → IsStanding m → AreRails m.inputs.cell.nets m.inputs.cell.pins (cell_drawing m)
rails m h =
    rails_drawn m.inputs.cell.nets m.inputs.cell.pins (placement_of m.row) m.routing m.lines m.inputs.tech.height (placed m h) (sound_row m h) (wired m h) h.drawn.lines.allowed h.sound.inputs.pins

differ : (r : RowInputs) (m : MadeCell) → IsTechnology r.tech → IsReady r m → vdd_name (row_cell m) ≢ gnd_name (row_cell m)
differ r m tech h same =
    let named = rails_named r.spice m.inputs.cell.name r.tech m.inputs.cell h.is.of.cell in
    tech.rails_differ (sym named.vdd ∙ same ∙ named.gnd)

pub is_circuit : (r : RowInputs) (m : MadeCell) → IsTechnology r.tech → IsReady r m → IsCircuit (row_cell m) m.inputs.fingers
is_circuit r m tech h = record { extracts = (stands r m h).drawn.extracts; rails = rails m (stands r m h); differ = differ r m tech h }

-- ---- two of them

pub same_rails : (r : RowInputs) (a b : MadeCell) → IsReady r a → IsReady r b → HaveSameRails (row_cell a) (row_cell b)
same_rails r a b x y =
    let one = rails_named r.spice a.inputs.cell.name r.tech a.inputs.cell x.is.of.cell in
    let other = rails_named r.spice b.inputs.cell.name r.tech b.inputs.cell y.is.of.cell in
    record { vdd = one.vdd ∙ sym other.vdd; gnd = one.gnd ∙ sym other.gnd }

pub one_by_name : (a b : MadeCell) → IsOneByName a b → AreOneByName (row_cell a) (row_cell b)
one_by_name a b h = record { one = λ same. ap row_cell (h.one same) }

-- ---- what drawing it asks

pub row_widths : (m : MadeCell) → IsStanding m → All HasWidths m.row
row_widths m h = widths m.inputs.cell.nets m.inputs.cell.pins m.row (sound_row m h)

pub low_tracks : (m : MadeCell) → IsStanding m → m.routing.tracks ≤ 1000
low_tracks m h = omega (arith, few_tracks (placement_of m.row) m.inputs.cell.pins m.routing (placed m h) (wired m h))

-- ---- what making it came to

abbrev pub made_of : Inputs → Placement → Log → Routing → Drawn → MadeCell
made_of inputs placement log routing drawn = record { inputs = inputs; row = placement.row; log = log; routing = routing; lines = drawn.lines }

-- what was drawn is a sound cell
pub sound_so : (inputs : Inputs) (placement : Placement) (log : Log) (routing : Routing) (drawn : Drawn) → AreInputs inputs → drawn.drawing ≡ drawing_in inputs placement.row routing drawn.lines → drawn.tapped ≡ tapped_by plain_style.taps drawn.drawing drawn.lines → IsReadable inputs.cell.name (final_of drawn).shapes (unit_nm inputs.tech) → length drawn.drawing.shapes.rects < MOST_SHAPES → HasExtent (frame_in inputs placement.row routing drawn.lines) drawn.lines drawn.drawing → IsSoundCell (made_of inputs placement log routing drawn)
sound_so inputs placement log routing drawn are is tapped readable few extent = record {
  inputs = are;
  extent = subst (λ (d : Drawing). HasExtent (frame_in inputs placement.row routing drawn.lines) drawn.lines d) is extent;
  readable = subst (λ (d : Drawing). IsReadable inputs.cell.name d.shapes (unit_nm inputs.tech)) (final_is plain_style.taps drawn tapped ∙ is) readable;
  few = subst (λ (d : Drawing). length d.shapes.rects < MOST_SHAPES) is few;
}

pub same_cell : (c d : RowCell) → c.name ≡ d.name → c.nets ≡ d.nets → c.pins ≡ d.pins → c.drawing ≡ d.drawing → c.edges.n ≡ d.edges.n → c.edges.p ≡ d.edges.p → c ≡ d
same_cell c d name nets pins drawing n p =
    ap (λ x. made x c.nets c.pins c.drawing c.edges.n c.edges.p) name
    ∙ ap (λ x. made d.name x c.pins c.drawing c.edges.n c.edges.p) nets
    ∙ ap (λ x. made d.name d.nets x c.drawing c.edges.n c.edges.p) pins
    ∙ ap (λ x. made d.name d.nets d.pins x c.edges.n c.edges.p) drawing
    ∙ ap (λ x. made d.name d.nets d.pins d.drawing x c.edges.p) n
    ∙ ap (λ x. made d.name d.nets d.pins d.drawing d.edges.n x) p
  where
    made : List ℕ → List (List ℕ) → Pins → Drawing → ℕ → ℕ → RowCell
    made name nets pins drawing n p = record { name = name; nets = nets; pins = pins; drawing = drawing; edges = record { n = n; p = p } }
