-- What making a cell results in: its drawing, a cycle of its least row, a height that is not enough, or the log of
-- an unfinished search.
use Rattle.std.specs.Prelude.{ℕ, ◌≡◌, ◌<◌, ◌≤◌, ◌*◌, List, length, unwrap_or}
use Rattle.cell_num.specs.declared.net.Pins.{Pins}
use Rattle.row_model.specs.declared.column.Column.{Column}
use Rattle.file_laws.specs.Abstracts.{IsAbstractOf}
use Rattle.bound_log.specs.declared.log.Log.{Log}
use Rattle.row_place.specs.declared.placement.Placement.{Placement}
use Rattle.row_place.specs.Places.{placement_of}
use Rattle.channel_route.specs.declared.ring.Ring.{Ring}
use Rattle.channel_route.specs.declared.routing.Routing.{Routing}
use Rattle.row_compact.specs.Allowed.{AreAllowed, stretches_of}
use Rattle.row_compact.specs.Solution.{x_of}
use Rattle.scmos_rules.specs.Rules.{Obeys}
use Rattle.scmos_rules.specs.declared.rules.Deck.TheVariants.{Plain}
use Rattle.cell_draw.specs.declared.cell.TheConstants.{MOST_SHAPES}
use Rattle.cell_draw.specs.declared.drawing.Drawing.{Drawing}
use Rattle.cell_draw.specs.Drawings.{drawn_of}
use Rattle.cell_draw.specs.Extracted.{ExtractsTo}
use Rattle.cell_draw.specs.Frame.{needed_of, IsTooTall}
use Rattle.cell_draw.specs.Shown.{ShowsRow}
use Rattle.gds_write.specs.Written.{written}
use Rattle.gds_read.specs.Decoding.{Decodes}
use Rattle.gds_read.specs.RoundTrip.{IsReadable}
use Rattle.lef_write.specs.declared.port.Port.{Port}
use Rattle.lef_write.specs.Drawn.{AreAllMetal, AreOfNet, HasTrunkPorts, IsSized}
use Rattle.lef_write.specs.Lef.{cell_text}
use Rattle.lef_write.specs.Ports.{ports_of}
use Rattle.cell_make.specs.declared.drawn.Drawn.{Drawn}
use Rattle.cell_make.specs.declared.outcome.Outcome.{Outcome}
use Rattle.cell_make.specs.declared.outcome.Outcome.TheVariants as outcome
use Rattle.cell_inputs.specs.declared.style.Style.{Style}
use Rattle.cell_inputs.specs.Inputs.{Inputs, unit_nm}
use Rattle.cell_make.specs.Extent.{frame_in}
use Rattle.cell_make.specs.Searched.{IsFound, IsUnfinished}
use Rattle.cell_make.specs.Structures.{HasOneStructure}
use Rattle.cell_make.specs.Style.{AreBodiedBy, AreLegal, AreTight, HasNoRing, HasPinPort, IsToldRing, ShowsWiring}
use Rattle.cell_make.specs.Style.{deck_of, final, tapped_by}

-- ---- the parts

-- A position for each line that the routed row allows, at every line at most every other such one.
pub record AreLeastLines (placement : Placement) (pins : Pins) (routing : Routing) (xs : List ℕ) : Type 0 where
  pub allowed : AreAllowed placement pins (stretches_of routing.trunks) xs
  pub least : (other : List ℕ) → AreAllowed placement pins (stretches_of routing.trunks) other
      → (line : ℕ) → line ≤ 2 * length placement.units → x_of xs line ≤ x_of other line

-- its channel, routed; no nets are above each other in a cycle
pub record IsRouted (style : Style) (inputs : Inputs) (row : List Column) (routing : Routing) : Type 0 where
  pub acyclic : HasNoRing style.wiring (placement_of row) inputs.cell.pins
  pub legal : AreLegal style.wiring (placement_of row) inputs.cell.pins routing
  pub tight : AreTight style.wiring (placement_of row) inputs.cell.pins routing

-- the drawing of the row and its channel
abbrev pub drawing_in : Inputs → List Column → Routing → List ℕ → Drawing
drawing_in inputs row routing xs =
    drawn_of inputs.cell.nets inputs.cell.pins (placement_of row) routing xs inputs.tech.height

-- the same as it is written
abbrev pub final_in : Style → Inputs → List Column → Routing → List ℕ → Drawing
final_in style inputs row routing xs = final style.taps (drawing_in inputs row routing xs) xs

-- the bytes of a drawing
abbrev pub library_of : Inputs → Drawing → List ℕ
library_of inputs drawing = written inputs.cell.name drawing.shapes (unit_nm inputs.tech)

-- the ports of a drawing
abbrev pub ports_in : Inputs → Routing → Drawing → List Port
ports_in inputs routing drawing = ports_of inputs.cell.pins routing.trunks drawing.shapes.rects

-- the text of its abstract
abbrev pub abstract_of : Inputs → Routing → Drawing → List ℕ
abstract_of inputs routing drawing = cell_text inputs.cell routing drawing (unit_nm inputs.tech)

-- The text of the abstract is read as a macro that agrees with the shapes that are written, with taps or without. It is
-- unfolded where it is wanted, since a search over what is said of a cell need not go into texts.
unfoldable pub HasAbstract : Style → Inputs → List Column → Routing → List ℕ → Type 0
HasAbstract style inputs row routing xs =
    IsAbstractOf (final_in style inputs row routing xs).shapes inputs.cell.name (unit_nm inputs.tech)
    (abstract_of inputs routing (drawing_in inputs row routing xs))

-- a library and an abstract, of at most 200,000 bytes each
pub record AreSmall (gds lef : List ℕ) : Type 0 where
  pub library : length gds ≤ 200000
  pub abstract : length lef ≤ 200000

-- So are the library of the shapes that are written and the text of the abstract. It is unfolded where it is wanted.
unfoldable pub HasSmallFiles : Style → Inputs → List Column → Routing → List ℕ → Type 0
HasSmallFiles style inputs row routing xs =
    AreSmall (library_of inputs (final_in style inputs row routing xs))
    (abstract_of inputs routing (drawing_in inputs row routing xs))

-- What is said of a drawn row. `Routed` holds of its channel, its lines are at the least places, and the height is
-- enough. The shapes obey every rule, extract net by net to the fingers, and show the row and the routing;
-- with taps each device's body is its row's rail. The bytes, which have no other structure, decode with the cell's name
-- and the technology's lambda to these shapes. Each pin has a port, and one for each trunk of its net, every cell of
-- them is in the pin's net, all other metal obstructs, and the size is that of metal1: these without the taps. The text
-- of the abstract is read as a macro that agrees with the shapes. Both files are small.
pub record IsDrawnAs (Routed : Type 0) (style : Style) (inputs : Inputs) (row : List Column) (routing : Routing)
    (xs : List ℕ) : Type 0 where
  pub routed : Routed
  pub lines : AreLeastLines (placement_of row) inputs.cell.pins routing xs
  pub fits : IsTooTall row routing.tracks inputs.tech.height → ⊥
  pub obeys : Obeys (deck_of style.taps) (final_in style inputs row routing xs).shapes.rects
  pub extracts :
      ExtractsTo (deck_of style.taps) inputs.cell.nets inputs.fingers (final_in style inputs row routing xs).shapes
  pub bodied :
      AreBodiedBy style.taps inputs.cell.nets inputs.cell.pins (final_in style inputs row routing xs).shapes
  pub shows_row : ShowsRow (deck_of style.taps) inputs.cell.nets row (final_in style inputs row routing xs).shapes
  pub shows_routing :
      ShowsWiring style.wiring inputs.cell.nets inputs.cell.pins (placement_of row) xs
      (final_in style inputs row routing xs).shapes routing
  pub ports : (n : ℕ) → n < inputs.cell.pins.pins
      → HasPinPort style.wiring inputs.cell.nets (ports_in inputs routing (drawing_in inputs row routing xs))
      (drawing_in inputs row routing xs) n
  pub port_trunks : (n : ℕ) → n < inputs.cell.pins.pins
      → HasTrunkPorts inputs.cell.pins (frame_in inputs row routing xs) xs routing.trunks
      (ports_in inputs routing (drawing_in inputs row routing xs)) (drawing_in inputs row routing xs) n
  pub port_nets : (n : ℕ) → n < inputs.cell.pins.pins
      → AreOfNet Plain inputs.cell.nets (ports_in inputs routing (drawing_in inputs row routing xs))
      (drawing_in inputs row routing xs) n
  pub obstructs :
      AreAllMetal (ports_in inputs routing (drawing_in inputs row routing xs))
      (drawing_in inputs row routing xs).shapes.rects
  pub sized : IsSized (drawing_in inputs row routing xs)
  pub decodes :
      Decodes (library_of inputs (final_in style inputs row routing xs)) inputs.cell.name inputs.tech.lambda_nm
      (final_in style inputs row routing xs).shapes
  pub alone : HasOneStructure (library_of inputs (final_in style inputs row routing xs))
  pub agrees : HasAbstract style inputs row routing xs
  pub small : HasSmallFiles style inputs row routing xs

-- with its channel routed legally and tightly
abbrev pub IsDrawn : Style → Inputs → List Column → Routing → List ℕ → Type 0
IsDrawn style inputs row routing xs = IsDrawnAs (IsRouted style inputs row routing) style inputs row routing xs

-- ---- what making a cell results in

-- A cell that was made: its row is the first least arrangement of the fingers, the log is accepted and lists it, and
-- the row is drawn.
pub record IsMade (style : Style) (inputs : Inputs) (row : List Column) (log : Log) (routing : Routing)
    (xs : List ℕ) : Type 0 where
  pub found : IsFound inputs row log
  pub drawn : IsDrawn style inputs row routing xs

pub data MakeAnswer : Type 0 where
  Made : (row : List Column) (log : Log) (routing : Routing) (xs : List ℕ) → MakeAnswer
  Cyclic : (row : List Column) (log : Log) (ring : Ring) → MakeAnswer
  Tall : (row : List Column) (log : Log) (routing : Routing) → MakeAnswer
  Unfinished : (proved : ℕ) (log : Log) → MakeAnswer

abbrev pub Makes : Style → Inputs → MakeAnswer → Type 0
Makes style inputs (Made row log routing xs) = IsMade style inputs row log routing xs
Makes style inputs (Cyclic row log ring) =
    IsFound inputs row log × IsToldRing style.wiring (placement_of row) inputs.cell.pins ring
Makes style inputs (Tall row log routing) =
    IsFound inputs row log × IsRouted style inputs row routing × IsTooTall row routing.tracks inputs.tech.height
Makes style inputs (Unfinished proved log) = IsUnfinished inputs proved log

-- ---- as the code answers it

abbrev pub answer_of : Outcome → MakeAnswer
answer_of (outcome.Made placement log routing drawn) = Made placement.row log routing drawn.lines
answer_of (outcome.Cyclic placement log ring) = Cyclic placement.row log ring
answer_of (outcome.Tall placement log routing needed given) = Tall placement.row log routing
answer_of (outcome.Unfinished log proved) = Unfinished proved log

-- the one of its drawings that is written
abbrev pub final_of : Drawn → Drawing
final_of drawn = unwrap_or drawn.tapped drawn.drawing

-- The drawing is that of the row, its routing and its lines, with taps where the style asks for them, and the heights
-- are the one that the row needs and the one of the technology.
abbrev pub IsDrawnBy : Style → Inputs → Outcome → Type 0
IsDrawnBy style inputs (outcome.Made placement log routing drawn) =
    (drawn.drawing ≡ drawing_in inputs placement.row routing drawn.lines)
    × (drawn.tapped ≡ tapped_by style.taps drawn.drawing drawn.lines)
IsDrawnBy style inputs (outcome.Cyclic placement log ring) = Unit {0}
IsDrawnBy style inputs (outcome.Tall placement log routing needed given) =
    (needed ≡ needed_of placement.row routing.tracks) × (given ≡ inputs.tech.height)
IsDrawnBy style inputs (outcome.Unfinished log proved) = Unit {0}

abbrev pub ComesTo : Style → Inputs → Outcome → Type 0
ComesTo style inputs came = Makes style inputs (answer_of came) × IsDrawnBy style inputs came

-- a drawing can be written as a library that is read back, and without taps is small enough for an abstract
abbrev pub CanBeWritten : Inputs → Outcome → Type 0
CanBeWritten inputs (outcome.Made placement log routing drawn) =
    IsReadable inputs.cell.name (final_of drawn).shapes (unit_nm inputs.tech)
    × (length drawn.drawing.shapes.rects < MOST_SHAPES)
CanBeWritten inputs (outcome.Cyclic placement log ring) = Unit {0}
CanBeWritten inputs (outcome.Tall placement log routing needed given) = Unit {0}
CanBeWritten inputs (outcome.Unfinished log proved) = Unit {0}
