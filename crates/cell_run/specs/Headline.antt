-- What a call of `make` leaves: the drawing of a cell with its evidence, or the evidence of why there is
-- none. Files and what was said are shown where the desk shows them.
use Rattle.std.specs.Prelude.{ℕ, ◌≡◌, ◌<◌, ◌⊎◌, IsTrue, List, [], ◌∷◌, ◌++◌, Option, Some}
use Rattle.file_laws.specs.Abstracts.{IsAbstractOf}
use Rattle.cell_io.specs.Desk.{Files, View, Both}
use Rattle.cell_num.specs.Names.{lowered}
use Rattle.row_model.specs.declared.column.Column.{Column}
use Rattle.row_search.specs.First.{IsFirstLeast}
use Rattle.row_place.specs.Places.{placement_of}
use Rattle.channel_route.specs.declared.ring.Ring.{Ring}
use Rattle.channel_route.specs.declared.routing.Routing.{Routing}
use Rattle.scmos_rules.specs.Rules.{Obeys}
use Rattle.scmos_rules.specs.declared.rules.Deck.TheVariants.{Plain}
use Rattle.cell_draw.specs.declared.drawing.Drawing.{Drawing}
use Rattle.cell_draw.specs.Extracted.{ExtractsTo}
use Rattle.cell_draw.specs.Frame.{needed_of, IsTooTall}
use Rattle.cell_draw.specs.Shown.{ShowsRow}
use Rattle.gds_read.specs.Decoding.{Decodes}
use Rattle.lef_write.specs.Drawn.{AreAllMetal, AreOfNet, HasTrunkPorts, IsSized}
use Rattle.call_end.specs.Status.{first_line}
use Rattle.call_work.specs.Commands.{Making}
use Rattle.cell_run.specs.Evidence.{Certificate, HasEnough, HasEvidence, ProvesAlone, evidence_counts, evidence_name}
use Rattle.cell_run.specs.Evidence.{evidence_text, lemma_count}
use Rattle.cell_run.specs.Origin.{CertifiesBy, HasFiles, HasNoDrawing, IsRoutedOf, IsRowOf, IsStopOf, Origin, fewest_of}
use Rattle.cell_run.specs.Origin.{kind_of_evidence}
use Rattle.cell_run.specs.Ended.{Gathers, IsOfKind, WhereEnds}
use Rattle.cell_run.specs.Plan.{IsCrowdedCell}
use Rattle.call_end.specs.declared.status.Status.{Status}
use Rattle.call_end.specs.declared.status.Status.TheVariants as status
use Rattle.call_end.specs.Deliver.{Says}
use Rattle.cell_inputs.specs.Inputs.{Inputs, unit_nm}
use Rattle.cell_inputs.specs.declared.style.Style.{Style}
use Rattle.cell_make.specs.Extent.{frame_in}
use Rattle.cell_make.specs.Making.{AreLeastLines, AreSmall, IsRouted, abstract_of, drawing_in, library_of, ports_in}
use Rattle.cell_report.specs.Cycles.{ring_text}
use Rattle.cell_report.specs.Cells.{sizes_with, tall_text}
use Rattle.cell_report.specs.Rows.{plan_text}
use Rattle.cell_report.specs.Logs.{unfinished_text}
use Rattle.cell_make.specs.Structures.{HasOneStructure}
use Rattle.cell_make.specs.Style.{AreBodiedBy, AreLegal, HasNoRing, HasPinPort, IsRing, IsToldRing, ShowsWiring}
use Rattle.cell_make.specs.Style.{deck_of, final}
use Rattle.call_words.specs.Asked.{CellAsked}
use Rattle.call_words.specs.declared.evidence.Evidence.{Evidence}
use Rattle.call_words.specs.Words.{Form, Make}
use Rattle.call_work.specs.Ends.{is_among}

abbrev pub IsMake : Option Form → Type 0
IsMake form = IsOfKind Making form

-- so it is of the evidence, the style and the inputs of a drawing, which are there and accepted, and of what the names
-- of its files begin with
abbrev pub FromInputs : Files → Option Form → (Evidence → Style → Inputs → List ℕ → Type 0) → Type 0
FromInputs files form Says = Gathers Making files form (λ m. Says m.evidence m.style m.inputs m.stem)

-- The words ask for it so: `make TECH SPICE CELL OUT`, in this style, with this evidence. The cell has the name CELL in
-- lower case, and the names of its files begin with OUT.
pub record IsAskedFor (form : Option Form) (evidence : Evidence) (style : Style) (inputs : Inputs)
    (out : List ℕ) : Type 0 where
  pub asked : CellAsked
  pub words : form ≡ Some (Make asked out style evidence)
  pub name : inputs.cell.name ≡ lowered asked.cell

-- so it is where `make` ends with this status
abbrev pub WhereMakeEnds : Files → Option Form → Status → Status
    → (Evidence → Style → Inputs → List ℕ → Type 0) → Type 0
WhereMakeEnds files form answer settled Says =
    WhereEnds Making files form answer settled
    (λ m. IsAskedFor form m.evidence m.style m.inputs m.stem × Says m.evidence m.style m.inputs m.stem)

-- ---- a cell that was drawn

-- `row` is the row of the cell, `certificate` its evidence, `routing` its channel, and `lines` has a position for each
-- line.
pub record IsMadeCell (origin : Origin) (style : Style) (inputs : Inputs) (out : List ℕ)
    (old new : View) : Type 0 where
  pub row : List Column
  pub certificate : Certificate (kind_of_evidence origin)
  pub routing : Routing
  pub lines : List ℕ
  -- Over all orders, flips and pairings with the fewest columns, no row has fewer gaps; and of those with as few
  -- the one that a search finds comes first. With `--low` no row that can be wired has fewer.
  pub least : IsRowOf origin inputs row
  -- The checker accepts the evidence, a log by the bound of its version, and the row that it lists is this one, or with
  -- `--low` the first least one, which has fewer gaps. Where a file was given, its bytes are the text of the evidence.
  pub certified : CertifiesBy origin inputs row certificate
  -- No nets are above each other in a cycle; with doglegs no pieces of nets do.
  pub acyclic : HasNoRing style.wiring (placement_of row) inputs.cell.pins
  -- Each net that needs a trunk has one, or with doglegs its pieces; trunks of different nets on one track are apart.
  -- Each is on the least track that is free for it, or with `--low` the row is the first one on the fewest tracks, and
  -- its routing the first on these.
  pub legal : AreLegal style.wiring (placement_of row) inputs.cell.pins routing
  pub tracks : IsRoutedOf origin style inputs row routing
  -- The lines keep their distances, each of them as far left as any other such lines.
  pub least_lines : AreLeastLines (placement_of row) inputs.cell.pins routing lines
  -- The height of the technology, where it has one, is enough.
  pub fits : IsTooTall row routing.tracks inputs.tech.height → ⊥
  -- This is the drawing of the row on these tracks and lines, and this is how it is written: with taps where the words
  -- ask for them.
  pub drawing : Drawing
  pub drawn : drawing ≡ drawing_in inputs row routing lines
  pub layout : Drawing
  pub written : layout ≡ final style.taps drawing lines
  -- The shapes obey every rule of the profile, with taps those for cells with taps.
  pub obeys : Obeys (deck_of style.taps) layout.shapes.rects
  -- Its devices, one for each class of gate cells, are the fingers of the folded subcircuit, net by net.
  pub extracts : ExtractsTo (deck_of style.taps) inputs.cell.nets inputs.fingers layout.shapes
  -- With taps the body of each P device is the net of vdd, and of each N device that of gnd.
  pub bodied : AreBodiedBy style.taps inputs.cell.nets inputs.cell.pins layout.shapes
  -- They are in the columns of the row, and neighbours without a gap abut in each row that both fill.
  pub shows_row : ShowsRow (deck_of style.taps) inputs.cell.nets row layout.shapes
  -- The labels of trunks are on the tracks of the routing; with doglegs those of nets where their first pieces begin.
  pub shows_routing :
      ShowsWiring style.wiring inputs.cell.nets inputs.cell.pins (placement_of row) lines layout.shapes routing
  -- The bytes are a library with one cell of that name and no other, and these are its shapes and labels.
  pub decodes : Decodes (library_of inputs layout) inputs.cell.name inputs.tech.lambda_nm layout.shapes
  pub alone : HasOneStructure (library_of inputs layout)
  -- Each pin has exactly one port: one of the shapes without taps, on which the label of the pin's name is. With
  -- doglegs it may have more after that one.
  pub ports : (n : ℕ) → n < inputs.cell.pins.pins
      → HasPinPort style.wiring inputs.cell.nets (ports_in inputs routing drawing) drawing n
  -- A pin that is no rail has a port for each trunk of its net, or with doglegs for each piece: the metal1 of that.
  pub port_trunks : (n : ℕ) → n < inputs.cell.pins.pins
      → HasTrunkPorts inputs.cell.pins (frame_in inputs row routing lines) lines routing.trunks
      (ports_in inputs routing drawing) drawing n
  -- Every cell of a port is in the net that the pin's name names.
  pub port_nets : (n : ℕ) → n < inputs.cell.pins.pins
      → AreOfNet Plain inputs.cell.nets (ports_in inputs routing drawing) drawing n
  -- Ports and obstructions are all metal of those shapes, each shape once.
  pub obstructs : AreAllMetal (ports_in inputs routing drawing) drawing.shapes.rects
  -- The width and the height are the greatest x and the greatest y of metal1.
  pub sized : IsSized drawing
  -- The text of the macro is read as one that agrees with the shapes of the library, which have a netlist by the plain
  -- deck: its pins are labels, each cell of a port is in its pin's net, and all other metal is in an obstruction.
  pub agrees :
      IsAbstractOf layout.shapes inputs.cell.name (unit_nm inputs.tech) (abstract_of inputs routing drawing)
  -- The library and the abstract are at most 200,000 bytes each.
  pub small : AreSmall (library_of inputs layout) (abstract_of inputs routing drawing)
  -- The library is in `OUT.gds`, and in `OUT.lef` the macro of the cell with these ports, obstructions and this
  -- size. Of a search the text of a log is in `OUT.clog`, or of a certificate by trails in `OUT.ctrail`.
  pub files :
      Both (HasFiles origin inputs.cell out (evidence_text (kind_of_evidence origin) inputs.cell.name certificate)
      (library_of inputs layout) (abstract_of inputs routing drawing)) old.made new.made
  -- The report says the columns, the tracks, the width and height, and how many lemmas the evidence has.
  pub says :
      Both (Says (first_line status.Done ++ plan_text inputs.cell.name inputs.cell.nets row
      ++ sizes_with routing.tracks (fewest_of origin) drawing.width drawing.height
      ++ evidence_counts (kind_of_evidence origin) certificate))
      old.said new.said

-- ---- why there is none

-- In the first least row, or in the one that the given file lists, nets, or with doglegs pieces of nets, are above
-- each other in a cycle, which the report names. The evidence that a search found of that row is written all the same.
pub record IsCyclicCell (origin : Origin) (style : Style) (inputs : Inputs) (out : List ℕ)
    (old new : View) : Type 0 where
  pub row : List Column
  pub certificate : Certificate (kind_of_evidence origin)
  pub ring : Ring
  pub stops : IsStopOf origin inputs row
  pub certified : CertifiesBy origin inputs row certificate
  pub is_ring : IsRing style.wiring (placement_of row) inputs.cell.pins ring
  pub is_told : IsToldRing style.wiring (placement_of row) inputs.cell.pins ring
  pub files :
      Both (HasNoDrawing origin inputs.cell out (evidence_text (kind_of_evidence origin) inputs.cell.name certificate))
      old.made new.made
  pub says : Both (Says (first_line status.Cycle ++ ring_text inputs.cell.nets ring)) old.said new.said

-- The row of this origin, legally routed as it is to be drawn, needs more than the height of the technology, and the
-- report says both heights.
pub record IsTallCell (origin : Origin) (style : Style) (inputs : Inputs) (out : List ℕ)
    (old new : View) : Type 0 where
  pub row : List Column
  pub certificate : Certificate (kind_of_evidence origin)
  pub routing : Routing
  pub least : IsRowOf origin inputs row
  pub certified : CertifiesBy origin inputs row certificate
  pub acyclic : HasNoRing style.wiring (placement_of row) inputs.cell.pins
  pub legal : AreLegal style.wiring (placement_of row) inputs.cell.pins routing
  pub tracks : IsRoutedOf origin style inputs row routing
  pub tall : IsTooTall row routing.tracks inputs.tech.height
  pub files :
      Both (HasNoDrawing origin inputs.cell out (evidence_text (kind_of_evidence origin) inputs.cell.name certificate))
      old.made new.made
  pub says :
      Both (Says (first_line status.TooTall ++ fewest_of origin
      ++ tall_text (needed_of row routing.tracks) inputs.tech.height)) old.said new.said

-- The search ends without a row: the evidence proves that no row has fewer gaps than the report says.
pub record IsOpenMake (evidence : Evidence) (inputs : Inputs) (out : List ℕ) (old new : View) : Type 0 where
  pub certificate : Certificate evidence
  pub proved : ℕ
  pub proves : ProvesAlone evidence inputs proved certificate
  pub files :
      Both (HasEvidence (evidence_name evidence out) (evidence_text evidence inputs.cell.name certificate))
      old.made new.made
  pub says :
      Both (Says (first_line status.Unfinished ++ unfinished_text proved (lemma_count evidence certificate)))
      old.said new.said

-- The evidence was reported and is there, or a gate was reported, and the files are as before.
abbrev pub IsUnmade : Evidence → Inputs → List ℕ → View → View → Type 0
IsUnmade evidence inputs out old new =
    IsOpenMake evidence inputs out old new ⊎ (IsCrowdedCell evidence inputs old new × (new.made ≡ old.made))

-- ---- how `make` has to end

-- the budget is enough for the inputs, and so it is of their first least row
abbrev pub OfFirstLeast : (Style → Inputs → List Column → Type 0) → Evidence → Style → Inputs → List ℕ → Type 0
OfFirstLeast Says evidence style inputs out =
    HasEnough evidence inputs × ((row : List Column) → IsFirstLeast inputs.fingers row → Says style inputs row)

-- no nets of the row, or no pieces of nets, are above each other in a cycle, and its height is enough
pub record CanBeDrawn (style : Style) (inputs : Inputs) (row : List Column) : Type 0 where
  pub acyclic : HasNoRing style.wiring (placement_of row) inputs.cell.pins
  pub fits : (routing : Routing) → IsRouted style inputs row routing
      → IsTooTall row routing.tracks inputs.tech.height → ⊥

-- some do
abbrev pub HasCycle : Style → Inputs → List Column → Type 0
HasCycle style inputs row = (ring : Ring) × IsRing style.wiring (placement_of row) inputs.cell.pins ring

-- none do, but the row needs more than the height
pub record IsTooHigh (style : Style) (inputs : Inputs) (row : List Column) : Type 0 where
  pub acyclic : HasNoRing style.wiring (placement_of row) inputs.cell.pins
  pub tall : (routing : Routing) → IsRouted style inputs row routing
      → IsTooTall row routing.tracks inputs.tech.height

-- with this status, or memory ran out
abbrev pub IsOrShort : Status → Status → Type 0
IsOrShort settled answer = (answer ≡ settled) ⊎ (answer ≡ status.NoMemory)

-- ---- calls that make no file

-- the statuses of calls that make none
abbrev pub fileless_statuses : List Status
fileless_statuses =
    status.Usage
    ∷ status.ReadFault
    ∷ status.Input
    ∷ status.Rejected
    ∷ status.Layout
    ∷ status.TooLong
    ∷ status.Row
    ∷ status.Disagree
    ∷ []

abbrev pub MakesNone : Status → Type 0
MakesNone answer = IsTrue (is_among fileless_statuses answer)
