-- Where a row comes from: a search, a given file, or the search for the lowest of the rows that can be wired with the
-- fewest gaps. What is known of the row, of its evidence and of the files by that.
use Rattle.std.specs.Prelude.{ℕ, ◌≡◌, ◌≢◌, ◌≤◌, ◌<◌, ◌⊎◌, List, [], ◌∷◌, ◌++◌, codes, All, Some}
use Rattle.cell_io.specs.Desk.{Files}
use Rattle.row_model.specs.declared.column.Column.{Column}
use Rattle.row_model.specs.Gaps.{gaps_of}
use Rattle.row_search.specs.First.{IsFirstLeast}
use Rattle.row_place.specs.Places.{placement_of}
use Rattle.channel_route.specs.declared.routing.Routing.{Routing}
use Rattle.spice_net.specs.declared.subckt.Subckt.{Subckt}
use Rattle.track_log.specs.declared.certificate.TrackCertificate.{TrackCertificate}
use Rattle.call_words.specs.declared.evidence.Evidence.{Evidence}
use Rattle.call_words.specs.declared.evidence.Evidence.TheVariants.{Log, Trails}
use Rattle.cell_inputs.specs.declared.style.Style.{Style}
use Rattle.cell_inputs.specs.declared.style.Wiring.{Wiring}
use Rattle.cell_inputs.specs.Inputs.{Inputs}
use Rattle.cell_make.specs.Low.{IsLowRouted}
use Rattle.cell_make.specs.LowRows.{IsLeast, IsLeastWired}
use Rattle.cell_make.specs.LowTracks.{ProvesTracks}
use Rattle.cell_make.specs.LowUnwired.{ProvesUnwired}
use Rattle.cell_make.specs.Style.{AreTight}
use Rattle.cell_report.specs.Cells.{fewest_text}
use Rattle.cell_commands.specs.Check as log
use Rattle.cell_commands.specs.Low.{track_files}
use Rattle.cell_commands.specs.LowCheck.{IsAcceptedTracks}
use Rattle.cell_commands.specs.TrailCheck as trail
use Rattle.cell_run.specs.Evidence.{Certificate, Certifies, HasCell, HasEvidence, evidence_name}

-- a search with evidence of a kind; these bytes of a file that are evidence of a kind; or a search with evidence of a
-- kind, and one for the lowest row with such wiring, which has this certificate of the fewest tracks
pub data Origin : Type 0 where
  Search : (evidence : Evidence) → Origin
  File : (evidence : Evidence) (bytes : List ℕ) → Origin
  Low : (evidence : Evidence) (wiring : Wiring) (tracks : TrackCertificate) → Origin

abbrev pub kind_of_evidence : Origin → Evidence
kind_of_evidence (Search evidence) = evidence
kind_of_evidence (File evidence bytes) = evidence
kind_of_evidence (Low evidence wiring tracks) = evidence

-- The row whose channel is routed: of a search the first least row of the fingers, of a file a least one, of the search
-- for the lowest row one that can be wired, than which no other that can has fewer gaps.
abbrev pub IsRowOf : Origin → Inputs → List Column → Type 0
IsRowOf (Search evidence) inputs row = IsFirstLeast inputs.fingers row
IsRowOf (File evidence bytes) inputs row = IsLeast inputs.fingers row
IsRowOf (Low evidence wiring tracks) inputs row = IsLeastWired wiring inputs row

-- The row whose nets are above each other in a cycle: that of the search or of the file; of the search for the lowest
-- row the first least one, and no row can be wired, which its certificate of the fewest tracks proves. With doglegs
-- that is never proved.
abbrev pub IsStopOf : Origin → Inputs → List Column → Type 0
IsStopOf (Search evidence) inputs row = IsFirstLeast inputs.fingers row
IsStopOf (File evidence bytes) inputs row = IsLeast inputs.fingers row
IsStopOf (Low evidence wiring tracks) inputs row =
    IsFirstLeast inputs.fingers row × ProvesUnwired wiring inputs tracks

-- the bytes are the text of the certificate, which its checker accepts with the gaps of the row and which lists it
abbrev pub ListsIn : (evidence : Evidence) → Inputs → List ℕ → List Column → Certificate evidence → Type 0
ListsIn Log inputs bytes row found = log.IsListed inputs bytes row found
ListsIn Trails inputs bytes row found = trail.IsListed inputs bytes row found

-- The row has more gaps than the first least one, and it certifies that one: no row has fewer gaps than that.
pub record CertifiesLeast
    (evidence : Evidence) (inputs : Inputs) (row : List Column) (certificate : Certificate evidence) : Type 0 where
  pub least : List Column
  pub first : IsFirstLeast inputs.fingers least
  pub more : gaps_of least < gaps_of row
  pub certified : Certifies evidence inputs least certificate

-- It certifies the row of the search for the lowest one; or where no least row can be wired, the first least one.
abbrev pub CertifiesLow :
    (evidence : Evidence) → Inputs → List Column → Certificate evidence → Type 0
CertifiesLow evidence inputs row certificate =
    Certifies evidence inputs row certificate ⊎ CertifiesLeast evidence inputs row certificate

-- The certificate proves how many tracks each row takes at least, within its gaps. Where there is a file of it, `check
-- .. --low` accepts that.
pub record CertifiesFewest (wiring : Wiring) (inputs : Inputs) (tracks : TrackCertificate) : Type 0 where
  pub proves : ProvesTracks wiring inputs tracks
  pub accepted : 1 ≤ tracks.tracks → IsAcceptedTracks wiring inputs tracks

-- of a search its own certificate, of a file the one whose text its bytes are; either is accepted and lists the row. Of
-- the search for the lowest row there are two: that of the fewest gaps, and that of the fewest tracks.
abbrev pub CertifiesBy : (origin : Origin) → Inputs → List Column → Certificate (kind_of_evidence origin) → Type 0
CertifiesBy (Search evidence) inputs row certificate = Certifies evidence inputs row certificate
CertifiesBy (File evidence bytes) inputs row certificate = ListsIn evidence inputs bytes row certificate
CertifiesBy (Low evidence wiring tracks) inputs row certificate =
    CertifiesLow evidence inputs row certificate × CertifiesFewest wiring inputs tracks

-- Each trunk is on the least track that is free for it. Of the search for the lowest row: it is the first row on the
-- fewest tracks, with the first of its routings on these; or that search is open, and it is the first row that can be
-- wired with the fewest gaps, with its trunks on the least tracks.
abbrev pub IsRoutedOf : Origin → Style → Inputs → List Column → Routing → Type 0
IsRoutedOf (Search evidence) style inputs row routing =
    AreTight style.wiring (placement_of row) inputs.cell.pins routing
IsRoutedOf (File evidence bytes) style inputs row routing =
    AreTight style.wiring (placement_of row) inputs.cell.pins routing
IsRoutedOf (Low evidence wiring tracks) style inputs row routing = IsLowRouted style inputs row tracks routing

-- what the report says of the fewest tracks: of the search for the lowest row how many each row takes at least that has
-- no more gaps
abbrev pub fewest_of : Origin → List ℕ
fewest_of (Search evidence) = []
fewest_of (File evidence bytes) = []
fewest_of (Low evidence wiring tracks) = fewest_text tracks.tracks

-- ---- files

-- the bytes of the drawing and the text of its abstract are there, and all other files are as before
pub record HasDrawing (out bytes summary : List ℕ) (old new : Files) : Type 0 where
  pub drawing : new (out ++ codes ".gds") ≡ Some bytes
  pub lef : new (out ++ codes ".lef") ≡ Some summary
  pub others : (name : List ℕ)
      → name ≢ out ++ codes ".gds" → name ≢ out ++ codes ".lef" → new name ≡ old name

-- files of these names are there, each with its bytes, and all others are as before
pub record HasAll (listed : List (List ℕ × List ℕ)) (old new : Files) : Type 0 where
  pub each : All (λ (file : List ℕ × List ℕ). new file.0 ≡ Some file.1) listed
  pub others : (name : List ℕ) → All (λ (file : List ℕ × List ℕ). name ≢ file.0) listed → new name ≡ old name

-- the file of a row's evidence with this text, and that of the fewest tracks, where there is one
abbrev pub low_files : Evidence → Wiring → TrackCertificate → Subckt → List ℕ → List ℕ → List (List ℕ × List ℕ)
low_files evidence wiring tracks cell out text =
    (evidence_name evidence out, text) ∷ track_files wiring cell out tracks

abbrev pub cell_files : List ℕ → List ℕ → List ℕ → List (List ℕ × List ℕ)
cell_files out bytes summary = (out ++ codes ".gds", bytes) ∷ (out ++ codes ".lef", summary) ∷ []

-- the files of a drawn cell: of a search that of its evidence, with this text, and its drawing; of a file the drawing
-- alone; of the search for the lowest row both files of evidence, and the drawing
abbrev pub HasFiles : Origin → Subckt → List ℕ → List ℕ → List ℕ → List ℕ → Files → Files → Type 0
HasFiles (Search evidence) cell out text bytes summary = HasCell (evidence_name evidence out) out text bytes summary
HasFiles (File evidence given) cell out text bytes summary = HasDrawing out bytes summary
HasFiles (Low evidence wiring tracks) cell out text bytes summary =
    HasAll (low_files evidence wiring tracks cell out text ++ cell_files out bytes summary)

-- the files of a row that is not drawn: of a search that of its evidence; of a file none, and all files are as before;
-- of the search for the lowest row both files of evidence
abbrev pub HasNoDrawing : Origin → Subckt → List ℕ → List ℕ → Files → Files → Type 0
HasNoDrawing (Search evidence) cell out text old new = HasEvidence (evidence_name evidence out) text old new
HasNoDrawing (File evidence given) cell out text old new = new ≡ old
HasNoDrawing (Low evidence wiring tracks) cell out text old new =
    HasAll (low_files evidence wiring tracks cell out text) old new
