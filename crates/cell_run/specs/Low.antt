-- What a call of `make .. --low` leaves, and how it has to end; and the same of `check .. --low`.
use Rattle.std.specs.Prelude.{ℕ, ◌≡◌, ◌⊎◌, List, ◌++◌, Option, Some, IfSome}
use Rattle.cell_io.specs.Desk.{Files, View, Both}
use Rattle.cell_num.specs.Names.{lowered}
use Rattle.row_model.specs.declared.column.Column.{Column}
use Rattle.row_search.specs.First.{IsFirstLeast}
use Rattle.channel_route.specs.declared.ring.Ring.{Ring}
use Rattle.track_log.specs.declared.certificate.TrackCertificate.{TrackCertificate}
use Rattle.turn_check.specs.declared.course.LowProved.{LowProved}
use Rattle.call_end.specs.Deliver.{Says}
use Rattle.call_end.specs.Status.{first_line}
use Rattle.call_end.specs.declared.status.Status.{Status}
use Rattle.call_end.specs.declared.status.Status.TheVariants as status
use Rattle.call_words.specs.Asked.{CellAsked}
use Rattle.call_words.specs.Words.{Form, MakeLow}
use Rattle.call_words.specs.declared.evidence.Evidence.{Evidence}
use Rattle.call_work.specs.Commands.{CheckingLow, MakingLow}
use Rattle.call_work.specs.declared.material.LowMaterial.{LowMaterial}
use Rattle.cell_inputs.specs.declared.style.Style.{Style}
use Rattle.cell_inputs.specs.declared.style.Wiring.{Wiring}
use Rattle.cell_inputs.specs.Inputs.{Inputs}
use Rattle.cell_make.specs.LowRows.{IsRinged}
use Rattle.cell_make.specs.LowUnwired.{IsUnwiredOpen}
use Rattle.cell_report.specs.Cells.{fewest_text}
use Rattle.cell_report.specs.Cycles.{ring_text}
use Rattle.cell_commands.specs.Low.{open_fewest}
use Rattle.cell_commands.specs.LowCheck.{IsTextOfTracks, NeedTracks, accepted_text}
use Rattle.cell_run.specs.Ended.{Gathers, IsOfKind, WhereEnds}
use Rattle.cell_run.specs.Evidence.{Certificate, Certifies, evidence_text}
use Rattle.cell_run.specs.Headline.{CanBeDrawn, IsCyclicCell, IsMadeCell, IsTallCell, IsUnmade, OfFirstLeast}
use Rattle.cell_run.specs.Origin.{CertifiesFewest, HasNoDrawing, Low, Origin}

-- ---- `make`

abbrev pub IsMakeLow : Option Form → Type 0
IsMakeLow form = IsOfKind MakingLow form

-- The words ask for it so: `make TECH SPICE CELL OUT .. --low`, in this style and with this evidence. The cell has the
-- name CELL in lower case, and the names of its files begin with OUT.
pub record IsAskedLow (form : Option Form) (m : LowMaterial) : Type 0 where
  pub asked : CellAsked
  pub words : form ≡ Some (MakeLow asked m.stem m.style m.evidence)
  pub name : m.inputs.cell.name ≡ lowered asked.cell

-- over files that are shown, so it is of the inputs and of the desk before and after the call, where it ends with this
-- status
abbrev pub IfLow : View → View → Option Form → Status → Status → (LowMaterial → View → View → Type 0) → Type 0
IfLow old new form answer settled Says =
    IfSome old.given (λ files. WhereEnds MakingLow files form answer settled (λ m. IsAskedLow form m × Says m old new))

-- where the row comes from, by the certificate of the fewest tracks
abbrev pub low_origin : LowMaterial → TrackCertificate → Origin
low_origin m tracks = Low m.evidence m.style.wiring tracks

-- the lowest row is drawn, or where the search for it is open the first one that can be wired with the fewest gaps
abbrev pub IsMadeLow : LowMaterial → View → View → Type 0
IsMadeLow m old new =
    (tracks : TrackCertificate) × IsMadeCell (low_origin m tracks) m.style m.inputs m.stem old new

-- no row has a legal routing, and a cycle of the first least one was reported
abbrev pub IsCyclicLow : LowMaterial → View → View → Type 0
IsCyclicLow m old new =
    (tracks : TrackCertificate) × IsCyclicCell (low_origin m tracks) m.style m.inputs m.stem old new

-- the row to draw needs more than the height
abbrev pub IsTallLow : LowMaterial → View → View → Type 0
IsTallLow m old new =
    (tracks : TrackCertificate) × IsTallCell (low_origin m tracks) m.style m.inputs m.stem old new

-- The search for a row that can be wired spent its budget; or with doglegs, where it goes over the rows with the fewest
-- gaps alone, none of these can be on fewer tracks than the cell has nets. Nets of the first least row, or with doglegs
-- pieces of nets, are above each other in a cycle. The report says how many tracks are known to be needed, none with
-- straight trunks, and the cycle.
pub record IsUnwiredCell (evidence : Evidence) (wiring : Wiring) (inputs : Inputs) (out : List ℕ)
    (old new : View) : Type 0 where
  pub row : List Column
  pub certificate : Certificate evidence
  pub tracks : TrackCertificate
  pub ring : Ring
  pub first : IsFirstLeast inputs.fingers row
  pub certified : Certifies evidence inputs row certificate
  pub fewest : CertifiesFewest wiring inputs tracks
  pub unwired : IsUnwiredOpen wiring inputs tracks
  pub ringed : IsRinged wiring inputs row ring
  pub files :
      Both (HasNoDrawing (Low evidence wiring tracks) inputs.cell out
      (evidence_text evidence inputs.cell.name certificate)) old.made new.made
  pub says :
      Both (Says (first_line status.Unfinished ++ fewest_text (open_fewest wiring tracks)
      ++ ring_text inputs.cell.nets ring)) old.said new.said

-- the search for the fewest gaps is as `make` without `--low` leaves it, or that for a row that can be wired is open
abbrev pub IsOpenLow : LowMaterial → View → View → Type 0
IsOpenLow m old new =
    IsUnmade m.evidence m.inputs m.stem old new
    ⊎ IsUnwiredCell m.evidence m.style.wiring m.inputs m.stem old new

-- ---- how it has to end

-- `make` without `--low` draws its cell: the budget is enough for the fewest gaps, and the first least row can be drawn
abbrev pub CanBeMadeLow : LowMaterial → Type 0
CanBeMadeLow m = OfFirstLeast CanBeDrawn m.evidence m.style m.inputs m.stem

abbrev pub DrawsLow : Files → Option Form → Type 0
DrawsLow files form = Gathers MakingLow files form CanBeMadeLow

-- the first least row can be drawn, whatever the budget and the evidence are
abbrev pub CanFirstBeDrawn : Style → Inputs → Type 0
CanFirstBeDrawn style inputs = (row : List Column) → IsFirstLeast inputs.fingers row → CanBeDrawn style inputs row

abbrev pub DrawsFirst : Files → Option Form → Type 0
DrawsFirst files form = Gathers MakingLow files form (λ m. CanFirstBeDrawn m.style m.inputs)

-- the search for the fewest gaps is open, as `make` without `--low` leaves it
abbrev pub LeavesGapsOpen : Files → Option Form → Status → View → View → Type 0
LeavesGapsOpen files form answer old new =
    (answer ≡ status.Unfinished) × Gathers MakingLow files form (λ m. IsUnmade m.evidence m.inputs m.stem old new)

-- ---- `check`

abbrev pub IsCheckLow : Option Form → Type 0
IsCheckLow form = IsOfKind CheckingLow form

-- the inputs are there and accepted, and the file is the text of a certificate of the fewest tracks that is accepted,
-- of straight trunks or of nets that may turn
abbrev pub HoldsTracks : Files → Option Form → Type 0
HoldsTracks files form =
    Gathers CheckingLow files form (λ m. (low : LowProved) × IsTextOfTracks m.inputs m.bytes low)

-- The gaps and the tracks of the certificate were reported, and whether nets may turn. Every row with at most these
-- gaps takes these tracks at least.
pub record IsProvedLow (inputs : Inputs) (bytes : List ℕ) (old new : View) : Type 0 where
  pub low : LowProved
  pub accepted : IsTextOfTracks inputs bytes low
  pub need : NeedTracks inputs low
  pub says : Both (Says (first_line status.Done ++ accepted_text inputs low)) old.said new.said
