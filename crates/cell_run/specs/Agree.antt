-- What a call of `agree` reports.
use Rattle.std.specs.Prelude.{◌⊎◌, Option, ℕ, ◌≡◌, List, Some, Ok}
use Rattle.cell_io.specs.Desk.{Files, View, Both}
use Rattle.channel_route.specs.declared.routing.Routing.{Routing}
use Rattle.track_log.specs.declared.certificate.TrackCertificate.{TrackCertificate}
use Rattle.row_model.specs.declared.column.Column.{Column}
use Rattle.lef_read.specs.declared.differ.Differ.{Differ}
use Rattle.call_end.specs.Deliver.{Says}
use Rattle.call_words.specs.Words.{Form, Agree}
use Rattle.call_work.specs.Commands.{Agreeing}
use Rattle.cell_run.specs.Ended.{Gathers, IsGdsFault, IsLefFault, IsOfKind, IsRefusedBy, IsToldFault}
use Rattle.call_read.specs.InputFiles.{technology_from}
use Rattle.call_read.specs.Reading.{called}
use Rattle.cell_inputs.specs.Inputs.{Inputs}
use Rattle.cell_inputs.specs.declared.style.Style.{Style}
use Rattle.cell_make.specs.Low.{IsLowRouted}
use Rattle.cell_make.specs.Making.{IsDrawn, IsDrawnAs, abstract_of, drawing_in, final_in, library_of}
use Rattle.layout_commands.specs.Agree.{HasDifference, IsAgreeAnswer, IsDisagreement, IsUnextracted, agree_end}
use Rattle.layout_commands.specs.declared.agreement.AgreeAnswer.{AgreeAnswer}
use Rattle.layout_commands.specs.declared.agreement.AgreeAnswer.TheVariants.{Agreed, Differs}
use Rattle.layout_commands.specs.declared.compared.Compared.{Compared}

abbrev pub IsAgree : Option Form → Type 0
IsAgree form = IsOfKind Agreeing form

-- the answer is of the drawing and the macro, and its report was said
pub record IsToldOf (c : Compared) (answer : AgreeAnswer) (old new : View) : Type 0 where
  pub is : IsAgreeAnswer c answer
  pub says : Both (Says (agree_end c.cell answer).report) old.said new.said

-- it was reported that they agree
abbrev pub IsAgreedCell : Compared → View → View → Type 0
IsAgreedCell c old new = IsToldOf c Agreed old new

-- such a first difference was reported
abbrev pub IsDifferingCell : (Differ → Type 0) → Compared → View → View → Type 0
IsDifferingCell Is c old new = (d : Differ) × Is d × IsToldOf c (Differs d) old new

-- The technology is there and accepted, the files are there, the GDSII file decodes to a drawing of the cell of that
-- name, and the LEF file has a macro of it: this holds of the two.
abbrev pub OfCompared : Files → Option Form → (Compared → Type 0) → Type 0
OfCompared files form Is = Gathers Agreeing files form Is

-- it was reported why the two do not agree: the LEF file has no such macro, or the macro differs from the drawing
abbrev pub IsDisagreed : Files → Option Form → View → View → Type 0
IsDisagreed files form old new =
    IsToldFault IsLefFault files form old new ⊎ OfCompared files form (λ c. IsDifferingCell IsDisagreement c old new)

-- it was reported why there are no nets to compare with: the GDSII file has no such drawing, or the drawing no netlist
abbrev pub IsWithoutNets : Files → Option Form → View → View → Type 0
IsWithoutNets files form old new =
    IsToldFault IsGdsFault files form old new ⊎ OfCompared files form (λ c. IsDifferingCell IsUnextracted c old new)

-- they do not agree
abbrev pub HasDisagreement : Files → Option Form → Type 0
HasDisagreement files form = IsRefusedBy IsLefFault files form ⊎ OfCompared files form (HasDifference IsDisagreement)

-- there are no nets
abbrev pub HasNoNets : Files → Option Form → Type 0
HasNoNets files form = IsRefusedBy IsGdsFault files form ⊎ OfCompared files form (HasDifference IsUnextracted)

-- the row is drawn, with its channel routed as `make` routes it, or with `--low`
abbrev pub IsDrawnAnyhow : Style → Inputs → List Column → Routing → List ℕ → Type 0
IsDrawnAnyhow style inputs row routing lines =
    IsDrawn style inputs row routing lines
    ⊎ ((tracks : TrackCertificate)
    × IsDrawnAs (IsLowRouted style inputs row tracks routing) style inputs row routing lines)

-- The words ask for a comparison of the files of a drawn row, in any style and with any evidence: the technology is
-- that of its inputs, CELL is its name, the GDSII file is its library and the LEF file its abstract.
pub record ComparesMade (files : Files) (form : Option Form) : Type 0 where
  pub style : Style
  pub inputs : Inputs
  pub row : List Column
  pub routing : Routing
  pub lines : List ℕ
  pub drawn : IsDrawnAnyhow style inputs row routing lines
  pub tech : Option (List ℕ)
  pub gds : List ℕ
  pub lef : List ℕ
  pub words : form ≡ Some (Agree tech gds lef inputs.cell.name)
  pub technology : called files (technology_from tech) ≡ Ok inputs.tech
  pub library : files gds ≡ Some (library_of inputs (final_in style inputs row routing lines))
  pub abstract : files lef ≡ Some (abstract_of inputs routing (drawing_in inputs row routing lines))
