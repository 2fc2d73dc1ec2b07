-- What a call of `extract` reports.
use Rattle.std.specs.Prelude.{ℕ, ◌⊎◌, List, Option}
use Rattle.cell_io.specs.Desk.{Files, View, Both}
use Rattle.scmos_rules.specs.declared.violation.Violation.{Violation}
use Rattle.net_extract.specs.declared.netlist.Netlist.{Netlist}
use Rattle.call_end.specs.Deliver.{Says}
use Rattle.call_end.specs.declared.status.Status.{Status}
use Rattle.call_words.specs.Words.{Form}
use Rattle.call_work.specs.Commands.{Extracting}
use Rattle.cell_run.specs.Ended.{Gathers, IsGdsFault, IsOfKind, IsRefusedBy, IsToldFault, WhereEnds}
use Rattle.layout_commands.specs.Extract.{HasLayoutFault, IsDrawingAnswer, IsLayoutFault, extract_end}
use Rattle.layout_commands.specs.declared.extraction.ExtractAnswer.{ExtractAnswer}
use Rattle.layout_commands.specs.declared.extraction.ExtractAnswer.TheVariants.{Extracted, Broken}
use Rattle.layout_commands.specs.declared.gds_cell.GdsCell.{GdsCell}

abbrev pub IsExtract : Option Form → Type 0
IsExtract form = IsOfKind Extracting form

-- the answer is of what the cell draws, and its report was said
pub record IsToldOf (cell : GdsCell) (answer : ExtractAnswer) (old new : View) : Type 0 where
  pub is : IsDrawingAnswer cell.rules cell.shapes answer
  pub says : Both (Says (extract_end cell.name answer).report) old.said new.said

-- the netlist was reported, and with taps the bodies of its devices
abbrev pub IsExtractedCell : GdsCell → View → View → Type 0
IsExtractedCell cell old new =
    (netlist : Netlist) × (bodies : Option (List (Option ℕ))) × IsToldOf cell (Extracted netlist bodies) old new

-- all broken rules were reported
abbrev pub IsBrokenCell : GdsCell → View → View → Type 0
IsBrokenCell cell old new = (found : List Violation) × IsToldOf cell (Broken found) old new

-- it was reported why there is no netlist
abbrev pub IsRefusedCell : GdsCell → View → View → Type 0
IsRefusedCell cell old new = (answer : ExtractAnswer) × IsLayoutFault answer × IsToldOf cell answer old new

-- The technology is there and accepted, the file is there, and its bytes decode to a drawing of the cell of that name:
-- this holds of the cell.
abbrev pub OfGdsCell : Files → Option Form → (GdsCell → Type 0) → Type 0
OfGdsCell files form Is = Gathers Extracting files form Is

-- where a call of `extract` ends so, this holds of the cell
abbrev pub WhereExtractEnds : Files → Option Form → Status → Status → (GdsCell → Type 0) → Type 0
WhereExtractEnds files form answer settled Is = WhereEnds Extracting files form answer settled Is

-- it was reported why there is no netlist: the file has no such drawing, or the drawing no netlist
abbrev pub IsRefusedLayout : Files → Option Form → View → View → Type 0
IsRefusedLayout files form old new =
    IsToldFault IsGdsFault files form old new ⊎ OfGdsCell files form (λ cell. IsRefusedCell cell old new)

-- there is none
abbrev pub HasNoNetlist : Files → Option Form → Type 0
HasNoNetlist files form = IsRefusedBy IsGdsFault files form ⊎ OfGdsCell files form HasLayoutFault
