-- What the top call owes of `extract`, from the end that the files call for and how it was told.
use Rattle.std.proofs.Common.{◌≡◌, Option, IfSome, refl}
use Rattle.cell_io.specs.Desk.{Files, View}
use Rattle.call_end.specs.Deliver.{TellsWhole}
use Rattle.call_end.specs.declared.end.End.{End}
use Rattle.call_end.specs.declared.status.Status.{Status}
use Rattle.call_end.specs.declared.status.Status.TheVariants as status
use Rattle.call_words.specs.Words.{Form}
use Rattle.call_work.proofs.Statuses.{differ, gds_alone}
use Rattle.call_work.specs.Commands.{Extracting}
use Rattle.cell_run.proofs.Worked.{Completes, IsAnswered, by_answer, ends_told, gds_status, refused_told, refuses_told, settles}
use Rattle.cell_run.specs.Calm.{IsCalm}
use Rattle.cell_run.specs.Extract.{HasNoNetlist, IsBrokenCell, IsExtract, IsExtractedCell, IsRefusedCell, IsRefusedLayout, IsToldOf, OfGdsCell, WhereExtractEnds}
use Rattle.cell_run.specs.Ended.{IsGdsFault}
use Rattle.cell_run.specs.Headline.{IsOrShort}
use Rattle.layout_commands.proofs.Extracted.{breaks_where, extracts_where, refuses_where}
use Rattle.layout_commands.specs.Extract.{BreaksRule, ExtractsTo, HasLayoutFault, HasNetlist, IsDrawingAnswer, extract_end}
use Rattle.layout_commands.specs.declared.extraction.ExtractAnswer.{ExtractAnswer}
use Rattle.layout_commands.specs.declared.extraction.ExtractAnswer.TheVariants.{Extracted, Broken, Unchecked, Refused}
use Rattle.layout_commands.specs.declared.gds_cell.GdsCell.{GdsCell}

-- ---- by status

netlist_so : (cell : GdsCell) (found : ExtractAnswer) (old new : View) → IsToldOf cell found old new → status.Done ≡ (extract_end cell.name found).status → IsExtractedCell cell old new
netlist_so cell (Extracted n bs) old new told is = (n, bs, told)
netlist_so cell (Broken vs) old new told is = absurd (differ status.Done status.Rejected refl is)
netlist_so cell (Unchecked f) old new told is = absurd (differ status.Done status.Layout refl is)
netlist_so cell (Refused f) old new told is = absurd (differ status.Done status.Layout refl is)

broken_so : (cell : GdsCell) (found : ExtractAnswer) (old new : View) → IsToldOf cell found old new → status.Rejected ≡ (extract_end cell.name found).status → IsBrokenCell cell old new
broken_so cell (Extracted n bs) old new told is = absurd (differ status.Rejected status.Done refl is)
broken_so cell (Broken vs) old new told is = (vs, told)
broken_so cell (Unchecked f) old new told is = absurd (differ status.Rejected status.Layout refl is)
broken_so cell (Refused f) old new told is = absurd (differ status.Rejected status.Layout refl is)

fault_so : (cell : GdsCell) (found : ExtractAnswer) (old new : View) → IsToldOf cell found old new → status.Layout ≡ (extract_end cell.name found).status → IsRefusedCell cell old new
fault_so cell (Extracted n bs) old new told is = absurd (differ status.Layout status.Done refl is)
fault_so cell (Broken vs) old new told is = absurd (differ status.Layout status.Rejected refl is)
fault_so cell (Unchecked f) old new told is = (Unchecked f, tt, told)
fault_so cell (Refused f) old new told is = (Refused f, tt, told)

-- ---- the clauses

by_drawing : (settled answer : Status) (Is : GdsCell → Type 0) (a c : View) → ((cell : GdsCell) (found : ExtractAnswer) → IsToldOf cell found a c → settled ≡ (extract_end cell.name found).status → Is cell) → (cell : GdsCell) (end : End) → ExtractsTo cell end → answer ≡ settled → TellsWhole end answer a c → Is cell
by_drawing settled answer Is a c each = by_answer (λ (cell : GdsCell). IsDrawingAnswer cell.rules cell.shapes) (λ (cell : GdsCell) found. extract_end cell.name found) settled answer Is a c (λ cell found of said. each cell found (record { is = of; says = said }))

pub extracted_told : (a c : View) (form : Option Form) (answer : Status) (given : Option Files) → IfSome given (IsAnswered form a c answer) → IfSome given (λ files. WhereExtractEnds files form answer status.Done (λ cell. IsExtractedCell cell a c))
extracted_told a c form answer given told = ends_told Extracting (λ cell. IsExtractedCell cell a c) form status.Done answer a c given refl (by_drawing status.Done answer (λ cell. IsExtractedCell cell a c) a c (λ cell found. netlist_so cell found a c)) told

pub broken_told : (a c : View) (form : Option Form) (answer : Status) (given : Option Files) → IfSome given (IsAnswered form a c answer) → IfSome given (λ files. WhereExtractEnds files form answer status.Rejected (λ cell. IsBrokenCell cell a c))
broken_told a c form answer given told = ends_told Extracting (λ cell. IsBrokenCell cell a c) form status.Rejected answer a c given refl (by_drawing status.Rejected answer (λ cell. IsBrokenCell cell a c) a c (λ cell found. broken_so cell found a c)) told

pub layout_told : (a c : View) (form : Option Form) (answer : Status) (given : Option Files) → IfSome given (IsAnswered form a c answer) → IfSome given (λ files. IsExtract form → answer ≡ status.Layout → IsRefusedLayout files form a c)
layout_told a c form answer given told = refused_told Extracting status.Layout IsGdsFault (λ cell. IsRefusedCell cell a c) a c form answer given refl refl gds_alone (by_drawing status.Layout answer (λ cell. IsRefusedCell cell a c) a c (λ cell found. fault_so cell found a c)) told

-- ---- completeness

pub extracts_told : (a c : View) (form : Option Form) (answer : Status) (given : Option Files) → IfSome given (λ files. IsCalm a c → Completes form files answer) → IfSome given (λ files. IsCalm a c → OfGdsCell files form HasNetlist → IsOrShort status.Done answer)
extracts_told a c form answer given told = settles Extracting HasNetlist form status.Done answer a c given extracts_where told

pub breaks_told : (a c : View) (form : Option Form) (answer : Status) (given : Option Files) → IfSome given (λ files. IsCalm a c → Completes form files answer) → IfSome given (λ files. IsCalm a c → OfGdsCell files form BreaksRule → IsOrShort status.Rejected answer)
breaks_told a c form answer given told = settles Extracting BreaksRule form status.Rejected answer a c given breaks_where told

pub layout_faults_told : (a c : View) (form : Option Form) (answer : Status) (given : Option Files) → IfSome given (λ files. IsCalm a c → Completes form files answer) → IfSome given (λ files. IsCalm a c → HasNoNetlist files form → IsOrShort status.Layout answer)
layout_faults_told a c form answer given told = refuses_told Extracting status.Layout IsGdsFault HasLayoutFault a c form answer given gds_status refuses_where told
