-- What is read for the extraction of a cell of a GDSII file, and what it results in.
use Rattle.std.specs.Prelude.{ℕ, ◌≡◌, ◌≢◌, ◌≤◌, ℤ, List, Option, Some, None, Ok, codes, length}
use Rattle.std.specs.List.{Contains}
use Rattle.box_geom.specs.declared.shape.Shapes.{Shapes}
use Rattle.tech_file.specs.Technology.{Technology}
use Rattle.scmos_rules.specs.declared.number.RuleNo.{RuleNo}
use Rattle.scmos_rules.specs.declared.rules.Deck.{Deck}
use Rattle.scmos_rules.specs.declared.rules.Deck.TheVariants as deck
use Rattle.net_extract.specs.Bodies.{ExtractsBodies}
use Rattle.scmos_rules.specs.declared.violation.RuleFault.TheVariants as rules
use Rattle.scmos_rules.specs.declared.violation.Violation.{Violation}
use Rattle.scmos_rules.specs.Rules.{Fails, InDeck, Obeys}
use Rattle.scmos_rules.specs.Violations.{AreViolations, IsFaultOf}
use Rattle.net_extract.specs.declared.fault.ExtractFault.TheVariants as no_netlist
use Rattle.net_extract.specs.declared.netlist.Netlist.{Netlist}
use Rattle.net_extract.specs.Extraction.{Extracts, ExtractRefused}
use Rattle.cell_report.specs.Netlists.{netlist_text}
use Rattle.cell_report.specs.Violations.{violation_text}
use Rattle.call_end.specs.declared.end.End.{End}
use Rattle.layout_commands.specs.declared.extraction.ExtractAnswer.{ExtractAnswer}
use Rattle.layout_commands.specs.declared.extraction.ExtractAnswer.TheVariants.{Extracted, Broken, Unchecked, Refused}
use Rattle.layout_commands.specs.declared.gds_cell.GdsCell.{GdsCell}
use Rattle.call_end.specs.declared.status.Status.TheVariants as status
use Rattle.call_end.specs.End.{reports}
use Rattle.cell_report.specs.Faults.{fault_line}
use Rattle.cell_report.specs.LayoutFaults.{rule_fault, extract_fault}
use Rattle.call_read.specs.InputFiles.{shapes_from, technology_from}
use Rattle.call_read.specs.Reading.{Reading, Ends, ◌>>=◌}

-- a cell of a GDSII file: the technology is read, and then the file
abbrev pub gds_cell : List ℕ → Deck → Shapes → GdsCell
gds_cell name d shapes = record { name = name; shapes = shapes; rules = d }

abbrev pub extracting_over : List ℕ → List ℕ → Deck → Technology → Reading GdsCell
extracting_over gds name d tech = shapes_from gds name tech >>= λ shapes. Ends (Ok (gds_cell name d shapes))

abbrev pub extracting : Option (List ℕ) → List ℕ → List ℕ → Deck → Reading GdsCell
extracting tech gds name d = technology_from tech >>= extracting_over gds name d

-- the most rectangles of a drawing that is checked
abbrev pub IsSmall : Shapes → Type 0
IsSmall shapes = length shapes.rects ≤ 10000

-- the net of each device's body, where the deck has taps
abbrev pub AreBodiesOf : Deck → Shapes → Netlist → Option (List (Option ℕ)) → Type 0
AreBodiesOf deck.Plain shapes netlist bodies = bodies ≡ None
AreBodiesOf deck.Taps shapes netlist None = ⊥
AreBodiesOf deck.Taps shapes netlist (Some bodies) =
    ExtractsBodies shapes (record { netlist = netlist; bodies = bodies })

-- A drawing obeys all rules of the deck, and this is its netlist; or these are the rules that it breaks; or it has too
-- many rectangles; or it obeys all rules, and this is why it has no netlist.
abbrev pub IsDrawingAnswer : Deck → Shapes → ExtractAnswer → Type 0
IsDrawingAnswer d shapes (Extracted netlist bodies) =
    Obeys d shapes.rects × Extracts d shapes netlist × AreBodiesOf d shapes netlist bodies
IsDrawingAnswer d shapes (Broken found) =
    IsSmall shapes × AreViolations d shapes.rects found × ((v : Violation) × Contains found v)
IsDrawingAnswer d shapes (Unchecked f) = (f ≢ rules.NoMemory) × IsFaultOf shapes.rects f
IsDrawingAnswer d shapes (Refused f) =
    (f ≢ no_netlist.NoMemory) × IsSmall shapes × Obeys d shapes.rects × ExtractRefused d shapes f

abbrev pub extract_end : List ℕ → ExtractAnswer → End
extract_end name (Extracted netlist bodies) = reports status.Done (netlist_text name netlist bodies)
extract_end name (Broken found) = reports status.Rejected (violation_text found)
extract_end name (Unchecked f) = reports status.Layout (fault_line (codes "rules") (rule_fault f))
extract_end name (Refused f) = reports status.Layout (fault_line (codes "extract") (extract_fault f))

abbrev pub ExtractsTo : GdsCell → End → Type 0
ExtractsTo cell end =
    (answer : ExtractAnswer) × IsDrawingAnswer cell.rules cell.shapes answer × (end ≡ extract_end cell.name answer)

-- ---- what calls for each of its ends

abbrev pub HasNetlist : GdsCell → Type 0
HasNetlist cell =
    (netlist : Netlist) × (bodies : Option (List (Option ℕ)))
    × IsDrawingAnswer cell.rules cell.shapes (Extracted netlist bodies)

-- some cell of the drawing fails a rule
pub record BreaksRule (cell : GdsCell) : Type 0 where
  pub small : IsSmall cell.shapes
  pub rule : RuleNo
  pub listed : InDeck cell.rules rule
  pub x : ℤ
  pub y : ℤ
  pub fails : Fails cell.rules rule cell.shapes.rects x y

-- there is no netlist, and no rule that is broken
abbrev pub IsLayoutFault : ExtractAnswer → Type 0
IsLayoutFault (Extracted netlist bodies) = ⊥
IsLayoutFault (Broken found) = ⊥
IsLayoutFault (Unchecked f) = Unit {0}
IsLayoutFault (Refused f) = Unit {0}

abbrev pub HasLayoutFault : GdsCell → Type 0
HasLayoutFault cell = (answer : ExtractAnswer) × IsLayoutFault answer × IsDrawingAnswer cell.rules cell.shapes answer
