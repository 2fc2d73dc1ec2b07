-- The faults of a GDSII file, of the checks of a drawing and of its extraction, by their names and fields.
use Rattle.std.specs.Prelude.{ℕ, List, [], ◌∷◌, codes}
use Rattle.gds_area.specs.declared.fault.GdsFault.{GdsFault}
use Rattle.gds_area.specs.declared.fault.GdsFault.TheVariants as gds
use Rattle.scmos_rules.specs.declared.violation.RuleFault.{RuleFault}
use Rattle.scmos_rules.specs.declared.violation.RuleFault.TheVariants as rules
use Rattle.net_extract.specs.declared.fault.ExtractFault.{ExtractFault}
use Rattle.net_extract.specs.declared.fault.ExtractFault.TheVariants as extract
use Rattle.cell_report.specs.Faults.{Fault, Number, Signed, Text, fault_of, with_two}

abbrev pub with_one : List ℕ → List ℕ → ℕ → Fault
with_one name field value = fault_of name (Number field value ∷ [])

abbrev pub with_text : List ℕ → List ℕ → List ℕ → Fault
with_text name field text = fault_of name (Text field text ∷ [])

abbrev pub gds_fault : GdsFault → Fault
gds_fault (gds.Cut at) = with_one (codes "Cut") (codes "at") at
gds_fault (gds.Length at) = with_one (codes "Length") (codes "at") at
gds_fault (gds.Order at code) = with_two (codes "Order") (codes "at") at (codes "code") code
gds_fault (gds.Kind at code) = with_two (codes "Kind") (codes "at") at (codes "code") code
gds_fault (gds.Unit picometres) = with_one (codes "Unit") (codes "picometres") picometres
gds_fault gds.NoCell = fault_of (codes "NoCell") []
gds_fault (gds.Twice name) = with_text (codes "Twice") (codes "name") name
gds_fault (gds.Slant at) = with_one (codes "Slant") (codes "at") at
gds_fault (gds.Grid at) = with_one (codes "Grid") (codes "at") at
gds_fault (gds.Reference at) = with_one (codes "Reference") (codes "at") at
gds_fault gds.NoMemory = fault_of (codes "NoMemory") []
gds_fault (gds.Deep at) = with_one (codes "Deep") (codes "at") at
gds_fault (gds.Wide at) = with_one (codes "Wide") (codes "at") at

abbrev pub rule_fault : RuleFault → Fault
rule_fault (rules.TooMany count) = with_one (codes "TooMany") (codes "count") count
rule_fault rules.NoMemory = fault_of (codes "NoMemory") []

abbrev pub extract_fault : ExtractFault → Fault
extract_fault (extract.TooMany count) = with_one (codes "TooMany") (codes "count") count
extract_fault (extract.OddDevice x y) = fault_of (codes "OddDevice") (Signed (codes "x") x ∷ Signed (codes "y") y ∷ [])
extract_fault (extract.Stray name) = with_text (codes "Stray") (codes "name") name
extract_fault (extract.Short one other) =
    fault_of (codes "Short") (Text (codes "one") one ∷ Text (codes "other") other ∷ [])
extract_fault (extract.Split name) = with_text (codes "Split") (codes "name") name
extract_fault extract.NoMemory = fault_of (codes "NoMemory") []
