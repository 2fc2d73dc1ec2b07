-- The line of a fault: the part's word, the fault's name, then each field's name and its value.
use Rattle.std.specs.Prelude.{ℕ, ℤ, List, [], ◌∷◌, ◌++◌, codes, decimal, flat_map}
use Rattle.std.specs.Fmt.{signed_decimal}
use Rattle.tech_file.specs.declared.fault.TechFault.{TechFault}
use Rattle.tech_file.specs.declared.fault.TechFault.TheVariants as tech
use Rattle.spice_net.specs.declared.fault.What.{What}
use Rattle.spice_net.specs.declared.fault.What.TheVariants.{Pins, Devices, Nets}
use Rattle.spice_net.specs.declared.fault.SpiceFault.{SpiceFault}
use Rattle.spice_net.specs.declared.fault.SpiceFault.TheVariants as spice
use Rattle.finger_fold.specs.declared.folding.FoldFault.{FoldFault}
use Rattle.finger_fold.specs.declared.folding.FoldFault.TheVariants as fold
use Rattle.bound_log.specs.declared.fault.LogFault.{LogFault}
use Rattle.bound_log.specs.declared.fault.LogFault.TheVariants as log
use Rattle.log_check.specs.declared.refused.Refused.{Refused}
use Rattle.log_check.specs.declared.refused.Refused.TheVariants as check

-- a field of a fault: its name and its value
pub data Field : Type 0 where
  Number : (name : List ℕ) (value : ℕ) → Field
  Signed : (name : List ℕ) (value : ℤ) → Field
  Text : (name text : List ℕ) → Field

pub record Fault : Type 0 where
  pub name : List ℕ
  pub fields : List Field

abbrev pub field_text : Field → List ℕ
field_text (Number name value) = codes " " ++ name ++ codes " " ++ decimal value
field_text (Signed name value) = codes " " ++ name ++ codes " " ++ signed_decimal value
field_text (Text name text) = codes " " ++ name ++ codes " " ++ text

abbrev pub fault_line : List ℕ → Fault → List ℕ
fault_line word fault = word ++ codes " " ++ fault.name ++ flat_map field_text fault.fields ++ codes "\n"

-- ---- the faults of the parts

abbrev pub fault_of : List ℕ → List Field → Fault
fault_of name fields = record { name = name; fields = fields }

abbrev pub at_line : List ℕ → ℕ → Fault
at_line name line = fault_of name (Number (codes "line") line ∷ [])

-- two numbers, each after its name
abbrev pub with_two : List ℕ → List ℕ → ℕ → List ℕ → ℕ → Fault
with_two name one first other second = fault_of name (Number one first ∷ Number other second ∷ [])

abbrev pub tech_fault : TechFault → Fault
tech_fault tech.Text = fault_of (codes "Text") []
tech_fault (tech.Key name) = fault_of (codes "Key") (Text (codes "name") name ∷ [])
tech_fault (tech.Form name) = fault_of (codes "Form") (Text (codes "name") name ∷ [])
tech_fault (tech.Range name value) =
    fault_of (codes "Range") (Text (codes "name") name ∷ Signed (codes "value") value ∷ [])
tech_fault tech.NoMemory = fault_of (codes "NoMemory") []

abbrev pub what_text : What → List ℕ
what_text Pins = codes "pins"
what_text Devices = codes "devices"
what_text Nets = codes "nets"

abbrev pub spice_fault : SpiceFault → Fault
spice_fault (spice.NotAscii line) = at_line (codes "NotAscii") line
spice_fault spice.NoCell = fault_of (codes "NoCell") []
spice_fault spice.Unended = fault_of (codes "Unended") []
spice_fault (spice.Element line) = at_line (codes "Element") line
spice_fault (spice.Fields line) = at_line (codes "Fields") line
spice_fault (spice.Model line) = at_line (codes "Model") line
spice_fault (spice.Number line) = at_line (codes "Number") line
spice_fault (spice.Length line units) = with_two (codes "Length") (codes "line") line (codes "units") units
spice_fault (spice.Narrow line units) = with_two (codes "Narrow") (codes "line") line (codes "units") units
spice_fault (spice.Body line) = at_line (codes "Body") line
spice_fault (spice.Rail line) = at_line (codes "Rail") line
spice_fault spice.NoRail = fault_of (codes "NoRail") []
spice_fault (spice.IdlePin name) = fault_of (codes "IdlePin") (Text (codes "name") name ∷ [])
spice_fault spice.Empty = fault_of (codes "Empty") []
spice_fault (spice.TooMany what count) =
    fault_of (codes "TooMany") (Text (codes "what") (what_text what) ∷ Number (codes "count") count ∷ [])
spice_fault (spice.Multiple line) = at_line (codes "Multiple") line
spice_fault spice.NoMemory = fault_of (codes "NoMemory") []

abbrev pub fold_fault : FoldFault → Fault
fold_fault (fold.TooManyFingers count) = fault_of (codes "TooManyFingers") (Number (codes "count") count ∷ [])
fold_fault (fold.TooManyColumns count) = fault_of (codes "TooManyColumns") (Number (codes "count") count ∷ [])
fold_fault fold.NoMemory = fault_of (codes "NoMemory") []

abbrev pub log_fault : LogFault → Fault
log_fault log.Version = fault_of (codes "Version") []
log_fault log.Cell = fault_of (codes "Cell") []
log_fault (log.Line line) = at_line (codes "Line") line
log_fault log.Cut = fault_of (codes "Cut") []
log_fault log.NoMemory = fault_of (codes "NoMemory") []

abbrev pub check_fault : Refused → Fault
check_fault (check.Unproved line) = at_line (codes "Unproved") line
check_fault (check.NoRow best) = fault_of (codes "NoRow") (Number (codes "best") best ∷ [])
check_fault check.NotArrangement = fault_of (codes "NotArrangement") []
check_fault (check.Gaps said counted) = with_two (codes "Gaps") (codes "said") said (codes "counted") counted
check_fault (check.NotLeast best said) = with_two (codes "NotLeast") (codes "best") best (codes "said") said
check_fault check.NoMemory = fault_of (codes "NoMemory") []
