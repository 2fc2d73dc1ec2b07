-- The lines of broken rules. Places are in grid units.
use Rattle.std.specs.Prelude.{ℕ, List, ◌++◌, codes, flat_map}
use Rattle.std.specs.Fmt.{signed_decimal}
use Rattle.scmos_rules.specs.Numbers.{text_of}
use Rattle.scmos_rules.specs.declared.violation.Violation.{Violation}

abbrev pub cell_text : Violation → List ℕ
cell_text v = codes " at " ++ signed_decimal v.x ++ codes " " ++ signed_decimal v.y ++ codes "\n"

-- a rule by its number, and the first cell that fails it
abbrev pub violation_line : Violation → List ℕ
violation_line v = codes "violation " ++ text_of v.rule ++ cell_text v

abbrev pub violation_text : List Violation → List ℕ
violation_text found = flat_map violation_line found
