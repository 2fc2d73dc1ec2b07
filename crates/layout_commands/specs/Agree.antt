-- What is read to compare the macro of an abstract with a cell of a GDSII file, and what it results in.
use Rattle.std.specs.Prelude.{ℕ, ◌≡◌, ◌≢◌, List, ◌++◌, Option, Ok, codes, length}
use Rattle.std.specs.List.{flat_map}
use Rattle.box_geom.specs.declared.shape.Shapes.{Shapes}
use Rattle.cell_num.specs.Lines.{count_line, text_line}
use Rattle.tech_file.specs.Technology.{Technology}
use Rattle.lef_read.specs.Agreement.{Agrees}
use Rattle.lef_read.specs.Differences.{DiffersBy, HasNetlist}
use Rattle.lef_read.specs.declared.differ.Differ.{Differ}
use Rattle.lef_read.specs.declared.differ.Differ.TheVariants as differ
use Rattle.lef_read.specs.declared.cell.LefPin.{LefPin}
use Rattle.lef_read.specs.declared.cell.LefRect.{LefRect}
use Rattle.lef_read.specs.declared.cell.Macro.{Macro}
use Rattle.call_end.specs.End.{reports}
use Rattle.call_end.specs.declared.end.End.{End}
use Rattle.call_end.specs.declared.status.Status.{Status}
use Rattle.call_end.specs.declared.status.Status.TheVariants as status
use Rattle.call_read.specs.InputFiles.{macro_from, shapes_from, technology_from}
use Rattle.call_read.specs.Reading.{Reading, Ends, ◌>>=◌}
use Rattle.cell_report.specs.AbstractFaults.{differ_text}
use Rattle.layout_commands.specs.declared.agreement.AgreeAnswer.{AgreeAnswer}
use Rattle.layout_commands.specs.declared.agreement.AgreeAnswer.TheVariants.{Agreed, Differs}
use Rattle.layout_commands.specs.declared.compared.Compared.{Compared}

-- ---- what is read: the technology, then the GDSII file, then the LEF file

abbrev pub compared : Shapes → Macro → Compared
compared shapes cell = record { shapes = shapes; cell = cell }

abbrev pub comparing_with : List ℕ → List ℕ → Technology → Shapes → Reading Compared
comparing_with lef name tech shapes = macro_from lef name tech >>= λ cell. Ends (Ok (compared shapes cell))

abbrev pub comparing_over : List ℕ → List ℕ → List ℕ → Technology → Reading Compared
comparing_over gds lef name tech = shapes_from gds name tech >>= comparing_with lef name tech

abbrev pub comparing : Option (List ℕ) → List ℕ → List ℕ → List ℕ → Reading Compared
comparing tech gds lef name = technology_from tech >>= comparing_over gds lef name

-- ---- what it results in

-- the drawing has a netlist, and the macro agrees with it
abbrev pub DoesAgree : Compared → Type 0
DoesAgree c = HasNetlist c.shapes × Agrees c.shapes c.cell

-- the macro agrees with the drawing; or this is the first difference
abbrev pub IsAgreeAnswer : Compared → AgreeAnswer → Type 0
IsAgreeAnswer c Agreed = DoesAgree c
IsAgreeAnswer c (Differs d) = (d ≢ differ.NoMemory) × DiffersBy c.shapes c.cell d

-- that the drawing has no netlist is a fault of the layout
abbrev pub differ_status : Differ → Status
differ_status (differ.Extract f) = status.Layout
differ_status (differ.NoLabel name) = status.Disagree
differ_status (differ.Port name x y) = status.Disagree
differ_status (differ.Bare layer x y) = status.Disagree
differ_status differ.NoMemory = status.Disagree

-- the rectangles of all ports
abbrev pub all_ports : List LefPin → List LefRect
all_ports pins = flat_map (λ (pin : LefPin). pin.ports) pins

-- how many pins, rectangles of ports and obstructions there are
abbrev pub counts_text : ℕ → ℕ → ℕ → List ℕ
counts_text pins ports obstructions =
    count_line (codes "pins ") pins
    ++ count_line (codes "ports ") ports
    ++ count_line (codes "obstructions ") obstructions

-- the name and the counts of a macro
abbrev pub agreed_text : Macro → List ℕ
agreed_text cell =
    text_line (codes "cell ") cell.name
    ++ counts_text (length cell.pins) (length (all_ports cell.pins)) (length cell.obstructions)

abbrev pub agree_end : Macro → AgreeAnswer → End
agree_end cell Agreed = reports status.Done (agreed_text cell)
agree_end cell (Differs d) = reports (differ_status d) (differ_text d)

abbrev pub AgreesTo : Compared → End → Type 0
AgreesTo c end = (answer : AgreeAnswer) × IsAgreeAnswer c answer × (end ≡ agree_end c.cell answer)

-- ---- what calls for each of its ends

-- the drawing has no netlist
abbrev pub IsUnextracted : Differ → Type 0
IsUnextracted d = differ_status d ≡ status.Layout

-- it has one, and the macro does not agree with it
abbrev pub IsDisagreement : Differ → Type 0
IsDisagreement d = differ_status d ≡ status.Disagree

-- such a difference is the first one
abbrev pub HasDifference : (Differ → Type 0) → Compared → Type 0
HasDifference Is c = (d : Differ) × Is d × IsAgreeAnswer c (Differs d)
