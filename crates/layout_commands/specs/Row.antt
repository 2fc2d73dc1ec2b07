-- What is read for a row of cells, and what it results in.
use Rattle.std.specs.Prelude.{ℕ, ◌≡◌, List, [], ◌∷◌, ◌++◌, map, length, codes, Ok}
use Rattle.bound_log.specs.Fits.{Fits, ForSome}
use Rattle.cell_draw.specs.Frame.{needed_of}
use Rattle.cell_inputs.specs.Inputs.{Inputs}
use Rattle.cell_num.specs.Lines.{count_line, pair_line, text_line}
use Rattle.cell_num.specs.Names.{lowered}
use Rattle.cell_report.specs.Cells.{fewest_text, tall_text}
use Rattle.cell_report.specs.Cycles.{ring_text}
use Rattle.call_end.specs.End.{reports, IsEnd}
use Rattle.call_end.specs.Status.{first_line}
use Rattle.call_end.specs.declared.end.End.{End}
use Rattle.call_end.specs.declared.status.Status.TheVariants as status
use Rattle.call_read.specs.InputFiles.{technology_from}
use Rattle.call_read.specs.Reading.{Reading, Ends, bytes_of, ◌>>=◌}
use Rattle.call_read.specs.Sources.{SpiceFile}
use Rattle.call_words.specs.Asked.{RowAsked}
use Rattle.cell_report.specs.Faults.{fault_line, fold_fault, spice_fault}
use Rattle.cell_report.specs.RowFaults.{row_fault}
use Rattle.call_end.specs.Files.{gds_file}
use Rattle.cell_report.specs.Unfinished.{unfinished_end}
use Rattle.cell_make.specs.RowInputs.{RowInputs, row_inputs}
use Rattle.cell_make.specs.Rowed.{RowAnswer, Rowed, Refused, Stopped, Unabutted, Rows, row_height, row_library}
use Rattle.cell_make.specs.Rowed.{row_width}
use Rattle.cell_make.specs.CellOfRow.{StopAnswer, Cyclic, Tall, Unfinished, Unwired}
use Rattle.cell_make.specs.declared.row_outcome.InputFault.{InputFault}
use Rattle.cell_make.specs.declared.row_outcome.InputFault.TheVariants.{Spice, Fold}
use Rattle.cell_make.specs.declared.row_outcome.Undrawn.{Undrawn}
use Rattle.cell_make.specs.declared.row_outcome.Undrawn.TheVariants as why
use Rattle.tech_file.specs.Technology.{Technology}

-- ---- what is read: the technology, then the SPICE file, whose cells are looked at one by one when they are made

abbrev pub row_of : RowAsked → Technology → List ℕ → RowInputs
row_of asked tech bytes = row_inputs tech bytes (lowered asked.top) (map lowered asked.cells) asked.choice

abbrev pub rowing_over : RowAsked → Technology → Reading RowInputs
rowing_over asked tech = bytes_of (SpiceFile asked.spice) >>= λ bytes. Ends (Ok (row_of asked tech bytes))

abbrev pub rowing : RowAsked → Reading RowInputs
rowing asked = technology_from asked.tech >>= rowing_over asked

-- ---- what it results in

-- the name of the row, the number of its cells, its width and height
abbrev pub row_text : List ℕ → ℕ → ℕ → ℕ → List ℕ
row_text top cells width height =
    text_line (codes "cell ") top ++ count_line (codes "cells ") cells
    ++ pair_line (codes "size ") width (codes " ") height

abbrev pub input_end : InputFault → End
input_end (Spice f) = reports status.Input (fault_line (codes "spice") (spice_fault f))
input_end (Fold f) = reports status.Input (fault_line (codes "fold") (fold_fault f))

-- a cell that can't be drawn ends the row as it ends a drawing, without files; a log is reported as by a plan
abbrev pub IsStoppedEnd : Inputs → StopAnswer → End → Type 0
IsStoppedEnd inputs (Cyclic row log ring) end = end ≡ reports status.Cycle (ring_text inputs.cell.nets ring)
IsStoppedEnd inputs (Tall row log routing) end =
    end ≡ reports status.TooTall (tall_text (needed_of row routing.tracks) inputs.tech.height)
IsStoppedEnd inputs (Unfinished proved log) end = end ≡ unfinished_end inputs.cell proved log
IsStoppedEnd inputs (Unwired row log tracks ring) end =
    end ≡ reports status.Unfinished (fewest_text 0 ++ ring_text inputs.cell.nets ring)

-- the library is the one file of a row
abbrev pub IsRowEnd : RowInputs → List ℕ → RowAnswer → End → Type 0
IsRowEnd r out (Rowed made) end =
    IsEnd status.Done (gds_file out (row_library r made) ∷ [])
    (first_line status.Done ++ row_text r.top (length r.names) (row_width made) (row_height made)) end
IsRowEnd r out (Refused before name fault) end = end ≡ input_end fault
IsRowEnd r out (Stopped before inputs answer) end = IsStoppedEnd inputs answer end
IsRowEnd r out (Unabutted made fault) end = end ≡ reports status.Row (fault_line (codes "row") (row_fault fault))

abbrev pub RowsTo : RowInputs → List ℕ → End → Type 0
RowsTo r out end = (answer : RowAnswer) × Rows r answer × IsRowEnd r out answer end

-- a log that is reported fits its text
abbrev pub CanBeTold : Undrawn → Type 0
CanBeTold (why.Cyclic ring) = Unit {0}
CanBeTold (why.Tall needed given) = Unit {0}
CanBeTold (why.Unfinished log proved) = ForSome (λ k. Fits k log)
CanBeTold (why.Unwired ring) = Unit {0}
