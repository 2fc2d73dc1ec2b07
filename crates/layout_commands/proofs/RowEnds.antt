-- The end of a row, from what making it came to.
use Rattle.std.proofs.Common.{ℕ, ◌≡◌, ◌++◌, codes, List, [], ◌∷◌, map, length, Result, Ok, Err, IfOk, refl, sym, subst}
use Rattle.bound_log.specs.declared.log.Log.{Log}
use Rattle.call_end.specs.End.{reports, IsEnd}
use Rattle.call_end.specs.Status.{first_line}
use Rattle.call_end.specs.declared.end.End.{End}
use Rattle.call_end.specs.declared.status.Status.TheVariants as status
use Rattle.call_words.specs.Asked.{RowAsked}
use Rattle.cell_inputs.specs.Inputs.{Inputs}
use Rattle.cell_inputs.specs.declared.style.LeastRow.{LeastRow}
use Rattle.cell_inputs.specs.declared.style.LeastRow.TheVariants.{First, Lowest}
use Rattle.cell_num.specs.Names.{lowered}
use Rattle.cell_num.specs.declared.list.NoMemory.{NoMemory}
use Rattle.cell_report.specs.Cells.{fewest_text, tall_text}
use Rattle.cell_report.specs.Cycles.{ring_text}
use Rattle.call_read.specs.declared.refusal.Refusal.{Refusal}
use Rattle.channel_route.specs.declared.ring.Ring.{Ring}
use Rattle.cell_report.specs.Faults.{fault_line}
use Rattle.cell_report.specs.RowFaults.{row_fault}
use Rattle.cell_make.proofs.LogFits.{spent_fits}
use Rattle.call_end.specs.Files.{gds_file}
use Rattle.cell_report.specs.Unfinished.{unfinished_end}
use Rattle.row_abut.specs.declared.cell.RowFault.{RowFault}
use Rattle.cell_make.specs.RowInputs.{RowInputs, row_inputs}
use Rattle.cell_make.specs.Rowed.{IsRefused, IsRowed, IsStopped, IsUnabutted, IsWritten, MadeCell, Rowed, Refused, Stopped, Unabutted, row_height, row_width}
use Rattle.cell_make.specs.CellOfRow.{StopAnswer, StopsBy, TellsWhy, Unfinished}
use Rattle.cell_make.specs.Searched.{IsUnfinished}
use Rattle.cell_make.specs.declared.row_outcome.InputFault.{InputFault}
use Rattle.cell_make.specs.declared.row_outcome.Undrawn.{Undrawn}
use Rattle.cell_make.specs.declared.row_outcome.Undrawn.TheVariants as why
use Rattle.layout_commands.specs.Row.{CanBeTold, IsStoppedEnd, RowsTo, input_end, row_of, row_text}
use Rattle.tech_file.specs.Technology.{Technology}

-- ---- what is read

pub row_same : (asked : RowAsked) (tech : Technology) (bytes b top : List ℕ) (names : List (List ℕ)) (choice : LeastRow) → b ≡ bytes → top ≡ lowered asked.top → names ≡ map lowered asked.cells → choice ≡ asked.choice → ◌≡◌ {A = Result RowInputs Refusal} (Ok (row_inputs tech b top names choice)) (Ok (row_of asked tech bytes))
row_same asked tech bytes b top names choice p q s t = rw (p, q, s, t) refl

-- ---- ends

pub rowed_to : (r : RowInputs) (out : List ℕ) (made : List MadeCell) (library : List ℕ) (width height : ℕ) (got : Result End NoMemory) → IsRowed r made → IsWritten r made library width height → IfOk got (IsEnd status.Done (gds_file out library ∷ []) (first_line status.Done ++ row_text r.top (length r.names) width height)) → IfOk got (RowsTo r out)
rowed_to r out made library width height (Err e) rowed w ends = tt
rowed_to r out made library width height (Ok end) rowed w ends = (
  Rowed made,
  rowed,
  subst (λ bytes. IsEnd status.Done (gds_file out bytes ∷ []) (first_line status.Done ++ row_text r.top (length r.names) (row_width made) (row_height made)) end) w.bytes
      (subst (λ n. IsEnd status.Done (gds_file out library ∷ []) (first_line status.Done ++ row_text r.top (length r.names) n (row_height made)) end) w.wide
      (subst (λ n. IsEnd status.Done (gds_file out library ∷ []) (first_line status.Done ++ row_text r.top (length r.names) width n) end) w.high ends)),
)

pub refused_to : (r : RowInputs) (out : List ℕ) (before : List MadeCell) (name : List ℕ) (fault : InputFault) (got : Result End NoMemory) → IsRefused r before name fault → IfOk got (λ end. end ≡ input_end fault) → IfOk got (RowsTo r out)
refused_to r out before name fault (Err e) h is = tt
refused_to r out before name fault (Ok end) h is = (Refused before name fault, h, is)

pub stopped_to : (r : RowInputs) (out : List ℕ) (before : List MadeCell) (inputs : Inputs) (answer : StopAnswer) (got : Result End NoMemory) → IsStopped r before inputs answer → IfOk got (IsStoppedEnd inputs answer) → IfOk got (RowsTo r out)
stopped_to r out before inputs answer (Err e) h is = tt
stopped_to r out before inputs answer (Ok end) h is = (Stopped before inputs answer, h, is)

pub unabutted_to : (r : RowInputs) (out : List ℕ) (made : List MadeCell) (fault : RowFault) (got : Result End NoMemory) → IsUnabutted r made fault → IfOk got (λ end. end ≡ reports status.Row (fault_line (codes "row") (row_fault fault))) → IfOk got (RowsTo r out)
unabutted_to r out made fault (Err e) h is = tt
unabutted_to r out made fault (Ok end) h is = (Unabutted made fault, h, is)

-- ---- a cell that is not drawn

spent_by : (choice : LeastRow) (inputs : Inputs) (proved : ℕ) (log : Log) → StopsBy choice inputs (Unfinished proved log) → IsUnfinished inputs proved log
spent_by First inputs proved log stops = stops
spent_by Lowest inputs proved log stops = stops

pub can_be_told : (choice : LeastRow) (inputs : Inputs) (told : Undrawn) (answer : StopAnswer) → StopsBy choice inputs answer → TellsWhy inputs told answer → CanBeTold told
can_be_told choice inputs (why.Cyclic ring) answer stops is = tt
can_be_told choice inputs (why.Tall needed given) answer stops is = tt
can_be_told choice inputs (why.Unfinished log proved) answer stops is = spent_fits inputs.fingers inputs.tech.budget proved log (spent_by choice inputs proved log (subst (StopsBy choice inputs) is stops)).1
can_be_told choice inputs (why.Unwired ring) answer stops is = tt

pub cyclic_stops : (inputs inside : Inputs) (ring : Ring) (got : Result End NoMemory) (answer : StopAnswer) → inside ≡ inputs → IfOk got (λ end. end ≡ reports status.Cycle (ring_text inside.cell.nets ring)) → TellsWhy inputs (why.Cyclic ring) answer → IfOk got (IsStoppedEnd inputs answer)
cyclic_stops inputs inside ring (Err e) answer same ends told = tt
cyclic_stops inputs inside ring (Ok end) answer same ends (row, log, is) = rw is (subst (λ (i : Inputs). end ≡ reports status.Cycle (ring_text i.cell.nets ring)) same ends)

pub tall_stops : (inputs : Inputs) (needed given : ℕ) (got : Result End NoMemory) (answer : StopAnswer) → IfOk got (λ end. end ≡ reports status.TooTall (tall_text needed given)) → TellsWhy inputs (why.Tall needed given) answer → IfOk got (IsStoppedEnd inputs answer)
tall_stops inputs needed given (Err e) answer ends told = tt
tall_stops inputs needed given (Ok end) answer ends (row, log, routing, is, high, low) = rw (is, sym high, sym low) ends

pub spent_stops : (inputs inside : Inputs) (proved : ℕ) (log : Log) (got : Result End NoMemory) (answer : StopAnswer) → inside ≡ inputs → IfOk got (λ end. end ≡ unfinished_end inside.cell proved log) → TellsWhy inputs (why.Unfinished log proved) answer → IfOk got (IsStoppedEnd inputs answer)
spent_stops inputs inside proved log (Err e) answer same ends told = tt
spent_stops inputs inside proved log (Ok end) answer same ends is = rw is (subst (λ (i : Inputs). end ≡ unfinished_end i.cell proved log) same ends)

pub unwired_stops : (inputs inside : Inputs) (ring : Ring) (got : Result End NoMemory) (answer : StopAnswer) → inside ≡ inputs → IfOk got (λ end. end ≡ reports status.Unfinished (fewest_text 0 ++ ring_text inside.cell.nets ring)) → TellsWhy inputs (why.Unwired ring) answer → IfOk got (IsStoppedEnd inputs answer)
unwired_stops inputs inside ring (Err e) answer same ends told = tt
unwired_stops inputs inside ring (Ok end) answer same ends (row, log, tracks, is) = rw is (subst (λ (i : Inputs). end ≡ reports status.Unfinished (fewest_text 0 ++ ring_text i.cell.nets ring)) same ends)
