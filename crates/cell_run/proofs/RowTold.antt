-- What the top call owes of `row`, from the end that the files call for and how it was told.
use Rattle.std.proofs.Common.{ℕ, ◌≡◌, ◌==◌, true, false, List, [], Option, Some, None, Result, Ok, IfSome, refl, sym, ap, ◌∙◌, subst}
use Rattle.cell_io.specs.Desk.{Files, View, Both}
use Rattle.call_end.proofs.Delivered.{none_made}
use Rattle.call_end.specs.Deliver.{MakesAll, Says, TellsWhole}
use Rattle.call_end.specs.Status.{number_of}
use Rattle.call_end.specs.declared.end.End.{End}
use Rattle.call_end.specs.declared.end.Output.{Output}
use Rattle.call_end.specs.declared.status.Status.{Status}
use Rattle.call_end.specs.declared.status.Status.TheVariants as status
use Rattle.call_read.proofs.Asked.{called_parts}
use Rattle.call_read.specs.InputFiles.{technology_from}
use Rattle.call_read.specs.Reading.{Ends, bytes_of, called}
use Rattle.call_read.specs.Sources.{SpiceFile}
use Rattle.call_read.specs.declared.refusal.Refusal.{Refusal}
use Rattle.call_words.specs.Asked.{RowAsked}
use Rattle.call_words.specs.Words.{Form, Row}
use Rattle.call_work.proofs.EachCommand.{is_row}
use Rattle.call_work.proofs.Statuses.{differ}
use Rattle.call_work.specs.Commands.{Material, Rowing, gathered, rowing_of}
use Rattle.call_work.specs.declared.material.RowMaterial.{RowMaterial}
use Rattle.call_work.specs.Ends.{is_among}
use Rattle.cell_inputs.specs.Inputs.{Inputs}
use Rattle.cell_num.proofs.Lists.{some_same}
use Rattle.cell_run.proofs.MadeFiles.{library_made}
use Rattle.cell_run.proofs.Telling.{or_so}
use Rattle.cell_run.proofs.Worked.{IsAnswered, ends_told, refused_told, work_statuses}
use Rattle.cell_run.specs.Ended.{WhereEnds}
use Rattle.cell_run.specs.Row.{IsInputRefusal, IsMisreadRow, IsRefusedRow, IsRow, IsRowAskedFor, IsRowedLibrary, IsStopStatus, IsStoppedRow, IsUnabuttedRow, WhereRowEnds, stop_statuses}
use Rattle.cell_make.specs.RowInputs.{RowInputs}
use Rattle.cell_make.specs.CellOfRow.{StopAnswer, Cyclic, Tall, Unfinished, Unwired}
use Rattle.cell_make.specs.Rowed.{Rowed, Refused, Stopped, Unabutted}
use Rattle.cell_make.specs.declared.row_outcome.InputFault.TheVariants.{Spice, Fold}
use Rattle.layout_commands.specs.Row.{IsStoppedEnd, RowsTo, input_end, rowing, rowing_over, row_of}

-- ---- what the words ask for

-- the material of a row, where it is one
abbrev cells_of : Result Material Refusal → Option RowMaterial
cells_of (Ok (Rowing, m)) = Some m
cells_of _ = None

row_words : (files : Files) (asked : RowAsked) (name : List ℕ) (m : RowMaterial) → called files (gathered (Some (Row asked name))) ≡ Ok (Rowing, m) → IsRowAskedFor (Some (Row asked name)) m.inputs m.stem
row_words files asked name m got =
    let read = called_parts files (rowing asked) (λ (i : RowInputs). Ends (Ok (rowing_of name i))) (Rowing, m) got in
    let tech = called_parts files (technology_from asked.tech) (rowing_over asked) read.0 read.1 in
    let file = called_parts files (bytes_of (SpiceFile asked.spice)) (λ bytes. Ends (Ok (row_of asked tech.0 bytes))) read.0 tech.2 in
    let own : row_of asked tech.0 file.0 ≡ read.0 = ok_is (row_of asked tech.0 file.0) read.0 file.2 in
    let same : (rowing_of name read.0).1 ≡ m = some_same (rowing_of name read.0).1 m (ap cells_of read.2) in
    record {
      asked = asked;
      words = ap (λ (x : RowMaterial). Some (Row asked x.stem)) same;
      top = ap (λ (x : RowMaterial). x.inputs.top) (sym same) ∙ ap (λ (i : RowInputs). i.top) (sym own);
      names = ap (λ (x : RowMaterial). x.inputs.names) (sym same) ∙ ap (λ (i : RowInputs). i.names) (sym own);
      choice = ap (λ (x : RowMaterial). x.inputs.choice) (sym same) ∙ ap (λ (i : RowInputs). i.choice) (sym own);
    }
  where
    ok_is : (a b : RowInputs) → ◌≡◌ {A = Result RowInputs Refusal} (Ok a) (Ok b) → a ≡ b
    ok_is a b e = cc

row_asked : (files : Files) (form : Option Form) (m : RowMaterial) → IsRow form → called files (gathered form) ≡ Ok (Rowing, m) → IsRowAskedFor form m.inputs m.stem
row_asked files None m row got = absurd row
row_asked files (Some form) m row got = by (is_row form row)
  where
    by : (asked : RowAsked) × (name : List ℕ) × (form ≡ Row asked name) → IsRowAskedFor (Some form) m.inputs m.stem
    by (asked, name, is) =
        subst (λ (f : Form). IsRowAskedFor (Some f) m.inputs m.stem) (sym is)
        (row_words files asked name m (subst (λ (f : Form). called files (gathered (Some f)) ≡ Ok (Rowing, m)) is got))

row_told : (form : Option Form) (answer settled : Status) (Says : RowInputs → List ℕ → Type 0) (given : Option Files) → IfSome given (λ files. WhereEnds Rowing files form answer settled (λ m. Says m.inputs m.stem)) → IfSome given (λ files. WhereRowEnds files form answer settled Says)
row_told form answer settled Says None told = tt
row_told form answer settled Says (Some files) told = λ row is.
    let (m, comes, says) = told row is in
    (m, comes, (row_asked files form m row comes, says))

-- ---- by status

pub said_so : (end other : End) (old new : View) → end ≡ other → Both (Says end.report) old.said new.said → Both (Says other.report) old.said new.said
said_so end other old new is said = subst (λ (e : End). Both (Says e.report) old.said new.said) is said

library_so : (r : RowInputs) (out : List ℕ) (end : End) (answer : Status) (old new : View) → RowsTo r out end → answer ≡ status.Done → TellsWhole end answer old new → IsRowedLibrary r out old new
library_so r out end answer old new (Rowed made, h, is) done whole = record {
  made = made;
  rowed = h;
  files = library_made out _ end.files old.made new.made is.files whole.1;
  says = subst (λ (text : List ℕ). Both (Says text) old.said new.said) is.report whole.2;
}
library_so r out end answer old new (Refused before name (Spice f), h, is) done whole = absurd (differ status.Done status.Input refl (sym done ∙ whole.0 ∙ ap (λ (e : End). e.status) is))
library_so r out end answer old new (Refused before name (Fold f), h, is) done whole = absurd (differ status.Done status.Input refl (sym done ∙ whole.0 ∙ ap (λ (e : End). e.status) is))
library_so r out end answer old new (Stopped before inputs (Cyclic row log ring), h, is) done whole = absurd (differ status.Done status.Cycle refl (sym done ∙ whole.0 ∙ ap (λ (e : End). e.status) is))
library_so r out end answer old new (Stopped before inputs (Tall row log routing), h, is) done whole = absurd (differ status.Done status.TooTall refl (sym done ∙ whole.0 ∙ ap (λ (e : End). e.status) is))
library_so r out end answer old new (Stopped before inputs (Unfinished proved log), h, is) done whole = absurd (differ status.Done status.Unfinished refl (sym done ∙ whole.0 ∙ ap (λ (e : End). e.status) is))
library_so r out end answer old new (Stopped before inputs (Unwired row log tracks ring), h, is) done whole = absurd (differ status.Done status.Unfinished refl (sym done ∙ whole.0 ∙ ap (λ (e : End). e.status) is))
library_so r out end answer old new (Unabutted made fault, h, is) done whole = absurd (differ status.Done status.Row refl (sym done ∙ whole.0 ∙ ap (λ (e : End). e.status) is))

-- a status that is not of a stopped row
no_stop : (answer settled other : Status) → IsStopStatus settled → answer ≡ settled → answer ≡ other → is_among stop_statuses other ≡ false → ⊥
no_stop answer settled other stops is same none =
    let also : is_among stop_statuses other ≡ true = subst (λ (s : Status). is_among stop_statuses s ≡ true) (sym is ∙ same) stops in
    cc

pub no_files : (inputs : Inputs) (answer : StopAnswer) (end : End) → IsStoppedEnd inputs answer end → end.files ≡ []
no_files inputs (Cyclic row log ring) end is = ap (λ (e : End). e.files) is
no_files inputs (Tall row log routing) end is = ap (λ (e : End). e.files) is
no_files inputs (Unfinished proved log) end is = ap (λ (e : End). e.files) is
no_files inputs (Unwired row log tracks ring) end is = ap (λ (e : End). e.files) is

stopped_so : (settled : Status) (r : RowInputs) (out : List ℕ) (end : End) (answer : Status) (old new : View) → IsStopStatus settled → RowsTo r out end → answer ≡ settled → TellsWhole end answer old new → IsStoppedRow r answer old new
stopped_so settled r out end answer old new stops (Stopped before inputs comes, h, is) same whole = record {
  before = before;
  inputs = inputs;
  comes = comes;
  stopped = h;
  end = end;
  ends = is;
  status = whole.0;
  says = whole.2;
  files = none_made old.made new.made (subst (λ (files : List Output). Both (MakesAll files) old.made new.made) (no_files inputs comes end is) whole.1);
}
stopped_so settled r out end answer old new stops (Rowed made, h, is) same whole = absurd (no_stop answer settled status.Done stops same (whole.0 ∙ is.status) refl)
stopped_so settled r out end answer old new stops (Refused before name (Spice f), h, is) same whole = absurd (no_stop answer settled status.Input stops same (whole.0 ∙ ap (λ (e : End). e.status) is) refl)
stopped_so settled r out end answer old new stops (Refused before name (Fold f), h, is) same whole = absurd (no_stop answer settled status.Input stops same (whole.0 ∙ ap (λ (e : End). e.status) is) refl)
stopped_so settled r out end answer old new stops (Unabutted made fault, h, is) same whole = absurd (no_stop answer settled status.Row stops same (whole.0 ∙ ap (λ (e : End). e.status) is) refl)

refused_so : (r : RowInputs) (out : List ℕ) (end : End) (answer : Status) (old new : View) → RowsTo r out end → answer ≡ status.Input → TellsWhole end answer old new → IsRefusedRow r old new
refused_so r out end answer old new (Refused before name fault, h, is) same whole =
    record { before = before; name = name; fault = fault; refused = h; says = said_so end (input_end fault) old new is whole.2 }
refused_so r out end answer old new (Rowed made, h, is) same whole = absurd (differ status.Input status.Done refl (sym same ∙ whole.0 ∙ is.status))
refused_so r out end answer old new (Stopped before inputs (Cyclic row log ring), h, is) same whole = absurd (differ status.Input status.Cycle refl (sym same ∙ whole.0 ∙ ap (λ (e : End). e.status) is))
refused_so r out end answer old new (Stopped before inputs (Tall row log routing), h, is) same whole = absurd (differ status.Input status.TooTall refl (sym same ∙ whole.0 ∙ ap (λ (e : End). e.status) is))
refused_so r out end answer old new (Stopped before inputs (Unfinished proved log), h, is) same whole = absurd (differ status.Input status.Unfinished refl (sym same ∙ whole.0 ∙ ap (λ (e : End). e.status) is))
refused_so r out end answer old new (Stopped before inputs (Unwired row log tracks ring), h, is) same whole = absurd (differ status.Input status.Unfinished refl (sym same ∙ whole.0 ∙ ap (λ (e : End). e.status) is))
refused_so r out end answer old new (Unabutted made fault, h, is) same whole = absurd (differ status.Input status.Row refl (sym same ∙ whole.0 ∙ ap (λ (e : End). e.status) is))

unabutted_so : (r : RowInputs) (out : List ℕ) (end : End) (answer : Status) (old new : View) → RowsTo r out end → answer ≡ status.Row → TellsWhole end answer old new → IsUnabuttedRow r old new
unabutted_so r out end answer old new (Unabutted made fault, h, is) same whole = record { made = made; fault = fault; unabutted = h; says = said_so end _ old new is whole.2 }
unabutted_so r out end answer old new (Rowed made, h, is) same whole = absurd (differ status.Row status.Done refl (sym same ∙ whole.0 ∙ is.status))
unabutted_so r out end answer old new (Refused before name (Spice f), h, is) same whole = absurd (differ status.Row status.Input refl (sym same ∙ whole.0 ∙ ap (λ (e : End). e.status) is))
unabutted_so r out end answer old new (Refused before name (Fold f), h, is) same whole = absurd (differ status.Row status.Input refl (sym same ∙ whole.0 ∙ ap (λ (e : End). e.status) is))
unabutted_so r out end answer old new (Stopped before inputs (Cyclic row log ring), h, is) same whole = absurd (differ status.Row status.Cycle refl (sym same ∙ whole.0 ∙ ap (λ (e : End). e.status) is))
unabutted_so r out end answer old new (Stopped before inputs (Tall row log routing), h, is) same whole = absurd (differ status.Row status.TooTall refl (sym same ∙ whole.0 ∙ ap (λ (e : End). e.status) is))
unabutted_so r out end answer old new (Stopped before inputs (Unfinished proved log), h, is) same whole = absurd (differ status.Row status.Unfinished refl (sym same ∙ whole.0 ∙ ap (λ (e : End). e.status) is))
unabutted_so r out end answer old new (Stopped before inputs (Unwired row log tracks ring), h, is) same whole = absurd (differ status.Row status.Unfinished refl (sym same ∙ whole.0 ∙ ap (λ (e : End). e.status) is))

-- ---- the clauses

pub rowed_told : (a c : View) (form : Option Form) (answer : Status) (given : Option Files) → IfSome given (IsAnswered form a c answer) → IfSome given (λ files. WhereRowEnds files form answer status.Done (λ r out. IsRowedLibrary r out a c))
rowed_told a c form answer given told =
    row_told form answer status.Done (λ r out. IsRowedLibrary r out a c) given
    (ends_told Rowing (λ m. IsRowedLibrary m.inputs m.stem a c) form status.Done answer a c given refl (λ m end works is whole. library_so m.inputs m.stem end answer a c works is whole) told)

stop_is_work : (settled : Status) → IsStopStatus settled → is_among work_statuses settled ≡ true
stop_is_work settled stops =
    or_so (number_of status.Done == number_of settled) _ (or_so (number_of status.Rejected == number_of settled) _ (or_so (number_of status.Row == number_of settled) (is_among stop_statuses settled) stops))

pub stopped_told : (a c : View) (form : Option Form) (answer : Status) (given : Option Files) → IfSome given (IsAnswered form a c answer) → (settled : Status) → IsStopStatus settled → IfSome given (λ files. WhereRowEnds files form answer settled (λ r out. IsStoppedRow r answer a c))
stopped_told a c form answer given told settled stops =
    row_told form answer settled (λ r out. IsStoppedRow r answer a c) given
    (ends_told Rowing (λ m. IsStoppedRow m.inputs answer a c) form settled answer a c given (stop_is_work settled stops) (λ m end works is whole. stopped_so settled m.inputs m.stem end answer a c stops works is whole) told)

pub misread_told : (a c : View) (form : Option Form) (answer : Status) (given : Option Files) → IfSome given (IsAnswered form a c answer) → IfSome given (λ files. IsRow form → answer ≡ status.Input → IsMisreadRow files form a c)
misread_told a c form answer given told = refused_told Rowing status.Input IsInputRefusal (λ m. IsRefusedRow m.inputs a c) a c form answer given refl refl (λ e is. sym is) (λ m end works is whole. refused_so m.inputs m.stem end answer a c works is whole) told

pub unabutted_told : (a c : View) (form : Option Form) (answer : Status) (given : Option Files) → IfSome given (IsAnswered form a c answer) → IfSome given (λ files. WhereRowEnds files form answer status.Row (λ r out. IsUnabuttedRow r a c))
unabutted_told a c form answer given told =
    row_told form answer status.Row (λ r out. IsUnabuttedRow r a c) given
    (ends_told Rowing (λ m. IsUnabuttedRow m.inputs a c) form status.Row answer a c given refl (λ m end works is whole. unabutted_so m.inputs m.stem end answer a c works is whole) told)
