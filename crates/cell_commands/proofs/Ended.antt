-- What making a cell with its evidence results in, from what the search and the drawing answered.
use Rattle.std.proofs.Common.{ℕ, ◌≡◌, ◌≤◌, List, [], ◌++◌, Result, IfOk, ap, length, map, subst, arith}
use Rattle.std.proofs.lemmas.Result.{IfOk-weaker}
use Rattle.cell_num.specs.declared.finger.Fingers.{Fingers}
use Rattle.cell_num.specs.declared.list.NoMemory.{NoMemory}
use Rattle.cell_num.specs.declared.net.NetNo.{NetNo}
use Rattle.row_model.specs.declared.column.Column.{Column}
use Rattle.row_model.specs.Arrangement.{IsArrangement}
use Rattle.spice_net.specs.declared.subckt.Subckt.{Subckt}
use Rattle.call_end.specs.declared.end.End.{End}
use Rattle.call_end.specs.declared.status.Status.TheVariants as status
use Rattle.call_end.specs.End.{reports, IsEnd, named}
use Rattle.call_end.specs.Status.{first_line}
use Rattle.call_words.specs.declared.evidence.Evidence.{Evidence}
use Rattle.call_words.specs.declared.evidence.Evidence.TheVariants.{Log, Trails}
use Rattle.cell_inputs.specs.declared.style.Style.{Style}
use Rattle.cell_inputs.specs.Inputs.{AreInputs, Inputs}
use Rattle.cell_make.specs.declared.draw_outcome.DrawOutcome.{DrawOutcome}
use Rattle.cell_make.specs.Rows.{ComesFrom, row_answer}
use Rattle.cell_make.proofs.Makes.{few_columns}
use Rattle.cell_commands.specs.declared.certificate.Certificate.{Certificate}
use Rattle.cell_commands.specs.declared.certificate.Certificate.TheVariants as held
use Rattle.cell_commands.specs.Certificate.{CanBeWritten, row_evidence}
use Rattle.cell_commands.specs.Make.{MakeAnswer, Made, Open, Crowded, IsDrawnTo, IsMakeEnd, IsOpenEnd, Makes, MakesTo}
use Rattle.cell_commands.specs.Searched.{Crowds, IsFoundBy, IsOpenBy}
use Rattle.cell_make.proofs.LogFits as log
use Rattle.cell_commands.specs.RowEnd.{IsRowEnd, RowEvidence}
use Rattle.cell_commands.specs.Evidence.{gate_text}

to : (evidence : Evidence) (style : Style) (inputs : Inputs) (out : List ℕ) (answer : MakeAnswer) (r : Result End NoMemory) → Makes evidence style inputs answer → IfOk r (IsMakeEnd style inputs out answer) → IfOk r (MakesTo evidence style inputs out)
to evidence style inputs out answer r makes ends = IfOk-weaker r (IsMakeEnd style inputs out answer) (MakesTo evidence style inputs out) (λ end e. (answer, makes, e)) ends

pub drawn_to : (style : Style) (inputs : Inputs) (out : List ℕ) (row : List Column) (told : RowEvidence) (came : DrawOutcome) (r : Result End NoMemory) → ComesFrom style inputs row came → IfOk r (IsRowEnd style inputs out row told (row_answer came)) → IfOk r (IsDrawnTo style inputs out row told)
drawn_to style inputs out row told came r comes ends =
    IfOk-weaker r (IsRowEnd style inputs out row told (row_answer came)) (IsDrawnTo style inputs out row told) (λ end e. (row_answer came, comes.draws, e)) ends

pub made_to : (evidence : Evidence) (style : Style) (inputs : Inputs) (out : List ℕ) (row : List Column) (certificate : Certificate) (r : Result End NoMemory) → IsFoundBy evidence inputs row certificate → IfOk r (IsDrawnTo style inputs out row (row_evidence inputs.cell out certificate)) → IfOk r (MakesTo evidence style inputs out)
made_to evidence style inputs out row certificate r found drawn =
    IfOk-weaker r (IsDrawnTo style inputs out row (row_evidence inputs.cell out certificate)) (MakesTo evidence style inputs out)
    (λ end (answer, draws, ends). (Made row certificate answer, (found, draws), ends)) drawn

pub open_to : (evidence : Evidence) (style : Style) (inputs inside : Inputs) (out : List ℕ) (proved : ℕ) (certificate : Certificate) (r : Result End NoMemory) → inside ≡ inputs → IsOpenBy evidence inputs proved certificate → IfOk r (IsOpenEnd inside.cell out proved certificate) → IfOk r (MakesTo evidence style inputs out)
open_to evidence style inputs inside out proved certificate r same spent ends =
    to evidence style inputs out (Open proved certificate) r spent (subst (λ (i : Inputs). IfOk r (IsOpenEnd i.cell out proved certificate)) same ends)

pub crowded_end : (cell : Subckt) (gate : NetNo) (end : End) → end ≡ reports status.Unfinished (gate_text cell gate) → IsEnd status.Unfinished [] (first_line status.Unfinished ++ gate_text cell gate) end
crowded_end cell gate end is = record {
  status = ap (λ (x : End). x.status) is;
  files = ap (λ (x : End). map named x.files) is;
  report = ap (λ (x : End). x.report) is;
}

pub crowded_to : (evidence : Evidence) (style : Style) (inputs inside : Inputs) (out : List ℕ) (gate : NetNo) (r : Result End NoMemory) → inside ≡ inputs → Crowds evidence inputs gate → IfOk r (λ end. end ≡ reports status.Unfinished (gate_text inside.cell gate)) → IfOk r (MakesTo evidence style inputs out)
crowded_to evidence style inputs inside out gate r same crowded is =
    to evidence style inputs out (Crowded gate) r crowded
    (IfOk-weaker r (λ (end : End). end ≡ reports status.Unfinished (gate_text inputs.cell gate)) (IsMakeEnd style inputs out (Crowded gate)) (crowded_end inputs.cell gate)
    (subst (λ (i : Inputs). IfOk r (λ end. end ≡ reports status.Unfinished (gate_text i.cell gate))) same is))

-- ---- what a search within the budget answered, of the inputs as they are seen

pub of_inputs : (Says : Fingers → ℕ → Type 0) (inside inputs : Inputs) (budget : ℕ) → inside ≡ inputs → budget ≡ inputs.tech.budget → Says inside.fingers budget → Says inputs.fingers inputs.tech.budget
of_inputs Says inside inputs budget same is says = subst (λ (b : ℕ). Says inputs.fingers b) is (subst (λ (i : Inputs). Says i.fingers budget) same says)

-- ---- what is found, by the kind of evidence

pub found_arranges : (evidence : Evidence) (inputs : Inputs) (row : List Column) (certificate : Certificate) → IsFoundBy evidence inputs row certificate → IsArrangement row inputs.fingers
found_arranges Log inputs row (held.Log found) is = is.first.arranges
found_arranges Trails inputs row (held.Trails found) is = is.first.arranges
found_arranges Log inputs row (held.Trails found) is = absurd is
found_arranges Trails inputs row (held.Log found) is = absurd is

pub found_fits : (evidence : Evidence) (inputs : Inputs) (row : List Column) (certificate : Certificate) → IsFoundBy evidence inputs row certificate → CanBeWritten certificate
found_fits Log inputs row (held.Log found) is = log.found_fits inputs row found is.certified
found_fits Trails inputs row (held.Trails found) is =
    let (k, of_k, some_k, certified) = is.certified in
    (k, some_k, certified.fits)
found_fits Log inputs row (held.Trails found) is = absurd is
found_fits Trails inputs row (held.Log found) is = absurd is

pub open_fits : (evidence : Evidence) (inputs : Inputs) (proved : ℕ) (certificate : Certificate) → IsOpenBy evidence inputs proved certificate → CanBeWritten certificate
open_fits Log inputs proved (held.Log spent) is = log.spent_fits inputs.fingers inputs.tech.budget proved spent is.1
open_fits Trails inputs proved (held.Trails spent) is =
    let (k, of_k, some_k, fits) = is.fits in
    (k, some_k, fits)
open_fits Log inputs proved (held.Trails spent) is = absurd is
open_fits Trails inputs proved (held.Log spent) is = absurd is

pub short_row : (inputs : Inputs) (row : List Column) → AreInputs inputs → IsArrangement row inputs.fingers → length row ≤ 64
short_row inputs row are arranged = omega (arith, few_columns inputs row are arranged)
