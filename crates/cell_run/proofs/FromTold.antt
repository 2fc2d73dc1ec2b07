-- What the top call owes of `make` with a given file, from the end that the files call for and how it was told.
use Rattle.std.proofs.Common.{ℕ, ◌≡◌, true, List, [], Option, Some, None, Result, Ok, IfSome, inl, inr, ap, length, refl, sym, subst, ◌∙◌}
use Rattle.cell_io.specs.Desk.{Files, View}
use Rattle.cell_num.proofs.Lists.{some_same}
use Rattle.row_model.specs.declared.column.Column.{Column}
use Rattle.row_model.specs.Gaps.{gaps_of}
use Rattle.call_end.specs.declared.end.End.{End}
use Rattle.call_end.specs.declared.status.Status.{Status}
use Rattle.call_end.specs.declared.status.Status.TheVariants as status
use Rattle.call_end.specs.Deliver.{TellsWhole}
use Rattle.call_read.specs.declared.refusal.Refusal.{Refusal}
use Rattle.call_read.specs.InputFiles.{inputs_from}
use Rattle.call_read.specs.Reading.{Ends, bytes_of, called}
use Rattle.call_read.proofs.Asked.{asked_name, called_parts}
use Rattle.call_words.specs.Asked.{CellAsked}
use Rattle.call_words.specs.Words.{Form, MakeFrom}
use Rattle.call_words.specs.declared.evidence.Evidence.{Evidence}
use Rattle.call_words.specs.declared.evidence.Evidence.TheVariants.{Log, Trails}
use Rattle.call_work.proofs.EachCommand.{files_by, is_make_from}
use Rattle.call_work.proofs.EndsOf.{HasNoFiles}
use Rattle.call_work.proofs.Statuses.{differ}
use Rattle.call_work.specs.Commands.{FromMaterial, Material, MakingFrom, gathered, making_from, making_over}
use Rattle.call_work.specs.Ends.{is_among}
use Rattle.call_work.specs.Evidence.{evidence_file}
use Rattle.cell_inputs.specs.declared.style.Style.{Style}
use Rattle.cell_inputs.specs.Inputs.{Inputs}
use Rattle.cell_make.specs.LowRows.{IsLeast}
use Rattle.cell_make.specs.Making.{IsRouted}
use Rattle.cell_make.specs.Rows.{DrawAnswer, Draws, RowDrawn, RowCyclic, RowTall}
use Rattle.cell_commands.specs.declared.certificate.Certificate.{Certificate}
use Rattle.cell_commands.specs.declared.certificate.Certificate.TheVariants as held
use Rattle.cell_commands.specs.Given.{IsListedBy, IsRefusedBy, MakesFromTo, given_evidence}
use Rattle.cell_commands.specs.RowEnd.{IsRowEnd, RowEvidence}
use Rattle.trail_either.specs.Either.{fill_count, lemma_count}
use Rattle.cell_run.proofs.MadeFiles.{none_left}
use Rattle.cell_run.proofs.MakeSettled.{IsDrawnBy, IsRowBy, by_end, row_leaves}
use Rattle.cell_run.proofs.MakeTold.{row_cycles, row_draws, row_needs}
use Rattle.cell_run.proofs.PlanTold.{holds_done}
use Rattle.cell_run.proofs.Worked.{Completes, IsAnswered, ends_told, settles, work_statuses}
use Rattle.cell_run.specs.Calm.{IsCalm}
use Rattle.cell_run.specs.Ended.{WhereEnds}
use Rattle.cell_run.specs.Evidence.{Certificate as CertificateOf, IsTextOfAccepted}
use Rattle.cell_run.specs.From.{FromFile, IsAskedFrom, IsMakeFrom, IsRefusedFile, IsUnaccepted, OfListed, WhereFromEnds, file_of}
use Rattle.cell_run.specs.Headline.{CanBeDrawn, HasCycle, IsCyclicCell, IsMadeCell, IsOrShort, IsTallCell, IsTooHigh}
use Rattle.cell_run.specs.Origin.{File, ListsIn}

-- ---- what the words ask for

-- the material of such a drawing, where it is one
abbrev from_of : Result Material Refusal → Option FromMaterial
from_of (Ok (MakingFrom, m)) = Some m
from_of _ = None

words_for : (files : Files) (asked : CellAsked) (out : List ℕ) (style : Style) (file : List ℕ) (evidence : Evidence) (m : FromMaterial) → called files (gathered (Some (MakeFrom asked out style file evidence))) ≡ Ok (MakingFrom, m) → IsAskedFrom files (Some (MakeFrom asked out style file evidence)) m
words_for files asked out style file evidence m got =
    let read = called_parts files (inputs_from asked) (making_over evidence out style file) (MakingFrom, m) got in
    let holds = called_parts files (bytes_of (evidence_file evidence file)) (λ bytes. Ends (Ok (making_from evidence out style read.0 bytes))) (MakingFrom, m) read.2 in
    let same : (making_from evidence out style read.0 holds.0).1 ≡ m = some_same (making_from evidence out style read.0 holds.0).1 m (ap from_of holds.2) in
    record {
      asked = asked;
      file = file;
      words = ap (λ (x : FromMaterial). Some (MakeFrom asked x.stem x.style file x.evidence)) same;
      name = ap (λ (x : FromMaterial). x.inputs.cell.name) (sym same) ∙ asked_name files asked read.0 read.1;
      holds = subst (λ (x : FromMaterial). called files (bytes_of (evidence_file x.evidence file)) ≡ Ok x.bytes) same holds.1;
    }

asked_so : (files : Files) (form : Form) (m : FromMaterial) → (asked : CellAsked) × (out : List ℕ) × (style : Style) × (file : List ℕ) × (evidence : Evidence) × (form ≡ MakeFrom asked out style file evidence) → called files (gathered (Some form)) ≡ Ok (MakingFrom, m) → IsAskedFrom files (Some form) m
asked_so files form m (asked, out, style, file, evidence, is) got =
    subst (λ (f : Form). IsAskedFrom files (Some f) m) (sym is)
    (words_for files asked out style file evidence m (subst (λ (f : Form). called files (gathered (Some f)) ≡ Ok (MakingFrom, m)) is got))

asked_for : (files : Files) (form : Option Form) (m : FromMaterial) → IsMakeFrom form → called files (gathered form) ≡ Ok (MakingFrom, m) → IsAskedFrom files form m
asked_for files None m make got = absurd make
asked_for files (Some form) m make got = asked_so files form m (is_make_from form make) got

asked_told : (form : Option Form) (answer settled : Status) (Says : FromMaterial → Type 0) (given : Option Files) → IfSome given (λ files. WhereEnds MakingFrom files form answer settled Says) → IfSome given (λ files. WhereFromEnds files form answer settled Says)
asked_told form answer settled Says None told = tt
asked_told form answer settled Says (Some files) told = λ make is.
    let (m, comes, says) = told make is in
    (m, comes, (asked_for files form m make comes, says))

-- ---- what it leaves, by its status

abbrev pub FromLeaves : FromMaterial → View → View → Status → Type 0
FromLeaves m old new status.Done = IsMadeCell (file_of m) m.style m.inputs m.stem old new
FromLeaves m old new status.Cycle = IsCyclicCell (file_of m) m.style m.inputs m.stem old new
FromLeaves m old new status.TooTall = IsTallCell (file_of m) m.style m.inputs m.stem old new
FromLeaves m old new status.Rejected = IsRefusedFile m old new
FromLeaves m old new _ = Unit {0}

-- a row that is given is a least one, whatever drawing it comes to
given_row : (evidence : Evidence) (bytes : List ℕ) (inputs : Inputs) (row : List Column) (drawing : DrawAnswer) → IsLeast inputs.fingers row → IsRowBy (File evidence bytes) inputs row drawing
given_row evidence bytes inputs row (RowDrawn routing xs) least = least
given_row evidence bytes inputs row (RowCyclic ring) least = least
given_row evidence bytes inputs row (RowTall routing) least = least

given_so : (evidence : Evidence) (bytes : List ℕ) (style : Style) (inputs : Inputs) (row : List Column) (drawing : DrawAnswer) → IsLeast inputs.fingers row → Draws style inputs row drawing → IsDrawnBy (File evidence bytes) style inputs row (IsRouted style inputs row) drawing
given_so evidence bytes style inputs row drawing least h = record {
  routed = λ routing r. record { acyclic = r.acyclic; legal = r.legal; tracks = r.tight };
  from = given_row evidence bytes inputs row drawing least;
  draws = h;
}

listed_leaves : (evidence : Evidence) (style : Style) (inputs : Inputs) (bytes out : List ℕ) (row : List Column) (certificate : Certificate) (drawing : DrawAnswer) (end : End) (answer : Status) (old new : View) (Is : Status → Type 0) → (IsMadeCell (File evidence bytes) style inputs out old new → Is status.Done) → (IsCyclicCell (File evidence bytes) style inputs out old new → Is status.Cycle) → (IsTallCell (File evidence bytes) style inputs out old new → Is status.TooTall) → IsListedBy evidence inputs bytes row certificate → Draws style inputs row drawing → IsRowEnd style inputs out row (given_evidence certificate) drawing end → TellsWhole end answer old new → Is answer
listed_leaves Log style inputs bytes out row (held.Log log) drawing end answer old new Is made cyclic tall listed h is whole =
    row_leaves (File Log bytes) style inputs out row log (IsRouted style inputs row) drawing end answer old new Is made cyclic tall listed (given_so Log bytes style inputs row drawing (record { arranges = listed.arranges; least = listed.least }) h) is whole
listed_leaves Trails style inputs bytes out row (held.Trails found) drawing end answer old new Is made cyclic tall listed h is whole =
    row_leaves (File Trails bytes) style inputs out row found (IsRouted style inputs row) drawing end answer old new Is made cyclic tall listed (given_so Trails bytes style inputs row drawing (record { arranges = listed.arranges; least = listed.least }) h) is whole
listed_leaves Log style inputs bytes out row (held.Trails found) drawing end answer old new Is made cyclic tall listed h is whole = absurd listed
listed_leaves Trails style inputs bytes out row (held.Log log) drawing end answer old new Is made cyclic tall listed h is whole = absurd listed

-- no file is made where the given one is refused
refused_files : (m : FromMaterial) (end : End) → IsRefusedBy m.evidence m.inputs m.bytes end → end.files ≡ []
refused_files m end refused = by (files_by MakingFrom m end (inr refused))
  where
    by : HasNoFiles MakingFrom end → end.files ≡ []
    by (inl none) = none
    by (inr (inl (is, own))) = cc
    by (inr (inr (inl (is, done)))) = cc
    by (inr (inr (inr (inl (is, done))))) = absurd (differ status.Done status.Rejected refl (sym done ∙ refused.1))
    by (inr (inr (inr (inr (is, own))))) = cc

from_leaves_so : (m : FromMaterial) (end : End) (answer : Status) (old new : View) → MakesFromTo m.evidence m.style m.inputs m.bytes m.stem end → TellsWhole end answer old new → FromLeaves m old new answer
from_leaves_so m end answer old new (inl (row, certificate, listed, (drawing, h, is))) whole =
    listed_leaves m.evidence m.style m.inputs m.bytes m.stem row certificate drawing end answer old new (FromLeaves m old new) (λ x. x) (λ x. x) (λ x. x) listed h is whole
from_leaves_so m end answer old new (inr refused) whole =
    by_end (FromLeaves m old new) status.Rejected answer end old new refused.1 whole
    (record { end = end; refused = refused; says = whole.2; files = none_left end.files old.made new.made (rw (refused_files m end refused) refl) whole.1 })

pub from_leaves : (settled : Status) (a c : View) (form : Option Form) (answer : Status) (given : Option Files) → is_among work_statuses settled ≡ true → IfSome given (IsAnswered form a c answer) → IfSome given (λ files. WhereFromEnds files form answer settled (λ m. FromLeaves m a c settled))
from_leaves settled a c form answer given own told =
    asked_told form answer settled (λ m. FromLeaves m a c settled) given
    (ends_told MakingFrom (λ m. FromLeaves m a c settled) form settled answer a c given own (λ m end works is whole. subst (FromLeaves m a c) is (from_leaves_so m end answer a c works whole)) told)

-- ---- completeness

-- the certificate of a file, by its kind
listed_in : (evidence : Evidence) (inputs : Inputs) (bytes : List ℕ) (row : List Column) (certificate : Certificate) → IsListedBy evidence inputs bytes row certificate → (found : CertificateOf evidence) × ListsIn evidence inputs bytes row found
listed_in Log inputs bytes row (held.Log log) listed = (log, listed)
listed_in Trails inputs bytes row (held.Trails found) listed = (found, listed)
listed_in Log inputs bytes row (held.Trails found) listed = absurd listed
listed_in Trails inputs bytes row (held.Log log) listed = absurd listed

-- a file that lists a row is accepted
listed_accepted : (evidence : Evidence) (inputs : Inputs) (bytes : List ℕ) (row : List Column) (certificate : Certificate) → IsListedBy evidence inputs bytes row certificate → IsTextOfAccepted evidence inputs bytes
listed_accepted Log inputs bytes row (held.Log log) listed =
    let (k, of_k, some_k, lists) = listed.listed in
    (gaps_of row, length log.lemmas, (k, of_k, some_k, (log, lists.fits, lists.text, lists.accepted, refl)))
listed_accepted Trails inputs bytes row (held.Trails found) listed =
    let (k, of_k, some_k, lists) = listed.listed in
    (gaps_of row, lemma_count found, fill_count found, (k, of_k, some_k, record { trails = found; fits = lists.fits; text = listed.text; accepted = lists.accepted; lemmas_are = refl; filled_are = refl }))
listed_accepted Log inputs bytes row (held.Trails found) listed = absurd listed
listed_accepted Trails inputs bytes row (held.Log log) listed = absurd listed

-- what the end of a row settles, the end settles where the file is accepted
listed_where : (Says : Style → Inputs → List Column → Type 0) (settled : Status) (m : FromMaterial) (end : End) → ((row : List Column) (told : RowEvidence) (drawing : DrawAnswer) → Says m.style m.inputs row → Draws m.style m.inputs row drawing → IsRowEnd m.style m.inputs m.stem row told drawing end → end.status ≡ settled) → OfListed Says m → MakesFromTo m.evidence m.style m.inputs m.bytes m.stem end → end.status ≡ settled
listed_where Says settled m end each (accepted, few, so) (inl (row, certificate, listed, (drawing, h, is))) =
    let (found, lists) = listed_in m.evidence m.inputs m.bytes row certificate listed in
    each row (given_evidence certificate) drawing (so row found lists) h is
listed_where Says settled m end each (accepted, few, so) (inr (checks, rejected)) =
    elim (holds_done m.evidence m.inputs m.bytes end accepted checks) [
      | inl done ↦ absurd (differ status.Done status.Rejected refl (sym done ∙ rejected))
      | inr crowded ↦ absurd (few crowded)
    ]

rejected_where : (m : FromMaterial) (end : End) → IsUnaccepted m → MakesFromTo m.evidence m.style m.inputs m.bytes m.stem end → end.status ≡ status.Rejected
rejected_where m end none (inl (row, certificate, listed, drawn)) = absurd (none (listed_accepted m.evidence m.inputs m.bytes row certificate listed))
rejected_where m end none (inr (checks, rejected)) = rejected

pub from_draws_told : (a c : View) (form : Option Form) (answer : Status) (given : Option Files) → IfSome given (λ files. IsCalm a c → Completes form files answer) → IfSome given (λ files. IsCalm a c → FromFile files form (OfListed CanBeDrawn) → IsOrShort status.Done answer)
from_draws_told a c form answer given told = settles MakingFrom (OfListed CanBeDrawn) form status.Done answer a c given (λ m end is works. listed_where CanBeDrawn status.Done m end (λ row told drawing. row_draws m.style m.inputs m.stem row told drawing end) is works) told

pub from_meets_told : (a c : View) (form : Option Form) (answer : Status) (given : Option Files) → IfSome given (λ files. IsCalm a c → Completes form files answer) → IfSome given (λ files. IsCalm a c → FromFile files form (OfListed HasCycle) → IsOrShort status.Cycle answer)
from_meets_told a c form answer given told = settles MakingFrom (OfListed HasCycle) form status.Cycle answer a c given (λ m end is works. listed_where HasCycle status.Cycle m end (λ row told drawing. row_cycles m.style m.inputs m.stem row told drawing end) is works) told

pub from_needs_told : (a c : View) (form : Option Form) (answer : Status) (given : Option Files) → IfSome given (λ files. IsCalm a c → Completes form files answer) → IfSome given (λ files. IsCalm a c → FromFile files form (OfListed IsTooHigh) → IsOrShort status.TooTall answer)
from_needs_told a c form answer given told = settles MakingFrom (OfListed IsTooHigh) form status.TooTall answer a c given (λ m end is works. listed_where IsTooHigh status.TooTall m end (λ row told drawing. row_needs m.style m.inputs m.stem row told drawing end) is works) told

pub from_refuses_told : (a c : View) (form : Option Form) (answer : Status) (given : Option Files) → IfSome given (λ files. IsCalm a c → Completes form files answer) → IfSome given (λ files. IsCalm a c → FromFile files form IsUnaccepted → IsOrShort status.Rejected answer)
from_refuses_told a c form answer given told = settles MakingFrom IsUnaccepted form status.Rejected answer a c given (λ m end none works. rejected_where m end none works) told
