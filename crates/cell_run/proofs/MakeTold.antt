-- What the top call owes of `make`, from the end that the files call for and how it was told.
use Rattle.std.proofs.Common.{ℕ, ◌≡◌, ◌≤◌, true, List, Option, IfSome, arith, subst}
use Rattle.cell_io.specs.Desk.{Files, View}
use Rattle.log_check.specs.Accepted.{ForKinds}
use Rattle.bound_log.specs.declared.log.Log.{Log as SearchLog}
use Rattle.row_model.specs.declared.column.Column.{Column}
use Rattle.row_search.specs.Enough.{enough}
use Rattle.row_search.specs.First.{IsFirstLeast}
use Rattle.cell_num.specs.declared.net.NetNo.{NetNo}
use Rattle.cell_run.specs.Evidence.{HasEnough}
use Rattle.row_place.specs.Places.{placement_of}
use Rattle.call_end.specs.declared.end.End.{End}
use Rattle.call_work.specs.Commands.{Making}
use Rattle.call_work.specs.Ends.{is_among}
use Rattle.call_end.specs.declared.status.Status.{Status}
use Rattle.call_end.specs.declared.status.Status.TheVariants as status
use Rattle.cell_run.specs.Calm.{IsCalm}
use Rattle.cell_run.specs.Headline.{CanBeDrawn, FromInputs, HasCycle, IsOrShort, IsTooHigh, OfFirstLeast, WhereMakeEnds}
use Rattle.cell_inputs.specs.declared.style.Style.{Style}
use Rattle.cell_inputs.specs.Inputs.{Inputs}
use Rattle.cell_make.proofs.Rings.{no_ring, ring_is}
use Rattle.cell_make.specs.Rows.{DrawAnswer, Draws, RowDrawn, RowCyclic, RowTall}
use Rattle.cell_make.specs.Searched.{IsUnfinished}
use Rattle.cell_commands.specs.declared.certificate.Certificate.{Certificate}
use Rattle.cell_commands.specs.declared.certificate.Certificate.TheVariants as held
use Rattle.cell_commands.specs.Certificate.{row_evidence}
use Rattle.cell_commands.specs.Make.{MakesTo}
use Rattle.cell_commands.specs.Make as made
use Rattle.cell_commands.specs.Searched.{Crowds, IsFoundBy, IsOpenBy}
use Rattle.cell_commands.specs.RowEnd.{IsRowEnd, RowEvidence}
use Rattle.call_words.specs.Words.{Form}
use Rattle.call_words.specs.declared.evidence.Evidence.{Evidence}
use Rattle.call_words.specs.declared.evidence.Evidence.TheVariants.{Log, Trails}
use Rattle.cell_run.proofs.AskedFor.{asked_told}
use Rattle.cell_run.proofs.MakeSettled.{Leaves, make_leaves_so}
use Rattle.cell_run.proofs.Worked.{Completes, IsAnswered, ends_told, settles, work_statuses}

-- ---- what it leaves, by its status

pub make_leaves : (settled : Status) (a c : View) (form : Option Form) (answer : Status) (given : Option Files) → is_among work_statuses settled ≡ true → IfSome given (IsAnswered form a c answer) → IfSome given (λ files. WhereMakeEnds files form answer settled (λ evidence style inputs out. Leaves evidence style inputs out a c settled))
make_leaves settled a c form answer given own told =
    asked_told form answer settled (λ evidence style inputs out. Leaves evidence style inputs out a c settled) given
    (ends_told Making (λ m. Leaves m.evidence m.style m.inputs m.stem a c settled) form settled answer a c given own (λ m end works is whole. subst (Leaves m.evidence m.style m.inputs m.stem a c) is (make_leaves_so m.evidence m.style m.inputs m.stem end answer a c works whole)) told)

-- ---- completeness

pub spends_less : (inputs : Inputs) (log : SearchLog) (proved : ℕ) → ForKinds inputs.fingers (λ k. enough k ≤ inputs.tech.budget) → IsUnfinished inputs proved log → ⊥
spends_less inputs log proved much (version, (k, are, some, spent)) = absurd (omega (arith, much k are some, spent.short))

-- what is found is the first least row, whatever the evidence is
pub found_first : (evidence : Evidence) (inputs : Inputs) (row : List Column) (certificate : Certificate) → IsFoundBy evidence inputs row certificate → IsFirstLeast inputs.fingers row
found_first Log inputs row (held.Log log) is = is.first
found_first Trails inputs row (held.Trails trails) is = is.first
found_first Log inputs row (held.Trails trails) is = absurd is
found_first Trails inputs row (held.Log log) is = absurd is

-- a budget that is enough is not spent, and meets no gate with too many ways
pub enough_found : (evidence : Evidence) (inputs : Inputs) (proved : ℕ) (certificate : Certificate) → HasEnough evidence inputs → IsOpenBy evidence inputs proved certificate → ⊥
enough_found Log inputs proved (held.Log log) much is = spends_less inputs log proved much is
enough_found Log inputs proved (held.Trails trails) much is = is
enough_found Trails inputs proved certificate none is = none

pub enough_pairs : (evidence : Evidence) (inputs : Inputs) (gate : NetNo) → HasEnough evidence inputs → Crowds evidence inputs gate → ⊥
enough_pairs Log inputs gate much none = none
enough_pairs Trails inputs gate none crowds = none

-- ---- a row, by how it can be drawn

pub row_draws : (style : Style) (inputs : Inputs) (out : List ℕ) (row : List Column) (told : RowEvidence) (drawing : DrawAnswer) (end : End) → CanBeDrawn style inputs row → Draws style inputs row drawing → IsRowEnd style inputs out row told drawing end → end.status ≡ status.Done
row_draws style inputs out row told (RowDrawn routing xs) end can h is = is.status
row_draws style inputs out row told (RowCyclic ring) end can h is = absurd (no_ring style.wiring (placement_of row) inputs.cell.pins ring can.acyclic (ring_is style.wiring (placement_of row) inputs.cell.pins ring h))
row_draws style inputs out row told (RowTall routing) end can h is = absurd (can.fits routing h.0 h.1)

pub row_cycles : (style : Style) (inputs : Inputs) (out : List ℕ) (row : List Column) (told : RowEvidence) (drawing : DrawAnswer) (end : End) → HasCycle style inputs row → Draws style inputs row drawing → IsRowEnd style inputs out row told drawing end → end.status ≡ status.Cycle
row_cycles style inputs out row told (RowDrawn routing xs) end (ring, is_ring) h is = absurd (no_ring style.wiring (placement_of row) inputs.cell.pins ring h.routed.acyclic is_ring)
row_cycles style inputs out row told (RowCyclic ring) end has h is = is.status
row_cycles style inputs out row told (RowTall routing) end (ring, is_ring) h is = absurd (no_ring style.wiring (placement_of row) inputs.cell.pins ring h.0.acyclic is_ring)

pub row_needs : (style : Style) (inputs : Inputs) (out : List ℕ) (row : List Column) (told : RowEvidence) (drawing : DrawAnswer) (end : End) → IsTooHigh style inputs row → Draws style inputs row drawing → IsRowEnd style inputs out row told drawing end → end.status ≡ status.TooTall
row_needs style inputs out row told (RowDrawn routing xs) end high h is = absurd (h.fits (high.tall routing h.routed))
row_needs style inputs out row told (RowCyclic ring) end high h is = absurd (no_ring style.wiring (placement_of row) inputs.cell.pins ring high.acyclic (ring_is style.wiring (placement_of row) inputs.cell.pins ring h))
row_needs style inputs out row told (RowTall routing) end high h is = is.status

-- what the end of a row settles, the end settles where the budget is enough
made_where : (Says : Style → Inputs → List Column → Type 0) (settled : Status) (evidence : Evidence) (style : Style) (inputs : Inputs) (out : List ℕ) (end : End) → ((row : List Column) (told : RowEvidence) (drawing : DrawAnswer) → Says style inputs row → Draws style inputs row drawing → IsRowEnd style inputs out row told drawing end → end.status ≡ settled) → OfFirstLeast Says evidence style inputs out → MakesTo evidence style inputs out end → end.status ≡ settled
made_where Says settled evidence style inputs out end each (much, so) (made.Made row certificate drawing, (found, h), is) = each row (row_evidence inputs.cell out certificate) drawing (so row (found_first evidence inputs row certificate found)) h is
made_where Says settled evidence style inputs out end each (much, so) (made.Open proved certificate, h, is) = absurd (enough_found evidence inputs proved certificate much h)
made_where Says settled evidence style inputs out end each (much, so) (made.Crowded gate, h, is) = absurd (enough_pairs evidence inputs gate much h)

pub draws_told : (a c : View) (form : Option Form) (answer : Status) (given : Option Files) → IfSome given (λ files. IsCalm a c → Completes form files answer) → IfSome given (λ files. IsCalm a c → FromInputs files form (OfFirstLeast CanBeDrawn) → IsOrShort status.Done answer)
draws_told a c form answer given told = settles Making (λ m. OfFirstLeast CanBeDrawn m.evidence m.style m.inputs m.stem) form status.Done answer a c given (λ m end is works. made_where CanBeDrawn status.Done m.evidence m.style m.inputs m.stem end (λ row told drawing. row_draws m.style m.inputs m.stem row told drawing end) is works) told

pub meets_told : (a c : View) (form : Option Form) (answer : Status) (given : Option Files) → IfSome given (λ files. IsCalm a c → Completes form files answer) → IfSome given (λ files. IsCalm a c → FromInputs files form (OfFirstLeast HasCycle) → IsOrShort status.Cycle answer)
meets_told a c form answer given told = settles Making (λ m. OfFirstLeast HasCycle m.evidence m.style m.inputs m.stem) form status.Cycle answer a c given (λ m end is works. made_where HasCycle status.Cycle m.evidence m.style m.inputs m.stem end (λ row told drawing. row_cycles m.style m.inputs m.stem row told drawing end) is works) told

pub needs_told : (a c : View) (form : Option Form) (answer : Status) (given : Option Files) → IfSome given (λ files. IsCalm a c → Completes form files answer) → IfSome given (λ files. IsCalm a c → FromInputs files form (OfFirstLeast IsTooHigh) → IsOrShort status.TooTall answer)
needs_told a c form answer given told = settles Making (λ m. OfFirstLeast IsTooHigh m.evidence m.style m.inputs m.stem) form status.TooTall answer a c given (λ m end is works. made_where IsTooHigh status.TooTall m.evidence m.style m.inputs m.stem end (λ row told drawing. row_needs m.style m.inputs m.stem row told drawing end) is works) told
