-- What the top call owes of `plan` and `check`, from the end that the files call for and how it was told.
use Rattle.std.proofs.Common.{ℕ, ◌≡◌, ◌⊎◌, List, Option, IfSome, inl, inr, refl, sym, ap, ◌∙◌, subst}
use Rattle.cell_io.specs.Desk.{Files, View, Both}
use Rattle.call_end.specs.Deliver.{Says, TellsWhole}
use Rattle.call_end.specs.declared.end.End.{End}
use Rattle.call_end.specs.declared.status.Status.{Status}
use Rattle.call_end.specs.declared.status.Status.TheVariants as status
use Rattle.call_words.specs.Words.{Form}
use Rattle.call_words.specs.declared.evidence.Evidence.{Evidence}
use Rattle.call_words.specs.declared.evidence.Evidence.TheVariants.{Log, Trails}
use Rattle.call_work.proofs.Statuses.{differ}
use Rattle.call_work.specs.Commands.{Checking, Planning}
use Rattle.call_work.specs.Ends.{IsOfOutside}
use Rattle.cell_commands.specs.Given.{ChecksBy}
use Rattle.cell_inputs.specs.Inputs.{Inputs}
use Rattle.cell_commands.proofs.Checked as log
use Rattle.cell_commands.specs.declared.certificate.Certificate.{Certificate}
use Rattle.cell_commands.specs.declared.certificate.Certificate.TheVariants as held
use Rattle.cell_commands.specs.Plan.{PlansTo, Planned, Open, Crowded, plan_end}
use Rattle.cell_commands.specs.Searched.{IsFoundBy, IsOpenBy}
use Rattle.row_model.specs.declared.column.Column.{Column}
use Rattle.cell_run.proofs.MakeTold.{enough_found, enough_pairs}
use Rattle.cell_run.proofs.Worked.{Completes, IsAnswered, done_or, ends_told, settles, settles_or}
use Rattle.cell_run.specs.Calm.{IsCalm, IsDoneOrShort}
use Rattle.cell_run.specs.Check.{HoldsAccepted, HoldsCrowded, IsCheck, IsDoneWhereHeld}
use Rattle.cell_run.specs.Evidence.{HasEnough, IsTextOfAccepted, IsTextOfCrowded}
use Rattle.cell_run.specs.Plan.{CanBePlanned, IsOpenSearch, IsPlannedRow, IsUnplanned, WherePlanEnds}
use Rattle.cell_commands.proofs.TrailChecked as trails

-- ---- plan

said_so : (end other : End) (old new : View) → end ≡ other → Both (Says end.report) old.said new.said → Both (Says other.report) old.said new.said
said_so end other old new is said = subst (λ (e : End). Both (Says e.report) old.said new.said) is said

ended_so : (settled answer : Status) (end other : End) → answer ≡ settled → answer ≡ end.status → end ≡ other → settled ≡ other.status
ended_so settled answer end other is same ends = sym is ∙ same ∙ ap (λ (e : End). e.status) ends

found_so : (evidence : Evidence) (inputs : Inputs) (row : List Column) (certificate : Certificate) (end : End) (old new : View) → IsFoundBy evidence inputs row certificate → end ≡ plan_end inputs (Planned row certificate) → Both (Says end.report) old.said new.said → IsPlannedRow evidence inputs old new
found_so Log inputs row (held.Log log) end old new found is said =
    record { row = row; certificate = log; first_least = found.first; certified = found.certified; says = said_so end _ old new is said }
found_so Trails inputs row (held.Trails trails) end old new found is said =
    record { row = row; certificate = trails; first_least = found.first; certified = found.certified; says = said_so end _ old new is said }
found_so Log inputs row (held.Trails trails) end old new found is said = absurd found
found_so Trails inputs row (held.Log log) end old new found is said = absurd found

spent_so : (evidence : Evidence) (inputs : Inputs) (proved : ℕ) (certificate : Certificate) (end : End) (old new : View) → IsOpenBy evidence inputs proved certificate → end ≡ plan_end inputs (Open proved certificate) → Both (Says end.report) old.said new.said → IsOpenSearch evidence inputs old new
spent_so Log inputs proved (held.Log log) end old new h is said = record { proved = proved; certificate = log; proves = h; says = said_so end _ old new is said }
spent_so Trails inputs proved (held.Trails trails) end old new h is said = record { proved = proved; certificate = trails; proves = h; says = said_so end _ old new is said }
spent_so Log inputs proved (held.Trails trails) end old new h is said = absurd h
spent_so Trails inputs proved (held.Log log) end old new h is said = absurd h

planned_so : (evidence : Evidence) (inputs : Inputs) (end : End) (answer : Status) (old new : View) → PlansTo evidence inputs end → answer ≡ status.Done → TellsWhole end answer old new → IsPlannedRow evidence inputs old new
planned_so evidence inputs end answer old new (Planned row certificate, found, is) done whole = found_so evidence inputs row certificate end old new found is whole.2
planned_so evidence inputs end answer old new (Open proved certificate, h, is) done whole = absurd (differ status.Done status.Unfinished refl (ended_so status.Done answer end _ done whole.0 is))
planned_so evidence inputs end answer old new (Crowded gate, h, is) done whole = absurd (differ status.Done status.Unfinished refl (ended_so status.Done answer end _ done whole.0 is))

unplanned_so : (evidence : Evidence) (inputs : Inputs) (end : End) (answer : Status) (old new : View) → PlansTo evidence inputs end → answer ≡ status.Unfinished → TellsWhole end answer old new → IsUnplanned evidence inputs old new
unplanned_so evidence inputs end answer old new (Open proved certificate, h, is) spent whole = inl (spent_so evidence inputs proved certificate end old new h is whole.2)
unplanned_so evidence inputs end answer old new (Crowded gate, h, is) spent whole = inr (record { gate = gate; crowded = h; says = said_so end _ old new is whole.2 })
unplanned_so evidence inputs end answer old new (Planned row certificate, found, is) spent whole = absurd (differ status.Unfinished status.Done refl (ended_so status.Unfinished answer end _ spent whole.0 is))

pub planned_told : (a c : View) (form : Option Form) (answer : Status) (given : Option Files) → IfSome given (IsAnswered form a c answer) → IfSome given (λ files. WherePlanEnds files form answer status.Done (λ evidence inputs. IsPlannedRow evidence inputs a c))
planned_told a c form answer given told = ends_told Planning (λ m. IsPlannedRow m.evidence m.inputs a c) form status.Done answer a c given refl (λ m end works is whole. planned_so m.evidence m.inputs end answer a c works is whole) told

pub unplanned_told : (a c : View) (form : Option Form) (answer : Status) (given : Option Files) → IfSome given (IsAnswered form a c answer) → IfSome given (λ files. WherePlanEnds files form answer status.Unfinished (λ evidence inputs. IsUnplanned evidence inputs a c))
unplanned_told a c form answer given told = ends_told Planning (λ m. IsUnplanned m.evidence m.inputs a c) form status.Unfinished answer a c given refl (λ m end works is whole. unplanned_so m.evidence m.inputs end answer a c works is whole) told

enough_plans : (evidence : Evidence) (inputs : Inputs) (end : End) → HasEnough evidence inputs → PlansTo evidence inputs end → end.status ≡ status.Done
enough_plans evidence inputs end much (Planned row certificate, found, is) = rw is refl
enough_plans evidence inputs end much (Open proved certificate, h, is) = absurd (enough_found evidence inputs proved certificate much h)
enough_plans evidence inputs end much (Crowded gate, h, is) = absurd (enough_pairs evidence inputs gate much h)

pub plans_told : (a c : View) (form : Option Form) (answer : Status) (given : Option Files) → IfSome given (λ files. IsCalm a c → Completes form files answer) → IfSome given (λ files. IsCalm a c → CanBePlanned files form → IsDoneOrShort answer)
plans_told a c form answer given told = settles Planning (λ m. HasEnough m.evidence m.inputs) form status.Done answer a c given (λ m end much works. enough_plans m.evidence m.inputs end much works) told

-- ---- check

done_holds : (evidence : Evidence) (inputs : Inputs) (bytes : List ℕ) (end : End) → ChecksBy evidence inputs bytes end → end.status ≡ status.Done → IsTextOfAccepted evidence inputs bytes
done_holds Log inputs bytes end works done = log.done_holds inputs bytes end works done
done_holds Trails inputs bytes end works done = trails.done_holds inputs bytes end works done

pub holds_done : (evidence : Evidence) (inputs : Inputs) (bytes : List ℕ) (end : End)
    → IsTextOfAccepted evidence inputs bytes → ChecksBy evidence inputs bytes end
    → (end.status ≡ status.Done) ⊎ IsTextOfCrowded evidence inputs bytes
holds_done Log inputs bytes end (gaps, lemmas, text) works =
    inl (log.holds_done inputs bytes end gaps lemmas text works)
holds_done Trails inputs bytes end holds works = trails.holds_done inputs bytes end holds works

pub checked_told : (a c : View) (form : Option Form) (answer : Status) (given : Option Files)
    → IfSome given (IsAnswered form a c answer)
    → IfSome given (λ files. IsCheck form → IsOfOutside answer ⊎ IsDoneWhereHeld files form answer)
checked_told a c form answer given told =
    done_or Checking (λ m. IsTextOfAccepted m.evidence m.inputs m.bytes)
    (λ m. IsTextOfCrowded m.evidence m.inputs m.bytes) form answer a c given
    (λ m end works done. done_holds m.evidence m.inputs m.bytes end works done)
    (λ m end holds works. holds_done m.evidence m.inputs m.bytes end holds works) told

pub accepts_told : (a c : View) (form : Option Form) (answer : Status) (given : Option Files)
    → IfSome given (λ files. IsCalm a c → Completes form files answer)
    → IfSome given (λ files. IsCalm a c → HoldsAccepted files form → IsDoneOrShort answer ⊎ HoldsCrowded files form)
accepts_told a c form answer given told =
    settles_or Checking (λ m. IsTextOfAccepted m.evidence m.inputs m.bytes)
    (λ m. IsTextOfCrowded m.evidence m.inputs m.bytes) form status.Done answer a c given
    (λ m end holds works. holds_done m.evidence m.inputs m.bytes end holds works) told
