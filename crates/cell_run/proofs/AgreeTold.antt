-- What the top call owes of `agree`, from the end that the files call for and how it was told.
use Rattle.std.proofs.Common.{◌≡◌, ◌==◌, false, Option, IfSome, refl, sym}
use Rattle.cell_io.specs.Desk.{Files, View}
use Rattle.lef_read.specs.declared.differ.Differ.{Differ}
use Rattle.lef_read.specs.declared.differ.Differ.TheVariants.{Extract, NoLabel, Port, Bare, NoMemory as NoRoom}
use Rattle.layout_commands.proofs.Agreed.{agrees_where, disagrees_where, unextracted_where}
use Rattle.layout_commands.specs.Agree.{AgreesTo, DoesAgree, HasDifference, IsAgreeAnswer, IsDisagreement, IsUnextracted, agree_end, differ_status}
use Rattle.layout_commands.specs.declared.agreement.AgreeAnswer.{AgreeAnswer}
use Rattle.layout_commands.specs.declared.agreement.AgreeAnswer.TheVariants.{Agreed, Differs}
use Rattle.layout_commands.specs.declared.compared.Compared.{Compared}
use Rattle.call_end.specs.Deliver.{TellsWhole}
use Rattle.call_end.specs.Status.{number_of}
use Rattle.call_end.specs.declared.end.End.{End}
use Rattle.call_end.specs.declared.status.Status.{Status}
use Rattle.call_end.specs.declared.status.Status.TheVariants as status
use Rattle.call_words.specs.Words.{Form}
use Rattle.call_work.proofs.Statuses.{differ, gds_alone, lef_alone}
use Rattle.call_work.specs.Commands.{Agreeing}
use Rattle.cell_run.proofs.Worked.{Completes, IsAnswered, by_answer, ends_told, gds_status, lef_status, refused_told, refuses_told, settles}
use Rattle.cell_run.specs.Agree.{HasDisagreement, HasNoNets, IsAgree, IsAgreedCell, IsDifferingCell, IsDisagreed, IsToldOf, IsWithoutNets, OfCompared}
use Rattle.cell_run.specs.Calm.{IsCalm}
use Rattle.cell_run.specs.Ended.{IsGdsFault, IsLefFault, WhereEnds}
use Rattle.cell_run.specs.Headline.{IsOrShort}

-- ---- by status

never_done : (d : Differ) → status.Done ≡ differ_status d → ⊥
never_done (Extract f) is = differ status.Done status.Layout refl is
never_done (NoLabel name) is = differ status.Done status.Disagree refl is
never_done (Port name x y) is = differ status.Done status.Disagree refl is
never_done (Bare layer x y) is = differ status.Done status.Disagree refl is
never_done NoRoom is = differ status.Done status.Disagree refl is

agreed_so : (both : Compared) (found : AgreeAnswer) (old new : View) → IsToldOf both found old new → status.Done ≡ (agree_end both.cell found).status → IsAgreedCell both old new
agreed_so both Agreed old new told is = told
agreed_so both (Differs d) old new told is = absurd (never_done d is)

-- with another status a difference was told that has this one
differs_so : (settled : Status) → (number_of settled == number_of status.Done) ≡ false → (both : Compared) (found : AgreeAnswer) (old new : View) → IsToldOf both found old new → settled ≡ (agree_end both.cell found).status → IsDifferingCell (λ d. differ_status d ≡ settled) both old new
differs_so settled other both Agreed old new told is = absurd (differ settled status.Done other is)
differs_so settled other both (Differs d) old new told is = (d, sym is, told)

-- ---- the clauses

by_agreement : (settled answer : Status) (Is : Compared → Type 0) (a c : View) → ((both : Compared) (found : AgreeAnswer) → IsToldOf both found a c → settled ≡ (agree_end both.cell found).status → Is both) → (both : Compared) (end : End) → AgreesTo both end → answer ≡ settled → TellsWhole end answer a c → Is both
by_agreement settled answer Is a c each = by_answer IsAgreeAnswer (λ both found. agree_end both.cell found) settled answer Is a c (λ both found of said. each both found (record { is = of; says = said }))

pub agreed_told : (a c : View) (form : Option Form) (answer : Status) (given : Option Files) → IfSome given (IsAnswered form a c answer) → IfSome given (λ files. WhereEnds Agreeing files form answer status.Done (λ both. IsAgreedCell both a c))
agreed_told a c form answer given told = ends_told Agreeing (λ both. IsAgreedCell both a c) form status.Done answer a c given refl (by_agreement status.Done answer (λ both. IsAgreedCell both a c) a c (λ both found. agreed_so both found a c)) told

pub disagreed_told : (a c : View) (form : Option Form) (answer : Status) (given : Option Files) → IfSome given (IsAnswered form a c answer) → IfSome given (λ files. IsAgree form → answer ≡ status.Disagree → IsDisagreed files form a c)
disagreed_told a c form answer given told = refused_told Agreeing status.Disagree IsLefFault (λ both. IsDifferingCell IsDisagreement both a c) a c form answer given refl refl lef_alone (by_agreement status.Disagree answer (λ both. IsDifferingCell IsDisagreement both a c) a c (λ both found. differs_so status.Disagree refl both found a c)) told

pub unextracted_told : (a c : View) (form : Option Form) (answer : Status) (given : Option Files) → IfSome given (IsAnswered form a c answer) → IfSome given (λ files. IsAgree form → answer ≡ status.Layout → IsWithoutNets files form a c)
unextracted_told a c form answer given told = refused_told Agreeing status.Layout IsGdsFault (λ both. IsDifferingCell IsUnextracted both a c) a c form answer given refl refl gds_alone (by_agreement status.Layout answer (λ both. IsDifferingCell IsUnextracted both a c) a c (λ both found. differs_so status.Layout refl both found a c)) told

-- ---- completeness

pub agrees_told : (a c : View) (form : Option Form) (answer : Status) (given : Option Files) → IfSome given (λ files. IsCalm a c → Completes form files answer) → IfSome given (λ files. IsCalm a c → OfCompared files form DoesAgree → IsOrShort status.Done answer)
agrees_told a c form answer given told = settles Agreeing DoesAgree form status.Done answer a c given agrees_where told

pub disagrees_told : (a c : View) (form : Option Form) (answer : Status) (given : Option Files) → IfSome given (λ files. IsCalm a c → Completes form files answer) → IfSome given (λ files. IsCalm a c → HasDisagreement files form → IsOrShort status.Disagree answer)
disagrees_told a c form answer given told = refuses_told Agreeing status.Disagree IsLefFault (HasDifference IsDisagreement) a c form answer given lef_status disagrees_where told

pub unextracts_told : (a c : View) (form : Option Form) (answer : Status) (given : Option Files) → IfSome given (λ files. IsCalm a c → Completes form files answer) → IfSome given (λ files. IsCalm a c → HasNoNets files form → IsOrShort status.Layout answer)
unextracts_told a c form answer given told = refuses_told Agreeing status.Layout IsGdsFault (HasDifference IsUnextracted) a c form answer given gds_status unextracted_where told
