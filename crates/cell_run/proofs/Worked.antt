-- What a call over told files comes to by its own work.
use Rattle.std.proofs.Common.{◌≡◌, ◌⊎◌, ◌↔◌, true, List, [], ◌∷◌, Option, Some, None, Result, Ok, Err, IfSome, inl, inr, refl, sym, ap, ◌∙◌, subst}
use Rattle.std.specs.List.{Contains}
use Rattle.cell_io.specs.Desk.{Files, View, Both}
use Rattle.call_end.specs.declared.end.End.{End}
use Rattle.call_end.specs.declared.status.Status.{Status}
use Rattle.call_end.specs.declared.status.Status.TheVariants as status
use Rattle.call_end.specs.Deliver.{Says, TellsWhole}
use Rattle.call_words.specs.Words.{Form}
use Rattle.call_read.specs.declared.refusal.Refusal.{Refusal}
use Rattle.call_read.specs.Reading.{called}
use Rattle.call_read.specs.Sources.{held}
use Rattle.call_read.proofs.Reading.{called_comes, came_kept}
use Rattle.call_work.specs.Commands.{gathered, read_by, Kind, Material, MaterialOf, WorksTo}
use Rattle.cell_run.specs.Calm.{IsCalm}
use Rattle.cell_run.specs.Ended.{Gathers, IsGdsFault, IsLefFault, IsOfKind, IsRefusedBy, IsToldFault, WhereEnds}
use Rattle.cell_run.specs.Headline.{IsOrShort}
use Rattle.call_work.specs.Ends.{CallsFor, EndsTo, IsOfOutside, desk_statuses, is_among, refusal_status}
use Rattle.call_work.proofs.EachCommand.{gathered_keeps}
use Rattle.call_work.proofs.Gathered.{IsGathered}
use Rattle.call_work.proofs.Statuses.{among_one, are_apart, is_refusal, refusal_statuses}

-- what a call over told files owes, where it ends by its own work
abbrev pub IsAnswered : Option Form → View → View → Status → Files → Type 0
IsAnswered form old new answer files = IsOfOutside answer ⊎ ((end : End) × CallsFor files form end × TellsWhole end answer old new)

-- what a form gathers, and a file that was refused
pub gathered_so : (files : Files) (form : Option Form) (got : Result Material Refusal) → called files (gathered form) ≡ got → IsGathered form got ⊎ ((e : Refusal) × (got ≡ Err e))
gathered_so files form got is =
    elim (came_kept (λ source read. read ≡ held files source) (λ source. Contains (read_by form) source) (IsGathered form) (gathered form) (called files (gathered form)) (gathered_keeps form) (called_comes files (gathered form))) [
      | inl h ↦ inl (subst (IsGathered form) is h)
      | inr (source, there, e, may, refused) ↦ inr (e, sym is ∙ refused)
    ]

-- a material of the kind was gathered, the work on it came to an end, and this was told whole
pub record Works (files : Files) (form : Option Form) (kind : Kind) (answer : Status) (old new : View) : Type 0 where
  pub m : MaterialOf kind
  pub comes : called files (gathered form) ≡ Ok (kind, m)
  pub end : End
  pub works : WorksTo kind m end
  pub whole : TellsWhole end answer old new

-- the statuses that come of work alone: no step of reading is refused so, nor does the desk bring them about
abbrev pub work_statuses : List Status
work_statuses =
    status.Done ∷ status.Rejected ∷ status.Row ∷ status.Cycle ∷ status.Unfinished ∷ status.TooTall ∷ []

of_kind : (form : Option Form) (kind : Kind) (m : Material) → IsOfKind kind form → IsGathered form (Ok m) → m.0 ≡ kind
of_kind None kind m asks is = absurd asks
of_kind (Some form) kind m asks is = is ∙ asks

-- where a material was gathered
pub worked_on : (files : Files) (form : Option Form) (kind : Kind) (end : End) (answer : Status) (old new : View) (m : Material) → IsOfKind kind form → called files (gathered form) ≡ Ok m → IsGathered form (Ok m) ⊎ ((e : Refusal) × (Ok m ≡ Err e)) → EndsTo (Ok m) end → TellsWhole end answer old new → Works files form kind answer old new
worked_on files form kind end answer old new m asks is (inr (e, wrong)) ends whole = cc
worked_on files form kind end answer old new m asks is (inl h) ends whole =
    subst (λ (k : Kind). Works files form k answer old new) (of_kind form kind m asks h)
    (record { m = m.1; comes = is; end = end; works = ends; whole = whole })

ended : (files : Files) (form : Option Form) (kind : Kind) (end : End) (answer : Status) (old new : View) (got : Result Material Refusal) → IsOfKind kind form → is_among work_statuses answer ≡ true → called files (gathered form) ≡ got → IsGathered form got ⊎ ((e : Refusal) × (got ≡ Err e)) → EndsTo got end → TellsWhole end answer old new → Works files form kind answer old new
ended files form kind end answer old new (Err e) asks own is how ends whole =
    let same : answer ≡ refusal_status e = whole.0 ∙ ap (λ (x : End). x.status) ends in
    absurd (among_one work_statuses refusal_statuses answer refl own (subst (λ (s : Status). is_among refusal_statuses s ≡ true) (sym same) (is_refusal e)))
ended files form kind end answer old new (Ok m) asks own is how ends whole = worked_on files form kind end answer old new m asks is how ends whole

pub worked : (files : Files) (form : Option Form) (kind : Kind) (answer : Status) (old new : View) → IsOfKind kind form → is_among work_statuses answer ≡ true → IsAnswered form old new answer files → Works files form kind answer old new
worked files form kind answer old new asks own (inl outside) = absurd (among_one work_statuses desk_statuses answer refl own outside)
worked files form kind answer old new asks own (inr (end, calls, whole)) =
    ended files form kind end answer old new (called files (gathered form)) asks own refl (gathered_so files form (called files (gathered form)) refl) calls whole

-- ---- a clause of `run` of one kind and status

-- what holds where it ends with a status of work alone
pub ends_told : (kind : Kind) (Is : MaterialOf kind → Type 0) (form : Option Form) (settled answer : Status) (a c : View) (given : Option Files) → is_among work_statuses settled ≡ true → ((m : MaterialOf kind) (end : End) → WorksTo kind m end → answer ≡ settled → TellsWhole end answer a c → Is m) → IfSome given (IsAnswered form a c answer) → IfSome given (λ files. WhereEnds kind files form answer settled Is)
ends_told kind Is form settled answer a c None own each told = tt
ends_told kind Is form settled answer a c (Some files) own each told = λ asks is.
    let w = worked files form kind answer a c asks (rw is own) told in
    (w.m, w.comes, each w.m w.end w.works is w.whole)

-- the status of an end that the files call for, or memory ran out
abbrev pub Completes : Option Form → Files → Status → Type 0
Completes form files answer = ((end : End) × CallsFor files form end × (answer ≡ end.status)) ⊎ (answer ≡ status.NoMemory)

-- how it ends where so it is of the material, except where something else is
pub settles_or : (kind : Kind) (Is Else : MaterialOf kind → Type 0) (form : Option Form) (settled answer : Status)
    (a c : View) (given : Option Files)
    → ((m : MaterialOf kind) (end : End) → Is m → WorksTo kind m end → (end.status ≡ settled) ⊎ Else m)
    → IfSome given (λ files. IsCalm a c → Completes form files answer)
    → IfSome given (λ files. IsCalm a c → Gathers kind files form Is
    → IsOrShort settled answer ⊎ Gathers kind files form Else)
settles_or kind Is Else form settled answer a c None each told = tt
settles_or kind Is Else form settled answer a c (Some files) each told = λ calm (m, got, is). elim (told calm) [
  | inl (end, calls, same) ↦
      by m got end same (each m end is (subst (λ (r : Result Material Refusal). EndsTo r end) got calls))
  | inr short ↦ inl (inr short)
]
  where
    by : (m : MaterialOf kind) → called files (gathered form) ≡ Ok (kind, m) → (end : End) → answer ≡ end.status
        → (end.status ≡ settled) ⊎ Else m → IsOrShort settled answer ⊎ Gathers kind files form Else
    by m got end same (inl is) = inl (inl (same ∙ is))
    by m got end same (inr other) = inr (m, got, other)

-- it is done only where so it is of the material; and there it is, except where something else is
pub done_or : (kind : Kind) (Is Else : MaterialOf kind → Type 0) (form : Option Form) (answer : Status) (a c : View)
    (given : Option Files)
    → ((m : MaterialOf kind) (end : End) → WorksTo kind m end → end.status ≡ status.Done → Is m)
    → ((m : MaterialOf kind) (end : End) → Is m → WorksTo kind m end → (end.status ≡ status.Done) ⊎ Else m)
    → IfSome given (IsAnswered form a c answer)
    → IfSome given (λ files. IsOfKind kind form → IsOfOutside answer
    ⊎ ((answer ≡ status.Done → Gathers kind files form Is)
    × (Gathers kind files form Is → (answer ≡ status.Done) ⊎ Gathers kind files form Else)))
done_or kind Is Else form answer a c None only where_so told = tt
done_or kind Is Else form answer a c (Some files) only where_so (inl outside) = λ asks. inl outside
done_or kind Is Else form answer a c (Some files) only where_so (inr (end, calls, whole)) = λ asks. inr (
  (λ done. by done (worked files form kind answer a c asks (rw done refl) (inr (end, calls, whole)))),
  (λ (m, got, is). ends m got (where_so m end is (subst (λ (r : Result Material Refusal). EndsTo r end) got calls))),
)
  where
    by : answer ≡ status.Done → Works files form kind answer a c → Gathers kind files form Is
    by done w = (w.m, w.comes, only w.m w.end w.works (sym w.whole.0 ∙ done))

    ends : (m : MaterialOf kind) → called files (gathered form) ≡ Ok (kind, m) → (end.status ≡ status.Done) ⊎ Else m
        → (answer ≡ status.Done) ⊎ Gathers kind files form Else
    ends m got (inl done) = inl (whole.0 ∙ done)
    ends m got (inr other) = inr (m, got, other)

-- where nothing else is
surely : {A : Type 0} (kind : Kind) (files : Files) (form : Option Form) → A ⊎ Gathers kind files form (λ m. ⊥) → A
surely kind files form (inl so) = so
surely kind files form (inr (m, got, none)) = absurd none

-- how it ends where so it is of the material
pub settles : (kind : Kind) (Is : MaterialOf kind → Type 0) (form : Option Form) (settled answer : Status) (a c : View)
    (given : Option Files)
    → ((m : MaterialOf kind) (end : End) → Is m → WorksTo kind m end → end.status ≡ settled)
    → IfSome given (λ files. IsCalm a c → Completes form files answer)
    → IfSome given (λ files. IsCalm a c → Gathers kind files form Is → IsOrShort settled answer)
settles kind Is form settled answer a c None each told = tt
settles kind Is form settled answer a c (Some files) each told = λ calm gathers. surely kind files form
    (settles_or kind Is (λ m. ⊥) form settled answer a c (Some files) (λ m end is works. inl (each m end is works))
    told calm gathers)

-- it is done exactly where so it is of the material
pub done_exactly : (kind : Kind) (Is : MaterialOf kind → Type 0) (form : Option Form) (answer : Status) (a c : View)
    (given : Option Files)
    → ((m : MaterialOf kind) (end : End) → WorksTo kind m end → end.status ≡ status.Done → Is m)
    → ((m : MaterialOf kind) (end : End) → Is m → WorksTo kind m end → end.status ≡ status.Done)
    → IfSome given (IsAnswered form a c answer)
    → IfSome given (λ files. IsOfKind kind form
    → IsOfOutside answer ⊎ (answer ≡ status.Done ↔ Gathers kind files form Is))
done_exactly kind Is form answer a c None only where_so told = tt
done_exactly kind Is form answer a c (Some files) only where_so told = λ asks. elim
    (done_or kind Is (λ m. ⊥) form answer a c (Some files) only (λ m end is works. inl (where_so m end is works))
    told asks) [
      | inl outside ↦ inl outside
      | inr (holds, done) ↦ inr (holds, λ gathers. surely kind files form (done gathers))
    ]

-- ---- where a step may be refused besides

-- what was told of an answer
pub by_answer : {M A : Type 0} (IsAnswer : M → A → Type 0) (end_of : M → A → End) (settled answer : Status) (Is : M → Type 0) (a c : View) → ((m : M) (found : A) → IsAnswer m found → Both (Says (end_of m found).report) a.said c.said → settled ≡ (end_of m found).status → Is m) → (m : M) (end : End) → (found : A) × IsAnswer m found × (end ≡ end_of m found) → answer ≡ settled → TellsWhole end answer a c → Is m
by_answer IsAnswer end_of settled answer Is a c each m end (found, of, same) is whole =
    each m found of (subst (λ (e : End). Both (Says e.report) a.said c.said) same whole.2) (sym is ∙ whole.0 ∙ ap (λ (e : End). e.status) same)

-- a fault or what was found in the material was told, where both have this status
refused_so : (kind : Kind) (settled : Status) (IsFault : Refusal → Type 0) (Is : MaterialOf kind → Type 0) (files : Files) (form : Option Form) (end : End) (answer : Status) (a c : View) → ((e : Refusal) → settled ≡ refusal_status e → IsFault e) → ((m : MaterialOf kind) (end : End) → WorksTo kind m end → answer ≡ settled → TellsWhole end answer a c → Is m) → (got : Result Material Refusal) → IsOfKind kind form → answer ≡ settled → called files (gathered form) ≡ got → IsGathered form got ⊎ ((e : Refusal) × (got ≡ Err e)) → EndsTo got end → TellsWhole end answer a c → IsToldFault IsFault files form a c ⊎ Gathers kind files form Is
refused_so kind settled IsFault Is files form end answer a c by_status each (Err e) asks is got how ends whole =
    inl (record { fault = e; of = by_status e (sym is ∙ whole.0 ∙ ap (λ (x : End). x.status) ends); first = got; says = subst (λ (x : End). Both (Says x.report) a.said c.said) ends whole.2 })
refused_so kind settled IsFault Is files form end answer a c by_status each (Ok m) asks is got how ends whole = by (worked_on files form kind end answer a c m asks got how ends whole)
  where
    by : Works files form kind answer a c → IsToldFault IsFault files form a c ⊎ Gathers kind files form Is
    by w = inr (w.m, w.comes, each w.m w.end w.works is w.whole)

pub refused_told : (kind : Kind) (settled : Status) (IsFault : Refusal → Type 0) (Is : MaterialOf kind → Type 0) (a c : View) (form : Option Form) (answer : Status) (given : Option Files) → are_apart (settled ∷ []) desk_statuses ≡ true → is_among (settled ∷ []) settled ≡ true → ((e : Refusal) → settled ≡ refusal_status e → IsFault e) → ((m : MaterialOf kind) (end : End) → WorksTo kind m end → answer ≡ settled → TellsWhole end answer a c → Is m) → IfSome given (IsAnswered form a c answer) → IfSome given (λ files. IsOfKind kind form → answer ≡ settled → IsToldFault IsFault files form a c ⊎ Gathers kind files form Is)
refused_told kind settled IsFault Is a c form answer None apart own by_status each told = tt
refused_told kind settled IsFault Is a c form answer (Some files) apart own by_status each (inl outside) = λ asks is. absurd (among_one (settled ∷ []) desk_statuses answer apart (subst (λ (s : Status). is_among (settled ∷ []) s ≡ true) (sym is) own) outside)
refused_told kind settled IsFault Is a c form answer (Some files) apart own by_status each (inr (end, calls, whole)) = λ asks is.
    refused_so kind settled IsFault Is files form end answer a c by_status each (called files (gathered form)) asks is refl (gathered_so files form (called files (gathered form)) refl) calls whole

fault_settles : (settled : Status) (files : Files) (form : Option Form) (answer : Status) (e : Refusal) → refusal_status e ≡ settled → called files (gathered form) ≡ Err e → Completes form files answer → IsOrShort settled answer
fault_settles settled files form answer e is holds (inl (end, calls, same)) = inl (same ∙ ap (λ (x : End). x.status) (subst (λ (r : Result Material Refusal). EndsTo r end) holds calls) ∙ is)
fault_settles settled files form answer e is holds (inr short) = inr short

-- how it ends where such a fault comes first, or so it is of the material
pub refuses_told : (kind : Kind) (settled : Status) (IsFault : Refusal → Type 0) (Is : MaterialOf kind → Type 0) (a c : View) (form : Option Form) (answer : Status) (given : Option Files) → ((e : Refusal) → IsFault e → refusal_status e ≡ settled) → ((m : MaterialOf kind) (end : End) → Is m → WorksTo kind m end → end.status ≡ settled) → IfSome given (λ files. IsCalm a c → Completes form files answer) → IfSome given (λ files. IsCalm a c → IsRefusedBy IsFault files form ⊎ Gathers kind files form Is → IsOrShort settled answer)
refuses_told kind settled IsFault Is a c form answer None by_fault where_so told = tt
refuses_told kind settled IsFault Is a c form answer (Some files) by_fault where_so told = λ calm none. elim none [
  | inl (e, fault, holds) ↦ fault_settles settled files form answer e (by_fault e fault) holds (told calm)
  | inr gathers ↦ settles kind Is form settled answer a c (Some files) where_so told calm gathers
]

-- ---- faults of files

pub gds_status : (e : Refusal) → IsGdsFault e → refusal_status e ≡ status.Layout
gds_status e (f, is) = rw is refl

pub lef_status : (e : Refusal) → IsLefFault e → refusal_status e ≡ status.Disagree
lef_status e (f, is) = rw is refl
