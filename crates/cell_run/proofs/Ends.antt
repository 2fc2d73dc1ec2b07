-- What a call comes to, from what it gathered: which files it makes, and the refusal of a file.
use Rattle.std.proofs.Common.{ℕ, ◌≡◌, ◌⊎◌, Bool, true, false, nat_le, if◌then◌else◌, length, arith, List, [], ◌∷◌, Option, Some, None, Result, Ok, Err, Contains, inl, inr, refl, sym, ap, ◌∙◌, subst}
use Rattle.cell_io.specs.Desk.{Files, View, Rose}
use Rattle.call_end.specs.declared.end.End.{End}
use Rattle.call_work.specs.Commands.{Kind, Making, MakingFrom, MakingLow, Material, Rowing, gathered, read_by}
use Rattle.call_read.specs.declared.refusal.Refusal.{Refusal}
use Rattle.call_read.specs.declared.refusal.Refusal.TheVariants.{Unread, Long, NoMemory}
use Rattle.call_end.specs.declared.status.Status.{Status}
use Rattle.call_end.specs.declared.status.Status.TheVariants as status
use Rattle.call_end.specs.End.{says}
use Rattle.call_work.specs.Ends.{CallsFor, EndsTo, KeepsReadsOf, MayEnd, file_statuses, is_among, outside_of, refusal_status, refused, settled_of}
use Rattle.cell_run.specs.Headline.{fileless_statuses}
use Rattle.cell_run.specs.Row.{IsRow, MayMakeFiles}
use Rattle.cell_run.specs.Ended.{IsOfKind}
use Rattle.call_read.specs.Reading.{Comes, MayCome}
use Rattle.call_read.specs.Sources.{Source, MayRead, Lacks, file_name, most_bytes, within}
use Rattle.call_words.specs.Words.{Form}
use Rattle.call_work.proofs.EachCommand.{files_by, gathered_keeps}
use Rattle.call_work.proofs.EndsOf.{make_statuses}
use Rattle.call_work.proofs.Gathered.{IsGathered}
use Rattle.call_read.proofs.Reading.{came_kept, came_told}
use Rattle.call_work.proofs.Settled.{settled}
use Rattle.call_work.proofs.Statuses.{among_one}

-- what was gathered for a form, or a refusal
abbrev pub IsGatheredOrRefused : Option Form → Result Material Refusal → Type 0
IsGatheredOrRefused form got = IsGathered form got ⊎ ((e : Refusal) × (got ≡ Err e))

is_of_kind : (form : Option Form) (kind : Kind) (m : Material) → IsGathered form (Ok m) → m.0 ≡ kind → IsOfKind kind form
is_of_kind None kind m is same = absurd is
is_of_kind (Some form) kind m is same = sym is ∙ same

pub no_files : (form : Option Form) (got : Result Material Refusal) (end : End) → (MayMakeFiles form → ⊥) → IsGatheredOrRefused form got → EndsTo got end → end.files ≡ []
no_files form (Err e) end other how ends = rw ends refl
no_files form (Ok m) end other (inr (e, is)) ends = cc
no_files form (Ok m) end other (inl is) ends = elim (files_by m.0 m.1 end ends) [
  | inl none ↦ none
  | inr (inl (making, own)) ↦ absurd (other (inl (is_of_kind form Making m is making)))
  | inr (inr (inl (rowing, done))) ↦ absurd (other (inr (inl (is_of_kind form Rowing m is rowing))))
  | inr (inr (inr (inl (from, done)))) ↦ absurd (other (inr (inr (inl (is_of_kind form MakingFrom m is from)))))
  | inr (inr (inr (inr (low, own)))) ↦ absurd (other (inr (inr (inr (is_of_kind form MakingLow m is low)))))
]

-- a row makes a file where it is done, and none else
pub row_files : (form : Option Form) (got : Result Material Refusal) (end : End) → IsRow form → IsGatheredOrRefused form got → EndsTo got end → (end.files ≡ []) ⊎ (end.status ≡ status.Done)
row_files form (Err e) end row how ends = inl (rw ends refl)
row_files form (Ok m) end row (inr (e, is)) ends = cc
row_files form (Ok m) end row (inl is) ends = elim (files_by m.0 m.1 end ends) [
  | inl none ↦ inl none
  | inr (inl (making, own)) ↦ absurd (no_row form m Making row is making (λ clash. cc))
  | inr (inr (inl (rowing, done))) ↦ inr done
  | inr (inr (inr (inl (from, done)))) ↦ inr done
  | inr (inr (inr (inr (low, own)))) ↦ absurd (no_row form m MakingLow row is low (λ clash. cc))
]
  where
    no_row : (form : Option Form) (m : Material) (kind : Kind) → IsRow form → IsGathered form (Ok m) → m.0 ≡ kind → (Rowing ≡ kind → ⊥) → ⊥
    no_row None m kind row is of apart = is
    no_row (Some form) m kind row is of apart = apart (sym row ∙ sym is ∙ of)

pub none_alone : (got : Result Material Refusal) (end : End) → EndsTo got end → is_among (status.NoMemory ∷ fileless_statuses) end.status ≡ true → end.files ≡ []
none_alone (Err e) end ends none = ap (λ (x : End). x.files) ends
none_alone (Ok m) end ends none = elim (files_by m.0 m.1 end ends) [
  | inl alone ↦ alone
  | inr (inl (making, own)) ↦ absurd (among_one (status.NoMemory ∷ fileless_statuses) make_statuses end.status refl none own)
  | inr (inr (inl (rowing, done))) ↦ absurd (not_done done)
  | inr (inr (inr (inl (from, done)))) ↦ absurd (not_done done)
  | inr (inr (inr (inr (low, own)))) ↦ absurd (among_one (status.NoMemory ∷ fileless_statuses) make_statuses end.status refl none own)
]
  where
    not_done : end.status ≡ status.Done → ⊥
    not_done done = among_one (status.NoMemory ∷ fileless_statuses) (status.Done ∷ []) end.status refl none (rw done refl)

-- how a call comes to what it gathers
pub came_gathered : (old new : View) (form : Option Form) (got : Result Material Refusal) → MayCome old new (gathered form) got → IsGatheredOrRefused form got
came_gathered old new form got (inr short) = inr (NoMemory, short)
came_gathered old new form got (inl came) = elim (came_kept (MayRead old.given (Rose old.read_faults new.read_faults)) (λ source. Contains (read_by form) source) (IsGathered form) (gathered form) got (gathered_keeps form) came) [
  | inl is ↦ inl is
  | inr (source, there, e, may, is) ↦ inr (e, is)
]

-- ---- by a file

abbrev pub IsFileFault : Refusal → Type 0
IsFileFault e = (refusal_status e ≡ status.ReadFault) ⊎ (refusal_status e ≡ status.TooLong)

within_fault : (name : List ℕ) (most : ℕ) (content : Option (List ℕ)) (e : Refusal) → Err e ≡ within name most content → IsFileFault e
within_fault name most None e is =
    let same : e ≡ Unread name = cc in
    inl (rw same refl)
within_fault name most (Some bytes) e is = by (nat_le (length bytes) most) is
  where
    by : (few : Bool) → ◌≡◌ {A = Result (List ℕ) Refusal} (Err e) (if few then Ok bytes else Err (Long name)) → IsFileFault e
    by true is = cc
    by false is =
        let same : e ≡ Long name = cc in
        inr (rw same refl)

file_fault : (given : Option Files) (failed : Type 0) (source : Source) (e : Refusal) → MayRead given failed source (Err e) → IsFileFault e
file_fault None failed source e (inl is) = inr (rw is refl)
file_fault None failed source e (inr (faulty, is)) = inl (rw is refl)
file_fault (Some files) failed source e (inl is) = within_fault (file_name source) (most_bytes source) (files (file_name source)) e is
file_fault (Some files) failed source e (inr (faulty, is)) =
    let same : e ≡ Unread (file_name source) = cc in
    inl (rw same refl)

held_cause : (sources : List Source) (files : Files) (source : Source) (content : Option (List ℕ)) (e : Refusal) → Contains sources source → files (file_name source) ≡ content → Err e ≡ within (file_name source) (most_bytes source) content → refusal_status e ≡ status.ReadFault → Lacks (Some files) sources
held_cause sources files source None e there lacks is read = (source, there, rw lacks refl)
held_cause sources files source (Some bytes) e there holds is read = by (nat_le (length bytes) (most_bytes source)) is
  where
    by : (few : Bool) → ◌≡◌ {A = Result (List ℕ) Refusal} (Err e) (if few then Ok bytes else Err (Long (file_name source))) → Lacks (Some files) sources
    by true is = cc
    by false is =
        let same : e ≡ Long (file_name source) = cc in
        let long : status.ReadFault ≡ status.TooLong = sym read ∙ ap refusal_status same in
        cc

-- a file is unread because reading failed, or because it is not there
file_cause : (given : Option Files) (failed : Type 0) (sources : List Source) (source : Source) (e : Refusal) → Contains sources source → MayRead given failed source (Err e) → refusal_status e ≡ status.ReadFault → failed ⊎ Lacks given sources
file_cause None failed sources source e there (inl is) read =
    let long : status.ReadFault ≡ status.TooLong = sym read ∙ ap refusal_status is in
    cc
file_cause None failed sources source e there (inr (faulty, is)) read = inl faulty
file_cause (Some files) failed sources source e there (inr (faulty, is)) read = inl faulty
file_cause (Some files) failed sources source e there (inl is) read = inr (held_cause sources files source (files (file_name source)) e there refl is read)

-- ---- the end of a call

-- a file of the form was refused
pub record IsByFile (old new : View) (form : Option Form) (end : End) : Type 0 where
  pub source : Source
  pub e : Refusal
  pub there : Contains (read_by form) source
  pub may : MayRead old.given (Rose old.read_faults new.read_faults) source (Err e)
  pub ends : end ≡ refused e

pub end_cases : (old new : View) (form : Option Form) (end : End) → MayEnd old new form end → (is_among (settled_of form) end.status ≡ true) ⊎ IsByFile old new form end ⊎ (end ≡ refused NoMemory)
end_cases old new form end (got, inr short, ends) = inr (inr (subst (λ (r : Result Material Refusal). EndsTo r end) short ends))
end_cases old new form end (got, inl came, ends) =
    elim (came_kept (MayRead old.given (Rose old.read_faults new.read_faults)) (λ source. Contains (read_by form) source) (IsGathered form) (gathered form) got (gathered_keeps form) came) [
      | inl is ↦ inl (settled form got end is ends)
      | inr (source, there, e, may, is) ↦ inr (inl (record { source = source; e = e; there = there; may = may; ends = subst (λ (r : Result Material Refusal). EndsTo r end) is ends }))
    ]

pub file_status : (old new : View) (form : Option Form) (end : End) → IsByFile old new form end → (end.status ≡ status.ReadFault) ⊎ (end.status ≡ status.TooLong)
file_status old new form end h = elim (file_fault old.given (Rose old.read_faults new.read_faults) h.source h.e h.may) [
  | inl read ↦ inl (ap (λ (x : End). x.status) h.ends ∙ read)
  | inr long ↦ inr (ap (λ (x : End). x.status) h.ends ∙ long)
]

pub file_unread : (old new : View) (form : Option Form) (end : End) → IsByFile old new form end → end.status ≡ status.ReadFault → Rose old.read_faults new.read_faults ⊎ Lacks old.given (read_by form)
file_unread old new form end h read = file_cause old.given (Rose old.read_faults new.read_faults) (read_by form) h.source h.e h.there h.may (sym (ap (λ (x : End). x.status) h.ends) ∙ read)

-- a file that is not read, or is too long, is of the outside where files are read
by_files : (sources : List Source) (source : Source) (answer : Status) → Contains sources source → (answer ≡ status.ReadFault) ⊎ (answer ≡ status.TooLong) → is_among (status.WriteFault ∷ status.NoMemory ∷ file_statuses sources) answer ≡ true
by_files [] source answer there is = absurd (omega (arith, there.1))
by_files (first ∷ later) source answer there (inl read) = rw read refl
by_files (first ∷ later) source answer there (inr long) = rw long refl

pub file_outside : (old new : View) (form : Option Form) (end : End) → IsByFile old new form end → is_among (outside_of form) end.status ≡ true
file_outside old new form end h = by_files (read_by form) h.source end.status h.there (file_status old new form end h)

-- over told files: what they call for, or reading failed, or memory ran out
pub end_told : (files : Files) (old new : View) (form : Option Form) (end : End) → old.given ≡ Some files → MayEnd old new form end → CallsFor files form end ⊎ (Rose old.read_faults new.read_faults × (end.status ≡ status.ReadFault)) ⊎ (end.status ≡ status.NoMemory)
end_told files old new form end told (got, inr short, ends) =
    let none : end ≡ refused NoMemory = subst (λ (r : Result Material Refusal). EndsTo r end) short ends in
    inr (inr (ap (λ (x : End). x.status) none))
end_told files old new form end told (got, inl came, ends) =
    elim (came_told files (Rose old.read_faults new.read_faults) (gathered form) got (subst (λ (given : Option Files). Comes (MayRead given (Rose old.read_faults new.read_faults)) (gathered form) got) told came)) [
      | inl same ↦ inl (subst (λ (r : Result Material Refusal). EndsTo r end) same ends)
      | inr (failed, (name, is)) ↦
          let unread : end ≡ refused (Unread name) = subst (λ (r : Result Material Refusal). EndsTo r end) is ends in
          inr (inl (failed, ap (λ (x : End). x.status) unread))
    ]

-- where memory ran out, the call ends without a word
pub short_end : (old new : View) (form : Option Form) (end : End) → end ≡ says status.NoMemory [] → MayEnd old new form end
short_end old new form end is = (Err NoMemory, inr refl, is)

pub short_reads : (old new : View) (end : End) → end ≡ says status.NoMemory [] → KeepsReadsOf old new end
short_reads old new end is = λ other. absurd (other (rw is refl))
