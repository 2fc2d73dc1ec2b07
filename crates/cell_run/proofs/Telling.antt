-- What the top call owes of its answer, from the end that it came to and how this was told.
use Rattle.std.proofs.Common.{ℕ, ◌≡◌, ◌⊎◌, ◌||◌, Bool, true, false, List, [], Option, Some, None, IfSome, IsNone, inl, inr, refl, sym, ap, ◌∙◌, subst, arith}
use Rattle.std.proofs.lemmas.List.{append-nil}
use Rattle.cell_io.specs.Desk.{Files, View, Both, ForSome, AddsPart, OnlyReads, Rose}
use Rattle.call_end.specs.declared.end.End.{End}
use Rattle.call_end.specs.declared.end.Output.{Output}
use Rattle.call_work.specs.Commands.{gathered, read_by}
use Rattle.call_end.specs.declared.status.Status.{Status}
use Rattle.call_end.specs.declared.status.Status.TheVariants as status
use Rattle.cell_run.specs.Calm.{IsCalm}
use Rattle.call_end.specs.Deliver.{CreatesAll, CreatesFront, GivesUp, MakesAll, MakesSome, OnlyTells, Says, Tells, TellsSome, TellsWhole}
use Rattle.call_work.specs.Ends.{CallsFor, IsOfOutside, KeepsReadsOf, MayEnd, desk_statuses, is_among, is_status_of, outside_of, settled_of}
use Rattle.cell_run.specs.Row.{IsRow, MayLeaveFile, MayMakeFiles}
use Rattle.call_read.specs.Sources.{Lacks}
use Rattle.call_words.specs.Words.{Form}
use Rattle.call_end.proofs.Delivered.{none_begun, none_made}
use Rattle.call_read.proofs.Desks.{came_between}
use Rattle.cell_run.proofs.Ends.{came_gathered, end_cases, end_told, file_outside, file_status, file_unread, no_files, row_files}
use Rattle.call_work.proofs.Settled.{not_of_desk, usage_alone}
use Rattle.cell_run.proofs.Worked.{Completes}

-- ---- the whole call

-- it came to some end, and this was told
abbrev pub Answers : View → View → Option Form → Status → Type 0
Answers old new form answer = (end : End) × MayEnd old new form end × Tells end answer old new

tells_before : (end : End) (answer : Status) (a b c : View) → OnlyReads a b → Tells end answer b c → Tells end answer a c
tells_before end answer a b c x (inl (is, made, said, created)) =
    inl (is, subst (λ (m : Option Files). Both (MakesAll end.files) m c.made) x.made made, subst (λ (s : Option (List ℕ)). Both (Says end.report) s c.said) x.said said, subst (λ (n : Option (List (List ℕ))). Both (CreatesAll end.files) n c.created) x.created created)
tells_before end answer a b c x (inr (up, some)) = inr (gives up, tells some)
  where
    gives : GivesUp answer b c → GivesUp answer a c
    gives (inl (is, rose)) = inl (is, subst (λ n. Rose n c.write_faults) x.writes rose)
    gives (inr (is, rose)) = inr (is, subst (λ n. Rose n c.shorts) x.shorts rose)

    tells : TellsSome end b c → TellsSome end a c
    tells (inl (made, same, created)) = inl (subst (λ (m : Option Files). Both (MakesSome end.files) m c.made) x.made made, same ∙ x.said, subst (λ (n : Option (List (List ℕ))). Both (CreatesFront end.files) n c.created) x.created created)
    tells (inr (made, said, created)) = inr (subst (λ (m : Option Files). Both (MakesAll end.files) m c.made) x.made made, subst (λ (s : Option (List ℕ)). Both (ForSome end.report (AddsPart end.report)) s c.said) x.said said, subst (λ (n : Option (List (List ℕ))). Both (CreatesAll end.files) n c.created) x.created created)

pub answers : (a b c : View) (form : Option Form) (end : End) (answer : Status) → OnlyReads a b → OnlyTells b c → MayEnd a b form end → Tells end answer b c → Answers a c form answer
answers a b c form end answer x y (got, inl came, ends) tells =
    (end, (got, inl (came_between a a b c (gathered form) got refl (omega arith) (omega (arith, y.reads)) came), ends), tells_before end answer a b c x tells)
answers a b c form end answer x y (got, inr short, ends) tells = (end, (got, inr short, ends), tells_before end answer a b c x tells)

-- no reading failed, nor does telling the end read
pub same_reads_told : (a b c : View) (end : End) (answer : Status) → KeepsReadsOf a b end → OnlyTells b c → Tells end answer b c → (IsOfOutside answer → ⊥) → c.read_faults ≡ a.read_faults
same_reads_told a b c end answer kept only (inl (is, made, said, created)) other = only.reads ∙ kept (λ outside. other (subst IsOfOutside (sym is) outside))
same_reads_told a b c end answer kept only (inr (inl (is, rose), some)) other = absurd (other (rw is refl))
same_reads_told a b c end answer kept only (inr (inr (is, rose), some)) other = absurd (other (rw is refl))

-- ---- files that are told

pub called_for_told : (a c : View) (form : Option Form) (answer : Status) (given : Option Files) → a.given ≡ given → Answers a c form answer → IfSome given (λ files. IsOfOutside answer ⊎ ((end : End) × CallsFor files form end × TellsWhole end answer a c))
called_for_told a c form answer None is h = tt
called_for_told a c form answer (Some files) is (end, may, inr (inl (told, rose), some)) = inl (rw told refl)
called_for_told a c form answer (Some files) is (end, may, inr (inr (told, rose), some)) = inl (rw told refl)
called_for_told a c form answer (Some files) is (end, may, inl whole) = elim (end_told files a c form end is may) [
  | inl calls ↦ inr (end, calls, whole)
  | inr (inl (rose, read)) ↦
      let same : answer ≡ status.ReadFault = whole.0 ∙ read in
      inl (rw same refl)
  | inr (inr short) ↦
      let same : answer ≡ status.NoMemory = whole.0 ∙ short in
      inl (rw same refl)
]

pub completes_told : (a c : View) (form : Option Form) (answer : Status) (given : Option Files) → a.given ≡ given → Answers a c form answer → IfSome given (λ files. IsCalm a c → Completes form files answer)
completes_told a c form answer None is h = tt
completes_told a c form answer (Some files) is (end, may, inr (inl (told, rose), some)) = λ calm. absurd (calm.writes rose)
completes_told a c form answer (Some files) is (end, may, inr (inr (told, rose), some)) = λ calm. inr told
completes_told a c form answer (Some files) is (end, may, inl whole) = λ calm. elim (end_told files a c form end is may) [
  | inl calls ↦ inl (end, calls, whole.0)
  | inr (inl (rose, read)) ↦ absurd (calm.reads rose)
  | inr (inr short) ↦ inr (whole.0 ∙ short)
]

-- ---- causes

pub or_so : (x y : Bool) → y ≡ true → (x || y) ≡ true
or_so true y is = refl
or_so false y is = is

-- why a call answers as it does: its form settles it, a file was refused, writing failed, or memory ran out
data Cause (a c : View) (form : Option Form) (answer : Status) : Type 0 where
  Settled : is_among (settled_of form) answer ≡ true → Cause a c form answer
  ByFile : is_among (outside_of form) answer ≡ true → (answer ≡ status.ReadFault) ⊎ (answer ≡ status.TooLong) → (answer ≡ status.ReadFault → Rose a.read_faults c.read_faults ⊎ Lacks a.given (read_by form)) → Cause a c form answer
  ByWriting : answer ≡ status.WriteFault → Rose a.write_faults c.write_faults → Cause a c form answer
  ByMemory : answer ≡ status.NoMemory → Rose a.shorts c.shorts ⊎ (c.said ≡ a.said) → Cause a c form answer

nothing_said : (before after : Option (List ℕ)) → Both (Says []) before after → after ≡ before
nothing_said None None h = refl
nothing_said (Some x) (Some y) h = ap (λ (t : List ℕ). Some t) (h ∙ append-nil x)
nothing_said None (Some y) h = absurd h
nothing_said (Some x) None h = absurd h

cause_of : (a c : View) (form : Option Form) (answer : Status) → Answers a c form answer → Cause a c form answer
cause_of a c form answer (end, may, inr (inl (told, rose), some)) = ByWriting told rose
cause_of a c form answer (end, may, inr (inr (told, rose), some)) = ByMemory told (inl rose)
cause_of a c form answer (end, may, inl (is, made, said, created)) = elim (end_cases a c form end may) [
  | inl h ↦ Settled (subst (λ (s : Status). is_among (settled_of form) s ≡ true) (sym is) h)
  | inr (inl file) ↦
      ByFile (subst (λ (s : Status). is_among (outside_of form) s ≡ true) (sym is) (file_outside a c form end file))
      (subst (λ (s : Status). (s ≡ status.ReadFault) ⊎ (s ≡ status.TooLong)) (sym is) (file_status a c form end file))
      (λ read. file_unread a c form end file (sym is ∙ read))
  | inr (inr none) ↦ ByMemory (is ∙ ap (λ (x : End). x.status) none) (inr (nothing_said a.said c.said (subst (λ (x : End). Both (Says x.report) a.said c.said) none said)))
]

-- no form settles for a status of the desk
not_settled : (form : Option Form) (answer other : Status) → is_among (settled_of form) answer ≡ true → answer ≡ other → is_among desk_statuses other ≡ true → ⊥
not_settled form answer other settles is desk = not_of_desk form answer settles (subst (λ (s : Status). is_among desk_statuses s ≡ true) (sym is) desk)

usage_cause : (a c : View) (form : Option Form) (answer : Status) → Cause a c form answer → answer ≡ status.Usage → IsNone form
usage_cause a c form answer (Settled h) is = usage_alone form (subst (λ (s : Status). is_among (settled_of form) s ≡ true) is h)
usage_cause a c form answer (ByFile h (inl read) cause) is = cc
usage_cause a c form answer (ByFile h (inr long) cause) is = cc
usage_cause a c form answer (ByWriting told rose) is = cc
usage_cause a c form answer (ByMemory told why) is = cc

read_cause : (a c : View) (form : Option Form) (answer : Status) → Cause a c form answer → answer ≡ status.ReadFault → Rose a.read_faults c.read_faults ⊎ Lacks a.given (read_by form)
read_cause a c form answer (Settled h) is = absurd (not_settled form answer status.ReadFault h is refl)
read_cause a c form answer (ByFile h kind cause) is = cause is
read_cause a c form answer (ByWriting told rose) is = cc
read_cause a c form answer (ByMemory told why) is = cc

write_cause : (a c : View) (form : Option Form) (answer : Status) → Cause a c form answer → answer ≡ status.WriteFault → Rose a.write_faults c.write_faults
write_cause a c form answer (Settled h) is = absurd (not_settled form answer status.WriteFault h is refl)
write_cause a c form answer (ByFile h (inl read) cause) is = cc
write_cause a c form answer (ByFile h (inr long) cause) is = cc
write_cause a c form answer (ByWriting told rose) is = rose
write_cause a c form answer (ByMemory told why) is = cc

memory_cause : (a c : View) (form : Option Form) (answer : Status) → Cause a c form answer → answer ≡ status.NoMemory → Rose a.shorts c.shorts ⊎ (c.said ≡ a.said)
memory_cause a c form answer (Settled h) is = absurd (not_settled form answer status.NoMemory h is refl)
memory_cause a c form answer (ByFile h (inl read) cause) is = cc
memory_cause a c form answer (ByFile h (inr long) cause) is = cc
memory_cause a c form answer (ByWriting told rose) is = cc
memory_cause a c form answer (ByMemory told why) is = why

status_cause : (a c : View) (form : Option Form) (answer : Status) → Cause a c form answer → is_status_of form answer ≡ true
status_cause a c form answer (Settled h) = rw h refl
status_cause a c form answer (ByFile h kind cause) = or_so (is_among (settled_of form) answer) (is_among (outside_of form) answer) h
status_cause a c form answer (ByWriting told rose) = rw told (or_so (is_among (settled_of form) status.WriteFault) true refl)
status_cause a c form answer (ByMemory told why) = rw told (or_so (is_among (settled_of form) status.NoMemory) true refl)

pub usage_told : (a c : View) (form : Option Form) (answer : Status) → Answers a c form answer → answer ≡ status.Usage → IsNone form
usage_told a c form answer h = usage_cause a c form answer (cause_of a c form answer h)

pub read_told : (a c : View) (form : Option Form) (answer : Status) → Answers a c form answer → answer ≡ status.ReadFault → Rose a.read_faults c.read_faults ⊎ Lacks a.given (read_by form)
read_told a c form answer h = read_cause a c form answer (cause_of a c form answer h)

pub write_told : (a c : View) (form : Option Form) (answer : Status) → Answers a c form answer → answer ≡ status.WriteFault → Rose a.write_faults c.write_faults
write_told a c form answer h = write_cause a c form answer (cause_of a c form answer h)

pub memory_told : (a c : View) (form : Option Form) (answer : Status) → Answers a c form answer → answer ≡ status.NoMemory → Rose a.shorts c.shorts ⊎ (c.said ≡ a.said)
memory_told a c form answer h = memory_cause a c form answer (cause_of a c form answer h)

pub status_told : (a c : View) (form : Option Form) (answer : Status) → Answers a c form answer → is_status_of form answer ≡ true
status_told a c form answer h = status_cause a c form answer (cause_of a c form answer h)

-- `make` and `row` alone make files
none_told_so : (a c : View) (end : End) (answer : Status) → end.files ≡ [] → Tells end answer a c → c.made ≡ a.made
none_told_so a c end answer none (inl (is, made, said, created)) = none_made a.made c.made (subst (λ (files : List Output). Both (MakesAll files) a.made c.made) none made)
none_told_so a c end answer none (inr (up, inl (made, said, created))) = none_begun a.made c.made (subst (λ (files : List Output). Both (MakesSome files) a.made c.made) none made)
none_told_so a c end answer none (inr (up, inr (made, said, created))) = none_made a.made c.made (subst (λ (files : List Output). Both (MakesAll files) a.made c.made) none made)

pub made_told : (a c : View) (form : Option Form) (answer : Status) → Answers a c form answer → (MayMakeFiles form → ⊥) → c.made ≡ a.made
made_told a c form answer (end, (got, came, ends), tells) other = none_told_so a c end answer (no_files form got end other (came_gathered a c form got came) ends) tells

pub alone_told : (a c : View) (form : Option Form) (answer : Status) → Answers a c form answer → IsRow form → MayLeaveFile answer ⊎ (c.made ≡ a.made)
alone_told a c form answer (end, (got, came, ends), inr (inl (is, rose), some)) row = inl (rw is refl)
alone_told a c form answer (end, (got, came, ends), inr (inr (is, rose), some)) row = inl (rw is refl)
alone_told a c form answer (end, (got, came, ends), inl whole) row = elim (row_files form got end row (came_gathered a c form got came) ends) [
  | inl none ↦ inr (none_told_so a c end answer none (inl whole))
  | inr done ↦ let is : answer ≡ status.Done = whole.0 ∙ done in inl (rw is refl)
]
