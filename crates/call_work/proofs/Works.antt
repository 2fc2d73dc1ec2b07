-- The work on what was gathered.
use Rattle.std.proofs.Common.{◌≡◌, Option, Result, Ok, Err, IfOk, refl, sym, subst}
use Rattle.cell_io.specs.Desk.{View}
use Rattle.cell_num.specs.declared.list.NoMemory.{NoMemory as Short}
use Rattle.call_end.specs.declared.end.End.{End}
use Rattle.call_read.specs.Read.{KeepsReads, KeepsReadsBut}
use Rattle.call_read.specs.declared.refusal.Refusal.{Refusal}
use Rattle.call_read.specs.declared.refusal.Refusal.TheVariants.{Words, Unread, Long, Tech, Spice, Fold, Gds, Lef, NoMemory}
use Rattle.call_words.specs.Words.{Form}
use Rattle.call_work.specs.Commands.{Kind, Material, MaterialOf, WorksTo, gathered}
use Rattle.call_work.specs.Ends.{KeepsReadsOf, MayEnd, refused as refusal_end}
use Rattle.call_work.specs.Kept.{AreKept, MayKeep, WorksFor}
use Rattle.call_work.specs.declared.commands.Material.{Material as Own}

-- on a material that is kept so
pub kept_works : (kind : Kind) (x : MaterialOf kind) (end : End) → WorksTo kind x end → (m : Material) → m ≡ (kind, x) → WorksTo m.0 m.1 end
kept_works kind x end works = λ m is. subst (λ (y : Material). WorksTo y.0 y.1 end) (sym is) works

pub ends_work : (old new : View) (form : Option Form) (got : Result Own Refusal) (own : Own) (r : Result End Short) → MayKeep old new (gathered form) got → got ≡ Ok own → IfOk r (WorksFor own) → IfOk r (MayEnd old new form)
ends_work old new form got own (Err e) kept is works = tt
ends_work old new form got own (Ok end) (Ok wanted, came, kept) is works = (Ok wanted, came, works wanted (subst (AreKept (Ok wanted)) is kept))
ends_work old new form got own (Ok end) (Err e, came, kept) is works = absurd (subst (AreKept (Err e)) is kept)

pub ends_refused : (old new : View) (form : Option Form) (got : Result Own Refusal) (e : Refusal) (r : Result End Short) → MayKeep old new (gathered form) got → got ≡ Err e → IfOk r (λ end. end ≡ refusal_end e) → IfOk r (MayEnd old new form)
ends_refused old new form got e (Err f) kept is told = tt
ends_refused old new form got e (Ok end) (Err wanted, came, kept) is told =
    let same : e ≡ wanted = subst (AreKept (Err wanted)) is kept in
    (Err wanted, came, subst (λ (x : Refusal). end ≡ refusal_end x) same told)
ends_refused old new form got e (Ok end) (Ok wanted, came, kept) is told = absurd (subst (AreKept (Ok wanted)) is kept)

-- ---- readings that failed

reads_of : (e : Refusal) (a b : View) (end : End) → end ≡ refusal_end e → KeepsReadsBut e a b → KeepsReadsOf a b end
reads_of (Unread name) a b end is kept = λ other. absurd (other (rw is refl))
reads_of NoMemory a b end is kept = λ other. absurd (other (rw is refl))
reads_of Words a b end is kept = λ other. kept
reads_of (Long name) a b end is kept = λ other. kept
reads_of (Tech f) a b end is kept = λ other. kept
reads_of (Spice f) a b end is kept = λ other. kept
reads_of (Fold f) a b end is kept = λ other. kept
reads_of (Gds f) a b end is kept = λ other. kept
reads_of (Lef f) a b end is kept = λ other. kept

pub reads_worked : (a b : View) (got : Result Own Refusal) (own : Own) (r : Result End Short) → KeepsReads got a b → got ≡ Ok own → IfOk r (KeepsReadsOf a b)
reads_worked a b got own (Err e) kept is = tt
reads_worked a b got own (Ok end) kept is = λ other. subst (λ (x : Result Own Refusal). KeepsReads x a b) is kept

pub reads_refused : (a b : View) (got : Result Own Refusal) (e : Refusal) (r : Result End Short) → KeepsReads got a b → got ≡ Err e → IfOk r (λ end. end ≡ refusal_end e) → IfOk r (KeepsReadsOf a b)
reads_refused a b got e (Err f) kept is told = tt
reads_refused a b got e (Ok end) kept is told = reads_of e a b end told (subst (λ (x : Result Own Refusal). KeepsReads x a b) is kept)
