-- Readings over a desk, from what each call of it did.
use Rattle.std.proofs.Common.{ℕ, ◌≡◌, ◌≢◌, ◌≤◌, ◌⊎◌, List, Option, Some, None, Result, Ok, Err, IfOk, IfErr, IsErr, IsErrAnd, inl, inr, refl, sym, ap, ◌∙◌, subst, arith}
use Rattle.cell_io.specs.Desk.{Files, View, Rose, OnlyReads}
use Rattle.call_read.specs.declared.refusal.Refusal.{Refusal}
use Rattle.call_read.specs.declared.refusal.Refusal.TheVariants.{Words, Unread, Long, Tech, Spice, Fold, Gds, Lef, NoMemory}
use Rattle.call_read.specs.Read.{IsRead, KeepsReads, KeepsReadsBut}
use Rattle.call_read.specs.Reading.{Reading, Ends, ◌>>=◌, bytes_of, Comes, MayCome}
use Rattle.call_read.specs.Sources.{Source, MayRead}
use Rattle.call_read.proofs.Reading.{came_on, came_refused, came_wider}

pub only_refl : (a : View) → OnlyReads a a
only_refl a = record { given = refl; made = refl; created = refl; said = refl; reads = omega arith; writes = refl; shorts = refl }

pub only_trans : (a b c : View) → OnlyReads a b → OnlyReads b c → OnlyReads a c
only_trans a b c x y = record {
  given = y.given ∙ x.given;
  made = y.made ∙ x.made;
  created = y.created ∙ x.created;
  said = y.said ∙ x.said;
  reads = omega (arith, x.reads, y.reads);
  writes = y.writes ∙ x.writes;
  shorts = y.shorts ∙ x.shorts;
}

may_wider : {A B : Type 0} (given : Option Files) (source : Source) (read : Result (List ℕ) Refusal) → (A → B) → MayRead given A source read → MayRead given B source read
may_wider (Some files) source read wider (inl is) = inl is
may_wider (Some files) source read wider (inr (failed, is)) = inr (wider failed, is)
may_wider None source (Ok bytes) wider few = few
may_wider None source (Err e) wider (inl is) = inl is
may_wider None source (Err e) wider (inr (failed, is)) = inr (wider failed, is)

-- what came between two views of a desk came between wider ones
pub came_between : {A : Type 0} (a b c d : View) (reading : Reading A) (ended : Result A Refusal) → b.given ≡ a.given → a.read_faults ≤ b.read_faults → c.read_faults ≤ d.read_faults → Comes (MayRead b.given (Rose b.read_faults c.read_faults)) reading ended → Comes (MayRead a.given (Rose a.read_faults d.read_faults)) reading ended
came_between a b c d reading ended same low high came =
    came_wider (MayRead b.given (Rose b.read_faults c.read_faults)) (MayRead a.given (Rose a.read_faults d.read_faults)) reading ended
    (λ source read may. may_wider a.given source read (λ rose. omega (arith, low, high, rose)) (subst (λ (given : Option Files). MayRead given (Rose b.read_faults c.read_faults) source read) same may))
    came

-- ---- steps in order

-- behind a step that was taken, the rest ends the work
pub taken : {A B : Type 0} (a b c : View) (first : Reading A) (next : A → Reading B) (r : Result A Refusal) (x : A) (ended : Result B Refusal) → OnlyReads a b → OnlyReads b c → MayCome a b first r → r ≡ Ok x → MayCome b c (next x) ended → MayCome a c (first >>= next) ended
taken a b c first next r x ended one two came is (inr short) = inr short
taken a b c first next r x ended one two (inr short) is rest = cc
taken {A} a b c first next r x ended one two (inl came) is (inl rest) =
    inl (came_on (MayRead a.given (Rose a.read_faults c.read_faults)) first next x ended
    (came_between a a b c first (Ok x) refl (omega arith) two.reads (subst (λ (r : Result A Refusal). Comes (MayRead a.given (Rose a.read_faults b.read_faults)) first r) is came))
    (came_between a b c c (next x) ended one.given one.reads (omega arith) rest))

-- a refusal that is handed on
abbrev pub IsHanded : {X : Type 0} → Result X Refusal → Refusal → Type 0
IsHanded ended e = IsErr ended × IsErrAnd ended (λ told. told ≡ e)

handed : {X : Type 0} (ended : Result X Refusal) (e : Refusal) → IsHanded ended e → ended ≡ Err e
handed (Ok x) e (is, told) = absurd told
handed (Err told) e (is, same) = ap (λ (x : Refusal). Err x) same

-- a step that was refused ends it
pub refused : {A B : Type 0} (a b c : View) (first : Reading A) (next : A → Reading B) (r : Result A Refusal) (e : Refusal) (ended : Result B Refusal) → OnlyReads b c → MayCome a b first r → r ≡ Err e → IsHanded ended e → MayCome a c (first >>= next) ended
refused a b c first next r e ended two (inr short) is told =
    let same : e ≡ NoMemory = cc in
    inr (handed ended e told ∙ ap (λ (x : Refusal). Err x) same)
refused {A} {B} a b c first next r e ended two (inl came) is told =
    inl (subst (λ (r : Result B Refusal). Comes (MayRead a.given (Rose a.read_faults c.read_faults)) (first >>= next) r) (sym (handed ended e told))
    (came_refused (MayRead a.given (Rose a.read_faults c.read_faults)) first next e
    (came_between a a b c first (Err e) refl (omega arith) two.reads (subst (λ (r : Result A Refusal). Comes (MayRead a.given (Rose a.read_faults b.read_faults)) first r) is came))))

-- memory ran out in a step without a desk
pub short : {A : Type 0} (a b : View) (reading : Reading A) (ended : Result A Refusal) → IsHanded ended NoMemory → MayCome a b reading ended
short a b reading ended told = inr (handed ended NoMemory told)

pub came_bytes : (a b : View) (source : Source) (read : Result (List ℕ) Refusal) → IsRead a b source read → MayCome a b (bytes_of source) read
came_bytes a b source (Ok bytes) (inl may) = inl (Ok bytes, may, refl)
came_bytes a b source (Err e) (inl may) = inl (Err e, may, refl)
came_bytes a b source read (inr short) = inr short

-- ---- a step without a desk

memory_or : (e : Refusal) → (e ≡ NoMemory) ⊎ (e ≢ NoMemory)
memory_or NoMemory = inl refl
memory_or Words = inr (λ is. cc)
memory_or (Unread name) = inr (λ is. cc)
memory_or (Long name) = inr (λ is. cc)
memory_or (Tech f) = inr (λ is. cc)
memory_or (Spice f) = inr (λ is. cc)
memory_or (Fold f) = inr (λ is. cc)
memory_or (Gds f) = inr (λ is. cc)
memory_or (Lef f) = inr (λ is. cc)

pub ended_so : {A : Type 0} (a b : View) (answer ended : Result A Refusal) → IfOk ended (λ x. answer ≡ Ok x) → IfErr ended (λ e. e ≢ NoMemory → answer ≡ Err e) → MayCome a b (Ends answer) ended
ended_so a b answer (Ok x) found bad = inl (sym found)
ended_so a b answer (Err e) found bad = elim (memory_or e) [
  | inl short ↦ inr (ap (λ (x : Refusal). Err x) short)
  | inr other ↦ inl (sym (bad other))
]

-- ---- a file that is read for a step without a desk

pub file_refused : {A : Type 0} (a b : View) (source : Source) (next : List ℕ → Reading A) (read : Result (List ℕ) Refusal) (e : Refusal) (ended : Result A Refusal) → IsRead a b source read → read ≡ Err e → IsHanded ended e → MayCome a b (bytes_of source >>= next) ended
file_refused a b source next read e ended is bad told = refused a b b (bytes_of source) next read e ended (only_refl b) (came_bytes a b source read is) bad told

pub file_taken : {A : Type 0} (a b : View) (source : Source) (next : List ℕ → Reading A) (read : Result (List ℕ) Refusal) (bytes : List ℕ) (ended : Result A Refusal) → OnlyReads a b → IsRead a b source read → read ≡ Ok bytes → MayCome b b (next bytes) ended → MayCome a b (bytes_of source >>= next) ended
file_taken a b source next read bytes ended only is ok rest = taken a b b (bytes_of source) next read bytes ended only (only_refl b) (came_bytes a b source read is) ok rest

-- ---- readings that failed

reads_told : (e : Refusal) (a b c : View) → b.read_faults ≡ a.read_faults → KeepsReadsBut e b c → KeepsReadsBut e a c
reads_told (Unread name) a b c one two = tt
reads_told NoMemory a b c one two = tt
reads_told Words a b c one two = two ∙ one
reads_told (Long name) a b c one two = two ∙ one
reads_told (Tech f) a b c one two = two ∙ one
reads_told (Spice f) a b c one two = two ∙ one
reads_told (Fold f) a b c one two = two ∙ one
reads_told (Gds f) a b c one two = two ∙ one
reads_told (Lef f) a b c one two = two ∙ one

reads_none : (e : Refusal) (a : View) → KeepsReadsBut e a a
reads_none (Unread name) a = tt
reads_none NoMemory a = tt
reads_none Words a = refl
reads_none (Long name) a = refl
reads_none (Tech f) a = refl
reads_none (Spice f) a = refl
reads_none (Fold f) a = refl
reads_none (Gds f) a = refl
reads_none (Lef f) a = refl

-- behind a reading that did not fail
pub reads_behind : {A : Type 0} (r : Result A Refusal) (a b c : View) → b.read_faults ≡ a.read_faults → KeepsReads r b c → KeepsReads r a c
reads_behind (Ok x) a b c one two = two ∙ one
reads_behind (Err e) a b c one two = reads_told e a b c one two

-- a step without a desk
pub reads_same : {A : Type 0} (r : Result A Refusal) (a b : View) → b.read_faults ≡ a.read_faults → KeepsReads r a b
reads_same (Ok x) a b one = one
reads_same (Err e) a b one = reads_told e a b b one (reads_none e b)

pub reads_handed : {A : Type 0} (told : Result A Refusal) (e : Refusal) (a b : View) → IsHanded told e → KeepsReadsBut e a b → KeepsReads told a b
reads_handed told e a b hands kept = subst (λ r. KeepsReads r a b) (sym (handed told e hands)) kept
