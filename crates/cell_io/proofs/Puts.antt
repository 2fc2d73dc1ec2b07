-- What has been put so far, over several parts.
use Rattle.std.proofs.Common.{ℕ, ◌≡◌, ◌+◌, ◌-◌, ◌∙◌, ap, arith, length-drop, subst, ◌≤◌, List, [], ◌++◌, length, take, drop, Option, Some, None, refl, sym, append_assoc, append-nil, IfSome, Bool, true, false, bytes_eq, if◌then◌else◌, Result, Ok, Err, OnErr}
use Rattle.std.proofs.Math.Seq.{take-add, take-length}
use Rattle.std.proofs.lemmas.Slice.Eq.{bytes_eq-Decides}
use Rattle.cell_io.specs.Desk.{View, Files, Rose, Both, ForSome, AddsPart, AppendedIn, CreatedIn, WrittenIn, CreatesOne, Sets, IsHeld, OnlySays, OnlyAppends, OnlyMakes, IsQuiet, WritingFailed, MemoryFailed}
use Rattle.cell_io.specs.Output.{Place, Puts, CanPut}

says_none : (v : View) → OnlySays v v
says_none v = record { given = refl; made = refl; created = refl; reads = refl; writes = omega arith; shorts = omega arith }

pub keeps_none : (v : View) → OnlyAppends v v
keeps_none v = record { given = refl; created = refl; said = refl; reads = refl; writes = omega arith; shorts = omega arith }

says_more : (a b c : View) → OnlySays a b → OnlySays b c → OnlySays a c
says_more a b c p q = record { given = q.given ∙ p.given; made = q.made ∙ p.made; created = q.created ∙ p.created; reads = q.reads ∙ p.reads; writes = omega (arith, p.writes, q.writes); shorts = omega (arith, p.shorts, q.shorts) }

pub keeps_more : (a b c : View) → OnlyAppends a b → OnlyAppends b c → OnlyAppends a c
keeps_more a b c p q = record { given = q.given ∙ p.given; created = q.created ∙ p.created; said = q.said ∙ p.said; reads = q.reads ∙ p.reads; writes = omega (arith, p.writes, q.writes); shorts = omega (arith, p.shorts, q.shorts) }

-- a file that is created and then appended to
pub makes_then : (a b c : View) → OnlyMakes a b → OnlyAppends b c → OnlyMakes a c
makes_then a b c p q = record { given = q.given ∙ p.given; said = q.said ∙ p.said; reads = q.reads ∙ p.reads; writes = omega (arith, p.writes, q.writes); shorts = omega (arith, p.shorts, q.shorts) }

-- related step by step, and related over both steps
both_more : {X : Type 0} (R S T : X → X → Type 0) → ((x y z : X) → R x y → S y z → T x z) → (first before after : Option X) → Both R first before → Both S before after → Both T first after
both_more R S T step None None None a b = tt
both_more R S T step (Some x) (Some y) (Some z) a b = step x y z a b
both_more R S T step None None (Some z) a b = absurd b
both_more R S T step None (Some y) after a b = absurd a
both_more R S T step (Some x) None after a b = absurd a
both_more R S T step (Some x) (Some y) None a b = absurd b

both_same : {X : Type 0} (R : X → X → Type 0) → ((x : X) → R x x) → (o : Option X) → Both R o o
both_same R each None = tt
both_same R each (Some x) = each x

both_wider : {X : Type 0} (R S : X → X → Type 0) → ((x y : X) → R x y → S x y) → (old new : Option X) → Both R old new → Both S old new
both_wider R S wider None None a = tt
both_wider R S wider (Some x) (Some y) a = wider x y a
both_wider R S wider None (Some y) a = absurd a
both_wider R S wider (Some x) None a = absurd a

-- bytes behind bytes
adds_more : (bytes : List ℕ) (at count : ℕ) (x y z : List ℕ) → AddsPart bytes at x y → AddsPart (drop at bytes) count y z → AddsPart bytes (at + count) x z
adds_more bytes at count x y z a b = rw (b, a, append_assoc, ← take-add) refl

same_name : (name : List ℕ) → bytes_eq name name ≡ true
same_name name = (bytes_eq-Decides name name).1 refl

-- setting a name twice is setting it to the second content
sets_more : (name : List ℕ) (one two : Option (List ℕ)) (x y z : Files) → Sets name one x y → Sets name two y z → Sets name two x z
sets_more name one two x y z a b q = grind (arith, a q, b q)

sets_at : (name : List ℕ) (content : Option (List ℕ)) (x y : Files) → Sets name content x y → y name ≡ content
sets_at name content x y a = grind (arith, a name, same_name name)

appends_more : (name bytes : List ℕ) (at count : ℕ) (x y z : Files) → AppendedIn name bytes at x y → AppendedIn name (drop at bytes) count y z → AppendedIn name bytes (at + count) x z
appends_more name bytes at count x y z a b held there =
    let first : Sets name (Some (held ++ take at bytes)) x y = a held there in
    let second : Sets name (Some ((held ++ take at bytes) ++ take count (drop at bytes))) y z = b (held ++ take at bytes) (sets_at name _ x y first) in
    let whole : (held ++ take at bytes) ++ take count (drop at bytes) ≡ held ++ take (at + count) bytes = rw (append_assoc, ← take-add) refl in
    subst (λ (content : List ℕ). Sets name (Some content) x z) whole (sets_more name _ _ x y z first second)

-- what a file holds, set again
set_again : (name held : List ℕ) (x : Files) (q : List ℕ) → x name ≡ Some held → (same : Bool) → bytes_eq q name ≡ same → x q ≡ (if same then Some (held ++ []) else x q)
set_again name held x q there true same = ap x ((bytes_eq-Decides q name).0 same) ∙ there ∙ ap Some (sym (append-nil held))
set_again name held x q there false other = refl

appends_none : (name bytes : List ℕ) (x : Files) → AppendedIn name bytes 0 x x
appends_none name bytes x held there q = set_again name held x q there (bytes_eq q name) refl

held_still : (name bytes : List ℕ) (at : ℕ) (x y : Files) → AppendedIn name bytes at x y → IsHeld x name → IsHeld y name
held_still name bytes at x y a h = (h.0 ++ take at bytes, sets_at name _ x y (a h.0 h.1))

pub held_still_told : (name bytes : List ℕ) (at : ℕ) (old new : Option Files) → Both (AppendedIn name bytes at) old new → IfSome old (λ files. IsHeld files name) → IfSome new (λ files. IsHeld files name)
held_still_told name bytes at None None a h = tt
held_still_told name bytes at (Some x) (Some y) a h = held_still name bytes at x y a h
held_still_told name bytes at None (Some y) a h = absurd a
held_still_told name bytes at (Some x) None a h = absurd a

pub puts_none : (place : Place) (bytes : List ℕ) (v : View) → Puts place bytes 0 v v
puts_none None bytes v = (both_same (AddsPart bytes 0) (λ x. sym (append-nil x)) v.said, says_none v)
puts_none (Some name) bytes v = (both_same (AppendedIn name bytes 0) (appends_none name bytes) v.made, keeps_none v)

-- a front of what is left goes behind the front that was put
puts_more : (place : Place) (bytes : List ℕ) (at count : ℕ) (a b c : View) → Puts place bytes at a b → Puts place (drop at bytes) count b c → Puts place bytes (at + count) a c
puts_more None bytes at count a b c p q = (both_more (AddsPart bytes at) (AddsPart (drop at bytes) count) (AddsPart bytes (at + count)) (adds_more bytes at count) a.said b.said c.said p.0 q.0, says_more a b c p.1 q.1)
puts_more (Some name) bytes at count a b c p q = (both_more (AppendedIn name bytes at) (AppendedIn name (drop at bytes) count) (AppendedIn name bytes (at + count)) (appends_more name bytes at count) a.made b.made c.made p.0 q.0, keeps_more a b c p.1 q.1)

-- what `&bytes[at..]` is
rest_is : (bytes : List ℕ) (at : ℕ) → take (length bytes - at) (drop at bytes) ≡ drop at bytes
rest_is bytes at = rw (← length-drop at bytes) (take-length (drop at bytes))

-- the same, for the part that `&bytes[at..]` is
pub puts_rest : (place : Place) (bytes : List ℕ) (at count : ℕ) (a b c : View) → Puts place bytes at a b → Puts place (take (length bytes - at) (drop at bytes)) count b c → Puts place bytes (at + count) a c
puts_rest place bytes at count a b c p q = puts_more place bytes at count a b c p (subst (λ (part : List ℕ). Puts place part count b c) (rest_is bytes at) q)

pub can_put_still : (place : Place) (bytes : List ℕ) (at : ℕ) (a b : View) → Puts place bytes at a b → CanPut place a → CanPut place b
can_put_still None bytes at a b p h = tt
can_put_still (Some name) bytes at a b p h = held_still_told name bytes at a.made b.made p.0 h

-- nothing more was put
pub puts_stop : (place : Place) (bytes : List ℕ) (at : ℕ) (a b c : View) → at ≤ length bytes → Puts place bytes at a b → Puts place (take (length bytes - at) (drop at bytes)) 0 b c → ForSome bytes (Puts place bytes) a c
puts_stop place bytes at a b c within p q = (at + 0, omega (arith, within), puts_rest place bytes at 0 a b c p q)

pub said_nothing : (part : List ℕ) (a b : View) → b.said ≡ a.said → OnlySays a b → Puts None part 0 a b
said_nothing part a b same only = (subst (λ (said : Option (List ℕ)). Both (AddsPart part 0) a.said said) (sym same) (both_same (AddsPart part 0) (λ x. sym (append-nil x)) a.said), only)

pub appended_nothing : (name part : List ℕ) (a b : View) → b.made ≡ a.made → OnlyAppends a b → Puts (Some name) part 0 a b
appended_nothing name part a b same only = (subst (λ (made : Option Files). Both (AppendedIn name part 0) a.made made) (sym same) (both_same (AppendedIn name part 0) (appends_none name part) a.made), only)

pub quiet_more : (a b c : View) → IsQuiet a b → IsQuiet b c → IsQuiet a c
quiet_more a b c p q = record { writes = q.writes ∙ p.writes; shorts = q.shorts ∙ p.shorts }

pub failed_after : (a b c : View) → IsQuiet a b → WritingFailed b c → WritingFailed a c
failed_after a b c p q = record { rose = subst (λ (count : ℕ). Rose count c.write_faults) p.writes q.rose; shorts = q.shorts ∙ p.shorts }

pub short_after : (a b c : View) → IsQuiet a b → MemoryFailed b c → MemoryFailed a c
short_after a b c p q = record { rose = subst (λ (count : ℕ). Rose count c.shorts) p.shorts q.rose; writes = q.writes ∙ p.writes }

-- what is said of either place, from what is said of both
pub says_some : (bytes : List ℕ) (a b : View) → ForSome bytes (Puts None bytes) a b → Both (ForSome bytes (AddsPart bytes)) a.said b.said × OnlySays a b
says_some bytes a b some = (both_wider (AddsPart bytes some.0) (ForSome bytes (AddsPart bytes)) (λ x y r. (some.0, some.1, r)) a.said b.said some.2.0, some.2.1)

pub appends_some : (name bytes : List ℕ) (a b : View) → ForSome bytes (Puts (Some name) bytes) a b → Both (ForSome bytes (AppendedIn name bytes)) a.made b.made × OnlyAppends a b
appends_some name bytes a b some = (both_wider (AppendedIn name bytes some.0) (ForSome bytes (AppendedIn name bytes)) (λ x y r. (some.0, some.1, r)) a.made b.made some.2.0, some.2.1)

-- a file that is made and then appended to
pub created_once : (name : List ℕ) (first before after : Option (List (List ℕ))) → Both (CreatesOne name) first before → after ≡ before → Both (CreatesOne name) first after
created_once name first before after one same = rw same one

created_held : (name : List ℕ) (x y : Files) → CreatedIn name x y → IsHeld y name
created_held name x y made = ([], sets_at name (Some []) x y made)

pub created_held_told : (name : List ℕ) (old new : Option Files) → Both (CreatedIn name) old new → IfSome new (λ files. IsHeld files name)
created_held_told name None None a = tt
created_held_told name (Some x) (Some y) a = created_held name x y a
created_held_told name None (Some y) a = absurd a
created_held_told name (Some x) None a = absurd a

created_appended : (name bytes : List ℕ) (count : ℕ) (x y z : Files) → CreatedIn name x y → AppendedIn name bytes count y z → WrittenIn name bytes count x z
created_appended name bytes count x y z a b = sets_more name (Some []) (Some (take count bytes)) x y z a (b [] (sets_at name (Some []) x y a))

pub written_whole : (name bytes : List ℕ) (first before after : Option Files) → Both (CreatedIn name) first before → Both (AppendedIn name bytes (length bytes)) before after → Both (Sets name (Some bytes)) first after
written_whole name bytes first before after a b =
    both_more (CreatedIn name) (AppendedIn name bytes (length bytes)) (Sets name (Some bytes))
    (λ x y z p q. subst (λ (content : List ℕ). Sets name (Some content) x z) (take-length bytes) (created_appended name bytes (length bytes) x y z p q))
    first before after a b

pub written_some : (name bytes : List ℕ) (first before after : Option Files) → Both (CreatedIn name) first before → Both (ForSome bytes (AppendedIn name bytes)) before after → Both (ForSome bytes (WrittenIn name bytes)) first after
written_some name bytes first before after a b =
    both_more (CreatedIn name) (ForSome bytes (AppendedIn name bytes)) (ForSome bytes (WrittenIn name bytes))
    (λ x y z p q. (q.0, q.1, created_appended name bytes q.0 x y z p q.2))
    first before after a b

pub refused_so : {T E : Type 0} (r : Result T E) (P Q : Type 0) → (P → Q) → OnErr r P → OnErr r Q
refused_so (Ok x) P Q so a = tt
refused_so (Err e) P Q so a = so a
