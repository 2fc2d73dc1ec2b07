-- Bytes that go to a place, one behind the other.
use Rattle.std.proofs.Common.{ℕ, ◌≡◌, ◌≤◌, ◌⊎◌, inl, inr, ◌+◌, ◌-◌, List, [], ◌∷◌, ◌++◌, Option, Some, None, IfSome, length, take, drop, get_or, ◌<◌, refl, sym, ap, subst, ◌∙◌, arith, append-nil, append_assoc, length-append, Result, Ok, Err, OnOk, OnErr}
use Rattle.std.proofs.Math.Seq.{take-length, take-append_seam, drop-append_seam}
use Rattle.std.specs.List.{flat_map}
use Rattle.std.proofs.lemmas.Grind.{flat_map-append}
use Rattle.std.proofs.lemmas.List.{flat_map_more, take-append-drop, take_all, take_more}
use Rattle.cell_io.specs.Desk.{View, Files, Rose, Both, ForSome, AddsPart, AppendedIn, WrittenIn, Sets, IsHeld, OnlyAppends, IsQuiet, MemoryFailed, WritingFailed}
use Rattle.cell_io.specs.Output.{Place, CanPut, Puts}
use Rattle.cell_io.specs.declared.output.WriteFault.{WriteFault}
use Rattle.cell_io.specs.declared.output.WriteFault.TheVariants.{Failed, NoMemory}
use Rattle.cell_io.proofs.Puts.{appends_some, can_put_still, created_held_told, keeps_more, keeps_none, puts_none, puts_rest, quiet_more, says_some, written_some, written_whole}
use Rattle.log_output.specs.Giving.{Gives, GivesSome, KeepsUntold, OnlyPuts}

-- ---- parts

-- the same first bytes
puts_same : (place : Place) (xs ys : List ℕ) (m n : ℕ) (a b : View) → take m xs ≡ take n ys → Puts place xs m a b → Puts place ys n a b
puts_same None xs ys m n a b e h = (subst (λ (part : List ℕ). Both (λ (x y : List ℕ). y ≡ x ++ part) a.said b.said) e h.0, h.1)
puts_same (Some name) xs ys m n a b e h = (subst (λ (part : List ℕ). Both (λ (x y : Files). (bytes : List ℕ) → x name ≡ Some bytes → Sets name (Some (bytes ++ part)) x y) a.made b.made) e h.0, h.1)

-- what is left behind the first bytes of two lists
rest_is : (xs ys : List ℕ) → take (length (xs ++ ys) - length xs) (drop (length xs) (xs ++ ys)) ≡ ys
rest_is xs ys =
    let count : length (xs ++ ys) - length xs ≡ length ys = omega (arith, length-append xs ys) in
    rw (drop-append_seam xs ys, count) (take-length ys)

puts_behind : (place : Place) (xs ys : List ℕ) (a b c : View) → Puts place xs (length xs) a b → Puts place ys (length ys) b c → Puts place (xs ++ ys) (length (xs ++ ys)) a c
puts_behind place xs ys a b c p q =
    subst (λ n. Puts place (xs ++ ys) n a c) (sym (length-append xs ys))
    (puts_rest place (xs ++ ys) (length xs) (length ys) a b c
    (puts_same place xs (xs ++ ys) (length xs) (length xs) a b (take-length xs ∙ sym (take-append_seam xs ys)) p)
    (puts_same place ys (take (length (xs ++ ys) - length xs) (drop (length xs) (xs ++ ys))) (length ys) (length ys) b c (ap (λ (zs : List ℕ). take (length ys) zs) (sym (rest_is xs ys))) q))

-- ---- what was given

pub gives_all : (place : Place) (bytes : List ℕ) (a b : View) → Puts place bytes (length bytes) a b → Gives place bytes [] a b
gives_all place bytes a b h = (bytes, sym (append-nil bytes), h)

pub gives_some : (place : Place) (bytes : List ℕ) (a b : View) → ForSome bytes (Puts place bytes) a b → GivesSome place bytes a b
gives_some place bytes a b (count, within, h) =
    (drop count bytes, (take count bytes, sym (take-append-drop count bytes), puts_same place bytes (take count bytes) count (length (take count bytes)) a b (sym (take-length (take count bytes))) h))

-- bytes that wait
pub gives_none : (place : Place) (bytes : List ℕ) (a : View) → Gives place bytes bytes a a
gives_none place bytes a = ([], refl, puts_none place [] a)

pub gives_whole : (place : Place) (bytes : List ℕ) (a b : View) → Gives place bytes [] a b → Puts place bytes (length bytes) a b
gives_whole place bytes a b (front, is, h) =
    let same : front ≡ bytes = sym (append-nil front) ∙ sym is in
    subst (λ (xs : List ℕ). Puts place xs (length xs) a b) same h

pub gives_front : (place : Place) (bytes : List ℕ) (a b : View) → GivesSome place bytes a b → ForSome bytes (Puts place bytes) a b
gives_front place bytes a b (left, (front, is, h)) =
    let low : length front ≤ length (front ++ left) = omega (arith, length-append front left) in
    (length front, subst (λ (xs : List ℕ). length front ≤ length xs) (sym is) low, puts_same place front bytes (length front) (length front) a b (take-length front ∙ sym (take-append_seam front left) ∙ ap (λ (xs : List ℕ). take (length front) xs) (sym is)) h)

-- further bytes behind those that are left
pub gives_more : (place : Place) (bytes mid more left : List ℕ) (a b c : View) → Gives place bytes mid a b → Gives place (mid ++ more) left b c → Gives place (bytes ++ more) left a c
gives_more place bytes mid more left a b c (front, is, p) (next, also, q) =
    let whole : bytes ++ more ≡ (front ++ next) ++ left = ap (λ (xs : List ℕ). xs ++ more) is ∙ append_assoc front mid more ∙ ap (λ (xs : List ℕ). front ++ xs) also ∙ sym (append_assoc front next left) in
    (front ++ next, whole, puts_behind place front next a b c p q)

pub some_more : (place : Place) (bytes mid more : List ℕ) (a b c : View) → Gives place bytes mid a b → GivesSome place (mid ++ more) b c → GivesSome place (bytes ++ more) a c
some_more place bytes mid more a b c p (left, q) = (left, gives_more place bytes mid more left a b c p q)

pub some_wider : (place : Place) (bytes more : List ℕ) (a b : View) → GivesSome place bytes a b → GivesSome place (bytes ++ more) a b
some_wider place bytes more a b (left, (front, is, h)) =
    (left ++ more, (front, ap (λ (xs : List ℕ). xs ++ more) is ∙ append_assoc front left more, h))

pub can_still : (place : Place) (bytes left : List ℕ) (a b : View) → Gives place bytes left a b → CanPut place a → CanPut place b
can_still place bytes left a b (front, is, h) can = can_put_still place front (length front) a b h can

-- ---- what a call answered

pub ok_so : {A E : Type 0} (r : Result A E) (P Q : Type 0) → (P → Q) → OnOk r P → OnOk r Q
ok_so (Ok x) P Q so h = so h
ok_so (Err e) P Q so h = tt

pub on_err : {A E : Type 0} (r : Result A E) (P : Type 0) → P → OnErr r P
on_err (Ok x) P p = tt
on_err (Err e) P p = p

-- further bytes that were put where none were left
pub then_put : {A E : Type 0} (r : Result A E) (place : Place) (bytes mid more : List ℕ) (a b c : View) → mid ≡ [] → Gives place bytes mid a b → OnOk r (Gives place more [] b c) → OnOk r (Gives place (bytes ++ more) mid a c)
then_put (Err e) place bytes mid more a b c empty p q = tt
then_put (Ok x) place bytes mid more a b c empty p q =
    subst (λ (left : List ℕ). Gives place (bytes ++ more) left a c) (sym empty)
    (gives_more place bytes [] more [] a b c (subst (λ (left : List ℕ). Gives place bytes left a b) empty p) q)

pub then_stop : {A E : Type 0} (r : Result A E) (place : Place) (bytes mid more : List ℕ) (a b c : View) → mid ≡ [] → Gives place bytes mid a b → OnErr r (GivesSome place more b c) → OnErr r (GivesSome place (bytes ++ more) a c)
then_stop (Ok x) place bytes mid more a b c empty p q = tt
then_stop (Err e) place bytes mid more a b c empty p q =
    some_more place bytes [] more a b c (subst (λ (left : List ℕ). Gives place bytes left a b) empty p) q

front_of : {X : Type 0} (bytes : List ℕ) (R : ℕ → X → X → Type 0) (old new : Option X) → Both (ForSome bytes R) old new → (count : ℕ) × (count ≤ length bytes) × Both (R count) old new
front_of bytes R None None h =
    let low : 0 ≤ length bytes = omega arith in
    (0, low, tt)
front_of bytes R (Some x) (Some y) h = (h.0, h.1, h.2)
front_of bytes R None (Some y) h = absurd h
front_of bytes R (Some x) None h = absurd h

pub appended_some : (name bytes : List ℕ) (a b : View) → Both (ForSome bytes (AppendedIn name bytes)) a.made b.made → OnlyAppends a b → GivesSome (Some name) bytes a b
appended_some name bytes a b h only =
    let (count, within, some) = front_of bytes (AppendedIn name bytes) a.made b.made h in
    gives_some (Some name) bytes a b (count, within, (some, only))

-- ---- lines

-- one line more
line_more : {X : Type 0} (line : X → List ℕ) (xs : List X) (at : ℕ) (x : X) (bytes : List ℕ) → at < length xs → get_or xs at x ≡ x → (bytes ++ flat_map line (take at xs)) ++ line x ≡ bytes ++ flat_map line (take (at + 1) xs)
line_more {X} line xs at x bytes within is =
    flat_map_more line bytes (take at xs) x ∙ ap (λ (ys : List X). bytes ++ flat_map line ys) (ap (λ (y : X). take at xs ++ y ∷ []) (sym is) ∙ sym (take_more xs at x within))

-- the lines up to a place, and those behind it
lines_apart : {X : Type 0} (line : X → List ℕ) (xs : List X) (at : ℕ) (bytes : List ℕ) → (bytes ++ flat_map line (take at xs)) ++ flat_map line (drop at xs) ≡ bytes ++ flat_map line xs
lines_apart {X} line xs at bytes =
    append_assoc bytes (flat_map line (take at xs)) (flat_map line (drop at xs))
    ∙ ap (λ (text : List ℕ). bytes ++ text) (sym (flat_map-append line (take at xs) (drop at xs)) ∙ ap (λ (ys : List X). flat_map line ys) (take-append-drop at xs))

pub lines_more : {X : Type 0} (line : X → List ℕ) (place : Place) (xs : List X) (at : ℕ) (x : X) (bytes mid left : List ℕ) (a b c : View) → at < length xs → get_or xs at x ≡ x → Gives place (bytes ++ flat_map line (take at xs)) mid a b → Gives place (mid ++ line x) left b c → Gives place (bytes ++ flat_map line (take (at + 1) xs)) left a c
lines_more line place xs at x bytes mid left a b c within is p q =
    subst (λ (ys : List ℕ). Gives place ys left a c) (line_more line xs at x bytes within is) (gives_more place (bytes ++ flat_map line (take at xs)) mid (line x) left a b c p q)

pub lines_stop : {X : Type 0} (line : X → List ℕ) (place : Place) (xs : List X) (at : ℕ) (x : X) (bytes mid : List ℕ) (a b c : View) → at < length xs → get_or xs at x ≡ x → Gives place (bytes ++ flat_map line (take at xs)) mid a b → GivesSome place (mid ++ line x) b c → GivesSome place (bytes ++ flat_map line xs) a c
lines_stop line place xs at x bytes mid a b c within is p q =
    subst (λ (ys : List ℕ). GivesSome place ys a c) (lines_apart line xs (at + 1) bytes)
    (some_wider place (bytes ++ flat_map line (take (at + 1) xs)) (flat_map line (drop (at + 1) xs)) a c
    (subst (λ (ys : List ℕ). GivesSome place ys a c) (line_more line xs at x bytes within is)
    (some_more place (bytes ++ flat_map line (take at xs)) mid (line x) a b c p q)))

-- all of them
pub lines_all : {X : Type 0} (line : X → List ℕ) (place : Place) (xs : List X) (at : ℕ) (bytes left : List ℕ) (a b : View) → length xs ≤ at → Gives place (bytes ++ flat_map line (take at xs)) left a b → Gives place (bytes ++ flat_map line xs) left a b
lines_all {X} line place xs at bytes left a b all p = subst (λ (ys : List X). Gives place (bytes ++ flat_map line ys) left a b) (take_all at xs all) p

-- none so far
pub lines_none : {X : Type 0} (line : X → List ℕ) (place : Place) (xs : List X) (bytes : List ℕ) (a : View) → Gives place (bytes ++ flat_map line (take 0 xs)) bytes a a
lines_none line place xs bytes a = subst (λ (ys : List ℕ). Gives place ys bytes a a) (sym (append-nil bytes)) (gives_none place bytes a)

-- ---- what stays

pub only_none : (place : Place) (a : View) → OnlyPuts place a a
only_none None a = record { given = refl; made = refl; created = refl; reads = refl; writes = omega arith; shorts = omega arith }
only_none (Some name) a = keeps_none a

pub only_more : (place : Place) (a b c : View) → OnlyPuts place a b → OnlyPuts place b c → OnlyPuts place a c
only_more None a b c p q = record { given = q.given ∙ p.given; made = q.made ∙ p.made; created = q.created ∙ p.created; reads = q.reads ∙ p.reads; writes = omega (arith, p.writes, q.writes); shorts = omega (arith, p.shorts, q.shorts) }
only_more (Some name) a b c p q = keeps_more a b c p q

pub failed_behind : (place : Place) (a b c : View) → OnlyPuts place a b → Rose b.write_faults c.write_faults → Rose a.write_faults c.write_faults
failed_behind None a b c only rose = omega (arith, only.writes, rose)
failed_behind (Some name) a b c only rose = omega (arith, only.writes, rose)

pub short_behind : (place : Place) (a b c : View) → OnlyPuts place a b → Rose b.shorts c.shorts → Rose a.shorts c.shorts
short_behind None a b c only rose = omega (arith, only.shorts, rose)
short_behind (Some name) a b c only rose = omega (arith, only.shorts, rose)

-- ---- the counts of faults

pub quiet_none : (a : View) → IsQuiet a a
quiet_none a = record { writes = refl; shorts = refl }

-- from what the calls of a desk say of each answer
pub keeps_untold : {X : Type 0} (r : Result X WriteFault) (a b : View) → (r ≡ Err Failed → WritingFailed a b) → (r ≡ Err NoMemory → MemoryFailed a b) → OnOk r (IsQuiet a b) → KeepsUntold r a b
keeps_untold (Ok x) a b failed memory quiet = quiet
keeps_untold (Err Failed) a b failed memory quiet = (failed refl).shorts
keeps_untold (Err NoMemory) a b failed memory quiet = (memory refl).writes

pub untold_behind : {X : Type 0} (r : Result X WriteFault) (a b c : View) → IsQuiet a b → KeepsUntold r b c → KeepsUntold r a c
untold_behind (Ok x) a b c before after = quiet_more a b c before after
untold_behind (Err Failed) a b c before after = after ∙ before.shorts
untold_behind (Err NoMemory) a b c before after = after ∙ before.writes

-- ---- a file that is made and then filled

both_wider : {X : Type 0} (R S : X → X → Type 0) → ((x y : X) → R x y → S x y) → (old new : Option X) → Both R old new → Both S old new
both_wider R S wider None None h = tt
both_wider R S wider (Some x) (Some y) h = wider x y h
both_wider R S wider None (Some y) h = absurd h
both_wider R S wider (Some x) None h = absurd h

pub held_there : (name : List ℕ) (a b : Option Files) → Both (Sets name (Some [])) a b → IfSome b (λ files. IsHeld files name)
held_there name a b h = created_held_told name a b h

pub made_whole : (name bytes : List ℕ) (a b c : View) → Both (Sets name (Some [])) a.made b.made → Gives (Some name) bytes [] b c → Both (Sets name (Some bytes)) a.made c.made
made_whole name bytes a b c created h = written_whole name bytes a.made b.made c.made created (gives_whole (Some name) bytes b c h).0

pub made_some : (name bytes : List ℕ) (a b c : View) → Both (Sets name (Some [])) a.made b.made → GivesSome (Some name) bytes b c → (c.made ≡ a.made) ⊎ Both (ForSome bytes (WrittenIn name bytes)) a.made c.made
made_some name bytes a b c created h = inr (written_some name bytes a.made b.made c.made created (appends_some name bytes b c (gives_front (Some name) bytes b c h)).0)

none_low : (n : ℕ) → n ≤ 0 → n ≡ 0
none_low n low = omega (arith, low)

none_written : (name bytes : List ℕ) (x y : Files) → ForSome [] (WrittenIn name []) x y → ForSome bytes (WrittenIn name bytes) x y
none_written name bytes x y (count, within, h) =
    let low : 0 ≤ length bytes = omega arith in
    (0, low, subst (λ n. WrittenIn name [] n x y) (none_low count within) h)

-- none of the bytes of an empty file
pub made_none : (name bytes : List ℕ) (a b : Option Files) → (b ≡ a) ⊎ Both (ForSome [] (WrittenIn name [])) a b → (b ≡ a) ⊎ Both (ForSome bytes (WrittenIn name bytes)) a b
made_none name bytes a b (inl same) = inl same
made_none name bytes a b (inr front) =
    inr (both_wider (ForSome [] (WrittenIn name [])) (ForSome bytes (WrittenIn name bytes)) (λ x y h. none_written name bytes x y h) a b front)

-- ---- what is said

pub said_whole : (bytes : List ℕ) (a b : View) → Gives None bytes [] a b → Both (λ (x y : List ℕ). y ≡ x ++ bytes) a.said b.said
said_whole bytes a b h =
    both_wider (AddsPart bytes (length bytes)) (λ (x y : List ℕ). y ≡ x ++ bytes) (λ x y e. e ∙ ap (λ (part : List ℕ). x ++ part) (take-length bytes)) a.said b.said (gives_whole None bytes a b h).0

pub said_some : (bytes : List ℕ) (a b : View) → GivesSome None bytes a b → Both (ForSome bytes (AddsPart bytes)) a.said b.said
said_some bytes a b h = (says_some bytes a b (gives_front None bytes a b h)).0

-- ---- one text behind another

-- further bytes behind bytes that were given
pub text_more : (place : Place) (block one two mid left : List ℕ) (a b c : View) → Gives place (block ++ one) mid a b → Gives place (mid ++ two) left b c → Gives place (block ++ (one ++ two)) left a c
text_more place block one two mid left a b c p q =
    subst (λ (bytes : List ℕ). Gives place bytes left a c) (append_assoc block one two) (gives_more place (block ++ one) mid two left a b c p q)

pub text_stop : (place : Place) (block one two mid : List ℕ) (a b c : View) → Gives place (block ++ one) mid a b → GivesSome place (mid ++ two) b c → GivesSome place (block ++ (one ++ two)) a c
text_stop place block one two mid a b c p q =
    subst (λ (bytes : List ℕ). GivesSome place bytes a c) (append_assoc block one two) (some_more place (block ++ one) mid two a b c p q)

pub text_wider : (place : Place) (block one two : List ℕ) (a b : View) → GivesSome place (block ++ one) a b → GivesSome place (block ++ (one ++ two)) a b
text_wider place block one two a b p =
    subst (λ (bytes : List ℕ). GivesSome place bytes a b) (append_assoc block one two) (some_wider place (block ++ one) two a b p)

-- the rest of what was given
gives_rest : (place : Place) (bytes mid left : List ℕ) (a b c : View) → Gives place bytes mid a b → Gives place mid left b c → Gives place bytes left a c
gives_rest place bytes mid left a b c (front, is, p) (next, also, q) =
    (front ++ next, is ∙ ap (λ (xs : List ℕ). front ++ xs) also ∙ sym (append_assoc front next left), puts_behind place front next a b c p q)

pub rest_some : {A E : Type 0} (r : Result A E) (place : Place) (bytes mid : List ℕ) (a b c : View) → Gives place bytes mid a b → OnErr r (GivesSome place mid b c) → OnErr r (GivesSome place bytes a c)
rest_some (Ok x) place bytes mid a b c p q = tt
rest_some (Err e) place bytes mid a b c p (left, q) = (left, gives_rest place bytes mid left a b c p q)

-- nothing of it is left
pub rest_all : {A E : Type 0} (r : Result A E) (place : Place) (bytes mid left : List ℕ) (a b c : View) → Gives place bytes mid a b → OnOk r (Gives place mid left b c) → OnOk r (left ≡ []) → OnOk r (Gives place bytes [] a c)
rest_all (Err e) place bytes mid left a b c p q empty = tt
rest_all (Ok x) place bytes mid left a b c p q empty =
    subst (λ (behind : List ℕ). Gives place bytes behind a c) empty (gives_rest place bytes mid left a b c p q)
