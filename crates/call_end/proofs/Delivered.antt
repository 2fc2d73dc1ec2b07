-- Files made in order, from what each call of the desk did.
use Rattle.std.proofs.Common.{ℕ, suc, ◌≡◌, ◌⊎◌, List, [], ◌∷◌, ◌++◌, append-nil, append_assoc, take, Option, Some, None, ◌+◌, ◌<◌, ◌≤◌, drop, get_or, Result, Ok, Err, OnErr, OnOk, length, string_bytes, inl, inr, refl, sym, ap, ◌∙◌, arith, subst}
use Rattle.std.proofs.lemmas.List.{drop_more}
use Rattle.cell_io.specs.Desk.{Files, View, Both, ForSome, AddsPart, CreatesOne, WrittenIn, OnlyMakes, Rose}
use Rattle.call_end.specs.declared.end.Output.{Output}
use Rattle.call_end.specs.declared.end.End.{End}
use Rattle.call_end.specs.declared.status.Status.{Status}
use Rattle.call_end.specs.Deliver.{CreatesAll, CreatesFront, GivesUp, Makes, MakesAll, MakesSome, Tells, names_of}
use Rattle.log_output.specs.Giving.{GivesSome, OnlyPuts}
use Rattle.log_output.proofs.Giving.{said_some}

-- a count that rose has risen from every earlier number, and to every later one
pub rose_wider : (a b c d : ℕ) → a ≤ b → c ≤ d → Rose b c → Rose a d
rose_wider a b c d low high rose = omega (arith, low, high, rose)

-- ---- files

pub next_file : (files : List Output) (i : ℕ) (file : Output) → i < length files → file ≡ get_or files i file → drop i files ≡ file ∷ drop (i + 1) files
next_file files i file within is = drop_more files i file within ∙ ap (λ (f : Output). f ∷ drop (i + 1) files) (sym is)

pub on_err : {A E : Type 0} (r : Result A E) (X : Type 0) → X → OnErr r X
on_err (Ok x) X h = tt
on_err (Err e) X h = h

pub on_ok : {A E : Type 0} (r : Result A E) (X : Type 0) → X → OnOk r X
on_ok (Ok x) X h = h
on_ok (Err e) X h = tt

pub all_none : (a : Option Files) → Both (MakesAll []) a a
all_none None = tt
all_none (Some files) = refl

pub all_more : (file : Output) (later : List Output) (a b c : Option Files) → Both (Makes file) a b → Both (MakesAll later) b c → Both (MakesAll (file ∷ later)) a c
all_more file later None None None one more = tt
all_more file later (Some x) (Some y) (Some z) one more = (y, one, more)
all_more file later None None (Some z) one more = absurd more
all_more file later None (Some y) c one more = absurd one
all_more file later (Some x) None c one more = absurd one
all_more file later (Some x) (Some y) None one more = absurd more

pub some_more : (file : Output) (later : List Output) (a b c : Option Files) → Both (Makes file) a b → Both (MakesSome later) b c → Both (MakesSome (file ∷ later)) a c
some_more file later None None None one more = tt
some_more file later (Some x) (Some y) (Some z) one more = inr (y, one, more)
some_more file later None None (Some z) one more = absurd more
some_more file later None (Some y) c one more = absurd one
some_more file later (Some x) None c one more = absurd one
some_more file later (Some x) (Some y) None one more = absurd more

pub some_here : (file : Output) (later : List Output) (a b : Option Files) → (b ≡ a) ⊎ Both (ForSome file.bytes (WrittenIn (string_bytes file.name) file.bytes)) a b → Both (MakesSome (file ∷ later)) a b
some_here file later None None h = tt
some_here file later (Some x) (Some y) (inl is) =
    let same : y ≡ x = cc in
    inl (inl same)
some_here file later (Some x) (Some y) (inr front) = inl (inr front)
some_here file later None (Some y) (inl is) = cc
some_here file later None (Some y) (inr front) = absurd front
some_here file later (Some x) None (inl is) = cc
some_here file later (Some x) None (inr front) = absurd front

-- ---- creations

pub created_none : (a : Option (List (List ℕ))) → Both (CreatesAll []) a a
created_none None = tt
created_none (Some names) = sym (append-nil names)

-- a file is created, and then the later ones
pub created_more : (file : Output) (later : List Output) (a b c : Option (List (List ℕ))) → Both (CreatesOne (string_bytes file.name)) a b → Both (CreatesAll later) b c → Both (CreatesAll (file ∷ later)) a c
created_more file later None None None one more = tt
created_more file later (Some x) (Some y) (Some z) one more = more ∙ ap (λ (names : List (List ℕ)). names ++ names_of later) one ∙ append_assoc x (string_bytes file.name ∷ []) (names_of later)
created_more file later None None (Some z) one more = absurd more
created_more file later None (Some y) c one more = absurd one
created_more file later (Some x) None c one more = absurd one
created_more file later (Some x) (Some y) None one more = absurd more

pub front_more : (file : Output) (later : List Output) (a b c : Option (List (List ℕ))) → Both (CreatesOne (string_bytes file.name)) a b → Both (CreatesFront later) b c → Both (CreatesFront (file ∷ later)) a c
front_more file later None None None one more = tt
front_more file later (Some x) (Some y) (Some z) one (count, more) = (suc count, more ∙ ap (λ (names : List (List ℕ)). names ++ take count (names_of later)) one ∙ append_assoc x (string_bytes file.name ∷ []) (take count (names_of later)))
front_more file later None None (Some z) one more = absurd more
front_more file later None (Some y) c one more = absurd one
front_more file later (Some x) None c one more = absurd one
front_more file later (Some x) (Some y) None one more = absurd more

pub front_here : (file : Output) (later : List Output) (a b : Option (List (List ℕ))) → (b ≡ a) ⊎ Both (CreatesOne (string_bytes file.name)) a b → Both (CreatesFront (file ∷ later)) a b
front_here file later None None h = tt
front_here file later (Some x) (Some y) (inl is) =
    let same : y ≡ x = cc in
    (0, same ∙ sym (append-nil x))
front_here file later (Some x) (Some y) (inr one) = (1, one)
front_here file later None (Some y) (inl is) = cc
front_here file later None (Some y) (inr one) = absurd one
front_here file later (Some x) None (inl is) = cc
front_here file later (Some x) None (inr one) = absurd one

-- an end without files makes none
pub none_made : (a b : Option Files) → Both (MakesAll []) a b → b ≡ a
none_made None None h = refl
none_made (Some x) (Some y) h = ap (λ (f : Files). Some f) h
none_made None (Some y) h = absurd h
none_made (Some x) None h = absurd h

pub none_begun : (a b : Option Files) → Both (MakesSome []) a b → b ≡ a
none_begun None None h = refl
none_begun (Some x) (Some y) h = absurd h
none_begun None (Some y) h = absurd h
none_begun (Some x) None h = absurd h

pub makes_trans : (a b c : View) → OnlyMakes a b → OnlyMakes b c → OnlyMakes a c
makes_trans a b c x y = record { given = y.given ∙ x.given; said = y.said ∙ x.said; reads = y.reads ∙ x.reads; writes = omega (arith, x.writes, y.writes); shorts = omega (arith, x.shorts, y.shorts) }

-- all files are made, but only a front of the report is said
pub report_some : (end : End) (answer : Status) (a b c : View) → OnlyMakes a b → Both (MakesAll end.files) a.made b.made → Both (CreatesAll end.files) a.created b.created → OnlyPuts None b c → GivesSome None end.report b c → GivesUp answer a c → Tells end answer a c
report_some end answer a b c makes all created only some gives =
    let made : Both (MakesAll end.files) a.made c.made = subst (λ (files : Option Files). Both (MakesAll end.files) a.made files) (sym only.made) all in
    let said : Both (ForSome end.report (AddsPart end.report)) a.said c.said = subst (λ (text : Option (List ℕ)). Both (ForSome end.report (AddsPart end.report)) text c.said) makes.said (said_some end.report b c some) in
    let names : Both (CreatesAll end.files) a.created c.created = subst (λ (names : Option (List (List ℕ))). Both (CreatesAll end.files) a.created names) (sym only.created) created in
    inr (gives, inr (made, said, names))
