-- The files of an end of `make` or `row`, once they are made.
use Rattle.std.proofs.Common.{ℕ, ◌≡◌, ◌≢◌, List, [], ◌∷◌, ◌++◌, Option, Some, None, Bool, if◌then◌else◌, codes, map, string_bytes, refl, ap, ◌∙◌, subst}
use Rattle.std.specs.Prelude.{All, bytes_eq}
use Rattle.std.proofs.lemmas.Bool.{false_from_ne_true}
use Rattle.std.proofs.lemmas.List.Elements.{All-cons, All-head, All-nil, All-tail}
use Rattle.std.proofs.lemmas.Slice.Eq.{bytes_eq-Decides}
use Rattle.cell_io.specs.Desk.{Files, Both, Sets}
use Rattle.call_end.specs.declared.end.Output.{Output}
use Rattle.call_end.specs.Deliver.{MakesAll}
use Rattle.call_end.proofs.Delivered.{none_made}
use Rattle.spice_net.specs.declared.subckt.Subckt.{Subckt}
use Rattle.cell_run.proofs.FileNames.{apart_of, distinct_alone, distinct_drawn, distinct_one, distinct_three, distinct_two, first_of, told_files}
use Rattle.cell_run.specs.Created.{AreDistinct}
use Rattle.cell_run.specs.Evidence.{HasCell, HasEvidence, evidence_name}
use Rattle.cell_run.specs.Origin.{Origin, Search, File, Low, HasAll, HasDrawing, HasFiles, HasNoDrawing, cell_files}
use Rattle.cell_run.specs.Row.{HasLibrary}
use Rattle.call_end.specs.End.{named}

-- ---- one file

set_here : (name : List ℕ) (content : Option (List ℕ)) (old new : Files) → Sets name content old new → new name ≡ content
set_here name content old new sets = sets name ∙ ap (λ (b : Bool). if b then content else old name) ((bytes_eq-Decides name name).1 refl)

set_elsewhere : (name other : List ℕ) (content : Option (List ℕ)) (old new : Files) → Sets name content old new → other ≢ name → new other ≡ old other
set_elsewhere name other content old new sets differ =
    sets other ∙ ap (λ (b : Bool). if b then content else old other) (false_from_ne_true (bytes_eq other name) (λ e. differ ((bytes_eq-Decides other name).0 e)))

name_is : (file : Output) (name bytes : List ℕ) → named file ≡ (name, bytes) → string_bytes file.name ≡ name
name_is file name bytes is = ap (λ (x : List ℕ × List ℕ). x.0) is

bytes_are : (file : Output) (name bytes : List ℕ) → named file ≡ (name, bytes) → file.bytes ≡ bytes
bytes_are file name bytes is = ap (λ (x : List ℕ × List ℕ). x.1) is

set_so : (file : Output) (name bytes : List ℕ) (old new : Files) → named file ≡ (name, bytes) → Sets (string_bytes file.name) (Some file.bytes) old new → Sets name (Some bytes) old new
set_so file name bytes old new is sets =
    subst (λ (n : List ℕ). Sets n (Some bytes) old new) (name_is file name bytes is) (subst (λ (b : List ℕ). Sets (string_bytes file.name) (Some b) old new) (bytes_are file name bytes is) sets)

-- ---- all of them

first_is : (a b : List ℕ × List ℕ) (xs ys : List (List ℕ × List ℕ)) → a ∷ xs ≡ b ∷ ys → a ≡ b
first_is a b xs ys e = cc

rest_are : (a b : List ℕ × List ℕ) (xs ys : List (List ℕ × List ℕ)) → a ∷ xs ≡ b ∷ ys → xs ≡ ys
rest_are a b xs ys e = cc

-- what the files are after the first one is set, and then the others
with_first : (name bytes : List ℕ) (told : List (List ℕ × List ℕ)) (old mid new : Files) → AreDistinct (name ∷ map first_of told) → Sets name (Some bytes) old mid → HasAll told mid new → HasAll ((name, bytes) ∷ told) old new
with_first name bytes told old mid new apart set has = record {
  each =
      All-cons (λ (file : List ℕ × List ℕ). new file.0 ≡ Some file.1) (name, bytes) told
      (has.others name (apart_of name told apart.0) ∙ set_here name (Some bytes) old mid set) has.each;
  others = λ other differ.
      has.others other (All-tail (λ (file : List ℕ × List ℕ). other ≢ file.0) (name, bytes) told differ)
      ∙ set_elsewhere name other (Some bytes) old mid set (All-head (λ (file : List ℕ × List ℕ). other ≢ file.0) (name, bytes) told differ);
}

-- files of different names are there as they were made
all_made : (told : List (List ℕ × List ℕ)) (files : List Output) (old new : Files) → AreDistinct (map first_of told) → map named files ≡ told → MakesAll files old new → HasAll told old new
all_made [] [] old new apart is made = record {
  each = All-nil (λ (file : List ℕ × List ℕ). new file.0 ≡ Some file.1);
  others = λ name differ. ap (λ (f : Files). f name) made;
}
all_made [] (file ∷ files) old new apart is made = cc
all_made (it ∷ told) [] old new apart is made = cc
all_made (it ∷ told) (file ∷ files) old new apart is (mid, sets, made) =
    with_first it.0 it.1 told old mid new apart (set_so file it.0 it.1 old mid (first_is (named file) it (map named files) told is) sets)
    (all_made told files mid new apart.1 (rest_are (named file) it (map named files) told is) made)

-- ---- by name

one_made : (file text : List ℕ) (old new : Files) → HasAll ((file, text) ∷ []) old new → HasEvidence file text old new
one_made file text old new has = record {
  evidence = All-head (λ (it : List ℕ × List ℕ). new it.0 ≡ Some it.1) (file, text) [] has.each;
  others = λ name differ. has.others name (All-cons (λ (it : List ℕ × List ℕ). name ≢ it.0) (file, text) [] differ (All-nil (λ (it : List ℕ × List ℕ). name ≢ it.0)));
}

library_alone : (out bytes : List ℕ) (old new : Files) → HasEvidence (out ++ codes ".gds") bytes old new → HasLibrary out bytes old new
library_alone out bytes old new has = record { library = has.evidence; others = has.others }

-- a name that is that of no drawing
no_drawing : (name out bytes summary : List ℕ) → name ≢ out ++ codes ".gds" → name ≢ out ++ codes ".lef" → All (λ (it : List ℕ × List ℕ). name ≢ it.0) (cell_files out bytes summary)
no_drawing name out bytes summary no_gds no_lef =
    All-cons (λ (it : List ℕ × List ℕ). name ≢ it.0) (out ++ codes ".gds", bytes) ((out ++ codes ".lef", summary) ∷ []) no_gds
    (All-cons (λ (it : List ℕ × List ℕ). name ≢ it.0) (out ++ codes ".lef", summary) [] no_lef (All-nil (λ (it : List ℕ × List ℕ). name ≢ it.0)))

drawing_made : (out bytes summary : List ℕ) (old new : Files) → HasAll (cell_files out bytes summary) old new → HasDrawing out bytes summary old new
drawing_made out bytes summary old new has = record {
  drawing = All-head Holds (out ++ codes ".gds", bytes) ((out ++ codes ".lef", summary) ∷ []) has.each;
  lef = All-head Holds (out ++ codes ".lef", summary) [] (All-tail Holds (out ++ codes ".gds", bytes) ((out ++ codes ".lef", summary) ∷ []) has.each);
  others = λ name no_gds no_lef. has.others name (no_drawing name out bytes summary no_gds no_lef);
}
  where
    Holds : List ℕ × List ℕ → Type 0
    Holds it = new it.0 ≡ Some it.1

cell_all : (file out text bytes summary : List ℕ) (old new : Files) → HasAll ((file, text) ∷ cell_files out bytes summary) old new → HasCell file out text bytes summary old new
cell_all file out text bytes summary old new has = record {
  evidence = All-head Holds (file, text) (cell_files out bytes summary) has.each;
  drawing = All-head Holds (out ++ codes ".gds", bytes) ((out ++ codes ".lef", summary) ∷ []) drawn;
  lef = All-head Holds (out ++ codes ".lef", summary) [] (All-tail Holds (out ++ codes ".gds", bytes) ((out ++ codes ".lef", summary) ∷ []) drawn);
  others = λ name differ no_gds no_lef. has.others name (All-cons (λ (it : List ℕ × List ℕ). name ≢ it.0) (file, text) (cell_files out bytes summary) differ (no_drawing name out bytes summary no_gds no_lef));
}
  where
    Holds : List ℕ × List ℕ → Type 0
    Holds it = new it.0 ≡ Some it.1

    drawn : All Holds (cell_files out bytes summary)
    drawn = All-tail Holds (file, text) (cell_files out bytes summary) has.each

-- ---- where they are told

both_so : {X : Type 0} (R S : X → X → Type 0) → ((x y : X) → R x y → S x y) → (a b : Option X) → Both R a b → Both S a b
both_so R S f None None h = tt
both_so R S f (Some x) (Some y) h = f x y h
both_so R S f None (Some y) h = absurd h
both_so R S f (Some x) None h = absurd h

both_all : (told : List (List ℕ × List ℕ)) (R : Files → Files → Type 0) (files : List Output) (old new : Option Files) → ((x y : Files) → HasAll told x y → R x y) → AreDistinct (map first_of told) → map named files ≡ told → Both (MakesAll files) old new → Both R old new
both_all told R files old new so apart is made = both_so (MakesAll files) R (λ x y h. so x y (all_made told files x y apart is h)) old new made

-- no file
none_are : (files : List Output) → map named files ≡ [] → files ≡ []
none_are [] is = refl
none_are (file ∷ more) is = cc

pub none_left : (files : List Output) (old new : Option Files) → map named files ≡ [] → Both (MakesAll files) old new → new ≡ old
none_left files old new is made = none_made old new (subst (λ (fs : List Output). Both (MakesAll fs) old new) (none_are files is) made)

pub evidence_made : (file text : List ℕ) (files : List Output) (old new : Option Files) → map named files ≡ (file, text) ∷ [] → Both (MakesAll files) old new → Both (HasEvidence file text) old new
evidence_made file text files old new is made = both_all ((file, text) ∷ []) (HasEvidence file text) files old new (one_made file text) (distinct_one file) is made

pub library_made : (out bytes : List ℕ) (files : List Output) (old new : Option Files) → map named files ≡ (out ++ codes ".gds", bytes) ∷ [] → Both (MakesAll files) old new → Both (HasLibrary out bytes) old new
library_made out bytes files old new is made = both_so (HasEvidence (out ++ codes ".gds") bytes) (HasLibrary out bytes) (library_alone out bytes) old new (evidence_made (out ++ codes ".gds") bytes files old new is made)

-- ---- by the origin of the row

pub files_made : (origin : Origin) (cell : Subckt) (out text bytes summary : List ℕ) (files : List Output) (old new : Option Files) → map named files ≡ told_files origin cell out text ++ cell_files out bytes summary → Both (MakesAll files) old new → Both (HasFiles origin cell out text bytes summary) old new
files_made (Search evidence) cell out text bytes summary files old new is made =
    both_all ((evidence_name evidence out, text) ∷ cell_files out bytes summary) (HasCell (evidence_name evidence out) out text bytes summary) files old new (cell_all (evidence_name evidence out) out text bytes summary) (distinct_three evidence out) is made
files_made (File evidence given) cell out text bytes summary files old new is made =
    both_all (cell_files out bytes summary) (HasDrawing out bytes summary) files old new (drawing_made out bytes summary) (distinct_two out) is made
files_made (Low evidence wiring tracks) cell out text bytes summary files old new is made =
    both_all (told_files (Low evidence wiring tracks) cell out text ++ cell_files out bytes summary) (HasFiles (Low evidence wiring tracks) cell out text bytes summary) files old new (λ x y h. h) (distinct_drawn (Low evidence wiring tracks) cell out text bytes summary) is made

pub none_drawn : (origin : Origin) (cell : Subckt) (out text : List ℕ) (files : List Output) (old new : Option Files) → map named files ≡ told_files origin cell out text → Both (MakesAll files) old new → Both (HasNoDrawing origin cell out text) old new
none_drawn (Search evidence) cell out text files old new is made = evidence_made (evidence_name evidence out) text files old new is made
none_drawn (File evidence given) cell out text files old new is made =
    both_so (MakesAll files) (λ (x y : Files). y ≡ x) (λ x y h. subst (λ (fs : List Output). MakesAll fs x y) (none_are files is) h) old new made
none_drawn (Low evidence wiring tracks) cell out text files old new is made =
    both_all (told_files (Low evidence wiring tracks) cell out text) (HasNoDrawing (Low evidence wiring tracks) cell out text) files old new (λ x y h. h) (distinct_alone (Low evidence wiring tracks) cell out text) is made
