-- How an end is delivered: its files are made in order, then its report is said.
use Rattle.std.specs.Prelude.{ℕ, ◌≡◌, ◌≤◌, ◌⊎◌, List, [], ◌∷◌, ◌++◌, Some, string_bytes, map, take}
use Rattle.cell_io.specs.Desk.{Files, View, Both, Sets, AddsPart, ForSome, WrittenIn, Rose}
use Rattle.call_end.specs.declared.end.End.{End}
use Rattle.call_end.specs.declared.end.Output.{Output}
use Rattle.call_end.specs.declared.status.Status.{Status}
use Rattle.call_end.specs.declared.status.Status.TheVariants as status

-- the file has all its bytes, the others are as before
abbrev pub Makes : Output → Files → Files → Type 0
Makes file old new = Sets (string_bytes file.name) (Some file.bytes) old new

-- all are as before, or, where this call created it, the file has a front of its bytes
abbrev pub MakesFront : Output → Files → Files → Type 0
MakesFront file old new = (new ≡ old) ⊎ ForSome file.bytes (WrittenIn (string_bytes file.name) file.bytes) old new

-- all files in order
abbrev pub MakesAll : List Output → Files → Files → Type 0
MakesAll [] old new = new ≡ old
MakesAll (file ∷ later) old new = (mid : Files) × Makes file old mid × MakesAll later mid new

-- some of them whole and in order, a front of the next one, and none of those after it
abbrev pub MakesSome : List Output → Files → Files → Type 0
MakesSome [] old new = ⊥
MakesSome (file ∷ later) old new =
    MakesFront file old new ⊎ ((mid : Files) × Makes file old mid × MakesSome later mid new)

-- the names of files, in order
abbrev pub names_of : List Output → List (List ℕ)
names_of files = map (λ file. string_bytes file.name) files

-- each file was created once, in order, and no other was
abbrev pub CreatesAll : List Output → List (List ℕ) → List (List ℕ) → Type 0
CreatesAll files old new = new ≡ old ++ names_of files

-- so it is of the first ones, and none after them was created
abbrev pub CreatesFront : List Output → List (List ℕ) → List (List ℕ) → Type 0
CreatesFront files old new = (count : ℕ) × (new ≡ old ++ take count (names_of files))

-- the text was added
abbrev pub Says : List ℕ → List ℕ → List ℕ → Type 0
Says text old new = new ≡ old ++ text

-- with its own status, all its files, each created once, and its report
abbrev pub TellsWhole : End → Status → View → View → Type 0
TellsWhole end answer old new =
    (answer ≡ end.status) × Both (MakesAll end.files) old.made new.made × Both (Says end.report) old.said new.said
    × Both (CreatesAll end.files) old.created new.created

-- some of its files, each created at most once, and nothing of its report, or all files and a front of the report
abbrev pub TellsSome : End → View → View → Type 0
TellsSome end old new =
    (Both (MakesSome end.files) old.made new.made × (new.said ≡ old.said)
    × Both (CreatesFront end.files) old.created new.created)
    ⊎ (Both (MakesAll end.files) old.made new.made × Both (ForSome end.report (AddsPart end.report)) old.said new.said
    × Both (CreatesAll end.files) old.created new.created)

-- writing failed, or the desk found no memory
abbrev pub GivesUp : Status → View → View → Type 0
GivesUp answer old new =
    ((answer ≡ status.WriteFault) × Rose old.write_faults new.write_faults)
    ⊎ ((answer ≡ status.NoMemory) × Rose old.shorts new.shorts)

abbrev pub Tells : End → Status → View → View → Type 0
Tells end answer old new = TellsWhole end answer old new ⊎ (GivesUp answer old new × TellsSome end old new)

-- what delivery leaves as it was
pub record OnlyTells (old new : View) : Type 0 where
  pub given : new.given ≡ old.given
  pub reads : new.read_faults ≡ old.read_faults
  pub writes : old.write_faults ≤ new.write_faults
  pub shorts : old.shorts ≤ new.shorts
