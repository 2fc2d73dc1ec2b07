-- What contracts see of a desk, and what its calls do to it.
use Rattle.std.specs.Prelude.{ℕ, ◌≡◌, ◌+◌, ◌-◌, ◌^◌, ◌<◌, ◌≤◌, ◌↔◌, min, List, [], ◌∷◌, ◌++◌, length, take, drop}
use Rattle.std.specs.Prelude.{Option, Some, None, IsNone, MatchOption, bytes_eq, if◌then◌else◌}

-- files by name
abbrev pub Files : Type 0
Files = List ℕ → Option (List ℕ)

-- the files that reads answer from, the files made, the names of those created, in order and each as often as it was,
-- and the bytes said, each where the desk shows them; and how often reading, writing and the desk's own growth have
-- failed
pub record View : Type 0 where
  pub given : Option Files
  pub made : Option Files
  pub created : Option (List (List ℕ))
  pub said : Option (List ℕ)
  pub read_faults : ℕ
  pub write_faults : ℕ
  pub shorts : ℕ

-- a count rose, or is the greatest u64
abbrev pub Rose : ℕ → ℕ → Type 0
Rose before now = min (before + 1) (2 ^ 64 - 1) ≤ now

abbrev pub ReadingFailed : View → View → Type 0
ReadingFailed old new = Rose old.read_faults new.read_faults

pub record WritingFailed (old new : View) : Type 0 where
  pub rose : Rose old.write_faults new.write_faults
  pub shorts : new.shorts ≡ old.shorts

pub record MemoryFailed (old new : View) : Type 0 where
  pub rose : Rose old.shorts new.shorts
  pub writes : new.write_faults ≡ old.write_faults

-- nothing changed but the count of failed reads, which did not fall
pub record OnlyReads (old new : View) : Type 0 where
  pub given : new.given ≡ old.given
  pub made : new.made ≡ old.made
  pub created : new.created ≡ old.created
  pub said : new.said ≡ old.said
  pub reads : old.read_faults ≤ new.read_faults
  pub writes : new.write_faults ≡ old.write_faults
  pub shorts : new.shorts ≡ old.shorts

-- nothing changed but the files made and created, and the counts of failed writes and of short memory, which did not
-- fall
pub record OnlyMakes (old new : View) : Type 0 where
  pub given : new.given ≡ old.given
  pub said : new.said ≡ old.said
  pub reads : new.read_faults ≡ old.read_faults
  pub writes : old.write_faults ≤ new.write_faults
  pub shorts : old.shorts ≤ new.shorts

-- the same, and none was created
pub record OnlyAppends (old new : View) : Type 0 where
  pub given : new.given ≡ old.given
  pub created : new.created ≡ old.created
  pub said : new.said ≡ old.said
  pub reads : new.read_faults ≡ old.read_faults
  pub writes : old.write_faults ≤ new.write_faults
  pub shorts : old.shorts ≤ new.shorts

-- nothing changed but the bytes said, and the counts of failed writes and of short memory, which did not fall
pub record OnlySays (old new : View) : Type 0 where
  pub given : new.given ≡ old.given
  pub made : new.made ≡ old.made
  pub created : new.created ≡ old.created
  pub reads : new.read_faults ≡ old.read_faults
  pub writes : old.write_faults ≤ new.write_faults
  pub shorts : old.shorts ≤ new.shorts

-- no write failed, and memory was not short
pub record IsQuiet (old new : View) : Type 0 where
  pub writes : new.write_faults ≡ old.write_faults
  pub shorts : new.shorts ≡ old.shorts

-- the bytes of a file, where the files are shown and it is there
abbrev pub told : Option Files → List ℕ → Option (List ℕ)
told None name = None
told (Some files) name = files name

-- a file is called missing: where files are shown, exactly one that is not there; else only where reading failed
abbrev pub IsMissing : Type 0 → List ℕ → View → View → Type 0
IsMissing called name old new =
    MatchOption old.given (called → ReadingFailed old new) (λ files. called ↔ IsNone (files name))

-- bytes of a file from a place on were copied to the front of a buffer; none of them is the file's end
pub record ReadsPart (file : List ℕ) (from : ℕ) (buffer : List ℕ) (count : ℕ) : Type 0 where
  pub there : count ≤ length file - from
  pub bytes : take count buffer ≡ take count (drop from file)
  pub ended : count ≡ 0 → 0 < length buffer → length file ≤ from

-- the first bytes of a part went to the end of what was said
abbrev pub AddsPart : List ℕ → ℕ → List ℕ → List ℕ → Type 0
AddsPart part count old new = new ≡ old ++ take count part

abbrev pub IsHeld : Files → List ℕ → Type 0
IsHeld files name = (bytes : List ℕ) × (files name ≡ Some bytes)

-- the name has this content, each other name the content that it had
abbrev pub Sets : List ℕ → Option (List ℕ) → Files → Files → Type 0
Sets name content old new = (q : List ℕ) → new q ≡ (if bytes_eq q name then content else old q)

-- the file is there and empty, the others are as before
abbrev pub CreatedIn : List ℕ → Files → Files → Type 0
CreatedIn name old new = Sets name (Some []) old new

-- the name was created again
abbrev pub CreatesOne : List ℕ → List (List ℕ) → List (List ℕ) → Type 0
CreatesOne name old new = new ≡ old ++ name ∷ []

-- the file has the first bytes of the part at its end, the others are as before
abbrev pub AppendedIn : List ℕ → List ℕ → ℕ → Files → Files → Type 0
AppendedIn name part count old new =
    (bytes : List ℕ) → old name ≡ Some bytes → Sets name (Some (bytes ++ take count part)) old new

-- the file has the first bytes and no others, the other files are as before
abbrev pub WrittenIn : List ℕ → List ℕ → ℕ → Files → Files → Type 0
WrittenIn name bytes count old new = Sets name (Some (take count bytes)) old new

-- both are shown and related, or neither is shown
abbrev pub Both : {X : Type 0} → (X → X → Type 0) → Option X → Option X → Type 0
Both R None None = Unit {0}
Both R (Some x) (Some y) = R x y
Both R _ _ = ⊥

-- a relation with a number holds for some front of the bytes
abbrev pub ForSome : {X : Type 0} → List ℕ → (ℕ → X → X → Type 0) → X → X → Type 0
ForSome bytes R old new = (count : ℕ) × (count ≤ length bytes) × R count old new
