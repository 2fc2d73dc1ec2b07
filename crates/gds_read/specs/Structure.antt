-- The structure that has a name.
use Rattle.std.specs.Prelude.{ℕ, ◌≡◌, ◌≤◌, ◌==◌, ◌&&◌, Bool, List, [], ◌∷◌, Result, Ok, Err, if◌then◌else◌}
use Rattle.std.specs.Str.{bytes_eq}
use Rattle.gds_record.specs.declared.types.RecordType.{RecordType}
use Rattle.gds_record.specs.declared.types.RecordType.TheVariants as record_type
use Rattle.gds_record.specs.Types.{number_of}
use Rattle.gds_record.specs.Records.{Item, items_from}
use Rattle.gds_area.specs.declared.fault.GdsFault.{GdsFault}
use Rattle.gds_area.specs.declared.fault.GdsFault.TheVariants as fault
use Rattle.gds_read.specs.declared.structure.Lookup.{Lookup}
use Rattle.gds_read.specs.declared.structure.Lookup.TheVariants as lookup

abbrev pub is_type : RecordType → Item → Bool
is_type kind r = r.code == number_of kind

-- a text without the zero bytes at its end
abbrev pub or_nothing : ℕ → List ℕ → List ℕ
or_nothing b [] = if b == 0 then [] else b ∷ []
or_nothing b (c ∷ cs) = b ∷ c ∷ cs

abbrev pub trimmed : List ℕ → List ℕ
trimmed [] = []
trimmed (b ∷ bs) = or_nothing b (trimmed bs)

abbrev pub is_named : List ℕ → Item → Bool
is_named name r = is_type record_type.StrName r && bytes_eq (trimmed r.content) name

-- what follows the name of each structure that has this name
abbrev pub behind_name : List ℕ → List Item → List (List Item)
behind_name name [] = []
behind_name name (r ∷ rs) = if is_named name r then rs ∷ behind_name name rs else behind_name name rs

abbrev pub found_in : List ℕ → List ℕ → List (List Item)
found_in bytes name = behind_name name (items_from bytes 0)

-- exactly one structure has the name
abbrev pub one_of : List ℕ → List (List Item) → Result (List Item) GdsFault
one_of name [] = Err fault.NoCell
one_of name (one ∷ []) = Ok one
one_of name (one ∷ other ∷ more) = Err (fault.Twice name)

-- none, two or more, or one, whose items begin at a place
abbrev pub Finds : List ℕ → Lookup → List (List Item) → Type 0
Finds bytes lookup.NoCell [] = Unit {0}
Finds bytes lookup.Twice (one ∷ other ∷ more) = Unit {0}
Finds bytes (lookup.At place) (one ∷ []) = one ≡ items_from bytes place
Finds bytes _ _ = ⊥

-- what was found before a place, and what is found from there on
abbrev pub SoFar : List ℕ → Lookup → List (List Item) → List (List Item) → Type 0
SoFar bytes lookup.NoCell rest all = rest ≡ all
SoFar bytes lookup.Twice rest all = ⊥
SoFar bytes (lookup.At place) rest all = items_from bytes place ∷ rest ≡ all

-- the place is within the bytes
abbrev pub IsWithin : ℕ → Lookup → Type 0
IsWithin size (lookup.At place) = place ≤ size
IsWithin size _ = Unit {0}
