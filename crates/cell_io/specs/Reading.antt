-- A file that is read part by part.
use Rattle.std.specs.Prelude.{ℕ, ◌≡◌, List, drop, Option, Some}
use Rattle.cell_io.specs.declared.reading.Reading.{Reading}

-- the file's name
abbrev pub name_of : {F : Type 0} → Reading F → List ℕ
name_of reading = reading.name.bytes

-- where it was left
abbrev pub place_of : {F : Type 0} → Reading F → ℕ
place_of reading = reading.place

-- the file itself
abbrev pub file_of : {F : Type 0} → Reading F → F
file_of reading = reading.file

-- where a file of this kind shows its bytes and its position, a read gives the bytes from that position on
abbrev pub LeavesTheRest : {F : Type 0} → (F → Option (List ℕ)) → (F → Option ℕ) → (F → Option (List ℕ)) → Type 0
LeavesTheRest {F} remaining position bytes =
    (f : F) → (at : ℕ) → (all : List ℕ) → position f ≡ Some at → bytes f ≡ Some all
    → remaining f ≡ Some (drop at all)
