-- What the bytes of a library say of one structure: what its elements draw, or the first fault.
use Rattle.std.specs.Prelude.{ℕ, ◌≡◌, ◌==◌, ◌⊎◌, List, [], ◌∷◌, ◌++◌, length, Result, Ok, Err, if◌then◌else◌}
use Rattle.box_geom.specs.declared.shape.Shapes.{Shapes}
use Rattle.gds_record.specs.declared.types.RecordType.TheVariants as record_type
use Rattle.gds_record.specs.Records.{Item, items_from}
use Rattle.gds_area.specs.declared.fault.GdsFault.{GdsFault}
use Rattle.gds_area.specs.declared.fault.GdsFault.TheVariants as fault
use Rattle.gds_area.specs.declared.units.Grid.{Grid}
use Rattle.gds_read.specs.Real.{picometres_at}
use Rattle.cell_num.specs.Steps.{◌>>=◌}
use Rattle.gds_read.specs.Grammar.{first_pass_of}
use Rattle.gds_read.specs.Library.{IsLibrary, IsFirstFault}
use Rattle.gds_read.specs.Structure.{found_in, one_of}
use Rattle.gds_area.specs.declared.progress.Progress.{Progress}
use Rattle.gds_area.specs.Progress.{amount}
use Rattle.gds_read.specs.Elements.{Element, until, content_of, elements_of}
use Rattle.gds_read.specs.Flat.{File, file_of, drawn_by, drawn}

-- the second of the two reals of UNITS
abbrev pub unit_in : List ℕ → ℕ
unit_in units = if length units == 16 then picometres_at units 8 else 0

-- the UNITS of a library is before its first structure
abbrev pub units_of : List ℕ → List ℕ
units_of bytes = content_of record_type.Units (until record_type.BgnStr (items_from bytes 0))

abbrev pub grid_in : List ℕ → ℕ → Grid
grid_in bytes lambda = record { picometres = unit_in (units_of bytes); lambda_nm = lambda }

abbrev pub file_in : List ℕ → ℕ → File
file_in bytes lambda = file_of (grid_in bytes lambda) bytes

-- The whole library is looked at first, then the structure is looked for, then its elements are drawn
-- in order.
unfoldable pub decoded : List ℕ → List ℕ → ℕ → Result Shapes GdsFault
decoded bytes name lambda =
    first_pass_of bytes
    >>= λ end. one_of name (found_in bytes name)
    >>= λ records. drawn (file_in bytes lambda) 0 (elements_of records)
    >>= λ progress. Ok progress.shapes

abbrev pub Decodes : List ℕ → List ℕ → ℕ → Shapes → Type 0
Decodes bytes name lambda shapes = decoded bytes name lambda ≡ Ok shapes

abbrev pub GdsRefused : List ℕ → List ℕ → ℕ → GdsFault → Type 0
GdsRefused bytes name lambda f = decoded bytes name lambda ≡ Err f

-- Memory may run out anywhere; every other fault is the one that the bytes have.
abbrev pub IsRefused : List ℕ → List ℕ → ℕ → GdsFault → Type 0
IsRefused bytes name lambda fault.NoMemory = Unit {0}
IsRefused bytes name lambda f = GdsRefused bytes name lambda f

-- The same in other words: the bytes are a library, exactly one of its structures has the name, and
-- the shapes are what its elements draw in order.
pub record IsCell (bytes name : List ℕ) (lambda : ℕ) (shapes : Shapes) : Type 0 where
  pub end : ℕ
  pub records : List Item
  pub library : IsLibrary bytes end
  pub one : found_in bytes name ≡ records ∷ []
  pub refs : ℕ
  pub draws : drawn (file_in bytes lambda) 0 (elements_of records) ≡ Ok (record { shapes = shapes; refs = refs })

-- The first element that has a fault: those before it are drawn without one, and the rectangles and
-- references that they give count for the limit.
pub record IsFirstFaulty (file : File) (elements : List Element) (f : GdsFault) : Type 0 where
  pub before : List Element
  pub progress : Progress
  pub faulty : Element
  pub behind : List Element
  pub is : elements ≡ before ++ (faulty ∷ behind)
  pub drawn_before : drawn file 0 before ≡ Ok progress
  pub fault : drawn_by file (amount progress) faulty faulty.kind ≡ Err f

-- the bytes are a library, but no structure has the name
pub record HasNoCell (bytes name : List ℕ) (f : GdsFault) : Type 0 where
  pub end : ℕ
  pub library : IsLibrary bytes end
  pub none : found_in bytes name ≡ []
  pub fault : f ≡ fault.NoCell

-- they are a library, but two structures or more have the name
pub record HasTwice (bytes name : List ℕ) (f : GdsFault) : Type 0 where
  pub end : ℕ
  pub first : List Item
  pub second : List Item
  pub more : List (List Item)
  pub library : IsLibrary bytes end
  pub two : found_in bytes name ≡ first ∷ second ∷ more
  pub fault : f ≡ fault.Twice name

-- they are a library, exactly one structure has the name, but an element of it is faulty
pub record HasFaultyElement (bytes name : List ℕ) (lambda : ℕ) (f : GdsFault) : Type 0 where
  pub end : ℕ
  pub records : List Item
  pub library : IsLibrary bytes end
  pub one : found_in bytes name ≡ records ∷ []
  pub first : IsFirstFaulty (file_in bytes lambda) (elements_of records) f

-- why no cell is read
abbrev pub IsCellFault : List ℕ → List ℕ → ℕ → GdsFault → Type 0
IsCellFault bytes name lambda f =
    IsFirstFault bytes f ⊎ (HasNoCell bytes name f ⊎ (HasTwice bytes name f ⊎ HasFaultyElement bytes name lambda f))

abbrev pub IsTwiceOf : List ℕ → GdsFault → Type 0
IsTwiceOf name fault.NoMemory = Unit {0}
IsTwiceOf name f = f ≡ fault.Twice name
