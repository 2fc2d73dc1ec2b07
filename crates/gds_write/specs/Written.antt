-- The records of a GDSII library (Stream format, release 6), and their bytes.
use Rattle.std.specs.Prelude.{ℕ, ℤ, pos, ◌*ℤ◌, ◌≤◌, ◌%◌, ◌==◌}
use Rattle.std.specs.Prelude.{List, [], ◌∷◌, ◌++◌, length, if◌then◌else◌, replicate, codes, FitsSigned, All}
use Rattle.std.specs.Int.{w16, w32, to_be_bytes, cast_unsigned}
use Rattle.std.specs.List.{flat_map}
use Rattle.box_geom.specs.Rectangle.{Rectangle}
use Rattle.box_geom.specs.declared.shape.Shape.{Shape}
use Rattle.box_geom.specs.declared.shape.Label.{Label}
use Rattle.box_geom.specs.declared.shape.Shapes.{Shapes}
use Rattle.gds_record.specs.Layers.{layer_number}
use Rattle.gds_record.specs.Records.{Raw, raw, spelling}
use Rattle.gds_record.specs.declared.types.RecordType.TheVariants as record_type
use Rattle.gds_write.specs.declared.library.Ref.{Ref}
use Rattle.gds_write.specs.declared.library.Struct.{Struct}

-- a two-byte integer, the high byte first
abbrev pub short : ℕ → List ℕ
short n = to_be_bytes w16 n

-- a coordinate in nanometres, a four-byte integer in two's complement, the high byte first
unfoldable pub long : ℕ → ℤ → List ℕ
long unit z = to_be_bytes w32 (cast_unsigned w32 (z *ℤ pos unit))

-- text has an even length: one zero byte fills it up
abbrev pub padded : List ℕ → List ℕ
padded text = if length text % 2 == 0 then text else text ++ 0 ∷ []

unfoldable pub point : ℕ → ℤ → ℤ → List ℕ
point unit x y = long unit x ++ long unit y

-- the corners from the lower left one round to it again: upward, to the right, downward
unfoldable pub corners : ℕ → Rectangle → List ℕ
corners unit r =
    point unit r.x1 r.y1
    ++ (point unit r.x1 r.y2
    ++ (point unit r.x2 r.y2 ++ (point unit r.x2 r.y1 ++ point unit r.x1 r.y1)))

-- a boundary element
abbrev pub rectangle_records : ℕ → Shape → List Raw
rectangle_records unit s =
    raw record_type.Boundary []
    ∷ raw record_type.Layer (short (layer_number s.layer))
    ∷ raw record_type.DataType (short 0)
    ∷ raw record_type.Xy (corners unit s.rect)
    ∷ raw record_type.EndEl []
    ∷ []

-- a text element
abbrev pub label_records : ℕ → Label → List Raw
label_records unit l =
    raw record_type.Text []
    ∷ raw record_type.Layer (short (layer_number l.layer))
    ∷ raw record_type.TextType (short 0)
    ∷ raw record_type.Xy (point unit l.x l.y)
    ∷ raw record_type.StringText (padded l.name)
    ∷ raw record_type.EndEl []
    ∷ []

-- the last change and the last access, six two-byte integers each, left empty
abbrev pub times : List ℕ
times = replicate 24 0

-- A database unit in user units, 0.001, and in metres, 10^-9: each the eight-byte real with a 53-bit
-- fraction that is nearest.
abbrev pub units : List ℕ
units =
    0x3e ∷ 0x41 ∷ 0x89 ∷ 0x37 ∷ 0x4b ∷ 0xc6 ∷ 0xa7 ∷ 0xf0
    ∷ 0x39 ∷ 0x44 ∷ 0xb8 ∷ 0x2f ∷ 0xa0 ∷ 0x9b ∷ 0x5a ∷ 0x54 ∷ []

-- a reference element: neither mirrored nor turned
abbrev pub reference_records : ℕ → Ref → List Raw
reference_records unit r =
    raw record_type.SRef []
    ∷ raw record_type.SName (padded r.name)
    ∷ raw record_type.Xy (point unit r.x r.y)
    ∷ raw record_type.EndEl []
    ∷ []

-- a structure: first the rectangles, then the references, then the labels
abbrev pub structure_records : ℕ → Struct → List Raw
structure_records unit s =
    raw record_type.BgnStr times
    ∷ raw record_type.StrName (padded s.name)
    ∷ (flat_map (rectangle_records unit) s.shapes.rects
    ++ (flat_map (reference_records unit) s.refs
    ++ (flat_map (label_records unit) s.shapes.labels ++ raw record_type.EndStr [] ∷ [])))

-- the records before the structures, of release 6.0
abbrev pub head_records : List Raw
head_records =
    raw record_type.Header (short 600)
    ∷ raw record_type.BgnLib times
    ∷ raw record_type.LibName (padded (codes "cellgen"))
    ∷ raw record_type.Units units
    ∷ []

-- all records: the structures in their order, and the end of the library after them
abbrev pub all_records : List Struct → ℕ → List Raw
all_records structs unit = head_records ++ (flat_map (structure_records unit) structs ++ raw record_type.EndLib [] ∷ [])

-- the bytes of the library
abbrev pub library_of : List Struct → ℕ → List ℕ
library_of structs unit = spelling (all_records structs unit)

-- a structure that refers to no other
abbrev pub cell_of : List ℕ → Shapes → Struct
cell_of name shapes = record { name = name; shapes = shapes; refs = [] }

-- a library with that one structure: its records, and its bytes
abbrev pub library_records : List ℕ → Shapes → ℕ → List Raw
library_records name shapes unit = all_records (cell_of name shapes ∷ []) unit

abbrev pub written : List ℕ → Shapes → ℕ → List ℕ
written name shapes unit = library_of (cell_of name shapes ∷ []) unit

-- a coordinate in nanometres is a four-byte integer
abbrev pub Fits : ℕ → ℤ → Type 0
Fits unit z = FitsSigned w32 (z *ℤ pos unit)

pub record IsWritableShape (unit : ℕ) (s : Shape) : Type 0 where
  pub x1 : Fits unit s.rect.x1
  pub y1 : Fits unit s.rect.y1
  pub x2 : Fits unit s.rect.x2
  pub y2 : Fits unit s.rect.y2

-- a label whose name has 1 to that many bytes
pub record IsLabelUpTo (limit unit : ℕ) (l : Label) : Type 0 where
  pub x : Fits unit l.x
  pub y : Fits unit l.y
  pub some : 1 ≤ length l.name
  pub most : length l.name ≤ limit

abbrev pub IsWritableLabel : ℕ → Label → Type 0
IsWritableLabel unit l = IsLabelUpTo 64 unit l

pub record IsWritableName (name : List ℕ) : Type 0 where
  pub some : 1 ≤ length name
  pub most : length name ≤ 32

pub record IsWritableRef (unit : ℕ) (r : Ref) : Type 0 where
  pub name : IsWritableName r.name
  pub x : Fits unit r.x
  pub y : Fits unit r.y

pub record IsWritableStruct (unit : ℕ) (s : Struct) : Type 0 where
  pub name : IsWritableName s.name
  pub rects : All (IsWritableShape unit) s.shapes.rects
  pub refs : All (IsWritableRef unit) s.refs
  pub labels : All (IsLabelUpTo 68 unit) s.shapes.labels
