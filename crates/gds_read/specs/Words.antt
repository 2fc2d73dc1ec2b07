-- The grammar of a library in its written form, over the types of its records. Records whose type the
-- table does not have may be between them, but not before them.
--
--   library   ::= HEADER BGNLIB head structure* ENDLIB
--   head      ::= UNITS | LIBNAME UNITS | UNITS LIBNAME
--   structure ::= BGNSTR STRNAME element* ENDSTR
--   element   ::= (BOUNDARY | PATH | TEXT | SREF | AREF | NODE | BOX) content* ENDEL
use Rattle.std.specs.Prelude.{ℕ, suc, ◌≡◌, ◌≤◌, ◌==◌, ◌⊎◌, Bool, true, false}
use Rattle.std.specs.Prelude.{List, [], ◌∷◌, ◌++◌, Option, Some, None, if◌then◌else◌}
use Rattle.std.specs.List.{AllByRecursion}
use Rattle.gds_record.specs.declared.types.RecordType.{RecordType}
use Rattle.gds_record.specs.declared.types.RecordType.TheVariants as record_type
use Rattle.gds_record.specs.Types.{number_of, type_numbered}
use Rattle.gds_record.specs.Records.{Raw}
use Rattle.gds_read.specs.declared.grammar.ElementKind.{ElementKind}
use Rattle.gds_read.specs.declared.grammar.ElementKind.TheVariants as element
use Rattle.gds_read.specs.declared.grammar.Place.{Place}
use Rattle.gds_read.specs.Grammar.{element_begun, is_allowed, follows}

-- what may be inside an element, in any order
abbrev pub is_content : RecordType → Bool
is_content record_type.Layer = true
is_content record_type.DataType = true
is_content record_type.TextType = true
is_content record_type.Width = true
is_content record_type.Xy = true
is_content record_type.PathType = true
is_content record_type.SName = true
is_content record_type.ColRow = true
is_content record_type.StringText = true
is_content record_type.Presentation = true
is_content record_type.STrans = true
is_content record_type.Mag = true
is_content record_type.Angle = true
is_content record_type.PropAttr = true
is_content record_type.PropValue = true
is_content _ = false

abbrev pub count_of : RecordType → List RecordType → ℕ
count_of kind [] = 0
count_of kind (w ∷ ws) = if number_of w == number_of kind then suc (count_of kind ws) else count_of kind ws

-- A boundary and a path have one layer and one list of points, and at most one width and one form of
-- their ends. A text has one layer, one point and one string.
pub record HasShape (inside : List RecordType) : Type 0 where
  pub layer : count_of record_type.Layer inside ≡ 1
  pub xy : count_of record_type.Xy inside ≡ 1
  pub width : count_of record_type.Width inside ≤ 1
  pub path_type : count_of record_type.PathType inside ≤ 1

pub record HasText (inside : List RecordType) : Type 0 where
  pub layer : count_of record_type.Layer inside ≡ 1
  pub xy : count_of record_type.Xy inside ≡ 1
  pub string : count_of record_type.StringText inside ≡ 1

abbrev pub HasParts : ElementKind → List RecordType → Type 0
HasParts element.Boundary inside = HasShape inside
HasParts element.Path inside = HasShape inside
HasParts element.Text inside = HasText inside
HasParts element.Other inside = Unit {0}

pub record IsElement (word : List RecordType) : Type 0 where
  pub first : RecordType
  pub kind : ElementKind
  pub inside : List RecordType
  pub begins : element_begun first ≡ Some kind
  pub contents : AllByRecursion (λ w. is_content w ≡ true) inside
  pub parts : HasParts kind inside
  pub is : word ≡ first ∷ (inside ++ record_type.EndEl ∷ [])

-- words one after the other
abbrev pub in_a_row : List (List RecordType) → List RecordType
in_a_row [] = []
in_a_row (w ∷ ws) = w ++ in_a_row ws

pub record IsStructure (word : List RecordType) : Type 0 where
  pub elements : List (List RecordType)
  pub each : AllByRecursion IsElement elements
  pub is : word ≡ record_type.BgnStr ∷ record_type.StrName ∷ (in_a_row elements ++ record_type.EndStr ∷ [])

abbrev pub IsHead : List RecordType → Type 0
IsHead word =
    (word ≡ record_type.Units ∷ [])
    ⊎ (word ≡ record_type.LibName ∷ record_type.Units ∷ [])
    ⊎ (word ≡ record_type.Units ∷ record_type.LibName ∷ [])

pub record IsLibraryWord (word : List RecordType) : Type 0 where
  pub head : List RecordType
  pub structures : List (List RecordType)
  pub is_head : IsHead head
  pub each : AllByRecursion IsStructure structures
  pub is : word ≡ record_type.Header ∷ record_type.BgnLib ∷ (head ++ (in_a_row structures ++ record_type.EndLib ∷ []))

-- the table of places takes a word from one place to another
abbrev pub Accepts : Place → List RecordType → Place → Type 0
Accepts place [] last = place ≡ last
Accepts place (k ∷ ks) last = (is_allowed place k ≡ true) × Accepts (follows place k) ks last

-- the types of the records that the table has
abbrev pub with_type : Option RecordType → List RecordType → List RecordType
with_type None ws = ws
with_type (Some kind) ws = kind ∷ ws

abbrev pub types_of : List Raw → List RecordType
types_of [] = []
types_of (r ∷ rs) = with_type (type_numbered r.code) (types_of rs)
