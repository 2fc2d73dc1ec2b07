-- Which cells are read back as they were written, and what is read of a library of several structures.
use Rattle.std.specs.Prelude.{ℕ, ◌≡◌, ◌≤◌, ℤ, ◌+ℤ◌, List, [], ◌∷◌, ◌++◌, length, map, find, Option, Some, None, All}
use Rattle.std.specs.List.{AllPairs, Contains, flat_map}
use Rattle.std.specs.Str.{bytes_eq}
use Rattle.box_geom.specs.Rectangle.{Rectangle, IsRectangle}
use Rattle.box_geom.specs.declared.shape.Shape.{Shape}
use Rattle.box_geom.specs.declared.shape.Label.{Label}
use Rattle.box_geom.specs.declared.shape.Shapes.{Shapes}
use Rattle.gds_write.specs.declared.library.Ref.{Ref}
use Rattle.gds_write.specs.declared.library.Struct.{Struct}
use Rattle.gds_write.specs.Written.{IsWritableName, IsWritableShape, IsWritableLabel, IsWritableStruct}

-- no zero byte is at its end, so that none is taken for filling
abbrev pub HasNoZeroEnd : List ℕ → Type 0
HasNoZeroEnd text = (front : List ℕ) → text ≡ front ++ 0 ∷ [] → ⊥

-- What may be written, with ten nanometres or more to a grid unit, at most 1,000,000 rectangles, and no
-- name that ends by a zero byte.
pub record IsReadable (name : List ℕ) (shapes : Shapes) (unit : ℕ) : Type 0 where
  pub enough : 10 ≤ unit
  pub few : length shapes.rects ≤ 1000000
  pub named : IsWritableName name
  pub named_whole : HasNoZeroEnd name
  pub rects : All (IsWritableShape unit) shapes.rects
  pub limits : All (λ (s : Shape). IsRectangle s.rect) shapes.rects
  pub labels : All (IsWritableLabel unit) shapes.labels
  pub labels_whole : All (λ (l : Label). HasNoZeroEnd l.name) shapes.labels

-- ---- libraries of several structures

-- a structure that may be written, of proper rectangles, and no name in it ends by a zero byte
pub record IsReadableStruct (unit : ℕ) (s : Struct) : Type 0 where
  pub writable : IsWritableStruct unit s
  pub named_whole : HasNoZeroEnd s.name
  pub limits : All (λ (r : Shape). IsRectangle r.rect) s.shapes.rects
  pub refs_whole : All (λ (r : Ref). HasNoZeroEnd r.name) s.refs
  pub labels_whole : All (λ (l : Label). HasNoZeroEnd l.name) s.shapes.labels

-- structures of different names, with ten nanometres or more to a grid unit
pub record AreReadable (structs : List Struct) (unit : ℕ) : Type 0 where
  pub enough : 10 ≤ unit
  pub each : All (IsReadableStruct unit) structs
  pub different : AllPairs (λ (s t : Struct). s.name ≡ t.name → ⊥) structs

-- the structure that has a name
abbrev pub structure_named : List Struct → List ℕ → Option Struct
structure_named structs name = find (λ (s : Struct). bytes_eq s.name name) structs

abbrev pub rects_of : Option Struct → List Shape
rects_of None = []
rects_of (Some s) = s.shapes.rects

-- a rectangle moved by these distances in x and in y
abbrev pub rect_moved : ℤ → ℤ → Rectangle → Rectangle
rect_moved x y r = record { x1 = r.x1 +ℤ x; y1 = r.y1 +ℤ y; x2 = r.x2 +ℤ x; y2 = r.y2 +ℤ y }

abbrev pub shape_moved : ℤ → ℤ → Shape → Shape
shape_moved x y s = record { layer = s.layer; rect = rect_moved x y s.rect }

-- what a reference shows: the rectangles of the structure that it names, moved to its point
abbrev pub referred_rects : List Struct → Ref → List Shape
referred_rects structs r = map (shape_moved r.x r.y) (rects_of (structure_named structs r.name))

-- the rectangles of a structure, then those of its references; its own labels alone
abbrev pub flat_shapes : List Struct → Struct → Shapes
flat_shapes structs s = record {
  rects = s.shapes.rects ++ flat_map (referred_rects structs) s.refs;
  labels = s.shapes.labels;
}

-- a reference to one of the structures, which refers to none itself
pub record IsToPlain (structs : List Struct) (r : Ref) : Type 0 where
  pub target : Struct
  pub there : Contains structs target
  pub named : target.name ≡ r.name
  pub plain : target.refs ≡ []
