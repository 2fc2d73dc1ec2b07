-- The structures of a library by their names, and what of each draws where it is referred to.
use Rattle.std.specs.HashMap.{get, get_by}
use Rattle.std.specs.Prelude.{ℕ, ◌≡◌, ◌==◌, nat_eq, Bool, true, false, List, [], ◌∷◌, length, option_map}
use Rattle.std.specs.Prelude.{Option, Some, None, Result, Ok, Err, if◌then◌else◌}
use Rattle.std.specs.Str.{bytes_eq}
use Rattle.box_geom.specs.declared.layer.Layer.{Layer}
use Rattle.gds_area.specs.Areas.{has_some}
use Rattle.gds_area.specs.declared.area.Area.{Area}
use Rattle.gds_area.specs.declared.fault.GdsFault.{GdsFault}
use Rattle.gds_record.specs.declared.types.RecordType.{RecordType}
use Rattle.gds_record.specs.declared.types.RecordType.TheVariants as record_type
use Rattle.gds_record.specs.Types.{type_numbered}
use Rattle.gds_record.specs.Records.{Item, items_from}
use Rattle.gds_read.specs.declared.structure.Lookup.{Lookup}
use Rattle.gds_read.specs.declared.structure.Lookup.TheVariants as lookup
use Rattle.gds_read.specs.declared.index.Index.{Index}
use Rattle.gds_read.specs.Structure.{is_type, Finds, IsWithin, behind_name, found_in}
use Rattle.gds_read.specs.Elements.{until, layer_of, xy_place, areas_of}

-- ---- what is drawn of a structure

-- there are some areas, or a fault
abbrev pub has_areas : Result (List Area) GdsFault → Bool
has_areas (Ok list) = has_some list
has_areas (Err f) = true

abbrev pub on_layer : Option Layer → Bool → Bool
on_layer None some = false
on_layer (Some on) some = some

-- It is on a layer of the drawing, and covers something or has a fault. Both are so before it is moved.
abbrev pub covers : RecordType → List Item → Bool
covers kind inside = on_layer (layer_of inside) (has_areas (areas_of (xy_place inside) inside kind))

-- Whether an element of a type may draw at its place, or have a fault. Texts draw nothing where no labels are
-- asked for, and elements of other types nothing at all.
abbrev pub element_draws : Bool → RecordType → List Item → Bool
element_draws labels record_type.Boundary inside = covers record_type.Boundary inside
element_draws labels record_type.Path inside = covers record_type.Path inside
element_draws labels record_type.Text inside = labels
element_draws labels record_type.SRef inside = true
element_draws labels record_type.ARef inside = true
element_draws labels _ inside = false

-- the same of a record, which others follow
abbrev pub draws : Bool → Option RecordType → List Item → Bool
draws labels None behind = false
draws labels (Some kind) behind = element_draws labels kind (until record_type.EndEl behind)

-- the places of the elements that may draw, up to the end of the structure
abbrev pub drawing_places : Bool → List Item → List ℕ
drawing_places labels [] = []
drawing_places labels (r ∷ rs) =
    if is_type record_type.EndStr r then [] else
    if draws labels (type_numbered r.code) rs then r.at ∷ drawing_places labels rs else drawing_places labels rs

-- ---- the index

abbrev pub found_as : Option Lookup → Lookup
found_as None = lookup.NoCell
found_as (Some found) = found

-- what is known of a name
abbrev pub looked_up : Index → List ℕ → Lookup
looked_up index name = found_as (get_by (λ k. bytes_eq name k.now) index.names)

-- the list of the structure whose name ends at a place, without labels
abbrev pub listed_at : Index → ℕ → Option (List ℕ)
listed_at index place = option_map (λ places. places.items) (get nat_eq index.drawing place)

abbrev pub IsListOf : List ℕ → ℕ → Option (List ℕ) → Type 0
IsListOf bytes place None = Unit {0}
IsListOf bytes place (Some places) = places ≡ drawing_places false (items_from bytes place)

-- Of each name the structures are found that have it, and what is listed is what is drawn of a structure.
pub record IsIndex (bytes : List ℕ) (index : Index) : Type 0 where
  pub finds : (name : List ℕ) → Finds bytes (looked_up index name) (found_in bytes name)
  pub within : (name : List ℕ) → IsWithin (length bytes) (looked_up index name)
  pub lists : (place : ℕ) → IsListOf bytes place (listed_at index place)

-- one structure more, whose name ends at a place
abbrev pub once_more : Lookup → ℕ → Lookup
once_more lookup.NoCell place = lookup.At place
once_more _ place = lookup.Twice

-- what was found of a name before a place, and what is found from there on
abbrev pub Met : List ℕ → Lookup → List (List Item) → List (List Item) → Type 0
Met bytes lookup.NoCell rest all = rest ≡ all
Met bytes (lookup.At place) rest all = items_from bytes place ∷ rest ≡ all
Met bytes lookup.Twice rest all = Finds bytes lookup.Twice all

pub record IsIndexBefore (bytes : List ℕ) (index : Index) (at : ℕ) : Type 0 where
  pub met :
      (name : List ℕ) →
      Met bytes (looked_up index name) (behind_name name (items_from bytes at)) (found_in bytes name)
  pub within : (name : List ℕ) → IsWithin (length bytes) (looked_up index name)
  pub lists : (place : ℕ) → IsListOf bytes place (listed_at index place)

-- A structure is added under a name, which ends at a place.
pub record IsStructureAdded (bytes : List ℕ) (old new : Index) (name : List ℕ) (place : ℕ) : Type 0 where
  pub names :
      (other : List ℕ) →
      looked_up new other
      ≡ (if bytes_eq name other then once_more (looked_up old name) place else looked_up old other)
  pub lists : (other : ℕ) → IsListOf bytes other (listed_at old other) → IsListOf bytes other (listed_at new other)

-- A name is added, and nothing else changes.
pub record IsNamed (old new : Index) (name : List ℕ) (place : ℕ) : Type 0 where
  pub names :
      (other : List ℕ) →
      looked_up new other
      ≡ (if bytes_eq name other then once_more (looked_up old name) place else looked_up old other)
  pub lists : (other : ℕ) → listed_at new other ≡ listed_at old other

-- The list of a structure is added, and nothing else changes.
pub record IsListed (old new : Index) (places : List ℕ) (place : ℕ) : Type 0 where
  pub names : (name : List ℕ) → looked_up new name ≡ looked_up old name
  pub lists : (other : ℕ) → listed_at new other ≡ (if place == other then Some places else listed_at old other)
