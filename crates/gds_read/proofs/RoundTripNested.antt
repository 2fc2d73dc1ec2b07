-- The records of a written library, one list behind the other, and facts that go along them.
use Rattle.std.proofs.Common.{ℕ, ◌≡◌, List, [], ◌∷◌, ◌++◌, length, refl, sym, ap, subst, ◌∙◌, append_assoc}
use Rattle.std.specs.List.{All, flat_map}
use Rattle.box_geom.specs.declared.shape.Shape.{Shape}
use Rattle.box_geom.specs.declared.shape.Label.{Label}
use Rattle.gds_record.specs.declared.record.RecFault.TheVariants.{Cut}
use Rattle.gds_record.specs.declared.types.RecordType.TheVariants as record_type
use Rattle.gds_record.specs.Records.{Raw, raw, placed, records_from}
use Rattle.gds_write.specs.declared.library.Ref.{Ref}
use Rattle.gds_write.specs.declared.library.Struct.{Struct}
use Rattle.gds_write.specs.Written.{padded, times, rectangle_records, reference_records, label_records, structure_records, head_records, all_records, library_of, IsWritableStruct}
use Rattle.gds_write.proofs.Whole.{library_stream}

-- the records behind a structure's name, and what stands behind the structure
abbrev pub elements_records : ℕ → Struct → List Raw → List Raw
elements_records unit s rest = flat_map (rectangle_records unit) s.shapes.rects ++ (flat_map (reference_records unit) s.refs ++ (flat_map (label_records unit) s.shapes.labels ++ raw record_type.EndStr [] ∷ rest))

-- the records of structures, and the end of the library
abbrev pub structures_records : ℕ → List Struct → List Raw
structures_records unit [] = raw record_type.EndLib [] ∷ []
structures_records unit (s ∷ ss) = raw record_type.BgnStr times ∷ raw record_type.StrName (padded s.name) ∷ elements_records unit s (structures_records unit ss)

nested : (unit : ℕ) (structs : List Struct) → flat_map (structure_records unit) structs ++ raw record_type.EndLib [] ∷ [] ≡ structures_records unit structs
nested unit [] = refl
nested unit (s ∷ ss) =
    let more : List Raw = flat_map (structure_records unit) ss ++ raw record_type.EndLib [] ∷ [] in
    let first : flat_map (structure_records unit) (s ∷ ss) ++ raw record_type.EndLib [] ∷ [] ≡ raw record_type.BgnStr times ∷ raw record_type.StrName (padded s.name) ∷ elements_records unit s more = simp append_assoc in
    first ∙ ap (λ (t : List Raw). raw record_type.BgnStr times ∷ raw record_type.StrName (padded s.name) ∷ elements_records unit s t) (nested unit ss)

-- all records of a library
abbrev pub library_items : ℕ → List Struct → List Raw
library_items unit structs = head_records ++ structures_records unit structs

pub all_nested : (unit : ℕ) (structs : List Struct) → all_records structs unit ≡ library_items unit structs
all_nested unit structs = ap (λ (t : List Raw). head_records ++ t) (nested unit structs)

pub library_records_are : (unit : ℕ) (structs : List Struct) → All (IsWritableStruct unit) structs → records_from (library_of structs unit) 0 ≡ record { items = placed 0 (library_items unit structs); fault = Cut (length (library_of structs unit)) }
library_records_are unit structs is =
    library_stream structs unit is ∙ ap (λ (t : List Raw). record { items = placed 0 t; fault = Cut (length (library_of structs unit)) }) (all_nested unit structs)

-- what each element keeps that stands in front
along : {X : Type 0} (P : List Raw → Type 0) (f : X → List Raw) (rest : List Raw) → ((x : X) (more : List Raw) → P more → P (f x ++ more)) → P rest → (xs : List X) → P (flat_map f xs ++ rest)
along P f rest step base [] = base
along P f rest step base (x ∷ xs) = subst P (sym (append_assoc (f x) (flat_map f xs) rest)) (step x (flat_map f xs ++ rest) (along P f rest step base xs))

-- what is kept in front of every element
pub record IsKept (P : List Raw → Type 0) (unit : ℕ) : Type 0 where
  pub rectangle : (s : Shape) (more : List Raw) → P more → P (rectangle_records unit s ++ more)
  pub reference : (r : Ref) (more : List Raw) → P more → P (reference_records unit r ++ more)
  pub label : (l : Label) (more : List Raw) → P more → P (label_records unit l ++ more)

pub along_elements : (P : List Raw → Type 0) (unit : ℕ) → IsKept P unit → (s : Struct) (rest : List Raw) → P (raw record_type.EndStr [] ∷ rest) → P (elements_records unit s rest)
along_elements P unit kept s rest base =
    let end : List Raw = raw record_type.EndStr [] ∷ rest in
    let labels : P (flat_map (label_records unit) s.shapes.labels ++ end) = along P (label_records unit) end kept.label base s.shapes.labels in
    let refs : P (flat_map (reference_records unit) s.refs ++ (flat_map (label_records unit) s.shapes.labels ++ end)) = along P (reference_records unit) (flat_map (label_records unit) s.shapes.labels ++ end) kept.reference labels s.refs in
    along P (rectangle_records unit) (flat_map (reference_records unit) s.refs ++ (flat_map (label_records unit) s.shapes.labels ++ end)) kept.rectangle refs s.shapes.rects
