-- What is written has one structure.
use Rattle.std.proofs.Common.{ℕ, suc, ◌≡◌, List, [], ◌∷◌, ◌++◌, filter, length, refl, ap, ◌∙◌}
use Rattle.std.specs.List.{All, flat_map}
use Rattle.box_geom.specs.declared.shape.Shape.{Shape}
use Rattle.box_geom.specs.declared.shape.Label.{Label}
use Rattle.box_geom.specs.declared.shape.Shapes.{Shapes}
use Rattle.gds_record.specs.declared.types.RecordType.TheVariants as record_type
use Rattle.gds_record.specs.Records.{Raw, raw, Item, Stream, placed}
use Rattle.gds_read.specs.Structure.{is_type}
use Rattle.gds_write.specs.Written.{rectangle_records, label_records, library_records, written, IsWritableName, IsWritableLabel}
use Rattle.gds_write.proofs.Pieces.{one_structure}
use Rattle.gds_write.proofs.Whole.{written_stream}
use Rattle.cell_make.specs.Structures.{HasOneStructure}

abbrev starts : List Item → List Item
starts items = filter (is_type record_type.BgnStr) items

-- the records behind the elements
abbrev tail_records : List Raw
tail_records = raw record_type.EndStr [] ∷ raw record_type.EndLib [] ∷ []

no_label_starts : (unit : ℕ) (labels : List Label) (at : ℕ) → starts (placed at (flat_map (label_records unit) labels ++ tail_records)) ≡ []
no_label_starts unit [] at = refl
no_label_starts unit (l ∷ ls) at = no_label_starts unit ls _

none_starts : (unit : ℕ) (rects : List Shape) (labels : List Label) (at : ℕ) → starts (placed at (flat_map (rectangle_records unit) rects ++ (flat_map (label_records unit) labels ++ tail_records))) ≡ []
none_starts unit [] labels at = no_label_starts unit labels at
none_starts unit (s ∷ ss) labels at = none_starts unit ss labels _

one_starts : (name : List ℕ) (shapes : Shapes) (unit : ℕ) → length (starts (placed 0 (library_records name shapes unit))) ≡ 1
one_starts name shapes unit =
    ap (λ (rs : List Raw). length (starts (placed 0 rs))) (one_structure name shapes unit)
    ∙ ap (λ (items : List Item). suc (length items)) (none_starts unit shapes.rects shapes.labels _)

pub written_alone : (name : List ℕ) (shapes : Shapes) (unit : ℕ) → IsWritableName name → All (IsWritableLabel unit) shapes.labels → HasOneStructure (written name shapes unit)
written_alone name shapes unit named labels =
    ap (λ (s : Stream). length (starts s.items)) (written_stream name shapes unit named labels) ∙ one_starts name shapes unit
