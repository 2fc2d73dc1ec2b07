-- The bytes of a written library, counted.
use Rattle.std.specs.Prelude.{ℕ, ◌≡◌, ◌+◌, ◌*◌, ◌≤◌, List, [], ◌∷◌, ◌++◌, length, map, sum_by, All}
use Rattle.std.specs.List.{flat_map}
use Rattle.std.proofs.Common.{refl, ap, arith, length-append}
use Rattle.std.proofs.lemmas.List.Sums.{sum_by-cons, sum_by-le}
use Rattle.cell_num.proofs.Lists.{all_imply}
use Rattle.box_geom.specs.declared.shape.Label.{Label}
use Rattle.box_geom.specs.declared.shape.Shape.{Shape}
use Rattle.box_geom.specs.declared.shape.Shapes.{Shapes}
use Rattle.gds_record.specs.declared.types.RecordType.TheVariants as record_type
use Rattle.gds_record.specs.Records.{Raw, raw, spelled, spelling}
use Rattle.gds_write.specs.Written.{head_records, label_records, padded, rectangle_records, times, written}
use Rattle.gds_write.proofs.Pieces.{corners_length, one_structure, point_length}
use Rattle.gds_write.proofs.Whole.{is_padded}
use Rattle.file_laws.specs.Size.{label_names, label_size, library_bytes}

spelled_length : (r : Raw) → length (spelled r) ≡ length r.content + 4
unfolding spelled
spelled_length r = omega arith

-- the bytes of records: four each, and their data
abbrev records_size : List Raw → ℕ
records_size [] = 0
records_size (r ∷ rs) = length r.content + 4 + records_size rs

spelling_length : (rs : List Raw) → length (spelling rs) ≡ records_size rs
spelling_length [] = refl
spelling_length (r ∷ rs) = omega (arith, length-append (spelled r) (spelling rs), spelled_length r, spelling_length rs)

size_append : (rs ss : List Raw) → records_size (rs ++ ss) ≡ records_size rs + records_size ss
size_append [] ss = omega arith
size_append (r ∷ rs) ss = omega (arith, size_append rs ss)

rectangle_size : (unit : ℕ) (s : Shape) → records_size (rectangle_records unit s) ≡ 64
rectangle_size unit s = omega (arith, corners_length unit s.rect)

rectangles_size : (unit : ℕ) (shapes : List Shape) → records_size (flat_map (rectangle_records unit) shapes) ≡ 64 * length shapes
rectangles_size unit [] = refl
rectangles_size unit (s ∷ ss) = omega (arith, size_append (rectangle_records unit s) (flat_map (rectangle_records unit) ss), rectangle_size unit s, rectangles_size unit ss)

one_label : (unit : ℕ) (l : Label) → records_size (label_records unit l) ≡ label_size l.name
one_label unit l = omega (arith, point_length unit l.x l.y)

labels_size : (unit : ℕ) (labels : List Label) → records_size (flat_map (label_records unit) labels) ≡ sum_by label_size (map (λ (l : Label). l.name) labels)
labels_size unit [] = refl
labels_size unit (l ∷ ls) = omega (arith, size_append (label_records unit l) (flat_map (label_records unit) ls), one_label unit l, labels_size unit ls, sum_by-cons label_size l.name (map (λ (l : Label). l.name) ls))

-- the records behind the elements of a library of one structure
abbrev tail_records : List Raw
tail_records = raw record_type.EndStr [] ∷ raw record_type.EndLib [] ∷ []

head_size : (name : List ℕ) (rest : List Raw) → records_size (head_records ++ (raw record_type.BgnStr times ∷ raw record_type.StrName (padded name) ∷ rest)) ≡ 98 + length (padded name) + records_size rest
head_size name rest = omega arith

pub written_size : (name : List ℕ) (shapes : Shapes) (unit : ℕ) → length (written name shapes unit) ≡ library_bytes name (length shapes.rects) (label_names shapes)
written_size name shapes unit =
    let rs : List Raw = flat_map (rectangle_records unit) shapes.rects in
    let ls : List Raw = flat_map (label_records unit) shapes.labels in
    let elements : List Raw = rs ++ (ls ++ tail_records) in
    let whole : List Raw = head_records ++ (raw record_type.BgnStr times ∷ raw record_type.StrName (padded name) ∷ elements) in
    let same : length (written name shapes unit) ≡ length (spelling whole) = ap (λ (t : List Raw). length (spelling t)) (one_structure name shapes unit) in
    let tail : records_size tail_records ≡ 8 = refl in
    omega (arith, same, spelling_length whole, head_size name elements, size_append rs (ls ++ tail_records), size_append ls tail_records, rectangles_size unit shapes.rects, labels_size unit shapes.labels, tail)

-- ---- at most so many

short_label : (name : List ℕ) → length name ≤ 64 → label_size name ≤ 101
short_label name few = omega (arith, few, (is_padded name).most)

labels_within : (names : List (List ℕ)) → All (λ (name : List ℕ). length name ≤ 64) names → sum_by label_size names ≤ 101 * length names
labels_within names few =
    let each : All (λ (name : List ℕ). label_size name ≤ 101) names = all_imply (λ (name : List ℕ). length name ≤ 64) (λ (name : List ℕ). label_size name ≤ 101) names short_label few in
    omega (arith, sum_by-le label_size 101 names each)

pub size_within : (name : List ℕ) (rectangles : ℕ) (labels : List (List ℕ)) → length name ≤ 32 → All (λ (label : List ℕ). length label ≤ 64) labels → library_bytes name rectangles labels ≤ 139 + 64 * rectangles + 101 * length labels
size_within name rectangles labels few short = omega (arith, few, (is_padded name).most, labels_within labels short)
