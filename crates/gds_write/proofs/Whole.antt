-- The records of a written library are whole, and they are all that stands in its bytes.
use Rattle.std.proofs.Common.{ℕ, ◌≡◌, ◌+◌, ◌%◌, ◌≤◌, ltb, true, List, [], ◌∷◌, ◌++◌, length, codes, refl, sym, ap, subst, ◌∙◌, arith, length-append, inl, inr}
use Rattle.std.specs.List.{All, AllByRecursion, flat_map}
use Rattle.std.proofs.lemmas.Bool.{cases_eq, eq-eqb, ne_eqb, lt-ltb}
use Rattle.std.proofs.lemmas.List.{append-nil}
use Rattle.std.proofs.lemmas.List.Concat.{flat_map-cons}
use Rattle.std.proofs.lemmas.List.Elements.{All-head, All-nil, All-tail, All-weaker}
use Rattle.cell_num.proofs.Lists.{all_one}
use Rattle.box_geom.specs.declared.shape.Shape.{Shape}
use Rattle.box_geom.specs.declared.shape.Label.{Label}
use Rattle.box_geom.specs.declared.shape.Shapes.{Shapes}
use Rattle.gds_record.specs.Records.{Raw, raw, IsRaw, Item, Stream, placed, ends, records_from}
use Rattle.gds_record.specs.declared.record.RecFault.{RecFault}
use Rattle.gds_record.specs.declared.record.RecFault.TheVariants.{Cut}
use Rattle.gds_record.specs.declared.types.RecordType.{RecordType}
use Rattle.gds_record.specs.declared.types.RecordType.TheVariants as record_type
use Rattle.gds_record.proofs.Spelled.{join, stream_spelled, ends_at}
use Rattle.gds_record.proofs.Walks.{from_step}
use Rattle.gds_record.specs.Layers.{layer_number}
use Rattle.gds_write.specs.Written.{short, padded, point, corners, times, units, rectangle_records, reference_records, label_records, structure_records, head_records, all_records, library_of, cell_of, library_records, written, IsWritableName, IsWritableLabel, IsLabelUpTo, IsWritableRef, IsWritableStruct}
use Rattle.gds_write.specs.declared.library.Ref.{Ref}
use Rattle.gds_write.specs.declared.library.Struct.{Struct}
use Rattle.gds_write.proofs.Pieces.{point_length, corners_length}

-- ---- each record is whole

raw_of : (kind : RecordType) (content : List ℕ) → length content % 2 ≡ 0 → length content ≤ 100 → IsRaw (raw kind content)
raw_of kind content even few = record { short = omega (arith, few); even = omega (arith, even) }

-- filled up to an even length
pub record IsPadded (text : List ℕ) : Type 0 where
  pub even : length (padded text) % 2 ≡ 0
  pub most : length (padded text) ≤ length text + 1

pub is_padded : (text : List ℕ) → IsPadded text
is_padded text =
    elim (cases_eq (length text % 2) 0) [
      | inl even ↦ record { even = rw (eq-eqb _ _ even) even; most = rw (eq-eqb _ _ even) (omega arith) }
      | inr odd ↦ record { even = rw (ne_eqb _ _ odd) (omega (arith, odd, length-append text (0 ∷ []))); most = rw (ne_eqb _ _ odd) (omega (arith, length-append text (0 ∷ []))) }
    ]

-- the longest text that is written: the name of a label
abbrev most : ℕ
most = 68

text_raw : (kind : RecordType) (text : List ℕ) → length text ≤ most → IsRaw (raw kind (padded text))
text_raw kind text few = let p = is_padded text in raw_of kind (padded text) p.even (omega (arith, p.most, few))

rectangle_raw : (unit : ℕ) (s : Shape) → AllByRecursion IsRaw (rectangle_records unit s)
rectangle_raw unit s = (
  raw_of record_type.Boundary [] refl (omega arith),
  (
    raw_of record_type.Layer (short (layer_number s.layer)) refl (omega arith),
    (
      raw_of record_type.DataType (short 0) refl (omega arith),
      (
        raw_of record_type.Xy (corners unit s.rect) (ap (λ (n : ℕ). n % 2) (corners_length unit s.rect)) (omega (arith, corners_length unit s.rect)),
        (raw_of record_type.EndEl [] refl (omega arith), tt),
      ),
    ),
  ),
)

label_raw : (unit : ℕ) (l : Label) → length l.name ≤ most → AllByRecursion IsRaw (label_records unit l)
label_raw unit l few = (
  raw_of record_type.Text [] refl (omega arith),
  (
    raw_of record_type.Layer (short (layer_number l.layer)) refl (omega arith),
    (
      raw_of record_type.TextType (short 0) refl (omega arith),
      (
        raw_of record_type.Xy (point unit l.x l.y) (ap (λ (n : ℕ). n % 2) (point_length unit l.x l.y)) (omega (arith, point_length unit l.x l.y)),
        (
          text_raw record_type.StringText l.name few,
          (raw_of record_type.EndEl [] refl (omega arith), tt),
        ),
      ),
    ),
  ),
)

reference_raw : (unit : ℕ) (r : Ref) → length r.name ≤ most → AllByRecursion IsRaw (reference_records unit r)
reference_raw unit r few = (
  raw_of record_type.SRef [] refl (omega arith),
  (
    text_raw record_type.SName r.name few,
    (
      raw_of record_type.Xy (point unit r.x r.y) (ap (λ (n : ℕ). n % 2) (point_length unit r.x r.y)) (omega (arith, point_length unit r.x r.y)),
      (raw_of record_type.EndEl [] refl (omega arith), tt),
    ),
  ),
)

head_raw : AllByRecursion IsRaw head_records
head_raw = (
  raw_of record_type.Header (short 600) refl (omega arith),
  (
    raw_of record_type.BgnLib times refl (omega arith),
    (
      raw_of record_type.LibName (padded (codes "cellgen")) refl (omega arith),
      (raw_of record_type.Units units refl (omega arith), tt),
    ),
  ),
)

both : (rs ss : List Raw) → AllByRecursion IsRaw rs → AllByRecursion IsRaw ss → AllByRecursion IsRaw (rs ++ ss)
both [] ss all more = more
both (r ∷ rs) ss all more = (all.0, both rs ss all.1 more)

pieces_raw : {X : Type 0} (P : X → Type 0) (f : X → List Raw) (xs : List X) → ((x : X) → P x → AllByRecursion IsRaw (f x)) → All P xs → AllByRecursion IsRaw (flat_map f xs)
pieces_raw P f [] each all = tt
pieces_raw P f (x ∷ xs) each all =
    subst (λ (t : List Raw). AllByRecursion IsRaw t) (sym (flat_map-cons f x xs)) (both (f x) (flat_map f xs) (each x (All-head P x xs all)) (pieces_raw P f xs each (All-tail P x xs all)))

rectangles_raw : (unit : ℕ) (shapes : List Shape) → AllByRecursion IsRaw (flat_map (rectangle_records unit) shapes)
rectangles_raw unit [] = tt
rectangles_raw unit (s ∷ ss) = both (rectangle_records unit s) (flat_map (rectangle_records unit) ss) (rectangle_raw unit s) (rectangles_raw unit ss)

-- every name fits its record
pub record HasShortNames (s : Struct) : Type 0 where
  pub name : length s.name ≤ most
  pub refs : All (λ (r : Ref). length r.name ≤ most) s.refs
  pub labels : All (λ (l : Label). length l.name ≤ most) s.shapes.labels

pub cell_short : (name : List ℕ) (shapes : Shapes) (unit : ℕ) → IsWritableName name → All (IsWritableLabel unit) shapes.labels → HasShortNames (cell_of name shapes)
cell_short name shapes unit named labels = record {
  name = omega (arith, named.most);
  refs = All-nil (λ (r : Ref). length r.name ≤ most);
  labels = All-weaker (IsWritableLabel unit) (λ (l : Label). length l.name ≤ most) (λ l is. omega (arith, is.most)) shapes.labels labels;
}

struct_short : (unit : ℕ) (s : Struct) → IsWritableStruct unit s → HasShortNames s
struct_short unit s is = record {
  name = omega (arith, is.name.most);
  refs = All-weaker (IsWritableRef unit) (λ (r : Ref). length r.name ≤ most) (λ r fits. omega (arith, fits.name.most)) s.refs is.refs;
  labels = All-weaker (IsLabelUpTo 68 unit) (λ (l : Label). length l.name ≤ most) (λ l fits. fits.most) s.shapes.labels is.labels;
}

structure_raw : (unit : ℕ) (s : Struct) → HasShortNames s → AllByRecursion IsRaw (structure_records unit s)
structure_raw unit s is =
    let rs : List Raw = flat_map (rectangle_records unit) s.shapes.rects in
    let fs : List Raw = flat_map (reference_records unit) s.refs in
    let ls : List Raw = flat_map (label_records unit) s.shapes.labels in
    let end : List Raw = raw record_type.EndStr [] ∷ [] in
    let refs : AllByRecursion IsRaw fs = pieces_raw (λ (r : Ref). length r.name ≤ most) (reference_records unit) s.refs (reference_raw unit) is.refs in
    let labels : AllByRecursion IsRaw ls = pieces_raw (λ (l : Label). length l.name ≤ most) (label_records unit) s.shapes.labels (label_raw unit) is.labels in
    let elements : AllByRecursion IsRaw (rs ++ (fs ++ (ls ++ end))) = both rs (fs ++ (ls ++ end)) (rectangles_raw unit s.shapes.rects) (both fs (ls ++ end) refs (both ls end labels (raw_of record_type.EndStr [] refl (omega arith), tt))) in
    (raw_of record_type.BgnStr times refl (omega arith), (text_raw record_type.StrName s.name is.name, elements))

library_raw : (structs : List Struct) (unit : ℕ) → All HasShortNames structs → AllByRecursion IsRaw (all_records structs unit)
library_raw structs unit short =
    let end : List Raw = raw record_type.EndLib [] ∷ [] in
    let ss : List Raw = flat_map (structure_records unit) structs in
    both head_records (ss ++ end) head_raw (both ss end (pieces_raw HasShortNames (structure_records unit) structs (structure_raw unit) short) (raw_of record_type.EndLib [] refl (omega arith), tt))

-- ---- nothing stands behind them

at_end : (bytes : List ℕ) → records_from bytes (length bytes) ≡ record { items = []; fault = Cut (length bytes) }
at_end bytes = let short : ltb (length bytes) (length bytes + 4) ≡ true = lt-ltb _ _ (omega arith) in from_step bytes (length bytes) ∙ (rw short refl)

join_end : (items : List Item) (fault : RecFault) → join items (record { items = []; fault = fault }) ≡ record { items = items; fault = fault }
join_end [] fault = refl
join_end (i ∷ is) fault = ap (λ (s : Stream). record { items = i ∷ s.items; fault = s.fault }) (join_end is fault)

-- all records of a library with short names
short_stream : (structs : List Struct) (unit : ℕ) → All HasShortNames structs → records_from (library_of structs unit) 0 ≡ record { items = placed 0 (all_records structs unit); fault = Cut (length (library_of structs unit)) }
short_stream structs unit short =
    let bytes : List ℕ = library_of structs unit in
    let rs : List Raw = all_records structs unit in
    let read : records_from bytes 0 ≡ join (placed 0 rs) (records_from bytes (ends 0 rs)) = stream_spelled bytes [] [] rs 0 (library_raw structs unit short) refl (sym (append-nil bytes)) in
    let end : ends 0 rs ≡ length bytes = omega (arith, ends_at 0 rs) in
    read ∙ (ap (λ (n : ℕ). join (placed 0 rs) (records_from bytes n)) end ∙ (ap (λ (s : Stream). join (placed 0 rs) s) (at_end bytes) ∙ join_end (placed 0 rs) (Cut (length bytes))))

pub written_stream : (name : List ℕ) (shapes : Shapes) (unit : ℕ) → IsWritableName name → All (IsWritableLabel unit) shapes.labels → records_from (written name shapes unit) 0 ≡ record { items = placed 0 (library_records name shapes unit); fault = Cut (length (written name shapes unit)) }
written_stream name shapes unit named labels = short_stream (cell_of name shapes ∷ []) unit (all_one HasShortNames (cell_of name shapes) (cell_short name shapes unit named labels))

pub library_stream : (structs : List Struct) (unit : ℕ) → All (IsWritableStruct unit) structs → records_from (library_of structs unit) 0 ≡ record { items = placed 0 (all_records structs unit); fault = Cut (length (library_of structs unit)) }
library_stream structs unit is = short_stream structs unit (All-weaker (IsWritableStruct unit) HasShortNames (struct_short unit) structs is)
