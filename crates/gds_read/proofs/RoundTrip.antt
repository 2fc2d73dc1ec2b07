-- What is written is read back.
use Rattle.std.proofs.Common.{ℕ, ◌≡◌, ◌+◌, ◌*◌, ◌≤◌, List, [], ◌∷◌, ◌++◌, length, map, None, Result, Ok, refl, ap, ◌∙◌, arith, length-append, append-nil}
use Rattle.std.specs.List.{All, AllPairs, Contains, flat_map}
use Rattle.std.proofs.lemmas.List.Elements.{All-contains, All-nil, All-same, All-weaker}
use Rattle.cell_num.proofs.Lists.{all_one, contains_here}
use Rattle.box_geom.specs.Rectangle.{IsProper, IsRectangle}
use Rattle.box_geom.specs.declared.shape.Shape.{Shape}
use Rattle.box_geom.specs.declared.shape.Shapes.{Shapes}
use Rattle.gds_record.specs.declared.types.RecordType.TheVariants as record_type
use Rattle.gds_record.specs.Records.{Raw, raw, Item, Stream, placed}
use Rattle.gds_area.specs.declared.fault.GdsFault.{GdsFault}
use Rattle.cell_num.specs.Steps.{◌>>=◌}
use Rattle.gds_read.specs.Structure.{behind_name, found_in, one_of}
use Rattle.gds_read.specs.Elements.{elements_of, until, content_of}
use Rattle.gds_area.specs.declared.progress.Progress.{Progress}
use Rattle.gds_area.specs.Progress.{plain, rectangles, both}
use Rattle.gds_read.specs.Flat.{File, drawn, flat}
use Rattle.gds_read.specs.Decoding.{unit_in, file_in, decoded, Decodes}
use Rattle.gds_read.specs.RoundTrip.{HasNoZeroEnd, IsReadable, IsReadableStruct, AreReadable, IsToPlain, referred_rects, flat_shapes}
use Rattle.gds_read.proofs.RoundTripAccepted.{written_passes}
use Rattle.gds_read.proofs.RoundTripLocated.{IsFound}
use Rattle.gds_read.proofs.RoundTripMoved.{staying}
use Rattle.gds_read.proofs.RoundTripNested.{elements_records, library_records_are}
use Rattle.gds_read.proofs.RoundTripRedrawn.{file, shape_by, rectangles_taken, labels_taken, TakesBehind}
use Rattle.gds_read.proofs.RoundTripReferred.{items, found_of, references_taken, shown_by}
use Rattle.gds_write.specs.declared.library.Ref.{Ref}
use Rattle.gds_write.specs.declared.library.Struct.{Struct}
use Rattle.gds_write.specs.Written.{reference_records, label_records, library_of, cell_of, written, IsWritableStruct, IsWritableRef, IsWritableLabel, IsLabelUpTo}

same_shapes : (rects : List Shape) → map (shape_by (λ r. r)) rects ≡ rects
same_shapes [] = refl
same_shapes (s ∷ ss) = ap (λ (t : List Shape). s ∷ t) (same_shapes ss)

taken_flat : (structs : List Struct) (s : Struct) → both (rectangles (map (shape_by (λ r. r)) s.shapes.rects)) (both (shown_by structs s.refs) (plain (record { rects = []; labels = s.shapes.labels }))) ≡ record { shapes = flat_shapes structs s; refs = 0 + (length s.refs + 0) }
taken_flat structs s = rw (same_shapes s.shapes.rects, append-nil (flat_map (referred_rects structs) s.refs)) refl

-- the elements of a structure, behind which others may stand
structure_drawn : (structs : List Struct) (unit : ℕ) (s : Struct) (rest : List Raw) (at : ℕ) → AreReadable structs unit → Contains structs s → All (IsToPlain structs) s.refs → length (flat_shapes structs s).rects + length s.refs ≤ 1000000 → drawn (file unit (items unit structs)) 0 (elements_of (placed at (elements_records unit s rest))) ≡ Ok (record { shapes = flat_shapes structs s; refs = 0 + (length s.refs + 0) })
unfolding drawn
structure_drawn structs unit s rest at are there to few =
    let f : File = file unit (items unit structs) in
    let is : IsReadableStruct unit s = All-contains (IsReadableStruct unit) structs s are.each there in
    let size : length (flat_shapes structs s).rects ≡ length s.shapes.rects + length (flat_map (referred_rects structs) s.refs) = length-append s.shapes.rects (flat_map (referred_rects structs) s.refs) in
    let end : List Raw = raw record_type.EndStr [] ∷ rest in
    let own : ℕ = length s.shapes.rects in
    let labels : TakesBehind (flat 16 f) f None (own + (length (flat_map (referred_rects structs) s.refs) + length s.refs)) (flat_map (label_records unit) s.shapes.labels ++ end) (plain (record { rects = []; labels = s.shapes.labels })) =
    labels_taken (flat 16 f) (items unit structs) unit (own + (length (flat_map (referred_rects structs) s.refs) + length s.refs)) s.shapes.labels rest are.enough is.writable.labels is.labels_whole in
    let refs : TakesBehind (flat 16 f) f None own (flat_map (reference_records unit) s.refs ++ (flat_map (label_records unit) s.shapes.labels ++ end)) (both (shown_by structs s.refs) (plain (record { rects = []; labels = s.shapes.labels }))) =
    references_taken structs unit own s.refs (flat_map (label_records unit) s.shapes.labels ++ end) (plain (record { rects = []; labels = s.shapes.labels })) are is.writable.refs is.refs_whole to (omega (arith, few, size)) labels in
    rectangles_taken (flat 16 f) (items unit structs) None unit 0 (λ r. r) s.shapes.rects (flat_map (reference_records unit) s.refs ++ (flat_map (label_records unit) s.shapes.labels ++ end)) (both (shown_by structs s.refs) (plain (record { rects = []; labels = s.shapes.labels }))) are.enough (omega (arith, few, size)) (λ at. staying unit) (record {
      fit = is.writable.rects;
      proper = All-weaker (λ (s : Shape). IsRectangle s.rect) (λ (s : Shape). IsProper s.rect) (λ s limits. limits.proper) s.shapes.rects is.limits;
      limits = is.limits;
    }) (λ at n e. refs at n (omega (arith, e))) at 0 refl
    ∙ ap (λ (t : Progress). Ok t) (taken_flat structs s)

-- a library is read with its grid, and its database unit is a nanometre
file_back : (structs : List Struct) (unit : ℕ) → All (IsWritableStruct unit) structs → file_in (library_of structs unit) (2 * unit) ≡ file unit (items unit structs)
file_back structs unit is =
    ap (λ (s : Stream). record { grid = record { picometres = unit_in (content_of record_type.Units (until record_type.BgnStr s.items)); lambda_nm = 2 * unit }; records = s.items }) (library_records_are unit structs is)

all_writable : (structs : List Struct) (unit : ℕ) → AreReadable structs unit → All (IsWritableStruct unit) structs
all_writable structs unit are = All-weaker (IsReadableStruct unit) (IsWritableStruct unit) (λ s is. is.writable) structs are.each

pub flat_back : (structs : List Struct) (unit : ℕ) (s : Struct) → AreReadable structs unit → Contains structs s → All (IsToPlain structs) s.refs → length (flat_shapes structs s).rects + length s.refs ≤ 1000000 → Decodes (library_of structs unit) s.name (2 * unit) (flat_shapes structs s)
unfolding decoded
flat_back structs unit s are there to few =
    let bytes : List ℕ = library_of structs unit in
    let is : All (IsWritableStruct unit) structs = all_writable structs unit are in
    let found : IsFound unit s (behind_name s.name (items unit structs)) = found_of structs unit s are there in
    let body : List Item = placed found.at (elements_records unit s found.rest) in
    let one : one_of s.name (found_in bytes s.name) ≡ Ok body =
    ap (λ (t : Stream). one_of s.name (behind_name s.name t.items)) (library_records_are unit structs is) ∙ ap (λ (t : List (List Item)). one_of s.name t) found.is in
    ap (λ (r : Result ℕ GdsFault). r >>= λ end. one_of s.name (found_in bytes s.name) >>= λ records. drawn (file_in bytes (2 * unit)) 0 (elements_of records) >>= λ progress. Ok progress.shapes) (written_passes structs unit is)
    ∙ (ap (λ (r : Result (List Item) GdsFault). r >>= λ records. drawn (file_in bytes (2 * unit)) 0 (elements_of records) >>= λ progress. Ok progress.shapes) one
    ∙ (ap (λ (f : File). drawn f 0 (elements_of body) >>= λ progress. Ok progress.shapes) (file_back structs unit is)
    ∙ ap (λ (r : Result Progress GdsFault). r >>= λ progress. Ok progress.shapes) (structure_drawn structs unit s found.rest found.at are there to few)))

-- ---- structures without references

flat_plain : (structs : List Struct) (s : Struct) → s.refs ≡ [] → flat_shapes structs s ≡ s.shapes
flat_plain structs s plain =
    ap (λ (refs : List Ref). record { rects = s.shapes.rects ++ flat_map (referred_rects structs) refs; labels = s.shapes.labels }) plain
    ∙ ap (λ (rects : List Shape). record { rects = rects; labels = s.shapes.labels }) (append-nil s.shapes.rects)

pub plain_back : (structs : List Struct) (unit : ℕ) (s : Struct) → AreReadable structs unit → Contains structs s → s.refs ≡ [] → length s.shapes.rects ≤ 1000000 → Decodes (library_of structs unit) s.name (2 * unit) s.shapes
plain_back structs unit s are there plain few =
    let same : flat_shapes structs s ≡ s.shapes = flat_plain structs s plain in
    let size : length (flat_shapes structs s).rects + length s.refs ≤ 1000000 = omega (arith, few, ap (λ (t : Shapes). length t.rects) same, ap length plain) in
    flat_back structs unit s are there (All-same (IsToPlain structs) s.refs [] plain (All-nil (IsToPlain structs))) size ∙ ap (λ (t : Shapes). Ok t) same

-- ---- a library of one structure

cell_readable : (name : List ℕ) (shapes : Shapes) (unit : ℕ) → IsReadable name shapes unit → IsReadableStruct unit (cell_of name shapes)
cell_readable name shapes unit is = record {
  writable = record {
    name = is.named;
    rects = is.rects;
    refs = All-nil (IsWritableRef unit);
    labels = All-weaker (IsWritableLabel unit) (IsLabelUpTo 68 unit) (λ l fits. record { x = fits.x; y = fits.y; some = fits.some; most = omega (arith, fits.most) }) shapes.labels is.labels;
  };
  named_whole = is.named_whole;
  limits = is.limits;
  refs_whole = All-nil (λ (r : Ref). HasNoZeroEnd r.name);
  labels_whole = is.labels_whole;
}

one_alone : (s : Struct) → AllPairs (λ (s t : Struct). s.name ≡ t.name → ⊥) (s ∷ [])
one_alone s = λ i j d less within. absurd (omega (arith, less, within))

pub round_trip : (name : List ℕ) (shapes : Shapes) (unit : ℕ) → IsReadable name shapes unit → Decodes (written name shapes unit) name (2 * unit) shapes
round_trip name shapes unit is =
    let s : Struct = cell_of name shapes in
    let are : AreReadable (s ∷ []) unit = record { enough = is.enough; each = all_one (IsReadableStruct unit) s (cell_readable name shapes unit is); different = one_alone s } in
    plain_back (s ∷ []) unit s are (contains_here s []) refl is.few
