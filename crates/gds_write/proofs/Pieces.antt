-- What is written, piece by piece.
use Rattle.std.proofs.Common.{ℕ, ℤ, ◌+◌, ◌≡◌, List, [], ◌∷◌, ◌++◌, length, refl, sym, ap, ◌∙◌, append_assoc}
use Rattle.std.specs.Int.{w16, to_be_bytes}
use Rattle.std.specs.List.{flat_map}
use Rattle.std.proofs.lemmas.List.{append-nil}
use Rattle.std.proofs.lemmas.List.Concat.{flat_map-cons}
use Rattle.box_geom.specs.Rectangle.{Rectangle}
use Rattle.box_geom.specs.declared.shape.Shapes.{Shapes}
use Rattle.gds_record.specs.Records.{Raw, raw, spelled, spelling}
use Rattle.gds_record.specs.Types.{number_of, data_type_of, data_number_of}
use Rattle.gds_record.specs.declared.types.RecordType.{RecordType}
use Rattle.gds_record.specs.declared.types.RecordType.TheVariants as record_type
use Rattle.gds_write.specs.declared.library.Struct.{Struct}
use Rattle.gds_write.specs.Written.{long, padded, point, corners, times, rectangle_records, reference_records, label_records, structure_records, head_records, library_records, library_of}

pub point_length : (unit : ℕ) (x y : ℤ) → length (point unit x y) ≡ 8
unfolding long point
point_length unit x y = refl

pub corners_length : (unit : ℕ) (r : Rectangle) → length (corners unit r) ≡ 40
unfolding long point corners
corners_length unit r = refl

-- a header and its data are a record
pub record_joined : (kind : RecordType) (content old mid new : List ℕ) (n : ℕ) → length content ≡ n → mid ≡ old ++ (to_be_bytes w16 (n + 4) ++ (number_of kind ∷ data_number_of (data_type_of kind) ∷ [])) → new ≡ mid ++ content → new ≡ old ++ spelled (raw kind content)
unfolding spelled
record_joined kind content old mid new n long h k = rw (k, h, long) (append_assoc old (to_be_bytes w16 (n + 4) ++ (number_of kind ∷ data_number_of (data_type_of kind) ∷ [])) content)

pub spelling_append : (rs ss : List Raw) → spelling (rs ++ ss) ≡ spelling rs ++ spelling ss
spelling_append [] ss = refl
spelling_append (r ∷ rs) ss = ap (λ (t : List ℕ). spelled r ++ t) (spelling_append rs ss) ∙ sym (append_assoc (spelled r) (spelling rs) (spelling ss))

pub spelling_pieces : {X : Type 0} (f : X → List Raw) (xs : List X) → spelling (flat_map f xs) ≡ flat_map (λ x. spelling (f x)) xs
spelling_pieces f [] = refl
spelling_pieces f (x ∷ xs) =
    rw (flat_map-cons f x xs, flat_map-cons (λ z. spelling (f z)) x xs) (spelling_append (f x) (flat_map f xs) ∙ ap (λ (t : List ℕ). spelling (f x) ++ t) (spelling_pieces f xs))

-- ---- a structure, and a library

abbrev bytes_of : {X : Type 0} → (X → List Raw) → List X → List ℕ
bytes_of f xs = flat_map (λ x. spelling (f x)) xs

structure_spelled : (unit : ℕ) (s : Struct) → spelling (structure_records unit s) ≡ spelled (raw record_type.BgnStr times) ++ (spelled (raw record_type.StrName (padded s.name)) ++ (bytes_of (rectangle_records unit) s.shapes.rects ++ (bytes_of (reference_records unit) s.refs ++ (bytes_of (label_records unit) s.shapes.labels ++ (spelled (raw record_type.EndStr []) ++ [])))))
structure_spelled unit s =
    let rs : List Raw = flat_map (rectangle_records unit) s.shapes.rects in
    let fs : List Raw = flat_map (reference_records unit) s.refs in
    let ls : List Raw = flat_map (label_records unit) s.shapes.labels in
    let end : List Raw = raw record_type.EndStr [] ∷ [] in
    let elements : spelling (rs ++ (fs ++ (ls ++ end))) ≡ bytes_of (rectangle_records unit) s.shapes.rects ++ (bytes_of (reference_records unit) s.refs ++ (bytes_of (label_records unit) s.shapes.labels ++ spelling end)) =
    rw (spelling_append rs (fs ++ (ls ++ end)), spelling_append fs (ls ++ end), spelling_append ls end, spelling_pieces (rectangle_records unit) s.shapes.rects, spelling_pieces (reference_records unit) s.refs, spelling_pieces (label_records unit) s.shapes.labels) refl in
    ap (λ (t : List ℕ). spelled (raw record_type.BgnStr times) ++ (spelled (raw record_type.StrName (padded s.name)) ++ t)) elements

pub structure_joined : (unit : ℕ) (s : Struct) (start a b c d e f : List ℕ) → a ≡ start ++ spelled (raw record_type.BgnStr times) → b ≡ a ++ spelled (raw record_type.StrName (padded s.name)) → c ≡ b ++ flat_map (λ x. spelling (rectangle_records unit x)) s.shapes.rects → d ≡ c ++ flat_map (λ x. spelling (reference_records unit x)) s.refs → e ≡ d ++ flat_map (λ x. spelling (label_records unit x)) s.shapes.labels → f ≡ e ++ spelled (raw record_type.EndStr []) → f ≡ start ++ spelling (structure_records unit s)
structure_joined unit s start a b c d e f begin named rects refs labels end =
    rw (end, labels, refs, rects, named, begin, structure_spelled unit s) (simp (append_assoc, append-nil))

pub library_joined : (structs : List Struct) (unit : ℕ) (start a b c : List ℕ) → start ≡ [] → a ≡ start ++ spelling head_records → b ≡ a ++ flat_map (λ s. spelling (structure_records unit s)) structs → c ≡ b ++ spelling (raw record_type.EndLib [] ∷ []) → c ≡ library_of structs unit
library_joined structs unit start a b c none head within end =
    let ss : List Raw = flat_map (structure_records unit) structs in
    let last : List Raw = raw record_type.EndLib [] ∷ [] in
    rw (end, within, head, none, spelling_append head_records (ss ++ last), spelling_append ss last, spelling_pieces (structure_records unit) structs) (append_assoc (spelling head_records) (bytes_of (structure_records unit) structs) (spelling last))

-- ---- a library of one structure

-- its records, one list of elements behind the other
pub one_structure : (name : List ℕ) (shapes : Shapes) (unit : ℕ) → library_records name shapes unit ≡ head_records ++ (raw record_type.BgnStr times ∷ raw record_type.StrName (padded name) ∷ (flat_map (rectangle_records unit) shapes.rects ++ (flat_map (label_records unit) shapes.labels ++ raw record_type.EndStr [] ∷ raw record_type.EndLib [] ∷ [])))
one_structure name shapes unit = simp append_assoc
