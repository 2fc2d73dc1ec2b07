-- The references of what is written show the structures that they name, moved to their points.
use Rattle.std.proofs.Common.{ℕ, ◌≡◌, ◌+◌, ◌≤◌, List, [], ◌∷◌, ◌++◌, drop, length, map, false, ℤ, pos, ◌+ℤ◌, ◌-ℤ◌, ◌*ℤ◌, Option, Some, None, Result, Ok, refl, sym, subst, ap, ◌∙◌, arith, length-append, append_assoc}
use Rattle.std.specs.Int.{int_div_euclid}
use Rattle.std.specs.List.{All, Contains, flat_map}
use Rattle.std.proofs.lemmas.Int.{ints}
use Rattle.std.proofs.lemmas.List.{length-map}
use Rattle.std.proofs.lemmas.List.Elements.{All-contains, All-head, All-tail, All-weaker}
use Rattle.std.proofs.Math.IntN.{zero-*ℤ}
use Rattle.cell_num.proofs.Lists.{all_from_contains}
use Rattle.box_geom.specs.Rectangle.{Rectangle, IsProper, IsRectangle}
use Rattle.box_geom.specs.declared.shape.Shape.{Shape}
use Rattle.gds_record.specs.Records.{Raw, raw, Item, placed, ends}
use Rattle.gds_record.specs.declared.types.RecordType.TheVariants as record_type
use Rattle.gds_area.specs.declared.fault.GdsFault.{GdsFault}
use Rattle.gds_area.specs.declared.fault.GdsFault.TheVariants as fault
use Rattle.gds_area.specs.declared.placement.Turn.TheVariants as turn
use Rattle.gds_area.specs.declared.placement.Move.{Move}
use Rattle.gds_read.specs.declared.reference.Array.{Array}
use Rattle.gds_area.specs.declared.progress.Progress.{Progress}
use Rattle.gds_area.specs.declared.progress.Origin.{Origin}
use Rattle.cell_num.specs.Steps.{◌>>=◌, or_fault}
use Rattle.gds_read.specs.Structure.{behind_name}
use Rattle.gds_read.specs.Elements.{Element, elements_of, until}
use Rattle.gds_area.specs.Moves.{stays, composed}
use Rattle.gds_area.specs.Progress.{no_progress, one_reference, rectangles, both, in_order, origin_of}
use Rattle.gds_read.specs.References.{target_in, the_one, array_of, single, copy_at}
use Rattle.gds_read.specs.Flat.{File, Below, inside_copy, copies_of, row_of, referred, one_level, flat}
use Rattle.gds_write.specs.declared.library.Ref.{Ref}
use Rattle.gds_write.specs.declared.library.Struct.{Struct}
use Rattle.gds_write.specs.Written.{rectangle_records, reference_records, label_records, IsWritableShape, IsWritableRef}
use Rattle.gds_write.proofs.Pieces.{point_length}
use Rattle.gds_read.specs.RoundTrip.{HasNoZeroEnd, IsReadableStruct, AreReadable, IsToPlain, structure_named, rects_of, rect_moved, shape_moved, referred_rects}
use Rattle.gds_read.proofs.Copied.{same_taken}
use Rattle.gds_area.proofs.Counting.{within}
use Rattle.gds_read.proofs.RoundTripPadded.{padded_back}
use Rattle.gds_read.proofs.RoundTripWords.{point_in, point_back, few_units}
use Rattle.gds_read.proofs.RoundTripMoved.{shift_by, Takes, shifting, within_limits}
use Rattle.gds_read.proofs.RoundTripNested.{elements_records, library_items}
use Rattle.gds_read.proofs.RoundTripLocated.{IsFound, found_in_library, named_is}
use Rattle.gds_read.proofs.RoundTripRedrawn.{file, order_more, taken_more, nothing_more, AreDrawn, TakesBehind, rectangles_taken, labels_passed}

-- ---- the one copy of a reference

abbrev array : ℕ → Ref → Array
array unit r = record { facing = record { mirrored = false; turn = turn.Zero }; lattice = single (point_in unit r.x r.y) }

still : (z w : ℤ) → (z +ℤ ((pos 0 *ℤ w) +ℤ (pos 0 *ℤ w))) +ℤ pos 0 ≡ z
still z w = omega (arith, ints, zero-*ℤ w)

a_move : (a b x y : ℤ) → a ≡ x → b ≡ y → ◌≡◌ {A = Move} (record { mirrored = false; turn = turn.Zero; x = a; y = b }) (record { mirrored = false; turn = turn.Zero; x = x; y = y })
a_move a b x y e f = rw (e, f) refl

copied_to : (unit : ℕ) (r : Ref) → composed stays (copy_at (array unit r) 0 0) ≡ shift_by unit r.x r.y
copied_to unit r = a_move _ _ _ _ (still (r.x *ℤ pos unit) (no_step (r.x *ℤ pos unit))) (still (r.y *ℤ pos unit) (no_step (r.y *ℤ pos unit)))
  where
    no_step : ℤ → ℤ
    no_step z = int_div_euclid (z -ℤ z) (pos 1)

takes_copy : (unit : ℕ) (r : Ref) → Takes unit (composed stays (copy_at (array unit r) 0 0)) (rect_moved r.x r.y)
takes_copy unit r = subst (λ (m : Move). Takes unit m (rect_moved r.x r.y)) (sym (copied_to unit r)) (shifting unit r.x r.y)

order_one : {A : Type 0} (step : ℕ → A → Result Progress GdsFault) (count : ℕ) (x : A) (t : Progress) → step count x ≡ Ok t → in_order step count (x ∷ []) ≡ Ok t
unfolding in_order
order_one step count x t one = order_more step count x [] t no_progress one refl ∙ ap (λ (u : Progress). Ok u) (sym (same_taken t))

one_copy : (below : Below) (origin : Origin) (elements : List Element) (unit count : ℕ) (r : Ref) (t : Progress) → below (inside_copy origin (copy_at (array unit r) 0 0)) count elements ≡ Ok t → copies_of below origin elements (array unit r) count ≡ Ok t
one_copy below origin elements unit count r t one =
    order_one (λ n row. row_of below origin elements (array unit r) n row) count 0 t (order_one (λ n column. below (inside_copy origin (copy_at (array unit r) column 0)) n elements) count 0 t one)

-- ---- what is inside the copy

moved_limits : (unit : ℕ) (r : Ref) (t : Struct) → 10 ≤ unit → IsWritableRef unit r → IsReadableStruct unit t → AreDrawn unit (rect_moved r.x r.y) t.shapes.rects
moved_limits unit r t enough at is =
    let rects : List Shape = t.shapes.rects in
    record {
      fit = is.writable.rects;
      proper = All-weaker (λ (s : Shape). IsRectangle s.rect) (λ (s : Shape). IsProper s.rect) (λ s limits. limits.proper) rects is.limits;
      limits = all_from_contains (λ (s : Shape). IsRectangle (rect_moved r.x r.y s.rect)) rects (λ s there.
          let fits : IsWritableShape unit s = All-contains (IsWritableShape unit) rects s is.writable.rects there in
          let limits : IsRectangle s.rect = All-contains (λ (s : Shape). IsRectangle s.rect) rects s is.limits there in
          within_limits s.rect r.x r.y limits.proper (few_units unit s.rect.x1 enough fits.x1) (few_units unit s.rect.x2 enough fits.x2) (few_units unit s.rect.y1 enough fits.y1) (few_units unit s.rect.y2 enough fits.y2) (few_units unit r.x enough at.x) (few_units unit r.y enough at.y));
    }

inside_taken : (below : Below) (recs : List Item) (origin : Origin) (unit count : ℕ) (f : Rectangle → Rectangle) (t : Struct) (behind : List Raw) (at : ℕ) → 10 ≤ unit → t.refs ≡ [] → count + length t.shapes.rects ≤ 1000000 → Takes unit origin.stands f → AreDrawn unit f t.shapes.rects → one_level below (file unit recs) (Some origin) count (elements_of (placed at (elements_records unit t behind))) ≡ Ok (rectangles (map (λ (s : Shape). record { layer = s.layer; rect = f s.rect }) t.shapes.rects))
inside_taken below recs origin unit count f t behind at enough plain few takes are =
    let end : List Raw = raw record_type.EndStr [] ∷ behind in
    let rs : List Raw = flat_map (rectangle_records unit) t.shapes.rects in
    let ls : List Raw = flat_map (label_records unit) t.shapes.labels in
    ap (λ (refs : List Ref). one_level below (file unit recs) (Some origin) count (elements_of (placed at (rs ++ (flat_map (reference_records unit) refs ++ (ls ++ end)))))) plain
    ∙ (rectangles_taken below recs (Some origin) unit count f t.shapes.rects (ls ++ end) no_progress enough few (λ _. takes) are (labels_passed below recs origin unit (count + length t.shapes.rects) t.shapes.labels behind) at count refl
    ∙ ap (λ (u : Progress). Ok u) (sym (same_taken (rectangles (map (λ (s : Shape). record { layer = s.layer; rect = f s.rect }) t.shapes.rects)))))

-- what a reference takes: itself, and rectangles
abbrev pub one_and : List Shape → Progress
one_and rects = record { shapes = record { rects = rects; labels = [] }; refs = 1 }

copy_taken : (recs : List Item) (origin : Origin) (unit count : ℕ) (f : Rectangle → Rectangle) (t : Struct) (behind : List Raw) (at : ℕ) → 10 ≤ unit → t.refs ≡ [] → count + 1 + length t.shapes.rects ≤ 1000000 → Takes unit origin.stands f → AreDrawn unit f t.shapes.rects → flat 16 (file unit recs) origin count (elements_of (placed at (elements_records unit t behind))) ≡ Ok (one_and (map (λ (s : Shape). record { layer = s.layer; rect = f s.rect }) t.shapes.rects))
unfolding flat
copy_taken recs origin unit count f t behind at enough plain few takes are =
    let elements : List Element = elements_of (placed at (elements_records unit t behind)) in
    ap (λ (x : Result Progress GdsFault). x >>= λ one. one_level (flat 15 (file unit recs)) (file unit recs) (Some origin) (count + 1) elements >>= λ rest. Ok (both one rest)) (within origin.outer count one_reference (omega (arith, few)))
    ∙ ap (λ (x : Result Progress GdsFault). x >>= λ rest. Ok (both one_reference rest)) (inside_taken (flat 15 (file unit recs)) recs origin unit (count + 1) f t behind at enough plain (omega (arith, few)) takes are)

-- ---- one reference

-- its element
abbrev reference : ℕ → ℕ → Ref → List Item → Element
reference unit at r rest = record { kind = record_type.SRef; at = at; inside = until record_type.EndEl (drop 1 (placed at (reference_records unit r)) ++ rest) }

array_back : (unit at : ℕ) (r : Ref) (rest : List Item) → IsWritableRef unit r → array_of record_type.SRef (reference unit at r rest).inside ≡ Some (array unit r)
array_back unit at r rest fits = rw (point_length unit r.x r.y, point_back unit r.x r.y fits.x fits.y) refl

target_back : (recs : List Item) (unit at : ℕ) (r : Ref) (rest target : List Item) → HasNoZeroEnd r.name → behind_name r.name recs ≡ target ∷ [] → target_in recs (reference unit at r rest).inside ≡ Some target
target_back recs unit at r rest target whole found =
    ap (λ (n : List ℕ). the_one (behind_name n recs)) (padded_back r.name whole) ∙ ap (λ (t : List (List Item)). the_one t) found

reference_taken : (recs : List Item) (unit at count : ℕ) (r : Ref) (t : Struct) (rest : List Item) → 10 ≤ unit → IsWritableRef unit r → HasNoZeroEnd r.name → IsReadableStruct unit t → t.refs ≡ [] → IsFound unit t (behind_name r.name recs) → count + 1 + length t.shapes.rects ≤ 1000000 → referred (flat 16 (file unit recs)) (file unit recs) (origin_of None at) count (reference unit at r rest) record_type.SRef ≡ Ok (one_and (map (shape_moved r.x r.y) t.shapes.rects))
reference_taken recs unit at count r t rest enough fits whole is plain found few =
    let below : Below = flat 16 (file unit recs) in
    let origin : Origin = origin_of None at in
    let target : List Item = placed found.at (elements_records unit t found.rest) in
    ap (λ (x : Option (List Item)). or_fault x (fault.Reference at) >>= λ target. or_fault (array_of record_type.SRef (reference unit at r rest).inside) (fault.Reference at) >>= λ array. copies_of below origin (elements_of target) array count) (target_back recs unit at r rest target whole found.is)
    ∙ (ap (λ (x : Option Array). or_fault x (fault.Reference at) >>= λ array. copies_of below origin (elements_of target) array count) (array_back unit at r rest fits)
    ∙ one_copy below origin (elements_of target) unit count r (one_and (map (shape_moved r.x r.y) t.shapes.rects)) (copy_taken recs (inside_copy origin (copy_at (array unit r) 0 0)) unit count (rect_moved r.x r.y) t found.rest found.at enough plain few (takes_copy unit r) (moved_limits unit r t enough fits is)))

-- ---- all references of a structure

-- the records of the library, and what is read of them
abbrev pub items : ℕ → List Struct → List Item
items unit structs = placed 0 (library_items unit structs)

whole_names : (structs : List Struct) (unit : ℕ) → AreReadable structs unit → All (λ (s : Struct). HasNoZeroEnd s.name) structs
whole_names structs unit are = All-weaker (IsReadableStruct unit) (λ (s : Struct). HasNoZeroEnd s.name) (λ s is. is.named_whole) structs are.each

pub found_of : (structs : List Struct) (unit : ℕ) (s : Struct) → AreReadable structs unit → Contains structs s → IsFound unit s (behind_name s.name (items unit structs))
found_of structs unit s are there = found_in_library unit structs s (whole_names structs unit are) are.different there

-- the rectangles that a reference shows are those of its target
shown_are : (structs : List Struct) (unit : ℕ) (r : Ref) → AreReadable structs unit → (to : IsToPlain structs r) → map (shape_moved r.x r.y) to.target.shapes.rects ≡ referred_rects structs r
shown_are structs unit r are to =
    ap (λ (x : Option Struct). map (shape_moved r.x r.y) (rects_of x)) (sym (ap (structure_named structs) (sym to.named) ∙ named_is structs to.target are.different to.there))

one_taken : (structs : List Struct) (unit at count : ℕ) (r : Ref) (rest : List Item) → AreReadable structs unit → IsWritableRef unit r → HasNoZeroEnd r.name → IsToPlain structs r → count + 1 + length (referred_rects structs r) ≤ 1000000 → referred (flat 16 (file unit (items unit structs))) (file unit (items unit structs)) (origin_of None at) count (reference unit at r rest) record_type.SRef ≡ Ok (one_and (referred_rects structs r))
one_taken structs unit at count r rest are fits whole to few =
    let shown : map (shape_moved r.x r.y) to.target.shapes.rects ≡ referred_rects structs r = shown_are structs unit r are to in
    let is : IsReadableStruct unit to.target = All-contains (IsReadableStruct unit) structs to.target are.each to.there in
    let found : IsFound unit to.target (behind_name r.name (items unit structs)) = subst (λ (n : List ℕ). IsFound unit to.target (behind_name n (items unit structs))) to.named (found_of structs unit to.target are to.there) in
    let size : length (referred_rects structs r) ≡ length to.target.shapes.rects = ap length (sym shown) ∙ length-map to.target.shapes.rects (shape_moved r.x r.y) in
    reference_taken (items unit structs) unit at count r to.target rest are.enough fits whole is to.plain found (omega (arith, few, size)) ∙ ap (λ (rects : List Shape). Ok (one_and rects)) shown

-- so many references, and the rectangles that they show
abbrev pub shown_by : List Struct → List Ref → Progress
shown_by structs refs = record { shapes = record { rects = flat_map (referred_rects structs) refs; labels = [] }; refs = length refs }

shown_more : (structs : List Struct) (r : Ref) (rs : List Ref) (t : Progress) → both (one_and (referred_rects structs r)) (both (shown_by structs rs) t) ≡ both (shown_by structs (r ∷ rs)) t
shown_more structs r rs t =
    ap (λ (rects : List Shape). record { shapes = record { rects = rects; labels = t.shapes.labels }; refs = 1 + (length rs + t.refs) }) (sym (append_assoc (referred_rects structs r) (flat_map (referred_rects structs) rs) t.shapes.rects))
    ∙ ap (λ (n : ℕ). record { shapes = record { rects = flat_map (referred_rects structs) (r ∷ rs) ++ t.shapes.rects; labels = t.shapes.labels }; refs = n }) (let e : 1 + (length rs + t.refs) ≡ length (r ∷ rs) + t.refs = omega arith in e)

pub references_taken : (structs : List Struct) (unit count : ℕ) (refs : List Ref) (rest : List Raw) (t : Progress) → AreReadable structs unit → All (IsWritableRef unit) refs → All (λ (r : Ref). HasNoZeroEnd r.name) refs → All (IsToPlain structs) refs → count + (length (flat_map (referred_rects structs) refs) + length refs) ≤ 1000000 → TakesBehind (flat 16 (file unit (items unit structs))) (file unit (items unit structs)) None (count + (length (flat_map (referred_rects structs) refs) + length refs)) rest t → TakesBehind (flat 16 (file unit (items unit structs))) (file unit (items unit structs)) None count (flat_map (reference_records unit) refs ++ rest) (both (shown_by structs refs) t)
references_taken structs unit count [] rest t are fits whole to few more at n same = more at n (omega (arith, same)) ∙ ap (λ (t : Progress). Ok t) (sym (nothing_more t))
references_taken structs unit count (r ∷ rs) rest t are fits whole to few more at n same =
    let f : File = file unit (items unit structs) in
    let size : length (flat_map (referred_rects structs) (r ∷ rs)) ≡ length (referred_rects structs r) + length (flat_map (referred_rects structs) rs) = length-append (referred_rects structs r) (flat_map (referred_rects structs) rs) in
    let next : ℕ = ends at (reference_records unit r) in
    let behind : List Item = placed next (flat_map (reference_records unit) rs ++ rest) in
    let one : List Shape = referred_rects structs r in
    let later : TakesBehind (flat 16 f) f None (count + (length one + 1)) (flat_map (reference_records unit) rs ++ rest) (both (shown_by structs rs) t) =
    references_taken structs unit (count + (length one + 1)) rs rest t are (All-tail (IsWritableRef unit) r rs fits) (All-tail (λ (r : Ref). HasNoZeroEnd r.name) r rs whole) (All-tail (IsToPlain structs) r rs to) (omega (arith, few, size)) (λ at n e. more at n (omega (arith, e, size))) in
    taken_more (flat 16 f) f None n (reference unit at r behind) (elements_of behind) (one_and one) (both (shown_by structs rs) t) (one_taken structs unit at n r behind are (All-head (IsWritableRef unit) r rs fits) (All-head (λ (r : Ref). HasNoZeroEnd r.name) r rs whole) (All-head (IsToPlain structs) r rs to) (omega (arith, few, size, same))) (later next (n + (length one + 1)) (omega (arith, same)))
    ∙ ap (λ (t : Progress). Ok t) (shown_more structs r rs t)
