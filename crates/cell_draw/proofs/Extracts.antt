-- A drawn row extracts to its fingers, net by net.
use Rattle.std.proofs.Common.{ℕ, ◌≡◌, ◌≢◌, ◌+◌, ◌*◌, ◌<◌, ◌≤◌, ℤ, pos, ◌<ℤ◌, ◌-ℤ◌, List, [], ◌∷◌, ◌++◌, Option, Some, None, refl, sym, ap, subst, arith, All, AllPairs, Any, Contains, length, option_map, slice_get}
use Rattle.std.specs.List.{AllZip, flat_map, cons_option}
use Rattle.std.proofs.lemmas.Int.{ints}
use Rattle.std.proofs.lemmas.List.Elements.{All-nil, Contains-append_left, Contains-append_right}
use Rattle.std.proofs.lemmas.List.Kept.{AllPairs-cons}
use Rattle.std.proofs.lemmas.List.Sorted.{IsPermutation-append}
use Rattle.cell_num.specs.declared.net.Pins.{Pins}
use Rattle.cell_num.specs.declared.finger.Row.{Row}
use Rattle.cell_num.specs.declared.finger.Row.TheVariants.{P, N}
use Rattle.cell_num.specs.declared.finger.Fingers.{Fingers}
use Rattle.cell_num.specs.Pins.{ArePins}
use Rattle.cell_num.proofs.In.{contains_flat}
use Rattle.cell_num.proofs.Lists.{contains_here, contains_there, all_from_contains, all_one, all_flat}
use Rattle.cell_num.proofs.Pairs.{any_at, cross, pairs_none, pairs_one, pairs_append, pairs_flat}
use Rattle.row_model.specs.declared.column.Placed.{Placed}
use Rattle.row_model.specs.declared.column.Column.{Column}
use Rattle.row_model.specs.Arrangement.{place, fingers_in, IsArrangement}
use Rattle.row_place.specs.declared.placement.Placement.{Placement}
use Rattle.row_place.specs.declared.placement.Seat.{Seat}
use Rattle.row_place.specs.Units.{gap_between, seats_from, seats_of, unit_of}
use Rattle.row_place.proofs.Units.{SitsAt, seat_at, seat_from, unit_from}
use Rattle.channel_route.specs.declared.routing.Routing.{Routing}
use Rattle.row_compact.specs.Solution.{x_of}
use Rattle.box_geom.specs.Rectangle.{Rectangle, Holds}
use Rattle.scmos_rules.specs.Layout.{Gate as GateCell}
use Rattle.scmos_rules.specs.declared.rules.Deck.TheVariants.{Plain}
use Rattle.cell_draw.specs.declared.layout.Frame.{Frame}
use Rattle.cell_draw.specs.declared.layout.Strip.{Strip}
use Rattle.cell_draw.specs.Extracted.{IsFingerAt, ExtractsTo}
use Rattle.cell_draw.specs.Sound.{AreLines}
use Rattle.cell_draw.proofs.BridgeFrom.{StripFrom, strip_from}
use Rattle.cell_draw.proofs.BridgeLines.{behind}
use Rattle.cell_draw.proofs.BridgePlaces.{unit_last, same_strip}
use Rattle.cell_draw.proofs.BridgeWhole.{lines_of_allowed}
use Rattle.cell_draw.proofs.DeviceBoxes.{box_of, box_in, InBox, in_box, gate_box}
use Rattle.cell_draw.proofs.LabelsPlaced.{IsWired, layout}
use Rattle.cell_draw.proofs.NamesPlaced.{shapes, are_named}
use Rattle.cell_draw.proofs.NetsPlaces.{strip_with}
use Rattle.cell_draw.proofs.FingersPlaced.{IsSeated, seated, over_seat, finger_at}

-- ---- the boxes of a row, from left to right
abbrev box_if : (names : List (List ℕ)) (pins : Pins) (p : Placement) (r : Routing) (xs : List ℕ) (f : Frame) (w : IsWired names pins p r xs f) → ℕ → Row → Option Placed → List Rectangle
box_if names pins p r xs f w unit side None = []
box_if names pins p r xs f w unit side (Some x) = box_of (layout names pins p r xs f) w.has.netted (strip_with xs unit side x) ∷ []

abbrev box_at : (names : List (List ℕ)) (pins : Pins) (p : Placement) (r : Routing) (xs : List ℕ) (f : Frame) (w : IsWired names pins p r xs f) → Row → Seat → List Rectangle
box_at names pins p r xs f w side seat = box_if names pins p r xs f w seat.unit side (place side seat.column)

abbrev boxes : (names : List (List ℕ)) (pins : Pins) (p : Placement) (r : Routing) (xs : List ℕ) (f : Frame) (w : IsWired names pins p r xs f) → Row → List Rectangle
boxes names pins p r xs f w side = flat_map (box_at names pins p r xs f w side) (seats_of p.row)

zipped : (names : List (List ℕ)) (pins : Pins) (p : Placement) (r : Routing) (xs : List ℕ) (f : Frame) (w : IsWired names pins p r xs f) → ArePins (length names) pins → (side : Row) (unit : ℕ) (before : Option Column) (row : List Column) → ((s : Seat) → Contains (seats_from unit before row) s → Contains (seats_of p.row) s) → AllZip (IsFingerAt Plain names (shapes names pins p r xs f)) (flat_map (box_at names pins p r xs f w side) (seats_from unit before row)) (fingers_in side row)
zipped names pins p r xs f w are side unit before [] sub = tt
zipped names pins p r xs f w are side unit before (c ∷ row) sub = by (place side c) refl (zipped names pins p r xs f w are side (unit + length (gap_between before c) + 1) (Some c) row (λ s there. sub s (contains_there seat (seats_from (unit + length (gap_between before c) + 1) (Some c) row) s there)))
  where
    seat : Seat
    seat = record { column = c; unit = unit + length (gap_between before c) }

    by : (o : Option Placed) → place side c ≡ o → AllZip (IsFingerAt Plain names (shapes names pins p r xs f)) (flat_map (box_at names pins p r xs f w side) (seats_from (unit + length (gap_between before c) + 1) (Some c) row)) (fingers_in side row) → AllZip (IsFingerAt Plain names (shapes names pins p r xs f)) (box_if names pins p r xs f w (unit + length (gap_between before c)) side o ++ flat_map (box_at names pins p r xs f w side) (seats_from (unit + length (gap_between before c) + 1) (Some c) row)) (cons_option (option_map (λ (z : Placed). z.finger) o) (fingers_in side row))
    by None e rest = rest
    by (Some x) e rest = (finger_at names pins p r xs f w are (record { column = c; unit = unit + length (gap_between before c) }) side x (seated p xs (record { column = c; unit = unit + length (gap_between before c) }) side x (sub (record { column = c; unit = unit + length (gap_between before c) }) (contains_here (record { column = c; unit = unit + length (gap_between before c) }) (seats_from (unit + length (gap_between before c) + 1) (Some c) row))) e), rest)

zip_append : {A B : Type 0} (R : A → B → Type 0) (xs us : List A) (ys vs : List B) → AllZip R xs ys → AllZip R us vs → AllZip R (xs ++ us) (ys ++ vs)
zip_append R [] us [] vs h k = k
zip_append R (x ∷ xs) us (y ∷ ys) vs h k = (h.0, zip_append R xs us ys vs h.1 k)
zip_append R [] us (y ∷ ys) vs h k = absurd h
zip_append R (x ∷ xs) us [] vs h k = absurd h

-- ---- each class once
pub seats_ascend : (unit : ℕ) (before : Option Column) (row : List Column) → AllPairs (λ (a b : Seat). a.unit < b.unit) (seats_from unit before row)
seats_ascend unit before [] = pairs_none (λ (a b : Seat). a.unit < b.unit)
seats_ascend unit before (c ∷ row) =
    let here : Seat = record { column = c; unit = unit + length (gap_between before c) } in
    let rest : List Seat = seats_from (unit + length (gap_between before c) + 1) (Some c) row in
    AllPairs-cons (λ (a b : Seat). a.unit < b.unit) here rest (all_from_contains (λ (b : Seat). here.unit < b.unit) rest (λ b there. omega (arith, unit_from (unit + length (gap_between before c) + 1) (Some c) row b there))) (seats_ascend (unit + length (gap_between before c) + 1) (Some c) row)

-- where the box of a seat begins
abbrev BeginsAt : List ℕ → Seat → Rectangle → Type 0
BeginsAt xs seat box = box.x1 ≡ pos (x_of xs (2 * seat.unit + 1)) -ℤ pos 2

-- the heights of a row's boxes
abbrev LiesIn : Frame → Row → Rectangle → Type 0
LiesIn f N box = box.y2 ≡ pos f.n_edge
LiesIn f P box = box.y1 ≡ pos f.p_edge

lies : (f : Frame) (row : Row) (s : Strip) (z : ℕ) → LiesIn f row (box_in f row s z)
lies f N s z = refl
lies f P s z = refl

begin : (names : List (List ℕ)) (pins : Pins) (p : Placement) (r : Routing) (xs : List ℕ) (f : Frame) (w : IsWired names pins p r xs f) → (side : Row) (seat : Seat) → Contains (seats_of p.row) seat → All (BeginsAt xs seat) (box_at names pins p r xs f w side seat)
begin names pins p r xs f w side seat there = by (place side seat.column) refl
  where
    by : (o : Option Placed) → place side seat.column ≡ o → All (BeginsAt xs seat) (box_if names pins p r xs f w seat.unit side o)
    by None e = All-nil (BeginsAt xs seat)
    by (Some x) e = all_one (BeginsAt xs seat) (box_of (layout names pins p r xs f) w.has.netted (strip_with xs seat.unit side x)) (ap (λ z. pos z -ℤ pos 2) (over_seat names pins p r xs f w seat side x (seated p xs seat side x there e)).line)

single : (names : List (List ℕ)) (pins : Pins) (p : Placement) (r : Routing) (xs : List ℕ) (f : Frame) (w : IsWired names pins p r xs f) → (unit : ℕ) (side : Row) (o : Option Placed) → AllPairs (λ (a b : Rectangle). a ≢ b) (box_if names pins p r xs f w unit side o)
single names pins p r xs f w unit side None = pairs_none (λ (a b : Rectangle). a ≢ b)
single names pins p r xs f w unit side (Some x) = pairs_one (λ (a b : Rectangle). a ≢ b) (box_of (layout names pins p r xs f) w.has.netted (strip_with xs unit side x))

lie : (names : List (List ℕ)) (pins : Pins) (p : Placement) (r : Routing) (xs : List ℕ) (f : Frame) (w : IsWired names pins p r xs f) → (unit : ℕ) (side : Row) (o : Option Placed) → All (LiesIn f side) (box_if names pins p r xs f w unit side o)
lie names pins p r xs f w unit side None = All-nil (LiesIn f side)
lie names pins p r xs f w unit side (Some x) = all_one (LiesIn f side) (box_of (layout names pins p r xs f) w.has.netted (strip_with xs unit side x)) (lies f side (strip_with xs unit side x) (w.has.netted.over (strip_with xs unit side x)).x)

boxes_lie : (names : List (List ℕ)) (pins : Pins) (p : Placement) (r : Routing) (xs : List ℕ) (f : Frame) (w : IsWired names pins p r xs f) → (side : Row) → All (LiesIn f side) (boxes names pins p r xs f w side)
boxes_lie names pins p r xs f w side = all_flat (Contains (seats_of p.row)) (LiesIn f side) (box_at names pins p r xs f w side) (seats_of p.row) (λ seat there. lie names pins p r xs f w seat.unit side (place side seat.column)) (all_from_contains (Contains (seats_of p.row)) (seats_of p.row) (λ s there. there))

apart_in_row : (names : List (List ℕ)) (pins : Pins) (p : Placement) (r : Routing) (xs : List ℕ) (f : Frame) (w : IsWired names pins p r xs f) → (side : Row) → AllPairs (λ (a b : Rectangle). a ≢ b) (boxes names pins p r xs f w side)
apart_in_row names pins p r xs f w side = pairs_flat (λ (a b : Seat). a.unit < b.unit) (Contains (seats_of p.row)) (λ (a b : Rectangle). a ≢ b) (BeginsAt xs) (box_at names pins p r xs f w side) (seats_of p.row) (begin names pins p r xs f w side) (λ seat there. single names pins p r xs f w seat.unit side (place side seat.column)) differ (all_from_contains (Contains (seats_of p.row)) (seats_of p.row) (λ s there. there)) (seats_ascend 0 None p.row)
  where
    lines : AreLines p xs
    lines = lines_of_allowed p pins r xs w.drawn.allowed

    differ : (s t : Seat) (a b : Rectangle) → Contains (seats_of p.row) s → Contains (seats_of p.row) t → s.unit < t.unit → BeginsAt xs s a → BeginsAt xs t b → a ≢ b
    differ s t a b hs ht less ha hb e =
        let at : SitsAt p.row t = seat_at p.row t ht in
        let last : 2 * unit_of p.row at.at + 2 ≤ 2 * length p.units = unit_last p w.drawn.placement at.at t.column at.stands in
        let gap : x_of xs (2 * s.unit + 1) + 8 * 2 ≤ x_of xs (2 * t.unit + 1) = behind p xs lines (2 * s.unit + 1) (2 * t.unit + 1) 2 (omega (arith, less)) (omega (arith, last, at.unit)) in
        let same : a.x1 ≡ b.x1 = ap (λ (z : Rectangle). z.x1) e in
        absurd (omega (arith, ints, gap, same, ha, hb))

rows_apart : (f : Frame) → f.n_edge ≤ f.p_edge → (a b : Rectangle) → (LiesIn f P a × (a.y1 <ℤ a.y2)) → LiesIn f N b → a ≢ b
rows_apart f le a b (h, tall) k e =
    let same : a.y2 ≡ b.y2 = ap (λ (z : Rectangle). z.y2) e in
    absurd (omega (arith, ints, h, tall, k, same, le))

-- ---- every gate cell is in one of the boxes
boxes_all : (names : List (List ℕ)) (pins : Pins) (p : Placement) (r : Routing) (xs : List ℕ) (f : Frame) (w : IsWired names pins p r xs f) → (x y : ℤ) → GateCell (shapes names pins p r xs f).rects x y → Any (λ (box : Rectangle). Holds box x y) (boxes names pins p r xs f w P ++ boxes names pins p r xs f w N)
boxes_all names pins p r xs f w x y g =
    let i : InBox (layout names pins p r xs f) w.has.netted x y = in_box (layout names pins p r xs f) w.laid w.has.netted x y g in
    let b : StripFrom p.row xs i.strip = strip_from p.row xs i.strip i.listed in
    let t : Strip = strip_with xs (unit_of p.row b.at) i.strip.row b.finger in
    let same : i.strip ≡ t = same_strip i.strip t refl b.left b.right b.width in
    any_at (λ (box : Rectangle). Holds box x y) (boxes names pins p r xs f w P ++ boxes names pins p r xs f w N) (box_of (layout names pins p r xs f) w.has.netted t) (listed i.strip.row b.at b.column b.finger b.stands b.filled) (subst (λ z. Holds (box_of (layout names pins p r xs f) w.has.netted z) x y) same i.holds)
  where
    in_row : (side : Row) (at : ℕ) (c : Column) (z : Placed) → slice_get p.row at ≡ Some c → place side c ≡ Some z → Contains (boxes names pins p r xs f w side) (box_of (layout names pins p r xs f) w.has.netted (strip_with xs (unit_of p.row at) side z))
    in_row side at c z stands filled =
        let seat : Seat = record { column = c; unit = unit_of p.row at } in
        let box : Rectangle = box_of (layout names pins p r xs f) w.has.netted (strip_with xs (unit_of p.row at) side z) in
        contains_flat (box_at names pins p r xs f w side) (seats_of p.row) seat box (seat_from p.row seat at stands refl) (subst (λ o. Contains (box_if names pins p r xs f w (unit_of p.row at) side o) box) (sym filled) (contains_here box []))

    listed : (side : Row) (at : ℕ) (c : Column) (z : Placed) → slice_get p.row at ≡ Some c → place side c ≡ Some z → Contains (boxes names pins p r xs f w P ++ boxes names pins p r xs f w N) (box_of (layout names pins p r xs f) w.has.netted (strip_with xs (unit_of p.row at) side z))
    listed P at c z stands filled = Contains-append_left (boxes names pins p r xs f w P) (boxes names pins p r xs f w N) (box_of (layout names pins p r xs f) w.has.netted (strip_with xs (unit_of p.row at) P z)) (in_row P at c z stands filled)
    listed N at c z stands filled = Contains-append_right (boxes names pins p r xs f w P) (boxes names pins p r xs f w N) (box_of (layout names pins p r xs f) w.has.netted (strip_with xs (unit_of p.row at) N z)) (in_row N at c z stands filled)

-- a drawn row extracts to its fingers
pub extracts : (names : List (List ℕ)) (pins : Pins) (p : Placement) (r : Routing) (xs : List ℕ) (f : Frame) (w : IsWired names pins p r xs f) → ArePins (length names) pins → (fingers : Fingers) → IsArrangement p.row fingers → ExtractsTo Plain names fingers (shapes names pins p r xs f)
extracts names pins p r xs f w are fingers arranged = record {
  nets = are_named names pins p r xs f w are;
  boxes = boxes names pins p r xs f w P ++ boxes names pins p r xs f w N;
  gates = record {
    differ = pairs_append (λ (a b : Rectangle). a ≢ b) (boxes names pins p r xs f w P) (boxes names pins p r xs f w N) (apart_in_row names pins p r xs f w P) (apart_in_row names pins p r xs f w N) (cross (λ (a b : Rectangle). a ≢ b) (λ a. LiesIn f P a × (a.y1 <ℤ a.y2)) (LiesIn f N) (boxes names pins p r xs f w P) (boxes names pins p r xs f w N) tall (boxes_lie names pins p r xs f w N) (rows_apart f (omega (arith, w.drawn.frame.rows.channel))));
    all = boxes_all names pins p r xs f w;
  };
  drawn = fingers_in P p.row ++ fingers_in N p.row;
  devices = zip_append (IsFingerAt Plain names (shapes names pins p r xs f)) (boxes names pins p r xs f w P) (boxes names pins p r xs f w N) (fingers_in P p.row) (fingers_in N p.row) (zipped names pins p r xs f w are P 0 None p.row (λ s there. there)) (zipped names pins p r xs f w are N 0 None p.row (λ s there. there));
  permuted = IsPermutation-append fingers.p (fingers_in P p.row) fingers.n (fingers_in N p.row) arranged.p arranged.n;
}
  where
    tall : All (λ (a : Rectangle). LiesIn f P a × (a.y1 <ℤ a.y2)) (boxes names pins p r xs f w P)
    tall = all_flat (Contains (seats_of p.row)) (λ (a : Rectangle). LiesIn f P a × (a.y1 <ℤ a.y2)) (box_at names pins p r xs f w P) (seats_of p.row) (λ seat there. by seat there (place P seat.column) refl) (all_from_contains (Contains (seats_of p.row)) (seats_of p.row) (λ s there. there))
      where
        by : (seat : Seat) → Contains (seats_of p.row) seat → (o : Option Placed) → place P seat.column ≡ o → All (λ (a : Rectangle). LiesIn f P a × (a.y1 <ℤ a.y2)) (box_if names pins p r xs f w seat.unit P o)
        by seat there None e = All-nil (λ (a : Rectangle). LiesIn f P a × (a.y1 <ℤ a.y2))
        by seat there (Some x) e =
            let t : Strip = strip_with xs seat.unit P x in
            let s : IsSeated p xs seat P x = seated p xs seat P x there e in
            all_one (λ (a : Rectangle). LiesIn f P a × (a.y1 <ℤ a.y2)) (box_of (layout names pins p r xs f) w.has.netted t) (refl, (gate_box (layout names pins p r xs f) w.laid w.has.netted t s.listed).proper.high)
