-- The devices of a row, cell by cell: the fingers of all cells.
use Rattle.std.proofs.Common.{◌≡◌, ◌≢◌, ℕ, ◌+◌, ◌<◌, ℤ, pos, ◌≤ℤ◌, ◌<ℤ◌, ◌+ℤ◌, ◌-ℤ◌, List, [], ◌∷◌, ◌++◌, map, length, get_or, inl, inr, refl, sym, subst, ap, arith, ◌∙◌}
use Rattle.std.specs.Prelude.{IsPermutation}
use Rattle.std.specs.List.{All, AllPairs, AllZip, Any, Contains, flat_map}
use Rattle.std.proofs.lemmas.Int.{ints, by_lt_z}
use Rattle.std.proofs.lemmas.List.{append_assoc, get_or-append-add, get_or_append_left, get_or-map, get_or_past, length-append, length-map, map-append}
use Rattle.std.proofs.lemmas.List.Elements.{All-append, All-cons, All-nil, All-weaker, Contains-append_right}
use Rattle.std.proofs.lemmas.List.Sorted.{IsPermutation-append, IsPermutation-append_comm, IsPermutation-map, IsPermutation-refl, IsPermutation-trans}
use Rattle.cell_num.proofs.In.{contains_map}
use Rattle.cell_num.proofs.Lists.{contains_none, contains_cons, contains_here, contains_there, all_from_contains, all_map}
use Rattle.cell_num.proofs.Pairs.{some_from_any, any_at, any_append_left, cross, pairs_append, pairs_map, pairs_none}
use Rattle.cell_num.specs.declared.finger.Finger.{Finger}
use Rattle.cell_num.specs.declared.finger.Fingers.{Fingers}
use Rattle.cell_num.specs.declared.net.NetNo.{NetNo}
use Rattle.box_geom.proofs.Moved.{same_rect}
use Rattle.box_geom.specs.Rectangle.{Rectangle, Holds}
use Rattle.box_geom.specs.declared.shape.Shapes.{Shapes}
use Rattle.scmos_rules.specs.Layout.{Gate}
use Rattle.scmos_rules.specs.declared.rules.Deck.TheVariants.{Plain}
use Rattle.net_extract.specs.Labels.{IsNamed}
use Rattle.net_extract.specs.Nets.{Site}
use Rattle.cell_draw.specs.Extracted.{IsFingerAt, ExtractsTo}
use Rattle.cell_draw.specs.Named.{name_of}
use Rattle.row_abut.specs.Circuit.{behind, fingers_behind, fingers_of_row, name_in_row, names_of_row, IsCircuit}
use Rattle.row_abut.specs.Row.{Standing, standing, standing_behind, shapes_at, flat_row}
use Rattle.row_abut.specs.declared.cell.RowCell.{RowCell}
use Rattle.row_abut.proofs.Devices.{device}
use Rattle.row_abut.proofs.Moved.{gate}
use Rattle.row_abut.proofs.MovedDevices.{moved_rect, inside_there, device as moved_device}
use Rattle.row_abut.proofs.MovedNets.{moved_site}
use Rattle.row_abut.proofs.Naming.{all_named, named_there}
use Rattle.row_abut.proofs.Nets.{IsNamedCell, NamedRow}
use Rattle.row_abut.proofs.Places.{PlaceOf, at_listed, place_of, right_end}
use Rattle.row_abut.proofs.Rows.{Spot, standing_at, from, plain, own, moved, clear_active}
use Rattle.row_abut.proofs.Rules.{gate_of}
use Rattle.row_abut.proofs.Shifts.{down}

-- ---- nets by number
-- the nets of the cell in this place have their names in the row behind so many others
abbrev pub AreBehind : List (List ℕ) → ℕ → Standing → Type 0
AreBehind names nets s = (net : NetNo) → net.0 < length s.cell.nets → name_of names (record { 0 = nets + net.0 }) ≡ name_in_row s (name_of s.cell.nets net)

-- a net that is named in a cell is one of its nets
in_range : (c : RowCell) → IsNamedCell c → (net : NetNo) (a : Site) → IsNamed Plain c.drawing.shapes (name_of c.nets net) a → net.0 < length c.nets
in_range c k net a n =
    by_lt_z (pos net.0) (pos (length c.nets))
    (λ lt. omega (arith, ints, lt))
    (λ le. absurd (k.some (subst (Contains c.nets) (get_or_past c.nets net.0 [] (omega (arith, ints, le))) (subst (Contains c.nets) n.reads (k.named.known n.label n.listed)))))

net_there : (n : NamedRow) (j : Spot n.row) (nets : ℕ) → AreBehind (names_of_row n.row.cells) nets (standing_at n.row j) → (net : NetNo) (a : Site) → IsNamed Plain (standing_at n.row j).cell.drawing.shapes (name_of (standing_at n.row j).cell.nets net) a → IsNamed Plain (flat_row n.row.cells) (name_of (names_of_row n.row.cells) (record { 0 = nets + net.0 })) (moved_site (from n.row j) a)
net_there n j nets b net a z =
    let s = standing_at n.row j in
    subst (λ name. IsNamed Plain (flat_row n.row.cells) name (moved_site (from n.row j) a)) (sym (b net (in_range s.cell (n.cell j) net a z))) (named_there n j (name_of s.cell.nets net) a z)

finger_there : (n : NamedRow) (j : Spot n.row) (nets : ℕ) → AreBehind (names_of_row n.row.cells) nets (standing_at n.row j) → (box : Rectangle) (f : Finger) → IsFingerAt Plain (standing_at n.row j).cell.nets (standing_at n.row j).cell.drawing.shapes box f → IsFingerAt Plain (names_of_row n.row.cells) (flat_row n.row.cells) (moved_rect (from n.row j) box) (behind nets f)
finger_there n j nets b box f i =
    let g = n.row in
    let by = from g j in
    record {
      gate = moved_site by i.gate;
      left = moved_site by i.left;
      right = moved_site by i.right;
      is = device n j (moved_rect by box) f.row (moved_site by i.gate) (moved_site by i.left) (moved_site by i.right) f.width 4 (moved_device by (plain g j) (own g j) (moved g j) box f.row i.gate i.left i.right f.width 4 i.is);
      gate_net = net_there n j nets b f.gate i.gate i.gate_net;
      ends = elim i.ends [
        | inl e ↦ inl (net_there n j nets b f.lo i.left e.0, net_there n j nets b f.hi i.right e.1)
        | inr e ↦ inr (net_there n j nets b f.hi i.left e.0, net_there n j nets b f.lo i.right e.1)
      ];
    }

-- ---- lists of devices
zip_there : {X Y Z W : Type 0} (R : X → Y → Type 0) (Q : Z → W → Type 0) (f : X → Z) (g : Y → W) (xs : List X) (ys : List Y) → ((x : X) (y : Y) → R x y → Q (f x) (g y)) → AllZip R xs ys → AllZip Q (map f xs) (map g ys)
zip_there R Q f g [] [] each z = z
zip_there R Q f g [] (y ∷ ys) each z = absurd z
zip_there R Q f g (x ∷ xs) [] each z = absurd z
zip_there R Q f g (x ∷ xs) (y ∷ ys) each z = (each x y z.0, zip_there R Q f g xs ys each z.1)

zip_append : {X Y : Type 0} (R : X → Y → Type 0) (xs us : List X) (ys vs : List Y) → AllZip R xs ys → AllZip R us vs → AllZip R (xs ++ us) (ys ++ vs)
zip_append R [] us [] vs h k = k
zip_append R [] us (y ∷ ys) vs h k = absurd h
zip_append R (x ∷ xs) us [] vs h k = absurd h
zip_append R (x ∷ xs) us (y ∷ ys) vs h k = (h.0, zip_append R xs us ys vs h.1 k)

zip_first : {X Y : Type 0} (R : X → Y → Type 0) (P : X → Type 0) (xs : List X) (ys : List Y) → ((x : X) (y : Y) → R x y → P x) → AllZip R xs ys → All P xs
zip_first R P [] ys each z = All-nil P
zip_first R P (x ∷ xs) [] each z = absurd z
zip_first R P (x ∷ xs) (y ∷ ys) each z = All-cons P x xs (each x y z.0) (zip_first R P xs ys each z.1)

-- ---- the devices of one cell
-- it begins in the column of the cell
abbrev BeginsIn : Standing → Rectangle → Type 0
BeginsIn s box = (pos s.x ≤ℤ box.x1) × (box.x1 <ℤ pos (right_end s))

record AreDevicesOf (names : List (List ℕ)) (shapes : Shapes) (nets : ℕ) (s : Standing) (f : Fingers) : Type 0 where
  boxes : List Rectangle
  drawn : List Finger
  devices : AllZip (IsFingerAt Plain names shapes) boxes drawn
  permuted : IsPermutation (map (behind nets) f.p ++ map (behind nets) f.n) drawn
  differ : AllPairs (λ (a b : Rectangle). a ≢ b) boxes
  begin : All (BeginsIn s) boxes
  gates : (x y : ℤ) → Gate (shapes_at s) x y → Any (λ (box : Rectangle). Holds box x y) boxes

moved_differ : (by : ℤ) (a b : Rectangle) → a ≢ b → moved_rect by a ≢ moved_rect by b
moved_differ by a b differ e =
    let left = ap (λ (r : Rectangle). r.x1) e in
    let right = ap (λ (r : Rectangle). r.x2) e in
    differ (same_rect a b (record { x1 = omega (arith, ints, left); y1 = ap (λ (r : Rectangle). r.y1) e; x2 = omega (arith, ints, right); y2 = ap (λ (r : Rectangle). r.y2) e }))

devices_of : (n : NamedRow) (j : Spot n.row) (nets : ℕ) (f : Fingers) → AreBehind (names_of_row n.row.cells) nets (standing_at n.row j) → ExtractsTo Plain (standing_at n.row j).cell.nets f (standing_at n.row j).cell.drawing.shapes → AreDevicesOf (names_of_row n.row.cells) (flat_row n.row.cells) nets (standing_at n.row j) f
devices_of n j nets f b e =
    let g = n.row in
    let s = standing_at g j in
    let by = from g j in
    let R = IsFingerAt Plain s.cell.nets s.cell.drawing.shapes in
    record {
      boxes = map (moved_rect by) e.boxes;
      drawn = map (behind nets) e.drawn;
      devices = zip_there R (IsFingerAt Plain (names_of_row g.cells) (flat_row g.cells)) (moved_rect by) (behind nets) e.boxes e.drawn (finger_there n j nets b) e.devices;
      permuted = subst (λ l. IsPermutation l (map (behind nets) e.drawn)) (map-append (behind nets) f.p f.n) (IsPermutation-map (behind nets) (f.p ++ f.n) e.drawn e.permuted);
      differ = pairs_map (λ (p q : Rectangle). p ≢ q) (λ (p : Rectangle). Unit {0}) (λ (p q : Rectangle). p ≢ q) (moved_rect by) e.boxes (λ p q _ _ d. moved_differ by p q d) (all_from_contains (λ (p : Rectangle). Unit {0}) e.boxes (λ p c. tt)) e.gates.differ;
      begin = all_map (λ (p : Rectangle). BeginsIn s (moved_rect by p)) (BeginsIn s) (moved_rect by) e.boxes (λ p k. k) (zip_first R (λ (p : Rectangle). BeginsIn s (moved_rect by p)) e.boxes e.drawn begins e.devices);
      gates = held;
    }
  where
    begins : (p : Rectangle) (x : Finger) → IsFingerAt Plain (standing_at n.row j).cell.nets (standing_at n.row j).cell.drawing.shapes p x → BeginsIn (standing_at n.row j) (moved_rect (from n.row j) p)
    begins p x i =
        let c = (moved_device (from n.row j) (plain n.row j) (own n.row j) (moved n.row j) p x.row i.gate i.left i.right x.width 4 i.is).class in
        let w = c.proper.wide in
        let h = c.proper.high in
        let k = clear_active n.row j (p.x1 +ℤ from n.row j) p.y1 (c.gate (p.x1 +ℤ from n.row j) p.y1 (record { left = omega (arith, ints); right = w; low = omega (arith, ints); high = h })).0 in
        let left = k.column.left in
        let right = k.column.right in
        (omega (arith, ints, left), omega (arith, ints, right))

    held : (x y : ℤ) → Gate (own n.row j) x y → Any (λ (box : Rectangle). Holds box x y) (map (moved_rect (from n.row j)) e.boxes)
    held x y c =
        let k = some_from_any (λ (box : Rectangle). Holds box (x -ℤ from n.row j) y) e.boxes (e.gates.all (x -ℤ from n.row j) y (down (from n.row j) (Gate (plain n.row j)) (Gate (own n.row j)) (gate (from n.row j) (plain n.row j) (own n.row j) (moved n.row j)) x y c)) in
        any_at (λ (box : Rectangle). Holds box x y) (map (moved_rect (from n.row j)) e.boxes) (moved_rect (from n.row j) k.it) (contains_map (moved_rect (from n.row j)) e.boxes k.it k.there) (inside_there (from n.row j) k.it x y k.holds)

-- ---- the devices of all cells
record AreAllDevices (names : List (List ℕ)) (shapes : Shapes) (nets k x : ℕ) (cells : List RowCell) (fingers : List Fingers) : Type 0 where
  boxes : List Rectangle
  drawn : List Finger
  devices : AllZip (IsFingerAt Plain names shapes) boxes drawn
  permuted : IsPermutation (fingers_behind (λ (f : Fingers). f.p) nets cells fingers ++ fingers_behind (λ (f : Fingers). f.n) nets cells fingers) drawn
  differ : AllPairs (λ (a b : Rectangle). a ≢ b) boxes
  begin : All (λ (box : Rectangle). pos x ≤ℤ box.x1) boxes
  gates : (s : Standing) → Contains (standing_behind k x cells) s → (u v : ℤ) → Gate (shapes_at s) u v → Any (λ (box : Rectangle). Holds box u v) boxes

no_devices : (names : List (List ℕ)) (shapes : Shapes) (nets k x : ℕ) → AreAllDevices names shapes nets k x [] []
no_devices names shapes nets k x = record {
  boxes = [];
  drawn = [];
  devices = tt;
  permuted = IsPermutation-refl [];
  differ = pairs_none (λ (a b : Rectangle). a ≢ b);
  begin = All-nil (λ (box : Rectangle). pos x ≤ℤ box.x1);
  gates = λ s c u v g. absurd (contains_none s c);
}

-- two lists and two more, the inner ones exchanged
crossed : {X : Type 0} (a b c d : List X) → IsPermutation ((a ++ b) ++ (c ++ d)) ((a ++ c) ++ (b ++ d))
crossed a b c d =
    let inner : IsPermutation (b ++ (c ++ d)) (c ++ (b ++ d)) = subst (λ l. IsPermutation l (c ++ (b ++ d))) (append_assoc b c d) (subst (IsPermutation ((b ++ c) ++ d)) (append_assoc c b d) (IsPermutation-append (b ++ c) (c ++ b) d d (IsPermutation-append_comm b c) (IsPermutation-refl d))) in
    subst (λ l. IsPermutation l ((a ++ c) ++ (b ++ d))) (sym (append_assoc a b (c ++ d))) (subst (IsPermutation (a ++ (b ++ (c ++ d)))) (sym (append_assoc a c (b ++ d))) (IsPermutation-append a a (b ++ (c ++ d)) (c ++ (b ++ d)) (IsPermutation-refl a) inner))

more_devices : (names : List (List ℕ)) (shapes : Shapes) (nets k x : ℕ) (c : RowCell) (cs : List RowCell) (f : Fingers) (fs : List Fingers) → AreDevicesOf names shapes nets (record { number = k; x = x; cell = c }) f → AreAllDevices names shapes (nets + length c.nets) (k + 1) (x + c.drawing.width) cs fs → AreAllDevices names shapes nets k x (c ∷ cs) (f ∷ fs)
more_devices names shapes nets k x c cs f fs one rest = record {
  boxes = one.boxes ++ rest.boxes;
  drawn = one.drawn ++ rest.drawn;
  devices = zip_append (IsFingerAt Plain names shapes) one.boxes rest.boxes one.drawn rest.drawn one.devices rest.devices;
  permuted = IsPermutation-trans ((p ++ ps) ++ (n ++ ns)) ((p ++ n) ++ (ps ++ ns)) (one.drawn ++ rest.drawn) (crossed p ps n ns) (IsPermutation-append (p ++ n) one.drawn (ps ++ ns) rest.drawn one.permuted rest.permuted);
  differ = pairs_append (λ (a b : Rectangle). a ≢ b) one.boxes rest.boxes one.differ rest.differ
      (cross (λ (a b : Rectangle). a ≢ b) (BeginsIn s) (λ (b : Rectangle). pos (x + c.drawing.width) ≤ℤ b.x1) one.boxes rest.boxes one.begin rest.begin (λ a b i least e. let most = i.1 in let same = ap (λ (r : Rectangle). r.x1) e in omega (arith, ints, least, most, same)));
  begin = All-append (λ (b : Rectangle). pos x ≤ℤ b.x1) one.boxes rest.boxes
      (All-weaker (λ (b : Rectangle). BeginsIn s b) (λ (b : Rectangle). pos x ≤ℤ b.x1) (λ b i. i.0) one.boxes one.begin)
      (All-weaker (λ (b : Rectangle). pos (x + c.drawing.width) ≤ℤ b.x1) (λ (b : Rectangle). pos x ≤ℤ b.x1) (λ b least. omega (arith, ints, least)) rest.boxes rest.begin);
  gates = held;
}
  where
    s : Standing
    s = record { number = k; x = x; cell = c }

    p : List Finger
    p = map (behind nets) f.p

    n : List Finger
    n = map (behind nets) f.n

    ps : List Finger
    ps = fingers_behind (λ (f : Fingers). f.p) (nets + length c.nets) cs fs

    ns : List Finger
    ns = fingers_behind (λ (f : Fingers). f.n) (nets + length c.nets) cs fs

    held : (t : Standing) → Contains (standing_behind k x (c ∷ cs)) t → (u v : ℤ) → Gate (shapes_at t) u v → Any (λ (box : Rectangle). Holds box u v) (one.boxes ++ rest.boxes)
    held t l u v g = elim (contains_cons s (standing_behind (k + 1) (x + c.drawing.width) cs) t l) [
      | inl e ↦ any_append_left (λ (box : Rectangle). Holds box u v) one.boxes rest.boxes (one.gates u v (subst (λ (z : Standing). Gate (shapes_at z) u v) (sym e) g))
      | inr r ↦ (let q = some_from_any (λ (box : Rectangle). Holds box u v) rest.boxes (rest.gates t r u v g) in any_at (λ (box : Rectangle). Holds box u v) (one.boxes ++ rest.boxes) q.it (Contains-append_right one.boxes rest.boxes q.it q.there) q.holds)
    ]

-- ---- cells behind others, with the names of nets before theirs
abbrev names_at : Standing → List (List ℕ)
names_at s = map (name_in_row s) s.cell.nets

behind_front : (front rest names : List (List ℕ)) (nets : ℕ) (s : Standing) → nets ≡ length front → names ≡ front ++ (names_at s ++ rest) → AreBehind names nets s
behind_front front rest names nets s count is net low =
    let at_net : nets + net.0 ≡ length front + net.0 = omega (arith, count) in
    ap (λ l. get_or l (nets + net.0) []) is
    ∙ (ap (λ i. get_or (front ++ (names_at s ++ rest)) i []) at_net
    ∙ (get_or-append-add front (names_at s ++ rest) net.0 []
    ∙ (get_or_append_left (names_at s) rest [] net.0 (omega (arith, low, length-map s.cell.nets (name_in_row s)))
    ∙ get_or-map (name_in_row s) s.cell.nets net.0 [] [] low)))

all_devices : (n : NamedRow) (nets k x : ℕ) (front : List (List ℕ)) (cells : List RowCell) (fingers : List Fingers) → nets ≡ length front → names_of_row n.row.cells ≡ front ++ flat_map names_at (standing_behind k x cells) → ((s : Standing) → Contains (standing_behind k x cells) s → Contains (standing n.row.cells) s) → AllZip IsCircuit cells fingers → AreAllDevices (names_of_row n.row.cells) (flat_row n.row.cells) nets k x cells fingers
all_devices n nets k x front [] [] count is into z = no_devices (names_of_row n.row.cells) (flat_row n.row.cells) nets k x
all_devices n nets k x front [] (f ∷ fs) count is into z = absurd z
all_devices n nets k x front (c ∷ cs) [] count is into z = absurd z
all_devices n nets k x front (c ∷ cs) (f ∷ fs) count is into z =
    more_devices (names_of_row n.row.cells) (flat_row n.row.cells) nets k x c cs f fs mine
    (all_devices n (nets + length c.nets) (k + 1) (x + c.drawing.width) (front ++ names_at s) cs fs counted (is ∙ sym (append_assoc front (names_at s) rest)) (λ t l. into t (contains_there s (standing_behind (k + 1) (x + c.drawing.width) cs) t l)) z.1)
  where
    s : Standing
    s = record { number = k; x = x; cell = c }

    rest : List (List ℕ)
    rest = flat_map names_at (standing_behind (k + 1) (x + c.drawing.width) cs)

    counted : nets + length c.nets ≡ length (front ++ names_at s)
    counted = let a = length-append front (names_at s) in let b = length-map c.nets (name_in_row s) in omega (arith, count, a, b)

    here : PlaceOf (standing n.row.cells) s
    here = place_of (standing n.row.cells) s (into s (contains_here s (standing_behind (k + 1) (x + c.drawing.width) cs)))

    mine : AreDevicesOf (names_of_row n.row.cells) (flat_row n.row.cells) nets s f
    mine =
        let Goal = λ (t : Standing). AreDevicesOf (names_of_row n.row.cells) (flat_row n.row.cells) nets t f in
        subst Goal here.is (devices_of n here.place nets f
        (subst (AreBehind (names_of_row n.row.cells) nets) (sym here.is) (behind_front front rest (names_of_row n.row.cells) nets s count is))
        (subst (λ (t : Standing). ExtractsTo Plain t.cell.nets f t.cell.drawing.shapes) (sym here.is) z.0.extracts))

pub extracts : (n : NamedRow) (fingers : List Fingers) → AllZip IsCircuit n.row.cells fingers → ExtractsTo Plain (names_of_row n.row.cells) (fingers_of_row n.row.cells fingers) (flat_row n.row.cells)
extracts n fingers z =
    let g = n.row in
    let d = all_devices n 0 0 0 [] g.cells fingers refl refl (λ s c. c) z in
    record {
      nets = all_named n;
      boxes = d.boxes;
      gates = record { differ = d.differ; all = λ x y c. let a = gate_of g x y c in d.gates (standing_at g a.of) (at_listed (standing g.cells) a.of) x y a.inside };
      drawn = d.drawn;
      devices = d.devices;
      permuted = d.permuted;
    }
