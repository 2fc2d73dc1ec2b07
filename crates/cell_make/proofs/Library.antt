-- The library of a row can be written.
use Rattle.std.proofs.Common.{ℕ, ◌≡◌, ◌≢◌, ◌/◌, IsTrue, ◌+◌, ◌*◌, ◌<◌, ◌≤◌, ℤ, pos, negsuc, unsigned_abs, ◌≤ℤ◌, ◌+ℤ◌, List, [], ◌∷◌, ◌++◌, drop, map, length, All, AllPairs, Contains, refl, sym, ap, subst, arith}
use Rattle.std.specs.Int.{w32}
use Rattle.std.specs.Prelude.{bytes_eq, decimal, codes, not}
use Rattle.std.specs.List.{flat_map}
use Rattle.std.proofs.lemmas.Fmt.{length-decimal-le}
use Rattle.std.proofs.lemmas.Int.{ints, fits_signed_mul}
use Rattle.std.proofs.Math.Nat.{div-add-mod, mod-lt}
use Rattle.std.proofs.lemmas.List.{length-append, length-map}
use Rattle.std.proofs.lemmas.List.Elements.{All-append, All-cons, All-contains, All-filter, All-head, All-nil, All-tail, All-weaker, Contains-append_right}
use Rattle.box_geom.specs.Rectangle.{IsRectangle}
use Rattle.box_geom.specs.declared.shape.Label.{Label}
use Rattle.box_geom.specs.declared.shape.Shape.{Shape}
use Rattle.cell_draw.specs.Bounds.{IsLabelWithin}
use Rattle.cell_draw.specs.Framed.{IsLabelInFrame}
use Rattle.cell_inputs.specs.Inputs.{unit_nm}
use Rattle.cell_inputs.proofs.Names.{log_name, whole_name}
use Rattle.cell_num.specs.Names.{is_cell}
use Rattle.cell_num.proofs.Lists.{all_flat, all_from_contains, all_map, all_one, contains_here}
use Rattle.cell_num.proofs.Pairs.{pairs_append, pairs_map, pairs_one}
use Rattle.gds_read.specs.RoundTrip.{AreReadable, HasNoZeroEnd, IsReadableStruct}
use Rattle.gds_write.specs.Written.{IsLabelUpTo, IsWritableLabel, IsWritableName, IsWritableRef, IsWritableShape, IsWritableStruct, Fits}
use Rattle.gds_write.specs.declared.library.Ref.{Ref}
use Rattle.gds_write.specs.declared.library.Struct.{Struct}
use Rattle.row_abut.specs.Row.{Standing, gnd_name, is_rail, label_at, labels_at, labels_named, rail_labels, row_labels, standing, standing_behind, vdd_name}
use Rattle.row_abut.specs.Structs.{abutted, first_uses, ref_at, struct_of, top_of}
use Rattle.row_abut.specs.declared.cell.RowCell.{RowCell}
use Rattle.cell_make.proofs.MadeCells.{IsReady}
use Rattle.cell_make.proofs.Made.{contains_map, mapped_from, ready}
use Rattle.cell_make.proofs.Uses.{HaveOtherNames, all_differ, of_cells}
use Rattle.cell_make.specs.RowInputs.{AreRowInputs, RowInputs}
use Rattle.cell_make.specs.Rowed.{AreMade, MadeCell, cell_drawing, cell_frame, cell_name, row_cell, row_cells}
use Rattle.cell_make.specs.RowSteps.{IsSoundCell}

-- ---- places

-- a place of a label or of a reference in the row
record IsNear (z : ℤ) : Type 0 where
  least : pos 0 ≤ℤ (z +ℤ pos 10)
  most : z ≤ℤ pos 2100000

abs_most : (z : ℤ) → IsNear z → unsigned_abs z ≤ 2100000
abs_most (pos n) h = omega (arith, ints, h.most)
abs_most (negsuc n) h = omega (arith, ints, h.least)

near_fits : (unit : ℕ) (z : ℤ) → IsNear z → unit ≤ 1000 → Fits unit z
near_fits unit z h few = fits_signed_mul w32 z (pos unit) 2100000 1000 (abs_most z h) few (omega arith)

-- ---- cells in their places

record IsPlaced (r : RowInputs) (s : Standing) : Type 0 where
  number : s.number < 16
  x : s.x ≤ 1905240
  m : MadeCell
  cell : s.cell ≡ row_cell m
  ready : IsReady r m

placed : (r : RowInputs) (number x : ℕ) (made : List MadeCell) → All (IsReady r) made → number + length made ≤ 16 → x ≤ 127016 * number → All (IsPlaced r) (standing_behind number x (row_cells made))
placed r number x [] ready few low = All-nil (IsPlaced r)
placed r number x (m ∷ ms) ready few low =
    let h = All-head (IsReady r) m ms ready in
    let most : (cell_drawing m).width ≤ 127016 = h.sound.extent.most in
    All-cons (IsPlaced r) _ _
    (record { number = omega (arith, few); x = omega (arith, few, low); m = m; cell = refl; ready = h })
    (placed r (number + 1) (x + (cell_drawing m).width) ms (All-tail (IsReady r) m ms ready) (omega (arith, few)) (omega (arith, low, most)))

-- ---- labels

-- a label of a cell, which has a name without a zero byte at its end
record IsGoodLabel (m : MadeCell) (l : Label) : Type 0 where
  left : pos 8 ≤ℤ l.x
  right : (l.x +ℤ pos 8) ≤ℤ pos (cell_drawing m).width
  within : IsLabelWithin l
  some : 1 ≤ length l.name
  most : length l.name ≤ 64
  whole : HasNoZeroEnd l.name

good_labels : (r : RowInputs) (m : MadeCell) → IsReady r m → All (IsGoodLabel m) (cell_drawing m).shapes.labels
good_labels r m h = all_from_contains (IsGoodLabel m) (cell_drawing m).shapes.labels (λ l there.
    let frame = All-contains (IsLabelInFrame (cell_frame m)) (cell_drawing m).shapes.labels l h.sound.extent.framed.labels there in
    let name = All-contains (IsWritableLabel (unit_nm m.inputs.tech)) (cell_drawing m).shapes.labels l h.sound.readable.labels there in
    record {
      left = frame.left;
      right = subst (λ n. (l.x +ℤ pos 8) ≤ℤ pos n) (sym h.sound.extent.framed.width) frame.right;
      within = All-contains IsLabelWithin (cell_drawing m).shapes.labels l h.sound.extent.within.labels there;
      some = name.some;
      most = name.most;
      whole = All-contains (λ (x : Label). HasNoZeroEnd x.name) (cell_drawing m).shapes.labels l h.sound.readable.labels_whole there;
    })

-- ---- names without a zero byte at their end

pushed_none : (b : ℕ) (bs front : List ℕ) → 1 ≤ length bs → b ∷ bs ≡ front ++ 0 ∷ [] → (rest : List ℕ) × (bs ≡ rest ++ 0 ∷ [])
pushed_none b bs [] some e = absurd (omega (arith, some, ap length e))
pushed_none b bs (f ∷ fs) some e = (fs, ap (λ (l : List ℕ). drop 1 l) e)

pub behind_front : (front name : List ℕ) → 1 ≤ length name → HasNoZeroEnd name → HasNoZeroEnd (front ++ name)
behind_front [] name some whole = whole
behind_front (b ∷ bs) name some whole = λ before e.
    let (rest, is) = pushed_none b (bs ++ name) before (omega (arith, length-append bs name, some)) e in
    behind_front bs name some whole rest is

-- ---- the labels of the row

record IsGood (unit : ℕ) (l : Label) : Type 0 where
  writable : IsLabelUpTo 68 unit l
  whole : HasNoZeroEnd l.name

moved_good : (r : RowInputs) (unit : ℕ) (s : Standing) (p : IsPlaced r s) → unit ≤ 1000 → (l : Label) → IsGoodLabel p.m l → IsGood unit (label_at s.number s.x l)
moved_good r unit s p few l h =
    let number : length (decimal s.number) ≤ 2 = length-decimal-le 2 s.number (omega arith) (omega (arith, p.number)) (omega (arith, p.number)) in
    let width : (cell_drawing p.m).width ≤ 127016 = p.ready.sound.extent.most in
    let x : s.x ≤ 1905240 = p.x in
    record {
      writable = record {
        x = near_fits unit (l.x +ℤ pos s.x) (record { least = omega (arith, ints, h.left); most = omega (arith, ints, h.right, width, x) }) few;
        y = near_fits unit l.y (record { least = omega (arith, ints, h.within.y.least); most = omega (arith, ints, h.within.y.most) }) few;
        some = omega (arith, length-append (decimal s.number ++ codes "#") l.name, h.some);
        most = omega (arith, length-append (decimal s.number ++ codes "#") l.name, length-append (decimal s.number) (codes "#"), number, h.most);
      };
      whole = behind_front (decimal s.number ++ codes "#") l.name h.some h.whole;
    }

still_good : (m : MadeCell) (unit : ℕ) → unit ≤ 1000 → (cell_drawing m).width ≤ 127016 → (l : Label) → IsGoodLabel m l → IsGood unit l
still_good m unit few width l h =
    record {
      writable = record {
        x = near_fits unit l.x (record { least = omega (arith, ints, h.left); most = omega (arith, ints, h.right, width) }) few;
        y = near_fits unit l.y (record { least = omega (arith, ints, h.within.y.least); most = omega (arith, ints, h.within.y.most) }) few;
        some = h.some;
        most = omega (arith, h.most);
      };
      whole = h.whole;
    }

row_labels_good : (r : RowInputs) (unit : ℕ) (made : List MadeCell) → unit ≤ 1000 → All (IsReady r) made → length made ≤ 16 → All (IsGood unit) (row_labels (row_cells made))
row_labels_good r unit made few ready most =
    All-append (IsGood unit) (flat_map labels_at (standing (row_cells made))) (rail_labels (row_cells made))
    (all_flat (IsPlaced r) (IsGood unit) labels_at (standing (row_cells made)) each (placed r 0 0 made ready (omega (arith, most)) (omega arith)))
    (of_first made ready)
  where
    each : (s : Standing) → IsPlaced r s → All (IsGood unit) (labels_at s)
    each s p = all_map (IsGoodLabel p.m) (IsGood unit) (label_at s.number s.x) _ (moved_good r unit s p few)
        (All-filter (λ (l : Label). not (is_rail s.cell l.name)) (IsGoodLabel p.m) s.cell.drawing.shapes.labels (subst (λ (c : RowCell). All (IsGoodLabel p.m) c.drawing.shapes.labels) (sym p.cell) (good_labels r p.m p.ready)))

    kept : (m : MadeCell) (name : List ℕ) → IsReady r m → All (IsGood unit) (labels_named name (row_cell m))
    kept m name h = All-filter (λ (l : Label). bytes_eq l.name name) (IsGood unit) (cell_drawing m).shapes.labels (All-weaker (IsGoodLabel m) (IsGood unit) (still_good m unit few h.sound.extent.most) (cell_drawing m).shapes.labels (good_labels r m h))

    of_first : (made : List MadeCell) → All (IsReady r) made → All (IsGood unit) (rail_labels (row_cells made))
    of_first [] ready = All-nil (IsGood unit)
    of_first (m ∷ ms) ready =
        let h = All-head (IsReady r) m ms ready in
        All-append (IsGood unit) (labels_named (vdd_name (row_cell m)) (row_cell m)) (labels_named (gnd_name (row_cell m)) (row_cell m)) (kept m (vdd_name (row_cell m)) h) (kept m (gnd_name (row_cell m)) h)

-- ---- structures

named_so : (name : List ℕ) → IsTrue (is_cell name) → IsWritableName name
named_so name is = let named = log_name name is in record { some = named.some; most = named.few }

zero_free : (name : List ℕ) → IsTrue (is_cell name) → HasNoZeroEnd name
zero_free name is front e = All-contains (λ b. b ≢ 0) name 0 (whole_name name is) (subst (λ t. Contains t 0) (sym e) (Contains-append_right front (0 ∷ []) 0 (contains_here 0 []))) refl

cell_good : (r : RowInputs) (m : MadeCell) → IsReady r m → IsReadableStruct (unit_nm r.tech) (struct_of (row_cell m))
cell_good r m h = subst (λ unit. IsReadableStruct unit (struct_of (row_cell m))) (ap unit_nm h.is.of.tech) (record {
  writable = record {
    name = h.sound.readable.named;
    rects = h.sound.readable.rects;
    refs = All-nil (IsWritableRef (unit_nm m.inputs.tech));
    labels = All-weaker (IsWritableLabel (unit_nm m.inputs.tech)) (IsLabelUpTo 68 (unit_nm m.inputs.tech)) (λ l k. record { x = k.x; y = k.y; some = k.some; most = omega (arith, k.most) }) (cell_drawing m).shapes.labels h.sound.readable.labels;
  };
  named_whole = h.sound.readable.named_whole;
  limits = h.sound.readable.limits;
  refs_whole = All-nil (λ (x : Ref). HasNoZeroEnd x.name);
  labels_whole = h.sound.readable.labels_whole;
})

top_good : (r : RowInputs) (unit : ℕ) (made : List MadeCell) → AreRowInputs r → unit ≤ 1000 → All (IsReady r) made → length made ≤ 16 → IsReadableStruct unit (top_of r.top (row_cells made))
top_good r unit made are few ready most =
    let labels = row_labels_good r unit made few ready most in
    let stand = placed r 0 0 made ready (omega (arith, most)) (omega arith) in
    record {
      writable = record {
        name = named_so r.top are.top;
        rects = All-nil (IsWritableShape unit);
        refs = all_map (IsPlaced r) (IsWritableRef unit) ref_at (standing (row_cells made)) (λ s p. record {
          name = subst (λ (c : RowCell). IsWritableName c.name) (sym p.cell) p.ready.sound.readable.named;
          x = near_fits unit (pos s.x) (let x : s.x ≤ 1905240 = p.x in record { least = omega (arith, ints); most = omega (arith, ints, x) }) few;
          y = near_fits unit (pos 0) (record { least = omega (arith, ints); most = omega (arith, ints) }) few;
        }) stand;
        labels = All-weaker (IsGood unit) (IsLabelUpTo 68 unit) (λ l k. k.writable) (row_labels (row_cells made)) labels;
      };
      named_whole = zero_free r.top are.top;
      limits = All-nil (λ (x : Shape). IsRectangle x.rect);
      refs_whole = all_map (IsPlaced r) (λ (x : Ref). HasNoZeroEnd x.name) ref_at (standing (row_cells made)) (λ s p. subst (λ (c : RowCell). HasNoZeroEnd c.name) (sym p.cell) p.ready.sound.readable.named_whole) stand;
      labels_whole = All-weaker (IsGood unit) (λ (l : Label). HasNoZeroEnd l.name) (λ l k. k.whole) (row_labels (row_cells made)) labels;
    }

-- ---- the whole

-- what is known of the made cells of a row
pub record AreReady (r : RowInputs) (made : List MadeCell) : Type 0 where
  pub inputs : AreRowInputs r
  pub are : AreMade r r.names made
  pub sound : All IsSoundCell made

pub few_made : (r : RowInputs) (made : List MadeCell) → AreReady r made → length made ≤ 16
few_made r made h = let most : length r.names ≤ 16 = h.inputs.most in omega (arith, most, length-map made cell_name, ap length h.are.named)

units : (r : RowInputs) → AreRowInputs r → (10 ≤ unit_nm r.tech) × (unit_nm r.tech ≤ 1000)
units r are = (unit_least r.tech.lambda_nm are.tech.lambda_least, unit_most r.tech.lambda_nm are.tech.lambda_most)
  where
    unit_least : (n : ℕ) → 20 ≤ n → 10 ≤ n / 2
    unit_least n least =
        let some : 0 < 2 = omega arith in
        omega (arith, least, div-add-mod n 2, mod-lt n some)

    unit_most : (n : ℕ) → n ≤ 2000 → n / 2 ≤ 1000
    unit_most n most = omega (arith, most, div-add-mod n 2)

use_made : (r : RowInputs) (made : List MadeCell) (c : RowCell) → AreReady r made → Contains (first_uses [] (row_cells made)) c → IsReadableStruct (unit_nm r.tech) (struct_of c)
use_made r made c h there =
    let (m, inside, same) = mapped_from row_cell made c (of_cells [] (row_cells made) c there).0 in
    subst (λ x. IsReadableStruct (unit_nm r.tech) (struct_of x)) same (cell_good r m (All-contains (IsReady r) made m (ready r r.names made h.are h.sound) inside))

pub top_differs : (r : RowInputs) (made : List MadeCell) (c : RowCell) → AreReady r made → Contains (row_cells made) c → c.name ≢ r.top
top_differs r made c h there =
    let (m, inside, same) = mapped_from row_cell made c there in
    let name : Contains r.names (cell_name m) = subst (λ ns. Contains ns (cell_name m)) h.are.named (contains_map cell_name made m inside) in
    subst (λ (x : RowCell). x.name ≢ r.top) same (All-contains (λ n. n ≢ r.top) r.names (cell_name m) h.inputs.apart name)

abbrev AreOthers : Struct → Struct → Type 0
AreOthers s t = s.name ≡ t.name → ⊥

all_others : (r : RowInputs) (made : List MadeCell) → AreReady r made → AllPairs AreOthers (abutted r.top (row_cells made))
all_others r made h =
    pairs_append AreOthers (map struct_of (first_uses [] (row_cells made))) (top_of r.top (row_cells made) ∷ [])
    (pairs_map HaveOtherNames (λ c. Unit {0}) AreOthers struct_of (first_uses [] (row_cells made)) (λ x y a b s. s) (all_from_contains (λ c. Unit {0}) (first_uses [] (row_cells made)) (λ c there. tt)) (all_differ [] (row_cells made)))
    (pairs_one AreOthers (top_of r.top (row_cells made)))
    (all_map (λ (c : RowCell). c.name ≢ r.top) (λ s. All (AreOthers s) (top_of r.top (row_cells made) ∷ [])) struct_of (first_uses [] (row_cells made)) (λ c other. all_one (AreOthers (struct_of c)) (top_of r.top (row_cells made)) other)
    (all_from_contains (λ (c : RowCell). c.name ≢ r.top) (first_uses [] (row_cells made)) (λ c there. top_differs r made c h (of_cells [] (row_cells made) c there).0)))

pub readable : (r : RowInputs) (made : List MadeCell) → AreReady r made → AreReadable (abutted r.top (row_cells made)) (unit_nm r.tech)
readable r made h =
    let (least, most) = units r h.inputs in
    record {
      enough = least;
      each = All-append (IsReadableStruct (unit_nm r.tech)) (map struct_of (first_uses [] (row_cells made))) (top_of r.top (row_cells made) ∷ [])
          (all_map (λ c. Contains (first_uses [] (row_cells made)) c) (IsReadableStruct (unit_nm r.tech)) struct_of (first_uses [] (row_cells made)) (λ c there. use_made r made c h there) (all_from_contains (λ c. Contains (first_uses [] (row_cells made)) c) (first_uses [] (row_cells made)) (λ c there. there)))
          (all_one (IsReadableStruct (unit_nm r.tech)) (top_of r.top (row_cells made)) (top_good r (unit_nm r.tech) made h.inputs most (ready r r.names made h.are h.sound) (few_made r made h)));
      different = all_others r made h;
    }

pub writable : (r : RowInputs) (made : List MadeCell) → AreReady r made → All (IsWritableStruct (unit_nm r.tech)) (abutted r.top (row_cells made))
writable r made h = All-weaker (IsReadableStruct (unit_nm r.tech)) (IsWritableStruct (unit_nm r.tech)) (λ s k. k.writable) (abutted r.top (row_cells made)) (readable r made h).each
