-- The library of a row is read back: the row by its name, each cell by its own.
use Rattle.std.proofs.Common.{ℕ, ◌≡◌, ◌+◌, ◌*◌, ◌/◌, ◌%◌, ◌<◌, ◌≤◌, ℤ, pos, ◌+ℤ◌, List, [], ◌∷◌, map, length, All, Contains, Some, refl, sym, ap, subst, ◌∙◌, arith, inl, inr}
use Rattle.std.specs.List.{flat_map}
use Rattle.std.proofs.Math.Nat.{div-add-mod}
use Rattle.std.proofs.lemmas.Int.{ints}
use Rattle.std.proofs.lemmas.List.{length-append, length-map}
use Rattle.std.proofs.lemmas.List.Elements.{All-contains, All-head, All-tail, Contains-append_left, Contains-append_right}
use Rattle.box_geom.specs.declared.shape.Shape.{Shape}
use Rattle.box_geom.specs.declared.shape.Shapes.{Shapes}
use Rattle.cell_inputs.specs.Inputs.{unit_nm}
use Rattle.cell_num.proofs.Lists.{all_from_contains, all_map, contains_cons, contains_here, contains_none, contains_there}
use Rattle.gds_read.proofs.RoundTripLocated.{named_is}
use Rattle.gds_read.proofs.RoundTrip.{flat_back, plain_back}
use Rattle.gds_read.specs.Decoding.{Decodes}
use Rattle.gds_read.specs.RoundTrip.{IsToPlain, flat_shapes, rects_of, referred_rects, shape_moved, structure_named}
use Rattle.row_abut.specs.Row.{Standing, flat_row, row_labels, shapes_at, shifted, standing, standing_behind}
use Rattle.row_abut.specs.Structs.{abutted, first_uses, ref_at, struct_of, top_of}
use Rattle.row_abut.specs.declared.cell.RowCell.{RowCell}
use Rattle.cell_make.proofs.MadeCells.{IsReady}
use Rattle.cell_make.proofs.Library.{AreReady, few_made, readable}
use Rattle.cell_make.proofs.Made.{contains_map, mapped_from, one_each, ready}
use Rattle.cell_make.proofs.Uses.{is_use}
use Rattle.cell_make.specs.RowInputs.{RowInputs}
use Rattle.cell_make.specs.Rowed.{MadeCell, cell_drawing, cell_name, row_cell, row_cells, row_library}

-- ---- the structure of a cell

one_cell : (r : RowInputs) (made : List MadeCell) → AreReady r made → (c d : RowCell) → Contains (row_cells made) c → Contains (row_cells made) d → d.name ≡ c.name → d ≡ c
one_cell r made h c d there also same =
    let (m, inside, is) = mapped_from row_cell made c there in
    let (n, within, are) = mapped_from row_cell made d also in
    let names : cell_name n ≡ cell_name m = ap (λ (x : RowCell). x.name) are ∙ same ∙ sym (ap (λ (x : RowCell). x.name) is) in
    sym are ∙ ap row_cell ((one_each made h.are.once n m within inside).one names) ∙ is

struct_there : (r : RowInputs) (made : List MadeCell) → AreReady r made → (c : RowCell) → Contains (row_cells made) c → Contains (abutted r.top (row_cells made)) (struct_of c)
struct_there r made h c there =
    Contains-append_left (map struct_of (first_uses [] (row_cells made))) (top_of r.top (row_cells made) ∷ []) (struct_of c)
    (contains_map struct_of (first_uses [] (row_cells made)) c (is_use (row_cells made) c (λ d also same. one_cell r made h c d there also same) there))

struct_named : (r : RowInputs) (made : List MadeCell) → AreReady r made → (c : RowCell) → Contains (row_cells made) c → structure_named (abutted r.top (row_cells made)) c.name ≡ Some (struct_of c)
struct_named r made h c there = named_is (abutted r.top (row_cells made)) (struct_of c) (readable r made h).different (struct_there r made h c there)

-- ---- the cells in their places

of_row : (number x : ℕ) (cells : List RowCell) → All (λ (s : Standing). Contains cells s.cell) (standing_behind number x cells)
of_row number x cells = all_from_contains (λ (s : Standing). Contains cells s.cell) (standing_behind number x cells) (λ s there. inside number x cells s there)
  where
    inside : (number x : ℕ) (cells : List RowCell) (s : Standing) → Contains (standing_behind number x cells) s → Contains cells s.cell
    inside number x [] s there = absurd (contains_none s there)
    inside number x (c ∷ cs) s there = elim (contains_cons _ (standing_behind (number + 1) (x + c.drawing.width) cs) s there) [
      | inl same ↦ subst (λ (z : Standing). Contains (c ∷ cs) z.cell) same (contains_here c cs)
      | inr later ↦ contains_there c cs s.cell (inside (number + 1) (x + c.drawing.width) cs s later)
    ]

moved_is : (x : ℕ) (s : Shape) → shape_moved (pos x) (pos 0) s ≡ shifted x s
moved_is x s = cc (zero_more s.rect.y1, zero_more s.rect.y2)
  where
    zero_more : (z : ℤ) → (z +ℤ pos 0) ≡ z
    zero_more z = omega (arith, ints)

map_same : {X Y : Type 0} (f g : X → Y) (xs : List X) → ((x : X) → f x ≡ g x) → map f xs ≡ map g xs
map_same f g [] each = refl
map_same f g (x ∷ xs) each = cc (each x, map_same f g xs each)

referred : (r : RowInputs) (made : List MadeCell) → AreReady r made → (s : Standing) → Contains (row_cells made) s.cell → referred_rects (abutted r.top (row_cells made)) (ref_at s) ≡ shapes_at s
referred r made h s there =
    ap (λ o. map (shape_moved (pos s.x) (pos 0)) (rects_of o)) (struct_named r made h s.cell there)
    ∙ map_same (shape_moved (pos s.x) (pos 0)) (shifted s.x) s.cell.drawing.shapes.rects (moved_is s.x)

flat_same : {X Y Z : Type 0} (f : X → Y) (g : Y → List Z) (k : X → List Z) (xs : List X) → All (λ x. g (f x) ≡ k x) xs → flat_map g (map f xs) ≡ flat_map k xs
flat_same f g k [] each = refl
flat_same f g k (x ∷ xs) each = cc (All-head (λ x. g (f x) ≡ k x) x xs each, flat_same f g k xs (All-tail (λ x. g (f x) ≡ k x) x xs each))

flat_is : (r : RowInputs) (made : List MadeCell) → AreReady r made → flat_shapes (abutted r.top (row_cells made)) (top_of r.top (row_cells made)) ≡ flat_row (row_cells made)
flat_is r made h =
    ap (λ rects. record { rects = rects; labels = row_labels (row_cells made) })
    (flat_same ref_at (referred_rects (abutted r.top (row_cells made))) shapes_at (standing (row_cells made))
    (all_from_contains (λ s. referred_rects (abutted r.top (row_cells made)) (ref_at s) ≡ shapes_at s) (standing (row_cells made)) (λ s there. referred r made h s (All-contains (λ (s : Standing). Contains (row_cells made) s.cell) (standing (row_cells made)) s (of_row 0 0 (row_cells made)) there))))

-- ---- counts

few_shapes : (r : RowInputs) (number x : ℕ) (made : List MadeCell) → All (IsReady r) made → length (flat_map shapes_at (standing_behind number x (row_cells made))) ≤ 2000 * length made
few_shapes r number x [] ready = omega arith
few_shapes r number x (m ∷ ms) ready =
    let few : length (cell_drawing m).shapes.rects < 2000 = (All-head (IsReady r) m ms ready).sound.few in
    omega (arith, few, length-append (map (shifted x) (cell_drawing m).shapes.rects) (flat_map shapes_at (standing_behind (number + 1) (x + (cell_drawing m).width) (row_cells ms))), length-map (cell_drawing m).shapes.rects (shifted x), few_shapes r (number + 1) (x + (cell_drawing m).width) ms (All-tail (IsReady r) m ms ready))

as_many : (number x : ℕ) (made : List MadeCell) → length (map ref_at (standing_behind number x (row_cells made))) ≡ length made
as_many number x [] = refl
as_many number x (m ∷ ms) = omega (arith, as_many (number + 1) (x + (cell_drawing m).width) ms)

-- ---- read back

twice : (n : ℕ) → n % 2 ≡ 0 → 2 * (n / 2) ≡ n
twice n even = omega (arith, even, div-add-mod n 2)

pub row_decodes : (r : RowInputs) (made : List MadeCell) → AreReady r made → Decodes (row_library r made) r.top r.tech.lambda_nm (flat_row (row_cells made))
row_decodes r made h =
    let structs = abutted r.top (row_cells made) in
    let top = top_of r.top (row_cells made) in
    let are = ready r r.names made h.are h.sound in
    let counts : length (flat_row (row_cells made)).rects + length top.refs ≤ 1000000 = omega (arith, few_shapes r 0 0 made are, as_many 0 0 made, few_made r made h) in
    subst (λ lambda. Decodes (row_library r made) r.top lambda (flat_row (row_cells made))) (twice r.tech.lambda_nm h.inputs.tech.lambda_even)
    (subst (λ shapes. Decodes (row_library r made) r.top (2 * unit_nm r.tech) shapes) (flat_is r made h)
    (flat_back structs (unit_nm r.tech) top (readable r made h)
    (Contains-append_right (map struct_of (first_uses [] (row_cells made))) (top ∷ []) top (contains_here top []))
    (all_map (λ (s : Standing). Contains (row_cells made) s.cell) (IsToPlain structs) ref_at (standing (row_cells made)) (λ s there. record { target = struct_of s.cell; there = struct_there r made h s.cell there; named = refl; plain = refl }) (of_row 0 0 (row_cells made)))
    (subst (λ (shapes : Shapes). length shapes.rects + length top.refs ≤ 1000000) (sym (flat_is r made h)) counts)))

pub cells_decode : (r : RowInputs) (made : List MadeCell) → AreReady r made → All (λ (m : MadeCell). Decodes (row_library r made) (cell_name m) r.tech.lambda_nm (cell_drawing m).shapes) made
cells_decode r made h = all_from_contains (λ (m : MadeCell). Decodes (row_library r made) (cell_name m) r.tech.lambda_nm (cell_drawing m).shapes) made (λ m there.
    let few : length (cell_drawing m).shapes.rects < 2000 = (All-contains (IsReady r) made m (ready r r.names made h.are h.sound) there).sound.few in
    subst (λ lambda. Decodes (row_library r made) (cell_name m) lambda (cell_drawing m).shapes) (twice r.tech.lambda_nm h.inputs.tech.lambda_even)
    (plain_back (abutted r.top (row_cells made)) (unit_nm r.tech) (struct_of (row_cell m)) (readable r made h) (struct_there r made h (row_cell m) (contains_map row_cell made m there)) refl (omega (arith, few))))
