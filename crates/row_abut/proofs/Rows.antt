-- A row of drawn cells: which cells each layer covers, cell by cell.
use Rattle.std.proofs.Common.{◌≡◌, ℕ, ◌+◌, ◌≤◌, ℤ, pos, ◌≤ℤ◌, ◌<ℤ◌, ◌+ℤ◌, ◌-ℤ◌, List, [], ◌∷◌, drop, inl, inr, ◌⊎◌, sym, subst, arith}
use Rattle.std.specs.List.{All, Contains, flat_map}
use Rattle.std.proofs.lemmas.Int.{ints}
use Rattle.std.proofs.lemmas.List.Elements.{All-contains}
use Rattle.cell_num.proofs.Lists.{contains_none}
use Rattle.box_geom.specs.Near.{Near}
use Rattle.box_geom.specs.declared.layer.Layer.{Layer}
use Rattle.box_geom.specs.declared.layer.Layer.TheVariants.{Well, Active, Poly, Contact, Metal1, Via, Metal2}
use Rattle.box_geom.specs.declared.shape.Shape.{Shape}
use Rattle.scmos_rules.specs.Layout.{On}
use Rattle.scmos_rules.proofs.Families.{AnyOf}
use Rattle.scmos_rules.proofs.FamilyGates.{Consists}
use Rattle.scmos_rules.proofs.Rails.{IsColumn}
use Rattle.cell_draw.specs.Framed.{IsFramed}
use Rattle.well_tap.proofs.Layers.{on_either, on_left, on_right}
use Rattle.row_abut.specs.Cells.{IsDrawn}
use Rattle.row_abut.specs.Row.{Standing, standing, shapes_at}
use Rattle.row_abut.specs.declared.cell.RowCell.{RowCell}
use Rattle.row_abut.proofs.Beside.{Side, IsOn}
use Rattle.row_abut.proofs.InFrame.{IsInside, inside_active, inside_poly, inside_contact, inside_via, inside_metal2, active_row, well_in, well_there, metal1_in, rail_rect, rail_listed, rail_holds}
use Rattle.row_abut.proofs.Moved.{AreMoved, moved_shapes}
use Rattle.row_abut.proofs.Places.{Place, at, right_end, AreFitting, AreInner, AreOrdered, cell_listed, ordered}

pub record Row : Type 0 where
  pub cells : List RowCell
  pub height : ℕ
  pub each : All IsDrawn cells
  pub even : (c : RowCell) → Contains cells c → c.drawing.height ≡ height
  pub fitting : AreFitting cells
  pub inner : AreInner (drop 1 cells)

-- the cells' places, and what stands in them
abbrev pub Spot : Row → Type 0
Spot g = Place (standing g.cells)

abbrev pub standing_at : (g : Row) → Spot g → Standing
standing_at g i = at (standing g.cells) i

abbrev pub from : (g : Row) → Spot g → ℤ
from g i = pos (standing_at g i).x

abbrev pub to : (g : Row) → Spot g → ℤ
to g i = pos (right_end (standing_at g i))

pub drawn : (g : Row) (i : Spot g) → IsDrawn (standing_at g i).cell
drawn g i = All-contains IsDrawn g.cells (standing_at g i).cell g.each (cell_listed 0 0 g.cells i)

abbrev pub framed : (g : Row) (i : Spot g) → IsFramed (drawn g i).frame (drawn g i).xs (standing_at g i).cell.drawing
framed g i = (drawn g i).framed

pub same_height : (g : Row) (i : Spot g) → (standing_at g i).cell.drawing.height ≡ g.height
same_height g i = g.even (standing_at g i).cell (cell_listed 0 0 g.cells i)

-- the shapes of a cell in its place, and those of the row
abbrev pub own : (g : Row) → Spot g → List Shape
own g i = shapes_at (standing_at g i)

abbrev pub plain : (g : Row) → Spot g → List Shape
plain g i = (standing_at g i).cell.drawing.shapes.rects

abbrev pub whole : Row → List Shape
whole g = flat_map shapes_at (standing g.cells)

pub moved : (g : Row) (i : Spot g) → AreMoved (from g i) (plain g i) (own g i)
moved g i = moved_shapes (standing_at g i).x (plain g i)

-- ---- the row's shapes are those of its cells
one_of : (layer : Layer) (ss : List Standing) (x y : ℤ) → On layer (flat_map shapes_at ss) x y → AnyOf (λ (i : Place ss). On layer (shapes_at (at ss i))) x y
one_of layer [] x y c = absurd (contains_none c.rect c.listed)
one_of layer (s ∷ ss) x y c = elim (on_either layer (shapes_at s) (flat_map shapes_at ss) x y c) [
  | inl l ↦ record { of = inl tt; inside = l }
  | inr r ↦ let k = one_of layer ss x y r in record { of = inr k.of; inside = k.inside }
]

any_of : (layer : Layer) (ss : List Standing) (i : Place ss) (x y : ℤ) → On layer (shapes_at (at ss i)) x y → On layer (flat_map shapes_at ss) x y
any_of layer [] i x y c = absurd i
any_of layer (s ∷ ss) (inl u) x y c = on_left layer (shapes_at s) (flat_map shapes_at ss) x y c
any_of layer (s ∷ ss) (inr i) x y c = on_right layer (shapes_at s) (flat_map shapes_at ss) x y (any_of layer ss i x y c)

pub consists : (g : Row) (layer : Layer) → Consists (own g) (whole g) layer
consists g layer x y = (one_of layer (standing g.cells) x y, λ a. any_of layer (standing g.cells) a.of x y a.inside)

pub on_up : (g : Row) (layer : Layer) (i : Spot g) (x y : ℤ) → On layer (own g i) x y → On layer (whole g) x y
on_up g layer i x y c = (consists g layer x y).1 (record { of = i; inside = c })

-- ---- where the shapes of a cell lie
pub record IsClear (g : Row) (i : Spot g) (side end : ℕ) (x y : ℤ) : Type 0 where
  pub column : IsColumn (from g i +ℤ pos side) (to g i -ℤ pos side) x
  pub least : pos end ≤ℤ y
  pub most : y <ℤ (pos g.height -ℤ pos end)

back : (g : Row) (i : Spot g) (layer : Layer) (x y : ℤ) → On layer (own g i) x y → On layer (plain g i) (x -ℤ from g i) y
back g i layer x y c = (((moved g i).on layer).same (x -ℤ from g i) x y (omega (arith, ints))).1 c

there : (g : Row) (i : Spot g) (layer : Layer) (x y : ℤ) → On layer (plain g i) (x -ℤ from g i) y → On layer (own g i) x y
there g i layer x y c = (((moved g i).on layer).same (x -ℤ from g i) x y (omega (arith, ints))).0 c

clear : (g : Row) (i : Spot g) (side end : ℕ) (x y : ℤ) → IsInside side end (standing_at g i).cell.drawing.width (standing_at g i).cell.drawing.height (x -ℤ from g i) y → IsClear g i side end x y
clear g i side end x y k =
    let left = k.column.left in
    let right = k.column.right in
    let below = k.least in
    let above = k.most in
    let e = same_height g i in
    record { column = record { left = omega (arith, ints, left); right = omega (arith, ints, right) }; least = below; most = omega (arith, ints, above, e) }

pub clear_active : (g : Row) (i : Spot g) (x y : ℤ) → On Active (own g i) x y → IsClear g i 3 20 x y
clear_active g i x y c = clear g i 3 20 x y (inside_active (drawn g i).frame (drawn g i).xs (standing_at g i).cell.drawing (framed g i) (x -ℤ from g i) y (back g i Active x y c))

pub clear_poly : (g : Row) (i : Spot g) (x y : ℤ) → On Poly (own g i) x y → IsClear g i 3 20 x y
clear_poly g i x y c = clear g i 3 20 x y (inside_poly (drawn g i).frame (drawn g i).xs (standing_at g i).cell.drawing (framed g i) (x -ℤ from g i) y (back g i Poly x y c))

pub clear_contact : (g : Row) (i : Spot g) (x y : ℤ) → On Contact (own g i) x y → IsClear g i 3 20 x y
clear_contact g i x y c = clear g i 3 20 x y (inside_contact (drawn g i).frame (drawn g i).xs (standing_at g i).cell.drawing (framed g i) (x -ℤ from g i) y (back g i Contact x y c))

pub clear_via : (g : Row) (i : Spot g) (x y : ℤ) → On Via (own g i) x y → IsClear g i 3 20 x y
clear_via g i x y c = clear g i 3 20 x y (inside_via (drawn g i).frame (drawn g i).xs (standing_at g i).cell.drawing (framed g i) (x -ℤ from g i) y (back g i Via x y c))

pub clear_metal2 : (g : Row) (i : Spot g) (x y : ℤ) → On Metal2 (own g i) x y → IsClear g i 4 20 x y
clear_metal2 g i x y c = clear g i 4 20 x y (inside_metal2 (drawn g i).frame (drawn g i).xs (standing_at g i).cell.drawing (framed g i) (x -ℤ from g i) y (back g i Metal2 x y c))

-- on a rail of the cell
abbrev pub OnRail : (g : Row) → Spot g → ℤ → ℤ → Type 0
OnRail g i x y = IsColumn (from g i) (to g i) x × ((side : Side) × IsOn (pos g.height) side y)

pub metal1_cases : (g : Row) (i : Spot g) (x y : ℤ) → On Metal1 (own g i) x y → OnRail g i x y ⊎ IsClear g i 4 16 x y
metal1_cases g i x y c = elim (metal1_in (drawn g i).frame (drawn g i).xs (standing_at g i).cell.drawing (framed g i) (x -ℤ from g i) y (back g i Metal1 x y c)) [
  | inl r ↦ (let left = r.0.left in let right = r.0.right in inl (record { left = omega (arith, ints, left); right = omega (arith, ints, right) }, (r.1.0, subst (λ h. IsOn (pos h) r.1.0 y) (same_height g i) r.1.1)))
  | inr k ↦ inr (clear g i 4 16 x y k)
]

pub rail_there : (g : Row) (i : Spot g) (side : Side) (x y : ℤ) → IsColumn (from g i) (to g i) x → IsOn (pos g.height) side y → On Metal1 (own g i) x y
rail_there g i side x y c r =
    let k = framed g i in
    let left = c.left in
    let right = c.right in
    let on = subst (λ h. IsOn (pos h) side y) (sym (same_height g i)) r in
    there g i Metal1 x y (record {
      rect = rail_rect (drawn g i).frame side;
      listed = rail_listed (drawn g i).frame (drawn g i).xs (standing_at g i).cell.drawing k side;
      holds = rail_holds (drawn g i).frame (drawn g i).xs (standing_at g i).cell.drawing k side (x -ℤ from g i) y (record { left = omega (arith, ints, left); right = omega (arith, ints, right) }) on;
    })

-- a cell has its first line, and the distance of the last line to the side
pub some_column : (g : Row) (i : Spot g) → IsColumn (from g i) (to g i) (from g i)
some_column g i = let k = framed g i in let w = k.width in let l = k.last in record { left = omega (arith, ints); right = omega (arith, ints, w, l) }

-- ---- rows of active, and wells
pub record IsInWell (g : Row) (i : Spot g) (x y : ℤ) : Type 0 where
  pub column : IsColumn (from g i -ℤ pos 10) (to g i +ℤ pos 10) x
  pub least : pos (standing_at g i).cell.edges.p ≤ℤ (y +ℤ pos 12)
  pub most : y <ℤ pos g.height

pub well_cells : (g : Row) (i : Spot g) (x y : ℤ) → On Well (own g i) x y → IsInWell g i x y
well_cells g i x y c =
    let k = drawn g i in
    let h = well_in k.frame k.xs (standing_at g i).cell.drawing k.framed (x -ℤ from g i) y (back g i Well x y c) in
    let p = k.p in
    let w = k.framed.width in
    let t = k.framed.height in
    let e = same_height g i in
    record { column = record { left = omega (arith, ints, h.left); right = omega (arith, ints, h.right, w) }; least = omega (arith, ints, h.low, p); most = omega (arith, ints, h.high, t, e) }

pub well_made : (g : Row) (i : Spot g) (x y : ℤ) → IsInWell g i x y → On Well (own g i) x y
well_made g i x y c =
    let k = drawn g i in
    let left = c.column.left in
    let right = c.column.right in
    let below = c.least in
    let above = c.most in
    let p = k.p in
    let w = k.framed.width in
    let t = k.framed.height in
    let e = same_height g i in
    there g i Well x y (well_there k.frame k.xs (standing_at g i).cell.drawing k.framed (x -ℤ from g i) y (record { left = omega (arith, ints, left); right = omega (arith, ints, right, w); low = omega (arith, ints, below, p); high = omega (arith, ints, above, t, e) }))

pub active_cases : (g : Row) (i : Spot g) (x y : ℤ) → On Active (own g i) x y → (y <ℤ pos (standing_at g i).cell.edges.n) ⊎ (pos (standing_at g i).cell.edges.p ≤ℤ y)
active_cases g i x y c =
    let k = drawn g i in
    let n = k.n in
    let p = k.p in
    elim (active_row k.frame k.xs (standing_at g i).cell.drawing k.framed (x -ℤ from g i) y (back g i Active x y c)) [
      | inl l ↦ inl (omega (arith, ints, l, n))
      | inr r ↦ inr (omega (arith, ints, r, p))
    ]

-- ---- two cells
pub apart : (g : Row) (i j : Spot g) → AreOrdered (λ (p q : Spot g). to g p ≤ℤ from g q) i j
apart g i j = elim (ordered 0 0 g.cells g.fitting g.inner i j) [
  | inl e ↦ inl e
  | inr r ↦ elim r [ inl l ↦ inr (inl (let o = l.order in omega (arith, ints, o))) | inr l ↦ inr (inr (let o = l.order in omega (arith, ints, o))) ]
]

-- two cells whose columns come so near are one
pub one_spot : (g : Row) (i j : Spot g) (d side : ℕ) (x s : ℤ) → d ≤ side + side → x ≤ℤ (s +ℤ pos d) → s ≤ℤ (x +ℤ pos d) → IsColumn (from g i +ℤ pos side) (to g i -ℤ pos side) x → IsColumn (from g j +ℤ pos side) (to g j -ℤ pos side) s → i ≡ j
one_spot g i j d side x s few l r p q =
    let a = p.left in
    let b = p.right in
    let c = q.left in
    let e = q.right in
    elim (apart g i j) [
      | inl same ↦ same
      | inr o ↦ absurd (elim o [ inl f ↦ omega (arith, ints, f, few, l, r, a, b, c, e) | inr f ↦ omega (arith, ints, f, few, l, r, a, b, c, e) ])
    ]

-- a well that comes within 12 of active of the N row, or holds active, is of the same cell
n_well_near : (g : Row) (i j : Spot g) (x y s t : ℤ) → IsClear g i 3 20 x y → y <ℤ pos (standing_at g i).cell.edges.n → IsInWell g j s t → Near 12 x y s t → i ≡ j
n_well_near g i j x y s t c n w near =
    let a = c.column.left in
    let b = c.column.right in
    let d = w.column.left in
    let e = w.column.right in
    let f = w.least in
    let u = near.left in
    let v = near.right in
    let p = near.high in
    elim (ordered 0 0 g.cells g.fitting g.inner i j) [
      | inl same ↦ same
      | inr o ↦ absurd (elim o [
        | inl l ↦ elim l.room [ inl k ↦ (let m = k.first in omega (arith, ints, m, n, f, p)) | inr k ↦ omega (arith, ints, k, b, d, v) ]
        | inr l ↦ elim l.room [ inl k ↦ (let m = k.second in omega (arith, ints, m, n, f, p)) | inr k ↦ omega (arith, ints, k, a, e, u) ]
      ])
    ]

pub n_well_apart : (g : Row) (i j : Spot g) (x y s t : ℤ) → On Active (own g i) x y → (On Well (own g i) x y → ⊥) → On Well (own g j) s t → Near 12 x y s t → i ≡ j
n_well_apart g i j x y s t c out w near =
    let k = clear_active g i x y c in
    let left = k.column.left in
    let right = k.column.right in
    let most = k.most in
    elim (active_cases g i x y c) [
      | inl n ↦ n_well_near g i j x y s t k n (well_cells g j s t w) near
      | inr p ↦ absurd (out (well_made g i x y (record { column = record { left = omega (arith, ints, left); right = omega (arith, ints, right) }; least = omega (arith, ints, p); most = omega (arith, ints, most) })))
    ]

-- active in a well of the row stands in that of its cell
pub well_own : (g : Row) (i : Spot g) (x y : ℤ) → On Active (own g i) x y → On Well (whole g) x y → On Well (own g i) x y
well_own g i x y c w =
    let k = clear_active g i x y c in
    let left = k.column.left in
    let right = k.column.right in
    let most = k.most in
    let a = (consists g Well x y).0 w in
    elim (active_cases g i x y c) [
      | inl n ↦ (let e = n_well_near g i a.of x y x y k n (well_cells g a.of x y a.inside) (omega (arith, ints)) in subst (λ j. On Well (own g j) x y) (sym e) a.inside)
      | inr p ↦ well_made g i x y (record { column = record { left = omega (arith, ints, left); right = omega (arith, ints, right) }; least = omega (arith, ints, p); most = omega (arith, ints, most) })
    ]
