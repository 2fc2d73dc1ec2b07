-- Which cells a drawing in a frame covers, on each layer.
use Rattle.std.proofs.Common.{◌≡◌, ℕ, ℤ, pos, ◌≤ℤ◌, ◌<ℤ◌, ◌-ℤ◌, List, [], ◌∷◌, inl, inr, ◌⊎◌, refl, sym, subst, arith}
use Rattle.std.specs.List.{All, Contains}
use Rattle.std.proofs.lemmas.Int.{ints}
use Rattle.cell_num.proofs.Lists.{contains_none, contains_here, contains_there}
use Rattle.box_geom.specs.Rectangle.{Rectangle, Holds, Covers}
use Rattle.box_geom.specs.Layers.{rects_on}
use Rattle.box_geom.specs.declared.layer.Layer.{Layer}
use Rattle.box_geom.specs.declared.layer.Layer.TheVariants.{Well, Active, Poly, Contact, Metal1, Via, Metal2}
use Rattle.box_geom.specs.declared.shape.Shape.{Shape}
use Rattle.scmos_rules.specs.Layout.{On}
use Rattle.scmos_rules.proofs.Rails.{IsColumn}
use Rattle.net_extract.proofs.Covering.{cover_first, cover_split}
use Rattle.cell_draw.specs.Framed.{IsFramed, IsInFrame, KeepsFrom, side_of, end_of}
use Rattle.cell_draw.specs.Shapes.{cell_height, frame_shapes, well, gnd_rail, vdd_rail}
use Rattle.cell_draw.specs.declared.drawing.Drawing.{Drawing}
use Rattle.cell_draw.specs.declared.layout.Frame.{Frame}
use Rattle.well_tap.proofs.Layers.{found, on_either}
use Rattle.row_abut.proofs.Beside.{Side, low, high, IsOn}

-- so far from the sides and from both ends of a cell of this width and height
pub record IsInside (side end width height : ℕ) (x y : ℤ) : Type 0 where
  pub column : IsColumn (pos side) (pos width -ℤ pos side) x
  pub least : pos end ≤ℤ y
  pub most : y <ℤ (pos height -ℤ pos end)

-- what is no frame
inside_other : (f : Frame) (others : List Shape) → All (IsInFrame f) others → (layer : Layer) (x y : ℤ) → On layer others x y → IsInside (side_of layer) (end_of layer) f.width (cell_height f) x y
inside_other f others all layer x y c =
    let o = found (IsInFrame f) others layer x y all c in
    let k = subst (λ l. KeepsFrom f (side_of l) (end_of l) o.shape.rect) o.on o.is.clear in
    let h = o.holds in
    let left = k.left in
    let right = k.right in
    let below = k.low in
    let above = k.high in
    record { column = record { left = omega (arith, ints, left, h.left); right = omega (arith, ints, right, h.right) }; least = omega (arith, ints, below, h.low); most = omega (arith, ints, above, h.high) }

no_frame : (f : Frame) (xs : List ℕ) (d : Drawing) → IsFramed f xs d → (layer : Layer) → rects_on layer (frame_shapes f) ≡ [] → (x y : ℤ) → On layer d.shapes.rects x y → IsInside (side_of layer) (end_of layer) d.width d.height x y
no_frame f xs d i layer none x y c =
    let on = subst (λ ss. On layer ss x y) i.frame.is c in
    let mine : IsInside (side_of layer) (end_of layer) f.width (cell_height f) x y = elim (on_either layer (frame_shapes f) i.frame.others x y on) [
      | inl l ↦ absurd (let k = subst (λ rs. Covers rs x y) none l in contains_none k.rect k.listed)
      | inr r ↦ inside_other f i.frame.others i.others layer x y r
    ] in
    subst (λ w. IsInside (side_of layer) (end_of layer) w d.height x y) (sym i.width) (subst (λ h. IsInside (side_of layer) (end_of layer) f.width h x y) (sym i.height) mine)

pub inside_active : (f : Frame) (xs : List ℕ) (d : Drawing) → IsFramed f xs d → (x y : ℤ) → On Active d.shapes.rects x y → IsInside 3 20 d.width d.height x y
inside_active f xs d i = no_frame f xs d i Active refl

pub inside_poly : (f : Frame) (xs : List ℕ) (d : Drawing) → IsFramed f xs d → (x y : ℤ) → On Poly d.shapes.rects x y → IsInside 3 20 d.width d.height x y
inside_poly f xs d i = no_frame f xs d i Poly refl

pub inside_contact : (f : Frame) (xs : List ℕ) (d : Drawing) → IsFramed f xs d → (x y : ℤ) → On Contact d.shapes.rects x y → IsInside 3 20 d.width d.height x y
inside_contact f xs d i = no_frame f xs d i Contact refl

pub inside_via : (f : Frame) (xs : List ℕ) (d : Drawing) → IsFramed f xs d → (x y : ℤ) → On Via d.shapes.rects x y → IsInside 3 20 d.width d.height x y
inside_via f xs d i = no_frame f xs d i Via refl

pub inside_metal2 : (f : Frame) (xs : List ℕ) (d : Drawing) → IsFramed f xs d → (x y : ℤ) → On Metal2 d.shapes.rects x y → IsInside 4 20 d.width d.height x y
inside_metal2 f xs d i = no_frame f xs d i Metal2 refl

-- active stands below the channel or above it
pub active_row : (f : Frame) (xs : List ℕ) (d : Drawing) → IsFramed f xs d → (x y : ℤ) → On Active d.shapes.rects x y → (y <ℤ pos f.n_edge) ⊎ (pos f.p_edge ≤ℤ y)
active_row f xs d i x y c =
    let on : On Active i.frame.others x y = subst (λ ss. On Active ss x y) i.frame.is c in
    let o = found (IsInFrame f) i.frame.others Active x y i.others on in
    let h = o.holds in
    elim (o.is.active o.on) [ inl l ↦ inl (omega (arith, ints, l, h.high)) | inr r ↦ inr (omega (arith, ints, r, h.low)) ]

-- ---- the well
pub well_in : (f : Frame) (xs : List ℕ) (d : Drawing) → IsFramed f xs d → (x y : ℤ) → On Well d.shapes.rects x y → Holds (well f).rect x y
well_in f xs d i x y c =
    let on : Covers ((well f).rect ∷ rects_on Well i.frame.others) x y = subst (λ ss. On Well ss x y) i.frame.is c in
    elim (cover_split (well f).rect (rects_on Well i.frame.others) x y on) [
      | inl h ↦ h
      | inr r ↦ let o = found (IsInFrame f) i.frame.others Well x y i.others r in absurd (o.is.no_well o.on)
    ]

pub well_there : (f : Frame) (xs : List ℕ) (d : Drawing) → IsFramed f xs d → (x y : ℤ) → Holds (well f).rect x y → On Well d.shapes.rects x y
well_there f xs d i x y h = subst (λ ss. On Well ss x y) (sym i.frame.is) (cover_first (well f).rect (rects_on Well i.frame.others) x y h)

-- ---- metal1: the rails, and what is clear of the sides
abbrev pub rail_rect : Frame → Side → Rectangle
rail_rect f low = (gnd_rail f).rect
rail_rect f high = (vdd_rail f).rect

pub rail_listed : (f : Frame) (xs : List ℕ) (d : Drawing) → IsFramed f xs d → (side : Side) → Contains (rects_on Metal1 d.shapes.rects) (rail_rect f side)
rail_listed f xs d i low = subst (λ ss. Contains (rects_on Metal1 ss) (gnd_rail f).rect) (sym i.frame.is) (contains_here (gnd_rail f).rect ((vdd_rail f).rect ∷ rects_on Metal1 i.frame.others))
rail_listed f xs d i high = subst (λ ss. Contains (rects_on Metal1 ss) (vdd_rail f).rect) (sym i.frame.is) (contains_there (gnd_rail f).rect ((vdd_rail f).rect ∷ rects_on Metal1 i.frame.others) (vdd_rail f).rect (contains_here (vdd_rail f).rect (rects_on Metal1 i.frame.others)))

pub rail_holds : (f : Frame) (xs : List ℕ) (d : Drawing) → IsFramed f xs d → (side : Side) (x y : ℤ) → IsColumn (pos 0) (pos d.width) x → IsOn (pos d.height) side y → Holds (rail_rect f side) x y
rail_holds f xs d i low x y c r = let w = i.width in let left = c.left in let right = c.right in let a = r.0 in let b = r.1 in record { left = left; right = omega (arith, ints, right, w); low = a; high = b }
rail_holds f xs d i high x y c r = let w = i.width in let h = i.height in let left = c.left in let right = c.right in let a = r.0 in let b = r.1 in record { left = left; right = omega (arith, ints, right, w); low = omega (arith, ints, a, h); high = omega (arith, ints, b, h) }

pub metal1_in : (f : Frame) (xs : List ℕ) (d : Drawing) → IsFramed f xs d → (x y : ℤ) → On Metal1 d.shapes.rects x y → (IsColumn (pos 0) (pos d.width) x × ((side : Side) × IsOn (pos d.height) side y)) ⊎ IsInside 4 16 d.width d.height x y
metal1_in f xs d i x y c =
    let on : Covers ((gnd_rail f).rect ∷ (vdd_rail f).rect ∷ rects_on Metal1 i.frame.others) x y = subst (λ ss. On Metal1 ss x y) i.frame.is c in
    let w = i.width in
    let h = i.height in
    elim (cover_split (gnd_rail f).rect ((vdd_rail f).rect ∷ rects_on Metal1 i.frame.others) x y on) [
      | inl g ↦ inl (record { left = g.left; right = omega (arith, ints, w, g.right) }, (low, (g.low, g.high)))
      | inr r ↦ elim (cover_split (vdd_rail f).rect (rects_on Metal1 i.frame.others) x y r) [
        | inl v ↦ inl (record { left = v.left; right = omega (arith, ints, w, v.right) }, (high, (omega (arith, ints, h, v.low), omega (arith, ints, h, v.high))))
        | inr o ↦ inr (subst (λ w. IsInside 4 16 w d.height x y) (sym i.width) (subst (λ h. IsInside 4 16 f.width h x y) (sym i.height) (inside_other f i.frame.others i.others Metal1 x y o)))
      ]
    ]
