-- Cells that the pieces of a layout cover, and which pieces cover a cell.
use Rattle.std.proofs.Common.{ℕ, ℤ, Option, Some, None, inl, inr, refl, sym, subst}
use Rattle.std.specs.List.{Contains}
use Rattle.box_geom.specs.Rectangle.{Rectangle, Holds}
use Rattle.box_geom.specs.Layers.{rects_on}
use Rattle.box_geom.specs.declared.layer.Layer.{Layer}
use Rattle.box_geom.specs.declared.layer.Layer.TheVariants.{Well, Active, PSelect, NSelect, Poly, Contact as ContactCut, Metal1, Via, Metal2}
use Rattle.scmos_rules.specs.Layout.{On}
use Rattle.cell_draw.specs.declared.layout.Contact.{Contact}
use Rattle.cell_draw.specs.declared.layout.Bar.{Bar}
use Rattle.cell_draw.specs.declared.layout.Layout.{Layout}
use Rattle.cell_draw.specs.Shapes.{well, p_select, n_select, strap, bar_metal, reach_shapes, pad_shapes, via_shapes, shapes_of}
use Rattle.cell_num.proofs.In.{In}
use Rattle.cell_draw.proofs.RulesLayers.{in_pieces, OnGroup, of_frame, of_strip, of_contact, of_gate, of_bar, grouped, drawn}
use Rattle.cell_draw.proofs.RulesPieces.{Origin, Held, held}
use Rattle.cell_draw.proofs.RulesActive.{Area, finger_of, IsArea, area_rect, on_active}
use Rattle.cell_draw.proofs.RulesActive as area
use Rattle.cell_draw.proofs.RulesPoly.{Piece, strip_of, IsPiece, piece_rect, on_poly}
use Rattle.cell_draw.proofs.RulesPoly as poly
use Rattle.cell_draw.proofs.RulesContacts.{IsCut, cut_rect, on_contact}
use Rattle.cell_draw.proofs.RulesMetal2.{Signal, IsSignal, branch_rect}
use Rattle.cell_draw.proofs.RulesVias.{IsViaPlace, via_rect, on_via}

pub covers : (layer : Layer) (l : Layout) (r : Rectangle) → OnGroup layer l r → (x y : ℤ) → Holds r x y → On layer (shapes_of l) x y
covers layer l r g x y h = record { rect = r; listed = drawn layer l r g; holds = h }

pub well_covers : (l : Layout) (x y : ℤ) → Holds (well l.frame).rect x y → On Well (shapes_of l) x y
well_covers l = covers Well l (well l.frame).rect (of_frame (inl refl))

pub p_select_covers : (l : Layout) (x y : ℤ) → Holds (p_select l.frame).rect x y → On PSelect (shapes_of l) x y
p_select_covers l = covers PSelect l (p_select l.frame).rect (of_frame (inl refl))

pub n_select_covers : (l : Layout) (x y : ℤ) → Holds (n_select l.frame).rect x y → On NSelect (shapes_of l) x y
n_select_covers l = covers NSelect l (n_select l.frame).rect (of_frame (inl refl))

pub area_covers : (l : Layout) (a : Area) → IsArea l a → (x y : ℤ) → Holds (area_rect l a) x y → On Active (shapes_of l) x y
area_covers l (finger_of s) h = covers Active l (area_rect l (finger_of s)) (of_strip s h (inl refl))
area_covers l (area.pad_of c) h = covers Active l (area_rect l (area.pad_of c)) (of_contact c h (inl refl))

pub poly_covers : (l : Layout) (p : Piece) → IsPiece l p → (x y : ℤ) → Holds (piece_rect l p) x y → On Poly (shapes_of l) x y
poly_covers l (strip_of g) h = covers Poly l (piece_rect l (strip_of g)) (of_gate g h (inl refl))
poly_covers l (poly.pad_of g y) h =
    covers Poly l (piece_rect l (poly.pad_of g y)) (of_gate g h.listed (inr (subst (λ o. In (rects_on Poly (pad_shapes g.x o)) (piece_rect l (poly.pad_of g y))) (sym h.track) (inl refl))))

pub strap_covers : (l : Layout) (c : Contact) → Contains l.contacts c → (x y : ℤ) → Holds (strap l.frame c.row c.x c.reach).rect x y → On Metal1 (shapes_of l) x y
strap_covers l c h = covers Metal1 l (strap l.frame c.row c.x c.reach).rect (of_contact c h (inl refl))

pub bar_covers : (l : Layout) (b : Bar) → Contains l.bars b → (x y : ℤ) → Holds (bar_metal b).rect x y → On Metal1 (shapes_of l) x y
bar_covers l b h = covers Metal1 l (bar_metal b).rect (of_bar b h (inl refl))

pub branch_covers : (l : Layout) (s : Signal) → IsSignal l s → (x y : ℤ) → Holds (branch_rect l s) x y → On Metal2 (shapes_of l) x y
branch_covers l s h =
    covers Metal2 l (branch_rect l s) (of_contact s.contact h.listed (subst (λ o. In (rects_on Metal2 (reach_shapes l.frame s.contact.row s.contact.x o)) (branch_rect l s)) (sym h.signal) (inl refl)))

no_reach_well : (l : Layout) (c : Contact) (o : Option ℕ) (r : Rectangle) → In (rects_on Well (reach_shapes l.frame c.row c.x o)) r → ⊥
no_reach_well l c None r i = i
no_reach_well l c (Some y) r i = i

no_pad_well : (x : ℕ) (o : Option ℕ) (r : Rectangle) → In (rects_on Well (pad_shapes x o)) r → ⊥
no_pad_well x None r i = i
no_pad_well x (Some y) r i = i

-- the one rectangle of the well
pub on_well : (l : Layout) (r : Rectangle) → Contains (rects_on Well (shapes_of l)) r → Origin (λ (u : Unit {0}). Unit {0}) (λ u. (well l.frame).rect) r
on_well l r c = from (grouped Well l r c)
  where
    from : OnGroup Well l r → Origin (λ (u : Unit {0}). Unit {0}) (λ u. (well l.frame).rect) r
    from (of_frame (inl e)) = record { piece = tt; listed = tt; is = e }
    from (of_frame (inr i)) = absurd i
    from (of_strip s h i) = absurd i
    from (of_contact k h i) = absurd (no_reach_well l k k.reach r i)
    from (of_gate g h i) = absurd (no_pad_well g.x g.track r i)
    from (of_bar b h i) = absurd ((in_pieces Well (via_shapes b.y) b.vias r i).inside)

-- which pieces cover a cell
pub well_holds : (l : Layout) (x y : ℤ) → On Well (shapes_of l) x y → Holds (well l.frame).rect x y
well_holds l x y c = (held (λ (u : Unit {0}). Unit {0}) (λ u. (well l.frame).rect) (rects_on Well (shapes_of l)) (on_well l) x y c).holds

pub area_held : (l : Layout) (x y : ℤ) → On Active (shapes_of l) x y → Held (IsArea l) (area_rect l) x y
area_held l = held (IsArea l) (area_rect l) (rects_on Active (shapes_of l)) (on_active l)

pub poly_held : (l : Layout) (x y : ℤ) → On Poly (shapes_of l) x y → Held (IsPiece l) (piece_rect l) x y
poly_held l = held (IsPiece l) (piece_rect l) (rects_on Poly (shapes_of l)) (on_poly l)

pub cut_held : (l : Layout) (x y : ℤ) → On ContactCut (shapes_of l) x y → Held (IsCut l) (cut_rect l) x y
cut_held l = held (IsCut l) (cut_rect l) (rects_on ContactCut (shapes_of l)) (on_contact l)

pub via_held : (l : Layout) (x y : ℤ) → On Via (shapes_of l) x y → Held (IsViaPlace l) (via_rect l) x y
via_held l = held (IsViaPlace l) (via_rect l) (rects_on Via (shapes_of l)) (on_via l)
