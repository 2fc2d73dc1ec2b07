-- The cells of a row stand beside each other: their nets are joined at the rails alone.
use Rattle.std.proofs.Common.{◌≡◌, ℕ, ◌<◌, ◌≤◌, ◌^◌, ℤ, pos, ◌+ℤ◌, ◌-ℤ◌, List, [], length, inl, inr, ◌⊎◌, refl, sym, subst, ap, arith, ◌∙◌}
use Rattle.std.specs.List.{Contains}
use Rattle.std.proofs.lemmas.Int.{ints}
use Rattle.box_geom.specs.Chains.{Chain, Linked}
use Rattle.box_geom.specs.Layers.{rects_on}
use Rattle.box_geom.specs.Touching.{Cell}
use Rattle.box_geom.specs.declared.layer.Layer.TheVariants.{Well, Active, Poly as PolyLayer, Contact, Metal1 as Metal1Layer, Via, Metal2 as Metal2Layer}
use Rattle.box_geom.specs.declared.shape.Shape.{Shape}
use Rattle.scmos_rules.specs.Layout.{On}
use Rattle.scmos_rules.specs.declared.rules.Deck.TheVariants.{Plain}
use Rattle.scmos_rules.proofs.Chains.{inside}
use Rattle.scmos_rules.proofs.Rails.{IsColumn}
use Rattle.net_extract.specs.Labels.{IsNamed}
use Rattle.net_extract.specs.Nets.{Are, Site, site_at, along, Wired, SameNet}
use Rattle.net_extract.specs.declared.piece.Conductor.{Conductor}
use Rattle.net_extract.specs.declared.piece.Conductor.TheVariants.{PDiffusion, NDiffusion, Poly, Metal1, Metal2}
use Rattle.net_extract.proofs.Bonds.{carried_steps}
use Rattle.net_extract.proofs.Wiring.{net_back, net_both}
use Rattle.cell_draw.specs.Framed.{IsFramed}
use Rattle.cell_draw.specs.Named.{AreNamed}
use Rattle.cell_draw.specs.declared.drawing.Drawing.{Drawing}
use Rattle.cell_draw.specs.declared.layout.Frame.{Frame}
use Rattle.well_tap.specs.Bodied.{AreRails}
use Rattle.row_abut.specs.Row.{vdd_name, gnd_name}
use Rattle.row_abut.specs.declared.cell.RowCell.{RowCell}
use Rattle.row_abut.proofs.Beside.{Side, low, high, IsOn, rail, AreBeside}
use Rattle.row_abut.proofs.InFrame.{rail_rect, rail_listed, rail_holds}
use Rattle.row_abut.proofs.MovedNets.{moved_site, moved_at, net, net_back_moved}
use Rattle.row_abut.proofs.RowNets.{net_kept}
use Rattle.row_abut.proofs.RowTexts.{HasNoMark, rail_name}
use Rattle.row_abut.proofs.Rows.{Row, Spot, standing_at, from, to, drawn, framed, same_height, plain, own, whole, moved, consists, on_up, IsClear, clear_active, clear_poly, clear_contact, clear_via, clear_metal2, metal1_cases, some_column, apart, one_spot, well_own}

-- the nets of a cell have names, those of the two rails differ
pub record IsNamedCell (c : RowCell) : Type 0 where
  pub named : AreNamed Plain c.nets c.drawing.shapes
  pub rails : AreRails c.nets c.pins c.drawing
  pub differ : vdd_name c ≡ gnd_name c → ⊥
  pub unmarked : (name : List ℕ) → Contains c.nets name → HasNoMark name
  pub some : Contains c.nets [] → ⊥

pub record NamedRow : Type 0 where
  pub row : Row
  pub few : length row.cells < 2 ^ 64
  pub cell : (i : Spot row) → IsNamedCell (standing_at row i).cell
  pub alike : (i j : Spot row) (side : Side) → rail_name (standing_at row i).cell side ≡ rail_name (standing_at row j).cell side

-- ---- conductor cells
pub of_cell : (g : Row) (k : Conductor) (x y : ℤ) → Are (whole g) k x y → (i : Spot g) × Are (own g i) k x y
of_cell g PDiffusion x y c = let a = (consists g Active x y).0 c.0.0 in (a.of, ((a.inside, λ q. c.0.1 (on_up g PolyLayer a.of x y q)), well_own g a.of x y a.inside c.1))
of_cell g NDiffusion x y c = let a = (consists g Active x y).0 c.0.0 in (a.of, ((a.inside, λ q. c.0.1 (on_up g PolyLayer a.of x y q)), λ w. c.1 (on_up g Well a.of x y w)))
of_cell g Poly x y c = let a = (consists g PolyLayer x y).0 c in (a.of, a.inside)
of_cell g Metal1 x y c = let a = (consists g Metal1Layer x y).0 c in (a.of, a.inside)
of_cell g Metal2 x y c = let a = (consists g Metal2Layer x y).0 c in (a.of, a.inside)

-- poly over active of a cell is of the same cell
pub poly_own : (g : Row) (i : Spot g) (x y : ℤ) → On Active (own g i) x y → On PolyLayer (whole g) x y → On PolyLayer (own g i) x y
poly_own g i x y c q =
    let p = (consists g PolyLayer x y).0 q in
    let e = one_spot g p.of i 0 3 x x (omega arith) (omega (arith, ints)) (omega (arith, ints)) (clear_poly g p.of x y p.inside).column (clear_active g i x y c).column in
    subst (λ k. On PolyLayer (own g k) x y) e p.inside

pub of_whole : (g : Row) (i : Spot g) (k : Conductor) (x y : ℤ) → Are (own g i) k x y → Are (whole g) k x y
of_whole g i PDiffusion x y c = ((on_up g Active i x y c.0.0, λ q. c.0.1 (poly_own g i x y c.0.0 q)), on_up g Well i x y c.1)
of_whole g i NDiffusion x y c = ((on_up g Active i x y c.0.0, λ q. c.0.1 (poly_own g i x y c.0.0 q)), λ w. c.1 (well_own g i x y c.0.0 w))
of_whole g i Poly x y c = on_up g PolyLayer i x y c
of_whole g i Metal1 x y c = on_up g Metal1Layer i x y c
of_whole g i Metal2 x y c = on_up g Metal2Layer i x y c

within_sides : (g : Row) (i : Spot g) (side end : ℕ) (x y : ℤ) → 3 ≤ side → IsClear g i side end x y → IsColumn (from g i +ℤ pos 3) (to g i -ℤ pos 3) x
within_sides g i side end x y least k = let a = k.column.left in let b = k.column.right in record { left = omega (arith, ints, a, least); right = omega (arith, ints, b, least) }

in_column : (g : Row) (i : Spot g) (x : ℤ) → IsColumn (from g i +ℤ pos 3) (to g i -ℤ pos 3) x → IsColumn (from g i) (to g i) x
in_column g i x k = let a = k.left in let b = k.right in record { left = omega (arith, ints, a); right = omega (arith, ints, b) }

-- on a rail, or clear of the sides
lies_inner : (g : Row) (i : Spot g) (k : Conductor) (x y : ℤ) → Are (own g i) k x y → ((k ≡ Metal1) × ((side : Side) × IsOn (pos g.height) side y)) ⊎ IsColumn (from g i +ℤ pos 3) (to g i -ℤ pos 3) x
lies_inner g i PDiffusion x y c = inr (clear_active g i x y c.0.0).column
lies_inner g i NDiffusion x y c = inr (clear_active g i x y c.0.0).column
lies_inner g i Poly x y c = inr (clear_poly g i x y c).column
lies_inner g i Metal1 x y c = elim (metal1_cases g i x y c) [ inl r ↦ inl (refl, r.1) | inr k ↦ inr (within_sides g i 4 16 x y (omega arith) k) ]
lies_inner g i Metal2 x y c = inr (within_sides g i 4 20 x y (omega arith) (clear_metal2 g i x y c))

pub lies : (g : Row) (i : Spot g) (k : Conductor) (x y : ℤ) → Are (own g i) k x y → IsColumn (from g i) (to g i) x
lies g i PDiffusion x y c = in_column g i x (clear_active g i x y c.0.0).column
lies g i NDiffusion x y c = in_column g i x (clear_active g i x y c.0.0).column
lies g i Poly x y c = in_column g i x (clear_poly g i x y c).column
lies g i Metal1 x y c = elim (metal1_cases g i x y c) [ inl r ↦ r.0 | inr k ↦ in_column g i x (within_sides g i 4 16 x y (omega arith) k) ]
lies g i Metal2 x y c = in_column g i x (within_sides g i 4 20 x y (omega arith) (clear_metal2 g i x y c))

-- ---- rails
-- metal that hangs together is one net
pub metal_net : (s : List Shape) (a b : Cell) → On Metal1Layer s a.x a.y → Chain (Linked (On Metal1Layer s)) a b → SameNet Plain s (record { kind = Metal1; cell = a }) (record { kind = Metal1; cell = b })
metal_net s a b c chain = record {
  conducts = c;
  chain = carried_steps (Linked (On Metal1Layer s)) (Wired Plain s) (λ (z : Cell). record { kind = Metal1; cell = z }) (λ p q l. record { from = l.from; to = l.to; meets = along refl l.edge }) chain.count a b chain.steps;
}

rail_net : (f : Frame) (xs : List ℕ) (d : Drawing) → IsFramed f xs d → (side : Side) (x y u v : ℤ) → IsColumn (pos 0) (pos d.width) x → IsOn (pos d.height) side y → IsColumn (pos 0) (pos d.width) u → IsOn (pos d.height) side v → SameNet Plain d.shapes.rects (site_at Metal1 x y) (site_at Metal1 u v)
rail_net f xs d i side x y u v cx ry cu rv =
    let r = rail_rect f side in
    let l = rail_listed f xs d i side in
    let h = rail_holds f xs d i side x y cx ry in
    metal_net d.shapes.rects (record { x = x; y = y }) (record { x = u; y = v }) (record { rect = r; listed = l; holds = h }) (inside (rects_on Metal1Layer d.shapes.rects) r l x y u v h (rail_holds f xs d i side u v cu rv))

own_rails : (g : Row) (i : Spot g) (side : Side) (x y u v : ℤ) → IsColumn (from g i) (to g i) x → IsOn (pos g.height) side y → IsColumn (from g i) (to g i) u → IsOn (pos g.height) side v → SameNet Plain (own g i) (site_at Metal1 x y) (site_at Metal1 u v)
own_rails g i side x y u v cx ry cu rv =
    let d = (standing_at g i).cell.drawing in
    let e = sym (same_height g i) in
    subst (λ z. SameNet Plain (own g i) z (site_at Metal1 u v)) (moved_at (from g i) Metal1 x y)
    (subst (λ z. SameNet Plain (own g i) (moved_site (from g i) (site_at Metal1 (x -ℤ from g i) y)) z) (moved_at (from g i) Metal1 u v)
    (net (from g i) (plain g i) (own g i) (moved g i) (site_at Metal1 (x -ℤ from g i) y) (site_at Metal1 (u -ℤ from g i) v)
    (rail_net (drawn g i).frame (drawn g i).xs d (framed g i) side (x -ℤ from g i) y (u -ℤ from g i) v (shift x cx) (subst (λ h. IsOn (pos h) side y) e ry) (shift u cu) (subst (λ h. IsOn (pos h) side v) e rv))))
  where
    shift : (z : ℤ) → IsColumn (from g i) (to g i) z → IsColumn (pos 0) (pos (standing_at g i).cell.drawing.width) (z -ℤ from g i)
    shift z c = let a = c.left in let b = c.right in record { left = omega (arith, ints, a); right = omega (arith, ints, b) }

railed : (g : Row) (i : Spot g) (side : Side) (x y : ℤ) → IsColumn (from g i) (to g i) x → IsOn (pos g.height) side y → SameNet Plain (own g i) (rail (pos g.height) (from g i) side) (site_at Metal1 x y)
railed g i low x y c r = own_rails g i low (from g i) (pos 0) x y (some_column g i) (omega (arith, ints), omega (arith, ints)) c r
railed g i high x y c r = own_rails g i high (from g i) (pos g.height -ℤ pos 1) x y (some_column g i) (omega (arith, ints), omega (arith, ints)) c r

-- where the rails of a cell begin
abbrev pub corner : RowCell → Side → Site
corner c low = site_at Metal1 (pos 0) (pos 0)
corner c high = site_at Metal1 (pos 0) (pos c.drawing.height -ℤ pos 1)

pub corner_moved : (g : Row) (i : Spot g) (side : Side) → moved_site (from g i) (corner (standing_at g i).cell side) ≡ rail (pos g.height) (from g i) side
corner_moved g i low = ap (λ x. site_at Metal1 x (pos 0)) (let e : pos 0 +ℤ from g i ≡ from g i = omega (arith, ints) in e)
corner_moved g i high = ap (λ x. site_at Metal1 x (pos (standing_at g i).cell.drawing.height -ℤ pos 1)) (let e : pos 0 +ℤ from g i ≡ from g i = omega (arith, ints) in e) ∙ ap (λ h. site_at Metal1 (from g i) (pos h -ℤ pos 1)) (same_height g i)

pub corner_named : (c : RowCell) → IsNamedCell c → (side : Side) → IsNamed Plain c.drawing.shapes (rail_name c side) (corner c side)
corner_named c k low = k.rails.gnd
corner_named c k high = k.rails.vdd

-- the rails of one cell are two nets
plain_sides : (c : RowCell) → IsNamedCell c → SameNet Plain c.drawing.shapes.rects (corner c low) (corner c high) → ⊥
plain_sides c k n =
    let a = k.rails.gnd in
    let b = k.rails.vdd in
    let s = c.drawing.shapes.rects in
    let same = net_both Plain s a.at (corner c low) b.at a.same (net_both Plain s (corner c low) (corner c high) b.at n (net_back Plain s b.at (corner c high) b.same)) in
    k.differ (sym b.reads ∙ (sym ((k.named.apart a.label b.label a.at b.at a.listed b.listed a.belongs b.belongs).0 same) ∙ a.reads))

sides : (n : NamedRow) (i : Spot n.row) → SameNet Plain (own n.row i) (rail (pos n.row.height) (from n.row i) low) (rail (pos n.row.height) (from n.row i) high) → ⊥
sides n i c =
    let g = n.row in
    let k = (standing_at g i).cell in
    plain_sides k (n.cell i)
    (net_back_moved (from g i) (plain g i) (own g i) (moved g i) (corner k low) (corner k high)
    (subst (λ z. SameNet Plain (own g i) z (moved_site (from g i) (corner k high))) (sym (corner_moved g i low))
    (subst (λ z. SameNet Plain (own g i) (rail (pos g.height) (from g i) low) z) (sym (corner_moved g i high)) c)))

pub beside : (n : NamedRow) → AreBeside (own n.row) (whole n.row) (from n.row) (to n.row) (pos n.row.height)
beside n = let g = n.row in record {
  parts = of_cell g;
  whole = of_whole g;
  contacts = λ x y c. let a = (consists g Contact x y).0 c in (a.of, a.inside);
  contacts_up = λ i x y c. on_up g Contact i x y c;
  vias = λ x y c. let a = (consists g Via x y).0 c in (a.of, a.inside);
  vias_up = λ i x y c. on_up g Via i x y c;
  apart = apart g;
  lies = lies g;
  contact_lies = λ i x y c. in_column g i x (clear_contact g i x y c).column;
  via_lies = λ i x y c. in_column g i x (clear_via g i x y c).column;
  inner = lies_inner g;
  railed = railed g;
  sides = sides n;
}

-- what is one net of a cell is one net of the row
pub kept : (n : NamedRow) (i : Spot n.row) (a b : Site) → SameNet Plain (own n.row i) a b → SameNet Plain (whole n.row) a b
kept n i a b c = net_kept (own n.row) (whole n.row) (from n.row) (to n.row) (pos n.row.height) (beside n) i a b c
