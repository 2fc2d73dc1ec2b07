-- The nets of a row by their names: those of its cells, with the rails in common.
use Rattle.std.proofs.Common.{◌≡◌, ◌↔◌, ℕ, ℤ, pos, neg_ℤ, ◌≤ℤ◌, ◌<ℤ◌, ◌-ℤ◌, true, false, List, map, inl, inr, refl, sym, subst, ap, arith, ◌∙◌}
use Rattle.std.specs.List.{Any, Contains}
use Rattle.std.proofs.lemmas.Bool.{cases_Bool}
use Rattle.std.proofs.lemmas.Int.{ints}
use Rattle.cell_num.proofs.In.{in_map, contains_map, in_flat, contains_flat}
use Rattle.cell_num.proofs.Pairs.{some_from_any, any_at}
use Rattle.box_geom.specs.declared.layer.Layer.TheVariants.{Metal1 as Metal1Layer}
use Rattle.box_geom.specs.declared.shape.Label.{Label}
use Rattle.scmos_rules.specs.Layout.{On}
use Rattle.scmos_rules.specs.declared.rules.Deck.TheVariants.{Plain}
use Rattle.scmos_rules.proofs.Chains.{in_row}
use Rattle.net_extract.specs.Labels.{Belongs, IsNamed}
use Rattle.net_extract.specs.Nets.{Site, site_at, Conducts, SameNet}
use Rattle.net_extract.specs.declared.piece.Conductor.TheVariants.{Metal1}
use Rattle.net_extract.proofs.Belonging.{one_site}
use Rattle.net_extract.proofs.Wiring.{net_back, net_both}
use Rattle.cell_draw.specs.Named.{AreNamed}
use Rattle.well_tap.proofs.TapLabels.{belongs_conducts}
use Rattle.row_abut.specs.Circuit.{name_in_row, names_of_row}
use Rattle.row_abut.specs.Row.{Standing, standing, is_rail, numbered_name, label_at, row_labels, flat_row}
use Rattle.row_abut.proofs.Beside.{Side, low, high, IsOn, rail}
use Rattle.row_abut.proofs.MovedNets.{back, moved_site, conducts, net, net_back_moved, site_there}
use Rattle.row_abut.proofs.Nets.{NamedRow, corner, corner_moved, corner_named, metal_net, of_cell, beside, kept}
use Rattle.row_abut.proofs.Places.{place_of, at_listed, filled, within, number_below, same_number}
use Rattle.row_abut.proofs.RowLabels.{labels, Origin, IsShown, origin, signal_there, first_cell, rail_label_there, belongs_there}
use Rattle.row_abut.proofs.RowNets.{AreJoined, inside, by_rail, row_nets}
use Rattle.row_abut.proofs.RowTexts.{numbered_apart, numbered_marked, rail_name, rail_kept, rail_found, rail_is, signal_numbered}
use Rattle.row_abut.proofs.Rows.{Row, Spot, standing_at, from, to, plain, own, whole, moved, on_up, rail_there, some_column, apart}

-- ---- the rails of all cells hang together
-- a place on a rail, in some cell
on_rail : (n : NamedRow) (side : Side) (i : Spot n.row) (x y : ℤ) → pos 0 ≤ℤ x → x <ℤ to n.row i → IsOn (pos n.row.height) side y → On Metal1Layer (whole n.row) x y
on_rail n side i x y least most on =
    let g = n.row in
    let w = (within 0 0 g.cells i).1 in
    let f = filled 0 0 g.cells x (record { left = least; right = omega (arith, ints, most, w) }) in
    on_up g Metal1Layer f.0 x y (rail_there g f.0 side x y f.1 on)

-- the rail of any cell is one net with that of the first cell
rail_along : (n : NamedRow) (i : Spot n.row) (y : ℤ) (side : Side) → IsOn (pos n.row.height) side y → SameNet Plain (whole n.row) (site_at Metal1 (pos 0) y) (site_at Metal1 (from n.row i) y)
rail_along n i y side on =
    let g = n.row in
    let c = some_column g i in
    let most = c.right in
    let there = λ (z : ℤ) (l : pos 0 ≤ℤ z) (h : z ≤ℤ from g i). on_rail n side i z y l (omega (arith, ints, h, most)) on in
    metal_net (whole g) (record { x = pos 0; y = y }) (record { x = from g i; y = y })
    (there (pos 0) (omega (arith, ints)) (omega (arith, ints)))
    (in_row (On Metal1Layer (whole g)) (pos 0) (from g i) y (omega (arith, ints)) there)

rails_joined : (n : NamedRow) (f i : Spot n.row) (side : Side) → (standing_at n.row f).x ≡ 0 → SameNet Plain (whole n.row) (rail (pos n.row.height) (from n.row f) side) (rail (pos n.row.height) (from n.row i) side)
rails_joined n f i low first = subst (λ x. SameNet Plain (whole n.row) (site_at Metal1 (pos x) (pos 0)) (site_at Metal1 (from n.row i) (pos 0))) (sym first) (rail_along n i (pos 0) low (omega (arith, ints), omega (arith, ints)))
rails_joined n f i high first = subst (λ x. SameNet Plain (whole n.row) (site_at Metal1 (pos x) (pos n.row.height -ℤ pos 1)) (site_at Metal1 (from n.row i) (pos n.row.height -ℤ pos 1))) (sym first) (rail_along n i (pos n.row.height -ℤ pos 1) high (omega (arith, ints), omega (arith, ints)))

-- ---- a site of a cell, and its place in the row
kept_moved : (n : NamedRow) (i : Spot n.row) (a b : Site) → SameNet Plain (plain n.row i) a b → SameNet Plain (whole n.row) (moved_site (from n.row i) a) (moved_site (from n.row i) b)
kept_moved n i a b c = let g = n.row in kept n i (moved_site (from g i) a) (moved_site (from g i) b) (net (from g i) (plain g i) (own g i) (moved g i) a b c)

-- of a net with a rail's name is the rail
rail_net : (n : NamedRow) (i : Spot n.row) (side : Side) (l : Label) (a : Site) → Contains (labels n.row i) l → Belongs (plain n.row i) l a → l.name ≡ rail_name (standing_at n.row i).cell side → SameNet Plain (plain n.row i) a (corner (standing_at n.row i).cell side)
rail_net n i side l a c b e =
    let k = n.cell i in
    let r = corner_named (standing_at n.row i).cell k side in
    net_both Plain (plain n.row i) a r.at (corner (standing_at n.row i).cell side) ((k.named.apart l r.label a r.at c r.listed b r.belongs).1 (e ∙ sym r.reads)) r.same

-- what is named in a cell has its name in the row
signal_named : (n : NamedRow) (i : Spot n.row) (name : List ℕ) (a : Site) (z : IsNamed Plain (standing_at n.row i).cell.drawing.shapes name a) → is_rail (standing_at n.row i).cell z.label.name ≡ false → IsNamed Plain (flat_row n.row.cells) (name_in_row (standing_at n.row i) name) (moved_site (from n.row i) a)
signal_named n i name a z e =
    let g = n.row in
    let s = standing_at g i in
    record {
      label = label_at s.number s.x z.label;
      listed = signal_there g i z.label z.listed e;
      reads = sym (signal_numbered s z.label.name e) ∙ ap (name_in_row s) z.reads;
      at = moved_site (from g i) z.at;
      belongs = belongs_there g i z.label (label_at s.number s.x z.label) z.at z.listed (record { layer = refl; x = refl; y = refl }) z.belongs;
      same = kept_moved n i z.at a z.same;
    }

rail_named : (n : NamedRow) (i : Spot n.row) (name : List ℕ) (a : Site) (z : IsNamed Plain (standing_at n.row i).cell.drawing.shapes name a) → is_rail (standing_at n.row i).cell z.label.name ≡ true → IsNamed Plain (flat_row n.row.cells) (name_in_row (standing_at n.row i) name) (moved_site (from n.row i) a)
rail_named n i name a z e =
    let g = n.row in
    let s = standing_at g i in
    let h = pos g.height in
    let found = rail_found s.cell z.label.name e in
    let side = found.0 in
    let f = first_cell g.cells i in
    let t = standing_at g f.spot in
    let r = corner_named t.cell (n.cell f.spot) side in
    let here = net_back Plain (whole g) (moved_site (from g i) z.at) (moved_site (from g i) (corner s.cell side)) (kept_moved n i z.at (corner s.cell side) (rail_net n i side z.label z.at z.listed z.belongs found.1)) in
    let mine : SameNet Plain (whole g) (rail h (from g i) side) (moved_site (from g i) z.at) = subst (λ c. SameNet Plain (whole g) c (moved_site (from g i) z.at)) (corner_moved g i side) here in
    let first : SameNet Plain (whole g) (moved_site (from g f.spot) r.at) (rail h (from g f.spot) side) = subst (SameNet Plain (whole g) (moved_site (from g f.spot) r.at)) (corner_moved g f.spot side) (kept_moved n f.spot r.at (corner t.cell side) r.same) in
    record {
      label = r.label;
      listed = rail_label_there g f side r.label r.listed r.reads;
      reads = r.reads ∙ (n.alike f.spot i side ∙ (sym found.1 ∙ (sym (rail_kept s z.label.name e) ∙ ap (name_in_row s) z.reads)));
      at = moved_site (from g f.spot) r.at;
      belongs = belongs_there g f.spot r.label r.label r.at r.listed (record { layer = refl; x = (let q = f.first in omega (arith, ints, q)); y = refl }) r.belongs;
      same = net_both Plain (whole g) (moved_site (from g f.spot) r.at) (rail h (from g f.spot) side) (moved_site (from g i) a) first
          (net_both Plain (whole g) (rail h (from g f.spot) side) (rail h (from g i) side) (moved_site (from g i) a) (rails_joined n f.spot i side f.first)
          (net_both Plain (whole g) (rail h (from g i) side) (moved_site (from g i) z.at) (moved_site (from g i) a) mine (kept_moved n i z.at a z.same)));
    }

pub named_there : (n : NamedRow) (i : Spot n.row) (name : List ℕ) (a : Site) → IsNamed Plain (standing_at n.row i).cell.drawing.shapes name a → IsNamed Plain (flat_row n.row.cells) (name_in_row (standing_at n.row i) name) (moved_site (from n.row i) a)
named_there n i name a z = elim (cases_Bool (is_rail (standing_at n.row i).cell z.label.name)) [ inl e ↦ rail_named n i name a z e | inr e ↦ signal_named n i name a z e ]

-- ---- labels of one name are those of one net
-- the site that a label of the row belongs to is that of its origin
record OriginSite (n : NamedRow) (m : Label) (b : Site) (o : Origin n.row m) : Type 0 where
  site : Site
  belongs : Belongs (plain n.row o.spot) o.label site
  is : moved_site (from n.row o.spot) site ≡ b

origin_site : (n : NamedRow) (m : Label) (b : Site) (o : Origin n.row m) → Belongs (whole n.row) m b → OriginSite n m b o
origin_site n m b o c =
    let k = (n.cell o.spot).named.belong o.label o.listed in
    record { site = k.site; belongs = k.belongs; is = one_site (whole n.row) m (moved_site (from n.row o.spot) k.site) b (belongs_there n.row o.spot o.label m k.site o.listed o.moved k.belongs) c }

-- two labels of one cell
within_cell : (n : NamedRow) (i : Spot n.row) (l m : Label) (a b : Site) → Contains (labels n.row i) l → Contains (labels n.row i) m → Belongs (plain n.row i) l a → Belongs (plain n.row i) m b → SameNet Plain (own n.row i) (moved_site (from n.row i) a) (moved_site (from n.row i) b) → l.name ≡ m.name
within_cell n i l m a b c d p q same = ((n.cell i).named.apart l m a b c d p q).0 (net_back_moved (from n.row i) (plain n.row i) (own n.row i) (moved n.row i) a b same)

-- by a rail
on_one_rail : (n : NamedRow) (i : Spot n.row) (side : Side) (l : Label) (a : Site) → Contains (labels n.row i) l → Belongs (plain n.row i) l a → SameNet Plain (own n.row i) (moved_site (from n.row i) a) (rail (pos n.row.height) (from n.row i) side) → l.name ≡ rail_name (standing_at n.row i).cell side
on_one_rail n i side l a c p same =
    let g = n.row in
    let k = n.cell i in
    let r = corner_named (standing_at g i).cell k side in
    let down = net_back_moved (from g i) (plain g i) (own g i) (moved g i) a (corner (standing_at g i).cell side) (subst (SameNet Plain (own g i) (moved_site (from g i) a)) (sym (corner_moved g i side)) same) in
    (k.named.apart l r.label a r.at c r.listed p r.belongs).0 (net_both Plain (plain g i) a (corner (standing_at g i).cell side) r.at down (net_back Plain (plain g i) r.at (corner (standing_at g i).cell side) r.same)) ∙ r.reads

rail_in_row : (n : NamedRow) (i : Spot n.row) (side : Side) (name : List ℕ) → name ≡ rail_name (standing_at n.row i).cell side → name_in_row (standing_at n.row i) name ≡ rail_name (standing_at n.row i).cell side
rail_in_row n i side name e = rail_kept (standing_at n.row i) name (subst (λ z. is_rail (standing_at n.row i).cell z ≡ true) (sym e) (rail_is (standing_at n.row i).cell side)) ∙ e

same_names : (n : NamedRow) (i j : Spot n.row) (l m : Label) (a b : Site) → Contains (labels n.row i) l → Contains (labels n.row j) m → Belongs (plain n.row i) l a → Belongs (plain n.row j) m b → AreJoined (own n.row) (from n.row) (pos n.row.height) i j (moved_site (from n.row i) a) (moved_site (from n.row j) b) → name_in_row (standing_at n.row i) l.name ≡ name_in_row (standing_at n.row j) m.name
same_names n i j l m a b c d p q (inside e same) = across j e m b d q same
  where
    g : Row
    g = n.row

    Goal : Spot g → Type 0
    Goal k = (m : Label) (b : Site) → Contains (labels g k) m → Belongs (plain g k) m b → SameNet Plain (own g i) (moved_site (from g i) a) (moved_site (from g k) b) → name_in_row (standing_at g i) l.name ≡ name_in_row (standing_at g k) m.name

    across : (k : Spot g) → i ≡ k → Goal k
    across k e = subst Goal e (λ m b d q same. ap (name_in_row (standing_at g i)) (within_cell n i l m a b c d p q same))
same_names n i j l m a b c d p q (by_rail side one other) =
    rail_in_row n i side l.name (on_one_rail n i side l a c p one) ∙ (n.alike i j side ∙ sym (rail_in_row n j side m.name (on_one_rail n j side m b d q (net_back Plain (own n.row j) (rail (pos n.row.height) (from n.row j) side) (moved_site (from n.row j) b) other))))

-- ---- and labels of one name are of one net
-- two labels of one cell
one_net_in : (n : NamedRow) (i j : Spot n.row) (l m : Label) (a b : Site) → i ≡ j → Contains (labels n.row i) l → Contains (labels n.row j) m → Belongs (plain n.row i) l a → Belongs (plain n.row j) m b → l.name ≡ m.name → SameNet Plain (whole n.row) (moved_site (from n.row i) a) (moved_site (from n.row j) b)
one_net_in n i j l m a b e c d p q name = subst Goal e (λ m b d q name. kept_moved n i a b (((n.cell i).named.apart l m a b c d p q).1 name)) m b d q name
  where
    g : Row
    g = n.row

    Goal : Spot g → Type 0
    Goal k = (m : Label) (b : Site) → Contains (labels g k) m → Belongs (plain g k) m b → l.name ≡ m.name → SameNet Plain (whole g) (moved_site (from g i) a) (moved_site (from g k) b)

-- a signal has no rail's name
signal_no_rail : (n : NamedRow) (i j : Spot n.row) (l m : Label) → Contains (labels n.row j) m → is_rail (standing_at n.row i).cell l.name ≡ false → is_rail (standing_at n.row j).cell m.name ≡ true → name_in_row (standing_at n.row i) l.name ≡ name_in_row (standing_at n.row j) m.name → ⊥
signal_no_rail n i j l m d e f same =
    let k = n.cell j in
    numbered_marked (standing_at n.row i).number l.name m.name (k.unmarked m.name (k.named.known m d))
    (sym (signal_numbered (standing_at n.row i) l.name e) ∙ (same ∙ rail_kept (standing_at n.row j) m.name f))

one_first : (g : Row) (i j : Spot g) → (standing_at g i).x ≡ 0 → (standing_at g j).x ≡ 0 → i ≡ j
one_first g i j e f =
    let c = (some_column g i).right in
    let d = (some_column g j).right in
    elim (apart g i j) [ inl same ↦ same | inr r ↦ absurd (elim r [ inl l ↦ omega (arith, ints, l, e, f, c) | inr l ↦ omega (arith, ints, l, e, f, d) ]) ]

one_net : (n : NamedRow) (i j : Spot n.row) (l m : Label) (a b : Site) → Contains (labels n.row i) l → Contains (labels n.row j) m → Belongs (plain n.row i) l a → Belongs (plain n.row j) m b → IsShown (standing_at n.row i) l → IsShown (standing_at n.row j) m → name_in_row (standing_at n.row i) l.name ≡ name_in_row (standing_at n.row j) m.name → SameNet Plain (whole n.row) (moved_site (from n.row i) a) (moved_site (from n.row j) b)
one_net n i j l m a b c d p q (inl e) (inl f) same =
    let s = standing_at n.row i in
    let t = standing_at n.row j in
    let k = (number_below 0 0 n.row.cells i).0 in
    let o = (number_below 0 0 n.row.cells j).0 in
    let few = n.few in
    let z = numbered_apart s.number t.number l.name m.name (omega (arith, k, few)) (omega (arith, o, few)) (sym (signal_numbered s l.name e) ∙ (same ∙ signal_numbered t m.name f)) in
    one_net_in n i j l m a b (same_number 0 0 n.row.cells i j z.0) c d p q z.1
one_net n i j l m a b c d p q (inl e) (inr f) same = absurd (signal_no_rail n i j l m d e f.1 same)
one_net n i j l m a b c d p q (inr e) (inl f) same = absurd (signal_no_rail n j i m l c f e.1 (sym same))
one_net n i j l m a b c d p q (inr e) (inr f) same =
    one_net_in n i j l m a b (one_first n.row i j e.0 f.0) c d p q (sym (rail_kept (standing_at n.row i) l.name e.1) ∙ (same ∙ rail_kept (standing_at n.row j) m.name f.1))

-- what a label of a cell belongs to conducts in its place
there : (n : NamedRow) (i : Spot n.row) (l : Label) (a : Site) → Belongs (plain n.row i) l a → Conducts (own n.row i) (moved_site (from n.row i) a)
there n i l a p = conducts (from n.row i) (plain n.row i) (own n.row i) (moved n.row i) a (belongs_conducts (plain n.row i) l a p)

apart_by_name : (n : NamedRow) (l m : Label) (a b : Site) (o : Origin n.row l) (r : Origin n.row m) → Belongs (whole n.row) l a → Belongs (whole n.row) m b → SameNet Plain (whole n.row) a b ↔ l.name ≡ m.name
apart_by_name n l m a b o r p q = (
  λ same. o.name ∙ (same_names n o.spot r.spot o.label r.label u.site v.site o.listed r.listed u.belongs v.belongs (joined (subst (λ z. SameNet Plain (whole g) z (moved_site (from g r.spot) v.site)) (sym u.is) (subst (SameNet Plain (whole g) a) (sym v.is) same))) ∙ sym r.name),
  λ e. subst (λ z. SameNet Plain (whole g) z b) u.is (subst (SameNet Plain (whole g) (moved_site (from g o.spot) u.site)) v.is (one_net n o.spot r.spot o.label r.label u.site v.site o.listed r.listed u.belongs v.belongs o.shown r.shown (sym o.name ∙ (e ∙ r.name)))),
)
  where
    g : Row
    g = n.row

    u : OriginSite n l a o
    u = origin_site n l a o p

    v : OriginSite n m b r
    v = origin_site n m b r q

    joined : SameNet Plain (whole g) (moved_site (from g o.spot) u.site) (moved_site (from g r.spot) v.site) → AreJoined (own g) (from g) (pos g.height) o.spot r.spot (moved_site (from g o.spot) u.site) (moved_site (from g r.spot) v.site)
    joined c = row_nets (own g) (whole g) (from g) (to g) (pos g.height) (beside n) o.spot r.spot (moved_site (from g o.spot) u.site) (moved_site (from g r.spot) v.site) (there n o.spot o.label u.site u.belongs) (there n r.spot r.label v.site v.belongs) c

-- ---- all of it
pub name_listed : (n : NamedRow) (i : Spot n.row) (name : List ℕ) → Contains (standing_at n.row i).cell.nets name → Contains (names_of_row n.row.cells) (name_in_row (standing_at n.row i) name)
name_listed n i name c =
    let s = standing_at n.row i in
    contains_flat (λ (z : Standing). map (name_in_row z) z.cell.nets) (standing n.row.cells) s (name_in_row s name) (at_listed (standing n.row.cells) i) (contains_map (name_in_row s) s.cell.nets name c)

known : (n : NamedRow) (m : Label) (o : Origin n.row m) → Contains (names_of_row n.row.cells) m.name
known n m o = subst (Contains (names_of_row n.row.cells)) (sym o.name) (name_listed n o.spot o.label.name ((n.cell o.spot).named.known o.label o.listed))

-- a name of the row is that of a net of a cell
record NetOf (g : Row) (name : List ℕ) : Type 0 where
  spot : Spot g
  net : List ℕ
  listed : Contains (standing_at g spot).cell.nets net
  is : name_in_row (standing_at g spot) net ≡ name

net_of : (g : Row) (name : List ℕ) → Contains (names_of_row g.cells) name → NetOf g name
net_of g name c =
    let k = in_flat (λ (z : Standing). map (name_in_row z) z.cell.nets) (standing g.cells) name c in
    let p = place_of (standing g.cells) k.of k.listed in
    let a = in_map (name_in_row (standing_at g p.place)) (standing_at g p.place).cell.nets name (subst (λ (z : Standing). Contains (map (name_in_row z) z.cell.nets) name) (sym p.is) k.inside) in
    record { spot = p.place; net = a.of; listed = a.listed; is = a.is }

-- each name is read on a label: a rail's on one of the first cell
read : (n : NamedRow) (name : List ℕ) → NetOf n.row name → Any (λ (l : Label). l.name ≡ name) (row_labels n.row.cells)
read n name o =
    let g = n.row in
    let s = standing_at g o.spot in
    let k = some_from_any (λ (l : Label). l.name ≡ o.net) (labels g o.spot) ((n.cell o.spot).named.all o.net o.listed) in
    elim (cases_Bool (is_rail s.cell o.net)) [
      | inl e ↦ (let f = rail_found s.cell o.net e in
          let first = first_cell g.cells o.spot in
          let r = corner_named (standing_at g first.spot).cell (n.cell first.spot) f.0 in
          any_at (λ (l : Label). l.name ≡ name) (row_labels g.cells) r.label (rail_label_there g first f.0 r.label r.listed r.reads)
          (r.reads ∙ (n.alike first.spot o.spot f.0 ∙ (sym f.1 ∙ (sym (rail_kept s o.net e) ∙ o.is)))))
      | inr e ↦ any_at (λ (l : Label). l.name ≡ name) (row_labels g.cells) (label_at s.number s.x k.it)
          (signal_there g o.spot k.it k.there (subst (λ z. is_rail s.cell z ≡ false) (sym k.holds) e))
          (ap (numbered_name s.number) k.holds ∙ (sym (signal_numbered s o.net e) ∙ o.is))
    ]

-- each conductor cell of the row is in a named net
every : (n : NamedRow) (a : Site) → Conducts (whole n.row) a → (name : List ℕ) × IsNamed Plain (flat_row n.row.cells) name a
every n a c =
    let g = n.row in
    let p = of_cell g a.kind a.cell.x a.cell.y c in
    let b = moved_site (neg_ℤ (from g p.0)) a in
    let down = conducts (neg_ℤ (from g p.0)) (own g p.0) (plain g p.0) (back (from g p.0) (plain g p.0) (own g p.0) (moved g p.0)) a p.1 in
    let k = (n.cell p.0).named.every b down in
    (name_in_row (standing_at g p.0) k.0, subst (IsNamed Plain (flat_row g.cells) (name_in_row (standing_at g p.0) k.0)) (site_there (from g p.0) a) (named_there n p.0 k.0 b k.1))

pub all_named : (n : NamedRow) → AreNamed Plain (names_of_row n.row.cells) (flat_row n.row.cells)
all_named n = record {
  belong = λ l c. let o = origin n.row l c in let k = (n.cell o.spot).named.belong o.label o.listed in record { site = moved_site (from n.row o.spot) k.site; belongs = belongs_there n.row o.spot o.label l k.site o.listed o.moved k.belongs };
  known = λ l c. known n l (origin n.row l c);
  all = λ name c. read n name (net_of n.row name c);
  apart = λ l m a b c d p q. apart_by_name n l m a b (origin n.row l c) (origin n.row m d) p q;
  every = every n;
}
