-- What is looked up by cell and by label is the nets of the drawing.
use Rattle.std.proofs.Common.{◌≡◌, ◌↔◌, ℕ, ◌<◌, length, IfSome, ◌==◌, ℤ, pos, neg_ℤ, ◌-ℤ◌, ◌≤ℤ◌, ◌<ℤ◌, true, Option, Some, None, List, IsPermutation, refl, sym, subst, ap, arith, ◌∙◌}
use Rattle.std.specs.List.{All, Contains, filter, find}
use Rattle.std.specs.Option.{option_map}
use Rattle.std.proofs.lemmas.Bool.Decides.{Decides-eqb}
use Rattle.std.proofs.lemmas.Int.{ints}
use Rattle.std.proofs.lemmas.List.Elements.{All-contains}
use Rattle.std.proofs.lemmas.List.FromFn.{length-map-range_with_len}
use Rattle.std.proofs.lemmas.List.Sorted.{Contains-permutation, IsPermutation-sym}
use Rattle.std.proofs.lemmas.Option.{slice_get_within}
use Rattle.std.specs.Str.{bytes_eq}
use Rattle.cell_num.proofs.In.{in_map, contains_map}
use Rattle.cell_num.proofs.Lists.{all_from_contains, some_same}
use Rattle.box_geom.specs.Comparisons.{holding}
use Rattle.box_geom.proofs.Filters.{contains_filter, in_filter}
use Rattle.box_geom.specs.Layers.{AreWithinLimits, same_layer}
use Rattle.box_geom.specs.Rectangle.{Rectangle, IsProper, IsRectangle, Holds, Covers}
use Rattle.box_geom.specs.Regions.{IsBlock}
use Rattle.box_geom.specs.Touching.{Cell}
use Rattle.box_geom.specs.declared.layer.Layer.{Layer}
use Rattle.box_geom.specs.declared.shape.Shape.{Shape}
use Rattle.box_geom.specs.declared.shape.Shapes.{Shapes}
use Rattle.scmos_rules.specs.Layout.{On}
use Rattle.scmos_rules.specs.declared.rules.Deck.{Deck}
use Rattle.net_extract.specs.Connections.{firsts_of, pieces_of, AreWires}
use Rattle.net_extract.specs.NetMaps.{NetMap, HaveNames, net_named, AreCellsOf, AreOfNets, at_cell, net_of, of_net, blocks_of, IsNetAt, Maps, net_piece, net_pieces}
use Rattle.net_extract.specs.Nets.{Are, layer_of, Site, site_at}
use Rattle.net_extract.specs.declared.piece.Conductor.{Conductor}
use Rattle.net_extract.specs.declared.piece.Conductor.TheVariants.{PDiffusion, NDiffusion, Poly, Metal1, Metal2}
use Rattle.net_extract.specs.GateNets.{boxes_of}
use Rattle.net_extract.specs.Naming.{name_of, names_of}
use Rattle.net_extract.specs.Numbering.{IsInNet}
use Rattle.net_extract.specs.Bonds.{IsIn}
use Rattle.net_extract.specs.Pieces.{corner_of, rect_of}
use Rattle.net_extract.specs.Steps.{IsMapped}
use Rattle.net_extract.specs.declared.connections.Wire.{Wire}
use Rattle.net_extract.specs.declared.drawing.Mapped.{Mapped}
use Rattle.net_extract.specs.declared.naming.NetLabel.{NetLabel}
use Rattle.net_extract.specs.declared.net_piece.NetPiece.{NetPiece}
use Rattle.net_extract.specs.declared.piece.Piece.{Piece}
use Rattle.net_extract.proofs.Agreeing.{label_held}
use Rattle.net_extract.proofs.Belonging.{one_conductor}
use Rattle.net_extract.proofs.ByName.{one_net, labels_moved}
use Rattle.net_extract.proofs.Extracting.{regular_of}
use Rattle.net_extract.proofs.Filling.{holds_decides, and_parts, and_true}
use Rattle.net_extract.proofs.Finding.{found, found_none, shows}
use Rattle.net_extract.proofs.Labelling.{wire_listed, wire_net}
use Rattle.net_extract.proofs.LayerNumbers.{layer_is, is_layer}
use Rattle.net_extract.proofs.Listing.{held as held_cell, inside_conducts, piece_proper}
use Rattle.net_extract.proofs.Numbers.{one_number}

-- ---- nets by cells

-- a cell of a piece of the layer
pub piece_at : (deck : Deck) (s : List Shape) (wires : List Wire) (firsts : List Piece) → AreWires deck s wires firsts → (p : NetPiece) → Contains (net_pieces wires) p → (layer : Layer) → p.layer ≡ layer → (x y : ℤ) → Holds p.block x y → IsNetAt deck s (firsts_of firsts) layer x y p.net
piece_at deck s wires firsts m p c layer on x y h = let i = in_map net_piece wires p c in by i.of i.listed i.is
  where
    by : (w : Wire) → Contains wires w → net_piece w ≡ p → IsNetAt deck s (firsts_of firsts) layer x y p.net
    by w listed is =
        let a : Site = site_at w.piece.kind x y in
        let inside : IsIn w.piece (site_at w.piece.kind x y) = record { kind = refl; holds = subst (λ (q : NetPiece). Holds q.block x y) (sym is) h } in
        record {
          site = site_at w.piece.kind x y;
          conductor = record { cell = refl; on_layer = ap (λ (q : NetPiece). q.layer) is ∙ on; conducts = inside_conducts s (pieces_of wires) m.drawn w.piece (wire_listed wires w listed) (site_at w.piece.kind x y) inside };
          net = subst (λ k. IsInNet deck s (firsts_of firsts) k (site_at w.piece.kind x y)) (ap (λ (q : NetPiece). q.net) is) (wire_net deck s wires firsts m w listed (site_at w.piece.kind x y) inside);
        }

-- a cell of a layer is in one net
pub one_at : (deck : Deck) (s : List Shape) (wires : List Wire) (firsts : List Piece) → AreWires deck s wires firsts → (layer : Layer) (x y : ℤ) (j k : ℕ) → IsNetAt deck s (firsts_of firsts) layer x y j → IsNetAt deck s (firsts_of firsts) layer x y k → j ≡ k
one_at deck s wires firsts m layer x y j k a b =
    let same : a.site ≡ b.site = one_conductor s layer (record { x = x; y = y }) a.site b.site a.conductor b.conductor in
    one_number deck s (firsts_of firsts) j k b.site m.nets (subst (IsInNet deck s (firsts_of firsts) j) same a.net) b.net

-- the net in a cell of a layer is the one of its conductor
pub net_at : (deck : Deck) (s : List Shape) (wires : List Wire) (firsts : List Piece) → AreWires deck s wires firsts → (layer : Layer) (x y : ℤ) (n : ℕ) → option_map (λ (p : NetPiece). p.net) (find (at_cell layer x y) (net_pieces wires)) ≡ Some n ↔ IsNetAt deck s (firsts_of firsts) layer x y n
net_at deck s wires firsts m layer x y n = (λ e. there (find (at_cell layer x y) (net_pieces wires)) refl n e, λ a. back (find (at_cell layer x y) (net_pieces wires)) refl a)
  where
    there : (o : Option NetPiece) → find (at_cell layer x y) (net_pieces wires) ≡ o → (k : ℕ) → option_map (λ (p : NetPiece). p.net) o ≡ Some k → IsNetAt deck s (firsts_of firsts) layer x y k
    there None e k f = absurd (cc f)
    there (Some p) e k f =
        let q = found (at_cell layer x y) (net_pieces wires) p e in
        let t = and_parts (same_layer p.layer layer) (holding p.block x y) q.passes in
        subst (IsNetAt deck s (firsts_of firsts) layer x y) (some_same p.net k f) (piece_at deck s wires firsts m p q.listed layer (layer_is p.layer layer t.0) x y ((holds_decides p.block x y).0 t.1))

    back : (o : Option NetPiece) → find (at_cell layer x y) (net_pieces wires) ≡ o → IsNetAt deck s (firsts_of firsts) layer x y n → option_map (λ (p : NetPiece). p.net) o ≡ Some n
    back (Some p) e a = ap (λ k. Some k) (one_at deck s wires firsts m layer x y p.net n (there (Some p) e p.net refl) a)
    back None e a =
        let h = held_cell s (pieces_of wires) m.drawn a.site a.conductor.conducts in
        let i = in_map (λ (z : Wire). z.piece) wires h.piece h.listed in
        let kind : i.of.piece.kind ≡ a.site.kind = subst (λ (q : Piece). q.kind ≡ a.site.kind) (sym i.is) h.inside.kind in
        let on : layer_of i.of.piece.kind ≡ layer = ap layer_of kind ∙ a.conductor.on_layer in
        let holds : Holds (rect_of i.of.piece) x y = subst (λ c. Holds (rect_of i.of.piece) c.x c.y) a.conductor.cell (subst (λ (q : Piece). Holds (rect_of q) a.site.cell.x a.site.cell.y) (sym i.is) h.inside.holds) in
        absurd (found_none (at_cell layer x y) (net_pieces wires) e (net_piece i.of) (contains_map net_piece wires i.of i.listed) (and_true (same_layer (layer_of i.of.piece.kind) layer) (holding (rect_of i.of.piece) x y) (is_layer (layer_of i.of.piece.kind) layer on) ((holds_decides (rect_of i.of.piece) x y).1 holds)))

-- ---- the pieces of a net

on_layer : (s : List Shape) (k : Conductor) (x y : ℤ) → Are s k x y → On (layer_of k) s x y
on_layer s PDiffusion x y a = a.0.0
on_layer s NDiffusion x y a = a.0.0
on_layer s Poly x y a = a
on_layer s Metal1 x y a = a
on_layer s Metal2 x y a = a

-- a cell within the limits of a drawing
record IsLimited (x y : ℤ) : Type 0 where
  pub left : neg_ℤ (pos 1000000000) ≤ℤ x
  pub right : x <ℤ pos 1000000000
  pub low : neg_ℤ (pos 1000000000) ≤ℤ y
  pub top : y <ℤ pos 1000000000

limited : (s : List Shape) → AreWithinLimits s → (layer : Layer) (x y : ℤ) → On layer s x y → IsLimited x y
limited s limits layer x y on =
    let w = shows s layer x y on in
    let r : IsRectangle w.shape.rect = All-contains (λ (z : Shape). IsRectangle z.rect) s w.shape limits.all w.listed in
    let a = r.left in
    let b = r.right in
    let c = r.low in
    let d = r.top in
    let e = w.holds.left in
    let f = w.holds.right in
    let g = w.holds.low in
    let h = w.holds.high in
    record { left = omega (arith, ints); right = omega (arith, ints); low = omega (arith, ints); top = omega (arith, ints) }

block_of : (r : Rectangle) → IsProper r → ((x y : ℤ) → Holds r x y → IsLimited x y) → IsBlock r
block_of r proper within =
    let w = proper.wide in
    let h = proper.high in
    let first : IsLimited r.x1 r.y1 = within r.x1 r.y1 (record { left = omega (arith, ints); right = w; low = omega (arith, ints); high = h }) in
    let last : IsLimited (r.x2 -ℤ pos 1) (r.y2 -ℤ pos 1) = within (r.x2 -ℤ pos 1) (r.y2 -ℤ pos 1) (record { left = omega (arith, ints); right = omega (arith, ints); low = omega (arith, ints); high = omega (arith, ints) }) in
    let a = first.left in
    let b = first.low in
    let c = last.right in
    let d = last.top in
    record { proper = proper; left = omega (arith, ints); right = omega (arith, ints); low = omega (arith, ints); top = omega (arith, ints) }

pub of_nets : (deck : Deck) (s : List Shape) (wires : List Wire) (firsts : List Piece) → AreWires deck s wires firsts → AreWithinLimits s → AreOfNets (net_pieces wires)
of_nets deck s wires firsts m limits = record {
  blocks = all_from_contains (λ (p : NetPiece). IsBlock p.block) (net_pieces wires) (λ p c. block_of p.block (proper p c) (λ x y h. cell p c x y h));
  one = λ p q cp cq same x y hp hq. one_at deck s wires firsts m q.layer x y p.net q.net (piece_at deck s wires firsts m p cp q.layer same x y hp) (piece_at deck s wires firsts m q cq q.layer refl x y hq);
}
  where
    proper : (p : NetPiece) → Contains (net_pieces wires) p → IsProper p.block
    proper p c = let i = in_map net_piece wires p c in subst (λ (q : NetPiece). IsProper q.block) i.is (piece_proper s (pieces_of wires) m.drawn i.of.piece (wire_listed wires i.of i.listed))

    cell : (p : NetPiece) → Contains (net_pieces wires) p → (x y : ℤ) → Holds p.block x y → IsLimited x y
    cell p c x y h =
        let a = piece_at deck s wires firsts m p c p.layer refl x y h in
        subst (λ (z : Cell). IsLimited z.x z.y) a.conductor.cell (limited s limits (layer_of a.site.kind) a.site.cell.x a.site.cell.y (on_layer s a.site.kind a.site.cell.x a.site.cell.y a.conductor.conducts))

pub blocks_are : (pieces : List NetPiece) → AreOfNets pieces → (n : ℕ) (layer : Layer) → All IsBlock (blocks_of n layer pieces)
blocks_are pieces are n layer = all_from_contains IsBlock (blocks_of n layer pieces) (λ r c.
    let i = in_map (λ (p : NetPiece). p.block) (filter (of_net n layer) pieces) r c in
    subst IsBlock i.is (All-contains (λ (p : NetPiece). IsBlock p.block) pieces i.of are.blocks (in_filter (of_net n layer) pieces i.of i.listed).listed))

pub cells_of : (pieces : List NetPiece) → AreOfNets pieces → (n : ℕ) (layer : Layer) (x y : ℤ) → Covers (blocks_of n layer pieces) x y ↔ option_map (λ (p : NetPiece). p.net) (find (at_cell layer x y) pieces) ≡ Some n
cells_of pieces are n layer x y = (λ c. there (find (at_cell layer x y) pieces) refl c, λ e. back (find (at_cell layer x y) pieces) refl e)
  where
    there : (o : Option NetPiece) → find (at_cell layer x y) pieces ≡ o → Covers (blocks_of n layer pieces) x y → option_map (λ (p : NetPiece). p.net) o ≡ Some n
    there o e c =
        let i = in_map (λ (p : NetPiece). p.block) (filter (of_net n layer) pieces) c.rect c.listed in
        let k = in_filter (of_net n layer) pieces i.of i.listed in
        let t = and_parts (same_layer i.of.layer layer) (i.of.net == n) k.passes in
        by o e i.of k.listed t.0 ((Decides-eqb i.of.net n).0 t.1) (subst (λ r. Holds r x y) (sym i.is) c.holds)
      where
        by : (u : Option NetPiece) → find (at_cell layer x y) pieces ≡ u → (p : NetPiece) → Contains pieces p → same_layer p.layer layer ≡ true → p.net ≡ n → Holds p.block x y → option_map (λ (q : NetPiece). q.net) u ≡ Some n
        by None f p listed on is holds = absurd (found_none (at_cell layer x y) pieces f p listed (and_true (same_layer p.layer layer) (holding p.block x y) on ((holds_decides p.block x y).1 holds)))
        by (Some w) f p listed on is holds =
            let q = found (at_cell layer x y) pieces w f in
            let u = and_parts (same_layer w.layer layer) (holding w.block x y) q.passes in
            ap (λ k. Some k) (are.one w p q.listed listed (layer_is w.layer layer u.0 ∙ sym (layer_is p.layer layer on)) x y ((holds_decides w.block x y).0 u.1) holds ∙ is)

    back : (o : Option NetPiece) → find (at_cell layer x y) pieces ≡ o → option_map (λ (p : NetPiece). p.net) o ≡ Some n → Covers (blocks_of n layer pieces) x y
    back None e f = absurd (cc f)
    back (Some w) e f =
        let q = found (at_cell layer x y) pieces w e in
        let u = and_parts (same_layer w.layer layer) (holding w.block x y) q.passes in
        record {
          rect = w.block;
          listed = contains_map (λ (p : NetPiece). p.block) (filter (of_net n layer) pieces) w (contains_filter (of_net n layer) pieces w q.listed (and_true (same_layer w.layer layer) (w.net == n) u.0 ((Decides-eqb w.net n).1 (some_same w.net n f))));
          holds = (holds_decides w.block x y).0 u.1;
        }

pub are_cells : (m : NetMap) → AreOfNets m.pieces → (n : ℕ) (layer : Layer) (rs : List Rectangle) → rs ≡ blocks_of n layer m.pieces → AreCellsOf m n layer rs
are_cells m are n layer rs e x y = subst (λ ss. Covers ss x y ↔ net_of m layer x y ≡ Some n) (sym e) (cells_of m.pieces are n layer x y)

-- ---- numbers of names

in_names : (deck : Deck) (s : List Shape) (firsts : List Site) (held : List NetLabel) (names : List (List ℕ)) → names ≡ names_of held (length firsts) → (n : ℕ) (a : Site) → IsInNet deck s firsts n a → n < length names
in_names deck s firsts held names e n a net =
    let less : n < length firsts = slice_get_within firsts n net.first net.numbered in
    let many : length (names_of held (length firsts)) ≡ length firsts = length-map-range_with_len (name_of held) 0 (length firsts) in
    subst (λ k. n < k) (sym (ap length e ∙ many)) less

pub have_names : (deck : Deck) (shapes : Shapes) (m : Mapped) (labels : List NetLabel) → IsMapped deck shapes m → IsPermutation m.named.held.items labels → HaveNames (net_pieces m.connections.wires.items) labels m.named.names
have_names deck shapes m labels is moved = record {
  pieces = all_from_contains (λ (p : NetPiece). p.net < length m.named.names) (net_pieces m.connections.wires.items) (λ p c.
      let i = in_map net_piece m.connections.wires.items p c in
      subst (λ (q : NetPiece). q.net < length m.named.names) i.is (at i.of.net (corner_of i.of.piece) (All-contains (λ (w : Wire). IsInNet deck shapes.rects (firsts_of m.connections.firsts.items) w.net (corner_of w.piece)) m.connections.wires.items i.of is.wires.numbers i.listed)));
  labels = all_from_contains (λ (h : NetLabel). h.net < length m.named.names) labels (λ h c.
      let (l, listed, of) = label_held deck shapes.rects (firsts_of m.connections.firsts.items) shapes.labels m.named.held.items h is.named.labelled.labels (Contains-permutation labels m.named.held.items h (IsPermutation-sym m.named.held.items labels moved) c) in
      at h.net of.site of.net);
}
  where
    at : (n : ℕ) (a : Site) → IsInNet deck shapes.rects (firsts_of m.connections.firsts.items) n a → n < length m.named.names
    at = in_names deck shapes.rects (firsts_of m.connections.firsts.items) m.named.held.items m.named.names is.named.are

pub net_within : (m : NetMap) → HaveNames m.pieces m.labels m.names → (layer : Layer) (x y : ℤ) → IfSome (net_of m layer x y) (λ n. n < length m.names)
net_within m have layer x y = by (find (at_cell layer x y) m.pieces) refl
  where
    by : (o : Option NetPiece) → find (at_cell layer x y) m.pieces ≡ o → IfSome (option_map (λ (p : NetPiece). p.net) o) (λ n. n < length m.names)
    by None e = tt
    by (Some p) e = All-contains (λ (q : NetPiece). q.net < length m.names) m.pieces p have.pieces (found (at_cell layer x y) m.pieces p e).listed

pub named_within : (m : NetMap) → HaveNames m.pieces m.labels m.names → (name : List ℕ) → IfSome (net_named m name) (λ n. n < length m.names)
named_within m have name = by (find (λ (h : NetLabel). bytes_eq h.name name) m.labels) refl
  where
    by : (o : Option NetLabel) → find (λ (h : NetLabel). bytes_eq h.name name) m.labels ≡ o → IfSome (option_map (λ (h : NetLabel). h.net) o) (λ n. n < length m.names)
    by None e = tt
    by (Some h) e = All-contains (λ (k : NetLabel). k.net < length m.names) m.labels h have.labels (found (λ (k : NetLabel). bytes_eq k.name name) m.labels h e).listed

-- ---- the whole map

pub maps : (deck : Deck) (shapes : Shapes) (m : Mapped) (map : NetMap) → IsMapped deck shapes m → map.pieces ≡ net_pieces m.connections.wires.items → IsPermutation m.named.held.items map.labels → map.names ≡ m.named.names → Maps deck shapes map
maps deck shapes m map is pieces moved names = record {
  regular = regular_of deck shapes (firsts_of m.connections.firsts.items) (boxes_of m.gates.wires.items m.gates.firsts.items) m.devices is.few is.found;
  firsts = firsts_of m.connections.firsts.items;
  held = m.named.held.items;
  has = is.named.labelled;
  agreed = is.named.agreed;
  names = names ∙ is.named.are;
  labels = labels_moved m.named.held.items map.labels (one_net m.named.held.items is.named.agreed.no_split) moved;
  nets = λ layer x y n. subst (λ ps. option_map (λ (p : NetPiece). p.net) (find (at_cell layer x y) ps) ≡ Some n ↔ IsNetAt deck shapes.rects (firsts_of m.connections.firsts.items) layer x y n) (sym pieces) (net_at deck shapes.rects m.connections.wires.items m.connections.firsts.items is.wires layer x y n);
}
