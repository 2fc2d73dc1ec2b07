-- Whether two pieces are of one kind and touch, or a contact or a via links them.
use Rattle.std.proofs.Common.{◌≡◌, ◌↔◌, IsTrue, ℤ, ◌<ℤ◌, true, ◌&&◌, ◌==◌, Option, Some, None, [], ◌∷◌, arith, inl, inr, refl, sym, subst}
use Rattle.std.specs.Bool.{Decides}
use Rattle.std.specs.Int.{int_max, int_min}
use Rattle.std.proofs.lemmas.Int.{ints, clamps}
use Rattle.std.proofs.lemmas.Bool.Decides.{Decides-and, Decides-eqb, Decides-like}
use Rattle.cell_num.proofs.Lists.{some_same, contains_none, contains_cons, contains_here}
use Rattle.box_geom.specs.Rectangle.{Rectangle, IsProper, Holds}
use Rattle.box_geom.specs.Layers.{same_layer}
use Rattle.box_geom.specs.Touching.{Touch}
use Rattle.box_geom.specs.Comparisons.{overlapping, touching}
use Rattle.box_geom.specs.declared.shape.Shape.{Shape}
use Rattle.box_geom.specs.declared.layer.Layer.{Layer}
use Rattle.box_geom.specs.declared.layer.Layer.TheVariants.{Contact, Via}
use Rattle.box_geom.proofs.Spans.{int_lt_decides, overlap_decides}
use Rattle.box_geom.proofs.Meeting.{touch_decides}
use Rattle.scmos_rules.specs.Layout.{On}
use Rattle.scmos_rules.specs.declared.rules.Deck.TheVariants.{Plain}
use Rattle.net_extract.specs.Bonds.{AreJoined, Bond, touching as by_touch, joining, tying}
use Rattle.net_extract.specs.Nets.{Joins, by_contact, by_via}
use Rattle.net_extract.specs.Pieces.{place, rect_of, link_layer}
use Rattle.net_extract.specs.Meetings.{sharing, crossing, sharing_cell, linking, links_kind, is_reached, bonding}
use Rattle.net_extract.specs.declared.piece.Conductor.{Conductor}
use Rattle.net_extract.specs.declared.piece.Conductor.TheVariants.{PDiffusion, NDiffusion, Poly, Metal1, Metal2}
use Rattle.net_extract.specs.declared.piece.Piece.{Piece}
use Rattle.net_extract.proofs.Covering.{cover_none}
use Rattle.net_extract.proofs.Conductors.{OnLink, through_link, link_through, same_place, same_kind_place}
use Rattle.net_extract.proofs.Filling.{and_parts, and_true}
use Rattle.net_extract.proofs.Finding.{shows, shown}
use Rattle.net_extract.proofs.LayerNumbers.{layer_is}

-- a cell of both rectangles and of a set
record Meet (P : ℤ → ℤ → Type 0) (a b : Rectangle) : Type 0 where
  pub x : ℤ
  pub y : ℤ
  pub in_a : Holds a x y
  pub in_b : Holds b x y
  pub is : P x y

share_decides : (a b c d e f : ℤ) → Decides (sharing a b c d e f) (int_max (int_max a c) e <ℤ int_min (int_min b d) f)
unfolding sharing
share_decides a b c d e f = int_lt_decides (int_max (int_max a c) e) (int_min (int_min b d) f)

abbrev Overlaid : Rectangle → Rectangle → Rectangle → Type 0
Overlaid a b c = (int_max (int_max a.x1 b.x1) c.x1 <ℤ int_min (int_min a.x2 b.x2) c.x2) × (int_max (int_max a.y1 b.y1) c.y1 <ℤ int_min (int_min a.y2 b.y2) c.y2)

cell_of : (a b c : Rectangle) → Overlaid a b c → Meet (Holds c) a b
cell_of a b c (h, v) = record { x = int_max (int_max a.x1 b.x1) c.x1; y = int_max (int_max a.y1 b.y1) c.y1; in_a = omega (arith, ints, clamps); in_b = omega (arith, ints, clamps); is = omega (arith, ints, clamps) }

of_cell : (a b c : Rectangle) (x y : ℤ) → Holds a x y → Holds b x y → Holds c x y → Overlaid a b c
of_cell a b c x y h k l = (omega (arith, ints, clamps), omega (arith, ints, clamps))

cross_decides : (a b c : Rectangle) → Decides (crossing a b c) (Meet (Holds c) a b)
cross_decides a b c = Decides-like (crossing a b c) (cell_of a b c) (λ m. of_cell a b c m.x m.y m.in_a m.in_b m.is) (Decides-and (sharing a.x1 a.x2 b.x1 b.x2 c.x1 c.x2) (sharing a.y1 a.y2 b.y1 b.y2 c.y1 c.y2) (share_decides a.x1 a.x2 b.x1 b.x2 c.x1 c.x2) (share_decides a.y1 a.y2 b.y1 b.y2 c.y1 c.y2))

abbrev pub Overlapping : Rectangle → Rectangle → Type 0
Overlapping a b = ((a.x1 <ℤ b.x2) × (b.x1 <ℤ a.x2)) × ((a.y1 <ℤ b.y2) × (b.y1 <ℤ a.y2))

pub cells_meet : (a b : Rectangle) (x y : ℤ) → Holds a x y → Holds b x y → Overlapping a b
cells_meet a b x y h k = ((omega (arith, ints), omega (arith, ints)), (omega (arith, ints), omega (arith, ints)))

pub cell_decides : (a b : Rectangle) → Decides (sharing_cell a b) (Overlapping a b)
cell_decides a b = Decides-and (overlapping a.x1 a.x2 b.x1 b.x2) (overlapping a.y1 a.y2 b.y1 b.y2) (overlap_decides a.x1 a.x2 b.x1 b.x2) (overlap_decides a.y1 a.y2 b.y1 b.y2)

-- ---- one contact or via
of_one : (z : Shape) (layer : Layer) (x y : ℤ) → On layer (z ∷ []) x y → (same_layer z.layer layer ≡ true) × Holds z.rect x y
of_one z layer x y on =
    let w = shows (z ∷ []) layer x y on in
    let is : w.shape ≡ z = elim (contains_cons z [] w.shape w.listed) [ inl e ↦ sym e | inr l ↦ absurd (contains_none w.shape l) ] in
    (subst (λ (s : Shape). same_layer s.layer layer ≡ true) is w.on, subst (λ (s : Shape). Holds s.rect x y) is w.holds)

linked_on : (z : Shape) (layer : Layer) (a b : Rectangle) → Decides (same_layer z.layer layer && crossing a b z.rect) (Meet (On layer (z ∷ [])) a b)
linked_on z layer a b = (
  λ e. let t = and_parts (same_layer z.layer layer) (crossing a b z.rect) e in let m = (cross_decides a b z.rect).0 t.1 in record { x = m.x; y = m.y; in_a = m.in_a; in_b = m.in_b; is = shown (z ∷ []) layer z m.x m.y (contains_here z []) t.0 m.is },
  λ m. let o = of_one z layer m.x m.y m.is in and_true (same_layer z.layer layer) (crossing a b z.rect) o.0 ((cross_decides a b z.rect).1 (record { x = m.x; y = m.y; in_a = m.in_a; in_b = m.in_b; is = o.1 })),
)

linking_decides : (z : Shape) (o : Option Layer) (a b : Rectangle) → Decides (linking z o a b) (Meet (OnLink o (z ∷ [])) a b)
linking_decides z (Some layer) a b = linked_on z layer a b
linking_decides z None a b = (λ e. absurd (cc e), λ m. absurd m.is)

pub link_decides : (z : Shape) (a b : Piece) → IsTrue (linking z (link_layer a.kind b.kind) (rect_of a) (rect_of b)) ↔ AreJoined (z ∷ []) a b
link_decides z a b =
    Decides-like (linking z (link_layer a.kind b.kind) (rect_of a) (rect_of b))
    (λ m. record { x = m.x; y = m.y; in_p = m.in_a; in_q = m.in_b; through = through_link (z ∷ []) m.x m.y a.kind b.kind m.is })
    (λ j. record { x = j.x; y = j.y; in_a = j.in_p; in_b = j.in_q; is = link_through (z ∷ []) j.x j.y a.kind b.kind j.through })
    (linking_decides z (link_layer a.kind b.kind) (rect_of a) (rect_of b))

-- ---- what a contact or a via links it reaches
linked_kind : (k l : Conductor) (layer : Layer) → link_layer k l ≡ Some layer → links_kind layer k ≡ true
linked_kind PDiffusion PDiffusion layer e = absurd (cc e)
linked_kind PDiffusion NDiffusion layer e = absurd (cc e)
linked_kind PDiffusion Poly layer e = absurd (cc e)
linked_kind PDiffusion Metal1 layer e = subst (λ z. links_kind z PDiffusion ≡ true) (some_same Contact layer e) refl
linked_kind PDiffusion Metal2 layer e = absurd (cc e)
linked_kind NDiffusion PDiffusion layer e = absurd (cc e)
linked_kind NDiffusion NDiffusion layer e = absurd (cc e)
linked_kind NDiffusion Poly layer e = absurd (cc e)
linked_kind NDiffusion Metal1 layer e = subst (λ z. links_kind z NDiffusion ≡ true) (some_same Contact layer e) refl
linked_kind NDiffusion Metal2 layer e = absurd (cc e)
linked_kind Poly PDiffusion layer e = absurd (cc e)
linked_kind Poly NDiffusion layer e = absurd (cc e)
linked_kind Poly Poly layer e = absurd (cc e)
linked_kind Poly Metal1 layer e = subst (λ z. links_kind z Poly ≡ true) (some_same Contact layer e) refl
linked_kind Poly Metal2 layer e = absurd (cc e)
linked_kind Metal1 PDiffusion layer e = subst (λ z. links_kind z Metal1 ≡ true) (some_same Contact layer e) refl
linked_kind Metal1 NDiffusion layer e = subst (λ z. links_kind z Metal1 ≡ true) (some_same Contact layer e) refl
linked_kind Metal1 Poly layer e = subst (λ z. links_kind z Metal1 ≡ true) (some_same Contact layer e) refl
linked_kind Metal1 Metal1 layer e = absurd (cc e)
linked_kind Metal1 Metal2 layer e = subst (λ z. links_kind z Metal1 ≡ true) (some_same Via layer e) refl
linked_kind Metal2 PDiffusion layer e = absurd (cc e)
linked_kind Metal2 NDiffusion layer e = absurd (cc e)
linked_kind Metal2 Poly layer e = absurd (cc e)
linked_kind Metal2 Metal1 layer e = subst (λ z. links_kind z Metal2 ≡ true) (some_same Via layer e) refl
linked_kind Metal2 Metal2 layer e = absurd (cc e)

reached : (z : Shape) (a : Piece) (layer : Layer) (x y : ℤ) → On layer (z ∷ []) x y → links_kind layer a.kind ≡ true → Holds (rect_of a) x y → is_reached z a ≡ true
reached z a layer x y on of_kind h =
    let o = of_one z layer x y on in
    and_true (links_kind z.layer a.kind) (sharing_cell (rect_of a) z.rect) (subst (λ l. links_kind l a.kind ≡ true) (sym (layer_is z.layer layer o.0)) of_kind) ((cell_decides (rect_of a) z.rect).1 (cells_meet (rect_of a) z.rect x y h o.1))

pub joined_reached : (z : Shape) (a b : Piece) → AreJoined (z ∷ []) a b → is_reached z a ≡ true
joined_reached z a b j = by (link_layer a.kind b.kind) refl (link_through (z ∷ []) j.x j.y a.kind b.kind j.through)
  where
    by : (o : Option Layer) → link_layer a.kind b.kind ≡ o → OnLink o (z ∷ []) j.x j.y → is_reached z a ≡ true
    by (Some layer) e on = reached z a layer j.x j.y on (linked_kind a.kind b.kind layer e) j.in_p
    by None e on = absurd on

-- a piece that begins above a contact or a via is not linked by it
pub joined_below : (z : Shape) (a b : Piece) → AreJoined (z ∷ []) a b → b.low <ℤ z.rect.y2
joined_below z a b j = by (link_layer a.kind b.kind) (link_through (z ∷ []) j.x j.y a.kind b.kind j.through)
  where
    by : (o : Option Layer) → OnLink o (z ∷ []) j.x j.y → b.low <ℤ z.rect.y2
    by (Some layer) on = let h = (of_one z layer j.x j.y on).1 in let k = j.in_q in omega (arith, ints)
    by None on = absurd on

-- ---- touching
unjoined : (a b : Piece) → AreJoined [] a b → ⊥
unjoined a b j = elim j.through [ inl w ↦ by a.kind b.kind w | inr w ↦ by b.kind a.kind w ]
  where
    by : (k l : Conductor) → Joins [] j.x j.y k l → ⊥
    by k l (by_contact u low on) = cover_none j.x j.y on
    by k l (by_via u v on) = cover_none j.x j.y on

pub touch_bonds : (a b : Piece) → IsProper (rect_of a) → IsProper (rect_of b) → IsTrue (bonding a b) ↔ Bond Plain [] a b
touch_bonds a b pa pb =
    Decides-like (bonding a b) (λ t. by_touch (same_kind_place a.kind b.kind t.0) t.1) of_bond
    (Decides-and (place a.kind == place b.kind) (touching (rect_of a) (rect_of b)) (Decides-eqb (place a.kind) (place b.kind)) (touch_decides (rect_of a) (rect_of b) pa pb))
  where
    of_bond : Bond Plain [] a b → (place a.kind ≡ place b.kind) × Touch (rect_of a) (rect_of b)
    of_bond (by_touch k t) = (same_place a.kind b.kind k, t)
    of_bond (joining j) = absurd (unjoined a b j)
    of_bond (tying d z) = absurd (cc d)
