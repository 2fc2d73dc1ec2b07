-- Bonds are fixed by the contacts and vias of a drawing, and reach no further up than a piece.
use Rattle.std.proofs.Common.{◌≡◌, ℕ, ℤ, pos, ◌+ℤ◌, ◌≤ℤ◌, ◌<◌, ◌≤◌, int_lt, Bool, true, false, ◌||◌, Option, List, map, length, get_or, arith, inl, inr, refl, sym, subst, ap, ◌∙◌, IsSorted}
use Rattle.std.proofs.lemmas.Int.{ints}
use Rattle.box_geom.specs.Rectangle.{Rectangle, Covers}
use Rattle.box_geom.specs.Layers.{rects_on, same_layer}
use Rattle.box_geom.specs.Touching.{Cell, Edge, to_right, to_left, upward, downward, Touch}
use Rattle.box_geom.specs.declared.shape.Shape.{Shape}
use Rattle.box_geom.specs.declared.layer.Layer.{Layer}
use Rattle.box_geom.specs.declared.layer.Layer.TheVariants.{Contact, Via}
use Rattle.scmos_rules.specs.declared.rules.Deck.{Deck}
use Rattle.scmos_rules.specs.declared.rules.Deck.TheVariants.{Plain}
use Rattle.number_trees.specs.Classes.{AreLeast, AreTried}
use Rattle.net_extract.specs.Nets.{Joins, by_contact, by_via}
use Rattle.net_extract.specs.declared.piece.Conductor.{Conductor}
use Rattle.net_extract.specs.Connections.{blank}
use Rattle.net_extract.specs.Bonds.{Bond, touching, joining, tying, Paired}
use Rattle.net_extract.specs.Links.{is_linking, links_in}
use Rattle.net_extract.specs.Pieces.{piece_cmp, rect_of}
use Rattle.net_extract.specs.Ties.{PairedOrTied, AreTies}
use Rattle.net_extract.specs.declared.piece.Piece.{Piece}
use Rattle.net_extract.proofs.Apart.{filter_twice}
use Rattle.number_trees.proofs.Classing.{least_like, cut_short}
use Rattle.net_extract.proofs.Pairing.{bond_of_pair}
use Rattle.net_extract.proofs.Ranking.{ordered}

links_on : (layer : Layer) → ((l : Layer) → same_layer l layer ≡ true → is_linking l ≡ true) → (s : List Shape) → rects_on layer (links_in s) ≡ rects_on layer s
links_on layer f s = ap (λ zs. map (λ (z : Shape). z.rect) zs) (filter_twice (λ (z : Shape). is_linking z.layer) (λ (z : Shape). same_layer z.layer layer) (λ z e. f z.layer e) s)

contact_links : (l : Layer) → same_layer l Contact ≡ true → is_linking l ≡ true
contact_links l e = rw e refl

via_links : (l : Layer) → same_layer l Via ≡ true → is_linking l ≡ true
via_links l e = by (same_layer l Contact)
  where
    by : (b : Bool) → (b || same_layer l Via) ≡ true
    by true = refl
    by false = e

-- two drawings with the same contacts and vias
record SameLinks (s t : List Shape) : Type 0 where
  pub contacts : rects_on Contact s ≡ rects_on Contact t
  pub vias : rects_on Via s ≡ rects_on Via t

joins_like : (s t : List Shape) → SameLinks s t → (x y : ℤ) (k l : Conductor) → Joins s x y k l → Joins t x y k l
joins_like s t e x y k l (by_contact u low on) = by_contact u low (subst (λ rs. Covers rs x y) e.contacts on)
joins_like s t e x y k l (by_via u v on) = by_via u v (subst (λ rs. Covers rs x y) e.vias on)

bond_like : (s t : List Shape) → SameLinks s t → (p q : Piece) → Bond Plain s p q → Bond Plain t p q
bond_like s t e p q (touching k h) = touching k h
bond_like s t e p q (joining j) = joining (record { x = j.x; y = j.y; in_p = j.in_p; in_q = j.in_q; through = elim j.through [ inl a ↦ inl (joins_like s t e j.x j.y p.kind q.kind a) | inr a ↦ inr (joins_like s t e j.x j.y q.kind p.kind a) ] })
bond_like s t e p q (tying d z) = absurd (cc d)

pair_like : (s t : List Shape) → SameLinks s t → (ps : List Piece) (i j : ℕ) → Paired Plain s ps i j → Paired Plain t ps i j
pair_like s t e ps i j p = record { one = p.one; other = p.other; at_one = p.at_one; at_other = p.at_other; bond = bond_like s t e p.one p.other p.bond }

-- a deck knows the bonds of a plain one
pair_of_plain : (deck : Deck) (s : List Shape) (ps : List Piece) (i j : ℕ) → Paired Plain s ps i j → Paired deck s ps i j
pair_of_plain deck s ps i j p = record { one = p.one; other = p.other; at_one = p.at_one; at_other = p.at_other; bond = by p.bond }
  where
    by : Bond Plain s p.one p.other → Bond deck s p.one p.other
    by (touching e t) = touching e t
    by (joining b) = joining b
    by (tying e z) = absurd (cc e)

pub least_of_links : (deck : Deck) (s ts us : List Shape) (ps : List Piece) (ties : List (Option ℕ)) (ls : List ℕ) → ts ≡ links_in s → us ≡ ts → AreTies deck s ps ties → AreLeast (length ps) (PairedOrTied us ps ties) ls → AreLeast (length ps) (Paired deck s ps) ls
least_of_links deck s ts us ps ties ls et eu tied is =
    least_like (length ps) (PairedOrTied (links_in s) ps ties) (Paired deck s ps) onward backward ls (subst (λ z. AreLeast (length ps) (PairedOrTied z ps ties) ls) (eu ∙ et) is)
  where
    there : SameLinks (links_in s) s
    there = record { contacts = links_on Contact contact_links s; vias = links_on Via via_links s }

    back : SameLinks s (links_in s)
    back = record { contacts = sym (links_on Contact contact_links s); vias = sym (links_on Via via_links s) }

    onward : (i j : ℕ) → PairedOrTied (links_in s) ps ties i j → Paired deck s ps i j
    onward i j (inl p) = pair_of_plain deck s ps i j (pair_like (links_in s) s there ps i j p)
    onward i j (inr t) = tied.sound i j t

    again : (i j : ℕ) → PairedOrTied s ps ties i j → PairedOrTied (links_in s) ps ties i j
    again i j (inl p) = inl (pair_like s (links_in s) back ps i j p)
    again i j (inr t) = inr t

    backward : (i j : ℕ) → Paired deck s ps i j → PairedOrTied (links_in s) ps ties i j
    backward i j p = again i j (tied.all i j p)

-- ---- how far up a bond reaches
edge_up : (a b : Cell) → Edge a b → b.y ≤ℤ (a.y +ℤ pos 1)
edge_up a b (to_right e f) = omega (arith, ints, f)
edge_up a b (to_left e f) = omega (arith, ints, f)
edge_up a b (upward e f) = omega (arith, ints, f)
edge_up a b (downward e f) = omega (arith, ints, f)

touch_up : (p q : Rectangle) → Touch p q → q.y1 ≤ℤ p.y2
touch_up p q t =
    let h = t.in_a in
    let k = t.in_b in
    let near : t.other.y ≤ℤ (t.one.y +ℤ pos 1) = elim t.meet [ inl e ↦ (let f : t.one.y ≡ t.other.y = ap (λ (c : Cell). c.y) e in omega (arith, ints, f)) | inr e ↦ edge_up t.one t.other e ] in
    omega (arith, ints)

bond_up : (s : List Shape) (p q : Piece) → Bond Plain s p q → q.low ≤ℤ p.top
bond_up s p q (touching e t) = touch_up (rect_of p) (rect_of q) t
bond_up s p q (joining j) = let h = j.in_p in let k = j.in_q in omega (arith, ints)
bond_up s p q (tying d z) = absurd (cc d)

-- pieces from one on that begins above a piece are not bonded with it
pub none_above : (s : List Shape) (ps : List Piece) → IsSorted piece_cmp ps → (i k : ℕ) → k < length ps → int_lt (get_or ps i blank).top (get_or ps k blank).low ≡ true → (j : ℕ) → k ≤ j → j < length ps → Paired Plain s ps i j → ⊥
none_above s ps up i k lk above j le lj p =
    let b : (get_or ps j blank).low ≤ℤ (get_or ps i blank).top = bond_up s (get_or ps i blank) (get_or ps j blank) (bond_of_pair Plain s ps i j blank p) in
    let o : (get_or ps k blank).low ≤ℤ (get_or ps j blank).low = (ordered ps blank up k j le lj).row in
    omega (arith, ints, above)

pub tried_below : (s : List Shape) (ps : List Piece) → IsSorted piece_cmp ps → (i k : ℕ) (old new : List ℕ) → k < length ps → int_lt (get_or ps i blank).top (get_or ps k blank).low ≡ true → AreTried (length ps) (Paired Plain s ps) (Paired Plain s ps) i k old new → AreTried (length ps) (Paired Plain s ps) (Paired Plain s ps) i (length ps) old new
tried_below s ps up i k old new lk above was = cut_short (length ps) (Paired Plain s ps) (Paired Plain s ps) i k old new (none_above s ps up i k lk above) was
