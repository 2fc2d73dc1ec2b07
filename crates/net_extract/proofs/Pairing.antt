-- Pieces by number, and the bonds between them.
use Rattle.std.proofs.Common.{ℕ, ◌<◌, List, length, get_or, inl, inr, sym, subst}
use Rattle.std.proofs.lemmas.Option.{slice_get_within, get_or_from_slice_get, slice_get-get_or}
use Rattle.box_geom.specs.Rectangle.{Rectangle}
use Rattle.box_geom.specs.Touching.{Touch}
use Rattle.box_geom.specs.declared.shape.Shape.{Shape}
use Rattle.scmos_rules.specs.declared.rules.Deck.{Deck}
use Rattle.net_extract.specs.Nets.{site_at}
use Rattle.net_extract.specs.Bonds.{Bond, touching, joining, tying, Paired}
use Rattle.net_extract.specs.Pieces.{rect_of}
use Rattle.net_extract.specs.declared.piece.Piece.{Piece}
use Rattle.net_extract.proofs.Numbers.{flip_edge, swapped, tied_back}

touch_back : (a b : Rectangle) → Touch a b → Touch b a
touch_back a b t = record { one = t.other; other = t.one; in_a = t.in_b; in_b = t.in_a; meet = elim t.meet [ inl e ↦ inl (sym e) | inr e ↦ inr (flip_edge t.one t.other e) ] }

pub bond_back : (deck : Deck) (s : List Shape) (p q : Piece) → Bond deck s p q → Bond deck s q p
bond_back deck s p q (touching e t) = touching (sym e) (touch_back (rect_of p) (rect_of q) t)
bond_back deck s p q (joining j) = joining (record { x = j.x; y = j.y; in_p = j.in_q; in_q = j.in_p; through = swapped s j.x j.y p.kind q.kind j.through })
bond_back deck s p q (tying e t) = tying e (record { x = t.u; y = t.v; u = t.x; v = t.y; in_p = t.in_q; in_q = t.in_p; tied = tied_back s (site_at p.kind t.x t.y) (site_at q.kind t.u t.v) t.tied })

pub paired_back : (deck : Deck) (s : List Shape) (ps : List Piece) (i j : ℕ) → Paired deck s ps i j → Paired deck s ps j i
paired_back deck s ps i j p = record { one = p.other; other = p.one; at_one = p.at_other; at_other = p.at_one; bond = bond_back deck s p.one p.other p.bond }

pub paired_below : (deck : Deck) (s : List Shape) (ps : List Piece) (i j : ℕ) → Paired deck s ps i j → (i < length ps) × (j < length ps)
paired_below deck s ps i j p = (slice_get_within ps i p.one p.at_one, slice_get_within ps j p.other p.at_other)

pub paired_of : (deck : Deck) (s : List Shape) (ps : List Piece) (i j : ℕ) (d : Piece) → i < length ps → j < length ps → Bond deck s (get_or ps i d) (get_or ps j d) → Paired deck s ps i j
paired_of deck s ps i j d li lj b = record { one = get_or ps i d; other = get_or ps j d; at_one = slice_get-get_or ps i d li; at_other = slice_get-get_or ps j d lj; bond = b }

pub bond_of_pair : (deck : Deck) (s : List Shape) (ps : List Piece) (i j : ℕ) (d : Piece) → Paired deck s ps i j → Bond deck s (get_or ps i d) (get_or ps j d)
bond_of_pair deck s ps i j d p = subst (λ z. Bond deck s z (get_or ps j d)) (sym (get_or_from_slice_get ps i p.one d p.at_one)) (subst (λ z. Bond deck s p.one z) (sym (get_or_from_slice_get ps j p.other d p.at_other)) p.bond)
