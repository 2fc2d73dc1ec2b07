-- Pieces that are linked are of one net.
use Rattle.std.proofs.Common.{◌≡◌, ℕ, zero, suc, ℤ, arith, inl, inr, ◌⊎◌, refl, sym, ap, subst, ◌∙◌}
use Rattle.std.proofs.lemmas.Int.{ints}
use Rattle.box_geom.specs.Rectangle.{Rectangle, Holds}
use Rattle.box_geom.specs.Chains.{Steps, Chain}
use Rattle.scmos_rules.specs.declared.rules.Deck.TheVariants.{Plain}
use Rattle.net_extract.specs.Nets.{IsLower, of_p, of_n, of_poly, Are, Joins, by_contact, by_via}
use Rattle.net_extract.specs.declared.piece.Conductor.{Conductor}
use Rattle.net_extract.specs.declared.piece.Conductor.TheVariants.{PDiffusion, NDiffusion, Poly, Metal1, Metal2}
use Rattle.net_extract.specs.Bonds.{Bond, touching, joining, tying, Bonded}
use Rattle.net_extract.specs.Pieces.{rect_of as piece_rect, piece_of}
use Rattle.net_extract.specs.declared.piece.Piece.{Piece}
use Rattle.cell_draw.specs.declared.layout.Layout.{Layout}
use Rattle.cell_draw.specs.Shapes.{shapes_of}
use Rattle.cell_draw.specs.Laid.{IsLaid}
use Rattle.cell_draw.proofs.NetsFacts.{IsNetted}
use Rattle.cell_draw.proofs.NetsWires.{Wire, kind_of, rect_of, net_of, IsWire, parts, WireFrom, wire_from}
use Rattle.cell_draw.proofs.NetsDrawn.{conducts, proper}
use Rattle.cell_draw.proofs.RulesCovers.{cut_held, via_held}
use Rattle.cell_draw.proofs.NetsKinds.{touching_net, meeting_net}
use Rattle.cell_draw.proofs.NetsLinks.{IsLinkedBelow, IsLinkedAbove, cut_links, via_links}

abbrev Lower : Conductor → Type 0
Lower Metal1 = ⊥
Lower Metal2 = ⊥
Lower _ = Unit {0}

pub lower : (k : Conductor) → IsLower k → Lower k
lower PDiffusion of_p = tt
lower NDiffusion of_n = tt
lower Poly of_poly = tt
lower Metal1 h = elim h [ ]
lower Metal2 h = elim h [ ]

-- in one cell lies one kind of the lower ones
lower_kinds : (l : Layout) (j k : Conductor) (x y : ℤ) → IsLower j → IsLower k → Are (shapes_of l) j x y → Are (shapes_of l) k x y → j ≡ k
lower_kinds l PDiffusion PDiffusion x y a b c d = refl
lower_kinds l NDiffusion NDiffusion x y a b c d = refl
lower_kinds l Poly Poly x y a b c d = refl
lower_kinds l PDiffusion NDiffusion x y a b c d = absurd (d.1 c.1)
lower_kinds l NDiffusion PDiffusion x y a b c d = absurd (c.1 d.1)
lower_kinds l PDiffusion Poly x y a b c d = absurd (c.0.1 d)
lower_kinds l NDiffusion Poly x y a b c d = absurd (c.0.1 d)
lower_kinds l Poly PDiffusion x y a b c d = absurd (d.0.1 c)
lower_kinds l Poly NDiffusion x y a b c d = absurd (d.0.1 c)
lower_kinds l Metal1 k x y a b c d = absurd (lower Metal1 a)
lower_kinds l Metal2 k x y a b c d = absurd (lower Metal2 a)
lower_kinds l j Metal1 x y a b c d = absurd (lower Metal1 b)
lower_kinds l j Metal2 x y a b c d = absurd (lower Metal2 b)

-- an upper and a lower piece that a contact or a via links
pub joined_net : (l : Layout) (w : IsLaid l) (n : IsNetted l) (a b : Wire) → IsWire l a → IsWire l b → (x y : ℤ) → Holds (rect_of l n a) x y → Holds (rect_of l n b) x y → Joins (shapes_of l) x y (kind_of a) (kind_of b) → net_of l n a ≡ net_of l n b
joined_net l w n a b h k x y i j (by_contact up low on) =
    let c = cut_held l x y on in
    let z : IsLinkedBelow l n x y = cut_links l w n c.piece c.listed x y c.holds in
    let v = z.link in
    let one : kind_of v.lower ≡ kind_of b = lower_kinds l (kind_of v.lower) (kind_of b) x y z.low low (conducts l w n v.lower v.is_lower x y v.in_lower) (conducts l w n b k x y j) in
    meeting_net l w n a v.upper h v.is_upper (up ∙ sym z.high) x y i v.in_upper ∙ (v.same ∙ meeting_net l w n v.lower b v.is_lower k one x y v.in_lower j)
joined_net l w n a b h k x y i j (by_via up low on) =
    let c = via_held l x y on in
    let z : IsLinkedAbove l n x y = via_links l w n c.piece c.listed x y c.holds in
    let v = z.link in
    meeting_net l w n a v.upper h v.is_upper (up ∙ sym z.high) x y i v.in_upper ∙ (v.same ∙ meeting_net l w n v.lower b v.is_lower k (z.low ∙ sym low) x y v.in_lower j)

-- ---- chains
abbrev pub wire_piece : (l : Layout) → IsNetted l → Wire → Piece
wire_piece l n a = piece_of (kind_of a) (rect_of l n a)

bond_net : (l : Layout) (w : IsLaid l) (n : IsNetted l) (a b : Wire) → IsWire l a → IsWire l b → Bond Plain (shapes_of l) (wire_piece l n a) (wire_piece l n b) → net_of l n a ≡ net_of l n b
bond_net l w n a b h k (touching e t) = touching_net l w n a b h k e t
bond_net l w n a b h k (tying d z) = absurd (cc d)
bond_net l w n a b h k (joining j) = by j.through
  where
    by : Joins (shapes_of l) j.x j.y (kind_of a) (kind_of b) ⊎ Joins (shapes_of l) j.x j.y (kind_of b) (kind_of a) → net_of l n a ≡ net_of l n b
    by (inl z) = joined_net l w n a b h k j.x j.y j.in_p j.in_q z
    by (inr z) = sym (joined_net l w n b a k h j.x j.y j.in_q j.in_p z)

piece_is : (l : Layout) (n : IsNetted l) (m : Piece) (f : WireFrom l n m.kind (piece_rect m)) → wire_piece l n f.wire ≡ m
piece_is l n m f = made (kind_of f.wire) m.kind (rect_of l n f.wire) (piece_rect m) f.kind f.is
  where
    made : (j k : Conductor) (r s : Rectangle) → j ≡ k → r ≡ s → piece_of j r ≡ piece_of k s
    made j k r s e g = cc

steps_net : (l : Layout) (w : IsLaid l) (n : IsNetted l) (count : ℕ) (a b : Wire) → IsWire l a → IsWire l b → Steps (Bonded Plain (shapes_of l) (parts l n)) count (wire_piece l n a) (wire_piece l n b) → net_of l n a ≡ net_of l n b
steps_net l w n zero a b h k e =
    let p = proper l w n a h in
    let r = rect_of l n a in
    let first : Holds r r.x1 r.y1 = omega (arith, ints) in
    meeting_net l w n a b h k (ap (λ (p : Piece). p.kind) e) r.x1 r.y1 first (subst (λ (q : Piece). Holds (piece_rect q) r.x1 r.y1) e first)
steps_net l w n (suc count) a b h k (m, s, rest) =
    let f : WireFrom l n m.kind (piece_rect m) = wire_from l n m.kind (piece_rect m) s.to in
    let is : wire_piece l n f.wire ≡ m = piece_is l n m f in
    bond_net l w n a f.wire h f.listed (subst (λ p. Bond Plain (shapes_of l) (wire_piece l n a) p) (sym is) s.bond)
    ∙ steps_net l w n count f.wire b f.listed k (subst (λ p. Steps (Bonded Plain (shapes_of l) (parts l n)) count p (wire_piece l n b)) (sym is) rest)

-- Pieces that are chained are of one net.
pub chained_net : (l : Layout) (w : IsLaid l) (n : IsNetted l) (a b : Wire) → IsWire l a → IsWire l b → Chain (Bonded Plain (shapes_of l) (parts l n)) (wire_piece l n a) (wire_piece l n b) → net_of l n a ≡ net_of l n b
chained_net l w n a b h k c = steps_net l w n c.count a b h k c.steps
