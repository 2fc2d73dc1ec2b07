-- A legal routing of pieces is a wiring: the spans of the nets, cut at all their inner node lines.
use Rattle.std.proofs.Common.{ℕ, ◌≡◌, ◌+◌, ◌<◌, ◌≤◌, Some, slice_get, inl, inr, refl, sym, ap, subst, arith, Contains, get_or}
use Rattle.std.proofs.lemmas.Bool.{cases_lt, cases_order}
use Rattle.std.proofs.lemmas.List.Elements.{All-contains, Contains-get_or}
use Rattle.std.proofs.lemmas.Option.{slice_get_within, get_or_from_slice_get}
use Rattle.cell_num.specs.declared.net.NetNo.{NetNo}
use Rattle.cell_num.specs.declared.net.Pins.{Pins}
use Rattle.cell_num.specs.declared.finger.Row.TheVariants.{P, N}
use Rattle.cell_num.proofs.Lists.{all_from_contains, contains_get}
use Rattle.cell_num.proofs.Pairs.{Some', some_from_any, any_at, pairs_at}
use Rattle.row_place.specs.declared.placement.NodePlace.{NodePlace}
use Rattle.row_place.specs.declared.placement.Placement.{Placement}
use Rattle.row_place.specs.Trunks.{lines_of, HasTrunk}
use Rattle.channel_route.specs.declared.routing.Trunk.{Trunk}
use Rattle.channel_route.specs.Wiring.{HoldsLine, IsHeldAt, AreEnds, AreInOrder, AreJoined, IsWiring}
use Rattle.dogleg_route.specs.declared.piece.PieceRouting.{PieceRouting}
use Rattle.dogleg_route.specs.Pieces.{HasNode, IsRange, IsPiece}
use Rattle.dogleg_route.specs.Routings.{GoesOver, EndsAt, StandsEarlier, ArePiecesLegal, as_routing}
use Rattle.dogleg_route.proofs.Holding.{HeldBy, LastOf, piece_at, last_of}
use Rattle.dogleg_route.proofs.Marks.{NextPiece, IsStacked, mark_place, next_piece, ascends, stacked, ends_at, node_between}

-- each listed piece is one
pub is_piece : (p : Placement) (pins : Pins) (r : PieceRouting) → ArePiecesLegal p pins r → (t : Trunk) → Contains r.pieces t → IsPiece p pins t.net t.left t.right
is_piece p pins r l t there = (l.pieces t.net t.left t.right).1 (any_at (GoesOver t.net t.left t.right) r.pieces t there (record { of = refl; begins = refl; ends = refl }))

pub listed : (p : Placement) (pins : Pins) (r : PieceRouting) → ArePiecesLegal p pins r → (net : NetNo) (left right : ℕ) → IsPiece p pins net left right → Some' (GoesOver net left right) r.pieces
listed p pins r l net left right piece = some_from_any (GoesOver net left right) r.pieces ((l.pieces net left right).0 piece)

ends_of : (p : Placement) (pins : Pins) (r : PieceRouting) → ArePiecesLegal p pins r → (t : Trunk) → Contains r.pieces t → AreEnds p t
ends_of p pins r l t there =
    let piece : IsPiece p pins t.net t.left t.right = is_piece p pins r l t there in
    record { left = mark_place p t.net t.left piece.begins; right = mark_place p t.net t.right piece.ends; ascending = ascends p pins t.net t.left t.right piece }

-- of two pieces of a net the one that begins first ends where the other begins, or before
pub one_net : (p : Placement) (pins : Pins) (r : PieceRouting) → ArePiecesLegal p pins r → (a b : Trunk) → Contains r.pieces a → Contains r.pieces b → a.net ≡ b.net → a.left < b.left → IsStacked a.right b.left b.right
one_net p pins r l a b ha hb same less =
    stacked p pins a.net a.left a.right b.left b.right (is_piece p pins r l a ha) (subst (λ n. IsPiece p pins n b.left b.right) (sym same) (is_piece p pins r l b hb)) less

in_order : (p : Placement) (pins : Pins) (r : PieceRouting) → ArePiecesLegal p pins r → (a b : Trunk) → Contains r.pieces a → Contains r.pieces b → StandsEarlier a b → AreInOrder a b
in_order p pins r l a b ha hb (inl less) = inl less
in_order p pins r l a b ha hb (inr (same, less)) = let s : IsStacked a.right b.left b.right = one_net p pins r l a b ha hb same less in inr (same, less, s.ends, omega (arith, s.ends, s.rises))

held_at : (p : Placement) (pins : Pins) (r : PieceRouting) → ArePiecesLegal p pins r → (net : NetNo) (line : ℕ) → HasTrunk p pins net → Contains (lines_of p net) line → IsHeldAt r.pieces net line
held_at p pins r l net line has there =
    let h : HeldBy p pins net line = piece_at p pins net line has there in
    let t : Some' (GoesOver net h.left h.right) r.pieces = listed p pins r l net h.left h.right h.piece in
    record { trunk = t.it; there = t.there; is = t.holds.of; holds = record { begins = omega (arith, h.begins, t.holds.begins); ends = omega (arith, h.ends, t.holds.ends) } }

-- no piece of the net begins between two that follow each other
none_between : (p : Placement) (pins : Pins) (r : PieceRouting) → ArePiecesLegal p pins r → (at : ℕ) (a b t : Trunk) → slice_get r.pieces at ≡ Some a → slice_get r.pieces (at + 1) ≡ Some b → a.net ≡ b.net → Contains r.pieces t → t.net ≡ a.net → a.left < t.left → t.left < b.left → ⊥
none_between p pins r l at a b t here next same (k, short, is) of low high =
    elim (cases_order k at) [
      | inl one ↦ omega (arith, low, ap (λ (z : Trunk). z.left) (first one))
      | inr other ↦ elim other [
        | inl less ↦ before (subst (λ z. StandsEarlier z a) is (subst (λ z. StandsEarlier (get_or r.pieces k t) z) ga (l.order k at t less (slice_get_within r.pieces at a here))))
        | inr more ↦ elim (cases_order k (at + 1)) [
          | inl one ↦ omega (arith, high, ap (λ (z : Trunk). z.left) (second one))
          | inr far ↦ elim far [
            | inl less ↦ omega (arith, more, less)
            | inr beyond ↦ behind (subst (λ z. StandsEarlier b z) is (subst (λ z. StandsEarlier z (get_or r.pieces k t)) gb (l.order (at + 1) k t beyond short)))
          ]
        ]
      ]
    ]
  where
    ga : get_or r.pieces at t ≡ a
    ga = get_or_from_slice_get r.pieces at a t here

    gb : get_or r.pieces (at + 1) t ≡ b
    gb = get_or_from_slice_get r.pieces (at + 1) b t next

    first : k ≡ at → a ≡ t
    first e = subst (λ z. z ≡ t) ga (subst (λ i. get_or r.pieces i t ≡ t) e is)

    second : k ≡ at + 1 → b ≡ t
    second e = subst (λ z. z ≡ t) gb (subst (λ i. get_or r.pieces i t ≡ t) e is)

    behind : StandsEarlier b t → ⊥
    behind (inl less) = omega (arith, less, ap (λ (n : NetNo). n.0) of, ap (λ (n : NetNo). n.0) same)
    behind (inr (_, less)) = omega (arith, less, high)

    before : StandsEarlier t a → ⊥
    before (inl less) = omega (arith, less, ap (λ (n : NetNo). n.0) of)
    before (inr (_, less)) = omega (arith, less, low)

joined : (p : Placement) (pins : Pins) (r : PieceRouting) → ArePiecesLegal p pins r → (at : ℕ) (a b : Trunk) → slice_get r.pieces at ≡ Some a → slice_get r.pieces (at + 1) ≡ Some b → a.net ≡ b.net → AreJoined p a b
joined p pins r l at a b here next same = record { meets = meets; node = node.node; there = node.there; net = node.of; line = node.at }
  where
    ha : Contains r.pieces a
    ha = contains_get r.pieces at a here

    hb : Contains r.pieces b
    hb = contains_get r.pieces (at + 1) b next

    pa : IsPiece p pins a.net a.left a.right
    pa = is_piece p pins r l a ha

    pb : IsPiece p pins a.net b.left b.right
    pb = subst (λ n. IsPiece p pins n b.left b.right) (sym same) (is_piece p pins r l b hb)

    less_of : StandsEarlier a b → a.left < b.left
    less_of (inl e) = absurd (omega (arith, e, ap (λ (n : NetNo). n.0) same))
    less_of (inr (_, e)) = e

    less : a.left < b.left
    less = less_of (pairs_at StandsEarlier r.pieces at (at + 1) a b l.order (omega arith) here next)

    s : IsStacked a.right b.left b.right
    s = one_net p pins r l a b ha hb same less

    begins : IsRange p a.net a.left a.right → a.left < a.right
    begins (inl e) = e
    begins (inr (one, span)) = absurd (omega (arith, less, one, All-contains (λ z. z ≤ a.right) (lines_of p a.net) b.left span.none_behind (mark_place p a.net b.left pb.begins)))

    gap : a.right < b.left → ⊥
    gap short =
        let end : LastOf p a.net b.left = last_of p a.net b.left (mark_place p a.net b.left pb.begins) in
        let n : NextPiece p pins a.net a.right end.last = next_piece p pins a.net a.right end.last pa.trunk pa.ends end.is (omega (arith, short, end.low)) in
        let t : Some' (GoesOver a.net a.right n.at) r.pieces = listed p pins r l a.net a.right n.at n.piece in
        none_between p pins r l at a b t.it here next same t.there t.holds.of (omega (arith, begins pa.range, t.holds.begins)) (omega (arith, short, t.holds.begins))

    meets : a.right ≡ b.left
    meets = elim (cases_lt a.right b.left) [ inl short ↦ absurd (gap short) | inr most ↦ omega (arith, most, s.ends) ]

    node : HasNode p a.net a.right
    node = node_between p a.net a.left a.right b.right pa.ends (mark_place p a.net a.left pa.begins) (mark_place p a.net b.right pb.ends) (begins pa.range) (omega (arith, meets, s.rises))

-- a piece of the net of a node place that holds its line ends there
ends_there : (p : Placement) (pins : Pins) (r : PieceRouting) → ArePiecesLegal p pins r → (t : Trunk) → Contains r.pieces t → (node : NodePlace) → Contains p.nodes node → node.net ≡ t.net → HoldsLine t node.line → EndsAt t node.line
ends_there p pins r l t there node listed' of h =
    ends_at p pins t.net t.left t.right node.line (is_piece p pins r l t there) (inr (inr (record { node = node; there = listed'; of = of; at = refl }))) h.begins h.ends

pub wired : (p : Placement) (pins : Pins) (r : PieceRouting) → ArePiecesLegal p pins r → IsWiring p pins (as_routing r)
wired p pins r l = record {
  nets = l.nets;
  ends = all_from_contains (AreEnds p) r.pieces (ends_of p pins r l);
  order = λ i j d less short. in_order p pins r l (get_or r.pieces i d) (get_or r.pieces j d) (Contains-get_or r.pieces i d (omega (arith, less, short))) (Contains-get_or r.pieces j d short) (l.order i j d less short);
  held = held_at p pins r l;
  next = joined p pins r l;
  apart = l.apart;
  above = λ a b ha hb line over hold_a hold_b. l.above a b ha hb line (record {
    over = over;
    upper_ends = ends_there p pins r l a ha (record { row = P; line = line; net = a.net }) over.p refl hold_a;
    lower_ends = ends_there p pins r l b hb (record { row = N; line = line; net = b.net }) over.n refl hold_b;
  });
  tracks = l.tracks;
  full = l.full;
}
