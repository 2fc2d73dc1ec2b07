-- The first way is the first legal routing by pieces, and where there is no way there is no such routing.
use Rattle.std.proofs.Common.{ℕ, ◌≡◌, ◌<◌, ◌⊎◌, List, [], map, inl, inr, refl, sym, ap, subst, arith, Contains, IsPermutation, IsSorted}
use Rattle.cell_num.specs.declared.net.NetNo.{NetNo}
use Rattle.cell_num.specs.declared.net.Pins.{Pins}
use Rattle.cell_num.proofs.In.{Image}
use Rattle.cell_num.proofs.Lists.{contains_none}
use Rattle.cell_num.proofs.Pairs.{Some'}
use Rattle.row_place.specs.declared.placement.Placement.{Placement}
use Rattle.row_place.specs.Places.{IsPlacement}
use Rattle.row_place.proofs.Order.{same_list}
use Rattle.channel_route.specs.declared.routing.Trunk.{Trunk}
use Rattle.channel_route.specs.declared.wire.Wire.{Wire}
use Rattle.channel_route.specs.declared.wire.PlacedWire.{PlacedWire}
use Rattle.channel_route.specs.Graph.{wire_of, trunk_of}
use Rattle.channel_route.specs.Wires.{constraints_of, trunk_cmp}
use Rattle.channel_route.proofs.OneRouting.{either}
use Rattle.first_route.specs.First.{IsNoLater}
use Rattle.first_route.specs.Ways.{on_tracks, AreFirst, Fails, Go}
use Rattle.first_route.proofs.Legal.{goes_legal, goes_length}
use Rattle.dogleg_route.specs.declared.piece.PieceRouting.{PieceRouting}
use Rattle.dogleg_route.specs.PieceWires.{ComesBefore, ArePieceWires}
use Rattle.dogleg_route.specs.Routings.{ArePiecesLegal, IsPieceEarlier, StandsEarlier}
use Rattle.dogleg_route.proofs.PieceChannel.{same_wire}
use Rattle.dogleg_route.proofs.PieceLegal.{routing_of}
use Rattle.first_pieces.specs.First.{ArePiecesOn, ComesFirst, HasNoPieces, IsFirstPieces, IsLowerAt, IsSamePiece}
use Rattle.first_pieces.proofs.Placed.{from_sorted, placed_legal, to_sorted, wire_there}
use Rattle.first_pieces.proofs.Ranked.{IsLowerOn, lower_or_same}
use Rattle.first_pieces.proofs.Tracks.{AreOn, goes_for, piece_placed, tracks_of, wires_on}

make_routing : ℕ → List Trunk → PieceRouting
make_routing tracks pieces = record { tracks = tracks; pieces = pieces }

made_routing : {m n : ℕ} {xs ys : List Trunk} → m ≡ n → xs ≡ ys → make_routing m xs ≡ make_routing n ys
made_routing e f = cc

-- a routing is known from its tracks and pieces
pub routing_same : (a b : PieceRouting) → a.tracks ≡ b.tracks → a.pieces ≡ b.pieces → a ≡ b
unfolding make_routing
routing_same a b e f = made_routing e f

strict : (a b : Trunk) → StandsEarlier a b → StandsEarlier b a → ⊥
strict a b (inl e) (inl f) = omega (arith, e, f)
strict a b (inl e) (inr (f, _)) = omega (arith, e, ap (λ (n : NetNo). n.0) f)
strict a b (inr (e, _)) (inl f) = omega (arith, f, ap (λ (n : NetNo). n.0) e)
strict a b (inr (_, e)) (inr (_, f)) = omega (arith, e, f)

earlier_not : (a b : Wire) → ComesBefore b a → IsPieceEarlier (trunk_of (record { wire = a; track = 0 })) (trunk_of (record { wire = b; track = 0 })) → ⊥
earlier_not a b h e = by h.lines e
  where
    by : (b.left < a.left) ⊎ ((b.left ≡ a.left) × ((b.right < a.right) ⊎ ((b.right ≡ a.right) × (b.net.0 < a.net.0)))) → (a.left < b.left) ⊎ ((a.left ≡ b.left) × ((a.right < b.right) ⊎ ((a.right ≡ b.right) × (a.net.0 < b.net.0)))) → ⊥
    by (inl less) (inl more) = omega (arith, less, more)
    by (inl less) (inr (same, _)) = omega (arith, less, same)
    by (inr (same, _)) (inl more) = omega (arith, same, more)
    by (inr (_, inl less)) (inr (_, inl more)) = omega (arith, less, more)
    by (inr (_, inl less)) (inr (_, inr (same, _))) = omega (arith, less, same)
    by (inr (_, inr (same, _))) (inr (_, inl more)) = omega (arith, same, more)
    by (inr (_, inr (_, less))) (inr (_, inr (_, more))) = omega (arith, less, more)

itself_not : (a : Trunk) → IsPieceEarlier a a → ⊥
itself_not a (inl less) = omega (arith, less)
itself_not a (inr (_, inl less)) = omega (arith, less)
itself_not a (inr (_, inr (_, less))) = omega (arith, less)

-- a piece that comes earlier has the lower key
key_lower : (wires : List Wire) (p : Placement) (pins : Pins) → ArePieceWires p pins wires → (c d : PlacedWire) → Contains wires c.wire → Contains wires d.wire → IsPieceEarlier (trunk_of c) (trunk_of d) → c.wire.key < d.wire.key
key_lower wires p pins h c d hc hd early =
    elim (either ComesBefore wires c.wire d.wire h.order hc hd) [
      | inl same ↦ absurd (itself_not (trunk_of d) (subst (λ (w : Wire). IsPieceEarlier (trunk_of (record { wire = w; track = c.track })) (trunk_of d)) same early))
      | inr other ↦ elim other [ inl before ↦ before.keys | inr behind ↦ absurd (earlier_not c.wire d.wire behind early) ]
    ]

-- the routing of a way, and what any other one is to it
pub record IsRouted (p : Placement) (pins : Pins) (wires : List Wire) (way : List ℕ) (pieces : List Trunk) (tracks : ℕ) : Type 0 where
  pub is : IsPlacement p
  pub wired : ArePieceWires p pins wires
  pub goes : Go (constraints_of wires p.nodes) tracks [] wires way
  pub moved : IsPermutation (map trunk_of (on_tracks wires way)) pieces
  pub sorted : IsSorted trunk_cmp pieces

routed_all : (p : Placement) (pins : Pins) (wires : List Wire) (way : List ℕ) (pieces : List Trunk) (tracks : ℕ) → IsRouted p pins wires way pieces tracks → map wire_of (on_tracks wires way) ≡ wires
routed_all p pins wires way pieces tracks h = wires_on wires way (goes_length (constraints_of wires p.nodes) tracks [] wires way h.goes)

pub routed_legal : (p : Placement) (pins : Pins) (wires : List Wire) (way : List ℕ) (pieces : List Trunk) (tracks : ℕ) → IsRouted p pins wires way pieces tracks → ArePiecesLegal p pins (routing_of pieces tracks)
routed_legal p pins wires way pieces tracks h = placed_legal p pins wires (on_tracks wires way) pieces tracks (record {
  is = h.is;
  wired = h.wired;
  all = routed_all p pins wires way pieces tracks h;
  on = goes_legal (constraints_of wires p.nodes) tracks [] wires way h.goes (λ a b ha hb differ. absurd (contains_none a ha)) (λ t there. absurd (contains_none t there));
}) h.moved h.sorted

-- on the same tracks it is the same
same_pieces : (p : Placement) (pins : Pins) (wires : List Wire) (way : List ℕ) (pieces : List Trunk) (tracks : ℕ) → IsRouted p pins wires way pieces tracks → (o : PieceRouting) (l : ArePiecesLegal p pins o) (on : AreOn o wires) → way ≡ on.way → pieces ≡ o.pieces
same_pieces p pins wires way pieces tracks h o l on one = same_list StandsEarlier strict pieces o.pieces (routed_legal p pins wires way pieces tracks h).order l.order to from
  where
    placed : on_tracks wires way ≡ on_tracks wires on.way
    placed = ap (λ (ts : List ℕ). on_tracks wires ts) one

    to : (z : Trunk) → Contains pieces z → Contains o.pieces z
    to z there =
        let c : Image trunk_of (on_tracks wires way) z = from_sorted (on_tracks wires way) pieces h.moved z there in
        subst (λ (t : Trunk). Contains o.pieces t) c.is (on.each c.of (subst (λ (ts : List PlacedWire). Contains ts c.of) placed c.listed))

    from : (z : Trunk) → Contains o.pieces z → Contains pieces z
    from z there =
        let d : Some' (λ (a : PlacedWire). trunk_of a ≡ z) (on_tracks wires on.way) = piece_placed p pins o l wires (on_tracks wires on.way) h.wired (wires_on wires on.way on.long) on.each z there in
        subst (λ (t : Trunk). Contains pieces t) d.holds (to_sorted (on_tracks wires way) pieces h.moved d.it (subst (λ (ts : List PlacedWire). Contains ts d.it) (sym placed) d.there))

lower_pieces : (p : Placement) (pins : Pins) (wires : List Wire) (way : List ℕ) (pieces : List Trunk) (tracks : ℕ) → IsRouted p pins wires way pieces tracks → (o : PieceRouting) (l : ArePiecesLegal p pins o) (on : AreOn o wires) → IsLowerOn (on_tracks wires way) (on_tracks wires on.way) → IsLowerAt pieces o.pieces
lower_pieces p pins wires way pieces tracks h o l on low = record {
  piece = trunk_of low.one;
  there = to_sorted (on_tracks wires way) pieces h.moved low.one low.there;
  other = trunk_of low.other;
  other_there = on.each low.other low.other_there;
  same = record { net = ap (λ (w : Wire). w.net) low.same; left = ap (λ (w : Wire). w.left) low.same; right = ap (λ (w : Wire). w.right) low.same };
  lower = low.lower;
  before = λ t u ht hu. before t u (from_sorted (on_tracks wires way) pieces h.moved t ht) (piece_placed p pins o l wires (on_tracks wires on.way) h.wired other on.each u hu);
}
  where
    all : map wire_of (on_tracks wires way) ≡ wires
    all = routed_all p pins wires way pieces tracks h

    other : map wire_of (on_tracks wires on.way) ≡ wires
    other = wires_on wires on.way on.long

    of_wires : (c d : PlacedWire) → Contains (on_tracks wires way) c → Contains (on_tracks wires on.way) d → IsSamePiece (trunk_of c) (trunk_of d) → IsPieceEarlier (trunk_of c) (trunk_of low.one) → c.track ≡ d.track
    of_wires c d hc hd same early =
        let at_c : Contains wires c.wire = wire_there wires (on_tracks wires way) all c hc in
        let at_d : Contains wires d.wire = wire_there wires (on_tracks wires on.way) other d hd in
        let at_one : Contains wires low.one.wire = wire_there wires (on_tracks wires way) all low.one low.there in
        low.before c d hc hd (same_wire p pins wires h.wired c.wire d.wire at_c at_d same.net same.left) (key_lower wires p pins h.wired c low.one at_c at_one early)

    before : (t u : Trunk) → Image trunk_of (on_tracks wires way) t → Some' (λ (a : PlacedWire). trunk_of a ≡ u) (on_tracks wires on.way) → IsSamePiece t u → IsPieceEarlier t (trunk_of low.one) → t.track ≡ u.track
    before t u c d =
        subst (λ (x : Trunk). IsSamePiece x u → IsPieceEarlier x (trunk_of low.one) → x.track ≡ u.track) c.is
        (subst (λ (y : Trunk). IsSamePiece (trunk_of c.of) y → IsPieceEarlier (trunk_of c.of) (trunk_of low.one) → (trunk_of c.of).track ≡ y.track) d.holds (of_wires c.of d.it c.listed d.there))

-- the way of another routing
way_for : (p : Placement) (pins : Pins) (wires : List Wire) → ArePieceWires p pins wires → (tracks : ℕ) (o : PieceRouting) → ArePiecesOn p pins tracks o → (on : AreOn o wires) → Go (constraints_of wires p.nodes) tracks [] wires on.way
way_for p pins wires wired tracks o is on = subst (λ (n : ℕ). Go (constraints_of wires p.nodes) n [] wires on.way) is.tracks (goes_for p pins o is.legal wires wired on)

comes_first : (p : Placement) (pins : Pins) (wires : List Wire) (way : List ℕ) (pieces : List Trunk) (tracks : ℕ) → IsRouted p pins wires way pieces tracks → ((other : List ℕ) → Go (constraints_of wires p.nodes) tracks [] wires other → IsNoLater way other) → (o : PieceRouting) → ArePiecesOn p pins tracks o → ComesFirst (routing_of pieces tracks) o
comes_first p pins wires way pieces tracks h first o is =
    elim (lower_or_same wires way on.way h.wired.order (goes_length (constraints_of wires p.nodes) tracks [] wires way h.goes) on.long (first on.way (way_for p pins wires h.wired tracks o is on))) [
      | inl same ↦ inl (routing_same (routing_of pieces tracks) o (sym is.tracks) (same_pieces p pins wires way pieces tracks h o is.legal on same))
      | inr low ↦ inr (lower_pieces p pins wires way pieces tracks h o is.legal on low)
    ]
  where
    on : AreOn o wires
    on = tracks_of p pins o is.legal wires h.wired.each

pub first_is : (p : Placement) (pins : Pins) (wires : List Wire) (placed : List PlacedWire) (pieces : List Trunk) (tracks : ℕ) → IsPlacement p → ArePieceWires p pins wires → AreFirst (constraints_of wires p.nodes) tracks [] wires placed → IsPermutation (map trunk_of placed) pieces → IsSorted trunk_cmp pieces → IsFirstPieces p pins tracks (routing_of pieces tracks)
first_is p pins wires placed pieces tracks is wired h moved sorted = record {
  is = record { legal = routed_legal p pins wires h.way pieces tracks routed; tracks = refl };
  first = comes_first p pins wires h.way pieces tracks routed h.first;
}
  where
    routed : IsRouted p pins wires h.way pieces tracks
    routed = record { is = is; wired = wired; goes = h.goes; moved = subst (λ (ts : List PlacedWire). IsPermutation (map trunk_of ts) pieces) h.is moved; sorted = sorted }

pub none_is : (p : Placement) (pins : Pins) (wires : List Wire) (tracks : ℕ) → ArePieceWires p pins wires → Fails (constraints_of wires p.nodes) tracks [] wires → HasNoPieces p pins tracks
none_is p pins wires tracks wired fails o is =
    let on : AreOn o wires = tracks_of p pins o is.legal wires wired.each in
    fails on.way (way_for p pins wires wired tracks o is on)
