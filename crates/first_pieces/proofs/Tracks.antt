-- The tracks of a legal routing by pieces are a way for the wires of the pieces.
use Rattle.std.proofs.Common.{ℕ, ◌≡◌, ◌≢◌, ◌<◌, List, [], ◌∷◌, map, length, inl, inr, refl, sym, ap, subst, arith, Any, All, AllPairs, Contains}
use Rattle.std.proofs.lemmas.List.Elements.{All-contains, All-head, All-tail}
use Rattle.std.proofs.lemmas.List.Kept.{AllPairs-cons}
use Rattle.cell_num.specs.declared.net.NetNo.{NetNo}
use Rattle.cell_num.specs.declared.net.Pins.{Pins}
use Rattle.cell_num.proofs.Lists.{all_from_contains, contains_cons, contains_here, contains_none, contains_there}
use Rattle.cell_num.proofs.Pairs.{Some', some_from_any, any_at, pairs_none, pairs_head, pairs_tail}
use Rattle.row_place.specs.declared.placement.Placement.{Placement}
use Rattle.channel_route.specs.declared.routing.Trunk.{Trunk}
use Rattle.channel_route.specs.declared.constraint.Constraint.{Constraint}
use Rattle.channel_route.specs.declared.wire.Wire.{Wire}
use Rattle.channel_route.specs.declared.wire.PlacedWire.{PlacedWire}
use Rattle.channel_route.specs.Graph.{wire_of, trunk_of}
use Rattle.channel_route.specs.Turn.{IsOver}
use Rattle.channel_route.specs.Wires.{constraints_of}
use Rattle.channel_route.proofs.OneRouting.{either}
use Rattle.first_route.specs.Ways.{on_track, on_tracks, Go}
use Rattle.first_route.proofs.Fitting.{Allows}
use Rattle.first_route.proofs.Legal.{AreInOrder, AreLegalOn, legal_goes}
use Rattle.dogleg_route.specs.declared.piece.PieceRouting.{PieceRouting}
use Rattle.dogleg_route.specs.PieceWires.{IsBetween, IsPieceWire, ComesBefore, ArePieceWires}
use Rattle.dogleg_route.specs.Routings.{GoesOver, StandsEarlier, ArePiecesLegal}
use Rattle.dogleg_route.proofs.PieceChannel.{IsWireAbove, wire_above}
use Rattle.dogleg_route.proofs.Wired.{is_piece, listed}
use Rattle.first_pieces.specs.First.{IsSamePiece}
use Rattle.first_pieces.proofs.Placed.{wire_placed, wire_there}

make_piece : NetNo → ℕ → ℕ → ℕ → Trunk
make_piece net left right track = record { net = net; left = left; right = right; track = track }

made_piece : {n m : NetNo} {a b c d e f : ℕ} → n ≡ m → a ≡ b → c ≡ d → e ≡ f → make_piece n a c e ≡ make_piece m b d f
made_piece en ea ec ee = cc

-- a piece on a track
pub piece_same : (a b : Trunk) → IsSamePiece a b → a.track ≡ b.track → a ≡ b
unfolding make_piece
piece_same a b e f = made_piece e.net e.left e.right f

-- a piece of a legal routing is known from its net and its first line
pub one_piece : (p : Placement) (pins : Pins) (r : PieceRouting) → ArePiecesLegal p pins r → (a b : Trunk) → Contains r.pieces a → Contains r.pieces b → a.net ≡ b.net → a.left ≡ b.left → a ≡ b
one_piece p pins r l a b ha hb net left =
    elim (either StandsEarlier r.pieces a b l.order ha hb) [
      | inl same ↦ same
      | inr other ↦ absurd (elim other [ inl less ↦ never a b net left less | inr more ↦ never b a (sym net) (sym left) more ])
    ]
  where
    never : (x y : Trunk) → x.net ≡ y.net → x.left ≡ y.left → StandsEarlier x y → ⊥
    never x y e f (inl less) = omega (arith, less, ap (λ (n : NetNo). n.0) e)
    never x y e f (inr (_, less)) = omega (arith, less, f)

-- ---- wires on tracks
pub wires_on : (wires : List Wire) (way : List ℕ) → length wires ≡ length way → map wire_of (on_tracks wires way) ≡ wires
wires_on [] way long = refl
wires_on (w ∷ wires) [] long = absurd (omega (arith, long))
wires_on (w ∷ wires) (x ∷ way) long = ap (λ (ws : List Wire). w ∷ ws) (wires_on wires way (omega (arith, long)))

pub wire_in : (wires : List Wire) (way : List ℕ) (a : PlacedWire) → Contains (on_tracks wires way) a → Contains wires a.wire
wire_in [] way a there = absurd (contains_none a there)
wire_in (w ∷ wires) [] a there = absurd (contains_none a there)
wire_in (w ∷ wires) (x ∷ way) a there =
    elim (contains_cons (on_track w x) (on_tracks wires way) a there) [
      | inl same ↦ subst (λ (z : PlacedWire). Contains (w ∷ wires) z.wire) same (contains_here w wires)
      | inr rest ↦ contains_there w wires a.wire (wire_in wires way a rest)
    ]

-- the keys of those behind the first are higher
pub keys_behind : (w : Wire) (wires : List Wire) (way : List ℕ) → AllPairs ComesBefore (w ∷ wires) → (a : PlacedWire) → Contains (on_tracks wires way) a → w.key < a.wire.key
keys_behind w wires way h a there = (All-contains (ComesBefore w) wires a.wire (pairs_head ComesBefore w wires h) (wire_in wires way a there)).keys

pub keys_ordered : (wires : List Wire) (way : List ℕ) → AllPairs ComesBefore wires → AreInOrder (on_tracks wires way)
keys_ordered [] way h = pairs_none (λ (a b : PlacedWire). a.wire.key < b.wire.key)
keys_ordered (w ∷ wires) [] h = pairs_none (λ (a b : PlacedWire). a.wire.key < b.wire.key)
keys_ordered (w ∷ wires) (x ∷ way) h =
    AllPairs-cons (λ (a b : PlacedWire). a.wire.key < b.wire.key) (on_track w x) (on_tracks wires way)
    (all_from_contains (λ (z : PlacedWire). w.key < z.wire.key) (on_tracks wires way) (keys_behind w wires way h))
    (keys_ordered wires way (pairs_tail ComesBefore w wires h))

-- ---- wires on the tracks of a routing
pub record AreOn (r : PieceRouting) (wires : List Wire) : Type 0 where
  pub way : List ℕ
  pub long : length wires ≡ length way
  pub each : (a : PlacedWire) → Contains (on_tracks wires way) a → Contains r.pieces (trunk_of a)

on_more : (r : PieceRouting) (w : Wire) (wires : List Wire) (t : Trunk) → Contains r.pieces t → GoesOver w.net w.left w.right t → AreOn r wires → AreOn r (w ∷ wires)
on_more r w wires t there over rest = record { way = t.track ∷ rest.way; long = omega (arith, rest.long); each = each }
  where
    same : t ≡ trunk_of (on_track w t.track)
    same = piece_same t (trunk_of (on_track w t.track)) (record { net = over.of; left = over.begins; right = over.ends }) refl

    each : (a : PlacedWire) → Contains (on_tracks (w ∷ wires) (t.track ∷ rest.way)) a → Contains r.pieces (trunk_of a)
    each a listed' =
        elim (contains_cons (on_track w t.track) (on_tracks wires rest.way) a listed') [
          | inl first ↦ subst (λ (z : PlacedWire). Contains r.pieces (trunk_of z)) first (subst (λ (z : Trunk). Contains r.pieces z) same there)
          | inr more ↦ rest.each a more
        ]

pub tracks_of : (p : Placement) (pins : Pins) (r : PieceRouting) → ArePiecesLegal p pins r → (wires : List Wire) → All (IsPieceWire p pins) wires → AreOn r wires
tracks_of p pins r l [] h = record { way = []; long = refl; each = λ a there. absurd (contains_none a there) }
tracks_of p pins r l (w ∷ wires) h =
    let t : Some' (GoesOver w.net w.left w.right) r.pieces = listed p pins r l w.net w.left w.right (All-head (IsPieceWire p pins) w wires h) in
    on_more r w wires t.it t.there t.holds (tracks_of p pins r l wires (All-tail (IsPieceWire p pins) w wires h))

-- the wire of a piece of the routing
pub piece_placed : (p : Placement) (pins : Pins) (r : PieceRouting) (l : ArePiecesLegal p pins r) (wires : List Wire) (placed : List PlacedWire) → ArePieceWires p pins wires → map wire_of placed ≡ wires → ((a : PlacedWire) → Contains placed a → Contains r.pieces (trunk_of a)) → (t : Trunk) → Contains r.pieces t → Some' (λ (a : PlacedWire). trunk_of a ≡ t) placed
piece_placed p pins r l wires placed wired all each t there =
    let w : Some' (IsBetween t.net t.left t.right) wires = some_from_any (IsBetween t.net t.left t.right) wires (wired.all t.net t.left t.right (is_piece p pins r l t there)) in
    let a : Some' (λ (a : PlacedWire). a.wire ≡ w.it) placed = wire_placed wires placed all w.it w.there in
    record { it = a.it; there = a.there; holds = one_piece p pins r l (trunk_of a.it) t (each a.it a.there) there (subst (λ (z : Wire). z.net ≡ t.net) (sym a.holds) w.holds.of) (subst (λ (z : Wire). z.left ≡ t.left) (sym a.holds) w.holds.begins) }

pub legal_on : (p : Placement) (pins : Pins) (r : PieceRouting) → ArePiecesLegal p pins r → (wires : List Wire) (placed : List PlacedWire) → ArePieceWires p pins wires → map wire_of placed ≡ wires → ((a : PlacedWire) → Contains placed a → Contains r.pieces (trunk_of a)) → AreLegalOn (constraints_of wires p.nodes) r.tracks placed
legal_on p pins r l wires placed wired all each = record {
  pairs = allows;
  low = λ a there. All-contains (λ (t : Trunk). t.track < r.tracks) r.pieces (trunk_of a) l.tracks (each a there);
  full = λ track below. full track (some_from_any (λ (t : Trunk). t.track ≡ track) r.pieces (l.full track below));
}
  where
    cs : List Constraint
    cs = constraints_of wires p.nodes

    at : (t : PlacedWire) → Contains placed t → Contains wires t.wire
    at t there = wire_there wires placed all t there

    full : (track : ℕ) → Some' (λ (t : Trunk). t.track ≡ track) r.pieces → Any (λ (a : PlacedWire). a.track ≡ track) placed
    full track t =
        let a : Some' (λ (a : PlacedWire). trunk_of a ≡ t.it) placed = piece_placed p pins r l wires placed wired all each t.it t.there in
        any_at (λ (a : PlacedWire). a.track ≡ track) placed a.it a.there (subst (λ (z : Trunk). z.track ≡ track) (sym a.holds) t.holds)

    over : (c : Constraint) → Contains cs c → (a b : PlacedWire) → Contains placed a → Contains placed b → c.upper ≡ a.wire.key → c.lower ≡ b.wire.key → b.track < a.track
    over c hc a b ha hb eu el =
        let there : IsOver cs a.wire.key b.wire.key c.line = subst (λ n. IsOver cs a.wire.key n c.line) el (subst (λ n. IsOver cs n c.lower c.line) eu hc) in
        let h : IsWireAbove p pins a.wire b.wire c.line = wire_above p pins wires wired a.wire b.wire (at a ha) (at b hb) c.line there in
        l.above (trunk_of a) (trunk_of b) (each a ha) (each b hb) c.line (record { over = h.over; upper_ends = h.upper_ends; lower_ends = h.lower_ends })

    allows : (a b : PlacedWire) → Contains placed a → Contains placed b → a.wire.key ≢ b.wire.key → Allows cs a b
    allows a b ha hb keys = record {
      apart = λ differ same. l.apart (trunk_of a) (trunk_of b) (each a ha) (each b hb) differ same;
      below = λ c hc eu el. over c hc a b ha hb eu el;
      above = λ c hc eu el. over c hc b a hb ha eu el;
    }

pub goes_for : (p : Placement) (pins : Pins) (r : PieceRouting) (l : ArePiecesLegal p pins r) (wires : List Wire) → ArePieceWires p pins wires → (on : AreOn r wires) → Go (constraints_of wires p.nodes) r.tracks [] wires on.way
goes_for p pins r l wires wired on =
    legal_goes (constraints_of wires p.nodes) r.tracks [] wires on.way on.long (keys_ordered wires on.way wired.order) (legal_on p pins r l wires (on_tracks wires on.way) wired (wires_on wires on.way on.long) on.each)
