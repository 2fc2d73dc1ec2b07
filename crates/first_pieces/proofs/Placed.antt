-- Wires of all pieces on tracks on which they allow each other are a legal routing by pieces.
use Rattle.std.proofs.Common.{ℕ, ◌≡◌, ◌≢◌, ◌<◌, ◌≤◌, ◌⊎◌, List, map, inl, inr, refl, sym, ap, subst, arith, Contains, IsPermutation, IsSorted}
use Rattle.std.proofs.lemmas.List.Sorted.{Contains-permutation, IsPermutation-sym}
use Rattle.cell_num.specs.declared.net.NetNo.{NetNo}
use Rattle.cell_num.specs.declared.net.Pins.{Pins}
use Rattle.cell_num.proofs.In.{Image, in_map, contains_map}
use Rattle.cell_num.proofs.Lists.{all_from_contains}
use Rattle.cell_num.proofs.Pairs.{Some', some_from_any, any_at}
use Rattle.row_place.specs.declared.placement.Placement.{Placement}
use Rattle.row_place.specs.Places.{IsPlacement}
use Rattle.row_place.specs.Trunks.{HasTrunk}
use Rattle.channel_route.specs.declared.routing.Trunk.{Trunk}
use Rattle.channel_route.specs.declared.wire.Wire.{Wire}
use Rattle.channel_route.specs.declared.wire.PlacedWire.{PlacedWire}
use Rattle.channel_route.specs.Graph.{wire_of, trunk_of}
use Rattle.channel_route.specs.Routing.{AreApart}
use Rattle.channel_route.specs.Wires.{between, constraints_of, trunk_cmp}
use Rattle.channel_route.proofs.ConstraintsOf.{Holds, pair_there}
use Rattle.first_route.proofs.Fitting.{Allows}
use Rattle.first_route.proofs.Legal.{AreLegalOn}
use Rattle.dogleg_route.specs.Pieces.{IsPiece}
use Rattle.dogleg_route.specs.PieceWires.{IsBetween, ArePieceWires}
use Rattle.dogleg_route.specs.Routings.{GoesOver, EndsAt, IsPieceAbove, ArePiecesLegal}
use Rattle.dogleg_route.proofs.Marks.{ascends}
use Rattle.dogleg_route.proofs.PieceChannel.{piece_of, same_key}
use Rattle.dogleg_route.proofs.PieceLegal.{routing_of}
use Rattle.first_pieces.proofs.Listing.{in_order}

-- the wires of the pieces of a placement, each on a track
pub record ArePlaced (p : Placement) (pins : Pins) (wires : List Wire) (placed : List PlacedWire) (tracks : ℕ) : Type 0 where
  pub is : IsPlacement p
  pub wired : ArePieceWires p pins wires
  pub all : map wire_of placed ≡ wires
  pub on : AreLegalOn (constraints_of wires p.nodes) tracks placed

pub wire_there : (wires : List Wire) (placed : List PlacedWire) → map wire_of placed ≡ wires → (t : PlacedWire) → Contains placed t → Contains wires t.wire
wire_there wires placed all t there = subst (λ ws. Contains ws t.wire) all (contains_map wire_of placed t there)

pub wire_placed : (wires : List Wire) (placed : List PlacedWire) → map wire_of placed ≡ wires → (w : Wire) → Contains wires w → Some' (λ (t : PlacedWire). t.wire ≡ w) placed
wire_placed wires placed all w there =
    let i : Image wire_of placed w = in_map wire_of placed w (subst (λ ws. Contains ws w) (sym all) there) in
    record { it = i.of; there = i.listed; holds = i.is }

-- to and from the sorted list of pieces
pub to_sorted : (placed : List PlacedWire) (pieces : List Trunk) → IsPermutation (map trunk_of placed) pieces → (t : PlacedWire) → Contains placed t → Contains pieces (trunk_of t)
to_sorted placed pieces moved t there = Contains-permutation (map trunk_of placed) pieces (trunk_of t) moved (contains_map trunk_of placed t there)

pub from_sorted : (placed : List PlacedWire) (pieces : List Trunk) → IsPermutation (map trunk_of placed) pieces → (t : Trunk) → Contains pieces t → Image trunk_of placed t
from_sorted placed pieces moved t there = in_map trunk_of placed t (Contains-permutation pieces (map trunk_of placed) t (IsPermutation-sym (map trunk_of placed) pieces moved) there)

ends_held : (w : Wire) (line : ℕ) → w.left ≤ w.right → (w.left ≡ line) ⊎ (w.right ≡ line) → Holds w line
ends_held w line up (inl e) = (omega (arith, e), omega (arith, e, up))
ends_held w line up (inr e) = (omega (arith, e, up), omega (arith, e))

pub placed_legal : (p : Placement) (pins : Pins) (wires : List Wire) (placed : List PlacedWire) (pieces : List Trunk) (tracks : ℕ) → ArePlaced p pins wires placed tracks → IsPermutation (map trunk_of placed) pieces → IsSorted trunk_cmp pieces → ArePiecesLegal p pins (routing_of pieces tracks)
placed_legal p pins wires placed pieces tracks d moved sorted = record {
  nets = λ net. (
    λ has.
        let w : Some' (λ (w : Wire). w.net ≡ net) wires = some_from_any (λ (w : Wire). w.net ≡ net) wires (d.wired.nets net has) in
        let t : Some' (λ (t : PlacedWire). t.wire ≡ w.it) placed = wire_placed wires placed d.all w.it w.there in
        any_at (λ (t : Trunk). t.net ≡ net) pieces (trunk_of t.it) (to t.it t.there) (subst (λ (z : Wire). z.net ≡ net) (sym t.holds) w.holds),
    λ any.
        let t : Some' (λ (t : Trunk). t.net ≡ net) pieces = some_from_any (λ (t : Trunk). t.net ≡ net) pieces any in
        subst (λ n. HasTrunk p pins n) t.holds (trunk_piece t.it t.there).trunk,
  );
  pieces = λ net l r. (
    λ piece.
        let w : Some' (IsBetween net l r) wires = some_from_any (IsBetween net l r) wires (d.wired.all net l r piece) in
        let t : Some' (λ (t : PlacedWire). t.wire ≡ w.it) placed = wire_placed wires placed d.all w.it w.there in
        any_at (GoesOver net l r) pieces (trunk_of t.it) (to t.it t.there) (goes net l r t.it w.it t.holds w.holds),
    λ any.
        let t : Some' (GoesOver net l r) pieces = some_from_any (GoesOver net l r) pieces any in
        subst (λ n. IsPiece p pins n l r) t.holds.of (subst (λ k. IsPiece p pins t.it.net k r) t.holds.begins (subst (λ k. IsPiece p pins t.it.net t.it.left k) t.holds.ends (trunk_piece t.it t.there))),
  );
  order = in_order p pins wires placed pieces d.is d.wired d.all moved sorted;
  apart = λ a b ha hb. apart a b (from a ha) (from b hb);
  above = λ a b ha hb line over. above a b line (from a ha) (from b hb) over;
  tracks = all_from_contains (λ (t : Trunk). t.track < tracks) pieces (λ t there. let of : Image trunk_of placed t = from t there in subst (λ (z : Trunk). z.track < tracks) of.is (d.on.low of.of of.listed));
  full = λ track below. let t : Some' (λ (t : PlacedWire). t.track ≡ track) placed = some_from_any (λ (t : PlacedWire). t.track ≡ track) placed (d.on.full track below) in any_at (λ (t : Trunk). t.track ≡ track) pieces (trunk_of t.it) (to t.it t.there) t.holds;
}
  where
    to : (t : PlacedWire) → Contains placed t → Contains pieces (trunk_of t)
    to t there = to_sorted placed pieces moved t there

    from : (t : Trunk) → Contains pieces t → Image trunk_of placed t
    from t there = from_sorted placed pieces moved t there

    at : (t : PlacedWire) → Contains placed t → Contains wires t.wire
    at t there = wire_there wires placed d.all t there

    placed_piece : (t : PlacedWire) → Contains placed t → IsPiece p pins t.wire.net t.wire.left t.wire.right
    placed_piece t there = piece_of p pins wires d.wired t.wire (at t there)

    trunk_piece : (t : Trunk) → Contains pieces t → IsPiece p pins t.net t.left t.right
    trunk_piece t there = let i : Image trunk_of placed t = from t there in subst (λ (z : Trunk). IsPiece p pins z.net z.left z.right) i.is (placed_piece i.of i.listed)

    goes : (net : NetNo) (l r : ℕ) (t : PlacedWire) (w : Wire) → t.wire ≡ w → IsBetween net l r w → GoesOver net l r (trunk_of t)
    goes net l r t w e b = record {
      of = subst (λ (z : Wire). z.net ≡ net) (sym e) b.of;
      begins = subst (λ (z : Wire). z.left ≡ l) (sym e) b.begins;
      ends = subst (λ (z : Wire). z.right ≡ r) (sym e) b.ends;
    }

    -- wires of different nets have different keys
    allows : (a b : PlacedWire) → Contains placed a → Contains placed b → a.wire.net ≢ b.wire.net → Allows (constraints_of wires p.nodes) a b
    allows a b ha hb differ = d.on.pairs a b ha hb (λ e. differ (ap (λ (w : Wire). w.net) (same_key p pins wires d.wired a.wire b.wire (at a ha) (at b hb) e)))

    apart : (a b : Trunk) → Image trunk_of placed a → Image trunk_of placed b → a.net ≢ b.net → a.track ≡ b.track → AreApart a b
    apart a b x y =
        subst (λ (u : Trunk). u.net ≢ b.net → u.track ≡ b.track → AreApart u b) x.is
        (subst (λ (v : Trunk). (trunk_of x.of).net ≢ v.net → (trunk_of x.of).track ≡ v.track → AreApart (trunk_of x.of) v) y.is (λ differ same. (allows x.of y.of x.listed y.listed differ).apart differ same))

    held : (t : PlacedWire) (line : ℕ) → Contains placed t → EndsAt (trunk_of t) line → Holds t.wire line
    held t line there e = ends_held t.wire line (ascends p pins t.wire.net t.wire.left t.wire.right (placed_piece t there)) e

    over : (a b : PlacedWire) (line : ℕ) → Contains placed a → Contains placed b → IsPieceAbove p pins (trunk_of a) (trunk_of b) line → b.track < a.track
    over a b line ha hb h = (allows a b ha hb h.over.differ).below (between line a.wire b.wire) (pair_there wires p.nodes a.wire b.wire line (at a ha) (at b hb) h.over.p h.over.n h.over.differ (held a line ha h.upper_ends) (held b line hb h.lower_ends)) refl refl

    above : (a b : Trunk) (line : ℕ) → Image trunk_of placed a → Image trunk_of placed b → IsPieceAbove p pins a b line → b.track < a.track
    above a b line x y =
        subst (λ (u : Trunk). IsPieceAbove p pins u b line → b.track < u.track) x.is
        (subst (λ (v : Trunk). IsPieceAbove p pins (trunk_of x.of) v line → v.track < (trunk_of x.of).track) y.is (λ h. over x.of y.of line x.listed y.listed h))
