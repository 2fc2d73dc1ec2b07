-- What the filled tracks are: a legal and tight routing of pieces.
use Rattle.std.proofs.Common.{ℕ, ◌≡◌, ◌≢◌, ◌+◌, ◌*◌, ◌<◌, ◌≤◌, ◌⊎◌, ◌++◌, ◌==◌, true, false, List, [], map, inl, inr, refl, sym, ap, subst, arith, Contains, IsPermutation, IsSorted, count_by, append-nil, get_or}
use Rattle.std.specs.Ordering.{is_lt}
use Rattle.std.proofs.lemmas.Bool.{cases_order, eq-eqb}
use Rattle.std.proofs.lemmas.List.Elements.{Contains-get_or}
use Rattle.std.proofs.lemmas.List.Sorted.{Contains-permutation, IsPermutation-sym}
use Rattle.cell_num.specs.declared.net.NetNo.{NetNo}
use Rattle.cell_num.specs.declared.net.Pins.{Pins}
use Rattle.cell_num.proofs.In.{Image, in_map, contains_map}
use Rattle.cell_num.proofs.Lists.{all_from_contains}
use Rattle.cell_num.proofs.Pairs.{Some', some_from_any, any_at, OneEach, one_each_permutation, pairs_from_sorted}
use Rattle.row_model.proofs.Decide.{net_decides}
use Rattle.row_place.specs.declared.placement.Placement.{Placement}
use Rattle.row_place.specs.Places.{IsPlacement}
use Rattle.row_place.specs.Trunks.{HasTrunk}
use Rattle.row_compact.proofs.Within.{few, net_line}
use Rattle.channel_route.specs.declared.routing.Trunk.{Trunk}
use Rattle.channel_route.specs.declared.wire.Wire.{Wire}
use Rattle.channel_route.specs.declared.wire.PlacedWire.{PlacedWire}
use Rattle.channel_route.specs.Routing.{AreApart}
use Rattle.channel_route.specs.Graph.{wire_of, trunk_of, IsBefore, IsFilled}
use Rattle.channel_route.specs.Turn.{IsOver}
use Rattle.channel_route.specs.Wires.{constraints_of, trunk_cmp}
use Rattle.channel_route.proofs.ConstraintsOf.{Holds}
use Rattle.channel_route.proofs.FilledTracks.{IsFull, IsFreeWire, count_map, placed_wire, wire_placed, above_at, not_lower}
use Rattle.channel_route.proofs.NetWires.{cmp_less}
use Rattle.dogleg_route.specs.declared.piece.PieceRouting.{PieceRouting}
use Rattle.dogleg_route.specs.Pieces.{IsPiece}
use Rattle.dogleg_route.specs.PieceWires.{IsBetween, ArePieceWires}
use Rattle.dogleg_route.specs.Routings.{GoesOver, EndsAt, IsPieceAbove, StandsEarlier, ArePiecesLegal, IsPieceEarlier, IsPieceFree, ArePiecesTight}
use Rattle.dogleg_route.proofs.Marks.{mark_place, ascends}
use Rattle.dogleg_route.proofs.Sorting.{cmp_same, one_each_from_pairs}
use Rattle.dogleg_route.proofs.PieceChannel.{IsWireAbove, piece_of, same_wire, key_less, channel, wire_above}

-- the tracks of the pieces of a placement, filled
pub record IsDone (p : Placement) (pins : Pins) (wires : List Wire) (placed : List PlacedWire) (pieces : List Trunk) (tracks : ℕ) : Type 0 where
  pub is : IsPlacement p
  pub wired : ArePieceWires p pins wires
  pub filled : IsFilled wires (constraints_of wires p.nodes) placed [] tracks
  pub moved : IsPermutation (map trunk_of placed) pieces
  pub sorted : IsSorted trunk_cmp pieces

abbrev pub routing_of : List Trunk → ℕ → PieceRouting
routing_of pieces tracks = record { tracks = tracks; pieces = pieces }

full_of : (p : Placement) (pins : Pins) (wires : List Wire) (placed : List PlacedWire) (pieces : List Trunk) (tracks : ℕ) → IsDone p pins wires placed pieces tracks → IsFull wires (constraints_of wires p.nodes) placed tracks
full_of p pins wires placed pieces tracks d = record { channel = channel p pins wires d.wired; filled = d.filled }

-- to and from the sorted list of pieces
pub to_sorted : (p : Placement) (pins : Pins) (wires : List Wire) (placed : List PlacedWire) (pieces : List Trunk) (tracks : ℕ) → IsDone p pins wires placed pieces tracks → (t : PlacedWire) → Contains placed t → Contains pieces (trunk_of t)
to_sorted p pins wires placed pieces tracks d t there = Contains-permutation (map trunk_of placed) pieces (trunk_of t) d.moved (contains_map trunk_of placed t there)

pub from_sorted : (p : Placement) (pins : Pins) (wires : List Wire) (placed : List PlacedWire) (pieces : List Trunk) (tracks : ℕ) → IsDone p pins wires placed pieces tracks → (t : Trunk) → Contains pieces t → Image trunk_of placed t
from_sorted p pins wires placed pieces tracks d t there = in_map trunk_of placed t (Contains-permutation pieces (map trunk_of placed) t (IsPermutation-sym (map trunk_of placed) pieces d.moved) there)

wire_there : (p : Placement) (pins : Pins) (wires : List Wire) (placed : List PlacedWire) (pieces : List Trunk) (tracks : ℕ) → IsDone p pins wires placed pieces tracks → (t : PlacedWire) → Contains placed t → Contains wires t.wire
wire_there p pins wires placed pieces tracks d t there = placed_wire wires (constraints_of wires p.nodes) placed tracks (full_of p pins wires placed pieces tracks d) t there

placed_piece : (p : Placement) (pins : Pins) (wires : List Wire) (placed : List PlacedWire) (pieces : List Trunk) (tracks : ℕ) → IsDone p pins wires placed pieces tracks → (t : PlacedWire) → Contains placed t → IsPiece p pins t.wire.net t.wire.left t.wire.right
placed_piece p pins wires placed pieces tracks d t there = piece_of p pins wires d.wired t.wire (wire_there p pins wires placed pieces tracks d t there)

trunk_piece : (p : Placement) (pins : Pins) (wires : List Wire) (placed : List PlacedWire) (pieces : List Trunk) (tracks : ℕ) → IsDone p pins wires placed pieces tracks → (t : Trunk) → Contains pieces t → IsPiece p pins t.net t.left t.right
trunk_piece p pins wires placed pieces tracks d t there =
    let of : Image trunk_of placed t = from_sorted p pins wires placed pieces tracks d t there in
    subst (λ (z : Trunk). IsPiece p pins z.net z.left z.right) of.is (placed_piece p pins wires placed pieces tracks d of.of of.listed)

-- a number for each net and first line
abbrev name : Trunk → ℕ
name t = 1000 * t.net.0 + t.left

abbrev wire_name : Wire → ℕ
wire_name w = 1000 * w.net.0 + w.left

net_same : (a b : NetNo) → a.0 ≡ b.0 → a ≡ b
net_same a b e = (net_decides a b).0 (eq-eqb a.0 b.0 e)

names_differ : (p : Placement) (pins : Pins) (wires : List Wire) → IsPlacement p → ArePieceWires p pins wires → (a b : Wire) → Contains wires a → Contains wires b → a.key < b.key → wire_name a ≢ wire_name b
names_differ p pins wires is h a b ha hb less e =
    let e' : a.key ≡ b.key = ap (λ (w : Wire). w.key) (same_wire p pins wires h a b ha hb (net_same a.net b.net (omega (arith, e, low a ha, low b hb))) (omega (arith, e, low a ha, low b hb))) in
    omega (arith, e', less)
  where
    low : (w : Wire) → Contains wires w → w.left < 1000
    low w there = omega (arith, net_line p is w.net w.left (mark_place p w.net w.left (piece_of p pins wires h w there).begins), few p is)

one_each_sorted : (p : Placement) (pins : Pins) (wires : List Wire) (placed : List PlacedWire) (pieces : List Trunk) (tracks : ℕ) → IsDone p pins wires placed pieces tracks → OneEach name pieces
one_each_sorted p pins wires placed pieces tracks d = one_each_permutation name (map trunk_of placed) pieces d.moved (λ n. omega (arith, mapped n, count_map wire_of (λ (w : Wire). wire_name w == n) placed, count_map trunk_of (λ (t : Trunk). name t == n) placed))
  where
    one : OneEach wire_name wires
    one = one_each_from_pairs wire_name wires (λ i j e less short. names_differ p pins wires d.is d.wired (get_or wires i e) (get_or wires j e) (Contains-get_or wires i e (omega (arith, less, short))) (Contains-get_or wires j e short) (d.wired.order i j e less short).keys)

    mapped : (n : ℕ) → count_by (λ (w : Wire). wire_name w == n) (map wire_of placed) ≤ 1
    mapped n = subst (λ ws. count_by (λ (w : Wire). wire_name w == n) ws ≤ 1) (append-nil (map wire_of placed)) (one_each_permutation wire_name wires (map wire_of placed ++ []) d.filled.part.all one n)

earlier_trans : (a b c : Trunk) → StandsEarlier a b → StandsEarlier b c → StandsEarlier a c
earlier_trans a b c (inl e) (inl f) = inl (omega (arith, e, f))
earlier_trans a b c (inl e) (inr (f, _)) = inl (omega (arith, e, ap (λ (n : NetNo). n.0) f))
earlier_trans a b c (inr (e, _)) (inl f) = inl (omega (arith, f, ap (λ (n : NetNo). n.0) e))
earlier_trans a b c (inr (e, m)) (inr (f, n)) = inr (subst (λ z. a.net ≡ z) f e, omega (arith, m, n))

earlier_from_cmp : (a b : Trunk) → is_lt (trunk_cmp b a) ≡ false → name a ≢ name b → StandsEarlier a b
earlier_from_cmp a b e names = net (cases_order a.net.0 b.net.0)
  where
    wrong_net : b.net.0 < a.net.0 → ⊥
    wrong_net h = let lt : is_lt (trunk_cmp b a) ≡ true = rw (cmp_less b.net.0 a.net.0 h) refl in cc

    wrong_left : a.net.0 ≡ b.net.0 → b.left < a.left → ⊥
    wrong_left same h = let lt : is_lt (trunk_cmp b a) ≡ true = rw (cmp_same b.net.0 a.net.0 (sym same)) (rw (cmp_less b.left a.left h) refl) in cc

    left : a.net.0 ≡ b.net.0 → (a.left ≡ b.left) ⊎ ((a.left < b.left) ⊎ (b.left < a.left)) → StandsEarlier a b
    left same (inl one) = absurd (names (omega (arith, same, one)))
    left same (inr (inl less)) = inr (net_same a.net b.net same, less)
    left same (inr (inr more)) = absurd (wrong_left same more)

    net : (a.net.0 ≡ b.net.0) ⊎ ((a.net.0 < b.net.0) ⊎ (b.net.0 < a.net.0)) → StandsEarlier a b
    net (inl same) = left same (cases_order a.left b.left)
    net (inr (inl less)) = inl less
    net (inr (inr more)) = absurd (wrong_net more)

ends_held : (w : Wire) (line : ℕ) → w.left ≤ w.right → (w.left ≡ line) ⊎ (w.right ≡ line) → Holds w line
ends_held w line up (inl e) = (omega (arith, e), omega (arith, e, up))
ends_held w line up (inr e) = (omega (arith, e, up), omega (arith, e))

pub legal : (p : Placement) (pins : Pins) (wires : List Wire) (placed : List PlacedWire) (pieces : List Trunk) (tracks : ℕ) → IsDone p pins wires placed pieces tracks → ArePiecesLegal p pins (routing_of pieces tracks)
legal p pins wires placed pieces tracks d = record {
  nets = λ net. (
    λ has.
        let w : Some' (λ (w : Wire). w.net ≡ net) wires = some_from_any (λ (w : Wire). w.net ≡ net) wires (d.wired.nets net has) in
        let t : Some' (λ (t : PlacedWire). t.wire ≡ w.it) placed = on_track w.it w.there in
        any_at (λ (t : Trunk). t.net ≡ net) pieces (trunk_of t.it) (to t.it t.there) (subst (λ (z : Wire). z.net ≡ net) (sym t.holds) w.holds),
    λ any.
        let t : Some' (λ (t : Trunk). t.net ≡ net) pieces = some_from_any (λ (t : Trunk). t.net ≡ net) pieces any in
        subst (λ n. HasTrunk p pins n) t.holds (trunk_piece p pins wires placed pieces tracks d t.it t.there).trunk,
  );
  pieces = λ net l r. (
    λ piece.
        let w : Some' (IsBetween net l r) wires = some_from_any (IsBetween net l r) wires (d.wired.all net l r piece) in
        let t : Some' (λ (t : PlacedWire). t.wire ≡ w.it) placed = on_track w.it w.there in
        any_at (GoesOver net l r) pieces (trunk_of t.it) (to t.it t.there) (goes net l r t.it w.it t.holds w.holds),
    λ any.
        let t : Some' (GoesOver net l r) pieces = some_from_any (GoesOver net l r) pieces any in
        subst (λ n. IsPiece p pins n l r) t.holds.of (subst (λ k. IsPiece p pins t.it.net k r) t.holds.begins (subst (λ k. IsPiece p pins t.it.net t.it.left k) t.holds.ends (trunk_piece p pins wires placed pieces tracks d t.it t.there))),
  );
  order = pairs_from_sorted (λ a b. is_lt (trunk_cmp a b)) name StandsEarlier earlier_trans earlier_from_cmp pieces d.sorted (one_each_sorted p pins wires placed pieces tracks d);
  apart = λ a b ha hb. apart a b (from a ha) (from b hb);
  above = λ a b ha hb line over. above a b line (from a ha) (from b hb) over;
  tracks = all_from_contains (λ (t : Trunk). t.track < tracks) pieces (λ t there. let of : Image trunk_of placed t = from t there in subst (λ (z : Trunk). z.track < tracks) of.is (d.filled.low of.of of.listed));
  full = λ track below. let t : Some' (λ (t : PlacedWire). t.track ≡ track) placed = some_from_any (λ (t : PlacedWire). t.track ≡ track) placed (d.filled.part.full track below) in any_at (λ (t : Trunk). t.track ≡ track) pieces (trunk_of t.it) (to t.it t.there) t.holds;
}
  where
    full : IsFull wires (constraints_of wires p.nodes) placed tracks
    full = full_of p pins wires placed pieces tracks d

    on_track : (w : Wire) → Contains wires w → Some' (λ (t : PlacedWire). t.wire ≡ w) placed
    on_track w there = wire_placed wires (constraints_of wires p.nodes) placed tracks full w there

    to : (t : PlacedWire) → Contains placed t → Contains pieces (trunk_of t)
    to t there = to_sorted p pins wires placed pieces tracks d t there

    from : (t : Trunk) → Contains pieces t → Image trunk_of placed t
    from t there = from_sorted p pins wires placed pieces tracks d t there

    goes : (net : NetNo) (l r : ℕ) (t : PlacedWire) (w : Wire) → t.wire ≡ w → IsBetween net l r w → GoesOver net l r (trunk_of t)
    goes net l r t w e b = record {
      of = subst (λ (z : Wire). z.net ≡ net) (sym e) b.of;
      begins = subst (λ (z : Wire). z.left ≡ l) (sym e) b.begins;
      ends = subst (λ (z : Wire). z.right ≡ r) (sym e) b.ends;
    }

    apart : (a b : Trunk) → Image trunk_of placed a → Image trunk_of placed b → a.net ≢ b.net → a.track ≡ b.track → AreApart a b
    apart a b x y =
        subst (λ (u : Trunk). u.net ≢ b.net → u.track ≡ b.track → AreApart u b) x.is
        (subst (λ (v : Trunk). (trunk_of x.of).net ≢ v.net → (trunk_of x.of).track ≡ v.track → AreApart (trunk_of x.of) v) y.is (λ differ same. d.filled.part.apart x.of y.of x.listed y.listed differ same))

    held : (t : PlacedWire) (line : ℕ) → Contains placed t → EndsAt (trunk_of t) line → Holds t.wire line
    held t line there e = ends_held t.wire line (ascends p pins t.wire.net t.wire.left t.wire.right (placed_piece p pins wires placed pieces tracks d t there)) e

    above : (a b : Trunk) (line : ℕ) → Image trunk_of placed a → Image trunk_of placed b → IsPieceAbove p pins a b line → b.track < a.track
    above a b line x y =
        subst (λ (u : Trunk). IsPieceAbove p pins u b line → b.track < u.track) x.is
        (subst (λ (v : Trunk). IsPieceAbove p pins (trunk_of x.of) v line → v.track < (trunk_of x.of).track) y.is
        (λ h. above_at wires p.nodes placed tracks full x.of y.of x.listed y.listed line h.over.p h.over.n h.over.differ (held x.of line x.listed h.upper_ends) (held y.of line y.listed h.lower_ends)))

-- a piece that comes earlier as a wire comes earlier
earlier_of : (p : Placement) (pins : Pins) (wires : List Wire) → ArePieceWires p pins wires → (a b : PlacedWire) → Contains wires a.wire → Contains wires b.wire → IsBefore a.wire b.wire → IsPieceEarlier (trunk_of a) (trunk_of b)
earlier_of p pins wires h a b ha hb (inl less) = inl less
earlier_of p pins wires h a b ha hb (inr (same, less)) = (key_less p pins wires h a.wire b.wire ha hb less).lines

pub tight : (p : Placement) (pins : Pins) (wires : List Wire) (placed : List PlacedWire) (pieces : List Trunk) (tracks : ℕ) → IsDone p pins wires placed pieces tracks → ArePiecesTight p pins (routing_of pieces tracks)
tight p pins wires placed pieces tracks d t there = (
  record {
    above = λ b hb line over. l.above t b there hb line over;
    clear = λ o ho same other early. l.apart o t ho there other same;
  },
  λ track below free. lowest (from_sorted p pins wires placed pieces tracks d t there) track below free,
)
  where
    l : ArePiecesLegal p pins (routing_of pieces tracks)
    l = legal p pins wires placed pieces tracks d

    at : (x : PlacedWire) → Contains placed x → Contains wires x.wire
    at x hx = wire_there p pins wires placed pieces tracks d x hx

    piece_above : (a b : PlacedWire) → Contains placed a → Contains placed b → (line : ℕ) → IsOver (constraints_of wires p.nodes) a.wire.key b.wire.key line → IsPieceAbove p pins (trunk_of a) (trunk_of b) line
    piece_above a b ha hb line over =
        let w : IsWireAbove p pins a.wire b.wire line = wire_above p pins wires d.wired a.wire b.wire (at a ha) (at b hb) line over in
        record { over = w.over; upper_ends = w.upper_ends; lower_ends = w.lower_ends }

    free_of : (x : Image trunk_of placed t) (track : ℕ) → IsPieceFree p pins pieces (trunk_of x.of) track → IsFreeWire (constraints_of wires p.nodes) placed x.of track
    free_of x track f = record {
      above = λ b hb line over. f.above (trunk_of b) (to_sorted p pins wires placed pieces tracks d b hb) line (piece_above x.of b x.listed hb line over);
      clear = λ o ho same before other. f.clear (trunk_of o) (to_sorted p pins wires placed pieces tracks d o ho) same other (earlier_of p pins wires d.wired o x.of (at o ho) (at x.of x.listed) before);
    }

    lowest : Image trunk_of placed t → (track : ℕ) → track < t.track → IsPieceFree p pins pieces t track → ⊥
    lowest x track below free =
        not_lower wires (constraints_of wires p.nodes) placed tracks (full_of p pins wires placed pieces tracks d) x.of x.listed track (subst (λ (z : Trunk). track < z.track) (sym x.is) below)
        (free_of x track (subst (λ (z : Trunk). IsPieceFree p pins pieces z track) (sym x.is) free))
