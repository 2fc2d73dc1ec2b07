-- Cycles of pieces: none where a routing is legal, one where wires are left.
use Rattle.std.proofs.Common.{ℕ, ◌≡◌, ◌≢◌, ◌<◌, ◌⊎◌, List, [], ◌∷◌, map, length, inl, inr, sym, ap, subst, arith, All, Contains}
use Rattle.std.proofs.lemmas.Bool.{cases_eq}
use Rattle.std.proofs.lemmas.List.Elements.{All-contains, All-head, All-tail}
use Rattle.cell_num.specs.declared.net.NetNo.{NetNo}
use Rattle.cell_num.specs.declared.net.Pins.{Pins}
use Rattle.cell_num.proofs.In.{Image, in_map}
use Rattle.cell_num.proofs.Lists.{all_imply, all_from_contains}
use Rattle.cell_num.proofs.Pairs.{Some', pairs_map}
use Rattle.row_place.specs.declared.placement.Placement.{Placement}
use Rattle.row_place.specs.Trunks.{IsAbove}
use Rattle.channel_route.specs.declared.cycle.Step.{Step}
use Rattle.channel_route.specs.declared.routing.Trunk.{Trunk}
use Rattle.channel_route.specs.declared.routing.WireAbove.{WireAbove}
use Rattle.channel_route.specs.declared.wire.Wire.{Wire}
use Rattle.channel_route.specs.declared.wire.PlacedWire.{PlacedWire}
use Rattle.channel_route.specs.Turn.{steps, IsDown}
use Rattle.channel_route.specs.Walk.{IsWalk, IsCycleFrom, IsKeyCycleBelow}
use Rattle.channel_route.specs.Wires.{constraints_of}
use Rattle.channel_route.proofs.StuckKeys.{AreLeft, left_wire}
use Rattle.dogleg_route.specs.declared.piece.PieceRouting.{PieceRouting}
use Rattle.dogleg_route.specs.Cuts.{entry_of}
use Rattle.dogleg_route.specs.PieceCycles.{GoesDown, next_entry, IsWalkDown, IsRound, IsPieceCycle, IsEntryEarlier, BeginsFirst, HasNoPieceCycle}
use Rattle.dogleg_route.specs.Pieces.{IsPiece}
use Rattle.dogleg_route.specs.PieceWires.{ArePieceWires}
use Rattle.dogleg_route.specs.Routings.{GoesOver, ArePiecesLegal}
use Rattle.dogleg_route.proofs.Marks.{one_right}
use Rattle.dogleg_route.proofs.PieceChannel.{IsWireAbove, piece_of, same_wire, key_less, wire_above}
use Rattle.dogleg_route.proofs.Wired.{is_piece, listed}

-- ---- along a walk the tracks fall
record IsAt (r : PieceRouting) (t : Trunk) (e : WireAbove) : Type 0 where
  there : Contains r.pieces t
  net : t.net ≡ e.net
  left : t.left ≡ e.left

right_is : (p : Placement) (pins : Pins) (r : PieceRouting) → ArePiecesLegal p pins r → (t : Trunk) (e : WireAbove) (right : ℕ) → IsAt r t e → IsPiece p pins e.net e.left right → t.right ≡ right
right_is p pins r l t e right x piece =
    one_right p pins e.net e.left t.right right (subst (λ k. IsPiece p pins e.net k t.right) x.left (subst (λ n. IsPiece p pins n t.left t.right) x.net (is_piece p pins r l t x.there))) piece

ends_too : (a b c d line : ℕ) → a ≡ c → b ≡ d → (c ≡ line) ⊎ (d ≡ line) → (a ≡ line) ⊎ (b ≡ line)
ends_too a b c d line e f (inl h) = inl (omega (arith, e, h))
ends_too a b c d line e f (inr h) = inr (omega (arith, f, h))

down : (p : Placement) (pins : Pins) (r : PieceRouting) → ArePiecesLegal p pins r → (a b : WireAbove) (t u : Trunk) → GoesDown p pins a b → IsAt r t a → IsAt r u b → u.track < t.track
down p pins r l a b t u g x y = l.above t u x.there y.there a.line (record {
  over = subst (λ n. IsAbove p pins n u.net a.line) (sym x.net) (subst (λ n. IsAbove p pins a.net n a.line) (sym y.net) g.over);
  upper_ends = ends_too t.left t.right a.left g.upper_right a.line x.left (right_is p pins r l t a g.upper_right x g.upper) g.upper_ends;
  lower_ends = ends_too u.left u.right b.left g.lower_right a.line y.left (right_is p pins r l u b g.lower_right y g.lower) g.lower_ends;
})

record Entry (r : PieceRouting) (e : WireAbove) : Type 0 where
  it : Trunk
  is : IsAt r it e

entry : (p : Placement) (pins : Pins) (r : PieceRouting) → ArePiecesLegal p pins r → (e : WireAbove) (right : ℕ) → IsPiece p pins e.net e.left right → Entry r e
entry p pins r l e right piece =
    let t : Some' (GoesOver e.net e.left right) r.pieces = listed p pins r l e.net e.left right piece in
    record { it = t.it; is = record { there = t.there; net = t.holds.of; left = t.holds.begins } }

falls : (p : Placement) (pins : Pins) (r : PieceRouting) → ArePiecesLegal p pins r → (walk : List WireAbove) (back : WireAbove) (t b : Trunk) → 0 < length walk → IsWalkDown p pins walk back → IsAt r t (next_entry walk back) → IsAt r b back → b.track < t.track
falls p pins r l [] back t b some h x y = absurd (omega (arith, some))
falls p pins r l (a ∷ []) back t b some h x y = down p pins r l a back t b h.0 x y
falls p pins r l (a ∷ c ∷ more) back t b some h x y =
    let u : Entry r c = entry p pins r l c h.0.lower_right h.0.lower in
    let first : u.it.track < t.track = down p pins r l a c t u.it h.0 x u.is in
    let rest : b.track < u.it.track = falls p pins r l (c ∷ more) back u.it b (omega arith) h.1 u.is y in
    omega (arith, first, rest)

pub acyclic : (p : Placement) (pins : Pins) (r : PieceRouting) → ArePiecesLegal p pins r → HasNoPieceCycle p pins
acyclic p pins r l [] c = c
acyclic p pins r l (first ∷ rest) c =
    let t : Entry r first = entry p pins r l first c.above.0.upper_right c.above.0.upper in
    let wrong : t.it.track < t.it.track = falls p pins r l (first ∷ rest) first t.it t.it (omega arith) c.above t.is t.is in
    omega (arith, wrong)

-- ---- a walk down along constraints is one over pieces
pub goes : (p : Placement) (pins : Pins) (wires left : List Wire) → ArePieceWires p pins wires → (a b : Step) → Contains wires a.wire → Contains wires b.wire → IsDown left (constraints_of wires p.nodes) a.wire.key b.wire.key a.line → GoesDown p pins (entry_of a) (entry_of b)
goes p pins wires left h a b ha hb d =
    let w : IsWireAbove p pins a.wire b.wire a.line = wire_above p pins wires h a.wire b.wire ha hb a.line d.over in
    record {
      upper_right = a.wire.right;
      upper = piece_of p pins wires h a.wire ha;
      upper_ends = w.upper_ends;
      lower_right = b.wire.right;
      lower = piece_of p pins wires h b.wire hb;
      lower_ends = w.lower_ends;
      over = w.over;
    }

walk_entries : (p : Placement) (pins : Pins) (wires left : List Wire) → ArePieceWires p pins wires → (walk : List Step) (back : Step) → All (λ (s : Step). Contains wires s.wire) walk → Contains wires back.wire → IsWalk steps (IsDown left (constraints_of wires p.nodes)) walk back.wire.key → IsWalkDown p pins (map entry_of walk) (entry_of back)
walk_entries p pins wires left h [] back inside there d = tt
walk_entries p pins wires left h (a ∷ []) back inside there d = (goes p pins wires left h a back (All-head (λ (s : Step). Contains wires s.wire) a [] inside) there d.0, tt)
walk_entries p pins wires left h (a ∷ b ∷ more) back inside there d =
    let rest : All (λ (s : Step). Contains wires s.wire) (b ∷ more) = All-tail (λ (s : Step). Contains wires s.wire) a (b ∷ more) inside in
    (goes p pins wires left h a b (All-head (λ (s : Step). Contains wires s.wire) a (b ∷ more) inside) (All-head (λ (s : Step). Contains wires s.wire) b more rest) d.0, walk_entries p pins wires left h (b ∷ more) back rest there d.1)

some_left : (rest : List Step) → 0 < length rest → 0 < length (map entry_of rest)
some_left [] h = absurd (omega (arith, h))
some_left (a ∷ more) h = omega arith

round : (p : Placement) (pins : Pins) (wires left : List Wire) → ArePieceWires p pins wires → (first : Step) (rest : List Step) → All (λ (s : Step). Contains wires s.wire) (first ∷ rest) → IsCycleFrom steps (IsDown left (constraints_of wires p.nodes)) first rest → IsRound p pins (entry_of first) (map entry_of rest)
round p pins wires left h first rest inside c = record {
  two = some_left rest c.two;
  differ = pairs_map (λ (a b : Step). a.wire.key ≢ b.wire.key) (λ (s : Step). Contains wires s.wire) (λ (a b : WireAbove). (a.net ≢ b.net) ⊎ (a.left ≢ b.left)) entry_of (first ∷ rest) differ inside c.differ;
  above = walk_entries p pins wires left h (first ∷ rest) first inside (All-head (λ (s : Step). Contains wires s.wire) first rest inside) c.above;
}
  where
    net_is : (a b : NetNo) → a.0 ≡ b.0 → a ≡ b
    net_is a b e = ap (λ n. let net : NetNo = record { 0 = n } in net) e

    differ : (x y : Step) → Contains wires x.wire → Contains wires y.wire → x.wire.key ≢ y.wire.key → (x.wire.net ≢ y.wire.net) ⊎ (x.wire.left ≢ y.wire.left)
    differ x y hx hy keys =
        elim (cases_eq x.wire.net.0 y.wire.net.0) [
          | inr other ↦ inl (λ e. other (ap (λ (n : NetNo). n.0) e))
          | inl net ↦ elim (cases_eq x.wire.left y.wire.left) [
            | inr other ↦ inr other
            | inl lines ↦ absurd (keys (ap (λ (w : Wire). w.key) (same_wire p pins wires h x.wire y.wire hx hy (net_is x.wire.net y.wire.net net) lines)))
          ]
        ]

-- the entry of the least key comes first
begins_first : (p : Placement) (pins : Pins) (wires : List Wire) → ArePieceWires p pins wires → (first : Step) (rest : List Step) → Contains wires first.wire → All (λ (s : Step). Contains wires s.wire) rest → All (λ (a : Step). first.wire.key < a.wire.key) rest → All (IsEntryEarlier p pins (entry_of first)) (map entry_of rest)
begins_first p pins wires h first rest there inside least =
    all_from_contains (IsEntryEarlier p pins (entry_of first)) (map entry_of rest) (λ e listed. let i : Image entry_of rest e = in_map entry_of rest e listed in subst (λ z. IsEntryEarlier p pins (entry_of first) z) i.is (earlier i.of (All-contains (λ (s : Step). Contains wires s.wire) rest i.of inside i.listed) (All-contains (λ (a : Step). first.wire.key < a.wire.key) rest i.of least i.listed)))
  where
    earlier : (a : Step) → Contains wires a.wire → first.wire.key < a.wire.key → IsEntryEarlier p pins (entry_of first) (entry_of a)
    earlier a ha less = record {
      right = first.wire.right;
      piece = piece_of p pins wires h first.wire there;
      other_right = a.wire.right;
      other = piece_of p pins wires h a.wire ha;
      earlier = (key_less p pins wires h first.wire a.wire there ha less).lines;
    }

pub cycle_is : (p : Placement) (pins : Pins) (wires left : List Wire) (placed : List PlacedWire) (tracks : ℕ) → ArePieceWires p pins wires → AreLeft wires left (constraints_of wires p.nodes) placed tracks → (start : ℕ) (cycle : List Step) → IsKeyCycleBelow steps (IsDown left (constraints_of wires p.nodes)) start cycle → All (λ (s : Step). Contains left s.wire) cycle → IsPieceCycle p pins (map entry_of cycle) × BeginsFirst p pins (map entry_of cycle)
cycle_is p pins wires left placed tracks h are start [] c inside = absurd c
cycle_is p pins wires left placed tracks h are start (first ∷ rest) c inside = (
  round p pins wires left h first rest all c.0,
  begins_first p pins wires h first rest (All-head (λ (s : Step). Contains wires s.wire) first rest all) (All-tail (λ (s : Step). Contains wires s.wire) first rest all) c.0.least,
)
  where
    all : All (λ (s : Step). Contains wires s.wire) (first ∷ rest)
    all = all_imply (λ (s : Step). Contains left s.wire) (λ (s : Step). Contains wires s.wire) (first ∷ rest) (λ s there. left_wire wires left (constraints_of wires p.nodes) placed tracks are s.wire there) inside
