-- The wires of the pieces that can not be placed.
use Rattle.std.proofs.Common.{ℕ, ◌≡◌, ◌≤◌, ◌⊎◌, ◌==◌, ◌&&◌, Bool, true, List, inl, inr, refl, sym, subst, arith, Contains}
use Rattle.std.specs.List.{list_any}
use Rattle.std.proofs.lemmas.Bool.{and_parts, and_from, eqb-true, eq-eqb}
use Rattle.cell_num.specs.declared.net.NetNo.{NetNo}
use Rattle.cell_num.specs.declared.net.Pins.{Pins}
use Rattle.cell_num.proofs.Pairs.{Some', some_from_any, test_finds, test_there}
use Rattle.row_model.proofs.Decide.{net_decides}
use Rattle.row_place.specs.declared.placement.Placement.{Placement}
use Rattle.row_place.specs.Trunks.{IsAbove}
use Rattle.channel_route.specs.declared.constraint.Constraint.{Constraint}
use Rattle.channel_route.specs.declared.routing.WireAbove.{WireAbove}
use Rattle.channel_route.specs.declared.wire.Wire.{Wire}
use Rattle.channel_route.specs.Turn.{IsOver}
use Rattle.channel_route.specs.Wires.{constraints_of}
use Rattle.channel_route.proofs.ConstraintsOf.{IsPairOver, pair_is, pair_there}
use Rattle.channel_route.proofs.StuckKeys.{IsStuckKey}
use Rattle.dogleg_route.specs.PieceCycles.{GoesDown}
use Rattle.dogleg_route.specs.Pieces.{IsPiece}
use Rattle.dogleg_route.specs.PieceTold.{entry_at, IsStuckPiece}
use Rattle.dogleg_route.specs.PieceWires.{IsBetween, ArePieceWires}
use Rattle.dogleg_route.proofs.Marks.{ascends, one_right}
use Rattle.dogleg_route.proofs.PieceChannel.{IsWireAbove, piece_of, same_key, pair_above}

-- the wires of a constraint, as pieces
pub record IsPairDown (p : Placement) (pins : Pins) (wires : List Wire) (upper lower line : ℕ) : Type 0 where
  pub over : Wire
  pub over_there : Contains wires over
  pub over_key : over.key ≡ upper
  pub under : Wire
  pub under_there : Contains wires under
  pub under_key : under.key ≡ lower
  pub above : IsWireAbove p pins over under line

pub pair_down : (p : Placement) (pins : Pins) (wires : List Wire) → ArePieceWires p pins wires → (upper lower line : ℕ) → IsOver (constraints_of wires p.nodes) upper lower line → IsPairDown p pins wires upper lower line
pair_down p pins wires h upper lower line there =
    let c : Constraint = record { upper = upper; lower = lower; line = line } in
    let pair : IsPairOver wires p.nodes c = pair_is wires p.nodes c there in
    record { over = pair.upper; over_there = pair.upper_there; over_key = pair.upper_key; under = pair.lower; under_there = pair.lower_there; under_key = pair.lower_key; above = pair_above p pins wires h c pair }

down_of : (p : Placement) (pins : Pins) (wires : List Wire) → ArePieceWires p pins wires → (u l : Wire) → Contains wires u → Contains wires l → (line below : ℕ) → IsWireAbove p pins u l line → GoesDown p pins (entry_at u.net u.left line) (entry_at l.net l.left below)
down_of p pins wires h u l hu hl line below w = record {
  upper_right = u.right;
  upper = piece_of p pins wires h u hu;
  upper_ends = w.upper_ends;
  lower_right = l.right;
  lower = piece_of p pins wires h l hl;
  lower_ends = w.lower_ends;
  over = w.over;
}

held : (l r line : ℕ) → l ≤ r → (l ≡ line) ⊎ (r ≡ line) → (l ≤ line) × (line ≤ r)
held l r line up (inl e) = (omega (arith, e), omega (arith, e, up))
held l r line up (inr e) = (omega (arith, e, up), omega (arith, e))

-- the wire of a piece
wire_of : (p : Placement) (pins : Pins) (wires : List Wire) → ArePieceWires p pins wires → (net : NetNo) (left right : ℕ) → IsPiece p pins net left right → Some' (IsBetween net left right) wires
wire_of p pins wires h net left right piece = some_from_any (IsBetween net left right) wires (h.all net left right piece)

-- a piece above another is a constraint between their wires
pub over_of : (p : Placement) (pins : Pins) (wires : List Wire) → ArePieceWires p pins wires → (u l : Wire) → Contains wires u → Contains wires l → (line : ℕ) (lower : WireAbove) (g : GoesDown p pins (entry_at u.net u.left line) lower) → IsBetween lower.net lower.left g.lower_right l → IsOver (constraints_of wires p.nodes) u.key l.key line
over_of p pins wires h u l hu hl line lower g is =
    let right : u.right ≡ g.upper_right = one_right p pins u.net u.left u.right g.upper_right (piece_of p pins wires h u hu) g.upper in
    let over : IsAbove p pins u.net l.net line = subst (λ n. IsAbove p pins u.net n line) (sym is.of) g.over in
    pair_there wires p.nodes u l line hu hl over.p over.n over.differ
    (held u.left u.right line (ascends p pins u.net u.left u.right (piece_of p pins wires h u hu)) (subst (λ r. (u.left ≡ line) ⊎ (r ≡ line)) (sym right) g.upper_ends))
    (held l.left l.right line (ascends p pins l.net l.left l.right (piece_of p pins wires h l hl)) (subst (λ k. (k ≡ line) ⊎ (l.right ≡ line)) (sym is.begins) (subst (λ r. (lower.left ≡ line) ⊎ (r ≡ line)) (sym is.ends) g.lower_ends)))

abbrev names : NetNo → ℕ → (ℕ → Bool) → Wire → Bool
names n l set v = ((v.net.0 == n.0) && (v.left == l)) && set v.key

names_from : (set : ℕ → Bool) (v : Wire) → set v.key ≡ true → names v.net v.left set v ≡ true
names_from set v inside = and_from _ _ (and_from _ _ (eq-eqb v.net.0 v.net.0 refl) (eq-eqb v.left v.left refl)) inside

names_parts : (n : NetNo) (l : ℕ) (set : ℕ → Bool) (v : Wire) → names n l set v ≡ true → (v.net ≡ n) × (v.left ≡ l) × (set v.key ≡ true)
names_parts n l set v e =
    let a : (((v.net.0 == n.0) && (v.left == l)) ≡ true) × (set v.key ≡ true) = and_parts _ _ e in
    let b : ((v.net.0 == n.0) ≡ true) × ((v.left == l) ≡ true) = and_parts _ _ a.0 in
    ((net_decides v.net n).0 b.0, eqb-true v.left l b.1, a.1)

pub stuck_piece : (p : Placement) (pins : Pins) (wires : List Wire) → ArePieceWires p pins wires → (w : Wire) → Contains wires w → IsStuckKey (constraints_of wires p.nodes) w.key → IsStuckPiece p pins w.net w.left
stuck_piece p pins wires h w there s = record { set = λ n l. list_any (names n l s.set) wires; there = test_there (names w.net w.left s.set) wires w there (names_from s.set w s.there); each = each }
  where
    from : (v : Wire) → Contains wires v → s.set v.key ≡ true → (line : ℕ) × (lower : WireAbove) × GoesDown p pins (entry_at v.net v.left line) lower × (list_any (names lower.net lower.left s.set) wires ≡ true)
    from v hv inside =
        let (lower, line, over, also) = s.each v.key inside in
        let d : IsPairDown p pins wires v.key lower line = pair_down p pins wires h v.key lower line over in
        let one : d.over ≡ v = same_key p pins wires h d.over v d.over_there hv d.over_key in
        let above : IsWireAbove p pins v d.under line = subst (λ z. IsWireAbove p pins z d.under line) one d.above in
        (line, entry_at d.under.net d.under.left 0, down_of p pins wires h v d.under hv d.under_there line 0 above, test_there (names d.under.net d.under.left s.set) wires d.under d.under_there (names_from s.set d.under (subst (λ k. s.set k ≡ true) (sym d.under_key) also)))

    each : (n : NetNo) (l : ℕ) → list_any (names n l s.set) wires ≡ true → (line : ℕ) × (lower : WireAbove) × GoesDown p pins (entry_at n l line) lower × (list_any (names lower.net lower.left s.set) wires ≡ true)
    each n l e =
        let v : Some' (λ (v : Wire). names n l s.set v ≡ true) wires = test_finds (names n l s.set) wires e in
        let parts = names_parts n l s.set v.it v.holds in
        subst (λ m. (line : ℕ) × (lower : WireAbove) × GoesDown p pins (entry_at m l line) lower × (list_any (names lower.net lower.left s.set) wires ≡ true)) parts.0
        (subst (λ k. (line : ℕ) × (lower : WireAbove) × GoesDown p pins (entry_at v.it.net k line) lower × (list_any (names lower.net lower.left s.set) wires ≡ true)) parts.1 (from v.it v.there parts.2))

abbrev tells : (NetNo → ℕ → Bool) → ℕ → Wire → Bool
tells set k v = (v.key == k) && set v.net v.left

stuck_key : (p : Placement) (pins : Pins) (wires : List Wire) → ArePieceWires p pins wires → (w : Wire) → Contains wires w → IsStuckPiece p pins w.net w.left → IsStuckKey (constraints_of wires p.nodes) w.key
stuck_key p pins wires h w there s = record {
  set = λ k. list_any (tells s.set k) wires;
  there = test_there (tells s.set w.key) wires w there (and_from _ _ (eq-eqb w.key w.key refl) s.there);
  each = each;
}
  where
    from : (v : Wire) → Contains wires v → s.set v.net v.left ≡ true → (lower : ℕ) × (line : ℕ) × IsOver (constraints_of wires p.nodes) v.key lower line × (list_any (tells s.set lower) wires ≡ true)
    from v hv inside =
        let (line, lower, g, also) = s.each v.net v.left inside in
        let u : Some' (IsBetween lower.net lower.left g.lower_right) wires = wire_of p pins wires h lower.net lower.left g.lower_right g.lower in
        let in_set : s.set u.it.net u.it.left ≡ true = subst (λ n. s.set n u.it.left ≡ true) (sym u.holds.of) (subst (λ k. s.set lower.net k ≡ true) (sym u.holds.begins) also) in
        (u.it.key, line, over_of p pins wires h v u.it hv u.there line lower g u.holds, test_there (tells s.set u.it.key) wires u.it u.there (and_from _ _ (eq-eqb u.it.key u.it.key refl) in_set))

    each : (k : ℕ) → list_any (tells s.set k) wires ≡ true → (lower : ℕ) × (line : ℕ) × IsOver (constraints_of wires p.nodes) k lower line × (list_any (tells s.set lower) wires ≡ true)
    each k e =
        let v : Some' (λ (v : Wire). tells s.set k v ≡ true) wires = test_finds (tells s.set k) wires e in
        let parts : ((v.it.key == k) ≡ true) × (s.set v.it.net v.it.left ≡ true) = and_parts _ _ v.holds in
        subst (λ m. (lower : ℕ) × (line : ℕ) × IsOver (constraints_of wires p.nodes) m lower line × (list_any (tells s.set lower) wires ≡ true)) (eqb-true v.it.key k parts.0) (from v.it v.there parts.1)

-- a piece that is stuck has a wire, which is stuck
pub record IsStuckWire (p : Placement) (wires : List Wire) (net : NetNo) (left : ℕ) : Type 0 where
  pub wire : Wire
  pub there : Contains wires wire
  pub of : wire.net ≡ net
  pub begins : wire.left ≡ left
  pub stuck : IsStuckKey (constraints_of wires p.nodes) wire.key

pub stuck_wire : (p : Placement) (pins : Pins) (wires : List Wire) → ArePieceWires p pins wires → (net : NetNo) (left : ℕ) → IsStuckPiece p pins net left → IsStuckWire p wires net left
stuck_wire p pins wires h net left s =
    let (line, lower, g, also) = s.each net left s.there in
    let w : Some' (IsBetween net left g.upper_right) wires = wire_of p pins wires h net left g.upper_right g.upper in
    record {
      wire = w.it;
      there = w.there;
      of = w.holds.of;
      begins = w.holds.begins;
      stuck = stuck_key p pins wires h w.it w.there (subst (λ n. IsStuckPiece p pins n w.it.left) (sym w.holds.of) (subst (λ k. IsStuckPiece p pins net k) (sym w.holds.begins) s));
    }
