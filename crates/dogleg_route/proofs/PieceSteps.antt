-- The first piece that can not be placed, and the steps down from a piece.
use Rattle.std.proofs.Common.{ℕ, ◌≡◌, ◌<◌, ◌≤◌, ◌⊎◌, true, List, length, get_or, inl, inr, refl, sym, ap, subst, arith, Contains}
use Rattle.std.proofs.lemmas.Bool.{cases_order, and_from, eq-eqb}
use Rattle.std.proofs.lemmas.List.Elements.{Contains-get_or}
use Rattle.cell_num.specs.declared.net.NetNo.{NetNo}
use Rattle.cell_num.specs.declared.net.Pins.{Pins}
use Rattle.row_place.specs.declared.placement.Placement.{Placement}
use Rattle.channel_route.specs.declared.routing.WireAbove.{WireAbove}
use Rattle.channel_route.specs.declared.wire.Wire.{Wire}
use Rattle.channel_route.specs.declared.wire.PlacedWire.{PlacedWire}
use Rattle.channel_route.specs.Graph.{IsBefore, has_key}
use Rattle.channel_route.specs.Turn.{steps, IsOver, IsDown}
use Rattle.channel_route.specs.Wires.{constraints_of}
use Rattle.channel_route.proofs.StuckKeys.{AreLeft, left_wire, stuck_left, left_stuck, first_left}
use Rattle.channel_route.proofs.Turns.{key_there}
use Rattle.dogleg_route.specs.PieceCycles.{GoesDown, IsEntryEarlier}
use Rattle.dogleg_route.specs.Pieces.{IsPiece}
use Rattle.dogleg_route.specs.PieceTold.{entry_at, IsNoLaterEntry, IsFirstStuckPiece, IsPieceStep}
use Rattle.dogleg_route.specs.PieceWires.{ComesBefore, ArePieceWires}
use Rattle.dogleg_route.proofs.Marks.{one_right}
use Rattle.dogleg_route.proofs.PieceChannel.{piece_of, distinct, same_key, key_less}
use Rattle.dogleg_route.proofs.PieceWalks.{goes}
use Rattle.dogleg_route.proofs.StuckPieces.{IsStuckWire, over_of, stuck_piece, stuck_wire}

earlier_entry : (p : Placement) (pins : Pins) (wires : List Wire) → ArePieceWires p pins wires → (a b : Wire) (i j : ℕ) → Contains wires a → Contains wires b → a.key < b.key → IsEntryEarlier p pins (entry_at a.net a.left i) (entry_at b.net b.left j)
earlier_entry p pins wires h a b i j ha hb less = record {
  right = a.right;
  piece = piece_of p pins wires h a ha;
  other_right = b.right;
  other = piece_of p pins wires h b hb;
  earlier = (key_less p pins wires h a b ha hb less).lines;
}

-- what is no later than a wire is no later than the entries of its piece
no_later : (p : Placement) (pins : Pins) (wires : List Wire) → ArePieceWires p pins wires → (a b : Wire) (i : ℕ) (e : WireAbove) → Contains wires a → Contains wires b → b.net ≡ e.net → b.left ≡ e.left → a.key ≤ b.key → IsNoLaterEntry p pins (entry_at a.net a.left i) e
no_later p pins wires h a b i e ha hb net left low =
    elim (cases_order a.key b.key) [
      | inl same ↦
          let one : a ≡ b = same_key p pins wires h a b ha hb same in
          inl (record { net = subst (λ (z : Wire). z.net ≡ e.net) (sym one) net; left = subst (λ (z : Wire). z.left ≡ e.left) (sym one) left })
      | inr other ↦ elim other [
        | inl less ↦ inr (named (earlier_entry p pins wires h a b i e.line ha hb less))
        | inr more ↦ absurd (omega (arith, low, more))
      ]
    ]
  where
    named : IsEntryEarlier p pins (entry_at a.net a.left i) (entry_at b.net b.left e.line) → IsEntryEarlier p pins (entry_at a.net a.left i) e
    named x = record {
      right = x.right;
      piece = x.piece;
      other_right = x.other_right;
      other = subst (λ n. IsPiece p pins n e.left x.other_right) net (subst (λ k. IsPiece p pins b.net k x.other_right) left x.other);
      earlier = subst (λ (n : NetNo). (a.left < e.left) ⊎ ((a.left ≡ e.left) × ((x.right < x.other_right) ⊎ ((x.right ≡ x.other_right) × (a.net.0 < n.0))))) net (subst (λ k. (a.left < k) ⊎ ((a.left ≡ k) × ((x.right < x.other_right) ⊎ ((x.right ≡ x.other_right) × (a.net.0 < b.net.0))))) left x.earlier);
    }

not_both : (a b : Wire) → IsBefore a b → ComesBefore b a → ⊥
not_both a b (inr (_, less)) c = omega (arith, less, c.keys)
not_both a b (inl less) c = back c.lines
  where
    back : (b.left < a.left) ⊎ ((b.left ≡ a.left) × ((b.right < a.right) ⊎ ((b.right ≡ a.right) × (b.net.0 < a.net.0)))) → ⊥
    back (inl e) = omega (arith, less, e)
    back (inr (e, _)) = omega (arith, less, e)

pub first_stuck : (p : Placement) (pins : Pins) (wires left : List Wire) (placed : List PlacedWire) (tracks : ℕ) → ArePieceWires p pins wires → AreLeft wires left (constraints_of wires p.nodes) placed tracks → (d : Wire) → 0 < length left → (line : ℕ) → IsFirstStuckPiece p pins (entry_at (get_or left 0 d).net (get_or left 0 d).left line)
first_stuck p pins wires left placed tracks h are d some line = record {
  stuck = stuck_piece p pins wires h (get_or left 0 d) hw (stuck_left wires left (constraints_of wires p.nodes) placed tracks are (get_or left 0 d).key (key_there left (get_or left 0 d) there));
  none_before = λ other s.
      let z : IsStuckWire p wires other.net other.left = stuck_wire p pins wires h other.net other.left s in
      no_later p pins wires h (get_or left 0 d) z.wire line other hw z.there z.of z.begins (low z.wire (first_left wires left (constraints_of wires p.nodes) placed tracks are (distinct p pins wires h) d some z.wire z.there z.stuck) z.there);
}
  where
    there : Contains left (get_or left 0 d)
    there = Contains-get_or left 0 d some

    hw : Contains wires (get_or left 0 d)
    hw = left_wire wires left (constraints_of wires p.nodes) placed tracks are (get_or left 0 d) there

    low : (z : Wire) → (get_or left 0 d ≡ z) ⊎ IsBefore (get_or left 0 d) z → Contains wires z → (get_or left 0 d).key ≤ z.key
    low z (inl same) hz = let e : (get_or left 0 d).key ≡ z.key = ap (λ (v : Wire). v.key) same in omega (arith, e)
    low z (inr before) hz = elim (cases_order (get_or left 0 d).key z.key) [
      | inl same ↦ omega (arith, same)
      | inr other ↦ elim other [ inl less ↦ omega (arith, less) | inr more ↦ absurd (not_both (get_or left 0 d) z before (key_less p pins wires h z (get_or left 0 d) hz hw more)) ]
    ]

pub step_is : (p : Placement) (pins : Pins) (wires left : List Wire) (placed : List PlacedWire) (tracks : ℕ) → ArePieceWires p pins wires → AreLeft wires left (constraints_of wires p.nodes) placed tracks → (a b : Wire) (line below : ℕ) → Contains wires a → Contains wires b → IsDown left (constraints_of wires p.nodes) a.key b.key line → IsPieceStep p pins (entry_at a.net a.left line) (entry_at b.net b.left below)
step_is p pins wires left placed tracks h are a b line below ha hb down = record {
  over = goes p pins wires left h (record { wire = a; line = line }) (record { wire = b; line = below }) ha hb down;
  stuck = stuck_piece p pins wires h b hb (stuck_left wires left (constraints_of wires p.nodes) placed tracks are b.key down.left');
  first = λ other_line other g s. first other_line other g (stuck_wire p pins wires h other.net other.left s);
}
  where
    first : (other_line : ℕ) (other : WireAbove) → GoesDown p pins (entry_at a.net a.left other_line) other → IsStuckWire p wires other.net other.left → (line < other_line) ⊎ ((line ≡ other_line) × IsNoLaterEntry p pins (entry_at b.net b.left below) other)
    first other_line other g z =
        let right : z.wire.right ≡ g.lower_right = one_right p pins other.net other.left z.wire.right g.lower_right (subst (λ n. IsPiece p pins n other.left z.wire.right) z.of (subst (λ k. IsPiece p pins z.wire.net k z.wire.right) z.begins (piece_of p pins wires h z.wire z.there))) g.lower in
        let over : IsOver (constraints_of wires p.nodes) a.key z.wire.key other_line = over_of p pins wires h a z.wire ha z.there other_line other g (record { of = z.of; begins = z.begins; ends = right }) in
        let left_too : has_key left z.wire.key ≡ true = left_stuck wires left (constraints_of wires p.nodes) placed tracks are z.wire.key (key_there wires z.wire z.there) z.stuck in
        by (down.first (record { upper = a.key; lower = z.wire.key; line = other_line }) over (and_from _ _ (eq-eqb a.key a.key refl) left_too))
      where
        by : (line < other_line) ⊎ ((line ≡ other_line) × (b.key ≤ z.wire.key)) → (line < other_line) ⊎ ((line ≡ other_line) × IsNoLaterEntry p pins (entry_at b.net b.left below) other)
        by (inl less) = inl less
        by (inr (same, low)) = inr (same, no_later p pins wires h b z.wire below other hb z.there z.of z.begins low)
