-- The sorted trunks of the wires of pieces are in order of net, then first line.
use Rattle.std.proofs.Common.{ℕ, ◌≡◌, ◌≢◌, ◌+◌, ◌*◌, ◌<◌, ◌≤◌, ◌⊎◌, ◌==◌, true, false, List, map, inl, inr, refl, sym, ap, subst, arith, AllPairs, Contains, IsPermutation, IsSorted, count_by, get_or}
use Rattle.std.specs.Ordering.{is_lt}
use Rattle.std.proofs.lemmas.Bool.{cases_order}
use Rattle.std.proofs.lemmas.List.Elements.{Contains-get_or}
use Rattle.cell_num.specs.declared.net.NetNo.{NetNo}
use Rattle.cell_num.specs.declared.net.Pins.{Pins}
use Rattle.cell_num.proofs.Pairs.{OneEach, one_each_permutation, pairs_from_sorted}
use Rattle.row_place.specs.declared.placement.Placement.{Placement}
use Rattle.row_place.specs.Places.{IsPlacement}
use Rattle.row_compact.proofs.Within.{few, net_line}
use Rattle.channel_route.specs.declared.routing.Trunk.{Trunk}
use Rattle.channel_route.specs.declared.wire.Wire.{Wire}
use Rattle.channel_route.specs.declared.wire.PlacedWire.{PlacedWire}
use Rattle.channel_route.specs.Graph.{wire_of, trunk_of}
use Rattle.channel_route.specs.Wires.{trunk_cmp}
use Rattle.channel_route.proofs.FilledTracks.{count_map}
use Rattle.channel_route.proofs.NetWires.{cmp_less}
use Rattle.channel_route.proofs.TrunkChannel.{net_of}
use Rattle.dogleg_route.specs.PieceWires.{ArePieceWires}
use Rattle.dogleg_route.specs.Routings.{StandsEarlier}
use Rattle.dogleg_route.proofs.Marks.{mark_place}
use Rattle.dogleg_route.proofs.PieceChannel.{piece_of, same_wire}
use Rattle.dogleg_route.proofs.Sorting.{cmp_same, one_each_from_pairs}

-- a number for each net and first line
abbrev name : Trunk → ℕ
name t = 1000 * t.net.0 + t.left

abbrev wire_name : Wire → ℕ
wire_name w = 1000 * w.net.0 + w.left

net_same : (a b : NetNo) → a.0 ≡ b.0 → a ≡ b
net_same a b e = ap net_of e

names_differ : (p : Placement) (pins : Pins) (wires : List Wire) → IsPlacement p → ArePieceWires p pins wires → (a b : Wire) → Contains wires a → Contains wires b → a.key < b.key → wire_name a ≢ wire_name b
names_differ p pins wires is h a b ha hb less e =
    let e' : a.key ≡ b.key = ap (λ (w : Wire). w.key) (same_wire p pins wires h a b ha hb (net_same a.net b.net (omega (arith, e, low a ha, low b hb))) (omega (arith, e, low a ha, low b hb))) in
    omega (arith, e', less)
  where
    low : (w : Wire) → Contains wires w → w.left < 1000
    low w there = omega (arith, net_line p is w.net w.left (mark_place p w.net w.left (piece_of p pins wires h w there).begins), few p is)

one_each_sorted : (p : Placement) (pins : Pins) (wires : List Wire) (placed : List PlacedWire) (pieces : List Trunk) → IsPlacement p → ArePieceWires p pins wires → map wire_of placed ≡ wires → IsPermutation (map trunk_of placed) pieces → OneEach name pieces
one_each_sorted p pins wires placed pieces is h all moved = one_each_permutation name (map trunk_of placed) pieces moved (λ n. omega (arith, mapped n, count_map wire_of (λ (w : Wire). wire_name w == n) placed, count_map trunk_of (λ (t : Trunk). name t == n) placed))
  where
    one : OneEach wire_name wires
    one = one_each_from_pairs wire_name wires (λ i j e less short. names_differ p pins wires is h (get_or wires i e) (get_or wires j e) (Contains-get_or wires i e (omega (arith, less, short))) (Contains-get_or wires j e short) (h.order i j e less short).keys)

    mapped : (n : ℕ) → count_by (λ (w : Wire). wire_name w == n) (map wire_of placed) ≤ 1
    mapped n = subst (λ ws. count_by (λ (w : Wire). wire_name w == n) ws ≤ 1) (sym all) (one n)

earlier_trans : (a b c : Trunk) → StandsEarlier a b → StandsEarlier b c → StandsEarlier a c
earlier_trans a b c (inl e) (inl f) = inl (omega (arith, e, f))
earlier_trans a b c (inl e) (inr (f, _)) = inl (omega (arith, e, ap (λ (n : NetNo). n.0) f))
earlier_trans a b c (inr (e, _)) (inl f) = inl (omega (arith, f, ap (λ (n : NetNo). n.0) e))
earlier_trans a b c (inr (e, m)) (inr (f, n)) = inr (subst (λ z. a.net ≡ z) f e, omega (arith, m, n))

earlier_from_cmp : (a b : Trunk) → is_lt (trunk_cmp b a) ≡ false → name a ≢ name b → StandsEarlier a b
earlier_from_cmp a b e names = net (cases_order a.net.0 b.net.0)
  where
    wrong_net : b.net.0 < a.net.0 → ⊥
    wrong_net h = let lt : is_lt (trunk_cmp b a) ≡ true = rw (cmp_less b.net.0 a.net.0 h) refl in cc

    wrong_left : a.net.0 ≡ b.net.0 → b.left < a.left → ⊥
    wrong_left same h = let lt : is_lt (trunk_cmp b a) ≡ true = rw (cmp_same b.net.0 a.net.0 (sym same)) (rw (cmp_less b.left a.left h) refl) in cc

    left : a.net.0 ≡ b.net.0 → (a.left ≡ b.left) ⊎ ((a.left < b.left) ⊎ (b.left < a.left)) → StandsEarlier a b
    left same (inl one) = absurd (names (omega (arith, same, one)))
    left same (inr (inl less)) = inr (net_same a.net b.net same, less)
    left same (inr (inr more)) = absurd (wrong_left same more)

    net : (a.net.0 ≡ b.net.0) ⊎ ((a.net.0 < b.net.0) ⊎ (b.net.0 < a.net.0)) → StandsEarlier a b
    net (inl same) = left same (cases_order a.left b.left)
    net (inr (inl less)) = inl less
    net (inr (inr more)) = absurd (wrong_net more)

pub in_order : (p : Placement) (pins : Pins) (wires : List Wire) (placed : List PlacedWire) (pieces : List Trunk) → IsPlacement p → ArePieceWires p pins wires → map wire_of placed ≡ wires → IsPermutation (map trunk_of placed) pieces → IsSorted trunk_cmp pieces → AllPairs StandsEarlier pieces
in_order p pins wires placed pieces is h all moved sorted =
    pairs_from_sorted (λ a b. is_lt (trunk_cmp a b)) name StandsEarlier earlier_trans earlier_from_cmp pieces sorted (one_each_sorted p pins wires placed pieces is h all moved)
