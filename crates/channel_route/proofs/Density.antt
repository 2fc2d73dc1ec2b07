-- Where no net stands above another, the tracks are as many as trunks cover one line.
use Rattle.std.proofs.Common.{ℕ, zero, suc, ◌≡◌, ◌≢◌, ◌<◌, ◌≤◌, ◌==◌, leb, true, List, inl, inr, sym, ap, subst, arith, Contains, count_by}
use Rattle.std.proofs.lemmas.Bool.{cases_eq, cases_order, and_parts, and_from, eqb-true, eq-eqb, leb-true, le-leb, lt-ltb}
use Rattle.std.proofs.lemmas.List.Elements.{All-contains}
use Rattle.cell_num.specs.declared.net.NetNo.{NetNo}
use Rattle.cell_num.specs.declared.net.Pins.{Pins}
use Rattle.cell_num.proofs.In.{Image}
use Rattle.cell_num.proofs.Pairs.{Some', some_from_any, OneEach}
use Rattle.row_place.specs.declared.placement.Placement.{Placement}
use Rattle.row_place.specs.Trunks.{lines_of, IsSpan}
use Rattle.channel_route.specs.declared.routing.Trunk.{Trunk}
use Rattle.channel_route.specs.declared.wire.Wire.{Wire}
use Rattle.channel_route.specs.declared.wire.PlacedWire.{PlacedWire}
use Rattle.channel_route.specs.Routing.{AreApart, IsLegal, HasNoAbove, holds_line, IsDensity}
use Rattle.channel_route.specs.Graph.{trunk_of, IsBefore, IsBlocked}
use Rattle.channel_route.specs.Wires.{constraints_of}
use Rattle.channel_route.proofs.Counts.{below, on, count_le, count_one, count_within, few_below, many_below}
use Rattle.channel_route.proofs.Legal.{IsDone, routing_of, legal, to_sorted, from_sorted, one_each_sorted, trunk_span}
use Rattle.channel_route.proofs.TrunkChannel.{net_of, constraint_is}

abbrev track_of : Trunk → ℕ
track_of t = t.track

-- one at most on each track
on_one : (p : Placement) (pins : Pins) (trunks : List Trunk) (tracks : ℕ) → IsLegal p pins (routing_of trunks tracks) → OneEach (λ (t : Trunk). t.net.0) trunks → (line track : ℕ) → count_by (on (holds_line line) track_of track) trunks ≤ 1
on_one p pins trunks tracks l one line track = count_one (λ (t : Trunk). t.net.0) (on (holds_line line) track_of track) trunks one meet
  where
    apart : (a b : Trunk) → holds_line line a ≡ true → holds_line line b ≡ true → AreApart a b → ⊥
    apart a b ca cb (inl e) =
        let pa : (leb a.left line ≡ true) × (leb line a.right ≡ true) = and_parts _ _ ca in
        let pb : (leb b.left line ≡ true) × (leb line b.right ≡ true) = and_parts _ _ cb in
        omega (arith, e, leb-true line a.right pa.1, leb-true b.left line pb.0)
    apart a b ca cb (inr e) =
        let pa : (leb a.left line ≡ true) × (leb line a.right ≡ true) = and_parts _ _ ca in
        let pb : (leb b.left line ≡ true) × (leb line b.right ≡ true) = and_parts _ _ cb in
        omega (arith, e, leb-true line b.right pb.1, leb-true a.left line pa.0)

    meet : (a b : Trunk) → Contains trunks a → Contains trunks b → on (holds_line line) track_of track a ≡ true → on (holds_line line) track_of track b ≡ true → a.net.0 ≡ b.net.0
    meet a b ha hb pa pb =
        let qa : (holds_line line a ≡ true) × ((a.track == track) ≡ true) = and_parts _ _ pa in
        let qb : (holds_line line b ≡ true) × ((b.track == track) ≡ true) = and_parts _ _ pb in
        elim (cases_eq a.net.0 b.net.0) [
          | inl same ↦ same
          | inr other ↦ absurd (apart a b qa.0 qb.0 (l.apart a b ha hb (λ e. other (ap (λ (n : NetNo). n.0) e)) (omega (arith, eqb-true a.track track qa.1, eqb-true b.track track qb.1))))
        ]

-- no line has more trunks than tracks
at_most : (p : Placement) (pins : Pins) (wires : List Wire) (placed : List PlacedWire) (trunks : List Trunk) (tracks : ℕ) → IsDone p pins wires placed trunks tracks → (line : ℕ) → count_by (holds_line line) trunks ≤ tracks
at_most p pins wires placed trunks tracks d line =
    omega (arith, few_below (holds_line line) track_of trunks (on_one p pins trunks tracks (legal p pins wires placed trunks tracks d) (one_each_sorted p pins wires placed trunks tracks d) line) tracks, count_within (holds_line line) (below (holds_line line) track_of tracks) trunks all_below)
  where
    all_below : (t : Trunk) → Contains trunks t → holds_line line t ≡ true → below (holds_line line) track_of tracks t ≡ true
    all_below t there e = and_from _ _ e (lt-ltb t.track tracks (All-contains (λ (t : Trunk). t.track < tracks) trunks t (legal p pins wires placed trunks tracks d).tracks there))

pub density : (p : Placement) (pins : Pins) (wires : List Wire) (placed : List PlacedWire) (trunks : List Trunk) (tracks : ℕ) → IsDone p pins wires placed trunks tracks → HasNoAbove p pins → IsDensity trunks tracks
density p pins wires placed trunks zero d none = record { most = at_most p pins wires placed trunks 0 d; line = 0; there = omega (arith, at_most p pins wires placed trunks 0 d 0) }
density p pins wires placed trunks (suc k) d none = record { most = at_most p pins wires placed trunks (suc k) d; line = top.it.left; there = omega (arith, at_most p pins wires placed trunks (suc k) d top.it.left, enough) }
  where
    top : Some' (λ (t : Trunk). t.track ≡ k) trunks
    top = some_from_any (λ (t : Trunk). t.track ≡ k) trunks ((legal p pins wires placed trunks (suc k) d).full k (omega arith))

    of : Image trunk_of placed top.it
    of = from_sorted p pins wires placed trunks (suc k) d top.it top.there

    covered : (t : Trunk) → t.left ≤ top.it.left → top.it.left ≤ t.right → holds_line top.it.left t ≡ true
    covered t low high = and_from _ _ (le-leb t.left top.it.left low) (le-leb top.it.left t.right high)

    span : top.it.left ≤ top.it.right
    span = let is : IsSpan p top.it.net top.it.left top.it.right = (trunk_span p pins wires placed trunks (suc k) d top.it top.there).1 in All-contains (λ line. line ≤ top.it.right) (lines_of p top.it.net) top.it.left is.none_behind is.begins

    left_is : of.of.wire.left ≡ top.it.left
    left_is = ap (λ (t : Trunk). t.left) of.is

    crossed : (i : ℕ) → IsBlocked (constraints_of wires p.nodes) placed of.of.wire i → Some' (λ (t : Trunk). on (holds_line top.it.left) track_of i t ≡ true) trunks
    crossed i (inr h) = absurd (none (net_of h.constraint.upper) (net_of h.constraint.lower) h.constraint.line (constraint_is p pins wires d.wired h.constraint h.there))
    crossed i (inl c) = record { it = trunk_of c.one; there = to_sorted p pins wires placed trunks (suc k) d c.one c.there; holds = and_from _ _ (covered (trunk_of c.one) (starts c.one c.before) (omega (arith, c.reaches, left_is))) (eq-eqb c.one.track i c.on) }
      where
        starts : (o : PlacedWire) → IsBefore o.wire of.of.wire → o.wire.left ≤ top.it.left
        starts o (inl e) = omega (arith, e, left_is)
        starts o (inr (e, _)) = omega (arith, e, left_is)

    each : (i : ℕ) → i < suc k → Some' (λ (t : Trunk). on (holds_line top.it.left) track_of i t ≡ true) trunks
    each i less =
        elim (cases_eq i k) [
          | inl same ↦ record { it = top.it; there = top.there; holds = and_from _ _ (covered top.it (omega arith) span) (eq-eqb top.it.track i (omega (arith, top.holds, same))) }
          | inr other ↦ crossed i (d.filled.part.tight of.of of.listed i (subst (λ (t : Trunk). i < t.track) (sym of.is) (lower less other)))
        ]
      where
        lower : i < suc k → i ≢ k → i < top.it.track
        lower less other = elim (cases_order i k) [ inl same ↦ absurd (other same) | inr order ↦ elim order [ inl fewer ↦ omega (arith, fewer, top.holds) | inr more ↦ absurd (omega (arith, less, more)) ] ]

    enough : suc k ≤ count_by (holds_line top.it.left) trunks
    enough = omega (arith, many_below (holds_line top.it.left) track_of trunks (suc k) each, count_le (holds_line top.it.left) (below (holds_line top.it.left) track_of (suc k)) trunks (λ x e. (and_parts _ _ e).0))
