-- A placement has a legal and tight routing, or a cycle.
use Rattle.std.proofs.Common.{ℕ, ◌≡◌, ◌≢◌, ◌+◌, ◌<◌, ◌⊎◌, ◌==◌, ltb, false, List, [], ◌∷◌, map, inl, inr, refl, ap, arith, AllPairs, IsSorted, get_or}
use Rattle.std.specs.declared.cmp.Ordering.TheVariants.{Greater}
use Rattle.std.specs.Ordering.{is_lt, nat_cmp}
use Rattle.std.proofs.lemmas.Bool.{cases_Bool, cases_order, ltb-true, ne_eqb}
use Rattle.cell_num.specs.declared.net.NetNo.{NetNo}
use Rattle.cell_num.specs.declared.net.Pins.{Pins}
use Rattle.cell_num.proofs.Pairs.{OneEach, pairs_differ}
use Rattle.row_place.specs.declared.placement.Placement.{Placement}
use Rattle.row_place.specs.Trunks.{HasPins, IsAbove}
use Rattle.channel_route.specs.declared.constraint.Constraint.{Constraint}
use Rattle.channel_route.specs.declared.routing.Above.{Above}
use Rattle.channel_route.specs.declared.routing.Trunk.{Trunk}
use Rattle.channel_route.specs.declared.wire.PlacedWire.{PlacedWire}
use Rattle.channel_route.specs.declared.wire.Wire.{Wire}
use Rattle.channel_route.specs.Cycle.{HasNoCycle, IsCycle, by_number, nets}
use Rattle.channel_route.specs.Graph.{trunk_of}
use Rattle.channel_route.specs.Routing.{HasTightRouting}
use Rattle.channel_route.specs.Turn.{IsOver}
use Rattle.channel_route.specs.Walk.{IsKeyCycleBelow}
use Rattle.channel_route.specs.Wires.{AreWires, constraints_of, trunk_cmp}
use Rattle.channel_route.proofs.FilledTracks.{IsFull, count_map, one_each_like, one_each_placed, placed_wire}
use Rattle.channel_route.proofs.Legal.{IsDone, legal, routing_of, tight}
use Rattle.channel_route.proofs.TrunkChannel.{channel, constraint_is, is_wire}
use Rattle.channel_route.proofs.Turns.{cycle_like}
use Rattle.channel_route.proofs.WalkNets.{cycle_nets, named_of}
use Rattle.channel_route.proofs.InOrder.{Ordered, sorted}
use Rattle.channel_route.proofs.TracksFilled.{AllFilled, AreStuck, filled_or_stuck}
use Rattle.channel_route.proofs.TrunkWires.{TrunkWires, trunk_wires}
use Rattle.channel_route.proofs.Turning.{CycleBelow, cycle_below}

-- ---- trunks in order of net

either_net : (a b : Trunk) → a.net.0 ≢ b.net.0 → (a.net.0 < b.net.0) ⊎ (b.net.0 < a.net.0)
either_net a b differ = elim (cases_order a.net.0 b.net.0) [ inl same ↦ absurd (differ same) | inr other ↦ other ]

above_cmp : (a b : ℕ) → a < b → nat_cmp b a ≡ Greater
above_cmp a b less = rw none (rw (ne_eqb b a (λ e. omega (arith, e, less))) refl)
  where
    none : ltb b a ≡ false
    none = elim (cases_Bool (ltb b a)) [ inl wrong ↦ absurd (let below : b < a = ltb-true b a wrong in omega (arith, below, less)) | inr fine ↦ fine ]

not_before : (a b : Trunk) → a.net.0 < b.net.0 → is_lt (trunk_cmp b a) ≡ false
not_before a b less = rw (above_cmp a.net.0 b.net.0 less) refl

is_sorted : (trunks : List Trunk) → AllPairs (λ (a b : Trunk). a.net.0 < b.net.0) trunks → IsSorted trunk_cmp trunks
is_sorted trunks order k d low short = not_before (get_or trunks k d) (get_or trunks (k + 1) d) (order k (k + 1) d (omega arith) short)

-- ---- a routing or a cycle

module _ (p : Placement) (pins : Pins) (wires : List Wire) (are : AreWires p pins wires) where
  cs : List Constraint
  cs = constraints_of wires p.nodes

  routed : AllFilled wires cs → HasTightRouting p pins
  unfolding cs
  routed h = made (sorted (λ (a b : Trunk). a.net.0 < b.net.0) (λ a b c ab bc. omega (arith, ab, bc)) (map trunk_of h.placed) (λ i j d less short. either_net (get_or (map trunk_of h.placed) i d) (get_or (map trunk_of h.placed) j d) (pairs_differ (λ (t : Trunk). t.net.0) (map trunk_of h.placed) one i j d less short)))
    where
      full : IsFull wires cs h.placed h.tracks
      full = record { channel = channel p pins wires are; filled = h.filled }

      one_placed : OneEach (λ (t : PlacedWire). t.wire.net.0) h.placed
      one_placed = one_each_like (λ (t : PlacedWire). t.wire.key) (λ (t : PlacedWire). t.wire.net.0) h.placed (λ t there. (is_wire p pins wires are t.wire (placed_wire wires cs h.placed h.tracks full t there)).key) (one_each_placed wires cs h.placed h.tracks full)

      one : OneEach (λ (t : Trunk). t.net.0) (map trunk_of h.placed)
      one n = omega (arith, one_placed n, count_map trunk_of (λ (t : Trunk). t.net.0 == n) h.placed)

      made : Ordered (λ (a b : Trunk). a.net.0 < b.net.0) (map trunk_of h.placed) → HasTightRouting p pins
      made o =
          let done : IsDone p pins wires h.placed o.ys h.tracks = record { wired = are; filled = h.filled; moved = o.moved; sorted = is_sorted o.ys o.order } in
          record { routing = routing_of o.ys h.tracks; legal = legal p pins wires h.placed o.ys h.tracks done; tight = tight p pins wires h.placed o.ys h.tracks done }

  cyclic : AreStuck cs → (cycle : List Above) × IsCycle p pins cycle
  unfolding cs
  cyclic h = closed (cycle_below cs h.left differ h.some h.stuck)
    where
      over : (upper lower : ℕ) (line : ℕ) → IsOver cs upper lower line → by_number (IsAbove p pins) upper lower line
      over upper lower line there = constraint_is p pins wires are (record { upper = upper; lower = lower; line = line }) there

      differ : (upper lower : ℕ) (line : ℕ) → IsOver cs upper lower line → upper ≢ lower
      differ upper lower line there e = (over upper lower line there).differ (ap (λ n. let net : NetNo = record { 0 = n } in net) e)

      closed : (start : ℕ) × CycleBelow cs start → (cycle : List Above) × IsCycle p pins cycle
      closed (start, c) = (map named_of c.cycle, alone (map named_of c.cycle) (cycle_like nets (IsOver cs) (by_number (IsAbove p pins)) over start (map named_of c.cycle) (cycle_nets (IsOver cs) start c.cycle c.is)))
        where
          alone : (cycle : List Above) → IsKeyCycleBelow nets (by_number (IsAbove p pins)) start cycle → IsCycle p pins cycle
          alone [] none = none
          alone (first ∷ rest) is = is.0

  either : HasTightRouting p pins ⊎ ((cycle : List Above) × IsCycle p pins cycle)
  unfolding cs
  either = elim (filled_or_stuck wires cs (channel p pins wires are)) [ inl filled ↦ inl (routed filled) | inr stuck ↦ inr (cyclic stuck) ]

pub routing_or_cycle : (p : Placement) (pins : Pins) → HasPins p pins → HasTightRouting p pins ⊎ ((cycle : List Above) × IsCycle p pins cycle)
routing_or_cycle p pins has = let w : TrunkWires p pins = trunk_wires p pins has in either p pins w.wires w.are

pub some_routing : (p : Placement) (pins : Pins) → HasPins p pins → HasNoCycle p pins → HasTightRouting p pins
some_routing p pins has none = elim (routing_or_cycle p pins has) [ inl routing ↦ routing | inr (cycle, is) ↦ absurd (none cycle is) ]
