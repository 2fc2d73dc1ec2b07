-- The wires of a placement on tracks are its trunks.
use Rattle.std.proofs.Common.{ℕ, ◌≡◌, ◌≢◌, ◌<◌, ◌==◌, true, false, List, map, inl, inr, refl, subst, arith, Contains, IsPermutation, IsSorted}
use Rattle.std.specs.Ordering.{is_lt}
use Rattle.std.proofs.lemmas.Bool.{cases_order}
use Rattle.std.proofs.lemmas.List.Sorted.{Contains-permutation, IsPermutation-sym}
use Rattle.cell_num.specs.declared.net.NetNo.{NetNo}
use Rattle.cell_num.specs.declared.net.Pins.{Pins}
use Rattle.cell_num.proofs.In.{Image, in_map, contains_map}
use Rattle.cell_num.proofs.Lists.{all_from_contains}
use Rattle.cell_num.proofs.Pairs.{Some', some_from_any, any_at, OneEach, one_each_permutation, pairs_from_sorted}
use Rattle.row_place.specs.declared.placement.Placement.{Placement}
use Rattle.row_place.specs.Trunks.{HasTrunk, IsSpan}
use Rattle.channel_route.specs.declared.routing.Trunk.{Trunk}
use Rattle.channel_route.specs.declared.wire.Wire.{Wire}
use Rattle.channel_route.specs.Wires.{IsWire, AreWires, trunk_cmp}
use Rattle.channel_route.proofs.FilledTracks.{count_map, one_each_like}
use Rattle.channel_route.proofs.NetWires.{cmp_less}
use Rattle.channel_route.proofs.TrunkChannel.{is_wire, wire_of_net}
use Rattle.track_ways.specs.Channel.{AreTrunks, trunk_on}

net_less : (a b c : Trunk) → a.net.0 < b.net.0 → b.net.0 < c.net.0 → a.net.0 < c.net.0
net_less a b c e f = omega (arith, e, f)

less_from_cmp : (a b : Trunk) → is_lt (trunk_cmp b a) ≡ false → a.net.0 ≢ b.net.0 → a.net.0 < b.net.0
less_from_cmp a b e differ =
    elim (cases_order a.net.0 b.net.0) [
      | inl same ↦ absurd (differ same)
      | inr other ↦ elim other [ inl less ↦ less | inr more ↦ absurd (wrong more) ]
    ]
  where
    wrong : b.net.0 < a.net.0 → ⊥
    wrong h = let lt : is_lt (trunk_cmp b a) ≡ true = rw (cmp_less b.net.0 a.net.0 h) refl in cc

pub trunks_of_wires : (p : Placement) (pins : Pins) (wires : List Wire) (track : NetNo → ℕ) (trunks : List Trunk) → AreWires p pins wires → IsPermutation (map (trunk_on track) wires) trunks → IsSorted trunk_cmp trunks → AreTrunks p pins track trunks
trunks_of_wires p pins wires track trunks h moved sorted = record {
  nets = λ net. (
    λ has. let w : Some' (λ (w : Wire). w.net ≡ net) wires = wire_of_net p pins wires h net has in any_at (λ (t : Trunk). t.net ≡ net) trunks (trunk_on track w.it) (to w.it w.there) w.holds,
    λ any. let t : Some' (λ (t : Trunk). t.net ≡ net) trunks = some_from_any (λ (t : Trunk). t.net ≡ net) trunks any in subst (λ n. HasTrunk p pins n) t.holds (is t.it (from t.it t.there)).0,
  );
  order = pairs_from_sorted (λ a b. is_lt (trunk_cmp a b)) (λ (t : Trunk). t.net.0) (λ (a b : Trunk). a.net.0 < b.net.0) net_less less_from_cmp trunks sorted one;
  spans = all_from_contains (λ (t : Trunk). IsSpan p t.net t.left t.right) trunks (λ t there. (is t (from t there)).1);
  tracks = all_from_contains (λ (t : Trunk). t.track ≡ track t.net) trunks (λ t there. on t (from t there));
}
  where
    to : (w : Wire) → Contains wires w → Contains trunks (trunk_on track w)
    to w there = Contains-permutation (map (trunk_on track) wires) trunks (trunk_on track w) moved (contains_map (trunk_on track) wires w there)

    from : (t : Trunk) → Contains trunks t → Image (trunk_on track) wires t
    from t there = in_map (trunk_on track) wires t (Contains-permutation trunks (map (trunk_on track) wires) t (IsPermutation-sym (map (trunk_on track) wires) trunks moved) there)

    is : (t : Trunk) → Image (trunk_on track) wires t → HasTrunk p pins t.net × IsSpan p t.net t.left t.right
    is t i = let w : IsWire p pins i.of = is_wire p pins wires h i.of i.listed in subst (λ (z : Trunk). HasTrunk p pins z.net × IsSpan p z.net z.left z.right) i.is (w.trunk, w.span)

    on : (t : Trunk) → Image (trunk_on track) wires t → t.track ≡ track t.net
    on t i = subst (λ (z : Trunk). z.track ≡ track z.net) i.is refl

    nets_one : OneEach (λ (w : Wire). w.net.0) wires
    nets_one = one_each_like (λ (w : Wire). w.key) (λ (w : Wire). w.net.0) wires (λ w there. (is_wire p pins wires h w there).key) h.found.distinct

    one : OneEach (λ (t : Trunk). t.net.0) trunks
    one = one_each_permutation (λ (t : Trunk). t.net.0) (map (trunk_on track) wires) trunks moved (λ n. omega (arith, nets_one n, count_map (trunk_on track) (λ (t : Trunk). t.net.0 == n) wires))
