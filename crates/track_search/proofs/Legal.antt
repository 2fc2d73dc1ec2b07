-- Where trunks on the tracks of the nets are legal, some legal routing has that many tracks.
use Rattle.std.proofs.Common.{ℕ, ◌≡◌, ◌<◌, List, [], ◌∷◌, map, refl, ap, subst, sym, Any, IsPermutation}
use Rattle.cell_num.specs.declared.net.NetNo.{NetNo}
use Rattle.cell_num.specs.declared.net.Pins.{Pins}
use Rattle.cell_num.proofs.In.{Image, contains_map, in_map}
use Rattle.cell_num.proofs.Lists.{all_from_contains, all_map}
use Rattle.cell_num.proofs.Pairs.{Some', any_at, pairs_map, some_from_any}
use Rattle.row_place.specs.declared.placement.Placement.{Placement}
use Rattle.row_place.specs.Places.{placement_of}
use Rattle.row_place.specs.Trunks.{HasTrunk, IsSpan}
use Rattle.channel_route.specs.declared.routing.Trunk.{Trunk}
use Rattle.channel_route.specs.declared.wire.Wire.{Wire}
use Rattle.channel_route.specs.Graph.{trunk_of}
use Rattle.channel_route.specs.Routing.{IsLegal}
use Rattle.channel_route.specs.Wiring.{wiring_of}
use Rattle.first_route.specs.First.{HasNoRouting}
use Rattle.first_route.specs.Tries.{WereMade}
use Rattle.first_route.specs.Ways.{low_wire}
use Rattle.track_ways.specs.Channel.{AreTrunks, trunk_on}
use Rattle.track_ways.proofs.Trunks.{trunks_of_wires}
use Rattle.track_search.specs.Fewest.{HasLegalTracks}

-- a trunk on this track of its net
moved_to : (NetNo → ℕ) → Trunk → Trunk
moved_to track t = record { net = t.net; left = t.left; right = t.right; track = track t.net }

low_trunks : (wires : List Wire) → map trunk_of (map low_wire wires) ≡ map (trunk_on (λ net. 0)) wires
low_trunks [] = refl
low_trunks (w ∷ wires) = ap (λ ts. trunk_on (λ net. 0) w ∷ ts) (low_trunks wires)

-- trunks of all nets, each on another track of its net
trunks_on : (p : Placement) (pins : Pins) (before track : NetNo → ℕ) (trunks : List Trunk) → AreTrunks p pins before trunks → AreTrunks p pins track (map (moved_to track) trunks)
unfolding moved_to
trunks_on p pins before track trunks are = record {
  nets = λ net. (to net, from net);
  order = pairs_map (λ (a b : Trunk). a.net.0 < b.net.0) (λ (t : Trunk). Unit {0}) (λ (a b : Trunk). a.net.0 < b.net.0) (moved_to track) trunks (λ a b one other less. less) (all_from_contains (λ (t : Trunk). Unit {0}) trunks (λ t there. tt)) are.order;
  spans = all_map (λ (t : Trunk). IsSpan p t.net t.left t.right) (λ (t : Trunk). IsSpan p t.net t.left t.right) (moved_to track) trunks (λ t span. span) are.spans;
  tracks = all_map (λ (t : Trunk). t.track ≡ before t.net) (λ (t : Trunk). t.track ≡ track t.net) (moved_to track) trunks (λ t is. refl) are.tracks;
}
  where
    to : (net : NetNo) → HasTrunk p pins net → Any (λ t. t.net ≡ net) (map (moved_to track) trunks)
    to net has =
        let s : Some' (λ (t : Trunk). t.net ≡ net) trunks = some_from_any (λ (t : Trunk). t.net ≡ net) trunks ((are.nets net).0 has) in
        any_at (λ (t : Trunk). t.net ≡ net) (map (moved_to track) trunks) (moved_to track s.it) (contains_map (moved_to track) trunks s.it s.there) s.holds

    from : (net : NetNo) → Any (λ t. t.net ≡ net) (map (moved_to track) trunks) → HasTrunk p pins net
    from net any =
        let s : Some' (λ (t : Trunk). t.net ≡ net) (map (moved_to track) trunks) = some_from_any (λ (t : Trunk). t.net ≡ net) (map (moved_to track) trunks) any in
        let i : Image (moved_to track) trunks s.it = in_map (moved_to track) trunks s.it s.there in
        let same : i.of.net ≡ net = subst (λ (t : Trunk). t.net ≡ net) (sym i.is) s.holds in
        (are.nets net).1 (any_at (λ (t : Trunk). t.net ≡ net) trunks i.of i.listed same)

-- a legal routing has that many tracks, so the tries cannot end with none
pub has_routing : (p : Placement) (pins : Pins) (tracks before now : ℕ) → p ≡ placement_of p.row → HasLegalTracks pins p.row tracks → HasNoRouting p pins tracks → WereMade p pins tracks before now → ⊥
has_routing p pins tracks before now placed has none (all, made, is) =
    let wires : IsPermutation (map (trunk_on (λ net. 0)) made.wires) made.trunks = subst (λ ts. IsPermutation ts made.trunks) (low_trunks made.wires) made.moved in
    let low : AreTrunks p pins (λ net. 0) made.trunks = trunks_of_wires p pins made.wires (λ net. 0) made.trunks made.wired wires made.sorted in
    let are : AreTrunks p pins has.track (map (moved_to has.track) made.trunks) = trunks_on p pins (λ net. 0) has.track made.trunks low in
    let legal : IsLegal (placement_of p.row) pins (wiring_of tracks (map (moved_to has.track) made.trunks)) = has.legal (map (moved_to has.track) made.trunks) (subst (λ q. AreTrunks q pins has.track (map (moved_to has.track) made.trunks)) placed are) in
    none (wiring_of tracks (map (moved_to has.track) made.trunks)) (record { legal = subst (λ q. IsLegal q pins (wiring_of tracks (map (moved_to has.track) made.trunks))) (sym placed) legal; tracks = refl })
