-- The first way is the first legal routing, and where there is no way there is no legal routing.
use Rattle.std.proofs.Common.{ℕ, ◌≡◌, ◌≢◌, ◌<◌, List, [], ◌∷◌, length, map, inl, inr, refl, sym, ap, subst, arith, ◌∙◌, Any, AllPairs, Contains, IsPermutation, IsSorted}
use Rattle.std.proofs.lemmas.List.{length-map}
use Rattle.std.proofs.lemmas.List.Elements.{All-contains}
use Rattle.std.proofs.lemmas.List.Kept.{AllPairs-cons}
use Rattle.cell_num.specs.declared.net.NetNo.{NetNo}
use Rattle.cell_num.specs.declared.net.Pins.{Pins}
use Rattle.cell_num.proofs.In.{Image, in_map, contains_map}
use Rattle.cell_num.proofs.Lists.{all_from_contains, contains_cons, contains_none}
use Rattle.cell_num.proofs.Pairs.{Some', some_from_any, any_at, pairs_none, pairs_head, pairs_tail}
use Rattle.row_place.specs.declared.placement.Placement.{Placement}
use Rattle.row_place.specs.Trunks.{IsSpan, IsAbove}
use Rattle.channel_route.specs.declared.routing.Trunk.{Trunk}
use Rattle.channel_route.specs.declared.routing.Routing.{Routing}
use Rattle.channel_route.specs.declared.wire.Wire.{Wire}
use Rattle.channel_route.specs.declared.wire.PlacedWire.{PlacedWire}
use Rattle.channel_route.specs.declared.constraint.Constraint.{Constraint}
use Rattle.channel_route.specs.Graph.{trunk_of}
use Rattle.channel_route.specs.Routing.{AreApart, IsLegal}
use Rattle.channel_route.specs.Wires.{AreWires, constraints_of, trunk_cmp}
use Rattle.channel_route.proofs.TrunkChannel.{net_of, constraint_is, constraint_there}
use Rattle.first_route.specs.First.{tracks_of, IsNoLater, IsRoutingOn, IsFirstRouting, HasNoRouting}
use Rattle.first_route.specs.Tries.{tries, AreAllTries}
use Rattle.first_route.specs.Ways.{low_wire, net_wire, on_track, on_tracks, Go, Fails, AreFirst}
use Rattle.first_route.proofs.Fitting.{Allows}
use Rattle.first_route.proofs.Legal.{AreLegalOn, AreInOrder, goes_legal, legal_goes, goes_length}
use Rattle.first_route.proofs.Bare.{AreBare, at_track, at_tracks, bare_wires, low, bare_back, bare_low, one_bare, tracks_back, tracks_on_low, low_on_tracks, tracks_on_tracks, trunks_placed}

abbrev pub routing_of : ℕ → List Trunk → Routing
routing_of tracks trunks = record { tracks = tracks; trunks = trunks }

-- what the descent is given
pub record IsGiven (p : Placement) (pins : Pins) (wires : List Wire) (cs : List Constraint) (trunks : List Trunk) : Type 0 where
  pub wired : AreWires p pins wires
  pub constraints : cs ≡ constraints_of wires p.nodes
  pub moved : IsPermutation (map trunk_of (map low_wire wires)) trunks
  pub sorted : IsSorted trunk_cmp trunks

bare : (p : Placement) (pins : Pins) (wires : List Wire) (cs : List Constraint) (trunks : List Trunk) → IsGiven p pins wires cs trunks → AreBare p pins trunks
bare p pins wires cs trunks g = bare_wires p pins wires trunks g.wired g.moved g.sorted

-- the same where the wires are lent
pub given_lent : (p : Placement) (pins : Pins) (wires lent : List Wire) (cs : List Constraint) (trunks : List Trunk) → AreWires p pins wires → cs ≡ constraints_of wires p.nodes → lent ≡ wires → IsPermutation (map trunk_of (map low_wire lent)) trunks → IsSorted trunk_cmp trunks → IsGiven p pins wires cs trunks
given_lent p pins wires lent cs trunks wired constraints same moved sorted =
    record { wired = wired; constraints = constraints; moved = subst (λ (ws : List Wire). IsPermutation (map trunk_of (map low_wire ws)) trunks) same moved; sorted = sorted }

pub bare_of : (p : Placement) (pins : Pins) (r : Routing) → IsLegal p pins r → AreBare p pins r.trunks
bare_of p pins r l = record { nets = l.nets; order = l.order; spans = λ t there. All-contains (λ (t : Trunk). IsSpan p t.net t.left t.right) r.trunks t l.spans there }

-- a constraint is a net above another
above_from : (p : Placement) (pins : Pins) (wires : List Wire) (cs : List Constraint) (trunks : List Trunk) → IsGiven p pins wires cs trunks → (c : Constraint) → Contains cs c → (a b : NetNo) → c.upper ≡ a.0 → c.lower ≡ b.0 → IsAbove p pins a b c.line
above_from p pins wires cs trunks g c there a b eu el =
    subst (λ (n : ℕ). IsAbove p pins a (net_of n) c.line) el (subst (λ (n : ℕ). IsAbove p pins (net_of n) (net_of c.lower) c.line) eu
    (constraint_is p pins wires g.wired c (subst (λ (z : List Constraint). Contains z c) g.constraints there)))

-- the key of a placed wire is the number of its net
key_net : (trunks : List Trunk) (way : List ℕ) (a : PlacedWire) → Contains (on_tracks (map net_wire trunks) way) a → a.wire.key ≡ a.wire.net.0
key_net [] way a there = absurd (contains_none a there)
key_net (t ∷ trunks) [] a there = absurd (contains_none a there)
key_net (t ∷ trunks) (x ∷ way) a there =
    elim (contains_cons (on_track (net_wire t) x) (on_tracks (map net_wire trunks) way) a there) [
      | inl same ↦ subst (λ (z : PlacedWire). z.wire.key ≡ z.wire.net.0) same refl
      | inr rest ↦ key_net trunks way a rest
    ]

-- in order of net they are in order of key
keys_ordered : (trunks : List Trunk) (way : List ℕ) → AllPairs (λ (a b : Trunk). a.net.0 < b.net.0) (at_tracks trunks way) → AreInOrder (on_tracks (map net_wire trunks) way)
keys_ordered [] way h = pairs_none (λ (a b : PlacedWire). a.wire.key < b.wire.key)
keys_ordered (t ∷ trunks) [] h = pairs_none (λ (a b : PlacedWire). a.wire.key < b.wire.key)
keys_ordered (t ∷ trunks) (x ∷ way) h =
    AllPairs-cons (λ (a b : PlacedWire). a.wire.key < b.wire.key) (on_track (net_wire t) x) (on_tracks (map net_wire trunks) way)
    (all_from_contains (λ (z : PlacedWire). t.net.0 < z.wire.key) (on_tracks (map net_wire trunks) way) (λ z there.
    let one : Contains (at_tracks trunks way) (trunk_of z) = subst (λ (ts : List Trunk). Contains ts (trunk_of z)) (trunks_placed trunks way) (contains_map trunk_of (on_tracks (map net_wire trunks) way) z there) in
    omega (arith, key_net trunks way z there, All-contains (λ (u : Trunk). t.net.0 < u.net.0) (at_tracks trunks way) (trunk_of z) (pairs_head (λ (a b : Trunk). a.net.0 < b.net.0) (at_track t x) (at_tracks trunks way) h) one)))
    (keys_ordered trunks way (pairs_tail (λ (a b : Trunk). a.net.0 < b.net.0) (at_track t x) (at_tracks trunks way) h))

legal_on : (p : Placement) (pins : Pins) (wires : List Wire) (cs : List Constraint) (trunks : List Trunk) → IsGiven p pins wires cs trunks → (tracks : ℕ) (r : Routing) (placed : List PlacedWire) → map trunk_of placed ≡ r.trunks → ((a : PlacedWire) → Contains placed a → a.wire.key ≡ a.wire.net.0) → IsRoutingOn p pins tracks r → AreLegalOn cs tracks placed
legal_on p pins wires cs trunks g tracks r placed same keys is = record {
  pairs = allows;
  low = λ t there. subst (λ (n : ℕ). t.track < n) is.tracks (All-contains (λ (t : Trunk). t.track < r.tracks) r.trunks (trunk_of t) is.legal.tracks (to t there));
  full = λ track below. full track (some_from_any (λ (t : Trunk). t.track ≡ track) r.trunks (is.legal.full track (subst (λ (n : ℕ). track < n) (sym is.tracks) below)));
}
  where
    to : (t : PlacedWire) → Contains placed t → Contains r.trunks (trunk_of t)
    to t there = subst (λ (ts : List Trunk). Contains ts (trunk_of t)) same (contains_map trunk_of placed t there)

    full : (track : ℕ) → Some' (λ (t : Trunk). t.track ≡ track) r.trunks → Any (λ (t : PlacedWire). t.track ≡ track) placed
    full track t =
        let i : Image trunk_of placed t.it = in_map trunk_of placed t.it (subst (λ (ts : List Trunk). Contains ts t.it) (sym same) t.there) in
        any_at (λ (t : PlacedWire). t.track ≡ track) placed i.of i.listed (subst (λ (z : Trunk). z.track ≡ track) (sym i.is) t.holds)

    over : (c : Constraint) → Contains cs c → (a b : PlacedWire) → Contains placed a → Contains placed b → c.upper ≡ a.wire.key → c.lower ≡ b.wire.key → b.track < a.track
    over c hc a b ha hb eu el = is.legal.above (trunk_of a) (trunk_of b) (to a ha) (to b hb) c.line (above_from p pins wires cs trunks g c hc a.wire.net b.wire.net (omega (arith, eu, keys a ha)) (omega (arith, el, keys b hb)))

    allows : (a b : PlacedWire) → Contains placed a → Contains placed b → a.wire.key ≢ b.wire.key → Allows cs a b
    allows a b ha hb differ = record {
      apart = λ other one. is.legal.apart (trunk_of a) (trunk_of b) (to a ha) (to b hb) other one;
      below = λ c hc eu el. over c hc a b ha hb eu el;
      above = λ c hc eu el. over c hc b a hb ha eu el;
    }

-- each legal routing is a way
goes_for : (p : Placement) (pins : Pins) (wires : List Wire) (cs : List Constraint) (trunks : List Trunk) → IsGiven p pins wires cs trunks → (tracks : ℕ) (r : Routing) → IsRoutingOn p pins tracks r → Go cs tracks [] (map net_wire trunks) (tracks_of r)
goes_for p pins wires cs trunks g tracks r is =
    legal_goes cs tracks [] (map net_wire trunks) (tracks_of r) long (keys_ordered trunks (tracks_of r) (subst (λ (ts : List Trunk). AllPairs (λ (a b : Trunk). a.net.0 < b.net.0) ts) (sym back) is.legal.order))
    (legal_on p pins wires cs trunks g tracks r (on_tracks (map net_wire trunks) (tracks_of r)) (trunks_placed trunks (tracks_of r) ∙ back) (key_net trunks (tracks_of r)) is)
  where
    same : map low trunks ≡ map low r.trunks
    same = one_bare p pins trunks r.trunks (bare p pins wires cs trunks g) (bare_of p pins r is.legal)

    back : at_tracks trunks (tracks_of r) ≡ r.trunks
    back = sym (tracks_on_low trunks (tracks_of r)) ∙ (ap (λ (ts : List Trunk). at_tracks ts (tracks_of r)) same ∙ tracks_back r.trunks)

    long : length (map net_wire trunks) ≡ length (tracks_of r)
    long = omega (arith, length-map trunks net_wire, length-map trunks low, length-map r.trunks low, length-map r.trunks (λ (t : Trunk). t.track), ap (λ (ts : List Trunk). length ts) same)

-- as long as the trunks
way_long : (cs : List Constraint) (tracks : ℕ) (trunks : List Trunk) (way : List ℕ) → Go cs tracks [] (map net_wire trunks) way → length trunks ≡ length way
way_long cs tracks trunks way goes = omega (arith, length-map trunks net_wire, goes_length cs tracks [] (map net_wire trunks) way goes)

-- each way is a legal routing
legal_for : (p : Placement) (pins : Pins) (wires : List Wire) (cs : List Constraint) (trunks : List Trunk) → IsGiven p pins wires cs trunks → (tracks : ℕ) (way : List ℕ) → Go cs tracks [] (map net_wire trunks) way → IsLegal p pins (routing_of tracks (at_tracks trunks way))
legal_for p pins wires cs trunks g tracks way goes = record {
  nets = on_bare.nets;
  order = on_bare.order;
  spans = all_from_contains (λ (t : Trunk). IsSpan p t.net t.left t.right) (at_tracks trunks way) on_bare.spans;
  apart = λ a b ha hb. apart a b (from a ha) (from b hb);
  above = λ a b ha hb line. above a b line (from a ha) (from b hb);
  tracks = all_from_contains (λ (t : Trunk). t.track < tracks) (at_tracks trunks way) (λ t there. let i : Image trunk_of placed t = from t there in subst (λ (z : Trunk). z.track < tracks) i.is (on.low i.of i.listed));
  full = λ track below. full track (some_from_any (λ (t : PlacedWire). t.track ≡ track) placed (on.full track below));
}
  where
    placed : List PlacedWire
    placed = on_tracks (map net_wire trunks) way

    on_bare : AreBare p pins (at_tracks trunks way)
    on_bare = bare_back p pins (at_tracks trunks way) (subst (λ (ts : List Trunk). AreBare p pins ts) (sym (low_on_tracks trunks way (way_long cs tracks trunks way goes))) (bare_low p pins trunks (bare p pins wires cs trunks g)))

    on : AreLegalOn cs tracks placed
    on = goes_legal cs tracks [] (map net_wire trunks) way goes (λ a b ha hb differ. absurd (contains_none a ha)) (λ t there. absurd (contains_none t there))

    from : (t : Trunk) → Contains (at_tracks trunks way) t → Image trunk_of placed t
    from t there = in_map trunk_of placed t (subst (λ (ts : List Trunk). Contains ts t) (sym (trunks_placed trunks way)) there)

    full : (track : ℕ) → Some' (λ (t : PlacedWire). t.track ≡ track) placed → Any (λ (t : Trunk). t.track ≡ track) (at_tracks trunks way)
    full track t = any_at (λ (t : Trunk). t.track ≡ track) (at_tracks trunks way) (trunk_of t.it) (subst (λ (ts : List Trunk). Contains ts (trunk_of t.it)) (trunks_placed trunks way) (contains_map trunk_of placed t.it t.there)) t.holds

    -- wires of different nets have different keys
    allows : (a b : PlacedWire) → Contains placed a → Contains placed b → a.wire.net ≢ b.wire.net → Allows cs a b
    allows a b ha hb differ = on.pairs a b ha hb (λ one. differ (ap net_of (let same : a.wire.net.0 ≡ b.wire.net.0 = omega (arith, one, key_net trunks way a ha, key_net trunks way b hb) in same)))

    apart : (a b : Trunk) → Image trunk_of placed a → Image trunk_of placed b → a.net ≢ b.net → a.track ≡ b.track → AreApart a b
    apart a b x y =
        subst (λ (u : Trunk). u.net ≢ b.net → u.track ≡ b.track → AreApart u b) x.is
        (subst (λ (v : Trunk). (trunk_of x.of).net ≢ v.net → (trunk_of x.of).track ≡ v.track → AreApart (trunk_of x.of) v) y.is (λ differ same. (allows x.of y.of x.listed y.listed differ).apart differ same))

    there : (a b : NetNo) (line : ℕ) → IsAbove p pins a b line → Contains cs (record { upper = a.0; lower = b.0; line = line })
    there a b line over = subst (λ (z : List Constraint). Contains z (record { upper = a.0; lower = b.0; line = line })) (sym g.constraints) (constraint_there p pins wires g.wired a b line over)

    above : (a b : Trunk) (line : ℕ) → Image trunk_of placed a → Image trunk_of placed b → IsAbove p pins a.net b.net line → b.track < a.track
    above a b line x y =
        subst (λ (u : Trunk). IsAbove p pins u.net b.net line → b.track < u.track) x.is
        (subst (λ (v : Trunk). IsAbove p pins (trunk_of x.of).net v.net line → v.track < (trunk_of x.of).track) y.is
        (λ over. (allows x.of y.of x.listed y.listed over.differ).below (record { upper = x.of.wire.net.0; lower = y.of.wire.net.0; line = line }) (there x.of.wire.net y.of.wire.net line over) (sym (key_net trunks way x.of x.listed)) (sym (key_net trunks way y.of y.listed))))

pub first_is : (p : Placement) (pins : Pins) (wires : List Wire) (cs : List Constraint) (trunks : List Trunk) → IsGiven p pins wires cs trunks → (tracks : ℕ) (placed : List PlacedWire) → AreFirst cs tracks [] (map net_wire trunks) placed → IsFirstRouting p pins tracks (routing_of tracks (map trunk_of placed))
first_is p pins wires cs trunks g tracks placed h = subst (λ (ts : List Trunk). IsFirstRouting p pins tracks (routing_of tracks ts)) (sym (ap (λ (ws : List PlacedWire). map trunk_of ws) h.is ∙ trunks_placed trunks h.way)) (record {
  is = record { legal = legal_for p pins wires cs trunks g tracks h.way h.goes; tracks = refl };
  first = λ other is. subst (λ (ts : List ℕ). IsNoLater ts (tracks_of other)) (sym (tracks_on_tracks trunks h.way (way_long cs tracks trunks h.way h.goes))) (h.first (tracks_of other) (goes_for p pins wires cs trunks g tracks other is));
})

pub none_is : (p : Placement) (pins : Pins) (wires : List Wire) (cs : List Constraint) (trunks : List Trunk) → IsGiven p pins wires cs trunks → (tracks : ℕ) → Fails cs tracks [] (map net_wire trunks) → HasNoRouting p pins tracks
none_is p pins wires cs trunks g tracks fails r is = fails (tracks_of r) (goes_for p pins wires cs trunks g tracks r is)

pub all_tries : (p : Placement) (pins : Pins) (wires : List Wire) (cs : List Constraint) (trunks : List Trunk) → IsGiven p pins wires cs trunks → (tracks : ℕ) → AreAllTries p pins tracks (tries cs tracks [] (map net_wire trunks))
all_tries p pins wires cs trunks g tracks = record { wires = wires; wired = g.wired; trunks = trunks; moved = g.moved; sorted = g.sorted; are = ap (λ (z : List Constraint). tries z tracks [] (map net_wire trunks)) g.constraints }
