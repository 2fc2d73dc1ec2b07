-- The trunks of a placement, whatever their tracks: there is one list of them.
use Rattle.std.proofs.Common.{ℕ, ◌≡◌, ◌≢◌, ◌<◌, ◌≤◌, ◌==◌, ◌↔◌, true, false, List, [], ◌∷◌, length, map, inl, inr, refl, sym, ap, subst, arith, ◌∙◌, Any, AllPairs, Contains, IsPermutation, IsSorted}
use Rattle.std.specs.Ordering.{is_lt}
use Rattle.std.proofs.lemmas.Bool.{cases_order}
use Rattle.std.proofs.lemmas.List.Elements.{All-contains}
use Rattle.std.proofs.lemmas.List.Kept.{AllPairs-cons}
use Rattle.std.proofs.lemmas.List.Sorted.{Contains-permutation, IsPermutation-sym}
use Rattle.cell_num.specs.declared.net.NetNo.{NetNo}
use Rattle.cell_num.specs.declared.net.Pins.{Pins}
use Rattle.cell_num.proofs.In.{Image, in_map, contains_map}
use Rattle.cell_num.proofs.Lists.{all_from_contains}
use Rattle.cell_num.proofs.Pairs.{Some', some_from_any, any_at, OneEach, one_each_permutation, pairs_from_sorted, pairs_none, pairs_head, pairs_tail}
use Rattle.row_place.specs.declared.placement.Placement.{Placement}
use Rattle.row_place.specs.Trunks.{lines_of, HasTrunk, IsSpan}
use Rattle.row_place.proofs.Order.{same_list}
use Rattle.channel_route.specs.declared.routing.Trunk.{Trunk}
use Rattle.channel_route.specs.declared.wire.Wire.{Wire}
use Rattle.channel_route.specs.declared.wire.PlacedWire.{PlacedWire}
use Rattle.channel_route.specs.Graph.{trunk_of}
use Rattle.channel_route.specs.Wires.{IsWire, AreWires, trunk_cmp}
use Rattle.channel_route.proofs.FilledTracks.{count_map, one_each_like}
use Rattle.channel_route.proofs.NetWires.{cmp_less}
use Rattle.channel_route.proofs.TrunkChannel.{is_wire, wire_of_net}
use Rattle.first_route.specs.Ways.{low_wire, net_wire, on_tracks}

abbrev pub at_track : Trunk → ℕ → Trunk
at_track t track = record { net = t.net; left = t.left; right = t.right; track = track }

-- the trunks, each on its track
abbrev pub at_tracks : List Trunk → List ℕ → List Trunk
at_tracks (t ∷ trunks) (track ∷ tracks) = at_track t track ∷ at_tracks trunks tracks
at_tracks _ _ = []

-- in order of net
abbrev pub AreInOrder : List Trunk → Type 0
AreInOrder trunks = AllPairs (λ a b. a.net.0 < b.net.0) trunks

-- each net that needs a trunk has one, over its span, in order of net
pub record AreBare (placement : Placement) (pins : Pins) (trunks : List Trunk) : Type 0 where
  pub nets : (net : NetNo) → HasTrunk placement pins net ↔ Any (λ t. t.net ≡ net) trunks
  pub order : AreInOrder trunks
  pub spans : (t : Trunk) → Contains trunks t → IsSpan placement t.net t.left t.right

abbrev pub low : Trunk → Trunk
low t = at_track t 0

-- the same trunks on the lowest track
order_low : (ts : List Trunk) → AreInOrder ts → AreInOrder (map low ts)
order_low [] h = pairs_none (λ (a b : Trunk). a.net.0 < b.net.0)
order_low (t ∷ ts) h =
    AllPairs-cons (λ (a b : Trunk). a.net.0 < b.net.0) (low t) (map low ts)
    (all_from_contains (λ (z : Trunk). t.net.0 < z.net.0) (map low ts) (λ z there. let i : Image low ts z = in_map low ts z there in subst (λ (y : Trunk). t.net.0 < y.net.0) i.is (All-contains (λ (y : Trunk). t.net.0 < y.net.0) ts i.of (pairs_head (λ (a b : Trunk). a.net.0 < b.net.0) t ts h) i.listed)))
    (order_low ts (pairs_tail (λ (a b : Trunk). a.net.0 < b.net.0) t ts h))

order_back : (ts : List Trunk) → AreInOrder (map low ts) → AreInOrder ts
order_back [] h = pairs_none (λ (a b : Trunk). a.net.0 < b.net.0)
order_back (t ∷ ts) h =
    AllPairs-cons (λ (a b : Trunk). a.net.0 < b.net.0) t ts
    (all_from_contains (λ (z : Trunk). t.net.0 < z.net.0) ts (λ z there. All-contains (λ (y : Trunk). t.net.0 < y.net.0) (map low ts) (low z) (pairs_head (λ (a b : Trunk). a.net.0 < b.net.0) (low t) (map low ts) h) (contains_map low ts z there)))
    (order_back ts (pairs_tail (λ (a b : Trunk). a.net.0 < b.net.0) (low t) (map low ts) h))

pub bare_low : (p : Placement) (pins : Pins) (ts : List Trunk) → AreBare p pins ts → AreBare p pins (map low ts)
bare_low p pins ts h = record {
  nets = λ net. (
    λ has. let t : Some' (λ (t : Trunk). t.net ≡ net) ts = some_from_any (λ (t : Trunk). t.net ≡ net) ts ((h.nets net).0 has) in any_at (λ (t : Trunk). t.net ≡ net) (map low ts) (low t.it) (contains_map low ts t.it t.there) t.holds,
    λ any. let t : Some' (λ (t : Trunk). t.net ≡ net) (map low ts) = some_from_any (λ (t : Trunk). t.net ≡ net) (map low ts) any in let i : Image low ts t.it = in_map low ts t.it t.there in (h.nets net).1 (any_at (λ (t : Trunk). t.net ≡ net) ts i.of i.listed (subst (λ (z : Trunk). z.net ≡ net) (sym i.is) t.holds)),
  );
  order = order_low ts h.order;
  spans = λ t there. let i : Image low ts t = in_map low ts t there in subst (λ (z : Trunk). IsSpan p z.net z.left z.right) i.is (h.spans i.of i.listed);
}

pub bare_back : (p : Placement) (pins : Pins) (ts : List Trunk) → AreBare p pins (map low ts) → AreBare p pins ts
bare_back p pins ts h = record {
  nets = λ net. (
    λ has. let t : Some' (λ (t : Trunk). t.net ≡ net) (map low ts) = some_from_any (λ (t : Trunk). t.net ≡ net) (map low ts) ((h.nets net).0 has) in let i : Image low ts t.it = in_map low ts t.it t.there in any_at (λ (t : Trunk). t.net ≡ net) ts i.of i.listed (subst (λ (z : Trunk). z.net ≡ net) (sym i.is) t.holds),
    λ any. let t : Some' (λ (t : Trunk). t.net ≡ net) ts = some_from_any (λ (t : Trunk). t.net ≡ net) ts any in (h.nets net).1 (any_at (λ (t : Trunk). t.net ≡ net) (map low ts) (low t.it) (contains_map low ts t.it t.there) t.holds),
  );
  order = order_back ts h.order;
  spans = λ t there. h.spans (low t) (contains_map low ts t there);
}

-- a span is known from the net
begins_same : (p : Placement) (net : NetNo) (a b c d : ℕ) → IsSpan p net a b → IsSpan p net c d → a ≡ c
begins_same p net a b c d x y = omega (arith, All-contains (λ line. a ≤ line) (lines_of p net) c x.none_before y.begins, All-contains (λ line. c ≤ line) (lines_of p net) a y.none_before x.begins)

ends_same : (p : Placement) (net : NetNo) (a b c d : ℕ) → IsSpan p net a b → IsSpan p net c d → b ≡ d
ends_same p net a b c d x y = omega (arith, All-contains (λ line. line ≤ b) (lines_of p net) d x.none_behind y.ends, All-contains (λ line. line ≤ d) (lines_of p net) b y.none_behind x.ends)

make_low : NetNo → ℕ → ℕ → Trunk
make_low net left right = record { net = net; left = left; right = right; track = 0 }

made_low : {n m : NetNo} {a b c d : ℕ} → n ≡ m → a ≡ b → c ≡ d → make_low n a c ≡ make_low m b d
made_low en ea ec = cc

low_same : (a b : Trunk) → a.net ≡ b.net → a.left ≡ b.left → a.right ≡ b.right → low a ≡ low b
unfolding make_low
low_same a b en el er = made_low en el er

-- each trunk of one list is in the other one
there_too : (p : Placement) (pins : Pins) (xs ys : List Trunk) → AreBare p pins xs → AreBare p pins ys → (z : Trunk) → Contains (map low xs) z → Contains (map low ys) z
there_too p pins xs ys hx hy z there =
    let i : Image low xs z = in_map low xs z there in
    let t : Some' (λ (t : Trunk). t.net ≡ i.of.net) ys = some_from_any (λ (t : Trunk). t.net ≡ i.of.net) ys ((hy.nets i.of.net).0 ((hx.nets i.of.net).1 (any_at (λ (t : Trunk). t.net ≡ i.of.net) xs i.of i.listed refl))) in
    let mine : IsSpan p i.of.net i.of.left i.of.right = hx.spans i.of i.listed in
    let other : IsSpan p i.of.net t.it.left t.it.right = subst (λ (n : NetNo). IsSpan p n t.it.left t.it.right) t.holds (hy.spans t.it t.there) in
    let same : low t.it ≡ low i.of = low_same t.it i.of t.holds (begins_same p i.of.net t.it.left t.it.right i.of.left i.of.right other mine) (ends_same p i.of.net t.it.left t.it.right i.of.left i.of.right other mine) in
    subst (λ (w : Trunk). Contains (map low ys) w) (same ∙ i.is) (contains_map low ys t.it t.there)

pub one_bare : (p : Placement) (pins : Pins) (xs ys : List Trunk) → AreBare p pins xs → AreBare p pins ys → map low xs ≡ map low ys
one_bare p pins xs ys hx hy = same_list (λ (a b : Trunk). a.net.0 < b.net.0) (λ a b e f. omega (arith, e, f)) (map low xs) (map low ys) (order_low xs hx.order) (order_low ys hy.order) (there_too p pins xs ys hx hy) (there_too p pins ys xs hy hx)

-- put back on their tracks
pub tracks_back : (ts : List Trunk) → at_tracks (map low ts) (map (λ (t : Trunk). t.track) ts) ≡ ts
tracks_back [] = refl
tracks_back (t ∷ ts) = ap (λ (xs : List Trunk). t ∷ xs) (tracks_back ts)

pub tracks_on_low : (ts : List Trunk) (way : List ℕ) → at_tracks (map low ts) way ≡ at_tracks ts way
tracks_on_low [] way = refl
tracks_on_low (t ∷ ts) [] = refl
tracks_on_low (t ∷ ts) (x ∷ way) = ap (λ (xs : List Trunk). at_track t x ∷ xs) (tracks_on_low ts way)

pub low_on_tracks : (ts : List Trunk) (way : List ℕ) → length ts ≡ length way → map low (at_tracks ts way) ≡ map low ts
low_on_tracks [] way same = refl
low_on_tracks (t ∷ ts) [] same = absurd (omega (arith, same))
low_on_tracks (t ∷ ts) (x ∷ way) same = ap (λ (xs : List Trunk). low t ∷ xs) (low_on_tracks ts way (omega (arith, same)))

pub tracks_on_tracks : (ts : List Trunk) (way : List ℕ) → length ts ≡ length way → map (λ (t : Trunk). t.track) (at_tracks ts way) ≡ way
tracks_on_tracks [] [] same = refl
tracks_on_tracks [] (x ∷ way) same = absurd (omega (arith, same))
tracks_on_tracks (t ∷ ts) [] same = absurd (omega (arith, same))
tracks_on_tracks (t ∷ ts) (x ∷ way) same = ap (λ (xs : List ℕ). x ∷ xs) (tracks_on_tracks ts way (omega (arith, same)))

-- as the wires of the trunks are placed
pub trunks_placed : (ts : List Trunk) (way : List ℕ) → map trunk_of (on_tracks (map net_wire ts) way) ≡ at_tracks ts way
trunks_placed [] way = refl
trunks_placed (t ∷ ts) [] = refl
trunks_placed (t ∷ ts) (x ∷ way) = ap (λ (xs : List Trunk). at_track t x ∷ xs) (trunks_placed ts way)

net_less : (a b c : Trunk) → a.net.0 < b.net.0 → b.net.0 < c.net.0 → a.net.0 < c.net.0
net_less a b c e f = omega (arith, e, f)

less_from_cmp : (a b : Trunk) → is_lt (trunk_cmp b a) ≡ false → a.net.0 ≢ b.net.0 → a.net.0 < b.net.0
less_from_cmp a b e differ =
    elim (cases_order a.net.0 b.net.0) [
      | inl same ↦ absurd (differ same)
      | inr other ↦ elim other [ inl less ↦ less | inr more ↦ absurd (wrong more) ]
    ]
  where
    wrong : b.net.0 < a.net.0 → ⊥
    wrong h = let lt : is_lt (trunk_cmp b a) ≡ true = rw (cmp_less b.net.0 a.net.0 h) refl in cc

-- the trunks of wires
pub bare_wires : (p : Placement) (pins : Pins) (wires : List Wire) (trunks : List Trunk) → AreWires p pins wires → IsPermutation (map trunk_of (map low_wire wires)) trunks → IsSorted trunk_cmp trunks → AreBare p pins trunks
bare_wires p pins wires trunks h moved sorted = record {
  nets = λ net. (
    λ has. let w : Some' (λ (w : Wire). w.net ≡ net) wires = wire_of_net p pins wires h net has in any_at (λ (t : Trunk). t.net ≡ net) trunks (trunk_of (low_wire w.it)) (to w.it w.there) w.holds,
    λ any. let t : Some' (λ (t : Trunk). t.net ≡ net) trunks = some_from_any (λ (t : Trunk). t.net ≡ net) trunks any in subst (λ n. HasTrunk p pins n) t.holds (is t.it (from t.it t.there)).0,
  );
  order = pairs_from_sorted (λ a b. is_lt (trunk_cmp a b)) (λ (t : Trunk). t.net.0) (λ (a b : Trunk). a.net.0 < b.net.0) net_less less_from_cmp trunks sorted one;
  spans = λ t there. (is t (from t there)).1;
}
  where
    lows : List PlacedWire
    lows = map low_wire wires

    to : (w : Wire) → Contains wires w → Contains trunks (trunk_of (low_wire w))
    to w there = Contains-permutation (map trunk_of lows) trunks (trunk_of (low_wire w)) moved (contains_map trunk_of lows (low_wire w) (contains_map low_wire wires w there))

    from : (t : Trunk) → Contains trunks t → Image (λ (w : Wire). trunk_of (low_wire w)) wires t
    from t there =
        let i : Image trunk_of lows t = in_map trunk_of lows t (Contains-permutation trunks (map trunk_of lows) t (IsPermutation-sym (map trunk_of lows) trunks moved) there) in
        let j : Image low_wire wires i.of = in_map low_wire wires i.of i.listed in
        record { of = j.of; listed = j.listed; is = ap trunk_of j.is ∙ i.is }

    is : (t : Trunk) → Image (λ (w : Wire). trunk_of (low_wire w)) wires t → HasTrunk p pins t.net × IsSpan p t.net t.left t.right
    is t i = let w : IsWire p pins i.of = is_wire p pins wires h i.of i.listed in subst (λ (z : Trunk). HasTrunk p pins z.net × IsSpan p z.net z.left z.right) i.is (w.trunk, w.span)

    nets_one : OneEach (λ (w : Wire). w.net.0) wires
    nets_one = one_each_like (λ (w : Wire). w.key) (λ (w : Wire). w.net.0) wires (λ w there. (is_wire p pins wires h w there).key) h.found.distinct

    one : OneEach (λ (t : Trunk). t.net.0) trunks
    one = one_each_permutation (λ (t : Trunk). t.net.0) (map trunk_of lows) trunks moved (λ n. omega (arith, nets_one n, count_map low_wire (λ (q : PlacedWire). q.wire.net.0 == n) wires, count_map trunk_of (λ (t : Trunk). t.net.0 == n) lows))
