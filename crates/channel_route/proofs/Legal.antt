-- What the filled tracks are for the placement: legal, tight, and proof that no cycle exists.
use Rattle.std.proofs.Common.{ℕ, ◌≡◌, ◌≢◌, ◌<◌, ◌⊎◌, ◌==◌, true, false, List, [], ◌∷◌, map, length, inl, inr, refl, sym, ap, subst, arith, Contains, IsPermutation, IsSorted}
use Rattle.std.specs.Ordering.{is_lt}
use Rattle.std.proofs.lemmas.Bool.{cases_eq, cases_order}
use Rattle.std.proofs.lemmas.List.Sorted.{Contains-permutation, IsPermutation-sym}
use Rattle.cell_num.specs.declared.net.NetNo.{NetNo}
use Rattle.cell_num.specs.declared.net.Pins.{Pins}
use Rattle.cell_num.specs.declared.finger.Row.TheVariants.{P, N}
use Rattle.cell_num.proofs.In.{Image, in_map, contains_map}
use Rattle.row_place.specs.declared.placement.Placement.{Placement}
use Rattle.row_place.specs.Trunks.{HasTrunk, IsSpan, IsAbove}
use Rattle.cell_num.proofs.Lists.{all_from_contains}
use Rattle.channel_route.specs.declared.routing.Trunk.{Trunk}
use Rattle.channel_route.specs.declared.routing.Routing.{Routing}
use Rattle.channel_route.specs.declared.routing.Above.{Above}
use Rattle.channel_route.specs.declared.wire.Wire.{Wire}
use Rattle.channel_route.specs.declared.wire.PlacedWire.{PlacedWire}
use Rattle.channel_route.specs.Routing.{AreApart, IsLegal, IsEarlier, IsFree, IsTight}
use Rattle.channel_route.specs.Cycle.{nets, by_number, HasNoCycle}
use Rattle.channel_route.specs.Walk.{next_key, IsWalk}
use Rattle.channel_route.specs.Graph.{trunk_of, IsBefore, IsFilled}
use Rattle.channel_route.specs.Turn.{IsOver}
use Rattle.channel_route.specs.Wires.{IsWire, AreWires, constraints_of, trunk_cmp}
use Rattle.cell_num.proofs.Pairs.{Some', some_from_any, any_at, OneEach, one_each_permutation, one_each_same, pairs_from_sorted}
use Rattle.channel_route.proofs.FilledTracks.{IsFull, IsFreeWire, count_map, placed_wire, wire_placed, same_placed, one_each_placed, one_each_like, above_at, not_lower}
use Rattle.channel_route.proofs.NetWires.{cmp_less}
use Rattle.channel_route.proofs.TrunkChannel.{net_of, is_wire, net_is, wire_of_net, holds_node, channel, constraint_is}

-- the tracks of a placement, filled
pub record IsDone (p : Placement) (pins : Pins) (wires : List Wire) (placed : List PlacedWire) (trunks : List Trunk) (tracks : ℕ) : Type 0 where
  pub wired : AreWires p pins wires
  pub filled : IsFilled wires (constraints_of wires p.nodes) placed [] tracks
  pub moved : IsPermutation (map trunk_of placed) trunks
  pub sorted : IsSorted trunk_cmp trunks

abbrev pub routing_of : List Trunk → ℕ → Routing
routing_of trunks tracks = record { tracks = tracks; trunks = trunks }

pub full_of : (p : Placement) (pins : Pins) (wires : List Wire) (placed : List PlacedWire) (trunks : List Trunk) (tracks : ℕ) → IsDone p pins wires placed trunks tracks → IsFull wires (constraints_of wires p.nodes) placed tracks
full_of p pins wires placed trunks tracks d = record { channel = channel p pins wires d.wired; filled = d.filled }

-- to and from the sorted list of trunks
pub to_sorted : (p : Placement) (pins : Pins) (wires : List Wire) (placed : List PlacedWire) (trunks : List Trunk) (tracks : ℕ) → IsDone p pins wires placed trunks tracks → (t : PlacedWire) → Contains placed t → Contains trunks (trunk_of t)
to_sorted p pins wires placed trunks tracks d t there = Contains-permutation (map trunk_of placed) trunks (trunk_of t) d.moved (contains_map trunk_of placed t there)

pub from_sorted : (p : Placement) (pins : Pins) (wires : List Wire) (placed : List PlacedWire) (trunks : List Trunk) (tracks : ℕ) → IsDone p pins wires placed trunks tracks → (t : Trunk) → Contains trunks t → Image trunk_of placed t
from_sorted p pins wires placed trunks tracks d t there = in_map trunk_of placed t (Contains-permutation trunks (map trunk_of placed) t (IsPermutation-sym (map trunk_of placed) trunks d.moved) there)

pub placed_is : (p : Placement) (pins : Pins) (wires : List Wire) (placed : List PlacedWire) (trunks : List Trunk) (tracks : ℕ) → IsDone p pins wires placed trunks tracks → (t : PlacedWire) → Contains placed t → IsWire p pins t.wire
placed_is p pins wires placed trunks tracks d t there = is_wire p pins wires d.wired t.wire (placed_wire wires (constraints_of wires p.nodes) placed tracks (full_of p pins wires placed trunks tracks d) t there)

-- one trunk a net
same_net : (p : Placement) (pins : Pins) (wires : List Wire) (placed : List PlacedWire) (trunks : List Trunk) (tracks : ℕ) → IsDone p pins wires placed trunks tracks → (a b : PlacedWire) → Contains placed a → Contains placed b → a.wire.net ≡ b.wire.net → a ≡ b
same_net p pins wires placed trunks tracks d a b ha hb e =
    same_placed wires (constraints_of wires p.nodes) placed tracks (full_of p pins wires placed trunks tracks d) a b ha hb
    (omega (arith, (placed_is p pins wires placed trunks tracks d a ha).key, (placed_is p pins wires placed trunks tracks d b hb).key, ap (λ (n : NetNo). n.0) e))

pub one_each_sorted : (p : Placement) (pins : Pins) (wires : List Wire) (placed : List PlacedWire) (trunks : List Trunk) (tracks : ℕ) → IsDone p pins wires placed trunks tracks → OneEach (λ (t : Trunk). t.net.0) trunks
one_each_sorted p pins wires placed trunks tracks d = one_each_permutation (λ (t : Trunk). t.net.0) (map trunk_of placed) trunks d.moved (λ n. omega (arith, one n, count_map trunk_of (λ (t : Trunk). t.net.0 == n) placed))
  where
    one : OneEach (λ (t : PlacedWire). t.wire.net.0) placed
    one = one_each_like (λ (t : PlacedWire). t.wire.key) (λ (t : PlacedWire). t.wire.net.0) placed (λ t there. (placed_is p pins wires placed trunks tracks d t there).key) (one_each_placed wires (constraints_of wires p.nodes) placed tracks (full_of p pins wires placed trunks tracks d))

-- a trunk is of a wire, and each net with a trunk has one
pub trunk_span : (p : Placement) (pins : Pins) (wires : List Wire) (placed : List PlacedWire) (trunks : List Trunk) (tracks : ℕ) → IsDone p pins wires placed trunks tracks → (t : Trunk) → Contains trunks t → HasTrunk p pins t.net × IsSpan p t.net t.left t.right
trunk_span p pins wires placed trunks tracks d t there =
    let of : Image trunk_of placed t = from_sorted p pins wires placed trunks tracks d t there in
    let is : IsWire p pins of.of.wire = placed_is p pins wires placed trunks tracks d of.of of.listed in
    subst (λ (z : Trunk). HasTrunk p pins z.net × IsSpan p z.net z.left z.right) of.is (is.trunk, is.span)

pub net_placed : (p : Placement) (pins : Pins) (wires : List Wire) (placed : List PlacedWire) (trunks : List Trunk) (tracks : ℕ) → IsDone p pins wires placed trunks tracks → (net : NetNo) → HasTrunk p pins net → Some' (λ (t : PlacedWire). t.wire.net ≡ net) placed
net_placed p pins wires placed trunks tracks d net has =
    let w : Some' (λ (w : Wire). w.net ≡ net) wires = wire_of_net p pins wires d.wired net has in
    let t : Some' (λ (t : PlacedWire). t.wire ≡ w.it) placed = wire_placed wires (constraints_of wires p.nodes) placed tracks (full_of p pins wires placed trunks tracks d) w.it w.there in
    record { it = t.it; there = t.there; holds = subst (λ (z : Wire). z.net ≡ net) (sym t.holds) w.holds }

net_less : (a b c : Trunk) → a.net.0 < b.net.0 → b.net.0 < c.net.0 → a.net.0 < c.net.0
net_less a b c e f = omega (arith, e, f)

less_from_cmp : (a b : Trunk) → is_lt (trunk_cmp b a) ≡ false → a.net.0 ≢ b.net.0 → a.net.0 < b.net.0
less_from_cmp a b e differ =
    elim (cases_order a.net.0 b.net.0) [
      | inl same ↦ absurd (differ same)
      | inr other ↦ elim other [ inl less ↦ less | inr more ↦ absurd (wrong more) ]
    ]
  where
    wrong : b.net.0 < a.net.0 → ⊥
    wrong h = let lt : is_lt (trunk_cmp b a) ≡ true = rw (cmp_less b.net.0 a.net.0 h) refl in cc

-- where a wire stands above another, so do their nets
above_of : (p : Placement) (pins : Pins) (wires : List Wire) (placed : List PlacedWire) (trunks : List Trunk) (tracks : ℕ) → IsDone p pins wires placed trunks tracks → (a b : PlacedWire) → Contains placed a → Contains placed b → (line : ℕ) → IsOver (constraints_of wires p.nodes) a.wire.key b.wire.key line → IsAbove p pins a.wire.net b.wire.net line
above_of p pins wires placed trunks tracks d a b ha hb line over =
    subst (λ n. IsAbove p pins n b.wire.net line) (sym (net_is p pins a.wire (placed_is p pins wires placed trunks tracks d a ha)))
    (subst (λ n. IsAbove p pins (net_of a.wire.key) n line) (sym (net_is p pins b.wire (placed_is p pins wires placed trunks tracks d b hb)))
    (constraint_is p pins wires d.wired (record { upper = a.wire.key; lower = b.wire.key; line = line }) over))

pub legal : (p : Placement) (pins : Pins) (wires : List Wire) (placed : List PlacedWire) (trunks : List Trunk) (tracks : ℕ) → IsDone p pins wires placed trunks tracks → IsLegal p pins (routing_of trunks tracks)
legal p pins wires placed trunks tracks d = record {
  nets = λ net. (
    λ has. let t : Some' (λ (t : PlacedWire). t.wire.net ≡ net) placed = net_placed p pins wires placed trunks tracks d net has in any_at (λ (t : Trunk). t.net ≡ net) trunks (trunk_of t.it) (to_sorted p pins wires placed trunks tracks d t.it t.there) t.holds,
    λ any. let t : Some' (λ (t : Trunk). t.net ≡ net) trunks = some_from_any (λ (t : Trunk). t.net ≡ net) trunks any in subst (λ n. HasTrunk p pins n) t.holds (trunk_span p pins wires placed trunks tracks d t.it t.there).0,
  );
  order = pairs_from_sorted (λ a b. is_lt (trunk_cmp a b)) (λ (t : Trunk). t.net.0) (λ (a b : Trunk). a.net.0 < b.net.0) net_less less_from_cmp trunks d.sorted (one_each_sorted p pins wires placed trunks tracks d);
  spans = all_from_contains (λ (t : Trunk). IsSpan p t.net t.left t.right) trunks (λ t there. (trunk_span p pins wires placed trunks tracks d t there).1);
  apart = λ a b ha hb. apart a b (from_sorted p pins wires placed trunks tracks d a ha) (from_sorted p pins wires placed trunks tracks d b hb);
  above = λ a b ha hb line over. above a b line (from_sorted p pins wires placed trunks tracks d a ha) (from_sorted p pins wires placed trunks tracks d b hb) over;
  tracks = all_from_contains (λ (t : Trunk). t.track < tracks) trunks (λ t there. let of : Image trunk_of placed t = from_sorted p pins wires placed trunks tracks d t there in subst (λ (z : Trunk). z.track < tracks) of.is (d.filled.low of.of of.listed));
  full = λ track below. let t : Some' (λ (t : PlacedWire). t.track ≡ track) placed = some_from_any (λ (t : PlacedWire). t.track ≡ track) placed (d.filled.part.full track below) in any_at (λ (t : Trunk). t.track ≡ track) trunks (trunk_of t.it) (to_sorted p pins wires placed trunks tracks d t.it t.there) t.holds;
}
  where
    apart : (a b : Trunk) → Image trunk_of placed a → Image trunk_of placed b → a.net ≢ b.net → a.track ≡ b.track → AreApart a b
    apart a b x y =
        subst (λ (u : Trunk). u.net ≢ b.net → u.track ≡ b.track → AreApart u b) x.is
        (subst (λ (v : Trunk). (trunk_of x.of).net ≢ v.net → (trunk_of x.of).track ≡ v.track → AreApart (trunk_of x.of) v) y.is (λ differ same. d.filled.part.apart x.of y.of x.listed y.listed differ same))

    above : (a b : Trunk) (line : ℕ) → Image trunk_of placed a → Image trunk_of placed b → IsAbove p pins a.net b.net line → b.track < a.track
    above a b line x y =
        subst (λ (u : Trunk). IsAbove p pins u.net b.net line → b.track < u.track) x.is
        (subst (λ (v : Trunk). IsAbove p pins (trunk_of x.of).net v.net line → v.track < (trunk_of x.of).track) y.is
        (λ over. above_at wires p.nodes placed tracks (full_of p pins wires placed trunks tracks d) x.of y.of x.listed y.listed line over.p over.n over.differ
        (holds_node p pins x.of.wire (placed_is p pins wires placed trunks tracks d x.of x.listed) (record { row = P; line = line; net = x.of.wire.net }) over.p refl)
        (holds_node p pins y.of.wire (placed_is p pins wires placed trunks tracks d y.of y.listed) (record { row = N; line = line; net = y.of.wire.net }) over.n refl)))

-- on keys as on nets
before_of : (p : Placement) (pins : Pins) (a b : Wire) → IsWire p pins a → IsWire p pins b → IsBefore a b → (a.left < b.left) ⊎ ((a.left ≡ b.left) × (a.net.0 < b.net.0))
before_of p pins a b ia ib (inl less) = inl less
before_of p pins a b ia ib (inr (same, less)) = inr (same, omega (arith, less, ia.key, ib.key))

pub tight : (p : Placement) (pins : Pins) (wires : List Wire) (placed : List PlacedWire) (trunks : List Trunk) (tracks : ℕ) → IsDone p pins wires placed trunks tracks → IsTight p pins (routing_of trunks tracks)
tight p pins wires placed trunks tracks d t there = (record { above = λ b hb line over. l.above t b there hb line over; clear = clear }, λ track below free. not_lower' (from_sorted p pins wires placed trunks tracks d t there) track below free)
  where
    l : IsLegal p pins (routing_of trunks tracks)
    l = legal p pins wires placed trunks tracks d

    clear : (o : Trunk) → Contains trunks o → o.track ≡ t.track → IsEarlier o t → AreApart o t
    clear o ho same early =
        elim (cases_eq o.net.0 t.net.0) [
          | inl one ↦ absurd (never t (subst (λ x. IsEarlier x t) (one_each_same (λ (t : Trunk). t.net.0) trunks o t (one_each_sorted p pins wires placed trunks tracks d) ho there one) early))
          | inr other ↦ l.apart o t ho there (λ e. other (ap (λ (n : NetNo). n.0) e)) same
        ]
      where
        never : (x : Trunk) → IsEarlier x x → ⊥
        never x (inl e) = omega (arith, e)
        never x (inr (_, e)) = omega (arith, e)

    not_lower' : Image trunk_of placed t → (track : ℕ) → track < t.track → IsFree p pins trunks t track → ⊥
    not_lower' x track below free =
        not_lower wires (constraints_of wires p.nodes) placed tracks (full_of p pins wires placed trunks tracks d) x.of x.listed track (subst (λ (z : Trunk). track < z.track) (sym x.is) below)
        (free_of x track (subst (λ (z : Trunk). IsFree p pins trunks z track) (sym x.is) free))
      where
        free_of : (x : Image trunk_of placed t) (track : ℕ) → IsFree p pins trunks (trunk_of x.of) track → IsFreeWire (constraints_of wires p.nodes) placed x.of track
        free_of x track f = record {
          above = λ b hb line over. f.above (trunk_of b) (to_sorted p pins wires placed trunks tracks d b hb) line (above_of p pins wires placed trunks tracks d x.of b x.listed hb line over);
          clear = λ o ho same before _. f.clear (trunk_of o) (to_sorted p pins wires placed trunks tracks d o ho) same (before_of p pins o.wire x.of.wire (placed_is p pins wires placed trunks tracks d o ho) (placed_is p pins wires placed trunks tracks d x.of x.listed) before);
        }

-- along a walk the tracks fall
falls : (p : Placement) (pins : Pins) (routing : Routing) → IsLegal p pins routing → (walk : List Above) (back : NetNo) (t b : Trunk) → 0 < length walk → IsWalk nets (by_number (IsAbove p pins)) walk back.0 → Contains routing.trunks t → t.net ≡ net_of (next_key nets walk back.0) → Contains routing.trunks b → b.net ≡ back → b.track < t.track
falls p pins routing l [] back t b some h ht et hb eb = absurd (omega (arith, some))
falls p pins routing l (a ∷ []) back t b some h ht et hb eb = l.above t b ht hb a.line (subst (λ n. IsAbove p pins n b.net a.line) (sym et) (subst (λ n. IsAbove p pins a.net n a.line) (sym eb) h.0))
falls p pins routing l (a ∷ c ∷ more) back t b some h ht et hb eb =
    let u : Some' (λ (u : Trunk). u.net ≡ c.net) routing.trunks = some_from_any (λ (u : Trunk). u.net ≡ c.net) routing.trunks ((l.nets c.net).0 h.0.lower_trunk) in
    let first : u.it.track < t.track = l.above t u.it ht u.there a.line (subst (λ n. IsAbove p pins n u.it.net a.line) (sym et) (subst (λ n. IsAbove p pins a.net n a.line) (sym u.holds) h.0)) in
    let rest : b.track < u.it.track = falls p pins routing l (c ∷ more) back u.it b (omega arith) h.1 u.there u.holds hb eb in
    omega (arith, first, rest)

pub acyclic : (p : Placement) (pins : Pins) (routing : Routing) → IsLegal p pins routing → HasNoCycle p pins
acyclic p pins routing l [] c = c
acyclic p pins routing l (first ∷ rest) c =
    let t : Some' (λ (t : Trunk). t.net ≡ first.net) routing.trunks = some_from_any (λ (t : Trunk). t.net ≡ first.net) routing.trunks ((l.nets first.net).0 c.above.0.upper_trunk) in
    let wrong : t.it.track < t.it.track = falls p pins routing l (first ∷ rest) first.net t.it t.it (omega arith) c.above t.there t.holds t.there t.holds in
    omega (arith, wrong)
