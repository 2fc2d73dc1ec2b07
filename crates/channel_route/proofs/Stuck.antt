-- The wires that are left are those of the nets that can not be placed.
use Rattle.std.proofs.Common.{ℕ, ◌≡◌, ◌<◌, ◌≤◌, ◌⊎◌, true, List, [], ◌∷◌, map, length, get_or, inl, inr, refl, sym, ap, subst, arith, All, Contains}
use Rattle.std.proofs.lemmas.Bool.{and_from, eq-eqb}
use Rattle.std.proofs.lemmas.List.Elements.{All-contains, Contains-get_or}
use Rattle.cell_num.specs.declared.net.NetNo.{NetNo}
use Rattle.cell_num.specs.declared.net.Pins.{Pins}
use Rattle.cell_num.proofs.Lists.{all_imply}
use Rattle.cell_num.proofs.Pairs.{Some'}
use Rattle.row_place.specs.declared.placement.Placement.{Placement}
use Rattle.row_place.specs.Trunks.{lines_of, IsSpan, IsAbove}
use Rattle.channel_route.specs.declared.routing.Above.{Above}
use Rattle.channel_route.specs.declared.cycle.Step.{Step}
use Rattle.channel_route.specs.declared.wire.Wire.{Wire}
use Rattle.channel_route.specs.declared.wire.PlacedWire.{PlacedWire}
use Rattle.channel_route.specs.Cycle.{nets, by_number, IsCycle}
use Rattle.channel_route.specs.Told.{IsStuck, IsFirstStuck, IsStep, IsTold}
use Rattle.channel_route.specs.Graph.{IsBefore, has_key}
use Rattle.channel_route.specs.Wires.{IsWire, AreWires, constraints_of}
use Rattle.channel_route.specs.Turn.{steps, above_of, IsDown}
use Rattle.channel_route.specs.Walk.{IsKeyCycleBelow}
use Rattle.channel_route.proofs.StuckKeys.{IsStuckKey, AreLeft, left_wire, stuck_left, left_stuck, first_left}
use Rattle.channel_route.proofs.TrunkChannel.{net_of, is_wire, net_is, wire_of_net, constraint_is, constraint_there}
use Rattle.channel_route.proofs.Turns.{key_there, walk_like, cycle_like}
use Rattle.channel_route.proofs.WalkNets.{named_of, cycle_nets, nets_named}

-- the wires that are left of those of a placement
pub record AreNetsLeft (p : Placement) (pins : Pins) (wires left : List Wire) (placed : List PlacedWire) (tracks : ℕ) : Type 0 where
  pub wired : AreWires p pins wires
  pub are : AreLeft wires left (constraints_of wires p.nodes) placed tracks

-- a net is stuck where its number is
net_stuck : (p : Placement) (pins : Pins) (wires : List Wire) → AreWires p pins wires → (key : ℕ) → IsStuckKey (constraints_of wires p.nodes) key → IsStuck p pins (net_of key)
net_stuck p pins wires wired key s = record {
  set = λ n. s.set n.0;
  there = s.there;
  each = λ n inside. let (lower, line, over, also) = s.each n.0 inside in (net_of lower, line, constraint_is p pins wires wired (record { upper = n.0; lower = lower; line = line }) over, also);
}

key_stuck : (p : Placement) (pins : Pins) (wires : List Wire) → AreWires p pins wires → (net : NetNo) → IsStuck p pins net → IsStuckKey (constraints_of wires p.nodes) net.0
key_stuck p pins wires wired net s = record {
  set = λ k. s.set (net_of k);
  there = s.there;
  each = λ k inside. let (lower, line, over, also) = s.each (net_of k) inside in (lower.0, line, constraint_there p pins wires wired (net_of k) lower line over, also);
}

left_net : (p : Placement) (pins : Pins) (wires left : List Wire) (placed : List PlacedWire) (tracks : ℕ) → AreNetsLeft p pins wires left placed tracks → (net : NetNo) → IsStuck p pins net → has_key left net.0 ≡ true
left_net p pins wires left placed tracks h net s =
    let (lower, line, over, also) = s.each net s.there in
    left_stuck wires left (constraints_of wires p.nodes) placed tracks h.are net.0 (h.wired.all net over.upper_trunk) (key_stuck p pins wires h.wired net s)

one_line : (p : Placement) (net : NetNo) (a b c e : ℕ) → IsSpan p net a b → IsSpan p net c e → a ≡ c
one_line p net a b c e s t =
    let low : a ≤ c = All-contains (λ line. a ≤ line) (lines_of p net) c s.none_before t.begins in
    let high : c ≤ a = All-contains (λ line. c ≤ line) (lines_of p net) a t.none_before s.begins in
    omega (arith, low, high)

-- the first wire that is left is the first that can not be placed
first_stuck : (p : Placement) (pins : Pins) (wires left : List Wire) (placed : List PlacedWire) (tracks : ℕ) → AreNetsLeft p pins wires left placed tracks → (d : Wire) → 0 < length left → IsFirstStuck p pins (get_or left 0 d).net
first_stuck p pins wires left placed tracks h d some = record {
  stuck = subst (λ n. IsStuck p pins n) (sym (net_is p pins w is)) (net_stuck p pins wires h.wired w.key (stuck_left wires left (constraints_of wires p.nodes) placed tracks h.are w.key (key_there left w there)));
  first = w.left;
  last = w.right;
  span = is.span;
  none_before = none_before;
}
  where
    w : Wire
    w = get_or left 0 d

    there : Contains left w
    there = Contains-get_or left 0 d some

    is : IsWire p pins w
    is = is_wire p pins wires h.wired w (left_wire wires left (constraints_of wires p.nodes) placed tracks h.are w there)

    no_later : (z : Wire) → IsWire p pins z → (w ≡ z) ⊎ IsBefore w z → (w.left < z.left) ⊎ ((w.left ≡ z.left) × (w.net.0 ≤ z.net.0))
    no_later z iz (inl same) = inr (ap (λ (y : Wire). y.left) same, let e : w.net.0 ≡ z.net.0 = ap (λ (y : Wire). y.net.0) same in omega (arith, e))
    no_later z iz (inr (inl less)) = inl less
    no_later z iz (inr (inr (same, less))) = inr (same, omega (arith, less, is.key, iz.key))

    none_before : (other : NetNo) (begin end : ℕ) → IsStuck p pins other → IsSpan p other begin end → (w.left < begin) ⊎ ((w.left ≡ begin) × (w.net.0 ≤ other.0))
    none_before other begin end s span =
        let (lower, line', over, also) = s.each other s.there in
        let z : Some' (λ (z : Wire). z.net ≡ other) wires = wire_of_net p pins wires h.wired other over.upper_trunk in
        let iz : IsWire p pins z.it = is_wire p pins wires h.wired z.it z.there in
        let line : z.it.left ≡ begin = one_line p other z.it.left z.it.right begin end (subst (λ n. IsSpan p n z.it.left z.it.right) z.holds iz.span) span in
        let key : IsStuckKey (constraints_of wires p.nodes) z.it.key = key_stuck p pins wires h.wired (net_of z.it.key) (subst (λ n. IsStuck p pins n) (net_is p pins z.it iz) (subst (λ n. IsStuck p pins n) (sym z.holds) s)) in
        subst (λ (n : NetNo). (w.left < begin) ⊎ ((w.left ≡ begin) × (w.net.0 ≤ n.0))) z.holds (subst (λ l. (w.left < l) ⊎ ((w.left ≡ l) × (w.net.0 ≤ z.it.net.0))) line
        (no_later z.it iz (first_left wires left (constraints_of wires p.nodes) placed tracks h.are h.wired.found.distinct d some z.it z.there key)))

step_is : (p : Placement) (pins : Pins) (wires left : List Wire) (placed : List PlacedWire) (tracks : ℕ) → AreNetsLeft p pins wires left placed tracks → (upper lower line : ℕ) → IsDown left (constraints_of wires p.nodes) upper lower line → by_number (IsStep p pins) upper lower line
step_is p pins wires left placed tracks h upper lower line down = record {
  over = constraint_is p pins wires h.wired (record { upper = upper; lower = lower; line = line }) down.over;
  stuck = net_stuck p pins wires h.wired lower (stuck_left wires left (constraints_of wires p.nodes) placed tracks h.are lower down.left');
  first = λ other earlier over s. no_later earlier other.0 (down.first (record { upper = upper; lower = other.0; line = earlier }) (constraint_there p pins wires h.wired (net_of upper) other earlier over) (and_from _ _ (eq-eqb upper upper refl) (left_net p pins wires left placed tracks h other s)));
}
  where
    no_later : (earlier other : ℕ) → (line < earlier) ⊎ ((line ≡ earlier) × (lower ≤ other)) → line ≤ earlier
    no_later earlier other (inl less) = omega (arith, less)
    no_later earlier other (inr (same, _)) = omega (arith, same)

-- the cycle below the first wire that is left, as one of nets
pub told : (p : Placement) (pins : Pins) (wires left : List Wire) (placed : List PlacedWire) (tracks : ℕ) → AreNetsLeft p pins wires left placed tracks → (d : Wire) → 0 < length left → (cycle : List Step) → IsKeyCycleBelow steps (IsDown left (constraints_of wires p.nodes)) (get_or left 0 d).key cycle → All (λ (s : Step). Contains left s.wire) cycle → IsTold p pins (map above_of cycle)
told p pins wires left placed tracks h d some cycle c are_left = record {
  start = w.net;
  first = first_stuck p pins wires left placed tracks h d some;
  below = subst (λ (k : ℕ). IsKeyCycleBelow nets (by_number (IsStep p pins)) k (map above_of cycle)) key (subst (λ xs. IsKeyCycleBelow nets (by_number (IsStep p pins)) w.key xs) (nets_named cycle (all_imply (λ (s : Step). Contains left s.wire) (λ (s : Step). s.wire.net ≡ net_of s.wire.key) cycle (λ s there. net_is p pins s.wire (wire s.wire there)) are_left)) below);
}
  where
    w : Wire
    w = get_or left 0 d

    wire : (z : Wire) → Contains left z → IsWire p pins z
    wire z there = is_wire p pins wires h.wired z (left_wire wires left (constraints_of wires p.nodes) placed tracks h.are z there)

    key : w.key ≡ w.net.0
    key = (wire w (Contains-get_or left 0 d some)).key

    below : IsKeyCycleBelow nets (by_number (IsStep p pins)) w.key (map named_of cycle)
    below = cycle_like nets (IsDown left (constraints_of wires p.nodes)) (by_number (IsStep p pins)) (step_is p pins wires left placed tracks h) w.key (map named_of cycle) (cycle_nets (IsDown left (constraints_of wires p.nodes)) w.key cycle c)

-- what is told is a cycle
pub cycle_is : (p : Placement) (pins : Pins) (cycle : List Above) → IsTold p pins cycle → IsCycle p pins cycle
cycle_is p pins [] t = absurd t.below
cycle_is p pins (first ∷ rest) t =
    let c = t.below.0 in
    record { two = c.two; differ = c.differ; above = walk_like nets (by_number (IsStep p pins)) (by_number (IsAbove p pins)) (λ upper lower line s. s.over) (first ∷ rest) first.net.0 c.above; least = c.least }
