-- Where the ports of a pin stand, among the places of metal1.
use Rattle.std.proofs.Common.{ℕ, zero, suc, ◌≡◌, ◌≢◌, ◌+◌, ◌-◌, ◌≤◌, ◌==◌, ◌⊎◌, Bool, true, false, cond, List, [], ◌∷◌, length, drop, refl, sym, subst, ap, ◌∙◌, inl, inr, arith, All, AllPairs, Contains}
use Rattle.std.specs.Prelude.{Option, Some, None, slice_get}
use Rattle.std.specs.List.{flat_map, range_with_len, zip}
use Rattle.std.proofs.lemmas.Bool.{cases_Bool, cases_eq, cases_lt, eqb-true, eq-eqb, ne_eqb}
use Rattle.std.proofs.lemmas.List.Kept.{AllPairs-cons}
use Rattle.cell_num.specs.declared.net.Pins.{Pins}
use Rattle.cell_num.proofs.Lists.{some_same, contains_none, contains_cons, contains_get, all_from_contains, Kept, kept_from, contains_option}
use Rattle.cell_num.proofs.Pairs.{pairs_none, pairs_at, pairs_tail, pairs_head, pairs_flat}
use Rattle.std.proofs.lemmas.List.Elements.{All-contains}
use Rattle.channel_route.specs.declared.routing.Trunk.{Trunk}
use Rattle.cell_draw.specs.Layouts.{net_no}
use Rattle.lef_write.specs.declared.port.Port.{Port}
use Rattle.lef_write.specs.Ports.{last_ones, port_with, rail_port, trunk_port, trunk_ports, ports_on}
use Rattle.lef_write.proofs.Members.{Differ}

-- ---- a list beside another

pub record Beside {X Y : Type 0} (xs : List X) (ys : List Y) (pair : X × Y) : Type 0 where
  pub at : ℕ
  pub first : slice_get xs at ≡ Some pair.0
  pub second : slice_get ys at ≡ Some pair.1

pub beside : {X Y : Type 0} (xs : List X) (ys : List Y) (pair : X × Y) → Contains (zip xs ys) pair → Beside xs ys pair
beside [] ys pair there = absurd (contains_none pair there)
beside (x ∷ xs) [] pair there = absurd (contains_none pair there)
beside (x ∷ xs) (y ∷ ys) pair there = elim (contains_cons (x, y) (zip xs ys) pair there) [
  | inl here ↦ record { at = 0; first = ap (λ p. Some p.0) here; second = ap (λ p. Some p.1) here }
  | inr later ↦ let b : Beside xs ys pair = beside xs ys pair later in record { at = suc b.at; first = b.first; second = b.second }
]

pub drop_get : {X : Type 0} (k : ℕ) (xs : List X) (i : ℕ) → slice_get (drop k xs) i ≡ slice_get xs (k + i)
drop_get zero xs i = let e : 0 + i ≡ i = omega arith in sym (ap (λ m. slice_get xs m) e)
drop_get (suc k) [] i = refl
drop_get (suc k) (x ∷ xs) i = let e : suc k + i ≡ suc (k + i) = omega arith in drop_get k xs i ∙ sym (ap (λ m. slice_get (x ∷ xs) m) e)

-- ---- the place of a port

-- the port of a trunk of the pin's net
pub record IsTrunkPort (trunks : List Trunk) (metal : List ℕ) (n at : ℕ) : Type 0 where
  pub number : ℕ
  pub trunk : Trunk
  pub listed : slice_get trunks number ≡ Some trunk
  pub net : trunk.net.0 ≡ n
  pub is : at ≡ length metal - length trunks + number

-- a port of pin n stands at this index among the places of metal1
pub record Stands (pins : Pins) (trunks : List Trunk) (metal : List ℕ) (n : ℕ) (port : Port) : Type 0 where
  pub pin : port.pin.0 ≡ n
  pub at : ℕ
  pub there : slice_get metal at ≡ Some port.shape
  pub kind : ((n ≡ pins.gnd.0) × (at ≡ 0)) ⊎ (((n ≢ pins.gnd.0) × (n ≡ pins.vdd.0) × (at ≡ 1)) ⊎ IsTrunkPort trunks metal n at)

-- what a rail's port is
record IsRailPort (n : ℕ) (place : Option ℕ) (port : Port) : Type 0 where
  pin : port.pin.0 ≡ n
  is : place ≡ Some port.shape

of_rail : (n : ℕ) (place : Option ℕ) (port : Port) → Contains (rail_port (net_no n) place) port → IsRailPort n place port
of_rail n None port there = absurd (contains_none port there)
of_rail n (Some place) port there =
    let same : port_with (net_no n) place ≡ port = some_same _ _ (contains_option (Some (port_with (net_no n) place)) port there) in
    record { pin = ap (λ (p : Port). p.pin.0) (sym same); is = ap (λ (p : Port). Some p.shape) same }

record IsOfTrunk (n : ℕ) (placed : Trunk × ℕ) (port : Port) : Type 0 where
  net : placed.0.net.0 ≡ n
  pin : port.pin.0 ≡ n
  shape : placed.1 ≡ port.shape

of_trunk : (n : ℕ) (placed : Trunk × ℕ) (port : Port) → trunk_port (net_no n) placed ≡ Some port → IsOfTrunk n placed port
of_trunk n placed port e = by (placed.0.net.0 == n) refl e
  where
    by : (b : Bool) → (placed.0.net.0 == n) ≡ b → cond b (Some (port_with (net_no n) placed.1)) None ≡ Some port → IsOfTrunk n placed port
    by false is f = absurd cc
    by true is f =
        let same : port_with (net_no n) placed.1 ≡ port = some_same _ _ f in
        record { net = eqb-true placed.0.net.0 n is; pin = ap (λ (p : Port). p.pin.0) (sym same); shape = ap (λ (p : Port). p.shape) same }

pub stands : (pins : Pins) (trunks : List Trunk) (metal : List ℕ) (n : ℕ) (port : Port) → Contains (ports_on pins trunks metal n) port → Stands pins trunks metal n port
stands pins trunks metal n port there = elim (cases_eq n pins.gnd.0) [
  | inl gnd ↦
      let r : IsRailPort n (slice_get metal 0) port = of_rail n (slice_get metal 0) port (rw (eq-eqb n pins.gnd.0 gnd) at there) in
      record { pin = r.pin; at = 0; there = r.is; kind = inl (gnd, refl) }
  | inr no_gnd ↦ elim (cases_eq n pins.vdd.0) [
    | inl vdd ↦
        let r : IsRailPort n (slice_get metal 1) port = of_rail n (slice_get metal 1) port (rw (ne_eqb n pins.gnd.0 no_gnd, eq-eqb n pins.vdd.0 vdd) at there) in
        record { pin = r.pin; at = 1; there = r.is; kind = inr (inl (no_gnd, vdd, refl)) }
    | inr no_vdd ↦ signal (rw (ne_eqb n pins.gnd.0 no_gnd, ne_eqb n pins.vdd.0 no_vdd) at there)
  ]
]
  where
    signal : Contains (trunk_ports (net_no n) trunks (last_ones (length trunks) metal)) port → Stands pins trunks metal n port
    signal there =
        let k : Kept (trunk_port (net_no n)) (zip trunks (last_ones (length trunks) metal)) port = kept_from (trunk_port (net_no n)) (zip trunks (last_ones (length trunks) metal)) port there in
        let of : IsOfTrunk n k.from port = of_trunk n k.from port k.gives in
        let b : Beside trunks (last_ones (length trunks) metal) k.from = beside trunks (last_ones (length trunks) metal) k.from k.there in
        record {
          pin = of.pin;
          at = length metal - length trunks + b.at;
          there = sym (drop_get (length metal - length trunks) metal b.at) ∙ (b.second ∙ ap (λ m. Some m) of.shape);
          kind = inr (inr (record { number = b.at; trunk = k.from.0; listed = b.first; net = of.net; is = refl }));
        }

-- ---- ports of different pins

-- places that differ stand at one index each
one_index : (metal : List ℕ) (i j a : ℕ) → Differ metal → slice_get metal i ≡ Some a → slice_get metal j ≡ Some a → i ≡ j
one_index metal i j a differ e f = elim (cases_lt i j) [
  | inl less ↦ absurd (pairs_at (λ (u v : ℕ). u ≢ v) metal i j a a differ less e f refl)
  | inr not_less ↦ elim (cases_lt j i) [
    | inl more ↦ absurd (pairs_at (λ (u v : ℕ). u ≢ v) metal j i a a differ more f e refl)
    | inr not_more ↦ omega (arith, not_less, not_more)
  ]
]

one_net : (trunks : List Trunk) (metal : List ℕ) (n m i : ℕ) → IsTrunkPort trunks metal n i → IsTrunkPort trunks metal m i → n ≡ m
one_net trunks metal n m i a b =
    let number : a.number ≡ b.number = omega (arith, a.is, b.is) in
    let same : a.trunk ≡ b.trunk = some_same a.trunk b.trunk (sym a.listed ∙ (ap (λ k. slice_get trunks k) number ∙ b.listed)) in
    sym a.net ∙ (ap (λ (t : Trunk). t.net.0) same ∙ b.net)

-- the rails stand before the trunks
pub pins_apart : (pins : Pins) (trunks : List Trunk) (metal : List ℕ) (n m : ℕ) (p q : Port) → Differ metal → length trunks + 2 ≤ length metal → n ≢ m → Stands pins trunks metal n p → Stands pins trunks metal m q → p.shape ≢ q.shape
pins_apart pins trunks metal n m p q differ more ne s t same =
    let index : s.at ≡ t.at = one_index metal s.at t.at q.shape differ (s.there ∙ ap (λ k. Some k) same) t.there in
    both index s.kind t.kind
  where
    both : s.at ≡ t.at → ((n ≡ pins.gnd.0) × (s.at ≡ 0)) ⊎ (((n ≢ pins.gnd.0) × (n ≡ pins.vdd.0) × (s.at ≡ 1)) ⊎ IsTrunkPort trunks metal n s.at) → ((m ≡ pins.gnd.0) × (t.at ≡ 0)) ⊎ (((m ≢ pins.gnd.0) × (m ≡ pins.vdd.0) × (t.at ≡ 1)) ⊎ IsTrunkPort trunks metal m t.at) → ⊥
    both index (inl (a, _)) (inl (b, _)) = ne (a ∙ sym b)
    both index (inl (_, i)) (inr (inl (_, _, j))) = omega (arith, index, i, j)
    both index (inl (_, i)) (inr (inr u)) = omega (arith, index, i, u.is, more)
    both index (inr (inl (_, _, i))) (inl (_, j)) = omega (arith, index, i, j)
    both index (inr (inl (_, a, _))) (inr (inl (_, b, _))) = ne (a ∙ sym b)
    both index (inr (inl (_, _, i))) (inr (inr u)) = omega (arith, index, i, u.is, more)
    both index (inr (inr u)) (inl (_, j)) = omega (arith, index, j, u.is, more)
    both index (inr (inr u)) (inr (inl (_, _, j))) = omega (arith, index, j, u.is, more)
    both index (inr (inr u)) (inr (inr v)) = ne (one_net trunks metal n m t.at (subst (λ k. IsTrunkPort trunks metal n k) index u) v)

-- ---- ports of one pin

abbrev pub AreApart : Port → Port → Type 0
AreApart p q = p.shape ≢ q.shape

behind_differ : (n : ℕ) (trunks : List Trunk) (places : List ℕ) (place : ℕ) → All (λ k. place ≢ k) places → (port : Port) → Contains (trunk_ports (net_no n) trunks places) port → place ≢ port.shape
behind_differ n trunks places place differ port there =
    let k : Kept (trunk_port (net_no n)) (zip trunks places) port = kept_from (trunk_port (net_no n)) (zip trunks places) port there in
    let of : IsOfTrunk n k.from port = of_trunk n k.from port k.gives in
    let b : Beside trunks places k.from = beside trunks places k.from k.there in
    subst (λ m. place ≢ m) of.shape (All-contains (λ m. place ≢ m) places k.from.1 differ (contains_get places b.at k.from.1 b.second))

trunks_differ : (n : ℕ) (trunks : List Trunk) (places : List ℕ) → Differ places → AllPairs AreApart (trunk_ports (net_no n) trunks places)
trunks_differ n [] places differ = pairs_none AreApart
trunks_differ n (t ∷ ts) [] differ = pairs_none AreApart
trunks_differ n (t ∷ ts) (place ∷ places) differ =
    let rest : AllPairs AreApart (trunk_ports (net_no n) ts places) = trunks_differ n ts places (pairs_tail (λ (a b : ℕ). a ≢ b) place places differ) in
    elim (cases_Bool (t.net.0 == n)) [
      | inl own ↦ rw own (AllPairs-cons AreApart (port_with (net_no n) place) (trunk_ports (net_no n) ts places) (all_from_contains (λ (q : Port). place ≢ q.shape) (trunk_ports (net_no n) ts places) (behind_differ n ts places place (pairs_head (λ (a b : ℕ). a ≢ b) place places differ))) rest)
      | inr other ↦ rw other rest
    ]

drop_differ : (k : ℕ) (xs : List ℕ) → Differ xs → Differ (drop k xs)
drop_differ zero xs differ = differ
drop_differ (suc k) [] differ = differ
drop_differ (suc k) (x ∷ xs) differ = drop_differ k xs (pairs_tail (λ (a b : ℕ). a ≢ b) x xs differ)

rail_differ : (n : ℕ) (place : Option ℕ) → AllPairs AreApart (rail_port (net_no n) place)
rail_differ n None = pairs_none AreApart
rail_differ n (Some place) = AllPairs-cons AreApart (port_with (net_no n) place) [] (λ i d short. absurd (omega (arith, short))) (pairs_none AreApart)

pub ports_differ : (pins : Pins) (trunks : List Trunk) (metal : List ℕ) (n : ℕ) → Differ metal → AllPairs AreApart (ports_on pins trunks metal n)
ports_differ pins trunks metal n differ = elim (cases_Bool (n == pins.gnd.0)) [
  | inl gnd ↦ rw gnd (rail_differ n (slice_get metal 0))
  | inr no_gnd ↦ elim (cases_Bool (n == pins.vdd.0)) [
    | inl vdd ↦ rw (no_gnd, vdd) (rail_differ n (slice_get metal 1))
    | inr no_vdd ↦ rw (no_gnd, no_vdd) (trunks_differ n trunks (last_ones (length trunks) metal) (drop_differ (length metal - length trunks) metal differ))
  ]
]

-- ---- all ports

range_least : (a count n : ℕ) → Contains (range_with_len a count) n → a ≤ n
range_least a zero n there = absurd (contains_none n there)
range_least a (suc count) n there = elim (contains_cons a (range_with_len (a + 1) count) n there) [
  | inl same ↦ omega (arith, same)
  | inr later ↦ omega (arith, range_least (a + 1) count n later)
]

range_differ : (a count : ℕ) → Differ (range_with_len a count)
range_differ a zero = pairs_none (λ (n m : ℕ). n ≢ m)
range_differ a (suc count) = AllPairs-cons (λ (n m : ℕ). n ≢ m) a (range_with_len (a + 1) count) (all_from_contains (λ m. a ≢ m) (range_with_len (a + 1) count) (λ m there same. omega (arith, same, range_least (a + 1) count m there))) (range_differ (a + 1) count)

pub all_apart : (pins : Pins) (trunks : List Trunk) (metal : List ℕ) → Differ metal → length trunks + 2 ≤ length metal → AllPairs AreApart (flat_map (ports_on pins trunks metal) (range_with_len 0 pins.pins))
all_apart pins trunks metal differ more =
    pairs_flat (λ (n m : ℕ). n ≢ m) (λ (n : ℕ). Unit {0}) AreApart (λ n p. Stands pins trunks metal n p) (ports_on pins trunks metal) (range_with_len 0 pins.pins)
    (λ n any. all_from_contains (Stands pins trunks metal n) (ports_on pins trunks metal n) (stands pins trunks metal n))
    (λ n any. ports_differ pins trunks metal n differ)
    (λ n m p q any also ne s t. pins_apart pins trunks metal n m p q differ more ne s t)
    (λ k d short. tt)
    (range_differ 0 pins.pins)
