-- A legal routing has fewer tracks than the cell has nets, and its nets do not stand above each other in a cycle.
use Rattle.std.proofs.Common.{ℕ, zero, suc, ◌≡◌, ◌≢◌, ◌<◌, List, [], ◌∷◌, length, get_or, inl, refl, sym, ap, subst, arith, All, AllPairs, Contains}
use Rattle.std.proofs.lemmas.List.Elements.{All-cons, All-contains}
use Rattle.cell_num.specs.declared.net.NetNo.{NetNo}
use Rattle.cell_num.specs.declared.net.Pins.{Pins}
use Rattle.cell_num.proofs.Lists.{all_from_contains}
use Rattle.cell_num.proofs.Pairs.{Some', any_at, some_from_any}
use Rattle.row_search.proofs.Few.{few_numbers}
use Rattle.row_place.specs.declared.placement.Placement.{Placement}
use Rattle.row_place.specs.Trunks.{IsAbove, IsSpan, lines_of}
use Rattle.channel_route.specs.declared.routing.Above.{Above}
use Rattle.channel_route.specs.declared.routing.Routing.{Routing}
use Rattle.channel_route.specs.declared.routing.Trunk.{Trunk}
use Rattle.channel_route.specs.Cycle.{HasNoCycle, by_number, nets}
use Rattle.channel_route.specs.Routing.{IsLegal}
use Rattle.channel_route.specs.Walk.{IsWalk, next_key}
use Rattle.cell_draw.proofs.TrunkCount.{covered}

-- ---- tracks

-- a net is named by its number
same_net : (a b : NetNo) → a.0 ≡ b.0 → a ≡ b
same_net a b e = ap (λ (n : ℕ). let net : NetNo = record { 0 = n } in net) e

-- A rail and the trunks, which are of other nets and in order of net, are of different nets.
differ : (rail : Trunk) (ts : List Trunk) → AllPairs (λ a b. a.net.0 < b.net.0) ts → All (λ (t : Trunk). rail.net.0 ≢ t.net.0) ts → (i j : ℕ) (d : Trunk) → i < j → j < length (rail ∷ ts) → (get_or (rail ∷ ts) i d).net.0 ≡ (get_or (rail ∷ ts) j d).net.0 → ⊥
differ rail ts order other zero zero d less within e = omega (arith, less)
differ rail ts order other zero (suc j) d less within e = other j d (omega (arith, within)) e
differ rail ts order other (suc i) zero d less within e = omega (arith, less)
differ rail ts order other (suc i) (suc j) d less within e = omega (arith, order i j d (omega (arith, less)) (omega (arith, within)), e)

-- there are fewer trunks than nets, since each is of a net of its own other than vdd
few_trunks : (p : Placement) (pins : Pins) (n : ℕ) (r : Routing) → IsLegal p pins r → pins.vdd.0 < n → ((net : NetNo) (line : ℕ) → Contains (lines_of p net) line → net.0 < n) → length r.trunks < n
few_trunks p pins n r legal vdd low = omega (arith, few_numbers (λ (t : Trunk). t.net.0) n (rail ∷ r.trunks) (differ rail r.trunks legal.order (all_from_contains (λ (t : Trunk). pins.vdd.0 ≢ t.net.0) r.trunks other)) (All-cons (λ (t : Trunk). t.net.0 < n) rail r.trunks vdd (all_from_contains (λ (t : Trunk). t.net.0 < n) r.trunks below)))
  where
    rail : Trunk
    rail = record { net = pins.vdd; left = 0; right = 0; track = 0 }

    other : (t : Trunk) → Contains r.trunks t → pins.vdd.0 ≢ t.net.0
    other t there e = ((legal.nets t.net).1 (any_at (λ (u : Trunk). u.net ≡ t.net) r.trunks t there refl)).0 (inl (same_net t.net pins.vdd (sym e)))

    below : (t : Trunk) → Contains r.trunks t → t.net.0 < n
    below t there = low t.net t.left (All-contains (λ (u : Trunk). IsSpan p u.net u.left u.right) r.trunks t legal.spans there).begins

pub few_tracks : (p : Placement) (pins : Pins) (n : ℕ) (r : Routing) → IsLegal p pins r → pins.vdd.0 < n → ((net : NetNo) (line : ℕ) → Contains (lines_of p net) line → net.0 < n) → r.tracks < n
few_tracks p pins n r legal vdd low = omega (arith, few_trunks p pins n r legal vdd low, covered (λ (t : Trunk). t.track) r.tracks r.trunks (λ i less. some_from_any (λ (t : Trunk). t.track ≡ i) r.trunks (legal.full i less)))

-- ---- cycles

-- along a walk the tracks fall
falls : (p : Placement) (pins : Pins) (r : Routing) → IsLegal p pins r → (walk : List Above) (back : NetNo) (t b : Trunk) → 0 < length walk → IsWalk nets (by_number (IsAbove p pins)) walk back.0 → Contains r.trunks t → t.net.0 ≡ next_key nets walk back.0 → Contains r.trunks b → b.net ≡ back → b.track < t.track
falls p pins r legal [] back t b some h ht et hb eb = absurd (omega (arith, some))
falls p pins r legal (a ∷ []) back t b some h ht et hb eb = legal.above t b ht hb a.line (subst (λ n. IsAbove p pins n b.net a.line) (sym (same_net t.net a.net et)) (subst (λ n. IsAbove p pins a.net n a.line) (sym eb) h.0))
falls p pins r legal (a ∷ c ∷ more) back t b some h ht et hb eb =
    let u : Some' (λ (u : Trunk). u.net ≡ c.net) r.trunks = some_from_any (λ (u : Trunk). u.net ≡ c.net) r.trunks ((legal.nets c.net).0 h.0.lower_trunk) in
    let first : u.it.track < t.track = legal.above t u.it ht u.there a.line (subst (λ n. IsAbove p pins n u.it.net a.line) (sym (same_net t.net a.net et)) (subst (λ n. IsAbove p pins a.net n a.line) (sym u.holds) h.0)) in
    let rest : b.track < u.it.track = falls p pins r legal (c ∷ more) back u.it b (omega arith) h.1 u.there (ap (λ (n : NetNo). n.0) u.holds) hb eb in
    omega (arith, first, rest)

-- a legal routing has none
pub acyclic : (p : Placement) (pins : Pins) (r : Routing) → IsLegal p pins r → HasNoCycle p pins
acyclic p pins r legal [] c = c
acyclic p pins r legal (first ∷ rest) c =
    let t : Some' (λ (t : Trunk). t.net ≡ first.net) r.trunks = some_from_any (λ (t : Trunk). t.net ≡ first.net) r.trunks ((legal.nets first.net).0 c.above.0.upper_trunk) in
    let wrong : t.it.track < t.it.track = falls p pins r legal (first ∷ rest) first.net t.it t.it (omega arith) c.above t.there (ap (λ (n : NetNo). n.0) t.holds) t.there t.holds in
    omega (arith, wrong)
