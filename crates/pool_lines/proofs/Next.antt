-- A choice of a gate leads from a state of what is open to one of what is open next.
use Rattle.std.specs.Prelude.{ℕ, ◌≡◌, ◌+◌, ◌-◌, ◌<◌, ◌≤◌, ◌==◌, ◌&&◌, ◌⊎◌, Bool, true, leb, List, [], ◌∷◌, AllPairs, Contains, if◌then◌else◌, map}
use Rattle.std.specs.List.{filter, range_with_len}
use Rattle.std.proofs.Common.{refl, sym, ap, subst, arith, ◌∙◌, inl, inr}
use Rattle.std.proofs.lemmas.Bool.{and_parts, cases_lt, eq-eqb, eqb-true, leb-true, ne_eqb}
use Rattle.std.proofs.lemmas.List.FromFn.{get_or-range_with_len, length-range_with_len}
use Rattle.std.proofs.lemmas.List.Kept.{AllPairs-filter}
use Rattle.cell_num.specs.declared.finger.Row.{Row}
use Rattle.cell_num.proofs.In.{Image, in_map}
use Rattle.cell_num.proofs.Lists.{all_from_contains, contains_none}
use Rattle.cell_num.proofs.Pairs.{Some', pairs_map, pairs_none, test_finds, test_there}
use Rattle.trail_state.specs.declared.edge.Node.{Node}
use Rattle.trail_state.specs.Places.{differ, node_at}
use Rattle.trail_state.specs.Settling.{is_open}
use Rattle.trail_state.proofs.Members.{Passes, passes_from}
use Rattle.trail_check.specs.Graph.{is_odd}
use Rattle.trail_halves.specs.Halves.{AreBelow, links}
use Rattle.trail_halves.specs.declared.choice.OpenChoice.{OpenChoice}
use Rattle.trail_pools.specs.declared.level.OpenPlaces.{OpenPlaces}
use Rattle.trail_pools.specs.declared.state.Balance.{Balance}
use Rattle.trail_pools.specs.declared.state.PoolState.{PoolState}
use Rattle.trail_pools.specs.State.{balance_after, balance_in, balances_left, ends_at, is_odd_after, joined_places, odd_left, open_pools, start, state_after}
use Rattle.pool_lines.specs.Listed.{is_odd_pool}
use Rattle.pool_lines.proofs.States.{AreBalancesOf, AreOpen, Ascend, IsStateOf, is_odd_at}
use Rattle.pool_lines.proofs.OddPlaces.{odd_joined, odd_stays}
use Rattle.pool_lines.proofs.Parity.{parity_after}
use Rattle.pool_lines.proofs.Settled.{none_met, places_next}

node_is : (v w : Node) → v.0 ≡ w.0 → v ≡ w
node_is v w e = λ i. record { 0 = e i }

-- a node that is open is in the list
pub open_there : (nodes : List Node) (v : Node) → is_open nodes v.0 ≡ true → Contains nodes v
open_there nodes v on =
    let w : Some' (λ (x : Node). (x.0 == v.0) ≡ true) nodes = test_finds (λ (x : Node). x.0 == v.0) nodes on in
    subst (Contains nodes) (node_is w.it v (eqb-true w.it.0 v.0 w.holds)) w.there

pub there_open : (nodes : List Node) (v : Node) → Contains nodes v → is_open nodes v.0 ≡ true
there_open nodes v there = test_there (λ (x : Node). x.0 == v.0) nodes v there (eq-eqb v.0 v.0 refl)

range_ascends : (m : ℕ) → AllPairs (λ (v w : ℕ). v < w) (range_with_len 0 m)
range_ascends m i j d less short =
    let l : j < m = omega (arith, short, length-range_with_len 0 m) in
    omega (arith, less, get_or-range_with_len 0 m i d (omega (arith, less, l)), get_or-range_with_len 0 m j d l)

-- numbers that pass a test, as nodes in ascending order
pub nodes_ascend : (p : ℕ → Bool) (n : ℕ) → Ascend (map node_at (filter p (range_with_len 0 n)))
nodes_ascend p n =
    pairs_map (λ (v w : ℕ). v < w) (λ (v : ℕ). Unit {0}) (λ (a b : Node). a.0 < b.0) node_at (filter p (range_with_len 0 n)) (λ v w _ _ l. l)
    (all_from_contains (λ (v : ℕ). Unit {0}) (filter p (range_with_len 0 n)) (λ v c. tt))
    (AllPairs-filter (λ (v w : ℕ). v < w) p (range_with_len 0 n) (range_ascends n))

-- the pools among places are in ascending order
pools_ascend : (n : ℕ) (places : List Node) → Ascend places → AllPairs (λ (a b : ℕ). a < b) (open_pools n places)
pools_ascend n places ascend =
    pairs_map (λ (a b : Node). a.0 < b.0) (λ (v : Node). n ≤ v.0) (λ (a b : ℕ). a < b) (λ (w : Node). w.0 - n) (filter (λ (w : Node). leb n w.0) places) (λ v w high _ l. omega (arith, high, l))
    (all_from_contains (λ (v : Node). n ≤ v.0) (filter (λ (w : Node). leb n w.0) places) (λ v c.
    let x : Passes (λ (w : Node). leb n w.0) places v = passes_from (λ (w : Node). leb n w.0) places v c in leb-true n v.0 x.passes))
    (AllPairs-filter (λ (a b : Node). a.0 < b.0) (λ (w : Node). leb n w.0) places ascend)

same_map : (mk : ℕ → Balance) (xs : List ℕ) → ((k : ℕ) → (mk k).net ≡ k) → map (λ (b : Balance). b.net) (map mk xs) ≡ xs
same_map mk [] named = refl
same_map mk (x ∷ xs) named = (λ i. named x i ∷ same_map mk xs named i)

-- before the first gate
pub starts : (n : ℕ) (r : Row) (o : OpenPlaces) → IsStateOf n r 0 o start
starts n r o = record {
  places = none_met o.places;
  ascend = pairs_none (λ (a b : Node). a.0 < b.0);
  odd = λ v c. absurd (contains_none v c);
  balances = record {
    nets = refl;
    ascend = pairs_none (λ (a b : Balance). a.net < b.net);
    one = λ b c. absurd (contains_none b c);
  };
  parity = λ p there high. refl;
}

module _ (n : ℕ) (r : Row) (pool : ℕ → Bool) (now next : OpenPlaces) (done : ℕ) (s : PoolState) (c : OpenChoice)
    (now_open : AreOpen n now) (next_open : AreOpen n next) (h : IsStateOf n r done now s)
    (fewer : (p : Node) → Contains next.places p → Contains now.places p)
    (are_pools : (p : Node) → Contains next.places p → n ≤ p.0 → pool (p.0 - n) ≡ true)
    (below : AreBelow n c.edges) where
  abbrev after : PoolState
  after = state_after n r pool next s c now

  odd_next : (v : Node) → Contains (odd_left n r pool next s c) v → Contains next.nodes v
  odd_next v there =
      let i : Image node_at (filter (λ u. is_odd_after n r pool next s c u && is_open next.nodes u) (range_with_len 0 n)) v =
      in_map node_at (filter (λ u. is_odd_after n r pool next s c u && is_open next.nodes u) (range_with_len 0 n)) v there in
      let x : Passes (λ u. is_odd_after n r pool next s c u && is_open next.nodes u) (range_with_len 0 n) i.of =
      passes_from (λ u. is_odd_after n r pool next s c u && is_open next.nodes u) (range_with_len 0 n) i.of i.listed in
      let parts : (is_odd_after n r pool next s c i.of ≡ true) × (is_open next.nodes i.of ≡ true) = and_parts (is_odd_after n r pool next s c i.of) (is_open next.nodes i.of) x.passes in
      open_there next.nodes v (ap (λ (w : Node). is_open next.nodes w.0) (sym i.is) ∙ parts.1)

  balances_next : AreBalancesOf n (done + 1) next.places (balances_left n r pool next s c)
  balances_next = record {
    nets =
        same_map (balance_after n r pool next s c) (open_pools n next.places) (λ k. refl)
        ∙ sym (ap (λ (b : Bool). if b then [] else open_pools n next.places) (ne_eqb (done + 1) 0 (λ e. omega (arith, e))));
    ascend =
        pairs_map (λ (a b : ℕ). a < b) (λ (v : ℕ). Unit {0}) (λ (a b : Balance). a.net < b.net) (balance_after n r pool next s c) (open_pools n next.places) (λ v w _ _ l. l)
        (all_from_contains (λ (v : ℕ). Unit {0}) (open_pools n next.places) (λ v c. tt)) (pools_ascend n next.places next_open.places);
    one = λ b there.
        let i : Image (balance_after n r pool next s c) (open_pools n next.places) b = in_map (balance_after n r pool next s c) (open_pools n next.places) b there in
        subst (λ (x : Balance). (x.waiting ≡ 0) ⊎ (x.free ≡ 0)) i.is (one_is i.of);
  }
    where
      lesser : (a b : ℕ) → (a - b ≡ 0) ⊎ (b - a ≡ 0)
      lesser a b = elim (cases_lt a b) [
        | inl l ↦ inl (omega (arith, l))
        | inr l ↦ inr (omega (arith, l))
      ]

      one_is : (net : ℕ) → ((balance_after n r pool next s c net).waiting ≡ 0) ⊎ ((balance_after n r pool next s c net).free ≡ 0)
      one_is net = lesser _ _

  odd_pools : (p : Node) → Contains next.places p → n ≤ p.0 → is_odd_at after.places p.0 ≡ is_odd_pool r after.odd (balance_in after.balances (p.0 - n)) (p.0 - n)
  odd_pools p there high =
      let at : n + (p.0 - n) ≡ p.0 = omega (arith, high) in
      odd_stays (ends_at n r pool next s c) next.places (joined_places n r pool next s c now) p.0 (there_open next.places p there)
      ∙ odd_joined now.places s.places (links n r pool c.edges c.halves) p now_open.places (fewer p there)
      ∙ (λ i. differ (h.parity p (fewer p there) high i) (is_odd (links n r pool c.edges c.halves) (sym at i)))
      ∙ parity_after n r pool next s c h.ascend (λ v d. now_open.below v (h.odd v d)) below (p.0 - n) (are_pools p there high) p there high refl

  pub state_next : IsStateOf n r (done + 1) next after
  state_next = record {
    places = places_next (ends_at n r pool next s c) now.places next.places s.places (links n r pool c.edges c.halves) now_open.places h.places;
    ascend = nodes_ascend (λ u. is_odd_after n r pool next s c u && is_open next.nodes u) n;
    odd = odd_next;
    balances = balances_next;
    parity = odd_pools;
  }
