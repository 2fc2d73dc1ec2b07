-- The odd nodes that the line of a state lists, and the balances.
use Rattle.std.specs.Prelude.{ℕ, ◌≡◌, ◌≢◌, ◌+◌, ◌*◌, ◌-◌, ◌/◌, ◌%◌, ◌<◌, ◌==◌, ◌&&◌, ◌⊎◌, Bool, true, false, not, List, [], ◌∷◌, Option, Some, None, AllPairs, Contains, find, if◌then◌else◌, map, option_map, unwrap_or}
use Rattle.std.specs.List.{cons_option, filter, filter_map, list_any, range_with_len}
use Rattle.std.proofs.Common.{refl, sym, ap, subst, arith, ◌∙◌, inl, inr}
use Rattle.std.proofs.lemmas.Bool.{and_parts, both_ways, cases_Bool, eq-eqb, eqb-true, false_from_ne_true, ne_eqb}
use Rattle.std.proofs.lemmas.List.Elements.{All-contains}
use Rattle.cell_num.specs.declared.finger.Row.{Row}
use Rattle.cell_num.proofs.In.{Image, contains_map, in_map}
use Rattle.cell_num.proofs.Lists.{contains_cons, contains_here, contains_none, contains_there}
use Rattle.cell_num.proofs.Pairs.{Some', pairs_head, pairs_tail, test_finds, test_there}
use Rattle.trail_state.specs.declared.edge.Node.{Node}
use Rattle.trail_state.specs.declared.state.Place.{Place}
use Rattle.trail_log.specs.declared.class.NetPair.{NetPair}
use Rattle.trail_check.specs.Listed.{is_listed, number_of}
use Rattle.trail_pools.specs.declared.level.OpenPlaces.{OpenPlaces}
use Rattle.trail_pools.specs.declared.pools.Pools.{Pools}
use Rattle.trail_pools.specs.declared.state.Balance.{Balance}
use Rattle.trail_pools.specs.declared.state.PoolState.{PoolState}
use Rattle.trail_pools.specs.State.{balance_in, no_balance, open_pools}
use Rattle.trail_state.proofs.Members.{Passes, filter_off, filter_on, passes_from, passes_to}
use Rattle.trail_state.proofs.Opened.{range_has}
use Rattle.pool_log.specs.declared.balance.PoolBalance.{PoolBalance}
use Rattle.pool_log.specs.declared.balance.Surplus.{Surplus}
use Rattle.pool_log.specs.declared.balance.Surplus.TheVariants as surplus
use Rattle.pool_lines.specs.Lines.{balance_at, is_even, is_odd_node, odd_nodes, pair_of, surplus_of}
use Rattle.pool_lines.specs.Listed.{balance_listed, balance_of}
use Rattle.pool_lines.proofs.States.{AreBalancesOf, AreOpen, IsStateOf}
use Rattle.pool_lines.proofs.Keyed.{find_none, item_at, items_back, same_filtered, same_kept}

-- ---- nodes

pub pair_number : (v : ℕ) → number_of (pair_of v) ≡ v
pair_number v = back v
  where
    back : (v : ℕ) → 256 * (v / 256) + v % 256 ≡ v
    back v = omega arith

in_range : (n v : ℕ) → v < n → Contains (range_with_len 0 n) v
in_range n v l = range_has n v l

-- a node is listed as odd where it is odd
pub listed_odd : (pools : Pools) (s : PoolState) (v : Node) → v.0 < pools.nodes → is_listed (odd_nodes pools s) v ≡ is_odd_node s v.0
listed_odd pools s v below =
    elim (cases_Bool (is_odd_node s v.0)) [
      | inl on ↦
          test_there (λ (pair : NetPair). number_of pair == v.0) (odd_nodes pools s) (pair_of v.0)
          (contains_map pair_of (filter (is_odd_node s) (range_with_len 0 pools.nodes)) v.0 (passes_to (is_odd_node s) (range_with_len 0 pools.nodes) v.0 (in_range pools.nodes v.0 below) on))
          (eq-eqb (number_of (pair_of v.0)) v.0 (pair_number v.0)) ∙ sym on
      | inr off ↦ false_from_ne_true (is_listed (odd_nodes pools s) v) (λ on. not_listed on off) ∙ sym off
    ]
  where
    not_listed : is_listed (odd_nodes pools s) v ≡ true → is_odd_node s v.0 ≡ false → ⊥
    not_listed on off =
        let w : Some' (λ (pair : NetPair). (number_of pair == v.0) ≡ true) (odd_nodes pools s) = test_finds (λ (pair : NetPair). number_of pair == v.0) (odd_nodes pools s) on in
        let i : Image pair_of (filter (is_odd_node s) (range_with_len 0 pools.nodes)) w.it = in_map pair_of (filter (is_odd_node s) (range_with_len 0 pools.nodes)) w.it w.there in
        let x : Passes (is_odd_node s) (range_with_len 0 pools.nodes) i.of = passes_from (is_odd_node s) (range_with_len 0 pools.nodes) i.of i.listed in
        let same : i.of ≡ v.0 = sym (pair_number i.of) ∙ ap number_of i.is ∙ eqb-true (number_of w.it) v.0 w.holds in
        both_ways (is_odd_node s v.0) off (sym (ap (is_odd_node s) same) ∙ x.passes)

abbrev pub is_in_odd : List Node → ℕ → Bool
is_in_odd odd v = list_any (λ (o : Node). o.0 == v) odd

node_is : (v w : Node) → v.0 ≡ w.0 → v ≡ w
node_is v w e = λ i. record { 0 = e i }

module _ (n : ℕ) (r : Row) (done : ℕ) (o : OpenPlaces) (open' : AreOpen n o) (s : PoolState) (h : IsStateOf n r done o s) where
  -- no place of the state is a node of a pool
  no_place : (v : Node) → Contains o.nodes v → list_any (λ (p : Place). (p.node.0 == v.0) && p.odd) s.places ≡ false
  no_place v there = false_from_ne_true (list_any (λ (p : Place). (p.node.0 == v.0) && p.odd) s.places) (λ on. at on)
    where
      at : list_any (λ (p : Place). (p.node.0 == v.0) && p.odd) s.places ≡ true → ⊥
      at on =
          let w : Some' (λ (p : Place). ((p.node.0 == v.0) && p.odd) ≡ true) s.places = test_finds (λ (p : Place). (p.node.0 == v.0) && p.odd) s.places on in
          let parts : ((w.it.node.0 == v.0) ≡ true) × (w.it.odd ≡ true) = and_parts (w.it.node.0 == v.0) w.it.odd w.holds in
          open'.apart v w.it.node there (h.places.within w.it w.there) (sym (eqb-true w.it.node.0 v.0 parts.0))

  odd_alone : (v : Node) → Contains o.nodes v → is_odd_node s v.0 ≡ is_in_odd s.odd v.0
  odd_alone v there = rw (no_place v there) refl

  -- a place of no pool is no odd node of one
  pub no_odd : (p : Node) → Contains o.places p → is_in_odd s.odd p.0 ≡ false
  no_odd p there = false_from_ne_true (is_in_odd s.odd p.0) (λ on. at on)
    where
      at : is_in_odd s.odd p.0 ≡ true → ⊥
      at on =
          let w : Some' (λ (v : Node). (v.0 == p.0) ≡ true) s.odd = test_finds (λ (v : Node). v.0 == p.0) s.odd on in
          open'.apart w.it p (h.odd w.it w.there) there (eqb-true w.it.0 p.0 w.holds)

  abbrev as_item : Node → Option Node
  as_item v = item_at (λ (w : Node). w.0) s.odd v

  item_is : (v : Node) → as_item v ≡ (if is_in_odd s.odd v.0 then Some v else None)
  item_is v = by_list s.odd
    where
      by_list : (ws : List Node) → find (λ (w : Node). w.0 == v.0) ws ≡ (if is_in_odd ws v.0 then Some v else None)
      by_list [] = refl
      by_list (w ∷ ws) =
          elim (cases_Bool (w.0 == v.0)) [
            | inl on ↦ rw on (ap (λ (z : Node). Some z) (node_is w v (eqb-true w.0 v.0 on)))
            | inr off ↦ rw off (by_list ws)
          ]

  kept_is : (p : Node → Bool) (vs : List Node) → filter_map (λ (v : Node). if p v then Some v else None) vs ≡ filter p vs
  kept_is p [] = refl
  kept_is p (v ∷ vs) =
      elim (cases_Bool (p v)) [
        | inl on ↦ ap (λ (b : Bool). cons_option (if b then Some v else None) (filter_map (λ (w : Node). if p w then Some w else None) vs)) on ∙ ap (λ (ws : List Node). v ∷ ws) (kept_is p vs) ∙ sym (filter_on p v vs on)
        | inr off ↦ ap (λ (b : Bool). cons_option (if b then Some v else None) (filter_map (λ (w : Node). if p w then Some w else None) vs)) off ∙ kept_is p vs ∙ sym (filter_off p v vs off)
      ]

  -- those of the open nodes that are odd
  odd_here : filter (λ (v : Node). is_in_odd s.odd v.0) o.nodes ≡ s.odd
  odd_here =
      sym (kept_is (λ (v : Node). is_in_odd s.odd v.0) o.nodes)
      ∙ same_kept (λ (v : Node). if is_in_odd s.odd v.0 then Some v else None) as_item o.nodes (λ v c. sym (item_is v))
      ∙ items_back (λ (w : Node). w.0) o.nodes s.odd open'.nodes h.ascend (λ v c. (v, h.odd v c, refl))

  pub odd_back : (pools : Pools) → pools.nodes ≡ n → filter (is_listed (odd_nodes pools s)) o.nodes ≡ s.odd
  odd_back pools nodes =
      same_filtered (is_listed (odd_nodes pools s)) (λ (v : Node). is_in_odd s.odd v.0) o.nodes
      (λ v c. listed_odd pools s v (subst (λ k. v.0 < k) (sym nodes) (open'.below v c)) ∙ odd_alone v c) ∙ odd_here

-- ---- balances

abbrev is_some : Balance → Bool
is_some b = not (is_even b)

abbrev of_net : ℕ → PoolBalance → Bool
of_net net b = b.net.0 == net

abbrev listed : List Balance → List PoolBalance
listed bs = map balance_at (filter is_some bs)

-- no balance of the net is listed where none is there
none_listed : (net : ℕ) (bs : List Balance) → ((b : Balance) → Contains bs b → b.net ≢ net) → find (of_net net) (listed bs) ≡ None
none_listed net bs other =
    find_none (of_net net) (listed bs) (λ b c. at b (in_map balance_at (filter is_some bs) b c))
  where
    at : (b : PoolBalance) → Image balance_at (filter is_some bs) b → of_net net b ≡ false
    at b i =
        let x : Passes is_some bs i.of = passes_from is_some bs i.of i.listed in
        ne_eqb b.net.0 net (λ e. other i.of x.there (ap (λ (z : PoolBalance). z.net.0) i.is ∙ e))

-- its balance is read back from the line
surplus_back : (b : Balance) (net : ℕ) → (b.waiting ≡ 0) ⊎ (b.free ≡ 0) → b.net ≡ net → balance_of net (surplus_of b) ≡ b
surplus_back b net one of_net' =
    elim (cases_Bool (b.waiting == 0)) [
      | inl on ↦ ap (λ (z : Bool). balance_of net (read z)) on ∙ free_is (eqb-true b.waiting 0 on)
      | inr off ↦ ap (λ (z : Bool). balance_of net (read z)) off ∙ waiting_is one off
    ]
  where
    read : Bool → Surplus
    read z = if z then surplus.Free b.free else surplus.Waiting b.waiting

    free_is : b.waiting ≡ 0 → record { net = net; waiting = 0; free = b.free } ≡ b
    free_is none = λ i. record { net = sym of_net' i; waiting = sym none i; free = b.free }

    waiting_is : (b.waiting ≡ 0) ⊎ (b.free ≡ 0) → (b.waiting == 0) ≡ false → record { net = net; waiting = b.waiting; free = 0 } ≡ b
    waiting_is (inl none) off = absurd (both_ways (b.waiting == 0) off (eq-eqb b.waiting 0 none))
    waiting_is (inr none) off = λ i. record { net = sym of_net' i; waiting = b.waiting; free = sym none i }

even_is : (b : Balance) (net : ℕ) → is_even b ≡ true → b.net ≡ net → no_balance net ≡ b
even_is b net on of_net' =
    let parts : ((b.waiting == 0) ≡ true) × ((b.free == 0) ≡ true) = and_parts (b.waiting == 0) (b.free == 0) on in
    λ i. record { net = sym of_net' i; waiting = sym (eqb-true b.waiting 0 parts.0) i; free = sym (eqb-true b.free 0 parts.1) i }

pub balance_back : (net : ℕ) (bs : List Balance) → AllPairs (λ (a b : Balance). a.net < b.net) bs → ((b : Balance) → Contains bs b → (b.waiting ≡ 0) ⊎ (b.free ≡ 0)) → balance_listed (listed bs) net ≡ balance_in bs net
balance_back net [] ascend one = refl
balance_back net (b ∷ bs) ascend one =
    let rest : balance_listed (listed bs) net ≡ balance_in bs net = balance_back net bs (pairs_tail (λ (a b : Balance). a.net < b.net) b bs ascend) (λ x c. one x (contains_there b bs x c)) in
    elim (cases_Bool (b.net == net)) [
      | inl here ↦ elim (cases_Bool (is_even b)) [
        | inl even ↦
            ap (λ (xs : List Balance). balance_listed (map balance_at xs) net) (filter_off is_some b bs (ap not even))
            ∙ ap (λ (z : Option PoolBalance). unwrap_or (option_map (λ (x : PoolBalance). balance_of net x.surplus) z) (no_balance net)) (none_listed net bs (λ x c e. above x c (eqb-true b.net net here) e))
            ∙ even_is b net even (eqb-true b.net net here) ∙ sym (found here)
        | inr some ↦
            ap (λ (xs : List Balance). balance_listed (map balance_at xs) net) (filter_on is_some b bs (ap not some))
            ∙ at_first here ∙ surplus_back b net (one b (contains_here b bs)) (eqb-true b.net net here) ∙ sym (found here)
      ]
      | inr off ↦ elim (cases_Bool (is_even b)) [
        | inl even ↦ ap (λ (xs : List Balance). balance_listed (map balance_at xs) net) (filter_off is_some b bs (ap not even)) ∙ rest ∙ sym (passed off)
        | inr some ↦ ap (λ (xs : List Balance). balance_listed (map balance_at xs) net) (filter_on is_some b bs (ap not some)) ∙ skipped off ∙ rest ∙ sym (passed off)
      ]
    ]
  where
    above : (x : Balance) → Contains bs x → b.net ≡ net → x.net ≡ net → ⊥
    above x c here e = let l : b.net < x.net = All-contains (λ (x : Balance). b.net < x.net) bs x (pairs_head (λ (a b : Balance). a.net < b.net) b bs ascend) c in omega (arith, l, here, e)

    found : (b.net == net) ≡ true → balance_in (b ∷ bs) net ≡ b
    found here = rw here refl

    passed : (b.net == net) ≡ false → balance_in (b ∷ bs) net ≡ balance_in bs net
    passed off = rw off refl

    at_first : (b.net == net) ≡ true → balance_listed (balance_at b ∷ listed bs) net ≡ balance_of net (surplus_of b)
    at_first here = rw here refl

    skipped : (b.net == net) ≡ false → balance_listed (balance_at b ∷ listed bs) net ≡ balance_listed (listed bs) net
    skipped off = rw off refl

-- each of some balances is its net's
own_balance : (bs : List Balance) (b : Balance) → AllPairs (λ (x y : Balance). x.net < y.net) bs → Contains bs b → balance_in bs b.net ≡ b
own_balance [] b ascend there = absurd (contains_none b there)
own_balance (x ∷ xs) b ascend there =
    elim (contains_cons x xs b there) [
      | inl same ↦ subst (λ (z : Balance). balance_in (x ∷ xs) z.net ≡ z) same first
      | inr later ↦ next later (ne_eqb x.net b.net (λ e. omega (arith, above later, e))) ∙ own_balance xs b (pairs_tail (λ (x y : Balance). x.net < y.net) x xs ascend) later
    ]
  where
    first : balance_in (x ∷ xs) x.net ≡ x
    first = rw (eq-eqb x.net x.net refl) refl

    above : Contains xs b → x.net < b.net
    above c = All-contains (λ (y : Balance). x.net < y.net) xs b (pairs_head (λ (x y : Balance). x.net < y.net) x xs ascend) c

    next : Contains xs b → (x.net == b.net) ≡ false → balance_in (x ∷ xs) b.net ≡ balance_in xs b.net
    next c off = rw off refl

map_back : {X Y : Type 0} (f : X → Y) (g : Y → X) (xs : List X) → ((x : X) → Contains xs x → g (f x) ≡ x) → map g (map f xs) ≡ xs
map_back f g [] same = refl
map_back {X} f g (x ∷ xs) same =
    ap (λ (y : X). y ∷ map g (map f xs)) (same x (contains_here x xs)) ∙ ap (λ (ys : List X). x ∷ ys) (map_back f g xs (λ y c. same y (contains_there x xs y c)))

module _ (n done : ℕ) (nodes : List Node) (bs : List Balance) (h : AreBalancesOf n done nodes bs) where
  all_back : map (balance_listed (listed bs)) (map (λ (b : Balance). b.net) bs) ≡ bs
  all_back = map_back (λ (b : Balance). b.net) (balance_listed (listed bs)) bs (λ b c. balance_back b.net bs h.ascend h.one ∙ own_balance bs b h.ascend c)

  pub balances_back : (if done == 0 then [] else map (balance_listed (listed bs)) (open_pools n nodes)) ≡ bs
  balances_back =
      elim (cases_Bool (done == 0)) [
        | inl on ↦ ap (λ (z : Bool). if z then [] else map (balance_listed (listed bs)) (open_pools n nodes)) on ∙ sym (no_net (h.nets ∙ ap (λ (z : Bool). if z then [] else open_pools n nodes) on))
        | inr off ↦
            ap (λ (z : Bool). if z then [] else map (balance_listed (listed bs)) (open_pools n nodes)) off
            ∙ ap (map (balance_listed (listed bs))) (sym (h.nets ∙ ap (λ (z : Bool). if z then [] else open_pools n nodes) off)) ∙ all_back
      ]
    where
      no_net : map (λ (b : Balance). b.net) bs ≡ [] → bs ≡ []
      no_net none = sym all_back ∙ ap (map (balance_listed (listed bs))) none
