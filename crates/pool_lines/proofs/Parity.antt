-- An open pool is odd after a choice as its odd nodes and its balance say.
use Rattle.std.specs.Prelude.{ℕ, zero, suc, ◌≡◌, ◌≢◌, ◌+◌, ◌-◌, ◌%◌, ◌<◌, ◌≤◌, ◌==◌, ◌&&◌, ◌||◌, ◌++◌, Bool, true, false, not, leb, List, [], ◌∷◌, AllPairs, Contains, count_by, find, if◌then◌else◌, map, unwrap_or, Option, Some}
use Rattle.std.specs.List.{filter, range_with_len}
use Rattle.std.proofs.Common.{refl, sym, ap, subst, arith, ◌∙◌, inl, inr}
use Rattle.std.proofs.lemmas.Bool.{cases_Bool, cases_eq, cases_lt, eq-eqb, eqb-true, le-leb, ne_eqb}
use Rattle.std.proofs.Math.Numerals.{suc-eq-add-one}
use Rattle.std.proofs.lemmas.List.{map-append}
use Rattle.std.proofs.lemmas.List.Elements.{All-contains, filter-append}
use Rattle.std.proofs.lemmas.List.Sums.{sum_by-append, sum_by-cons}
use Rattle.cell_num.specs.declared.finger.Row.{Row}
use Rattle.cell_num.proofs.In.{contains_map}
use Rattle.cell_num.proofs.Lists.{contains_cons, contains_here, contains_none, contains_there}
use Rattle.cell_num.proofs.Pairs.{Some', pairs_head, pairs_tail, test_finds}
use Rattle.cell_num.proofs.Ranges.{range_more}
use Rattle.row_trails.specs.Trails.{size, size_none, size_same}
use Rattle.trail_state.specs.declared.edge.Node.{Node}
use Rattle.trail_state.specs.Places.{differ, node_at}
use Rattle.trail_state.specs.Settling.{is_open}
use Rattle.trail_state.proofs.Members.{passes_to}
use Rattle.open_gates.specs.Merged.{net_in}
use Rattle.trail_check.specs.Graph.{is_odd}
use Rattle.trail_halves.specs.Halves.{AreBelow, free, links, waiting}
use Rattle.trail_halves.specs.declared.choice.OpenChoice.{OpenChoice}
use Rattle.trail_pools.specs.declared.level.OpenPlaces.{OpenPlaces}
use Rattle.trail_pools.specs.declared.state.Balance.{Balance}
use Rattle.trail_pools.specs.declared.state.PoolState.{PoolState}
use Rattle.trail_pools.specs.State.{balance_after, balance_in, balances_left, is_odd_after, no_balance, odd_closing, odd_left, open_pools}
use Rattle.trail_pools.proofs.Placed.{odd_pool, parity_sum}
use Rattle.pool_lines.specs.Listed.{is_odd_pool}

abbrev bit : Bool → ℕ
bit b = if b then 1 else 0

-- ---- numbers below n that pass a test

-- how many of a list pass another test
count_listed : (p : Node → Bool) (q : ℕ → Bool) (n : ℕ) → count_by p (map node_at (filter q (range_with_len 0 n))) ≡ size n (λ v. q v && p (node_at v))
count_listed p q zero = refl
count_listed p q (suc n) =
    let before : count_by p (map node_at (filter q (range_with_len 0 n))) ≡ size n (λ v. q v && p (node_at v)) = count_listed p q n in
    let more : range_with_len 0 (suc n) ≡ range_with_len 0 n ++ n ∷ [] = ap (range_with_len 0) (suc-eq-add-one n) ∙ range_more n in
    let parts : map node_at (filter q (range_with_len 0 (suc n))) ≡ map node_at (filter q (range_with_len 0 n)) ++ map node_at (filter q (n ∷ [])) =
    ap (λ (vs : List ℕ). map node_at (filter q vs)) more ∙ ap (map node_at) (filter-append q (range_with_len 0 n) (n ∷ [])) ∙ map-append node_at (filter q (range_with_len 0 n)) (filter q (n ∷ [])) in
    ap (count_by p) parts ∙ sum_by-append (λ (v : Node). bit (p v)) (map node_at (filter q (range_with_len 0 n))) (map node_at (filter q (n ∷ []))) ∙ omega (arith, before, last p q n)
  where
    last : (p : Node → Bool) (q : ℕ → Bool) (n : ℕ) → count_by p (map node_at (filter q (n ∷ []))) ≡ bit (q n && p (node_at n))
    last p q n = elim (cases_Bool (q n)) [
      | inl on ↦ rw on (one (p (node_at n)) refl)
      | inr off ↦ rw off refl
    ]
      where
        one : (b : Bool) → p (node_at n) ≡ b → count_by p (node_at n ∷ []) ≡ bit (p (node_at n))
        one true is = rw is refl
        one false is = rw is refl

-- one number more
size_more : (n w : ℕ) (f g : ℕ → Bool) → w < n → g w ≡ false → ((v : ℕ) → v ≢ w → f v ≡ g v) → size n f ≡ size n g + bit (f w)
size_more zero w f g within off same = absurd (omega (arith, within))
size_more (suc n) w f g within off same =
    elim (cases_eq n w) [
      | inl here ↦
          let before : size n f ≡ size n g = size_same n f g (λ v l. same v (λ e. omega (arith, l, e, here))) in
          let last : bit (f n) ≡ bit (f w) = ap (λ (k : ℕ). bit (f k)) here in
          let none : bit (g n) ≡ 0 = ap (λ (k : ℕ). bit (g k)) here ∙ ap bit off in
          omega (arith, before, last, none)
      | inr other ↦
          let before : size n f ≡ size n g + bit (f w) = size_more n w f g (omega (arith, within, other)) off same in
          let last : bit (f n) ≡ bit (g n) = ap bit (same n other) in
          omega (arith, before, last)
    ]

-- how many of some numbers pass a test
count_open : (p : ℕ → Bool) (n : ℕ) (odd : List Node) → AllPairs (λ (a b : Node). a.0 < b.0) odd → ((v : Node) → Contains odd v → v.0 < n) → count_by (λ (v : Node). p v.0) odd ≡ size n (λ v. p v && is_open odd v)
count_open p n [] ascend below = sym (size_same n (λ v. p v && false) (λ v. false) (λ v l. never (p v)) ∙ size_none n)
  where
    never : (b : Bool) → (b && false) ≡ false
    never true = refl
    never false = refl
count_open p n (w ∷ ws) ascend below =
    let rest : count_by (λ (v : Node). p v.0) ws ≡ size n (λ v. p v && is_open ws v) = count_open p n ws (pairs_tail (λ (a b : Node). a.0 < b.0) w ws ascend) (λ v c. below v (contains_there w ws v c)) in
    let more : size n (λ v. p v && is_open (w ∷ ws) v) ≡ size n (λ v. p v && is_open ws v) + bit (p w.0 && is_open (w ∷ ws) w.0) =
    size_more n w.0 (λ v. p v && is_open (w ∷ ws) v) (λ v. p v && is_open ws v) (below w (contains_here w ws)) (not_later (is_open ws w.0) refl) (λ v other. ap (λ (b : Bool). p v && (b || is_open ws v)) (ne_eqb w.0 v (λ e. other (sym e)))) in
    let here : bit (p w.0 && is_open (w ∷ ws) w.0) ≡ bit (p w.0) = ap (λ (b : Bool). bit (p w.0 && (b || is_open ws w.0))) (eq-eqb w.0 w.0 refl) ∙ whole (p w.0) in
    omega (arith, rest, more, here, sum_by-cons (λ (v : Node). bit (p v.0)) w ws)
  where
    whole : (b : Bool) → bit (b && true) ≡ bit b
    whole true = refl
    whole false = refl

    not_later : (b : Bool) → is_open ws w.0 ≡ b → (p w.0 && is_open ws w.0) ≡ false
    not_later false is = ap (λ (b : Bool). p w.0 && b) is ∙ never (p w.0)
      where
        never : (b : Bool) → (b && false) ≡ false
        never true = refl
        never false = refl
    not_later true is =
        let s : Some' (λ (v : Node). (v.0 == w.0) ≡ true) ws = test_finds (λ (v : Node). v.0 == w.0) ws is in
        let l : w.0 < s.it.0 = All-contains (λ (b : Node). w.0 < b.0) ws s.it (pairs_head (λ (a b : Node). a.0 < b.0) w ws ascend) s.there in
        absurd (omega (arith, l, eqb-true s.it.0 w.0 s.holds))

-- a set in two parts
size_parts : (n : ℕ) (whole one other : ℕ → Bool) → ((v : ℕ) → v < n → bit (whole v) ≡ bit (one v) + bit (other v)) → size n whole ≡ size n one + size n other
size_parts zero whole one other each = refl
size_parts (suc n) whole one other each = omega (arith, each n (omega arith), size_parts n whole one other (λ v l. each v (omega (arith, l))))

-- numbers of just one of two sets
size_differ : (n : ℕ) (f g h : ℕ → Bool) → ((v : ℕ) → v < n → (bit (h v) + bit (f v) + bit (g v)) % 2 ≡ 0) → (size n h + size n f + size n g) % 2 ≡ 0
size_differ zero f g h each = refl
size_differ (suc n) f g h each = omega (arith, each n (omega arith), size_differ n f g h (λ v l. each v (omega (arith, l))))

-- ---- balances

kept_balance : (mk : ℕ → Balance) → ((k : ℕ) → (mk k).net ≡ k) → (xs : List ℕ) (net : ℕ) → Contains xs net → balance_in (map mk xs) net ≡ mk net
kept_balance mk named [] net c = absurd (contains_none net c)
kept_balance mk named (x ∷ xs) net c =
    let rest : Contains xs net → balance_in (map mk xs) net ≡ mk net = λ d. kept_balance mk named xs net d in
    elim (cases_eq x net) [
      | inl e ↦ ap (λ (o : Option Balance). unwrap_or o (no_balance net)) (on (eq-eqb (mk x).net net (named x ∙ e))) ∙ ap mk e
      | inr other ↦ elim (contains_cons x xs net c) [
        | inl e ↦ absurd (other e)
        | inr later ↦ ap (λ (o : Option Balance). unwrap_or o (no_balance net)) (off (ne_eqb (mk x).net net (λ e. other (sym (named x) ∙ e)))) ∙ rest later
      ]
    ]
  where
    on : ((mk x).net == net) ≡ true → find (λ (b : Balance). b.net == net) (mk x ∷ map mk xs) ≡ Some (mk x)
    on e = rw e refl

    off : ((mk x).net == net) ≡ false → find (λ (b : Balance). b.net == net) (mk x ∷ map mk xs) ≡ find (λ (b : Balance). b.net == net) (map mk xs)
    off e = rw e refl

open_pool : (n : ℕ) (places : List Node) (p : Node) → Contains places p → n ≤ p.0 → Contains (open_pools n places) (p.0 - n)
open_pool n places p there high =
    contains_map (λ (w : Node). w.0 - n) (filter (λ (w : Node). leb n w.0) places) p (passes_to (λ (w : Node). leb n w.0) places p there (le-leb n p.0 high))

-- ---- a choice

module _ (n : ℕ) (r : Row) (pool : ℕ → Bool) (next : OpenPlaces) (s : PoolState) (c : OpenChoice)
    (ascend : AllPairs (λ (a b : Node). a.0 < b.0) s.odd) (below : (v : Node) → Contains s.odd v → v.0 < n)
    (edges_below : AreBelow n c.edges) (net : ℕ) (is_pool : pool net ≡ true) where
  abbrev of_net : ℕ → Bool
  of_net v = net_in r v == net

  abbrev after : ℕ → Bool
  after v = is_odd_after n r pool next s c v

  -- its odd nodes that stay open, and those that do not
  odd_nodes_after : count_by (λ (v : Node). of_net v.0) (odd_left n r pool next s c) + odd_closing n r pool next s c net ≡ size n (λ v. of_net v && after v)
  odd_nodes_after =
      let kept : count_by (λ (v : Node). of_net v.0) (odd_left n r pool next s c) ≡ size n (λ v. (after v && is_open next.nodes v) && of_net v) =
      count_listed (λ (v : Node). of_net v.0) (λ v. after v && is_open next.nodes v) n in
      let all : size n (λ v. of_net v && after v) ≡ size n (λ v. (after v && is_open next.nodes v) && of_net v) + size n (λ v. of_net v && (after v && not (is_open next.nodes v))) =
      size_parts n (λ v. of_net v && after v) (λ v. (after v && is_open next.nodes v) && of_net v) (λ v. of_net v && (after v && not (is_open next.nodes v))) (λ v l. parts (of_net v) (after v) (is_open next.nodes v)) in
      omega (arith, kept, all)
    where
      parts : (x y z : Bool) → bit (x && y) ≡ bit ((y && z) && x) + bit (x && (y && not z))
      parts true true true = refl
      parts true true false = refl
      parts true false z = refl
      parts false true true = refl
      parts false true false = refl
      parts false false z = refl

  turned_nodes : (size n (λ v. of_net v && after v) + size n (λ v. of_net v && is_open s.odd v) + waiting n r c.edges net) % 2 ≡ 0
  turned_nodes = size_differ n (λ v. of_net v && is_open s.odd v) (λ v. of_net v && is_odd c.edges v) (λ v. of_net v && after v) (λ v l. each v (of_net v) refl)
    where
      of_two : (x y : Bool) → (bit (differ x y) + bit x + bit y) % 2 ≡ 0
      of_two true true = refl
      of_two true false = refl
      of_two false true = refl
      of_two false false = refl

      each : (v : ℕ) (b : Bool) → of_net v ≡ b → (bit (of_net v && after v) + bit (of_net v && is_open s.odd v) + bit (of_net v && is_odd c.edges v)) % 2 ≡ 0
      each v false is = rw is refl
      each v true is =
          let on : pool (net_in r v) ≡ true = ap pool (eqb-true (net_in r v) net is) ∙ is_pool in
          rw is (rw on (of_two (is_open s.odd v) (is_odd c.edges v)))

  abbrev w : ℕ
  w = (balance_in s.balances net).waiting

  abbrev f : ℕ
  f = (balance_in s.balances net).free

  pub parity_after : (p : Node) → Contains next.places p → n ≤ p.0 → p.0 - n ≡ net
      → differ (is_odd_pool r s.odd (balance_in s.balances net) net) (is_odd (links n r pool c.edges c.halves) (n + net))
      ≡ is_odd_pool r (odd_left n r pool next s c) (balance_in (balances_left n r pool next s c) net) net
  parity_after p there high is =
      let found : balance_in (balances_left n r pool next s c) net ≡ balance_after n r pool next s c net =
      kept_balance (balance_after n r pool next s c) (λ k. refl) (open_pools n next.places) net (subst (Contains (open_pools n next.places)) is (open_pool n next.places p there high)) in
      let counted : count_by (λ (v : Node). of_net v.0) s.odd ≡ size n (λ v. of_net v && is_open s.odd v) = count_open of_net n s.odd ascend below in
      ap (differ (is_odd_pool r s.odd (balance_in s.balances net) net)) (odd_pool n r pool net c.edges c.halves is_pool edges_below)
      ∙ sym (parity_sum (count_by (λ (v : Node). of_net v.0) s.odd + (balance_in s.balances net).waiting + (balance_in s.balances net).free) (waiting n r c.edges net + free c.halves net))
      ∙ ap (λ (k : ℕ). k == 1) (same counted)
      ∙ sym (ap (λ (b : Balance). is_odd_pool r (odd_left n r pool next s c) b net) found)
    where
      arithmetic : (count whole odd shut before wait more : ℕ) → count + shut ≡ whole → (whole + before + wait) % 2 ≡ 0 → odd ≡ before → (odd + w + f + (wait + more)) % 2 ≡ (count + (w + shut - (f + more)) + (f + more - (w + shut))) % 2
      arithmetic count whole odd shut before wait more sum even is' = elim (cases_lt (w + shut) (f + more)) [
        | inl l ↦ omega (arith, l, sum, even, is')
        | inr l ↦ omega (arith, l, sum, even, is')
      ]

      same : count_by (λ (v : Node). of_net v.0) s.odd ≡ size n (λ v. of_net v && is_open s.odd v)
          → (count_by (λ (v : Node). of_net v.0) s.odd + w + f + (waiting n r c.edges net + free c.halves net)) % 2
          ≡ (count_by (λ (v : Node). of_net v.0) (odd_left n r pool next s c) + (balance_after n r pool next s c net).waiting + (balance_after n r pool next s c net).free) % 2
      same counted =
          arithmetic (count_by (λ (v : Node). of_net v.0) (odd_left n r pool next s c)) (size n (λ v. of_net v && after v)) (count_by (λ (v : Node). of_net v.0) s.odd) (odd_closing n r pool next s c net)
          (size n (λ v. of_net v && is_open s.odd v)) (waiting n r c.edges net) (free c.halves net) odd_nodes_after turned_nodes counted
