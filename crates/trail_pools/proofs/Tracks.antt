-- The odd nodes and the balances of a state are those of all edges and half edges so far.
use Rattle.std.proofs.Common.{ℕ, zero, suc, ◌≡◌, ◌+◌, ◌-◌, ◌%◌, ◌<◌, ◌==◌, ◌&&◌, Bool, true, false, not, if◌then◌else◌}
use Rattle.std.proofs.Common.{leb, List, [], ◌∷◌, ◌++◌, Some, map, refl, sym, ap, subst, arith, ◌∙◌, inl, inr, ◌⊎◌}
use Rattle.std.proofs.Common.{Contains, unwrap_or}
use Rattle.std.specs.List.{filter, find, range_with_len}
use Rattle.std.proofs.lemmas.Bool.{and_right, both_ways, cases_Bool, cases_eq, eq-eqb, eqb-true, false_from_ne_true}
use Rattle.std.proofs.lemmas.Bool.{le-leb, leb-false, leb-true, ne_eqb}
use Rattle.std.proofs.lemmas.List.Sums.{sum_by-append}
use Rattle.cell_num.specs.declared.finger.Row.{Row}
use Rattle.cell_num.proofs.In.{contains_map}
use Rattle.cell_num.proofs.Lists.{contains_cons, contains_none}
use Rattle.cell_num.proofs.Pairs.{Some', test_finds}
use Rattle.row_trails.specs.Trails.{size}
use Rattle.trail_state.specs.declared.edge.Edge.{Edge}
use Rattle.trail_state.specs.declared.edge.FingerEnds.{FingerEnds}
use Rattle.trail_state.specs.declared.edge.Node.{Node}
use Rattle.trail_state.specs.Places.{differ, node_at}
use Rattle.trail_state.specs.Settling.{is_open}
use Rattle.trail_state.proofs.Members.{passes_to}
use Rattle.trail_state.proofs.Opened.{nodes_are, nodes_have}
use Rattle.open_gates.specs.Merged.{net_in}
use Rattle.trail_check.specs.Graph.{is_odd}
use Rattle.trail_halves.specs.Halves.{free, short}
use Rattle.trail_halves.specs.declared.choice.OpenChoice.{OpenChoice}
use Rattle.trail_pools.specs.Levels.{AreFewer}
use Rattle.trail_pools.specs.declared.level.OpenPlaces.{OpenPlaces}
use Rattle.trail_pools.specs.declared.state.PoolState.{PoolState}
use Rattle.trail_pools.specs.declared.state.Balance.{Balance}
use Rattle.trail_pools.specs.State.{balance_after, balance_in, balances_left}
use Rattle.trail_pools.specs.State.{is_odd_after, no_balance, odd_closing, odd_left, open_pools, state_after}
use Rattle.trail_pools.proofs.Placed.{odd_append}

abbrev bit : Bool → ℕ
bit b = if b then 1 else 0

-- a set in two parts
size_parts : (n : ℕ) (whole one other : ℕ → Bool)
    → ((v : ℕ) → v < n → bit (whole v) ≡ bit (one v) + bit (other v)) → size n whole ≡ size n one + size n other
size_parts zero whole one other each = refl
size_parts (suc n) whole one other each =
    omega (arith, each n (omega arith), size_parts n whole one other (λ v l. each v (omega (arith, l))))

-- the numbers below n that pass a test
listed : (p : ℕ → Bool) (n v : ℕ) → v < n → is_open (map node_at (filter p (range_with_len 0 n))) v ≡ p v
listed p n v within = elim (cases_Bool (p v)) [
  | inl on ↦ nodes_have p n v on within ∙ sym on
  | inr off ↦ false_from_ne_true (is_open (map node_at (filter p (range_with_len 0 n))) v)
      (λ e. both_ways (p v) off (nodes_are p n v e).0) ∙ sym off
]

-- what is kept of a net is found again
kept_balance : (mk : ℕ → Balance) → ((k : ℕ) → (mk k).net ≡ k) → (xs : List ℕ) (net : ℕ) → Contains xs net
    → balance_in (map mk xs) net ≡ mk net
kept_balance mk named [] net c = absurd (contains_none net c)
kept_balance mk named (x ∷ xs) net c = elim (cases_eq x net) [
  | inl e ↦ ap (λ o. unwrap_or o (no_balance net)) (on (eq-eqb (mk x).net net (named x ∙ e))) ∙ ap mk e
  | inr other ↦ elim (contains_cons x xs net c) [
    | inl e ↦ absurd (other e)
    | inr rest ↦
        ap (λ o. unwrap_or o (no_balance net)) (off (ne_eqb (mk x).net net (λ e. other (sym (named x) ∙ e))))
        ∙ kept_balance mk named xs net rest
  ]
]
  where
    on : ((mk x).net == net) ≡ true → find (λ (b : Balance). b.net == net) (mk x ∷ map mk xs) ≡ Some (mk x)
    on e = rw e refl

    off : ((mk x).net == net) ≡ false → find (λ (b : Balance). b.net == net) (mk x ∷ map mk xs)
        ≡ find (λ (b : Balance). b.net == net) (map mk xs)
    off e = rw e refl

-- the net of an open pool is among those
is_pool_open : (n : ℕ) (places : List Node) (net : ℕ) → is_open places (n + net) ≡ true
    → Contains (open_pools n places) net
is_pool_open n places net free =
    let s : Some' (λ (w : Node). (w.0 == n + net) ≡ true) places =
    test_finds (λ (w : Node). w.0 == n + net) places free in
    let at : s.it.0 ≡ n + net = eqb-true s.it.0 (n + net) s.holds in
    let back : s.it.0 - n ≡ net = omega (arith, at) in
    subst (Contains (open_pools n places)) back
    (contains_map (λ (w : Node). w.0 - n) (filter (λ (w : Node). leb n w.0) places) s.it
    (passes_to (λ (w : Node). leb n w.0) places s.it s.there (le-leb n s.it.0 (omega (arith, at)))))

-- equal differences are short of equally many
pub short_same : (w f o d : ℕ) → w + d ≡ f + o → short w f ≡ short o d
short_same w f o d e = by (leb f w) (leb d o) refl refl
  where
    by : (a b : Bool) → leb f w ≡ a → leb d o ≡ b
        → (if a then w - f else (f - w) % 2) ≡ (if b then o - d else (d - o) % 2)
    by true true x y = omega (arith, e, leb-true f w x, leb-true d o y)
    by true false x y = omega (arith, e, leb-true f w x, leb-false d o y)
    by false true x y = omega (arith, e, leb-false f w x, leb-true d o y)
    by false false x y =
        let same : f - w ≡ d - o = omega (arith, e, leb-false f w x, leb-false d o y) in ap (λ k. k % 2) same

-- what is odd after a choice, where the state has the odd open nodes of pools
odd_step : (b o c d : Bool) → d ≡ (b && (o && true)) → (b && differ d c) ≡ (b && differ o c)
odd_step false o c d e = refl
odd_step true true c d e = ap (λ k. differ k c) e
odd_step true false c d e = ap (λ k. differ k c) e

none_odd : (b o d : Bool) → d ≡ (b && (o && false)) → (b && differ d false) ≡ false
none_odd false o d e = refl
none_odd true true d e = ap (λ k. differ k false) e
none_odd true false d e = ap (λ k. differ k false) e

-- nodes below n
module _ (n : ℕ) (r : Row) (pool : ℕ → Bool) where
  -- the odd nodes of the net that no later gate can meet
  abbrev pub odd_shut : List Edge → OpenPlaces → ℕ → ℕ
  odd_shut es o net = size n (λ v. (net_in r v == net) && (is_odd es v && not (is_open o.nodes v)))

  pub record Tracks (edges : List Edge) (halves : List FingerEnds) (left : OpenPlaces) (s : PoolState) : Type 0 where
    pub odd : (v : ℕ) → v < n → is_open s.odd v ≡ (pool (net_in r v) && (is_odd edges v && is_open left.nodes v))
    pub balance : (net : ℕ) → is_open left.places (n + net) ≡ true → pool net ≡ true
        → (balance_in s.balances net).waiting + free halves net
        ≡ (balance_in s.balances net).free + odd_shut edges left net

  module _ (edges : List Edge) (halves : List FingerEnds) (now next : OpenPlaces) (s : PoolState)
      (h : Tracks edges halves now s) (c : OpenChoice) (fewer : AreFewer n r pool next now)
      (shut : (v : ℕ) → v < n → pool (net_in r v) ≡ true → is_open now.nodes v ≡ false → is_odd c.edges v ≡ false)
    where
      abbrev all_edges : List Edge
      all_edges = edges ++ c.edges

      abbrev all_halves : List FingerEnds
      all_halves = halves ++ c.halves

      open_odd : (v : ℕ) → v < n → is_open now.nodes v ≡ true
          → is_odd_after n r pool next s c v ≡ (pool (net_in r v) && is_odd all_edges v)
      open_odd v within free =
          odd_step (pool (net_in r v)) (is_odd edges v) (is_odd c.edges v) (is_open s.odd v)
          (h.odd v within ∙ ap (λ b. pool (net_in r v) && (is_odd edges v && b)) free)
          ∙ ap (λ b. pool (net_in r v) && b) (sym (odd_append edges c.edges v))

      shut_odd : (v : ℕ) → v < n → pool (net_in r v) ≡ true → is_open now.nodes v ≡ false
          → is_odd_after n r pool next s c v ≡ false
      shut_odd v within is closed =
          ap (λ b. pool (net_in r v) && differ (is_open s.odd v) b) (shut v within is closed)
          ∙ none_odd (pool (net_in r v)) (is_odd edges v) (is_open s.odd v)
          (h.odd v within ∙ ap (λ b. pool (net_in r v) && (is_odd edges v && b)) closed)

      still_odd : (v : ℕ) → v < n → pool (net_in r v) ≡ true → is_open now.nodes v ≡ false
          → is_odd all_edges v ≡ is_odd edges v
      still_odd v within is closed =
          odd_append edges c.edges v ∙ ap (differ (is_odd edges v)) (shut v within is closed) ∙ same (is_odd edges v)
        where
          same : (b : Bool) → differ b false ≡ b
          same true = refl
          same false = refl

      later_shut : (v : ℕ) → is_open now.nodes v ≡ false → is_open next.nodes v ≡ false
      later_shut v closed =
          false_from_ne_true (is_open next.nodes v)
          (λ free. both_ways (is_open now.nodes v) closed (fewer.nodes v free))

      odd_after : (v : ℕ) → v < n → is_open (odd_left n r pool next s c) v
          ≡ (pool (net_in r v) && (is_odd all_edges v && is_open next.nodes v))
      odd_after v within =
          listed (λ u. is_odd_after n r pool next s c u && is_open next.nodes u) n v within
          ∙ by (is_open next.nodes v) refl
        where
          ends_false : (a b : Bool) → (a && false) ≡ (b && (is_odd all_edges v && false))
          ends_false a b =
              and_right a false refl
              ∙ sym (and_right b (is_odd all_edges v && false) (and_right (is_odd all_edges v) false refl))

          ends_true : (a o : Bool) → ((a && o) && true) ≡ (a && (o && true))
          ends_true true o = refl
          ends_true false o = refl

          by : (b : Bool) → is_open next.nodes v ≡ b
              → (is_odd_after n r pool next s c v && b) ≡ (pool (net_in r v) && (is_odd all_edges v && b))
          by false is = ends_false (is_odd_after n r pool next s c v) (pool (net_in r v))
          by true is =
              ap (λ b. b && true) (open_odd v within (fewer.nodes v is))
              ∙ ends_true (pool (net_in r v)) (is_odd all_edges v)

      parts : (net : ℕ) → pool net ≡ true
          → odd_shut all_edges next net ≡ odd_shut edges now net + odd_closing n r pool next s c net
      parts net is =
          size_parts n (λ v. (net_in r v == net) && (is_odd all_edges v && not (is_open next.nodes v)))
          (λ v. (net_in r v == net) && (is_odd edges v && not (is_open now.nodes v)))
          (λ v. (net_in r v == net) && (is_odd_after n r pool next s c v && not (is_open next.nodes v))) each
        where
          bits : (a b c' : Bool) → ℕ
          bits a b c' = bit (a && (b && not c'))

          each : (v : ℕ) → v < n
              → bit ((net_in r v == net) && (is_odd all_edges v && not (is_open next.nodes v)))
              ≡ bit ((net_in r v == net) && (is_odd edges v && not (is_open now.nodes v)))
              + bit ((net_in r v == net) && (is_odd_after n r pool next s c v && not (is_open next.nodes v)))
          each v within = elim (cases_eq (net_in r v) net) [
            | inr other ↦ none (net_in r v == net) (ne_eqb (net_in r v) net other)
            | inl e ↦ of_net (ap pool e ∙ is) (cases_Bool (is_open now.nodes v))
          ]
            where
              none : (b : Bool) → b ≡ false
                  → bit (b && (is_odd all_edges v && not (is_open next.nodes v)))
                  ≡ bit (b && (is_odd edges v && not (is_open now.nodes v)))
                  + bit (b && (is_odd_after n r pool next s c v && not (is_open next.nodes v)))
              none false e = refl
              none true e = absurd cc

              of_net : pool (net_in r v) ≡ true
                  → (is_open now.nodes v ≡ true) ⊎ (is_open now.nodes v ≡ false)
                  → bit ((net_in r v == net) && (is_odd all_edges v && not (is_open next.nodes v)))
                  ≡ bit ((net_in r v == net) && (is_odd edges v && not (is_open now.nodes v)))
                  + bit ((net_in r v == net) && (is_odd_after n r pool next s c v && not (is_open next.nodes v)))
              of_net pooled (inl free) =
                  let after : is_odd_after n r pool next s c v ≡ is_odd all_edges v =
                  open_odd v within free ∙ ap (λ b. b && is_odd all_edges v) pooled in
                  let old : ((net_in r v == net) && (is_odd edges v && not (is_open now.nodes v))) ≡ false =
                  and_right (net_in r v == net) (is_odd edges v && not (is_open now.nodes v))
                  (and_right (is_odd edges v) (not (is_open now.nodes v)) (ap not free)) in
                  let new : bit ((net_in r v == net) && (is_odd_after n r pool next s c v && not
                  (is_open next.nodes v)))
                  ≡ bit ((net_in r v == net) && (is_odd all_edges v && not (is_open next.nodes v))) =
                  ap (λ b. bit ((net_in r v == net) && (b && not (is_open next.nodes v)))) after in
                  omega (arith, ap bit old, new)
              of_net pooled (inr closed) =
                  let new : ((net_in r v == net) && (is_odd_after n r pool next s c v && not (is_open next.nodes v)))
                  ≡ false =
                  ap (λ b. (net_in r v == net) && (b && not (is_open next.nodes v))) (shut_odd v within pooled closed)
                  ∙ and_right (net_in r v == net) false refl in
                  let old : bit ((net_in r v == net) && (is_odd all_edges v && not (is_open next.nodes v)))
                  ≡ bit ((net_in r v == net) && (is_odd edges v && not (is_open now.nodes v))) =
                  ap (λ b. bit ((net_in r v == net) && (b && not (is_open next.nodes v))))
                  (still_odd v within pooled closed)
                  ∙ ap (λ b. bit ((net_in r v == net) && (is_odd edges v && not b)))
                  (later_shut v closed ∙ sym closed) in
                  omega (arith, ap bit new, old)

      -- the balance of each pool that is open before the choice
      pub balance_is : (net : ℕ) → is_open now.places (n + net) ≡ true → pool net ≡ true
          → (balance_after n r pool next s c net).waiting + free all_halves net
          ≡ (balance_after n r pool next s c net).free + odd_shut all_edges next net
      balance_is net free_now is = omega (
        arith,
        h.balance net free_now is,
        parts net is,
        sum_by-append
            (λ (half : FingerEnds). (if half.lo == net then 1 else 0) + (if half.hi == net then 1 else 0)) halves
            c.halves,
      )

      pub tracks : Tracks all_edges all_halves next (state_after n r pool next s c now)
      tracks = record {
        odd = odd_after;
        balance = λ net free_next is.
            let found : balance_in (balances_left n r pool next s c) net ≡ balance_after n r pool next s c net =
            kept_balance (balance_after n r pool next s c) (λ k. refl) (open_pools n next.places) net
            (is_pool_open n next.places net free_next) in
            ap (λ (b : Balance). b.waiting + free all_halves net) found
            ∙ balance_is net (fewer.places (n + net) free_next) is
            ∙ ap (λ (b : Balance). b.free + odd_shut all_edges next net) (sym found);
      }
