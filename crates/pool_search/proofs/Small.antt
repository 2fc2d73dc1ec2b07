-- Balances stay small along the levels of an order, so every state that choices lead to fits.
use Rattle.std.specs.Prelude.{ℕ, suc, ◌≡◌, ◌+◌, ◌-◌, ◌*◌, ◌^◌, ◌≤◌, ◌<◌, ◌==◌, true, leb, List, [], ◌∷◌, All}
use Rattle.std.specs.Prelude.{count_by, length, map}
use Rattle.std.specs.List.{list_all}
use Rattle.std.proofs.Common.{refl, ap, subst, arith, ◌∙◌, inl, inr}
use Rattle.std.proofs.lemmas.Bool.{and_from, cases_Bool, le-leb}
use Rattle.std.proofs.lemmas.List.Elements.{All-cons, All-contains, All-head, All-nil, All-tail}
use Rattle.cell_num.specs.declared.finger.Fingers.{Fingers}
use Rattle.cell_num.specs.declared.net.NetNo.{NetNo}
use Rattle.row_trails.proofs.Sets.{size_le}
use Rattle.trail_state.specs.declared.edge.FingerEnds.{FingerEnds}
use Rattle.trail_state.specs.Levels.{IsOrder}
use Rattle.open_gates.specs.declared.gates.OpenGates.{OpenGates}
use Rattle.trail_halves.specs.Halves.{free}
use Rattle.trail_halves.specs.declared.choice.OpenChoice.{OpenChoice}
use Rattle.trail_pools.specs.declared.level.PoolLevel.{PoolLevel}
use Rattle.trail_pools.specs.declared.pools.Pools.{Pools}
use Rattle.trail_pools.specs.declared.state.Balance.{Balance}
use Rattle.trail_pools.specs.declared.state.PoolState.{PoolState}
use Rattle.trail_pools.specs.Leveled.{HasFew, has_pool, levels_of, pools_of}
use Rattle.trail_pools.specs.State.{balance_after, balance_in, balanced, is_small, odd_closing, open_pools, start}
use Rattle.trail_pools.proofs.Balances.{few_high, few_low, free_parts}
use Rattle.pool_check.specs.Accepted.{IsAccepted}
use Rattle.pool_check.specs.Stepping.{AreFew, pool_steps, steps_of}
use Rattle.pool_check.proofs.Told.{all_few}
use Rattle.end_search.specs.declared.proof.EndProof.{EndProof}
use Rattle.end_search.specs.Proof.{IsEndProof}
use Rattle.end_search.specs.Reached.{AllFit}

-- both numbers are at most k
abbrev Below : ℕ → Balance → Type 0
Below k b = (b.waiting ≤ k) × (b.free ≤ k)

below_in : (k : ℕ) (balances : List Balance) (net : ℕ) → All (Below k) balances → Below k (balance_in balances net)
below_in k [] net all = (omega arith, omega arith)
below_in k (b ∷ balances) net all =
    elim (cases_Bool (b.net == net)) [
      | inl on ↦ rw on (All-head (Below k) b balances all)
      | inr off ↦ rw off (below_in k balances net (All-tail (Below k) b balances all))
    ]

few_free : (halves : List FingerEnds) (net : ℕ) → length halves ≤ 32 → free halves net ≤ 64
few_free halves net few =
    omega (
      arith,
      few,
      free_parts halves net,
      few_low halves net (count_by (λ (h : FingerEnds). h.lo == net) halves) refl,
      few_high halves net (count_by (λ (h : FingerEnds). h.hi == net) halves) refl,
    )

lessened : (a b k : ℕ) → a ≤ k → a - b ≤ k
lessened a b k few = omega (arith, few)

balanced_below : (net waiting free_ends odd more k : ℕ) → waiting ≤ k → free_ends ≤ k → odd ≤ 65536 → more ≤ 64
    → Below (k + 65536) (balanced net (waiting + odd) (free_ends + more))
balanced_below net waiting free_ends odd more k few_waiting few_ends few_odd few_more = (
  lessened (waiting + odd) (free_ends + more) (k + 65536) (omega (arith, few_waiting, few_odd)),
  lessened (free_ends + more) (waiting + odd) (k + 65536) (omega (arith, few_ends, few_more)),
)

small_of : (b : Balance) (k : ℕ) → k ≤ 2 ^ 31 → Below k b → is_small b ≡ true
small_of b k few below =
    and_from (leb b.waiting (2 ^ 31)) (leb b.free (2 ^ 31))
    (le-leb b.waiting (2 ^ 31) (omega (arith, few, below.0)))
    (le-leb b.free (2 ^ 31) (omega (arith, few, below.1)))

all_small : (balances : List Balance) (k : ℕ) → k ≤ 2 ^ 31 → All (Below k) balances → list_all is_small balances ≡ true
all_small [] k few all = refl
all_small (b ∷ balances) k few all =
    and_from (is_small b) (list_all is_small balances)
    (small_of b k few (All-head (Below k) b balances all))
    (all_small balances k few (All-tail (Below k) b balances all))

module _ (pools : Pools) (nodes : pools.nodes ≤ 65536) where
  module _ (level : PoolLevel) (s : PoolState) (c : OpenChoice) (k : ℕ) (few : length c.halves ≤ 32)
      (all : All (Below k) s.balances) where
    few_closing : (net : ℕ) → odd_closing pools.nodes pools.row (has_pool pools) level.next s c net ≤ 65536
    few_closing net =
        let odd : odd_closing pools.nodes pools.row (has_pool pools) level.next s c net ≤ pools.nodes =
        size_le pools.nodes _ in
        omega (arith, odd, nodes)

    -- a level adds at most 65,536 odd nodes and 64 free ends
    after_below : (net : ℕ)
        → Below (k + 65536) (balance_after pools.nodes pools.row (has_pool pools) level.next s c net)
    after_below net =
        let old : Below k (balance_in s.balances net) = below_in k s.balances net all in
        balanced_below net (balance_in s.balances net).waiting (balance_in s.balances net).free
        (odd_closing pools.nodes pools.row (has_pool pools) level.next s c net) (free c.halves net) k old.0 old.1
        (few_closing net) (few_free c.halves net few)

    all_below : (nets : List ℕ)
        → All (Below (k + 65536)) (map (balance_after pools.nodes pools.row (has_pool pools) level.next s c) nets)
    all_below [] = All-nil (Below (k + 65536))
    all_below (net ∷ nets) =
        All-cons (Below (k + 65536)) (balance_after pools.nodes pools.row (has_pool pools) level.next s c net)
        (map (balance_after pools.nodes pools.row (has_pool pools) level.next s c) nets)
        (after_below net) (all_below nets)

  along : (levels : List PoolLevel) (s : PoolState) (k : ℕ) → All (AreFew pools) levels
      → k + 65536 * length levels ≤ 2 ^ 31 → All (Below k) s.balances → AllFit (pool_steps pools) levels s
  along [] s k few room all = tt
  along (l ∷ ls) s k few room all = (
    all_small s.balances k (omega (arith, room)) all,
    λ c there.
        let halves : length c.halves ≤ 32 =
        All-contains (λ (x : OpenChoice). length x.halves ≤ 32) l.choices c
        (All-head (AreFew pools) l ls few).few.halves there in
        along ls ((pool_steps pools).next l s c) (k + 65536) (All-tail (AreFew pools) l ls few) (omega (arith, room))
        (all_below l s c k halves all (open_pools pools.nodes l.next.places)),
  )

as_many : (f : Fingers) (opened : OpenGates) (order : List NetNo) → length (levels_of f opened order) ≡ length order
unfolding levels_of
as_many f opened [] = refl
as_many f opened (gate ∷ later) = ap suc (as_many f opened later)

module _ (f : Fingers) (opened : OpenGates) (order : List NetNo) (levels : List PoolLevel)
    (levels_are : levels ≡ levels_of f opened order) where
  same_length : length levels ≡ length order
  same_length = ap (λ (ls : List PoolLevel). length ls) levels_are ∙ as_many f opened order

  pub few_levels : length order ≤ 256 → length levels < 2 ^ 32
  few_levels few = omega (arith, same_length, few)

  -- from the state before the first gate on
  pub states_fit : (pools : Pools) → length order ≤ 256 → pools.nodes ≤ 65536 → All HasFew levels
      → AllFit (pool_steps pools) levels start
  states_fit pools few nodes all =
      along pools nodes levels start 0 (all_few pools levels nodes all) (omega (arith, same_length, few))
      (All-nil (Below 0))

  pub proves : (pools : Pools) (gaps budget : ℕ) (proof : EndProof PoolState) → pools ≡ pools_of f opened
      → IsEndProof (pool_steps pools) levels start gaps budget proof
      → IsEndProof (steps_of f opened) (levels_of f opened order) start gaps budget proof
  proves pools gaps budget proof pools_are it =
      subst (λ (ps : Pools). IsEndProof (pool_steps ps) (levels_of f opened order) start gaps budget proof) pools_are
      (subst (λ (ls : List PoolLevel). IsEndProof (pool_steps pools) ls start gaps budget proof) levels_are it)

  -- along an order of gates the lemmas are accepted
  pub accepts : (pools : Pools) (gaps budget : ℕ) (proof : EndProof PoolState) → pools ≡ pools_of f opened
      → IsEndProof (pool_steps pools) levels start gaps budget proof → IsOrder f order
      → IsAccepted f opened order proof.lemmas proof.ends
  accepts pools gaps budget proof pools_are it gates_are =
      let found : IsEndProof (steps_of f opened) (levels_of f opened order) start gaps budget proof =
      proves pools gaps budget proof pools_are it in
      record { gates = gates_are; justified = found.justified; proved = found.ends_are }

pub ruleset search_rules = (all_few, few_levels, states_fit, proves, accepts)
