-- One gate of an order: what the state follows, and the ends that are certain once the gate is done.
use Rattle.std.proofs.Common.{ℕ, ◌≡◌, ◌≢◌, ◌+◌, ◌-◌, ◌*◌, ◌%◌, ◌<◌, ◌≤◌, ◌==◌, ◌&&◌, Bool, true, false, not}
use Rattle.std.proofs.Common.{if◌then◌else◌, ltb, List, [], ◌++◌, append-nil, refl, sym, ap, arith, ◌∙◌, All, Contains}
use Rattle.std.proofs.Common.{IsPermutation}
use Rattle.std.proofs.lemmas.Bool.{eqb-true, ltb-false, ltb-true, not-true}
use Rattle.std.proofs.lemmas.List.Elements.{All-append, All-contains}
use Rattle.std.proofs.lemmas.List.Sums.{sum_by-append}
use Rattle.cell_num.specs.declared.finger.Row.{Row}
use Rattle.cell_num.proofs.Lists.{all_from_contains, contains_none}
use Rattle.trail_state.specs.declared.edge.Edge.{Edge}
use Rattle.trail_state.specs.declared.edge.FingerEnds.{FingerEnds}
use Rattle.trail_state.specs.declared.state.Place.{Place}
use Rattle.trail_state.specs.Places.{differ, is_met, met_places}
use Rattle.trail_state.specs.Settling.{closing_of, is_open}
use Rattle.trail_state.proofs.Begun.{begun}
use Rattle.trail_state.proofs.Follows.{Follows, added, edges_follow}
use Rattle.trail_state.proofs.Settles.{of_closing}
use Rattle.open_gates.specs.Merged.{net_in}
use Rattle.trail_check.specs.Graph.{is_odd}
use Rattle.trail_halves.specs.Halves.{AreBelow, free, links, node_ends, place_ends, place_of, pool_ends, short, waiting}
use Rattle.trail_halves.specs.declared.choice.OpenChoice.{OpenChoice}
use Rattle.trail_halves.proofs.Pools.{placed_out}
use Rattle.trail_pools.specs.Levels.{AreFewer, ArePlaces, IsOpenEdge, IsOpenHalf, MeetsOpen}
use Rattle.trail_pools.specs.declared.level.OpenPlaces.{OpenPlaces}
use Rattle.trail_pools.specs.declared.state.PoolState.{PoolState}
use Rattle.trail_pools.specs.State.{balance_after, ends_after, ends_at, joined_places}
use Rattle.trail_pools.specs.State.{pool_closing, state_after}
use Rattle.trail_pools.proofs.Apart.{all_waiting, links_open, no_free, node_apart, not_odd, place_open, pool_apart}
use Rattle.trail_pools.proofs.Apart.{short_odd}
use Rattle.trail_pools.proofs.Closing.{gate_settled}
use Rattle.trail_pools.proofs.Counted.{edges_settled}
use Rattle.trail_pools.proofs.Ends.{links_added}
use Rattle.trail_pools.proofs.Held.{Held, begun_held, edges_held}
use Rattle.trail_pools.proofs.Placed.{odd_append, odd_is, odd_node, odd_pool}
use Rattle.trail_pools.proofs.Settles.{AreEnds, settles, still_held}
use Rattle.trail_pools.proofs.States.{After, IsState}
use Rattle.trail_pools.proofs.Tracks.{balance_is, odd_shut, short_same, tracks}

module _ (n : ℕ) (r : Row) (pool : ℕ → Bool) where
  -- The gate's choice, with the edges and half edges so far, all edges as links, and the edges and half edges to come.
  module _ (now next : OpenPlaces) (c : OpenChoice) (edges more_edges : List Edge)
      (halves more_halves : List FingerEnds)
      (all : List Edge) (s : PoolState) (places : ArePlaces n r pool now) (next_places : ArePlaces n r pool next)
      (fewer : AreFewer n r pool next now) (meets_open : MeetsOpen n r pool now c)
      (later : All (IsOpenEdge n r pool next) more_edges) (later_halves : All (IsOpenHalf n r pool next) more_halves)
      (last_edges : List Edge) (last_halves : List FingerEnds)
      (edges_are : (edges ++ c.edges) ++ more_edges ≡ last_edges)
      (halves_are : (halves ++ c.halves) ++ more_halves ≡ last_halves)
      (h : IsState n r pool all last_edges last_halves edges halves now s)
    where
      abbrev ends : ℕ → ℕ
      ends = place_ends n r pool last_edges last_halves

      abbrev mine : List Edge
      mine = links n r pool c.edges c.halves

      abbrev new_edges : List Edge
      new_edges = edges ++ c.edges

      abbrev new_halves : List FingerEnds
      new_halves = halves ++ c.halves

      abbrev new_all : List Edge
      new_all = added all mine

      abbrev t : List Place
      t = joined_places n r pool next s c now

      new_same : IsPermutation new_all (links n r pool new_edges new_halves)
      new_same = links_added n r pool all edges c.edges halves c.halves h.same

      new_below : AreBelow n new_edges
      new_below =
          All-append (λ (e : Edge). (e.a.0 < n) × (e.b.0 < n)) edges c.edges h.below
          (all_from_contains (λ (e : Edge). (e.a.0 < n) × (e.b.0 < n)) c.edges
          (λ e k. (
            (All-contains (IsOpenEdge n r pool now) c.edges e meets_open.edges k).0.below,
            (All-contains (IsOpenEdge n r pool now) c.edges e meets_open.edges k).1.below,
          )))

      mine_open : (v : ℕ) → is_met mine v ≡ true → is_open now.places v ≡ true
      mine_open v met = links_open n r pool now c meets_open v met

      t_follows : Follows new_all [] now.places t
      t_follows =
          edges_follow mine all now.places (met_places now.places s.places mine)
          (begun mine all now.places s.places h.follows places.once mine_open)

      t_held : Held ends new_all t
      t_held =
          edges_held ends mine all now.places (met_places now.places s.places mine)
          (begun mine all now.places s.places h.follows places.once mine_open)
          (begun_held ends mine all now.places s.places h.follows places.once mine_open h.held)

      shut_even : (v : ℕ) → v < n → pool (net_in r v) ≡ true → is_open now.nodes v ≡ false → is_odd c.edges v ≡ false
      shut_even v within is closed = not_odd v c.edges (pool_apart n r pool now v c.edges meets_open.edges is closed)

      -- ---- a place that closes has its last ends

      module _ (p : Place) (k : Contains (closing_of next.places t) p) where
        abbrev v : ℕ
        v = p.node.0

        there : Contains t p
        there = (of_closing new_all now.places next.places t t_follows fewer.places p k).there

        closed : is_open next.places v ≡ false
        closed = not-true (is_open next.places v)
            (of_closing new_all now.places next.places t t_follows fewer.places p k).passes

        free_now : is_open now.places v ≡ true
        free_now = t_follows.within p there

        is : (v < 2 * n) × (v < n → pool (net_in r v) ≡ false) × (n ≤ v → pool (v - n) ≡ true)
        is = place_open n r pool now places v free_now

        p_odd : p.odd ≡ is_odd (links n r pool new_edges new_halves) v
        p_odd = t_follows.odd p there ∙ odd_is new_all (links n r pool new_edges new_halves) v new_same

        node_odd : v < n → p.odd ≡ is_odd last_edges v
        node_odd within =
            let out : pool (net_in r v) ≡ false = is.1 within in
            let place : is_open next.places (place_of n r pool v) ≡ false =
            ap (is_open next.places) (placed_out n r pool v out) ∙ closed in
            p_odd ∙ odd_node n r pool v new_edges new_halves within out ∙ sym
            (ap (λ l. is_odd l v) (sym edges_are) ∙ odd_append new_edges more_edges v
            ∙ ap (λ b. differ (is_odd new_edges v) b)
            (not_odd v more_edges (node_apart n r pool next v more_edges later place)) ∙ unturned (is_odd new_edges v))
          where
            unturned : (b : Bool) → differ b false ≡ b
            unturned true = refl
            unturned false = refl

        abbrev net : ℕ
        net = v - n

        -- of a pool
        module _ (high : n ≤ v) where
          number : n + net ≡ v
          number = omega (arith, high)

          is_pool : pool net ≡ true
          is_pool = is.2 high

          pool_shut : is_open next.places (n + net) ≡ false
          pool_shut = ap (is_open next.places) number ∙ closed

          waiting_is : waiting n r last_edges net ≡ odd_shut n r pool new_edges next net
          waiting_is =
              ap (λ l. waiting n r l net) (sym edges_are)
              ∙ all_waiting n r pool next new_edges more_edges net next_places later is_pool pool_shut

          free_is : free last_halves net ≡ free new_halves net
          free_is =
              let none : free more_halves net ≡ 0 = no_free n r pool next net more_halves later_halves pool_shut in
              ap (λ l. free l net) (sym halves_are) ∙ omega (
                arith,
                none,
                sum_by-append
                    (λ (half : FingerEnds). (if half.lo == net then 1 else 0) + (if half.hi == net then 1 else 0))
                    new_halves more_halves,
              )

          pool_is : pool_closing n r pool next s c net ≡ short (waiting n r last_edges net) (free last_halves net)
          pool_is =
              let w : ℕ = (balance_after n r pool next s c net).waiting in
              let f : ℕ = (balance_after n r pool next s c net).free in
              let sums : w + free new_halves net ≡ f + odd_shut n r pool new_edges next net =
              balance_is n r pool edges halves now next s h.tracked c fewer shut_even net
              (ap (is_open now.places) number ∙ free_now) is_pool in
              short_same w f (waiting n r last_edges net) (free last_halves net)
              (omega (arith, sums, waiting_is, free_is))

          pool_odd : p.odd ≡ true → short (waiting n r last_edges net) (free last_halves net) ≢ 0
          pool_odd odd =
              let here : waiting n r new_edges net ≡ odd_shut n r pool new_edges next net =
              ap (λ l. waiting n r l net) (sym (append-nil new_edges))
              ∙ all_waiting n r pool next new_edges [] net next_places (all_from_contains (IsOpenEdge n r pool next) []
              (λ e none. absurd (contains_none e none))) is_pool pool_shut in
              let parity : ((waiting n r new_edges net + free new_halves net) % 2 == 1) ≡ true =
              sym (odd_pool n r pool net new_edges new_halves is_pool new_below)
              ∙ ap (is_odd (links n r pool new_edges new_halves)) number ∙ sym p_odd ∙ odd in
              short_odd (waiting n r last_edges net) (free last_halves net)
              (omega (
                arith,
                eqb-true ((waiting n r new_edges net + free new_halves net) % 2) 1 parity,
                here,
                waiting_is,
                free_is,
              ))

        ends_are : ends_at n r pool next s c p ≡ ends v
        ends_are = by (ltb v n) refl
          where
            by : (b : Bool) → ltb v n ≡ b
                → (if b then (if p.odd then 1 else 0) else pool_closing n r pool next s c (v - n))
                ≡ (if b then node_ends r pool last_edges v else pool_ends n r pool last_edges last_halves (v - n))
            by true low =
                let within : v < n = ltb-true v n low in
                ap (λ b. if b then 1 else 0) (node_odd within)
                ∙ sym (ap (λ b. if not b && is_odd last_edges v then 1 else 0) (is.1 within))
            by false high =
                let up : n ≤ v = ltb-false v n high in
                pool_is up
                ∙ sym (ap (λ b. if b then short (waiting n r last_edges net) (free last_halves net) else 0)
                (is_pool up))

        odd_ends : p.odd ≡ true → ends v ≢ 0
        odd_ends odd = by (ltb v n) refl
          where
            by : (b : Bool) → ltb v n ≡ b
                → (if b then node_ends r pool last_edges v else pool_ends n r pool last_edges last_halves (v - n)) ≢ 0
            by true low none =
                let within : v < n = ltb-true v n low in
                let one : node_ends r pool last_edges v ≡ 1 =
                ap (λ b. if not b && is_odd last_edges v then 1 else 0) (is.1 within)
                ∙ ap (λ b. if b then 1 else 0) (sym (node_odd within) ∙ odd) in
                omega (arith, one, none)
            by false high none =
                let up : n ≤ v = ltb-false v n high in
                pool_odd up odd
                (sym (ap (λ b. if b then short (waiting n r last_edges net) (free last_halves net) else 0) (is_pool up))
                ∙ none)

      closing_ends : AreEnds (closing_of next.places t) (ends_at n r pool next s c) ends
      closing_ends = record { are = ends_are; odd = odd_ends }

      pub gate_done : After n r pool last_edges last_halves all new_all new_edges new_halves now next
          (state_after n r pool next s c now) (ends_after n r pool next s c now)
      gate_done = record {
        state = record {
          below = new_below;
          same = new_same;
          follows =
              settles new_all now.places next.places t t_follows fewer.places (ends_at n r pool next s c) ends
              closing_ends t_held;
          tracked = tracks n r pool edges halves now next s h.tracked c fewer shut_even;
          held =
              still_held new_all now.places next.places t t_follows fewer.places (ends_at n r pool next s c) ends
              closing_ends t_held;
        };
        counted = omega (
          arith,
          edges_settled (2 * n) ends mine all now.places (λ p free. (place_open n r pool now places p free).0)
              mine_open,
          gate_settled (2 * n) ends new_all now.places next.places t t_follows fewer.places
              (λ p free. (place_open n r pool now places p free).0) (ends_at n r pool next s c) closing_ends t_held,
        );
      }
