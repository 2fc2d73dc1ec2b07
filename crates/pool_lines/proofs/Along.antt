-- States along an order are of what is open, so their lines list them.
use Rattle.std.specs.Prelude.{ℕ, zero, suc, ◌≡◌, ◌+◌, ◌-◌, ◌*◌, ◌<◌, ◌≤◌, ◌&&◌, Bool, true, false, not, ltb, List, [], ◌∷◌, All, Contains, if◌then◌else◌, slice_get}
use Rattle.std.specs.List.{filter, range_with_len}
use Rattle.std.proofs.Common.{refl, sym, ap, subst, arith, ◌∙◌}
use Rattle.std.proofs.lemmas.Bool.{and_parts, both_ways, lt-ltb}
use Rattle.std.proofs.lemmas.List.Elements.{All-contains}
use Rattle.cell_num.specs.declared.finger.Row.{Row}
use Rattle.cell_num.specs.declared.finger.Fingers.{Fingers}
use Rattle.cell_num.specs.declared.net.NetNo.{NetNo}
use Rattle.cell_num.specs.Fingers.{AreFingers}
use Rattle.cell_num.proofs.In.{Image, in_map}
use Rattle.cell_num.proofs.Lists.{all_from_contains, contains_none}
use Rattle.cell_num.proofs.Pairs.{pairs_none}
use Rattle.trail_state.specs.declared.edge.Edge.{Edge}
use Rattle.trail_state.specs.declared.edge.Node.{Node}
use Rattle.trail_state.specs.Levels.{IsOrder}
use Rattle.trail_state.specs.Places.{node_at}
use Rattle.trail_state.proofs.Members.{Passes, passes_from}
use Rattle.trail_state.proofs.Opened.{range_below}
use Rattle.open_gates.specs.declared.gates.OpenGates.{OpenGates}
use Rattle.open_gates.specs.Merged.{net_in}
use Rattle.open_gates.specs.Open.{is_left_open, is_merged_net}
use Rattle.trail_halves.specs.Halves.{AreBelow}
use Rattle.trail_halves.specs.declared.choice.OpenChoice.{OpenChoice}
use Rattle.trail_pools.specs.declared.level.OpenPlaces.{OpenPlaces}
use Rattle.trail_pools.specs.declared.level.PoolLevel.{PoolLevel}
use Rattle.trail_pools.specs.declared.pools.Pools.{Pools}
use Rattle.trail_pools.specs.declared.state.PoolState.{PoolState}
use Rattle.trail_pools.specs.Leveled.{level_of, levels_of, open_places, pools_of}
use Rattle.trail_pools.specs.Levels.{AreLevels, IsLevel, IsOpenEdge, IsPlace, MeetsOpen, first_open, none_open}
use Rattle.trail_pools.specs.Meeting.{any_meets, is_open_place, is_open_pool, is_pool_node}
use Rattle.trail_pools.specs.State.{start, state_after}
use Rattle.trail_pools.proofs.Leveled.{are_levels}
use Rattle.trail_pools.proofs.PoolNets.{test_is}
use Rattle.pool_log.specs.declared.lemma.PoolLine.{PoolLine}
use Rattle.pool_lines.specs.Lines.{line_of}
use Rattle.pool_lines.specs.Listed.{open_at, state_listed}
use Rattle.pool_lines.specs.After.{IsAfter, LeadTo}
use Rattle.pool_lines.proofs.States.{AreOpen, IsStateOf}
use Rattle.pool_lines.proofs.Back.{state_back}
use Rattle.pool_lines.proofs.Next.{nodes_ascend, open_there, starts, state_next, there_open}

none_is_open : (n : ℕ) → AreOpen n none_open
none_is_open n = record {
  places = pairs_none (λ (a b : Node). a.0 < b.0);
  nodes = pairs_none (λ (a b : Node). a.0 < b.0);
  below = λ v c. absurd (contains_none v c);
  apart = λ v p c d. absurd (contains_none v c);
}

module _ (f : Fingers) (opened : OpenGates) where
  abbrev n : ℕ
  n = 256 * f.nets

  abbrev r : Row
  r = opened.row

  abbrev pool : ℕ → Bool
  pool = is_merged_net f opened

  -- ---- what is open

  abbrev is_node : List NetNo → ℕ → Bool
  is_node gates v = is_pool_node f r (is_left_open opened) pool gates v

  abbrev is_place : List NetNo → ℕ → Bool
  is_place gates p = is_open_place f r (is_left_open opened) pool gates p

  node_from : (gates : List NetNo) (v : Node) → Contains (open_places f opened gates).nodes v → (v.0 < n) × (pool (net_in r v.0) ≡ true)
  node_from gates v there =
      let i : Image node_at (filter (is_node gates) (range_with_len 0 n)) v = in_map node_at (filter (is_node gates) (range_with_len 0 n)) v there in
      let x : Passes (is_node gates) (range_with_len 0 n) i.of = passes_from (is_node gates) (range_with_len 0 n) i.of i.listed in
      let same : i.of ≡ v.0 = ap (λ (w : Node). w.0) i.is in
      let parts : (pool (net_in r i.of) ≡ true) × (any_meets f r (is_left_open opened) gates i.of ≡ true) = and_parts (pool (net_in r i.of)) (any_meets f r (is_left_open opened) gates i.of) x.passes in
      (subst (λ (k : ℕ). k < n) same (range_below n i.of x.there), subst (λ (k : ℕ). pool (net_in r k) ≡ true) same parts.0)

  -- a place below all pools is a node in none
  place_from : (gates : List NetNo) (p : Node) → Contains (open_places f opened gates).places p → p.0 < n → pool (net_in r p.0) ≡ false
  place_from gates p there below =
      let i : Image node_at (filter (is_place gates) (range_with_len 0 (2 * n))) p = in_map node_at (filter (is_place gates) (range_with_len 0 (2 * n))) p there in
      let x : Passes (is_place gates) (range_with_len 0 (2 * n)) i.of = passes_from (is_place gates) (range_with_len 0 (2 * n)) i.of i.listed in
      let same : i.of ≡ p.0 = ap (λ (w : Node). w.0) i.is in
      let on : is_place gates p.0 ≡ true = ap (is_place gates) (sym same) ∙ x.passes in
      out (pool (net_in r p.0)) (any_meets f r (is_left_open opened) gates p.0) (sym (ap (λ (b : Bool). if b then not (pool (net_in r p.0)) && any_meets f r (is_left_open opened) gates p.0 else is_open_pool f r (is_left_open opened) pool gates (p.0 - n)) (lt-ltb p.0 n below)) ∙ on)
    where
      out : (b c : Bool) → (not b && c) ≡ true → b ≡ false
      out true c e = absurd (both_ways false refl e)
      out false c e = refl

  open_are : (gates : List NetNo) → AreOpen n (open_places f opened gates)
  open_are gates = record {
    places = nodes_ascend (is_place gates) (2 * n);
    nodes = nodes_ascend (is_node gates) n;
    below = λ v there. (node_from gates v there).0;
    apart = λ v p there at same.
        let node : (v.0 < n) × (pool (net_in r v.0) ≡ true) = node_from gates v there in
        both_ways (pool (net_in r v.0)) (ap (λ (k : ℕ). pool (net_in r k)) same ∙ place_from gates p at (subst (λ (k : ℕ). k < n) same node.0)) node.1;
  }

  -- ---- level by level

  abbrev AreLevelsOf : List NetNo → List PoolLevel → Type 0
  AreLevelsOf gates levels = AreLevels f r (is_left_open opened) pool gates levels

  -- the state is of what is open after so many gates
  record IsThere (levels : List PoolLevel) (done at : ℕ) (s : PoolState) : Type 0 where
    open' : AreOpen n (open_at (slice_get levels at))
    state : IsStateOf n r done (open_at (slice_get levels at)) s

  step : (gate : NetNo) (later : List NetNo) (l : PoolLevel) (done : ℕ) (s : PoolState) (c : OpenChoice) → IsLevel n f r (is_left_open opened) pool gate l → AreOpen n l.now → AreOpen n l.next → IsStateOf n r done l.now s → Contains l.choices c → IsStateOf n r (done + 1) l.next (state_after n r pool l.next s c l.now)
  step gate later l done s c level now_open next_open h there =
      state_next n r pool l.now l.next done s c now_open next_open h fewer are_pools below
    where
      fewer : (p : Node) → Contains l.next.places p → Contains l.now.places p
      fewer p at = open_there l.now.places p (level.fewer.places p.0 (there_open l.next.places p at))

      are_pools : (p : Node) → Contains l.next.places p → 256 * f.nets ≤ p.0 → is_merged_net f opened (p.0 - 256 * f.nets) ≡ true
      are_pools p at high = (All-contains (IsPlace n r pool) l.now.places p level.places.are (fewer p at)).is_pool high

      meets : MeetsOpen (256 * f.nets) opened.row (is_merged_net f opened) l.now c
      meets = All-contains (MeetsOpen n r pool l.now) l.choices c level.meets there

      below : AreBelow (256 * f.nets) c.edges
      below =
          all_from_contains (λ (e : Edge). (e.a.0 < n) × (e.b.0 < n)) c.edges (λ e k.
          ((All-contains (IsOpenEdge n r pool l.now) c.edges e meets.edges k).0.below, (All-contains (IsOpenEdge n r pool l.now) c.edges e meets.edges k).1.below))

  first : (gates : List NetNo) (done : ℕ) (s : PoolState) → IsStateOf n r done (first_open (levels_of f opened gates)) s → IsThere (levels_of f opened gates) done 0 s
  unfolding levels_of
  first [] done s h = record { open' = none_is_open n; state = h }
  first (g ∷ gs) done s h = record { open' = open_are (g ∷ gs); state = h }

  along : (gates : List NetNo) (done k : ℕ) (s t : PoolState) → AreLevelsOf gates (levels_of f opened gates) → IsStateOf n r done (first_open (levels_of f opened gates)) s → LeadTo n r pool k (levels_of f opened gates) s t → IsThere (levels_of f opened gates) (done + k) k t
  unfolding levels_of
  along gates done zero s t levels h same =
      let none : done ≡ done + 0 = omega arith in
      subst (IsThere (levels_of f opened gates) (done + 0) 0) same (subst (λ (d : ℕ). IsThere (levels_of f opened gates) d 0 s) none (first gates done s h))
  along [] done (suc k) s t levels h lead = absurd lead
  along (g ∷ gs) done (suc k) s t levels h (c, there, lead) =
      let l : PoolLevel = level_of f opened g gs in
      let next : IsStateOf n r (done + 1) l.next (state_after n r pool l.next s c l.now) = step g gs l done s c levels.0 (open_are (g ∷ gs)) (open_are gs) h there in
      let rest : IsThere (levels_of f opened gs) (done + 1 + k) k t = along gs (done + 1) k (state_after n r pool l.next s c l.now) t levels.2 (subst (λ (o : OpenPlaces). IsStateOf n r (done + 1) o (state_after n r pool l.next s c l.now)) levels.1 next) lead in
      let sum : done + 1 + k ≡ done + suc k = omega arith in
      subst (λ (d : ℕ). IsThere (level_of f opened g gs ∷ levels_of f opened gs) d (suc k) t) sum (record { open' = rest.open'; state = rest.state })

  -- the states of an order, from the one before the first gate
  there : AreFingers f → (order : List NetNo) → IsOrder f order → (done : ℕ) (s : PoolState) → LeadTo n r pool done (levels_of f opened order) start s → IsThere (levels_of f opened order) done done s
  there ok order is_order done s lead =
      let levels : AreLevelsOf order (levels_of f opened order) = are_levels f opened order (levels_of f opened order) ok refl is_order.gates in
      let none : 0 + done ≡ done = omega arith in
      subst (λ (d : ℕ). IsThere (levels_of f opened order) d done s) none (along order 0 done start s levels (starts n r (first_open (levels_of f opened order))) lead)

-- so its line lists each of them
pub line_back : (f : Fingers) (opened : OpenGates) (order : List NetNo) (pools : Pools) (bound done : ℕ) (s : PoolState) (it : PoolLine) → it ≡ line_of pools bound done s → AreFingers f → IsOrder f order → pools ≡ pools_of f opened → IsAfter pools (levels_of f opened order) done s → state_listed pools (levels_of f opened order) it ≡ s
line_back f opened order pools bound done s it is ok is_order are lead =
    ap (state_listed pools (levels_of f opened order)) is
    ∙ subst (λ (ps : Pools). state_listed ps (levels_of f opened order) (line_of ps bound done s) ≡ s) (sym are) back
  where
    by_nets : IsAfter (pools_of f opened) (levels_of f opened order) done s → LeadTo (256 * f.nets) opened.row (is_merged_net f opened) done (levels_of f opened order) start s
    by_nets l = subst (λ (p : ℕ → Bool). LeadTo (256 * f.nets) opened.row p done (levels_of f opened order) start s) (test_is f opened (pools_of f opened) ok refl) l

    back : state_listed (pools_of f opened) (levels_of f opened order) (line_of (pools_of f opened) bound done s) ≡ s
    back =
        let at : IsThere f opened (levels_of f opened order) done done s = there f opened ok order is_order done s (by_nets (subst (λ (ps : Pools). IsAfter ps (levels_of f opened order) done s) are lead)) in
        state_back (pools_of f opened) bound done s (levels_of f opened order) at.open' at.state
