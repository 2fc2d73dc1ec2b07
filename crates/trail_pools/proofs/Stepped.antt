-- The step that is computed is that of the definition.
use Rattle.std.proofs.Common.{ℕ, zero, suc, ◌≡◌, ◌+◌, ◌≤◌, ◌==◌, ◌&&◌, ◌||◌, Bool, true, false, not, cond}
use Rattle.std.proofs.Common.{if◌then◌else◌, List, [], ◌∷◌, length, map, count_by, sum_by, refl, sym, ap, arith}
use Rattle.std.proofs.Common.{◌∙◌, inl, inr, subst}
use Rattle.std.specs.List.{filter, range_with_len}
use Rattle.std.proofs.lemmas.Bool.{and_right, cases_Bool}
use Rattle.std.proofs.lemmas.List.Elements.{filter-append}
use Rattle.std.proofs.lemmas.List.Sums.{count_by-le-length, sum_by-append, sum_by-cons}
use Rattle.cell_num.specs.declared.finger.Row.{Row}
use Rattle.row_trails.specs.Trails.{size}
use Rattle.trail_state.specs.declared.edge.Edge.{Edge}
use Rattle.trail_state.specs.declared.edge.Node.{Node}
use Rattle.trail_state.specs.declared.state.Place.{Place}
use Rattle.trail_state.specs.Settling.{closing_of, has_class, is_open, kept_of, name_in}
use Rattle.trail_state.specs.Places.{node_at, with_edges}
use Rattle.trail_state.proofs.Few.{no_more}
use Rattle.trail_state.proofs.Members.{filter_off, filter_on}
use Rattle.trail_state.proofs.Parts.{range_next}
use Rattle.trail_check.proofs.OddEnds.{count_cons, count_map}
use Rattle.open_gates.specs.Merged.{net_in}
use Rattle.trail_halves.specs.Halves.{free}
use Rattle.trail_halves.specs.declared.choice.OpenChoice.{OpenChoice}
use Rattle.trail_pools.specs.declared.closed.ClosedPlace.{ClosedPlace}
use Rattle.trail_pools.specs.declared.level.OpenPlaces.{OpenPlaces}
use Rattle.trail_pools.specs.declared.settle.PoolSettled.{PoolSettled}
use Rattle.trail_pools.specs.declared.state.Balance.{Balance}
use Rattle.trail_pools.specs.declared.state.PoolState.{PoolState}
use Rattle.trail_pools.specs.State.{balance_after, balance_in, balanced, ends_after, ends_at, ends_settled, has_ends}
use Rattle.trail_pools.specs.State.{is_closed_trail, joined_places, odd_left, odd_closing, open_pools}
use Rattle.trail_pools.specs.State.{places_left, state_after}
use Rattle.trail_pools.specs.Stepping.{all_ends, balance, closed_of, closed_place, closed_places, count_of, has_some}
use Rattle.trail_pools.specs.Stepping.{is_closed, next_balance, odd_pooled, is_odd_pooled, place_ends, place_left}
use Rattle.trail_pools.specs.Stepping.{settled, shut_of}

-- ---- two tests, one after the other

filter_twice : (p q : ℕ → Bool) (xs : List ℕ) → filter q (filter p xs) ≡ filter (λ v. p v && q v) xs
filter_twice p q [] = refl
filter_twice p q (x ∷ xs) = elim (cases_Bool (p x)) [
  | inl on ↦
      ap (filter q) (filter_on p x xs on) ∙ first (q x) (filter_twice p q xs)
      ∙ sym (ap (λ b. cond (b && q x) (x ∷ filter (λ v. p v && q v) xs) (filter (λ v. p v && q v) xs)) on)
  | inr off ↦
      ap (filter q) (filter_off p x xs off) ∙ filter_twice p q xs
      ∙ sym (ap (λ b. cond (b && q x) (x ∷ filter (λ v. p v && q v) xs) (filter (λ v. p v && q v) xs)) off)
]
  where
    first : (b : Bool) → filter q (filter p xs) ≡ filter (λ v. p v && q v) xs
        → cond b (x ∷ filter q (filter p xs)) (filter q (filter p xs))
        ≡ cond (true && b) (x ∷ filter (λ v. p v && q v) xs) (filter (λ v. p v && q v) xs)
    first true rest = ap (λ l. x ∷ l) rest
    first false rest = rest

-- how many numbers below n pass all three
counted : (p o q : ℕ → Bool) (n : ℕ)
    → count_by p (filter q (filter o (range_with_len 0 n))) ≡ size n (λ v. p v && (o v && q v))
counted p o q zero = refl
counted p o q (suc n) =
    let one : suc n ≡ n + 1 = omega arith in
    let before : List ℕ = range_with_len 0 n in
    let last : count_by p (filter q (filter o (n ∷ []))) ≡ (if p n && (o n && q n) then 1 else 0) =
    by (o n) (q n) refl refl in
    let parts : count_by p (filter q (filter o (range_with_len 0 (suc n))))
    ≡ count_by p (filter q (filter o before)) + count_by p (filter q (filter o (n ∷ []))) =
    ap (λ k. count_by p (filter q (filter o (range_with_len 0 k)))) one
    ∙ ap (λ l. count_by p (filter q (filter o l))) (range_next n)
    ∙ ap (λ l. count_by p (filter q l)) (filter-append o before (n ∷ []))
    ∙ ap (count_by p) (filter-append q (filter o before) (filter o (n ∷ [])))
    ∙ sum_by-append (λ v. cond (p v) 1 0) (filter q (filter o before)) (filter q (filter o (n ∷ []))) in
    omega (arith, parts, last, counted p o q n)
  where
    by : (b c : Bool) → o n ≡ b → q n ≡ c
        → count_by p (filter q (cond b (n ∷ []) [])) ≡ (if p n && (b && c) then 1 else 0)
    by false c is_o is_q = sym (ap (λ k. if k then 1 else 0) (and_right (p n) false refl))
    by true false is_o is_q =
        ap (λ k. count_by p (cond k (n ∷ []) [])) is_q ∙ sym (ap (λ k. if k then 1 else 0) (and_right (p n) false refl))
    by true true is_o is_q = ap (λ k. count_by p (cond k (n ∷ []) [])) is_q ∙ count_cons p n [] ∙ one_of (p n)
      where
        one_of : (k : Bool) → cond k 1 0 + 0 ≡ (if k && true then 1 else 0)
        one_of true = refl
        one_of false = refl

-- ---- places that close

module _ (ends : Place → ℕ) where
  some_is : (closing : List Place) (h : ℕ) → has_some (closed_of ends closing) h ≡ has_ends ends closing h
  some_is [] h = refl
  some_is (p ∷ ps) h = ap (λ b. ((p.class.0 == h) && not (ends p == 0)) || b) (some_is ps h)

  sum_is : (closing : List Place) → sum_by (λ (c : ClosedPlace). c.ends) (closed_of ends closing) ≡ sum_by ends closing
  sum_is [] = refl
  sum_is (p ∷ ps) =
      sum_by-cons (λ (c : ClosedPlace). c.ends) (closed_place ends p) (closed_of ends ps)
      ∙ ap (λ k. ends p + k) (sum_is ps) ∙ sym (sum_by-cons ends p ps)

  closed_is : (kept closing : List Place) (p : Place)
      → is_closed kept (closed_of ends closing) p ≡ is_closed_trail ends kept closing p
  closed_is kept closing p =
      ap (λ b. (p.node.0 == p.class.0) && not p.flagged && not (has_class kept p.class.0) && not b)
      (some_is closing p.class.0)

  pub ends_are : (kept closing : List Place) → all_ends kept (closed_of ends closing) ≡ ends_settled ends kept closing
  ends_are kept closing =
      let trails : count_by (λ (c : ClosedPlace). is_closed kept (closed_of ends closing) c.place)
      (closed_of ends closing) ≡ count_by (is_closed_trail ends kept closing) closing =
      count_map (λ (c : ClosedPlace). is_closed kept (closed_of ends closing) c.place) (closed_place ends) closing
      ∙ (λ i. count_by (λ p. closed_is kept closing p i) closing) in
      omega (arith, sum_is closing, trails)

  pub left_are : (kept closing : List Place)
      → map (place_left kept (closed_of ends closing)) kept ≡ places_left ends kept closing
  left_are kept closing =
      λ i. map (λ (p : Place). let q : Place = record {
        node = p.node;
        class = name_in kept p;
        odd = p.odd;
        flagged = p.flagged || some_is closing p.class.0 i;
      } in q) kept

pub few_closed : (kept : List Place) (closed : List ClosedPlace)
    → count_by (λ (c : ClosedPlace). is_closed kept closed c.place) closed ≤ length closed
few_closed kept closed = count_by-le-length (λ (c : ClosedPlace). is_closed kept closed c.place) closed

-- ---- the step

module _ (n : ℕ) (r : Row) (pool : ℕ → Bool) (next : OpenPlaces) (s : PoolState) (c : OpenChoice) where
  abbrev odd : List ℕ
  odd = odd_pooled r pool s.odd c.edges n

  closing_is : (net : ℕ) → count_of r (shut_of next.nodes odd) net ≡ odd_closing n r pool next s c net
  closing_is net =
      counted (λ v. net_in r v == net) (is_odd_pooled r pool s.odd c.edges) (λ v. not (is_open next.nodes v)) n

  balance_is : next_balance r (shut_of next.nodes odd) s.balances c.halves ≡ balance_after n r pool next s c
  balance_is =
      λ i net. balanced net ((balance_in s.balances net).waiting + closing_is net i)
      ((balance_in s.balances net).free + free c.halves net)

  module _ (now : OpenPlaces) where
    abbrev places : List Place
    places = joined_places n r pool next s c now

    abbrev kept : List Place
    kept = kept_of next.places places

    abbrev closing : List Place
    closing = closing_of next.places places

    closed_are : closed_places n r next s c odd places ≡ closed_of (ends_at n r pool next s c) closing
    closed_are = ap (λ b. closed_of (place_ends n b) closing) balance_is

    state_is : (settled n r next s c odd places).state ≡ state_after n r pool next s c now
    state_is =
        let left : map (place_left kept (closed_places n r next s c odd places)) kept
        ≡ places_left (ends_at n r pool next s c) kept closing =
        ap (λ l. map (place_left kept l) kept) closed_are ∙ left_are (ends_at n r pool next s c) kept closing in
        let open_odd : map node_at (filter (is_open next.nodes) odd) ≡ odd_left n r pool next s c =
        ap (map node_at)
        (filter_twice (is_odd_pooled r pool s.odd c.edges) (is_open next.nodes) (range_with_len 0 n)) in
        λ i. record {
          places = left i;
          odd = open_odd i;
          balances = map (balance_is i) (open_pools n next.places);
        }

    ends_is : (settled n r next s c odd places).ends ≡ ends_after n r pool next s c now
    ends_is = ap (all_ends kept) closed_are ∙ ends_are (ends_at n r pool next s c) kept closing

-- where these are the odd nodes of pools and the places
pub state_settled : (n : ℕ) (r : Row) (pool : ℕ → Bool) (next : OpenPlaces) (s : PoolState) (c : OpenChoice)
    (now : OpenPlaces) (odd_nodes : List ℕ) (joined : List Place) (it : PoolSettled)
    → odd_nodes ≡ odd_pooled r pool s.odd c.edges n → joined ≡ joined_places n r pool next s c now
    → it ≡ settled n r next s c odd_nodes joined → it.state ≡ state_after n r pool next s c now
state_settled n r pool next s c now odd_nodes joined it odd_is joined_is is =
    ap (λ (x : PoolSettled). x.state) is
    ∙ (λ i. (settled n r next s c (odd_is i) (joined_is i)).state) ∙ state_is n r pool next s c now

pub ends_settled_are : (n : ℕ) (r : Row) (pool : ℕ → Bool) (next : OpenPlaces) (s : PoolState) (c : OpenChoice)
    (now : OpenPlaces) (odd_nodes : List ℕ) (joined : List Place) (it : PoolSettled)
    → odd_nodes ≡ odd_pooled r pool s.odd c.edges n → joined ≡ joined_places n r pool next s c now
    → it ≡ settled n r next s c odd_nodes joined → it.ends ≡ ends_after n r pool next s c now
ends_settled_are n r pool next s c now odd_nodes joined it odd_is joined_is is =
    ap (λ (x : PoolSettled). x.ends) is
    ∙ (λ i. (settled n r next s c (odd_is i) (joined_is i)).ends) ∙ ends_is n r pool next s c now

-- the parts of the step
pub settled_is : (n : ℕ) (r : Row) (next : OpenPlaces) (s : PoolState) (c : OpenChoice) (odd_nodes : List ℕ)
    (joined : List Place) (shut : List ℕ) (stay shuts : List Place) (ended : List ClosedPlace) (left : List Place)
    (free_odd : List Node) (balances : List Balance) (ends : ℕ) → shut ≡ shut_of next.nodes odd_nodes
    → stay ≡ kept_of next.places joined → shuts ≡ closing_of next.places joined
    → ended ≡ closed_of (place_ends n (next_balance r shut s.balances c.halves)) shuts
    → left ≡ map (place_left stay ended) stay → free_odd ≡ map node_at (filter (is_open next.nodes) odd_nodes)
    → balances ≡ map (next_balance r shut s.balances c.halves) (open_pools n next.places)
    → ends ≡ all_ends stay ended
    → ◌≡◌ {A = PoolSettled}
    (record { state = record { places = left; odd = free_odd; balances = balances }; ends = ends })
    (settled n r next s c odd_nodes joined)
settled_is n r next s c odd_nodes joined shut stay shuts ended left free_odd balances ends shut_is stay_is shuts_is
    ended_is left_is odd_is balances_are ends_are_so =
    let ended_so : ended ≡ closed_places n r next s c odd_nodes joined =
    ended_is ∙ (λ i. closed_of (place_ends n (next_balance r (shut_is i) s.balances c.halves)) (shuts_is i)) in
    let left_so : left ≡ map (place_left (kept_of next.places joined) (closed_places n r next s c odd_nodes joined))
    (kept_of next.places joined) =
    left_is ∙ (λ i. map (place_left (stay_is i) (ended_so i)) (stay_is i)) in
    let balances_so : balances ≡ map (balance n r next s c odd_nodes joined) (open_pools n next.places) =
    balances_are ∙ (λ i. map (next_balance r (shut_is i) s.balances c.halves) (open_pools n next.places)) in
    let ends_so : ends ≡ all_ends (kept_of next.places joined) (closed_places n r next s c odd_nodes joined) =
    ends_are_so ∙ (λ i. all_ends (stay_is i) (ended_so i)) in
    λ i. record {
      state = record { places = left_so i; odd = odd_is i; balances = balances_so i };
      ends = ends_so i;
    }

pub few_closing : (nodes next : List Node) (s : List Place) (es : List Edge) (joined : List Place)
    → joined ≡ with_edges nodes s es → length nodes ≤ 131072 → length (closing_of next joined) ≤ 131072
few_closing nodes next s es joined is few =
    subst (λ (l : List Place). length (closing_of next l) ≤ 131072) (sym is)
    (omega (arith, few, no_more nodes next s es))
