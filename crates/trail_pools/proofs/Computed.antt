-- The places that gates can meet by their fingers: they are places, fewer and fewer, and none at last.
use Rattle.std.proofs.Common.{ℕ, ◌≡◌, ◌+◌, ◌-◌, ◌*◌, ◌<◌, ◌==◌, ◌&&◌, ◌||◌, Bool, true, false, not, if◌then◌else◌, ltb}
use Rattle.std.proofs.Common.{List, [], ◌∷◌, map, refl, sym, ap, arith, ◌∙◌, inl, inr}
use Rattle.std.specs.List.{filter, list_any, range_with_len}
use Rattle.std.proofs.lemmas.Bool.{and_from, and_parts, and_right, cases_Bool, eq-eqb, le-ltb, lt-ltb, not-true}
use Rattle.std.proofs.lemmas.Bool.{not_from_false, or_cases, or_left, or_right}
use Rattle.cell_num.specs.declared.net.NetNo.{NetNo}
use Rattle.cell_num.specs.declared.finger.Row.{Row}
use Rattle.cell_num.specs.declared.finger.Fingers.{Fingers}
use Rattle.cell_num.proofs.Lists.{all_from_contains}
use Rattle.cell_num.proofs.Pairs.{Some', test_finds, test_there}
use Rattle.trail_state.specs.declared.edge.Node.{Node}
use Rattle.trail_state.specs.Places.{node_at}
use Rattle.trail_state.specs.Settling.{is_open}
use Rattle.trail_state.proofs.Opened.{nodes_are, nodes_differ, nodes_have, range_has}
use Rattle.open_gates.specs.Merged.{net_in}
use Rattle.trail_halves.proofs.Pools.{net_le, placed_in, placed_out}
use Rattle.trail_pools.specs.Levels.{AreFewer, ArePlaces, IsOpenNode, IsPlace, none_open}
use Rattle.trail_pools.specs.Meeting.{any_ends_free, any_meets, is_open_place, is_open_pool, is_pool_node, open_from}
use Rattle.trail_pools.specs.declared.level.OpenPlaces.{OpenPlaces}

-- a test that more members pass
any_more : {X : Type 0} (p q : X → Bool) (xs : List X) → ((x : X) → p x ≡ true → q x ≡ true)
    → list_any p xs ≡ true → list_any q xs ≡ true
any_more p q xs more some =
    let s : Some' (λ x. p x ≡ true) xs = test_finds p xs some in
    test_there q xs s.it s.there (more s.it s.holds)

none_pass : (p : ℕ → Bool) (xs : List ℕ) → ((x : ℕ) → p x ≡ false) → filter p xs ≡ []
none_pass p [] none = refl
none_pass p (x ∷ xs) none = rw (none x) (none_pass p xs none)

none_any : {X : Type 0} (p : X → Bool) (xs : List X) → ((x : X) → p x ≡ false) → list_any p xs ≡ false
none_any p [] none = refl
none_any p (x ∷ xs) none = rw (none x) (none_any p xs none)

module _ (f : Fingers) (r : Row) (counted pool : ℕ → Bool) where
  abbrev n : ℕ
  n = 256 * f.nets

  -- ---- what is open

  pool_place : (gates : List NetNo) (net : ℕ) → net < n → is_open_pool f r counted pool gates net ≡ true
      → is_open (open_from f r counted pool gates).places (n + net) ≡ true
  pool_place gates net within free =
      let back : n + net - n ≡ net = omega arith in
      nodes_have (is_open_place f r counted pool gates) (2 * n) (n + net)
      (ap (λ b. if b then not (pool (net_in r (n + net))) && any_meets f r counted gates (n + net)
      else is_open_pool f r counted pool gates (n + net - n)) (le-ltb (n + net) n (omega arith))
      ∙ ap (is_open_pool f r counted pool gates) back ∙ free)
      (omega (arith, within))

  -- at the net of a half edge
  pub free_place : (gates : List NetNo) (net : ℕ) → net < n → pool net ≡ true
      → any_ends_free f r counted gates net ≡ true
      → is_open (open_from f r counted pool gates).places (n + net) ≡ true
  free_place gates net within is free =
      pool_place gates net within
      (and_from (pool net)
      (list_any (λ v. (net_in r v == net) && any_meets f r counted gates v) (range_with_len 0 n)
      || any_ends_free f r counted gates net) is
      (or_right (list_any (λ v. (net_in r v == net) && any_meets f r counted gates v) (range_with_len 0 n))
      (any_ends_free f r counted gates net) free))

  of_node : (gates : List NetNo) (v : ℕ) → v < n → pool (net_in r v) ≡ true
      → any_meets f r counted gates v ≡ true
      → is_open (open_from f r counted pool gates).places (n + net_in r v) ≡ true
  of_node gates v within is met =
      pool_place gates (net_in r v) (omega (arith, within, net_le r v))
      (and_from (pool (net_in r v))
      (list_any (λ u. (net_in r u == net_in r v) && any_meets f r counted gates u) (range_with_len 0 n)
      || any_ends_free f r counted gates (net_in r v)) is
      (or_left (list_any (λ u. (net_in r u == net_in r v) && any_meets f r counted gates u) (range_with_len 0 n))
      (any_ends_free f r counted gates (net_in r v))
      (test_there (λ u. (net_in r u == net_in r v) && any_meets f r counted gates u) (range_with_len 0 n) v
      (range_has n v within)
      (and_from (net_in r v == net_in r v) (any_meets f r counted gates v)
      (eq-eqb (net_in r v) (net_in r v) refl) met))))

  pub node_open : (gates : List NetNo) (v : ℕ) → v < n → any_meets f r counted gates v ≡ true
      → IsOpenNode n r pool (open_from f r counted pool gates) v
  node_open gates v within met = record {
    below = within;
    place = elim (cases_Bool (pool (net_in r v))) [
      | inl is ↦
          ap (is_open (open_from f r counted pool gates).places) (placed_in n r pool v is)
          ∙ of_node gates v within is met
      | inr out ↦
          ap (is_open (open_from f r counted pool gates).places) (placed_out n r pool v out)
          ∙ nodes_have (is_open_place f r counted pool gates) (2 * n) v
          (ap (λ b. if b then not (pool (net_in r v)) && any_meets f r counted gates v
          else is_open_pool f r counted pool gates (v - n)) (lt-ltb v n within)
          ∙ and_from (not (pool (net_in r v))) (any_meets f r counted gates v)
          (not_from_false (pool (net_in r v)) out) met)
          (omega (arith, within))
    ];
    node = λ is. nodes_have (is_pool_node f r counted pool gates) n v
        (and_from (pool (net_in r v)) (any_meets f r counted gates v) is met) within;
  }

  -- ---- places

  is_place : (gates : List NetNo) (p : ℕ) → is_open_place f r counted pool gates p ≡ true → p < 2 * n
      → IsPlace n r pool (node_at p)
  is_place gates p free within = record {
    below = within;
    is_node = λ low. not-true (pool (net_in r p)) (and_parts (not (pool (net_in r p)))
        (any_meets f r counted gates p)
        (sym (ap (λ b. if b then not (pool (net_in r p)) && any_meets f r counted gates p
        else is_open_pool f r counted pool gates (p - n)) (lt-ltb p n low)) ∙ free)).0;
    is_pool = λ high. (and_parts (pool (p - n))
        (list_any (λ v. (net_in r v == p - n) && any_meets f r counted gates v) (range_with_len 0 n)
        || any_ends_free f r counted gates (p - n))
        (sym (ap (λ b. if b then not (pool (net_in r p)) && any_meets f r counted gates p
        else is_open_pool f r counted pool gates (p - n)) (le-ltb p n high)) ∙ free)).0;
  }

  pub are_places : (gates : List NetNo) → ArePlaces n r pool (open_from f r counted pool gates)
  are_places gates = record {
    once = nodes_differ (is_open_place f r counted pool gates) (2 * n);
    are = all_from_contains (IsPlace n r pool) (open_from f r counted pool gates).places (λ p k.
        let free : (is_open_place f r counted pool gates p.0 ≡ true) × (p.0 < 2 * n) =
        nodes_are (is_open_place f r counted pool gates) (2 * n) p.0
        (test_there (λ (w : Node). w.0 == p.0) (open_from f r counted pool gates).places p k
        (eq-eqb p.0 p.0 refl)) in
        is_place gates p.0 free.0 free.1);
    pools = λ v is free.
        let met : (is_pool_node f r counted pool gates v ≡ true) × (v < n) =
        nodes_are (is_pool_node f r counted pool gates) n v free in
        of_node gates v met.1 is
        (and_parts (pool (net_in r v)) (any_meets f r counted gates v) met.0).1;
  }

  -- ---- fewer and fewer

  pools_more : (g : NetNo) (gates : List NetNo) (net : ℕ) → is_open_pool f r counted pool gates net ≡ true
      → is_open_pool f r counted pool (g ∷ gates) net ≡ true
  pools_more g gates net free =
      let parts : (pool net ≡ true)
      × ((list_any (λ v. (net_in r v == net) && any_meets f r counted gates v) (range_with_len 0 n)
      || any_ends_free f r counted gates net) ≡ true) =
      and_parts (pool net)
      (list_any (λ v. (net_in r v == net) && any_meets f r counted gates v) (range_with_len 0 n)
      || any_ends_free f r counted gates net) free in
      and_from (pool net)
      (list_any (λ v. (net_in r v == net) && any_meets f r counted (g ∷ gates) v) (range_with_len 0 n)
      || any_ends_free f r counted (g ∷ gates) net) parts.0
      (elim (or_cases
      (list_any (λ v. (net_in r v == net) && any_meets f r counted gates v) (range_with_len 0 n))
      (any_ends_free f r counted gates net) parts.1) [
        | inl met ↦ or_left
            (list_any (λ v. (net_in r v == net) && any_meets f r counted (g ∷ gates) v) (range_with_len 0 n))
            (any_ends_free f r counted (g ∷ gates) net)
            (any_more (λ v. (net_in r v == net) && any_meets f r counted gates v)
            (λ v. (net_in r v == net) && any_meets f r counted (g ∷ gates) v) (range_with_len 0 n)
            (λ v e. node v (and_parts (net_in r v == net) (any_meets f r counted gates v) e)) met)
        | inr ends ↦ or_right
            (list_any (λ v. (net_in r v == net) && any_meets f r counted (g ∷ gates) v) (range_with_len 0 n))
            (any_ends_free f r counted (g ∷ gates) net)
            (or_right _ (any_ends_free f r counted gates net) ends)
      ])
    where
      node : (v : ℕ) → ((net_in r v == net) ≡ true) × (any_meets f r counted gates v ≡ true)
          → ((net_in r v == net) && any_meets f r counted (g ∷ gates) v) ≡ true
      node v parts =
          and_from (net_in r v == net) (any_meets f r counted (g ∷ gates) v) parts.0
          (or_right _ (any_meets f r counted gates v) parts.1)

  place_more : (g : NetNo) (gates : List NetNo) (p : ℕ) → is_open_place f r counted pool gates p ≡ true
      → is_open_place f r counted pool (g ∷ gates) p ≡ true
  place_more g gates p free = by (ltb p n) free
    where
      by : (b : Bool)
          → (if b then not (pool (net_in r p)) && any_meets f r counted gates p
          else is_open_pool f r counted pool gates (p - n)) ≡ true
          → (if b then not (pool (net_in r p)) && any_meets f r counted (g ∷ gates) p
          else is_open_pool f r counted pool (g ∷ gates) (p - n)) ≡ true
      by true e =
          let parts : (not (pool (net_in r p)) ≡ true) × (any_meets f r counted gates p ≡ true) =
          and_parts (not (pool (net_in r p))) (any_meets f r counted gates p) e in
          and_from (not (pool (net_in r p))) (any_meets f r counted (g ∷ gates) p) parts.0
          (or_right _ (any_meets f r counted gates p) parts.1)
      by false e = pools_more g gates (p - n) e

  pub are_fewer : (g : NetNo) (gates : List NetNo)
      → AreFewer n r pool (open_from f r counted pool gates) (open_from f r counted pool (g ∷ gates))
  are_fewer g gates = record {
    places = λ p free.
        let was : (is_open_place f r counted pool gates p ≡ true) × (p < 2 * n) =
        nodes_are (is_open_place f r counted pool gates) (2 * n) p free in
        nodes_have (is_open_place f r counted pool (g ∷ gates)) (2 * n) p (place_more g gates p was.0) was.1;
    nodes = λ v free.
        let was : (is_pool_node f r counted pool gates v ≡ true) × (v < n) =
        nodes_are (is_pool_node f r counted pool gates) n v free in
        let parts : (pool (net_in r v) ≡ true) × (any_meets f r counted gates v ≡ true) =
        and_parts (pool (net_in r v)) (any_meets f r counted gates v) was.0 in
        nodes_have (is_pool_node f r counted pool (g ∷ gates)) n v
        (and_from (pool (net_in r v)) (any_meets f r counted (g ∷ gates) v) parts.0
        (or_right _ (any_meets f r counted gates v) parts.1)) was.1;
  }

  -- no gate meets anything
  pub none_left : open_from f r counted pool [] ≡ none_open
  none_left =
      let places : filter (is_open_place f r counted pool []) (range_with_len 0 (2 * n)) ≡ [] =
      none_pass (is_open_place f r counted pool []) (range_with_len 0 (2 * n)) (λ p. by (ltb p n) p) in
      let nodes : filter (is_pool_node f r counted pool []) (range_with_len 0 n) ≡ [] =
      none_pass (is_pool_node f r counted pool []) (range_with_len 0 n) (λ v. and_right (pool (net_in r v)) false refl)
      in
      ap (λ l. made (map node_at l) (open_from f r counted pool []).nodes) places
      ∙ ap (λ l. made [] (map node_at l)) nodes
    where
      made : List Node → List Node → OpenPlaces
      made places nodes = record { places = places; nodes = nodes }

      by : (b : Bool) (p : ℕ)
          → (if b then not (pool (net_in r p)) && any_meets f r counted [] p
          else is_open_pool f r counted pool [] (p - n)) ≡ false
      by true p = and_right (not (pool (net_in r p))) false refl
      by false p =
          and_right (pool (p - n))
          (list_any (λ v. (net_in r v == p - n) && false) (range_with_len 0 n) || false)
          (ap (λ b. b || false)
          (none_any (λ v. (net_in r v == p - n) && false) (range_with_len 0 n)
          (λ v. and_right (net_in r v == p - n) false refl)))
