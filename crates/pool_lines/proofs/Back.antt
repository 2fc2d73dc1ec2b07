-- The line of a state lists this state.
use Rattle.std.specs.Prelude.{ℕ, ◌≡◌, ◌+◌, ◌-◌, ◌<◌, ◌≤◌, ◌==◌, ◌&&◌, ◌||◌, Bool, true, false, ltb, List, [], ◌∷◌, Option, Some, None, Contains, if◌then◌else◌, map, option_map, slice_get, unwrap_or}
use Rattle.std.specs.List.{filter, list_any}
use Rattle.std.proofs.Common.{refl, sym, ap, arith, ◌∙◌, inl, inr}
use Rattle.std.proofs.lemmas.Bool.{and_from, and_parts, both_ways, cases_Bool, eq-eqb, eqb-true, false_from_ne_true, ltb-true, ltb-false}
use Rattle.std.proofs.lemmas.Option.{none-some}
use Rattle.cell_num.specs.declared.finger.Row.{Row}
use Rattle.cell_num.specs.declared.finger.Row.TheVariants.{P, N}
use Rattle.cell_num.proofs.In.{Image, contains_map, in_map}
use Rattle.cell_num.proofs.Pairs.{Some', test_finds, test_there}
use Rattle.trail_state.specs.declared.edge.Node.{Node}
use Rattle.trail_state.specs.declared.state.Place.{Place}
use Rattle.trail_state.specs.Places.{place_of as place_at}
use Rattle.trail_check.specs.Listed.{is_listed}
use Rattle.trail_pools.specs.declared.level.OpenPlaces.{OpenPlaces}
use Rattle.trail_pools.specs.declared.level.PoolLevel.{PoolLevel}
use Rattle.trail_pools.specs.declared.pools.Pools.{Pools}
use Rattle.trail_pools.specs.declared.state.Balance.{Balance}
use Rattle.trail_pools.specs.declared.state.PoolState.{PoolState}
use Rattle.trail_state.proofs.Members.{Found, Passes, found_from, passes_from, passes_to}
use Rattle.pool_log.specs.declared.class.PlaceClass.{PlaceClass}
use Rattle.pool_log.specs.declared.lemma.PoolLine.{PoolLine}
use Rattle.pool_log.specs.declared.place.ListedPlace.{ListedPlace}
use Rattle.pool_log.specs.declared.place.ListedPlace.TheVariants as place
use Rattle.pool_lines.specs.Lines.{class_at, classes_of, is_name, is_of, line_of, pair_of, place_of}
use Rattle.pool_lines.specs.Listed.{balance_listed, balances_listed, has_number, is_in, is_odd_place, is_odd_pool, is_row, name_of, odd_listed, open_at, place_in, place_listed, places_listed, state_listed, state_of}
use Rattle.pool_lines.proofs.States.{AreOpen, IsStateOf, Names}
use Rattle.pool_lines.proofs.Keyed.{find_none, first_least, found_is, item_at, items_back, one_numbered, same_kept}
use Rattle.pool_lines.proofs.Odd.{balance_back, balances_back, listed_odd, no_odd, odd_back, pair_number}

-- ---- places and their numbers

same_row : (r : Row) → is_row r r ≡ true
same_row P = refl
same_row N = refl

-- a place of a state is listed with its number
place_number : (pools : Pools) (q : Place) (v : ℕ) → has_number pools.nodes pools.row v (place_of pools q) ≡ (q.node.0 == v)
place_number pools q v =
    elim (cases_Bool (ltb q.node.0 pools.nodes)) [
      | inl on ↦ ap (λ (b : Bool). has_number pools.nodes pools.row v (listed b)) on ∙ ap (λ (k : ℕ). k == v) (pair_number q.node.0)
      | inr off ↦
          ap (λ (b : Bool). has_number pools.nodes pools.row v (listed b)) off
          ∙ ap (λ (b : Bool). b && (pools.nodes + (q.node.0 - pools.nodes) == v)) (same_row pools.row)
          ∙ ap (λ (k : ℕ). k == v) (behind (ltb-false q.node.0 pools.nodes off))
    ]
  where
    listed : Bool → ListedPlace
    listed b = if b then place.Node (pair_of q.node.0) else place.Pool pools.row (record { 0 = q.node.0 - pools.nodes })

    behind : pools.nodes ≤ q.node.0 → pools.nodes + (q.node.0 - pools.nodes) ≡ q.node.0
    behind high = omega (arith, high)

in_places : (pools : Pools) (qs : List Place) (v : Node) → is_in pools.nodes pools.row (map (place_of pools) qs) v ≡ list_any (λ (q : Place). q.node.0 == v.0) qs
in_places pools [] v = refl
in_places pools (q ∷ qs) v =
    ap (λ (b : Bool). b || is_in pools.nodes pools.row (map (place_of pools) qs) v) (place_number pools q v.0)
    ∙ ap (λ (b : Bool). (q.node.0 == v.0) || b) (in_places pools qs v)

-- a place of the list, of those that pass a test, at the node
record IsOne (s : List Place) (test : Place → Bool) (v : ℕ) : Type 0 where
  it : Place
  there : Contains s it
  passes : test it ≡ true
  node : it.node.0 ≡ v

one_of : (pools : Pools) (s : List Place) (test : Place → Bool) (v : Node) → is_in pools.nodes pools.row (map (place_of pools) (filter test s)) v ≡ true → IsOne s test v.0
one_of pools s test v h =
    let w : Some' (λ (q : Place). (q.node.0 == v.0) ≡ true) (filter test s) = test_finds (λ (q : Place). q.node.0 == v.0) (filter test s) (sym (in_places pools (filter test s) v) ∙ h) in
    let x : Passes test s w.it = passes_from test s w.it w.there in
    record { it = w.it; there = x.there; passes = x.passes; node = eqb-true w.it.node.0 v.0 w.holds }

to_listed : (pools : Pools) (s : List Place) (test : Place → Bool) (v : Node) (p : Place) → Contains s p → test p ≡ true → p.node.0 ≡ v.0 → is_in pools.nodes pools.row (map (place_of pools) (filter test s)) v ≡ true
to_listed pools s test v p there on node =
    in_places pools (filter test s) v ∙ test_there (λ (q : Place). q.node.0 == v.0) (filter test s) p (passes_to test s p there on) (eq-eqb p.node.0 v.0 node)

-- ---- the state that the line lists

module _ (pools : Pools) (bound done : ℕ) (o : OpenPlaces) (open' : AreOpen pools.nodes o) (s : PoolState)
    (h : IsStateOf pools.nodes pools.row done o s) where
  abbrev own_line : PoolLine
  own_line = line_of pools bound done s

  abbrev lists : Node → PlaceClass → Bool
  lists v class = is_in pools.nodes pools.row class.places v

  abbrev listed_place : Node → Option Place
  listed_place v = place_listed pools.nodes pools.row o.places s.odd own_line v

  one : (p q : Place) → Contains s.places p → Contains s.places q → p.node.0 ≡ q.node.0 → p ≡ q
  one p q cp cq e = one_numbered (λ (r : Place). r.node.0) s.places p q h.places.ascend cp cq e

  -- the place that names a listed class
  record IsClass (class : PlaceClass) : Type 0 where
    name : Place
    there : Contains s.places name
    names : is_name name ≡ true
    is : class_at pools s.places name ≡ class

  class_of : (class : PlaceClass) → Contains (classes_of pools s) class → IsClass class
  class_of class c =
      let i : Image (class_at pools s.places) (filter is_name s.places) class = in_map (class_at pools s.places) (filter is_name s.places) class c in
      let x : Passes is_name s.places i.of = passes_from is_name s.places i.of i.listed in
      record { name = i.of; there = x.there; names = x.passes; is = i.is }

  -- no class lists a node of no place
  none_lists : (v : Node) → item_at (λ (p : Place). p.node.0) s.places v ≡ None → listed_place v ≡ None
  none_lists v none =
      ap (option_map (place_in pools.nodes pools.row o.places s.odd own_line v))
      (find_none (lists v) (classes_of pools s) (λ class c. false_from_ne_true (lists v class) (λ on. at class (class_of class c) on)))
    where
      at : (class : PlaceClass) → IsClass class → lists v class ≡ true → ⊥
      at class r on =
          let q : IsOne s.places (is_of r.name.class.0) v.0 = one_of pools s.places (is_of r.name.class.0) v (ap (lists v) r.is ∙ on) in
          let f : Found (λ (p : Place). p.node.0 == v.0) s.places = found_from (λ (p : Place). p.node.0 == v.0) s.places q.it q.there (eq-eqb q.it.node.0 v.0 q.node) in
          none-some f.it (sym none ∙ f.is)

  module _ (v : Node) (at_v : Contains o.places v) (p : Place) (there : Contains s.places p) (node : p.node.0 ≡ v.0) where
    -- a class that lists the node is the place's
    of_place : (r : Place) → Contains s.places r → lists v (class_at pools s.places r) ≡ true → r.class.0 ≡ p.class.0
    of_place r c on =
        let q : IsOne s.places (is_of r.class.0) v.0 = one_of pools s.places (is_of r.class.0) v on in
        sym (eqb-true q.it.class.0 r.class.0 q.passes) ∙ ap (λ (z : Place). z.class.0) (one q.it p q.there there (q.node ∙ sym node))

    name_back : (r : Place) → Contains s.places r → is_name r ≡ true → r.class.0 ≡ p.class.0 → (name_of pools.nodes pools.row o.places (class_at pools s.places r).places v).0 ≡ p.class.0
    name_back r c names class =
        let test : Node → Bool = is_in pools.nodes pools.row (class_at pools s.places r).places in
        let own : test r.node ≡ true = to_listed pools s.places (is_of r.class.0) r.node r c (eq-eqb r.class.0 r.class.0 refl) refl in
        let f : Found test o.places = found_from test o.places r.node (h.places.within r c) own in
        let q : IsOne s.places (is_of r.class.0) f.it.0 = one_of pools s.places (is_of r.class.0) f.it f.passes in
        let most : f.it.0 ≤ r.node.0 = first_least (λ (w : Node). w.0) test o.places r.node f.it open'.places (h.places.within r c) own f.is in
        let least : q.it.class.0 ≤ q.it.node.0 = h.places.low q.it q.there in
        let is : f.it.0 ≡ p.class.0 = omega (arith, most, least, q.node, eqb-true q.it.class.0 r.class.0 q.passes, eqb-true r.node.0 r.class.0 names, class) in
        ap (λ (x : Option Node). (unwrap_or x v).0) f.is ∙ is

    -- a node of no pool is listed as odd where its place is
    odd_node : v.0 < pools.nodes → is_listed own_line.odd v ≡ p.odd
    odd_node below = listed_odd pools s v below ∙ ap (λ (b : Bool). list_any (λ (q : Place). (q.node.0 == v.0) && q.odd) s.places || b) (no_odd pools.nodes pools.row done o open' s h v at_v) ∙ alone
      where
        odd_there : p.odd ≡ true → list_any (λ (q : Place). (q.node.0 == v.0) && q.odd) s.places ≡ true
        odd_there on = test_there (λ (q : Place). (q.node.0 == v.0) && q.odd) s.places p there (and_from (p.node.0 == v.0) p.odd (eq-eqb p.node.0 v.0 node) on)

        not_there : p.odd ≡ false → list_any (λ (q : Place). (q.node.0 == v.0) && q.odd) s.places ≡ true → ⊥
        not_there off on =
            let w : Some' (λ (q : Place). ((q.node.0 == v.0) && q.odd) ≡ true) s.places = test_finds (λ (q : Place). (q.node.0 == v.0) && q.odd) s.places on in
            let parts : ((w.it.node.0 == v.0) ≡ true) × (w.it.odd ≡ true) = and_parts (w.it.node.0 == v.0) w.it.odd w.holds in
            both_ways p.odd off (ap (λ (z : Place). z.odd) (sym (one w.it p w.there there (eqb-true w.it.node.0 v.0 parts.0 ∙ sym node))) ∙ parts.1)

        alone : (list_any (λ (q : Place). (q.node.0 == v.0) && q.odd) s.places || false) ≡ p.odd
        alone = elim (cases_Bool p.odd) [
          | inl on ↦ ap (λ (b : Bool). b || false) (odd_there on) ∙ sym on
          | inr off ↦ ap (λ (b : Bool). b || false) (false_from_ne_true (list_any (λ (q : Place). (q.node.0 == v.0) && q.odd) s.places) (not_there off)) ∙ sym off
        ]

    found : place_at s.places v.0 ≡ Some p
    found =
        let f : Found (λ (q : Place). q.node.0 == v.0) s.places = found_from (λ (q : Place). q.node.0 == v.0) s.places p there (eq-eqb p.node.0 v.0 node) in
        f.is ∙ ap (λ (q : Place). Some q) (one f.it p f.there there (eqb-true f.it.node.0 v.0 f.passes ∙ sym node))

    odd_pool : pools.nodes ≤ v.0 → is_odd_pool pools.row s.odd (balance_listed own_line.balances (v.0 - pools.nodes)) (v.0 - pools.nodes) ≡ p.odd
    odd_pool high =
        ap (λ (b : Balance). is_odd_pool pools.row s.odd b (v.0 - pools.nodes)) (balance_back (v.0 - pools.nodes) s.balances h.balances.ascend h.balances.one)
        ∙ sym (h.parity v at_v high) ∙ ap (λ (x : Option Place). unwrap_or (option_map (λ (q : Place). q.odd) x) false) found

    odd_same : is_odd_place pools.nodes pools.row s.odd own_line v ≡ p.odd
    odd_same = elim (cases_Bool (ltb v.0 pools.nodes)) [
      | inl on ↦ ap (λ (b : Bool). if b then is_listed own_line.odd v else is_odd_pool pools.row s.odd (balance_listed own_line.balances (v.0 - pools.nodes)) (v.0 - pools.nodes)) on ∙ odd_node (ltb-true v.0 pools.nodes on)
      | inr off ↦ ap (λ (b : Bool). if b then is_listed own_line.odd v else is_odd_pool pools.row s.odd (balance_listed own_line.balances (v.0 - pools.nodes)) (v.0 - pools.nodes)) off ∙ odd_pool (ltb-false v.0 pools.nodes off)
    ]

    place_back : (class : PlaceClass) → Contains (classes_of pools s) class → lists v class ≡ true → place_in pools.nodes pools.row o.places s.odd own_line v class ≡ p
    place_back class c on =
        let r : IsClass class = class_of class c in
        let same : r.name.class.0 ≡ p.class.0 = of_place r.name r.there (ap (lists v) r.is ∙ on) in
        let name : (name_of pools.nodes pools.row o.places class.places v).0 ≡ p.class.0 = ap (λ (k : PlaceClass). (name_of pools.nodes pools.row o.places k.places v).0) (sym r.is) ∙ name_back r.name r.there r.names same in
        let flag : class.flagged ≡ p.flagged = ap (λ (k : PlaceClass). k.flagged) (sym r.is) ∙ h.places.alike r.name p r.there there same in
        λ i. record { node = record { 0 = sym node i }; class = record { 0 = name i }; odd = odd_same i; flagged = flag i }

    -- a class lists the node
    one_lists : listed_place v ≡ Some p
    one_lists =
        let n : Names s.places p.class.0 = h.places.named p there in
        let on : lists v (class_at pools s.places n.it) ≡ true = to_listed pools s.places (is_of n.it.class.0) v p there (eq-eqb p.class.0 n.it.class.0 (sym n.class)) node in
        let f : Found (lists v) (classes_of pools s) = found_from (lists v) (classes_of pools s) (class_at pools s.places n.it) (contains_map (class_at pools s.places) (filter is_name s.places) n.it (passes_to is_name s.places n.it n.there (eq-eqb n.it.node.0 n.it.class.0 (n.node ∙ sym n.class)))) on in
        ap (option_map (place_in pools.nodes pools.row o.places s.odd own_line v)) f.is ∙ ap (λ (q : Place). Some q) (place_back f.it f.there f.passes)

  listed_at : (v : Node) → Contains o.places v → listed_place v ≡ item_at (λ (p : Place). p.node.0) s.places v
  listed_at v at_v = by_place (item_at (λ (p : Place). p.node.0) s.places v) refl
    where
      by_place : (x : Option Place) → item_at (λ (p : Place). p.node.0) s.places v ≡ x → listed_place v ≡ item_at (λ (p : Place). p.node.0) s.places v
      by_place None is = none_lists v is ∙ sym is
      by_place (Some p) is =
          let f : Passes (λ (q : Place). q.node.0 == v.0) s.places p = found_is (λ (q : Place). q.node.0 == v.0) s.places p is in
          one_lists v at_v p f.there (eqb-true p.node.0 v.0 f.passes) ∙ sym is

  places_back : places_listed pools.nodes pools.row o.places s.odd own_line ≡ s.places
  places_back =
      same_kept listed_place (item_at (λ (p : Place). p.node.0) s.places) o.places listed_at
      ∙ items_back (λ (p : Place). p.node.0) o.places s.places open'.places h.places.ascend (λ p c. (p.node, h.places.within p c, refl))

  odd_read : odd_listed o.nodes own_line ≡ s.odd
  odd_read = odd_back pools.nodes pools.row done o open' s h pools refl

  balances_read : balances_listed pools.nodes o.places own_line ≡ s.balances
  balances_read = balances_back pools.nodes done o.places s.balances h.balances

  pub back_at : state_of pools.nodes pools.row o.places o.nodes own_line ≡ s
  back_at =
      let listed : places_listed pools.nodes pools.row o.places (odd_listed o.nodes own_line) own_line ≡ s.places = ap (λ (odd : List Node). places_listed pools.nodes pools.row o.places odd own_line) odd_read ∙ places_back in
      λ i. record { places = listed i; odd = odd_read i; balances = balances_read i }

-- the state that the line of a state lists is this state
pub state_back : (pools : Pools) (bound done : ℕ) (s : PoolState) (levels : List PoolLevel) → AreOpen pools.nodes (open_at (slice_get levels done)) → IsStateOf pools.nodes pools.row done (open_at (slice_get levels done)) s → state_listed pools levels (line_of pools bound done s) ≡ s
state_back pools bound done s levels open' h = back_at pools bound done (open_at (slice_get levels done)) open' s h
