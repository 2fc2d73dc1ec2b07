-- The line of a state lists this state.
use Rattle.std.specs.Prelude.{ℕ, ◌≡◌, ◌<◌, ◌≤◌, ◌+◌, ◌*◌, ◌/◌, ◌%◌, ◌==◌, Bool, true, false, List, [], ◌∷◌, Option, Some, None, AllPairs, Contains, map, option_map, slice_get, unwrap_or}
use Rattle.std.specs.List.{cons_option, filter, filter_map}
use Rattle.std.proofs.Common.{refl, sym, ap, arith, ◌∙◌, inl, inr}
use Rattle.std.proofs.lemmas.Bool.{both_ways, cases_Bool, eq-eqb, eqb-true, false_from_ne_true}
use Rattle.std.proofs.lemmas.List.Elements.{All-contains}
use Rattle.std.proofs.lemmas.Option.{none-some}
use Rattle.cell_num.proofs.In.{Image, contains_map, in_map}
use Rattle.cell_num.proofs.Lists.{contains_cons, contains_here, contains_none, contains_there}
use Rattle.cell_num.proofs.Pairs.{Some', pairs_head, pairs_tail, test_finds, test_there}
use Rattle.trail_state.specs.declared.edge.Node.{Node}
use Rattle.trail_state.specs.declared.state.Place.{Place}
use Rattle.trail_state.specs.Places.{place_of}
use Rattle.trail_state.specs.declared.level.Level.{Level}
use Rattle.trail_state.proofs.Members.{Found, Passes, found_from, passes_from, passes_to}
use Rattle.trail_log.specs.declared.class.Class.{Class}
use Rattle.trail_log.specs.declared.class.NetPair.{NetPair}
use Rattle.trail_check.specs.Listed.{is_listed, lemma_listed, name_of, nodes_of, number_of, place_in, place_listed, state_listed}
use Rattle.trail_search.specs.Line.{class_at, is_name, is_odd, is_of, line_of, pair_at}
use Rattle.trail_search.specs.Search.{AreChained, IsStateOf, Names, lemma_of}
use Rattle.trail_search.proofs.Finds.{find_none, first_least, found_is, one_numbered}

-- ---- the places at some nodes, in their order

abbrev at_node : List Place → Node → Option Place
at_node s v = place_of s v.0

same_kept : {X Y : Type 0} (g h : X → Option Y) (xs : List X) → ((x : X) → Contains xs x → g x ≡ h x) → filter_map g xs ≡ filter_map h xs
same_kept g h [] same = refl
same_kept g h (x ∷ xs) same =
    ap (λ o. cons_option o (filter_map g xs)) (same x (contains_here x xs)) ∙ ap (cons_option (h x)) (same_kept g h xs (λ y c. same y (contains_there x xs y c)))

none_kept_of : (xs : List Node) → filter_map (at_node []) xs ≡ []
none_kept_of [] = refl
none_kept_of (x ∷ xs) = none_kept_of xs

-- those of a state are the state
places_back : (nodes : List Node) (s : List Place) → AllPairs (λ (a b : Node). a.0 < b.0) nodes → AllPairs (λ (p q : Place). p.node.0 < q.node.0) s → ((p : Place) → Contains s p → Contains nodes p.node) → filter_map (at_node s) nodes ≡ s
places_back nodes [] h k within = none_kept_of nodes
places_back [] (p ∷ ps) h k within = absurd (contains_none p.node (within p (contains_here p ps)))
places_back (x ∷ xs) (p ∷ ps) h k within =
    elim (cases_Bool (p.node.0 == x.0)) [
      | inl on ↦
          let first : at_node (p ∷ ps) x ≡ Some p = rw on refl in
          let rest : filter_map (at_node ps) xs ≡ ps = places_back xs ps (pairs_tail (λ (a b : Node). a.0 < b.0) x xs h) (pairs_tail (λ (a b : Place). a.node.0 < b.node.0) p ps k) (λ q c. behind q c (eqb-true p.node.0 x.0 on) (within q (contains_there p ps q c))) in
          ap (λ o. cons_option o (filter_map (at_node (p ∷ ps)) xs)) first
          ∙ ap (λ (qs : List Place). p ∷ qs) (same_kept (at_node (p ∷ ps)) (at_node ps) xs (λ v c. skips v (below v c (eqb-true p.node.0 x.0 on))) ∙ rest)
      | inr off ↦
          let first : at_node (p ∷ ps) x ≡ None = find_none (λ (q : Place). q.node.0 == x.0) (p ∷ ps) (λ q c. false_from_ne_true (q.node.0 == x.0) (λ e. other q c (eqb-true q.node.0 x.0 e) off)) in
          ap (λ o. cons_option o (filter_map (at_node (p ∷ ps)) xs)) first
          ∙ places_back xs (p ∷ ps) (pairs_tail (λ (a b : Node). a.0 < b.0) x xs h) k (λ q c. later q c off (within q c))
    ]
  where
    above : (v : Node) → Contains xs v → x.0 < v.0
    above v c = All-contains (λ (b : Node). x.0 < b.0) xs v (pairs_head (λ (a b : Node). a.0 < b.0) x xs h) c

    after : (q : Place) → Contains ps q → p.node.0 < q.node.0
    after q c = All-contains (λ (b : Place). p.node.0 < b.node.0) ps q (pairs_head (λ (a b : Place). a.node.0 < b.node.0) p ps k) c

    below : (v : Node) → Contains xs v → p.node.0 ≡ x.0 → p.node.0 < v.0
    below v c e = omega (arith, above v c, e)

    skips : (v : Node) → p.node.0 < v.0 → at_node (p ∷ ps) v ≡ at_node ps v
    skips v l = let off : (p.node.0 == v.0) ≡ false = false_from_ne_true (p.node.0 == v.0) (λ e. omega (arith, l, eqb-true p.node.0 v.0 e)) in rw off refl

    behind : (q : Place) → Contains ps q → p.node.0 ≡ x.0 → Contains (x ∷ xs) q.node → Contains xs q.node
    behind q c e there = elim (contains_cons x xs q.node there) [
      | inl first ↦ absurd (omega (arith, after q c, e, ap (λ (v : Node). v.0) first))
      | inr rest ↦ rest
    ]

    first_on : Contains (x ∷ xs) p.node → (p.node.0 == x.0) ≡ false → x.0 < p.node.0
    first_on there off = elim (contains_cons x xs p.node there) [
      | inl first ↦ absurd (both_ways (p.node.0 == x.0) off (eq-eqb p.node.0 x.0 (sym (ap (λ (v : Node). v.0) first))))
      | inr rest ↦ above p.node rest
    ]

    beyond : (q : Place) → Contains (p ∷ ps) q → (p.node.0 == x.0) ≡ false → x.0 < q.node.0
    beyond q c off =
        let l : x.0 < p.node.0 = first_on (within p (contains_here p ps)) off in
        elim (contains_cons p ps q c) [
          | inl same ↦ omega (arith, l, ap (λ (r : Place). r.node.0) same)
          | inr rest ↦ omega (arith, l, after q rest)
        ]

    other : (q : Place) → Contains (p ∷ ps) q → q.node.0 ≡ x.0 → (p.node.0 == x.0) ≡ false → ⊥
    other q c e off = omega (arith, beyond q c off, e)

    later : (q : Place) → Contains (p ∷ ps) q → (p.node.0 == x.0) ≡ false → Contains (x ∷ xs) q.node → Contains xs q.node
    later q c off there = elim (contains_cons x xs q.node there) [
      | inl first ↦ absurd (omega (arith, beyond q c off, ap (λ (v : Node). v.0) first))
      | inr rest ↦ rest
    ]

-- ---- the place that the line lists at a node

pair_number : (p : Place) → number_of (pair_at p) ≡ p.node.0
pair_number p = back p.node.0
  where
    back : (v : ℕ) → 256 * (v / 256) + v % 256 ≡ v
    back v = omega arith

-- a place of the list, of those that pass a test, at the node
record IsOne (s : List Place) (test : Place → Bool) (v : ℕ) : Type 0 where
  it : Place
  there : Contains s it
  passes : test it ≡ true
  node : it.node.0 ≡ v

one_of : (s : List Place) (test : Place → Bool) (v : Node) → is_listed (map pair_at (filter test s)) v ≡ true → IsOne s test v.0
one_of s test v h =
    let w : Some' (λ (pair : NetPair). (number_of pair == v.0) ≡ true) (map pair_at (filter test s)) = test_finds (λ (pair : NetPair). number_of pair == v.0) (map pair_at (filter test s)) h in
    let i : Image pair_at (filter test s) w.it = in_map pair_at (filter test s) w.it w.there in
    let x : Passes test s i.of = passes_from test s i.of i.listed in
    record { it = i.of; there = x.there; passes = x.passes; node = sym (pair_number i.of) ∙ ap number_of i.is ∙ eqb-true (number_of w.it) v.0 w.holds }

to_listed : (s : List Place) (test : Place → Bool) (v : Node) (p : Place) → Contains s p → test p ≡ true → p.node.0 ≡ v.0 → is_listed (map pair_at (filter test s)) v ≡ true
to_listed s test v p there on node =
    test_there (λ (pair : NetPair). number_of pair == v.0) (map pair_at (filter test s)) (pair_at p) (contains_map pair_at (filter test s) p (passes_to test s p there on)) (eq-eqb (number_of (pair_at p)) v.0 (pair_number p ∙ node))

module _ (nodes : List Node) (ascend : AllPairs (λ (a b : Node). a.0 < b.0) nodes) (s : List Place) (h : IsStateOf nodes s) (done bound : ℕ) where
  abbrev lists : Node → Class → Bool
  lists v class = is_listed class.nodes v

  abbrev classes : List Class
  classes = map (class_at s) (filter is_name s)

  one : (p q : Place) → Contains s p → Contains s q → p.node.0 ≡ q.node.0 → p ≡ q
  one p q cp cq e = one_numbered (λ (r : Place). r.node.0) s p q h.ascend cp cq e

  -- the place that names a listed class
  record IsClass (class : Class) : Type 0 where
    name : Place
    there : Contains s name
    names : is_name name ≡ true
    is : class_at s name ≡ class

  class_of : (class : Class) → Contains (map (class_at s) (filter is_name s)) class → IsClass class
  class_of class c =
      let i : Image (class_at s) (filter is_name s) class = in_map (class_at s) (filter is_name s) class c in
      let x : Passes is_name s i.of = passes_from is_name s i.of i.listed in
      record { name = i.of; there = x.there; names = x.passes; is = i.is }

  -- no class lists a node of no place
  none_lists : (v : Node) → place_of s v.0 ≡ None → place_listed nodes (line_of done s bound) v ≡ None
  none_lists v none =
      ap (option_map (place_in nodes (line_of done s bound).odd v))
      (find_none (lists v) (map (class_at s) (filter is_name s)) (λ class c. false_from_ne_true (lists v class) (λ on. at class (class_of class c) on)))
    where
      at : (class : Class) → IsClass class → lists v class ≡ true → ⊥
      at class r on =
          let q : IsOne s (is_of r.name.class.0) v.0 = one_of s (is_of r.name.class.0) v (ap (lists v) r.is ∙ on) in
          let f : Found (λ (p : Place). p.node.0 == v.0) s = found_from (λ (p : Place). p.node.0 == v.0) s q.it q.there (eq-eqb q.it.node.0 v.0 q.node) in
          none-some f.it (sym none ∙ f.is)

  module _ (v : Node) (p : Place) (there : Contains s p) (node : p.node.0 ≡ v.0) where
    -- a class that lists the node is the place's
    of_place : (r : Place) → Contains s r → is_listed (class_at s r).nodes v ≡ true → r.class.0 ≡ p.class.0
    of_place r c on =
        let q : IsOne s (is_of r.class.0) v.0 = one_of s (is_of r.class.0) v on in
        sym (eqb-true q.it.class.0 r.class.0 q.passes) ∙ ap (λ (z : Place). z.class.0) (one q.it p q.there there (q.node ∙ sym node))

    name_back : (r : Place) → Contains s r → is_name r ≡ true → r.class.0 ≡ p.class.0 → (name_of nodes (class_at s r).nodes v).0 ≡ p.class.0
    name_back r c names class =
        let own : is_listed (class_at s r).nodes r.node ≡ true = to_listed s (is_of r.class.0) r.node r c (eq-eqb r.class.0 r.class.0 refl) refl in
        let f : Found (is_listed (class_at s r).nodes) nodes = found_from (is_listed (class_at s r).nodes) nodes r.node (h.within r c) own in
        let q : IsOne s (is_of r.class.0) f.it.0 = one_of s (is_of r.class.0) f.it f.passes in
        let most : f.it.0 ≤ r.node.0 = first_least (λ (w : Node). w.0) (is_listed (class_at s r).nodes) nodes r.node f.it ascend (h.within r c) own f.is in
        let least : q.it.class.0 ≤ q.it.node.0 = h.low q.it q.there in
        let is : f.it.0 ≡ p.class.0 = omega (arith, most, least, q.node, eqb-true q.it.class.0 r.class.0 q.passes, eqb-true r.node.0 r.class.0 names, class) in
        ap (λ (o : Option Node). (unwrap_or o v).0) f.is ∙ is

    odd_back : is_listed (map pair_at (filter is_odd s)) v ≡ p.odd
    odd_back = elim (cases_Bool p.odd) [
      | inl on ↦ to_listed s is_odd v p there on node ∙ sym on
      | inr off ↦ false_from_ne_true (is_listed (map pair_at (filter is_odd s)) v) (λ on. let q : IsOne s is_odd v.0 = one_of s is_odd v on in both_ways p.odd off (ap is_odd (sym (one q.it p q.there there (q.node ∙ sym node))) ∙ q.passes)) ∙ sym off
    ]

    place_back : (class : Class) → Contains (map (class_at s) (filter is_name s)) class → lists v class ≡ true → place_in nodes (line_of done s bound).odd v class ≡ p
    place_back class c on =
        let r : IsClass class = class_of class c in
        let same : r.name.class.0 ≡ p.class.0 = of_place r.name r.there (ap (lists v) r.is ∙ on) in
        let name : (name_of nodes class.nodes v).0 ≡ p.class.0 = ap (λ (k : Class). (name_of nodes k.nodes v).0) (sym r.is) ∙ name_back r.name r.there r.names same in
        let flag : class.flagged ≡ p.flagged = ap (λ (k : Class). k.flagged) (sym r.is) ∙ h.alike r.name p r.there there same in
        λ i. record { node = record { 0 = sym node i }; class = record { 0 = name i }; odd = odd_back i; flagged = flag i }

    -- a class lists the node
    one_lists : place_listed nodes (line_of done s bound) v ≡ Some p
    one_lists =
        let n : Names s p.class.0 = h.named p there in
        let on : is_listed (class_at s n.it).nodes v ≡ true = to_listed s (is_of n.it.class.0) v p there (eq-eqb p.class.0 n.it.class.0 (sym n.class)) node in
        let f : Found (lists v) (map (class_at s) (filter is_name s)) = found_from (lists v) (map (class_at s) (filter is_name s)) (class_at s n.it) (contains_map (class_at s) (filter is_name s) n.it (passes_to is_name s n.it n.there (eq-eqb n.it.node.0 n.it.class.0 (n.node ∙ sym n.class)))) on in
        ap (option_map (place_in nodes (line_of done s bound).odd v)) f.is ∙ ap (λ (q : Place). Some q) (place_back f.it f.there f.passes)

  listed_at : (v : Node) → place_listed nodes (line_of done s bound) v ≡ at_node s v
  listed_at v = by_place (place_of s v.0) refl
    where
      by_place : (o : Option Place) → place_of s v.0 ≡ o → place_listed nodes (line_of done s bound) v ≡ place_of s v.0
      by_place None is = none_lists v is ∙ sym is
      by_place (Some p) is =
          let f : Passes (λ (q : Place). q.node.0 == v.0) s p = found_is (λ (q : Place). q.node.0 == v.0) s p is in
          one_lists v p f.there (eqb-true p.node.0 v.0 f.passes) ∙ sym is

  state_back : state_listed nodes (line_of done s bound) ≡ s
  state_back = same_kept (place_listed nodes (line_of done s bound)) (at_node s) nodes (λ v c. listed_at v) ∙ places_back nodes s ascend h.ascend h.within

-- the lemma that the line of a state lists is that of the state
pub lemma_back : (levels : List Level) (done : ℕ) (s : List Place) (bound : ℕ) → AreChained levels → IsStateOf (nodes_of (slice_get levels done)) s → lemma_listed levels (line_of done s bound) ≡ lemma_of done s bound
lemma_back levels done s bound chained h =
    ap (λ (t : List Place). lemma_of done t bound) (state_back (nodes_of (slice_get levels done)) (chained.ascend done) s h done bound)
