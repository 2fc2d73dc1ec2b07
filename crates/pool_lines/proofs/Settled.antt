-- What a choice of a gate leaves are places at what is open next, named by the first of their classes.
use Rattle.std.specs.Prelude.{ℕ, ◌≡◌, ◌<◌, ◌≤◌, ◌==◌, ◌||◌, ◌⊎◌, Bool, true, false, min, List, [], ◌∷◌, Option, Some, None, AllPairs, Contains, find, fold, if◌then◌else◌, map, option_map, unwrap_or}
use Rattle.std.proofs.Common.{refl, sym, ap, subst, arith, ◌∙◌, inl, inr}
use Rattle.std.proofs.lemmas.Bool.{both_ways, cases_Bool, cases_lt, eq-eqb, eqb-true, or_left, or_right}
use Rattle.std.proofs.lemmas.List.Kept.{AllPairs-filter}
use Rattle.std.proofs.lemmas.Option.{none-some}
use Rattle.cell_num.proofs.In.{contains_map}
use Rattle.cell_num.proofs.Lists.{Kept, all_from_contains, contains_none, kept_from, some_same}
use Rattle.cell_num.proofs.Pairs.{Some', pairs_map, pairs_none, test_finds}
use Rattle.trail_state.specs.declared.edge.Edge.{Edge}
use Rattle.trail_state.specs.declared.edge.Node.{Node}
use Rattle.trail_state.specs.declared.state.Place.{Place}
use Rattle.trail_state.specs.Places.{is_joined, is_met, joined_place, met_place, met_places, new_place, node_at, or_met, place_of, place_or_new, with_edge, with_edges}
use Rattle.trail_state.specs.Settling.{closing_of, is_open, kept_of}
use Rattle.trail_pools.specs.State.{has_ends, left_place, places_left}
use Rattle.trail_state.proofs.Members.{At, Found, Passes, at_found, found_from, mapped, pairs_kept, passes_from}
use Rattle.pool_lines.proofs.States.{ArePlacesAt, Names}
use Rattle.pool_lines.proofs.Keyed.{first_least, found_is, one_numbered}

abbrev pub AreAscending : List Place → Type 0
AreAscending t = AllPairs (λ (p q : Place). p.node.0 < q.node.0) t

-- the places of one class have one flag
abbrev AreAlike : List Place → Type 0
AreAlike t = (p q : Place) → Contains t p → Contains t q → p.class.0 ≡ q.class.0 → p.flagged ≡ q.flagged

ascend_map : (g : Place → Place) (t : List Place) → ((p : Place) → (g p).node ≡ p.node) → AreAscending t → AreAscending (map g t)
ascend_map g t same h =
    pairs_map (λ (p q : Place). p.node.0 < q.node.0) (Contains t) (λ (p q : Place). p.node.0 < q.node.0) g t
    (λ p q _ _ less. omega (arith, less, ap (λ (v : Node). v.0) (same p), ap (λ (v : Node). v.0) (same q))) (all_from_contains (Contains t) t (λ p c. c)) h

-- ---- a choice begins

-- a place of the state, or a new one
abbrev Origin : List Place → ℕ → Place → Type 0
Origin s v p = (Contains s p × (p.node.0 ≡ v)) ⊎ ((At s v → ⊥) × (p ≡ new_place v))

not_there : (s : List Place) (v : ℕ) → place_of s v ≡ None → At s v → ⊥
not_there s v none at = let f : Found (λ (p : Place). p.node.0 == v) s = at_found s v at in none-some f.it (sym none ∙ f.is)

origin : (s : List Place) (c : List Edge) (v : ℕ) (p : Place) → met_place s c v ≡ Some p → Origin s v p
origin s c v p e = by_place (place_of s v) refl (is_met c v) e
  where
    by_place : (o : Option Place) → place_of s v ≡ o → (b : Bool) → or_met (place_of s v) b v ≡ Some p → Origin s v p
    by_place (Some q) is b gives =
        let same : q ≡ p = some_same q p (sym (ap (λ o. or_met o b v) is) ∙ gives) in
        let found : Passes (λ (r : Place). r.node.0 == v) s q = found_is (λ (r : Place). r.node.0 == v) s q is in
        subst (Origin s v) same (inl (found.there, eqb-true q.node.0 v found.passes))
    by_place None is true gives = inr (not_there s v is, sym (some_same (new_place v) p (sym (ap (λ o. or_met o true v) is) ∙ gives)))
    by_place None is false gives = absurd (nothing (sym (ap (λ o. or_met o false v) is) ∙ gives))
      where
        nothing : ◌≡◌ {A = Option Place} None (Some p) → ⊥
        nothing none = cc

origin_node : (s : List Place) (v : ℕ) (p : Place) → Origin s v p → p.node.0 ≡ v
origin_node s v p (inl old) = old.1
origin_node s v p (inr new) = ap (λ (q : Place). q.node.0) new.1

pub begun_ascend : (nodes : List Node) (s : List Place) (c : List Edge) → AllPairs (λ (a b : Node). a.0 < b.0) nodes → AreAscending (met_places nodes s c)
begun_ascend nodes s c h =
    pairs_kept (λ (a b : Node). a.0 < b.0) (λ (p q : Place). p.node.0 < q.node.0) (λ (v : Node). met_place s c v.0) nodes
    (λ v w p q less ep eq. omega (arith, less, origin_node s v.0 p (origin s c v.0 p ep), origin_node s w.0 q (origin s c w.0 q eq))) h

-- an old place is not of the class of a new one
old_new : (nodes : List Node) (s : List Place) (p q : Place) (v : ℕ) → ArePlacesAt nodes s → Contains s p → (At s v → ⊥) → q ≡ new_place v → p.class.0 ≡ q.class.0 → ⊥
old_new nodes s p q v h old none new same =
    let n : Names s p.class.0 = h.named p old in
    none (record { it = n.it; there = n.there; node = n.node ∙ same ∙ ap (λ (r : Place). r.class.0) new })

begun_alike : (nodes : List Node) (s : List Place) (c : List Edge) → ArePlacesAt nodes s → AreAlike (met_places nodes s c)
begun_alike nodes s c h p q cp cq same =
    let a : Kept (λ (v : Node). met_place s c v.0) nodes p = kept_from (λ (v : Node). met_place s c v.0) nodes p cp in
    let b : Kept (λ (v : Node). met_place s c v.0) nodes q = kept_from (λ (v : Node). met_place s c v.0) nodes q cq in
    by_origin (origin s c a.from.0 p a.gives) (origin s c b.from.0 q b.gives)
  where
    by_origin : {v w : ℕ} → Origin s v p → Origin s w q → p.flagged ≡ q.flagged
    by_origin (inl old) (inl other) = h.alike p q old.0 other.0 same
    by_origin {v} {w} (inl old) (inr new) = absurd (old_new nodes s p q w h old.0 new.0 new.1 same)
    by_origin {v} {w} (inr new) (inl old) = absurd (old_new nodes s q p v h old.0 new.0 new.1 (sym same))
    by_origin (inr new) (inr other) = ap (λ (r : Place). r.flagged) new.1 ∙ sym (ap (λ (r : Place). r.flagged) other.1)

-- ---- its edges join classes

joined_alike : (x y p q : Place) → (p.class.0 ≡ q.class.0 → p.flagged ≡ q.flagged) → (joined_place x y p).class.0 ≡ (joined_place x y q).class.0 → (joined_place x y p).flagged ≡ (joined_place x y q).flagged
joined_alike x y p q h same =
    elim (cases_Bool (is_joined x y p)) [
      | inl p_on ↦ elim (cases_Bool (is_joined x y q)) [
        | inl q_on ↦ flag p true p_on ∙ sym (flag q true q_on)
        | inr q_off ↦ absurd (both_ways (is_joined x y q) q_off (low_is q (sym (name q false q_off) ∙ sym same ∙ name p true p_on)))
      ]
      | inr p_off ↦ elim (cases_Bool (is_joined x y q)) [
        | inl q_on ↦ absurd (both_ways (is_joined x y p) p_off (low_is p (sym (name p false p_off) ∙ same ∙ name q true q_on)))
        | inr q_off ↦ flag p false p_off ∙ h (sym (name p false p_off) ∙ same ∙ name q false q_off) ∙ sym (flag q false q_off)
      ]
    ]
  where
    flag : (r : Place) (b : Bool) → is_joined x y r ≡ b → (joined_place x y r).flagged ≡ (if b then x.flagged || y.flagged else r.flagged)
    flag r b is = ap (λ (z : Bool). if z then x.flagged || y.flagged else r.flagged) is

    number : (r : Place) (b : Bool) → (if b then node_at (min x.class.0 y.class.0) else r.class).0 ≡ (if b then min x.class.0 y.class.0 else r.class.0)
    number r true = refl
    number r false = refl

    name : (r : Place) (b : Bool) → is_joined x y r ≡ b → (joined_place x y r).class.0 ≡ (if b then min x.class.0 y.class.0 else r.class.0)
    name r b is = ap (λ (z : Bool). (if z then node_at (min x.class.0 y.class.0) else r.class).0) is ∙ number r b

    low_is : (r : Place) → r.class.0 ≡ min x.class.0 y.class.0 → is_joined x y r ≡ true
    low_is r e = elim (cases_lt x.class.0 y.class.0) [
      | inl less ↦ or_left (r.class.0 == x.class.0) (r.class.0 == y.class.0) (eq-eqb r.class.0 x.class.0 (omega (arith, e, less)))
      | inr more ↦ or_right (r.class.0 == x.class.0) (r.class.0 == y.class.0) (eq-eqb r.class.0 y.class.0 (omega (arith, e, more)))
    ]

with_edge_alike : (t : List Place) (e : Edge) → AreAlike t → AreAlike (with_edge t e)
with_edge_alike t e h p' q' cp cq =
    let g : Place → Place = joined_place (place_or_new t e.a.0) (place_or_new t e.b.0) in
    mapped (λ (a : Place). a.class.0 ≡ q'.class.0 → a.flagged ≡ q'.flagged) g t
    (λ p c. mapped (λ (b : Place). (g p).class.0 ≡ b.class.0 → (g p).flagged ≡ b.flagged) g t (λ q d. joined_alike (place_or_new t e.a.0) (place_or_new t e.b.0) p q (h p q c d)) q' cq) p' cp

edges_ascend : (c : List Edge) (t : List Place) → AreAscending t → AreAscending (fold with_edge t c)
edges_ascend [] t h = h
edges_ascend (e ∷ c) t h = edges_ascend c (with_edge t e) (ascend_map (joined_place (place_or_new t e.a.0) (place_or_new t e.b.0)) t (λ p. refl) h)

edges_alike : (c : List Edge) (t : List Place) → AreAlike t → AreAlike (fold with_edge t c)
edges_alike [] t h = h
edges_alike (e ∷ c) t h = edges_alike c (with_edge t e) (with_edge_alike t e h)

-- ---- it is settled

abbrev of_class : ℕ → Place → Bool
of_class k q = q.class.0 == k

node_is : (v w : Node) → v.0 ≡ w.0 → v ≡ w
node_is v w e = λ i. record { 0 = e i }

module _ (ends : Place → ℕ) (next : List Node) (t : List Place) (ascend : AreAscending t) (alike : AreAlike t) where
  abbrev g : Place → Place
  g p = left_place ends (kept_of next t) (closing_of next t) p

  stays : (p : Place) → Contains (kept_of next t) p → Passes (λ (q : Place). is_open next q.node.0) t p
  stays p c = passes_from (λ (q : Place). is_open next q.node.0) t p c

  kept_ascend : AreAscending (kept_of next t)
  kept_ascend = AllPairs-filter (λ (p q : Place). p.node.0 < q.node.0) (λ (q : Place). is_open next q.node.0) t ascend

  -- the place that names the class of one that stays
  namer : (p : Place) → Contains (kept_of next t) p → Found (of_class p.class.0) (kept_of next t)
  namer p c = found_from (of_class p.class.0) (kept_of next t) p c (eq-eqb p.class.0 p.class.0 refl)

  named_by : (p : Place) (c : Contains (kept_of next t) p) → (g p).class ≡ (namer p c).it.node
  named_by p c = ap (λ (o : Option Place). unwrap_or (option_map (λ (q : Place). q.node) o) p.class) (namer p c).is

  namer_class : (p : Place) (c : Contains (kept_of next t) p) → (namer p c).it.class.0 ≡ p.class.0
  namer_class p c = eqb-true (namer p c).it.class.0 p.class.0 (namer p c).passes

  -- it names itself as well
  names_itself : (p : Place) (c : Contains (kept_of next t) p) → (g (namer p c).it).class ≡ (namer p c).it.node
  names_itself p c = ap (λ (o : Option Place). unwrap_or (option_map (λ (q : Place). q.node) o) (namer p c).it.class) (ap (λ (k : ℕ). find (of_class k) (kept_of next t)) (namer_class p c) ∙ (namer p c).is)

  g_low : (p : Place) → Contains (kept_of next t) p → (g p).class.0 ≤ (g p).node.0
  g_low p c =
      let least : (namer p c).it.node.0 ≤ p.node.0 = first_least (λ (q : Place). q.node.0) (of_class p.class.0) (kept_of next t) p (namer p c).it kept_ascend c (eq-eqb p.class.0 p.class.0 refl) (namer p c).is in
      omega (arith, least, ap (λ (v : Node). v.0) (named_by p c))

  -- places with one name were of one class
  was_one : (p q : Place) → Contains (kept_of next t) p → Contains (kept_of next t) q → (g p).class.0 ≡ (g q).class.0 → p.class.0 ≡ q.class.0
  was_one p q cp cq e =
      let one : (namer p cp).it ≡ (namer q cq).it = one_numbered (λ (q : Place). q.node.0) (kept_of next t) (namer p cp).it (namer q cq).it kept_ascend (namer p cp).there (namer q cq).there (sym (ap (λ (v : Node). v.0) (named_by p cp)) ∙ e ∙ ap (λ (v : Node). v.0) (named_by q cq)) in
      sym (namer_class p cp) ∙ ap (λ (r : Place). r.class.0) one ∙ namer_class q cq

  g_alike : (p q : Place) → Contains (kept_of next t) p → Contains (kept_of next t) q → (g p).class.0 ≡ (g q).class.0 → (g p).flagged ≡ (g q).flagged
  g_alike p q cp cq e =
      let class : p.class.0 ≡ q.class.0 = was_one p q cp cq e in
      ap (λ f. f || has_ends ends (closing_of next t) p.class.0) (alike p q (stays p cp).there (stays q cq).there class) ∙ ap (λ k. q.flagged || has_ends ends (closing_of next t) k) class

  is_within : (p : Place) → Contains (kept_of next t) p → Contains next p.node
  is_within p c =
      let w : Some' (λ (v : Node). (v.0 == p.node.0) ≡ true) next = test_finds (λ (v : Node). v.0 == p.node.0) next (stays p c).passes in
      subst (Contains next) (node_is w.it p.node (eqb-true w.it.0 p.node.0 w.holds)) w.there

  g_named : (p : Place) → Contains (kept_of next t) p → Names (places_left ends (kept_of next t) (closing_of next t)) (g p).class.0
  g_named p c = record {
    it = g (namer p c).it;
    there = contains_map g (kept_of next t) (namer p c).it (namer p c).there;
    node = sym (ap (λ (v : Node). v.0) (named_by p c));
    class = ap (λ (v : Node). v.0) (names_itself p c ∙ sym (named_by p c));
  }

  settled_state : ArePlacesAt next (places_left ends (kept_of next t) (closing_of next t))
  settled_state = record {
    ascend = ascend_map g (kept_of next t) (λ p. refl) kept_ascend;
    within = mapped (λ (q : Place). Contains next q.node) g (kept_of next t) is_within;
    low = mapped (λ (q : Place). q.class.0 ≤ q.node.0) g (kept_of next t) g_low;
    named = mapped (λ (q : Place). Names (places_left ends (kept_of next t) (closing_of next t)) q.class.0) g (kept_of next t) g_named;
    alike = λ p' q' cp cq. mapped (λ (a : Place). a.class.0 ≡ q'.class.0 → a.flagged ≡ q'.flagged) g (kept_of next t)
        (λ p c. mapped (λ (b : Place). (g p).class.0 ≡ b.class.0 → (g p).flagged ≡ b.flagged) g (kept_of next t) (λ q d. g_alike p q c d) q' cq) p' cp;
  }

-- the places behind one gate more
pub places_next : (ends : Place → ℕ) (nodes next : List Node) (s : List Place) (c : List Edge) → AllPairs (λ (a b : Node). a.0 < b.0) nodes → ArePlacesAt nodes s → ArePlacesAt next (places_left ends (kept_of next (with_edges nodes s c)) (closing_of next (with_edges nodes s c)))
places_next ends nodes next s c ascend h =
    settled_state ends next (with_edges nodes s c) (edges_ascend c (met_places nodes s c) (begun_ascend nodes s c ascend)) (edges_alike c (met_places nodes s c) (begun_alike nodes s c h))

-- before the first gate nothing is met
pub none_met : (nodes : List Node) → ArePlacesAt nodes []
none_met nodes = record {
  ascend = pairs_none (λ (p q : Place). p.node.0 < q.node.0);
  within = λ p c. absurd (contains_none p c);
  low = λ p c. absurd (contains_none p c);
  named = λ p c. absurd (contains_none p c);
  alike = λ p q c _ _. absurd (contains_none p c);
}
