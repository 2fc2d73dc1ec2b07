-- Which places are odd after a choice of a gate.
use Rattle.std.specs.Prelude.{ℕ, ◌≡◌, ◌<◌, ◌==◌, Bool, true, false, List, [], ◌∷◌, Option, Some, None, AllPairs, Contains, fold, map, option_map, unwrap_or}
use Rattle.std.specs.List.{filter, filter_map}
use Rattle.std.proofs.Common.{refl, sym, ap, arith, ◌∙◌, inl, inr}
use Rattle.std.proofs.lemmas.Bool.{both_ways, cases_Bool, eq-eqb, eqb-true, ne_eqb, or_parts}
use Rattle.std.proofs.lemmas.List.Elements.{All-contains}
use Rattle.std.proofs.lemmas.Option.{none-some}
use Rattle.cell_num.proofs.Lists.{Kept, contains_cons, contains_none, kept_from, some_same}
use Rattle.cell_num.proofs.Pairs.{pairs_head, pairs_tail}
use Rattle.trail_state.specs.declared.edge.Edge.{Edge}
use Rattle.trail_state.specs.declared.edge.Node.{Node}
use Rattle.trail_state.specs.declared.state.Place.{Place}
use Rattle.trail_state.specs.Places.{differ, is_end, is_met, joined_place, met_place, met_places, new_place, or_met, place_of, place_or_new, with_edge, with_edges}
use Rattle.trail_state.specs.Settling.{closing_of, is_open, kept_of}
use Rattle.trail_state.proofs.Members.{Passes, filter_off, filter_on}
use Rattle.trail_check.specs.Graph.{is_odd}
use Rattle.trail_pools.specs.State.{left_place, places_left}
use Rattle.trail_pools.proofs.Turned.{one_more}
use Rattle.pool_lines.proofs.States.{is_odd_at}
use Rattle.pool_lines.proofs.Keyed.{find_none, find_off, find_on, found_is}

abbrev at_node : ℕ → Place → Bool
at_node v p = p.node.0 == v

abbrev odd_of : Option Place → Bool
odd_of o = unwrap_or (option_map (λ (p : Place). p.odd) o) false

-- ---- a place by its node

-- where places change and keep their nodes
place_mapped : (g : Place → Place) (t : List Place) (v : ℕ) → ((p : Place) → (g p).node.0 ≡ p.node.0) → place_of (map g t) v ≡ option_map g (place_of t v)
place_mapped g [] v same = refl
place_mapped g (p ∷ ps) v same =
    elim (cases_Bool (p.node.0 == v)) [
      | inl on ↦ find_on (at_node v) (g p) (map g ps) (ap (λ k. k == v) (same p) ∙ on) ∙ sym (ap (option_map g) (find_on (at_node v) p ps on))
      | inr off ↦ find_off (at_node v) (g p) (map g ps) (ap (λ k. k == v) (same p) ∙ off) ∙ place_mapped g ps v same ∙ sym (ap (option_map g) (find_off (at_node v) p ps off))
    ]

-- where places of other nodes are left out
place_filtered : (q : Place → Bool) (t : List Place) (v : ℕ) → ((p : Place) → p.node.0 ≡ v → q p ≡ true) → place_of (filter q t) v ≡ place_of t v
place_filtered q [] v stays = refl
place_filtered q (p ∷ ps) v stays =
    elim (cases_Bool (p.node.0 == v)) [
      | inl on ↦ ap (λ (l : List Place). place_of l v) (filter_on q p ps (stays p (eqb-true p.node.0 v on))) ∙ find_on (at_node v) p (filter q ps) on ∙ sym (find_on (at_node v) p ps on)
      | inr off ↦ elim (cases_Bool (q p)) [
        | inl kept ↦ ap (λ (l : List Place). place_of l v) (filter_on q p ps kept) ∙ find_off (at_node v) p (filter q ps) off ∙ place_filtered q ps v stays ∙ sym (find_off (at_node v) p ps off)
        | inr left ↦ ap (λ (l : List Place). place_of l v) (filter_off q p ps left) ∙ place_filtered q ps v stays ∙ sym (find_off (at_node v) p ps off)
      ]
    ]

-- where each node gives at most one place, which is its own
place_kept : (h : ℕ → Option Place) (nodes : List Node) (v : Node) → ((w : ℕ) (p : Place) → h w ≡ Some p → p.node.0 ≡ w) → AllPairs (λ (a b : Node). a.0 < b.0) nodes → Contains nodes v → place_of (filter_map (λ (w : Node). h w.0) nodes) v.0 ≡ h v.0
place_kept h [] v own ascend there = absurd (contains_none v there)
place_kept h (w ∷ ws) v own ascend there =
    let rest : Contains ws v → place_of (filter_map (λ (x : Node). h x.0) ws) v.0 ≡ h v.0 = λ c. place_kept h ws v own (pairs_tail (λ (a b : Node). a.0 < b.0) w ws ascend) c in
    elim (contains_cons w ws v there) [
      | inl same ↦ first (ap (λ (x : Node). x.0) same) (h w.0) refl
      | inr later ↦ behind rest later (h w.0) refl
    ]
  where
    above : (x : Node) → Contains ws x → w.0 < x.0
    above x c = All-contains (λ (b : Node). w.0 < b.0) ws x (pairs_head (λ (a b : Node). a.0 < b.0) w ws ascend) c

    none_later : w.0 ≡ v.0 → place_of (filter_map (λ (x : Node). h x.0) ws) v.0 ≡ None
    none_later same =
        find_none (at_node v.0) (filter_map (λ (x : Node). h x.0) ws) (λ p c.
        let k : Kept (λ (x : Node). h x.0) ws p = kept_from (λ (x : Node). h x.0) ws p c in
        ne_eqb p.node.0 v.0 (λ e. omega (arith, above k.from k.there, own k.from.0 p k.gives, e, same)))

    first : w.0 ≡ v.0 → (o : Option Place) → h w.0 ≡ o → place_of (filter_map (λ (x : Node). h x.0) (w ∷ ws)) v.0 ≡ h v.0
    first same (Some p) is = rw is (find_on (at_node v.0) p (filter_map (λ (x : Node). h x.0) ws) (eq-eqb p.node.0 v.0 (own w.0 p is ∙ same))) ∙ sym is ∙ ap h same
    first same None is = rw is (none_later same) ∙ sym is ∙ ap h same

    behind : (Contains ws v → place_of (filter_map (λ (x : Node). h x.0) ws) v.0 ≡ h v.0) → Contains ws v → (o : Option Place) → h w.0 ≡ o → place_of (filter_map (λ (x : Node). h x.0) (w ∷ ws)) v.0 ≡ h v.0
    behind rest later (Some p) is = rw is (find_off (at_node v.0) p (filter_map (λ (x : Node). h x.0) ws) (ne_eqb p.node.0 v.0 (λ e. omega (arith, above v later, own w.0 p is, e)))) ∙ rest later
    behind rest later None is = rw is (rest later)

-- ---- edges

differ_regroup : (a b c : Bool) → differ (differ a b) c ≡ differ a (differ b c)
differ_regroup true true true = refl
differ_regroup true true false = refl
differ_regroup true false c = refl
differ_regroup false b c = refl

turned : (a b : ℕ) → (a == b) ≡ (b == a)
turned a b = elim (cases_Bool (a == b)) [
  | inl on ↦ on ∙ sym (eq-eqb b a (sym (eqb-true a b on)))
  | inr off ↦ off ∙ sym (ne_eqb b a (λ e. both_ways (a == b) off (eq-eqb a b (sym e))))
]

node_or_new : (t : List Place) (v : ℕ) → (place_or_new t v).node.0 ≡ v
node_or_new t v = by_place (place_of t v) refl
  where
    by_place : (o : Option Place) → place_of t v ≡ o → (place_or_new t v).node.0 ≡ v
    by_place None is = ap (λ (x : Option Place). (unwrap_or x (new_place v)).node.0) is
    by_place (Some p) is =
        let f : Passes (at_node v) t p = found_is (at_node v) t p is in
        ap (λ (x : Option Place). (unwrap_or x (new_place v)).node.0) is ∙ eqb-true p.node.0 v f.passes

-- a place that is there is met by each edge that ends there
odd_more : (t : List Place) (e : Edge) (es : List Edge) (p : Place) (v : ℕ) → p.node.0 ≡ v → differ (joined_place (place_or_new t e.a.0) (place_or_new t e.b.0) p).odd (is_odd es v) ≡ differ p.odd (is_odd (e ∷ es) v)
odd_more t e es p v node =
    let ends : differ (p.node.0 == (place_or_new t e.a.0).node.0) (p.node.0 == (place_or_new t e.b.0).node.0) ≡ differ (v == e.a.0) (v == e.b.0) =
    λ i. differ (node i == node_or_new t e.a.0 i) (node i == node_or_new t e.b.0 i) in
    ap (λ (d : Bool). differ (differ p.odd d) (is_odd es v)) ends
    ∙ differ_regroup p.odd (differ (v == e.a.0) (v == e.b.0)) (is_odd es v)
    ∙ ap (differ p.odd) (sym (one_more v e es))

abbrev odd_by : List Edge → ℕ → Option Place → Bool
odd_by es v None = false
odd_by es v (Some p) = differ p.odd (is_odd es v)

odd_folded : (es : List Edge) (t : List Place) (v : ℕ) → odd_of (place_of (fold with_edge t es) v) ≡ odd_by es v (place_of t v)
odd_folded [] t v = by_place (place_of t v)
  where
    by_place : (o : Option Place) → odd_of o ≡ odd_by [] v o
    by_place None = refl
    by_place (Some p) = none p.odd
      where
        none : (b : Bool) → b ≡ differ b false
        none true = refl
        none false = refl
odd_folded (e ∷ es) t v =
    odd_folded es (with_edge t e) v
    ∙ ap (odd_by es v) (place_mapped (joined_place (place_or_new t e.a.0) (place_or_new t e.b.0)) t v (λ p. refl))
    ∙ by_place (place_of t v) refl
  where
    by_place : (o : Option Place) → place_of t v ≡ o → odd_by es v (option_map (joined_place (place_or_new t e.a.0) (place_or_new t e.b.0)) o) ≡ odd_by (e ∷ es) v o
    by_place None is = refl
    by_place (Some p) is =
        let f : Passes (at_node v) t p = found_is (at_node v) t p is in
        odd_more t e es p v (eqb-true p.node.0 v f.passes)

never_odd : (es : List Edge) (v : ℕ) → is_met es v ≡ false → is_odd es v ≡ false
never_odd [] v none = refl
never_odd (e ∷ es) v none =
    let parts : (is_end v e ≡ false) × (is_met es v ≡ false) = or_parts (is_end v e) (is_met es v) none in
    let ends : ((e.a.0 == v) ≡ false) × ((e.b.0 == v) ≡ false) = or_parts (e.a.0 == v) (e.b.0 == v) parts.0 in
    one_more v e es
    ∙ (λ i. differ (differ ((turned v e.a.0 ∙ ends.0) i) ((turned v e.b.0 ∙ ends.1) i)) (never_odd es v parts.1 i))

-- ---- a choice

met_own : (s : List Place) (c : List Edge) (v : ℕ) (p : Place) → met_place s c v ≡ Some p → p.node.0 ≡ v
met_own s c v p gives = by_place (place_of s v) refl (is_met c v) gives
  where
    by_place : (o : Option Place) → place_of s v ≡ o → (b : Bool) → or_met (place_of s v) b v ≡ Some p → p.node.0 ≡ v
    by_place (Some q) is b g =
        let same : q ≡ p = some_same q p (sym (ap (λ o. or_met o b v) is) ∙ g) in
        let f : Passes (at_node v) s q = found_is (at_node v) s q is in
        sym (ap (λ (x : Place). x.node.0) same) ∙ eqb-true q.node.0 v f.passes
    by_place None is true g = sym (ap (λ (x : Place). x.node.0) (some_same (new_place v) p (sym (ap (λ o. or_met o true v) is) ∙ g)))
    by_place None is false g = absurd (none-some p (sym (ap (λ o. or_met o false v) is) ∙ g))

-- an open place turns with each edge that ends there
odd_met : (s : List Place) (c : List Edge) (v : ℕ) → odd_by c v (met_place s c v) ≡ differ (is_odd_at s v) (is_odd c v)
odd_met s c v = by_place (place_of s v) refl (is_met c v) refl
  where
    by_place : (o : Option Place) → place_of s v ≡ o → (b : Bool) → is_met c v ≡ b → odd_by c v (met_place s c v) ≡ differ (is_odd_at s v) (is_odd c v)
    by_place (Some p) is b met = ap (λ (x : Option Place). odd_by c v (or_met x (is_met c v) v)) is ∙ sym (ap (λ (x : Option Place). differ (odd_of x) (is_odd c v)) is)
    by_place None is true met = (λ i. odd_by c v (or_met (is i) (met i) v)) ∙ sym (ap (λ (x : Option Place). differ (odd_of x) (is_odd c v)) is)
    by_place None is false met = (λ i. odd_by c v (or_met (is i) (met i) v)) ∙ sym (never_odd c v met) ∙ sym (ap (λ (x : Option Place). differ (odd_of x) (is_odd c v)) is)

pub odd_joined : (nodes : List Node) (s : List Place) (c : List Edge) (v : Node) → AllPairs (λ (a b : Node). a.0 < b.0) nodes → Contains nodes v → is_odd_at (with_edges nodes s c) v.0 ≡ differ (is_odd_at s v.0) (is_odd c v.0)
odd_joined nodes s c v ascend there =
    odd_folded c (met_places nodes s c) v.0
    ∙ ap (odd_by c v.0) (place_kept (met_place s c) nodes v (met_own s c) ascend there)
    ∙ odd_met s c v.0

-- what stays is as odd as it was
pub odd_stays : (ends : Place → ℕ) (next : List Node) (t : List Place) (v : ℕ) → is_open next v ≡ true → is_odd_at (places_left ends (kept_of next t) (closing_of next t)) v ≡ is_odd_at t v
odd_stays ends next t v open' =
    ap odd_of (place_mapped (left_place ends (kept_of next t) (closing_of next t)) (kept_of next t) v (λ p. refl)
    ∙ ap (option_map (left_place ends (kept_of next t) (closing_of next t))) (place_filtered (λ (p : Place). is_open next p.node.0) t v (λ p e. ap (is_open next) e ∙ open')))
    ∙ by_place (place_of t v)
  where
    by_place : (o : Option Place) → odd_of (option_map (left_place ends (kept_of next t) (closing_of next t)) o) ≡ odd_of o
    by_place None = refl
    by_place (Some p) = refl
