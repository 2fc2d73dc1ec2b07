-- The odd nodes that close are ends after each choice.
use Rattle.std.proofs.Common.{ℕ, ◌≡◌, ◌≤◌, ◌+◌, ◌-◌, ◌*◌, ◌==◌, Bool, true, false, not, cond, List, [], ◌∷◌, Option, Some, None, map, fold, refl, sym, ap, arith, ◌∙◌, inl, inr, count_by, option_map, unwrap_or}
use Rattle.std.specs.List.{cons_option, filter, list_any}
use Rattle.std.proofs.lemmas.Bool.{cases_Bool, eq-eqb, eqb-true, or_left, or_parts}
use Rattle.std.proofs.lemmas.List.Sums.{sum_by-cons}
use Rattle.trail_state.specs.declared.edge.Edge.{Edge}
use Rattle.trail_state.specs.declared.edge.Node.{Node}
use Rattle.trail_state.specs.declared.state.Place.{Place}
use Rattle.trail_state.specs.declared.level.Level.{Level}
use Rattle.trail_state.specs.Places.{differ, is_end, is_met, joined_place, met_places, new_place, or_met, place_of, place_or_new, with_edge, with_edges}
use Rattle.trail_state.specs.Settling.{closing_of, ends_after, is_closed_trail, is_open, kept_of, state_after}
use Rattle.trail_state.proofs.Members.{filter_off, filter_on}
use Rattle.trail_check.specs.declared.closing.ClosingNode.{ClosingNode}
use Rattle.trail_check.specs.declared.lemma.TrailLemma.{TrailLemma}
use Rattle.trail_check.specs.Closing.{closing_at, closing_nodes, is_odd_after, odd_ends, turned}
use Rattle.trail_check.specs.Justified.{choice_reaches, says}

-- ---- counts

pub count_cons : {X : Type 0} (p : X → Bool) (x : X) (xs : List X) → count_by p (x ∷ xs) ≡ cond (p x) 1 0 + count_by p xs
count_cons p x xs = sum_by-cons (λ y. cond (p y) 1 0) x xs

pub count_map : {X Y : Type 0} (p : Y → Bool) (g : X → Y) (xs : List X) → count_by p (map g xs) ≡ count_by (λ x. p (g x)) xs
count_map p g [] = refl
count_map p g (x ∷ xs) = count_cons p (g x) (map g xs) ∙ ap (λ n. cond (p (g x)) 1 0 + n) (count_map p g xs) ∙ sym (count_cons (λ y. p (g y)) x xs)

-- ---- the edges of a choice, one by one

-- whether the node of the place is odd once these edges meet it
abbrev place_odd : List Edge → Place → Bool
place_odd es p = fold (turned p.node.0) p.odd es

abbrev closes : List Node → Place → Bool
closes next p = not (is_open next p.node.0)

-- joining classes moves no place
filter_joined : (next : List Node) (a b : Place) (t : List Place) → filter (closes next) (map (joined_place a b) t) ≡ map (joined_place a b) (filter (closes next) t)
filter_joined next a b [] = refl
filter_joined next a b (p ∷ t) =
    elim (cases_Bool (closes next p)) [
      | inl on ↦
          filter_on (closes next) (joined_place a b p) (map (joined_place a b) t) on
          ∙ ap (λ l. joined_place a b p ∷ l) (filter_joined next a b t)
          ∙ sym (ap (map (joined_place a b)) (filter_on (closes next) p t on))
      | inr off ↦
          filter_off (closes next) (joined_place a b p) (map (joined_place a b) t) off
          ∙ filter_joined next a b t
          ∙ sym (ap (map (joined_place a b)) (filter_off (closes next) p t off))
    ]

-- a place that is found is of the node
found_node : (places : List Place) (v : ℕ) → (place_or_new places v).node.0 ≡ v
found_node [] v = refl
found_node (p ∷ places) v =
    elim (cases_Bool (p.node.0 == v)) [
      | inl on ↦ rw on (eqb-true p.node.0 v on)
      | inr off ↦ rw off (found_node places v)
    ]

-- the odd places that close, after the edges: as many as before them, but for their ends
odd_fold : (next : List Node) (t : List Place) (es : List Edge) → count_by (λ (p : Place). p.odd) (filter (closes next) (fold with_edge t es)) ≡ count_by (place_odd es) (filter (closes next) t)
odd_fold next t [] = refl
odd_fold next t (e ∷ es) =
    let a : Place = place_or_new t e.a.0 in
    let b : Place = place_or_new t e.b.0 in
    odd_fold next (with_edge t e) es
    ∙ ap (count_by (place_odd es)) (filter_joined next a b t)
    ∙ count_map (place_odd es) (joined_place a b) (filter (closes next) t)
    ∙ ap (λ (v : ℕ). count_by (λ (p : Place). fold (turned p.node.0) (differ p.odd (differ (p.node.0 == v) (p.node.0 == b.node.0))) es) (filter (closes next) t)) (found_node t e.a.0)
    ∙ ap (λ (v : ℕ). count_by (λ (p : Place). fold (turned p.node.0) (differ p.odd (differ (p.node.0 == e.a.0) (p.node.0 == v))) es) (filter (closes next) t)) (found_node t e.b.0)

-- ---- the nodes that close

unturned : (b x y : Bool) → x ≡ false → y ≡ false → differ b (differ x y) ≡ b
unturned b true y ex ey = absurd (true_not ex)
  where
    true_not : ◌≡◌ {A = Bool} true false → ⊥
    true_not e = cc
unturned b false true ex ey = absurd (true_not ey)
  where
    true_not : ◌≡◌ {A = Bool} true false → ⊥
    true_not e = cc
unturned true false false ex ey = refl
unturned false false false ex ey = refl

-- edges that do not meet a node leave it as it is
unmet : (es : List Edge) (v : ℕ) (odd : Bool) → is_met es v ≡ false → fold (turned v) odd es ≡ odd
unmet [] v odd none = refl
unmet (e ∷ es) v odd none =
    let parts : (is_end v e ≡ false) × (is_met es v ≡ false) = or_parts (is_end v e) (is_met es v) none in
    let ends : ((e.a.0 == v) ≡ false) × ((e.b.0 == v) ≡ false) = or_parts (e.a.0 == v) (e.b.0 == v) parts.0 in
    ap (λ (b : Bool). fold (turned v) b es) (unturned odd (v == e.a.0) (v == e.b.0) (turned_off e.a.0 ends.0) (turned_off e.b.0 ends.1)) ∙ unmet es v odd parts.1
  where
    turned_off : (w : ℕ) → (w == v) ≡ false → (v == w) ≡ false
    turned_off w off = grind arith

-- an item in front of those that pass a test
head : {X : Type 0} (q keep : X → Bool) (x : X) (xs : List X) (shut : Bool) → keep x ≡ not shut → count_by q (filter keep (x ∷ xs)) ≡ cond shut 0 (cond (q x) 1 0) + count_by q (filter keep xs)
head q keep x xs true e = omega (arith, ap (count_by q) (filter_off keep x xs e))
head q keep x xs false e = ap (count_by q) (filter_on keep x xs e) ∙ count_cons q x (filter keep xs)

none_more : (b : Bool) (n : ℕ) → n ≡ cond b 0 0 + n
none_more true n = omega arith
none_more false n = omega arith

-- the nodes that close, by the places that the choice meets, and by the state
nodes_odd : (es : List Edge) (next : List Node) (s : List Place) (nodes : List Node) → count_by (place_odd es) (filter (closes next) (met_places nodes s es)) ≡ count_by (λ (v : Node). is_odd_after es (closing_at s v)) (filter (λ (v : Node). not (is_open next v.0)) nodes)
nodes_odd es next s [] = refl
nodes_odd es next s (v ∷ vs) =
    step (place_of s v.0) refl (is_met es v.0) refl
    ∙ ap (λ (n : ℕ). cond (is_open next v.0) 0 (cond (is_odd_after es (closing_at s v)) 1 0) + n) (nodes_odd es next s vs)
    ∙ sym (head (λ (w : Node). is_odd_after es (closing_at s w)) (λ (w : Node). not (is_open next w.0)) v vs (is_open next v.0) refl)
  where
    rest : List Place
    rest = met_places vs s es

    step : (o : Option Place) → place_of s v.0 ≡ o → (met : Bool) → is_met es v.0 ≡ met → count_by (place_odd es) (filter (closes next) (cons_option (or_met o met v.0) rest)) ≡ cond (is_open next v.0) 0 (cond (fold (turned v.0) (unwrap_or (option_map (λ (p : Place). p.odd) o) false) es) 1 0) + count_by (place_odd es) (filter (closes next) rest)
    step (Some p) is met e =
        head (place_odd es) (closes next) p rest (is_open next p.node.0) refl
        ∙ ap (λ (w : ℕ). cond (is_open next w) 0 (cond (fold (turned w) p.odd es) 1 0) + count_by (place_odd es) (filter (closes next) rest))
        (ap (λ (o : Option Place). (unwrap_or o (new_place v.0)).node.0) (sym is) ∙ found_node s v.0)
    step None is true e = head (place_odd es) (closes next) (new_place v.0) rest (is_open next v.0) refl
    step None is false e =
        none_more (is_open next v.0) (count_by (place_odd es) (filter (closes next) rest))
        ∙ ap (λ (b : Bool). cond (is_open next v.0) 0 (cond b 1 0) + count_by (place_odd es) (filter (closes next) rest)) (sym (unmet es v.0 false e))

-- ---- what follows

pub odd_few : (level : Level) (s : List Place) (choice : List Edge) → odd_ends (closing_nodes level s) choice ≤ ends_after level.now level.next s choice
odd_few level s choice =
    let all : List Place = with_edges level.now s choice in
    let closing : List Place = closing_of level.next all in
    let same : odd_ends (closing_nodes level s) choice ≡ count_by (λ (p : Place). p.odd) closing =
    count_map (is_odd_after choice) (closing_at s) (filter (λ (v : Node). not (is_open level.next v.0)) level.now)
    ∙ sym (nodes_odd choice level.next s level.now)
    ∙ sym (odd_fold level.next (met_places level.now s choice) choice) in
    let ends : ends_after level.now level.next s choice ≡ count_by (λ (p : Place). p.odd) closing + 2 * count_by (is_closed_trail (kept_of level.next all) closing) closing = refl in
    omega (arith, same, ends)

-- as many odd nodes as the bound reach it
pub reached_odd : (earlier : List TrailLemma) (level : Level) (lemma : TrailLemma) (closing : List ClosingNode) (choice : List Edge) (n : ℕ) → n ≡ odd_ends closing choice → lemma.bound ≤ n → closing ≡ closing_nodes level lemma.state → true ≡ choice_reaches earlier level lemma choice
reached_odd earlier level lemma closing choice n of_n enough of_closing =
    let few : odd_ends (closing_nodes level lemma.state) choice ≤ ends_after level.now level.next lemma.state choice = odd_few level lemma.state choice in
    let same : odd_ends closing choice ≡ odd_ends (closing_nodes level lemma.state) choice = ap (λ (cs : List ClosingNode). odd_ends cs choice) of_closing in
    let none : (lemma.bound - ends_after level.now level.next lemma.state choice == 0) ≡ true = eq-eqb (lemma.bound - ends_after level.now level.next lemma.state choice) 0 (omega (arith, few, same, of_n, enough)) in
    sym (or_left (lemma.bound - ends_after level.now level.next lemma.state choice == 0) (list_any (says (lemma.done + 1) (state_after level.now level.next lemma.state choice) (lemma.bound - ends_after level.now level.next lemma.state choice)) earlier) none)
