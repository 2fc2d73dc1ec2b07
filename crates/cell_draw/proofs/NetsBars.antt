-- The metal2 of a signal meets the bars of its net, and these hang together.
use Rattle.std.proofs.Common.{ℕ, zero, suc, ◌≡◌, ◌+◌, ◌-◌, ◌<◌, ◌≤◌, ◌==◌, ◌&&◌, not, Bool, true, false, List, Some, inl, inr, refl, sym, ap, subst, ◌∙◌, arith, filter, length, Contains, slice_get}
use Rattle.std.specs.List.{list_any}
use Rattle.std.proofs.lemmas.Bool.{cases_Bool, cases_lt, eq-eqb, eqb-true, and_parts, and_from}
use Rattle.std.proofs.lemmas.Option.{slice_get_within}
use Rattle.cell_num.specs.declared.net.NetNo.{NetNo}
use Rattle.cell_num.specs.declared.net.Pins.{Pins}
use Rattle.cell_num.proofs.In.{Image, in_map, contains_map}
use Rattle.cell_num.proofs.Lists.{some_same, contains_get, contains_filter_map}
use Rattle.cell_num.proofs.Pairs.{Some', test_finds, pairs_at}
use Rattle.row_model.proofs.Decide.{net_decides}
use Rattle.row_place.specs.declared.placement.NodePlace.{NodePlace}
use Rattle.row_place.specs.declared.placement.Placement.{Placement}
use Rattle.channel_route.specs.declared.routing.Trunk.{Trunk}
use Rattle.channel_route.specs.declared.routing.Routing.{Routing}
use Rattle.channel_route.specs.Wiring.{HoldsLine, AreEnds, AreInOrder, AreJoined, IsWiring}
use Rattle.row_compact.specs.Solution.{x_of}
use Rattle.box_geom.specs.Chains.{Chain}
use Rattle.number_trees.proofs.Chains.{none, one, turned, joined as chained}
use Rattle.box_geom.proofs.Filters.{contains_filter}
use Rattle.cell_draw.specs.declared.layout.Frame.{Frame}
use Rattle.cell_draw.specs.declared.layout.Contact.{Contact}
use Rattle.cell_draw.specs.declared.layout.Bar.{Bar}
use Rattle.cell_draw.specs.declared.layout.Layout.{Layout}
use Rattle.cell_draw.specs.Frame.{track_y}
use Rattle.cell_draw.specs.Laid.{GoesTo}
use Rattle.cell_draw.specs.Layouts.{is_p, is_over, has_own_via, holds, begins_before, has_via, vias_of, contact_with, contact_of, bar_of, laid_out}
use Rattle.cell_draw.proofs.BridgeBars.{Reached, reached, reached_from, goes_up}
use Rattle.cell_draw.proofs.BridgeFrom.{ContactFrom, ReachFrom}
use Rattle.cell_draw.proofs.BridgeLines.{At, some_at, standing}
use Rattle.cell_draw.proofs.BridgeTracks.{IsRouted, ends_of, Between, between, reach_of_contact}
use Rattle.cell_draw.proofs.NetsFacts.{Reaches, AreNeighbours, overlap, crossed}
use Rattle.cell_draw.proofs.Wirings.{it_holds, BeginsFirst, begins_first}

-- ---- the vias of a bar
-- a trunk on which none begins before is the one with the via at the line
abbrev IsFirst : List Trunk → Trunk → ℕ → Type 0
IsFirst trunks t line = list_any (begins_before t line) trunks ≡ false

via_at : (nodes : List NodePlace) (trunks : List Trunk) (xs : List ℕ) (t : Trunk) (node : NodePlace) → Contains nodes node → t.net ≡ node.net → HoldsLine t node.line → IsFirst trunks t node.line → has_own_via nodes node ≡ true → Contains (vias_of nodes trunks xs t) (x_of xs node.line)
via_at nodes trunks xs t node there of on first own =
    let last : not (list_any (begins_before t node.line) trunks) ≡ true = rw first refl in
    contains_map (λ (z : NodePlace). x_of xs z.line) (filter (has_via nodes trunks t) nodes) node
    (contains_filter (has_via nodes trunks t) nodes node there (and_from (holds node.net node.line t && has_own_via nodes node) (not (list_any (begins_before t node.line) trunks)) (and_from (holds node.net node.line t) (has_own_via nodes node) (it_holds node.net node.line t of on) own) last))

-- a place of the N row has its own via
own_via : (nodes : List NodePlace) (node : NodePlace) → is_p node.row ≡ false → has_own_via nodes node ≡ true
own_via nodes node e = rw e refl

-- at each place of its net that trunk has a via
via_there : (nodes : List NodePlace) (trunks : List Trunk) (xs : List ℕ) (t : Trunk) (node : NodePlace) → Contains nodes node → t.net ≡ node.net → HoldsLine t node.line → IsFirst trunks t node.line → Contains (vias_of nodes trunks xs t) (x_of xs node.line)
via_there nodes trunks xs t node there of on first = elim (cases_Bool (has_own_via nodes node)) [
  | inl own ↦ via_at nodes trunks xs t node there of on first own
  | inr none ↦ by (test_finds (is_over node) nodes (covered none))
]
  where
    covered : has_own_via nodes node ≡ false → list_any (is_over node) nodes ≡ true
    covered none = both (is_p node.row) (list_any (is_over node) nodes) none
      where
        both : (a b : Bool) → not (a && b) ≡ false → b ≡ true
        both true true h = refl
        both true false h = absurd cc
        both false b h = absurd cc

    by : Some' (λ z. is_over node z ≡ true) nodes → Contains (vias_of nodes trunks xs t) (x_of xs node.line)
    by s =
        let m : NodePlace = s.it in
        let parts = and_parts (not (is_p m.row) && (m.line == node.line)) (m.net.0 == node.net.0) s.holds in
        let more = and_parts (not (is_p m.row)) (m.line == node.line) parts.0 in
        let low : is_p m.row ≡ false = denied (is_p m.row) more.0 in
        let line : m.line ≡ node.line = eqb-true m.line node.line more.1 in
        let same : t.net ≡ m.net = of ∙ sym ((net_decides m.net node.net).0 parts.1) in
        subst (λ z. Contains (vias_of nodes trunks xs t) (x_of xs z)) line
        (via_at nodes trunks xs t m s.there same (subst (λ z. HoldsLine t z) (sym line) on) (subst (λ z. IsFirst trunks t z) (sym line) first) (own_via nodes m low))
      where
        denied : (b : Bool) → not b ≡ true → b ≡ false
        denied true h = absurd cc
        denied false h = refl

-- ---- a signal's metal2
abbrev layout : (pins : Pins) (p : Placement) (r : Routing) (xs : List ℕ) (f : Frame) (nets : ℕ) → Layout
layout pins p r xs f nets = laid_out f nets pins p r.trunks xs

-- it meets the one that begins first of the trunks of a track that hold its line
meets_first : (p : Placement) (pins : Pins) (r : Routing) (xs : List ℕ) (f : Frame) (nets : ℕ) (c : Contact) (y : ℕ) (from : ContactFrom f pins r.trunks xs p.nodes c) → c.reach ≡ Some y → (t : Trunk) → t.net ≡ from.node.net → (b : BeginsFirst r.trunks t from.node.line) → Reaches (layout pins p r xs f nets) c y
meets_first p pins r xs f nets c y from e t of b =
    let reach : ReachFrom f r.trunks from.node y = reach_of_contact f pins r.trunks xs p.nodes c y from e in
    record {
      bar = bar_of f p.nodes r.trunks xs b.trunk;
      listed = contains_map (bar_of f p.nodes r.trunks xs) r.trunks b.trunk b.listed;
      net = b.net ∙ (of ∙ sym from.net);
      via = subst (λ x. Contains (vias_of p.nodes r.trunks xs b.trunk) x) (sym from.x) (via_there p.nodes r.trunks xs b.trunk from.node from.there (b.net ∙ of) b.on b.none_before);
      goes = subst (λ row. GoesTo row y (track_y f b.trunk.track)) (sym from.row) (subst (λ z. GoesTo from.node.row z (track_y f b.trunk.track)) (sym reach.is) (goes_up f from.node.row reach.track b.trunk.track (reach.far.most b.trunk b.listed (b.net ∙ of) b.on)));
    }

-- it goes to a bar of its net and meets it
pub signal_meets : (p : Placement) (pins : Pins) (r : Routing) (xs : List ℕ) (f : Frame) (nets : ℕ) (c : Contact) (y : ℕ) → ContactFrom f pins r.trunks xs p.nodes c → c.reach ≡ Some y → Reaches (layout pins p r xs f nets) c y
signal_meets p pins r xs f nets c y from e =
    let reach : ReachFrom f r.trunks from.node y = reach_of_contact f pins r.trunks xs p.nodes c y from e in
    meets_first p pins r xs f nets c y from e reach.far.trunk reach.far.of (begins_first r.trunks from.node.line reach.far.trunk reach.far.listed reach.far.on)

-- ---- the bars of a net
flip : (l : Layout) (a b : Bar) → AreNeighbours l a b → AreNeighbours l b a
flip l a b (overlap ha hb net y left right) = overlap hb ha (sym net) (sym y) right left
flip l a b (crossed c y there e to is also same) = crossed c y there e also same to is

abbrev bar_at : (p : Placement) (r : Routing) (xs : List ℕ) (f : Frame) → Trunk → Bar
bar_at p r xs f t = bar_of f p.nodes r.trunks xs t

-- trunks of one net and one track that hold a line overlap
share_line : (p : Placement) (pins : Pins) (r : Routing) (xs : List ℕ) → IsRouted p pins r xs → (f : Frame) (nets : ℕ) (t u : Trunk) (line : ℕ) → Contains r.trunks t → Contains r.trunks u → t.net ≡ u.net → t.track ≡ u.track → HoldsLine t line → HoldsLine u line → AreNeighbours (layout pins p r xs f nets) (bar_at p r xs f t) (bar_at p r xs f u)
share_line p pins r xs w f nets t u line lt lu net track ht hu =
    let a : Between xs t line = between p pins r xs w t line lt ht in
    let b : Between xs u line = between p pins r xs w u line lu hu in
    overlap (contains_map (bar_of f p.nodes r.trunks xs) r.trunks t lt) (contains_map (bar_of f p.nodes r.trunks xs) r.trunks u lu) net (ap (track_y f) track) (omega (arith, a.left, b.right)) (omega (arith, b.left, a.right))

-- a signal's metal2 joins the two that begin first of the trunks that hold its line on two tracks
across : (p : Placement) (pins : Pins) (r : Routing) (xs : List ℕ) (f : Frame) (nets : ℕ) (c : Contact) (y : ℕ) (from : ContactFrom f pins r.trunks xs p.nodes c) → Contains (layout pins p r xs f nets).contacts c → c.reach ≡ Some y → (t u : Trunk) → t.net ≡ from.node.net → u.net ≡ from.node.net → (a : BeginsFirst r.trunks t from.node.line) (b : BeginsFirst r.trunks u from.node.line) → AreNeighbours (layout pins p r xs f nets) (bar_at p r xs f a.trunk) (bar_at p r xs f b.trunk)
unfolding meets_first
across p pins r xs f nets c y from there e t u of_t of_u a b = crossed c y there e (meets_first p pins r xs f nets c y from e t of_t a) refl (meets_first p pins r xs f nets c y from e u of_u b) refl

-- the bars of two trunks that meet hang together
next_chain : (p : Placement) (pins : Pins) (r : Routing) (xs : List ℕ) → IsRouted p pins r xs → (f : Frame) (nets : ℕ) (t u : Trunk) → Contains r.trunks t → Contains r.trunks u → t.net ≡ u.net → AreJoined p t u → Chain (AreNeighbours (layout pins p r xs f nets)) (bar_at p r xs f t) (bar_at p r xs f u)
next_chain p pins r xs w f nets t u lt lu e j =
    let node : NodePlace = j.node in
    let line : node.line ≡ t.right = j.line in
    let meets : t.right ≡ u.left = j.meets in
    let t_ends : AreEnds p t = ends_of p pins r w.wiring t lt in
    let u_ends : AreEnds p u = ends_of p pins r w.wiring u lu in
    let t_on : HoldsLine t node.line = record { begins = omega (arith, line, t_ends.ascending); ends = omega (arith, line) } in
    let u_on : HoldsLine u node.line = record { begins = omega (arith, line, meets); ends = omega (arith, line, meets, u_ends.ascending) } in
    let t_of : t.net ≡ node.net = sym j.net in
    let u_of : u.net ≡ node.net = sym e ∙ t_of in
    let to : Reached f pins r.trunks xs node = reached p pins r w.wiring f xs node t lt t_of t_on in
    let y : ℕ = track_y f to.track in
    let c : Contact = contact_with xs node (Some y) in
    let from : ContactFrom f pins r.trunks xs p.nodes c = reached_from f pins r.trunks xs p.nodes node to j.there in
    let one_t : BeginsFirst r.trunks t node.line = begins_first r.trunks node.line t lt t_on in
    let one_u : BeginsFirst r.trunks u node.line = begins_first r.trunks node.line u lu u_on in
    let l : Layout = layout pins p r xs f nets in
    let a : Bar = bar_at p r xs f t in
    let b : Bar = bar_at p r xs f u in
    let m : Bar = bar_at p r xs f one_t.trunk in
    let n : Bar = bar_at p r xs f one_u.trunk in
    let listed : Contains l.contacts c = contains_filter_map (contact_of f pins r.trunks xs) p.nodes node c j.there to.is in
    let first : AreNeighbours l a m = share_line p pins r xs w f nets t one_t.trunk node.line lt one_t.listed (sym one_t.net) (sym one_t.track) t_on one_t.on in
    let second : AreNeighbours l m n = across p pins r xs f nets c y from listed refl t u t_of u_of one_t one_u in
    let last : AreNeighbours l n b = share_line p pins r xs w f nets one_u.trunk u node.line one_u.listed lu one_u.net one_u.track one_u.on u_on in
    chained (AreNeighbours l) a m b (one (AreNeighbours l) a m first) (chained (AreNeighbours l) m n b (one (AreNeighbours l) m n second) (one (AreNeighbours l) n b last))

-- nets do not fall along the trunks
nets_rise : (p : Placement) (pins : Pins) (r : Routing) → IsWiring p pins r → (k d : ℕ) (t u : Trunk) → slice_get r.trunks k ≡ Some t → slice_get r.trunks (k + d) ≡ Some u → t.net.0 ≤ u.net.0
nets_rise p pins r wiring k zero t u is at =
    let here : k ≡ k + 0 = omega arith in
    let same : t ≡ u = some_same t u (sym is ∙ ap (λ n. slice_get r.trunks n) here ∙ at) in
    omega (arith, ap (λ (z : Trunk). z.net.0) same)
nets_rise p pins r wiring k (suc d) t u is at = by (pairs_at AreInOrder r.trunks k (k + suc d) t u wiring.order (omega arith) is at)
  where
    by : AreInOrder t u → t.net.0 ≤ u.net.0
    by (inl less) = omega (arith, less)
    by (inr later) = omega (arith, ap (λ (n : NetNo). n.0) later.0)

upward : (p : Placement) (pins : Pins) (r : Routing) (xs : List ℕ) → IsRouted p pins r xs → (f : Frame) (nets : ℕ) (d k : ℕ) (t u : Trunk) → slice_get r.trunks k ≡ Some t → slice_get r.trunks (k + d) ≡ Some u → t.net ≡ u.net → Chain (AreNeighbours (layout pins p r xs f nets)) (bar_at p r xs f t) (bar_at p r xs f u)
upward p pins r xs w f nets zero k t u is at e =
    let here : k ≡ k + 0 = omega arith in
    let same : t ≡ u = some_same t u (sym is ∙ ap (λ n. slice_get r.trunks n) here ∙ at) in
    none (AreNeighbours (layout pins p r xs f nets)) (bar_at p r xs f t) (bar_at p r xs f u) (ap (λ z. bar_at p r xs f z) same)
upward p pins r xs w f nets (suc d) k t u is at e =
    let short : k + suc d < length r.trunks = slice_get_within r.trunks (k + suc d) u at in
    let v : At r.trunks (k + 1) = some_at r.trunks (k + 1) (omega (arith, short)) in
    let further : k + suc d ≡ k + 1 + d = omega arith in
    let end : slice_get r.trunks (k + 1 + d) ≡ Some u = subst (λ n. slice_get r.trunks n ≡ Some u) further at in
    let before : t.net.0 ≤ v.it.net.0 = nets_rise p pins r w.wiring k 1 t v.it is v.is in
    let behind : v.it.net.0 ≤ u.net.0 = nets_rise p pins r w.wiring (k + 1) d v.it u v.is end in
    let number : t.net.0 ≡ u.net.0 = ap (λ (n : NetNo). n.0) e in
    let same : t.net ≡ v.it.net = (net_decides t.net v.it.net).0 (eq-eqb t.net.0 v.it.net.0 (omega (arith, before, behind, number))) in
    let first = next_chain p pins r xs w f nets t v.it (contains_get r.trunks k t is) (contains_get r.trunks (k + 1) v.it v.is) same (w.wiring.next k t v.it is v.is same) in
    chained (AreNeighbours (layout pins p r xs f nets)) (bar_at p r xs f t) (bar_at p r xs f v.it) (bar_at p r xs f u) first (upward p pins r xs w f nets d (k + 1) v.it u v.is end (sym same ∙ e))

-- the bars of a net hang together
pub joined : (p : Placement) (pins : Pins) (r : Routing) (xs : List ℕ) → IsRouted p pins r xs → (f : Frame) (nets : ℕ) (a b : Bar) → Contains (layout pins p r xs f nets).bars a → Contains (layout pins p r xs f nets).bars b → a.net ≡ b.net → Chain (AreNeighbours (layout pins p r xs f nets)) a b
joined p pins r xs w f nets a b la lb e =
    subst (λ z. Chain (AreNeighbours (layout pins p r xs f nets)) a z) j.is (subst (λ z. Chain (AreNeighbours (layout pins p r xs f nets)) z (bar_at p r xs f j.of)) i.is
    (by (standing r.trunks i.of i.listed) (standing r.trunks j.of j.listed)))
  where
    i : Image (bar_of f p.nodes r.trunks xs) r.trunks a
    i = in_map (bar_of f p.nodes r.trunks xs) r.trunks a la

    j : Image (bar_of f p.nodes r.trunks xs) r.trunks b
    j = in_map (bar_of f p.nodes r.trunks xs) r.trunks b lb

    net : i.of.net ≡ j.of.net
    net = ap (λ (z : Bar). z.net) i.is ∙ (e ∙ sym (ap (λ (z : Bar). z.net) j.is))

    by : (k : ℕ) × (slice_get r.trunks k ≡ Some i.of) → (m : ℕ) × (slice_get r.trunks m ≡ Some j.of) → Chain (AreNeighbours (layout pins p r xs f nets)) (bar_at p r xs f i.of) (bar_at p r xs f j.of)
    by (k, is) (m, at) = elim (cases_lt k m) [
      | inl less ↦
          let up : m ≡ k + (m - k) = omega (arith, less) in
          upward p pins r xs w f nets (m - k) k i.of j.of is (subst (λ n. slice_get r.trunks n ≡ Some j.of) up at) net
      | inr more ↦
          let up : k ≡ m + (k - m) = omega (arith, more) in
          turned (AreNeighbours (layout pins p r xs f nets)) (λ x y s. flip (layout pins p r xs f nets) x y s) (bar_at p r xs f j.of) (bar_at p r xs f i.of)
          (upward p pins r xs w f nets (k - m) m j.of i.of at (subst (λ n. slice_get r.trunks n ≡ Some i.of) up is) (sym net))
    ]
