-- The bars of a layout, their vias, and the gates and contacts that meet them.
use Rattle.std.proofs.Common.{ℕ, ◌≡◌, ◌+◌, ◌&&◌, ◌<◌, ◌≤◌, not, Bool, true, false, List, Option, Some, None, inl, inr, ◌⊎◌, refl, sym, ap, subst, ◌∙◌, arith, Contains, filter, map, option_map}
use Rattle.std.specs.List.{list_any}
use Rattle.std.proofs.lemmas.Bool.{cases_eq, cases_order, and_parts}
use Rattle.cell_num.specs.declared.net.NetNo.{NetNo}
use Rattle.cell_num.specs.declared.net.Pins.{Pins}
use Rattle.cell_num.specs.declared.finger.Row.{Row}
use Rattle.cell_num.specs.declared.finger.Row.TheVariants.{P, N}
use Rattle.cell_num.specs.Pins.{IsRail, is_rail}
use Rattle.cell_num.proofs.Lists.{contains_filter_map}
use Rattle.cell_num.proofs.In.{Image, in_map, contains_map}
use Rattle.row_place.specs.declared.placement.NodePlace.{NodePlace}
use Rattle.row_place.specs.declared.placement.Placement.{Placement}
use Rattle.channel_route.specs.declared.routing.Trunk.{Trunk}
use Rattle.channel_route.specs.declared.routing.Routing.{Routing}
use Rattle.channel_route.specs.Wiring.{HoldsLine, AreEnds, AreInOrder, IsWiring}
use Rattle.row_compact.specs.Solution.{x_of}
use Rattle.row_compact.specs.Allowed.{stretch_of}
use Rattle.row_compact.proofs.Decide.{rail_decides}
use Rattle.box_geom.proofs.Filters.{IsKept, in_filter}
use Rattle.cell_draw.specs.declared.layout.Frame.{Frame}
use Rattle.cell_draw.specs.declared.layout.Gate.{Gate}
use Rattle.cell_draw.specs.declared.layout.Bar.{Bar}
use Rattle.cell_draw.specs.Frame.{track_y}
use Rattle.cell_draw.specs.Laid.{IsTrack, AreBars, IsOnBar, GoesTo, IsMet}
use Rattle.cell_draw.specs.Layouts.{holds, far, contact_with, contact_of, has_own_via, begins_before, has_via, vias_of, bar_of, laid_out}
use Rattle.cell_draw.proofs.BridgeFrom.{PadFrom, pad_from, signal, ContactFrom, GateFrom}
use Rattle.cell_draw.proofs.BridgeLines.{cases_in_order}
use Rattle.cell_draw.proofs.BridgeTracks.{IsRouted, two_nets, has_trunk, on_track, ends_of, Between, between}
use Rattle.cell_draw.proofs.Wirings.{holds_it, IsFar, is_far, none_far}

-- a trunk ascends as places
wide : (p : Placement) (pins : Pins) (r : Routing) (xs : List ℕ) → IsRouted p pins r xs → (t : Trunk) → Contains r.trunks t → x_of xs t.left ≤ x_of xs t.right
wide p pins r xs w t there =
    let ends : AreEnds p t = ends_of p pins r w.wiring t there in
    let all : Between xs t t.right = between p pins r xs w t t.right there (record { begins = ends.ascending; ends = omega arith }) in
    all.left

-- a bar ascends and lies on a track
pub bar_lies : (p : Placement) (pins : Pins) (r : Routing) (xs : List ℕ) → IsRouted p pins r xs → (f : Frame) (b : Bar) → Contains (map (bar_of f p.nodes r.trunks xs) r.trunks) b → (b.left ≤ b.right) × IsTrack f r.tracks b.y
bar_lies p pins r xs w f b there =
    let i : Image (bar_of f p.nodes r.trunks xs) r.trunks b = in_map (bar_of f p.nodes r.trunks xs) r.trunks b there in
    subst (λ z. (z.left ≤ z.right) × IsTrack f r.tracks z.y) i.is (wide p pins r xs w i.of i.listed, on_track p pins r w.wiring f i.of i.listed)

-- two trunks of one track stand 14 apart, or overlap and are of one net
abbrev AreClear : List ℕ → Trunk → Trunk → Type 0
AreClear xs t u = ((x_of xs t.right + 14 ≤ x_of xs u.left) ⊎ (x_of xs u.right + 14 ≤ x_of xs t.left)) ⊎ ((x_of xs t.left ≤ x_of xs u.right) × (x_of xs u.left ≤ x_of xs t.right) × (t.net ≡ u.net))

trunks_spread : (p : Placement) (pins : Pins) (r : Routing) (xs : List ℕ) → IsRouted p pins r xs → (f : Frame) (t u : Trunk) → Contains r.trunks t → Contains r.trunks u → AreBars (bar_of f p.nodes r.trunks xs t) (bar_of f p.nodes r.trunks xs u)
trunks_spread p pins r xs w f t u lt lu = elim (cases_order t.track u.track) [
  | inl same ↦ inr (
    ap (track_y f) same,
    elim (two_nets t.net u.net) [
      | inl one ↦ of_one same (cases_in_order AreInOrder r.trunks t u w.wiring.order lt lu) one
      | inr ne ↦ apart (w.wiring.apart t u lt lu ne same) same
    ],
  )
  | inr (inl less) ↦ inl (inl (omega (arith, less)))
  | inr (inr more) ↦ inl (inr (omega (arith, more)))
]
  where
    gap : (a b : Trunk) → Contains r.trunks a → Contains r.trunks b → a.track ≡ b.track → a.right < b.left → x_of xs a.right + 14 ≤ x_of xs b.left
    gap a b la lb same less = w.allowed.apart (stretch_of a) (stretch_of b) (contains_map stretch_of r.trunks a la) (contains_map stretch_of r.trunks b lb) same less

    apart : (t.right < u.left) ⊎ (u.right < t.left) → t.track ≡ u.track → AreClear xs t u
    apart (inl less) same = inl (inl (gap t u lt lu same less))
    apart (inr more) same = inl (inr (gap u t lu lt (sym same) more))

    -- of one net the one before ends where the other begins, or earlier
    next : (a b : Trunk) → Contains r.trunks a → Contains r.trunks b → a.track ≡ b.track → a.right ≤ b.left → (x_of xs a.right + 14 ≤ x_of xs b.left) ⊎ ((x_of xs a.left ≤ x_of xs b.right) × (x_of xs b.left ≤ x_of xs a.right))
    next a b la lb same le = elim (cases_eq a.right b.left) [
      | inl meet ↦ let x : x_of xs a.right ≡ x_of xs b.left = ap (λ n. x_of xs n) meet in inr (omega (arith, x, wide p pins r xs w a la, wide p pins r xs w b lb), omega (arith, x))
      | inr other ↦ inl (gap a b la lb same (omega (arith, le, other)))
    ]

    of_one : t.track ≡ u.track → (t ≡ u) ⊎ (AreInOrder t u ⊎ AreInOrder u t) → t.net ≡ u.net → AreClear xs t u
    of_one same (inl e) one = subst (λ z. AreClear xs t z) e (inr (wide p pins r xs w t lt, wide p pins r xs w t lt, refl))
    of_one same (inr (inl (inl less))) one = absurd (omega (arith, less, ap (λ (n : NetNo). n.0) one))
    of_one same (inr (inr (inl less))) one = absurd (omega (arith, less, ap (λ (n : NetNo). n.0) one))
    of_one same (inr (inl (inr (net, left, le, ends)))) one = elim (next t u lt lu same le) [ inl far ↦ inl (inl far) | inr meet ↦ inr (meet.0, meet.1, net) ]
    of_one same (inr (inr (inr (net, left, le, ends)))) one = elim (next u t lu lt (sym same) le) [ inl far ↦ inl (inr far) | inr meet ↦ inr (meet.1, meet.0, sym net) ]

-- two bars are clear of each other
pub bars_spread : (p : Placement) (pins : Pins) (r : Routing) (xs : List ℕ) → IsRouted p pins r xs → (f : Frame) (a b : Bar) → Contains (map (bar_of f p.nodes r.trunks xs) r.trunks) a → Contains (map (bar_of f p.nodes r.trunks xs) r.trunks) b → AreBars a b
bars_spread p pins r xs w f a b la lb =
    let i : Image (bar_of f p.nodes r.trunks xs) r.trunks a = in_map (bar_of f p.nodes r.trunks xs) r.trunks a la in
    let j : Image (bar_of f p.nodes r.trunks xs) r.trunks b = in_map (bar_of f p.nodes r.trunks xs) r.trunks b lb in
    subst (λ z. AreBars a z) j.is (subst (λ z. AreBars z (bar_of f p.nodes r.trunks xs j.of)) i.is (trunks_spread p pins r xs w f i.of j.of i.listed j.listed))

-- the pad of a gate lies on the bar of its net
pub pad_on_bar : (p : Placement) (pins : Pins) (r : Routing) (xs : List ℕ) → IsRouted p pins r xs → (f : Frame) (nets : ℕ) (g : Gate) (y : ℕ) → GateFrom p.row f r.trunks xs g → g.track ≡ Some y → IsOnBar (laid_out f nets pins p r.trunks xs) g.net g.x y
pad_on_bar p pins r xs w f nets g y from e =
    let pad : PadFrom f r.trunks from.place y = pad_from f r.trunks from.place y (sym from.track ∙ e) in
    let t : Trunk = pad.trunk in
    let on : Between xs t from.place.line = between p pins r xs w t from.place.line pad.listed pad.on in
    let at : x_of xs from.place.line ≡ g.x = ap (λ n. x_of xs n) from.line ∙ sym from.x in
    record {
      bar = bar_of f p.nodes r.trunks xs t;
      listed = contains_map (bar_of f p.nodes r.trunks xs) r.trunks t pad.listed;
      left = subst (λ z. x_of xs t.left ≤ z) at on.left;
      right = subst (λ z. z ≤ x_of xs t.right) at on.right;
      track = sym pad.is;
      of = pad.of ∙ sym from.net;
    }

pub no_rail : (pins : Pins) (net : NetNo) → (IsRail pins net → ⊥) → is_rail pins net ≡ false
no_rail pins net not = by (is_rail pins net) refl
  where
    by : (b : Bool) → is_rail pins net ≡ b → is_rail pins net ≡ false
    by true is = absurd (not ((rail_decides pins net).0 is))
    by false other = other

-- the contact of a node place whose line a trunk of its net holds
pub record Reached (f : Frame) (pins : Pins) (trunks : List Trunk) (xs : List ℕ) (node : NodePlace) : Type 0 where
  pub track : ℕ
  pub signal : is_rail pins node.net ≡ false
  pub found : far trunks node ≡ Some track
  pub far : IsFar trunks node track
  pub is : contact_of f pins trunks xs node ≡ Some (contact_with xs node (Some (track_y f track)))

pub reached : (p : Placement) (pins : Pins) (r : Routing) → IsWiring p pins r → (f : Frame) (xs : List ℕ) (node : NodePlace) (t : Trunk) → Contains r.trunks t → t.net ≡ node.net → HoldsLine t node.line → Reached f pins r.trunks xs node
reached p pins r wiring f xs node t there of on = by (far r.trunks node) refl
  where
    signal : is_rail pins node.net ≡ false
    signal = no_rail pins node.net (λ rail. (has_trunk p pins r wiring t there).0 (subst (IsRail pins) (sym of) rail))

    by : (o : Option ℕ) → far r.trunks node ≡ o → Reached f pins r.trunks xs node
    by None none = absurd (none_far r.trunks node t there of on none)
    by (Some k) e = record { track = k; signal = signal; found = e; far = is_far r.trunks node k e; is = rw signal (rw e refl) }

abbrev pub reached_from : (f : Frame) (pins : Pins) (trunks : List Trunk) (xs : List ℕ) (nodes : List NodePlace) (node : NodePlace) (to : Reached f pins trunks xs node) → Contains nodes node → ContactFrom f pins trunks xs nodes (contact_with xs node (Some (track_y f to.track)))
reached_from f pins trunks xs nodes node to there = record {
  node = node;
  there = there;
  gives = to.is;
  row = refl;
  x = refl;
  net = refl;
  kind = signal to.signal (ap (λ o. option_map (track_y f) o) (sym to.found)) (track_y f to.track) refl;
}

-- a place's metal2 goes to the height of a track that goes no farther
pub goes_up : (f : Frame) (row : Row) (a b : ℕ) → GoesTo row a b → GoesTo row (track_y f a) (track_y f b)
goes_up f N a b h = omega (arith, h)
goes_up f P a b h = omega (arith, h)

via_met : (p : Placement) (pins : Pins) (r : Routing) (xs : List ℕ) → IsRouted p pins r xs → (f : Frame) (nets : ℕ) (t : Trunk) (node : NodePlace) → Contains r.trunks t → Contains p.nodes node → t.net ≡ node.net → HoldsLine t node.line → IsMet (laid_out f nets pins p r.trunks xs) (bar_of f p.nodes r.trunks xs t) (x_of xs node.line)
via_met p pins r xs w f nets t node lt ln of line =
    let on : Between xs t node.line = between p pins r xs w t node.line lt line in
    let to : Reached f pins r.trunks xs node = reached p pins r w.wiring f xs node t lt of line in
    record {
      contact = contact_with xs node (Some (track_y f to.track));
      reach = track_y f to.track;
      listed = contains_filter_map (contact_of f pins r.trunks xs) p.nodes node (contact_with xs node (Some (track_y f to.track))) ln to.is;
      at = refl;
      net = sym of;
      signal = refl;
      goes = goes_up f node.row to.track t.track (to.far.most t lt of line);
      left = on.left;
      right = on.right;
    }

-- each via of a bar is under the metal2 of a contact
pub vias_met : (p : Placement) (pins : Pins) (r : Routing) (xs : List ℕ) → IsRouted p pins r xs → (f : Frame) (nets : ℕ) (b : Bar) (x : ℕ) → Contains (map (bar_of f p.nodes r.trunks xs) r.trunks) b → Contains b.vias x → IsMet (laid_out f nets pins p r.trunks xs) b x
vias_met p pins r xs w f nets b x there line =
    let i : Image (bar_of f p.nodes r.trunks xs) r.trunks b = in_map (bar_of f p.nodes r.trunks xs) r.trunks b there in
    subst (λ z. IsMet (laid_out f nets pins p r.trunks xs) z x) i.is (at i.of i.listed (subst (λ (z : Bar). Contains z.vias x) (sym i.is) line))
  where
    at : (t : Trunk) → Contains r.trunks t → Contains (vias_of p.nodes r.trunks xs t) x → IsMet (laid_out f nets pins p r.trunks xs) (bar_of f p.nodes r.trunks xs t) x
    at t lt c =
        let test : NodePlace → Bool = has_via p.nodes r.trunks t in
        let j : Image (λ (node : NodePlace). x_of xs node.line) (filter test p.nodes) x = in_map (λ (node : NodePlace). x_of xs node.line) (filter test p.nodes) x c in
        let k : IsKept test p.nodes j.of = in_filter test p.nodes j.of j.listed in
        let both = and_parts (holds j.of.net j.of.line t && has_own_via p.nodes j.of) (not (list_any (begins_before t j.of.line) r.trunks)) k.passes in
        let held = holds_it j.of.net j.of.line t (and_parts (holds j.of.net j.of.line t) (has_own_via p.nodes j.of) both.0).0 in
        subst (λ z. IsMet (laid_out f nets pins p r.trunks xs) (bar_of f p.nodes r.trunks xs t) z) j.is (via_met p pins r xs w f nets t j.of lt k.listed held.0 held.1)
