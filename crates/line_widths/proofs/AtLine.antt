-- What counts of one line: the trunks that begin and end there, and its contacts.
use Rattle.std.proofs.Common.{ℕ, ◌≡◌, ◌+◌, ◌<◌, ◌≤◌, ◌⊎◌, ◌++◌, ◌&&◌, ◌||◌, not, Bool, true, false, List, [], ◌∷◌, Option, Some, None, length, map, filter, inl, inr, refl, sym, ap, subst, arith, Contains, ◌∙◌, option_to_list}
use Rattle.std.proofs.lemmas.Bool.{and_parts, and_from, or_left, or_right, or_cases, not_from_false, not-true, false_from_ne_true}
use Rattle.std.proofs.lemmas.List.Elements.{All-contains, Contains-append_left, Contains-append_right}
use Rattle.cell_num.specs.declared.net.NetNo.{NetNo}
use Rattle.cell_num.specs.declared.net.Pins.{Pins}
use Rattle.cell_num.specs.declared.finger.Row.{Row}
use Rattle.cell_num.specs.declared.finger.Row.TheVariants.{P, N}
use Rattle.cell_num.specs.Pins.{is_rail}
use Rattle.cell_num.proofs.Lists.{contains_here}
use Rattle.cell_num.proofs.In.{Image, in_map, contains_map}
use Rattle.row_place.specs.declared.placement.NodePlace.{NodePlace}
use Rattle.row_place.specs.declared.placement.Placement.{Placement}
use Rattle.row_place.specs.Trunks.{IsContacted, IsSpan, lines_of}
use Rattle.channel_route.specs.declared.routing.Trunk.{Trunk}
use Rattle.row_compact.specs.Allowed.{HasContact}
use Rattle.track_ways.specs.declared.line.Line.{Line}
use Rattle.track_ways.specs.Lines.{has_place, is_ahead, is_held, is_net}
use Rattle.track_ways.specs.Channel.{AreLinesOf, AreTrunks, IsPlain, side}
use Rattle.track_ways.specs.Fillings.{is_net_some, keeps, kept, some_is_net}
use Rattle.track_ways.proofs.Places.{NodeAt, at_line, node_at, node_of_line, place_row, node_line}
use Rattle.track_ways.proofs.Holding.{Parts, Split, at_behind, holding, parts, rail_decides}
use Rattle.track_ways.proofs.Legal.{TrunkAt, holds_at, trunk_at}
use Rattle.line_widths.specs.Borders.{border_of, has_contact, nets_at}

-- the nets with a place at a line are listed
listed : (line : Line) (net : NetNo) → has_place line net ≡ true → Contains (nets_at line) net
listed line net e = by (place_row line net e)
  where
    one : (o : Option NetNo) → is_net o net ≡ true → Contains (option_to_list o) net
    one o f = subst (λ (q : Option NetNo). Contains (option_to_list q) net) (sym (some_is_net o net f)) (contains_here net [])

    by : (is_net line.p net ≡ true) ⊎ ((is_net line.n net ≡ true) ⊎ (is_net line.gate net ≡ true)) → Contains (nets_at line) net
    by (inl p) = Contains-append_left (option_to_list line.p) _ net (one line.p p)
    by (inr (inl n)) = Contains-append_right (option_to_list line.p) _ net (Contains-append_left (option_to_list line.n) _ net (one line.n n))
    by (inr (inr gate)) = Contains-append_right (option_to_list line.p) _ net (Contains-append_right (option_to_list line.n) _ net (one line.gate gate))

module _ (p : Placement) (pins : Pins) (track : NetNo → ℕ) (trunks : List Trunk) (are : AreTrunks p pins track trunks)
    (lines : List Line) (h : AreLinesOf p lines) (k : ℕ) (front : List Line) (line : Line) (rest : List Line)
    (s : Split lines k front line rest) (plain : IsPlain line) where
  abbrev held : NetNo → Bool
  held net = is_held pins (is_ahead front) line (is_ahead rest) net

  is_parts : (net : NetNo) → Parts p k front line rest net
  is_parts net = parts p lines h k front line rest s net

  span : (t : Trunk) → Contains trunks t → IsSpan p t.net t.left t.right
  span t there = All-contains (λ (t : Trunk). IsSpan p t.net t.left t.right) trunks t are.spans there

  -- a trunk that begins or ends at the line has a place there
  has : (net : NetNo) → Contains (lines_of p net) k → has_place line net ≡ true
  has net there = by ((is_parts net).each k there)
    where
      by : ((k < k) × (is_ahead front net ≡ true)) ⊎ (((k ≡ k) × (has_place line net ≡ true)) ⊎ ((k < k) × (is_ahead rest net ≡ true))) → has_place line net ≡ true
      by (inl a) = absurd (omega (arith, a.0))
      by (inr (inl b)) = b.1
      by (inr (inr c)) = absurd (omega (arith, c.0))

  -- a trunk with a place at the line, outside of a set of nets
  counted : (out : NetNo → Bool) (t : Trunk) → Contains trunks t → t.left ≤ k → k ≤ t.right → Contains (lines_of p t.net) k → out t.net ≡ false → Contains (map track (filter (λ net. held net && not (out net)) (nets_at line))) t.track
  counted out t there low high at none =
      subst (λ m. Contains (map track (filter (λ net. held net && not (out net)) (nets_at line))) m)
      (sym (All-contains (λ (t : Trunk). t.track ≡ track t.net) trunks t are.tracks there))
      (contains_map track (filter (λ net. held net && not (out net)) (nets_at line)) t.net
      (keeps (λ net. held net && not (out net)) (nets_at line) t.net (listed line t.net (has t.net at))
      (and_from (held t.net) (not (out t.net)) ((holding p pins lines h k front line rest s plain t.net).1 (holds_at p pins track trunks are t there k low high)) (not_from_false (out t.net) none))))

  -- and back
  pub record Counted (out : NetNo → Bool) (m : ℕ) : Type 0 where
    pub trunk : Trunk
    pub there : Contains trunks trunk
    pub track' : trunk.track ≡ m
    pub low : trunk.left ≤ k
    pub high : k ≤ trunk.right
    pub none : out trunk.net ≡ false

  counts : (out : NetNo → Bool) (m : ℕ) → Contains (map track (filter (λ net. held net && not (out net)) (nets_at line))) m → Counted out m
  counts out m at =
      let i : Image track (filter (λ net. held net && not (out net)) (nets_at line)) m = in_map track _ m at in
      let both : (held i.of ≡ true) × (not (out i.of) ≡ true) = and_parts (held i.of) (not (out i.of)) (kept (λ net. held net && not (out net)) (nets_at line) i.of i.listed).1 in
      let t : TrunkAt p pins trunks i.of k = trunk_at p pins track trunks are i.of k ((holding p pins lines h k front line rest s plain i.of).0 both.0) in
      record {
        trunk = t.trunk;
        there = t.there;
        track' = All-contains (λ (t : Trunk). t.track ≡ track t.net) trunks t.trunk are.tracks t.there ∙ ap track t.is ∙ i.is;
        low = t.begins;
        high = t.ends;
        none = ap out t.is ∙ not-true (out i.of) both.1;
      }

  -- ---- the trunks that end at the line

  pub ended_there : (t : Trunk) → Contains trunks t → t.right ≡ k → Contains (border_of pins track (is_ahead front) line (is_ahead rest)).ended t.track
  ended_there t there e = counted (is_ahead rest) t there low (omega (arith, e)) at none
    where
      sp : IsSpan p t.net t.left t.right
      sp = span t there

      low : t.left ≤ k
      low = let l : t.left ≤ t.right = All-contains (λ line. t.left ≤ line) (lines_of p t.net) t.right sp.none_before sp.ends in omega (arith, l, e)

      at : Contains (lines_of p t.net) k
      at = subst (λ n. Contains (lines_of p t.net) n) e sp.ends

      none : is_ahead rest t.net ≡ false
      none = false_from_ne_true (is_ahead rest t.net) (λ ahead.
          let late : (l : ℕ) × Contains (lines_of p t.net) l × (k < l) = (is_parts t.net).late ahead in
          let most : late.0 ≤ t.right = All-contains (λ line. line ≤ t.right) (lines_of p t.net) late.0 sp.none_behind late.1 in
          let less : k < late.0 = late.2 in
          omega (arith, most, less, e))

  pub record EndsAt (m : ℕ) : Type 0 where
    pub trunk : Trunk
    pub there : Contains trunks trunk
    pub track' : trunk.track ≡ m
    pub at : trunk.right ≡ k

  pub ended_from : (m : ℕ) → Contains (border_of pins track (is_ahead front) line (is_ahead rest)).ended m → EndsAt m
  ended_from m at = record { trunk = c.trunk; there = c.there; track' = c.track'; at = by ((is_parts c.trunk.net).each c.trunk.right (span c.trunk c.there).ends) }
    where
      c : Counted (is_ahead rest) m
      c = counts (is_ahead rest) m at

      by : ((c.trunk.right < k) × (is_ahead front c.trunk.net ≡ true)) ⊎ (((c.trunk.right ≡ k) × (has_place line c.trunk.net ≡ true)) ⊎ ((k < c.trunk.right) × (is_ahead rest c.trunk.net ≡ true))) → c.trunk.right ≡ k
      by (inl a) = absurd (omega (arith, a.0, c.high))
      by (inr (inl b)) = b.0
      by (inr (inr d)) = absurd (let f : is_ahead rest c.trunk.net ≡ false = c.none in let g : is_ahead rest c.trunk.net ≡ true = d.1 in cc)

  -- ---- those that begin there

  pub begun_there : (t : Trunk) → Contains trunks t → t.left ≡ k → Contains (border_of pins track (is_ahead front) line (is_ahead rest)).begun t.track
  begun_there t there e = counted (is_ahead front) t there (omega (arith, e)) high at none
    where
      sp : IsSpan p t.net t.left t.right
      sp = span t there

      high : k ≤ t.right
      high = let l : t.left ≤ t.right = All-contains (λ line. t.left ≤ line) (lines_of p t.net) t.right sp.none_before sp.ends in omega (arith, l, e)

      at : Contains (lines_of p t.net) k
      at = subst (λ n. Contains (lines_of p t.net) n) e sp.begins

      none : is_ahead front t.net ≡ false
      none = false_from_ne_true (is_ahead front t.net) (λ early.
          let l : (l : ℕ) × Contains (lines_of p t.net) l × (l < k) = (is_parts t.net).early early in
          let least : t.left ≤ l.0 = All-contains (λ line. t.left ≤ line) (lines_of p t.net) l.0 sp.none_before l.1 in
          let less : l.0 < k = l.2 in
          omega (arith, least, less, e))

  pub record BeginsAt (m : ℕ) : Type 0 where
    pub trunk : Trunk
    pub there : Contains trunks trunk
    pub track' : trunk.track ≡ m
    pub at : trunk.left ≡ k

  pub begun_from : (m : ℕ) → Contains (border_of pins track (is_ahead front) line (is_ahead rest)).begun m → BeginsAt m
  begun_from m at = record { trunk = c.trunk; there = c.there; track' = c.track'; at = by ((is_parts c.trunk.net).each c.trunk.left (span c.trunk c.there).begins) }
    where
      c : Counted (is_ahead front) m
      c = counts (is_ahead front) m at

      by : ((c.trunk.left < k) × (is_ahead front c.trunk.net ≡ true)) ⊎ (((c.trunk.left ≡ k) × (has_place line c.trunk.net ≡ true)) ⊎ ((k < c.trunk.left) × (is_ahead rest c.trunk.net ≡ true))) → c.trunk.left ≡ k
      by (inl a) = absurd (let f : is_ahead front c.trunk.net ≡ false = c.none in let g : is_ahead front c.trunk.net ≡ true = a.1 in cc)
      by (inr (inl b)) = b.0
      by (inr (inr d)) = absurd (omega (arith, d.0, c.low))

  -- ---- the contacts at the line

  side_there : (row : Row) (net : NetNo) → is_net (side row line) net ≡ true → at_line lines k (λ q. is_net (side row q) net) ≡ true
  side_there row net e = subst (λ ls. at_line ls k (λ q. is_net (side row q) net) ≡ true) (sym s.is)
      (subst (λ m. at_line (front ++ line ∷ rest) m (λ q. is_net (side row q) net) ≡ true)
      (let z : length front + 0 ≡ k = omega (arith, s.count) in z)
      (sym (at_behind front (line ∷ rest) 0 (λ q. is_net (side row q) net)) ∙ e))

  side_from : (row : Row) (net : NetNo) → at_line lines k (λ q. is_net (side row q) net) ≡ true → is_net (side row line) net ≡ true
  side_from row net e = at_behind front (line ∷ rest) 0 (λ q. is_net (side row q) net) ∙ subst
      (λ m. at_line (front ++ line ∷ rest) m (λ q. is_net (side row q) net) ≡ true)
      (let z : k ≡ length front + 0 = omega (arith, s.count) in z)
      (subst (λ ls. at_line ls k (λ q. is_net (side row q) net) ≡ true) s.is e)

  in_row : (row : Row) (net : NetNo) → side row line ≡ Some net → (is_rail pins net || held net) ≡ true → HasContact p pins k
  in_row row net e c = record { node = record { row = row; line = k; net = net }; there = there; at = refl; contacted = by (or_cases (is_rail pins net) (held net) c) }
    where
      there : Contains p.nodes (record { row = row; line = k; net = net })
      there = node_of_line p lines h k row net (side_there row net (is_net_some (side row line) net e))

      by : (is_rail pins net ≡ true) ⊎ (held net ≡ true) → IsContacted p pins (record { row = row; line = k; net = net })
      by (inl r) = inl ((rail_decides pins net).0 r)
      by (inr t) = inr ((holding p pins lines h k front line rest s plain net).0 t).trunk

  of_side : (row : Row) (o : Option NetNo) → side row line ≡ o → has_contact pins (is_ahead front) line (is_ahead rest) o ≡ true → HasContact p pins k
  of_side row None e c = absurd cc
  of_side row (Some net) e c = in_row row net e c

  pub contact_from : (border_of pins track (is_ahead front) line (is_ahead rest)).contact ≡ true → HasContact p pins k
  contact_from c = elim (or_cases (has_contact pins (is_ahead front) line (is_ahead rest) line.p) (has_contact pins (is_ahead front) line (is_ahead rest) line.n) c) [
    | inl top ↦ of_side P line.p refl top
    | inr bottom ↦ of_side N line.n refl bottom
  ]

  contact_in : (node : NodePlace) → Contains p.nodes node → node.line ≡ k → IsContacted p pins node → has_contact pins (is_ahead front) line (is_ahead rest) (side node.row line) ≡ true
  contact_in node there at c = subst (λ (o : Option NetNo). has_contact pins (is_ahead front) line (is_ahead rest) o ≡ true) (sym (some_is_net (side node.row line) node.net here)) (by c)
    where
      n : NodeAt 0 lines node
      n = node_at 0 lines node (subst (λ ns. Contains ns node) h.nodes there)

      here : is_net (side node.row line) node.net ≡ true
      here = side_from node.row node.net (subst (λ m. at_line lines m (λ q. is_net (side node.row q) node.net) ≡ true) (let z : n.at ≡ k = omega (arith, n.line, at) in z) n.there)

      place' : Contains (lines_of p node.net) k
      place' = node_line p node.row k node.net (subst (λ m. Contains p.nodes (record { row = node.row; line = m; net = node.net })) at there)

      by : IsContacted p pins node → (is_rail pins node.net || held node.net) ≡ true
      by (inl r) = or_left _ _ ((rail_decides pins node.net).1 r)
      by (inr t) = or_right (is_rail pins node.net) _ ((holding p pins lines h k front line rest s plain node.net).1 (record { trunk = t; first = (k, place', omega arith); last = (k, place', omega arith) }))

  pub contact_there : HasContact p pins k → (border_of pins track (is_ahead front) line (is_ahead rest)).contact ≡ true
  contact_there c = by c.node.row (contact_in c.node c.there c.at c.contacted)
    where
      by : (row : Row) → has_contact pins (is_ahead front) line (is_ahead rest) (side row line) ≡ true → (has_contact pins (is_ahead front) line (is_ahead rest) line.p || has_contact pins (is_ahead front) line (is_ahead rest) line.n) ≡ true
      by P e = or_left _ _ e
      by N e = or_right (has_contact pins (is_ahead front) line (is_ahead rest) line.p) _ e
