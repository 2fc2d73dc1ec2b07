-- Where no net stands above another, the tracks are as many as spans of nets hold one line.
use Rattle.std.proofs.Common.{ℕ, zero, suc, ◌≡◌, ◌≢◌, ◌<◌, ◌≤◌, ◌==◌, ◌&&◌, leb, cond, Bool, true, false, List, Option, Some, None, inl, inr, refl, sym, ap, subst, arith, Contains, count_by, find}
use Rattle.std.proofs.lemmas.Bool.{cases_Bool, cases_eq, cases_lt, and_parts, and_from, eqb-true, eq-eqb, leb-true, le-leb, lt-ltb}
use Rattle.std.proofs.lemmas.List.Elements.{All-contains}
use Rattle.cell_num.specs.declared.net.NetNo.{NetNo}
use Rattle.cell_num.specs.declared.net.Pins.{Pins}
use Rattle.cell_num.proofs.In.{Image}
use Rattle.cell_num.proofs.Pairs.{Some', some_from_any, any_at, OneEach}
use Rattle.row_model.proofs.Decide.{net_decides}
use Rattle.row_place.specs.declared.placement.Placement.{Placement}
use Rattle.row_place.specs.Places.{IsPlacement}
use Rattle.row_place.specs.Trunks.{lines_of, HasTrunk, IsSpan}
use Rattle.channel_route.specs.declared.routing.Trunk.{Trunk}
use Rattle.channel_route.specs.declared.routing.Routing.{Routing}
use Rattle.channel_route.specs.declared.wire.Wire.{Wire}
use Rattle.channel_route.specs.declared.wire.PlacedWire.{PlacedWire}
use Rattle.channel_route.specs.Graph.{trunk_of, IsBefore, IsBlocked}
use Rattle.channel_route.specs.Routing.{AreApart, IsLegal, HasNoAbove, holds_line, IsDensity}
use Rattle.channel_route.specs.Wires.{constraints_of}
use Rattle.channel_route.proofs.ConstraintsOf.{IsPairOver, pair_is}
use Rattle.channel_route.proofs.Counts.{below, on, count_le, count_one, count_within, few_below, many_below}
use Rattle.channel_route.proofs.LegalWiring.{span_of}
use Rattle.channel_route.proofs.OneRouting.{either}
use Rattle.dogleg_route.specs.declared.piece.PieceRouting.{PieceRouting}
use Rattle.dogleg_route.specs.Pieces.{HasNode, IsPiece}
use Rattle.dogleg_route.specs.Routings.{GoesOver, StandsEarlier, ArePiecesLegal}
use Rattle.dogleg_route.proofs.Finds.{Found, found_there, none_found}
use Rattle.dogleg_route.proofs.Holding.{HeldBy, piece_over}
use Rattle.dogleg_route.proofs.Marks.{IsStacked, mark_place, ascends, node_between}
use Rattle.dogleg_route.proofs.Sorting.{one_each_from_pairs}
use Rattle.dogleg_route.proofs.PieceChannel.{IsWireAbove, pair_above}
use Rattle.dogleg_route.proofs.PieceLegal.{IsDone, routing_of, legal, to_sorted, from_sorted}
use Rattle.dogleg_route.proofs.Wired.{is_piece, listed, one_net}
use Rattle.dogleg_route.proofs.NodeLines.{two_nodes, node_or_gate}

-- ---- the pieces over a line
line_from : (line : ℕ) (t : Trunk) → t.left ≤ line → line ≤ t.right → holds_line line t ≡ true
line_from line t low high = and_from _ _ (le-leb t.left line low) (le-leb line t.right high)

line_low : (line : ℕ) (t : Trunk) → holds_line line t ≡ true → t.left ≤ line
line_low line t c = let parts : (leb t.left line ≡ true) × (leb line t.right ≡ true) = and_parts _ _ c in leb-true t.left line parts.0

line_high : (line : ℕ) (t : Trunk) → holds_line line t ≡ true → line ≤ t.right
line_high line t c = let parts : (leb t.left line ≡ true) × (leb line t.right ≡ true) = and_parts _ _ c in leb-true line t.right parts.1

not_apart : (line : ℕ) (a b : Trunk) → holds_line line a ≡ true → holds_line line b ≡ true → AreApart a b → ⊥
not_apart line a b ca cb (inl e) = omega (arith, e, line_high line a ca, line_low line b cb)
not_apart line a b ca cb (inr e) = omega (arith, e, line_high line b cb, line_low line a ca)

-- a piece of the net that holds the line
abbrev holds : NetNo → ℕ → Trunk → Bool
holds net line u = (u.net.0 == net.0) && holds_line line u

abbrev track_in : Option Trunk → ℕ
track_in None = 0
track_in (Some u) = u.track

-- the track of the first of them
abbrev level : List Trunk → ℕ → Trunk → ℕ
level pieces line t = track_in (find (holds t.net line) pieces)

record IsOver (pieces : List Trunk) (net : NetNo) (line track : ℕ) : Type 0 where
  piece : Trunk
  there : Contains pieces piece
  of : piece.net ≡ net
  over : holds_line line piece ≡ true
  on_track : piece.track ≡ track

level_is : (p : Placement) (pins : Pins) (r : PieceRouting) → ArePiecesLegal p pins r → (q : Routing) → IsLegal p pins q → (line : ℕ) (t : Trunk) → Contains q.trunks t → holds_line line t ≡ true → IsOver r.pieces t.net line (level r.pieces line t)
level_is p pins r l q legal' line t there c = by (find (holds t.net line) r.pieces) refl
  where
    trunk : HasTrunk p pins t.net
    trunk = (legal'.nets t.net).1 (any_at (λ (z : Trunk). z.net ≡ t.net) q.trunks t there refl)

    h : HeldBy p pins t.net line
    h = piece_over p pins t.net t.left t.right line trunk (span_of p pins q legal' t there) (line_low line t c) (line_high line t c)

    s : Some' (GoesOver t.net h.left h.right) r.pieces
    s = listed p pins r l t.net h.left h.right h.piece

    it_holds : holds t.net line s.it ≡ true
    it_holds = and_from _ _ ((net_decides s.it.net t.net).1 s.holds.of) (line_from line s.it (omega (arith, h.begins, s.holds.begins)) (omega (arith, h.ends, s.holds.ends)))

    by : (o : Option Trunk) → find (holds t.net line) r.pieces ≡ o → IsOver r.pieces t.net line (level r.pieces line t)
    by None none = absurd (none_found (holds t.net line) r.pieces s.it none s.there it_holds)
    by (Some u) found =
        let k : Found (holds t.net line) r.pieces u = found_there (holds t.net line) r.pieces u found in
        let parts : ((u.net.0 == t.net.0) ≡ true) × (holds_line line u ≡ true) = and_parts _ _ k.passes in
        record { piece = u; there = k.there; of = (net_decides u.net t.net).0 parts.0; over = parts.1; on_track = let e : track_in (find (holds t.net line) r.pieces) ≡ track_in (Some u) = ap track_in found in sym e }

one_each_net : (p : Placement) (pins : Pins) (q : Routing) → IsLegal p pins q → OneEach (λ (t : Trunk). t.net.0) q.trunks
one_each_net p pins q legal' = one_each_from_pairs (λ (t : Trunk). t.net.0) q.trunks (λ i j d less short e. omega (arith, legal'.order i j d less short, e))

-- spans of two nets on one level are of one net
one_level : (p : Placement) (pins : Pins) (r : PieceRouting) → ArePiecesLegal p pins r → (q : Routing) → IsLegal p pins q → (line track : ℕ) (a b : Trunk) → Contains q.trunks a → Contains q.trunks b → on (holds_line line) (level r.pieces line) track a ≡ true → on (holds_line line) (level r.pieces line) track b ≡ true → a.net.0 ≡ b.net.0
one_level p pins r l q legal' line track a b ha hb pa pb =
    elim (cases_eq a.net.0 b.net.0) [
      | inl same ↦ same
      | inr other ↦ absurd (not_apart line x.piece y.piece x.over y.over (l.apart x.piece y.piece x.there y.there (λ e. other (omega (arith, ap (λ (n : NetNo). n.0) e, ap (λ (n : NetNo). n.0) x.of, ap (λ (n : NetNo). n.0) y.of))) (omega (arith, x.on_track, y.on_track, eqb-true (level r.pieces line a) track qa.1, eqb-true (level r.pieces line b) track qb.1))))
    ]
  where
    qa : (holds_line line a ≡ true) × ((level r.pieces line a == track) ≡ true)
    qa = and_parts _ _ pa

    qb : (holds_line line b ≡ true) × ((level r.pieces line b == track) ≡ true)
    qb = and_parts _ _ pb

    x : IsOver r.pieces a.net line (level r.pieces line a)
    x = level_is p pins r l q legal' line a ha qa.0

    y : IsOver r.pieces b.net line (level r.pieces line b)
    y = level_is p pins r l q legal' line b hb qb.0

-- no line has more spans than tracks
at_most : (p : Placement) (pins : Pins) (r : PieceRouting) → ArePiecesLegal p pins r → (q : Routing) → IsLegal p pins q → (line : ℕ) → count_by (holds_line line) q.trunks ≤ r.tracks
at_most p pins r l q legal' line =
    omega (arith, few_below (holds_line line) (level r.pieces line) q.trunks (λ n. count_one (λ (t : Trunk). t.net.0) (on (holds_line line) (level r.pieces line) n) q.trunks (one_each_net p pins q legal') (λ a b ha hb pa pb. one_level p pins r l q legal' line n a b ha hb pa pb)) r.tracks, count_within (holds_line line) (below (holds_line line) (level r.pieces line) r.tracks) q.trunks all_below)
  where
    low : (t : Trunk) → IsOver r.pieces t.net line (level r.pieces line t) → level r.pieces line t < r.tracks
    low t k = let e : k.piece.track < r.tracks = All-contains (λ (u : Trunk). u.track < r.tracks) r.pieces k.piece l.tracks k.there in omega (arith, e, k.on_track)

    all_below : (t : Trunk) → Contains q.trunks t → holds_line line t ≡ true → below (holds_line line) (level r.pieces line) r.tracks t ≡ true
    all_below t there e = and_from _ _ e (lt-ltb (level r.pieces line t) r.tracks (low t (level_is p pins r l q legal' line t there e)))

-- ---- at the first line of a piece on the highest track
-- With nothing above anything another net has one piece at a line where a piece begins.
one_over : (p : Placement) (pins : Pins) (r : PieceRouting) → IsPlacement p → HasNoAbove p pins → ArePiecesLegal p pins r → (t a b : Trunk) → Contains r.pieces t → Contains r.pieces a → Contains r.pieces b → a.net ≢ t.net → a.net ≡ b.net → holds_line t.left a ≡ true → holds_line t.left b ≡ true → a ≡ b
one_over p pins r is none l t a b ht ha hb other same ca cb =
    elim (either StandsEarlier r.pieces a b l.order ha hb) [
      | inl one ↦ one
      | inr order ↦ absurd (elim order [ inl before ↦ twice a b ha hb other same ca cb before | inr behind ↦ twice b a hb ha (λ e. other (let f : a.net ≡ b.net = same in let g : b.net ≡ t.net = e in cc)) (sym same) cb ca behind ])
    ]
  where
    pt : IsPiece p pins t.net t.left t.right
    pt = is_piece p pins r l t ht

    twice : (x y : Trunk) → Contains r.pieces x → Contains r.pieces y → x.net ≢ t.net → x.net ≡ y.net → holds_line t.left x ≡ true → holds_line t.left y ≡ true → StandsEarlier x y → ⊥
    twice x y hx hy differ one cx cy (inl less) = omega (arith, less, ap (λ (n : NetNo). n.0) one)
    twice x y hx hy differ one cx cy (inr (_, less)) =
        let s : IsStacked x.right y.left y.right = one_net p pins r l x y hx hy one less in
        let px : IsPiece p pins x.net x.left x.right = is_piece p pins r l x hx in
        let py : IsPiece p pins x.net y.left y.right = subst (λ n. IsPiece p pins n y.left y.right) (sym one) (is_piece p pins r l y hy) in
        let here : y.left ≡ t.left = omega (arith, s.ends, line_high t.left x cx, line_low t.left y cy) in
        let node : HasNode p x.net t.left = subst (λ k. HasNode p x.net k) here (node_between p x.net x.left y.left y.right py.begins (mark_place p x.net x.left px.begins) (mark_place p x.net y.right py.ends) less s.rises) in
        elim (node_or_gate p is t.net t.left (mark_place p t.net t.left pt.begins)) [
          | inl mine ↦ two_nodes p pins is none x.net t.net t.left px.trunk pt.trunk differ node mine
          | inr never ↦ never x.net node
        ]

-- the level of a span at that line, where the piece that begins has its own
abbrev level_at : List Trunk → Trunk → Trunk → ℕ
level_at pieces top t = cond (t.net.0 == top.net.0) top.track (level pieces top.left t)

span_over : (p : Placement) (pins : Pins) (q : Routing) → IsLegal p pins q → (net : NetNo) (l r line : ℕ) → IsPiece p pins net l r → l ≤ line → line ≤ r → Some' (λ (t : Trunk). (t.net ≡ net) × (holds_line line t ≡ true)) q.trunks
span_over p pins q legal' net l r line piece low high =
    let t : Some' (λ (t : Trunk). t.net ≡ net) q.trunks = some_from_any (λ (t : Trunk). t.net ≡ net) q.trunks ((legal'.nets net).0 piece.trunk) in
    let span : IsSpan p net t.it.left t.it.right = subst (λ n. IsSpan p n t.it.left t.it.right) t.holds (span_of p pins q legal' t.it t.there) in
    let first : t.it.left ≤ l = All-contains (λ z. t.it.left ≤ z) (lines_of p net) l span.none_before (mark_place p net l piece.begins) in
    let last : r ≤ t.it.right = All-contains (λ z. z ≤ t.it.right) (lines_of p net) r span.none_behind (mark_place p net r piece.ends) in
    record { it = t.it; there = t.there; holds = (t.holds, line_from line t.it (omega (arith, first, low)) (omega (arith, last, high))) }

enough : (p : Placement) (pins : Pins) (r : PieceRouting) → IsPlacement p → HasNoAbove p pins → ArePiecesLegal p pins r → (q : Routing) → IsLegal p pins q → (top : Trunk) → Contains r.pieces top → ((i : ℕ) → i < top.track → Some' (λ (o : Trunk). (o.net ≢ top.net) × (o.track ≡ i) × (holds_line top.left o ≡ true)) r.pieces) → suc top.track ≤ count_by (holds_line top.left) q.trunks
enough p pins r is none l q legal' top ht blocked =
    omega (arith, many_below (holds_line top.left) (level_at r.pieces top) q.trunks (suc top.track) each, count_le (holds_line top.left) (below (holds_line top.left) (level_at r.pieces top) (suc top.track)) q.trunks (λ x e. (and_parts _ _ e).0))
  where
    piece : IsPiece p pins top.net top.left top.right
    piece = is_piece p pins r l top ht

    own : (t : Trunk) → t.net ≡ top.net → level_at r.pieces top t ≡ top.track
    own t e = rw (eq-eqb t.net.0 top.net.0 (ap (λ (n : NetNo). n.0) e)) refl

    not_same : (t : Trunk) → t.net ≢ top.net → (t.net.0 == top.net.0) ≡ false
    not_same t e = elim (cases_Bool (t.net.0 == top.net.0)) [ inl same ↦ absurd (e ((net_decides t.net top.net).0 same)) | inr no' ↦ no' ]

    others : (t : Trunk) → t.net ≢ top.net → level_at r.pieces top t ≡ level r.pieces top.left t
    others t e = rw (not_same t e) refl

    on_top : Some' (λ (t : Trunk). (t.net ≡ top.net) × (holds_line top.left t ≡ true)) q.trunks → Some' (λ (t : Trunk). on (holds_line top.left) (level_at r.pieces top) top.track t ≡ true) q.trunks
    on_top t = record { it = t.it; there = t.there; holds = and_from _ _ t.holds.1 (eq-eqb (level_at r.pieces top t.it) top.track (own t.it t.holds.0)) }

    on_other : (i : ℕ) (o : Some' (λ (o : Trunk). (o.net ≢ top.net) × (o.track ≡ i) × (holds_line top.left o ≡ true)) r.pieces) → Some' (λ (t : Trunk). (t.net ≡ o.it.net) × (holds_line top.left t ≡ true)) q.trunks → Some' (λ (t : Trunk). on (holds_line top.left) (level_at r.pieces top) i t ≡ true) q.trunks
    on_other i o t =
        let k : IsOver r.pieces t.it.net top.left (level r.pieces top.left t.it) = level_is p pins r l q legal' top.left t.it t.there t.holds.1 in
        let differ : t.it.net ≢ top.net = λ e. o.holds.0 (let f : t.it.net ≡ o.it.net = t.holds.0 in let g : t.it.net ≡ top.net = e in cc) in
        let same : o.it.net ≡ k.piece.net = (let f : t.it.net ≡ o.it.net = t.holds.0 in let g : k.piece.net ≡ t.it.net = k.of in cc) in
        let one : o.it ≡ k.piece = one_over p pins r is none l top o.it k.piece ht o.there k.there o.holds.0 same o.holds.2 k.over in
        let at : level_at r.pieces top t.it ≡ i = omega (arith, others t.it differ, k.on_track, ap (λ (z : Trunk). z.track) one, o.holds.1) in
        record { it = t.it; there = t.there; holds = and_from _ _ t.holds.1 (eq-eqb (level_at r.pieces top t.it) i at) }

    each : (i : ℕ) → i < suc top.track → Some' (λ (t : Trunk). on (holds_line top.left) (level_at r.pieces top) i t ≡ true) q.trunks
    each i less =
        elim (cases_lt i top.track) [
          | inl lower ↦
              let o : Some' (λ (o : Trunk). (o.net ≢ top.net) × (o.track ≡ i) × (holds_line top.left o ≡ true)) r.pieces = blocked i lower in
              on_other i o (span_over p pins q legal' o.it.net o.it.left o.it.right top.left (is_piece p pins r l o.it o.there) (line_low top.left o.it o.holds.2) (line_high top.left o.it o.holds.2))
          | inr most ↦
              let here : top.track ≡ i = omega (arith, less, most) in
              subst (λ k. Some' (λ (t : Trunk). on (holds_line top.left) (level_at r.pieces top) k t ≡ true) q.trunks) here (on_top (span_over p pins q legal' top.net top.left top.right top.left piece (omega arith) (ascends p pins top.net top.left top.right piece)))
        ]

-- below a piece each track has one of another net in its way
blocked_at : (p : Placement) (pins : Pins) (wires : List Wire) (placed : List PlacedWire) (pieces : List Trunk) (tracks : ℕ) → IsDone p pins wires placed pieces tracks → HasNoAbove p pins → (t : PlacedWire) → Contains placed t → (i : ℕ) → i < t.track → Some' (λ (o : Trunk). (o.net ≢ t.wire.net) × (o.track ≡ i) × (holds_line t.wire.left o ≡ true)) pieces
blocked_at p pins wires placed pieces tracks d none t there i less = by (d.filled.part.tight t there i less)
  where
    starts : (o : PlacedWire) → IsBefore o.wire t.wire → o.wire.left ≤ t.wire.left
    starts o (inl e) = omega (arith, e)
    starts o (inr (e, _)) = omega (arith, e)

    by : IsBlocked (constraints_of wires p.nodes) placed t.wire i → Some' (λ (o : Trunk). (o.net ≢ t.wire.net) × (o.track ≡ i) × (holds_line t.wire.left o ≡ true)) pieces
    by (inr h) =
        let pair : IsPairOver wires p.nodes h.constraint = pair_is wires p.nodes h.constraint h.there in
        let w : IsWireAbove p pins pair.upper pair.lower h.constraint.line = pair_above p pins wires d.wired h.constraint pair in
        absurd (none pair.upper.net pair.lower.net h.constraint.line w.over)
    by (inl c) = record {
      it = trunk_of c.one;
      there = to_sorted p pins wires placed pieces tracks d c.one c.there;
      holds = (c.other, c.on, line_from t.wire.left (trunk_of c.one) (starts c.one c.before) c.reaches);
    }

pub density : (p : Placement) (pins : Pins) (wires : List Wire) (placed : List PlacedWire) (pieces : List Trunk) (tracks : ℕ) → IsDone p pins wires placed pieces tracks → HasNoAbove p pins → (q : Routing) → IsLegal p pins q → IsDensity q.trunks tracks
density p pins wires placed pieces zero d none q legal' =
    let l : ArePiecesLegal p pins (routing_of pieces 0) = legal p pins wires placed pieces 0 d in
    record { most = at_most p pins (routing_of pieces 0) l q legal'; line = 0; there = omega (arith, at_most p pins (routing_of pieces 0) l q legal' 0) }
density p pins wires placed pieces (suc k) d none q legal' =
    record { most = most; line = top.it.left; there = omega (arith, most top.it.left, top.holds, enough p pins (routing_of pieces (suc k)) d.is none l q legal' top.it top.there (λ i less. blocked i (from_sorted p pins wires placed pieces (suc k) d top.it top.there) less)) }
  where
    l : ArePiecesLegal p pins (routing_of pieces (suc k))
    l = legal p pins wires placed pieces (suc k) d

    most : (line : ℕ) → count_by (holds_line line) q.trunks ≤ suc k
    most = at_most p pins (routing_of pieces (suc k)) l q legal'

    top : Some' (λ (t : Trunk). t.track ≡ k) pieces
    top = some_from_any (λ (t : Trunk). t.track ≡ k) pieces (l.full k (omega arith))

    blocked : (i : ℕ) → Image trunk_of placed top.it → i < top.it.track → Some' (λ (o : Trunk). (o.net ≢ top.it.net) × (o.track ≡ i) × (holds_line top.it.left o ≡ true)) pieces
    blocked i of less = subst (λ (z : Trunk). Some' (λ (o : Trunk). (o.net ≢ z.net) × (o.track ≡ i) × (holds_line z.left o ≡ true)) pieces) of.is (blocked_at p pins wires placed pieces (suc k) d none of.of of.listed i (subst (λ (z : Trunk). i < z.track) (sym of.is) less))
