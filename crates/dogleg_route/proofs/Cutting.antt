-- The cuts of a wire are the pieces of its net.
use Rattle.std.proofs.Common.{ℕ, ◌≡◌, ◌<◌, ◌≤◌, ◌⊎◌, ◌==◌, ◌||◌, ltb, Bool, true, false, cond, List, [], ◌∷◌, inl, inr, refl, sym, ap, subst, arith, All, AllPairs, Contains}
use Rattle.std.proofs.lemmas.Bool.{cases_Bool, cases_lt, and_parts, and_from, ltb-true, lt-ltb, eqb-true, eq-eqb}
use Rattle.std.proofs.lemmas.List.Elements.{All-nil, All-cons, All-contains}
use Rattle.std.proofs.lemmas.List.Kept.{AllPairs-cons}
use Rattle.cell_num.specs.declared.net.Pins.{Pins}
use Rattle.cell_num.proofs.Lists.{contains_none, contains_cons, contains_here, contains_there, all_imply, all_one}
use Rattle.cell_num.proofs.Pairs.{pairs_none, pairs_one, pairs_tail, pairs_head}
use Rattle.row_model.proofs.Decide.{net_decides}
use Rattle.row_place.specs.declared.placement.NodePlace.{NodePlace}
use Rattle.row_place.specs.declared.placement.Placement.{Placement}
use Rattle.row_place.specs.Places.{StandsBefore, IsPlacement}
use Rattle.row_place.specs.Trunks.{lines_of, IsSpan}
use Rattle.channel_route.specs.declared.wire.Wire.{Wire}
use Rattle.channel_route.specs.Wires.{IsWire}
use Rattle.dogleg_route.specs.declared.cut.Stretch.{Stretch}
use Rattle.dogleg_route.specs.Cuts.{stretch, cuts_at, is_left, cuts_from}
use Rattle.dogleg_route.specs.Pieces.{HasNode, IsMark, IsRange, IsPiece}
use Rattle.dogleg_route.proofs.Marks.{IsStacked, node_place, mark_place, one_line, stacked, one_right}

-- A wire is cut up to a mark: what its net has behind the mark stands ahead, in order.
pub record AtCut (p : Placement) (pins : Pins) (w : Wire) (from : ℕ) (nodes : List NodePlace) : Type 0 where
  pub wire : IsWire p pins w
  pub mark : IsMark p w.net from
  pub inside : (node : NodePlace) → Contains nodes node → Contains p.nodes node
  pub ahead : (node : NodePlace) → Contains p.nodes node → node.net ≡ w.net → from < node.line → Contains nodes node
  pub order : AllPairs StandsBefore nodes

-- a line of the net of a wire lies between its ends
pub above_left : (p : Placement) (pins : Pins) (w : Wire) (line : ℕ) → IsWire p pins w → Contains (lines_of p w.net) line → w.left ≤ line
above_left p pins w line is there = All-contains (λ z. w.left ≤ z) (lines_of p w.net) line is.span.none_before there

pub below_right : (p : Placement) (pins : Pins) (w : Wire) (line : ℕ) → IsWire p pins w → Contains (lines_of p w.net) line → line ≤ w.right
below_right p pins w line is there = All-contains (λ z. z ≤ w.right) (lines_of p w.net) line is.span.none_behind there

last_mark : (p : Placement) (pins : Pins) (w : Wire) → IsWire p pins w → IsMark p w.net w.right
last_mark p pins w is = inr (inl (record { place = is.span.ends; none_behind = is.span.none_behind }))

cut_parts : (w : Wire) (from : ℕ) (x : NodePlace) → cuts_at w from x ≡ true → (x.net ≡ w.net) × (from < x.line)
cut_parts w from x e = let parts : ((x.net.0 == w.net.0) ≡ true) × (ltb from x.line ≡ true) = and_parts _ _ e in ((net_decides x.net w.net).0 parts.0, ltb-true from x.line parts.1)

cut_from : (w : Wire) (from : ℕ) (x : NodePlace) → x.net ≡ w.net → from < x.line → cuts_at w from x ≡ true
cut_from w from x of far = and_from _ _ ((net_decides x.net w.net).1 of) (lt-ltb from x.line far)

-- a place that cuts nothing is passed
passed : (p : Placement) (pins : Pins) (w : Wire) (from : ℕ) (x : NodePlace) (xs : List NodePlace) → AtCut p pins w from (x ∷ xs) → cuts_at w from x ≡ false → AtCut p pins w from xs
passed p pins w from x xs h e = record {
  wire = h.wire;
  mark = h.mark;
  inside = λ node there. h.inside node (contains_there x xs node there);
  ahead = λ node there of far. elim (contains_cons x xs node (h.ahead node there of far)) [
    | inl same ↦ absurd (let wrong : cuts_at w from x ≡ true = subst (λ z. cuts_at w from z ≡ true) (sym same) (cut_from w from node of far) in cc)
    | inr rest ↦ rest
  ];
  order = pairs_tail StandsBefore x xs h.order;
}

cut_mark : (p : Placement) (pins : Pins) (w : Wire) (from : ℕ) (x : NodePlace) (xs : List NodePlace) → AtCut p pins w from (x ∷ xs) → x.net ≡ w.net → HasNode p w.net x.line
cut_mark p pins w from x xs h of = record { node = x; there = h.inside x (contains_here x xs); of = of; at = refl }

-- behind a place that cuts
cut_at : (p : Placement) (pins : Pins) (w : Wire) (from : ℕ) (x : NodePlace) (xs : List NodePlace) → AtCut p pins w from (x ∷ xs) → x.net ≡ w.net → from < x.line → AtCut p pins w x.line xs
cut_at p pins w from x xs h of far = record {
  wire = h.wire;
  mark = inr (inr (cut_mark p pins w from x xs h of));
  inside = λ node there. h.inside node (contains_there x xs node there);
  ahead = λ node there of' beyond. elim (contains_cons x xs node (h.ahead node there of' (omega (arith, far, beyond)))) [
    | inl same ↦ absurd (let e : x.line ≡ node.line = ap (λ (z : NodePlace). z.line) same in omega (arith, e, beyond))
    | inr rest ↦ rest
  ];
  order = pairs_tail StandsBefore x xs h.order;
}

cut_piece : (p : Placement) (pins : Pins) (w : Wire) (from : ℕ) (x : NodePlace) (xs : List NodePlace) → AtCut p pins w from (x ∷ xs) → x.net ≡ w.net → from < x.line → IsPiece p pins w.net from x.line
cut_piece p pins w from x xs h of far = record { trunk = h.wire.trunk; begins = h.mark; ends = inr (inr (cut_mark p pins w from x xs h of)); range = inl far; none_between = none }
  where
    later : (node : NodePlace) → StandsBefore x node → x.line ≤ node.line
    later node (inl less) = omega (arith, less)
    later node (inr (same, _, _)) = omega (arith, same)

    none : (line : ℕ) → IsMark p w.net line → from < line → line < x.line → ⊥
    none line (inl first) low high = omega (arith, low, All-contains (λ z. line ≤ z) (lines_of p w.net) from first.none_before (mark_place p w.net from h.mark))
    none line (inr (inl last)) low high = omega (arith, high, All-contains (λ z. z ≤ line) (lines_of p w.net) x.line last.none_behind (node_place p w.net x.line (cut_mark p pins w from x xs h of)))
    none line (inr (inr n)) low high =
        let beyond : from < n.node.line = omega (arith, low, n.at) in
        elim (contains_cons x xs n.node (h.ahead n.node n.there n.of beyond)) [
          | inl same ↦ omega (arith, high, n.at, ap (λ (z : NodePlace). z.line) same)
          | inr rest ↦ omega (arith, high, n.at, later n.node (All-contains (StandsBefore x) xs n.node (pairs_head StandsBefore x xs h.order) rest))
        ]

last_piece : (p : Placement) (pins : Pins) (w : Wire) (from : ℕ) → AtCut p pins w from [] → IsRange p w.net from w.right → IsPiece p pins w.net from w.right
last_piece p pins w from h range = record { trunk = h.wire.trunk; begins = h.mark; ends = last_mark p pins w h.wire; range = range; none_between = none }
  where
    none : (line : ℕ) → IsMark p w.net line → from < line → line < w.right → ⊥
    none line (inl first) low high = omega (arith, low, All-contains (λ z. line ≤ z) (lines_of p w.net) from first.none_before (mark_place p w.net from h.mark))
    none line (inr (inl last)) low high = omega (arith, high, All-contains (λ z. z ≤ line) (lines_of p w.net) w.right last.none_behind h.wire.span.ends)
    none line (inr (inr n)) low high = let beyond : from < n.node.line = omega (arith, low, n.at) in contains_none n.node (h.ahead n.node n.there n.of beyond)

-- a wire over one line
single : (p : Placement) (pins : Pins) (w : Wire) (line : ℕ) → IsWire p pins w → w.left ≡ w.right → Contains (lines_of p w.net) line → line ≡ w.right
single p pins w line is same there = omega (arith, same, above_left p pins w line is there, below_right p pins w line is there)

range_of : (p : Placement) (pins : Pins) (w : Wire) (from : ℕ) → AtCut p pins w from [] → is_left w from ≡ true → IsRange p w.net from w.right
range_of p pins w from h e = elim (cases_Bool (ltb from w.right)) [
  | inl less ↦ inl (ltb-true from w.right less)
  | inr most ↦ only (eqb-true w.left w.right (second most))
]
  where
    second : ltb from w.right ≡ false → (w.left == w.right) ≡ true
    second f = grind (arith, e, f)

    only : w.left ≡ w.right → IsRange p w.net from w.right
    only same =
        let here : from ≡ w.right = single p pins w from h.wire same (mark_place p w.net from h.mark) in
        inr (here, subst (λ z. IsSpan p w.net z w.right) (sym here) (subst (λ z. IsSpan p w.net z w.right) same h.wire.span))

-- a stretch of the net of the wire that is a piece of it, not before a line
pub record IsCut (p : Placement) (pins : Pins) (w : Wire) (from : ℕ) (s : Stretch) : Type 0 where
  pub of : s.net ≡ w.net
  pub low : from ≤ s.left
  pub piece : IsPiece p pins w.net s.left s.right

cut_further : (p : Placement) (pins : Pins) (w : Wire) (from to : ℕ) (s : Stretch) → from < to → IsCut p pins w to s → IsCut p pins w from s
cut_further p pins w from to s far c = record { of = c.of; low = omega (arith, far, c.low); piece = c.piece }

-- each cut is a piece
pub sound : (p : Placement) (pins : Pins) (w : Wire) (from : ℕ) (nodes : List NodePlace) → AtCut p pins w from nodes → All (IsCut p pins w from) (cuts_from w from nodes)
sound p pins w from [] h = step (is_left w from) refl
  where
    step : (b : Bool) → is_left w from ≡ b → All (IsCut p pins w from) (cond b (stretch w from w.right ∷ []) [])
    step true e = all_one (IsCut p pins w from) (stretch w from w.right) (record { of = refl; low = omega arith; piece = last_piece p pins w from h (range_of p pins w from h e) })
    step false e = All-nil (IsCut p pins w from)
sound p pins w from (x ∷ xs) h = step (cuts_at w from x) refl (λ of far. sound p pins w x.line xs (cut_at p pins w from x xs h of far)) (λ e. sound p pins w from xs (passed p pins w from x xs h e))
  where
    step : (b : Bool) → cuts_at w from x ≡ b → (x.net ≡ w.net → from < x.line → All (IsCut p pins w x.line) (cuts_from w x.line xs)) → (cuts_at w from x ≡ false → All (IsCut p pins w from) (cuts_from w from xs)) → All (IsCut p pins w from) (cond b (stretch w from x.line ∷ cuts_from w x.line xs) (cuts_from w from xs))
    step true e behind pass =
        let parts : (x.net ≡ w.net) × (from < x.line) = cut_parts w from x e in
        All-cons (IsCut p pins w from) (stretch w from x.line) (cuts_from w x.line xs) (record { of = refl; low = omega arith; piece = cut_piece p pins w from x xs h parts.0 parts.1 })
        (all_imply (IsCut p pins w x.line) (IsCut p pins w from) (cuts_from w x.line xs) (λ s c. cut_further p pins w from x.line s parts.1 c) (behind parts.0 parts.1))
    step false e behind pass = pass e

-- the cuts of a wire begin one behind the other
abbrev pub Rises : Stretch → Stretch → Type 0
Rises a b = a.left < b.left

pub rising : (p : Placement) (pins : Pins) (w : Wire) (from : ℕ) (nodes : List NodePlace) → AtCut p pins w from nodes → AllPairs Rises (cuts_from w from nodes)
rising p pins w from [] h = step (is_left w from)
  where
    step : (b : Bool) → AllPairs Rises (cond b (stretch w from w.right ∷ []) [])
    step true = pairs_one Rises (stretch w from w.right)
    step false = pairs_none Rises
rising p pins w from (x ∷ xs) h = step (cuts_at w from x) refl (λ next. rising p pins w x.line xs next) (λ e. rising p pins w from xs (passed p pins w from x xs h e))
  where
    step : (b : Bool) → cuts_at w from x ≡ b → (AtCut p pins w x.line xs → AllPairs Rises (cuts_from w x.line xs)) → (cuts_at w from x ≡ false → AllPairs Rises (cuts_from w from xs)) → AllPairs Rises (cond b (stretch w from x.line ∷ cuts_from w x.line xs) (cuts_from w from xs))
    step true e behind pass =
        let parts : (x.net ≡ w.net) × (from < x.line) = cut_parts w from x e in
        let next : AtCut p pins w x.line xs = cut_at p pins w from x xs h parts.0 parts.1 in
        AllPairs-cons Rises (stretch w from x.line) (cuts_from w x.line xs)
        (all_imply (IsCut p pins w x.line) (Rises (stretch w from x.line)) (cuts_from w x.line xs) (λ s c. omega (arith, parts.1, c.low)) (sound p pins w x.line xs next))
        (behind next)
    step false e behind pass = pass e

same_stretch : (w : Wire) (a b c d : ℕ) → a ≡ c → b ≡ d → stretch w a b ≡ stretch w c d
same_stretch w a b c d e f = subst (λ z. stretch w a b ≡ stretch w z d) e (subst (λ z. stretch w a b ≡ stretch w a z) f refl)

-- and each piece is a cut
pub complete : (p : Placement) (pins : Pins) (w : Wire) (from : ℕ) (nodes : List NodePlace) (l r : ℕ) → AtCut p pins w from nodes → IsPiece p pins w.net l r → from ≤ l → Contains (cuts_from w from nodes) (stretch w l r)
complete p pins w from [] l r h piece low = step (is_left w from) refl
  where
    high : r ≤ w.right
    high = below_right p pins w r h.wire (mark_place p w.net r piece.ends)

    or_true : (a b : Bool) → (a ≡ true) ⊎ (b ≡ true) → (a || b) ≡ true
    or_true a b (inl e) = grind (arith, e)
    or_true a b (inr e) = grind (arith, e)

    left_is : IsRange p w.net l r → (ltb from w.right ≡ true) ⊎ ((w.left == w.right) ≡ true)
    left_is (inl less) = inl (lt-ltb from w.right (omega (arith, less, low, high)))
    left_is (inr (same, span)) =
        let one : IsSpan p w.net l l = subst (λ z. IsSpan p w.net l z) (sym same) span in
        inr (eq-eqb w.left w.right (omega (arith, one_line p w.net l w.left one h.wire.span.begins, one_line p w.net l w.right one h.wire.span.ends)))

    same : IsRange p w.net from w.right → (from ≡ l) × (w.right ≡ r)
    same range =
        let q : IsPiece p pins w.net from w.right = last_piece p pins w from h range in
        elim (cases_lt from l) [
          | inl less ↦ absurd (let s : IsStacked w.right l r = stacked p pins w.net from w.right l r q piece less in omega (arith, s.ends, s.rises, high))
          | inr back ↦
              let here : from ≡ l = omega (arith, low, back) in
              (here, one_right p pins w.net from w.right r q (subst (λ z. IsPiece p pins w.net z r) (sym here) piece))
        ]

    step : (b : Bool) → is_left w from ≡ b → Contains (cond b (stretch w from w.right ∷ []) []) (stretch w l r)
    step true e =
        let both : (from ≡ l) × (w.right ≡ r) = same (range_of p pins w from h e) in
        subst (λ z. Contains (stretch w from w.right ∷ []) z) (same_stretch w from w.right l r both.0 both.1) (contains_here (stretch w from w.right) [])
    step false e = absurd (let yes' : is_left w from ≡ true = or_true (ltb from w.right) (w.left == w.right) (left_is piece.range) in cc)
complete p pins w from (x ∷ xs) l r h piece low = step (cuts_at w from x) refl (λ next far. complete p pins w x.line xs l r next piece far) (λ e. complete p pins w from xs l r (passed p pins w from x xs h e) piece low)
  where
    step : (b : Bool) → cuts_at w from x ≡ b → (AtCut p pins w x.line xs → x.line ≤ l → Contains (cuts_from w x.line xs) (stretch w l r)) → (cuts_at w from x ≡ false → Contains (cuts_from w from xs) (stretch w l r)) → Contains (cond b (stretch w from x.line ∷ cuts_from w x.line xs) (cuts_from w from xs)) (stretch w l r)
    step true e behind pass =
        let parts : (x.net ≡ w.net) × (from < x.line) = cut_parts w from x e in
        let q : IsPiece p pins w.net from x.line = cut_piece p pins w from x xs h parts.0 parts.1 in
        elim (cases_lt from l) [
          | inl less ↦
              let s : IsStacked x.line l r = stacked p pins w.net from x.line l r q piece less in
              contains_there (stretch w from x.line) (cuts_from w x.line xs) (stretch w l r) (behind (cut_at p pins w from x xs h parts.0 parts.1) s.ends)
          | inr back ↦
              let here : from ≡ l = omega (arith, low, back) in
              let there : x.line ≡ r = one_right p pins w.net from x.line r q (subst (λ z. IsPiece p pins w.net z r) (sym here) piece) in
              subst (λ z. Contains (stretch w from x.line ∷ cuts_from w x.line xs) z) (same_stretch w from x.line l r here there) (contains_here (stretch w from x.line) (cuts_from w x.line xs))
        ]
    step false e behind pass = pass e

-- a whole wire
pub begun : (p : Placement) (pins : Pins) (w : Wire) → IsPlacement p → IsWire p pins w → AtCut p pins w w.left p.nodes
begun p pins w is wire = record {
  wire = wire;
  mark = inl (record { place = wire.span.begins; none_before = wire.span.none_before });
  inside = λ node there. there;
  ahead = λ node there of far. there;
  order = is.node_order;
}
