-- Marks of nets, and the piece that begins at each.
use Rattle.std.proofs.Common.{ℕ, ◌≡◌, ◌<◌, ◌≤◌, ◌⊎◌, ◌==◌, true, List, [], ◌∷◌, inl, inr, refl, sym, ap, subst, arith, Contains}
use Rattle.std.proofs.lemmas.Bool.{cases_Bool, cases_lt, cases_order}
use Rattle.std.proofs.lemmas.List.Elements.{All-contains, Contains-append_left}
use Rattle.cell_num.specs.declared.net.NetNo.{NetNo}
use Rattle.cell_num.specs.declared.net.Pins.{Pins}
use Rattle.cell_num.proofs.Lists.{contains_none, contains_cons, contains_here, contains_there}
use Rattle.cell_num.proofs.Pairs.{Some'}
use Rattle.row_model.proofs.Decide.{net_decides}
use Rattle.row_place.specs.declared.placement.NodePlace.{NodePlace}
use Rattle.row_place.specs.declared.placement.Placement.{Placement}
use Rattle.row_place.specs.Trunks.{lines_of, HasTrunk, IsSpan}
use Rattle.channel_route.proofs.NetWires.{line_kept}
use Rattle.dogleg_route.specs.Pieces.{HasNode, IsLast, IsMark, IsRange, IsPiece}

-- a mark is the line of a place
pub node_place : (p : Placement) (net : NetNo) (line : ℕ) → HasNode p net line → Contains (lines_of p net) line
node_place p net line h =
    subst (λ z. Contains (lines_of p net) z) h.at (subst (λ n. Contains (lines_of p n) h.node.line) h.of (Contains-append_left _ _ h.node.line (line_kept (λ (z : NodePlace). z.net) (λ (z : NodePlace). z.line) p.nodes h.node h.there)))

pub mark_place : (p : Placement) (net : NetNo) (line : ℕ) → IsMark p net line → Contains (lines_of p net) line
mark_place p net line (inl first) = first.place
mark_place p net line (inr (inl last)) = last.place
mark_place p net line (inr (inr node)) = node_place p net line node

-- a mark of the net between two lines of its places is a node line
pub node_between : (p : Placement) (net : NetNo) (low line high : ℕ) → IsMark p net line → Contains (lines_of p net) low → Contains (lines_of p net) high → low < line → line < high → HasNode p net line
node_between p net low line high (inl first) hl hh less more = absurd (omega (arith, less, All-contains (λ z. line ≤ z) (lines_of p net) low first.none_before hl))
node_between p net low line high (inr (inl last)) hl hh less more = absurd (omega (arith, more, All-contains (λ z. z ≤ line) (lines_of p net) high last.none_behind hh))
node_between p net low line high (inr (inr node)) hl hh less more = node

-- the nearest node place of a net behind a line, or the last line
pub record Behind (net : NetNo) (m last : ℕ) (nodes : List NodePlace) : Type 0 where
  pub at : ℕ
  pub beyond : m < at
  pub low : at ≤ last
  pub is : (at ≡ last) ⊎ Some' (λ (node : NodePlace). (node.net ≡ net) × (node.line ≡ at)) nodes
  pub least : (node : NodePlace) → Contains nodes node → node.net ≡ net → m < node.line → at ≤ node.line

behind : (net : NetNo) (m last : ℕ) (nodes : List NodePlace) → m < last → Behind net m last nodes
behind net m last [] less = record { at = last; beyond = less; low = omega arith; is = inl refl; least = λ node there _ _. absurd (contains_none node there) }
behind net m last (x ∷ xs) less = by (behind net m last xs less)
  where
    more : (at : ℕ) → (at ≡ last) ⊎ Some' (λ (node : NodePlace). (node.net ≡ net) × (node.line ≡ at)) xs → (at ≡ last) ⊎ Some' (λ (node : NodePlace). (node.net ≡ net) × (node.line ≡ at)) (x ∷ xs)
    more at (inl e) = inl e
    more at (inr s) = inr (record { it = s.it; there = contains_there x xs s.it s.there; holds = s.holds })

    keep : (r : Behind net m last xs) → (x.net ≡ net → m < x.line → r.at ≤ x.line) → Behind net m last (x ∷ xs)
    keep r here = record {
      at = r.at;
      beyond = r.beyond;
      low = r.low;
      is = more r.at r.is;
      least = λ node there of far. elim (contains_cons x xs node there) [
        | inl same ↦ subst (λ (z : NodePlace). z.net ≡ net → m < z.line → r.at ≤ z.line) same here of far
        | inr rest ↦ r.least node rest of far
      ];
    }

    nearer : (r : Behind net m last xs) → x.net ≡ net → m < x.line → x.line < r.at → Behind net m last (x ∷ xs)
    nearer r of far near = record {
      at = x.line;
      beyond = far;
      low = omega (arith, near, r.low);
      is = inr (record { it = x; there = contains_here x xs; holds = (of, refl) });
      least = λ node there of' far'. elim (contains_cons x xs node there) [
        | inl same ↦ let e : x.line ≡ node.line = ap (λ (z : NodePlace). z.line) same in omega (arith, e)
        | inr rest ↦ omega (arith, near, r.least node rest of' far')
      ];
    }

    by : Behind net m last xs → Behind net m last (x ∷ xs)
    by r =
        elim (cases_Bool (x.net.0 == net.0)) [
          | inr other ↦ keep r (λ same _. absurd (let wrong : (x.net.0 == net.0) ≡ true = (net_decides x.net net).1 same in cc))
          | inl same ↦ elim (cases_lt m x.line) [
            | inr low ↦ keep r (λ _ far. absurd (omega (arith, low, far)))
            | inl far ↦ elim (cases_lt x.line r.at) [ inl near ↦ nearer r ((net_decides x.net net).0 same) far near | inr back ↦ keep r (λ _ _. back) ]
          ]
        ]

-- the piece that begins at a mark before the last line
pub record NextPiece (p : Placement) (pins : Pins) (net : NetNo) (m last : ℕ) : Type 0 where
  pub at : ℕ
  pub beyond : m < at
  pub low : at ≤ last
  pub piece : IsPiece p pins net m at

pub next_piece : (p : Placement) (pins : Pins) (net : NetNo) (m last : ℕ) → HasTrunk p pins net → IsMark p net m → IsLast p net last → m < last → NextPiece p pins net m last
next_piece p pins net m last trunk mark end less = record {
  at = b.at;
  beyond = b.beyond;
  low = b.low;
  piece = record { trunk = trunk; begins = mark; ends = ends b.is; range = inl b.beyond; none_between = none };
}
  where
    b : Behind net m last p.nodes
    b = behind net m last p.nodes less

    ends : (b.at ≡ last) ⊎ Some' (λ (node : NodePlace). (node.net ≡ net) × (node.line ≡ b.at)) p.nodes → IsMark p net b.at
    ends (inl e) = inr (inl (subst (λ z. IsLast p net z) (sym e) end))
    ends (inr s) = inr (inr (record { node = s.it; there = s.there; of = s.holds.0; at = s.holds.1 }))

    none : (line : ℕ) → IsMark p net line → m < line → line < b.at → ⊥
    none line (inl first) low high = omega (arith, low, All-contains (λ z. line ≤ z) (lines_of p net) m first.none_before (mark_place p net m mark))
    none line (inr (inl l)) low high = omega (arith, high, b.low, All-contains (λ z. z ≤ line) (lines_of p net) last l.none_behind end.place)
    none line (inr (inr n)) low high =
        let far : m < n.node.line = omega (arith, low, n.at) in
        omega (arith, high, n.at, b.least n.node n.there n.of far)

-- the only line of a net is all its lines
pub one_line : (p : Placement) (net : NetNo) (line other : ℕ) → IsSpan p net line line → Contains (lines_of p net) other → other ≡ line
one_line p net line other s there = omega (arith, All-contains (λ z. line ≤ z) (lines_of p net) other s.none_before there, All-contains (λ z. z ≤ line) (lines_of p net) other s.none_behind there)

pub ascends : (p : Placement) (pins : Pins) (net : NetNo) (l r : ℕ) → IsPiece p pins net l r → l ≤ r
ascends p pins net l r piece = by piece.range
  where
    by : IsRange p net l r → l ≤ r
    by (inl less) = omega (arith, less)
    by (inr (same, _)) = omega (arith, same)

-- where one piece of a net begins before another, it ends before, and not behind the line where that begins
pub record IsStacked (r k s : ℕ) : Type 0 where
  pub ends : r ≤ k
  pub rises : k < s

pub stacked : (p : Placement) (pins : Pins) (net : NetNo) (l r k s : ℕ) → IsPiece p pins net l r → IsPiece p pins net k s → l < k → IsStacked r k s
stacked p pins net l r k s a b less = record {
  ends = elim (cases_lt k r) [ inl inside ↦ absurd (a.none_between k b.begins less inside) | inr e ↦ e ];
  rises = by b.range;
}
  where
    by : IsRange p net k s → k < s
    by (inl e) = e
    by (inr (same, span)) = absurd (omega (arith, less, one_line p net k l (subst (λ z. IsSpan p net k z) (sym same) span) (mark_place p net l a.begins)))

-- a piece is known from where it begins
pub one_right : (p : Placement) (pins : Pins) (net : NetNo) (l r s : ℕ) → IsPiece p pins net l r → IsPiece p pins net l s → r ≡ s
one_right p pins net l r s a b = by a.range b.range
  where
    by : IsRange p net l r → IsRange p net l s → r ≡ s
    by (inl e) (inl f) =
        elim (cases_order r s) [
          | inl same ↦ same
          | inr other ↦ elim other [ inl less ↦ absurd (b.none_between r a.ends e less) | inr more ↦ absurd (a.none_between s b.ends f more) ]
        ]
    by (inr (same, span)) _ = let e : s ≡ l = one_line p net l s (subst (λ z. IsSpan p net l z) (sym same) span) (mark_place p net s b.ends) in omega (arith, e, same)
    by (inl _) (inr (same, span)) = let e : r ≡ l = one_line p net l r (subst (λ z. IsSpan p net l z) (sym same) span) (mark_place p net r a.ends) in omega (arith, e, same)

-- a piece holds a mark only where it ends
pub ends_at : (p : Placement) (pins : Pins) (net : NetNo) (l r line : ℕ) → IsPiece p pins net l r → IsMark p net line → l ≤ line → line ≤ r → (l ≡ line) ⊎ (r ≡ line)
ends_at p pins net l r line piece mark low high =
    elim (cases_lt l line) [
      | inr back ↦ inl (omega (arith, low, back))
      | inl less ↦ elim (cases_lt line r) [ inl inside ↦ absurd (piece.none_between line mark less inside) | inr most ↦ inr (omega (arith, high, most)) ]
    ]

-- pieces of one net have at most an end line in common
pub apart : (p : Placement) (pins : Pins) (net : NetNo) (l r k s : ℕ) → IsPiece p pins net l r → IsPiece p pins net k s → ((l ≡ k) × (r ≡ s)) ⊎ ((r ≤ k) ⊎ (s ≤ l))
apart p pins net l r k s a b =
    elim (cases_order l k) [
      | inl same ↦ inl (same, one_right p pins net l r s a (subst (λ z. IsPiece p pins net z s) (sym same) b))
      | inr other ↦ elim other [
        | inl less ↦ let e : IsStacked r k s = stacked p pins net l r k s a b less in inr (inl e.ends)
        | inr more ↦ let e : IsStacked s l r = stacked p pins net k s l r b a more in inr (inr e.ends)
      ]
    ]
