-- Where tracks go through the lines, a piece keeps the track on which it begins.
use Rattle.std.proofs.Common.{ℕ, zero, suc, ◌≡◌, ◌+◌, ◌-◌, ◌<◌, ◌≤◌, ◌⊎◌, Bool, true, false, List, [], ◌∷◌, inl, inr, refl, sym, ap, subst, arith, Contains, ◌∙◌}
use Rattle.std.proofs.lemmas.Bool.{cases_Bool, cases_lt, and_from}
use Rattle.cell_num.specs.declared.net.NetNo.{NetNo}
use Rattle.cell_num.specs.declared.net.Pins.{Pins}
use Rattle.row_place.specs.declared.placement.Placement.{Placement}
use Rattle.row_place.specs.Trunks.{lines_of, IsSpan}
use Rattle.dogleg_route.specs.Pieces.{IsRange, IsPiece}
use Rattle.dogleg_route.proofs.Marks.{mark_place, one_line}
use Rattle.track_ways.specs.declared.line.Line.{Line}
use Rattle.track_ways.specs.Lines.{has_place, is_ahead, is_open}
use Rattle.track_ways.specs.Channel.{AreLinesOf}
use Rattle.track_ways.proofs.Places.{at_line, line_at}
use Rattle.track_ways.proofs.Holding.{Split, Parts, parts, holding, no_rail}
use Rattle.track_ways.proofs.Legal.{SplitAt, split_at}
use Rattle.piece_lines.specs.Lines.{may_turn, IsOn}
use Rattle.piece_lines.proofs.OnLines.{plain_at, node_of_turn, After, after}
use Rattle.piece_lines.proofs.SweptAt.{into_at, FitEach}

no_later : (lines : List Line) (k l : ℕ) (f : Line → Bool) → at_line lines l f ≡ true → k ≤ l → at_line lines k (λ line. true) ≡ true
no_later [] k l f e low = absurd cc
no_later (x ∷ lines) zero l f e low = refl
no_later (x ∷ lines) (suc k) zero f e low = absurd (omega (arith, low))
no_later (x ∷ lines) (suc k) (suc l) f e low = no_later lines k l f e (omega (arith, low))

-- a line up to that of a place of a net
pub line_to : (p : Placement) (lines : List Line) → AreLinesOf p lines → (net : NetNo) (k l : ℕ) → Contains (lines_of p net) l → k ≤ l → SplitAt lines k (λ line. true)
line_to p lines h net k l there low = split_at lines k (λ line. true) (no_later lines k l (λ line. has_place line net) (line_at p lines h net l there) low)

before_of : (p : Placement) (net : NetNo) (k : ℕ) (front : List Line) (line : Line) (rest : List Line) → Parts p k front line rest net → (l : ℕ) → Contains (lines_of p net) l → l < k → is_ahead front net ≡ true
before_of p net k front line rest q l there less = elim (q.each l there) [
  | inl early ↦ early.1
  | inr other ↦ elim other [ inl here ↦ absurd (omega (arith, here.0, less)) | inr late ↦ absurd (omega (arith, late.0, less)) ]
]

after_of : (p : Placement) (net : NetNo) (k : ℕ) (front : List Line) (line : Line) (rest : List Line) → Parts p k front line rest net → (l : ℕ) → Contains (lines_of p net) l → k < l → is_ahead rest net ≡ true
after_of p net k front line rest q l there less = elim (q.each l there) [
  | inl early ↦ absurd (omega (arith, early.0, less))
  | inr other ↦ elim other [ inl here ↦ absurd (omega (arith, here.0, less)) | inr late ↦ late.1 ]
]

-- a piece goes through the lines between its ends
record GoesThrough (pins : Pins) (net : NetNo) (front : List Line) (line : Line) (rest : List Line) : Type 0 where
  pub open' : is_open pins (is_ahead front) (is_ahead rest) net ≡ true
  pub straight : may_turn line net ≡ false

goes_through : (p : Placement) (pins : Pins) (lines : List Line) → AreLinesOf p lines → (net : NetNo) (l r k : ℕ) → IsPiece p pins net l r → l < k → k < r → (front : List Line) (line : Line) (rest : List Line) → Split lines k front line rest → GoesThrough pins net front line rest
goes_through p pins lines h net l r k piece low high front line rest s = record {
  open' = and_from _ _ (no_rail pins net piece.trunk.0) (and_from _ _ (before_of p net k front line rest q l (mark_place p net l piece.begins) low) (after_of p net k front line rest q r (mark_place p net r piece.ends) high));
  straight = elim (cases_Bool (may_turn line net)) [
    | inl turns ↦ absurd (piece.none_between k (inr (inr (node_of_turn p lines h k front line rest s net turns))) low high)
    | inr none ↦ none
  ];
}
  where
    q : Parts p k front line rest net
    q = parts p lines h k front line rest s net

-- the track on which a piece goes on from each line
steady : (p : Placement) (pins : Pins) (lines : List Line) → AreLinesOf p lines → (limit : ℕ) (track : NetNo → ℕ) (outs : ℕ → NetNo → ℕ) → FitEach pins limit (is_ahead []) track lines outs → (net : NetNo) (l r : ℕ) → IsPiece p pins net l r → (n : ℕ) → l + n < r → outs (l + n) net ≡ outs l net
steady p pins lines h limit track outs each net l r piece zero within = ap (λ m. outs m net) (let z : l + 0 ≡ l = omega arith in z)
steady p pins lines h limit track outs each net l r piece (suc n) within =
    let s : SplitAt lines (l + suc n) (λ line. true) = line_to p lines h net (l + suc n) r (mark_place p net r piece.ends) (omega (arith, within)) in
    let g : GoesThrough pins net s.front s.line s.rest = goes_through p pins lines h net l r (l + suc n) piece (omega arith) within s.front s.line s.rest s.split in
    let same : outs (l + suc n) net ≡ into_at track outs (l + suc n) net = (each (l + suc n) s.front s.line s.rest s.split).straight net g.open' g.straight in
    let next : l + suc n ≡ suc (l + n) = omega arith in
    same ∙ ap (λ m. into_at track outs m net) next ∙ steady p pins lines h limit track outs each net l r piece n (omega (arith, within))

steady_at : (p : Placement) (pins : Pins) (lines : List Line) → AreLinesOf p lines → (limit : ℕ) (track : NetNo → ℕ) (outs : ℕ → NetNo → ℕ) → FitEach pins limit (is_ahead []) track lines outs → (net : NetNo) (l r : ℕ) → IsPiece p pins net l r → (m : ℕ) → l ≤ m → m < r → outs m net ≡ outs l net
steady_at p pins lines h limit track outs each net l r piece m low high =
    let is : l + (m - l) ≡ m = omega (arith, low) in
    subst (λ k. outs k net ≡ outs l net) is (steady p pins lines h limit track outs each net l r piece (m - l) (omega (arith, is, high)))

-- it is the track of the piece at each line that it holds
pub on_piece : (p : Placement) (pins : Pins) (lines : List Line) → AreLinesOf p lines → (limit : ℕ) (track : NetNo → ℕ) (outs : ℕ → NetNo → ℕ) → FitEach pins limit (is_ahead []) track lines outs → (net : NetNo) (l r k : ℕ) → IsPiece p pins net l r → l ≤ k → k ≤ r → (front : List Line) (line : Line) (rest : List Line) → Split lines k front line rest → IsOn pins (is_ahead front) line (is_ahead rest) (into_at track outs k) (outs k) net (outs l net)
on_piece p pins lines h limit track outs each net l r k piece low high front line rest s = record {
  held = (holding p pins lines h k front line rest s (plain_at p lines h k front line rest s) net).1 (record { trunk = piece.trunk; first = (l, begins, low); last = (r, ends, high) });
  piece = by (cases_lt l k);
}
  where
    begins : Contains (lines_of p net) l
    begins = mark_place p net l piece.begins

    ends : Contains (lines_of p net) r
    ends = mark_place p net r piece.ends

    q : Parts p k front line rest net
    q = parts p lines h k front line rest s net

    alone : l ≡ r → IsRange p net l r → k ≡ l → is_ahead front net ≡ false
    alone same (inl less) is = absurd (omega (arith, less, same))
    alone same (inr (_, span)) is = elim (cases_Bool (is_ahead front net)) [
      | inl e ↦ let z = q.early e in absurd (omega (arith, one_line p net l z.0 (subst (λ m. IsSpan p net l m) (sym same) span) z.1, z.2, is))
      | inr none ↦ none
    ]

    leaves : k ≡ l → (is_ahead front net ≡ false) ⊎ (is_ahead rest net ≡ true)
    leaves is = elim (cases_lt k r) [
      | inl less ↦ inr (after_of p net k front line rest q r ends less)
      | inr most ↦ inl (alone (omega (arith, is, most, low, high)) piece.range is)
    ]

    by : (l < k) ⊎ (k ≤ l) → ((is_ahead front net ≡ true) × (outs l net ≡ into_at track outs k net)) ⊎ (((is_ahead front net ≡ false) ⊎ (is_ahead rest net ≡ true)) × (outs l net ≡ outs k net))
    by (inl less) =
        let m : After k = after k l less in
        inl (
          before_of p net k front line rest q l begins less,
          sym (ap (λ n. into_at track outs n net) m.is ∙ steady_at p pins lines h limit track outs each net l r piece m.before (omega (arith, m.is, less)) (omega (arith, m.is, high))),
        )
    by (inr back) = let is : k ≡ l = omega (arith, back, low) in inr (leaves is, ap (λ n. outs n net) (sym is))
